use Rattle.std.proofs.Common.{◌≡◌, ◌<◌, arith, ap, length, Some, subst}
use Rattle.ipcz_world.proofs.Vocabulary.{WordTable}
use Rattle.ipcz_world.specs.Coding.{claimed_word}
use Rattle.ipcz_world.proofs.code.Tables.{read_claimed}
use Rattle.ipcz_world.proofs.link_words.LinkWords.word.Goals as goal

pub returns-then-i-claimed : goal.returns-then-i-claimed
returns-then-i-claimed c =
    let below : c.args.i < length c.self.inside.bits.items =
    omega (arith, c.if-i-claimed.true, c.claimed.ensures, ap (λ (t : WordTable). t.claimed) c.self.view_is) in
    subst (λ t. Some c.index.result.now ≡ claimed_word t c.args.i) c.self.view_is
    (read_claimed c.self.inside.bits.items c.self.inside.size c.args.i c.index.result.now c.self.invariant.words below c.index.ensures)
