use Rattle.std.proofs.Common.{◌≡◌, ◌<◌, arith, ap, length, ◌∙◌, subst}
use Rattle.ipcz_word.specs.Layout.{word_of_bits}
use Rattle.ipcz_world.proofs.Vocabulary.{WordTable}
use Rattle.ipcz_world.specs.Coding.{source_at}
use Rattle.ipcz_world.proofs.code.Tables.{read_source}
use Rattle.ipcz_world.proofs.link_words.LinkWords.source.Goals as goal

pub returns-then-claimed-i : goal.returns-then-claimed-i
returns-then-claimed-i c =
    let below : c.args.i < length c.self.inside.bits.items =
    omega (arith, c.if-claimed-i.true, c.claimed.ensures, ap (λ (t : WordTable). t.claimed) c.self.view_is) in
    c.source.ensures ∙ subst (λ t. (word_of_bits c.index.result.now).source ≡ source_at t c.args.i) c.self.view_is
    (read_source c.self.inside.bits.items c.self.inside.size c.args.i c.index.result.now below c.index.ensures)
