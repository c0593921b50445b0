use Rattle.std.proofs.Common.{◌<◌, length, arith, ap, ◌∙◌}
use Rattle.ipcz_world.proofs.Vocabulary.{WordTable}
use Rattle.ipcz_world.specs.Coding.{claim_one, laid_table}
use Rattle.ipcz_world.proofs.code.Tables.{claim_word, laid_size}
use Rattle.ipcz_world.proofs.link_words.LinkWords.claim.Goals as goal

pub returns-clause-table : goal.returns-clause-table
returns-clause-table c =
    let l : length c.self.inside.bits.items < c.self.inside.size = omega (
      arith,
      c.requires,
      ap (λ (t : WordTable). t.claimed) c.self.view_is,
      ap (λ (t : WordTable). length t.words) c.self.view_is,
      laid_size c.self.inside.bits.items c.self.inside.size c.self.invariant.claimed,
    ) in
    ap (λ bits. laid_table bits c.self.inside.size) c.push_reserved.ensures.items
    ∙ claim_word c.self.inside.bits.items c.self.inside.size l ∙ ap claim_one c.self.view_is
