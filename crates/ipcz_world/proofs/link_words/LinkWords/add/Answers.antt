use Rattle.std.proofs.Common.{◌≡◌, ◌+◌, arith, ap, ◌∙◌}
use Rattle.ipcz_world.specs.Coding.{laid_table, with_more}
use Rattle.ipcz_world.proofs.code.Tables.{more_words}
use Rattle.ipcz_world.proofs.link_words.LinkWords.add.Goals as goal

pub returns-clause-more : goal.returns-clause-more
returns-clause-more c =
    let more : c.in-Some.size ≡ c.self.inside.size + c.args.count = grind arith in
    ap (λ bits. laid_table bits c.in-Some.size) c.reserve.ensures.items
    ∙ ap (laid_table c.self.inside.bits.items) more
    ∙ more_words c.self.inside.bits.items c.self.inside.size c.args.count c.self.invariant.claimed
    ∙ ap (λ t. with_more t c.args.count) c.self.view_is
