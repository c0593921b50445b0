use Rattle.std.proofs.Common.{ap, length, take, ◌∙◌}
use Rattle.ipcz_world.specs.Coding.{laid_table}
use Rattle.ipcz_world.proofs.code.Tables.{claimed_alone}
use Rattle.ipcz_world.proofs.link_words.LinkWords.of.Goals as goal

pub returns-clause-words : goal.returns-clause-words
returns-clause-words c =
    ap (λ bits. (laid_table bits (length c.as_slice.result.now)).words) c.truncate.ensures.items
    ∙ ap (λ ns. (laid_table (take c.args.claimed c.args.bits.items) (length ns)).words) c.as_slice.ensures.value
    ∙ claimed_alone c.args.bits.items c.args.claimed c.requires.table.claimed c.requires.empty
