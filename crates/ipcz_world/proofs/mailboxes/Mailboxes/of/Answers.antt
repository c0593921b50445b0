use Rattle.std.proofs.Common.{◌∙◌, ap}
use Rattle.ipcz_world.specs.Mailing.{count_full}
use Rattle.ipcz_world.proofs.code.Marks.{given-kept, stand-unmarked}
use Rattle.ipcz_world.proofs.mailboxes.Mailboxes.of.Goals as goal

pub invariant_of-result : goal.invariant_of-result
invariant_of-result c =
    given-kept c.args.boxes.items _ c.requires (c.count_full-full.ensures ∙ ap count_full c.as_slice.ensures.value)

pub returns : goal.returns
returns c = stand-unmarked c.args.boxes.items 4096
