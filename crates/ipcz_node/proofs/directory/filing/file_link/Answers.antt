use Rattle.std.proofs.Common.{◌==◌, sym, ◌∙◌}
use Rattle.ipcz_node.specs.LinkPlaces.{link_place}
use Rattle.ipcz_node.proofs.Refiling.{file_one, file_kept, file_none}
use Rattle.ipcz_node.proofs.directory.filing.file_link.Goals as goal

pub returns-then-not-is_under-clause-members : goal.returns-then-not-is_under-clause-members
returns-then-not-is_under-clause-members c = λ link side s.
    file_one c.args.was.now c.args.new.now link side (c.args.serial == s) _ c.in-Some.e c.in-Some.is _ _
    c.of.ensures (sym c.is_under.ensures ∙ c.if-not-is_under.true) (c.add.ensures.members (link_place link side) s)

pub returns-else-not-is_under-clause-members : goal.returns-else-not-is_under-clause-members
returns-else-not-is_under-clause-members c = λ link side s.
    file_kept c.args.was.now c.args.new.now link side (c.args.serial == s) _ c.in-Some.e c.in-Some.is
    (sym c.is_under.ensures ∙ c.if-not-is_under.false)

pub returns-in-None-clause-members : goal.returns-in-None-clause-members
returns-in-None-clause-members c = λ link side s. file_none c.args.was.now c.args.new.now link side (c.args.serial == s) _ c.in-None.is
