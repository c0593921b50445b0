use Rattle.std.proofs.Common.{◌==◌, sym, ◌∙◌}
use Rattle.ipcz_node.specs.LinkPlaces.{link_place}
use Rattle.ipcz_node.proofs.Refiling.{drop_one, drop_kept, drop_none}
use Rattle.ipcz_node.proofs.directory.filing.drop_link.Goals as goal

pub returns-then-not-is_under-clause-members : goal.returns-then-not-is_under-clause-members
returns-then-not-is_under-clause-members c = λ link side s.
    drop_one c.args.kept.now c.args.old.now link side (c.args.serial == s) _ c.in-Some.e c.in-Some.is _ _
    c.of.ensures (sym c.is_under.ensures ∙ c.if-not-is_under.true) (c.remove.ensures.members (link_place link side) s)

pub returns-else-not-is_under-clause-members : goal.returns-else-not-is_under-clause-members
returns-else-not-is_under-clause-members c = λ link side s.
    drop_kept c.args.kept.now c.args.old.now link side (c.args.serial == s) _ c.in-Some.e c.in-Some.is
    (sym c.is_under.ensures ∙ c.if-not-is_under.false)

pub returns-in-None-clause-members : goal.returns-in-None-clause-members
returns-in-None-clause-members c = λ link side s. drop_none c.args.kept.now c.args.old.now link side (c.args.serial == s) _ c.in-None.is
