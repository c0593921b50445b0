use Rattle.std.proofs.Common.{◌==◌, ◌||◌, ◌∙◌}
use Rattle.ipcz_base.specs.Links.{has_link}
use Rattle.ipcz_router.specs.Filings.{is_under}
use Rattle.ipcz_node.specs.Indexes.{is_filed}
use Rattle.ipcz_node.specs.LinkPlaces.{place_cmp, link_place}
use Rattle.ipcz_node.proofs.Refiling.{unlinked, at_serial}
use Rattle.ipcz_node.proofs.directory.filing.unlink.Goals as goal

pub returns-clause-members : goal.returns-clause-members
returns-clause-members c = λ link side s.
    let is = is_under c.args.is.now link side in
    let went = has_link c.args.gone.now link side in
    c.drop_link.ensures.members link side s
    ∙ unlinked is went (c.args.serial == s) (is_filed place_cmp c.args.links.now.members (link_place link side) s)
    (at_serial (is_filed place_cmp c.args.links.now.members (link_place link side)) (is || went) c.args.serial s (c.requires link side))
