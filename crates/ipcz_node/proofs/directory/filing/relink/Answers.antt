use Rattle.std.proofs.Common.{◌==◌, Option, Bool, ◌∙◌, ap, refl}
use Rattle.ipcz_base.specs.declared.link_end.LinkEnd.{LinkEnd}
use Rattle.ipcz_base.specs.Links.{has_link}
use Rattle.ipcz_router.specs.Filings.{is_under}
use Rattle.ipcz_node.specs.Indexes.{is_filed}
use Rattle.ipcz_node.specs.LinkPlaces.{place_cmp, link_place}
use Rattle.ipcz_node.proofs.Refiling.{less_one, more_one, relinked, at_serial}
use Rattle.ipcz_node.proofs.directory.filing.relink.Goals as goal

pub returns-clause-members : goal.returns-clause-members
returns-clause-members c = λ link side s.
    let was = is_under c.args.was.now link side in
    let is = is_under c.args.is.now link side in
    let same = c.args.serial == s in
    let more : Option LinkEnd → Bool → Bool = λ e x. more_one was same (has_link e link side) x in
    let less : Option LinkEnd → Bool → Bool = λ e x. less_one is same (has_link e link side) x in
    c.file_link-4.ensures.members link side s
    ∙ ap (more c.args.is.now.inward_decaying) (c.file_link-3.ensures.members link side s
    ∙ ap (more c.args.is.now.inward) (c.file_link-2.ensures.members link side s
    ∙ ap (more c.args.is.now.outward_decaying) (c.file_link.ensures.members link side s
    ∙ ap (more c.args.is.now.outward) (c.drop_link-4.ensures.members link side s
    ∙ ap (less c.args.was.now.inward_decaying) (c.drop_link-3.ensures.members link side s
    ∙ ap (less c.args.was.now.inward) (c.drop_link-2.ensures.members link side s
    ∙ ap (less c.args.was.now.outward_decaying) (c.drop_link.ensures.members link side s)))))))
    ∙ relinked is was same _ _ _ _ _ _ _ _ (is_filed place_cmp c.args.links.now.members (link_place link side) s) refl refl
    (at_serial (is_filed place_cmp c.args.links.now.members (link_place link side)) was c.args.serial s (c.requires.filed link side))
