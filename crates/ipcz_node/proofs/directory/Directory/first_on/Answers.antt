use Rattle.std.proofs.Common.{subst}
use Rattle.ipcz_router.specs.Router.{router_has}
use Rattle.ipcz_node.specs.Finding.{IsFound}
use Rattle.ipcz_node.specs.Indexes.{is_filed, IsLeast}
use Rattle.ipcz_node.specs.LinkPlaces.{place_cmp}
use Rattle.ipcz_node.proofs.Directories.{found_filed}
use Rattle.ipcz_node.proofs.directory.Directory.first_on.Goals as goal

pub returns : goal.returns
returns c =
    let by = c.self.invariant.0.0 in
    subst (λ v. IsFound (λ r. router_has r c.args.link c.args.side) v.filed.routers c.first.result) c.self.view_is
    (found_filed (λ r. router_has r c.args.link c.args.side) c.self.inside.routers.routers c.first.result _
    (by.by_link c.args.link c.args.side)
    (subst (λ p. IsLeast (is_filed place_cmp c.self.inside.files.links.members p) c.first.result) c.of.ensures c.first.ensures))
