use Rattle.std.proofs.Common.{◌≡◌, Some, subst}
use Rattle.std.specs.Prelude.{option_map}
use Rattle.std.specs.FinMap.{get}
use Rattle.ipcz_router.specs.Router.{Router}
use Rattle.ipcz_node.specs.Finding.{is_ready}
use Rattle.ipcz_node.proofs.Readiness.{next_least}
use Rattle.ipcz_node.proofs.directory.Directory.next_ready.Goals as goal

pub returns-clause-found : goal.returns-clause-found
returns-clause-found c =
    next_least _ is_ready c.args.from c.in_ok-serial.serial c.end_of.result c.in_ok-serial.ensures
    (subst (λ v. option_map (λ (r : Router). r.end) (get v.filed.routers c.in_ok-serial.serial) ≡ Some c.end_of.result) c.self.view_is
    c.end_of.ensures.end)
