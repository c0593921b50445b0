use Rattle.std.proofs.Common.{subst}
use Rattle.ipcz_node.specs.Node.{is_terminal_of}
use Rattle.ipcz_node.specs.Finding.{IsFound}
use Rattle.ipcz_node.proofs.Directories.{found_filed}
use Rattle.ipcz_node.proofs.directory.Directory.terminal_near.Goals as goal

pub returns : goal.returns
returns c =
    let by = c.self.invariant.0.0 in
    subst (λ v. IsFound (is_terminal_of c.args.end) v.filed.routers c.first_near.result) c.self.view_is
    (found_filed (is_terminal_of c.args.end) c.self.inside.routers.routers c.first_near.result _ (by.by_end c.args.end) c.first_near.ensures)
