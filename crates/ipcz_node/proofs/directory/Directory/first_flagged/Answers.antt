use Rattle.std.proofs.Common.{subst}
use Rattle.std.specs.Ordering.{nat_cmp}
use Rattle.ipcz_node.specs.Finding.{IsFound}
use Rattle.ipcz_node.specs.SortedSets.{has}
use Rattle.ipcz_node.proofs.Directories.{found_filed}
use Rattle.ipcz_node.proofs.directory.Directory.first_flagged.Goals as goal

pub returns : goal.returns
returns c =
    subst (λ v. IsFound (λ r. r.flagged) v.filed.routers c.first.result) c.self.view_is
    (found_filed (λ r. r.flagged) c.self.inside.routers.routers c.first.result (has nat_cmp c.self.inside.files.flagged.members)
    c.self.invariant.0.0.by_flag c.first.ensures)
