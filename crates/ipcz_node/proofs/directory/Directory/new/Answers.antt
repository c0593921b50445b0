use Rattle.ipcz_node.proofs.Directories.{filed_none, room_none}
use Rattle.ipcz_node.proofs.Holding.{hold_none}
use Rattle.ipcz_node.proofs.Dryness.{dry_none}
use Rattle.ipcz_node.proofs.Readiness.{ready_none}
use Rattle.ipcz_node.proofs.directory.Directory.new.Goals as goal

pub invariant_of-result : goal.invariant_of-result
invariant_of-result c = (
  (filed_none _ _ _ _ c.new.ensures.routers c.new-2.ensures c.new-3.ensures c.new-4.ensures, room_none _ _ _ _ _ c.new.ensures.routers),
  hold_none _ _ c.new.ensures.routers,
  dry_none _ _ c.new.ensures.routers,
  ready_none _ _ _ c.new.ensures.routers c.new-5.ensures,
)
