use Rattle.std.proofs.Common.{refl, arith}
use Rattle.ipcz_node.proofs.Holding.{hold_more}
use Rattle.ipcz_node.proofs.directory.Directory.release.Goals as goal

pub invariant_of-self : goal.invariant_of-self
invariant_of-self c = (
  c.self.invariant.0,
  hold_more _ _ c.self.inside.ends c.self.inside.room c.self.inside.room c.self.inside.held.room _ refl
      (omega (arith, c.self.invariant.1.room, c.remove_all.ensures.room)) c.self.invariant.1,
  c.self.invariant.2,
  c.self.invariant.3,
)
