use Rattle.ipcz_world.proofs.code.Regular.{lawful-regular}
use Rattle.ipcz_world.proofs.world.World.hand.Goals as goal

pub hand-requires : goal.hand-requires
hand-requires c = lawful-regular _ c.self.invariant
