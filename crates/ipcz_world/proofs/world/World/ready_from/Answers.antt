use Rattle.ipcz_world.proofs.code.Regular.{lawful-regular}
use Rattle.ipcz_world.proofs.world.World.ready_from.Goals as goal

pub ready_from-requires : goal.ready_from-requires
ready_from-requires c = lawful-regular _ c.self.invariant
