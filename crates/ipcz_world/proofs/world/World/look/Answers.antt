use Rattle.ipcz_world.proofs.code.Regular.{lawful-regular}
use Rattle.ipcz_world.proofs.world.World.look.Goals as goal

pub status-requires : goal.status-requires
status-requires c = lawful-regular _ c.self.invariant
