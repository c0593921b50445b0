use Rattle.ipcz_world.proofs.code.Regular.{lawful-regular}
use Rattle.ipcz_world.proofs.world.World.routers.Goals as goal

pub routers-requires : goal.routers-requires
routers-requires c = lawful-regular _ c.self.invariant
