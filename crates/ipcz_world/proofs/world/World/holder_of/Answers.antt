use Rattle.ipcz_world.proofs.code.Regular.{lawful-regular}
use Rattle.ipcz_world.proofs.world.World.holder_of.Goals as goal

pub holder_of-requires : goal.holder_of-requires
holder_of-requires c = lawful-regular _ c.self.invariant
