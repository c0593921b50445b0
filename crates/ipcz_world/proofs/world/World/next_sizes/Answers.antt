use Rattle.ipcz_world.proofs.code.Regular.{lawful-regular}
use Rattle.ipcz_world.proofs.world.World.next_sizes.Goals as goal

pub next_sizes-requires : goal.next_sizes-requires
next_sizes-requires c = lawful-regular _ c.self.invariant
