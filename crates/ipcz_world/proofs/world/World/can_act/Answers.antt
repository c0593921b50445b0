use Rattle.ipcz_world.proofs.code.Regular.{lawful-regular}
use Rattle.ipcz_world.proofs.world.World.can_act.Goals as goal

pub can_act-requires : goal.can_act-requires
can_act-requires c = lawful-regular _ c.self.invariant
