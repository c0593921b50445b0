use Rattle.std.proofs.Common.{◌≤◌, ℕ, subst}
use Rattle.ipcz_world.proofs.code.StatesOfNodes.{world_is}
use Rattle.ipcz_base.specs.declared.link_end.LinkEnd.{LinkEnd}
use Rattle.ipcz_world.specs.FastPath.{IsLoneSender}
use Rattle.ipcz_world.proofs.code.Kept.{walk-lawful}
use Rattle.ipcz_world.proofs.code.Regular.{lawful-regular}
use Rattle.ipcz_world.proofs.world.World.carry_several.Goals as goal

pub carry_several-requires : goal.carry_several-requires
carry_several-requires c = lawful-regular _ c.self.invariant

pub invariant_of-self : goal.invariant_of-self
invariant_of-self c = walk-lawful _ _ _ _ c.carry_several.ensures.walk c.self.invariant

pub returns-clause-lawful : goal.returns-clause-lawful
returns-clause-lawful c = walk-lawful _ _ _ _ c.carry_several.ensures.walk c.self.invariant

pub returns-clause-begun : goal.returns-clause-begun
returns-clause-begun c =
    subst (λ w. 6 ≤ c.args.most → (n serial : ℕ) → (link : LinkEnd) → IsLoneSender w n serial link → 3 ≤ c.carry_several.result.0)
    (world_is c.self.view_is) c.carry_several.ensures.begun
