use Rattle.std.proofs.Common.{◌≤◌, ℕ, subst}
use Rattle.ipcz_world.proofs.code.StatesOfNodes.{world_is}
use Rattle.ipcz_base.specs.declared.link_end.LinkEnd.{LinkEnd}
use Rattle.ipcz_world.proofs.Vocabulary.{IsLone}
use Rattle.ipcz_world.specs.FastPath.{IsCarried}
use Rattle.ipcz_world.proofs.code.Kept.{walk-lawful}
use Rattle.ipcz_world.proofs.code.Regular.{lawful-regular}
use Rattle.ipcz_world.proofs.world.World.carry.Goals as goal

pub carry-requires : goal.carry-requires
carry-requires c = lawful-regular _ c.self.invariant

pub invariant_of-self : goal.invariant_of-self
invariant_of-self c = walk-lawful _ _ _ _ c.carry.ensures.walk c.self.invariant

pub returns-clause-lawful : goal.returns-clause-lawful
returns-clause-lawful c = walk-lawful _ _ _ _ c.carry.ensures.walk c.self.invariant

pub returns-clause-carried : goal.returns-clause-carried
returns-clause-carried c =
    subst (λ w. 6 ≤ c.args.most → (n serial : ℕ) → (link : LinkEnd) → IsLone w n serial link → IsCarried w c.carry.new.self.world c.carry.result.0)
    (world_is c.self.view_is) c.carry.ensures.carried
