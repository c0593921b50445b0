use Rattle.std.proofs.Common.{◌≤◌, ℕ, Option, Some, None, IfSome, arith, subst}
use Rattle.ipcz_world.proofs.code.StatesOfNodes.{world_is}
use Rattle.ipcz_world.specs.World.{World}
use Rattle.ipcz_world.specs.Books.{Books}
use Rattle.ipcz_world.proofs.Vocabulary.{Routes, Lawful}
use Rattle.ipcz_world.specs.SettleBounds.{CarryNone, plain_limit}
use Rattle.ipcz_world.specs.SettleLimit.{settle_limit}
use Rattle.ipcz_world.specs.Tallies.{Tells}
use Rattle.ipcz_world.proofs.code.Regular.{lawful-regular}
use Rattle.ipcz_world.proofs.lawful.Limits.{rank_is_within_limit}
use Rattle.ipcz_world.proofs.world.World.settle_limit.Goals as goal

-- a limit that is told is enough
enough : (w : World) (o : Option ℕ) → Tells o (settle_limit w) →
    IfSome o (λ limit. (b : Books) → (g : Routes) → Lawful w b g → CarryNone b → plain_limit b w ≤ limit)
enough w None told = tt
enough w (Some limit) told = λ b g law none. omega (arith, told, rank_is_within_limit w b g law none)

pub settle_limit-requires : goal.settle_limit-requires
settle_limit-requires c = lawful-regular _ c.self.invariant

pub returns-clause-enough : goal.returns-clause-enough
returns-clause-enough c =
    enough c.args.self.now.world c.settle_limit.result
    (subst (λ w. Tells c.settle_limit.result (settle_limit w)) (world_is c.self.view_is) c.settle_limit.ensures)
