-- If a router may begin its bypass, it may give its lock back.
use Rattle.std.proofs.Common.{◌≡◌, Bool, true, false, ◌||◌, refl, Option, Some, None}
use Rattle.std.specs.Prelude.{IsSomeAnd}
use Rattle.ipcz_router.specs.Router.{Router}
use Rattle.ipcz_router.specs.ActTable.{may_take, is_possible, is_rest, can_begin, can_retire}
use Rattle.ipcz_router.specs.declared.act.RouterAct.TheVariants as router_acts

one_more : (a b : Bool) → (a || false) ≡ true → ((a || b) || false) ≡ true
one_more true b h = refl
one_more false b h = cc

pub may_unlock : (o : Option Router) → IsSomeAnd o (λ r. may_take r router_acts.Begin ≡ true) → IsSomeAnd o (λ r. may_take r router_acts.Unlock ≡ true)
unfolding is_possible is_rest
may_unlock None h = h
may_unlock (Some r) h = one_more (can_begin r) (can_retire r) h
