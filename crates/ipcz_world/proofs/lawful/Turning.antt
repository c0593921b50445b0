-- Turns alone: how many of them use something up, and that a world in which none can is quiet.
use Rattle.ipcz_world.proofs.Vocabulary.{Router, Node, router_in, RouterAct, Act, Close, Hand, commit, World, node_at, router_at, Books, after_act}
use Rattle.ipcz_world.proofs.Vocabulary.{can_take, answer_of, unless, output_of, leaves_by, rest, apply, Answer, Look, Post, Idle, on_router, send}
use Rattle.ipcz_world.proofs.Vocabulary.{commit_router, keep_or_drop, Turn, after_turn, advance, Routes, routes_after, routes_after_turn, touch}
use Rattle.ipcz_world.proofs.Vocabulary.{after_router_act, may_act, turn_event, StepAny, Lawful, StepKeepsLawful, Rates, worth, node_worth, rank}
use Rattle.std.specs.Prelude.{◌≡◌, ◌≤◌, ℕ, ◌+◌, ◌*◌, Bool, true, false, nat_lt, Option, Some, None, []}
use Rattle.std.specs.Prelude.{◌∷◌, refl}
use Rattle.std.proofs.Common.{arith, ap, inl}
use Rattle.std.proofs.lemmas.Bool.Decides.{nat_tests}
use Rattle.std.specs.FinMap.{get}
use Rattle.ipcz_router.specs.ActEffects.{drop_lock}
use Rattle.ipcz_router.specs.declared.act.RouterAct.TheVariants as acts
use Rattle.ipcz_node.specs.declared.act.Act.TheVariants.{Router as OfRouter}
use Rattle.ipcz_world.specs.declared.step.Reply.TheVariants as replies
use Rattle.ipcz_world.specs.Ranks.{IsRated, IsTaken}
use Rattle.ipcz_world.specs.Ranks.{is_unlock, spends}
use Rattle.ipcz_world.specs.Ranks.{spends_at, uses_up, TurnsKeepRates, TurnsAreBounded}
use Rattle.ipcz_world.proofs.lawful.RouterWorths.{more-unlock, most-rest}
use Rattle.ipcz_world.proofs.lawful.NodeWorths.{node-with}
use Rattle.ipcz_world.proofs.lawful.WorldRanks.{IsSameBut, same-touched, rank-set_node}
use Rattle.ipcz_world.proofs.lawful.Paying.{acts_lower_the_rank}

-- an act of a router that uses nothing up is an unlock or a rest
unused-router : (c : Rates) (n : Node) (s : ℕ) (act : RouterAct) (a : Answer) (r : Router) → get n.routers s ≡ Some r →
    spends r act ≡ false →
    node_worth c (commit_router n s act a r) ≤ node_worth c n + 2 * worth 1 (is_unlock (OfRouter s act))
unfolding spends is_unlock commit_router keep_or_drop leaves_by apply output_of send
unused-router c n s acts.Unlock a r here h = omega (arith, node-with c n s (drop_lock r) r here, more-unlock c r)
unused-router c n s acts.Rest a r here h = omega (arith, node-with c n s (rest r) r here, most-rest c r)
unused-router c n s other a r here h = cc

unused-at : (c : Rates) (w : World) (n s : ℕ) (act : RouterAct) (o : Option Router) → router_in (node_at w n) s ≡ o → may_act o act ≡ true →
    spends_at o act ≡ false → rank c (after_router_act w n s act o) ≤ rank c w + 2 * worth 1 (is_unlock (OfRouter s act))
unfolding after_router_act may_act spends_at commit on_router
unused-at c w n s act None e may h = cc
unused-at c w n s act (Some r) e may h =
    let x : Node = node_at w n in
    let a : Answer = answer_of w r act in
    let same : IsSameBut c w (touch w r act) = same-touched c w r act in
    let done : on_router x (router_in x s) (commit_router x s act a) ≡ commit_router x s act a r =
    ap (λ o. on_router x o (commit_router x s act a)) e in
    omega (
      arith,
      rank-set_node c (touch w r act) n (on_router x (router_in x s) (commit_router x s act a)),
      ap (node_worth c) (same.node n),
      ap (node_worth c) done,
      same.rank,
      unused-router c x s act a r e h,
    )

unused : (c : Rates) (w : World) (n : ℕ) (act : Act) → can_take w n act ≡ true → uses_up w n act ≡ false →
    rank c (after_act w n act) ≤ rank c w + 2 * worth 1 (is_unlock act)
unfolding after_act can_take uses_up router_at
unused c w n (Hand from) can h = cc
unused c w n (Look from) can h = cc
unused c w n (Post to) can h = cc
unused c w n (Close end) can h = cc
unused c w n Idle can h = omega arith
unused c w n (OfRouter s act) can h = unused-at c w n s act (router_in (node_at w n) s) refl can h

-- a turn
pub turned : (c : Rates) (w : World) (b : Books) (g : Routes) (n : ℕ) (act : Act) → Lawful w b g → IsRated c b → IsTaken w n act →
    worth 1 (uses_up w n act) + rank c (after_act w n act) ≤ rank c w + 2 * worth 1 (is_unlock act)
turned c w b g n act law rated is = go (uses_up w n act) refl
  where
    go : (t : Bool) → uses_up w n act ≡ t → worth 1 t + rank c (after_act w n act) ≤ rank c w + 2 * worth 1 (is_unlock act)
    go true e = omega (arith, acts_lower_the_rank w b g c n act law rated is.node is.may e)
    go false e = omega (arith, unused c w n act is.may e)

-- it is a step
pub stepped : (w : World) (n : ℕ) (act : Act) → IsTaken w n act → StepAny w (Turn n) (replies.Turned (turn_event w n act)) (after_act w n act)
unfolding unless
stepped w n act is =
    let inside : nat_lt n w.count ≡ true = grind (arith, is.node, nat_tests) in
    (act, λ l. is.may, inl (rw (inside, is.serials) (refl, refl)))

pub turns_are_bounded : StepKeepsLawful → TurnsKeepRates → TurnsAreBounded
unfolding advance routes_after
turns_are_bounded keeps rates w v b d g h c [] law rated run = let same : rank c v ≡ rank c w = ap (rank c) run.0 in omega (arith, same)
turns_are_bounded keeps rates w v b d g h c (t ∷ ts) law rated run =
    let step = stepped w t.0 t.1 run.0 in
    omega (
      arith,
      turned c w b g t.0 t.1 law rated run.0,
      turns_are_bounded keeps rates (after_act w t.0 t.1) v (after_turn w b t.0 (turn_event w t.0 t.1)) d
          (routes_after_turn w g t.0 (turn_event w t.0 t.1)) h c ts
          (keeps w (after_act w t.0 t.1) b g (Turn t.0) (replies.Turned (turn_event w t.0 t.1)) law step)
          (rates w (after_act w t.0 t.1) b g c t.0 (replies.Turned (turn_event w t.0 t.1)) law rated step) run.1,
    )
