-- The turns of a settle: each takes the first act of a node, or the unlock that stands in for a begin, and is paid by the rank.
use Rattle.std.specs.Prelude.{◌≡◌, ◌⊎◌, ◌≤◌, ◌<◌, ℕ, ◌+◌, ◌*◌, Bool, true, false, cond, ◌&&◌, ◌||◌, nat_eq, nat_lt, Option, Some, None, List, [], ◌∷◌, length, refl}
use Rattle.std.proofs.Common.{arith, ap, subst, ◌∙◌, sym, inl, inr}
use Rattle.std.proofs.lemmas.Bool.Decides.{nat_tests}
use Rattle.ipcz_world.proofs.Vocabulary.{End, Router, Node, Found, router_in, RouterAct, Act, Hand, World, node_at, router_at, Books, read}
use Rattle.ipcz_world.proofs.Vocabulary.{opposite_end, is_terminal, after_act, answer_of, unless, commit, output_of, apply, leaves_by, Answer, Look}
use Rattle.ipcz_world.proofs.Vocabulary.{Post, Happened, on_router, flagged_router, send, commit_router, keep_or_drop, router_turn, close_turn}
use Rattle.ipcz_world.proofs.Vocabulary.{advance, Routes, routes_after, touch, next_at, seen_at, after_router_act, turn_event, turn_lacks_serials}
use Rattle.ipcz_world.proofs.Vocabulary.{Effect, refuse, turn_step, next_node, Lawful, StepKeepsLawful, Rates, worth, router_worth, node_worth, rank}
use Rattle.ipcz_world.proofs.Vocabulary.{is_retired}
use Rattle.ipcz_router.specs.ActEffects.{drop_lock}
use Rattle.ipcz_router.specs.declared.act.RouterAct.TheVariants as acts
use Rattle.ipcz_node.specs.declared.act.Act.TheVariants.{Router as OfRouter}
use Rattle.ipcz_node.specs.Acts.{node_turn, next, first_sender, first_destination}
use Rattle.ipcz_node.specs.Acts.{stand_in}
use Rattle.ipcz_world.specs.declared.step.Step.TheVariants as steps
use Rattle.ipcz_world.specs.declared.step.Reply.TheVariants as replies
use Rattle.ipcz_world.specs.Steps.{FirstAct, ActGives}
use Rattle.ipcz_base.specs.declared.refusal.Refusal.TheVariants.{NumbersEnd, OutOfMemory}
use Rattle.ipcz_world.specs.declared.step.Settled.{Settled}
use Rattle.ipcz_world.specs.declared.step.Settled.TheVariants as ends
use Rattle.ipcz_world.specs.Settling.{AreVisits, HasAct, IsSettle}
use Rattle.ipcz_world.specs.WorldLaws.{FirstIsPossible, QuietIsDirect, ClosedPairsAreGone, QuietHasNoProxy}
use Rattle.ipcz_world.specs.Ranks.{is_unbegun, IsRated, is_unlock, uses_up, moving_worth}
use Rattle.ipcz_world.specs.Ranks.{TurnsKeepRates}
use Rattle.ipcz_world.specs.SettleBounds.{VisitsAreBounded, UnsettledIsBounded, PlainAreRated, PlainLimitIsEnough}
use Rattle.ipcz_world.specs.SettleBounds.{FitsMost, unlocks_taken, SettledIsDirect, is_over, plain_rates}
use Rattle.ipcz_world.specs.Ranks.{may_put}
use Rattle.std.proofs.lemmas.Option.{slice_get_within}
use Rattle.ipcz_world.proofs.facts.Tests.{nat_eq-is, and_second, not_both}
use Rattle.ipcz_world.proofs.lawful.RouterWorths.{unbegun-terminal}
use Rattle.ipcz_base.specs.Items.{ends_in}
use Rattle.ipcz_world.proofs.facts.Finding.{found_tells}
use Rattle.ipcz_world.proofs.runs.Choosing.{next_possible}
use Rattle.ipcz_world.proofs.lawful.NodeWorths.{node-with}
use Rattle.ipcz_world.proofs.lawful.WorldRanks.{IsSameBut, same-touched, rank-set_node}
use Rattle.ipcz_world.proofs.lawful.Paying.{acts_lower_the_rank}
use Rattle.ipcz_world.proofs.lawful.Unused.{used}

-- a flagged router gives its lock back
flagged-unlock : (c : Rates) (r : Router) → r.flagged ≡ true → router_worth c (drop_lock r) ≤ router_worth c r + 1
unfolding router_worth
flagged-unlock c r up = go (is_unbegun r) (is_terminal r) refl refl
  where
    go : (u t : Bool) → is_unbegun r ≡ u → is_terminal r ≡ t → router_worth c (drop_lock r) ≤ router_worth c r + 1
    go true true e f = absurd (not_both (is_terminal r) f (unbegun-terminal r e))
    go true false e f = rw (e, f, up) (omega arith)
    go false true e f = rw (e, f, up) (omega arith)
    go false false e f = rw (e, f, up) (omega arith)

-- the router of an act of a router is there and flagged
abbrev IsFlaggedAct : World → ℕ → Act → Type 0
IsFlaggedAct w n act = (s : ℕ) (a : RouterAct) → act ≡ OfRouter s a → (r : Router) × (router_in (node_at w n) s ≡ Some r) ×
    (r.flagged ≡ true)

module _ (w : World) (n : ℕ) where
  flagged-router : (o : Option Found) → flagged_router (node_at w n) ≡ o → IsFlaggedAct w n (router_turn o)
  unfolding router_turn
  flagged-router None e s a is = cc
  flagged-router (Some f) e s a is =
      let t = found_tells (node_at w n) (λ r. r.flagged) f e in
      let same : f.serial ≡ s = cc in
      (f.router, subst (λ k. router_in (node_at w n) k ≡ Some f.router) same t.0, t.1)

  flagged-close : (es : List End) (other : Act) → IsFlaggedAct w n other → IsFlaggedAct w n (close_turn es other)
  unfolding close_turn
  flagged-close [] other h = h
  flagged-close (e ∷ es) other h = λ s a is. cc

  flagged-turn : (act : ℕ → Act) (o : Option ℕ) (other : Act) → ((i s : ℕ) (a : RouterAct) → act i ≡ OfRouter s a → ⊥) →
      IsFlaggedAct w n other → IsFlaggedAct w n (node_turn act o other)
  unfolding node_turn
  flagged-turn act None other all h = h
  flagged-turn act (Some i) other all h = λ s a is. absurd (all i s a is)

  flagged-first : IsFlaggedAct w n (next_at w n)
  unfolding next_at next
  flagged-first = flagged-turn Hand (node_at w n).hand _ (λ i s a is. cc)
      (flagged-turn Look (first_sender (node_at w n) (seen_at w n)) _ (λ i s a is. cc)
      (flagged-turn Post (first_destination (node_at w n) (seen_at w n)) _ (λ i s a is. cc)
      (flagged-close (node_at w n).pending _ (flagged-router (flagged_router (node_at w n)) refl))))

-- an unlock of a flagged router
unlocked : (c : Rates) (w : World) (n s : ℕ) (r : Router) → router_in (node_at w n) s ≡ Some r → r.flagged ≡ true →
    rank c (after_act w n (OfRouter s acts.Unlock)) ≤ rank c w + 1
unfolding after_act router_at after_router_act commit on_router commit_router keep_or_drop leaves_by apply output_of send
unlocked c w n s r e up =
    let x : Node = node_at w n in
    let a : Answer = answer_of w r acts.Unlock in
    let same : IsSameBut c w (touch w r acts.Unlock) = same-touched c w r acts.Unlock in
    let whole : after_router_act w n s acts.Unlock (router_in x s) ≡ after_router_act w n s acts.Unlock (Some r) =
    ap (after_router_act w n s acts.Unlock) e in
    let done : on_router x (router_in x s) (commit_router x s acts.Unlock a) ≡ commit_router x s acts.Unlock a r =
    ap (λ o. on_router x o (commit_router x s acts.Unlock a)) e in
    omega (
      arith,
      ap (rank c) whole,
      rank-set_node c (touch w r acts.Unlock) n (on_router x (router_in x s) (commit_router x s acts.Unlock a)),
      ap (node_worth c) (same.node n),
      ap (node_worth c) done,
      same.rank,
      node-with c x s (drop_lock r) r e,
      flagged-unlock c r up,
    )

-- what an act that stands for itself is, or the unlock in the place of a begin or a retire
stood-in : (act : Act) → (stand_in act ≡ act) ⊎ ((s : ℕ) × (a : RouterAct) × (act ≡ OfRouter s a) × (stand_in act ≡ OfRouter s acts.Unlock))
unfolding stand_in
stood-in (OfRouter s acts.Begin) = inr (s, acts.Begin, refl, refl)
stood-in (OfRouter s acts.Retire) = inr (s, acts.Retire, refl, refl)
stood-in other = inl refl

module _ (c : Rates) (w : World) (b : Books) (g : Routes) (n : ℕ) (law : Lawful w b g) (rated : IsRated c b) (has : HasAct w n) where
  spent : uses_up w n (next_at w n) ≡ true
  spent = elim (used w n) [
    | inl idle ↦ let no : true ≡ false = sym idle ∙ has.1 in cc
    | inr h ↦ h
  ]

  -- the first act
  first-lowers : rank c (after_act w n (next_at w n)) < rank c w
  first-lowers = acts_lower_the_rank w b g c n (next_at w n) law rated has.0 (next_possible w b law.records law.inv n has.0) spent

  -- the first act, or what stands in for it
  first-paid : (act : Act) → FirstAct w n act → 1 + rank c (after_act w n act) ≤ rank c w + 2 * worth 1 (is_unlock act)
  unfolding is_unlock
  first-paid act (inl e) = omega (arith, ap (λ a. rank c (after_act w n a)) e, first-lowers)
  first-paid act (inr (e, grows)) = elim (stood-in (next_at w n)) [
    | inl same ↦ omega (arith, ap (λ a. rank c (after_act w n a)) (e ∙ same), first-lowers)
    | inr k ↦
        let is : act ≡ OfRouter k.0 acts.Unlock = e ∙ k.3 in
        let f = flagged-first w n k.0 k.1 k.2 in
        let one : worth 1 (is_unlock act) ≡ 1 = ap (λ a. worth 1 (is_unlock a)) is in
        omega (arith, ap (λ a. rank c (after_act w n a)) is, one, unlocked c w n k.0 f.0 f.1 f.2)
  ]

-- a turn that was taken leaves the world after its act
turn-leaves : (w u : World) (n : ℕ) (act : Act) (event : Happened) → n < w.count → ActGives w n act (turn_step w n act)
    (replies.Turned event) u →
    u ≡ after_act w n act
unfolding unless
turn-leaves w u n act event here s = go (turn_lacks_serials w n act) refl s
  where
    inside : nat_lt n w.count ≡ true
    inside = grind (arith, here, nat_tests)

    refused : turn_lacks_serials w n act ≡ true → turn_step w n act ≡ refuse w NumbersEnd
    refused q = rw (inside, q) refl

    done : turn_lacks_serials w n act ≡ false →
        turn_step w n act ≡ record { reply = replies.Turned (turn_event w n act); world = after_act w n act }
    done q = rw (inside, q) refl

    go : (t : Bool) → turn_lacks_serials w n act ≡ t → ActGives w n act (turn_step w n act) (replies.Turned event) u → u ≡ after_act w n act
    go t q (inr f) = let no : replies.Turned event ≡ replies.Refused OutOfMemory = f.3.0 in cc
    go true q (inl d) = let no : replies.Turned event ≡ replies.Refused NumbersEnd = d.0 ∙ ap (λ (x : Effect). x.reply) (refused q) in cc
    go false q (inl d) = d.1 ∙ ap (λ (x : Effect). x.world) (done q)

pub visits_are_bounded : StepKeepsLawful → FirstIsPossible → TurnsKeepRates → VisitsAreBounded
visits_are_bounded keeps possible rates n [] w v b g c law rated same =
    let e : rank c v ≡ rank c w = ap (rank c) same in omega (arith, e)
visits_are_bounded keeps possible rates n (false ∷ visits) w v b g c law rated (idle, more) =
    visits_are_bounded keeps possible rates (next_node w n) visits w v b g c law rated more
visits_are_bounded keeps possible rates n (true ∷ visits) w v b g c law rated (has, (u, (event, (act, may, gives)), more)) =
    let any = possible w u b g (steps.Turn n) (replies.Turned event) law (act, may, gives) in
    let e : u ≡ after_act w n act = turn-leaves w u n act event has.0 gives in
    omega (
      arith,
      ap (rank c) e,
      first-paid c w b g n law rated has act may,
      visits_are_bounded keeps possible rates (next_node w n) visits u v (advance w b (steps.Turn n) (replies.Turned event))
          (routes_after w g (steps.Turn n) (replies.Turned event)) c
          (keeps w u b g (steps.Turn n) (replies.Turned event) law any)
          (rates w u b g c n (replies.Turned event) law rated any) more,
    )

-- the world after visits is lawful, and the rates fit its books
visits-keep : StepKeepsLawful → FirstIsPossible → TurnsKeepRates → (n : ℕ) (visits : List Bool) (w v : World) (b : Books) (g : Routes)
    (c : Rates) →
    Lawful w b g → IsRated c b → AreVisits n visits w v → (d : Books) × (h : Routes) × Lawful v d h × IsRated c d
visits-keep keeps possible rates n [] w v b g c law rated same = (b, g, subst (λ x. Lawful x b g) (sym same) law, rated)
visits-keep keeps possible rates n (false ∷ visits) w v b g c law rated (idle, more) =
    visits-keep keeps possible rates (next_node w n) visits w v b g c law rated more
visits-keep keeps possible rates n (true ∷ visits) w v b g c law rated (has, (u, (event, step), more)) =
    let any = possible w u b g (steps.Turn n) (replies.Turned event) law step in
    visits-keep keeps possible rates (next_node w n) visits u v (advance w b (steps.Turn n) (replies.Turned event))
    (routes_after w g (steps.Turn n) (replies.Turned event)) c
    (keeps w u b g (steps.Turn n) (replies.Turned event) law any)
    (rates w u b g c n (replies.Turned event) law rated any) more

pub unsettled_is_bounded : StepKeepsLawful → FirstIsPossible → TurnsKeepRates → UnsettledIsBounded
unsettled_is_bounded keeps possible rates limit w v b g c law rated s =
    let after = visits-keep keeps possible rates 0 s.visits w v b g c law rated s.turns in
    omega (
      arith,
      s.answers.0,
      visits_are_bounded keeps possible rates 0 s.visits w v b g c law rated s.turns,
      first-lowers c v after.0 after.1 s.answers.1.0 after.2 after.3 s.answers.1.1,
    )

-- if no item carries an end
pub plain_are_rated : PlainAreRated
plain_are_rated b none = record {
  capped = λ e n item l at. caps e n (is_over b e) refl l (slice_get_within (b.put e) n item at);
  room = λ e h k. open_room e (is_retired b e) (is_retired b (opposite_end e)) h k;
  least = λ pair. omega arith;
  pays = λ e n item l at.
      let free : moving_worth (plain_rates b) (ends_in item) ≡ 0 = ap (moving_worth (plain_rates b)) (none e n item l at) in
      omega (arith, free);
}
  where
    caps : (e : End) (n : ℕ) (t : Bool) → is_over b e ≡ t → read b (opposite_end e) ≤ n → n < length (b.put e) →
        n < cond t 0 (length (b.put e) + may_put b e)
    caps e n false q l at = omega (arith, at)
    caps e n true q l at = absurd (omega (
      arith,
      l,
      at,
      nat_eq-is (read b (opposite_end e)) (length (b.put e))
          (and_second (is_retired b e || is_retired b (opposite_end e)) (nat_eq (read b (opposite_end e)) (length (b.put e))) q),
    ))

    open_room : (e : End) (t u : Bool) → t ≡ false → u ≡ false →
        length (b.put e) + may_put b e ≤ cond ((t || u) && nat_eq (read b (opposite_end e)) (length (b.put e))) 0 (length (b.put e) + may_put b e)
    open_room e true u h k = cc
    open_room e false true h k = cc
    open_room e false false h k = omega arith

pub plain_limit_is_enough : StepKeepsLawful → FirstIsPossible → TurnsKeepRates → PlainLimitIsEnough
plain_limit_is_enough keeps possible rates limit w v b g law none s =
    unsettled_is_bounded keeps possible rates limit w v b g (plain_rates b) law (plain_are_rated b none) s

pub settled_is_direct : QuietIsDirect → ClosedPairsAreGone → QuietHasNoProxy → SettledIsDirect
settled_is_direct direct gone proxies limit acts w v b g s law wet = (
  proxies v b g law s.answers.1 wet,
  gone v b g law s.answers.1 wet,
  λ pair s_ opened open_. direct v b g pair s_ law s.answers.1 wet opened open_,
)

-- the answer of a settle fits its rank
pub answer_fits : StepKeepsLawful → FirstIsPossible → TurnsKeepRates → (limit : ℕ) (w v : World) (answer : Settled)
    (s : IsSettle limit w v answer)
    (b : Books) (g : Routes) (c : Rates) → Lawful w b g → IsRated c b →
    FitsMost limit (rank c w + 2 * unlocks_taken 0 s.visits w v s.turns) answer
answer_fits keeps possible rates limit w v (ends.Settled after) s b g c law rated =
    omega (arith, s.answers.0, visits_are_bounded keeps possible rates 0 s.visits w v b g c law rated s.turns)
answer_fits keeps possible rates limit w v ends.Unsettled s b g c law rated = unsettled_is_bounded keeps possible rates limit w v b g c law rated s
