-- Visits one after the other, up to the next node that has an act, and what settling comes to.
use Rattle.std.specs.Prelude.{◌≡◌, ◌≤◌, ◌<◌, ℕ, zero, suc, ◌+◌, ◌-◌, Bool, true, false, nat_lt, if◌then◌else◌, List, [], ◌∷◌, ◌++◌, refl}
use Rattle.std.proofs.Common.{arith, ap, subst, ◌∙◌, sym, inl, inr}
use Rattle.std.proofs.lemmas.Bool.Decides.{nat_tests}
use Rattle.ipcz_world.proofs.Vocabulary.{Refusal, Act, Reply, World, after_act, unless, Happened, Turn, next_at, is_idle, turn_event}
use Rattle.ipcz_world.proofs.Vocabulary.{turn_lacks_serials, Effect, refuse, turn_step, IsLawful, IsQuiet, next_node, Walk}
use Rattle.ipcz_base.specs.declared.refusal.Refusal.TheVariants.{Stranger, NumbersEnd}
use Rattle.ipcz_world.specs.declared.step.Settled.{Settled}
use Rattle.ipcz_world.specs.declared.step.Settled.TheVariants as ends
use Rattle.ipcz_world.specs.declared.step.Reply.TheVariants as replies
use Rattle.ipcz_world.specs.Steps.{Gives, StepFirst}
use Rattle.ipcz_world.specs.Settling.{HasAct, AreVisits, node_behind, act_count, FitsAnswer, IsSettle, IsRefusedSettle}
use Rattle.ipcz_world.specs.Visiting.{AreIdle, IsFirstBusy, IsNextBusy, IsPlace}
use Rattle.ipcz_world.proofs.facts.NodeCount.{count-after_act}
use Rattle.ipcz_world.proofs.lawful.Idling.{quiet_from_idle}

-- if each node is idle, nothing waits
pub quiet : (w : World) → IsLawful w → AreIdle w 0 w.count → IsQuiet w
quiet w law idle = quiet_from_idle w law.lawful.records law.lawful.inv.counts law.lawful.bounded (λ n l. idle n (omega arith) l)

-- what a turn comes to: an act, or a refusal that leaves the world
data IsTurnReply (w : World) (reply : Reply) (v : World) : Type 0 where
  Turns : (event : Happened) → reply ≡ replies.Turned event → v.count ≡ w.count → IsTurnReply w reply v
  Refuses : (why : Refusal) → reply ≡ replies.Refused why → v ≡ w → IsTurnReply w reply v

given : (w : World) (n : ℕ) (act : Act) (reply : Reply) (v : World) → Gives (turn_step w n act) reply v → IsTurnReply w reply v
unfolding unless
given w n act reply v is = go (nat_lt n w.count) refl (turn_lacks_serials w n act) refl
  where
    refused : (why : Refusal) → turn_step w n act ≡ refuse w why → IsTurnReply w reply v
    refused why e = Refuses why (is.0 ∙ ap (λ (x : Effect). x.reply) e) (is.1 ∙ ap (λ (x : Effect). x.world) e)

    done : Effect
    done = record { reply = replies.Turned (turn_event w n act); world = after_act w n act }

    go : (b : Bool) → nat_lt n w.count ≡ b → (c : Bool) → turn_lacks_serials w n act ≡ c → IsTurnReply w reply v
    go false e c f = refused Stranger (rw e refl)
    go true e true f = refused NumbersEnd (rw (e, f) refl)
    go true e false f = let t : turn_step w n act ≡ done = rw (e, f) refl in
        Turns (turn_event w n act) (is.0 ∙ ap (λ (x : Effect). x.reply) t)
        (ap (λ (x : World). x.count) (is.1 ∙ ap (λ (x : Effect). x.world) t) ∙ count-after_act w n act)

turned : (w : World) (n : ℕ) (reply : Reply) (v : World) → StepFirst w (Turn n) reply v → IsTurnReply w reply v
turned w n reply v (act, first, inl is) = given w n act reply v is
turned w n reply v (act, first, inr want) = Refuses _ want.3.0 want.3.1

-- whatever visits lead on from here lead on from the start
abbrev pub GoesOn : World → ℕ → World → ℕ → Type 0
GoesOn w acts u n =
    (visits : List Bool) (v : World) → AreVisits n visits u v → Walk w v (acts + act_count visits) (node_behind u.count n visits)

-- a node that is idle
goes_on-idle : (w u : World) (acts n : ℕ) → GoesOn w acts u n → is_idle (next_at u n) ≡ true → GoesOn w acts u (next_node u n)
goes_on-idle w u acts n on idle visits v is = on (false ∷ visits) v (idle, is)

next-in : (u : World) (n : ℕ) → n + 1 < u.count → next_node u n ≡ n + 1
next-in u n l = let b : nat_lt (n + 1) u.count ≡ true = grind (arith, l, nat_tests) in ap (λ c. if c then n + 1 else 0) b

next-round : (u : World) (n : ℕ) → n + 1 ≡ u.count → next_node u n ≡ 0
next-round u n e = let b : nat_lt (n + 1) u.count ≡ false = grind (arith, e, nat_tests) in ap (λ c. if c then n + 1 else 0) b

-- idle nodes, up to one of the same pass
goes_on-nodes : (w u : World) (acts left n m : ℕ) → n + left ≡ m → m < u.count → GoesOn w acts u n → AreIdle u n m → GoesOn w acts u m
goes_on-nodes w u acts zero n m e l on idle = let s : n ≡ m = omega (arith, e) in subst (GoesOn w acts u) s on
goes_on-nodes w u acts (suc left) n m e l on idle =
    let next : GoesOn w acts u (n + 1) = subst (GoesOn w acts u) (next-in u n (omega (arith, e, l)))
    (goes_on-idle w u acts n on (idle n (omega arith) (omega (arith, e)))) in
    goes_on-nodes w u acts left (n + 1) m (omega (arith, e)) l next (λ k a b. idle k (omega (arith, a)) b)

-- idle nodes, up to the end of the pass
goes_on-pass : (w u : World) (acts left n : ℕ) → n + suc left ≡ u.count → GoesOn w acts u n → AreIdle u n u.count → GoesOn w acts u 0
goes_on-pass w u acts left n e on idle =
    let last : GoesOn w acts u (n + left) = goes_on-nodes w u acts left n (n + left) refl (omega (arith, e)) on
    (λ k a b. idle k a (omega (arith, b, e))) in
    subst (GoesOn w acts u) (next-round u (n + left) (omega (arith, e)))
    (goes_on-idle w u acts (n + left) last (idle (n + left) (omega arith) (omega (arith, e))))

none-in : (u : World) (n m : ℕ) → n ≡ 0 → IsFirstBusy u 0 n m → ⊥
none-in u n m e busy = omega (arith, e, busy.within)

-- idle nodes, up to the next one that has an act
goes_on-busy : (w u : World) (acts n m : ℕ) → IsPlace u n → GoesOn w acts u n → IsNextBusy u n m → GoesOn w acts u m
goes_on-busy w u acts n m place on (inl busy) = goes_on-nodes w u acts (m - n) n m (omega (arith, busy.after)) busy.within on busy.before
goes_on-busy w u acts n m (inl start) on (inr (idle, busy)) = absurd (none-in u n m start busy)
goes_on-busy w u acts n m (inr l) on (inr (idle, busy)) =
    let round = goes_on-pass w u acts (u.count - (n + 1)) n (omega (arith, l)) on idle in
    goes_on-nodes w u acts m 0 m (omega arith) (omega (arith, l, busy.within)) round busy.before

-- the next node that has an act is one of the world's
pub busy-within : (u : World) (n m : ℕ) → n ≤ u.count → IsNextBusy u n m → m < u.count
busy-within u n m p (inl busy) = busy.within
busy-within u n m p (inr (idle, busy)) = omega (arith, p, busy.within)

-- a place is no further than the end
pub place-within : (u : World) (n : ℕ) → IsPlace u n → n ≤ u.count
place-within u n (inl e) = omega (arith, e)
place-within u n (inr l) = omega (arith, l)

-- and it has an act
pub busy-acts : (u : World) (n m : ℕ) → n ≤ u.count → IsNextBusy u n m → HasAct u m
busy-acts u n m p busy = (busy-within u n m p busy, acts busy)
  where
    acts : IsNextBusy u n m → is_idle (next_at u m) ≡ false
    acts (inl b) = b.acts
    acts (inr (idle, b)) = b.acts

-- where the next visit is
pub next-place : (u x : World) (n : ℕ) → x.count ≡ u.count → IsPlace x (next_node u n)
next-place u x n same = go (nat_lt (n + 1) u.count) refl
  where
    go : (c : Bool) → nat_lt (n + 1) u.count ≡ c → IsPlace x (if c then n + 1 else 0)
    go true e = inr (grind (arith, e, same, nat_tests))
    go false e = inl refl

-- a turn keeps how many nodes there are
turn-keeps : (w v : World) (n : ℕ) (event : Happened) → StepFirst w (Turn n) (replies.Turned event) v → v.count ≡ w.count
turn-keeps w v n event step = go (turned w n (replies.Turned event) v step)
  where
    go : IsTurnReply w (replies.Turned event) v → v.count ≡ w.count
    go (Turns e r c) = c
    go (Refuses why r same) = ap (λ (x : World). x.count) same

-- what is kept on the way: visits lead here, and here is a place
pub record OnWay (w : World) (acts : ℕ) (u : World) (n : ℕ) : Type 0 where
  pub goes_on : GoesOn w acts u n
  pub place : IsPlace u n

-- an act more
pub on_way-turn : (w u x : World) (acts n m next : ℕ) (event : Happened) → OnWay w acts u n → IsNextBusy u n m → next ≡ next_node u m →
    StepFirst u (Turn m) (replies.Turned event) x → OnWay w (acts + 1) x next
on_way-turn w u x acts n m next event on busy is step = subst (OnWay w (acts + 1) x) (sym is) (record {
  goes_on = λ visits v turns. subst (λ k. Walk w v k (node_behind x.count (next_node u m) visits)) (omega arith)
      (subst (λ c. Walk w v (acts + act_count (true ∷ visits)) (node_behind c (next_node u m) visits)) (sym same)
      (here (true ∷ visits) v (has, (x, (event, step), turns))));
  place = next-place u x m same;
})
  where
    here : GoesOn w acts u m
    here = goes_on-busy w u acts n m on.place on.goes_on busy

    has : HasAct u m
    has = busy-acts u n m (place-within u n on.place) busy

    same : x.count ≡ u.count
    same = turn-keeps u x m event step

-- the visits up to here
reached : (w u : World) (acts n : ℕ) → GoesOn w acts u n → Walk w u acts n
reached w u acts n on = subst (λ k. Walk w u k n) (omega arith) (on [] u refl)

pub walked : (w u : World) (acts n : ℕ) → OnWay w acts u n → Walk w u acts n
walked w u acts n on = reached w u acts n on.goes_on

-- at the start nothing was visited
pub on_way-start : (w : World) → OnWay w 0 w 0
on_way-start w = record {
  goes_on = λ visits v turns. record { visits = visits; turns = turns; taken = omega arith; next = refl };
  place = inl refl;
}

-- visits keep how many nodes there are
visits-count : (n : ℕ) (visits : List Bool) (w v : World) → AreVisits n visits w v → v.count ≡ w.count
visits-count n [] w v same = ap (λ (x : World). x.count) same
visits-count n (true ∷ visits) w v (has, (u, (event, step), more)) =
    visits-count (next_node w n) visits u v more ∙ turn-keeps w u n event step
visits-count n (false ∷ visits) w v (idle, more) = visits-count (next_node w n) visits w v more

-- visits after others
visits-after : (n : ℕ) (first visits : List Bool) (w u v : World) → AreVisits n first w u → AreVisits (node_behind w.count n first) visits u v →
    AreVisits n (first ++ visits) w v
visits-after n [] visits w u v same more = subst (λ x. AreVisits n visits x v) same more
visits-after n (true ∷ first) visits w u v (has, (x, (event, step), rest)) more = (
  has,
  (
    x,
    (event, step),
    visits-after (next_node w n) first visits x u v rest
        (subst (λ c. AreVisits (node_behind c (next_node w n) first) visits u v) (sym (turn-keeps w x n event step)) more),
  ),
)
visits-after n (false ∷ first) visits w u v (idle, rest) more = (idle, visits-after (next_node w n) first visits w u v rest more)

acts-after : (first visits : List Bool) → act_count (first ++ visits) ≡ act_count first + act_count visits
acts-after [] visits = omega arith
acts-after (true ∷ first) visits = omega (arith, acts-after first visits)
acts-after (false ∷ first) visits = acts-after first visits

behind-after : (c n : ℕ) (first visits : List Bool) → node_behind c n (first ++ visits) ≡ node_behind c (node_behind c n first) visits
behind-after c n [] visits = refl
behind-after c n (acts ∷ first) visits = behind-after c (if nat_lt (n + 1) c then n + 1 else 0) first visits

-- one goes on from where a walk has led
pub on_way-walked : (w u : World) (acts n : ℕ) → Walk w u acts n → IsPlace u n → OnWay w acts u n
on_way-walked w u acts n walk place = record {
  goes_on = λ visits v turns. record {
    visits = walk.visits ++ visits;
    turns = visits-after 0 walk.visits visits w u v walk.turns (subst (λ k. AreVisits k visits u v) (sym walk.next) turns);
    taken = omega (arith, acts-after walk.visits visits, walk.taken);
    next = behind-after w.count 0 walk.visits visits ∙ ap (λ k. node_behind w.count k visits) walk.next
        ∙ ap (λ c. node_behind c n visits) (sym (visits-count 0 walk.visits w u walk.turns));
  };
  place = place;
}

ended : (limit acts n : ℕ) (w u : World) (answer : Settled) → Walk w u acts n → acts ≤ limit → FitsAnswer limit acts u answer →
    IsSettle limit w u answer
ended limit acts n w u answer walk l fits = record {
  visits = walk.visits;
  turns = walk.turns;
  within = omega (arith, walk.taken, l);
  answers = subst (λ k. FitsAnswer limit k u answer) (sym walk.taken) fits;
}

-- each node is idle
pub settled : (limit acts n : ℕ) (w u : World) → OnWay w acts u n → acts ≤ limit → IsLawful u → AreIdle u 0 u.count →
    IsSettle limit w u (ends.Settled acts)
settled limit acts n w u on l law idle = ended limit acts n w u (ends.Settled acts) (reached w u acts n on.goes_on) l
    (refl, quiet u law idle)

-- the limit is reached, and a node has an act
pub unsettled : (limit acts n m : ℕ) (w u : World) → OnWay w acts u n → acts ≡ limit → IsNextBusy u n m → IsSettle limit w u ends.Unsettled
unsettled limit acts n m w u on e busy =
    ended limit acts n w u ends.Unsettled (reached w u acts n on.goes_on) (omega (arith, e))
    (e, (m, busy-acts u n m (place-within u n on.place) busy))

-- a turn that is refused leaves the world
pub left-by : (u x : World) (m : ℕ) (why : Refusal) → StepFirst u (Turn m) (replies.Refused why) x → x ≡ u
left-by u x m why step = go (turned u m (replies.Refused why) x step)
  where
    go : IsTurnReply u (replies.Refused why) x → x ≡ u
    go (Turns e r c) = cc
    go (Refuses y r s) = s

-- the turn of the next node that has an act is refused
pub refused : (limit acts n m : ℕ) (w u x : World) (why : Refusal) → OnWay w acts u n → acts < limit → IsNextBusy u n m →
    StepFirst u (Turn m) (replies.Refused why) x → IsRefusedSettle limit w x why
refused limit acts n m w u x why on l busy step = subst (λ v. IsRefusedSettle limit w v why) (sym same) (record {
  visits = walk.visits;
  turns = walk.turns;
  below = omega (arith, walk.taken, l);
  busy = subst (HasAct u) (sym walk.next) (busy-acts u n m (place-within u n on.place) busy);
  refused = subst (λ k. StepFirst u (Turn k) (replies.Refused why) u) (sym walk.next)
      (subst (λ v. StepFirst u (Turn m) (replies.Refused why) v) same step);
})
  where
    walk : Walk w u acts m
    walk = reached w u acts m (goes_on-busy w u acts n m on.place on.goes_on busy)

    same : x ≡ u
    same = left-by u x m why step
