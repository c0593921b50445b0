-- The first act of a node that isn't idle uses something up: so a world in which no act does is quiet.
use Rattle.std.specs.Prelude.{◌≡◌, ◌⊎◌, ◌<◌, ℕ, Bool, true, false, ◌&&◌, if◌then◌else◌, Option, Some, None, List, [], ◌∷◌, refl}
use Rattle.std.proofs.Common.{ap, ◌∙◌, inl, inr}
use Rattle.ipcz_world.proofs.Vocabulary.{End, Router, is_possible, RouterAct, Act, Hand, Found, World, node_at, router_at, Look, Post, flagged_router}
use Rattle.ipcz_world.proofs.Vocabulary.{router_turn, close_turn, next_at, seen_at, is_idle}
use Rattle.ipcz_router.specs.ActTable.{table, first_possible, next_act}
use Rattle.ipcz_router.specs.declared.act.RouterAct.TheVariants as acts
use Rattle.ipcz_node.specs.Acts.{node_turn, next, first_sender, first_destination}
use Rattle.ipcz_world.proofs.facts.Finding.{found_tells}
use Rattle.ipcz_world.proofs.facts.Tests.{and_first, and_second}
use Rattle.ipcz_world.proofs.lawful.Idling.{quiet_from_idle}
use Rattle.ipcz_world.proofs.runs.Choosing.{next_possible}
use Rattle.ipcz_world.specs.Ranks.{spends, spends_at, uses_up, UnusedIsQuiet}

-- whether an act always uses something up
abbrev always_spends : RouterAct → Bool
always_spends acts.Unlock = false
always_spends acts.Rest = false
always_spends other = true

abbrev all_spend : List RouterAct → Bool
all_spend [] = true
all_spend (a ∷ list) = always_spends a && all_spend list

spends-always : (r : Router) (a : RouterAct) → always_spends a ≡ true → spends r a ≡ true
unfolding spends
spends-always r acts.Unlock h = cc
spends-always r acts.Rest h = cc
spends-always r other h = refl

-- the first possible act of a list, or a rest
first-in : (r : Router) (list : List RouterAct) → r.flagged ≡ true → all_spend list ≡ true → spends r (first_possible r list) ≡ true
unfolding spends
first-in r [] up h = up
first-in r (a ∷ list) up h = go (is_possible r a) (first-in r list up (and_second _ _ h))
  where
    go : (t : Bool) → spends r (first_possible r list) ≡ true → spends r (if t then a else first_possible r list) ≡ true
    go true k = spends-always r a (and_first _ _ h)
    go false k = k

-- the first act of a flagged router
first-spends : (r : Router) → r.flagged ≡ true → spends r (next_act r) ≡ true
unfolding next_act
first-spends r up = first-in r table up refl

-- an act is idle or uses something up
abbrev pub IsUsed : World → ℕ → Act → Type 0
IsUsed w n act = (is_idle act ≡ true) ⊎ (uses_up w n act ≡ true)

module _ (w : World) (n : ℕ) where
  used-router : (o : Option Found) → flagged_router (node_at w n) ≡ o → IsUsed w n (router_turn o)
  unfolding router_turn uses_up is_idle router_at spends_at
  used-router None e = inl refl
  used-router (Some f) e = let t = found_tells (node_at w n) (λ r. r.flagged) f e in
      inr (ap (λ o. spends_at o (next_act f.router)) t.0 ∙ first-spends f.router t.1)

  used-close : (es : List End) (other : Act) → IsUsed w n other → IsUsed w n (close_turn es other)
  unfolding close_turn uses_up
  used-close [] other h = h
  used-close (e ∷ es) other h = inr refl

  used-turn : (act : ℕ → Act) (o : Option ℕ) (other : Act) → ((i : ℕ) → uses_up w n (act i) ≡ true) → IsUsed w n other →
      IsUsed w n (node_turn act o other)
  unfolding node_turn
  used-turn act None other all h = h
  used-turn act (Some i) other all h = inr (all i)

  pub used : IsUsed w n (next_at w n)
  unfolding next_at next uses_up
  used = used-turn Hand (node_at w n).hand _ (λ i. refl) (used-turn Look (first_sender (node_at w n) (seen_at w n)) _ (λ i. refl)
      (used-turn Post (first_destination (node_at w n) (seen_at w n)) _ (λ i. refl)
      (used-close (node_at w n).pending _ (used-router (flagged_router (node_at w n)) refl))))

pub unused_is_quiet : UnusedIsQuiet
unused_is_quiet w b g law never = quiet_from_idle w law.records law.inv.counts law.bounded (λ n l. by n l (used w n))
  where
    both : (c : Bool) → c ≡ true → c ≡ false → ⊥
    both c a z = cc

    by : (n : ℕ) → n < w.count → IsUsed w n (next_at w n) → is_idle (next_at w n) ≡ true
    by n l (inl h) = h
    by n l (inr h) = absurd (both (uses_up w n (next_at w n)) h (never n (next_at w n) l (next_possible w b law.records law.inv n l)))
