-- The first possible act of a node is one that a turn may take, and so is what stands in for it.
use Rattle.ipcz_node.proofs.Choosing.{unlock_may, retire_may}
use Rattle.std.specs.Prelude.{◌≡◌, ◌<◌, ℕ, zero, suc, ◌+◌, Bool, true, false, ◌&&◌, nat_eq, nat_lt, Option, Some, None}
use Rattle.std.specs.Prelude.{List, [], ◌∷◌, map, refl}
use Rattle.std.proofs.Common.{arith, ap, subst, ◌∙◌, sym, inl, inr}
use Rattle.std.proofs.lemmas.Bool.Decides.{nat_tests}
use Rattle.ipcz_world.proofs.Vocabulary.{End, place_at, Router, is_possible, Act, Hand, Node, Found, World, node_at, mail_at, way, router_at}
use Rattle.ipcz_world.proofs.Vocabulary.{can_take, Books, Records, Inv, is_rest, first_number, has_mail_for, router_turn, close_turn, Look, Post}
use Rattle.ipcz_world.proofs.Vocabulary.{is_hand_of, node_limit, numbers_from, is_full, is_clear, seen_at, next_at, may_act, is_idle}
use Rattle.ipcz_router.specs.ActTable.{next_act}
use Rattle.ipcz_router.specs.declared.act.RouterAct.TheVariants as acts
use Rattle.ipcz_node.specs.Acts.{stand_in, node_turn, next}
use Rattle.ipcz_node.specs.declared.act.Act.TheVariants.{Router as OfRouter}
use Rattle.ipcz_node.specs.declared.act.MailSeen.{MailSeen}
use Rattle.ipcz_node.specs.Node.{find_router}
use Rattle.ipcz_node.proofs.Turns.{first_number-tells}
use Rattle.ipcz_node.proofs.Choosing.{next_may}
use Rattle.ipcz_world.specs.declared.step.Step.TheVariants as steps
use Rattle.ipcz_world.specs.Turns.{is_first_pending}
use Rattle.ipcz_world.specs.Steps.{FirstAct}
use Rattle.ipcz_world.specs.WorldLaws.{FirstIsPossible}
use Rattle.ipcz_world.proofs.facts.LinkTests.{same_end-itself}
use Rattle.ipcz_world.proofs.facts.Finding.{found_tells}
use Rattle.std.proofs.lemmas.Bool.{and_parts}

-- what is seen of a number is what is so
seen_is : (f : ℕ → Bool) (a c i : ℕ) → place_at false (map f (numbers_from a c)) i ≡ true → f (a + i) ≡ true
unfolding place_at
seen_is f a zero i e = cc
seen_is f a (suc c) zero e = let z : a + zero ≡ a = omega arith in subst (λ x. f x ≡ true) (sym z) e
seen_is f a (suc c) (suc i) e = let z : (a + 1) + i ≡ a + suc i = omega arith in subst (λ x. f x ≡ true) z (seen_is f (a + 1) c i e)

-- what is possible of a router's begin is so of its unlock
begin_unlocks : (o : Option Router) → may_act o acts.Begin ≡ true → may_act o acts.Unlock ≡ true
unfolding may_act is_possible is_rest
begin_unlocks None h = cc
begin_unlocks (Some r) h = unlock_may r h

retire_unlocks : (o : Option Router) → may_act o acts.Retire ≡ true → may_act o acts.Unlock ≡ true
unfolding may_act is_possible is_rest
retire_unlocks None h = cc
retire_unlocks (Some r) h = retire_may r h

module _ (w : World) (b : Books) (g : Records) (law : Inv w b g) (n : ℕ) (here : n < w.count) where
  abbrev node : Node
  node = node_at w n

  abbrev seen : MailSeen
  seen = seen_at w n

  abbrev of_router : Act
  of_router = router_turn (find_router node (λ r. r.flagged))

  abbrev of_close : Act
  of_close = close_turn node.pending of_router

  abbrev of_post : Act
  of_post = node_turn Post (first_number (λ to. has_mail_for node to && place_at false seen.empty to) 0 node.count) of_close

  abbrev of_look : Act
  of_look = node_turn Look (first_number (λ from. place_at false seen.full from) 0 node.count) of_post

  router_case : (o : Option Found) → find_router node (λ r. r.flagged) ≡ o → node.hand ≡ None → next_at w n ≡ router_turn o →
      can_take w n (router_turn o) ≡ true
  unfolding router_turn can_take may_act router_at is_idle
  router_case None f h e = ap is_idle e
  router_case (Some x) f h e = let t = found_tells node (λ r. r.flagged) x f in
      ap (λ z. may_act z (next_act x.router)) t.0 ∙ next_may x.router

  close_case : (es : List End) → node.pending ≡ es → node.hand ≡ None → next_at w n ≡ close_turn es of_router →
      can_take w n (close_turn es of_router) ≡ true
  unfolding close_turn can_take is_first_pending
  close_case [] f h e = router_case (find_router node (λ r. r.flagged)) refl h e
  close_case (x ∷ xs) f h e = ap (λ es. is_first_pending es x) f ∙ same_end-itself x

  post_case : (o : Option ℕ) → first_number (λ to. has_mail_for node to && place_at false seen.empty to) 0 node.count ≡ o →
      node.hand ≡ None → next_at w n ≡ node_turn Post o of_close → can_take w n (node_turn Post o of_close) ≡ true
  unfolding node_turn can_take
  post_case None f h e = close_case node.pending refl h e
  post_case (Some to) f h e =
      let t = and_parts (has_mail_for node to) (place_at false seen.empty to)
      (first_number-tells (λ to. has_mail_for node to && place_at false seen.empty to) 0 node.count to f).1 in
      let z : 0 + to ≡ to = omega arith in
      let c = and_parts (nat_lt to w.count) (is_clear (mail_at w (way w n to)))
      (subst (λ i. (nat_lt i w.count && is_clear (mail_at w (way w n i))) ≡ true) z
      (seen_is (λ to. nat_lt to w.count && is_clear (mail_at w (way w n to))) 0 node_limit to t.1)) in
      rw (t.0, c.0, c.1) refl

  look_case : (o : Option ℕ) → first_number (λ from. place_at false seen.full from) 0 node.count ≡ o → node.hand ≡ None →
      next_at w n ≡ node_turn Look o of_post → can_take w n (node_turn Look o of_post) ≡ true
  unfolding node_turn can_take
  look_case None f h e = post_case (first_number (λ to. has_mail_for node to && place_at false seen.empty to) 0 node.count) refl h e
  look_case (Some from) f h e =
      let t = (first_number-tells (λ from. place_at false seen.full from) 0 node.count from f).1 in
      let z : 0 + from ≡ from = omega arith in
      let c = and_parts (nat_lt from w.count) (is_full (mail_at w (way w from n)))
      (subst (λ i. (nat_lt i w.count && is_full (mail_at w (way w i n))) ≡ true) z
      (seen_is (λ from. nat_lt from w.count && is_full (mail_at w (way w from n))) 0 node_limit from t)) in
      rw (h, c.0, c.1) refl

  hand_case : (o : Option ℕ) → node.hand ≡ o → next_at w n ≡ node_turn Hand o of_look → can_take w n (node_turn Hand o of_look) ≡ true
  unfolding node_turn can_take is_hand_of
  hand_case None h e = look_case (first_number (λ from. place_at false seen.full from) 0 node.count) refl h e
  hand_case (Some from) h e = let own : nat_eq from from ≡ true = grind (arith, nat_tests) in
      rw (h, own, law.counts.hand n from here h) refl

  pub next_possible : can_take w n (next_at w n) ≡ true
  unfolding next_at next
  next_possible = hand_case node.hand refl refl

  -- what stands in for a begin is possible with it
  stands_in : (a : Act) → can_take w n a ≡ true → can_take w n (stand_in a) ≡ true
  unfolding stand_in can_take
  stands_in (OfRouter s acts.Retire) h = retire_unlocks (router_at w (record { node = n; serial = s })) h
  stands_in (OfRouter s acts.Begin) h = begin_unlocks (router_at w (record { node = n; serial = s })) h
  stands_in other h = h

  pub first_taken : (act : Act) → FirstAct w n act → can_take w n act ≡ true
  first_taken act (inl e) = subst (λ a. can_take w n a ≡ true) (sym e) next_possible
  first_taken act (inr (e, grows)) = subst (λ a. can_take w n a ≡ true) (sym e) (stands_in (next_at w n) next_possible)

-- a step in which a turn takes the first act is one in which it takes a possible act
pub first_is_possible : FirstIsPossible
first_is_possible w v b g (steps.Open n) reply law s = s
first_is_possible w v b g (steps.Put n at bytes ends) reply law s = s
first_is_possible w v b g (steps.PutWide n at bytes ends) reply law s = s
first_is_possible w v b g (steps.Get n at) reply law s = s
first_is_possible w v b g (steps.Close n at) reply law s = s
first_is_possible w v b g (steps.Turn n) reply law (act, may, s) = (act, λ l. first_taken w b law.records law.inv n l act may, s)
