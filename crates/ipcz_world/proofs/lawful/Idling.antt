-- If each node is idle nothing waits, if nothing lies beyond the world's nodes.
use Rattle.std.specs.Prelude.{◌≡◌, ◌⊎◌, ◌≤◌, ◌<◌, ℕ, zero, suc, ◌+◌, Bool, true, false, not, ◌&&◌, nat_eq, nat_lt, if◌then◌else◌, Option}
use Rattle.std.specs.Prelude.{Some, None, is_some, refl, List, [], ◌∷◌, length, map}
use Rattle.std.proofs.Common.{arith, ap, subst, ◌∙◌, sym, inl, inr}
use Rattle.std.proofs.lemmas.Bool.Decides.{nat_tests}
use Rattle.ipcz_world.proofs.Vocabulary.{End, Message, place_at, Act, Hand, Node, Found, outbox, World, node_at, mail_at, way, hand_message, Records}
use Rattle.ipcz_world.proofs.Vocabulary.{Counts, Look, Post, flagged_router, first_number, has_mail_for, router_turn, close_turn, are_empty, is_quiet}
use Rattle.ipcz_world.proofs.Vocabulary.{Mail, node_limit, numbers_from, is_full, is_clear, seen_at, next_at, is_idle, IsQuiet}
use Rattle.ipcz_node.specs.declared.act.MailSeen.{MailSeen}
use Rattle.ipcz_node.specs.Acts.{first_sender, first_destination, node_turn, next}
use Rattle.ipcz_world.specs.declared.mail.Mail.TheVariants as mails
use Rattle.ipcz_world.specs.Settling.{IsBounded}

-- a search that finds nothing
none_first : (test : ℕ → Bool) (from left : ℕ) → first_number test from left ≡ None → (i : ℕ) → from ≤ i → i < from + left → test i ≡ false
none_first test from zero h i a b = absurd (omega (arith, a, b))
none_first test from (suc left) h i a b = go (test from) refl h (nat_eq i from) refl (λ k c d. none_first test (from + 1) left k i c d)
  where
    go : (c : Bool) → test from ≡ c → (if c then Some from else first_number test (from + 1) left) ≡ None → (d : Bool) → nat_eq i from ≡ d →
        (first_number test (from + 1) left ≡ None → from + 1 ≤ i → i < (from + 1) + left → test i ≡ false) → test i ≡ false
    go true e h d f more = cc
    go false e h true f more = let s : i ≡ from = grind (arith, f, nat_tests) in ap test s ∙ e
    go false e h false f more = more h (grind (arith, a, f, nat_tests)) (omega (arith, b))

-- what stands at an index of a list made of numbers
at_number : (f : ℕ → Bool) (from left i : ℕ) → i < left → place_at false (map f (numbers_from from left)) i ≡ f (from + i)
unfolding place_at
at_number f from zero i l = absurd (omega (arith, l))
at_number f from (suc left) zero l = let e : from ≡ from + zero = omega arith in ap f e
at_number f from (suc left) (suc i) l = let e : (from + 1) + i ≡ from + suc i = omega arith in
    at_number f (from + 1) left i (omega (arith, l)) ∙ ap f e

-- what an idle node is
record IsIdleNode (n : Node) (seen : MailSeen) : Type 0 where
  pub hand : n.hand ≡ None
  pub sender : first_sender n seen ≡ None
  pub destination : first_destination n seen ≡ None
  pub pending : n.pending ≡ []
  pub flagged : flagged_router n ≡ None

of_turn : (act : ℕ → Act) (o : Option ℕ) (other : Act) → ((i : ℕ) → is_idle (act i) ≡ false) → is_idle (node_turn act o other) ≡ true →
    (o ≡ None) × (is_idle other ≡ true)
unfolding node_turn
of_turn act None other never h = (refl, h)
of_turn act (Some i) other never h = absurd (both (is_idle (act i)) h (never i))
  where
    both : (c : Bool) → c ≡ true → c ≡ false → ⊥
    both c a z = cc

of_close : (es : List End) (other : Act) → is_idle (close_turn es other) ≡ true → (es ≡ []) × (is_idle other ≡ true)
unfolding close_turn is_idle
of_close [] other h = (refl, h)
of_close (e ∷ es) other h = cc

of_flagged : (o : Option Found) → is_idle (router_turn o) ≡ true → o ≡ None
unfolding router_turn is_idle
of_flagged None h = refl
of_flagged (Some f) h = cc

hand_acts : (i : ℕ) → is_idle (Hand i) ≡ false
unfolding is_idle
hand_acts i = refl

look_acts : (i : ℕ) → is_idle (Look i) ≡ false
unfolding is_idle
look_acts i = refl

post_acts : (i : ℕ) → is_idle (Post i) ≡ false
unfolding is_idle
post_acts i = refl

idle_node : (n : Node) (seen : MailSeen) → is_idle (next n seen) ≡ true → IsIdleNode n seen
unfolding next
idle_node n seen h =
    let a = of_turn Hand n.hand _ hand_acts h in
    let b = of_turn Look (first_sender n seen) _ look_acts a.1 in
    let c = of_turn Post (first_destination n seen) _ post_acts b.1 in
    let d = of_close n.pending _ c.1 in
    record { hand = a.0; sender = b.0; destination = c.0; pending = d.0; flagged = of_flagged (flagged_router n) d.1 }

all_empty : (boxes : List (List Message)) → ((i : ℕ) → place_at [] boxes i ≡ []) → are_empty boxes ≡ true
unfolding place_at
all_empty [] h = refl
all_empty (x ∷ xs) h = let first : x ≡ [] = h zero in let rest = all_empty xs (λ i. h (suc i)) in rw (first, rest) refl

no_length : (ms : List Message) → not (nat_eq (length ms) 0) ≡ false → ms ≡ []
no_length [] h = refl
no_length (m ∷ ms) h = absurd (grind (arith, h, nat_tests))

clear_is : (m : Mail) → is_full m ≡ false → is_some (hand_message m) ≡ false → is_clear m ≡ true
unfolding is_full hand_message is_clear
clear_is mails.Empty a b = refl
clear_is (mails.Full m) a b = cc
clear_is (mails.Hand m) a b = cc

empty_clear : is_clear mails.Empty ≡ true
unfolding is_clear
empty_clear = refl

-- whether a number is that of a way
record IsWay (w : World) (k : ℕ) : Type 0 where
  pub from : ℕ
  pub to : ℕ
  pub sender : from < w.count
  pub receiver : to < w.count
  pub is : k ≡ way w from to

some_to : (w : World) (k from left : ℕ) → from < w.count → left ≤ w.count → IsWay w k ⊎ ((to : ℕ) → to < left → k ≡ way w from to → ⊥)
some_to w k from zero l m = inr (λ to t e. omega (arith, t))
some_to w k from (suc left) l m = go (nat_eq k (way w from left)) refl (some_to w k from left l (omega (arith, m)))
  where
    go : (c : Bool) → nat_eq k (way w from left) ≡ c → IsWay w k ⊎ ((to : ℕ) → to < left → k ≡ way w from to → ⊥) →
        IsWay w k ⊎ ((to : ℕ) → to < suc left → k ≡ way w from to → ⊥)
    go true e more = inl (record { from = from; to = left; sender = l; receiver = omega (arith, m); is = grind (arith, e, nat_tests) })
    go false e (inl i) = inl i
    go false e (inr never) = inr (λ to t f. one to t f (nat_eq to left) refl)
      where
        one : (to : ℕ) → to < suc left → k ≡ way w from to → (d : Bool) → nat_eq to left ≡ d → ⊥
        one to t f true h = let s : to ≡ left = grind (arith, h, nat_tests) in let g : k ≡ way w from left = f ∙ ap (way w from) s in
            grind (arith, e, g, nat_tests)
        one to t f false h = never to (grind (arith, t, h, nat_tests)) f

some_way : (w : World) (k left : ℕ) → left ≤ w.count → IsWay w k ⊎ ((from to : ℕ) → from < left → to < w.count → k ≡ way w from to → ⊥)
some_way w k zero m = inr (λ from to t u e. omega (arith, t))
some_way w k (suc left) m = go (some_to w k left w.count (omega (arith, m)) (omega arith)) (some_way w k left (omega (arith, m)))
  where
    go : IsWay w k ⊎ ((to : ℕ) → to < w.count → k ≡ way w left to → ⊥) →
        IsWay w k ⊎ ((from to : ℕ) → from < left → to < w.count → k ≡ way w from to → ⊥) →
        IsWay w k ⊎ ((from to : ℕ) → from < suc left → to < w.count → k ≡ way w from to → ⊥)
    go (inl i) more = inl i
    go (inr never) (inl i) = inl i
    go (inr never) (inr none) = inr (λ from to t u e. one from to t u e (nat_eq from left) refl)
      where
        one : (from to : ℕ) → from < suc left → to < w.count → k ≡ way w from to → (d : Bool) → nat_eq from left ≡ d → ⊥
        one from to t u e true h = let s : from ≡ left = grind (arith, h, nat_tests) in never to u (e ∙ ap (λ j. way w j to) s)
        one from to t u e false h = none from to (grind (arith, t, h, nat_tests)) u e

module _ (w : World) (g : Records) (counts : Counts w g) (bounded : IsBounded w)
    (idle : (n : ℕ) → n < w.count → is_idle (next_at w n) ≡ true) where
  node : (n : ℕ) → n < w.count → IsIdleNode (node_at w n) (seen_at w n)
  unfolding next_at
  node n l = idle_node (node_at w n) (seen_at w n) (idle n l)

  and_right : (a b : Bool) → a ≡ true → (a && b) ≡ false → b ≡ false
  and_right true b e h = h
  and_right false b e h = cc

  not_full : (from to : ℕ) → from < w.count → to < w.count → is_full (mail_at w (way w from to)) ≡ false
  not_full from to l m =
      let few = bounded.few in
      let seen = none_first (λ j. place_at false (seen_at w to).full j) 0 (node_at w to).count (node to m).sender from (omega arith)
      (subst (λ c. from < 0 + c) (sym (counts.nodes to m)) (omega (arith, l))) in
      let at = at_number (λ j. nat_lt j w.count && is_full (mail_at w (way w j to))) 0 node_limit from (omega (arith, l, few)) in
      let z : 0 + from ≡ from = omega arith in
      let below : nat_lt from w.count ≡ true = grind (arith, l, nat_tests) in
      and_right (nat_lt from w.count) (is_full (mail_at w (way w from to))) below
      (sym (ap (λ j. nat_lt j w.count && is_full (mail_at w (way w j to))) z) ∙ sym at ∙ seen)

  not_in_hand : (from to : ℕ) → from < w.count → to < w.count → is_some (hand_message (mail_at w (way w from to))) ≡ false
  not_in_hand from to l m = go (is_some (hand_message (mail_at w (way w from to)))) refl
    where
      none_some : None ≡ Some from → ⊥
      none_some e = cc

      go : (c : Bool) → is_some (hand_message (mail_at w (way w from to))) ≡ c → is_some (hand_message (mail_at w (way w from to))) ≡ false
      go true e = absurd (none_some (sym (node to m).hand ∙ counts.in_hand to from m l e))
      go false e = e

  clear : (from to : ℕ) → from < w.count → to < w.count → is_clear (mail_at w (way w from to)) ≡ true
  clear from to l m = clear_is (mail_at w (way w from to)) (not_full from to l m) (not_in_hand from to l m)

  no_box : (n to : ℕ) → n < w.count → to < w.count → outbox (node_at w n) to ≡ []
  no_box n to l m =
      let few = bounded.few in
      let seen = none_first (λ j. has_mail_for (node_at w n) j && place_at false (seen_at w n).empty j) 0 (node_at w n).count
      (node n l).destination to (omega arith) (subst (λ c. to < 0 + c) (sym (counts.nodes n l)) (omega (arith, m))) in
      let at = at_number (λ j. nat_lt j w.count && is_clear (mail_at w (way w n j))) 0 node_limit to (omega (arith, m, few)) in
      let z : 0 + to ≡ to = omega arith in
      let below : nat_lt to w.count ≡ true = grind (arith, m, nat_tests) in
      let empty : place_at false (seen_at w n).empty to ≡ true = at ∙ ap (λ j. nat_lt j w.count && is_clear (mail_at w (way w n j))) z ∙
      (rw (below, clear n to l m) refl) in
      no_length (outbox (node_at w n) to) (left (has_mail_for (node_at w n) to) (place_at false (seen_at w n).empty to) empty seen)
    where
      left : (a b : Bool) → b ≡ true → (a && b) ≡ false → a ≡ false
      left true b e h = absurd (both b e h)
        where
          both : (c : Bool) → c ≡ true → c ≡ false → ⊥
          both c a z = cc
      left false b e h = refl

  -- if each node is idle, nothing waits
  pub quiet_from_idle : IsQuiet w
  unfolding is_quiet
  quiet_from_idle = record {
    nodes = λ n l. let i = node n l in rw (
      all_empty (node_at w n).outboxes (λ to. box n to l (nat_lt to w.count) refl),
      i.pending,
      i.hand,
      i.flagged,
    ) refl;
    mail = λ k. elim (some_way w k w.count (omega arith)) [
      | inl i ↦ ap (λ j. is_clear (mail_at w j)) i.is ∙ clear i.from i.to i.sender i.receiver
      | inr never ↦ ap is_clear (bounded.mail k never) ∙ empty_clear
    ];
  }
    where
      box : (n to : ℕ) → n < w.count → (c : Bool) → nat_lt to w.count ≡ c → outbox (node_at w n) to ≡ []
      box n to l true e = no_box n to l (grind (arith, e, nat_tests))
      box n to l false e = bounded.box n to l (grind (arith, e, nat_tests))
