-- What a node sees of the mailboxes, looked up one after the other.
use Rattle.std.specs.Prelude.{◌≡◌, ◌<◌, ◌≤◌, ℕ, zero, suc, ◌+◌, ◌-◌, Bool, true, false, not, ◌&&◌, nat_lt, nat_eq, map, if◌then◌else◌, Option, Some}
use Rattle.std.specs.Prelude.{None}
use Rattle.std.proofs.Common.{arith, ap, refl, sym, ◌∙◌}
use Rattle.std.proofs.lemmas.Bool.Decides.{nat_tests}
use Rattle.ipcz_base.specs.Indexed.{place_at}
use Rattle.ipcz_world.proofs.Vocabulary.{first_number, has_mail_for, are_empty, node_limit, numbers_from, is_full, is_clear, seen_at}
use Rattle.ipcz_node.proofs.Turns.{first_step}
use Rattle.ipcz_node.proofs.Mailing.{no_mail_for}
use Rattle.ipcz_world.specs.World.{World, mail_at, node_at, way}

-- what is said of a number in a list over so many numbers
told : (f : ℕ → Bool) (a n k : ℕ) → k < n → place_at false (map f (numbers_from a n)) k ≡ f (a + k)
unfolding place_at
told f a zero k l = absurd (omega (arith, l))
told f a (suc n) zero l = ap f (let z : a ≡ a + 0 = omega arith in z)
told f a (suc n) (suc k) l = told f (a + 1) n k (omega (arith, l)) ∙ ap f (let z : (a + 1) + k ≡ a + suc k = omega arith in z)

both : (c : Bool) (b : Bool) → c ≡ true → (c && b) ≡ b
both true b e = refl
both false b e = cc

-- the mailbox of a sender
pub sees_full : (w : World) (n from : ℕ) → from < w.count → w.count ≤ node_limit →
    place_at false (seen_at w n).full from ≡ is_full (mail_at w (way w from n))
sees_full w n from l few =
    let here : nat_lt from w.count ≡ true = grind (arith, l, nat_tests) in
    told (λ k. nat_lt k w.count && is_full (mail_at w (way w k n))) 0 node_limit from (omega (arith, l, few)) ∙
    ap (λ k. nat_lt k w.count && is_full (mail_at w (way w k n))) (let z : 0 + from ≡ from = omega arith in z) ∙
    both (nat_lt from w.count) (is_full (mail_at w (way w from n))) here

-- the mailbox of a destination
pub sees_empty : (w : World) (n to : ℕ) → to < w.count → w.count ≤ node_limit →
    place_at false (seen_at w n).empty to ≡ is_clear (mail_at w (way w n to))
sees_empty w n to l few =
    let here : nat_lt to w.count ≡ true = grind (arith, l, nat_tests) in
    told (λ k. nat_lt k w.count && is_clear (mail_at w (way w n k))) 0 node_limit to (omega (arith, l, few)) ∙
    ap (λ k. nat_lt k w.count && is_clear (mail_at w (way w n k))) (let z : 0 + to ≡ to = omega arith in z) ∙
    both (nat_lt to w.count) (is_clear (mail_at w (way w n to))) here

-- a search from some number on: the number passes
pub passes : (test : ℕ → Bool) (from end : ℕ) (found : Option ℕ) → from < end → test from ≡ true →
    first_number test from (end - from) ≡ found → Some from ≡ found
passes test from end found low holds is =
    sym (first_step test from (end - from) (omega (arith, low)) ∙
    ap (λ b. if b then Some from else first_number test (from + 1) ((end - from) - 1)) holds) ∙ is

-- no number is left
pub none_left : (test : ℕ → Bool) (from end : ℕ) (found : Option ℕ) → from ≡ end → first_number test from (end - from) ≡ found →
    None ≡ found
none_left test from end found e is = sym (ap (first_number test from) (let z : end - from ≡ 0 = omega (arith, e) in z)) ∙ is

-- no number passes
no_number : (test : ℕ → Bool) (from left : ℕ) → ((i : ℕ) → i < from + left → test i ≡ false) → first_number test from left ≡ None
no_number test from zero fails = refl
no_number test from (suc left) fails =
    ap (λ b. if b then Some from else first_number test (from + 1) left) (fails from (omega arith)) ∙
    no_number test (from + 1) left (λ i l. fails i (omega (arith, l)))

-- if no mailbox to a node is full, it sees none
pub no_sender_to : (w : World) (n : ℕ) → w.count ≤ node_limit → ((i : ℕ) → i < w.count → is_full (mail_at w (way w i n)) ≡ false) →
    first_number (λ i. place_at false (seen_at w n).full i) 0 w.count ≡ None
no_sender_to w n few none =
    no_number (λ i. place_at false (seen_at w n).full i) 0 w.count
    (λ i l. sees_full w n i (omega (arith, l)) few ∙ none i (omega (arith, l)))

-- if no mailbox is full, none to a node is
pub no_sender : (w : World) (n : ℕ) → w.count ≤ node_limit → ((k : ℕ) → is_full (mail_at w k) ≡ false) →
    first_number (λ i. place_at false (seen_at w n).full i) 0 w.count ≡ None
no_sender w n few none = no_sender_to w n few (λ i l. none (way w i n))

-- the only number that passes is found
pub only_found : (test : ℕ → Bool) (from left k : ℕ) → from ≤ k → k < from + left → test k ≡ true →
    ((i : ℕ) → i < k → test i ≡ false) → first_number test from left ≡ Some k
only_found test from zero k low high holds fails = absurd (omega (arith, low, high))
only_found test from (suc left) k low high holds fails =
    go (nat_eq from k) refl (λ less. only_found test (from + 1) left k (omega (arith, less)) (omega (arith, high)) holds fails)
  where
    go : (b : Bool) → nat_eq from k ≡ b → (from < k → first_number test (from + 1) left ≡ Some k) →
        (if test from then Some from else first_number test (from + 1) left) ≡ Some k
    go true e more =
        let same : from ≡ k = grind (arith, e, nat_tests) in
        ap (λ b. if b then Some from else first_number test (from + 1) left) (ap test same ∙ holds) ∙ ap Some same
    go false e more =
        let less : from < k = grind (arith, e, low, nat_tests) in
        ap (λ b. if b then Some from else first_number test (from + 1) left) (fails from less) ∙ more less

-- if no message waits, there is no destination
pub no_destination : (w : World) (n : ℕ) → not (are_empty (node_at w n).outboxes) ≡ false →
    first_number (λ i. has_mail_for (node_at w n) i && place_at false (seen_at w n).empty i) 0 w.count ≡ None
no_destination w n none =
    no_number (λ i. has_mail_for (node_at w n) i && place_at false (seen_at w n).empty i) 0 w.count
    (λ i l. ap (λ b. b && place_at false (seen_at w n).empty i) (no_mail_for (node_at w n) i (all (are_empty (node_at w n).outboxes) none)))
  where
    all : (b : Bool) → not b ≡ false → b ≡ true
    all true h = refl
    all false h = cc
