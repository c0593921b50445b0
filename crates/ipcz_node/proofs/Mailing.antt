-- In how many outboxes messages wait, and in which: what a change of one does to that, and what it is if none do.
use Rattle.std.proofs.Common.{◌≡◌, ◌<◌, ◌≤◌, ◌+◌, ℕ, zero, suc, Bool, true, false, not, ◌&&◌, nat_eq, List, [], ◌∷◌, ◌++◌, length, replicate, refl, ap, arith}
use Rattle.std.proofs.Common.{map, get_or, slice_set}
use Rattle.std.proofs.lemmas.List.{length-map}
use Rattle.std.specs.Prelude.{if◌then◌else◌}
use Rattle.std.proofs.lemmas.Bool.Decides.{nat_tests}
use Rattle.std.proofs.Common.{cond, sym, ◌∙◌}
use Rattle.ipcz_base.specs.Indexed.{place_at, put_place}
use Rattle.ipcz_base.proofs.Indexed.{place_at-put_place}
use Rattle.ipcz_base.specs.declared.message.Message.{Message}
use Rattle.ipcz_node.specs.RoomyNodes.{boxes_with_mail, one_with_mail}
use Rattle.ipcz_node.specs.Acts.{are_empty, has_mail_for}
use Rattle.ipcz_node.specs.Node.{Node}
use Rattle.ipcz_node.specs.NodeSets.{AreWithMail, has_node, no_nodes}
use Rattle.ipcz_node.specs.declared.node_set.NodeSet.{NodeSet}
use Rattle.ipcz_node.proofs.NodeSets.{nobody}
use Rattle.ipcz_node.proofs.Queues.{put_map, place_map}

pub none_waits : (n : ℕ) → boxes_with_mail (replicate n []) ≡ 0
none_waits zero = refl
none_waits (suc n) = omega (arith, none_waits n)

-- one box is another
pub waiting_put : (boxes : List (List Message)) (to : ℕ) (box : List Message) → to < length boxes →
    boxes_with_mail (put_place [] boxes to box) + one_with_mail (place_at [] boxes to) ≡ boxes_with_mail boxes + one_with_mail box
unfolding place_at put_place
waiting_put [] to box low = absurd (omega (arith, low))
waiting_put (b ∷ boxes) zero box low = omega arith
waiting_put (b ∷ boxes) (suc to) box low = omega (arith, waiting_put boxes to box (omega (arith, low)))

pub one_most : (box : List Message) → one_with_mail box ≤ 1
one_most box = go (nat_eq (length box) 0)
  where
    go : (t : Bool) → (if t then 0 else 1) ≤ 1
    go true = omega arith
    go false = omega arith

-- an outbox that a message was added to has mail
pub one_pushed : (box : List Message) (m : Message) → one_with_mail (box ++ m ∷ []) ≡ 1
one_pushed [] m = refl
one_pushed (x ∷ box) m = go (nat_eq (length (x ∷ box ++ m ∷ [])) 0) (grind (arith, nat_tests))
  where
    go : (t : Bool) → t ≡ false → if◌then◌else◌ {A = ℕ} t 0 1 ≡ 1
    go true h = cc
    go false h = refl

-- there are no more than boxes
pub waiting_most : (boxes : List (List Message)) → boxes_with_mail boxes ≤ length boxes
waiting_most [] = omega arith
waiting_most (b ∷ boxes) = omega (arith, one_most b, waiting_most boxes)

-- by the number one knows whether any waits
pub waiting_tells : (boxes : List (List Message)) → nat_eq (boxes_with_mail boxes) 0 ≡ are_empty boxes
waiting_tells [] = refl
waiting_tells (b ∷ boxes) = go (nat_eq (length b) 0) (waiting_tells boxes)
  where
    go : (t : Bool) → nat_eq (boxes_with_mail boxes) 0 ≡ are_empty boxes →
        nat_eq ((if t then 0 else 1) + boxes_with_mail boxes) 0 ≡ (t && are_empty boxes)
    go true h = grind (arith, h)
    go false h = grind (arith, nat_tests)

-- if no message waits, none does for any destination
pub empty_box : (boxes : List (List Message)) (to : ℕ) → are_empty boxes ≡ true → place_at [] boxes to ≡ []
unfolding place_at
empty_box [] to h = refl
empty_box ([] ∷ boxes) zero h = refl
empty_box ((m ∷ ms) ∷ boxes) zero h = absurd (grind (arith, h, nat_tests))
empty_box (b ∷ boxes) (suc to) h = empty_box boxes to (second (nat_eq (length b) 0) (are_empty boxes) h)
  where
    second : (x y : Bool) → (x && y) ≡ true → y ≡ true
    second true y e = e
    second false y e = cc

pub no_mail_for : (n : Node) (to : ℕ) → are_empty n.outboxes ≡ true → has_mail_for n to ≡ false
no_mail_for n to h = ap (λ (box : List Message). not (nat_eq (length box) 0)) (empty_box n.outboxes to h)

-- the queue of one destination was changed
module _ {X : Type 0} (g : X → List Message) where
  pub waiting_set : (xs : List X) (i : ℕ) (x y : X) → x ≡ get_or xs i x → i < length xs →
      boxes_with_mail (map g (slice_set xs i y)) + one_with_mail (g x) ≡ boxes_with_mail (map g xs) + one_with_mail (g y)
  waiting_set xs i x y is low =
      let low' : i < length (map g xs) = omega (arith, low, length-map xs g) in
      let new = ap boxes_with_mail (put_map g [] (λ z. g y) xs i i x y is refl refl low) in
      let old = ap one_with_mail (place_map g [] xs i i x is refl low) in
      omega (arith, new, old, waiting_put (map g xs) i (g y) low')

  -- there are as many queues as numbers of nodes
  pub waiting_few : (xs : List X) → length xs ≡ 256 → boxes_with_mail (map g xs) ≤ 256
  waiting_few xs all = omega (arith, all, length-map xs g, waiting_most (map g xs))

blank_box : (k n : ℕ) → place_at {X = List Message} [] (replicate k []) n ≡ []
unfolding place_at
blank_box zero n = refl
blank_box (suc k) zero = refl
blank_box (suc k) (suc n) = blank_box k n

-- where each outbox is empty, no node is in the set
pub none_noted : (k : ℕ) → AreWithMail no_nodes (replicate k [])
none_noted k = λ n low. nobody n ∙ sym (ap (λ (box : List Message). not (nat_eq (length box) 0)) (blank_box k n))

-- one box is another, and whether messages wait there was noted
pub mail_noted : (s later : NodeSet) (boxes others : List (List Message)) (to : ℕ) (box : List Message) → AreWithMail s boxes → others ≡ put_place [] boxes to box →
    ((n : ℕ) → n < 64 → has_node later n ≡ (if nat_eq to n then not (nat_eq (length box) 0) else has_node s n)) → AreWithMail later others
mail_noted s later boxes others to box was is noted n low = noted n low ∙ (go (nat_eq to n) ∙ sym (ap (λ (l : List Message). not (nat_eq (length l) 0)) (at ∙ ap (λ b. cond b box (place_at [] boxes n)) flip)))
  where
    at : place_at [] others n ≡ cond (nat_eq n to) box (place_at [] boxes n)
    at = ap (λ l. place_at [] l n) is ∙ place_at-put_place [] boxes to box n

    flip : nat_eq n to ≡ nat_eq to n
    flip = grind (arith, nat_tests)

    go : (b : Bool) → (if b then not (nat_eq (length box) 0) else has_node s n) ≡ not (nat_eq (length (cond b box (place_at [] boxes n))) 0)
    go true = refl
    go false = was n low
