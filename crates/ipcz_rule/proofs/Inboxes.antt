-- The inboxes after a step of a seat which has announced nothing by it.
use Rattle.std.specs.Prelude.{◌≡◌, ◌<◌, ◌⊎◌, ◌+◌, ◌*◌, ℕ, List, slice_index, Some, None, refl}
use Rattle.std.specs.Int.{bit_at}
use Rattle.std.proofs.Common.{ap, ◌∙◌, sym, ⊎_elim, set}
use Rattle.atomic_table.proofs.Lists.{at_set}
use Rattle.ipcz_world.specs.World.{World, way}
use Rattle.ipcz_rule.specs.declared.view.View.{View}
use Rattle.ipcz_rule.specs.Rule.{St, Rules, inbox, mailbox, Inboxes}
use Rattle.ipcz_rule.proofs.Touches.{same_box, same_way}

pub same_inbox : (w w' : World) (to : ℕ) → w'.size ≡ w.size → inbox w' to ≡ inbox w to
same_inbox w w' to size = rw size refl

pub same_box_way : (w w' : World) (a b : ℕ) → w'.count ≡ w.count → w'.size ≡ w.size → mailbox w' (way w' a b) ≡ mailbox w (way w a b)
same_box_way w w' a b count size = same_box w w' (way w' a b) count size ∙ ap (mailbox w) (same_way w w' a b count)

-- the word of a mailbox, by the numbers of the table
pub box_is : {count size : ℕ} {s : St} (r : Rules count size s) (from to : ℕ) → mailbox r.world (way r.world from to) ≡ size + 1 + count + (from * count + to)
box_is {count} {size} {s} r from to =
    ap (λ z. z + 1 + r.world.count + (from * r.world.count + to)) r.words ∙ ap (λ c. size + 1 + c + (from * c + to)) r.nodes

-- who has announced nothing is no one who has announced
pub has_not : (v u : View) (to : ℕ) → v.announced ≡ None → v ≡ u → u.announced ≡ Some to → ⊥
has_not v u to silent same says = let e : None ≡ Some to = sym silent ∙ (ap (λ (z : View). z.announced) same ∙ says) in cc

-- the inboxes are as they were, and a mailbox that is full now was full, or its sender had announced its message
pub inboxes_stay : {count size : ℕ} (s : St) (r : Rules count size s) (w' : World) (words : List ℕ) (id : ℕ) (v' : View) →
    w'.count ≡ r.world.count → w'.size ≡ r.world.size → v'.announced ≡ None →
    ((to : ℕ) → to < r.world.count → slice_index words (inbox r.world to) ≡ slice_index s.words (inbox r.world to)) →
    ((from to : ℕ) → from < r.world.count → to < r.world.count → slice_index words (mailbox r.world (way r.world from to)) ≡ 1 →
    (slice_index s.words (mailbox r.world (way r.world from to)) ≡ 1) ⊎ (bit_at (slice_index s.words (inbox r.world to)) from ≡ 1)) →
    Inboxes words (set s.views id v') w'
inboxes_stay s r w' words id v' count size silent same posts =
    let w = r.world in
    let bit : (from to : ℕ) → to < w.count → bit_at (slice_index s.words (inbox w to)) from ≡ 1 → bit_at (slice_index words (inbox w' to)) from ≡ 1 =
    λ from to l is. ap (λ k. bit_at (slice_index words k) from) (same_inbox w w' to size) ∙ (ap (λ n. bit_at n from) (same to l) ∙ is) in record {
      full = λ from to from_in to_in is.
          let from_was : from < w.count = rw (← count) from_in in
          let to_was : to < w.count = rw (← count) to_in in
          bit from to to_was (⊎_elim (λ was. r.inboxes.full from to from_was to_was was) (λ told. told)
          (posts from to from_was to_was (ap (slice_index words) (sym (same_box_way w w' from to count size)) ∙ is)));
      announced = λ j u k p to seat there says to_in has.
          let to_was : to < w.count = rw (← count) to_in in
          bit p.node to to_was (⊎_elim
          (λ t. absurd (has_not v' u to silent t.1 says))
          (λ t. r.inboxes.announced j u k p to t.1 there says to_was has)
          (at_set s.views id j v' u seat));
    }
