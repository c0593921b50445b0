-- What stands in a queue was put and isn't read, so that its number is below its end's cap, and its pair's price pays for it.
use Rattle.std.specs.Prelude.{◌≡◌, ◌≤◌, ◌<◌, ℕ, ◌+◌, Bool, true, false, not, ◌&&◌, nat_eq, Some, drop, slice_get, refl}
use Rattle.std.proofs.Common.{arith, ap, ◌∙◌, sym}
use Rattle.std.proofs.lemmas.Bool.{and_from}
use Rattle.ipcz_world.proofs.Vocabulary.{End, Item, opposite_end, ends_in, current_item, Router, World, Key, router_at, Books, read, Records, Weight}
use Rattle.ipcz_world.proofs.Vocabulary.{in_router, at_end, Conserved, Inv, At, is_possible, Rates, worth, is_done, is_sink, is_retired, Retired}
use Rattle.ipcz_base.specs.Items.{same_item}
use Rattle.ipcz_world.proofs.frames.OfRecords.{in_places}
use Rattle.ipcz_world.proofs.frames.Weights.{in_out_queue, in_in_queue}
use Rattle.ipcz_world.proofs.frames.Booking.{flag, more_here, in_router-within}
use Rattle.ipcz_world.proofs.acts.Reading.{from_number-found}
use Rattle.ipcz_world.proofs.facts.Slices.{slice_get-drop}
use Rattle.ipcz_world.proofs.facts.Tests.{nat_eq-itself, and_first, and_second, nat_eq-is}
use Rattle.ipcz_world.proofs.facts.SameItems.{same_item-itself, same_item-tells}
use Rattle.ipcz_world.specs.Ranks.{moving_worth, IsRated, ActsLowerTheRank}
use Rattle.ipcz_router.specs.Router.{is_terminal}
use Rattle.ipcz_world.proofs.lawful.Departures.{peer_unretired}
use Rattle.ipcz_router.specs.declared.act.RouterAct.TheVariants as acts
use Rattle.ipcz_world.proofs.facts.Reaching.{is_reach}
use Rattle.ipcz_world.proofs.lawful.NodeActs.{CanPay}
use Rattle.ipcz_world.proofs.lawful.WorldRanks.{rank-acted}

-- weighs this one item at this one number
abbrev this : ℕ → Item → ℕ → Item → ℕ
this n item m x = flag (nat_eq m n && same_item x item)

this-one : (e : End) (n : ℕ) (item : Item) → at_end e (this n item) e n item ≡ 1
this-one e n item = more_here (this n item n item) 0 e ∙
    ap flag (and_from (nat_eq n n) (same_item item item) (nat_eq-itself n) (same_item-itself item))

-- what weighs in a router was put by its end, and isn't read
placed : (w : World) (b : Books) (g : Records) (k : Key) (r : Router) (e : End) (n : ℕ) (item : Item) → Conserved w b g → k.node < w.count →
    router_at w k ≡ Some r → 1 ≤ in_router (at_end e (this n item)) r →
    (read b (opposite_end e) ≤ n) × (slice_get (b.put e) n ≡ Some item)
placed w b g k r e n item law l here some =
    let f : Weight = at_end e (this n item) in
    let le : in_router f r ≤ in_places f g w = in_router-within f g w k r l here in
    let found = from_number-found (this n item) (read b (opposite_end e)) (drop (read b (opposite_end e)) (b.put e))
    (omega (arith, le, some, law.exact e (this n item))) in
    let is = weighs (nat_eq (read b (opposite_end e) + found.0) n && same_item found.1 item) found.3 in
    let number : n ≡ read b (opposite_end e) + found.0 = sym (nat_eq-is (read b (opposite_end e) + found.0) n
    (and_first (nat_eq (read b (opposite_end e) + found.0) n) (same_item found.1 item) is)) in (
      omega (arith, number),
      ap (slice_get (b.put e)) number ∙ sym (slice_get-drop (read b (opposite_end e)) (b.put e) found.0) ∙ found.2 ∙ ap Some
          (same_item-tells found.1 item (and_second (nat_eq (read b (opposite_end e) + found.0) n) (same_item found.1 item) is)),
    )
  where
    weighs : (c : Bool) → 1 ≤ flag c → c ≡ true
    weighs true h = refl
    weighs false h = absurd (omega (arith, h))

-- what comes next out of a router's queues was put by the end that it is of, and isn't read
pub record ComesOfPuts (b : Books) (r : Router) : Type 0 where
  pub out : (item : Item) → current_item r.out_queue ≡ Some item →
      (read b (opposite_end r.end) ≤ r.out_queue.current) × (slice_get (b.put r.end) r.out_queue.current ≡ Some item)
  pub inner : (item : Item) → current_item r.in_queue ≡ Some item →
      (read b (opposite_end (opposite_end r.end)) ≤ r.in_queue.current) ×
      (slice_get (b.put (opposite_end r.end)) r.in_queue.current ≡ Some item)

pub comes_of_puts : (w : World) (b : Books) (g : Records) (k : Key) (r : Router) → Conserved w b g → k.node < w.count →
    router_at w k ≡ Some r → ComesOfPuts b r
comes_of_puts w b g k r law l here = record {
  out = λ item e. placed w b g k r r.end r.out_queue.current item law l here
      (omega (
        arith,
        this-one r.end r.out_queue.current item,
        in_out_queue
            (at_end r.end (this r.out_queue.current item)) r r.out_queue.current item e,
      ));
  inner = λ item e. placed w b g k r (opposite_end r.end) r.in_queue.current item law l here
      (omega (
        arith,
        this-one (opposite_end r.end) r.in_queue.current item,
        in_in_queue (at_end (opposite_end r.end) (this r.in_queue.current item)) r r.in_queue.current item e,
      ));
}

pub can_pay : (w : World) (b : Books) (g : Records) (c : Rates) (k : Key) (r : Router) → Inv w b g → k.node < w.count →
    router_at w k ≡ Some r → IsRated c b → CanPay c r
unfolding is_possible
can_pay w b g c k r law l here rated = record {
  out = λ item e. pays r.end r.out_queue.current item (come.out item e);
  inner = λ item e. pays (opposite_end r.end) r.in_queue.current item (come.inner item e);
  gone = λ can. (room can, rated.least r.end.pair);
}
  where
    come : ComesOfPuts b r
    come = comes_of_puts w b g k r law.conserved l here

    pays : (e : End) (n : ℕ) (item : Item) → (read b (opposite_end e) ≤ n) × (slice_get (b.put e) n ≡ Some item) →
        (n < c.cap e) × (6 + moving_worth c (ends_in item) ≤ c.price e.pair)
    pays e n item p = (rated.capped e n item p.0 p.1, rated.pays e n item p.0 p.1)

    -- a terminal's end hasn't retired
    unretired : is_terminal r ≡ true → (t : Bool) → is_retired b r.end ≡ t → is_retired b r.end ≡ false
    unretired h false e = e
    unretired h true e = absurd (apart k (sym ((law.terminals.each k r here).terminal h) ∙ law.retired_ends.retired r.end e))
      where
        apart : (q : Key) → At q ≡ Retired → ⊥
        apart q e = cc

    room : is_possible r acts.Retire ≡ true → r.out_queue.current < c.cap r.end
    room can =
        let h : is_terminal r ≡ true = and_first (is_terminal r) _ (and_first (is_sink r) _ (and_first (is_done r) _ can)) in
        let none : is_retired b r.end ≡ false = unretired h (is_retired b r.end) refl in
        omega (
          arith,
          (is_reach r.out_queue).from,
          law.conserved.reach k r here h,
          ap (λ t. worth 1 (not t)) none,
          rated.room r.end none (peer_unretired w b g k r law here can),
        )

pub acts_lower_the_rank : ActsLowerTheRank
unfolding router_at
acts_lower_the_rank w b g c n act law rated l can up = omega (
  arith,
  rank-acted c w n act (λ s r here.
      can_pay w b law.records c (record { node = n; serial = s }) r law.inv l here rated) can up,
)
