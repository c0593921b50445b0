-- What each change of a router leaves of what stays with it while no caller calls.
use Rattle.std.specs.Prelude.{◌≡◌, ◌≤◌, ℕ, ◌+◌, ◌*◌, ◌-◌, Bool, true, false, cond, Option, Some, None, is_some, is_none, option_map, refl}
use Rattle.std.proofs.Common.{arith, ap}
use Rattle.ipcz_base.specs.declared.item.Item.{Item}
use Rattle.ipcz_base.specs.Ends.{opposite_end}
use Rattle.ipcz_edge.specs.Edge.{Edge, choose}
use Rattle.ipcz_seq.specs.Queue.{current_item, item_at, push_at}
use Rattle.ipcz_world.proofs.Vocabulary.{is_proxy, pop_out, drop_item, way_in, accept, next_number, stop_proxying, Rates, router_worth}
use Rattle.ipcz_router.specs.Router.{Router, is_terminal}
use Rattle.ipcz_router.specs.Acts.{pop_in}
use Rattle.ipcz_router.specs.ActEffects.{finish_in, begin_bypass}
use Rattle.ipcz_world.proofs.facts.Reaching.{is_reach, reach-pop}
use Rattle.ipcz_world.proofs.frames.Booking.{reach-push}
use Rattle.ipcz_world.specs.Ranks.{worth_left}
use Rattle.ipcz_world.specs.PutBounds.{router_stays}

-- it is no more than its numbers are worth
pub stays-left : (c : Rates) (r : Router) → router_stays c r ≤ worth_left c r.end r.out_queue.current r.in_queue.current
unfolding router_stays
stays-left c r = go (is_terminal r) (is_reach r.out_queue).from
  where
    times : (p x y z : ℕ) → x ≤ y → p * (x + z) ≤ p * (y + z)
    times p x y z h = let e : y ≡ x + (y - x) = omega (arith, h) in rw e (omega arith)

    go : (t : Bool) → r.out_queue.current ≤ next_number r → cond t (worth_left c r.end (next_number r) r.in_queue.current) 0 ≤
        worth_left c r.end r.out_queue.current r.in_queue.current
    go true h = times (c.price r.end.pair) (c.cap r.end - next_number r) (c.cap r.end - r.out_queue.current)
        (c.cap (opposite_end r.end) - r.in_queue.current) (omega (arith, h))
    go false h = omega arith

-- nor than the router's worth
pub stays-most : (c : Rates) (r : Router) → router_stays c r ≤ router_worth c r
unfolding router_stays router_worth
stays-most c r = go (is_terminal r) (is_reach r.out_queue).from
  where
    times : (p x y z : ℕ) → x ≤ y → p * (x + z) ≤ p * (y + z)
    times p x y z h = let e : y ≡ x + (y - x) = omega (arith, h) in rw e (omega arith)

    go : (t : Bool) → r.out_queue.current ≤ next_number r → cond t (worth_left c r.end (next_number r) r.in_queue.current) 0 ≤ router_worth c r
    go true h = omega (
      arith,
      times (c.price r.end.pair) (c.cap r.end - next_number r) (c.cap r.end - r.out_queue.current)
          (c.cap (opposite_end r.end) - r.in_queue.current) (omega (arith, h)),
    )
    go false h = omega arith

-- a proxy has nothing of it
pub proxy-stays : (c : Rates) (r : Router) → is_proxy r ≡ true → router_stays c r ≡ 0
unfolding router_stays
proxy-stays c r h = go r.inward refl h
  where
    go : (o : Option Edge) → r.inward ≡ o → is_some o ≡ true → router_stays c r ≡ 0
    go None e k = cc
    go (Some x) e k = rw e refl

-- the inward edge changes, and is there as before
same-inward : (c : Rates) (r y : Router) → y.end ≡ r.end → y.out_queue ≡ r.out_queue → y.in_queue ≡ r.in_queue →
    is_terminal y ≡ is_terminal r → router_stays c y ≡ router_stays c r
unfolding router_stays
same-inward c r y e o i t = rw (e, o, i, t) refl

terminal-mapped : (f : Edge → Edge) (o : Option Edge) → is_none (option_map f o) ≡ is_none o
terminal-mapped f None = refl
terminal-mapped f (Some x) = refl

pub same-stop_proxying : (c : Rates) (r : Router) (m n : ℕ) → router_stays c (stop_proxying r m n) ≡ router_stays c r
same-stop_proxying c r m n = same-inward c r (stop_proxying r m n) refl refl refl (terminal-mapped _ r.inward)

pub same-finish_in : (c : Rates) (r : Router) → router_stays c (finish_in r) ≡ router_stays c r
same-finish_in c r = same-inward c r (finish_in r) refl refl refl (terminal-mapped _ r.inward)

pub same-begin : (c : Rates) (r : Router) → router_stays c (begin_bypass r) ≡ router_stays c r
same-begin c r = same-inward c r (begin_bypass r) refl refl refl (terminal-mapped _ r.inward)

-- an item comes from outward, or to a proxy
pub same-accept : (c : Rates) (r : Router) (b : Bool) (n : ℕ) (item : Item) → (is_terminal r ≡ true → b ≡ true) →
    router_stays c (accept r b n item) ≡ router_stays c r
unfolding router_stays accept
same-accept c r true n item outward = refl
same-accept c r false n item outward = go (is_terminal r) refl
  where
    go : (t : Bool) → is_terminal r ≡ t → router_stays c (accept r false n item) ≡ router_stays c r
    go true e = absurd (let odd : false ≡ true = outward e in cc)
    go false e = rw e refl

-- the current item of the out queue leaves
pub same-pop_out : (c : Rates) (r : Router) (item : Item) → current_item r.out_queue ≡ Some item →
    router_stays c (pop_out r) ≡ router_stays c r
unfolding router_stays
same-pop_out c r item e = ap (λ n. cond (is_terminal r) (worth_left c r.end n r.in_queue.current) 0) (reach-pop r.out_queue item e)

-- who sends inward is a proxy
pub sender-proxy : (r : Router) → is_some (way_in r) ≡ true → is_proxy r ≡ true
unfolding choose
sender-proxy r h = go r.inward refl
  where
    go : (o : Option Edge) → r.inward ≡ o → is_proxy r ≡ true
    go None e = absurd (grind (arith, e, h))
    go (Some x) e = ap is_some e

-- the current item of the in queue leaves
pub less-pop_in : (c : Rates) (r : Router) → c.price r.end.pair ≡ 6 → router_stays c r ≤ router_stays c (pop_in r) + 6
unfolding router_stays
less-pop_in c r six = go (is_terminal r)
  where
    go : (t : Bool) → cond t (worth_left c r.end (next_number r) r.in_queue.current) 0 ≤
        cond t (worth_left c r.end (next_number r) (r.in_queue.current + 1)) 0 + 6
    go true = rw six (omega arith)
    go false = omega arith

pub less-drop : (c : Rates) (r : Router) → c.price r.end.pair ≡ 6 → router_stays c r ≤ router_stays c (drop_item r) + 6
unfolding router_stays
less-drop c r six = less-pop_in c r six

-- the mark, or another item, is put
pub less-put : (c : Rates) (r y : Router) (item : Item) → c.price r.end.pair ≡ 6 → item_at r.out_queue (next_number r + 1) ≡ None →
    y.end ≡ r.end → y.out_queue ≡ push_at r.out_queue (next_number r) item → y.in_queue ≡ r.in_queue → is_terminal y ≡ is_terminal r →
    router_stays c r ≤ router_stays c y + 6
unfolding router_stays
less-put c r y item six beyond e o i t = rw (e, o, i, t, reach-push r.out_queue item beyond, six) (go (is_terminal r))
  where
    go : (t : Bool) → cond t (6 * ((c.cap r.end - next_number r) + (c.cap (opposite_end r.end) - r.in_queue.current))) 0 ≤
        cond t (6 * ((c.cap r.end - (next_number r + 1)) + (c.cap (opposite_end r.end) - r.in_queue.current))) 0 + 6
    go true = omega arith
    go false = omega arith
