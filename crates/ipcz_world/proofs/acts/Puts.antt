-- A caller's put and close, and a close that is pending, keep the invariant with the books after them.
use Rattle.std.specs.Prelude.{is_some, unwrap_or}
use Rattle.ipcz_world.proofs.Vocabulary.{End, Item, Refusal, opposite_end, same_end, has_end, Router, is_terminal, Node, Found, terminal_of, commit}
use Rattle.ipcz_world.proofs.Vocabulary.{Close, World, Key, node_at, router_at, set_node, after_act, can_take, Books, is_closed, Records, At}
use Rattle.ipcz_world.proofs.Vocabulary.{terminal_node, Weight, in_router, times, Inv, no_edge, is_done, Parcel, Mark, Profile, next_number}
use Rattle.ipcz_world.proofs.Vocabulary.{is_terminal_of, on_found, holds_end, rest_of, put_refusal, put_at_router, put_node, close_refusal}
use Rattle.ipcz_world.proofs.Vocabulary.{close_at_router, close_end, close_node, add_put}
use Rattle.ipcz_world.proofs.frames.Touching.{IsAlike}
use Rattle.ipcz_world.proofs.frames.GonesKept.{open_unretired}
use Rattle.ipcz_world.proofs.frames.OfRecords.{holds, held_times, holds_times}
use Rattle.std.specs.Prelude.{◌≡◌, ◌≢◌, ◌≤◌, ◌<◌, ◌+◌, ℕ, Bool, true, false, cond, not, ◌&&◌, ◌||◌, nat_lt, nat_le, Option, Some, None}
use Rattle.std.specs.Prelude.{List, [], ◌∷◌, length, refl}
use Rattle.std.specs.FinMap.{get}
use Rattle.std.proofs.Common.{arith, ap, subst, ◌∙◌, sym, inl, inr}
use Rattle.std.proofs.lemmas.Bool.Decides.{nat_tests}
use Rattle.ipcz_base.specs.declared.parcel.Parcel as parcels
use Rattle.ipcz_base.specs.Limits.{last_number, most_bytes, most_ends, takes_bytes}
use Rattle.ipcz_router.specs.Calls.{put_item, router_put_refusal}
use Rattle.ipcz_router.specs.Closing.{close_router}
use Rattle.ipcz_node.specs.Node.{without_ends}
use Rattle.ipcz_node.specs.Calls.{are_held_once, refusal_at}
use Rattle.ipcz_world.specs.Turns.{is_first_pending}
use Rattle.ipcz_world.proofs.frames.Weighing.{in_router-is, in_pushed}
use Rattle.ipcz_world.proofs.facts.Reaching.{is_reach}
use Rattle.ipcz_world.proofs.frames.Booking.{flag, end_tells}
use Rattle.ipcz_world.proofs.facts.Finding.{IsTerminalOf, terminal_tells, found_there}
use Rattle.ipcz_world.proofs.frames.Holding.{times-has, has-times, times-holds, times-without_ends, are_held-times, holds-without_ends}
use Rattle.ipcz_world.proofs.frames.Holding.{pair_ends, times_held-at, same_end-turned}
use Rattle.ipcz_world.proofs.frames.Calling.{IsCall, call-touched, call-hands, call-flows, call-places, call-held, call-pending, call-times}
use Rattle.ipcz_world.proofs.frames.Calling.{held_unclosed}
use Rattle.ipcz_world.proofs.acts.Putting.{IsPut, inv-put_by}
use Rattle.ipcz_world.proofs.acts.Moved.{terminal_at, passes_tells}
use Rattle.ipcz_world.proofs.facts.LinkTests.{same_end-itself, same_end-tells}
use Rattle.ipcz_world.proofs.facts.Tests.{not_both}

-- the router of a key that is found in the node
pub router_found : (w : World) (n serial : ℕ) (r : Router) → get (node_at w n).routers serial ≡ Some r →
    router_at w (record { node = n; serial = serial }) ≡ Some r
unfolding router_at
router_found w n serial r h = h

-- an item more in the out queue
pub put_weight : (f : Weight) (r : Router) (item : Item) → in_router f (put_item r item) ≡ in_router f r + f r.end (next_number r) item
put_weight f r item = omega (
  arith,
  in_router-is f r,
  in_router-is f (put_item r item),
  in_pushed (f r.end) r.out_queue (next_number r) item (is_reach r.out_queue).absent,
)

-- what a put asks of the node and the terminal
pub record CanPut (n : Node) (r : Router) (p : parcels.Parcel) : Type 0 where
  pub terminal : is_terminal r ≡ true
  pub held : holds r.end n.held ≡ true
  pub self : has_end r.end p.ends ≡ false
  pub peer : has_end (opposite_end r.end) p.ends ≡ false
  pub once : are_held_once n p.ends ≡ true
  pub number : next_number r < last_number

done_dropped : (r : Router) → is_done r ≡ true → r.mark_dropped ≡ true
done_dropped r h = grind (arith, h)

-- a terminal that is open is alike in all but its queues, as it hasn't closed
pub open_alike : (w : World) (b : Books) (g : Records) (k : Key) (r y : Router) → Inv w b g → router_at w k ≡ Some r →
    is_terminal r ≡ true → is_closed b r.end ≡ false → y.end ≡ r.end → y.outward ≡ r.outward → y.inward ≡ r.inward → y.spare ≡ r.spare →
    y.marked ≡ r.marked → y.holds ≡ r.holds → y.mark_dropped ≡ r.mark_dropped → y.gone_sent ≡ r.gone_sent → IsAlike r y
open_alike w b g k r y law here t unclosed end outward inward spare marked holds_same dropped sent = record {
  end = end;
  outward = outward;
  inward = inward;
  spare = spare;
  marked = marked;
  holds = holds_same;
  done = λ h. absurd (undone h);
  dropped = λ h f. absurd (undropped (sym dropped ∙ h));
  sent = λ h f. ap (λ o. is_some (unwrap_or o no_edge).primary) inward ∙ f (sym sent ∙ h);
}
  where
    open_here : r.closed ≡ false
    open_here = law.conserved.sink k r here t ∙ unclosed

    undropped : r.mark_dropped ≡ true → ⊥
    undropped h = grind (arith, (law.shape k r here).dropped_sink h, open_here)

    undone : is_done r ≡ true → ⊥
    undone h = undropped (done_dropped r h)

module _ (w : World) (b : Books) (g : Records) (k : Key) (r : Router) (law : Inv w b g) (here : router_at w k ≡ Some r) where
  on_node : k.node < w.count
  on_node = law.counts.on_node k r here

  module _ (p : parcels.Parcel) (can : CanPut (node_at w k.node) r p) where
    abbrev put : Node
    put = put_at_router (node_at w k.node) p k.serial r

    is_call : IsCall w k r (put_item r (Parcel p)) put
    is_call = record {
      here = here;
      alike = record {
        node = refl;
        nodes = refl;
        opening = refl;
        next_router = refl;
        next_peripheral = refl;
        strays = refl;
      };
      routers = refl;
      boxes = refl;
      hand = refl;
    }

    all_held : (d : End) → times d p.ends ≤ held_times d (node_at w k.node).held
    all_held = are_held-times (node_at w k.node) p.ends can.once

    taken_out : (d : End) → held_times d (without_ends (node_at w k.node).held p.ends) + times d p.ends ≡ held_times d
        (node_at w k.node).held
    taken_out d = times-without_ends p.ends (node_at w k.node).held d (all_held d)

    unclosed : is_closed b r.end ≡ false
    unclosed = held_unclosed w b g r.end law.held_once (omega (
      arith,
      holds_times r.end (node_at w k.node).held can.held,
      times_held-at w k.node r.end on_node,
    ))

    no_pair : (d : End) → has_end d p.ends ≡ true → d.pair ≢ r.end.pair
    no_pair d h e = elim (pair_ends d r.end e) [
      | inl s ↦ absurd (not_both (has_end r.end p.ends) (ap (λ z. has_end z p.ends) (sym s) ∙ h) can.self)
      | inr s ↦ absurd (not_both (has_end (opposite_end r.end) p.ends) (ap (λ z. has_end z p.ends) (sym s) ∙ h) can.peer)
    ]

    is_put : IsPut w (set_node w k.node put) b g k r (put_item r (Parcel p)) (Parcel p)
    is_put = record {
      touched = call-touched w k r (put_item r (Parcel p)) put is_call;
      alike = open_alike w b g k r (put_item r (Parcel p)) law here can.terminal unclosed refl refl refl refl refl refl refl refl;
      terminal = can.terminal;
      out = refl;
      inn = refl;
      mark_seen = refl;
      closed = law.conserved.sink k r here can.terminal ∙ unclosed;
      mark_dropped = refl;
      gone_sent = refl;
      no_gone = refl;
      hands = call-hands w k r (put_item r (Parcel p)) put is_call;
      flows = call-flows w k r (put_item r (Parcel p)) put is_call;
      unclosed = unclosed;
      room = subst (λ n. n < last_number + 0) (law.conserved.reach k r here can.terminal) (omega (arith, can.number));
      ends = λ d h. law.end_places.held k.node d (times-holds d (node_at w k.node).held (omega (arith, times-has d p.ends h, all_held d)));
      pairs = no_pair;
      held = λ m d. call-held w k r (put_item r (Parcel p)) put is_call m d (holds-without_ends d p.ends (node_at w k.node).held);
      pending = λ m d. call-pending w k r (put_item r (Parcel p)) put is_call m d (λ h. h);
      times = λ d. omega (arith, call-times w k r (put_item r (Parcel p)) put is_call d on_node, taken_out d);
      places = λ f. omega (arith, call-places w k r (put_item r (Parcel p)) put is_call f g on_node, put_weight f r (Parcel p));
    }

    pub inv-put_at : Inv (set_node w k.node (put_at_router (node_at w k.node) p k.serial r)) (add_put b r.end (Parcel p)) g
    inv-put_at = inv-put_by w (set_node w k.node put) b g k r (put_item r (Parcel p)) (Parcel p) law is_put

  -- the mark is put at a terminal whose end was held or pending
  module _ (x : Node) (t : is_terminal r ≡ true) (is_call : IsCall w k r (close_router r) x)
      (left : (d : End) → flag (same_end d r.end) + (held_times d x.held + times d x.pending) ≡ held_times d (node_at w k.node).held + times
      d (node_at w k.node).pending)
      (held : (d : End) → holds d x.held ≡ true → holds d (node_at w k.node).held ≡ true)
      (pending : (d : End) → has_end d x.pending ≡ true → has_end d (node_at w k.node).pending ≡ true) where
    one_here : flag (same_end r.end r.end) ≡ 1
    one_here = ap flag (same_end-itself r.end)

    was_unclosed : is_closed b r.end ≡ false
    was_unclosed = held_unclosed w b g r.end law.held_once (omega (arith, left r.end, one_here, times_held-at w k.node r.end on_node))

    is_closing : IsPut w (set_node w k.node x) b g k r (close_router r) Mark
    is_closing = record {
      touched = call-touched w k r (close_router r) x is_call;
      alike = open_alike w b g k r (close_router r) law here t was_unclosed refl refl refl refl refl refl refl refl;
      terminal = t;
      out = refl;
      inn = refl;
      mark_seen = refl;
      closed = refl;
      mark_dropped = refl;
      gone_sent = refl;
      no_gone = refl;
      hands = call-hands w k r (close_router r) x is_call;
      flows = call-flows w k r (close_router r) x is_call;
      unclosed = was_unclosed;
      room = omega (
        arith,
        law.books_kept.numbers r.end,
        ap flag was_unclosed,
        ap flag (open_unretired (record { retired_closed = law.books_kept.retired_closed }) law.retired_ends r.end was_unclosed).0,
      );
      ends = λ d h. cc;
      pairs = λ d h. absurd cc;
      held = λ m d. call-held w k r (close_router r) x is_call m d (held d);
      pending = λ m d. call-pending w k r (close_router r) x is_call m d (pending d);
      times = λ d. omega (arith, call-times w k r (close_router r) x is_call d on_node, left d);
      places = λ f. omega (arith, call-places w k r (close_router r) x is_call f g on_node, close_weight f);
    }
      where
        close_weight : (f : Weight) → in_router f (close_router r) ≡ in_router f r + f r.end (next_number r) Mark
        close_weight f = omega (arith, in_router-is f (put_item r Mark), in_router-is f (close_router r), put_weight f r Mark)

    pub inv-mark_at : Inv (set_node w k.node x) (add_put b r.end Mark) g
    inv-mark_at = inv-put_by w (set_node w k.node x) b g k r (close_router r) Mark law is_closing

-- what is passed if a refusal has a test
pub passes_by : (c : Bool) (e : Refusal) (o : Option Refusal) → cond c (Some e) o ≡ None → (c ≡ false) × (o ≡ None)
passes_by true e o h = cc
passes_by false e o h = (refl, h)

pub not_false : (c : Bool) → not c ≡ false → c ≡ true
not_false true h = refl
not_false false h = cc

-- a terminal that is found if a refusal asks for one
pub found_by : (o : Option Found) (why : Router → Option Refusal) → refusal_at o why ≡ None →
    (f : Found) × (o ≡ Some f) × (why f.router ≡ None)
unfolding refusal_at
found_by None why h = cc
found_by (Some f) why h = (f, refl, h)

not_least : (m n : ℕ) → nat_le m n ≡ false → n < m
not_least m n h = grind (arith, h, nat_tests)

pub put_tells : (profile : Profile) (n : Node) (at : End) (p : parcels.Parcel) → put_refusal profile n at p.bytes p.ends ≡ None →
    (f : Found) × (terminal_of n at ≡ Some f) × IsTerminalOf n at f.serial f.router × CanPut n f.router p
unfolding put_refusal
put_tells profile n at p h =
    let a = passes_by (not (holds_end n at)) _ _ h in
    let b = passes_by (nat_lt (most_bytes profile) (length p.bytes) || nat_lt most_ends (length p.ends)) _ _ a.1 in
    let c = passes_by (not (takes_bytes profile p.bytes)) _ _ b.1 in
    let d = passes_by (has_end at p.ends) _ _ c.1 in
    let e = passes_by (has_end (opposite_end at) p.ends) _ _ d.1 in
    let f = passes_by (not (are_held_once n p.ends)) _ _ e.1 in
    let t = found_by (terminal_of n at) router_put_refusal f.1 in
    let is = terminal_tells n at t.0 t.1 in
    let u = passes_by t.0.router.mark_seen _ _ t.2 in
    let v = passes_by (nat_le last_number (next_number t.0.router)) _ _ u.1 in (
      t.0,
      t.1,
      is,
      record {
        terminal = is.terminal;
        held = ap (λ z. holds z n.held) is.end ∙ not_false (holds_end n at) a.0;
        self = ap (λ z. has_end z p.ends) is.end ∙ d.0;
        peer = ap (λ z. has_end (opposite_end z) p.ends) is.end ∙ e.0;
        once = not_false (are_held_once n p.ends) f.0;
        number = not_least last_number (next_number t.0.router) v.0;
      },
    )

-- a put that isn't refused
pub inv-put : (profile : Profile) (w : World) (b : Books) (g : Records) (n : ℕ) (at : End) (p : parcels.Parcel) → Inv w b g →
    put_refusal profile (node_at w n) at p.bytes p.ends ≡ None → Inv (set_node w n (put_node (node_at w n) at p)) (add_put b at (Parcel p)) g
unfolding on_found
inv-put profile w b g n at p law h =
    let t = put_tells profile (node_at w n) at p h in
    let k : Key = record { node = n; serial = t.0.serial } in
    let done = inv-put_at w b g k t.0.router law (router_found w n t.0.serial t.0.router t.2.here) p t.3 in
    subst (λ o. Inv (set_node w n (on_found (node_at w n) o (put_at_router (node_at w n) p))) (add_put b at (Parcel p)) g) (sym t.1)
    (subst (λ e. Inv (set_node w n (put_at_router (node_at w n) p t.0.serial t.0.router)) (add_put b e (Parcel p)) g) t.2.end done)

-- the mark at the terminal that is found in a node
close_found : (w : World) (b : Books) (g : Records) (n : ℕ) (at : End) (x : Node) (f : Found) → Inv w b g →
    IsTerminalOf (node_at w n) at f.serial f.router → terminal_of x at ≡ Some f → x.routers ≡ (node_at w n).routers →
    ((d : End) → flag (same_end d at) + (held_times d x.held + times d x.pending) ≡ held_times d (node_at w n).held + times d
    (node_at w n).pending) →
    ((d : End) → holds d x.held ≡ true → holds d (node_at w n).held ≡ true) →
    ((d : End) → has_end d x.pending ≡ true → has_end d (node_at w n).pending ≡ true) →
    IsCall w (record { node = n; serial = f.serial }) f.router (close_router f.router) (close_at_router x f.serial f.router) →
    Inv (set_node w n (close_end x at)) (add_put b at Mark) g
unfolding on_found
close_found w b g n at x f law is found routers left held pending call =
    let k : Key = record { node = n; serial = f.serial } in
    let done = inv-mark_at w b g k f.router law (router_found w n f.serial f.router is.here) (close_at_router x f.serial f.router)
    is.terminal call
    (λ d. subst (λ e. flag (same_end d e) + (held_times d x.held + times d x.pending) ≡ held_times d (node_at w n).held + times d
    (node_at w n).pending) (sym is.end) (left d)) held pending in
    subst (λ o. Inv (set_node w n (on_found x o (close_at_router x))) (add_put b at Mark) g) (sym found)
    (subst (λ e. Inv (set_node w n (close_at_router x f.serial f.router)) (add_put b e Mark) g) is.end done)

-- a caller's close that isn't refused
pub inv-close : (w : World) (b : Books) (g : Records) (n : ℕ) (at : End) → Inv w b g → close_refusal (node_at w n) at ≡ None →
    Inv (set_node w n (close_node (node_at w n) at)) (add_put b at Mark) g
unfolding close_refusal
inv-close w b g n at law h = close_found w b g n at x t.0 law is t.1 refl left (λ d. holds-without_ends d (at ∷ []) (node_at w n).held)
    (λ d h. h)
    (record {
      here = here;
      alike = record {
        node = refl;
        nodes = refl;
        opening = refl;
        next_router = refl;
        next_peripheral = refl;
        strays =
            refl;
      };
      routers = refl;
      boxes = refl;
      hand = refl;
    })
  where
    x : Node
    x = record (node_at w n) { held = without_ends (node_at w n).held (at ∷ []) }

    a : (not (holds_end (node_at w n) at) ≡ false) × (refusal_at (terminal_of (node_at w n) at) (λ r. None) ≡ None)
    a = passes_by (not (holds_end (node_at w n) at)) _ _ h

    t : (f : Found) × (terminal_of (node_at w n) at ≡ Some f)
    t = let q = found_by (terminal_of (node_at w n) at) (λ r. None) a.1 in (q.0, q.1)

    is : IsTerminalOf (node_at w n) at t.0.serial t.0.router
    is = terminal_tells (node_at w n) at t.0 t.1

    here : router_at w (record { node = n; serial = t.0.serial }) ≡ Some t.0.router
    here = router_found w n t.0.serial t.0.router is.here

    all_held : (d : End) → times d (at ∷ []) ≤ held_times d (node_at w n).held
    all_held d = elim (end_tells at d) [
      | inl q ↦ omega (
        arith,
        ap flag q.0,
        ap (λ z. held_times z (node_at w n).held) q.1,
        holds_times at (node_at w n).held (not_false (holds_end (node_at w n) at) a.0),
      )
      | inr q ↦ omega (arith, ap flag q.0)
    ]

    left : (d : End) → flag (same_end d at) + (held_times d (without_ends (node_at w n).held (at ∷ [])) + times d (node_at w n).pending) ≡
        held_times d (node_at w n).held + times d (node_at w n).pending
    left d = omega (arith, times-without_ends (at ∷ []) (node_at w n).held d (all_held d), ap flag (same_end-turned d at))

-- the first end that is pending
pending_tells : (es : List End) (e : End) → is_first_pending es e ≡ true → (rest : List End) × (es ≡ e ∷ rest)
unfolding is_first_pending
pending_tells [] e h = cc
pending_tells (d ∷ es) e h = (es, ap (λ z. z ∷ es) (same_end-tells d e h))

-- an open end whose terminal is at a node has it found there
pub terminal_there : (w : World) (b : Books) (g : Records) (n : ℕ) (e : End) → Inv w b g → terminal_node (g.terminal e) ≡ Some n →
    is_closed b e ≡ false → (f : Found) × (terminal_of (node_at w n) e ≡ Some f)
unfolding router_at
terminal_there w b g n e law h unclosed =
    let k = terminal_at (g.terminal e) n h in
    let p = passes_tells w k.0 (λ r. is_terminal r && same_end r.end e) (law.terminals.stands e k.0 k.1) in
    let t : is_terminal p.0 ≡ true = both_first _ _ p.2 in
    let s : same_end p.0.end e ≡ true = both_second _ _ p.2 in
    let c : p.0.closed ≡ false = law.conserved.sink k.0 p.0 p.1 t ∙ ap (is_closed b) (same_end-tells p.0.end e s) ∙ unclosed in
    found_there (node_at w n) (is_terminal_of e) k.0.serial p.0 (subst (λ m. get (node_at w m).routers k.0.serial ≡ Some p.0) k.2 p.1)
    (rw (t, c, s) refl)
  where
    both_first : (x y : Bool) → (x && y) ≡ true → x ≡ true
    both_first true y q = refl
    both_first false y q = cc

    both_second : (x y : Bool) → (x && y) ≡ true → y ≡ true
    both_second true y q = q
    both_second false y q = cc

-- a close that is pending
pub inv-pending : (w : World) (b : Books) (g : Records) (n : ℕ) (e : End) → Inv w b g → can_take w n (Close e) ≡ true →
    Inv (after_act w n (Close e)) (add_put b e Mark) g
unfolding can_take after_act commit rest_of
inv-pending w b g n e law h = close_found w b g n e x f.0 law is f.1 refl left (λ d h. h) (λ d. pending d)
    (record {
      here = here;
      alike = record {
        node = refl;
        nodes = refl;
        opening = refl;
        next_router = refl;
        next_peripheral = refl;
        strays =
            refl;
      };
      routers = refl;
      boxes = refl;
      hand = refl;
    })
  where
    x : Node
    x = record (node_at w n) { pending = rest_of (node_at w n).pending }

    first : (rest : List End) × ((node_at w n).pending ≡ e ∷ rest)
    first = pending_tells (node_at w n).pending e h

    rest_is : rest_of (node_at w n).pending ≡ first.0
    rest_is = ap rest_of first.1

    has : has_end e (node_at w n).pending ≡ true
    has = ap (has_end e) first.1 ∙ ap (λ c. c || has_end e first.0) (same_end-itself e)

    known : (k : Key) × (g.terminal e ≡ At k) × (k.node ≡ n)
    known = terminal_at (g.terminal e) n (law.end_places.pending n e has)

    below : n < w.count
    below = let p = passes_tells w known.0 (λ r. is_terminal r && same_end r.end e) (law.terminals.stands e known.0 known.1) in
        subst (λ m. m < w.count) known.2 (law.counts.on_node known.0 p.0 p.1)

    unclosed : is_closed b e ≡ false
    unclosed = held_unclosed w b g e law.held_once (omega (arith, times_held-at w n e below, times-has e (node_at w n).pending has))

    f : (f : Found) × (terminal_of (node_at w n) e ≡ Some f)
    f = terminal_there w b g n e law (law.end_places.pending n e has) unclosed

    is : IsTerminalOf (node_at w n) e f.0.serial f.0.router
    is = terminal_tells (node_at w n) e f.0 f.1

    here : router_at w (record { node = n; serial = f.0.serial }) ≡ Some f.0.router
    here = router_found w n f.0.serial f.0.router is.here

    left : (d : End) → flag (same_end d e) + (held_times d (node_at w n).held + times d (rest_of (node_at w n).pending)) ≡ held_times d
        (node_at w n).held + times d (node_at w n).pending
    left d = omega (arith, ap (times d) rest_is, ap (times d) first.1, ap flag (same_end-turned d e))

    pending : (d : End) → has_end d (rest_of (node_at w n).pending) ≡ true → has_end d (node_at w n).pending ≡ true
    pending d q = has-times d (node_at w n).pending (omega (
      arith,
      times-has d (rest_of (node_at w n).pending) q,
      ap (times d) rest_is,
      ap (times d) first.1,
    ))
