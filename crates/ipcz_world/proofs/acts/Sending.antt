-- A router sends the current item of a queue, without ends that move: all that holds is kept.
use Rattle.ipcz_world.proofs.frames.Opened.{links-open, positions-open}
use Rattle.ipcz_world.proofs.frames.GonesKept.{IsGoneRight, gones-one}
use Rattle.ipcz_world.proofs.frames.OfRecords.{holds, held_times, source, in_message, in_places}
use Rattle.std.specs.Prelude.{◌≡◌, ◌⊎◌, ◌≤◌, ◌<◌, ◌+◌, ℕ, true, false, Option, Some, None, refl, List, [], length, slice_get}
use Rattle.std.proofs.Common.{arith, ap, subst, ◌∙◌, sym, inl, inr}
use Rattle.std.proofs.lemmas.Bool.Decides.{nat_tests}
use Rattle.ipcz_world.proofs.Vocabulary.{Side, End, LinkId, Central, LinkEnd, Descriptor, Item, Message, opposite, has_end, Router, is_terminal, Node}
use Rattle.ipcz_world.proofs.Vocabulary.{with_router, ends_in, World, Key, node_at, router_at, flow, set_node, Books, Records, is_recorded, side_node}
use Rattle.ipcz_world.proofs.Vocabulary.{side_length, side_router, inner_link, terminal_node, Standing, is_attached, view, next_sent, is_gone}
use Rattle.ipcz_world.proofs.Vocabulary.{is_awaited, sending_queue, IsUnderWay, of_end, moves_of, Weight, in_router, at_end, names_end, times}
use Rattle.ipcz_world.proofs.Vocabulary.{total_list, total_below, Counts, Links, Positions, Controls, of_bypass, EndPlaces, BooksKept, Conserved}
use Rattle.ipcz_world.proofs.Vocabulary.{HeldOnce, times_held, Items, Order, FreshNumbers, has_passed, standing_router, Inv, reach, push_out}
use Rattle.ipcz_world.proofs.Vocabulary.{is_made_by}
use Rattle.ipcz_base.specs.declared.message.Message.TheVariants as messages
use Rattle.ipcz_world.proofs.frames.Frames.{node-set_node, word-set_node, mail-set_node, claimed-set_node, size-set_node, count-set_node}
use Rattle.ipcz_world.proofs.frames.Frames.{same_key_tells, same_key-itself}
use Rattle.ipcz_world.proofs.frames.Opened.{OpenInv, OpenMoves, HasEnds, opened, closed}
use Rattle.ipcz_world.proofs.frames.Touching.{IsTouched, IsAlike, HasSameHands, HasSameEnds, hands-same, recorded_same, counts-touched}
use Rattle.ipcz_world.proofs.frames.Touching.{shape-touched, roles-touched, stands-touched, words-touched}
use Rattle.ipcz_world.proofs.frames.Touching.{spares-touched, bypasses-touched, stages-touched, terminals-touched}
use Rattle.ipcz_world.proofs.frames.Seen.{attached_same}
use Rattle.ipcz_world.proofs.frames.Draining.{IsDrained, IsDraining, below_drained, has_passed-mono, gone_same, awaited_same, taken_before}
use Rattle.ipcz_world.proofs.frames.Draining.{drained_before, ordered-drained, order-drained, proxy_numbers-drained, own-drained}
use Rattle.ipcz_world.proofs.frames.Draining.{other-drained, view_rules, next_sent-standing, standing-standing}
use Rattle.ipcz_world.proofs.frames.Fitting.{ItemFits, fits_of, items_by, fits-drained}
use Rattle.ipcz_world.proofs.frames.Flowing.{IsPushed, came_pushed, made_last, under_way-pushed}
use Rattle.ipcz_world.proofs.frames.Changing.{IsNodeChanged, touched_by, pushed_by}
use Rattle.ipcz_world.proofs.frames.Weighing.{in_places-is, in_nodes-changed, in_node-changed, in_message-item}
use Rattle.ipcz_world.proofs.frames.Known.{not_there_yet, node_of_router, fresh_central}
use Rattle.ipcz_world.proofs.frames.Calling.{router_here}
use Rattle.ipcz_world.proofs.facts.Lengths.{view-standing}
use Rattle.ipcz_world.proofs.frames.Sums.{total_below-same}
use Rattle.ipcz_world.proofs.frames.EndsKept.{ends-kept}

-- an item of a router leaves for a link's other side
abbrev pub send_act : World → Key → Router → LinkId → Side → ℕ → ℕ → Item → World
send_act w k y link s to n item = set_node w k.node (push_out (with_router (node_at w k.node) k.serial y) to
    (messages.Item link s n item []))

-- an item leaves for a link's other side, where the router stands, below the link's length, and the receiver isn't gone
pub record IsSent (w : World) (g : Records) (k : Key) (r y : Router) (link : LinkId) (s : Side) (to n : ℕ) (item : Item) : Type 0 where
  pub here : router_at w k ≡ Some r
  pub alike : IsAlike r y
  pub closed : y.closed ≡ r.closed
  pub mark_seen : y.mark_seen ≡ r.mark_seen
  pub current : is_terminal r ≡ true → y.in_queue.current ≡ r.in_queue.current
  pub router : side_router g link (opposite s) ≡ Some k
  pub attached : is_attached link (opposite s) r ≡ true
  pub sends : (sending_queue link (opposite s) r).current ≡ n
  pub rises : (sending_queue link (opposite s) y).current ≡ n + 1
  pub recorded : is_recorded w g link ≡ true
  pub receiver : to ≡ side_node g link s
  pub below : (length : ℕ) → side_length g link (opposite s) ≡ Some length → n < length
  pub there : is_gone (view w g link s) ≡ false
  pub low : (c o : ℕ) → link ≡ Central c → (g.central c).router s ≡ None → (g.central c).born ≡ Some o → (g.bypass o).taken_at ≤ n
  pub made : is_awaited (view w g link s) ≡ true → is_made_by link s (flow w k.node to) ≡ true
  pub ends : (e : End) → has_end e (ends_in item) ≡ true → terminal_node (g.terminal e) ≡ Some k.node
  pub fresh : (c : ℕ) → link ≡ Central c → r.out_queue.current ≡ n

-- what a send rests on: the item is the current one of the queue that feeds the link
pub record IsSend (w : World) (g : Records) (k : Key) (r y : Router) (link : LinkId) (s : Side) (to n : ℕ) (item : Item) : Type 0 where
  pub sent : IsSent w g k r y link s to n item
  pub open sent use *
  pub out : IsDrained r.out_queue y.out_queue
  pub inn : IsDrained r.in_queue y.in_queue
  pub next : reach y.out_queue ≡ reach r.out_queue
  pub weight : (f : Weight) → in_router f y + f (source g link s) n item ≡ in_router f r
  pub right : (b : Books) → OpenInv w b g → IsGoneRight b g y

pub not_passed_by : (length : Option ℕ) (n : ℕ) → ((l : ℕ) → length ≡ Some l → n < l) → has_passed length n ≡ false
unfolding has_passed
not_passed_by None n h = refl
not_passed_by (Some l) n h = grind (arith, h l refl, nat_tests)

pub about-item : (g : Records) (o : ℕ) (h : Message → ℕ) (link : LinkId) (s : Side) (n : ℕ) (item : Item) (moves : List Descriptor) →
    of_bypass g o h (messages.Item link s n item moves) ≡ 0
unfolding of_bypass
about-item g o h link s n item moves = refl

pub moves-item : (link : LinkId) (s : Side) (n : ℕ) (item : Item) (moves : List Descriptor) →
    moves_of (messages.Item link s n item moves) ≡ moves
unfolding moves_of
moves-item link s n item moves = refl

pub times_same : (w v : World) → HasSameEnds w v → (e : End) → times_held v e ≡ times_held w e
times_same w v same e = ap (λ c. total_below c (λ n. held_times e (node_at v n).held + times e (node_at v n).pending)) same.count ∙
    total_below-same w.count (λ n. held_times e (node_at v n).held + times e (node_at v n).pending)
    (λ n. held_times e (node_at w n).held + times e (node_at w n).pending) (λ j. grind (arith, same.held j, same.pending j))

module _ (w v : World) (b : Books) (g : Records) (k : Key) (r y : Router) (link : LinkId) (s : Side) (to n : ℕ) (item : Item)
    (is : IsSent w g k r y link s to n item) (d : IsDraining w v k r y) (p : IsPushed w v k.node to (messages.Item link s n item [])) where
  stands : view w g link (opposite s) ≡ Standing r
  stands = view-standing w g link (opposite s) k r is.router is.here is.attached

  swapped : view v g link (opposite s) ≡ Standing y
  swapped = view-standing v g link (opposite s) k y is.router (d.touched.router k ∙ grind (arith, same_key-itself k))
      (attached_same r y d.alike link (opposite s) ∙ is.attached)

  -- the new message fits
  pub fits-sent : Links w g → Order w g → ItemFits v g k.node to (length (flow w k.node to)) link s n
  fits-sent links order = record {
    recorded = recorded_same w v k r y g d.touched link ∙ is.recorded;
    sender = sym (node_of_router g link (opposite s) k is.router);
    receiver = is.receiver;
    below_length = is.below;
    was_sent = λ u h. grind (arith, h, swapped, next_sent-standing link (opposite s) y, is.rises);
    by_sender = grind (arith, swapped, view_rules);
    sender_gone = λ h. grind (arith, h, swapped, view_rules);
    not_passed = λ z h. let q = taken_before w v k r y g d link s z h in
        let sent : next_sent link (opposite s) (view w g link (opposite s)) ≡ Some n =
        grind (arith, stands, next_sent-standing link (opposite s) r, is.sends) in
        let low : has_passed (side_length g link (opposite s)) n ≡ false = not_passed_by (side_length g link (opposite s)) n is.below in
        let le : q.0.current ≤ n = order.current link s n q.0 is.recorded sent q.1 low in
        below_drained q.0 z n q.2 le (λ x at. order.stored link s n q.0 q.0.current x is.recorded sent q.1 at
        (has_passed-mono (side_length g link (opposite s)) q.0.current n le low));
    behind = λ h. made_last w v k.node to (messages.Item link s n item []) p link s
        (is.made (sym (awaited_same w v k r y g d.touched d.alike link s) ∙ h));
    not_awaited_low = is.low;
    receiver_there = gone_same w v k r y g d.touched d.alike link s ∙ is.there;
  }

  pub items-sent : Counts w g → Links w g → Order w g → Conserved w b g → Items w g → Items v g
  items-sent counts links order conserved law = items_by v g (λ from to' i l t m x moves u. elim
      (came_pushed w v k.node to (messages.Item link s n item []) p from to' i (messages.Item l t m x moves) u) [
        | inl c ↦ fits-drained w v k r y g from to' i c.at l t m d (fits_of w g from to' c.at l t m x moves law c.was) (c.made l t)
            (λ q h. not_there_yet w b g from to' c.at l t m x moves q conserved counts links c.was h)
        | inr c ↦ sent from to' i l t m x moves c.sender c.receiver c.at c.message
      ])
    where
      sent : (from to' i : ℕ) (l : LinkId) (t : Side) (m : ℕ) (x : Item) (moves : List Descriptor) → from ≡ k.node → to' ≡ to →
          i ≡ length (flow w k.node to) → messages.Item l t m x moves ≡ messages.Item link s n item [] → ItemFits v g from to' i l t m
      sent from to' i l t m x moves a c e same =
          subst (λ f. ItemFits v g f to' i l t m) (sym a) (subst (λ f. ItemFits v g k.node f i l t m) (sym c)
          (subst (λ f. ItemFits v g k.node to f l t m) (sym e)
          (subst (λ f. ItemFits v g k.node to (length (flow w k.node to)) f t m) (grind (arith, same))
          (subst (λ f. ItemFits v g k.node to (length (flow w k.node to)) link f m) (grind (arith, same))
          (subst (λ f. ItemFits v g k.node to (length (flow w k.node to)) link s f) (grind (arith, same)) (fits-sent links order))))))

  pub controls-sent : Controls w g → Controls v g
  controls-sent law = record {
    control = λ o h. omega (
      arith,
      law.control o h,
      under_way-pushed (λ from to. of_bypass g o (h from to)) w v k.node to
          (messages.Item link s n item []) p,
      about-item g o (h k.node to) link s n item [],
    );
    will_stop = λ from to' i l t m u. elim (came_pushed w v k.node to (messages.Item link s n item []) p from to' i
        (messages.ProxyWillStop l t m) u) [
          | inl c ↦ law.will_stop from to' c.at l t m c.was
          | inr c ↦ absurd (grind (arith, c.message))
        ];
    behind = λ from to' i l t old target fresh u e. elim (came_pushed w v k.node to (messages.Item link s n item []) p from to' i
        (messages.BypassPeer l t old target fresh) u) [
          | inl c ↦ c.made l t (law.behind from to' c.at l t old target fresh c.was e)
          | inr c ↦ absurd (grind (arith, c.message))
        ];
    flush_central = λ from to' i l t u. law.flush_central from to' (flush from to' i l t u).0 l t (flush from to' i l t u).1;
    flush_recorded = λ from to' i l t u. recorded_same w v k r y g d.touched l ∙ law.flush_recorded from to' (flush from to' i l t u).0 l t
        (flush from to' i l t u).1;
    flush_to = λ from to' i l t u. law.flush_to from to' (flush from to' i l t u).0 l t (flush from to' i l t u).1;
    flush_from = λ from to' i l t u. law.flush_from from to' (flush from to' i l t u).0 l t (flush from to' i l t u).1;
  }
    where
      flush : (from to' i : ℕ) (l : LinkId) (t : Side) → IsUnderWay v from to' i (messages.Flush l t) →
          (j : ℕ) × IsUnderWay w from to' j (messages.Flush l t)
      flush from to' i l t u = elim (came_pushed w v k.node to (messages.Item link s n item []) p from to' i (messages.Flush l t) u) [
        | inl c ↦ (c.at, c.was)
        | inr c ↦ absurd (grind (arith, c.message))
      ]

  -- a descriptor under way was so before
  carried : (from to' i j : ℕ) (m : Message) (e : Descriptor) → IsUnderWay v from to' i m → slice_get (moves_of m) j ≡ Some e →
      (x : ℕ) × IsUnderWay w from to' x m
  carried from to' i j m e u h = elim (came_pushed w v k.node to (messages.Item link s n item []) p from to' i m u) [
    | inl c ↦ (c.at, c.was)
    | inr c ↦ absurd (grind (arith, h, c.message, moves-item link s n item []))
  ]

  pub ends-sent : (k.node ≡ to) ⊎ (ends_in item ≡ []) → HasEnds w → HasEnds v
  ends-sent plain law from to' i l t m x moves u ne = elim (came_pushed w v k.node to (messages.Item link s n item []) p from to' i
      (messages.Item l t m x moves) u) [
        | inl c ↦ law from to' c.at l t m x moves c.was ne
        | inr c ↦ grind (arith, c.message, c.sender, c.receiver, plain, ne)
      ]

  pub moves-sent : OpenMoves w g → OpenMoves v g
  moves-sent law = record {
    within = λ a i l t m x moves u. elim (came_pushed w v k.node to (messages.Item link s n item []) p a a i (messages.Item l t m x moves)
        u) [
          | inl c ↦ law.within a c.at l t m x moves c.was
          | inr c ↦ grind (arith, c.message)
        ];
    recorded = λ from to' i j m e u h. let c = carried from to' i j m e u h in
        recorded_same w v k r y g d.touched e.link ∙ law.recorded from to' c.0 j m e c.1 h;
    peripheral = λ from to' i j m e u h. let c = carried from to' i j m e u h in law.peripheral from to' c.0 j m e c.1 h;
    sender = λ from to' i j m e u h. let c = carried from to' i j m e u h in law.sender from to' c.0 j m e c.1 h;
    receiver = λ from to' i j m e u h. let c = carried from to' i j m e u h in law.receiver from to' c.0 j m e c.1 h;
    awaited = λ from to' i j m e u h. let c = carried from to' i j m e u h in law.awaited from to' c.0 j m e c.1 h;
    end = λ from to' i j m e u h. let c = carried from to' i j m e u h in law.end from to' c.0 j m e c.1 h;
    one = λ e h. omega (
      arith,
      law.one e h,
      under_way-pushed (λ from to m. total_list (of_end e h) (moves_of m)) w v k.node to
          (messages.Item link s n item []) p,
      ap (total_list (of_end e h)) (moves-item link s n item []),
    );
    moving = λ q h a. law.moving q (sym (recorded_same w v k r y g d.touched (inner_link q)) ∙ h) a;
  }

  pub fresh_numbers-sent : Positions w g → Links w g → FreshNumbers w g → FreshNumbers v g
  fresh_numbers-sent positions links law q x at = record {
    own = own-drained w v k r y g d law q x at;
    comes = λ e f len from to' i m z moves on off h u. let c = drained_before w v k r y g d q x at in
        elim (came_pushed w v k.node to (messages.Item link s n item []) p from to' i (messages.Item e.link e.side m z moves) u) [
          | inl a ↦ (law q c.0 c.1).comes e f len from to' a.at m z moves (grind (arith, c.4, on)) (grind (arith, c.4, off)) h a.was
          | inr a ↦ new q c.0 e f len m z moves c.1 (grind (arith, c.4, on)) (grind (arith, c.4, off)) h a.message
        ];
    other = other-drained w v k r y g d law q x at;
  }
    where
      new : (q : Key) (x : Router) (e f : LinkEnd) (len m : ℕ) (z : Item) (moves : List Descriptor) → router_at w q ≡ Some x →
          x.outward.primary ≡ Some e → x.outward.decaying ≡ Some f →
          side_length g f.link (opposite f.side) ≡ Some len → messages.Item e.link e.side m z moves ≡ messages.Item link s n item [] →
          len ≤ m
      new q x e f len m z moves at on off h same =
          let c = fresh_central w g q x e f positions at on off in let l : e.link ≡ link = grind (arith, same) in let t : e.side ≡ s =
          grind (arith, same) in let num : m ≡ n = grind (arith, same) in
          let there : standing_router (view w g e.link (opposite e.side)) ≡ Some r =
          subst (λ a. standing_router (view w g a (opposite e.side)) ≡ Some r) (sym l)
          (subst (λ a. standing_router (view w g link (opposite a)) ≡ Some r) (sym t) (ap standing_router stands ∙ standing-standing r))
          in
          omega (arith, (law q x at).other r e f len on off h there, is.fresh c.0 (sym l ∙ c.1), num)

  pub end_places-sent : HasSameEnds w v → EndPlaces w g → EndPlaces v g
  end_places-sent same law = record {
    held = λ a e h. law.held a e (subst (λ f. holds e f ≡ true) (same.held a) h);
    pending = λ a e h. law.pending a e (subst (λ f. has_end e f ≡ true) (same.pending a) h);
    each = λ q x at. let c = drained_before w v k r y g d q x at in
        ends-kept {g = g} {h = g} {r = c.0} (λ e. refl) c.2.keeps c.3.keeps (law.each q c.0 c.1);
    within = λ a i l t m z moves e u has. elim (came_pushed w v k.node to (messages.Item link s n item []) p a a i
        (messages.Item l t m z moves) u) [
          | inl c ↦ law.within a c.at l t m z moves e c.was has
          | inr c ↦ is.ends e (grind (arith, c.message, has)) ∙ ap Some (sym c.sender)
        ];
  }

  pub books_kept-sent : BooksKept w b g → BooksKept v b g
  books_kept-sent law = record {
    own_pair = law.own_pair;
    mark_last = law.mark_last;
    gone_last = law.gone_last;
    retired_closed = law.retired_closed;
    numbers = law.numbers;
    mark_seen = λ q x at m. grind (
      arith,
      d.touched.router q,
      same_key_tells q k,
      d.touched.here,
      d.alike.end,
      is.mark_seen,
      law.mark_seen q x,
      law.mark_seen k r,
    );
  }

  pub conserved-sent : reach y.out_queue ≡ reach r.out_queue → ((f : Weight) → in_places f g v ≡ in_places f g w) → Conserved w b g → Conserved v b g
  conserved-sent next places law = record {
    exact = λ e h. places (at_end e h) ∙ law.exact e h;
    read_put = law.read_put;
    prefix = law.prefix;
    gone_closed = law.gone_closed;
    reach = λ q x at t. grind (
      arith,
      d.touched.router q,
      same_key_tells q k,
      d.touched.here,
      d.alike.end,
      d.alike.inward,
      next,
      law.reach q x,
      law.reach k r,
    );
    current = λ q x at t. grind (
      arith,
      d.touched.router q,
      same_key_tells q k,
      d.touched.here,
      d.alike.end,
      d.alike.inward,
      is.current,
      law.current q x,
      law.current k r,
    );
    sink = λ q x at t. grind (
      arith,
      d.touched.router q,
      same_key_tells q k,
      d.touched.here,
      d.alike.end,
      d.alike.inward,
      is.closed,
      law.sink q x,
      law.sink k r,
    );
    move_out = λ from to' i j m e u h. let c = carried from to' i j m e u h in law.move_out from to' c.0 j m e c.1 h;
    move_in = λ from to' i j m e u h. let c = carried from to' i j m e u h in law.move_in from to' c.0 j m e c.1 h;
    move_open = λ from to' i j m e u h. let c = carried from to' i j m e u h in law.move_open from to' c.0 j m e c.1 h;
    unopened_put = law.unopened_put;
    unopened_got = law.unopened_got;
  }

  pub held_once-sent : ((e : End) → in_places (names_end e) g v ≡ in_places (names_end e) g w) → HasSameEnds w v → HeldOnce w b g → HeldOnce v b g
  held_once-sent places same law = record {
    once = λ e. grind (arith, places e, times_same w v same e, law.once e);
    moves_in_parcel = λ from to' i l t m x moves j e u h. elim (came_pushed w v k.node to (messages.Item link s n item []) p from to' i
        (messages.Item l t m x moves) u) [
          | inl c ↦ law.moves_in_parcel from to' c.at l t m x moves j e c.was h
          | inr c ↦ absurd (grind (arith, c.message, h))
        ];
  }

-- the world that a send leads to
module _ (w : World) (b : Books) (g : Records) (k : Key) (r y : Router) (link : LinkId) (s : Side) (to n : ℕ) (item : Item)
    (law : OpenInv w b g) (is : IsSend w g k r y link s to n item) where
  abbrev after : Node
  after = push_out (with_router (node_at w k.node) k.serial y) to (messages.Item link s n item [])

  changed : IsNodeChanged w (send_act w k y link s to n item) k.node after
  changed = record {
    node = λ j. node-set_node w k.node after j;
    word = λ i. word-set_node w k.node after i;
    claimed =
        claimed-set_node w k.node after;
    size = size-set_node w k.node after;
    count = count-set_node w k.node after;
  }

  touched : IsTouched w (send_act w k y link s to n item) k r y
  touched = touched_by w (send_act w k y link s to n item) k r y after changed
      (record { node = refl; nodes = refl; opening = refl; next_router = refl; next_peripheral = refl; strays = refl }) refl is.here

  pub draining : IsDraining w (send_act w k y link s to n item) k r y
  draining = record { touched = touched; alike = is.alike; out = is.out; inn = is.inn }

  pub pushed : IsPushed w (send_act w k y link s to n item) k.node to (messages.Item link s n item [])
  pushed = pushed_by w (send_act w k y link s to n item) k.node to after (messages.Item link s n item []) changed
      (λ i. mail-set_node w k.node after i) refl (law.counts.on_node k r is.here)
      (subst (λ f. f < w.count) (sym is.receiver) (law.counts.side_on_node link s is.recorded))

-- all together
pub inv-sent : (w : World) (b : Books) (g : Records) (k : Key) (r y : Router) (link : LinkId) (s : Side) (to n : ℕ) (item : Item) →
    OpenInv w b g → IsSend w g k r y link s to n item → OpenInv (send_act w k y link s to n item) b g
inv-sent w b g k r y link s to n item law is = record {
  counts = counts-touched w v k r y g t is.alike law.counts (hands-same w v g law.counts c.count hands);
  ordered = ordered-drained w v k r y g d law.ordered;
  shape = shape-touched w v k r y g t is.alike law.shape;
  roles = roles-touched w v k r y g t is.alike law.roles;
  begun = law.begun;
  stands = stands-touched w v k r y g t is.alike law.stands;
  words = words-touched w v k r y g t is.alike law.words;
  spares = spares-touched w v k r y g t is.alike law.spares;
  bypasses = bypasses-touched w v k r y g t is.alike law.bypasses;
  live = law.live;
  stages = stages-touched w v k r y g t is.alike law.stages;
  controls = controls-sent w v b g k r y link s to n item is.sent d p law.controls;
  moves = moves-sent w v b g k r y link s to n item is.sent d p law.moves;
  terminals = terminals-touched w v k r y g t is.alike law.terminals;
  end_places = end_places-sent w v b g k r y link s to n item is.sent d p ends law.end_places;
  books_kept = books_kept-sent w v b g k r y link s to n item is.sent d p law.books_kept;
  retired_ends = law.retired_ends;
  gones = gones-one w v b g k y t.router (is.right b law) law.gones;
  items = items-sent w v b g k r y link s to n item is.sent d p law.counts (links-open law) law.order law.conserved law.items;
  order = order-drained w v k r y g d law.order;
  proxy_numbers = proxy_numbers-drained w v k r y g d law.proxy_numbers;
  fresh_numbers = fresh_numbers-sent w v b g k r y link s to n item is.sent d p (positions-open law) (links-open law) law.fresh_numbers;
  conserved = conserved-sent w v b g k r y link s to n item is.sent d p is.next places law.conserved;
  held_once = held_once-sent w v b g k r y link s to n item is.sent d p (λ e. places (names_end e)) ends law.held_once;
  no_strays = λ j. t.strays j ∙ law.no_strays j;
}
  where
    x : Node
    x = after w b g k r y link s to n item law is

    v : World
    v = send_act w k y link s to n item

    c : IsNodeChanged w v k.node x
    c = changed w b g k r y link s to n item law is

    d : IsDraining w v k r y
    d = draining w b g k r y link s to n item law is

    t : IsTouched w v k r y
    t = d.touched

    p : IsPushed w v k.node to (messages.Item link s n item [])
    p = pushed w b g k r y link s to n item law is

    hands : HasSameHands w v
    hands = record { hand = λ j. grind (arith, c.node j, nat_tests); mail = λ i. mail-set_node w k.node x i }

    ends : HasSameEnds w v
    ends = record { count = c.count; held = λ j. grind (arith, c.node j, nat_tests); pending = λ j. grind (arith, c.node j, nat_tests) }

    places : (f : Weight) → in_places f g v ≡ in_places f g w
    places f = omega (
      arith,
      in_places-is f g w,
      in_places-is f g v,
      in_nodes-changed f g w v k.node x c p.sender,
      in_node-changed f g (node_at w k.node) x k.serial r y (router_here w k r is.here) refl refl,
      under_way-pushed (λ from to m. in_message f g m) w v k.node to (messages.Item link s n item []) p,
      in_message-item f g link s n item [],
      is.weight f,
    )

-- an item without ends, or within a node
pub closed-sent : (w : World) (b : Books) (g : Records) (k : Key) (r y : Router) (link : LinkId) (s : Side) (to n : ℕ) (item : Item) →
    Inv w b g → IsSend w g k r y link s to n item → (k.node ≡ to) ⊎ (ends_in item ≡ []) → Inv (send_act w k y link s to n item) b g
closed-sent w b g k r y link s to n item law is plain =
    closed v b g (inv-sent w b g k r y link s to n item (opened w b g law) is)
    (ends-sent w v b g k r y link s to n item is.sent (draining w b g k r y link s to n item (opened w b g law) is)
    (pushed w b g k r y link s to n item (opened w b g law) is) plain law.moves.ends)
  where
    v : World
    v = send_act w k y link s to n item
