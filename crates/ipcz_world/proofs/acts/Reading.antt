-- A terminal's in queue loses its current item, got by a caller or discarded by a sink: all that holds is kept, with the books after it.
use Rattle.ipcz_world.proofs.frames.RolesTell.{links-in}
use Rattle.std.specs.Prelude.{Option, None, is_some, nat_lt}
use Rattle.std.proofs.lemmas.Bool.Decides.{nat_tests}
use Rattle.ipcz_world.proofs.Vocabulary.{Edge, inward_edge, End, Item, opposite_end, has_end, total, item_at, current_item, Router, is_terminal}
use Rattle.ipcz_world.proofs.Vocabulary.{ends_in, World, Key, same_key, node_at, router_at, flow, Books, read, is_closed, Records, At, terminal_node}
use Rattle.ipcz_world.proofs.Vocabulary.{Weight, in_router, at_end, names_end, times, EndPlaces, BooksKept, Conserved, HeldOnce, times_held, Items}
use Rattle.ipcz_world.proofs.Vocabulary.{FreshNumbers, Inv, Mark, Retired, RetiredEnds, Gones, Parcel, next_number, from_number}
use Rattle.ipcz_world.proofs.frames.Booking.{mark_found}
use Rattle.ipcz_world.proofs.facts.Slices.{slice_get-drop}
use Rattle.ipcz_world.proofs.facts.Tests.{not_both}
use Rattle.ipcz_world.proofs.frames.GonesKept.{IsGoneRight, right-of, right-books, gones-one, gones-all}
use Rattle.ipcz_world.proofs.frames.OfRecords.{holds, in_places}
use Rattle.std.specs.Prelude.{◌≡◌, ◌≢◌, ◌⊎◌, ◌≤◌, ◌<◌, ◌+◌, ℕ, zero, suc, Bool, true, false, cond, ◌&&◌, nat_eq, Some, refl, List, [], ◌∷◌}
use Rattle.std.specs.Prelude.{length, take, drop, map, slice_get}
use Rattle.std.proofs.Common.{arith, ap, subst, ◌∙◌, sym, inl, inr}
use Rattle.ipcz_base.specs.declared.parcel.Parcel as parcels
use Rattle.ipcz_base.specs.declared.message.Message.TheVariants as messages
use Rattle.ipcz_router.specs.Calls.{take_item}
use Rattle.ipcz_base.specs.Items.{same_item}
use Rattle.ipcz_world.proofs.frames.Frames.{same_key-itself}
use Rattle.ipcz_world.specs.Places.{unread_weight}
use Rattle.ipcz_world.proofs.frames.Touching.{IsTouched, IsAlike, HasSameHands, hands-same, counts-touched, shape-touched, roles-touched}
use Rattle.ipcz_world.proofs.frames.Touching.{stands-touched, words-touched, spares-touched, bypasses-touched}
use Rattle.ipcz_world.proofs.frames.Touching.{stages-touched, terminals-touched}
use Rattle.ipcz_world.proofs.frames.Draining.{IsDraining, drained_same, drained_pop, drained_before, ordered-drained, order-drained}
use Rattle.ipcz_world.proofs.frames.Draining.{proxy_numbers-drained, own-drained, other-drained}
use Rattle.ipcz_world.proofs.frames.Fitting.{fits_of, items_by, fits-drained}
use Rattle.ipcz_world.proofs.frames.Weighing.{in_router-is}
use Rattle.ipcz_world.proofs.frames.Known.{not_there_yet}
use Rattle.ipcz_world.proofs.frames.SameMessages.{SameMessages, under-same, made-same, controls-same, moves-same}
use Rattle.ipcz_world.proofs.frames.Booking.{flag, end_tells, more_same, more_here, total-has, in_router-within, not_moving}
use Rattle.ipcz_world.proofs.facts.Tests.{nat_eq-itself, and_first, and_second, nat_eq-is}
use Rattle.std.proofs.lemmas.Bool.{and_from}
use Rattle.ipcz_world.proofs.facts.LinkTests.{opposite_end-twice}
use Rattle.ipcz_world.proofs.facts.SameItems.{same_item-itself, same_item-tells}
use Rattle.ipcz_world.proofs.frames.EndsKept.{ends-kept}

-- what weighs in a numbered list is there
pub from_number-found : (h : ℕ → Item → ℕ) (n : ℕ) (xs : List Item) → 1 ≤ from_number h n xs →
    (j : ℕ) × (x : Item) × (slice_get xs j ≡ Some x) × (1 ≤ h (n + j) x)
from_number-found h n [] l = absurd (omega (arith, l))
from_number-found h n (x ∷ xs) l = go (h n x) refl (λ f. from_number-found h (n + 1) xs f)
  where
    go : (a : ℕ) → h n x ≡ a → (1 ≤ from_number h (n + 1) xs → (j : ℕ) × (z : Item) × (slice_get xs j ≡ Some z) × (1 ≤ h ((n + 1) + j) z)) →
        (j : ℕ) × (z : Item) × (slice_get (x ∷ xs) j ≡ Some z) × (1 ≤ h (n + j) z)
    go zero e more = let f = more (omega (arith, l, e)) in let m : (n + 1) + f.0 ≡ n + suc f.0 = omega arith in
        (suc f.0, f.1, f.2, subst (λ m. 1 ≤ h m f.1) m f.3)
    go (suc a) e more = let m : n ≡ n + 0 = omega arith in let l : 1 ≤ h n x = omega (arith, e) in (0, x, refl, subst (λ m. 1 ≤ h m x) m l)

drop-at : {X : Type 0} (k : ℕ) (xs : List X) (x : X) → slice_get xs k ≡ Some x → drop k xs ≡ x ∷ drop (suc k) xs
drop-at k [] x h = cc
drop-at zero (y ∷ xs) x h = let e : y ≡ x = cc in ap (λ z. z ∷ xs) e
drop-at (suc k) (y ∷ xs) x h = drop-at k xs x h

pub slice_get-below : {X : Type 0} (k : ℕ) (xs : List X) (x : X) → slice_get xs k ≡ Some x → k < length xs
slice_get-below k [] x h = cc
slice_get-below zero (y ∷ xs) x h = omega arith
slice_get-below (suc k) (y ∷ xs) x h = omega (arith, slice_get-below k xs x h)

-- an item of an in queue is the one that was put under its number, and isn't read
pub in_numbers : (w : World) (b : Books) (g : Records) (k : Key) (r : Router) (n : ℕ) (item : Item) → Conserved w b g → k.node < w.count →
    router_at w k ≡ Some r → item_at r.in_queue n ≡ Some item → slice_get (b.put (opposite_end r.end)) n ≡ Some item
in_numbers w b g k r n item law l here at =
    let e = opposite_end r.end in
    let h : ℕ → Item → ℕ = λ m x. flag (nat_eq m n && same_item x item) in
    let f : Weight = at_end e h in
    let one : f e n item ≡ 1 = more_here (h n item) 0 e ∙ ap flag
    (and_from (nat_eq n n) (same_item item item) (nat_eq-itself n) (same_item-itself item)) in
    let has : f e n item ≤ total (f e) r.in_queue.items = total-has (f e) r.in_queue n item at in
    let le : in_router f r ≤ in_places f g w = in_router-within f g w k r l here in
    let found = from_number-found h (read b (opposite_end e)) (drop (read b (opposite_end e)) (b.put e))
    (omega (arith, le, has, one, in_router-is f r, law.exact e h)) in
    let is = weighs (nat_eq (read b (opposite_end e) + found.0) n && same_item found.1 item) found.3 in
    let number : n ≡ read b (opposite_end e) + found.0 = sym (nat_eq-is (read b (opposite_end e) + found.0) n
    (and_first (nat_eq (read b (opposite_end e) + found.0) n) (same_item found.1 item) is)) in
    ap (slice_get (b.put e)) number ∙ sym (slice_get-drop (read b (opposite_end e)) (b.put e) found.0) ∙ found.2 ∙ ap Some
    (same_item-tells found.1 item (and_second (nat_eq (read b (opposite_end e) + found.0) n) (same_item found.1 item) is))
  where
    weighs : (c : Bool) → 1 ≤ flag c → c ≡ true
    weighs true h = refl
    weighs false h = absurd (omega (arith, h))

-- a terminal's current item leaves for a caller or a sink, and the item's ends are held or pending then
pub record IsRead (w v : World) (b : Books) (g : Records) (k : Key) (r : Router) (item : Item) (m : Bool) (got : End → List parcels.Parcel)
    (gone : End → ℕ) : Type 0 where
  pub touched : IsTouched w v k r (record (take_item r) { mark_dropped = m })
  pub noted : (m ≡ true) → (r.mark_dropped ≡ true) ⊎ (item ≡ Mark)
  pub keeps : r.mark_dropped ≡ true → m ≡ true
  pub notes : r.closed ≡ true → item ≡ Mark → m ≡ true
  pub sink : m ≡ true → r.closed ≡ true
  pub terminal : is_terminal r ≡ true
  pub item_is : current_item r.in_queue ≡ Some item
  pub hands : HasSameHands w v
  pub flows : (from to : ℕ) → flow v from to ≡ flow w from to
  pub held : (m : ℕ) (d : End) → holds d (node_at v m).held ≡ true →
      (holds d (node_at w m).held ≡ true) ⊎ ((m ≡ k.node) × (has_end d (ends_in item) ≡ true))
  pub pending : (m : ℕ) (d : End) → has_end d (node_at v m).pending ≡ true →
      (has_end d (node_at w m).pending ≡ true) ⊎ ((m ≡ k.node) × (has_end d (ends_in item) ≡ true))
  pub times : (d : End) → times_held v d ≡ times_held w d + times d (ends_in item)
  pub places : (f : Weight) → in_places f g v + f (opposite_end r.end) r.in_queue.current item ≡ in_places f g w
  pub read_here : length (got r.end) + gone r.end ≡ read b r.end + 1
  pub got_other : (e : End) → e ≢ r.end → got e ≡ b.got e
  pub gone_other : (e : End) → e ≢ r.end → gone e ≡ b.gone e
  pub prefix_here : slice_get (b.put (opposite_end r.end)) (read b r.end) ≡ Some item →
      take (length (b.got r.end)) (b.put (opposite_end r.end)) ≡ map Parcel (b.got r.end) →
      take (length (got r.end)) (b.put (opposite_end r.end)) ≡ map Parcel (got r.end)
  pub gone_closed : is_closed b r.end ≡ false → gone r.end ≡ 0

module _ (w v : World) (b : Books) (g : Records) (k : Key) (r : Router) (item : Item) (m : Bool) (got : End → List parcels.Parcel)
    (gone : End → ℕ) (law : Inv w b g) (is : IsRead w v b g k r item m got gone) where
  abbrev after : Books
  after = record b { got = got; gone = gone }

  abbrev y : Router
  y = record (take_item r) { mark_dropped = m }

  here : router_at w k ≡ Some r
  here = is.touched.here

  on_node : k.node < w.count
  on_node = law.counts.on_node k r here

  stands : g.terminal r.end ≡ At k
  stands = (law.terminals.each k r here).terminal is.terminal

  alike : IsAlike r y
  alike = record {
    end = refl;
    outward = refl;
    inward = refl;
    spare = refl;
    marked = refl;
    holds = refl;
    done = λ h. grind (arith, h, is.keeps);
    dropped = λ h f. and_from (is_terminal r) r.closed is.terminal (is.sink h);
    sent = λ h f. f h;
  }

  draining : IsDraining w v k r y
  draining = record { touched = is.touched; alike = alike; out = drained_same r.out_queue; inn = drained_pop r.in_queue item is.item_is }

  same : SameMessages w v
  same = record { count = is.touched.count; flows = is.flows; peripheral = is.touched.next_peripheral }

  -- the item is the next of what the peer put
  number : r.in_queue.current ≡ read b r.end
  number = law.conserved.current k r here is.terminal

  was_put : slice_get (b.put (opposite_end r.end)) (read b r.end) ≡ Some item
  was_put = ap (slice_get (b.put (opposite_end r.end))) (sym number) ∙ in_numbers w b g k r r.in_queue.current item law.conserved on_node
      here is.item_is

  read_other : (e : End) → e ≢ r.end → read after e ≡ read b e
  read_other e ne = omega (arith, ap length (is.got_other e ne), is.gone_other e ne)

  items-read : Items v g
  items-read = items_by v g (λ from to i l t m x moves u. let o = under-same w v from to i (messages.Item l t m x moves) same u in
      fits-drained w v k r y g from to i i l t m draining (fits_of w g from to i l t m x moves law.items o)
      (λ e. made-same w v from to i l t same ∙ e)
      (λ q h. not_there_yet w b g from to i l t m x moves q law.conserved law.counts (links-in law) o h))

  fresh_numbers-read : FreshNumbers v g
  fresh_numbers-read q x at = record {
    own = own-drained w v k r y g draining law.fresh_numbers q x at;
    comes = λ e f len fr to i m c moves on off h u. let z = drained_before w v k r y g draining q x at in
        (law.fresh_numbers q z.0 z.1).comes e f len fr to i m c moves (grind (arith, z.4, on)) (grind (arith, z.4, off)) h
        (under-same w v fr to i (messages.Item e.link e.side m c moves) same u);
    other = other-drained w v k r y g draining law.fresh_numbers q x at;
  }

  -- the ends of the item have their terminals here
  ends_here : (d : End) → has_end d (ends_in item) ≡ true → terminal_node (g.terminal d) ≡ Some k.node
  ends_here d h = (law.end_places.each k r here).inn r.in_queue.current item d is.item_is h

  end_places-read : EndPlaces v g
  end_places-read = record {
    held = λ m d h. elim (is.held m d h) [ inl o ↦ law.end_places.held m d o | inr o ↦ ends_here d o.1 ∙ ap Some (sym o.0) ];
    pending = λ m d h. elim (is.pending m d h) [ inl o ↦ law.end_places.pending m d o | inr o ↦ ends_here d o.1 ∙ ap Some (sym o.0) ];
    each = λ q x at. let c = drained_before w v k r y g draining q x at in
        ends-kept {g = g} {h = g} {r = c.0} (λ e. refl) c.2.keeps c.3.keeps (law.end_places.each q c.0 c.1);
    within = λ n i l s m z moves d u has. law.end_places.within n i l s m z moves d
        (under-same w v n n i (messages.Item l s m z moves) same u) has;
  }

  before : (q : Key) (x : Router) → router_at v q ≡ Some x → same_key q k ≡ false → router_at w q ≡ Some x
  before q x at c = sym (is.touched.router q ∙ ap (λ b. cond b (Some y) (router_at w q)) c) ∙ at

  it : (q : Key) (x : Router) → router_at v q ≡ Some x → same_key q k ≡ true → y ≡ x
  it q x at c = let two : Some y ≡ Some x = sym (is.touched.router q ∙ ap (λ b. cond b (Some y) (router_at w q)) c) ∙ at in cc

  books_kept-read : BooksKept v after g
  books_kept-read = record {
    own_pair = law.books_kept.own_pair;
    mark_last = law.books_kept.mark_last;
    gone_last = law.books_kept.gone_last;
    retired_closed = law.books_kept.retired_closed;
    numbers = law.books_kept.numbers;
    mark_seen = λ q x at m. seen q x at m (same_key q k) refl;
  }
    where
      seen : (q : Key) (x : Router) → router_at v q ≡ Some x → x.mark_seen ≡ true → (c : Bool) → same_key q k ≡ c →
          is_closed b (opposite_end x.end) ≡ true
      seen q x at m true c = let f : r.mark_seen ≡ true = ap (λ z. z.mark_seen) (it q x at c) ∙ m in
          subst (λ z. is_closed b (opposite_end z.end) ≡ true) (it q x at c) (law.books_kept.mark_seen k r here f)
      seen q x at m false c = law.books_kept.mark_seen q x (before q x at c) m

  other_end : (q : Key) (x : Router) → router_at w q ≡ Some x → is_terminal x ≡ true → same_key q k ≡ false → x.end ≢ r.end
  other_end q x at t c e = let two : At q ≡ At k = sym ((law.terminals.each q x at).terminal t) ∙ ap g.terminal e ∙ stands in
      let key : q ≡ k =
      grind (arith, two) in absurd (grind (arith, c, same_key-itself k, key))

  -- a statement of what an end's peer has read, by whether it is the terminal
  peer_by : (e : End) (P : End → Type 0) → (opposite_end e ≢ r.end → P e) → P (opposite_end r.end) → P e
  peer_by e P other own = elim (end_tells (opposite_end e) r.end) [
    | inl f ↦ let same : opposite_end r.end ≡ e = ap opposite_end (sym f.1) ∙ opposite_end-twice e in subst P same own
    | inr f ↦ other f.1
  ]

  read_peer : read after (opposite_end (opposite_end r.end)) ≡ suc (read b r.end)
  read_peer = ap (read after) (opposite_end-twice r.end) ∙ is.read_here ∙ omega arith

  exact : (e : End) (h : ℕ → Item → ℕ) → in_places (at_end e h) g v ≡ unread_weight h after e
  exact e h = peer_by e (λ e. in_places (at_end e h) g v ≡ unread_weight h after e)
      (λ ne. let none : at_end e h (opposite_end r.end) r.in_queue.current item ≡ 0 =
      more_same (λ d. 0) (h r.in_queue.current item) (opposite_end r.end) e (λ f. ne (ap opposite_end (sym f) ∙ opposite_end-twice r.end))
      in
      omega (
        arith,
        none,
        is.places (at_end e h),
        law.conserved.exact e h,
        ap (λ n. from_number h n (drop n (b.put e))) (read_other (opposite_end e) ne),
      ))
      (let p = opposite_end r.end in
      let one : at_end p h (opposite_end r.end) r.in_queue.current item ≡ h (read b r.end) item =
      more_here (h r.in_queue.current item) 0 p ∙ ap (λ n. h n item) number in
      let was : unread_weight h b p ≡ h (read b r.end) item + from_number h (read b r.end + 1) (drop (suc (read b r.end)) (b.put p)) =
      ap (λ n. from_number h n (drop n (b.put p))) (ap (read b) (opposite_end-twice r.end)) ∙ ap (from_number h (read b r.end))
      (drop-at (read b r.end) (b.put p) item was_put) in
      let now : unread_weight h after p ≡ from_number h (suc (read b r.end)) (drop (suc (read b r.end)) (b.put p)) =
      ap (λ n. from_number h n (drop n (b.put p))) read_peer in
      let next : from_number h (suc (read b r.end)) (drop (suc (read b r.end)) (b.put p)) ≡ from_number h (read b r.end + 1)
      (drop (suc (read b r.end)) (b.put p)) = ap (λ n. from_number h n (drop (suc (read b r.end)) (b.put p))) (omega arith) in
      omega (arith, one, was, now, next, is.places (at_end p h), law.conserved.exact p h))

  conserved-read : Conserved v after g
  conserved-read = record {
    exact = exact;
    read_put = λ e. peer_by e (λ e. read after (opposite_end e) ≤ length (b.put e))
        (λ ne. omega (arith, law.conserved.read_put e, read_other (opposite_end e) ne))
        (omega (arith, read_peer, slice_get-below (read b r.end) (b.put (opposite_end r.end)) item was_put));
    prefix = λ e. peer_by e (λ e. take (length (got (opposite_end e))) (b.put e) ≡ map Parcel (got (opposite_end e)))
        (λ ne. ap (λ ps. take (length ps) (b.put e)) (is.got_other (opposite_end e) ne) ∙ law.conserved.prefix e ∙ ap (map Parcel)
        (sym (is.got_other (opposite_end e) ne)))
        (subst (λ d. take (length (got d)) (b.put (opposite_end r.end)) ≡ map Parcel (got d)) (sym (opposite_end-twice r.end))
        (is.prefix_here was_put (subst (λ d. take (length (b.got d)) (b.put (opposite_end r.end)) ≡ map Parcel (b.got d))
        (opposite_end-twice r.end) (law.conserved.prefix (opposite_end r.end)))));
    gone_closed = λ e h. elim (end_tells e r.end) [
      | inl f ↦ ap gone f.1 ∙ is.gone_closed (ap (is_closed b) (sym f.1) ∙ h)
      | inr f ↦
          is.gone_other e f.1 ∙ law.conserved.gone_closed e h
    ];
    reach = λ q x at t. reach q x at t (same_key q k) refl;
    current = λ q x at t. current q x at t (same_key q k) refl;
    sink = λ q x at t. sink q x at t (same_key q k) refl;
    move_out = λ from to i j m d u h. law.conserved.move_out from to i j m d (under-same w v from to i m same u) h;
    move_in = λ from to i j m d u h. let w = under-same w v from to i m same u in
        law.conserved.move_in from to i j m d w h ∙ sym (read_other d.end (not_moving _ g k r.end from to i j m d law.moves stands w h));
    move_open = λ from to i j m d u h. law.conserved.move_open from to i j m d (under-same w v from to i m same u) h;
    unopened_put = law.conserved.unopened_put;
    unopened_got = λ e h. is.got_other e (λ f. grind (arith, h, (law.terminals.each k r here).opened, f)) ∙ law.conserved.unopened_got e h;
  }
    where
      reach : (q : Key) (x : Router) → router_at v q ≡ Some x → is_terminal x ≡ true → (c : Bool) → same_key q k ≡ c →
          next_number x ≡ length (b.put x.end)
      reach q x at t true c = subst (λ z. next_number z ≡ length (b.put z.end)) (it q x at c) (law.conserved.reach k r here is.terminal)
      reach q x at t false c = law.conserved.reach q x (before q x at c) t

      current : (q : Key) (x : Router) → router_at v q ≡ Some x → is_terminal x ≡ true → (c : Bool) → same_key q k ≡ c →
          x.in_queue.current ≡ read after x.end
      current q x at t true c = subst (λ z. z.in_queue.current ≡ read after z.end) (it q x at c) (ap (λ n. n + 1) number ∙ sym is.read_here)
      current q x at t false c = law.conserved.current q x (before q x at c) t ∙ sym
          (read_other x.end (other_end q x (before q x at c) t c))

      sink : (q : Key) (x : Router) → router_at v q ≡ Some x → is_terminal x ≡ true → (c : Bool) → same_key q k ≡ c →
          x.closed ≡ is_closed b x.end
      sink q x at t true c = subst (λ z. z.closed ≡ is_closed b z.end) (it q x at c) (law.conserved.sink k r here is.terminal)
      sink q x at t false c = law.conserved.sink q x (before q x at c) t

  held_once-read : HeldOnce v after g
  held_once-read = record {
    once = λ e. omega (arith, is.places (names_end e), is.times e, law.held_once.once e);
    moves_in_parcel = λ from to i l s n z moves j d u h. law.held_once.moves_in_parcel from to i l s n z moves j d
        (under-same w v from to i (messages.Item l s n z moves) same u) h;
  }

  -- no end that has retired is the terminal's
  not_here : (e : End) → g.terminal e ≡ Retired → e ≢ r.end
  not_here e h f = let two : At k ≡ Retired = sym stands ∙ ap g.terminal (sym f) ∙ h in cc

  retired-read : RetiredEnds after g
  retired-read = record {
    retired = law.retired_ends.retired;
    peer_closed = law.retired_ends.peer_closed;
    peer_stays = law.retired_ends.peer_stays;
    all_read = λ e h. read_other e (not_here e (law.retired_ends.retired e h)) ∙ law.retired_ends.all_read e h;
    gone_read = λ e t h. let o = law.retired_ends.gone_read e t h in (o.0, read_other e (not_here e t) ∙ o.1);
    no_bypass = law.retired_ends.no_bypass;
    left = law.retired_ends.left;
    left_of = law.retired_ends.left_of;
    accepted = law.retired_ends.accepted;
  }

  right-read : IsGoneRight b g y
  right-read = record {
    sent = λ h. absurd (no_inward ((law.shape k r here).sent_proxy h));
    sent_back = λ n. absurd (not_both (is_terminal r) is.terminal n);
    left_primary = o.left_primary;
    left_inner = λ e p l. omega (arith, o.left_inner e p l);
    out_put = o.out_put;
    in_put = omega (arith, low);
    still = o.still;
    dropped = λ n t i h. elim (is.noted h) [
      | inl a ↦ omega (arith, o.dropped n t i a)
      | inr a ↦ omega (
        arith,
        law.books_kept.mark_last (opposite_end r.end) n i,
        law.books_kept.mark_last (opposite_end r.end) r.in_queue.current (put ∙ ap Some a),
      )
    ];
    dropped_closed = λ h. elim (is.noted h) [
      | inl a ↦ o.dropped_closed a
      | inr a ↦ mark_found (b.put (opposite_end r.end)) r.in_queue.current (put ∙ ap Some a)
    ];
    dropped_back = λ n t i l c. back n t i l c (nat_lt n r.in_queue.current) refl;
  }
    where
      o : IsGoneRight b g r
      o = right-of law.gones k r here

      put : slice_get (b.put (opposite_end r.end)) r.in_queue.current ≡ Some item
      put = ap (slice_get (b.put (opposite_end r.end))) number ∙ was_put

      low : r.in_queue.current < length (b.put (opposite_end r.end))
      low = slice_get-below r.in_queue.current (b.put (opposite_end r.end)) item put

      no_inward : is_some (inward_edge r).primary ≡ true → ⊥
      no_inward h = lone r.inward refl
        where
          lone : (x : Option Edge) → r.inward ≡ x → ⊥
          lone None e = grind (arith, e, h)
          lone (Some x) e = grind (arith, e, is.terminal)

      back : (n : ℕ) → is_terminal r ≡ true → slice_get (b.put (opposite_end r.end)) n ≡ Some Mark → n < r.in_queue.current + 1 →
          r.closed ≡ true → (c : Bool) → nat_lt n r.in_queue.current ≡ c → m ≡ true
      back n t i l c true e = is.keeps (o.dropped_back n t i (grind (arith, e, nat_tests)) c)
      back n t i l c false e = let same : n ≡ r.in_queue.current = grind (arith, e, l, nat_tests) in
          let two : Some Mark ≡ Some item = sym i ∙ ap (slice_get (b.put (opposite_end r.end))) same ∙ put in is.notes c (cc)

  gones-read : Gones v after g
  gones-read = gones-all (λ q z at. right-books (right-of (gones-one w v b g k y is.touched.router right-read law.gones) q z at))

  pub inv-read_by : Inv v (record b { got = got; gone = gone }) g
  inv-read_by = record {
    counts = counts-touched w v k r y g is.touched alike law.counts (hands-same w v g law.counts is.touched.count is.hands);
    ordered = ordered-drained w v k r y g draining law.ordered;
    shape = shape-touched w v k r y g is.touched alike law.shape;
    roles = roles-touched w v k r y g is.touched alike law.roles;
    begun = law.begun;
    stands = stands-touched w v k r y g is.touched alike law.stands;
    words = words-touched w v k r y g is.touched alike law.words;
    spares = spares-touched w v k r y g is.touched alike law.spares;
    bypasses = bypasses-touched w v k r y g is.touched alike law.bypasses;
    live = law.live;
    stages = stages-touched w v k r y g is.touched alike law.stages;
    controls = controls-same w v g same law.controls;
    moves = moves-same w v g same law.moves;
    terminals = terminals-touched w v k r y g is.touched alike law.terminals;
    end_places = end_places-read;
    books_kept = books_kept-read;
    retired_ends = retired-read;
    gones = gones-read;
    items = items-read;
    order = order-drained w v k r y g draining law.order;
    proxy_numbers = proxy_numbers-drained w v k r y g draining law.proxy_numbers;
    fresh_numbers = fresh_numbers-read;
    conserved = conserved-read;
    held_once = held_once-read;
    no_strays = λ j. is.touched.strays j ∙ law.no_strays j;
  }
