-- A router takes the item of the message in hand, which moves no end: all that holds is kept.
use Rattle.ipcz_world.proofs.frames.Opened.{links-open}
use Rattle.ipcz_world.proofs.acts.Putting.{terminal_outward}
use Rattle.std.proofs.Common.{true≢false}
use Rattle.ipcz_world.proofs.frames.GonesKept.{IsGoneLike, gones-by, was-gone}
use Rattle.ipcz_world.proofs.frames.OfRecords.{holds, source, in_message, in_places}
use Rattle.ipcz_world.specs.Routes.{source as source'}
use Rattle.std.specs.Prelude.{◌≡◌, ◌⊎◌, ◌≤◌, ◌<◌, ◌+◌, ℕ, zero, suc, Bool, true, false, not, cond, ◌&&◌, ◌||◌, nat_eq, Option, Some, None}
use Rattle.std.specs.Prelude.{is_some, refl, List, [], ◌∷◌, drop, slice_get}
use Rattle.std.specs.Cmp.{nat_cmp_total}
use Rattle.std.specs.FinMap.{get-insert}
use Rattle.std.proofs.Common.{arith, ap, subst, ◌∙◌, sym, inl, inr}
use Rattle.std.proofs.lemmas.Bool.Decides.{nat_tests}
use Rattle.ipcz_world.proofs.Vocabulary.{Side, A, B, End, LinkId, Central, Peripheral, Item, Message, opposite, has_end, opposite_end, Edge, Queue}
use Rattle.ipcz_world.proofs.Vocabulary.{item_at, Router, is_terminal, inward_edge, ends_in, Node, with_router, World, Key, same_key, node_at}
use Rattle.ipcz_world.proofs.Vocabulary.{mail_at, way, router_at, set_node, set_mail, hand_message, Books, read, is_closed, Records, side_router}
use Rattle.ipcz_world.proofs.Vocabulary.{side_end, inner_link, terminal_node, taking_queue, is_attached, fed_queue, IsUnderWay, makes, of_end}
use Rattle.ipcz_world.proofs.Vocabulary.{moves_of, Weight, in_router, at_end, names_end, total_list, Counts, is_outward, Controls, of_bypass, EndPlaces}
use Rattle.ipcz_world.proofs.Vocabulary.{BooksKept, Conserved, HeldOnce, Items, FreshNumbers, Inv, edge_has, accept, is_mark, has_mark, from_number}
use Rattle.ipcz_world.proofs.Vocabulary.{IsItemUnderWay}
use Rattle.ipcz_base.specs.declared.message.Message.TheVariants as messages
use Rattle.ipcz_seq.specs.Queue.{push_at}
use Rattle.ipcz_world.specs.declared.mail.Mail.TheVariants as mails
use Rattle.ipcz_world.proofs.frames.Frames.{same_key_tells, node-set_node, word-set_node, mail-set_node, claimed-set_node, size-set_node}
use Rattle.ipcz_world.proofs.frames.Frames.{count-set_node, node-set_mail, word-set_mail, mail-set_mail, claimed-set_mail, size-set_mail}
use Rattle.ipcz_world.proofs.frames.Frames.{count-set_mail}
use Rattle.ipcz_world.proofs.frames.Opened.{OpenInv, OpenMoves, opened, closed}
use Rattle.ipcz_world.proofs.frames.Touching.{IsTouched, IsAlike, HasSameEnds, Hands, recorded_same, counts-touched, shape-touched}
use Rattle.ipcz_world.proofs.frames.Touching.{roles-touched, stands-touched, words-touched, spares-touched}
use Rattle.ipcz_world.proofs.frames.Touching.{bypasses-touched, stages-touched, terminals-touched}
use Rattle.ipcz_world.proofs.frames.Draining.{taking_queue-standing}
use Rattle.ipcz_world.proofs.frames.Fitting.{fits_of, items_by}
use Rattle.ipcz_world.proofs.frames.Flowing.{IsTaken, CameFrom, came_taken, under_way-taken}
use Rattle.ipcz_world.proofs.frames.Changing.{IsNodeChanged, touched_by, taken_by, way_apart}
use Rattle.ipcz_world.proofs.frames.Weighing.{in_places-is, in_nodes-changed, in_node-changed, in_message-item, in_router-is, in_pushed}
use Rattle.ipcz_world.proofs.frames.Weighing.{in_places-has}
use Rattle.ipcz_world.proofs.frames.Known.{not_there_yet, attached_recorded}
use Rattle.ipcz_world.proofs.frames.Filling.{IsFilled, IsFilling, filled_same, filled_push, filled_before, fits-filled, standing_filled}
use Rattle.ipcz_world.proofs.frames.FillingNumbers.{order-filled, ordered-filled, proxy_numbers-filled, fed-out, fed-in, attached_inward}
use Rattle.ipcz_world.proofs.acts.Sending.{times_same, about-item, moves-item}
use Rattle.ipcz_world.proofs.frames.Calling.{router_here}
use Rattle.ipcz_world.proofs.acts.Putting.{no_link}
use Rattle.ipcz_world.proofs.facts.Lengths.{view-standing}
use Rattle.ipcz_world.proofs.facts.LinkTests.{same_end-itself}

-- the item of the message in hand is taken by the router
abbrev pub take_act : World → ℕ → Key → Router → World
take_act w from k y = set_mail (set_node w k.node (record (with_router (node_at w k.node) k.serial y) { hand = None })) (way w from k.node)
    mails.Empty

-- the message in hand is an item without moves, for a router that has its link
pub record IsTake (w : World) (g : Records) (from : ℕ) (k : Key) (r : Router) (l : LinkId) (s : Side) (n : ℕ) (item : Item) : Type 0 where
  pub here : router_at w k ≡ Some r
  pub in_hand : mail_at w (way w from k.node) ≡ mails.Hand (messages.Item l s n item [])
  pub hand : (node_at w k.node).hand ≡ Some from
  pub router : side_router g l s ≡ Some k
  pub attached : is_attached l s r ≡ true
  pub ends : (e : End) → has_end e (ends_in item) ≡ true → terminal_node (g.terminal e) ≡ Some k.node

-- what the router is after it
pub record IsAccepted (r y : Router) (n : ℕ) (item : Item) (from_outward : Bool) : Type 0 where
  pub alike : IsAlike r y
  pub closed : y.closed ≡ r.closed
  pub out : IsFilled r.out_queue y.out_queue n (not from_outward)
  pub inn : IsFilled r.in_queue y.in_queue n from_outward
  pub mark : y.mark_seen ≡ true → (r.mark_seen ≡ true) ⊎ ((is_mark item ≡ true) × (from_outward ≡ true))
  pub out_item : (m : ℕ) (x : Item) → item_at y.out_queue m ≡ Some x → (item_at r.out_queue m ≡ Some x) ⊎ (x ≡ item)
  pub in_item : (m : ℕ) (x : Item) → item_at y.in_queue m ≡ Some x → (item_at r.in_queue m ≡ Some x) ⊎ (x ≡ item)
  pub out_same : from_outward ≡ true → y.out_queue ≡ r.out_queue
  pub gone : IsGoneLike r y

or_tells : (a b c : Bool) → (a || (b && c)) ≡ true → (a ≡ true) ⊎ (c ≡ true)
or_tells true b c h = inl refl
or_tells false true c h = inr h
or_tells false false c h = cc

pushed_item : (q : Queue Item) (n m : ℕ) (item x : Item) → item_at (push_at q n item) m ≡ Some x → (item_at q m ≡ Some x) ⊎ (x ≡ item)
pushed_item q n m item x h = grind (arith, get-insert nat_cmp_total q.items n item m, nat_tests, h)

pub accepted : (r : Router) (b : Bool) (n : ℕ) (item : Item) → (b ≡ false → is_terminal r ≡ false) → IsAccepted r (accept r b n item) n item b
unfolding accept
accepted r true n item proxy = record {
  alike = record {
    end = refl;
    outward = refl;
    inward = refl;
    spare = refl;
    marked = refl;
    holds = refl;
    done = λ h. h;
    dropped = λ h f. f h;
    sent = λ h f. f h;
  };
  gone = record {
    end = refl;
    current = refl;
    out = refl;
    terminal = refl;
    inner = refl;
    primary = refl;
    sent = refl;
    dropped = refl;
    closed = refl;
    still = λ h. h;
  };
  closed = refl;
  out = filled_same r.out_queue n false;
  inn = filled_push r.in_queue n item;
  mark = λ h. elim (or_tells r.mark_seen (is_terminal r) (is_mark item) h) [ inl a ↦ inl a | inr a ↦ inr (a, refl) ];
  out_item = λ m x h. inl h;
  in_item = λ m x h. pushed_item r.in_queue n m item x h;
  out_same = λ h. refl;
}
accepted r false n item proxy = record {
  alike = record {
    end = refl;
    outward = refl;
    inward = refl;
    spare = refl;
    marked = refl;
    holds = refl;
    done = λ h. absurd (grind (arith, h, proxy refl));
    dropped = λ h f. f h;
    sent = λ h f. f h;
  };
  gone = record {
    end = refl;
    current = refl;
    out = refl;
    terminal = refl;
    inner = refl;
    primary = refl;
    sent = refl;
    dropped = refl;
    closed = refl;
    still = λ h. h;
  };
  closed = refl;
  out = filled_push r.out_queue n item;
  inn = filled_same r.in_queue n false;
  mark = λ h. inl h;
  out_item = λ m x h. pushed_item r.out_queue n m item x h;
  in_item = λ m x h. inl h;
  out_same = λ h. cc;
}

plain_makes : (link l : LinkId) (t s : Side) (n : ℕ) (item : Item) → makes link t (messages.Item l s n item []) ≡ false
unfolding makes
plain_makes link l A s n item = refl
plain_makes link l B s n item = refl

-- a mark that weighs is there
abbrev of_mark : ℕ → Item → ℕ
of_mark n x = cond (is_mark x) 1 0

mark_weighs : (n : ℕ) (xs : List Item) → 1 ≤ from_number of_mark n xs → has_mark xs ≡ true
mark_weighs n [] h = absurd (omega (arith, h))
mark_weighs n (x ∷ xs) h = go (is_mark x) refl (λ e. mark_weighs (n + 1) xs e)
  where
    go : (b : Bool) → is_mark x ≡ b → (1 ≤ from_number of_mark (n + 1) xs → has_mark xs ≡ true) → has_mark (x ∷ xs) ≡ true
    go true e more = grind (arith, e)
    go false e more = let f = more (grind (arith, e, h)) in grind (arith, e, f)

mark_dropped : (n : ℕ) (xs : List Item) → has_mark (drop n xs) ≡ true → has_mark xs ≡ true
mark_dropped zero xs h = h
mark_dropped (suc n) [] h = h
mark_dropped (suc n) (x ∷ xs) h = let f = mark_dropped n xs h in grind (arith, f)

source-fed : (g : Records) (l : LinkId) (s : Side) → is_outward l s ≡ true → source g l s ≡ opposite_end (side_end g l s)
unfolding source' side_end is_outward
source-fed g (Central i) s o = refl
source-fed g (Peripheral n x) A o = absurd (grind (arith, o))
source-fed g (Peripheral n x) B o = refl

source-fed_in : (g : Records) (l : LinkId) (s : Side) → is_outward l s ≡ false → source g l s ≡ side_end g l s
unfolding source' side_end is_outward
source-fed_in g (Central i) s o = absurd (grind (arith, o))
source-fed_in g (Peripheral n x) A o = refl
source-fed_in g (Peripheral n x) B o = absurd (grind (arith, o))

-- the groups that read messages, if the first message from a node is an item without moves and its router takes it
module _ (w v : World) (b : Books) (g : Records) (from : ℕ) (k : Key) (r y : Router) (l : LinkId) (s : Side) (n : ℕ) (item : Item)
    (law : OpenInv w b g) (is : IsTake w g from k r l s n item) (a : IsAccepted r y n item (is_outward l s)) (t : IsTouched w v k r y)
    (p : IsTaken w v from k.node (messages.Item l s n item [])) where
  came : (f to i : ℕ) (m : Message) → IsUnderWay v f to i m → CameFrom w v f to i m
  came = came_taken w v from k.node (messages.Item l s n item []) p (λ link u. plain_makes link l u s n item)

  was : IsItemUnderWay w from k.node 0 l s n item []
  was = record { sender = p.sender; receiver = p.receiver; place = ap (λ ms. slice_get ms 0) p.here }

  filling : IsFilling w v k r y n (is_outward l s)
  filling = record { touched = t; alike = a.alike; out = a.out; inn = a.inn }

  pub items-taken : Items v g
  items-taken = items_by v g (λ f to i m u x z moves h. let c = came f to i (messages.Item m u x z moves) h in
      fits-filled w v k r y n (is_outward l s) g filling f to i c.at m u x (fits_of w g f to c.at m u x z moves law.items c.was)
      (c.made m u))

  pub controls-taken : Controls v g
  controls-taken = record {
    control = λ o h. let e = under_way-taken (λ from to. of_bypass g o (h from to)) w v from k.node (messages.Item l s n item []) p in
        omega (arith, law.controls.control o h, e, about-item g o (h from k.node) l s n item []);
    will_stop = λ f to i m u x h. let c = came f to i (messages.ProxyWillStop m u x) h in law.controls.will_stop f to c.at m u x c.was;
    behind = λ f to i m u old target fresh h e. let c = came f to i (messages.BypassPeer m u old target fresh) h in
        c.made m u (law.controls.behind f to c.at m u old target fresh c.was e);
    flush_central = λ f to i m u h. let c = came f to i (messages.Flush m u) h in law.controls.flush_central f to c.at m u c.was;
    flush_recorded = λ f to i m u h. let c = came f to i (messages.Flush m u) h in
        recorded_same w v k r y g t m ∙ law.controls.flush_recorded f to c.at m u c.was;
    flush_to = λ f to i m u h. let c = came f to i (messages.Flush m u) h in law.controls.flush_to f to c.at m u c.was;
    flush_from = λ f to i m u h. let c = came f to i (messages.Flush m u) h in law.controls.flush_from f to c.at m u c.was;
  }

  pub moves-taken : OpenMoves v g
  moves-taken = record {
    within = λ f i m u x z moves h. let c = came f f i (messages.Item m u x z moves) h in law.moves.within f c.at m u x z moves c.was;
    recorded = λ f to i j m e h q. let c = came f to i m h in recorded_same w v k r y g t e.link ∙ law.moves.recorded f to c.at j m e c.was
        q;
    peripheral = λ f to i j m e h q. let c = came f to i m h in law.moves.peripheral f to c.at j m e c.was q;
    sender = λ f to i j m e h q. let c = came f to i m h in law.moves.sender f to c.at j m e c.was q;
    receiver = λ f to i j m e h q. let c = came f to i m h in law.moves.receiver f to c.at j m e c.was q;
    awaited = λ f to i j m e h q. let c = came f to i m h in law.moves.awaited f to c.at j m e c.was q;
    end = λ f to i j m e h q. let c = came f to i m h in law.moves.end f to c.at j m e c.was q;
    one = λ e h. let f = under_way-taken (λ from to m. total_list (of_end e h) (moves_of m)) w v from k.node (messages.Item l s n item []) p
        in
        omega (arith, law.moves.one e h, f, ap (total_list (of_end e h)) (moves-item l s n item []));
    moving = λ q h e. law.moves.moving q (sym (recorded_same w v k r y g t (inner_link q)) ∙ h) e;
  }

  pub fresh_numbers-taken : FreshNumbers v g
  fresh_numbers-taken q x at = let z = filled_before w v k r y n (is_outward l s) g filling q x at in record {
    own = λ e f len on off h.
        let le : len ≤ z.0.out_queue.current = (law.fresh_numbers q z.0 z.1).own e f len (grind (arith, z.4, on)) (grind (arith, z.4, off))
        (grind (arith, z.4, h)) in omega (arith, le, z.2);
    comes = λ e f len fr to i m c moves on off h u. let o =
        came fr to i (messages.Item e.link e.side m c moves) u in
        (law.fresh_numbers q z.0 z.1).comes e f len fr to o.at m c moves (grind (arith, z.4, on)) (grind (arith, z.4, off)) h o.was;
    other = λ c e f len on off h there. let o =
        standing_filled w v k r y n (is_outward l s) g filling e.link (opposite e.side) c there in
        let le : len ≤ o.0.out_queue.current = (law.fresh_numbers q z.0 z.1).other o.0 e f len (grind (arith, z.4, on))
        (grind (arith, z.4, off)) h o.1 in omega (arith, le, o.2);
  }

  pub end_places-taken : HasSameEnds w v → EndPlaces v g
  end_places-taken same = record {
    held = λ m e h. law.end_places.held m e (subst (λ f. holds e f ≡ true) (same.held m) h);
    pending = λ m e h. law.end_places.pending m e (subst (λ f. has_end e f ≡ true) (same.pending m) h);
    each = λ q x at. record {
      out = λ m z e h has. queued q x m z e at has (λ c d. elim (a.out_item m z (ap (λ x. item_at x.out_queue m) c ∙ h))
          [ inl o ↦ inl ((law.end_places.each k r is.here).out m z e o has) | inr o ↦ inr o ])
          (λ f. (law.end_places.each q x f).out m z e h has);
      inn = λ m z e h has. queued q x m z e at has (λ c d. elim (a.in_item m z (ap (λ x. item_at x.in_queue m) c ∙ h))
          [ inl o ↦ inl ((law.end_places.each k r is.here).inn m z e o has) | inr o ↦ inr o ])
          (λ f. (law.end_places.each q x f).inn m z e h has);
    };
    within = λ f i m u x z moves e h has. let c = came f f i (messages.Item m u x z moves) h in
        law.end_places.within f c.at m u x z moves e c.was has;
  }
    where
      queued : (q : Key) (x : Router) (m : ℕ) (z : Item) (e : End) → router_at v q ≡ Some x → has_end e (ends_in z) ≡ true →
          (y ≡ x → q ≡ k → (terminal_node (g.terminal e) ≡ Some k.node) ⊎ (z ≡ item)) →
          (router_at w q ≡ Some x → terminal_node (g.terminal e) ≡ Some q.node) →
          terminal_node (g.terminal e) ≡ Some q.node
      queued q x m z e at has new old = go (same_key q k) refl
        where
          go : (c : Bool) → same_key q k ≡ c → terminal_node (g.terminal e) ≡ Some q.node
          go true c = let key : q ≡ k = grind (arith, same_key_tells q k, c) in let same : y ≡ x = grind (arith, t.router q, c, at) in
              elim (new same key) [
                | inl o ↦ o ∙ ap (λ j. Some j.node) (sym key)
                | inr o ↦ is.ends e
                    (subst (λ f. has_end e (ends_in f) ≡ true) o has) ∙ ap (λ j. Some j.node) (sym key)
              ]
          go false c = old (grind (arith, t.router q, c, at))

  link_end : r.end ≡ side_end g l s
  link_end = (attached_recorded w g k r l s (links-open law) is.here is.attached).3.end ∙ grind (
    arith,
    (attached_recorded w g k r l s (links-open law) is.here is.attached).1,
    (attached_recorded w g k r l s (links-open law) is.here is.attached).2,
  )

  -- a mark that comes was put
  marked : is_mark item ≡ true → is_outward l s ≡ true → is_closed b (opposite_end y.end) ≡ true
  marked m o =
      let has = in_places-has (at_end (source g l s) of_mark) g w from k.node 0 (messages.Item l s n item []) was in
      let weight : in_message (at_end (source g l s) of_mark) g (messages.Item l s n item []) ≡ 1 =
      in_message-item (at_end (source g l s) of_mark) g l s n item [] ∙ grind (arith, same_end-itself (source g l s), m) in
      let one : 1 ≤ from_number of_mark (read b (opposite_end (source g l s)))
      (drop (read b (opposite_end (source g l s))) (b.put (source g l s))) =
      omega (arith, has, weight, law.conserved.exact (source g l s) of_mark) in
      let closed : is_closed b (source g l s) ≡ true = mark_dropped (read b (opposite_end (source g l s))) (b.put (source g l s))
      (mark_weighs (read b (opposite_end (source g l s))) (drop (read b (opposite_end (source g l s))) (b.put (source g l s))) one) in
      ap (λ e. is_closed b e) (ap opposite_end (a.alike.end ∙ link_end) ∙ sym (source-fed g l s o)) ∙ closed

  pub books_kept-taken : BooksKept v b g
  books_kept-taken = record {
    own_pair = law.books_kept.own_pair;
    mark_last = law.books_kept.mark_last;
    gone_last = law.books_kept.gone_last;
    retired_closed = law.books_kept.retired_closed;
    numbers = law.books_kept.numbers;
    mark_seen = λ q x at m. seen_at q x at m (same_key q k) refl;
  }
    where
      seen_at : (q : Key) (x : Router) → router_at v q ≡ Some x → x.mark_seen ≡ true → (c : Bool) → same_key q k ≡ c →
          is_closed b (opposite_end x.end) ≡ true
      seen_at q x at m false c = law.books_kept.mark_seen q x (grind (arith, t.router q, c, at)) m
      seen_at q x at m true c = let same : y ≡ x = grind (arith, t.router q, c, at) in
          elim (a.mark (ap (λ z. z.mark_seen) same ∙ m)) [
            | inl o ↦ ap (λ z. is_closed b (opposite_end z)) (ap (λ z. z.end) (sym same) ∙ a.alike.end) ∙ law.books_kept.mark_seen k r
                is.here o
            | inr o ↦ ap (λ z. is_closed b (opposite_end z.end)) (sym same) ∙ marked o.0 o.1
          ]

  pub conserved-taken : ((f : Weight) → in_places f g v ≡ in_places f g w) → Conserved v b g
  conserved-taken places = record {
    exact = λ e h. places (at_end e h) ∙ law.conserved.exact e h;
    read_put = law.conserved.read_put;
    prefix = law.conserved.prefix;
    gone_closed = law.conserved.gone_closed;
    reach = λ q x at c. grind (
      arith,
      t.router q,
      same_key_tells q k,
      is.here,
      a.alike.end,
      a.alike.inward,
      out_same,
      law.conserved.reach q x,
      law.conserved.reach k r,
    );
    current = λ q x at c. grind (
      arith,
      t.router q,
      same_key_tells q k,
      is.here,
      a.alike.end,
      a.alike.inward,
      a.inn.current,
      law.conserved.current q x,
      law.conserved.current k r,
    );
    sink = λ q x at c. grind (
      arith,
      t.router q,
      same_key_tells q k,
      is.here,
      a.alike.end,
      a.alike.inward,
      a.closed,
      law.conserved.sink q x,
      law.conserved.sink k r,
    );
    move_out = λ f to i j m e h q. let c = came f to i m h in law.conserved.move_out f to c.at j m e c.was q;
    move_in = λ f to i j m e h q. let c = came f to i m h in law.conserved.move_in f to c.at j m e c.was q;
    move_open = λ f to i j m e h q. let c = came f to i m h in law.conserved.move_open f to c.at j m e c.was q;
    unopened_put = law.conserved.unopened_put;
    unopened_got = law.conserved.unopened_got;
  }
    where
      -- a terminal has no inward link
      out_same : is_terminal r ≡ true → y.out_queue ≡ r.out_queue
      out_same c = go (is_outward l s) refl
        where
          go : (o : Bool) → is_outward l s ≡ o → y.out_queue ≡ r.out_queue
          go true o = a.out_same o
          go false o = absurd (lone r.inward refl c (attached_inward l s r is.attached o))
            where
              lone : (x : Option Edge) → r.inward ≡ x → is_terminal r ≡ true → edge_has (inward_edge r) l s ≡ true → ⊥
              lone None e f h = no_link l s (grind (arith, e, h))
              lone (Some x) e f h = grind (arith, e, f)

  pub held_once-taken : ((f : Weight) → in_places f g v ≡ in_places f g w) → HasSameEnds w v → HeldOnce v b g
  held_once-taken places same = record {
    once = λ e. grind (arith, places (names_end e), times_same w v same e, law.held_once.once e);
    moves_in_parcel = λ f to i m u x z moves j e h q. let c = came f to i (messages.Item m u x z moves) h in
        law.held_once.moves_in_parcel f to c.at m u x z moves j e c.was q;
  }

-- the queue that gets the item lacked it
accepted_weight : (w : World) (b : Books) (g : Records) (from : ℕ) (k : Key) (r : Router) (l : LinkId) (s : Side) (n : ℕ) (item : Item) →
    OpenInv w b g → IsTake w g from k r l s n item → IsItemUnderWay w from k.node 0 l s n item [] → r.end ≡ side_end g l s →
    (f : Weight) → in_router f (accept r (is_outward l s) n item) ≡ in_router f r + f (source g l s) n item
unfolding accept
accepted_weight w b g from k r l s n item law is was end f = go (is_outward l s) refl
  where
    lacks : item_at (fed_queue l s r) n ≡ None
    lacks = not_there_yet w b g from k.node 0 l s n item [] (fed_queue l s r) law.conserved law.counts (links-open law) was
        (ap (taking_queue l s) (view-standing w g l s k r is.router is.here is.attached) ∙ taking_queue-standing l s r)

    go : (o : Bool) → is_outward l s ≡ o → in_router f (accept r o n item) ≡ in_router f r + f (source g l s) n item
    go true o = omega (
      arith,
      in_router-is f r,
      in_router-is f (accept r true n item),
      in_pushed (f (opposite_end r.end)) r.in_queue n item (ap (λ q. item_at q n) (sym (fed-in l s r o)) ∙ lacks),
      ap (λ e. f e n item) (ap opposite_end end ∙ sym (source-fed g l s o)),
    )
    go false o = omega (
      arith,
      in_router-is f r,
      in_router-is f (accept r false n item),
      in_pushed (f r.end) r.out_queue n item (ap (λ q. item_at q n) (sym (fed-out l s r o)) ∙ lacks),
      ap (λ e. f e n item) (end ∙ sym (source-fed_in g l s o)),
    )

hand_message-hand : (m : Message) → hand_message (mails.Hand m) ≡ Some m
unfolding hand_message
hand_message-hand m = refl

hand_message-empty : hand_message mails.Empty ≡ None
unfolding hand_message
hand_message-empty = refl

-- a hand that was emptied, with its mailbox
pub hands-freed : (w v : World) (g : Records) (from n : ℕ) → Counts w g → v.count ≡ w.count → (node_at w n).hand ≡ Some from → n < w.count →
    ((j : ℕ) → (node_at v j).hand ≡ cond (nat_eq j n) None (node_at w j).hand) →
    ((i : ℕ) → mail_at v i ≡ cond (nat_eq i (way w from n)) mails.Empty (mail_at w i)) → Hands v
hands-freed w v g from n law count was ln hand mail = record {
  hand = λ j f h a. grind (arith, count, hand j, other j f h a, law.hand j f, nat_tests);
  hand_from = λ j f h a. grind (arith, count, hand j, law.hand_from j f, nat_tests);
  in_hand = λ j f h l a. back j f h l a (nat_eq (way w f j) (way w from n)) refl;
}
  where
    apart : (j : ℕ) → j < v.count → (x : ℕ) → (node_at v j).hand ≡ Some x → nat_eq j n ≡ false
    apart j h x a = go (nat_eq j n) refl
      where
        go : (c : Bool) → nat_eq j n ≡ c → nat_eq j n ≡ false
        go true e = absurd (grind (arith, hand j, e, a))
        go false e = e

    other : (j f : ℕ) → j < v.count → (node_at v j).hand ≡ Some f → mail_at v (way v f j) ≡ mail_at w (way w f j)
    other j f h a = grind (
      arith,
      count,
      mail (way w f j),
      way_apart w.count f j from n (grind (arith, h, count)) ln
          (grind (arith, apart j h f a)),
    )

    back : (j f : ℕ) → j < v.count → f < v.count → is_some (hand_message (mail_at v (way v f j))) ≡ true → (c : Bool) →
        nat_eq (way w f j) (way w from n) ≡ c → (node_at v j).hand ≡ Some f
    back j f h l a true e = absurd (grind (arith, count, mail (way w f j), e, a, hand_message-empty))
    back j f h l a false e = go (nat_eq j n) refl
      where
        full : is_some (hand_message (mail_at w (way w f j))) ≡ true
        full = grind (arith, count, mail (way w f j), e, a)

        held : (node_at w j).hand ≡ Some f
        held = law.in_hand j f (grind (arith, h, count)) (grind (arith, l, count)) full

        go : (c : Bool) → nat_eq j n ≡ c → (node_at v j).hand ≡ Some f
        go true q = let same : j ≡ n = grind (arith, q, nat_tests) in let one : f ≡ from = grind (arith, held, was, same) in
            absurd (grind (arith, e, same, one, nat_tests))
        go false q = hand j ∙ grind (arith, q, held)

-- all together
pub inv-taken : (w : World) (b : Books) (g : Records) (from : ℕ) (k : Key) (r : Router) (l : LinkId) (s : Side) (n : ℕ) (item : Item) →
    OpenInv w b g → IsTake w g from k r l s n item → OpenInv (take_act w from k (accept r (is_outward l s) n item)) b g
inv-taken w b g from k r l s n item law is = record {
  counts = counts-touched w v k r y g t a.alike law.counts hands;
  ordered = ordered-filled w v b g k r y from k.node 0 l s n item [] law is.here was is.router is.attached filling;
  shape = shape-touched w v k r y g t a.alike law.shape;
  roles = roles-touched w v k r y g t a.alike law.roles;
  begun = law.begun;
  stands = stands-touched w v k r y g t a.alike law.stands;
  words = words-touched w v k r y g t a.alike law.words;
  spares = spares-touched w v k r y g t a.alike law.spares;
  bypasses = bypasses-touched w v k r y g t a.alike law.bypasses;
  live = law.live;
  stages = stages-touched w v k r y g t a.alike law.stages;
  controls = controls-taken w v b g from k r y l s n item law is a t p;
  moves = moves-taken w v b g from k r y l s n item law is a t p;
  terminals = terminals-touched w v k r y g t a.alike law.terminals;
  end_places = end_places-taken w v b g from k r y l s n item law is a t p ends;
  books_kept = books_kept-taken w v b g from k r y l s n item law is a t p;
  retired_ends = law.retired_ends;
  gones = gones-by w v b g g (was-gone w v k r y t.router is.here a.gone) (λ x u h. h) law.gones;
  items = items-taken w v b g from k r y l s n item law is a t p;
  order = order-filled w v b g k r y from k.node 0 l s n item [] law is.here was is.router is.attached filling;
  proxy_numbers = proxy_numbers-filled w v b g k r y from k.node 0 l s n item [] law is.here was is.router is.attached filling;
  fresh_numbers = fresh_numbers-taken w v b g from k r y l s n item law is a t p;
  conserved = conserved-taken w v b g from k r y l s n item law is a t p places;
  held_once = held_once-taken w v b g from k r y l s n item law is a t p places ends;
  no_strays = λ j. t.strays j ∙ law.no_strays j;
}
  where
    y : Router
    y = accept r (is_outward l s) n item

    x : Node
    x = record (with_router (node_at w k.node) k.serial y) { hand = None }

    v : World
    v = take_act w from k y

    -- a link that isn't outward is one of a proxy
    inward_proxy : is_outward l s ≡ false → is_terminal r ≡ false
    inward_proxy o = go (is_terminal r) refl
      where
        go : (c : Bool) → is_terminal r ≡ c → c ≡ false
        go false e = refl
        go true e = absurd (true≢false (sym (terminal_outward l s r e is.attached) ∙ o))

    a : IsAccepted r y n item (is_outward l s)
    a = accepted r (is_outward l s) n item inward_proxy

    on_node : k.node < w.count
    on_node = law.counts.on_node k r is.here

    changed : IsNodeChanged w v k.node x
    changed = record {
      node = λ j. node-set_mail (set_node w k.node x) (way w from k.node) mails.Empty j ∙ node-set_node w k.node x j;
      word = λ i. word-set_mail (set_node w k.node x) (way w from k.node) mails.Empty i ∙ word-set_node w k.node x i;
      claimed = claimed-set_mail (set_node w k.node x) (way w from k.node) mails.Empty ∙ claimed-set_node w k.node x;
      size = size-set_mail (set_node w k.node x) (way w from k.node) mails.Empty ∙ size-set_node w k.node x;
      count = count-set_mail (set_node w k.node x) (way w from k.node) mails.Empty ∙ count-set_node w k.node x;
    }

    mail : (i : ℕ) → mail_at v i ≡ cond (nat_eq i (way w from k.node)) mails.Empty (mail_at w i)
    mail i = mail-set_mail (set_node w k.node x) (way w from k.node) mails.Empty i ∙ ap
        (λ z. cond (nat_eq i (way w from k.node)) mails.Empty z) (mail-set_node w k.node x i)

    t : IsTouched w v k r y
    t = touched_by w v k r y x changed (record {
      node = refl;
      nodes = refl;
      opening = refl;
      next_router = refl;
      next_peripheral = refl;
      strays = refl;
    }) refl is.here

    p : IsTaken w v from k.node (messages.Item l s n item [])
    p = taken_by w v from k.node x (messages.Item l s n item []) changed mail is.in_hand refl
        (law.counts.hand_from k.node from on_node is.hand) on_node

    was : IsItemUnderWay w from k.node 0 l s n item []
    was = record { sender = p.sender; receiver = p.receiver; place = ap (λ ms. slice_get ms 0) p.here }

    filling : IsFilling w v k r y n (is_outward l s)
    filling = record { touched = t; alike = a.alike; out = a.out; inn = a.inn }

    hands : Hands v
    hands = hands-freed w v g from k.node law.counts changed.count is.hand on_node
        (λ j. ap (λ z. z.hand) (changed.node j) ∙ hand_cond (nat_eq j k.node) x (node_at w j)) mail
      where
        hand_cond : (c : Bool) (x z : Node) → (cond c x z).hand ≡ cond c x.hand z.hand
        hand_cond true x z = refl
        hand_cond false x z = refl

    ends : HasSameEnds w v
    ends = record {
      count = changed.count;
      held = λ j. grind (arith, changed.node j, nat_tests);
      pending =
          λ j. grind (arith, changed.node j, nat_tests);
    }

    places : (f : Weight) → in_places f g v ≡ in_places f g w
    places f = omega (
      arith,
      in_places-is f g w,
      in_places-is f g v,
      in_nodes-changed f g w v k.node x changed on_node,
      in_node-changed f g (node_at w k.node) x k.serial r y (router_here w k r is.here) refl refl,
      under_way-taken (λ from to m. in_message f g m) w v from k.node (messages.Item l s n item []) p,
      in_message-item f g l s n item [],
      accepted_weight w b g from k r l s n item law is was (link_end w v b g from k r y l s n item law is a t p) f,
    )

-- an item that moves no end
pub closed-taken : (w : World) (b : Books) (g : Records) (from : ℕ) (k : Key) (r : Router) (l : LinkId) (s : Side) (n : ℕ) (item : Item) →
    Inv w b g → router_at w k ≡ Some r → mail_at w (way w from k.node) ≡ mails.Hand (messages.Item l s n item []) →
    (node_at w k.node).hand ≡ Some from →
    side_router g l s ≡ Some k → is_attached l s r ≡ true → Inv (take_act w from k (accept r (is_outward l s) n item)) b g
closed-taken w b g from k r l s n item law here in_hand hand known on =
    closed v b g (inv-taken w b g from k r l s n item (opened w b g law) is)
    (λ f to i m u x z moves h ne. let c = came_taken w v from k.node (messages.Item l s n item []) p
    (λ link u. plain_makes link l u s n item) f to i (messages.Item m u x z moves) h in law.moves.ends f to c.at m u x z moves c.was ne)
  where
    y : Router
    y = accept r (is_outward l s) n item

    x : Node
    x = record (with_router (node_at w k.node) k.serial (accept r (is_outward l s) n item)) { hand = None }

    v : World
    v = take_act w from k (accept r (is_outward l s) n item)

    changed : IsNodeChanged w (take_act w from k (accept r (is_outward l s) n item)) k.node
        (record (with_router (node_at w k.node) k.serial (accept r (is_outward l s) n item)) { hand = None })
    changed = let x : Node = record (with_router (node_at w k.node) k.serial (accept r (is_outward l s) n item)) { hand = None } in record {
      node = λ j. node-set_mail (set_node w k.node x) (way w from k.node) mails.Empty j ∙ node-set_node w k.node x j;
      word = λ i. word-set_mail (set_node w k.node x) (way w from k.node) mails.Empty i ∙ word-set_node w k.node x i;
      claimed = claimed-set_mail (set_node w k.node x) (way w from k.node) mails.Empty ∙ claimed-set_node w k.node x;
      size = size-set_mail (set_node w k.node x) (way w from k.node) mails.Empty ∙ size-set_node w k.node x;
      count = count-set_mail (set_node w k.node x) (way w from k.node) mails.Empty ∙ count-set_node w k.node x;
    }

    mail : (i : ℕ) → mail_at (take_act w from k (accept r (is_outward l s) n item)) i ≡ cond (nat_eq i (way w from k.node)) mails.Empty
        (mail_at w i)
    mail i = let x : Node = record (with_router (node_at w k.node) k.serial (accept r (is_outward l s) n item)) { hand = None } in
        mail-set_mail (set_node w k.node x) (way w from k.node) mails.Empty i ∙ ap (λ z. cond (nat_eq i (way w from k.node)) mails.Empty z)
        (mail-set_node w k.node x i)

    on_node : k.node < w.count
    on_node = law.counts.on_node k r here

    p : IsTaken w (take_act w from k (accept r (is_outward l s) n item)) from k.node (messages.Item l s n item [])
    p = taken_by w (take_act w from k (accept r (is_outward l s) n item)) from k.node
        (record (with_router (node_at w k.node) k.serial (accept r (is_outward l s) n item)) { hand = None }) (messages.Item l s n item [])
        changed mail in_hand refl (law.counts.hand_from k.node from on_node hand) on_node

    was : IsItemUnderWay w from k.node 0 l s n item []
    was = record { sender = p.sender; receiver = p.receiver; place = ap (λ ms. slice_get ms 0) p.here }

    ends_here : (e : End) → has_end e (ends_in item) ≡ true → terminal_node (g.terminal e) ≡ Some k.node
    ends_here e h = go (nat_eq from k.node) refl
      where
        go : (c : Bool) → nat_eq from k.node ≡ c → terminal_node (g.terminal e) ≡ Some k.node
        go true q = law.end_places.within k.node 0 l s n item [] e
            (subst (λ f. IsItemUnderWay w f k.node 0 l s n item []) (grind (arith, q, nat_tests)) was) h
        go false q = let none : [] ≡ ends_in item = law.moves.ends from k.node 0 l s n item [] was (λ f. grind (arith, q, f, nat_tests)) in
            absurd (grind (arith, none, h))

    is : IsTake w g from k r l s n item
    is = record { here = here; in_hand = in_hand; hand = hand; router = known; attached = on; ends = ends_here }
