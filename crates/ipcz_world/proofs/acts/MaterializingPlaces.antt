-- A descriptor becomes a terminal, and the message that had it has it no more: the messages, and the place of each end.
use Rattle.ipcz_world.proofs.frames.Opened.{links-open, positions-open}
use Rattle.ipcz_world.proofs.frames.OfRecords.{holds}
use Rattle.std.specs.Prelude.{◌≡◌, ◌≢◌, ◌⊎◌, ◌+◌, ℕ, suc, Bool, true, false, ◌&&◌, Some, None, is_some, refl, List, ◌∷◌, slice_get}
use Rattle.std.proofs.Common.{arith, ap, subst, ◌∙◌, sym, inl, inr}
use Rattle.ipcz_world.proofs.Vocabulary.{Side, A, B, End, LinkId, Central, LinkEnd, Descriptor, Item, Message, opposite, same_side, same_link}
use Rattle.ipcz_world.proofs.Vocabulary.{same_end, has_end, item_at, Router, from_descriptor, World, Key, same_key, router_at, Books, Records, At}
use Rattle.ipcz_world.proofs.Vocabulary.{is_recorded, inner_link, side_router, side_end, terminal_node, view, IsUnderWay, is_made_before, under_way}
use Rattle.ipcz_world.proofs.Vocabulary.{of_end, moves_of, total_list, Controls, of_bypass, inner_of, moving_link, EndPlaces, BooksKept, Items}
use Rattle.ipcz_world.proofs.Vocabulary.{FreshNumbers, standing_router, Moving, move_weight, IsItemUnderWay}
use Rattle.ipcz_base.specs.declared.message.Message.TheVariants as messages
use Rattle.ipcz_world.proofs.frames.Touching.{HasSameEnds}
use Rattle.ipcz_world.proofs.frames.Fitting.{fits_of, items_by}
use Rattle.ipcz_world.proofs.frames.Flowing.{IsRewritten, came_rewritten, made_still, under_way-rewritten, under_way-congr, weighed}
use Rattle.ipcz_world.proofs.frames.Opened.{OpenInv, OpenMoves}
use Rattle.ipcz_world.proofs.frames.Known.{fresh_central}
use Rattle.ipcz_world.proofs.acts.Sending.{about-item, moves-item}
use Rattle.ipcz_world.proofs.frames.Awaited.{awaited_none, expected_move-moving}
use Rattle.ipcz_world.proofs.acts.ExtendingAround.{inner_end_is}
use Rattle.ipcz_world.proofs.acts.ExtendingFacts.{same_end-turned}
use Rattle.ipcz_world.proofs.acts.MaterializingAround.{made_key_records, IsMade, IsMaterial, end_is, peripheral_same, node_same, not_none}
use Rattle.ipcz_world.proofs.acts.MaterializingAround.{no_central, end_same, bypass_same, side_same, recorded_same, router_new}
use Rattle.ipcz_world.proofs.acts.MaterializingAround.{router_same, was_there}
use Rattle.ipcz_world.proofs.acts.MaterializingItems.{total_list-at, none_of_end, no_weight, makes-less, d0, moving, other_terminal}
use Rattle.ipcz_world.proofs.acts.MaterializingItems.{seen_made, length_same, fits-made}
use Rattle.ipcz_world.proofs.acts.ExtendingItems.{same_link-turned, same_item, blank_at}
use Rattle.ipcz_world.proofs.frames.Booking.{expected_move-at}
use Rattle.ipcz_world.proofs.facts.Lengths.{same_link-tells, same_side-tells}
use Rattle.ipcz_world.proofs.frames.FreshPairs.{expected_alike, about_same}
use Rattle.ipcz_world.proofs.facts.LinkTests.{same_end-itself, same_end-tells}

terminal_node-moving : (d : Descriptor) → terminal_node (Moving d) ≡ None
unfolding terminal_node
terminal_node-moving d = refl

same_key-link : (k p : Key) → same_key k p ≡ false → same_link (inner_link k) (inner_link p) ≡ false
unfolding same_key
same_key-link k p c = c

-- with the message that had the descriptor
module _ {w v : World} {b : Books} {g : Records} {a : ℕ} {q p : Key} {d : Descriptor} (law : OpenInv w b g) (is : IsMaterial w g a q p d)
    (t : IsMade w v q (from_descriptor d a)) {l : LinkId} {s : Side} {n : ℕ} {item : Item} {moves : List Descriptor}
    {pre post : List Message}
    (r : IsRewritten w v a q.node pre post (messages.Item l s n item (d ∷ moves)) (messages.Item l s n item moves)) (away : a ≢ q.node)
    (ends : HasSameEnds w v) where
  abbrev h2 : Records
  h2 = made_key_records g p q d.end

  abbrev m0 : Message
  m0 = messages.Item l s n item (d ∷ moves)

  abbrev m1 : Message
  m1 = messages.Item l s n item moves

  pub came : (from to i : ℕ) (x : Message) → IsUnderWay v from to i x →
      (IsUnderWay w from to i x) ⊎ ((x ≡ m1) × (from ≡ a) × (to ≡ q.node) × IsUnderWay w from to i m0)
  came = came_rewritten w v a q.node pre post m0 m1 r

  -- a side without its router isn't the one that was made
  still_waits : (link : LinkId) (u : Side) → side_router h2 link u ≡ None → (same_link link (inner_link p) && same_side u B) ≡ false
  still_waits link u none = go (same_link link (inner_link p) && same_side u B) refl
    where
      go : (c : Bool) → (same_link link (inner_link p) && same_side u B) ≡ c → (same_link link (inner_link p) && same_side u B) ≡ false
      go false c = c
      go true c = let x : link ≡ inner_link p = same_link-tells link (inner_link p) (grind (arith, c)) in let y : u ≡ B =
          same_side-tells u B (grind (arith, c)) in
          absurd (not_none (sym none ∙ ap (λ l. side_router h2 l u) x ∙ ap (side_router h2 (inner_link p)) y ∙ router_new
          law is t))

  still : (from to i : ℕ) (x : Message) → IsUnderWay v from to i x → (link : LinkId) (u : Side) → side_router h2 link u ≡ None →
      is_made_before w from to i link u ≡ true → is_made_before v from to i link u ≡ true
  still from to i x c link u none e = made_still w v a q.node pre post m0 m1 r from to i x c link u
      (makes-less link l u s n item moves d (turned (still_waits link u none))) e
    where
      turned : (same_link link (inner_link p) && same_side u B) ≡ false → (same_link d.link link && same_side u B) ≡ false
      turned f = ap (λ c. same_link c link && same_side u B) is.link ∙ ap (λ c. c && same_side u B) (same_link-turned link (inner_link p)) ∙
          f

  item_came : (from to i : ℕ) (x : LinkId) (u : Side) (m : ℕ) (z : Item) (ds : List Descriptor) →
      IsUnderWay v from to i (messages.Item x u m z ds) → (cs : List Descriptor) × IsItemUnderWay w from to i x u m z cs
  item_came from to i x u m z ds c = elim (came from to i (messages.Item x u m z ds) c) [
    | inl o ↦ (ds, o)
    | inr o ↦ (d ∷ moves, subst (λ f. IsUnderWay w from to i f) (same_item x l u s m n z item ds moves (d ∷ moves) o.0) o.3)
  ]

  pub items-made : Items v h2
  items-made = items_by v h2 (λ from to i x u m z ds c. let o = item_came from to i x u m z ds c in
      fits-made w v b g a q p d law is t from to i x u m (fits_of w g from to i x u m z o.0 law.items o.1)
      (λ e. still from to i (messages.Item x u m z ds) c x u (awaited_none v h2 x u e)))

  plain_came : (from to i : ℕ) (x : Message) → IsUnderWay v from to i x → (x ≡ m1 → ⊥) → IsUnderWay w from to i x
  plain_came from to i x c other = elim (came from to i x c) [ inl o ↦ o | inr o ↦ absurd (other o.0) ]

  pub controls-made : Controls v h2
  controls-made = record {
    control = λ o f. let u = under_way-rewritten (λ from to. of_bypass h2 o (f from to)) w v a q.node pre post m0 m1 r in
        let same : under_way (λ from to. of_bypass h2 o (f from to)) w ≡ under_way (λ from to. of_bypass g o (f from to)) w =
        under_way-congr (λ from to. of_bypass h2 o (f from to)) (λ from to. of_bypass g o (f from to)) w
        (λ from to i m c. about_same g h2 o (f from to) m (bypass_same law is t)) in
        omega (
          arith,
          u,
          same,
          law.controls.control o f,
          about-item h2 o (f a q.node) l s n item (d ∷ moves),
          about-item h2 o (f a q.node) l s n item moves,
          expected_alike g h2 f o refl (node_same law is t (inner_of g o) B) (side_same law is t o)
              (λ z. node_same law is t (Central o) z),
        );
    will_stop = λ from to i x u m c. ap is_some (bypass_same law is t x) ∙ law.controls.will_stop from to i x u m
        (plain_came from to i (messages.ProxyWillStop x u m) c (λ e. grind (arith, e)));
    behind = λ from to i x u old target fresh c e. let o = plain_came from to i (messages.BypassPeer x u old target fresh) c
        (λ e. grind (arith, e)) in
        still from to i (messages.BypassPeer x u old target fresh) c x u e
        (law.controls.behind from to i x u old target fresh o (sym (router_same law is t x u (still_waits x u e)) ∙ e));
    flush_central = λ from to i x u c. law.controls.flush_central from to i x u (flush from to i x u c);
    flush_recorded = λ from to i x u c. recorded_same law is t x ∙ law.controls.flush_recorded from to i x u
        (flush from to i x u c);
    flush_to = λ from to i x u c. law.controls.flush_to from to i x u (flush from to i x u c) ∙ sym (node_same law is t x u);
    flush_from = λ from to i x u c. law.controls.flush_from from to i x u (flush from to i x u c) ∙ sym
        (node_same law is t x (opposite u));
  }
    where
      flush : (from to i : ℕ) (x : LinkId) (u : Side) → IsUnderWay v from to i (messages.Flush x u) →
          IsUnderWay w from to i (messages.Flush x u)
      flush from to i x u c = plain_came from to i (messages.Flush x u) c (λ e. grind (arith, e))

  -- a descriptor under way was so before
  pub descriptor_came : (from to i j : ℕ) (x : Message) (c : Descriptor) → IsUnderWay v from to i x → slice_get (moves_of x) j ≡ Some c →
      (z : Message) × IsUnderWay w from to i z × ((k : ℕ) × (slice_get (moves_of z) k ≡ Some c))
  descriptor_came from to i j x c u f = elim (came from to i x u) [
    | inl o ↦ (x, o, (j, f))
    | inr o ↦ (
      m0,
      o.3,
      (
        suc j,
        ap (λ ms. slice_get ms (suc j)) (moves-item l s n item (d ∷ moves)) ∙ ap (λ ms. slice_get ms j)
            (sym (ap moves_of o.0 ∙ moves-item l s n item moves)) ∙ f,
      ),
    )
  ]

  sums : (e : End) (f : Descriptor → ℕ) → under_way (λ from to m. total_list (of_end e f) (moves_of m)) v + of_end e f d ≡ move_weight f
      (g.terminal e)
  sums e f = let u = under_way-rewritten (λ from to m. total_list (of_end e f) (moves_of m)) w v a q.node pre post m0 m1 r in
      omega (
        arith,
        u,
        law.moves.one e f,
        ap (total_list (of_end e f)) (moves-item l s n item (d ∷ moves)),
        ap (total_list (of_end e f)) (moves-item l s n item moves),
      )

  own_weight : (f : Descriptor → ℕ) → of_end d.end f d ≡ f d
  own_weight f = grind (arith, same_end-itself d.end)

  -- none of those left is of this end
  gone_end : (from to i j : ℕ) (x : Message) (c : Descriptor) → IsUnderWay v from to i x → slice_get (moves_of x) j ≡ Some c →
      same_end c.end d.end ≡ false
  gone_end from to i j x c u f = go (same_end c.end d.end) refl
    where
      one : Descriptor → ℕ
      one z = 1

      go : (e : Bool) → same_end c.end d.end ≡ e → same_end c.end d.end ≡ false
      go false e = e
      go true e =
          let weight : of_end d.end (λ z. 1) c ≡ 1 = grind (arith, e) in
          let all = weighed (λ from to m. total_list (of_end d.end (λ z. 1)) (moves_of m)) v from to i x u in let here =
          total_list-at (of_end d.end (λ z. 1)) (moves_of x) j c f in
          absurd (omega (
            arith,
            all,
            here,
            weight,
            sums d.end (λ z. 1),
            own_weight (λ z. 1),
            ap (move_weight (λ z. 1)) (moving w v b g a q p d law is t) ∙ expected_move-moving (λ z. 1) (d0 w v b g a q p d law is t),
          ))

  pub moves-made : OpenMoves v h2
  moves-made = record {
    within = λ m i x u z c ds e. elim (came m m i (messages.Item x u z c ds) e) [
      | inl o ↦ law.moves.within m i x u z c ds o
      | inr o ↦ absurd (away (sym o.1 ∙ o.2))
    ];
    recorded = λ from to i j m c u e. let o = descriptor_came from to i j m c u e in
        recorded_same law is t c.link ∙ law.moves.recorded from to i o.2.0 o.0 c o.1 o.2.1;
    peripheral = λ from to i j m c u e. let o = descriptor_came from to i j m c u e in law.moves.peripheral from to i o.2.0 o.0 c o.1 o.2.1;
    sender = λ from to i j m c u e. let o = descriptor_came from to i j m c u e in
        node_same law is t c.link A ∙ law.moves.sender from to i o.2.0 o.0 c o.1 o.2.1;
    receiver = λ from to i j m c u e. let o = descriptor_came from to i j m c u e in
        node_same law is t c.link B ∙ law.moves.receiver from to i o.2.0 o.0 c o.1 o.2.1;
    awaited = λ from to i j m c u e. let o = descriptor_came from to i j m c u e in
        router_same law is t c.link B (other_link c (gone_end from to i j m c u e)
        (law.moves.end from to i o.2.0 o.0 c o.1 o.2.1)) ∙ law.moves.awaited from to i o.2.0 o.0 c o.1 o.2.1;
    end = λ from to i j m c u e. let o = descriptor_came from to i j m c u e in
        end_same law is t c.link B ∙ law.moves.end from to i o.2.0 o.0 c o.1 o.2.1;
    one = λ e f. weigh e f (same_end e d.end) refl;
    moving = λ k rec none. waiting k (sym (recorded_same law is t (inner_link k)) ∙ rec) none (same_key k p) refl;
  }
    where
      other_link : (c : Descriptor) → same_end c.end d.end ≡ false → side_end g c.link B ≡ c.end →
          (same_link c.link (inner_link p) && same_side B B) ≡ false
      other_link c apart end = go (same_link c.link (inner_link p)) refl
        where
          go : (e : Bool) → same_link c.link (inner_link p) ≡ e → (same_link c.link (inner_link p) && same_side B B) ≡ false
          go false e = grind (arith, e)
          go true e = let x : c.end ≡ d.end = sym end ∙ ap (λ l. side_end g l B) (same_link-tells c.link (inner_link p) e) ∙ inner_end_is g
              p B ∙ end_is law is t in absurd (grind (arith, apart, x, same_end-itself d.end))

      none_left : (f : Descriptor → ℕ) → under_way (λ from to m. total_list (of_end d.end f) (moves_of m)) v ≡ 0
      none_left f = under_way-congr (λ from to m. total_list (of_end d.end f) (moves_of m)) (λ from to m. 0) v
          (λ from to i m u. none_of_end f d.end (moves_of m) (λ j c e. gone_end from to i j m c u e)) ∙ no_weight v

      weigh : (e : End) (f : Descriptor → ℕ) (c : Bool) → same_end e d.end ≡ c →
          under_way (λ from to m. total_list (of_end e f) (moves_of m)) v ≡ move_weight f (h2.terminal e)
      weigh e f true c = let z : e ≡ d.end = same_end-tells e d.end c in
          subst (λ e. under_way (λ from to m. total_list (of_end e f) (moves_of m)) v ≡ move_weight f (h2.terminal e)) (sym z)
          (none_left f ∙ sym (ap (move_weight f) new_terminal ∙ expected_move-at f q))
        where
          new_terminal : h2.terminal d.end ≡ At q
          new_terminal = grind (arith, same_end-itself d.end)
      weigh e f false c = let zero : of_end e f d ≡ 0 = grind (arith, same_end-turned e d.end, c) in
          omega (arith, sums e f, zero, ap (move_weight f) (same_terminal e c))
        where
          same_terminal : (e : End) → same_end e d.end ≡ false → h2.terminal e ≡ g.terminal e
          same_terminal e c = grind (arith, c)

      waiting : (k : Key) → is_recorded w g (inner_link k) ≡ true → (h2.peripheral k).router ≡ None → (c : Bool) → same_key k p ≡ c →
          moving_link (h2.terminal (h2.peripheral k).end) ≡ Some (inner_link k)
      waiting k rec none true c = absurd (not_none (sym none ∙ made_router c))
        where
          made_router : same_key k p ≡ true → (h2.peripheral k).router ≡ Some q.serial
          made_router c = grind (arith, c)
      waiting k rec none false c =
          let old : (g.peripheral k).router ≡ None = grind (arith, c, none) in
          ap (λ e. moving_link (h2.terminal e)) (peripheral_same law is t (λ z. z.end) (λ z o. refl) k) ∙ ap moving_link
          (other_terminal w v b g a q p d law is t k rec old (apart_link k c)) ∙ law.moves.moving k rec old
        where
          apart_link : (k : Key) → same_key k p ≡ false → same_link (inner_link k) (inner_link p) ≡ false
          apart_link k c = same_key-link k p c

  pub fresh_numbers-made : FreshNumbers v h2
  fresh_numbers-made x z at = record {
    own = λ e f len on off c. (law.fresh_numbers x z (old x z f at off)).own e f len on off c;
    comes = λ e f len from to i m c ds on off k o. let j = item_came from to i e.link e.side m c ds o in
        (law.fresh_numbers x z (old x z f at off)).comes e f len from to i m c j.0 on off
        (sym (length_same w v b g a q p d law is t f.link (opposite f.side)) ∙ k) j.1;
    other = λ c e f len on off k there. (law.fresh_numbers x z (old x z f at off)).other c e f len on off
        (sym (length_same w v b g a q p d law is t f.link (opposite f.side)) ∙ k) (standing_came x z c e f (old x z f at off) on off there);
  }
    where
      old : (x : Key) (z : Router) (f : LinkEnd) → router_at v x ≡ Some z → z.outward.decaying ≡ Some f → router_at w x ≡ Some z
      old x z f at off = elim (was_there law is t x z at) [ inl o ↦ o.0 | inr o ↦ absurd (grind (arith, o.0, off)) ]

      standing_came : (x : Key) (z c : Router) (e f : LinkEnd) → router_at w x ≡ Some z → z.outward.primary ≡ Some e →
          z.outward.decaying ≡ Some f → standing_router (view v h2 e.link (opposite e.side)) ≡ Some c →
          standing_router (view w g e.link (opposite e.side)) ≡ Some c
      standing_came x z c e f at on off there = elim (seen_made w v b g a q p d law is t e.link (opposite e.side)
          (((links-open law) x z at).primary e on).recorded) [
            | inl o ↦ ap standing_router (sym o) ∙ there
            | inr o ↦ absurd (no_central (sym (fresh_central w g x z e f (positions-open law) at on off).1 ∙ o.link_is))
          ]

  term_kept : (e : End) (m : ℕ) → terminal_node (g.terminal e) ≡ Some m → terminal_node (h2.terminal e) ≡ Some m
  term_kept e m f = go (same_end e d.end) refl
    where
      go : (c : Bool) → same_end e d.end ≡ c → terminal_node (h2.terminal e) ≡ Some m
      go false c = grind (arith, c, f)
      go true c = absurd (not_none (sym (terminal_node-moving (d0 w v b g a q p d law is t)) ∙ ap terminal_node
          (sym (moving w v b g a q p d law is t)) ∙ ap (λ e. terminal_node (g.terminal e)) (sym (same_end-tells e d.end c)) ∙ f))

  pub end_places-made : EndPlaces v h2
  end_places-made = record {
    held = λ m e has. term_kept e m (law.end_places.held m e (subst (λ c. holds e c ≡ true) (ends.held m) has));
    pending = λ m e has. term_kept e m (law.end_places.pending m e (subst (λ c. has_end e c ≡ true) (ends.pending m) has));
    each = λ x z at. record {
      out = λ m i e f has. elim (was_there law is t x z at) [
        | inl o ↦ term_kept e x.node ((law.end_places.each x z o.0).out m i e f has)
        | inr o ↦ absurd
            (not_none (sym (blank_at d.next_out m) ∙ ap (λ z. item_at z.out_queue m) (sym o.0) ∙ f))
      ];
      inn = λ m i e f has. elim (was_there law is t x z at) [
        | inl o ↦ term_kept e x.node ((law.end_places.each x z o.0).inn m i e f has)
        | inr o ↦ absurd
            (not_none (sym (blank_at d.next_in m) ∙ ap (λ z. item_at z.in_queue m) (sym o.0) ∙ f))
      ];
    };
    within = λ m i x u j z ds e c has. let o = item_came m m i x u j z ds c in
        term_kept e m (law.end_places.within m i x u j z o.0 e o.1 has);
  }

  pub books_kept-made : BooksKept v b h2
  books_kept-made = record {
    own_pair = law.books_kept.own_pair;
    mark_last = law.books_kept.mark_last;
    gone_last = law.books_kept.gone_last;
    retired_closed = law.books_kept.retired_closed;
    numbers = law.books_kept.numbers;
    mark_seen = λ x z at e. elim (was_there law is t x z at)
        [ inl o ↦ law.books_kept.mark_seen x z o.0 e | inr o ↦ absurd (grind (arith, o.0, e)) ];
  }
