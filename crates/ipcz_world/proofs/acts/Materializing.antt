-- A descriptor of a message in hand becomes a terminal: the invariant is kept, with one end less under way.
use Rattle.std.specs.Prelude.{Bool, true, false, refl}
use Rattle.ipcz_world.proofs.Vocabulary.{LinkEnd, opposite, opposite_end, same_end, A, End, Central, Side, LinkId, Descriptor, Item, Message, has_end}
use Rattle.ipcz_world.proofs.Vocabulary.{from_descriptor, ends_in, World, Key, node_at, Books, read, is_closed, Records, IsUnderWay, under_way}
use Rattle.ipcz_world.proofs.Vocabulary.{Weight, at_end, names_end, total_below, Conserved, HeldOnce, is_left, Retired, is_retired, RetiredEnds}
use Rattle.ipcz_world.proofs.Vocabulary.{Gones, reach}
use Rattle.ipcz_world.proofs.facts.LinkTests.{same_end-itself, same_end-tells, opposite_end-twice}
use Rattle.std.proofs.lemmas.Option.{same_Some}
use Rattle.std.specs.Prelude.{◌||◌}
use Rattle.std.proofs.Common.{true≢false}
use Rattle.ipcz_world.proofs.frames.GonesKept.{IsGoneRight, right-of, right-left, gones-one, gones-all, open_unretired}
use Rattle.ipcz_world.proofs.acts.ExtendingAround.{inner_end_is}
use Rattle.ipcz_world.specs.Records.{At, side_end}
use Rattle.ipcz_world.specs.Books.{read}
use Rattle.ipcz_world.proofs.acts.MaterializingAround.{left_same, end_same, side_same, end_is}
use Rattle.std.specs.Prelude.{◌≡◌, ◌≢◌, ◌⊎◌, ℕ, suc, true, cond, Some, List, ◌∷◌, length, slice_get}
use Rattle.std.proofs.Common.{arith, ap, subst, ◌∙◌, sym, inl, inr}
use Rattle.ipcz_base.specs.declared.message.Message.TheVariants as messages
use Rattle.ipcz_world.proofs.frames.OfRecords.{in_message, in_node, in_places}
use Rattle.ipcz_world.proofs.frames.Touching.{HasSameEnds, Hands}
use Rattle.ipcz_world.proofs.frames.Flowing.{IsRewritten, under_way-rewritten, under_way-congr}
use Rattle.ipcz_world.proofs.frames.Opened.{OpenInv}
use Rattle.ipcz_world.proofs.frames.Weighing.{in_places-is, in_message-item, in_message-same}
use Rattle.ipcz_world.proofs.acts.Sending.{times_same}
use Rattle.ipcz_world.proofs.acts.ExtendingFacts.{in_node-same}
use Rattle.ipcz_world.proofs.acts.MaterializingAround.{made_key_records, IsMade, IsMaterial, source_same, was_there}
use Rattle.ipcz_world.proofs.acts.MaterializingStages.{nowhere_same, stands-made, words-made, spares-made, bypasses-made, stages-made}
use Rattle.ipcz_world.proofs.acts.MaterializingStages.{terminals-made}
use Rattle.ipcz_world.proofs.acts.MaterializingLinks.{counts-made, ordered-made, shape-made, roles-made, begun-made}
use Rattle.ipcz_world.proofs.acts.MaterializingItems.{reach-blank, order-made, proxy_numbers-made}
use Rattle.ipcz_world.proofs.acts.MaterializingPlaces.{came, items-made, controls-made, descriptor_came, moves-made, fresh_numbers-made}
use Rattle.ipcz_world.proofs.acts.MaterializingPlaces.{end_places-made, books_kept-made}
use Rattle.ipcz_world.proofs.frames.Totalling.{total_below-same}

-- with the message that had the descriptor
module _ (w v : World) (b : Books) (g : Records) (a : ℕ) (q p : Key) (d : Descriptor) (law : OpenInv w b g) (is : IsMaterial w g a q p d)
    (t : IsMade w v q (from_descriptor d a)) (l : LinkId) (s : Side) (n : ℕ) (item : Item) (moves : List Descriptor)
    (pre post : List Message)
    (r : IsRewritten w v a q.node pre post (messages.Item l s n item (d ∷ moves)) (messages.Item l s n item moves)) (away : a ≢ q.node)
    (ends : HasSameEnds w v) where
  abbrev h2 : Records
  h2 = made_key_records g p q d.end

  abbrev m0 : Message
  m0 = messages.Item l s n item (d ∷ moves)

  abbrev m1 : Message
  m1 = messages.Item l s n item moves

  module _ (nodes : (f : Weight) → total_below v.count (λ j. in_node f h2 (node_at v j)) ≡ total_below w.count
      (λ j. in_node f h2 (node_at w j))) where
    places : (f : Weight) → in_places f h2 v ≡ in_places f g w
    places f =
        let msgs = under_way-rewritten (λ from to m. in_message f h2 m) w v a q.node pre post m0 m1 r in
        let same : under_way (λ from to m. in_message f h2 m) w ≡ under_way (λ from to m. in_message f g m) w =
        under_way-congr (λ from to m. in_message f h2 m) (λ from to m. in_message f g m) w
        (λ from to i m u. in_message-same f g h2 m (λ x c j z ds e. source_same law is t x c)) in
        let stood_still : total_below w.count (λ j. in_node f h2 (node_at w j)) ≡ total_below w.count (λ j. in_node f g (node_at w j)) =
        total_below-same w.count (λ j. in_node f h2 (node_at w j)) (λ j. in_node f g (node_at w j))
        (λ j less. in_node-same f g h2 (node_at w j) (law.no_strays j)) in
        omega (
          arith,
          in_places-is f h2 v,
          in_places-is f g w,
          msgs,
          same,
          stood_still,
          nodes f,
          in_message-item f h2 l s n item (d ∷ moves),
          in_message-item f h2 l s n item moves,
        )

    pub conserved-made : Conserved v b h2
    conserved-made = record {
      exact = λ e f. places (at_end e f) ∙ law.conserved.exact e f;
      read_put = law.conserved.read_put;
      prefix = law.conserved.prefix;
      gone_closed = law.conserved.gone_closed;
      reach = λ x z at e. elim (was_there law is t x z at) [
        | inl o ↦ law.conserved.reach x z o.0 e
        | inr o ↦ subst (λ z. reach z.out_queue ≡ length (b.put z.end)) (sym o.0)
            (reach-blank d.next_out ∙ law.conserved.move_out a q.node is.index is.place is.message d is.under_way is.descriptor)
      ];
      current = λ x z at e. elim (was_there law is t x z at) [
        | inl o ↦ law.conserved.current x z o.0 e
        | inr o ↦ subst (λ z. z.in_queue.current ≡ read b z.end) (sym o.0)
            (law.conserved.move_in a q.node is.index is.place is.message d is.under_way is.descriptor)
      ];
      sink = λ x z at e. elim (was_there law is t x z at) [
        | inl o ↦ law.conserved.sink x z o.0 e
        | inr o ↦ subst (λ z. z.closed ≡ is_closed b z.end) (sym o.0)
            (sym (law.conserved.move_open a q.node is.index is.place is.message d is.under_way is.descriptor))
      ];
      move_out = λ from to i j m c u e. let o = descriptor_came law is t r away ends from to i j m c u e in
          law.conserved.move_out from to i o.2.0 o.0 c o.1 o.2.1;
      move_in = λ from to i j m c u e. let o = descriptor_came law is t r away ends from to i j m c u e in
          law.conserved.move_in from to i o.2.0 o.0 c o.1 o.2.1;
      move_open = λ from to i j m c u e. let o = descriptor_came law is t r away ends from to i j m c u e in
          law.conserved.move_open from to i o.2.0 o.0 c o.1 o.2.1;
      unopened_put = λ e f. law.conserved.unopened_put e (sym (nowhere_same law is t e) ∙ f);
      unopened_got = λ e f. law.conserved.unopened_got e (sym (nowhere_same law is t e) ∙ f);
    }

    pub held_once-made : HeldOnce v b h2
    held_once-made = record {
      once = λ e. omega (
        arith,
        places (names_end e),
        times_same w v ends e,
        law.held_once.once e,
        ap {B = ℕ} (λ c. cond c 0 1) (nowhere_same law is t e),
      );
      moves_in_parcel = λ from to i x u m z ds j c o e. in_parcel from to i x u m z ds j c o e
          (came law is t r away ends from to i (messages.Item x u m z ds) o);
    }
      where
        in_parcel : (from to i : ℕ) (x : LinkId) (u : Side) (m : ℕ) (z : Item) (ds : List Descriptor) (j : ℕ) (c : Descriptor) →
            IsUnderWay v from to i (messages.Item x u m z ds) → slice_get ds j ≡ Some c →
            ((IsUnderWay w from to i (messages.Item x u m z ds)) ⊎
            ((messages.Item x u m z ds ≡ m1) × (from ≡ a) × (to ≡ q.node) × IsUnderWay w from to i m0)) →
            has_end c.end (ends_in z) ≡ true
        in_parcel from to i x u m z ds j c o e (inl f) = law.held_once.moves_in_parcel from to i x u m z ds j c f e
        in_parcel from to i x u m z ds j c o e (inr f) =
            let item_is : z ≡ item = grind (arith, f.0) in let list_is : ds ≡ moves = grind (arith, f.0) in
            ap (λ i. has_end c.end (ends_in i)) item_is ∙ law.held_once.moves_in_parcel from to i l s n item (d ∷ moves) (suc j) c f.3
            (ap (λ ms. slice_get ms j) (sym list_is) ∙ e)

    unclosed : is_closed b d.end ≡ false
    unclosed = law.conserved.move_open a q.node is.index is.place is.message d is.under_way is.descriptor

    free : (is_retired b d.end ≡ false) × (is_retired b (opposite_end d.end) ≡ false)
    free = open_unretired (record { retired_closed = law.books_kept.retired_closed }) law.retired_ends d.end unclosed

    same_at : (e : End) → (e ≡ d.end → ⊥) → h2.terminal e ≡ g.terminal e
    same_at e apart = go (same_end e d.end) refl
      where
        go : (c : Bool) → same_end e d.end ≡ c → h2.terminal e ≡ g.terminal e
        go true c = absurd (apart (same_end-tells e d.end c))
        go false c = rw c refl

    retired-made : RetiredEnds b h2
    retired-made = record {
      retired = λ e h. same_at e (λ f. true≢false (sym h ∙ ap (is_retired b) f ∙ free.0)) ∙ law.retired_ends.retired e h;
      peer_closed = law.retired_ends.peer_closed;
      peer_stays = law.retired_ends.peer_stays;
      all_read = law.retired_ends.all_read;
      gone_read = λ e h n. law.retired_ends.gone_read e (sym (same_at e (λ f. at_retired (sym (ap h2.terminal f ∙ now) ∙ h))) ∙ h) n;
      no_bypass = law.retired_ends.no_bypass;
      left = λ e i h l c m. left_same law is t (Central i) e.side ∙ law.retired_ends.left e i h l c m;
      left_of = λ x u h. ap (λ c. is_retired b c || is_retired b (opposite_end c)) (end_same law is t x u) ∙
          law.retired_ends.left_of x u (sym (left_same law is t x u) ∙ h);
      accepted = λ o l. rw (side_same law is t o) (law.retired_ends.accepted o l);
    }
      where
        now : h2.terminal d.end ≡ At q
        now = grind (arith, same_end-itself d.end)

        at_retired : At q ≡ Retired → ⊥
        at_retired h = cc

    gones-made : Gones v b h2
    gones-made = gones-one w v b h2 q (from_descriptor d a) t.router mine (gones-all (λ x z at. right-left same_left (right-of law.gones x z at)))
      where
        same_left : (x : LinkId) (u : Side) → is_left h2 x u ≡ true → is_left g x u ≡ true
        same_left x u h = sym (left_same law is t x u) ∙ h

        -- the proxy hasn't left, since the end is open
        proxy_stays : is_left h2 d.link A ≡ false
        proxy_stays = go (is_left g d.link A) refl
          where
            go : (c : Bool) → is_left g d.link A ≡ c → is_left h2 d.link A ≡ false
            go false c = left_same law is t d.link A ∙ c
            go true c = let e : side_end g d.link A ≡ d.end = ap (λ x. side_end g x A) is.link ∙ inner_end_is g p A ∙ end_is law is t in
                absurd (true≢false (sym (law.retired_ends.left_of d.link A c) ∙
                ap (λ z. is_retired b z || is_retired b (opposite_end z)) e ∙ ap (λ z. z || is_retired b (opposite_end d.end)) free.0 ∙ free.1))

        mine : IsGoneRight b h2 (from_descriptor d a)
        mine = record {
          sent = λ h. absurd cc;
          sent_back = λ n i h c. absurd cc;
          left_primary = λ e f h. let z = same_Some _ e f in
              absurd (true≢false (sym h ∙ ap (λ (c : LinkEnd). is_left h2 c.link (opposite c.side)) (sym z) ∙ proxy_stays));
          left_inner = λ e f h. absurd cc;
          out_put = omega (arith, law.conserved.move_out a q.node is.index is.place is.message d is.under_way is.descriptor);
          in_put = omega (
            arith,
            law.conserved.move_in a q.node is.index is.place is.message d is.under_way is.descriptor,
            law.conserved.read_put (opposite_end d.end),
            ap (read b) (opposite_end-twice d.end),
          );
          still = λ u n h. refl;
          dropped = λ m f i h. absurd cc;
          dropped_closed = λ h. absurd cc;
          dropped_back = λ m f i l c. absurd cc;
        }

    -- All together. The terminal goes on where its end was: its next numbers are those of the descriptor, which are what the end has put
    -- and read. It has no items, so nothing has come to a place or left one, and its end is under way no longer.
    pub inv-made : Hands v → OpenInv v b h2
    inv-made hands = record {
      counts = counts-made law is t hands;
      ordered = ordered-made law is t;
      shape = shape-made law is t;
      roles = roles-made law is t;
      begun = begun-made law is t;
      stands = stands-made law is t;
      words = words-made law is t;
      spares = spares-made law is t;
      bypasses = bypasses-made law is t;
      live = record { one_live = law.live.one_live; none_live = law.live.none_live; one_begun = law.live.one_begun };
      stages = stages-made law is t;
      controls = controls-made law is t r away ends;
      moves = moves-made law is t r away ends;
      terminals = terminals-made law is t;
      end_places = end_places-made law is t r away ends;
      books_kept = books_kept-made law is t r away ends;
      items = items-made law is t r away ends;
      order = order-made w v b g a q p d law is t;
      proxy_numbers = proxy_numbers-made w v b g a q p d law is t;
      fresh_numbers = fresh_numbers-made law is t r away ends;
      conserved = conserved-made;
      held_once = held_once-made;
      retired_ends = retired-made;
      gones = gones-made;
      no_strays = λ j. t.strays j ∙ law.no_strays j;
    }
