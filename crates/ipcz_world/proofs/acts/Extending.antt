-- A terminal whose end moves becomes a proxy: the invariant is kept, with one more of the ends moved.
use Rattle.std.specs.Prelude.{Bool, true, refl}
use Rattle.ipcz_world.proofs.Vocabulary.{LinkEnd, opposite, opposite_end, same_end, End, Central, Side, LinkId, Descriptor, Item, Message, has_end}
use Rattle.ipcz_world.proofs.Vocabulary.{Router, ends_in, World, Key, node_at, Books, read, is_closed, Records, inner_link, IsUnderWay, under_way}
use Rattle.ipcz_world.proofs.Vocabulary.{Weight, at_end, names_end, total_below, Conserved, HeldOnce, decays, is_left, Moving, Retired, is_retired}
use Rattle.ipcz_world.proofs.Vocabulary.{RetiredEnds, Gones, descriptor_of}
use Rattle.ipcz_world.proofs.facts.LinkTests.{same_end-itself, same_end-tells}
use Rattle.std.proofs.lemmas.Option.{same_Some}
use Rattle.std.specs.Prelude.{◌||◌}
use Rattle.std.proofs.Common.{true≢false}
use Rattle.ipcz_world.proofs.frames.GonesKept.{IsGoneRight, right-of, right-left, gones-one, gones-all, open_unretired}
use Rattle.ipcz_world.proofs.acts.ExtendingAround.{left_same, new_left, end_same, side_same, stage_begun}
use Rattle.std.specs.Prelude.{◌≡◌, ◌≢◌, ◌⊎◌, ℕ, true, false, cond, Some, List, [], ◌∷◌, ◌++◌, length, slice_get}
use Rattle.std.proofs.Common.{arith, ap, subst, ◌∙◌, sym, inl, inr}
use Rattle.ipcz_base.specs.declared.message.Message.TheVariants as messages
use Rattle.ipcz_world.proofs.frames.OfRecords.{in_message, in_node, in_places}
use Rattle.ipcz_world.proofs.frames.Touching.{HasSameEnds, Hands}
use Rattle.ipcz_world.proofs.frames.Flowing.{IsRewritten, under_way-rewritten, under_way-congr}
use Rattle.ipcz_world.proofs.frames.Opened.{OpenInv}
use Rattle.ipcz_world.proofs.frames.Weighing.{in_places-is, in_message-item, in_message-same}
use Rattle.ipcz_world.proofs.acts.Sending.{times_same}
use Rattle.ipcz_world.proofs.acts.ExtendingAround.{next_key, extended, extended_records, IsGrown, IsExtend, other_link, source_same, stood}
use Rattle.ipcz_world.proofs.acts.ExtendingStages.{nowhere_same, ordered-extended, stands-extended, words-extended, spares-extended}
use Rattle.ipcz_world.proofs.acts.ExtendingStages.{bypasses-extended, stages-extended, terminals-extended}
use Rattle.ipcz_world.proofs.acts.ExtendingLinks.{counts-extended, shape-extended, roles-extended, begun-extended}
use Rattle.ipcz_world.proofs.acts.ExtendingItems.{order-extended, proxy_numbers-extended}
use Rattle.ipcz_world.proofs.acts.ExtendingFacts.{last_of, in_node-same}
use Rattle.ipcz_world.proofs.acts.ExtendingPlaces.{came, items-extended, controls-extended, descriptor_came, moves-extended}
use Rattle.ipcz_world.proofs.acts.ExtendingPlaces.{fresh_numbers-extended, not_closed, end_places-extended, books_kept-extended}
use Rattle.ipcz_world.proofs.frames.Totalling.{total_below-same}

-- with the message that gets the descriptor
module _ (w v : World) (b : Books) (g : Records) (q : Key) (r : Router) (a : ℕ) (law : OpenInv w b g) (is : IsExtend w q r a)
    (t : IsGrown w v q (extended w q r a)) (l : LinkId) (s : Side) (n : ℕ) (item : Item) (moves : List Descriptor) (pre post : List Message)
    (p : IsRewritten w v q.node a pre post (messages.Item l s n item moves)
    (messages.Item l s n item (moves ++ descriptor_of r (inner_link (next_key w q.node)) ∷ []))) (away : q.node ≢ a)
    (named : has_end r.end (ends_in item) ≡ true) (ends : HasSameEnds w v) where
  abbrev k : Key
  k = next_key w q.node

  abbrev h2 : Records
  h2 = extended_records w g q r a

  abbrev e2 : Descriptor
  e2 = descriptor_of r (inner_link k)

  abbrev m0 : Message
  m0 = messages.Item l s n item moves

  abbrev m1 : Message
  m1 = messages.Item l s n item (moves ++ e2 ∷ [])

  module _ (nodes : (f : Weight) → total_below v.count (λ j. in_node f h2 (node_at v j)) ≡ total_below w.count
      (λ j. in_node f h2 (node_at w j))) where
    places : (f : Weight) → in_places f h2 v ≡ in_places f g w
    places f =
        let msgs = under_way-rewritten (λ from to m. in_message f h2 m) w v q.node a pre post m0 m1 p in
        let same : under_way (λ from to m. in_message f h2 m) w ≡ under_way (λ from to m. in_message f g m) w =
        under_way-congr (λ from to m. in_message f h2 m) (λ from to m. in_message f g m) w (λ from to i m u. weigh f from to i m u) in
        let stood_still : total_below w.count (λ j. in_node f h2 (node_at w j)) ≡ total_below w.count (λ j. in_node f g (node_at w j)) =
        total_below-same w.count (λ j. in_node f h2 (node_at w j)) (λ j. in_node f g (node_at w j))
        (λ j less. in_node-same f g h2 (node_at w j) (law.no_strays j)) in
        omega (
          arith,
          in_places-is f h2 v,
          in_places-is f g w,
          msgs,
          same,
          stood_still,
          nodes f,
          in_message-item f h2 l s n item moves,
          in_message-item f h2 l s n item (moves ++ e2 ∷ []),
        )
      where
        weigh : (f : Weight) (from to i : ℕ) (m : Message) → IsUnderWay w from to i m → in_message f h2 m ≡ in_message f g m
        weigh f from to i m u = in_message-same f g h2 m (λ x c j z ds e. source_same law is t x c
            (other_link law is t x (law.items.recorded from to i x c j z ds (subst (λ m. IsUnderWay w from to i m) e u))))

    pub conserved-extended : Conserved v b h2
    conserved-extended = record {
      exact = λ e f. places (at_end e f) ∙ law.conserved.exact e f;
      read_put = law.conserved.read_put;
      prefix = law.conserved.prefix;
      gone_closed = law.conserved.gone_closed;
      reach = λ x z at e. elim (stood law is t x z at)
          [ inl o ↦ law.conserved.reach x z o.0 e | inr o ↦ absurd (grind (arith, o.0, e)) ];
      current = λ x z at e. elim (stood law is t x z at)
          [ inl o ↦ law.conserved.current x z o.0 e | inr o ↦ absurd (grind (arith, o.0, e)) ];
      sink = λ x z at e. elim (stood law is t x z at)
          [ inl o ↦ law.conserved.sink x z o.0 e | inr o ↦ absurd (grind (arith, o.0, e)) ];
      move_out = λ from to i j m c u e. elim (descriptor_came law is t p away named ends from to i j m c u e) [
        | inl o ↦ law.conserved.move_out from to i j o.0 c o.1 o.2
        | inr o ↦ subst (λ d. d.next_out ≡ length (b.put d.end)) (sym o.0)
            (law.conserved.reach q r is.here is.lone)
      ];
      move_in = λ from to i j m c u e. elim (descriptor_came law is t p away named ends from to i j m c u e) [
        | inl o ↦ law.conserved.move_in from to i j o.0 c o.1 o.2
        | inr o ↦ subst (λ d. d.next_in ≡ read b d.end) (sym o.0)
            (law.conserved.current q r is.here is.lone)
      ];
      move_open = λ from to i j m c u e. elim (descriptor_came law is t p away named ends from to i j m c u e) [
        | inl o ↦ law.conserved.move_open from to i j o.0 c o.1 o.2
        | inr o ↦ subst (λ d. is_closed b d.end ≡ false) (sym o.0) (not_closed law is t p away named ends)
      ];
      unopened_put = λ e f. law.conserved.unopened_put e (sym (nowhere_same law is t e) ∙ f);
      unopened_got = λ e f. law.conserved.unopened_got e (sym (nowhere_same law is t e) ∙ f);
    }

    pub held_once-extended : HeldOnce v b h2
    held_once-extended = record {
      once = λ e. omega (
        arith,
        places (names_end e),
        times_same w v ends e,
        law.held_once.once e,
        ap {B = ℕ} (λ c. cond c 0 1) (nowhere_same law is t e),
      );
      moves_in_parcel = λ from to i x u m z ds j c o e. in_parcel from to i x u m z ds j c o e
          (came law is t p away named ends from to i (messages.Item x u m z ds) o);
    }
      where
        in_parcel : (from to i : ℕ) (x : LinkId) (u : Side) (m : ℕ) (z : Item) (ds : List Descriptor) (j : ℕ) (c : Descriptor) →
            IsUnderWay v from to i (messages.Item x u m z ds) → slice_get ds j ≡ Some c →
            ((IsUnderWay w from to i (messages.Item x u m z ds)) ⊎
            ((messages.Item x u m z ds ≡ m1) × (from ≡ q.node) × (to ≡ a) × IsUnderWay w from to i m0)) →
            has_end c.end (ends_in z) ≡ true
        in_parcel from to i x u m z ds j c o e (inl f) = law.held_once.moves_in_parcel from to i x u m z ds j c f e
        in_parcel from to i x u m z ds j c o e (inr f) =
            let item_is : z ≡ item = grind (arith, f.0) in let list_is : ds ≡ moves ++ e2 ∷ [] = grind (arith, f.0) in
            ap (λ i. has_end c.end (ends_in i)) item_is ∙ elim (last_of moves e2 c j (ap (λ ms. slice_get ms j) (sym list_is) ∙ e)) [
              | inl old ↦ law.held_once.moves_in_parcel from to i l s n item moves j c f.3 old
              | inr new ↦ ap (λ d. has_end d.end (ends_in item)) new ∙ named
            ]

    unclosed : is_closed b r.end ≡ false
    unclosed = not_closed law is t p away named ends

    still_open : r.closed ≡ false
    still_open = law.conserved.sink q r is.here is.lone ∙ unclosed

    free : (is_retired b r.end ≡ false) × (is_retired b (opposite_end r.end) ≡ false)
    free = open_unretired (record { retired_closed = law.books_kept.retired_closed }) law.retired_ends r.end unclosed

    same_at : (e : End) → (e ≡ r.end → ⊥) → h2.terminal e ≡ g.terminal e
    same_at e apart = go (same_end e r.end) refl
      where
        go : (c : Bool) → same_end e r.end ≡ c → h2.terminal e ≡ g.terminal e
        go true c = absurd (apart (same_end-tells e r.end c))
        go false c = rw c refl

    retired-extended : RetiredEnds b h2
    retired-extended = record {
      retired = λ e h. same_at e (λ f. true≢false (sym h ∙ ap (is_retired b) f ∙ free.0)) ∙ law.retired_ends.retired e h;
      peer_closed = law.retired_ends.peer_closed;
      peer_stays = law.retired_ends.peer_stays;
      all_read = law.retired_ends.all_read;
      gone_read = λ e h n. law.retired_ends.gone_read e (sym (same_at e (λ f. moves_on (sym (ap h2.terminal f ∙ now) ∙ h))) ∙ h) n;
      no_bypass = law.retired_ends.no_bypass;
      left = λ e i h l c m. left_same law is t (Central i) e.side ∙ law.retired_ends.left e i h l c m;
      left_of = λ x u h. let o : is_left g x u ≡ true = sym (left_same law is t x u) ∙ h in
          ap (λ d. is_retired b d || is_retired b (opposite_end d)) (end_same law is t x u (other_link law is t x (law.stands.left_recorded x u o)))
          ∙ law.retired_ends.left_of x u o;
      accepted = λ o l. rw (side_same law is t o (stage_begun (g.bypass o).stage 3 (omega arith) l)) (law.retired_ends.accepted o l);
    }
      where
        now : h2.terminal r.end ≡ Moving e2
        now = grind (arith, same_end-itself r.end)

        moves_on : Moving e2 ≡ Retired → ⊥
        moves_on h = cc

    gones-extended : Gones v b h2
    gones-extended = gones-one w v b h2 q (extended w q r a) t.router mine (gones-all (λ x z at. right-left same_left (right-of law.gones x z at)))
      where
        same_left : (x : LinkId) (u : Side) → is_left h2 x u ≡ true → is_left g x u ≡ true
        same_left x u h = sym (left_same law is t x u) ∙ h

        o : IsGoneRight b h2 r
        o = right-left same_left (right-of law.gones q r is.here)

        mine : IsGoneRight b h2 (extended w q r a)
        mine = record {
          sent = o.sent;
          sent_back = λ n i h c. absurd (true≢false (sym h ∙ free.1));
          left_primary = o.left_primary;
          left_inner = λ e f h. let z = same_Some _ e f in
              absurd (true≢false (sym h ∙ ap (λ (d : LinkEnd). is_left h2 d.link (opposite d.side)) (sym z) ∙ new_left law is t));
          out_put = o.out_put;
          in_put = o.in_put;
          still = λ u n h. still (o.still u (grind (arith, is.lone)) h);
          dropped = λ m f. absurd cc;
          dropped_closed = o.dropped_closed;
          dropped_back = λ m f. absurd cc;
        }
          where
            still : decays r ≡ false → decays (extended w q r a) ≡ false
            still h = grind (arith, h)

    -- All together. Nothing is lost: the queues stay with the proxy, and the descriptor says how many items its end has put and how many it
    -- has read, so that the terminal made of it goes on just there (move_out, move_in). The end was held at this node; now it is in one
    -- message, once.
    pub inv-extended : Hands v → OpenInv v b h2
    inv-extended hands = record {
      counts = counts-extended law is t hands;
      ordered = ordered-extended law is t;
      shape = shape-extended law is t still_open;
      roles = roles-extended law is t;
      begun = begun-extended law is t;
      stands = stands-extended law is t;
      words = words-extended law is t still_open;
      spares = spares-extended law is t;
      bypasses = bypasses-extended law is t;
      live = record { one_live = law.live.one_live; none_live = law.live.none_live; one_begun = law.live.one_begun };
      stages = stages-extended law is t;
      controls = controls-extended law is t p away named ends;
      moves = moves-extended law is t p away named ends;
      terminals = terminals-extended law is t;
      end_places = end_places-extended law is t p away named ends;
      books_kept = books_kept-extended law is t p away named ends;
      items = items-extended law is t p away named ends;
      order = order-extended w v b g q r a law is t;
      proxy_numbers = proxy_numbers-extended w v b g q r a law is t;
      fresh_numbers = fresh_numbers-extended law is t p away named ends;
      conserved = conserved-extended;
      held_once = held_once-extended;
      retired_ends = retired-extended;
      gones = gones-extended;
      no_strays = λ j. t.strays j ∙ law.no_strays j;
    }
