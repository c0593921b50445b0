-- A terminal puts an item, a parcel or its mark: all that holds is kept, with the books after it.
use Rattle.ipcz_world.proofs.frames.RolesTell.{links-in}
use Rattle.std.specs.Prelude.{is_none, is_some, unwrap_or}
use Rattle.ipcz_world.proofs.Vocabulary.{LinkEnd, inward_edge, side_end, across_side, Side, A, B, End, LinkId, Central, Peripheral, Item, opposite}
use Rattle.ipcz_world.proofs.Vocabulary.{opposite_end, same_end, has_end, has_link, Edge, Queue, item_at, Router, is_terminal, ends_in, World, Key}
use Rattle.ipcz_world.proofs.Vocabulary.{same_key, node_at, router_at, flow, Books, read, is_closed, Records, At, terminal_node, is_nowhere, view}
use Rattle.ipcz_world.proofs.Vocabulary.{taking_queue, is_attached, Weight, at_end, names_end, times, Ordered, is_outward, EndPlaces, BooksKept}
use Rattle.ipcz_world.proofs.Vocabulary.{Conserved, HeldOnce, times_held, Items, Order, ProxyNumbers, FreshNumbers, Inv, Gone, is_gone_item, end_at}
use Rattle.ipcz_world.proofs.Vocabulary.{decays, is_retired, is_left, RetiredEnds, Parcel, Mark, edge_has, no_edge, reach, is_mark, next_number}
use Rattle.ipcz_world.proofs.Vocabulary.{has_mark, add_put, from_number, is_begun_router}
use Rattle.ipcz_world.specs.Books.{has_gone}
use Rattle.ipcz_world.specs.Structure.{IsRecorded}
use Rattle.ipcz_world.proofs.facts.Drained.{has_gone-more, gone_found, no_mark}
use Rattle.ipcz_world.proofs.facts.LinkTests.{opposite_end-twice}
use Rattle.ipcz_world.proofs.facts.Tests.{not_both}
use Rattle.ipcz_world.proofs.frames.Touching.{either}
use Rattle.ipcz_world.proofs.frames.GonesKept.{IsGoneRight, right-of, gones-all, open_unretired}
use Rattle.ipcz_world.proofs.frames.OfRecords.{holds, in_places}
use Rattle.std.specs.Prelude.{◌≡◌, ◌≢◌, ◌⊎◌, ◌≤◌, ◌<◌, ◌+◌, ℕ, suc, Bool, true, false, cond, ◌&&◌, ◌||◌, Option, Some, None, refl, List, []}
use Rattle.std.specs.Prelude.{◌∷◌, ◌++◌, length, take, drop, map, slice_get}
use Rattle.std.specs.Cmp.{nat_cmp_total}
use Rattle.std.specs.FinMap.{get-insert}
use Rattle.std.proofs.Common.{arith, ap, subst, ◌∙◌, sym, inl, inr}
use Rattle.std.proofs.lemmas.Bool.Decides.{nat_tests}
use Rattle.ipcz_base.specs.declared.message.Message.TheVariants as messages
use Rattle.ipcz_base.specs.Limits.{last_number}
use Rattle.ipcz_seq.specs.Queue.{push_at}
use Rattle.ipcz_world.proofs.frames.Frames.{same_key_tells, same_key-itself}
use Rattle.ipcz_world.specs.Places.{unread_weight}
use Rattle.ipcz_world.specs.Whereabouts.{times_closed}
use Rattle.ipcz_world.proofs.frames.Touching.{IsTouched, IsAlike, HasSameHands, hands-same, recorded_same, counts-touched, shape-touched}
use Rattle.ipcz_world.proofs.frames.Touching.{roles-touched, stands-touched, words-touched, spares-touched}
use Rattle.ipcz_world.proofs.frames.Touching.{bypasses-touched, stages-touched, terminals-touched}
use Rattle.ipcz_world.proofs.frames.Draining.{gone_same, taking_queue-standing}
use Rattle.ipcz_world.proofs.facts.Reaching.{is_reach}
use Rattle.ipcz_world.proofs.frames.Fitting.{fits_of, items_by}
use Rattle.ipcz_world.proofs.frames.SameMessages.{SameMessages, under-same, made-same, controls-same, moves-same}
use Rattle.ipcz_world.proofs.frames.Filling.{IsFilled, IsFilling, filled_same, filled_push, filled_before, fits-filled, standing_filled}
use Rattle.ipcz_world.proofs.frames.Filling.{sent_kept, taken_filled, taken_current}
use Rattle.ipcz_world.proofs.frames.Booking.{length-more, drop-more, take-more, length-drop, from_number-more, has_mark-more, mark_found}
use Rattle.ipcz_world.proofs.frames.Booking.{end_tells, reach-push, out_numbers, not_moving, more_same, more_here, more_by, flag}
use Rattle.ipcz_world.proofs.frames.Flowing.{slice_get-last}

-- a terminal that is open puts an item at its next number, and the item's ends are no longer held or pending
pub record IsPut (w v : World) (b : Books) (g : Records) (k : Key) (r y : Router) (item : Item) : Type 0 where
  pub touched : IsTouched w v k r y
  pub alike : IsAlike r y
  pub terminal : is_terminal r ≡ true
  pub out : y.out_queue ≡ push_at r.out_queue (next_number r) item
  pub inn : y.in_queue ≡ r.in_queue
  pub mark_seen : y.mark_seen ≡ r.mark_seen
  pub closed : y.closed ≡ is_mark item
  pub mark_dropped : y.mark_dropped ≡ r.mark_dropped
  pub gone_sent : y.gone_sent ≡ r.gone_sent
  pub no_gone : is_gone_item item ≡ false
  pub hands : HasSameHands w v
  pub flows : (from to : ℕ) → flow v from to ≡ flow w from to
  pub unclosed : is_closed b r.end ≡ false
  pub room : length (b.put r.end) < last_number + cond (is_mark item) 1 0
  pub ends : (d : End) → has_end d (ends_in item) ≡ true → terminal_node (g.terminal d) ≡ Some k.node
  pub pairs : (d : End) → has_end d (ends_in item) ≡ true → d.pair ≢ r.end.pair
  pub held : (m : ℕ) (d : End) → holds d (node_at v m).held ≡ true → holds d (node_at w m).held ≡ true
  pub pending : (m : ℕ) (d : End) → has_end d (node_at v m).pending ≡ true → has_end d (node_at w m).pending ≡ true
  pub times : (d : End) → times d (ends_in item) + (times_held v d + cond (is_mark item && same_end d r.end) 1 0) ≡ times_held w d
  pub places : (f : Weight) → in_places f g v ≡ in_places f g w + f r.end (next_number r) item

pub no_link : (l : LinkId) (s : Side) → edge_has no_edge l s ≡ true → ⊥
unfolding has_link
no_link l s h = cc

-- two routers alike in what tells of Gone and of the marks, but for closing
pub record IsPutLike (x y : Router) : Type 0 where
  pub end : y.end ≡ x.end
  pub current : y.in_queue.current ≡ x.in_queue.current
  pub out : y.out_queue.current ≡ x.out_queue.current
  pub terminal : is_terminal y ≡ is_terminal x
  pub inner : (inward_edge y).primary ≡ (inward_edge x).primary
  pub primary : y.outward.primary ≡ x.outward.primary
  pub sent : y.gone_sent ≡ x.gone_sent
  pub dropped : y.mark_dropped ≡ x.mark_dropped
  pub still : decays y ≡ decays x

pub put_like-itself : (x : Router) → IsPutLike x x
put_like-itself x = record {
  end = refl;
  current = refl;
  out = refl;
  terminal = refl;
  inner = refl;
  primary = refl;
  sent = refl;
  dropped = refl;
  still = refl;
}

decays-alike : (r y : Router) → IsAlike r y → decays y ≡ decays r
decays-alike r y a = rw (a.outward, a.inward) refl

begun-like : (x y : Router) → IsPutLike x y → is_begun_router y ≡ is_begun_router x
begun-like x y a = grind (arith, a.terminal, a.inner)

-- a link that belongs inward at a side has one end
end_around : (g : Records) (l : LinkId) (s : Side) → is_outward l s ≡ false → side_end g l (opposite s) ≡ side_end g l s
unfolding is_outward side_end
end_around g (Central i) s h = cc
end_around g (Peripheral n x) s h = refl

-- a terminal has links outward only
pub terminal_outward : (l : LinkId) (s : Side) (r : Router) → is_terminal r ≡ true → is_attached l s r ≡ true → is_outward l s ≡ true
unfolding is_attached is_outward
terminal_outward (Central i) s r t h = refl
terminal_outward (Peripheral n x) A r t h = absurd (lone r.inward refl)
  where
    lone : (o : Option Edge) → r.inward ≡ o → ⊥
    lone None e = no_link (Peripheral n x) A (grind (arith, e, h))
    lone (Some x) e = grind (arith, e, t)
terminal_outward (Peripheral n x) B r t h = refl

-- a terminal isn't the proxy of a bypass
pub terminal_no_proxy : (w : World) (b : Books) (g : Records) (k : Key) (r : Router) (o : ℕ) → Inv w b g → router_at w k ≡ Some r →
    is_terminal r ≡ true → 1 ≤ (g.bypass o).stage → (g.bypass o).proxy ≢ k
terminal_no_proxy w b g k r o law here t s is =
    let begun : is_begun_router r ≡ true = (law.stages o).proxy_begun r (grind (arith, s, nat_tests)) (ap (router_at w) is ∙ here) in
    lone r.inward refl begun
  where
    lone : (x : Option Edge) → r.inward ≡ x → is_begun_router r ≡ true → ⊥
    lone None e h = grind (arith, e, h)
    lone (Some x) e h = grind (arith, e, t)

module _ (w v : World) (b : Books) (g : Records) (k : Key) (r y : Router) (item : Item) (law : Inv w b g) (is : IsPut w v b g k r y item)
  where
    abbrev after : Books
    after = add_put b r.end item

    here : router_at w k ≡ Some r
    here = is.touched.here

    on_node : k.node < w.count
    on_node = law.counts.on_node k r here

    stands : g.terminal r.end ≡ At k
    stands = (law.terminals.each k r here).terminal is.terminal

    number : next_number r ≡ length (b.put r.end)
    number = law.conserved.reach k r here is.terminal

    filling : IsFilling w v k r y (next_number r) false
    filling = record {
      touched = is.touched;
      alike = is.alike;
      out = subst (λ q. IsFilled r.out_queue q (next_number r) true) (sym is.out) (filled_push r.out_queue (next_number r) item);
      inn = subst (λ q. IsFilled r.in_queue q (next_number r) false) (sym is.inn) (filled_same r.in_queue (next_number r) false);
    }

    same : SameMessages w v
    same = record { count = is.touched.count; flows = is.flows; peripheral = is.touched.next_peripheral }

    -- the queue that takes what comes has nothing more
    taken : (link : LinkId) (s : Side) (p : Queue Item) → taking_queue link s (view v g link s) ≡ Some p →
        (q : Queue Item) × (taking_queue link s (view w g link s) ≡ Some q) × (p.current ≡ q.current) ×
        ((n : ℕ) (x : Item) → item_at p n ≡ Some x → item_at q n ≡ Some x)
    taken link s p h = elim (taken_filled w v k r y (next_number r) false g filling link s p h) [
      | inl e ↦ (p, e, refl, λ n x i. i)
      | inr e ↦ let old = taken_current w v k r y (next_number r) false g filling link s p h in (
        old.0,
        old.1,
        old.2,
        λ n x i. elim (e.2.items n x i) [
          | inl j ↦ grind (arith, old.1, taking_queue-standing link s r, e.0.old, j)
          | inr j ↦ let o = terminal_outward link s r is.terminal e.0.attached in absurd (grind (arith, j.1, o))
        ],
      )
    ]

    ordered-put : Ordered v
    ordered-put q x at = let o = filled_before w v k r y (next_number r) false g filling q x at in record {
      out = λ n z h. elim (o.6 n z h) [
        | inl e ↦ let le = (law.ordered q o.0 o.1).out n z e in omega (arith, le, o.2)
        | inr e ↦ let s : o.0 ≡ r = same_router q o.0 o.1 e.2 in omega
            (arith, (is_reach r.out_queue).from, e.0, o.2, ap (λ z. z.out_queue.current) s)
      ];
      inn = λ n z h. elim (o.7 n z h) [
        | inl e ↦ let le = (law.ordered q o.0 o.1).inn n z e in omega (arith, le, o.3)
        | inr e ↦ absurd (grind (arith, e.1))
      ];
    }
      where
        same_router : (q : Key) (z : Router) → router_at w q ≡ Some z → q ≡ k → z ≡ r
        same_router q z at e = let two : router_at w k ≡ Some z = ap (router_at w) (sym e) ∙ at in grind (arith, two, here)

    items-put : Items v g
    items-put = items_by v g (λ from to i m u x z moves h.
        fits-filled w v k r y (next_number r) false g filling from to i i m u x
        (fits_of w g from to i m u x z moves law.items (under-same w v from to i (messages.Item m u x z moves) same h))
        (λ e. made-same w v from to i m u same ∙ e))

    order-put : Order v g
    order-put = record {
      current = λ link s u p h sent takes short. let q = taken link s p takes in
          let le = law.order.current link s u q.0 (sym (recorded_same w v k r y g is.touched link) ∙ h)
          (sym (sent_kept w v k r y (next_number r) false g filling link (opposite s)) ∙ sent) q.1 short in omega (arith, le, q.2);
      stored = λ link s u p n z h sent takes at short. let q = taken link s p takes in
          law.order.stored link s u q.0 n z (sym (recorded_same w v k r y g is.touched link) ∙ h)
          (sym (sent_kept w v k r y (next_number r) false g filling link (opposite s)) ∙ sent) q.1 (q.3 n z at) short;
    }

    proxy_numbers-put : ProxyNumbers v g
    proxy_numbers-put = record {
      out_current = λ o x at s. let z = filled_before w v k r y (next_number r) false g filling (g.bypass o).proxy x at in let le =
          law.proxy_numbers.out_current o z.0 z.1 s in omega (arith, le, z.2);
      out_items = λ o x n i at s h. let z = filled_before w v k r y (next_number r) false g filling (g.bypass o).proxy x at in
          elim (z.6 n i h) [
            | inl e ↦ law.proxy_numbers.out_items o z.0 n i z.1 s e
            | inr e ↦ absurd (terminal_no_proxy w b g k r o law here is.terminal (omega (arith, s)) e.2)
          ];
      in_current = λ o x at s. let z = filled_before w v k r y (next_number r) false g filling (g.bypass o).proxy x at in let le =
          law.proxy_numbers.in_current o z.0 z.1 s in omega (arith, le, z.3);
      in_items = λ o x n i at s h. let z = filled_before w v k r y (next_number r) false g filling (g.bypass o).proxy x at in
          elim (z.7 n i h) [
            | inl e ↦ law.proxy_numbers.in_items o z.0 n i z.1 s e
            | inr e ↦ absurd (grind (arith, e.1))
          ];
      across_gone = λ o x at s h. let z = filled_before w v k r y (next_number r) false g filling (g.bypass o).proxy x at in
          let le = law.proxy_numbers.across_gone o z.0 z.1 s (sym (gone_same w v k r y g is.touched is.alike _ _) ∙ h) in
          omega (arith, le, z.2);
      inner_gone = λ o x at s h. let z = filled_before w v k r y (next_number r) false g filling (g.bypass o).proxy x at in
          let le = law.proxy_numbers.inner_gone o z.0 z.1 s (sym (gone_same w v k r y g is.touched is.alike _ _) ∙ h) in
          omega (arith, le, z.3);
      out_finished = λ o x at s h. let z = filled_before w v k r y (next_number r) false g filling (g.bypass o).proxy x at in
          let le = law.proxy_numbers.out_finished o z.0 z.1 s (grind (arith, z.4, h)) in omega (arith, le, z.2);
      in_finished = λ o x at s h. let z = filled_before w v k r y (next_number r) false g filling (g.bypass o).proxy x at in
          let le = law.proxy_numbers.in_finished o z.0 z.1 s (grind (arith, z.5, h)) in omega (arith, le, z.3);
    }

    fresh_numbers-put : FreshNumbers v g
    fresh_numbers-put q x at = let z = filled_before w v k r y (next_number r) false g filling q x at in record {
      own = λ e f len on off h.
          let le : len ≤ z.0.out_queue.current = (law.fresh_numbers q z.0 z.1).own e f len (grind (arith, z.4, on)) (grind (arith, z.4, off))
          (grind (arith, z.4, h)) in omega (arith, le, z.2);
      comes = λ e f len fr to i m c moves on off h u.
          (law.fresh_numbers q z.0 z.1).comes e f len fr to i m c moves (grind (arith, z.4, on)) (grind (arith, z.4, off)) h
          (under-same w v fr to i (messages.Item e.link e.side m c moves) same u);
      other = λ c e f len on off h there. let o =
          standing_filled w v k r y (next_number r) false g filling e.link (opposite e.side) c there in
          let le : len ≤ o.0.out_queue.current = (law.fresh_numbers q z.0 z.1).other o.0 e f len (grind (arith, z.4, on))
          (grind (arith, z.4, off)) h o.1 in omega (arith, le, o.2);
    }

    end_places-put : EndPlaces v g
    end_places-put = record {
      held = λ m d h. law.end_places.held m d (is.held m d h);
      pending = λ m d h. law.end_places.pending m d (is.pending m d h);
      each = λ q x at. record {
        out = λ n z d h has. out q x n z d at h has (same_key q k) refl;
        inn = λ n z d h has. let o = filled_before w v k r y (next_number r) false g filling q x at in elim (o.7 n z h) [
          | inl e ↦ (law.end_places.each q o.0 o.1).inn n z d e has
          | inr e ↦ absurd (grind (arith, e.1))
        ];
      };
      within = λ n i l s number z moves d u has. law.end_places.within n i l s number z moves d
          (under-same w v n n i (messages.Item l s number z moves) same u) has;
    }
      where
        pushed : (q p : Queue Item) (n m : ℕ) (x : Item) → p ≡ push_at q n item → item_at p m ≡ Some x → (item_at q m ≡ Some x) ⊎ (x ≡ item)
        pushed q p n m x e h = let f : item_at (push_at q n item) m ≡ Some x = ap (λ z. item_at z m) (sym e) ∙ h in
            grind (arith, get-insert nat_cmp_total q.items n item m, nat_tests, f)

        out : (q : Key) (x : Router) (n : ℕ) (z : Item) (d : End) → router_at v q ≡ Some x → item_at x.out_queue n ≡ Some z →
            has_end d (ends_in z) ≡ true → (c : Bool) → same_key q k ≡ c → terminal_node (g.terminal d) ≡ Some q.node
        out q x n z d at h has true c = let key : q ≡ k = grind (arith, same_key_tells q k, c) in let it : y ≡ x =
            grind (arith, is.touched.router q, c, at) in
            elim (pushed r.out_queue y.out_queue (next_number r) n z is.out (ap (λ x. item_at x.out_queue n) it ∙ h)) [
              | inl o ↦ (law.end_places.each k r here).out n z d o has ∙ ap (λ j. Some j.node) (sym key)
              | inr o ↦ is.ends d (ap (λ f. has_end d (ends_in f)) (sym o) ∙ has) ∙ ap (λ j. Some j.node) (sym key)
            ]
        out q x n z d at h has false c = (law.end_places.each q x (grind (arith, is.touched.router q, c, at))).out n z d h has

    -- what the books hold of each end
    put_same : (d : End) → d ≢ r.end → after.put d ≡ b.put d
    put_same d ne = more_same b.put (b.put r.end ++ item ∷ []) d r.end ne

    put_here : after.put r.end ≡ b.put r.end ++ item ∷ []
    put_here = more_here (b.put r.end ++ item ∷ []) (b.put r.end) r.end

    -- of an end, the items are as before, or they are the terminal's
    put_by : (d : End) (P : List Item → Type 0) → (d ≢ r.end → P (b.put d)) → (d ≡ r.end → P (b.put r.end ++ item ∷ [])) → P (after.put d)
    put_by d = more_by b.put (b.put r.end ++ item ∷ []) r.end d

    closed_more : (d : End) → is_closed b d ≡ true → is_closed after d ≡ true
    closed_more d h = put_by d (λ xs. has_mark xs ≡ true) (λ ne. h) (λ e. absurd (grind (arith, h, is.unclosed, e)))

    closed_same : (d : End) → d ≢ r.end → is_closed after d ≡ is_closed b d
    closed_same d ne = ap has_mark (put_same d ne)

    closed_here : is_closed after r.end ≡ is_mark item
    closed_here = ap has_mark put_here ∙ has_mark-more (b.put r.end) item ∙ ap (λ c. c || is_mark item) is.unclosed

    -- no end of the terminal's pair has retired
    free : (is_retired b r.end ≡ false) × (is_retired b (opposite_end r.end) ≡ false)
    free = open_unretired (record { retired_closed = law.books_kept.retired_closed }) law.retired_ends r.end is.unclosed

    gone_here : has_gone (b.put r.end ++ item ∷ []) ≡ false
    gone_here = has_gone-more (b.put r.end) item ∙ ap (λ c. c || is_gone_item item) free.0 ∙ is.no_gone

    gone_after : (d : End) → is_retired after d ≡ is_retired b d
    gone_after d = put_by d (λ xs. has_gone xs ≡ is_retired b d) (λ ne. refl) (λ same. gone_here ∙ sym free.0 ∙ ap (is_retired b) (sym same))

    was_retired : (d : End) → is_retired after d ≡ true → is_retired b d ≡ true
    was_retired d h = sym (gone_after d) ∙ h

    retired_other : (d : End) → is_retired b d ≡ true → d ≢ r.end
    retired_other d h e = not_both (is_retired b d) h (ap (is_retired b) e ∙ free.0)

    peer_other : (d : End) → is_retired b d ≡ true → opposite_end d ≢ r.end
    peer_other d h e = not_both (is_retired b d) h
        (ap (is_retired b) (sym (opposite_end-twice d) ∙ ap opposite_end e) ∙ free.1)

    longer : (d : End) (n : ℕ) → n ≤ length (b.put d) → n ≤ length (after.put d)
    longer d n l = put_by d (λ xs. n ≤ length xs) (λ ne. l)
        (λ same. omega (arith, l, length-more (b.put r.end) item, ap (λ e. length (b.put e)) same))

    retired-put : RetiredEnds after g
    retired-put = record {
      retired = λ e h. law.retired_ends.retired e (was_retired e h);
      peer_closed = λ e h. closed_more (opposite_end e) (law.retired_ends.peer_closed e (was_retired e h));
      peer_stays = λ e h. gone_after (opposite_end e) ∙ law.retired_ends.peer_stays e (was_retired e h);
      all_read = λ e h. law.retired_ends.all_read e (was_retired e h) ∙
          ap length (sym (put_same (opposite_end e) (peer_other e (was_retired e h))));
      gone_read = λ e t h. let o = law.retired_ends.gone_read e t (sym (gone_after e) ∙ h) in (
        gone_after (opposite_end e) ∙ o.0,
        o.1 ∙ ap length (sym (put_same (opposite_end e) (retired_other (opposite_end e) o.0))),
      );
      no_bypass = λ o s l m. gone_after (end_at (g.central o).pair s) ∙ law.retired_ends.no_bypass o s l m;
      left = λ e i h. law.retired_ends.left e i (was_retired e h);
      left_of = λ link s h. rw (gone_after (side_end g link s), gone_after (opposite_end (side_end g link s)))
          (law.retired_ends.left_of link s h);
      accepted = λ o l. let e = end_at (g.central o).pair (across_side g o) in
          omega (arith, longer e _ (law.retired_ends.accepted o l), ap flag (gone_after e));
    }

    books_kept-put : BooksKept v after g
    books_kept-put = record {
      own_pair = λ e d n z h has. elim (end_tells e r.end) [
        | inl f ↦ elim (slice_get-last (b.put r.end) item z n
            (ap (λ xs. slice_get xs n) (sym (ap (λ z. after.put z) f.1 ∙ put_here)) ∙ h)) [
              | inl o ↦ λ p. law.books_kept.own_pair r.end d n z o has (p ∙ ap (λ z. z.pair) f.1)
              | inr o ↦ λ p. is.pairs d (ap (λ f. has_end d (ends_in f)) (sym o.1) ∙ has) (p ∙ ap (λ z. z.pair) f.1)
            ]
        | inr f ↦ law.books_kept.own_pair e d n z (ap (λ xs. slice_get xs n) (sym (put_same e f.1)) ∙ h) has
      ];
      mark_last = λ e n. put_by e (λ xs. slice_get xs n ≡ Some Mark → suc n + cond (has_gone xs) 1 0 ≡ length xs)
          (λ ne. law.books_kept.mark_last e n)
          (λ same h. elim (slice_get-last (b.put r.end) item Mark n h) [
            | inl o ↦ absurd (grind (arith, mark_found (b.put r.end) n o, is.unclosed))
            | inr o ↦ omega (arith, o.0, length-more (b.put r.end) item, ap flag gone_here)
          ]);
      gone_last = λ e n. put_by e (λ xs. slice_get xs n ≡ Some Gone → suc n ≡ length xs) (λ ne. law.books_kept.gone_last e n)
          (λ same h. elim (slice_get-last (b.put r.end) item Gone n h) [
            | inl o ↦ absurd (not_both (has_gone (b.put r.end)) (gone_found (b.put r.end) n o) free.0)
            | inr o ↦ absurd (not_both (is_gone_item item) (ap is_gone_item (sym o.1)) is.no_gone)
          ]);
      retired_closed = λ e h. closed_more e (law.books_kept.retired_closed e (was_retired e h));
      numbers = λ e. put_by e (λ xs. length xs ≤ last_number + cond (has_mark xs) 1 0 + cond (has_gone xs) 1 0)
          (λ ne. law.books_kept.numbers e)
          (λ same. omega (arith, length-more (b.put r.end) item, is.room, ap flag (sym (ap has_mark put_here) ∙ closed_here), ap flag gone_here));
      mark_seen = λ q x at m. closed_more (opposite_end x.end) (was_seen q x at m (same_key q k) refl);
    }
      where
        was_seen : (q : Key) (x : Router) → router_at v q ≡ Some x → x.mark_seen ≡ true → (c : Bool) → same_key q k ≡ c →
            is_closed b (opposite_end x.end) ≡ true
        was_seen q x at m true c = let it : y ≡ x = grind (arith, is.touched.router q, c, at) in
            ap (λ z. is_closed b (opposite_end z)) (ap (λ z. z.end) (sym it) ∙ is.alike.end) ∙ law.books_kept.mark_seen k r here
            (sym is.mark_seen ∙ ap (λ z. z.mark_seen) it ∙ m)
        was_seen q x at m false c = law.books_kept.mark_seen q x (grind (arith, is.touched.router q, c, at)) m

    -- what weighs is the item more
    weight : (h : ℕ → Item → ℕ) → from_number h (read b (opposite_end r.end))
        (drop (read b (opposite_end r.end)) (b.put r.end ++ item ∷ []))
        ≡ unread_weight h b r.end + h (next_number r) item
    weight h =
        let l = law.conserved.read_put r.end in
        let place : read b (opposite_end r.end) + length (drop (read b (opposite_end r.end)) (b.put r.end)) ≡ next_number r =
        length-drop (read b (opposite_end r.end)) (b.put r.end) l ∙ sym number in
        ap (from_number h (read b (opposite_end r.end))) (drop-more (read b (opposite_end r.end)) (b.put r.end) item l)
        ∙ from_number-more h (read b (opposite_end r.end)) (drop (read b (opposite_end r.end)) (b.put r.end)) item
        ∙ ap (λ n. unread_weight h b r.end + h n item) place

    exact : (e : End) (h : ℕ → Item → ℕ) → in_places (at_end e h) g v ≡ unread_weight h after e
    exact e h = is.places (at_end e h) ∙ put_by e (λ xs. in_places (at_end e h) g w + at_end e h r.end (next_number r) item ≡ from_number h
        (read b (opposite_end e)) (drop (read b (opposite_end e)) xs))
        (λ ne. let none : at_end e h r.end (next_number r) item ≡ 0 =
        more_same (λ d. 0) (h (next_number r) item) r.end e (λ f. ne (sym f)) in
        omega (arith, none, law.conserved.exact e h))
        (λ same. let one : at_end e h r.end (next_number r) item ≡ h (next_number r) item =
        ap (λ d. cond (same_end r.end d) (h (next_number r) item) 0) same ∙ more_here (h (next_number r) item) 0 r.end in
        omega (
          arith,
          one,
          law.conserved.exact e h,
          weight h,
          ap (unread_weight h b) same,
          ap (λ d. from_number h (read b (opposite_end d)) (drop (read b (opposite_end d)) (b.put r.end ++ item ∷ []))) same,
        ))

    beyond : item_at r.out_queue (reach r.out_queue + 1) ≡ None
    beyond = go (item_at r.out_queue (reach r.out_queue + 1)) refl
      where
        go : (o : Option Item) → item_at r.out_queue (reach r.out_queue + 1) ≡ o → item_at r.out_queue (reach r.out_queue + 1) ≡ None
        go None e = e
        go (Some x) e = let range = out_numbers w b g k r (reach r.out_queue + 1) x law.conserved on_node here e in
            absurd (omega (arith, range.1, number))

    -- another terminal is of another end
    other_end : (q : Key) (x : Router) → router_at w q ≡ Some x → is_terminal x ≡ true → same_key q k ≡ false → x.end ≢ r.end
    other_end q x at t c e = let two : At q ≡ At k = sym ((law.terminals.each q x at).terminal t) ∙ ap g.terminal e ∙ stands in
        let key : q ≡ k =
        grind (arith, two) in absurd (grind (arith, c, same_key-itself k, key))

    conserved-put : Conserved v after g
    conserved-put = record {
      exact = exact;
      read_put = λ e. put_by e (λ xs. read b (opposite_end e) ≤ length xs) (λ ne. law.conserved.read_put e)
          (λ same. omega (arith, law.conserved.read_put e, ap (λ d. length (b.put d)) same, length-more (b.put r.end) item));
      prefix = λ e. put_by e (λ xs. take (length (b.got (opposite_end e))) xs ≡ map Parcel (b.got (opposite_end e)))
          (λ ne. law.conserved.prefix e)
          (λ same. take-more (length (b.got (opposite_end e))) (b.put r.end) item
          (omega (arith, law.conserved.read_put e, ap (λ d. length (b.put d)) same)) ∙ ap
          (λ d. take (length (b.got (opposite_end e))) (b.put d)) (sym same) ∙ law.conserved.prefix e);
      gone_closed = λ e h. law.conserved.gone_closed e (was_unclosed e h (is_closed b e) refl);
      reach = λ q x at t. reach q x at t (same_key q k) refl;
      current = λ q x at t. current q x at t (same_key q k) refl;
      sink = λ q x at t. sink q x at t (same_key q k) refl;
      move_out = λ from to i j m d u h. let w = under-same w v from to i m same u in
          law.conserved.move_out from to i j m d w h ∙ ap length (sym
          (put_same d.end (not_moving _ g k r.end from to i j m d law.moves stands w h)));
      move_in = λ from to i j m d u h. law.conserved.move_in from to i j m d (under-same w v from to i m same u) h;
      move_open = λ from to i j m d u h. let w = under-same w v from to i m same u in
          closed_same d.end (not_moving _ g k r.end from to i j m d law.moves stands w h) ∙ law.conserved.move_open from to i j m d w h;
      unopened_put = λ e h. put_by e (λ xs. xs ≡ []) (λ ne. law.conserved.unopened_put e h) (λ same. absurd (nowhere e h same));
      unopened_got = law.conserved.unopened_got;
    }
      where
        nowhere : (e : End) → is_nowhere (g.terminal e) ≡ true → e ≡ r.end → ⊥
        nowhere e h same = grind (arith, h, (law.terminals.each k r here).opened, same)

        was_unclosed : (e : End) → is_closed after e ≡ false → (c : Bool) → is_closed b e ≡ c → is_closed b e ≡ false
        was_unclosed e h true c = absurd (grind (arith, h, closed_more e c))
        was_unclosed e h false c = c

        before : (q : Key) (x : Router) → router_at v q ≡ Some x → same_key q k ≡ false → router_at w q ≡ Some x
        before q x at c = sym (is.touched.router q ∙ ap (λ b. cond b (Some y) (router_at w q)) c) ∙ at

        it : (q : Key) (x : Router) → router_at v q ≡ Some x → same_key q k ≡ true → y ≡ x
        it q x at c = let two : Some y ≡ Some x = sym (is.touched.router q ∙ ap (λ b. cond b (Some y) (router_at w q)) c) ∙ at in cc

        reach : (q : Key) (x : Router) → router_at v q ≡ Some x → is_terminal x ≡ true → (c : Bool) → same_key q k ≡ c →
            next_number x ≡ length (after.put x.end)
        reach q x at t true c = subst (λ z. next_number z ≡ length (after.put z.end)) (it q x at c)
            (ap Rattle.ipcz_seq.specs.Queue.reach is.out ∙ reach-push r.out_queue item beyond ∙ ap (λ n. n + 1) number ∙ sym
            (length-more (b.put r.end) item) ∙ ap length (sym put_here) ∙ ap (λ e. length (after.put e)) (sym is.alike.end))
        reach q x at t false c = law.conserved.reach q x (before q x at c) t ∙ ap length
            (sym (put_same x.end (other_end q x (before q x at c) t c)))

        current : (q : Key) (x : Router) → router_at v q ≡ Some x → is_terminal x ≡ true → (c : Bool) → same_key q k ≡ c →
            x.in_queue.current ≡ read b x.end
        current q x at t true c = subst (λ z. z.in_queue.current ≡ read b z.end) (it q x at c)
            (ap (λ z. z.current) is.inn ∙ law.conserved.current k r here is.terminal ∙ ap (read b) (sym is.alike.end))
        current q x at t false c = law.conserved.current q x (before q x at c) t

        sink : (q : Key) (x : Router) → router_at v q ≡ Some x → is_terminal x ≡ true → (c : Bool) → same_key q k ≡ c →
            x.closed ≡ is_closed after x.end
        sink q x at t true c = subst (λ z. z.closed ≡ is_closed after z.end) (it q x at c)
            (is.closed ∙ sym closed_here ∙ ap (is_closed after) (sym is.alike.end))
        sink q x at t false c = law.conserved.sink q x (before q x at c) t ∙ sym (closed_same x.end (other_end q x (before q x at c) t c))

    held_once-put : HeldOnce v after g
    held_once-put = record {
      once = λ e. elim (end_tells e r.end) [
        | inl f ↦ let a : times_closed after e ≡ flag (is_mark item) = ap (λ d. cond (is_closed after d) 1 0) f.1 ∙ ap flag closed_here in
            let z : times_closed b e ≡ 0 = ap (λ d. cond (is_closed b d) 1 0) f.1 ∙ ap flag is.unclosed in
            let n : flag (is_mark item && same_end e r.end) ≡ flag (is_mark item) = both (is_mark item) (same_end e r.end) f.0 in
            omega (arith, is.places (names_end e), is.times e, law.held_once.once e, a, z, n)
        | inr f ↦ let a : times_closed after e ≡ times_closed b e = ap flag (closed_same e f.1) in
            let n : flag (is_mark item && same_end e r.end) ≡ 0 = none (is_mark item) (same_end e r.end) f.0 in
            omega (arith, is.places (names_end e), is.times e, law.held_once.once e, a, n)
      ];
      moves_in_parcel = λ from to i l s n z moves j d u h. law.held_once.moves_in_parcel from to i l s n z moves j d
          (under-same w v from to i (messages.Item l s n z moves) same u) h;
    }
      where
        both : (a c : Bool) → c ≡ true → flag (a && c) ≡ flag a
        both true c h = ap flag h
        both false c h = refl

        none : (a c : Bool) → c ≡ false → flag (a && c) ≡ 0
        none true c h = ap flag h
        none false c h = refl

    -- a router that was there before, but for its out queue
    record WasPut (q : Key) (x : Router) : Type 0 where
      pub router : Router
      pub at : router_at w q ≡ Some router
      pub like : IsPutLike router x
      pub closed : x.closed ≡ true → (router.closed ≡ true) ⊎ (router ≡ r)

    was : (q : Key) (x : Router) → router_at v q ≡ Some x → WasPut q x
    was q x at = go (same_key q k) refl
      where
        go : (c : Bool) → same_key q k ≡ c → WasPut q x
        go true c = let it : y ≡ x = grind (arith, is.touched.router q, c, at) in record {
          router = r;
          at = ap (router_at w) (grind (arith, same_key_tells q k, c)) ∙ here;
          like = subst (IsPutLike r) it (record {
            end = is.alike.end;
            current = ap (λ p. p.current) is.inn;
            out = ap (λ p. p.current) is.out;
            terminal = ap is_none is.alike.inward;
            inner = ap (λ o. (unwrap_or o no_edge).primary) is.alike.inward;
            primary = ap (λ e. e.primary) is.alike.outward;
            sent = is.gone_sent;
            dropped = is.mark_dropped;
            still = decays-alike r y is.alike;
          });
          closed = λ h. inr refl;
        }
        go false c = record { router = x; at = grind (arith, is.touched.router q, c, at); like = put_like-itself x; closed = λ h. inl h }

    right-put : (q : Key) (x : Router) → router_at v q ≡ Some x → IsGoneRight after g x
    right-put q x at = record {
      sent = λ h. let s = o.sent (sym z.like.sent ∙ h) in (
        ap (λ e. is_retired after (opposite_end e)) z.like.end ∙ gone_after (opposite_end z.router.end) ∙ s.0,
        z.like.current ∙ s.1 ∙ ap length (sym (put_same (opposite_end z.router.end) (retired_other (opposite_end z.router.end) s.0))) ∙
            ap (λ e. length (after.put (opposite_end e))) (sym z.like.end),
      );
      sent_back = λ n i h c. let t : is_retired b (opposite_end z.router.end) ≡ true =
          was_retired (opposite_end z.router.end) (ap (λ e. is_retired after (opposite_end e)) (sym z.like.end) ∙ h) in
          z.like.sent ∙ o.sent_back (sym z.like.terminal ∙ n) (ap is_some (sym z.like.inner) ∙ i) t
          (sym z.like.current ∙ c ∙ ap (λ e. length (after.put (opposite_end e))) z.like.end ∙
          ap length (put_same (opposite_end z.router.end) (retired_other (opposite_end z.router.end) t)));
      left_primary = λ e p l. ap (λ d. is_retired after (opposite_end d)) z.like.end ∙ gone_after (opposite_end z.router.end) ∙
          o.left_primary e (sym z.like.primary ∙ p) l;
      left_inner = λ e p l. omega (
        arith,
        inner e (sym z.like.inner ∙ p) l,
        ap (λ d. length (after.put (opposite_end d))) z.like.end,
        z.like.current,
      );
      out_put = omega (arith, longer z.router.end _ o.out_put, ap (λ d. length (after.put d)) z.like.end, z.like.out);
      in_put = omega (
        arith,
        longer (opposite_end z.router.end) _ o.in_put,
        ap (λ d. length (after.put (opposite_end d))) z.like.end,
        z.like.current,
      );
      still = λ s n h. still-of (o.still s (sym (begun-like z.router x z.like) ∙ n)
          (sym (gone_after (end_at z.router.end.pair s)) ∙ ap (λ d. is_retired after (end_at d.pair s)) (sym z.like.end) ∙ h));
      dropped = λ n t h m. dropped n (sym z.like.terminal ∙ t) (ap (λ d. slice_get (after.put (opposite_end d)) n) (sym z.like.end) ∙ h)
          (sym z.like.dropped ∙ m);
      dropped_closed = λ m. ap (λ d. is_closed after (opposite_end d)) z.like.end ∙
          closed_more (opposite_end z.router.end) (o.dropped_closed (sym z.like.dropped ∙ m));
      dropped_back = λ n t h l c. z.like.dropped ∙ back n (sym z.like.terminal ∙ t)
          (ap (λ d. slice_get (after.put (opposite_end d)) n) (sym z.like.end) ∙ h) (omega (arith, l, z.like.current)) (z.closed c);
    }
      where
        z : WasPut q x
        z = was q x at

        o : IsGoneRight b g z.router
        o = right-of law.gones q z.router z.at

        still-of : decays z.router ≡ false → decays x ≡ false
        still-of h = z.like.still ∙ h

        inner : (e : LinkEnd) → (inward_edge z.router).primary ≡ Some e → is_left g e.link (opposite e.side) ≡ true →
            length (after.put (opposite_end z.router.end)) ≤ z.router.in_queue.current
        inner e p l = put_by (opposite_end z.router.end) (λ xs. length xs ≤ z.router.in_queue.current) (λ ne. o.left_inner e p l)
            (λ same. absurd (none same))
          where
            rec : IsRecorded w g q z.router e
            rec = ((links-in law) q z.router z.at).inward_primary e p

            end : side_end g e.link (opposite e.side) ≡ z.router.end
            end = end_around g e.link e.side (((links-in law) q z.router z.at).inward_primary_inward e p) ∙ sym rec.end

            none : opposite_end z.router.end ≡ r.end → ⊥
            none same = let e' : z.router.end ≡ opposite_end r.end = sym (opposite_end-twice z.router.end) ∙ ap opposite_end same in
                elim (either _ _ (law.retired_ends.left_of e.link (opposite e.side) l)) [
                  | inl h ↦ not_both _ h (ap (is_retired b) (end ∙ e') ∙ free.1)
                  | inr h ↦ not_both _ h (ap (λ d. is_retired b (opposite_end d)) end ∙ ap (is_retired b) same ∙ free.0)
                ]

        unmarked : (n : ℕ) → opposite_end z.router.end ≡ r.end → z.router.mark_dropped ≡ true → ⊥
        unmarked n same m = not_both (is_closed b r.end) (ap (is_closed b) (sym same) ∙ o.dropped_closed m) is.unclosed

        dropped : (n : ℕ) → is_terminal z.router ≡ true → slice_get (after.put (opposite_end z.router.end)) n ≡ Some Mark →
            z.router.mark_dropped ≡ true → n < x.in_queue.current
        dropped n t h m = put_by (opposite_end z.router.end) (λ xs. slice_get xs n ≡ Some Mark → n < x.in_queue.current)
            (λ ne i. omega (arith, o.dropped n t i m, z.like.current)) (λ same i. absurd (unmarked n same m)) h

        back : (n : ℕ) → is_terminal z.router ≡ true → slice_get (after.put (opposite_end z.router.end)) n ≡ Some Mark →
            n < z.router.in_queue.current → (z.router.closed ≡ true) ⊎ (z.router ≡ r) → z.router.mark_dropped ≡ true
        back n t h l c = put_by (opposite_end z.router.end) (λ xs. slice_get xs n ≡ Some Mark → z.router.mark_dropped ≡ true)
            (λ ne i. elim c [
              | inl f ↦ o.dropped_back n t i l f
              | inr f ↦ absurd (unread n (ap (λ x. slice_get (b.put (opposite_end x.end)) n) (sym f) ∙ i)
                  (subst (λ x. n < x.in_queue.current) f l))
            ])
            (λ same i. elim (slice_get-last (b.put r.end) item Mark n i) [
              | inl f ↦ absurd (not_both (is_closed b r.end) (mark_found (b.put r.end) n f) is.unclosed)
              | inr f ↦ absurd (omega (arith, l, f.0, o.in_put, ap (λ e. length (b.put e)) same))
            ]) h
          where
            unread : (n : ℕ) → slice_get (b.put (opposite_end r.end)) n ≡ Some Mark → n < r.in_queue.current → ⊥
            unread n i l = no_mark (b.got r.end) (b.put (opposite_end r.end)) n
                (subst (λ e. take (length (b.got e)) (b.put (opposite_end r.end)) ≡ map Parcel (b.got e)) (opposite_end-twice r.end)
                (law.conserved.prefix (opposite_end r.end)))
                (omega (arith, l, law.conserved.current k r here is.terminal, law.conserved.gone_closed r.end is.unclosed)) i

    pub inv-put_by : Inv v (add_put b r.end item) g
    inv-put_by = record {
      counts = counts-touched w v k r y g is.touched is.alike law.counts (hands-same w v g law.counts is.touched.count is.hands);
      ordered = ordered-put;
      shape = shape-touched w v k r y g is.touched is.alike law.shape;
      roles = roles-touched w v k r y g is.touched is.alike law.roles;
      begun = law.begun;
      stands = stands-touched w v k r y g is.touched is.alike law.stands;
      words = words-touched w v k r y g is.touched is.alike law.words;
      spares = spares-touched w v k r y g is.touched is.alike law.spares;
      bypasses = bypasses-touched w v k r y g is.touched is.alike law.bypasses;
      live = law.live;
      stages = stages-touched w v k r y g is.touched is.alike law.stages;
      controls = controls-same w v g same law.controls;
      moves = moves-same w v g same law.moves;
      terminals = terminals-touched w v k r y g is.touched is.alike law.terminals;
      end_places = end_places-put;
      books_kept = books_kept-put;
      retired_ends = retired-put;
      gones = gones-all right-put;
      items = items-put;
      order = order-put;
      proxy_numbers = proxy_numbers-put;
      fresh_numbers = fresh_numbers-put;
      conserved = conserved-put;
      held_once = held_once-put;
      no_strays = λ j. is.touched.strays j ∙ law.no_strays j;
    }
