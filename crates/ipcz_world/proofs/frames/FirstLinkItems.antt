-- A word becomes a pair's first link: the terminals and descriptors, the numbers of items and their places.
use Rattle.ipcz_world.proofs.frames.RolesTell.{links-in}
use Rattle.ipcz_world.proofs.Vocabulary.{inward_edge, opposite_end, LinkEnd, Side, A, B, End, Central, Descriptor, Item, Message, opposite, same_end}
use Rattle.ipcz_world.proofs.Vocabulary.{has_end, Queue, item_at, Router, is_terminal, World, Key, router_at, Books, read, is_closed, Records, Owner}
use Rattle.ipcz_world.proofs.Vocabulary.{Terminal, At, is_linked, is_begun, is_recorded, inner_link, side_end, terminal_node, is_nowhere, across_side}
use Rattle.ipcz_world.proofs.Vocabulary.{Standing, view, key_passes, next_sent, taking_queue, is_gone, is_awaited, IsUnderWay, moves_of, at_end}
use Rattle.ipcz_world.proofs.Vocabulary.{names_end, inner_of, moving_link, Terminals, EndPlaces, BooksKept, Conserved, HeldOnce, Items, Order}
use Rattle.ipcz_world.proofs.Vocabulary.{ProxyNumbers, FreshNumbers, has_passed, standing_router, Inv, decays, end_at, is_retired, is_left, Retired}
use Rattle.ipcz_world.proofs.Vocabulary.{RetiredEnds, Gones, next_number, has_mark, CentralRecord, may_have_sent, Moves, move_weight}
use Rattle.std.specs.Prelude.{nat_le}
use Rattle.std.proofs.lemmas.Option.{same_Some}
use Rattle.ipcz_world.proofs.frames.FirstLinkAround.{left_same, left_before, by_word, begun_apart}
use Rattle.ipcz_world.proofs.frames.GonesKept.{gones-new, gone_like-itself, retired_somewhere}
use Rattle.std.specs.Prelude.{◌||◌}
use Rattle.ipcz_world.specs.Records.{side_length}
use Rattle.std.specs.Prelude.{◌≡◌, ◌≢◌, ◌≤◌, ℕ, Bool, true, false, ◌&&◌, nat_eq, Some, is_some, refl, [], length, slice_get}
use Rattle.std.proofs.Common.{arith, ap, subst, ◌∙◌, sym, inl, inr}
use Rattle.std.proofs.lemmas.Bool.Decides.{nat_tests}
use Rattle.ipcz_base.specs.declared.message.Message.TheVariants as messages
use Rattle.ipcz_seq.specs.Queue.{queue_from}
use Rattle.ipcz_world.proofs.frames.Draining.{taking_queue-standing}
use Rattle.ipcz_world.proofs.frames.Fitting.{fits_of, items_by}
use Rattle.ipcz_world.proofs.frames.SameMessages.{under-same, made-same, under_way-same}
use Rattle.ipcz_world.proofs.frames.FreshPairs.{fresh_at, end_of, IsNew, IsGrown, empty_item, is_nowhere-at, move_none, known_somewhere}
use Rattle.ipcz_world.proofs.frames.FreshPairs.{inner_end, attached_fresh, central_queues, reach_empty}
use Rattle.ipcz_world.proofs.facts.Tests.{not_both}
use Rattle.ipcz_world.proofs.frames.FirstLinkAround.{recorded_apart, recorded_kept, recorded_inner, recorded_was, router_kept, node_kept}
use Rattle.ipcz_world.proofs.frames.FirstLinkAround.{end_kept, length_kept, terminal_kept, nowhere_was, passes_kept, view_kept, new_router}
use Rattle.ipcz_world.proofs.frames.FirstLinkAround.{grown_end, no_end, central_recorded, new_passes, proxy_same, same}
use Rattle.ipcz_world.proofs.frames.Booking.{expected_move-at}
use Rattle.ipcz_world.proofs.facts.Lengths.{view-standing}
use Rattle.ipcz_world.proofs.facts.LinkTests.{same_end-itself}

module _ {w v : World} {b : Books} {g : Records} {owner' : ℕ → Owner} {central' : ℕ → CentralRecord} {terminal' : End → Terminal} {i : ℕ}
    {at : Side → Key} (law : Inv w b g) (is : IsGrown w v g owner' central' terminal' i at) where
  abbrev h : Records
  h = record g { owner = owner'; central = central'; terminal = terminal' }

  pub moves-grown : Moves v h
  moves-grown = record {
    ends = λ from to j l s n item moves u. law.moves.ends from to j l s n item moves
        (under-same w v from to j (messages.Item l s n item moves) (same law is) u);
    within = λ n j l s number item moves u. law.moves.within n j l s number item moves
        (under-same w v n n j (messages.Item l s number item moves) (same law is) u);
    recorded = λ from to j n m d u e. recorded_kept law is d.link (moved from to j n m d u e);
    peripheral = λ from to j n m d u. law.moves.peripheral from to j n m d (under-same w v from to j m (same law is) u);
    sender = λ from to j n m d u e. node_kept law is d.link A (recorded_apart law is d.link (moved from to j n m d u e)) ∙
        law.moves.sender from to j n m
        d (under-same w v from to j m (same law is) u) e;
    receiver = λ from to j n m d u e. node_kept law is d.link B (recorded_apart law is d.link (moved from to j n m d u e)) ∙
        law.moves.receiver from to j
        n m d (under-same w v from to j m (same law is) u) e;
    awaited = λ from to j n m d u e. router_kept law is d.link B (recorded_apart law is d.link (moved from to j n m d u e)) ∙
        law.moves.awaited from to j
        n m d (under-same w v from to j m (same law is) u) e;
    end = λ from to j n m d u e. end_kept law is d.link B (recorded_apart law is d.link (moved from to j n m d u e)) ∙
        law.moves.end from to j n m d
        (under-same w v from to j m (same law is) u) e;
    one = λ e f. under_way-same w v _ (same law is) ∙ law.moves.one e f ∙ weighs e f;
    moving = λ p r e. ap moving_link (terminal_kept law is (g.peripheral p).end
        (ap (λ d. is_nowhere (g.terminal d)) (sym (inner_end g p)) ∙
        law.terminals.link_opened (inner_link p) A (recorded_inner law is p r))) ∙
        law.moves.moving p (recorded_inner law is p r) e;
  }
    where
      moved : (from to j n : ℕ) (m : Message) (d : Descriptor) → IsUnderWay v from to j m → slice_get (moves_of m) n ≡ Some d →
          is_recorded w g d.link ≡ true
      moved from to j n m d u e = law.moves.recorded from to j n m d (under-same w v from to j m (same law is) u) e

      weighs : (e : End) (f : Descriptor → ℕ) → move_weight f (g.terminal e) ≡ move_weight f (terminal' e)
      weighs e f = elim (is.terminal e) [
        | inl s ↦ ap (move_weight f) (sym s)
        | inr s ↦ move_none f (g.terminal e) (law.terminals.unopened e (ap (λ j. is_linked (g.owner j)) s.0 ∙ is.free)) ∙ sym
            (ap (move_weight f) s.1 ∙ expected_move-at f (at e.side))
      ]

  -- where a new router's terminal is
  fresh_terminal : (q : Key) (x : Router) → IsNew i at q x → is_linked (owner' i) ≡ true → terminal' x.end ≡ At q
  fresh_terminal q x o l = ap (λ (x : Router). terminal' x.end) o.is ∙ (is.linked l).terminal o.side ∙ ap At (sym o.key)

  pub terminals-grown : Terminals v h
  terminals-grown = record {
    each = λ q x e. record {
      terminal = λ t. elim (is.was q x e) [
        | inl o ↦ terminal_kept law is x.end ((law.terminals.each q x o).opened) ∙ (law.terminals.each q x o).terminal t
        | inr o ↦ fresh_terminal q x o.0 o.1
      ];
      opened = elim (is.was q x e) [
        | inl o ↦ ap is_nowhere (terminal_kept law is x.end ((law.terminals.each q x o).opened)) ∙ (law.terminals.each q x o).opened
        | inr o ↦ ap is_nowhere (fresh_terminal q x o.0 o.1) ∙ is_nowhere-at q
      ];
    };
    stands = λ e k t. elim (is.terminal e) [
      | inl s ↦ passes_kept law is (Some k) (λ r. is_terminal r && same_end r.end e) (law.terminals.stands e k (sym s ∙ t))
      | inr s ↦ ap (λ k. key_passes v k (λ r. is_terminal r && same_end r.end e)) (same_key (at e.side) k (sym s.1 ∙ t)) ∙
          new_passes law is s.2
          e.side (λ r. is_terminal r && same_end r.end e) ∙ own_end e s.0
    ];
    link_opened = λ l s r. elim (recorded_was law is l r) [
      | inl o ↦ ap (λ e. is_nowhere (terminal' e)) (end_kept law is l s (recorded_apart law is l o)) ∙ ap is_nowhere
          (terminal_kept law is (side_end g l s) (law.terminals.link_opened l s o)) ∙ law.terminals.link_opened l s o
      | inr o ↦ ap (λ l. is_nowhere (terminal' (side_end h l s))) o.0 ∙ ap (λ e. is_nowhere (terminal' e)) (grown_end law is o.1 s) ∙
          ap is_nowhere
          ((is.linked o.1).terminal s) ∙ is_nowhere-at (at s)
    ];
    both = is.terminal_pair;
    unopened = λ e l. elim (is.terminal e) [
      | inl s ↦ ap is_nowhere s ∙ law.terminals.unopened e (was_unlinked e.pair l (nat_eq e.pair i) refl)
      | inr s ↦ absurd (not_both (is_linked (owner' i)) s.2 (ap (λ j. is_linked (owner' j)) (sym s.0) ∙ l))
    ];
    other_pair = λ e l n. elim (is.terminal e) [
      | inl s ↦ ap is_nowhere s ∙ was_other e l n (nat_eq e.pair i) refl
      | inr s ↦ absurd (own_pair e.pair s.0 s.2 n)
    ];
  }
    where
      same_key : (j k : Key) → At j ≡ At k → Some k ≡ Some j
      same_key j k e = let f : j ≡ k = grind (arith, e) in ap Some (sym f)

      own_end : (e : End) → e.pair ≡ i → (is_terminal (fresh_at i at e.side) && same_end (end_of i e.side) e) ≡ true
      own_end e p = ap (λ n. same_end (end_of n e.side) e) (sym p) ∙ same_end-itself e

      own_pair : (j : ℕ) → j ≡ i → is_linked (owner' i) ≡ true → nat_eq (central' j).pair j ≡ false → ⊥
      own_pair j f l n = let p : (central' j).pair ≡ j = ap (λ k. (central' k).pair) f ∙ (is.linked l).pair ∙ sym f in
          grind (arith, p, n, nat_tests)

      was_other : (e : End) → is_linked (owner' e.pair) ≡ true → nat_eq (central' e.pair).pair e.pair ≡ false → (c : Bool) →
          nat_eq e.pair i ≡ c → is_nowhere (g.terminal e) ≡ true
      was_other e l n true f = let m : e.pair ≡ i = grind (arith, f, nat_tests) in
          absurd (own_pair e.pair m (ap (λ j. is_linked (owner' j)) (sym m) ∙ l) n)
      was_other e l n false f = let m : e.pair ≢ i = λ m. grind (arith, m, f, nat_tests) in
          law.terminals.other_pair e (ap is_linked (sym (is.owner e.pair m)) ∙ l)
          (ap (λ (c : CentralRecord). nat_eq c.pair e.pair) (sym (is.central e.pair m)) ∙ n)

      was_unlinked : (j : ℕ) → is_linked (owner' j) ≡ false → (c : Bool) → nat_eq j i ≡ c → is_linked (g.owner j) ≡ false
      was_unlinked j l true e = let f : j ≡ i = grind (arith, e, nat_tests) in ap (λ j. is_linked (g.owner j)) f ∙ is.free
      was_unlinked j l false e = ap is_linked (sym (is.owner j (λ f. grind (arith, e, f, nat_tests)))) ∙ l

  -- what is known of an end's node stays so
  node_known : (e : End) (m : ℕ) → terminal_node (g.terminal e) ≡ Some m → terminal_node (terminal' e) ≡ Some m
  node_known e m k = ap terminal_node (terminal_kept law is e (known_somewhere (g.terminal e) m k)) ∙ k

  pub end_places-grown : EndPlaces v h
  end_places-grown = record {
    held = λ m e k. elim (is.held m e k) [ inl o ↦ node_known e m (law.end_places.held m e o) | inr o ↦ o ];
    pending = λ m e k. node_known e m (law.end_places.pending m e (ap (has_end e) (sym (is.pending m)) ∙ k));
    each = λ q x a. record {
      out = λ n z e c k. elim (is.was q x a) [
        | inl o ↦ node_known e q.node ((law.end_places.each q x o).out n z e c k)
        | inr o ↦ absurd
            (empty_item 0 n z (ap (λ (x : Router). item_at x.out_queue n) (sym o.0.is) ∙ c))
      ];
      inn = λ n z e c k. elim (is.was q x a) [
        | inl o ↦ node_known e q.node ((law.end_places.each q x o).inn n z e c k)
        | inr o ↦ absurd
            (empty_item 0 n z (ap (λ (x : Router). item_at x.in_queue n) (sym o.0.is) ∙ c))
      ];
    };
    within = λ n j l s number item moves e u k. node_known e n (law.end_places.within n j l s number item moves e
        (under-same w v n n j (messages.Item l s number item moves) (same law is) u) k);
  }

  pub books_kept-grown : BooksKept v b h
  books_kept-grown = record {
    own_pair = law.books_kept.own_pair;
    mark_last = law.books_kept.mark_last;
    gone_last = law.books_kept.gone_last;
    retired_closed = law.books_kept.retired_closed;
    numbers = law.books_kept.numbers;
    mark_seen = λ q x a m. elim (is.was q x a) [
      | inl o ↦ law.books_kept.mark_seen q x o m
      | inr o ↦ absurd
          (not_both x.mark_seen m (ap (λ (x : Router). x.mark_seen) o.0.is))
    ];
  }

  pub retired-grown : RetiredEnds b h
  retired-grown = record {
    retired = λ e a. let t : g.terminal e ≡ Retired = law.retired_ends.retired e a in
        terminal_kept law is e (ap is_nowhere t ∙ retired_somewhere) ∙ t;
    peer_closed = law.retired_ends.peer_closed;
    peer_stays = law.retired_ends.peer_stays;
    all_read = law.retired_ends.all_read;
    gone_read = λ e t n. law.retired_ends.gone_read e (was e t) n;
    no_bypass = λ o s l m. ap (λ (c : CentralRecord). is_retired b (end_at c.pair s)) (is.central o (begun_apart law is o (early (g.bypass o).stage l))) ∙
        law.retired_ends.no_bypass o s l m;
    left = λ e j a l n p. elim (by_word law is j l) [
      | inl o ↦ left_same law is (Central j) e.side ∙ law.retired_ends.left e j a o.1 n
          (ap (λ (c : CentralRecord). c.pair) (sym (is.central j o.0)) ∙ p)
      | inr o ↦ absurd (never e a (sym p ∙ ap (λ n. (central' n).pair) o.0 ∙ (is.linked o.1).pair))
    ];
    left_of = λ l s e. let before : is_left g l s ≡ true = sym (left_same law is l s) ∙ e in
        ap (λ d. is_retired b d || is_retired b (opposite_end d)) (end_kept law is l s
        (recorded_apart law is l (law.stands.left_recorded l s before))) ∙ law.retired_ends.left_of l s before;
    accepted = λ o l. rw (is.central o (begun_apart law is o (late (g.bypass o).stage l))) (law.retired_ends.accepted o l);
  }
    where
      early : (n : ℕ) → 1 ≤ n → nat_le 1 n ≡ true
      early n l = grind (arith, l, nat_tests)

      late : (n : ℕ) → 3 ≤ n → nat_le 1 n ≡ true
      late n l = grind (arith, l, nat_tests)

      was : (e : End) → terminal' e ≡ Retired → g.terminal e ≡ Retired
      was e t = elim (is.terminal e) [ inl s ↦ sym s ∙ t | inr s ↦ absurd (at_retired (at e.side) (sym s.1 ∙ t)) ]
        where
          at_retired : (q : Key) → At q ≡ Retired → ⊥
          at_retired q x = cc

      never : (e : End) → is_retired b e ≡ true → e.pair ≡ i → ⊥
      never e a p = not_both (is_nowhere (g.terminal e)) (law.terminals.unopened e (ap (λ j. is_linked (g.owner j)) p ∙ is.free))
          (ap is_nowhere (law.retired_ends.retired e a) ∙ retired_somewhere)

  pub gones-grown : Gones v b h
  gones-grown = gones-new w v b g h (λ q x a. elim (is.was q x a) [
    | inl o ↦ inl (record { router = x; at = o; alike = gone_like-itself x })
    | inr o ↦ inr (record {
      terminal = ap is_terminal o.0.is;
      sent = ap (λ (x : Router). x.gone_sent) o.0.is;
      dropped = ap (λ (x : Router). x.mark_dropped) o.0.is;
      closed = ap (λ (x : Router). x.closed) o.0.is;
      still = ap decays o.0.is;
      left = λ e p. new_left e (o.0.side) (sym (ap (λ (x : Router). x.outward.primary) o.0.is) ∙ p);
      inner = ap (λ (x : Router). (inward_edge x).primary) o.0.is;
      out_put = subst (λ (x : Router). x.out_queue.current ≤ length (b.put x.end)) (sym o.0.is) (omega arith);
      in_put = subst (λ (x : Router). x.in_queue.current ≤ length (b.put (opposite_end x.end))) (sym o.0.is) (omega arith);
    })
  ]) (λ l s n. sym (left_same law is l s) ∙ n) law.gones
    where
      new_left : (e : LinkEnd) (s : Side) → (fresh_at i at s).outward.primary ≡ Some e → is_left h e.link (opposite e.side) ≡ false
      new_left e s p = let z = same_Some _ e p in ap (λ (e : LinkEnd). is_left h e.link (opposite e.side)) (sym z) ∙
          left_same law is (Central i) (opposite s) ∙ left_before law is (opposite s)

  pub items-grown : Items v h
  items-grown = items_by v h (λ from to j l s n item moves u.
      let o = under-same w v from to j (messages.Item l s n item moves) (same law is) u in let fit =
      fits_of w g from to j l s n item moves law.items o in let ne = recorded_apart law is l fit.recorded in record {
        recorded = recorded_kept law is l fit.recorded;
        sender = fit.sender ∙ sym (node_kept law is l (opposite s) ne);
        receiver = fit.receiver ∙ sym (node_kept law is l s ne);
        below_length = λ len e. fit.below_length len (sym (length_kept law is l (opposite s)) ∙ e);
        was_sent = λ x e. fit.was_sent x (ap (next_sent l (opposite s)) (sym (view_kept law is l (opposite s) fit.recorded)) ∙ e);
        by_sender = ap may_have_sent (view_kept law is l (opposite s) fit.recorded) ∙ fit.by_sender;
        sender_gone = λ e. ap (λ c. is_some (side_length h l (opposite s)) || c) (left_same law is l (opposite s)) ∙
            ap (λ o. is_some o || is_left g l (opposite s)) (length_kept law is l (opposite s)) ∙ fit.sender_gone
            (ap is_gone (sym (view_kept law is l (opposite s) fit.recorded)) ∙ e);
        not_passed = λ q e. fit.not_passed q (ap (taking_queue l s) (sym (view_kept law is l s fit.recorded)) ∙ e);
        behind = λ e. made-same w v from to j l s (same law is) ∙ fit.behind (ap is_awaited (sym (view_kept law is l s fit.recorded)) ∙ e);
        not_awaited_low = λ c o e none born. let nc : c ≢ i = λ f. ne (e ∙ ap Central f) in
            fit.not_awaited_low c o e (ap (λ (r : CentralRecord). r.router s) (sym (is.central c nc)) ∙ none)
            (ap (λ (r : CentralRecord). r.born) (sym (is.central c nc)) ∙ born);
        receiver_there = ap is_gone (view_kept law is l s fit.recorded) ∙ fit.receiver_there;
      })

  -- the new terminals stand at the new link's sides, with nothing sent and nothing come
  new_view : is_linked (owner' i) ≡ true → (s : Side) → view v h (Central i) s ≡ Standing (fresh_at i at s)
  new_view l s = view-standing v h (Central i) s (at s) (fresh_at i at s) (new_router law is l s) ((is.linked l).here s)
      (attached_fresh i at s)

  new_taking : is_linked (owner' i) ≡ true → (s : Side) (q : Queue Item) → taking_queue (Central i) s (view v h (Central i) s) ≡ Some q →
      queue_from 0 ≡ q
  new_taking l s q e = same_some (sym (ap Some (central_queues i s (fresh_at i at s)).1) ∙ sym
      (taking_queue-standing (Central i) s (fresh_at i at s)) ∙ ap (taking_queue (Central i) s) (sym (new_view l s)) ∙ e)
    where
      same_some : {a c : Queue Item} → Some a ≡ Some c → a ≡ c
      same_some f = cc

  pub order-grown : Order v h
  order-grown = record {
    current = λ l s u q r sent taken short. elim (recorded_was law is l r) [
      | inl o ↦ law.order.current l s u q o (ap (next_sent l (opposite s)) (sym (view_kept law is l (opposite s) o)) ∙ sent)
          (ap (taking_queue l s) (sym (view_kept law is l s o)) ∙ taken)
          (ap (λ len. has_passed len u) (sym (length_kept law is l (opposite s))) ∙ short)
      | inr o ↦ let e = new_taking o.1 s q (ap (λ l. taking_queue l s (view v h l s)) (sym o.0) ∙ taken) in
          subst (λ (z : Queue Item). z.current ≤ u) e (omega arith)
    ];
    stored = λ l s u q n item r sent taken a short. elim (recorded_was law is l r) [
      | inl o ↦ law.order.stored l s u q n item o (ap (next_sent l (opposite s)) (sym (view_kept law is l (opposite s) o)) ∙ sent)
          (ap (taking_queue l s) (sym (view_kept law is l s o)) ∙ taken) a
          (ap (λ len. has_passed len n) (sym (length_kept law is l (opposite s))) ∙ short)
      | inr o ↦ let e = new_taking o.1 s q (ap (λ l. taking_queue l s (view v h l s)) (sym o.0) ∙ taken) in
          absurd (empty_item 0 n item (ap (λ (z : Queue Item). item_at z n) e ∙ a))
    ];
  }

  begun_by : (o n : ℕ) → n ≤ (g.bypass o).stage → 1 ≤ n → is_begun (g.bypass o) ≡ true
  begun_by o n l one = grind (arith, l, one, nat_tests)

  stood : (o n : ℕ) (r : Router) → n ≤ (g.bypass o).stage → 1 ≤ n → router_at v (g.bypass o).proxy ≡ Some r →
      router_at w (g.bypass o).proxy ≡ Some r
  stood o n r l one e = sym (proxy_same law is o (begun_by o n l one)) ∙ e

  pub proxy_numbers-grown : ProxyNumbers v h
  proxy_numbers-grown = record {
    out_current = λ o r e s. law.proxy_numbers.out_current o r (stood o 2 r s (omega arith) e) s;
    out_items = λ o r n item e s. law.proxy_numbers.out_items o r n item (stood o 2 r s (omega arith) e) s;
    in_current = λ o r e s. law.proxy_numbers.in_current o r (stood o 3 r s (omega arith) e) s;
    in_items = λ o r n item e s. law.proxy_numbers.in_items o r n item (stood o 3 r s (omega arith) e) s;
    across_gone = λ o r e s k. law.proxy_numbers.across_gone o r (stood o 3 r s (omega arith) e) s
        (ap is_gone (sym (view_kept law is (Central o) (across_side g o)
        (central_recorded law is o ((law.bypasses o).old (begun_by o 3 s (omega arith))))))
        ∙ k);
    inner_gone = λ o r e s k. let le : 5 ≤ (g.bypass o).stage = omega (arith, s) in
        law.proxy_numbers.inner_gone o r (stood o 5 r le (omega arith) e) s
        (ap is_gone (sym (view_kept law is (inner_of g o) B ((law.bypasses o).inner (begun_by o 5 le (omega arith))))) ∙ k);
    out_finished = λ o r e s. law.proxy_numbers.out_finished o r (stood o 4 r s (omega arith) e) s;
    in_finished = λ o r e s. law.proxy_numbers.in_finished o r (stood o 4 r s (omega arith) e) s;
  }

  pub fresh_numbers-grown : FreshNumbers v h
  fresh_numbers-grown q x a = record {
    own = λ e f len on off l. elim (is.was q x a) [
      | inl o ↦ (law.fresh_numbers q x o).own e f len on off l
      | inr o ↦ absurd
          (no_end law is x.outward.decaying f (ap (λ (x : Router). x.outward.decaying) o.0.is) off)
    ];
    comes = λ e f len from to j m z moves on off l u. elim (is.was q x a) [
      | inl o ↦ (law.fresh_numbers q x o).comes e f len from to j m z moves on off (sym (length_kept law is f.link (opposite f.side)) ∙ l)
          (under-same w v from to j (messages.Item e.link e.side m z moves) (same law is) u)
      | inr o ↦ absurd (no_end law is x.outward.decaying f (ap (λ (x : Router). x.outward.decaying) o.0.is) off)
    ];
    other = λ y e f len on off l there. elim (is.was q x a) [
      | inl o ↦ (law.fresh_numbers q x o).other y e f len on off (sym (length_kept law is f.link (opposite f.side)) ∙ l)
          (ap standing_router (sym (view_kept law is e.link (opposite e.side) (((links-in law) q x o).primary e on).recorded)) ∙ there)
      | inr o ↦ absurd (no_end law is x.outward.decaying f (ap (λ (x : Router). x.outward.decaying) o.0.is) off)
    ];
  }

  -- the ends of the new pair have put and got nothing
  fresh_nowhere : (s : Side) → is_nowhere (g.terminal (end_of i s)) ≡ true
  fresh_nowhere s = law.terminals.unopened (end_of i s) is.free

  fresh_put : (s : Side) → b.put (end_of i s) ≡ []
  fresh_put s = law.conserved.unopened_put (end_of i s) (fresh_nowhere s)

  fresh_open : (s : Side) → is_closed b (end_of i s) ≡ false
  fresh_open s = ap has_mark (fresh_put s)

  fresh_read : (s : Side) → read b (end_of i s) ≡ 0
  fresh_read s = omega (
    arith,
    ap length (law.conserved.unopened_got (end_of i s) (fresh_nowhere s)),
    law.conserved.gone_closed (end_of i s) (fresh_open s),
  )

  pub conserved-grown : Conserved v b h
  conserved-grown = record {
    exact = λ e f. is.places (at_end e f) ∙ law.conserved.exact e f;
    read_put = law.conserved.read_put;
    prefix = law.conserved.prefix;
    gone_closed = law.conserved.gone_closed;
    reach = λ q x a t. elim (is.was q x a) [
      | inl o ↦ law.conserved.reach q x o t
      | inr o ↦ ap next_number o.0.is ∙ reach_empty 0 ∙ ap length
          (sym (fresh_put o.0.side)) ∙ ap (λ (x : Router). length (b.put x.end)) (sym o.0.is)
    ];
    current = λ q x a t. elim (is.was q x a) [
      | inl o ↦ law.conserved.current q x o t
      | inr o ↦ ap (λ (x : Router). x.in_queue.current)
          o.0.is ∙ sym (fresh_read o.0.side) ∙ ap (λ (x : Router). read b x.end) (sym o.0.is)
    ];
    sink = λ q x a t. elim (is.was q x a) [
      | inl o ↦ law.conserved.sink q x o t
      | inr o ↦ ap (λ (x : Router). x.closed) o.0.is ∙ sym
          (fresh_open o.0.side) ∙ ap (λ (x : Router). is_closed b x.end) (sym o.0.is)
    ];
    move_out = λ from to j n m d u. law.conserved.move_out from to j n m d (under-same w v from to j m (same law is) u);
    move_in = λ from to j n m d u. law.conserved.move_in from to j n m d (under-same w v from to j m (same law is) u);
    move_open = λ from to j n m d u. law.conserved.move_open from to j n m d (under-same w v from to j m (same law is) u);
    unopened_put = λ e n. law.conserved.unopened_put e (nowhere_was law is e n);
    unopened_got = λ e n. law.conserved.unopened_got e (nowhere_was law is e n);
  }

  pub held_once-grown : HeldOnce v b h
  held_once-grown = record {
    once = λ e. omega (arith, is.places (names_end e), is.times e, law.held_once.once e);
    moves_in_parcel = λ from to j l s n item moves m d u. law.held_once.moves_in_parcel from to j l s n item moves m d
        (under-same w v from to j (messages.Item l s n item moves) (same law is) u);
  }
