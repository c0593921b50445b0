-- The record of a bypass goes a stage further, from 3 or 4: the numbers of items against the lengths that are known then.
use Rattle.std.specs.Prelude.{◌||◌}
use Rattle.ipcz_world.proofs.Vocabulary.{B, Central, LinkEnd, Item, opposite, Queue, item_at, Router, inward_edge, World, Key, same_key, router_at}
use Rattle.ipcz_world.proofs.Vocabulary.{Books, Records, across_side, view, is_gone, inner_of, Items}
use Rattle.ipcz_world.proofs.Vocabulary.{Order, ProxyNumbers, FreshNumbers, has_passed, standing_router, is_left}
use Rattle.ipcz_world.specs.Records.{side_length}
use Rattle.ipcz_world.proofs.frames.StageFurther.{left_same}
use Rattle.std.specs.Prelude.{◌≡◌, ◌≢◌, ◌⊎◌, ◌≤◌, ℕ, suc, true, false, nat_eq, is_some, Some, None, option_map}
use Rattle.std.proofs.Common.{arith, ap, ◌∙◌, sym, inl, inr}
use Rattle.std.proofs.lemmas.Option.{same_Some}
use Rattle.ipcz_world.proofs.frames.Frames.{same_key_tells}
use Rattle.ipcz_world.proofs.facts.RecordsAfter.{set_bypass}
use Rattle.ipcz_world.proofs.frames.Unmoved.{IsLike, Changed, Carried}
use Rattle.ipcz_world.proofs.frames.Sealing.{Sealed, items_of, order_of, proxy_numbers_of, fresh_numbers_of}
use Rattle.ipcz_world.proofs.frames.StageFurther.{IsLinkedLike, StillMade, at_o, agree, taken_same, accepted_same, at_least}
use Rattle.ipcz_world.proofs.frames.StageFurther.{across_side_same, length_same, view_same, recorded_same, node_same, Was}
use Rattle.ipcz_world.proofs.frames.StageFurther.{was_router}
use Rattle.ipcz_world.proofs.facts.Queues.{HasOutQueue, out_queue_of}

module _ {w v : World} {b : Books} {g : Records} {k : Key} {r x : Router} {o s : ℕ} (law : Sealed w b g) (c : Changed w v k r x)
    (like : IsLike r x) (linked : IsLinkedLike r x) (carried : Carried w v) (at : (g.bypass o).stage ≡ s) (late : 3 ≤ s)
    (early : s ≤ 4) where
  abbrev pub h : Records
  h = set_bypass g o (record (g.bypass o) { stage = suc s })

  pub items-further : StillMade w v carried → Items v h
  items-further still = record {
    recorded = λ a d i l t n m ms u. recorded_same law c like linked carried at late early l ∙
        (items_of law).recorded a d (carried.place a d i) l t n m ms
        (carried.was a d i l t n m ms u);
    sender = λ a d i l t n m ms u. (items_of law).sender a d (carried.place a d i) l t n m ms (carried.was a d i l t n m ms u) ∙ sym
        (node_same law c like linked carried at late early l (opposite t));
    receiver = λ a d i l t n m ms u. (items_of law).receiver a d (carried.place a d i) l t n m ms (carried.was a d i l t n m ms u) ∙ sym
        (node_same law c like linked carried at late early l t);
    below_length = λ a d i l t n m ms len u e. (items_of law).below_length a d (carried.place a d i) l t n m ms len
        (carried.was a d i l t n m ms u) (sym (length_same law c like linked carried at late early l (opposite t)) ∙ e);
    was_sent = λ a d i l t n m ms p u e. (items_of law).was_sent a d (carried.place a d i) l t n m ms p (carried.was a d i l t n m ms u)
        (sym (view_same law c like linked carried at late early l (opposite t)).next ∙ e);
    by_sender = λ a d i l t n m ms u. (view_same law c like linked carried at late early l (opposite t)).sent ∙
        (items_of law).by_sender a d (carried.place a d i) l t n m ms
        (carried.was a d i l t n m ms u);
    sender_gone = λ a d i l t n m ms u e. ap (λ z. is_some z || is_left h l (opposite t))
        (length_same law c like linked carried at late early l (opposite t)) ∙
        ap (λ z. is_some (side_length g l (opposite t)) || z) (left_same law c like linked carried at late early l (opposite t)) ∙
        (items_of law).sender_gone a d
        (carried.place a d i) l t
        n m ms (carried.was a d i l t n m ms u) (sym (view_same law c like linked carried at late early l (opposite t)).gone ∙ e);
    not_passed = λ a d i l t n m ms q u e. (items_of law).not_passed a d (carried.place a d i) l t n m ms q
        (carried.was a d i l t n m ms u)
        (sym (view_same law c like linked carried at late early l t).taking ∙ e);
    behind = λ a d i l t n m ms u e. still.made a d i l t n m ms u
        ((items_of law).behind a d (carried.place a d i) l t n m ms (carried.was a d i l t n m ms u)
        (sym (view_same law c like linked carried at late early l t).awaited ∙ e));
    not_awaited_low = λ a d i f t n m ms j u none born. rw (taken_same law c like linked carried at late early j)
        ((items_of law).not_awaited_low a d (carried.place a d i) f t n m ms j (carried.was a d i (Central f) t n m ms u) none born);
    receiver_there = λ a d i l t n m ms u. (view_same law c like linked carried at late early l t).gone ∙
        (items_of law).receiver_there a d (carried.place a d i) l t n m ms
        (carried.was a d i l t n m ms u);
  }

  pub order-further : Order v h
  order-further = record {
    current = λ l t u q rec e f p. (order_of law).current l t u q (sym (recorded_same law c like linked carried at late early l) ∙ rec)
        (sym (view_same law c like linked carried at late early l (opposite t)).next ∙ e)
        (sym (view_same law c like linked carried at late early l t).taking ∙ f)
        (ap (λ z. has_passed z u) (sym (length_same law c like linked carried at late early l (opposite t))) ∙ p);
    stored = λ l t u q n m rec e f i p. (order_of law).stored l t u q n m (sym (recorded_same law c like linked carried at late early l) ∙
        rec)
        (sym (view_same law c like linked carried at late early l (opposite t)).next ∙ e)
        (sym (view_same law c like linked carried at late early l t).taking ∙ f) i
        (ap (λ z. has_passed z n) (sym (length_same law c like linked carried at late early l (opposite t))) ∙ p);
  }

  was_proxy : (j : ℕ) (t : Router) → router_at v (h.bypass j).proxy ≡ Some t →
      Was law c like linked carried at late early (g.bypass j).proxy t
  was_proxy j t e = was_router law c like linked carried at late early (g.bypass j).proxy t
      (ap (router_at v) (sym ((agree law c like linked carried at late early).proxy j)) ∙ e)

  cur : {p q : Queue Item} → p ≡ q → p.current ≡ q.current
  cur e = ap (λ z. z.current) e

  -- what the proxy's numbers owe if it is this bypass that has come to the stage
  pub record ProxyOwes : Type 0 where
    pub out_finished : (t : Router) → router_at w (g.bypass o).proxy ≡ Some t → t.outward.decaying ≡ None →
        (g.bypass o).taken_at ≤ t.out_queue.current
    pub in_finished : (t : Router) → router_at w (g.bypass o).proxy ≡ Some t → (inward_edge t).decaying ≡ None →
        (g.bypass o).accepted_at ≤ t.in_queue.current
    pub inner_there : s ≡ 4 → is_gone (view w g (inner_of g o) B) ≡ false

  pub proxy_numbers-further : ProxyOwes → ProxyNumbers v h
  proxy_numbers-further owes = record {
    out_current = λ j t e l. let z : Was law c like linked carried at late early (g.bypass j).proxy t = was_proxy j t e in
        omega (
          arith,
          (proxy_numbers_of law).out_current j z.router z.here_before
              (at_least law c like linked carried at late early j 2 (omega arith) l),
          cur z.alike.out_queue,
          taken_same law c like linked carried at late early j,
        );
    out_items = λ j t n m e l i. let z : Was law c like linked carried at late early (g.bypass j).proxy t = was_proxy j t e in
        omega (
          arith,
          (proxy_numbers_of law).out_items j z.router n m z.here_before
              (at_least law c like linked carried at late early j 2 (omega arith) l)
              (ap (λ q. item_at q n) (sym z.alike.out_queue) ∙ i),
          taken_same law c like linked carried at late early j,
        );
    in_current = λ j t e l. let z : Was law c like linked carried at late early (g.bypass j).proxy t = was_proxy j t e in
        omega (
          arith,
          (proxy_numbers_of law).in_current j z.router z.here_before (at_least law c like linked carried at late early j 3 (omega arith) l),
          cur z.alike.in_queue,
          accepted_same law c like linked carried at late early j,
        );
    in_items = λ j t n m e l i. let z : Was law c like linked carried at late early (g.bypass j).proxy t = was_proxy j t e in
        omega (
          arith,
          (proxy_numbers_of law).in_items j z.router n m z.here_before
              (at_least law c like linked carried at late early j 3 (omega arith) l)
              (ap (λ q. item_at q n) (sym z.alike.in_queue) ∙ i),
          accepted_same law c like linked carried at late early j,
        );
    across_gone = λ j t e l n. let z : Was law c like linked carried at late early (g.bypass j).proxy t = was_proxy j t e in
        let n' : is_gone (view v h (Central j) (across_side g j)) ≡ true =
        rw (across_side_same law c like linked carried at late early j) at n in
        omega (
          arith,
          (proxy_numbers_of law).across_gone j z.router z.here_before (at_least law c like linked carried at late early j 3 (omega arith) l)
              (sym (view_same law c like linked carried at late early (Central j) (across_side g j)).gone ∙ n'),
          cur z.alike.out_queue,
          taken_same law c like linked carried at late early j,
        );
    inner_gone = λ j t e l n. let z : Was law c like linked carried at late early (g.bypass j).proxy t = was_proxy j t e in
        let n' : is_gone (view v h (inner_of g j) B) ≡ true =
        rw ((agree law c like linked carried at late early).inner j) at n in
        omega (
          arith,
          inner_gone_at j z.router z.here_before l (sym (view_same law c like linked carried at late early (inner_of g j) B).gone ∙ n')
              (at_o law c like linked carried at late early j),
          cur z.alike.in_queue,
          accepted_same law c like linked carried at late early j,
        );
    out_finished = λ j t e l n. let z : Was law c like linked carried at late early (g.bypass j).proxy t = was_proxy j t e in
        omega (
          arith,
          out_finished_at j z.router z.here_before l (sym z.linked_alike.decaying ∙ n) (at_o law c like linked carried at late early j),
          cur z.alike.out_queue,
          taken_same law c like linked carried at late early j,
        );
    in_finished = λ j t e l n. let z : Was law c like linked carried at late early (g.bypass j).proxy t = was_proxy j t e in
        omega (
          arith,
          in_finished_at j z.router z.here_before l (sym z.linked_alike.inward_decaying ∙ n)
              (at_o law c like linked carried at late early j),
          cur z.alike.in_queue,
          accepted_same law c like linked carried at late early j,
        );
  }
    where
      inner_gone_at : (j : ℕ) (t : Router) → router_at w (g.bypass j).proxy ≡ Some t → (h.bypass j).stage ≡ 5 →
          is_gone (view w g (inner_of g j) B) ≡ true → ((nat_eq j o ≡ true) × (j ≡ o)) ⊎ ((nat_eq j o ≡ false) × (j ≢ o)) →
          (g.bypass j).accepted_at ≤ t.in_queue.current
      inner_gone_at j t e l n (inl m) = let n' : is_gone (view w g (inner_of g o) B) ≡ true = rw m.1 at n in
          absurd (grind (arith, n', owes.inner_there (grind (arith, l, m.0))))
      inner_gone_at j t e l n (inr m) = (proxy_numbers_of law).inner_gone j t e (grind (arith, l, m.0)) n

      out_finished_at : (j : ℕ) (t : Router) → router_at w (g.bypass j).proxy ≡ Some t → 4 ≤ (h.bypass j).stage →
          t.outward.decaying ≡ None → ((nat_eq j o ≡ true) × (j ≡ o)) ⊎ ((nat_eq j o ≡ false) × (j ≢ o)) →
          (g.bypass j).taken_at ≤ t.out_queue.current
      out_finished_at j t e l n (inl m) = rw m.1 (owes.out_finished t (rw m.1 at e) n)
      out_finished_at j t e l n (inr m) = (proxy_numbers_of law).out_finished j t e (grind (arith, l, m.0)) n

      in_finished_at : (j : ℕ) (t : Router) → router_at w (g.bypass j).proxy ≡ Some t → 4 ≤ (h.bypass j).stage →
          (inward_edge t).decaying ≡ None → ((nat_eq j o ≡ true) × (j ≡ o)) ⊎ ((nat_eq j o ≡ false) × (j ≢ o)) →
          (g.bypass j).accepted_at ≤ t.in_queue.current
      in_finished_at j t e l n (inl m) = rw m.1 (owes.in_finished t (rw m.1 at e) n)
      in_finished_at j t e l n (inr m) = (proxy_numbers_of law).in_finished j t e (grind (arith, l, m.0)) n

  pub fresh_numbers-further : ((p d : LinkEnd) (len : ℕ) → x.outward.primary ≡ Some p → x.outward.decaying ≡ Some d →
      x.outward.length_to ≡ Some len → len ≤ r.out_queue.current) → FreshNumbers v h
  fresh_numbers-further own q t e = record {
    own = λ p d len prim dec l. own_at q t p d len e prim dec l (same_key_tells q k);
    comes = λ p d len a f i n m ms prim dec l u. let z : Was law c like linked carried at late early q t =
        was_router law c like linked carried at late early q t e in
        (fresh_numbers_of law q z.router z.here_before).comes p d len a f (carried.place a f i) n m ms (sym z.linked_alike.primary ∙ prim)
        (sym z.linked_alike.decaying ∙ dec) (sym (length_same law c like linked carried at late early d.link (opposite d.side)) ∙ l)
        (carried.was a f i p.link p.side n m ms u);
    other = λ t' p d len prim dec l there. let z : Was law c like linked carried at late early q t =
        was_router law c like linked carried at late early q t e in
        let found : HasOutQueue (standing_router (view w g p.link (opposite p.side))) t'.out_queue =
        out_queue_of _ _ (sym (view_same law c like linked carried at late early p.link (opposite p.side)).out_queue ∙
        ap (option_map (λ u. u.out_queue)) there) in
        omega (
          arith,
          (fresh_numbers_of law q z.router z.here_before).other found.router p d len (sym z.linked_alike.primary ∙ prim)
              (sym z.linked_alike.decaying ∙ dec) (sym (length_same law c like linked carried at late early d.link (opposite d.side)) ∙ l)
              found.there,
          cur found.queue,
        );
  }
    where
      own_at : (q : Key) (t : Router) (p d : LinkEnd) (len : ℕ) → router_at v q ≡ Some t → t.outward.primary ≡ Some p →
          t.outward.decaying ≡ Some d → t.outward.length_to ≡ Some len →
          ((same_key q k ≡ true) × (q ≡ k)) ⊎ ((same_key q k ≡ false) × (q ≢ k)) → len ≤ t.out_queue.current
      own_at q t p d len e prim dec l (inl m) = let same : x ≡ t = same_Some x t (sym (rw m.0 at (c.router q)) ∙ e) in
          omega (
            arith,
            own p d len (ap (λ u. u.outward.primary) same ∙ prim) (ap (λ u. u.outward.decaying) same ∙ dec)
                (ap (λ u. u.outward.length_to) same ∙ l),
            cur (ap (λ u. u.out_queue) (sym same) ∙ like.out_queue),
          )
      own_at q t p d len e prim dec l (inr m) = (fresh_numbers_of law q t (sym (rw m.0 at (c.router q)) ∙ e)).own p d len prim dec l
      -- what the lengths owe that a router has for its decaying links
