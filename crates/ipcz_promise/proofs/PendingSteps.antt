-- Each step keeps it that the ends whose closes are pending lie in items that were put for closed ends, and that these never got.
use Rattle.std.specs.Prelude.{◌≡◌, ◌⊎◌, ◌≤◌, ◌<◌, ◌+◌, ℕ, Bool, true, false, cond, nat_eq, nat_lt, Option, Some, None, List, [], ◌∷◌, ◌++◌}
use Rattle.std.specs.Prelude.{length, slice_get, refl}
use Rattle.std.proofs.Common.{arith, ap, subst, ◌∙◌, sym, inl, inr}
use Rattle.std.proofs.lemmas.Bool.{or_left}
use Rattle.std.proofs.lemmas.Bool.Decides.{nat_tests}
use Rattle.std.proofs.lemmas.Option.{same_Some}
use Rattle.ipcz_base.specs.declared.parcel.Parcel as parcels
use Rattle.ipcz_base.specs.declared.item.Item.TheVariants.{Mark, Gone}
use Rattle.ipcz_base.specs.Items.{ends_in}
use Rattle.ipcz_router.specs.ActTable.{is_rest}
use Rattle.ipcz_router.specs.declared.act.RouterAct.TheVariants as acts
use Rattle.ipcz_node.specs.declared.act.Act.TheVariants.{Look, Post, Router as OfRouter, Idle}
use Rattle.ipcz_node.specs.declared.happened.Happened.{Happened}
use Rattle.ipcz_node.specs.declared.happened.Happened.TheVariants as events
use Rattle.ipcz_node.specs.Calls.{close_node, get_at_router, get_node, put_at_router, put_node}
use Rattle.ipcz_node.specs.Events.{event_of, hand_event, router_event}
use Rattle.ipcz_node.specs.Node.{on_found}
use Rattle.ipcz_world.specs.WordAnswers.{source_for}
use Rattle.ipcz_world.specs.Books.{add_gone, after_discard, after_retire, after_turn, has_mark}
use Rattle.ipcz_world.specs.Lawful.{Lawful}
use Rattle.ipcz_world.specs.Routes.{Routes}
use Rattle.ipcz_world.specs.Turns.{hand_seen, is_first_pending, may_act, message_in_hand, router_of, router_seen, turn_event}
use Rattle.ipcz_world.proofs.Vocabulary.{Act, Books, Close, End, Found, Hand, Item, Key, Message, Node, Router, World, after_act, answer_of}
use Rattle.ipcz_world.proofs.Vocabulary.{can_take, current_item, has_end, is_closed, is_possible, is_terminal, node_at, opposite_end, read, same_end, set_node}
use Rattle.ipcz_world.proofs.Vocabulary.{terminal_of}
use Rattle.ipcz_world.proofs.acts.Seeing.{kind, router_kind, seen_event, taken_possible}
use Rattle.ipcz_world.proofs.facts.LinkTests.{same_end-itself, same_end-tells}
use Rattle.ipcz_world.proofs.facts.NodeCount.{count-after_act}
use Rattle.ipcz_world.proofs.facts.Tests.{nat_eq-is}
use Rattle.ipcz_world.proofs.frames.Frames.{count-set_node, node-set_node}
use Rattle.ipcz_world.proofs.lawful.EachOnce.{in_queue-put}
use Rattle.ipcz_promise.specs.Accounting.{IsPending, IsUngotAt, PendingFits}
use Rattle.ipcz_promise.proofs.GoingOn.{GoesOn, GoesBack, back-put, back-same, goes-turn, goes-ungot}
use Rattle.ipcz_promise.proofs.Parcels.{mark-put}
use Rattle.ipcz_promise.proofs.Pending.{CameWith, pending-acted, pending-close_end, pending-dropped, pending-stays}

-- calls leave what is pending
pub pending-put : (n : Node) (at : End) (p : parcels.Parcel) → (put_node n at p).pending ≡ n.pending
unfolding on_found
pending-put n at p = go (terminal_of n at)
  where
    go : (o : Option Found) → (on_found n o (put_at_router n p)).pending ≡ n.pending
    go None = refl
    go (Some f) = refl

pub pending-get : (n : Node) (at : End) → (get_node n at).pending ≡ n.pending
unfolding on_found
pending-get n at = go (terminal_of n at)
  where
    go : (o : Option Found) → (on_found n o (get_at_router n)).pending ≡ n.pending
    go None = refl
    go (Some f) = refl

pub pending-close : (n : Node) (at : End) → (close_node n at).pending ≡ n.pending
pending-close n at = pending-close_end _ at

module _ (w v : World) (b : Books) (law : PendingFits w b) where
  -- no node has another close pending
  pub still-pending : (c : Books) → GoesOn b c → GoesBack b c → v.count ≡ w.count →
      ((m : ℕ) → (node_at v m).pending ≡ (node_at w m).pending) → PendingFits v c
  still-pending c on back counts same = record { ungot = ungot; closes = closes }
    where
      ungot : (m : ℕ) (e : End) → m < v.count → has_end e (node_at v m).pending ≡ true → IsUngotAt c e
      ungot m e l h = goes-ungot b c e on (law.ungot m e (omega (arith, l, counts)) (ap (has_end e) (sym (same m)) ∙ h))

      closes : (e : End) (is : IsUngotAt c e) → is.number < read c is.at → IsPending v e ⊎ (is_closed c e ≡ true)
      closes e is l = let t = back e is l in elim (law.closes e t.0 t.1) [
        | inl (m, k, h) ↦ inl (m, omega (arith, k, counts), ap (has_end e) (same m) ∙ h)
        | inr h ↦ inr (on.closed e h)
      ]

  -- one node has become another that has the same
  pub pending-at : (c : Books) → GoesOn b c → GoesBack b c → (n : ℕ) (x : Node) → v ≡ set_node w n x → x.pending ≡ (node_at w n).pending →
      PendingFits v c
  pending-at c on back n x is same = still-pending c on back (ap (λ (u : World). u.count) is ∙ count-set_node w n x) each
    where
      each : (m : ℕ) → (node_at v m).pending ≡ (node_at w m).pending
      each m = ap (λ (u : World). (node_at u m).pending) is ∙ ap (λ (z : Node). z.pending) (node-set_node w n x m) ∙ go (nat_eq m n) refl
        where
          go : (c : Bool) → nat_eq m n ≡ c → (cond c x (node_at w m)).pending ≡ (node_at w m).pending
          go true q = same ∙ ap (λ i. (node_at w i).pending) (sym (nat_eq-is m n q))
          go false q = refl

-- what a sink drops was put for a closed end
dropped-ungot : (w : World) (b : Books) (g : Routes) (n : ℕ) (act : Act) (e : End) → Lawful w b g → can_take w n act ≡ true →
    CameWith w n act e → IsUngotAt b e
unfolding can_take may_act is_possible is_rest
dropped-ungot w b g n act e law can came = record {
  at = r.end;
  closed = sym (law.inv.conserved.sink k r came.here terminal) ∙ grind (arith, possible);
  number = r.in_queue.current;
  item = came.item;
  put = (in_queue-put w b law.records k r r.in_queue.current came.item law.inv came.here came.next).1;
  ungot = omega (arith, law.inv.conserved.current k r came.here terminal);
  carried = came.carried;
}
  where
    r : Router
    r = came.router

    k : Key
    k = record { node = n; serial = came.serial }

    possible : is_possible r acts.Discard ≡ true
    possible = taken_possible r acts.Discard
        (ap (λ o. may_act o acts.Discard) (sym came.here) ∙ ap (can_take w n) (sym came.drops) ∙ can) refl

    terminal : is_terminal r ≡ true
    terminal = grind (arith, possible)

-- who is seen to drop an item is the router that has it
record Drops (w : World) (n : ℕ) (act : Act) (s : ℕ) : Type 0 where
  router : Router
  here : router_of w n s ≡ Some router
  is : act ≡ OfRouter s acts.Discard

two-zero : ◌≡◌ {A = ℕ} 0 2 → ⊥
two-zero q = omega (arith, q)

four-zero : ◌≡◌ {A = ℕ} 0 4 → ⊥
four-zero q = omega (arith, q)

drops-by : (w : World) (n : ℕ) (act : Act) (s m : ℕ) (event : Happened) → (event ≡ events.Discard s m) ⊎ (event ≡ events.DiscardLeave s m) →
    turn_event w n act ≡ event → Drops w n act s
unfolding turn_event event_of hand_seen hand_event router_seen kind
drops-by w n (OfRouter t act) s m event is h = go (router_of w n t) refl h
  where
    of_kind : (r : Router) → kind event ≡ 0 → (event ≡ events.Discard s m) ⊎ (event ≡ events.DiscardLeave s m) → ⊥
    of_kind r z (inl q) = two-zero (sym z ∙ ap kind q)
    of_kind r z (inr q) = four-zero (sym z ∙ ap kind q)

    same : (i : ℕ) → (events.Discard t i ≡ event) ⊎ (events.DiscardLeave t i ≡ event) →
        (event ≡ events.Discard s m) ⊎ (event ≡ events.DiscardLeave s m) → t ≡ s
    same i (inl p) (inl q) = first (p ∙ q)
      where
        first : events.Discard t i ≡ events.Discard s m → t ≡ s
        first x = cc
    same i (inl p) (inr q) = first (p ∙ q)
      where
        first : events.Discard t i ≡ events.DiscardLeave s m → t ≡ s
        first x = cc
    same i (inr p) (inl q) = first (p ∙ q)
      where
        first : events.DiscardLeave t i ≡ events.Discard s m → t ≡ s
        first x = cc
    same i (inr p) (inr q) = first (p ∙ q)
      where
        first : events.DiscardLeave t i ≡ events.DiscardLeave s m → t ≡ s
        first x = cc

    other : {X : Type 0} (other : Happened) → other ≡ event → (other ≡ events.Discard s m → ⊥) → (other ≡ events.DiscardLeave s m → ⊥) → X
    other x p no_discard no_leave = elim is [
      | inl q ↦ absurd (no_discard (p ∙ q))
      | inr q ↦ absurd (no_leave (p ∙ q))
    ]

    found : (r : Router) → router_of w n t ≡ Some r → act ≡ acts.Discard → t ≡ s → Drops w n (OfRouter t act) s
    found r q a e = record {
      router = r;
      here = ap (router_of w n) (sym e) ∙ q;
      is = ap (OfRouter t) a ∙ ap (λ i. OfRouter i acts.Discard) e;
    }

    go : (o : Option Router) → router_of w n t ≡ o → router_seen w n t act o ≡ event → Drops w n (OfRouter t act) s
    go None q h = other events.Idle h (λ x. cc) (λ x. cc)
    go (Some r) q h = elim (router_kind (node_at w n) t r act (answer_of w r act)) [
      | inl z ↦ absurd (of_kind r (ap kind (sym seen) ∙ z) is)
      | inr (inl (a, y, z)) ↦ found r q a (same r.in_queue.current (inl (sym z ∙ seen)) is)
      | inr (inr (inl (a, z))) ↦ other _ (sym z ∙ seen) (λ x. cc) (λ x. cc)
      | inr (inr (inr (inl (a, y, z)))) ↦ found r q a (same r.in_queue.current (inr (sym z ∙ seen)) is)
      | inr (inr (inr (inr (a, z)))) ↦ other _ (sym z ∙ seen) (λ x. cc) (λ x. cc)
    ]
      where
        seen : router_event (node_at w n) t r act (answer_of w r act) ≡ event
        seen = sym (seen_event w n t act r q) ∙ ap (router_seen w n t act) q ∙ h
drops-by w n (Hand from) s m event is h = absurd (go (message_in_hand w n from) h is)
  where
    go : (o : Option Message) → hand_seen w n from o ≡ event → (event ≡ events.Discard s m) ⊎ (event ≡ events.DiscardLeave s m) → ⊥
    go None h (inl q) = let x : events.Idle ≡ events.Discard s m = h ∙ q in cc
    go None h (inr q) = let x : events.Idle ≡ events.DiscardLeave s m = h ∙ q in cc
    go (Some y) h (inl q) = let x : hand_event (node_at w n) from y (source_for w y) ≡ events.Discard s m = h ∙ q in cc
    go (Some y) h (inr q) = let x : hand_event (node_at w n) from y (source_for w y) ≡ events.DiscardLeave s m = h ∙ q in cc
drops-by w n (Look from) s m event (inl q) h = let x : events.Look from ≡ events.Discard s m = h ∙ q in cc
drops-by w n (Look from) s m event (inr q) h = let x : events.Look from ≡ events.DiscardLeave s m = h ∙ q in cc
drops-by w n (Post to) s m event (inl q) h = let x : events.Post to ≡ events.Discard s m = h ∙ q in cc
drops-by w n (Post to) s m event (inr q) h = let x : events.Post to ≡ events.DiscardLeave s m = h ∙ q in cc
drops-by w n (Close d) s m event (inl q) h = let x : events.Close d ≡ events.Discard s m = h ∙ q in cc
drops-by w n (Close d) s m event (inr q) h = let x : events.Close d ≡ events.DiscardLeave s m = h ∙ q in cc
drops-by w n Idle s m event (inl q) h = let x : events.Idle ≡ events.Discard s m = h ∙ q in cc
drops-by w n Idle s m event (inr q) h = let x : events.Idle ≡ events.DiscardLeave s m = h ∙ q in cc

module _ (w : World) (b : Books) (g : Routes) (n : ℕ) (act : Act) (law : Lawful w b g) (can : can_take w n act ≡ true) where
  -- the end is in what the turn drops
  abbrev Comes : End → Type 0
  Comes e = has_end e (node_at (after_act w n act) n).pending ≡ true

  abbrev Back : Books → Type 0
  Back c = (e : End) (is : IsUngotAt c e) → is.number < read c is.at → ((was : IsUngotAt b e) × (was.number < read b was.at)) ⊎ Comes e

  back-dropped : (s : ℕ) → Drops w n act s → Back (after_discard b (router_of w n s))
  unfolding can_take may_act is_possible is_rest after_discard
  back-dropped s drops = subst Back (ap (after_discard b) (sym drops.here)) back
    where
      r : Router
      r = drops.router

      k : Key
      k = record { node = n; serial = s }

      possible : is_possible r acts.Discard ≡ true
      possible = taken_possible r acts.Discard
          (ap (λ o. may_act o acts.Discard) (sym drops.here) ∙ ap (can_take w n) (sym drops.is) ∙ can) refl

      terminal : is_terminal r ≡ true
      terminal = grind (arith, possible)

      current : r.in_queue.current ≡ read b r.end
      current = law.inv.conserved.current k r drops.here terminal

      comes : (e : End) (item : Item) → slice_get (b.put (opposite_end r.end)) (read b r.end) ≡ Some item → has_end e (ends_in item) ≡ true → Comes e
      comes e item there carried = look (current_item r.in_queue) refl
        where
          look : (o : Option Item) → current_item r.in_queue ≡ o → Comes e
          look None q = absurd (grind (arith, possible, q))
          look (Some x) q =
              let put = (in_queue-put w b law.records k r r.in_queue.current x law.inv drops.here q).1 in
              let same : x ≡ item = same_Some x item (sym put ∙ ap (slice_get (b.put (opposite_end r.end))) current ∙ there) in
              subst (λ a. has_end e (node_at (after_act w n a) n).pending ≡ true) (sym drops.is)
              (pending-dropped w n s r x e drops.here q (ap (λ y. has_end e (ends_in y)) same ∙ carried))

      back : Back (add_gone b r.end)
      back e is l = go (same_end is.at r.end) refl l
        where
          was : IsUngotAt b e
          was = record {
            at = is.at;
            closed = is.closed;
            number = is.number;
            item = is.item;
            put = is.put;
            ungot = is.ungot;
            carried = is.carried;
          }

          go : (c : Bool) → same_end is.at r.end ≡ c → is.number < length (b.got is.at) + cond c (b.gone r.end + 1) (b.gone is.at) →
              ((old : IsUngotAt b e) × (old.number < read b old.at)) ⊎ Comes e
          go false q l = inl (was, l)
          go true q l = next (nat_lt is.number (read b is.at)) refl
            where
              same : is.at ≡ r.end
              same = same_end-tells is.at r.end q

              next : (c : Bool) → nat_lt is.number (read b is.at) ≡ c → ((old : IsUngotAt b e) × (old.number < read b old.at)) ⊎ Comes e
              next true f = inl (was, grind (arith, nat_tests, f))
              next false f =
                  let past : read b is.at ≤ is.number = grind (arith, nat_tests, f) in
                  let last : is.number ≡ read b r.end = omega (arith, past, l, ap b.gone same, ap (read b) same) in
                  inr (comes e is.item (ap (λ z. slice_get (b.put (opposite_end z)) (read b r.end)) (sym same)
                  ∙ ap (slice_get (b.put (opposite_end is.at))) (sym last) ∙ is.put) is.carried)

  back-by : {c : Books} → GoesBack b c → Back c
  back-by back e is l = inl (back e is l)

  back-retire : (o : Option Router) → Back (after_retire b o)
  unfolding after_retire
  back-retire None = back-by (back-same b)
  back-retire (Some r) = back-by (back-put w b g law r.end Gone)

  back-turn : (event : Happened) → turn_event w n act ≡ event → Back (after_turn w b n event)
  unfolding after_turn
  back-turn (events.Close e) h = back-by (back-put w b g law e Mark)
  back-turn (events.Discard s m) h = back-dropped s (drops-by w n act s m (events.Discard s m) (inl refl) h)
  back-turn (events.DiscardLeave s m) h = back-dropped s (drops-by w n act s m (events.DiscardLeave s m) (inr refl) h)
  back-turn (events.Retire s m link) h = back-retire (router_of w n s)
  back-turn other h = back-by (back-same b)

-- who closes an end has closed it
closed-now : (w : World) (b : Books) (n : ℕ) (act : Act) (e : End) → act ≡ Close e → is_closed (after_turn w b n (turn_event w n act)) e ≡ true
unfolding after_turn turn_event event_of
closed-now w b n act e q = ap (λ a. is_closed (after_turn w b n (turn_event w n a)) e) q
    ∙ ap (λ c. has_mark (cond c (b.put e ++ Mark ∷ []) (b.put e))) (same_end-itself e) ∙ mark-put (b.put e)

-- so each turn keeps it
pub turn-pending : (w : World) (b : Books) (g : Routes) (n : ℕ) (act : Act) (v : World) → Lawful w b g → n < w.count →
    can_take w n act ≡ true → v ≡ after_act w n act → PendingFits w b → PendingFits v (after_turn w b n (turn_event w n act))
turn-pending w b g n act v law inside can is pend = record { ungot = ungot; closes = closes }
  where
    on : GoesOn b (after_turn w b n (turn_event w n act))
    on = goes-turn w b n (turn_event w n act)

    counts : v.count ≡ w.count
    counts = ap (λ (u : World). u.count) is ∙ count-after_act w n act

    ungot : (m : ℕ) (e : End) → m < v.count → has_end e (node_at v m).pending ≡ true → IsUngotAt (after_turn w b n (turn_event w n act)) e
    ungot m e l h = elim (pending-acted w n act m e (ap (λ (u : World). has_end e (node_at u m).pending) (sym is) ∙ h)) [
      | inl p ↦ goes-ungot b _ e on (pend.ungot m e (omega (arith, l, counts)) p)
      | inr came ↦ goes-ungot b _ e on (dropped-ungot w b g n act e law can came)
    ]

    pending-now : (m : ℕ) (e : End) → m < w.count → has_end e (node_at (after_act w n act) m).pending ≡ true → IsPending v e
    pending-now m e l h = (m, omega (arith, l, counts), ap (λ (u : World). has_end e (node_at u m).pending) is ∙ h)

    closes : (e : End) (is : IsUngotAt (after_turn w b n (turn_event w n act)) e) → is.number < read (after_turn w b n (turn_event w n act)) is.at →
        IsPending v e ⊎ (is_closed (after_turn w b n (turn_event w n act)) e ≡ true)
    closes e is l = elim (back-turn w b g n act law can (turn_event w n act) refl e is l) [
      | inl (was, k) ↦ elim (pend.closes e was k) [
        | inl (m, k, h) ↦ elim (pending-stays w n act m e can h) [
          | inl p ↦ inl (pending-now m e k p)
          | inr q ↦ inr (closed-now w b n act e q)
        ]
        | inr h ↦ inr (on.closed e h)
      ]
      | inr came ↦ inl (pending-now n e inside came)
    ]

first-pending : (xs : List End) (d e : End) → d ≡ e → is_first_pending xs d ≡ true → has_end e xs ≡ true
unfolding is_first_pending
first-pending [] d e same h = cc
first-pending (x ∷ xs) d e same h = or_left (same_end x e) (has_end e xs) (ap (same_end x) (sym same) ∙ h)

-- who is seen to close an end has had it pending
pub closes-pending : (w : World) (n : ℕ) (act : Act) (e : End) → can_take w n act ≡ true → turn_event w n act ≡ events.Close e →
    has_end e (node_at w n).pending ≡ true
unfolding turn_event event_of can_take hand_seen hand_event router_seen kind
closes-pending w n (Hand from) e can h = absurd (go (message_in_hand w n from) h)
  where
    go : (o : Option Message) → hand_seen w n from o ≡ events.Close e → ⊥
    go None h = cc
    go (Some m) h = cc
closes-pending w n (Look from) e can h = cc
closes-pending w n (Post to) e can h = cc
closes-pending w n (Close d) e can h = first-pending (node_at w n).pending d e (same h) can
  where
    same : events.Close d ≡ events.Close e → d ≡ e
    same q = cc
closes-pending w n (OfRouter s act) e can h = absurd (go (router_of w n s) refl h)
  where
    seen : (r : Router) → router_event (node_at w n) s r act (answer_of w r act) ≡ events.Close e → ⊥
    seen r q = elim (router_kind (node_at w n) s r act (answer_of w r act)) [
      | inl z ↦ zero-one (sym z ∙ ap kind q)
      | inr (inl (x, y, z)) ↦ discards (sym z ∙ q)
      | inr (inr (inl (x, z))) ↦ begins (sym z ∙ q)
      | inr (inr (inr (inl (x, y, z)))) ↦ leaves (sym z ∙ q)
      | inr (inr (inr (inr (x, z)))) ↦ retires (sym z ∙ q)
    ]
      where
        zero-one : ◌≡◌ {A = ℕ} 0 1 → ⊥
        zero-one q = omega (arith, q)

        discards : {i j : ℕ} → events.Discard i j ≡ events.Close e → ⊥
        discards q = cc

        begins : {i : ℕ} {l : _} → events.Begin i l ≡ events.Close e → ⊥
        begins q = cc

        leaves : {i j : ℕ} → events.DiscardLeave i j ≡ events.Close e → ⊥
        leaves q = cc

        retires : {i j : ℕ} {l : _} → events.Retire i j l ≡ events.Close e → ⊥
        retires q = cc

    go : (o : Option Router) → router_of w n s ≡ o → router_seen w n s act o ≡ events.Close e → ⊥
    go None q h = cc
    go (Some r) q h = seen r (sym (seen_event w n s act r q) ∙ ap (router_seen w n s act) q ∙ h)
closes-pending w n Idle e can h = cc
