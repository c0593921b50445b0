-- A sink leaves when it reads Gone: so no terminal stands that has read it.
use Rattle.std.specs.Prelude.{◌≡◌, ◌⊎◌, ◌≤◌, ◌<◌, ℕ, ◌+◌, Bool, true, false, cond, nat_lt, nat_eq, Option, Some, None, is_some, List, [], ◌∷◌, ◌++◌, length, slice_get, refl}
use Rattle.std.proofs.Common.{arith, ap, subst, ◌∙◌, sym, inl, inr}
use Rattle.std.proofs.lemmas.Bool.{and_parts}
use Rattle.std.proofs.lemmas.Bool.Decides.{nat_tests}
use Rattle.std.proofs.lemmas.Option.{none-some, same_Some}
use Rattle.std.specs.Cmp.{nat_cmp_total}
use Rattle.std.specs.FinMap.{get-remove}
use Rattle.ipcz_world.proofs.Vocabulary.{End, Item, opposite_end, same_end, current_item, Router, is_terminal, is_possible, output_of, RouterAct, Act}
use Rattle.ipcz_world.proofs.Vocabulary.{Close, Hand, Reply, Node, router_in, World, Key, node_at, mail_at, way, router_at, can_take, hand_message}
use Rattle.ipcz_world.proofs.Vocabulary.{answer_of, after_act, commit, Books, read, Records, Inv, At, set_node, Parcel, Mark, Gone, is_gone_item}
use Rattle.ipcz_world.proofs.Vocabulary.{is_sink, drop_item, has_gone_next, item_passes, may_take, is_rest, apply, leaves_by, discard_output, Look}
use Rattle.ipcz_world.proofs.Vocabulary.{Post, Idle, Happened, event_of, on_router, send, commit_router, keep_or_drop, Step, add_put, is_retired}
use Rattle.ipcz_world.proofs.Vocabulary.{after_turn, advance, StepAny, claim_for_open, turn_event, may_act, router_of, after_router_act, touch}
use Rattle.ipcz_base.specs.declared.parcel.Parcel as parcels
use Rattle.ipcz_router.specs.declared.act.RouterAct.TheVariants as acts
use Rattle.ipcz_node.specs.declared.act.Act.TheVariants.{Router as OfRouter}
use Rattle.ipcz_node.specs.declared.happened.Happened.TheVariants as events
use Rattle.ipcz_world.specs.declared.step.Step.TheVariants as steps
use Rattle.ipcz_world.specs.declared.step.Reply.TheVariants as replies
use Rattle.ipcz_world.specs.Books.{add_got, add_gone, has_gone, is_closed, after_discard, after_retire, next_item}
use Rattle.ipcz_world.specs.Owed.{GoneUnread}
use Rattle.ipcz_world.specs.Plain.{Plain}
use Rattle.ipcz_world.specs.Steps.{AnyAct}
use Rattle.ipcz_world.proofs.acts.CallReplies.{reply-get}
use Rattle.ipcz_world.proofs.facts.LinkTests.{same_end-tells, opposite_end-twice}
use Rattle.ipcz_world.proofs.facts.Tests.{nat_eq-is, nat_eq-itself, not_both}
use Rattle.ipcz_world.proofs.frames.Frames.{node-set_node, node-set_claimed}
use Rattle.ipcz_world.proofs.lawful.EachOnce.{in_queue-put}
use Rattle.ipcz_world.proofs.facts.Drained.{gone_stands}
use Rattle.ipcz_world.proofs.lawful.Tracking.{Came}
use Rattle.ipcz_world.proofs.acts.Seeing.{kind, router_kind, seen_event, taken_possible, hand_kind}
use Rattle.ipcz_world.proofs.runs.Running.{turn_reply}
use Rattle.ipcz_world.proofs.frames.Booking.{length-more}

-- what a step writes of what a terminal reads: nothing; or its peer has put an item more; or it has read one more, which isn't Gone, or the
-- terminal has left
abbrev pub BookCase : World → Books → Books → Key → End → Type 0
BookCase v b c k d =
    ((c.put (opposite_end d) ≡ b.put (opposite_end d)) × (read c d ≡ read b d)) ⊎
    (((length (c.put (opposite_end d)) ≡ length (b.put (opposite_end d)) + 1) × (read c d ≡ read b d)) ⊎
    ((c.put (opposite_end d) ≡ b.put (opposite_end d)) × (read c d ≡ read b d + 1) ×
    ((slice_get (b.put (opposite_end d)) (read b d) ≡ Some Gone → ⊥) ⊎ (router_at v k ≡ None))))

-- so no terminal stands after it that has read Gone, if none did before
pub unread-kept : (w v : World) (b c : Books) (g h : Records) → Inv w b g → Inv v c h → Came w v → GoneUnread w b →
    ((k : Key) (x : Router) → router_at w k ≡ Some x → is_terminal x ≡ true → BookCase v b c k x.end) → GoneUnread v c
unread-kept w v b c g h law now came old books k y here t retired = elim (came k y here t) [
  | inr open_ ↦ absurd (not_both y.closed (now.conserved.sink k y here t ∙ ap (is_closed c) (sym (opposite_end-twice y.end))
      ∙ now.retired_ends.peer_closed (opposite_end y.end) retired) open_)
  | inl p ↦ omega (arith, now.conserved.current k y here t, ap (read c) p.2, low p.0 p.1 p.3 p.2 (books k p.0 p.1 p.3), ap (λ d. length (c.put (opposite_end d))) p.2)
]
  where
    low : (x : Router) → router_at w k ≡ Some x → is_terminal x ≡ true → y.end ≡ x.end → BookCase v b c k x.end →
        read c x.end < length (c.put (opposite_end x.end))
    low x at xt end (inl (put, same)) =
        let before : is_retired b (opposite_end x.end) ≡ true = sym (ap has_gone put) ∙ ap (λ d. is_retired c (opposite_end d)) (sym end) ∙ retired in
        omega (arith, old k x at xt before, law.conserved.current k x at xt, same, ap length put)
    low x at xt end (inr (inl (more, same))) =
        omega (arith, law.conserved.read_put (opposite_end x.end), ap (read b) (opposite_end-twice x.end), more, same)
    low x at xt end (inr (inr (put, one, why))) = go (nat_lt (read b x.end + 1) (length (b.put (opposite_end x.end)))) refl
      where
        before : is_retired b (opposite_end x.end) ≡ true
        before = sym (ap has_gone put) ∙ ap (λ d. is_retired c (opposite_end d)) (sym end) ∙ retired

        last : nat_lt (read b x.end + 1) (length (b.put (opposite_end x.end))) ≡ false → slice_get (b.put (opposite_end x.end)) (read b x.end) ≡ Some Gone
        last e =
            let z = gone_stands (b.put (opposite_end x.end)) before in
            let l : length (b.put (opposite_end x.end)) ≤ read b x.end + 1 = grind (arith, e, nat_tests) in
            let same : z.0 ≡ read b x.end = omega (
              arith,
              l,
              law.books_kept.gone_last (opposite_end x.end) z.0 z.1,
              old k x at xt before,
              law.conserved.current k x at xt,
            ) in
            ap (slice_get (b.put (opposite_end x.end))) (sym same) ∙ z.1

        go : (q : Bool) → nat_lt (read b x.end + 1) (length (b.put (opposite_end x.end))) ≡ q → read c x.end < length (c.put (opposite_end x.end))
        go true e = let l : read b x.end + 1 < length (b.put (opposite_end x.end)) = grind (arith, e, nat_tests) in omega (arith, l, one, ap length put)
        go false e = absurd (elim why [
          | inl never ↦ never (last e)
          | inr none ↦ none-some y (sym none ∙ here)
        ])

module _ (w v : World) (b : Books) (k : Key) (d : End) where
  case-same : BookCase v b b k d
  case-same = inl (refl, refl)

  case-put : (e : End) (x : Item) → BookCase v b (add_put b e x) k d
  case-put e x = go (same_end (opposite_end d) e) refl
    where
      go : (t : Bool) → same_end (opposite_end d) e ≡ t → BookCase v b (add_put b e x) k d
      go false q = inl (ap (λ z. cond z (b.put e ++ x ∷ []) (b.put (opposite_end d))) q, refl)
      go true q = inr (inl (
        ap (λ z. length (cond z (b.put e ++ x ∷ []) (b.put (opposite_end d)))) q ∙ length-more (b.put e) x ∙
            ap (λ z. length (b.put z) + 1) (sym (same_end-tells (opposite_end d) e q)),
        refl,
      ))

  case-got : (e : End) (p : parcels.Parcel) → next_item b e ≡ Some (Parcel p) → BookCase v b (add_got b e p) k d
  case-got e p next = go (same_end d e) refl
    where
      go : (t : Bool) → same_end d e ≡ t → BookCase v b (add_got b e p) k d
      go false q = inl (refl, ap (λ z. length (cond z (b.got e ++ p ∷ []) (b.got d)) + b.gone d) q)
      go true q =
          let is : d ≡ e = same_end-tells d e q in
          let more : length (b.got e ++ p ∷ []) ≡ length (b.got e) + 1 = length-more' (b.got e) p in
          inr (inr (
            refl,
            ap (λ z. length (cond z (b.got e ++ p ∷ []) (b.got d)) + b.gone d) q ∙ omega (arith, more, ap (λ z. length (b.got z)) is),
            inl (λ g. apart (same_Some (Parcel p) Gone (sym next ∙ ap (λ z. slice_get (b.put (opposite_end z)) (read b z)) (sym is) ∙ g))),
          ))
        where
          apart : Parcel p ≡ Gone → ⊥
          apart h = cc

          length-more' : (ps : List parcels.Parcel) (p : parcels.Parcel) → length (ps ++ p ∷ []) ≡ length ps + 1
          length-more' [] p = refl
          length-more' (q ∷ ps) p = omega (arith, length-more' ps p)

  case-gone : (e : End) → (d ≡ e → (slice_get (b.put (opposite_end d)) (read b d) ≡ Some Gone → ⊥) ⊎ (router_at v k ≡ None)) →
      BookCase v b (add_gone b e) k d
  case-gone e why = go (same_end d e) refl
    where
      go : (t : Bool) → same_end d e ≡ t → BookCase v b (add_gone b e) k d
      go false q = inl (refl, ap (λ z. length (b.got d) + cond z (b.gone e + 1) (b.gone d)) q)
      go true q =
          let is : d ≡ e = same_end-tells d e q in
          inr (inr (
            refl,
            ap (λ z. length (b.got d) + cond z (b.gone e + 1) (b.gone d)) q ∙ omega (arith, ap b.gone is),
            why is,
          ))

-- an event of another kind leaves the books
other-same : (w : World) (b : Books) (n : ℕ) (event : Happened) → kind event ≡ 0 → after_turn w b n event ≡ b
unfolding kind after_turn
other-same w b n (events.Close e) h = cc
other-same w b n (events.Discard s m) h = cc
other-same w b n (events.DiscardLeave s m) h = cc
other-same w b n (events.Retire s m link) h = cc
other-same w b n (events.Begin s link) h = cc
other-same w b n any h = refl

acted-by : (w : World) (n s : ℕ) (act : RouterAct) (r : Router) → router_at w (record { node = n; serial = s }) ≡ Some r →
    after_act w n (OfRouter s act) ≡ set_node (touch w r act) n (commit (node_at w n) (OfRouter s act) (answer_of w r act))
unfolding after_act after_router_act
acted-by w n s act r here = rw here refl

-- who discards Gone leaves
discarder-left : (w : World) (n s : ℕ) (r : Router) → router_at w (record { node = n; serial = s }) ≡ Some r → has_gone_next r ≡ true →
    router_at (after_act w n (OfRouter s acts.Discard)) (record { node = n; serial = s }) ≡ None
unfolding router_at touch commit on_router commit_router keep_or_drop leaves_by apply output_of discard_output send
discarder-left w n s r here gone = ap (λ u. router_in (node_at u n) s) acted ∙ ap (λ y. router_in y s) (node-set_node w n x n
    ∙ ap (λ c. cond c x (node_at w n)) (nat_eq-itself n) ∙ done) ∙ none (has_gone_next r) (current_item r.in_queue) gone
  where
    x : Node
    x = commit (node_at w n) (OfRouter s acts.Discard) (answer_of w r acts.Discard)

    acted : after_act w n (OfRouter s acts.Discard) ≡ set_node w n x
    acted = acted-by w n s acts.Discard r here

    discarded : Bool → Option Item → Node
    discarded t o = send (keep_or_drop (node_at w n) s (drop_item r) t) (discard_output r.in_queue.current o)

    done : x ≡ discarded (has_gone_next r) (current_item r.in_queue)
    done = ap (λ o. on_router (node_at w n) o (commit_router (node_at w n) s acts.Discard (answer_of w r acts.Discard))) here

    none : (t : Bool) (o : Option Item) → t ≡ true → router_in (discarded t o) s ≡ None
    none false o e = cc
    none true None e = grind (arith, get-remove nat_cmp_total (node_at w n).routers s s, nat_tests)
    none true (Some x) e = grind (arith, get-remove nat_cmp_total (node_at w n).routers s s, nat_tests)

module _ (w v : World) (b : Books) (g : Records) (law : Inv w b g) (k : Key) (x : Router) (here : router_at w k ≡ Some x) (t : is_terminal x ≡ true) where
  abbrev Case : Books → Type 0
  Case c = BookCase v b c k x.end

  -- a discard of this terminal
  discard-why : (n s : ℕ) (r : Router) (c : Bool) → router_at w (record { node = n; serial = s }) ≡ Some r → is_possible r acts.Discard ≡ true →
      has_gone_next r ≡ c → v ≡ after_act w n (OfRouter s acts.Discard) → x.end ≡ r.end →
      (slice_get (b.put (opposite_end x.end)) (read b x.end) ≡ Some Gone → ⊥) ⊎ (router_at v k ≡ None)
  unfolding is_possible item_passes
  discard-why n s r c at can next is end = go c next
    where
      at_key : Key
      at_key = record { node = n; serial = s }

      sink : (is_sink r ≡ true) × (is_some (current_item r.in_queue) ≡ true)
      sink = and_parts (is_sink r) (is_some (current_item r.in_queue)) can

      terminal : is_terminal r ≡ true
      terminal = (and_parts (is_terminal r) r.closed sink.0).0

      keys : k ≡ at_key
      keys = same_at (sym ((law.terminals.each k x here).terminal t) ∙ ap g.terminal end ∙
          (law.terminals.each at_key r at).terminal terminal)
        where
          same_at : {i j : Key} → At i ≡ At j → i ≡ j
          same_at h = cc

      go : (c : Bool) → has_gone_next r ≡ c → (slice_get (b.put (opposite_end x.end)) (read b x.end) ≡ Some Gone → ⊥) ⊎ (router_at v k ≡ None)
      go true h = inr (ap (router_at v) keys ∙ ap (λ u. router_at u at_key) is ∙ discarder-left w n s r at h)
      go false h = inl (λ gone. by (current_item r.in_queue) refl sink.1 gone)
        where
          by : (o : Option Item) → current_item r.in_queue ≡ o → is_some o ≡ true → slice_get (b.put (opposite_end x.end)) (read b x.end) ≡ Some Gone → ⊥
          by None e some gone = cc
          by (Some z) e some gone =
              let put = in_queue-put w b g at_key r r.in_queue.current z law at e in
              let number : r.in_queue.current ≡ read b x.end = law.conserved.current at_key r at terminal ∙ ap (read b) (sym end) in
              let is_gone : z ≡ Gone = same_Some z Gone (sym put.1 ∙ ap (λ d. slice_get (b.put (opposite_end d)) r.in_queue.current) (sym end) ∙
              ap (slice_get (b.put (opposite_end x.end))) number ∙ gone) in
              not_both (has_gone_next r) (ap (item_passes is_gone_item) e ∙ ap is_gone_item is_gone) h

  of_router : (n s : ℕ) (a : RouterAct) (r : Router) → router_at w (record { node = n; serial = s }) ≡ Some r → may_take r a ≡ true →
      v ≡ after_act w n (OfRouter s a) → Case (after_turn w b n (turn_event w n (OfRouter s a)))
  unfolding is_rest after_turn after_discard after_retire
  of_router n s a r at may is = elim (router_kind (node_at w n) s r a (answer_of w r a)) [
    | inl e ↦ subst Case (sym (other-same w b n (turn_event w n (OfRouter s a)) (ap kind (seen_event w n s a r at) ∙ e))) (case-same w v b k x.end)
    | inr (inl e) ↦ subst (λ z. Case (after_turn w b n z)) (sym (seen_event w n s a r at ∙ e.2)) (discarded e.0 false e.1)
    | inr (inr (inl e)) ↦ subst (λ z. Case (after_turn w b n z)) (sym (seen_event w n s a r at ∙ e.1)) (case-same w v b k x.end)
    | inr (inr (inr (inl e))) ↦ subst (λ z. Case (after_turn w b n z)) (sym (seen_event w n s a r at ∙ e.2)) (discarded e.0 true e.1)
    | inr (inr (inr (inr e))) ↦ subst (λ z. Case (after_turn w b n z)) (sym (seen_event w n s a r at ∙ e.1))
        (subst (λ o. Case (after_retire b o)) (sym at) (case-put w v b k x.end r.end Gone))
  ]
    where
      discarded : a ≡ acts.Discard → (c : Bool) → has_gone_next r ≡ c → Case (after_discard b (router_of w n s))
      discarded q c next = subst (λ o. Case (after_discard b o)) (sym at) (case-gone w v b k x.end r.end
          (discard-why n s r c at (subst (λ z. is_possible r z ≡ true) q (taken_possible r a may (ap is_rest q))) next
          (is ∙ ap (λ z. after_act w n (OfRouter s z)) q)))

  turned : (n : ℕ) (act : Act) → can_take w n act ≡ true → v ≡ after_act w n act → Case (after_turn w b n (turn_event w n act))
  unfolding can_take may_act turn_event event_of after_turn
  turned n (Hand from) can is = subst Case (sym (other-same w b n _ (hand_kind w n from (hand_message (mail_at w (way w from n)))))) (case-same w v b k x.end)
  turned n (Look from) can is = case-same w v b k x.end
  turned n (Post to) can is = case-same w v b k x.end
  turned n (Close e) can is = case-put w v b k x.end e Mark
  turned n Idle can is = case-same w v b k x.end
  turned n (OfRouter s a) can is = go (router_at w (record { node = n; serial = s })) refl can
    where
      go : (o : Option Router) → router_at w (record { node = n; serial = s }) ≡ o → may_act o a ≡ true →
          Case (after_turn w b n (turn_event w n (OfRouter s a)))
      go None e h = cc
      go (Some r) e h = of_router n s a r e h is

  -- a step
  stepped : (step : Step) (reply : Reply) → StepAny w step reply v → Case (advance w b step reply)
  unfolding advance
  stepped (steps.Open n) reply s = case-same w v b k x.end
  stepped (steps.Put n at bytes ends) reply s = by reply
    where
      by : (reply : Reply) → Case (advance w b (steps.Put n at bytes ends) reply)
      by (replies.Put m) = case-put w v b k x.end at _
      by (replies.Opened d e) = case-same w v b k x.end
      by (replies.Got m p) = case-same w v b k x.end
      by (replies.Closed m) = case-same w v b k x.end
      by (replies.Turned event) = case-same w v b k x.end
      by (replies.Refused why) = case-same w v b k x.end
  stepped (steps.PutWide n at bytes ends) reply s = by reply
    where
      by : (reply : Reply) → Case (advance w b (steps.PutWide n at bytes ends) reply)
      by (replies.Put m) = case-put w v b k x.end at _
      by (replies.Opened d e) = case-same w v b k x.end
      by (replies.Got m p) = case-same w v b k x.end
      by (replies.Closed m) = case-same w v b k x.end
      by (replies.Turned event) = case-same w v b k x.end
      by (replies.Refused why) = case-same w v b k x.end
  stepped (steps.Get n at) reply s = by reply (reply-get AnyAct w b g n at reply v law s)
    where
      by : (reply : Reply) → Plain b (steps.Get n at) reply (advance w b (steps.Get n at) reply) → Case (advance w b (steps.Get n at) reply)
      by (replies.Got m p) h = case-got w v b k x.end at p h.1
      by (replies.Put m) h = case-same w v b k x.end
      by (replies.Opened d e) h = case-same w v b k x.end
      by (replies.Closed m) h = case-same w v b k x.end
      by (replies.Turned event) h = case-same w v b k x.end
      by (replies.Refused why) h = case-same w v b k x.end
  stepped (steps.Close n at) reply s = by reply
    where
      by : (reply : Reply) → Case (advance w b (steps.Close n at) reply)
      by (replies.Closed m) = case-put w v b k x.end at Mark
      by (replies.Put m) = case-same w v b k x.end
      by (replies.Opened d e) = case-same w v b k x.end
      by (replies.Got m p) = case-same w v b k x.end
      by (replies.Turned event) = case-same w v b k x.end
      by (replies.Refused why) = case-same w v b k x.end
  stepped (steps.Turn n) reply (act, may, inl (e, f)) = elim (turn_reply w n act) [
    | inl q ↦ subst (λ z. Case (advance w b (steps.Turn n) z)) (sym (e ∙ q.0))
        (turned n act (may (grind (arith, q.3, nat_tests))) (f ∙ q.1))
    | inr q ↦ subst (λ z. Case (advance w b (steps.Turn n) z)) (sym (e ∙ q.1)) (case-same w v b k x.end)
  ]
  stepped (steps.Turn n) reply (act, may, inr (grows, own, fine, (e, f))) =
      subst (λ z. Case (advance w b (steps.Turn n) z)) (sym e) (case-same w v b k x.end)

-- each step keeps it
pub unread-step : (w v : World) (b : Books) (g h : Records) (step : Step) (reply : Reply) → Inv w b g → Inv v (advance w b step reply) h →
    Came w v → GoneUnread w b → StepAny w step reply v → GoneUnread v (advance w b step reply)
unread-step w v b g h step reply law now came old s =
    unread-kept w v b (advance w b step reply) g h law now came old (λ k x here t. stepped w v b g law k x here t step reply s)

-- the first half of an open leaves the routers
pub claim_for_open_router : (w : World) (n : ℕ) (k : Key) (r : Router) → router_at (claim_for_open w n) k ≡ Some r → router_at w k ≡ Some r
unfolding router_at
claim_for_open_router w n k r here = go (nat_eq k.node n) refl
  where
    x : Node
    x = record (node_at w n) { opening = Some w.claimed }

    is : node_at (claim_for_open w n) k.node ≡ cond (nat_eq k.node n) x (node_at w k.node)
    is = node-set_claimed (set_node w n x) (w.claimed + 1) k.node ∙ node-set_node w n x k.node

    go : (c : Bool) → nat_eq k.node n ≡ c → router_in (node_at w k.node) k.serial ≡ Some r
    go false e = sym (ap (λ y. router_in y k.serial) (is ∙ ap (λ c. cond c x (node_at w k.node)) e)) ∙ here
    go true e = ap (λ j. router_in (node_at w j) k.serial) (nat_eq-is k.node n e)
        ∙ sym (ap (λ y. router_in y k.serial) (is ∙ ap (λ c. cond c x (node_at w k.node)) e)) ∙ here
