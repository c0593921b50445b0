-- The router across takes the fresh link: the world and the records after it, and what stands at the sides of links then.
use Rattle.ipcz_world.proofs.Vocabulary.{Weight, in_router, Side, A, B, LinkId, Central, Peripheral, LinkEnd, Item, Message, opposite, same_side}
use Rattle.ipcz_world.proofs.Vocabulary.{has_link, same_link, Router, World, Key, router_at, Books, Records, is_begun, inner_link, side_node}
use Rattle.ipcz_world.proofs.Vocabulary.{side_router, proxy_side, known_from, side_length, Standing, is_attached, view, sending_queue, IsUnderWay}
use Rattle.ipcz_world.proofs.Vocabulary.{makes, inner_of, has_passed, Descriptor, may_have_sent, Awaited, accept_bypass}
use Rattle.ipcz_world.specs.Places.{in_message as in_message'}
use Rattle.std.specs.Prelude.{◌≡◌, ◌≢◌, ◌⊎◌, ◌<◌, ℕ, Bool, true, false, cond, ◌&&◌, ◌||◌, nat_eq, is_some, Option, Some, None, List, refl}
use Rattle.std.proofs.Common.{arith, ap, ◌∙◌, sym, inl, inr}
use Rattle.std.proofs.lemmas.Bool.Decides.{nat_tests}
use Rattle.std.proofs.lemmas.Option.{same_Some}
use Rattle.ipcz_base.specs.declared.message.Message.TheVariants as messages
use Rattle.ipcz_world.proofs.frames.Frames.{same_key-itself}
use Rattle.ipcz_world.proofs.frames.RecordRules.{side_node-central, side_router-central}
use Rattle.ipcz_world.proofs.frames.OfRecords.{in_places}
use Rattle.ipcz_world.proofs.facts.RecordsAfter.{accepted_records}
use Rattle.ipcz_world.proofs.frames.Unmoved.{IsLike, Changed, Carried, Agree, places-agree, proxy_side-agree}
use Rattle.ipcz_world.proofs.frames.Placing.{places-handed_on}
use Rattle.ipcz_world.proofs.frames.Handing.{handed_on, place_before, was_under_way, changed-handed_on}
use Rattle.ipcz_world.proofs.frames.Viewing.{IsSameView, view-kept}
use Rattle.ipcz_world.proofs.facts.Lengths.{opposite-twice, side_is, same_side-itself, same_side-opposite, same_side-tells, same_link-tells}
use Rattle.ipcz_world.proofs.facts.Lengths.{has_link-some, is_attached-central, view-standing, length-old, length-proxy, length-inner}
use Rattle.ipcz_world.proofs.facts.Lengths.{length-live, length-none, known_from-yes, has_passed-none}
use Rattle.ipcz_world.proofs.frames.Sealing.{Sealed, Closed, stands_of, counts_of, links_of, bypasses_of, items_of}
use Rattle.ipcz_world.proofs.acts.AcceptBypassAround.{side_router-node, same_sides, CanAccept, here, in_hand, on, on_node, from_node, is}
use Rattle.ipcz_world.proofs.acts.AcceptBypassAround.{begun, two, proxy_is, on_old, at_side, still, y_stood, y_here, y_known, z_stood}
use Rattle.ipcz_world.proofs.acts.AcceptBypassAround.{by_o, fresh_awaited, fresh_live, view_x, view_y, view_y_inner, view_fresh, none_old}
use Rattle.ipcz_world.proofs.acts.AcceptBypassAround.{none_inner, y_out, y_in}
use Rattle.ipcz_world.proofs.frames.Awaited.{no_router}
use Rattle.ipcz_world.proofs.facts.Tests.{nat_eq-itself}
use Rattle.ipcz_world.proofs.facts.Updates.{tells_stop}

module _ {w : World} {b : Books} {g : Records} {from : ℕ} {k : Key} {r : Router} {e : LinkEnd} {o : ℕ} {side : Side} {fresh length : ℕ}
    (law : Sealed w b g) (can : Closed (CanAccept w from k r e o side fresh length)) where
  abbrev y : Router
  y = (y_stood law can).router

  abbrev z : Router
  z = (z_stood law can).router

  -- what the hand makes of the router, the world and the records
  abbrev x : Router
  x = accept_bypass r from side fresh length

  abbrev sent : Message
  sent = tells_stop r o side length

  abbrev v : World
  v = handed_on w from k x e.other sent

  abbrev h : Records
  h = accepted_records g k r o side fresh

  pub at_o : (j : ℕ) → ((nat_eq j o ≡ true) × (j ≡ o)) ⊎ ((nat_eq j o ≡ false) × (j ≢ o))
  at_o j = grind (arith, nat_tests)

  pub like : IsLike r x
  like = record { end = refl; out_queue = refl; in_queue = refl; terminal = refl; closed = refl; mark_seen = refl; mark_dropped = refl; gone_sent = refl; spare = refl }

  pub changed : Changed w v k r x
  changed = changed-handed_on w from k r x e.other sent (here law can)

  pub agree : Agree g h
  agree = record {
    owner = λ i. refl;
    pair = λ i. grind (arith, nat_tests);
    node = λ i s. grind (arith, nat_tests);
    born = λ i. grind (arith, nat_tests);
    left = λ i. grind (arith, nat_tests);
    peripheral = λ p. refl;
    terminal = λ t. refl;
    begun = λ q. refl;
    proxy = λ j. grind (arith, nat_tests);
    inner = λ j. grind (arith, nat_tests);
    fresh = λ j. grind (arith, nat_tests);
    is_begun = λ j. grind (arith, at_o j, begun law can);
  }

  pub was : (a c i : ℕ) (link : LinkId) (s : Side) (n : ℕ) (item : Item) (moves : List Descriptor) →
      IsUnderWay v a c i (messages.Item link s n item moves) →
      IsUnderWay w a c (place_before from k.node a c i) (messages.Item link s n item moves)
  was a c i link s n item moves u = go (was_under_way w from k x e.other sent (messages.AcceptBypass o side fresh length) a c i
      (messages.Item link s n item moves) (on_node law can) (in_hand law can) u)
    where
      go : IsUnderWay w a c (place_before from k.node a c i) (messages.Item link s n item moves) ⊎
          (messages.Item link s n item moves ≡ sent) → IsUnderWay w a c (place_before from k.node a c i) (messages.Item link s n item moves)
      go (inl t) = t
      go (inr t) = absurd (grind (arith, t))

  pub carried : Carried w v
  carried = record { place = place_before from k.node; was = was }

  pub e_other : e.other ≡ (g.bypass o).proxy.node
  e_other = (((links_of law) k r (here law can)).primary e (on law can)).other ∙ ap (λ l. side_node g l (opposite e.side)) (on_old law can) ∙
      ap
      (λ t. side_node g (Central o) (opposite t)) (at_side law can) ∙
      sym (side_router-node g (Central o) (opposite side) (g.bypass o).proxy (y_known law can))

  pub to_node : e.other < w.count
  to_node = rw e_other ((counts_of law).on_node (g.bypass o).proxy y (y_here law can))

  pub places : (f : Weight) → in_places f h v ≡ in_places f g w
  unfolding in_message' in_router
  places f = places-agree g h agree f v ∙ omega (
    arith,
    places-handed_on f g w from k r x e.other sent
        (messages.AcceptBypass o side fresh length) (from_node law can) (on_node law can) to_node (here law can) (in_hand law can),
  )

  -- the new side of the fresh link
  unfoldable pub is_new : LinkId → Side → Bool
  is_new link s = same_link link (Central fresh) && same_side s side

  pub is_new-tells : (link : LinkId) (s : Side) → ((is_new link s ≡ true) × ((link ≡ Central fresh) × (s ≡ side))) ⊎ (is_new link s ≡ false)
  unfolding is_new
  is_new-tells link s = go (same_link link (Central fresh)) refl (same_side s side) refl
    where
      go : (t : Bool) → same_link link (Central fresh) ≡ t → (t' : Bool) → same_side s side ≡ t' →
          (((t && t') ≡ true) × ((link ≡ Central fresh) × (s ≡ side))) ⊎ ((t && t') ≡ false)
      go true p true p' = inl (refl, (same_link-tells link (Central fresh) p, same_side-tells s side p'))
      go true p false p' = inr refl
      go false p t' p' = inr refl

  fresh_node : (g.central fresh).node side ≡ k.node
  fresh_node = sym (side_node-central g fresh side) ∙ ap (side_node g (Central fresh)) (is law can).at_side ∙ rw (← (is law can).on_word) at
      ((bypasses_of law o).fresh_across_node (two law can)) ∙ sym (is law can).receiver

  pub router_of : (link : LinkId) (s : Side) → side_router h link s ≡ cond (is_new link s) (Some k) (side_router g link s)
  unfolding is_new side_router
  router_of (Central i) s = go (nat_eq i fresh) refl (same_side s side) refl
    where
      go : (t : Bool) → nat_eq i fresh ≡ t → (t' : Bool) → same_side s side ≡ t' →
          side_router h (Central i) s ≡ cond (nat_eq i fresh && same_side s side) (Some k) (side_router g (Central i) s)
      go true p true p' = rw (p, p') (ap (λ n. Some (record { node = n; serial = k.serial })) (rw (same_side-tells s side p') fresh_node))
      go true p false p' = rw (p, p') (let e' : i ≡ fresh = grind (arith, p, nat_tests) in rw e' refl)
      go false p t' p' = rw p refl
  router_of (Peripheral n p) A = refl
  router_of (Peripheral n p) B = refl

  attached : (link : LinkId) (s : Side) → is_new link s ≡ false → is_attached link s x ≡ is_attached link s r
  unfolding is_new is_attached has_link
  attached (Central i) s new = grind (arith, on law can, still law can, new, same_sides side s, nat_tests)
  attached (Peripheral n p) A new = refl
  attached (Peripheral n p) B new = grind (arith, on law can, still law can, new)

  pub same_view_at : (link : LinkId) (s : Side) → is_new link s ≡ false → IsSameView link s (view v h link s) (view w g link s)
  same_view_at link s new = view-kept w v g h k r x changed agree like link s
      (router_of link s ∙ ap (λ t. cond t (Some k) (side_router g link s)) new) (λ t. attached link s new)

  -- lengths that are known from now on
  pub data Grown (link : LinkId) (s : Side) : Type 0 where
    Same : side_length h link s ≡ side_length g link s → Grown link s
    FromProxy : link ≡ Central o → s ≡ opposite side → side_length g link s ≡ None → side_length h link s ≡ Some (g.bypass o).taken_at →
        Grown link s
    FromAcross : link ≡ Central o → s ≡ side → side_length g link s ≡ None → side_length h link s ≡ Some r.out_queue.current → Grown link s
    Inward : link ≡ inner_of g o → s ≡ A → side_length g link s ≡ None → side_length h link s ≡ Some r.out_queue.current → Grown link s

  pub stage_after : (h.bypass o).stage ≡ 3
  stage_after = rw (nat_eq-itself o) refl

  pub accepted_after : (h.bypass o).accepted_at ≡ r.out_queue.current
  accepted_after = rw (nat_eq-itself o) refl

  pub taken_after : (j : ℕ) → (h.bypass j).taken_at ≡ (g.bypass j).taken_at
  taken_after j = grind (arith, nat_tests)

  begun_after : is_begun (h.bypass o) ≡ true
  begun_after = agree.is_begun o ∙ begun law can

  pub proxy_is_after : proxy_side h o ≡ opposite side
  proxy_is_after = proxy_side-agree g h agree o ∙ proxy_is law can

  abbrev by_of : Key → Option ℕ
  by_of p = (g.peripheral p).by

  pub same_bypass : (j : ℕ) → nat_eq j o ≡ false → h.bypass j ≡ g.bypass j
  same_bypass j e = rw e refl

  grown-central : (i : ℕ) (s : Side) → Grown (Central i) s
  grown-central i s = go (at_o i)
    where
      at : (s : Side) → ((same_side s side ≡ true) × (s ≡ side)) ⊎ ((same_side s side ≡ false) × (s ≡ opposite side)) → Grown (Central o) s
      at s (inl t) = FromAcross refl t.1 (none_old law can s) (grind (
        arith,
        length-old h o s begun_after,
        proxy_is_after,
        t,
        same_side-opposite side,
        stage_after,
        accepted_after,
        known_from-yes 3 3 r.out_queue.current,
      ))
      at s (inr t) = FromProxy refl t.1 (none_old law can s) (grind (
        arith,
        length-old h o s begun_after,
        proxy_is_after,
        t,
        same_side-itself (opposite side),
        stage_after,
        taken_after o,
        known_from-yes 3 3 (g.bypass o).taken_at,
      ))

      go : ((nat_eq i o ≡ true) × (i ≡ o)) ⊎ ((nat_eq i o ≡ false) × (i ≢ o)) → Grown (Central i) s
      go (inl t) = rw t.1 (at s (side_is s side))
      go (inr t) = Same (grind (
        arith,
        length-old h i s,
        length-old g i s,
        length-live h i s,
        length-live g i s,
        same_bypass i t.0,
        proxy_side-agree g h agree i,
      ))

  grown-proxy : (q : Key) → Grown (inner_link q) A
  grown-proxy q = go (by_of q) refl
    where
      at : (j : ℕ) → by_of q ≡ Some j → ((nat_eq j o ≡ true) × (j ≡ o)) ⊎ ((nat_eq j o ≡ false) × (j ≢ o)) → Grown (inner_link q) A
      at j by (inl t) = let by' : by_of q ≡ Some o = by ∙ ap Some t.1 in let same : (g.bypass o).inner ≡ q =
          (stands_of law).by_inner q o by' in
          Inward (ap inner_link (sym same)) refl (rw same at (none_inner law can))
          (length-proxy h q o by' ∙ rw (stage_after, accepted_after) (known_from-yes 3 3 r.out_queue.current (omega arith)))
      at j by (inr t) = Same (length-proxy h q j by ∙ ap (λ c. known_from 3 c.stage c.accepted_at) (same_bypass j t.0) ∙ sym
          (length-proxy g q j by))

      go : (t : Option ℕ) → by_of q ≡ t → Grown (inner_link q) A
      go None e = Same (length-none h q A e ∙ sym (length-none g q A e))
      go (Some j) e = at j e (at_o j)

  grown-inner : (q : Key) → Grown (inner_link q) B
  grown-inner q = go (by_of q) refl
    where
      at : (j : ℕ) → by_of q ≡ Some j → ((nat_eq j o ≡ true) × (j ≡ o)) ⊎ ((nat_eq j o ≡ false) × (j ≢ o)) → Grown (inner_link q) B
      at j by (inl t) = let by' : by_of q ≡ Some o = by ∙ ap Some t.1 in
          Same (grind (
            arith,
            length-inner h q o by',
            length-inner g q o by',
            stage_after,
            taken_after o,
            (is law can).stage,
            known_from-yes 2 3 (g.bypass o).taken_at,
            known_from-yes 2 2 (g.bypass o).taken_at,
          ))
      at j by (inr t) = Same (length-inner h q j by ∙ ap (λ c. known_from 2 c.stage c.taken_at) (same_bypass j t.0) ∙ sym
          (length-inner g q j by))

      go : (t : Option ℕ) → by_of q ≡ t → Grown (inner_link q) B
      go None e = Same (length-none h q B e ∙ sym (length-none g q B e))
      go (Some j) e = at j e (at_o j)

  pub grown : (link : LinkId) (s : Side) → Grown link s
  grown (Central i) s = grown-central i s
  grown (Peripheral n p) A = grown-proxy (record { node = n; serial = p })
  grown (Peripheral n p) B = grown-inner (record { node = n; serial = p })

  pub is_new-here : is_new (Central fresh) side ≡ true
  unfolding is_new
  is_new-here = rw (nat_eq-itself fresh, same_side-itself side) refl

  pub new_at : (link : LinkId) (s : Side) → is_new link s ≡ true → (link ≡ Central fresh) × (s ≡ side)
  new_at link s e = go (is_new-tells link s)
    where
      go : ((is_new link s ≡ true) × ((link ≡ Central fresh) × (s ≡ side))) ⊎ (is_new link s ≡ false) → (link ≡ Central fresh) × (s ≡ side)
      go (inl t) = t.1
      go (inr t) = absurd (grind (arith, e, t))

  pub view_new : view v h (Central fresh) side ≡ Standing x
  view_new = view-standing v h (Central fresh) side k x (router_of (Central fresh) side ∙ ap
      (λ t. cond t (Some k) (side_router g (Central fresh) side)) is_new-here)
      (changed.router k ∙ ap (λ t. cond t (Some x) (router_at w k)) (same_key-itself k))
      (is_attached-central fresh side x ∙ ap (λ t. t || has_link x.outward.decaying (Central fresh) side)
      (has_link-some (record { link = Central fresh; side = side; other = from }) (Central fresh) side refl refl))

  same_link-swap : (l m : LinkId) → same_link l m ≡ same_link m l
  same_link-swap (Central i) (Central j) = grind (arith, nat_tests)
  same_link-swap (Central i) (Peripheral n s) = refl
  same_link-swap (Peripheral n s) (Central i) = refl
  same_link-swap (Peripheral n s) (Peripheral m t) = grind (arith, nat_tests)

  pub makes_new : (link : LinkId) (s : Side) → makes link s (messages.AcceptBypass o side fresh length) ≡ is_new link s
  unfolding makes is_new
  makes_new link s = ap (λ t. t && same_side side s) (same_link-swap (Central fresh) link) ∙ ap (λ t. same_link link (Central fresh) && t)
      (same_sides side s)

  -- an item under way is none of the new side's
  pub not_from_new : (a c i : ℕ) (link : LinkId) (s : Side) (n : ℕ) (item : Item) (moves : List Descriptor) →
      IsUnderWay w a c i (messages.Item link s n item moves) → is_new link (opposite s) ≡ false
  unfolding may_have_sent
  not_from_new a c i link s n item moves u = go (is_new link (opposite s)) refl
    where
      go : (t : Bool) → is_new link (opposite s) ≡ t → is_new link (opposite s) ≡ false
      go false e = e
      go true e = let p : (link ≡ Central fresh) × (opposite s ≡ side) = new_at link (opposite s) e in
          let q : view w g link (opposite s) ≡ Awaited = rw (p.0, p.1) (view_fresh law can) in
          absurd (grind (arith, (items_of law).by_sender a c i link s n item moves u, ap may_have_sent q))

  -- what is sent lies below each length that becomes known
  pub limit : (link : LinkId) (t : Side) (n len : ℕ) → Grown link t → side_length h link t ≡ Some len →
      ((q : Router) → view w g link t ≡ Standing q → n < (sending_queue link t q).current) →
      (side_length g link t ≡ Some len → n < len) → n < len
  unfolding sending_queue
  limit link t n len (Same e) f below old = old (sym e ∙ f)
  limit link t n len (FromProxy l s none e) f below old = let a : n < (sending_queue link t y).current =
      below y (rw (l, s) (view_y law can)) in
      let c : n < y.out_queue.current = rw l at a in
      let d : len ≡ (g.bypass o).taken_at = same_Some _ _ (sym f ∙ e) in omega (arith, c, d, y_out law can)
  limit link t n len (FromAcross l s none e) f below old = let a : n < (sending_queue link t r).current =
      below r (rw (l, s) (view_x law can)) in
      let c : n < r.out_queue.current = rw l at a in
      let d : len ≡ r.out_queue.current = same_Some _ _ (sym f ∙ e) in omega (arith, c, d)
  limit link t n len (Inward l s none e) f below old = let a : n < (sending_queue link t y).current =
      below y (rw (l, s) (view_y_inner law can)) in
      let c : n < y.in_queue.current = rw (l, s) at a in
      let d : len ≡ r.out_queue.current = same_Some _ _ (sym f ∙ e) in omega (arith, c, d, y_in law can)

  pub some_grown : (link : LinkId) (t : Side) → Grown link t → is_some (side_length g link t) ≡ true → is_some (side_length h link t) ≡ true
  some_grown link t (Same e) a = ap is_some e ∙ a
  some_grown link t (FromProxy l s none e) a = ap is_some e
  some_grown link t (FromAcross l s none e) a = ap is_some e
  some_grown link t (Inward l s none e) a = ap is_some e

  pub opposite-same : (s t : Side) → opposite s ≡ opposite t → s ≡ t
  opposite-same s t e' = sym (opposite-twice s) ∙ ap opposite e' ∙ opposite-twice t

  pub not_passed_before : (link : LinkId) (t : Side) (n : ℕ) → Grown link t → has_passed (side_length h link t) n ≡ false →
      has_passed (side_length g link t) n ≡ false
  not_passed_before link t n (Same e) a = ap (λ z. has_passed z n) (sym e) ∙ a
  not_passed_before link t n (FromProxy l s none e) a = ap (λ z. has_passed z n) none ∙ has_passed-none n
  not_passed_before link t n (FromAcross l s none e) a = ap (λ z. has_passed z n) none ∙ has_passed-none n
  not_passed_before link t n (Inward l s none e) a = ap (λ z. has_passed z n) none ∙ has_passed-none n

  pub fresh_none : (g.central fresh).router side ≡ None
  fresh_none = no_router _ _ (sym (side_router-central g fresh side) ∙ fresh_awaited law can)

  pub none_before : (i : ℕ) (s : Side) → (h.central i).router s ≡ None → (g.central i).router s ≡ None
  none_before i s none = grind (arith, none, nat_tests)

  abbrev before : ℕ → ℕ → ℕ → ℕ
  before a c i = place_before from k.node a c i

  pub after_inner : side_length h (inner_of g o) A ≡ Some r.out_queue.current
  after_inner = length-proxy h (g.bypass o).inner o (by_o law can) ∙ rw (stage_after, accepted_after)
      (known_from-yes 3 3 r.out_queue.current (omega arith))

  pub after_old : side_length h (Central o) (opposite side) ≡ Some (g.bypass o).taken_at
  after_old = grind (
    arith,
    length-old h o (opposite side) begun_after,
    proxy_is_after,
    same_side-itself (opposite side),
    stage_after,
    taken_after o,
    known_from-yes 3 3 (g.bypass o).taken_at,
  )

  pub not_new-old : (j : ℕ) (s : Side) → is_begun (g.bypass j) ≡ true → is_new (Central j) s ≡ false
  unfolding is_new
  not_new-old j s e' = let ne : nat_eq j fresh ≡ false = grind (arith, e', fresh_live law can, nat_tests) in rw ne refl

  pub not_new-inner : (p : Key) (s : Side) → is_new (inner_link p) s ≡ false
  unfolding is_new
  not_new-inner p s = refl

  not_new-apart : (s : Side) → s ≡ opposite side → is_new (Central fresh) s ≡ false
  unfolding is_new
  not_new-apart s e' = rw (e', same_sides (opposite side) side, same_side-opposite side, nat_eq-itself fresh) refl

  pub view_z_after : IsSameView (Central fresh) (opposite side) (view v h (Central fresh) (opposite side))
      (view w g (Central fresh) (opposite side))
  view_z_after = same_view_at (Central fresh) (opposite side) (not_new-apart (opposite side) refl)
