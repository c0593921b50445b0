-- What is said of retired ends, and of Gone at routers, is kept if routers change in what those clauses don't read.
use Rattle.std.specs.Prelude.{List}
use Rattle.ipcz_base.specs.declared.parcel.Parcel as parcels
use Rattle.std.proofs.lemmas.Option.{none-some}
use Rattle.ipcz_world.proofs.Vocabulary.{LinkId, Side, End, LinkEnd, opposite, opposite_end, Router, is_terminal, inward_edge, World, Key, same_key}
use Rattle.ipcz_world.proofs.Vocabulary.{router_at, Books, is_closed, Records, Mark, end_at, decays, is_begun_router, is_retired, is_left, Retired}
use Rattle.ipcz_world.proofs.Vocabulary.{Gones, RetiredEnds}
use Rattle.std.specs.Prelude.{◌≡◌, ◌≢◌, ◌⊎◌, ◌<◌, ◌≤◌, ℕ, Bool, true, false, cond, Some, None, is_some, length, slice_get, refl}
use Rattle.std.proofs.Common.{arith, sym, ◌∙◌, ap, subst, inl, inr}
use Rattle.ipcz_world.specs.Records.{is_nowhere}
use Rattle.ipcz_world.proofs.facts.LinkTests.{opposite_end-twice}
use Rattle.ipcz_world.proofs.frames.Frames.{same_key_tells}

-- two routers alike in what tells of Gone and of the marks
pub record IsGoneLike (x y : Router) : Type 0 where
  pub end : y.end ≡ x.end
  pub current : y.in_queue.current ≡ x.in_queue.current
  pub out : y.out_queue.current ≡ x.out_queue.current
  pub terminal : is_terminal y ≡ is_terminal x
  pub inner : (inward_edge y).primary ≡ (inward_edge x).primary
  pub primary : y.outward.primary ≡ x.outward.primary
  pub sent : y.gone_sent ≡ x.gone_sent
  pub dropped : y.mark_dropped ≡ x.mark_dropped
  pub closed : y.closed ≡ x.closed
  pub still : decays x ≡ false → decays y ≡ false

pub gone_like-itself : (x : Router) → IsGoneLike x x
gone_like-itself x = record {
  end = refl;
  current = refl;
  out = refl;
  terminal = refl;
  inner = refl;
  primary = refl;
  sent = refl;
  dropped = refl;
  closed = refl;
  still = λ h. h;
}

-- a router that was before
pub record WasGoneLike (w : World) (q : Key) (y : Router) : Type 0 where
  pub router : Router
  pub at : router_at w q ≡ Some router
  pub alike : IsGoneLike router y

begun_gone : (x y : Router) → IsGoneLike x y → is_begun_router y ≡ is_begun_router x
begun_gone x y a = grind (arith, a.terminal, a.inner)

-- a terminal that is new, and open
pub record IsGoneFree (b : Books) (h : Records) (y : Router) : Type 0 where
  pub terminal : is_terminal y ≡ true
  pub sent : y.gone_sent ≡ false
  pub dropped : y.mark_dropped ≡ false
  pub closed : y.closed ≡ false
  pub still : decays y ≡ false
  pub left : (e : LinkEnd) → y.outward.primary ≡ Some e → is_left h e.link (opposite e.side) ≡ false
  pub inner : (inward_edge y).primary ≡ None
  pub out_put : y.out_queue.current ≤ length (b.put y.end)
  pub in_put : y.in_queue.current ≤ length (b.put (opposite_end y.end))

-- the clauses of one router that was there before, alike
module _ (w : World) (b : Books) (g : Records) (q : Key) (y : Router) (o : WasGoneLike w q y) (law : Gones w b g) where
  sent_of : y.gone_sent ≡ true →
      (is_retired b (opposite_end y.end) ≡ true) × (y.in_queue.current ≡ length (b.put (opposite_end y.end)))
  sent_of s = let t = law.sent q o.router o.at (sym o.alike.sent ∙ s) in
      (ap (λ e. is_retired b (opposite_end e)) o.alike.end ∙ t.0, o.alike.current ∙ t.1 ∙ ap (λ e. length (b.put (opposite_end e))) (sym o.alike.end))

  sent_back_of : is_terminal y ≡ false → is_some (inward_edge y).primary ≡ true → is_retired b (opposite_end y.end) ≡ true →
      y.in_queue.current ≡ length (b.put (opposite_end y.end)) → y.gone_sent ≡ true
  sent_back_of n i s c = o.alike.sent ∙ law.sent_back q o.router o.at (sym o.alike.terminal ∙ n)
      (ap is_some (sym o.alike.inner) ∙ i) (ap (λ e. is_retired b (opposite_end e)) (sym o.alike.end) ∙ s)
      (sym o.alike.current ∙ c ∙ ap (λ e. length (b.put (opposite_end e))) o.alike.end)

  primary_of : (e : LinkEnd) → y.outward.primary ≡ Some e → is_left g e.link (opposite e.side) ≡ true →
      is_retired b (opposite_end y.end) ≡ true
  primary_of e p l = ap (λ d. is_retired b (opposite_end d)) o.alike.end ∙ law.left_primary q o.router e o.at (sym o.alike.primary ∙ p) l

  inner_of : (e : LinkEnd) → (inward_edge y).primary ≡ Some e → is_left g e.link (opposite e.side) ≡ true →
      length (b.put (opposite_end y.end)) ≤ y.in_queue.current
  inner_of e p l = rw (o.alike.end, o.alike.current) (law.left_inner q o.router e o.at (sym o.alike.inner ∙ p) l)

  out_of : y.out_queue.current ≤ length (b.put y.end)
  out_of = rw (o.alike.end, o.alike.out) (law.out_put q o.router o.at)

  in_of : y.in_queue.current ≤ length (b.put (opposite_end y.end))
  in_of = rw (o.alike.end, o.alike.current) (law.in_put q o.router o.at)

  still_of : (s : Side) → is_begun_router y ≡ false → is_retired b (end_at y.end.pair s) ≡ true → decays y ≡ false
  still_of s n i = o.alike.still (law.still q o.router s o.at (sym (begun_gone o.router y o.alike) ∙ n)
      (ap (λ d. is_retired b (end_at d.pair s)) (sym o.alike.end) ∙ i))

  dropped_of : (n : ℕ) → is_terminal y ≡ true → slice_get (b.put (opposite_end y.end)) n ≡ Some Mark → y.mark_dropped ≡ true →
      n < y.in_queue.current
  dropped_of n t i m = grind (
    arith,
    o.alike.current,
    law.dropped q o.router n o.at (sym o.alike.terminal ∙ t)
        (ap (λ d. slice_get (b.put (opposite_end d)) n) (sym o.alike.end) ∙ i) (sym o.alike.dropped ∙ m),
  )

  dropped_closed_of : y.mark_dropped ≡ true → is_closed b (opposite_end y.end) ≡ true
  dropped_closed_of m = ap (λ d. is_closed b (opposite_end d)) o.alike.end ∙ law.dropped_closed q o.router o.at (sym o.alike.dropped ∙ m)

  dropped_back_of : (n : ℕ) → is_terminal y ≡ true → slice_get (b.put (opposite_end y.end)) n ≡ Some Mark → n < y.in_queue.current →
      y.closed ≡ true → y.mark_dropped ≡ true
  dropped_back_of n t i l c = o.alike.dropped ∙ law.dropped_back q o.router n o.at (sym o.alike.terminal ∙ t)
      (ap (λ d. slice_get (b.put (opposite_end d)) n) (sym o.alike.end) ∙ i) (grind (arith, o.alike.current, l)) (sym o.alike.closed ∙ c)

-- a retired end isn't nowhere
pub retired_somewhere : is_nowhere Retired ≡ false
unfolding is_nowhere
retired_somewhere = refl

both : (c : Bool) {X : Type 0} → c ≡ true → c ≡ false → X
both c a d = absurd (grind (arith, a, d))

-- who stands was there before, alike, or is a new open terminal, and the records leave no more sides
pub gones-new : (w v : World) (b : Books) (g h : Records) →
    ((q : Key) (y : Router) → router_at v q ≡ Some y → WasGoneLike w q y ⊎ IsGoneFree b h y) →
    ((l : LinkId) (s : Side) → is_left h l s ≡ true → is_left g l s ≡ true) → Gones w b g → Gones v b h
gones-new w v b g h was left law = record {
  sent = λ q y at s. elim (was q y at) [ inl o ↦ sent_of w b g q y o law s | inr o ↦ both y.gone_sent s o.sent ];
  sent_back = λ q y at n i s c. elim (was q y at) [
    | inl o ↦ sent_back_of w b g q y o law n i s c
    | inr o ↦ both (is_terminal y) o.terminal n
  ];
  left_primary = λ q y e at p l. elim (was q y at) [
    | inl o ↦ primary_of w b g q y o law e p (left e.link (opposite e.side) l)
    | inr o ↦ both (is_left h e.link (opposite e.side)) l (o.left e p)
  ];
  left_inner = λ q y e at p l. elim (was q y at) [
    | inl o ↦ inner_of w b g q y o law e p (left e.link (opposite e.side) l)
    | inr o ↦ absurd (none-some e (sym o.inner ∙ p))
  ];
  out_put = λ q y at. elim (was q y at) [ inl o ↦ out_of w b g q y o law | inr o ↦ o.out_put ];
  in_put = λ q y at. elim (was q y at) [ inl o ↦ in_of w b g q y o law | inr o ↦ o.in_put ];
  still = λ q y s at n i. elim (was q y at) [ inl o ↦ still_of w b g q y o law s n i | inr o ↦ o.still ];
  dropped = λ q y n at t i m. elim (was q y at) [
    | inl o ↦ dropped_of w b g q y o law n t i m
    | inr o ↦ both y.mark_dropped m o.dropped
  ];
  dropped_closed = λ q y at m. elim (was q y at) [
    | inl o ↦ dropped_closed_of w b g q y o law m
    | inr o ↦ both y.mark_dropped m o.dropped
  ];
  dropped_back = λ q y n at t i l c. elim (was q y at) [
    | inl o ↦ dropped_back_of w b g q y o law n t i l c
    | inr o ↦ both y.closed c o.closed
  ];
}

-- who stands was there before, alike
pub gones-by : (w v : World) (b : Books) (g h : Records) → ((q : Key) (y : Router) → router_at v q ≡ Some y → WasGoneLike w q y) →
    ((l : LinkId) (s : Side) → is_left h l s ≡ true → is_left g l s ≡ true) → Gones w b g → Gones v b h
gones-by w v b g h was left law = gones-new w v b g h (λ q y at. inl (was q y at)) left law

-- one router changes, alike
pub was-gone : (w v : World) (k : Key) (r y : Router) → ((q : Key) → router_at v q ≡ cond (same_key q k) (Some y) (router_at w q)) →
    router_at w k ≡ Some r → IsGoneLike r y → (q : Key) (z : Router) → router_at v q ≡ Some z → WasGoneLike w q z
was-gone w v k r y one here alike q z at = go (same_key_tells q k)
  where
    go : ((same_key q k ≡ true) × (q ≡ k)) ⊎ ((same_key q k ≡ false) × (q ≢ k)) → WasGoneLike w q z
    go (inl e) = let f : y ≡ z = grind (arith, one q, e.0, at) in
        record { router = r; at = rw e.1 here; alike = rw (← f) alike }
    go (inr e) = record { router = z; at = grind (arith, one q, e.0, at); alike = gone_like-itself z }

-- two routers alike but in their links
pub record IsGoneCore (r x : Router) : Type 0 where
  pub end : x.end ≡ r.end
  pub current : x.in_queue.current ≡ r.in_queue.current
  pub out : x.out_queue.current ≡ r.out_queue.current
  pub inner : (inward_edge x).primary ≡ (inward_edge r).primary
  pub terminal : is_terminal x ≡ is_terminal r
  pub sent : x.gone_sent ≡ r.gone_sent
  pub dropped : x.mark_dropped ≡ r.mark_dropped
  pub closed : x.closed ≡ r.closed

-- a router of a pair of whose ends none has retired changes, in its links too
module _ (w v : World) (b : Books) (g h : Records) (k : Key) (r x : Router)
    (one : (q : Key) → router_at v q ≡ cond (same_key q k) (Some x) (router_at w q)) (here : router_at w k ≡ Some r) (core : IsGoneCore r x)
    (unretired : (s : Side) → is_retired b (end_at r.end.pair s) ≡ false)
    (left : (l : LinkId) (s : Side) → is_left h l s ≡ true → is_left g l s ≡ true)
    (mine : (e : LinkEnd) → x.outward.primary ≡ Some e → is_left h e.link (opposite e.side) ≡ false) (law : Gones w b g) where
  unretired_end : (e : End) → e.pair ≡ r.end.pair → is_retired b e ≡ false
  unretired_end e p = ap (λ n. is_retired b (end_at n e.side)) p ∙ unretired e.side

  abbrev Split : Key → Router → Type 0
  Split q y = ((q ≡ k) × (x ≡ y)) ⊎ (router_at w q ≡ Some y)

  split : (q : Key) (y : Router) → router_at v q ≡ Some y → Split q y
  split q y at = go (same_key_tells q k)
    where
      go : ((same_key q k ≡ true) × (q ≡ k)) ⊎ ((same_key q k ≡ false) × (q ≢ k)) → Split q y
      go (inl e) = inl (e.1, grind (arith, one q, e.0, at))
      go (inr e) = inr (grind (arith, one q, e.0, at))

  -- a test of the pair's ends
  never : (y : Router) (e : End) {X : Type 0} → x ≡ y → e.pair ≡ y.end.pair → is_retired b e ≡ true → X
  never y e f p t = both (is_retired b e) t (unretired_end e (p ∙ ap (λ z. z.end.pair) (sym f) ∙ ap (λ z. z.pair) core.end))

  pub gones-hand : Gones v b h
  gones-hand = record {
    sent = λ q y at s. elim (split q y at) [
      | inl f ↦ let t = law.sent k r here (sym core.sent ∙ ap (λ z. z.gone_sent) f.1 ∙ s) in
          both (is_retired b (opposite_end r.end)) t.0 (unretired_end (opposite_end r.end) refl)
      | inr a ↦ law.sent q y a s
    ];
    sent_back = λ q y at n i s c. elim (split q y at) [
      | inl f ↦ never y (opposite_end y.end) f.1 refl s
      | inr a ↦ law.sent_back q y a n i s c
    ];
    left_primary = λ q y e at p l. elim (split q y at) [
      | inl f ↦ both (is_left h e.link (opposite e.side)) l (mine e (ap (λ z. z.outward.primary) f.1 ∙ p))
      | inr a ↦ law.left_primary q y e a p (left e.link (opposite e.side) l)
    ];
    left_inner = λ q y e at p l. elim (split q y at) [
      | inl f ↦ rw (← f.1, core.end, core.current) (law.left_inner k r e here (sym core.inner ∙ ap (λ z. (inward_edge z).primary) f.1 ∙ p)
          (left e.link (opposite e.side) l))
      | inr a ↦ law.left_inner q y e a p (left e.link (opposite e.side) l)
    ];
    out_put = λ q y at. elim (split q y at) [
      | inl f ↦ rw (← f.1, core.end, core.out) (law.out_put k r here)
      | inr a ↦ law.out_put q y a
    ];
    in_put = λ q y at. elim (split q y at) [
      | inl f ↦ rw (← f.1, core.end, core.current) (law.in_put k r here)
      | inr a ↦ law.in_put q y a
    ];
    still = λ q y s at n i. elim (split q y at) [
      | inl f ↦ never y (end_at y.end.pair s) f.1 refl i
      | inr a ↦ law.still q y s a n i
    ];
    dropped = λ q y n at t i m. elim (split q y at) [
      | inl f ↦ rw (← f.1, core.current) (law.dropped k r n here (sym core.terminal ∙ ap is_terminal f.1 ∙ t)
          (ap (λ d. slice_get (b.put (opposite_end d)) n) (sym core.end) ∙ ap (λ z. slice_get (b.put (opposite_end z.end)) n) f.1 ∙ i)
          (sym core.dropped ∙ ap (λ z. z.mark_dropped) f.1 ∙ m))
      | inr a ↦ law.dropped q y n a t i m
    ];
    dropped_closed = λ q y at m. elim (split q y at) [
      | inl f ↦ ap (λ z. is_closed b (opposite_end z.end)) (sym f.1) ∙ ap (λ d. is_closed b (opposite_end d)) core.end ∙
          law.dropped_closed k r here (sym core.dropped ∙ ap (λ z. z.mark_dropped) f.1 ∙ m)
      | inr a ↦ law.dropped_closed q y a m
    ];
    dropped_back = λ q y n at t i l c. elim (split q y at) [
      | inl f ↦ ap (λ z. z.mark_dropped) (sym f.1) ∙ core.dropped ∙ law.dropped_back k r n here (sym core.terminal ∙ ap is_terminal f.1 ∙ t)
          (ap (λ d. slice_get (b.put (opposite_end d)) n) (sym core.end) ∙ ap (λ z. slice_get (b.put (opposite_end z.end)) n) f.1 ∙ i)
          (subst (λ c. n < c) (ap (λ z. z.in_queue.current) (sym f.1) ∙ core.current) l) (sym core.closed ∙ ap (λ z. z.closed) f.1 ∙ c)
      | inr a ↦ law.dropped_back q y n a t i l c
    ];
  }

-- who has retired had closed
pub record BooksKeep (b : Books) : Type 0 where
  pub retired_closed : (e : End) → is_retired b e ≡ true → is_closed b e ≡ true

-- what is said of one router, by itself
pub record IsGoneRight (b : Books) (g : Records) (r : Router) : Type 0 where
  pub sent : r.gone_sent ≡ true →
      (is_retired b (opposite_end r.end) ≡ true) × (r.in_queue.current ≡ length (b.put (opposite_end r.end)))
  pub sent_back : is_terminal r ≡ false → is_some (inward_edge r).primary ≡ true → is_retired b (opposite_end r.end) ≡ true →
      r.in_queue.current ≡ length (b.put (opposite_end r.end)) → r.gone_sent ≡ true
  pub left_primary : (e : LinkEnd) → r.outward.primary ≡ Some e → is_left g e.link (opposite e.side) ≡ true →
      is_retired b (opposite_end r.end) ≡ true
  pub left_inner : (e : LinkEnd) → (inward_edge r).primary ≡ Some e → is_left g e.link (opposite e.side) ≡ true →
      length (b.put (opposite_end r.end)) ≤ r.in_queue.current
  pub out_put : r.out_queue.current ≤ length (b.put r.end)
  pub in_put : r.in_queue.current ≤ length (b.put (opposite_end r.end))
  pub still : (s : Side) → is_begun_router r ≡ false → is_retired b (end_at r.end.pair s) ≡ true → decays r ≡ false
  pub dropped : (n : ℕ) → is_terminal r ≡ true → slice_get (b.put (opposite_end r.end)) n ≡ Some Mark → r.mark_dropped ≡ true →
      n < r.in_queue.current
  pub dropped_closed : r.mark_dropped ≡ true → is_closed b (opposite_end r.end) ≡ true
  pub dropped_back : (n : ℕ) → is_terminal r ≡ true → slice_get (b.put (opposite_end r.end)) n ≡ Some Mark → n < r.in_queue.current →
      r.closed ≡ true → r.mark_dropped ≡ true

pub right-of : {w : World} {b : Books} {g : Records} → Gones w b g → (q : Key) (r : Router) → router_at w q ≡ Some r → IsGoneRight b g r
right-of law q r at = record {
  sent = law.sent q r at;
  sent_back = law.sent_back q r at;
  left_primary = λ e. law.left_primary q r e at;
  left_inner = λ e. law.left_inner q r e at;
  out_put = law.out_put q r at;
  in_put = law.in_put q r at;
  still = λ s. law.still q r s at;
  dropped = λ n. law.dropped q r n at;
  dropped_closed = law.dropped_closed q r at;
  dropped_back = λ n. law.dropped_back q r n at;
}

pub gones-all : {v : World} {b : Books} {g : Records} → ((q : Key) (r : Router) → router_at v q ≡ Some r → IsGoneRight b g r) → Gones v b g
gones-all right = record {
  sent = λ q r at. (right q r at).sent;
  sent_back = λ q r at. (right q r at).sent_back;
  left_primary = λ q r e at. (right q r at).left_primary e;
  left_inner = λ q r e at. (right q r at).left_inner e;
  out_put = λ q r at. (right q r at).out_put;
  in_put = λ q r at. (right q r at).in_put;
  still = λ q r s at. (right q r at).still s;
  dropped = λ q r n at. (right q r at).dropped n;
  dropped_closed = λ q r at. (right q r at).dropped_closed;
  dropped_back = λ q r n at. (right q r at).dropped_back n;
}

-- if no more sides are left
pub right-left : {b : Books} {g h : Records} {r : Router} → ((l : LinkId) (s : Side) → is_left h l s ≡ true → is_left g l s ≡ true) →
    IsGoneRight b g r → IsGoneRight b h r
right-left left o = record {
  sent = o.sent;
  sent_back = o.sent_back;
  left_primary = λ e p l. o.left_primary e p (left e.link (opposite e.side) l);
  left_inner = λ e p l. o.left_inner e p (left e.link (opposite e.side) l);
  out_put = o.out_put;
  in_put = o.in_put;
  still = o.still;
  dropped = o.dropped;
  dropped_closed = o.dropped_closed;
  dropped_back = o.dropped_back;
}

-- if only what was read changes
pub right-books : {b : Books} {g : Records} {r : Router} {got : End → List parcels.Parcel} {gone : End → ℕ} → IsGoneRight b g r →
    IsGoneRight (record b { got = got; gone = gone }) g r
right-books o = assumption o

-- no end of a pair with an open end has retired
pub open_unretired : {b : Books} {g : Records} → BooksKeep b → RetiredEnds b g → (e : End) → is_closed b e ≡ false →
    (is_retired b e ≡ false) × (is_retired b (opposite_end e) ≡ false)
open_unretired {b} {g} keep ends e unclosed = (own (is_retired b e) refl, peer (is_retired b (opposite_end e)) refl)
  where
    own : (c : Bool) → is_retired b e ≡ c → c ≡ false
    own false h = refl
    own true h = both (is_closed b e) (keep.retired_closed e h) unclosed

    peer : (c : Bool) → is_retired b (opposite_end e) ≡ c → c ≡ false
    peer false h = refl
    peer true h = both (is_closed b e) (ap (is_closed b) (sym (opposite_end-twice e)) ∙ ends.peer_closed (opposite_end e) h) unclosed

-- one router changes
pub gones-one : (w v : World) (b : Books) (g : Records) (k : Key) (y : Router) →
    ((q : Key) → router_at v q ≡ cond (same_key q k) (Some y) (router_at w q)) → IsGoneRight b g y → Gones w b g → Gones v b g
gones-one w v b g k y one right law = gones-all (λ q z at. go q z at (same_key_tells q k))
  where
    go : (q : Key) (z : Router) → router_at v q ≡ Some z → ((same_key q k ≡ true) × (q ≡ k)) ⊎ ((same_key q k ≡ false) × (q ≢ k)) →
        IsGoneRight b g z
    go q z at (inl e) = let f : y ≡ z = grind (arith, one q, e.0, at) in rw (← f) right
    go q z at (inr e) = right-of law q z (grind (arith, one q, e.0, at))
