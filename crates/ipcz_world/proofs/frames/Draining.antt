-- A router's queues are as before or have lost their current items: what is said of numbers is kept.
use Rattle.std.specs.Prelude.{◌≡◌, ◌⊎◌, ◌≤◌, ◌<◌, ◌+◌, ℕ, Bool, true, false, Option, Some, None, refl}
use Rattle.std.specs.Cmp.{nat_cmp_total}
use Rattle.std.specs.FinMap.{get-remove}
use Rattle.std.proofs.Common.{arith, ap, subst, ◌∙◌, sym, inl, inr}
use Rattle.std.proofs.lemmas.Bool.Decides.{nat_tests}
use Rattle.ipcz_world.proofs.Vocabulary.{Side, A, B, LinkId, Central, Peripheral, LinkEnd, Item, opposite, Queue, item_at, Router, World, Key}
use Rattle.ipcz_world.proofs.Vocabulary.{same_key, router_at, Records, side_length, across_side, Standing, view, next_sent, taking_queue, is_gone}
use Rattle.ipcz_world.proofs.Vocabulary.{is_awaited, sending_queue, fed_queue, Ordered, inner_of, Order, ProxyNumbers, FreshNumbers, has_passed}
use Rattle.ipcz_world.proofs.Vocabulary.{standing_router, may_have_sent}
use Rattle.ipcz_seq.specs.Queue.{pop_front}
use Rattle.ipcz_world.proofs.frames.Frames.{same_key_tells}
use Rattle.ipcz_world.proofs.frames.Touching.{IsTouched, IsAlike, recorded_same}
use Rattle.ipcz_world.proofs.frames.Seen.{seen}

-- a queue is as before, or has lost its current item
pub record IsDrained (q p : Queue Item) : Type 0 where
  pub rises : q.current ≤ p.current
  pub keeps : (n : ℕ) (item : Item) → item_at p n ≡ Some item → item_at q n ≡ Some item
  pub left : (n : ℕ) (item : Item) → item_at p n ≡ Some item → q.current ≤ n → p.current ≤ n
  pub step : (p.current ≡ q.current) ⊎ ((item : Item) × (item_at q q.current ≡ Some item) × (p.current ≡ q.current + 1))

pub drained_same : (q : Queue Item) → IsDrained q q
drained_same q = record { rises = grind arith; keeps = λ n item h. h; left = λ n item h le. le; step = inl refl }

pub drained_pop : (q : Queue Item) (item : Item) → item_at q q.current ≡ Some item → IsDrained q (pop_front q)
drained_pop q item h = record {
  rises = omega arith;
  keeps = λ n x e. grind (arith, get-remove nat_cmp_total q.items q.current n, nat_tests, e);
  left = λ n x e le. grind (arith, get-remove nat_cmp_total q.items q.current n, nat_tests, e, le);
  step = inr (item, h, refl);
}

-- the current number stays below a bound of the items
pub below_drained : (q p : Queue Item) (c : ℕ) → IsDrained q p → q.current ≤ c →
    ((item : Item) → item_at q q.current ≡ Some item → q.current < c) → p.current ≤ c
below_drained q p c d le below = elim (d.step) [
  | inl e ↦ grind (arith, e, le)
  | inr s ↦ grind (arith, s.2, below s.0 s.1)
]

pub has_passed-mono : (length : Option ℕ) (m n : ℕ) → m ≤ n → has_passed length n ≡ false → has_passed length m ≡ false
unfolding has_passed
has_passed-mono None m n le h = refl
has_passed-mono (Some length) m n le h = grind (arith, nat_tests)

-- the worlds differ in the router of one key, whose queues have drained, and in flows and hands
pub record IsDraining (w v : World) (k : Key) (r y : Router) : Type 0 where
  pub touched : IsTouched w v k r y
  pub alike : IsAlike r y
  pub out : IsDrained r.out_queue y.out_queue
  pub inn : IsDrained r.in_queue y.in_queue

sending_drained : (r y : Router) (link : LinkId) (s : Side) → IsDrained r.out_queue y.out_queue → IsDrained r.in_queue y.in_queue →
    IsDrained (sending_queue link s r) (sending_queue link s y)
unfolding sending_queue
sending_drained r y (Central i) s out inn = out
sending_drained r y (Peripheral n x) A out inn = inn
sending_drained r y (Peripheral n x) B out inn = out

fed_drained : (r y : Router) (link : LinkId) (s : Side) → IsDrained r.out_queue y.out_queue → IsDrained r.in_queue y.in_queue →
    IsDrained (fed_queue link s r) (fed_queue link s y)
unfolding fed_queue
fed_drained r y (Central i) s out inn = inn
fed_drained r y (Peripheral n x) A out inn = out
fed_drained r y (Peripheral n x) B out inn = inn

pub next_sent-standing : (link : LinkId) (s : Side) (r : Router) → next_sent link s (Standing r) ≡ Some (sending_queue link s r).current
unfolding next_sent
next_sent-standing link s r = refl

pub taking_queue-standing : (link : LinkId) (s : Side) (r : Router) → taking_queue link s (Standing r) ≡ Some (fed_queue link s r)
unfolding taking_queue
taking_queue-standing link s r = refl

pub may_have_sent-standing : (r : Router) → may_have_sent (Standing r) ≡ true
unfolding may_have_sent
may_have_sent-standing r = refl

pub is_gone-standing : (r : Router) → is_gone (Standing r) ≡ false
unfolding is_gone
is_gone-standing r = refl

pub is_awaited-standing : (r : Router) → is_awaited (Standing r) ≡ false
unfolding is_awaited
is_awaited-standing r = refl

pub standing-standing : (r : Router) → standing_router (Standing r) ≡ Some r
unfolding standing_router
standing-standing r = refl

pub ruleset view_rules = (
  next_sent-standing,
  taking_queue-standing,
  may_have_sent-standing,
  is_gone-standing,
  is_awaited-standing,
  standing-standing,
)

module _ (w v : World) (k : Key) (r y : Router) (g : Records) (t : IsTouched w v k r y) (a : IsAlike r y) where
  pub gone_same : (link : LinkId) (s : Side) → is_gone (view v g link s) ≡ is_gone (view w g link s)
  gone_same link s = elim (seen w v k r y g t a link s) [
    | inl e ↦ ap is_gone e
    | inr e ↦ ap is_gone e.new ∙ is_gone-standing y ∙ sym
        (ap is_gone e.old ∙ is_gone-standing r)
  ]

  pub awaited_same : (link : LinkId) (s : Side) → is_awaited (view v g link s) ≡ is_awaited (view w g link s)
  awaited_same link s = elim (seen w v k r y g t a link s) [
    | inl e ↦ ap is_awaited e
    | inr e ↦ ap is_awaited e.new ∙ is_awaited-standing y ∙
        sym (ap is_awaited e.old ∙ is_awaited-standing r)
  ]

  pub sent_same : (link : LinkId) (s : Side) → may_have_sent (view v g link s) ≡ may_have_sent (view w g link s)
  sent_same link s = elim (seen w v k r y g t a link s) [
    | inl e ↦ ap may_have_sent e
    | inr e ↦ ap may_have_sent e.new ∙
        may_have_sent-standing y ∙ sym (ap may_have_sent e.old ∙ may_have_sent-standing r)
  ]

module _ (w v : World) (k : Key) (r y : Router) (g : Records) (d : IsDraining w v k r y) where
  pub sent_before : (link : LinkId) (s : Side) (u : ℕ) → next_sent link s (view v g link s) ≡ Some u →
      (x : ℕ) × (next_sent link s (view w g link s) ≡ Some x) × (x ≤ u)
  sent_before link s u h = elim (seen w v k r y g d.touched d.alike link s) [
    | inl e ↦ (u, sym (ap (next_sent link s) e) ∙ h, omega arith)
    | inr e ↦ (
      (sending_queue link s r).current,
      grind (arith, e.old, next_sent-standing),
      grind (arith, h, e.new, next_sent-standing link s y, (sending_drained r y link s d.out d.inn).rises),
    )
  ]

  pub taken_before : (link : LinkId) (s : Side) (p : Queue Item) → taking_queue link s (view v g link s) ≡ Some p →
      (q : Queue Item) × (taking_queue link s (view w g link s) ≡ Some q) × IsDrained q p
  taken_before link s p h = elim (seen w v k r y g d.touched d.alike link s) [
    | inl e ↦ (p, sym (ap (taking_queue link s) e) ∙ h, drained_same p)
    | inr e ↦ (
      fed_queue link s r,
      grind (arith, e.old, taking_queue-standing),
      subst (λ x. IsDrained (fed_queue link s r) x) (grind (arith, h, e.new, taking_queue-standing link s y))
          (fed_drained r y link s d.out d.inn),
    )
  ]

  pub drained_before : (q : Key) (x : Router) → router_at v q ≡ Some x →
      (z : Router) × (router_at w q ≡ Some z) × IsDrained z.out_queue x.out_queue × IsDrained z.in_queue x.in_queue ×
      (x.outward ≡ z.outward) × (x.inward ≡ z.inward)
  drained_before q x at = go (same_key q k) refl
    where
      go : (b : Bool) → same_key q k ≡ b → (z : Router) × (router_at w q ≡ Some z) × IsDrained z.out_queue x.out_queue × IsDrained
          z.in_queue x.in_queue × (x.outward ≡ z.outward) × (x.inward ≡ z.inward)
      go true e = let is : y ≡ x = grind (arith, d.touched.router q, e, at) in (
        r,
        grind (arith, d.touched.here, same_key_tells q k, e),
        subst (λ x. IsDrained r.out_queue x.out_queue) is d.out,
        subst (λ x. IsDrained r.in_queue x.in_queue) is d.inn,
        ap (λ x. x.outward) (sym is) ∙ d.alike.outward,
        ap (λ x. x.inward) (sym is) ∙ d.alike.inward,
      )
      go false e = (x, grind (arith, d.touched.router q, e, at), drained_same x.out_queue, drained_same x.in_queue, refl, refl)

  pub ordered-drained : Ordered w → Ordered v
  ordered-drained law q x at = let z = drained_before q x at in let before = law q z.0 z.1 in record {
    out = λ n item is. z.2.left n item is (before.out n item (z.2.keeps n item is));
    inn = λ n item is. z.3.left n item is (before.inn n item (z.3.keeps n item is));
  }

  pub order-drained : Order w g → Order v g
  order-drained law = record {
    current = λ link s u p h sent taken short.
        let x = sent_before link (opposite s) u sent in let q = taken_before link s p taken in
        let low : has_passed (side_length g link (opposite s)) x.0 ≡ false =
        has_passed-mono (side_length g link (opposite s)) x.0 u x.2 short in
        let le : q.0.current ≤ x.0 = law.current link s x.0 q.0 (sym (recorded_same w v k r y g d.touched link) ∙ h) x.1 q.1 low in
        below_drained q.0 p u q.2 (omega (arith, le, x.2)) (λ item is.
        let lower : q.0.current < x.0 = law.stored link s x.0 q.0 q.0.current item (sym (recorded_same w v k r y g d.touched link) ∙ h) x.1
        q.1 is (has_passed-mono (side_length g link (opposite s)) q.0.current x.0 le low) in
        omega (arith, lower, x.2));
    stored = λ link s u p n item h sent taken is short.
        let x = sent_before link (opposite s) u sent in let q = taken_before link s p taken in
        let lower : n < x.0 = law.stored link s x.0 q.0 n item (sym (recorded_same w v k r y g d.touched link) ∙ h) x.1 q.1
        (q.2.keeps n item is) short in
        omega (arith, lower, x.2);
  }

  pub proxy_numbers-drained : ProxyNumbers w g → ProxyNumbers v g
  proxy_numbers-drained law = record {
    out_current = λ o x at s. let z = drained_before (g.bypass o).proxy x at in
        below_drained z.0.out_queue x.out_queue (g.bypass o).taken_at z.2 (law.out_current o z.0 z.1 s)
        (λ item is. law.out_items o z.0 z.0.out_queue.current item z.1 s is);
    out_items = λ o x n item at s is. let z = drained_before (g.bypass o).proxy x at in
        law.out_items o z.0 n item z.1 s (z.2.keeps n item is);
    in_current = λ o x at s. let z = drained_before (g.bypass o).proxy x at in
        below_drained z.0.in_queue x.in_queue (g.bypass o).accepted_at z.3 (law.in_current o z.0 z.1 s)
        (λ item is. law.in_items o z.0 z.0.in_queue.current item z.1 s is);
    in_items = λ o x n item at s is. let z = drained_before (g.bypass o).proxy x at in
        law.in_items o z.0 n item z.1 s (z.3.keeps n item is);
    across_gone = λ o x at s gone. let z = drained_before (g.bypass o).proxy x at in
        omega (
          arith,
          z.2.rises,
          law.across_gone o z.0 z.1 s (sym (gone_same w v k r y g d.touched d.alike (Central o) (across_side g o)) ∙
              gone),
        );
    inner_gone = λ o x at s gone. let z = drained_before (g.bypass o).proxy x at in
        omega (arith, z.3.rises, law.inner_gone o z.0 z.1 s (sym (gone_same w v k r y g d.touched d.alike (inner_of g o) B) ∙ gone));
    out_finished = λ o x at s e. let z = drained_before (g.bypass o).proxy x at in
        omega (arith, z.2.rises, law.out_finished o z.0 z.1 s (ap (λ e. e.decaying) (sym z.4) ∙ e));
    in_finished = λ o x at s e. let z = drained_before (g.bypass o).proxy x at in
        omega (arith, z.3.rises, law.in_finished o z.0 z.1 s (grind (arith, z.5, e)));
  }

  -- what stands at a side stood there before, with no higher number
  pub standing_before : (link : LinkId) (s : Side) (x : Router) → standing_router (view v g link s) ≡ Some x →
      (z : Router) × (standing_router (view w g link s) ≡ Some z) × (z.out_queue.current ≤ x.out_queue.current)
  standing_before link s x h = elim (seen w v k r y g d.touched d.alike link s) [
    | inl e ↦ (x, sym (ap standing_router e) ∙ h, omega arith)
    | inr e ↦ (r, grind (arith, e.old, standing-standing r), grind (arith, h, e.new, standing-standing y, d.out.rises))
  ]

  pub own-drained : FreshNumbers w g → (q : Key) (x : Router) → router_at v q ≡ Some x → (p e : LinkEnd) (length : ℕ) →
      x.outward.primary ≡ Some p → x.outward.decaying ≡ Some e → x.outward.length_to ≡ Some length → length ≤ x.out_queue.current
  own-drained law q x at p e length on off len = let z = drained_before q x at in
      let low : length ≤ z.0.out_queue.current = (law q z.0 z.1).own p e length (grind (arith, z.4, on)) (grind (arith, z.4, off))
      (grind (arith, z.4, len)) in
      omega (arith, z.2.rises, low)

  pub other-drained : FreshNumbers w g → (q : Key) (x : Router) → router_at v q ≡ Some x → (u : Router) (p e : LinkEnd) (length : ℕ) →
      x.outward.primary ≡ Some p → x.outward.decaying ≡ Some e →
      side_length g e.link (opposite e.side) ≡ Some length → standing_router (view v g p.link (opposite p.side)) ≡ Some u →
      length ≤ u.out_queue.current
  other-drained law q x at u p e length on off len there = let z = drained_before q x at in let f =
      standing_before p.link (opposite p.side) u there in
      let low : length ≤ f.0.out_queue.current = (law q z.0 z.1).other f.0 p e length (grind (arith, z.4, on)) (grind (arith, z.4, off)) len
      f.1 in
      omega (arith, f.2, low)
