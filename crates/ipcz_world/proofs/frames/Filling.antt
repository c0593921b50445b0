-- A router's queue gets the item that a message carries: what is said of numbers is kept.
use Rattle.std.specs.Prelude.{◌≡◌, ◌⊎◌, ℕ, Bool, true, false, not, cond, Some, refl}
use Rattle.std.specs.Cmp.{nat_cmp_total}
use Rattle.std.specs.FinMap.{get-insert}
use Rattle.std.proofs.Common.{arith, ap, subst, ◌∙◌, sym, inl, inr}
use Rattle.std.proofs.lemmas.Bool.Decides.{nat_tests}
use Rattle.ipcz_world.proofs.Vocabulary.{Side, A, B, LinkId, Central, Peripheral, Item, opposite, Queue, item_at, Router, World, Key}
use Rattle.ipcz_world.proofs.Vocabulary.{same_key, router_at, Records, view, next_sent, taking_queue, sending_queue, fed_queue}
use Rattle.ipcz_world.proofs.Vocabulary.{is_outward, is_made_before, standing_router}
use Rattle.ipcz_seq.specs.Queue.{push_at}
use Rattle.ipcz_world.proofs.frames.Frames.{same_key_tells}
use Rattle.ipcz_world.proofs.frames.Touching.{IsTouched, IsAlike, recorded_same}
use Rattle.ipcz_world.proofs.frames.Seen.{IsSwapped, seen}
use Rattle.ipcz_world.proofs.frames.Draining.{gone_same, awaited_same, sent_same, next_sent-standing, taking_queue-standing}
use Rattle.ipcz_world.proofs.frames.Draining.{standing-standing}
use Rattle.ipcz_world.proofs.frames.Fitting.{ItemFits}

-- a queue has what it had, and an item of this number more, if the flag says so
pub record IsFilled (q p : Queue Item) (n : ℕ) (b : Bool) : Type 0 where
  pub current : p.current ≡ q.current
  pub items : (m : ℕ) (x : Item) → item_at p m ≡ Some x → (item_at q m ≡ Some x) ⊎ ((m ≡ n) × (b ≡ true))

pub filled_same : (q : Queue Item) (n : ℕ) (b : Bool) → IsFilled q q n b
filled_same q n b = record { current = refl; items = λ m x h. inl h }

pub filled_push : (q : Queue Item) (n : ℕ) (item : Item) → IsFilled q (push_at q n item) n true
filled_push q n item = record { current = refl; items = λ m x h. grind (arith, get-insert nat_cmp_total q.items n item m, nat_tests, h) }

-- the worlds differ in the router of one key, whose queue of this direction has the item
pub record IsFilling (w v : World) (k : Key) (r y : Router) (n : ℕ) (from_outward : Bool) : Type 0 where
  pub touched : IsTouched w v k r y
  pub alike : IsAlike r y
  pub out : IsFilled r.out_queue y.out_queue n (not from_outward)
  pub inn : IsFilled r.in_queue y.in_queue n from_outward

sending_filled : (r y : Router) (n : ℕ) (b c : Bool) (link : LinkId) (s : Side) → IsFilled r.out_queue y.out_queue n b →
    IsFilled r.in_queue y.in_queue n c → (sending_queue link s y).current ≡ (sending_queue link s r).current
unfolding sending_queue
sending_filled r y n b c (Central i) s out inn = out.current
sending_filled r y n b c (Peripheral m x) A out inn = inn.current
sending_filled r y n b c (Peripheral m x) B out inn = out.current

fed_filled : (r y : Router) (n : ℕ) (b : Bool) (link : LinkId) (s : Side) → IsFilled r.out_queue y.out_queue n (not b) →
    IsFilled r.in_queue y.in_queue n b → IsFilled (fed_queue link s r) (fed_queue link s y) n (cond (is_outward link s) b (not b))
unfolding fed_queue is_outward
fed_filled r y n b (Central i) s out inn = inn
fed_filled r y n b (Peripheral m x) A out inn = out
fed_filled r y n b (Peripheral m x) B out inn = inn

module _ (w v : World) (k : Key) (r y : Router) (n : ℕ) (b : Bool) (g : Records) (d : IsFilling w v k r y n b) where
  pub sent_kept : (link : LinkId) (s : Side) → next_sent link s (view v g link s) ≡ next_sent link s (view w g link s)
  sent_kept link s = elim (seen w v k r y g d.touched d.alike link s) [
    | inl e ↦ ap (next_sent link s) e
    | inr e ↦ ap (next_sent link s) e.new ∙ next_sent-standing link s y ∙ ap Some (sending_filled r y n (not b) b link s d.out d.inn) ∙ sym
        (ap (next_sent link s) e.old ∙ next_sent-standing link s r)
  ]

  -- the queue that takes what comes is as before, or the changed router's
  pub taken_filled : (link : LinkId) (s : Side) (p : Queue Item) → taking_queue link s (view v g link s) ≡ Some p →
      (taking_queue link s (view w g link s) ≡ Some p) ⊎ (IsSwapped w v g k r y link s × (fed_queue link s y ≡ p) × IsFilled
      (fed_queue link s r) p n (cond (is_outward link s) b (not b)))
  taken_filled link s p h = elim (seen w v k r y g d.touched d.alike link s) [
    | inl e ↦ inl (sym (ap (taking_queue link s) e) ∙ h)
    | inr e ↦ let is : fed_queue link s y ≡ p = grind (arith, h, e.new, taking_queue-standing link s y) in
        inr (
          e,
          is,
          subst (λ x. IsFilled (fed_queue link s r) x n (cond (is_outward link s) b (not b))) is
              (fed_filled r y n b link s d.out d.inn),
        )
  ]

  pub taken_current : (link : LinkId) (s : Side) (p : Queue Item) → taking_queue link s (view v g link s) ≡ Some p →
      (q : Queue Item) × (taking_queue link s (view w g link s) ≡ Some q) × (p.current ≡ q.current)
  taken_current link s p h = elim (taken_filled link s p h) [
    | inl e ↦ (p, e, refl)
    | inr e ↦ (fed_queue link s r, ap (taking_queue link s) (e.0.old) ∙ taking_queue-standing link s r, e.2.current)
  ]

  pub filled_before : (q : Key) (x : Router) → router_at v q ≡ Some x →
      (z : Router) × (router_at w q ≡ Some z) × (x.out_queue.current ≡ z.out_queue.current) × (x.in_queue.current ≡ z.in_queue.current) ×
      (x.outward ≡ z.outward) × (x.inward ≡ z.inward) ×
      ((m : ℕ) (i : Item) → item_at x.out_queue m ≡ Some i → (item_at z.out_queue m ≡ Some i) ⊎ ((m ≡ n) × (b ≡ false) × (q ≡ k))) ×
      ((m : ℕ) (i : Item) → item_at x.in_queue m ≡ Some i → (item_at z.in_queue m ≡ Some i) ⊎ ((m ≡ n) × (b ≡ true) × (q ≡ k)))
  filled_before q x at = go (same_key q k) refl
    where
      go : (c : Bool) → same_key q k ≡ c → (z : Router) × (router_at w q ≡ Some z) × (x.out_queue.current ≡ z.out_queue.current) ×
          (x.in_queue.current ≡ z.in_queue.current) × (x.outward ≡ z.outward) × (x.inward ≡ z.inward) ×
          ((m : ℕ) (i : Item) → item_at x.out_queue m ≡ Some i → (item_at z.out_queue m ≡ Some i) ⊎ ((m ≡ n) × (b ≡ false) × (q ≡ k))) ×
          ((m : ℕ) (i : Item) → item_at x.in_queue m ≡ Some i → (item_at z.in_queue m ≡ Some i) ⊎ ((m ≡ n) × (b ≡ true) × (q ≡ k)))
      go true e = let is : y ≡ x = grind (arith, d.touched.router q, e, at) in let key : q ≡ k = grind (arith, same_key_tells q k, e) in (
        r,
        ap (router_at w) key ∙ d.touched.here,
        ap (λ x. x.out_queue.current) (sym is) ∙ d.out.current,
        ap (λ x. x.in_queue.current) (sym is) ∙ d.inn.current,
        ap (λ x. x.outward) (sym is) ∙ d.alike.outward,
        ap (λ x. x.inward) (sym is) ∙ d.alike.inward,
        λ m i h. elim (d.out.items m i (ap (λ x. item_at x.out_queue m) is ∙ h))
            [ inl o ↦ inl o | inr o ↦ inr (o.0, grind (arith, o.1), key) ],
        λ m i h. elim (d.inn.items m i (ap (λ x. item_at x.in_queue m) is ∙ h)) [ inl o ↦ inl o | inr o ↦ inr (o.0, o.1, key) ],
      )
      go false e = (x, grind (arith, d.touched.router q, e, at), refl, refl, refl, refl, λ m i h. inl h, λ m i h. inl h)

  pub fits-filled : (from to i j : ℕ) (link : LinkId) (s : Side) (m : ℕ) → ItemFits w g from to j link s m →
      (is_made_before w from to j link s ≡ true → is_made_before v from to i link s ≡ true) → ItemFits v g from to i link s m
  fits-filled from to i j link s m fit made = record {
    recorded = recorded_same w v k r y g d.touched link ∙ fit.recorded;
    sender = fit.sender;
    receiver = fit.receiver;
    below_length = fit.below_length;
    was_sent = λ u h. fit.was_sent u (sym (sent_kept link (opposite s)) ∙ h);
    by_sender = sent_same w v k r y g d.touched d.alike link (opposite s) ∙ fit.by_sender;
    sender_gone = λ h. fit.sender_gone (sym (gone_same w v k r y g d.touched d.alike link (opposite s)) ∙ h);
    not_passed = λ p h. let q = taken_current link s p h in omega (arith, q.2, fit.not_passed q.0 q.1);
    behind = λ h. made (fit.behind (sym (awaited_same w v k r y g d.touched d.alike link s) ∙ h));
    not_awaited_low = fit.not_awaited_low;
    receiver_there = gone_same w v k r y g d.touched d.alike link s ∙ fit.receiver_there;
  }

  pub standing_filled : (link : LinkId) (s : Side) (x : Router) → standing_router (view v g link s) ≡ Some x →
      (z : Router) × (standing_router (view w g link s) ≡ Some z) × (x.out_queue.current ≡ z.out_queue.current)
  standing_filled link s x h = elim (seen w v k r y g d.touched d.alike link s) [
    | inl e ↦ (x, sym (ap standing_router e) ∙ h, refl)
    | inr e ↦ (r, grind (arith, e.old, standing-standing r), grind (arith, h, e.new, standing-standing y, d.out.current))
  ]
