-- Lengths by how far a bypass is, link ends, and sides.
use Rattle.std.specs.Prelude.{◌≡◌, ◌⊎◌, ◌≤◌, ℕ, suc, Bool, true, false, nat_le, if◌then◌else◌, Option, Some, None, refl}
use Rattle.std.proofs.Common.{arith, ap, inl, inr}
use Rattle.std.proofs.lemmas.Bool.Decides.{nat_tests}
use Rattle.ipcz_world.proofs.Vocabulary.{Side, A, B, LinkId, Central, Peripheral, LinkEnd, opposite, same_side, has_link, same_link, Router}
use Rattle.ipcz_world.proofs.Vocabulary.{router_has, World, Key, router_at, Records, is_begun, inner_link, side_router, bypass_of, proxy_side}
use Rattle.ipcz_world.proofs.Vocabulary.{side_length, known_from, Standing, is_attached, router_view, view_by, view, key_passes, passes, has_passed}
use Rattle.ipcz_world.proofs.Vocabulary.{outward_has, length_by, bypass_length, Awaited, awaited_view}
use Rattle.ipcz_router.specs.Router.{inward_has}
use Rattle.std.proofs.lemmas.Bool.{or_right}

pub opposite-twice : (s : Side) → opposite (opposite s) ≡ s
opposite-twice A = refl
opposite-twice B = refl

pub same_side-itself : (s : Side) → same_side s s ≡ true
same_side-itself A = refl
same_side-itself B = refl

pub same_side-opposite : (s : Side) → same_side s (opposite s) ≡ false
same_side-opposite A = refl
same_side-opposite B = refl

pub same_side-tells : (s t : Side) → same_side s t ≡ true → s ≡ t
same_side-tells A A e = refl
same_side-tells A B e = absurd (grind (arith, e))
same_side-tells B A e = absurd (grind (arith, e))
same_side-tells B B e = refl

-- each two sides are the same or opposite
pub side_is : (s t : Side) → ((same_side s t ≡ true) × (s ≡ t)) ⊎ ((same_side s t ≡ false) × (s ≡ opposite t))
side_is A A = inl (refl, refl)
side_is A B = inr (refl, refl)
side_is B A = inr (refl, refl)
side_is B B = inl (refl, refl)

pub same_link-itself : (l : LinkId) → same_link l l ≡ true
same_link-itself (Central i) = grind (arith, nat_tests)
same_link-itself (Peripheral n s) = grind (arith, nat_tests)

pub same_link-tells : (l m : LinkId) → same_link l m ≡ true → l ≡ m
same_link-tells (Central i) (Central j) e = let n : i ≡ j = grind (arith, e, nat_tests) in ap Central n
same_link-tells (Central i) (Peripheral n s) e = absurd (grind (arith, e))
same_link-tells (Peripheral n s) (Central i) e = absurd (grind (arith, e))
same_link-tells (Peripheral n s) (Peripheral m t) e = let a : n ≡ m = grind (arith, e, nat_tests) in let b : s ≡ t =
    grind (arith, e, nat_tests) in λ i. Peripheral (a i) (b i)

-- a link end that is there, of this link at this side
pub record HasEnd (t : Option LinkEnd) (link : LinkId) (s : Side) : Type 0 where
  pub end : LinkEnd
  pub there : t ≡ Some end
  pub on_link : end.link ≡ link
  pub at_side : end.side ≡ s

pub has_link-tells : (t : Option LinkEnd) (link : LinkId) (s : Side) → has_link t link s ≡ true → HasEnd t link s
unfolding has_link
has_link-tells None link s h = absurd (grind (arith, h))
has_link-tells (Some e) link s h = record {
  end = e;
  there = refl;
  on_link = same_link-tells e.link link (grind (arith, h));
  at_side =
      same_side-tells e.side s (grind (arith, h));
}

pub has_link-some : (e : LinkEnd) (link : LinkId) (s : Side) → e.link ≡ link → e.side ≡ s → has_link (Some e) link s ≡ true
unfolding has_link
has_link-some e link s l t = rw (l, t, same_link-itself link, same_side-itself s) refl

pub has_link-none : (link : LinkId) (s : Side) → has_link None link s ≡ false
unfolding has_link
has_link-none link s = refl

-- a test of a router that stands there
pub passed : (w : World) (q : Key) (y : Router) (test : Router → Bool) → router_at w q ≡ Some y → key_passes w (Some q) test ≡ test y
unfolding key_passes passes
passed w q y test e = rw e refl

pub is_attached-outward : (link : LinkId) (s : Side) (y : Router) (i : ℕ) → link ≡ Central i → is_attached link s y ≡ outward_has y link s
unfolding is_attached
is_attached-outward link s y i e = rw e refl

pub is_attached-central : (i : ℕ) (s : Side) (y : Router) → is_attached (Central i) s y ≡ outward_has y (Central i) s
unfolding is_attached
is_attached-central i s y = refl

pub is_attached-proxy : (p : Key) (y : Router) → is_attached (inner_link p) A y ≡ inward_has y (inner_link p) A
unfolding is_attached
is_attached-proxy p y = refl

pub is_attached-inner : (p : Key) (y : Router) → is_attached (inner_link p) B y ≡ outward_has y (inner_link p) B
unfolding is_attached
is_attached-inner p y = refl

pub view-standing : (w : World) (g : Records) (link : LinkId) (s : Side) (q : Key) (y : Router) → side_router g link s ≡ Some q →
    router_at w q ≡ Some y → is_attached link s y ≡ true → view w g link s ≡ Standing y
unfolding view_by router_view
view-standing w g link s q y known here on = rw (known, here, on) refl

pub view-awaited : (w : World) (g : Records) (i : ℕ) (s : Side) → side_router g (Central i) s ≡ None → view w g (Central i) s ≡ Awaited
unfolding view_by awaited_view
view-awaited w g i s none = rw none refl

pub length-old : (g : Records) (o : ℕ) (s : Side) → is_begun (g.bypass o) ≡ true →
    side_length g (Central o) s ≡ (if same_side s (proxy_side g o) then known_from 3 (g.bypass o).stage (g.bypass o).taken_at else
    known_from 3 (g.bypass o).stage (g.bypass o).accepted_at)
unfolding length_by bypass_length bypass_of
length-old g o s begun = rw begun refl

pub length-proxy : (g : Records) (p : Key) (o : ℕ) → (g.peripheral p).by ≡ Some o →
    side_length g (inner_link p) A ≡ known_from 3 (g.bypass o).stage (g.bypass o).accepted_at
unfolding length_by bypass_length bypass_of
length-proxy g p o by = rw by refl

pub length-inner : (g : Records) (p : Key) (o : ℕ) → (g.peripheral p).by ≡ Some o →
    side_length g (inner_link p) B ≡ known_from 2 (g.bypass o).stage (g.bypass o).taken_at
unfolding length_by bypass_length bypass_of
length-inner g p o by = rw by refl

pub length-live : (g : Records) (i : ℕ) (s : Side) → is_begun (g.bypass i) ≡ false → side_length g (Central i) s ≡ None
unfolding length_by bypass_of
length-live g i s live = rw live refl

pub known_from-yes : (first stage n : ℕ) → first ≤ stage → known_from first stage n ≡ Some n
unfolding known_from
known_from-yes first stage n h = let e : nat_le first stage ≡ true = grind (arith, h, nat_tests) in rw e refl

pub known_from-no : (first stage n : ℕ) → suc stage ≤ first → known_from first stage n ≡ None
unfolding known_from
known_from-no first stage n h = let e : nat_le first stage ≡ false = grind (arith, h, nat_tests) in rw e refl

pub has_passed-none : (n : ℕ) → has_passed None n ≡ false
unfolding has_passed
has_passed-none n = refl

pub has_passed-some : (length n : ℕ) → has_passed (Some length) n ≡ nat_le length n
unfolding has_passed
has_passed-some length n = refl

pub length-none : (g : Records) (p : Key) (s : Side) → (g.peripheral p).by ≡ None → side_length g (inner_link p) s ≡ None
unfolding length_by bypass_of
length-none g p s by = rw by refl

pub has_attached : (link : LinkId) (s : Side) (r : Router) → is_attached link s r ≡ true → router_has r link s ≡ true
unfolding is_attached
has_attached (Central i) s r h = grind (arith, h)
has_attached (Peripheral n x) A r h = or_right (outward_has r (Peripheral n x) A) (inward_has r (Peripheral n x) A) h
has_attached (Peripheral n x) B r h = grind (arith, h)
