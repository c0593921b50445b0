-- Who stands at a link's side if one router changes and its links don't.
use Rattle.std.specs.Prelude.{◌≡◌, ◌⊎◌, Bool, true, false, Option, Some, None, refl}
use Rattle.std.proofs.Common.{arith, ◌∙◌, inl, inr}
use Rattle.ipcz_world.proofs.Vocabulary.{Side, A, B, LinkId, Central, Peripheral, Router, World, Key, same_key, router_at, Records, side_router}
use Rattle.ipcz_world.proofs.Vocabulary.{side_end, terminal_descriptor, Standing, view, view_by, router_view, is_attached, awaited_view}
use Rattle.ipcz_world.proofs.frames.Frames.{same_key_tells}
use Rattle.ipcz_world.specs.Standing.{Gone}
use Rattle.ipcz_world.proofs.frames.Touching.{IsTouched, IsAlike}

pub attached_same : (r y : Router) → IsAlike r y → (link : LinkId) (s : Side) → is_attached link s y ≡ is_attached link s r
unfolding is_attached
attached_same r y a (Central i) s = grind (arith, a.outward)
attached_same r y a (Peripheral n x) A = grind (arith, a.inward)
attached_same r y a (Peripheral n x) B = grind (arith, a.outward)

-- the router stood at this side before, and the other stands there now
pub record IsSwapped (w v : World) (g : Records) (k : Key) (r y : Router) (link : LinkId) (s : Side) : Type 0 where
  pub old : view w g link s ≡ Standing r
  pub new : view v g link s ≡ Standing y
  pub attached : is_attached link s r ≡ true
  pub router : side_router g link s ≡ Some k

view-attached : (link : LinkId) (s : Side) (r : Router) → is_attached link s r ≡ true → router_view link s (Some r) ≡ Standing r
unfolding router_view
view-attached link s r h = grind (arith, h)

pub view-apart : (link : LinkId) (s : Side) (r : Router) → is_attached link s r ≡ false → router_view link s (Some r) ≡ Gone
unfolding router_view
view-apart link s r h = grind (arith, h)

pub view_by-known : (w : World) (g : Records) (link : LinkId) (s : Side) (k : Key) →
    view_by w g link s (Some k) ≡ router_view link s (router_at w k)
unfolding view_by
view_by-known w g link s k = refl

pub view_by-unknown : (w : World) (g : Records) (link : LinkId) (s : Side) →
    view_by w g link s None ≡ awaited_view link (terminal_descriptor (g.terminal (side_end g link s)))
unfolding view_by
view_by-unknown w g link s = refl

-- a side is seen as before, or the changed router stands there
pub seen : (w v : World) (k : Key) (r y : Router) (g : Records) → IsTouched w v k r y → IsAlike r y → (link : LinkId) (s : Side) →
    (view v g link s ≡ view w g link s) ⊎ IsSwapped w v g k r y link s
seen w v k r y g t a link s = go (side_router g link s) refl
  where
    standing : (q : Key) → side_router g link s ≡ Some q → (b : Bool) → same_key q k ≡ b → (c : Bool) → is_attached link s r ≡ c →
        (view v g link s ≡ view w g link s) ⊎ IsSwapped w v g k r y link s
    standing q e true h true c = inr (record {
      old = grind (arith, e, h, c, t.here, same_key_tells q k, view_by-known w g link s q, view-attached link s r c);
      new = grind (arith, e, h, t.router q, view_by-known v g link s q, view-attached link s y (attached_same r y a link s ∙ c));
      attached = c;
      router = grind (arith, e, h, same_key_tells q k);
    })
    standing q e true h false c = inl (grind (
      arith,
      e,
      h,
      c,
      t.here,
      t.router q,
      same_key_tells q k,
      view_by-known w g link s q,
      view_by-known v g link s q,
      view-apart link s r c,
      view-apart link s y (attached_same r y a link s ∙ c),
    ))
    standing q e false h c d = inl (grind (arith, e, h, t.router q, view_by-known w g link s q, view_by-known v g link s q))

    go : (o : Option Key) → side_router g link s ≡ o → (view v g link s ≡ view w g link s) ⊎ IsSwapped w v g k r y link s
    go None e = inl (grind (arith, e, view_by-unknown w g link s, view_by-unknown v g link s))
    go (Some q) e = standing q e (same_key q k) refl (is_attached link s r) refl
