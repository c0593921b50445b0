-- What a link's side shows before and after a router has changed its links and flags.
use Rattle.std.specs.Prelude.{◌≡◌, ◌≢◌, ◌⊎◌, Bool, true, false, if◌then◌else◌, Option, Some, None, option_map, refl}
use Rattle.std.proofs.Common.{arith, ap, ◌∙◌, inl, inr}
use Rattle.ipcz_world.proofs.Vocabulary.{Side, A, B, End, LinkId, Central, Peripheral, Router, World, Key, same_key, router_at, Records, side_router}
use Rattle.ipcz_world.proofs.Vocabulary.{side_end, terminal_descriptor, Standing, is_attached, router_view, view_by, view, sending_queue, fed_queue}
use Rattle.ipcz_world.proofs.Vocabulary.{next_sent, taking_queue, is_gone, is_awaited, passes, key_passes, standing_router, awaited_view}
use Rattle.ipcz_world.proofs.Vocabulary.{may_have_sent}
use Rattle.ipcz_world.proofs.frames.Frames.{same_key_tells}
use Rattle.ipcz_world.specs.Standing.{View, Gone}
use Rattle.ipcz_world.proofs.frames.Unmoved.{IsLike, Changed, Agree, side_end-agree}

-- two views of a link's side that show the same but for the router's links and flags
pub record IsSameView (link : LinkId) (s : Side) (v u : View) : Type 0 where
  pub next : next_sent link s v ≡ next_sent link s u
  pub taking : taking_queue link s v ≡ taking_queue link s u
  pub sent : may_have_sent v ≡ may_have_sent u
  pub gone : is_gone v ≡ is_gone u
  pub awaited : is_awaited v ≡ is_awaited u
  pub out_queue : option_map (λ q. q.out_queue) (standing_router v) ≡ option_map (λ q. q.out_queue) (standing_router u)

same_view : (link : LinkId) (s : Side) (v u : View) → v ≡ u → IsSameView link s v u
same_view link s v u e = record {
  next = ap (next_sent link s) e;
  taking = ap (taking_queue link s) e;
  sent = ap may_have_sent e;
  gone = ap is_gone e;
  awaited = ap is_awaited e;
  out_queue = ap (λ t. option_map (λ q. q.out_queue) (standing_router t)) e;
}

sending-like : (link : LinkId) (s : Side) (r x : Router) → IsLike r x → sending_queue link s x ≡ sending_queue link s r
unfolding sending_queue
sending-like (Central i) s r x like = like.out_queue
sending-like (Peripheral n p) A r x like = like.in_queue
sending-like (Peripheral n p) B r x like = like.out_queue

fed-like : (link : LinkId) (s : Side) (r x : Router) → IsLike r x → fed_queue link s x ≡ fed_queue link s r
unfolding fed_queue
fed-like (Central i) s r x like = like.in_queue
fed-like (Peripheral n p) A r x like = like.out_queue
fed-like (Peripheral n p) B r x like = like.in_queue

like_view : (link : LinkId) (s : Side) (r x : Router) → IsLike r x → IsSameView link s (Standing x) (Standing r)
unfolding next_sent taking_queue may_have_sent is_gone is_awaited standing_router
like_view link s r x like = record {
  next = ap (λ q. Some q.current) (sending-like link s r x like);
  taking = ap Some (fed-like link s r x like);
  sent = refl;
  gone = refl;
  awaited = refl;
  out_queue = ap Some like.out_queue;
}

router_view-like : (link : LinkId) (s : Side) (r x : Router) → IsLike r x → is_attached link s x ≡ is_attached link s r →
    IsSameView link s (router_view link s (Some x)) (router_view link s (Some r))
unfolding router_view
router_view-like link s r x like e = go (is_attached link s x) (is_attached link s r) e
  where
    go : (a c : Bool) → a ≡ c → IsSameView link s (if a then Standing x else Gone) (if c then Standing r else Gone)
    go true true p = like_view link s r x like
    go true false p = absurd (grind (arith, p))
    go false true p = absurd (grind (arith, p))
    go false false p = same_view link s Gone Gone refl

module _ (w v : World) (g h : Records) (k : Key) (r x : Router) (c : Changed w v k r x) (terminal : (e : End) → h.terminal e ≡ g.terminal e)
    (like : IsLike r x) where
  -- a side that has the same router and end shows the same, if the changed router has it if it did before
  pub view-kept-at : (link : LinkId) (s : Side) → side_end h link s ≡ side_end g link s → side_router h link s ≡ side_router g link s →
      (side_router g link s ≡ Some k → is_attached link s x ≡ is_attached link s r) →
      IsSameView link s (view v h link s) (view w g link s)
  unfolding view_by
  view-kept-at link s ends e attached = rw e (go (side_router g link s) attached)
    where
      at : (q : Key) → ((same_key q k ≡ true) × (q ≡ k)) ⊎ ((same_key q k ≡ false) × (q ≢ k)) →
          (Some q ≡ Some k → is_attached link s x ≡ is_attached link s r) →
          IsSameView link s (router_view link s (router_at v q)) (router_view link s (router_at w q))
      at q (inl t) j = let p : router_at v q ≡ Some x = grind (arith, c.router q, t) in let p' : router_at w q ≡ Some r =
          grind (arith, c.here, t) in
          rw (p, p') (router_view-like link s r x like (j (ap Some t.1)))
      at q (inr t) j = same_view link s _ _ (ap (router_view link s) (grind (arith, c.router q, t)))

      go : (q : Option Key) → (q ≡ Some k → is_attached link s x ≡ is_attached link s r) →
          IsSameView link s (view_by v h link s q) (view_by w g link s q)
      go None j = same_view link s _ _ (ap (λ t. awaited_view link (terminal_descriptor t))
          (terminal (side_end h link s) ∙ ap g.terminal ends))
      go (Some q) j = at q (same_key_tells q k) j

pub view-kept : (w v : World) (g h : Records) (k : Key) (r x : Router) (c : Changed w v k r x) (a : Agree g h) (like : IsLike r x)
    (link : LinkId) (s : Side) → side_router h link s ≡ side_router g link s →
    (side_router g link s ≡ Some k → is_attached link s x ≡ is_attached link s r) → IsSameView link s (view v h link s) (view w g link s)
view-kept w v g h k r x c a like link s e attached = view-kept-at w v g h k r x c a.terminal like link s (side_end-agree g h a link s) e
    attached

-- a router that stands there and passes a test
pub record Stood (w : World) (q : Key) (test : Router → Bool) : Type 0 where
  pub router : Router
  pub here : router_at w q ≡ Some router
  pub passed : test router ≡ true

pub stood : (w : World) (q : Key) (test : Router → Bool) → key_passes w (Some q) test ≡ true → Stood w q test
unfolding key_passes passes
stood w q test e = go (router_at w q) refl e
  where
    go : (t : Option Router) → router_at w q ≡ t → passes t test ≡ true → Stood w q test
    go None p e = absurd (grind (arith, e))
    go (Some y) p e = record { router = y; here = p; passed = e }
