-- A link's side that is awaited is made by a message under way from the node of its other side.
use Rattle.ipcz_world.proofs.Vocabulary.{Side, A, B, End, LinkId, Central, Peripheral, Descriptor, Message, same_link, opposite, same_end, Router}
use Rattle.ipcz_world.proofs.Vocabulary.{World, Key, router_at, flow, Records, Terminal, At, is_linked, is_recorded, inner_link, side_router}
use Rattle.ipcz_world.proofs.Vocabulary.{side_node, proxy_side, across_side, terminal_descriptor, view, view_by, router_view, is_attached, is_awaited}
use Rattle.ipcz_world.proofs.Vocabulary.{IsUnderWay, makes, under_way, of_end, moves_of, total_list, Stands, BypassRecords, Controls, of_bypass}
use Rattle.ipcz_world.proofs.Vocabulary.{control_weight, inner_of, moving_link, Retired, Nowhere, Moving, key_at, is_made_by, move_weight}
use Rattle.std.specs.Prelude.{◌≡◌, ◌≤◌, ℕ, zero, suc, Bool, true, false, cond, ◌&&◌, Option, Some, None, is_some, refl, List, [], ◌∷◌}
use Rattle.std.specs.Prelude.{slice_get}
use Rattle.std.proofs.Common.{arith, ap, subst, ◌∙◌, sym}
use Rattle.std.proofs.lemmas.Bool.Decides.{nat_tests}
use Rattle.ipcz_base.specs.declared.message.Message.TheVariants as messages
use Rattle.ipcz_node.specs.Hands.{has_moved}
use Rattle.ipcz_world.proofs.frames.RecordRules.{record_rules, side_router-proxy}
use Rattle.ipcz_world.specs.Bypasses.{accept_of}
use Rattle.ipcz_world.proofs.frames.Opened.{OpenMoves}
use Rattle.ipcz_world.proofs.frames.Flowing.{same_way, found, made_within, total_list-found}
use Rattle.ipcz_world.proofs.facts.Lengths.{opposite-twice, same_link-tells}

-- a side that is awaited has no router yet
pub awaited_none : (w : World) (g : Records) (link : LinkId) (s : Side) → is_awaited (view w g link s) ≡ true → side_router g link s ≡ None
unfolding view_by router_view is_awaited
awaited_none w g link s h = go (side_router g link s) refl
  where
    there : (o : Option Router) → is_awaited (router_view link s o) ≡ true → ⊥
    there None e = grind (arith, e)
    there (Some r) e = test (is_attached link s r) refl e
      where
        test : (b : Bool) → is_attached link s r ≡ b → is_awaited (router_view link s (Some r)) ≡ true → ⊥
        test true a q = grind (arith, a, q)
        test false a q = grind (arith, a, q)

    go : (o : Option Key) → side_router g link s ≡ o → side_router g link s ≡ None
    go None e = e
    go (Some k) e = absurd (there (router_at w k) (grind (arith, e, h)))

-- what weighs a bypass's message is a message that weighs
about-weighs : (g : Records) (o : ℕ) (h : Message → ℕ) (m : Message) → 1 ≤ of_bypass g o h m → 1 ≤ h m
unfolding of_bypass
about-weighs g o h (messages.Item l s n x ms) e = absurd (omega (arith, e))
about-weighs g o h (messages.Flush l s) e = absurd (omega (arith, e))
about-weighs g o h other e = grind (arith, e)

-- counts the messages on a way that make a link's side
abbrev of_making : ℕ → ℕ → LinkId → Side → ℕ → ℕ → Message → ℕ
of_making a b link s from to m = cond (same_way from to a b && makes link s m) 1 0

made_by_one : (w : World) (a b : ℕ) (link : LinkId) (s : Side) (from to i : ℕ) (m : Message) → IsUnderWay w from to i m →
    1 ≤ of_making a b link s from to m → is_made_by link s (flow w a b) ≡ true
made_by_one w a b link s from to i m u one = go (same_way from to a b && makes link s m) refl one
  where
    go : (c : Bool) → (same_way from to a b && makes link s m) ≡ c → 1 ≤ cond c 1 0 → is_made_by link s (flow w a b) ≡ true
    go false e le = absurd (omega (arith, le))
    go true e le = let p : from ≡ a = grind (arith, e, nat_tests) in let q : to ≡ b = grind (arith, e, nat_tests) in
        made_within link s (flow w a b) i m (grind (arith, u.place, p, q)) (grind (arith, e))

expected-accept : (g : Records) (h : ℕ → ℕ → Message → ℕ) (o : ℕ) → (g.bypass o).stage ≡ 2 →
    control_weight g h o ≡ h (side_node g (inner_of g o) B) (side_node g (Central o) (across_side g o)) (accept_of g o)
unfolding control_weight
expected-accept g h o e = grind (arith, e, nat_tests)

makes-accept : (o i len : ℕ) (s : Side) → makes (Central i) s (messages.AcceptBypass o s i len) ≡ true
unfolding makes
makes-accept o i len A = grind (arith, nat_tests)
makes-accept o i len B = grind (arith, nat_tests)

-- what the records say of a central link whose router across is awaited
pub record IsHalf (g : Records) (c : ℕ) (s : Side) : Type 0 where
  pub old : ℕ
  pub stage : (g.bypass old).stage ≡ 2
  pub fresh : (g.bypass old).fresh ≡ c
  pub side : s ≡ across_side g old

pub half_known : (w : World) (g : Records) (c : ℕ) (s : Side) → Stands w g → BypassRecords w g → is_linked (g.owner c) ≡ true →
    (g.central c).router s ≡ None → IsHalf g c s
half_known w g c s stands law linked none = go (g.central c).born refl (stands.awaited c s linked none)
  where
    go : (o : Option ℕ) → (g.central c).born ≡ o → is_some (g.central c).born ≡ true → IsHalf g c s
    go None e some = absurd (grind (arith, e, some))
    go (Some o) e some = record {
      old = o;
      stage = stands.awaited_stage c s o linked none e;
      fresh = (law o).born_fresh c linked e;
      side =
          stands.awaited_side c s o linked none e;
    }

pub no_router : (n : ℕ) (o : Option ℕ) → key_at n o ≡ None → o ≡ None
no_router n None h = refl
no_router n (Some x) h = cc

made_central : (w : World) (g : Records) (c : ℕ) (s : Side) → Stands w g → BypassRecords w g → Controls w g → is_linked (g.owner c) ≡ true →
    side_router g (Central c) s ≡ None →
    is_made_by (Central c) s (flow w (side_node g (Central c) (opposite s)) (side_node g (Central c) s)) ≡ true
made_central w g c s stands law controls linked none =
    let half = half_known w g c s stands law linked (no_router ((g.central c).node s) ((g.central c).router s)
    (grind (arith, record_rules, none))) in let o = half.old in
    let a = side_node g (Central c) (opposite s) in let b = side_node g (Central c) s in
    let same : (accept_of g o) ≡ messages.AcceptBypass o s c (g.bypass o).taken_at = grind (arith, half.side, half.fresh) in
    let sender : side_node g (inner_of g o) B ≡ a = sym ((law o).fresh_inner_node (grind (arith, half.stage))) ∙ grind
    (arith, half.side, half.fresh, opposite-twice (proxy_side g o)) in
    let receiver : side_node g (Central o) (across_side g o) ≡ b =
    sym ((law o).fresh_across_node (grind (arith, half.stage))) ∙ grind (arith, half.side, half.fresh) in
    let one : under_way (λ from to. of_bypass g o (of_making a b (Central c) s from to)) w ≡ 1 =
    controls.control o (of_making a b (Central c) s) ∙ expected-accept g (of_making a b (Central c) s) o half.stage ∙
    grind (arith, sender, receiver, same, makes-accept o c (g.bypass o).taken_at s, nat_tests) in
    let f = found (λ from to. of_bypass g o (of_making a b (Central c) s from to)) w (omega (arith, one)) in
    made_by_one w a b (Central c) s f.0 f.1 f.2 f.3 f.4 (about-weighs g o (of_making a b (Central c) s f.0 f.1) f.3 f.5)

pub expected_move-moving : (h : Descriptor → ℕ) (d : Descriptor) → move_weight h (Moving d) ≡ h d
unfolding move_weight
expected_move-moving h d = refl

pub moving_known : (t : Terminal) (link : LinkId) → moving_link t ≡ Some link → (d : Descriptor) × (t ≡ Moving d) × (d.link ≡ link)
unfolding terminal_descriptor
moving_known Nowhere link h = cc
moving_known (At k) link h = cc
moving_known Retired link h = cc
moving_known (Moving d) link h = (d, refl, grind (arith, h))

has_moved-at : (link : LinkId) (ds : List Descriptor) (j : ℕ) (d : Descriptor) → slice_get ds j ≡ Some d → same_link d.link link ≡ true →
    has_moved link ds ≡ true
has_moved-at link [] j d e h = cc
has_moved-at link (x ∷ ds) zero d e h = let is : x ≡ d = grind (arith, e) in grind (arith, h, is)
has_moved-at link (x ∷ ds) (suc j) d e h = grind (arith, has_moved-at link ds j d e h)

makes-moved : (link : LinkId) (m : Message) (j : ℕ) (d : Descriptor) → slice_get (moves_of m) j ≡ Some d → same_link d.link link ≡ true →
    makes link B m ≡ true
unfolding makes moves_of
makes-moved link (messages.Item l s n x ms) j d e h = has_moved-at link ms j d e h
makes-moved link other j d e h = cc

-- counts the descriptors of a link
abbrev of_link : LinkId → Descriptor → ℕ
of_link link d = cond (same_link d.link link) 1 0

of_end-weighs : (e : End) (link : LinkId) (d : Descriptor) → 1 ≤ of_end e (of_link link) d → same_link d.link link ≡ true
of_end-weighs e link d h = go (same_end d.end e) (same_link d.link link) refl h
  where
    go : (a b : Bool) → same_link d.link link ≡ b → 1 ≤ cond a (cond b 1 0) 0 → same_link d.link link ≡ true
    go true true e le = e
    go true false e le = absurd (omega (arith, le))
    go false b e le = absurd (omega (arith, le))

made_inner : (w : World) (g : Records) (p : Key) → OpenMoves w g → is_recorded w g (inner_link p) ≡ true →
    side_router g (inner_link p) B ≡ None →
    is_made_by (inner_link p) B (flow w (side_node g (inner_link p) A) (side_node g (inner_link p) B)) ≡ true
made_inner w g p law recorded none =
    let t = moving_known (g.terminal (g.peripheral p).end) (inner_link p)
    (law.moving p recorded (no_router (g.peripheral p).node (g.peripheral p).router (grind (arith, record_rules, none)))) in
    let one : under_way (λ from to m. total_list (of_end (g.peripheral p).end (of_link (inner_link p))) (moves_of m)) w ≡ 1 =
    law.one (g.peripheral p).end (of_link (inner_link p)) ∙ ap (move_weight (of_link (inner_link p))) t.1 ∙ expected_move-moving
    (of_link (inner_link p)) t.0 ∙ grind (arith, t.2, nat_tests) in
    let f = found (λ from to m. total_list (of_end (g.peripheral p).end (of_link (inner_link p))) (moves_of m)) w (omega (arith, one)) in
    let x = total_list-found (of_end (g.peripheral p).end (of_link (inner_link p))) (moves_of f.3) f.5 in
    let same = of_end-weighs (g.peripheral p).end (inner_link p) x.1 x.3 in let is : x.1.link ≡ inner_link p =
    same_link-tells x.1.link (inner_link p) same in
    let from : side_node g (inner_link p) A ≡ f.0 = subst (λ l. side_node g l A ≡ f.0) is (law.sender f.0 f.1 f.2 x.0 f.3 x.1 f.4 x.2) in
    let to : side_node g (inner_link p) B ≡ f.1 = subst (λ l. side_node g l B ≡ f.1) is (law.receiver f.0 f.1 f.2 x.0 f.3 x.1 f.4 x.2) in
    made_within (inner_link p) B (flow w (side_node g (inner_link p) A) (side_node g (inner_link p) B)) f.2 f.3
    (grind (arith, from, to, f.4.place)) (makes-moved (inner_link p) f.3 x.0 x.1 x.2 same)

-- the message that makes an awaited side is under way from the other side
pub awaited_made : (w : World) (g : Records) (link : LinkId) (s : Side) → Stands w g → BypassRecords w g → Controls w g → OpenMoves w g →
    is_recorded w g link ≡ true → side_router g link s ≡ None →
    is_made_by link s (flow w (side_node g link (opposite s)) (side_node g link s)) ≡ true
awaited_made w g (Central c) s stands law controls moves h none = made_central w g c s stands law controls (grind (arith, record_rules, h)) none
awaited_made w g (Peripheral n x) A stands law controls moves h none =
    absurd (grind (arith, record_rules, none, side_router-proxy g (record { node = n; serial = x })))
awaited_made w g (Peripheral n x) B stands law controls moves h none = made_inner w g (record { node = n; serial = x }) moves h none
