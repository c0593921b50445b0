-- A caller's act at a terminal: its router and what its node's callers hold change, no message moves.
use Rattle.ipcz_world.proofs.frames.OfRecords.{holds, held_times, in_message, in_places}
use Rattle.std.specs.Prelude.{◌≡◌, ◌⊎◌, ◌≤◌, ◌<◌, ◌+◌, ℕ, Bool, true, false, cond, nat_eq, Some, refl}
use Rattle.std.specs.FinMap.{get, insert}
use Rattle.std.proofs.Common.{arith, ap, subst, ◌∙◌, sym, inl, inr}
use Rattle.std.proofs.lemmas.Bool.Decides.{nat_tests}
use Rattle.ipcz_world.proofs.Vocabulary.{End, has_end, Router, Node, outbox, World, Key, node_at, way, router_at, flow, set_node, Books}
use Rattle.ipcz_world.proofs.Vocabulary.{is_closed, Records, is_nowhere, Weight, in_router, names_end, times, HeldOnce, times_held}
use Rattle.ipcz_world.proofs.frames.Frames.{node-set_node, word-set_node, mail-set_node, claimed-set_node, size-set_node, count-set_node}
use Rattle.ipcz_world.proofs.frames.Touching.{IsTouched, HasSameHands}
use Rattle.ipcz_world.proofs.frames.Changing.{IsNodeChanged, IsNodeAlike, touched_by, flow_is}
use Rattle.ipcz_world.proofs.frames.Weighing.{in_places-is, in_nodes-changed, in_node-changed, under_way-same}
use Rattle.ipcz_world.proofs.frames.Holding.{times_held-changed}
use Rattle.ipcz_world.proofs.frames.Booking.{flag}

-- the node has another router under the serial, and is else as before but for what is held and pending
pub record IsCall (w : World) (k : Key) (r y : Router) (x : Node) : Type 0 where
  pub here : router_at w k ≡ Some r
  pub alike : IsNodeAlike (node_at w k.node) x
  pub routers : x.routers ≡ insert (node_at w k.node).routers k.serial y
  pub boxes : x.outboxes ≡ (node_at w k.node).outboxes
  pub hand : x.hand ≡ (node_at w k.node).hand

pub router_here : (w : World) (k : Key) (r : Router) → router_at w k ≡ Some r → get (node_at w k.node).routers k.serial ≡ Some r
unfolding router_at
router_here w k r h = h

module _ (w : World) (k : Key) (r y : Router) (x : Node) (is : IsCall w k r y x) where
  pub call-changed : IsNodeChanged w (set_node w k.node x) k.node x
  call-changed = record {
    node = λ j. node-set_node w k.node x j;
    word = λ i. word-set_node w k.node x i;
    claimed =
        claimed-set_node w k.node x;
    size = size-set_node w k.node x;
    count = count-set_node w k.node x;
  }

  pub call-touched : IsTouched w (set_node w k.node x) k r y
  call-touched = touched_by w (set_node w k.node x) k r y x call-changed is.alike is.routers is.here

  pub call-hands : HasSameHands w (set_node w k.node x)
  call-hands = record { hand = λ j. grind (arith, node-set_node w k.node x j, is.hand, nat_tests); mail = λ i. mail-set_node w k.node x i }

  box : (from to : ℕ) → outbox (node_at (set_node w k.node x) from) to ≡ outbox (node_at w from) to
  box from to = grind (arith, node-set_node w k.node x from, is.boxes, nat_tests)

  pub call-flows : (from to : ℕ) → flow (set_node w k.node x) from to ≡ flow w from to
  call-flows from to = flow_is (set_node w k.node x) from to ∙ grind
      (arith, box from to, mail-set_node w k.node x (way w from to), count-set_node w k.node x) ∙ sym (flow_is w from to)

  pub call-places : (f : Weight) (g : Records) → k.node < w.count →
      in_places f g (set_node w k.node x) + in_router f r ≡ in_places f g w + in_router f y
  call-places f g l =
      omega (
        arith,
        in_places-is f g w,
        in_places-is f g (set_node w k.node x),
        in_nodes-changed f g w (set_node w k.node x) k.node x call-changed l,
        in_node-changed f g (node_at w k.node) x k.serial r y (router_here w k r is.here) is.routers is.alike.strays,
        under_way-same (λ from to m. in_message f g m) w (set_node w k.node x) call-changed.count call-flows,
      )

  pub call-held : (m : ℕ) (d : End) → (holds d x.held ≡ true → holds d (node_at w k.node).held ≡ true) →
      holds d (node_at (set_node w k.node x) m).held ≡ true → holds d (node_at w m).held ≡ true
  call-held m d less h = go (nat_eq m k.node) refl (node-set_node w k.node x m)
    where
      go : (b : Bool) → nat_eq m k.node ≡ b → node_at (set_node w k.node x) m ≡ cond b x (node_at w m) → holds d (node_at w m).held ≡ true
      go true e at = let is : m ≡ k.node = grind (arith, e, nat_tests) in
          subst (λ j. holds d (node_at w j).held ≡ true) (sym is) (less (ap (λ (z : Node). holds d z.held) (sym at) ∙ h))
      go false e at = ap (λ (z : Node). holds d z.held) (sym at) ∙ h

  pub call-pending : (m : ℕ) (d : End) → (has_end d x.pending ≡ true → has_end d (node_at w k.node).pending ≡ true) →
      has_end d (node_at (set_node w k.node x) m).pending ≡ true → has_end d (node_at w m).pending ≡ true
  call-pending m d less h = go (nat_eq m k.node) refl (node-set_node w k.node x m)
    where
      go : (b : Bool) → nat_eq m k.node ≡ b → node_at (set_node w k.node x) m ≡ cond b x (node_at w m) →
          has_end d (node_at w m).pending ≡ true
      go true e at = let is : m ≡ k.node = grind (arith, e, nat_tests) in
          subst (λ j. has_end d (node_at w j).pending ≡ true) (sym is) (less (ap (λ (z : Node). has_end d z.pending) (sym at) ∙ h))
      go false e at = ap (λ (z : Node). has_end d z.pending) (sym at) ∙ h

  -- what is held or pending after it was so before, or is so at this node
  pub call-held_more : (m : ℕ) (d : End) → holds d (node_at (set_node w k.node x) m).held ≡ true →
      (holds d (node_at w m).held ≡ true) ⊎ ((m ≡ k.node) × (holds d x.held ≡ true))
  call-held_more m d h = go (nat_eq m k.node) refl (node-set_node w k.node x m)
    where
      go : (b : Bool) → nat_eq m k.node ≡ b → node_at (set_node w k.node x) m ≡ cond b x (node_at w m) →
          (holds d (node_at w m).held ≡ true) ⊎ ((m ≡ k.node) × (holds d x.held ≡ true))
      go true e at = inr (grind (arith, e, nat_tests), ap (λ (z : Node). holds d z.held) (sym at) ∙ h)
      go false e at = inl (ap (λ (z : Node). holds d z.held) (sym at) ∙ h)

  pub call-pending_more : (m : ℕ) (d : End) → has_end d (node_at (set_node w k.node x) m).pending ≡ true →
      (has_end d (node_at w m).pending ≡ true) ⊎ ((m ≡ k.node) × (has_end d x.pending ≡ true))
  call-pending_more m d h = go (nat_eq m k.node) refl (node-set_node w k.node x m)
    where
      go : (b : Bool) → nat_eq m k.node ≡ b → node_at (set_node w k.node x) m ≡ cond b x (node_at w m) →
          (has_end d (node_at w m).pending ≡ true) ⊎ ((m ≡ k.node) × (has_end d x.pending ≡ true))
      go true e at = inr (grind (arith, e, nat_tests), ap (λ (z : Node). has_end d z.pending) (sym at) ∙ h)
      go false e at = inl (ap (λ (z : Node). has_end d z.pending) (sym at) ∙ h)

  pub call-times : (d : End) → k.node < w.count → times_held (set_node w k.node x) d +
      (held_times d (node_at w k.node).held + times d (node_at w k.node).pending) ≡ times_held w d +
      (held_times d x.held + times d x.pending)
  call-times d l = times_held-changed w (set_node w k.node x) k.node x d call-changed l

abbrev pub missing : Bool → ℕ
missing c = cond c 0 1

pub cond_most : (b : Bool) → cond b 0 1 ≤ 1
cond_most true = omega arith
cond_most false = omega arith

-- an end is held or pending once at most, and not if it is closed
pub held_most : (w : World) (b : Books) (g : Records) (e : End) → HeldOnce w b g → times_held w e + flag (is_closed b e) ≤ 1
held_most w b g e law = omega (arith, law.once e, cond_most (is_nowhere (g.terminal e)))

pub placed_most : (w : World) (b : Books) (g : Records) (e : End) → HeldOnce w b g → in_places (names_end e) g w + times_held w e ≤ 1
placed_most w b g e law = omega (arith, law.once e, cond_most (is_nowhere (g.terminal e)))

-- an end that isn't opened is held nowhere
pub nowhere_unheld : (w : World) (b : Books) (g : Records) (e : End) → HeldOnce w b g → is_nowhere (g.terminal e) ≡ true →
    times_held w e ≡ 0
nowhere_unheld w b g e law h = omega (arith, law.once e, ap missing h)

pub held_unclosed : (w : World) (b : Books) (g : Records) (e : End) → HeldOnce w b g → 1 ≤ times_held w e → is_closed b e ≡ false
held_unclosed w b g e law one = go (is_closed b e) refl
  where
    go : (c : Bool) → is_closed b e ≡ c → is_closed b e ≡ false
    go true h = absurd (omega (arith, held_most w b g e law, one, ap flag h))
    go false h = h
