-- In a quiet world no bypass is on its way, no side of a link is awaited, and no primary link is being bypassed.
use Rattle.ipcz_world.proofs.frames.RolesTell.{positions-in}
use Rattle.std.specs.Prelude.{◌≡◌, ◌≤◌, ℕ, Bool, true, false, nat_le, Option, Some, None}
use Rattle.std.specs.Prelude.{[], refl}
use Rattle.std.proofs.Common.{arith, ap, subst, ◌∙◌}
use Rattle.std.proofs.lemmas.Bool.Decides.{nat_tests}
use Rattle.ipcz_world.proofs.Vocabulary.{Side, LinkId, Central, Peripheral, LinkEnd, opposite, Router, World, Key, router_at, Books, Records}
use Rattle.ipcz_world.proofs.Vocabulary.{is_begun, is_recorded, flow, side_router, side_node, bypass_of, control_weight, of_bypass, Inv, is_made_by}
use Rattle.ipcz_world.proofs.Vocabulary.{IsQuiet}
use Rattle.ipcz_world.proofs.frames.Awaited.{awaited_made}
use Rattle.ipcz_world.proofs.frames.Flowing.{found}
use Rattle.ipcz_world.proofs.frames.Opened.{opened}
use Rattle.ipcz_world.proofs.lawful.OwedLaws.{one_of_four}
use Rattle.ipcz_world.proofs.lawful.Quiet.{nothing-moves, quiet-flow}

module _ (w : World) (b : Books) (g : Records) (law : Inv w b g) (quiet : IsQuiet w) where
  -- a bypass that has begun has ended
  pub settled : (o : ℕ) → is_begun (g.bypass o) ≡ true → (g.bypass o).stage ≡ 5
  unfolding control_weight
  settled o begun = go (nat_le (g.bypass o).stage 4) refl
    where
      first : 1 ≤ (g.bypass o).stage
      first = grind (arith, begun, nat_tests)

      go : (c : Bool) → nat_le (g.bypass o).stage 4 ≡ c → (g.bypass o).stage ≡ 5
      go false e = let l : 5 ≤ (g.bypass o).stage = grind (arith, e, nat_tests) in omega (arith, l, (law.bypasses o).stage)
      go true e =
          let l : (g.bypass o).stage ≤ 4 = grind (arith, e, nat_tests) in
          let weight : control_weight g (λ from to m. 1) o ≡ 1 = one_of_four (g.bypass o).stage first l in
          let t = found (λ from to. of_bypass g o (λ m. 1)) w (omega (arith, weight, law.controls.control o (λ from to m. 1))) in
          absurd (nothing-moves w quiet t.0 t.1 t.2 t.3 t.4)

  -- no side is awaited
  pub known_side : (link : LinkId) (s : Side) → is_recorded w g link ≡ true → (k : Key) × (side_router g link s ≡ Some k)
  known_side link s recorded = go (side_router g link s) refl
    where
      go : (o : Option Key) → side_router g link s ≡ o → (k : Key) × (side_router g link s ≡ Some k)
      go (Some k) e = (k, e)
      go None e = absurd (none_made (awaited_made w g link s law.stands law.bypasses law.controls (opened w b g law).moves recorded e))
        where
          none_made : is_made_by link s (flow w (side_node g link (opposite s)) (side_node g link s)) ≡ true → ⊥
          none_made h =
              let z : is_made_by link s [] ≡ true = subst (λ ms. is_made_by link s ms ≡ true)
              (quiet-flow w quiet (side_node g link (opposite s)) (side_node g link s)
              (law.counts.side_on_node link (opposite s) recorded)) h in cc

  -- an outward primary link isn't being bypassed
  pub primary_live : (k : Key) (r : Router) (e : LinkEnd) → router_at w k ≡ Some r → r.outward.primary ≡ Some e → bypass_of g e.link ≡ None
  unfolding bypass_of
  primary_live k r e here on = go e.link refl
    where
      go : (l : LinkId) → e.link ≡ l → bypass_of g e.link ≡ None
      go (Central i) q = ap (bypass_of g) q ∙ at (is_begun (g.bypass i)) refl
        where
          at : (c : Bool) → is_begun (g.bypass i) ≡ c → bypass_of g (Central i) ≡ None
          at false f = rw f refl
          at true f = absurd (omega (arith, settled i f, ((positions-in law).each k r here).primary_old e i on q f))
      go (Peripheral n x) q = ap (bypass_of g) q ∙ at (g.peripheral (record { node = n; serial = x })).by refl
        where
          at : (o : Option ℕ) → (g.peripheral (record { node = n; serial = x })).by ≡ o → bypass_of g (Peripheral n x) ≡ None
          at None f = f
          at (Some o) f = absurd (omega (
            arith,
            settled o (law.stands.by_begun (record { node = n; serial = x }) o f),
            ((positions-in law).each k r here).primary_inner e (record { node = n; serial = x }) o on q f,
          ))
