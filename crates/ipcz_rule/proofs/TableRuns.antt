-- Runs of steps of the table are runs of turns of the shown world.
use Rattle.std.specs.Prelude.{◌≡◌, ◌≢◌, ◌≤◌, ℕ, Bool, List, [], ◌∷◌, ◌++◌, slice_index, refl}
use Rattle.std.proofs.Common.{arith, ap, ◌∙◌, sym, subst}
use mathlib.Core.Logic.{dite}
use native.Mathlib.Decide.{ℕ_discrete}
use Rattle.ipcz_word.specs.Layout.{bits_of}
use Rattle.ipcz_node.specs.declared.act.Act.{Act}
use Rattle.ipcz_world.specs.World.{World, word_at}
use Rattle.ipcz_world.specs.Books.{Books, after_turn}
use Rattle.ipcz_world.specs.Routes.{Routes, routes_after_turn}
use Rattle.ipcz_world.specs.Turns.{after_act, turn_event}
use Rattle.ipcz_world.specs.Ranks.{AreTurns}
use Rattle.ipcz_rule.specs.TableRuns.{TurnStep, Ruled, after_step, all_turns, StepsAreTurns, StepsAreBounded, OvertakenByActs}
use Rattle.ipcz_rule.proofs.RuleLaws.{rule_bounds_turns}

-- the same turns from a world that is the same
same-start : (w u v : World) (b c d : Books) (g i h : Routes) (ts : List (ℕ × Act)) → u ≡ w → c ≡ b → i ≡ g → AreTurns u c i ts v d h → AreTurns w b g ts v d h
same-start w u v b c d g i h ts e f k run =
    subst (λ x. AreTurns x b g ts v d h) e (subst (λ x. AreTurns u x g ts v d h) f (subst (λ x. AreTurns u c x ts v d h) k run))

-- turns, and turns from where they have come to
pub turns-append : (w u v : World) (b c d : Books) (g i h : Routes) (ts us : List (ℕ × Act)) → AreTurns w b g ts u c i → AreTurns u c i us v d h →
    AreTurns w b g (ts ++ us) v d h
turns-append w u v b c d g i h [] us run more = same-start w u v b c d g i h us run.0 run.1 run.2 more
turns-append w u v b c d g i h (t ∷ ts) us run more = (
  run.0,
  turns-append (after_act w t.0 t.1) u v (after_turn w b t.0 (turn_event w t.0 t.1)) c d (routes_after_turn w g t.0 (turn_event w t.0 t.1)) i h ts us
      run.1 more,
)

pub steps_are_turns : StepsAreTurns
steps_are_turns count size alone p q [] run =
    (ap (λ (x : Ruled count size alone). x.1.rules.world) run, ap (λ (x : Ruled count size alone). x.1.rules.books) run, ap (λ (x : Ruled count size alone). x.1.rules.routes) run)
steps_are_turns count size alone p q (turns ∷ steps) run =
    let t : TurnStep count size alone p.0 turns = run.0 in
    let after : Ruled count size alone = after_step count size alone p turns t in
    let done = t.allowed p.0 p.1 refl t.there t.small in
    turns-append p.1.rules.world after.1.rules.world q.1.rules.world p.1.rules.books after.1.rules.books q.1.rules.books p.1.rules.routes after.1.rules.routes q.1.rules.routes turns (all_turns steps)
    (subst (λ ts. AreTurns p.1.rules.world p.1.rules.books p.1.rules.routes ts after.1.rules.world after.1.rules.books after.1.rules.routes) t.is done.3.1)
    (steps_are_turns count size alone after q steps run.1)

pub steps_are_bounded : StepsAreBounded
steps_are_bounded count size alone p q steps c rated run =
    rule_bounds_turns count size p.1.single p.1.rules c (all_turns steps) q.1.rules.world q.1.rules.books q.1.rules.routes rated (steps_are_turns count size alone p q steps run)

-- what stands at a link or in the claim count is what the world shows
same-number : (count size i : ℕ) (alone : Bool) (p q : Ruled count size alone) → i ≤ size → q.1.rules.world ≡ p.1.rules.world → slice_index q.0.words i ≡ slice_index p.0.words i
same-number count size i alone p q l same = dite (ℕ_discrete i size)
    (λ e. number q e ∙ (ap (λ (w : World). w.claimed) same ∙ sym (number p e)))
    (λ ne. link q ne ∙ (ap (λ (w : World). bits_of (word_at w i)) same ∙ sym (link p ne)))
  where
    number : (x : Ruled count size alone) → i ≡ size → slice_index x.0.words i ≡ x.1.rules.world.claimed
    number x e = x.1.folds.words i (omega (arith, l)) ∙ (ap (slice_index x.1.single.words) (e ∙ sym x.1.rules.words) ∙ x.1.rules.shows.claims)

    link : (x : Ruled count size alone) → i ≢ size → slice_index x.0.words i ≡ bits_of (word_at x.1.rules.world i)
    link x ne = x.1.folds.words i (omega (arith, l)) ∙ x.1.rules.shows.links i (let z = x.1.rules.words in omega (arith, z, l, ne))

pub overtaken_by_acts : OvertakenByActs
overtaken_by_acts count size i alone p q steps run l apart none =
    let turns = subst (λ ts. AreTurns p.1.rules.world p.1.rules.books p.1.rules.routes ts q.1.rules.world q.1.rules.books q.1.rules.routes) none (steps_are_turns count size alone p q steps run) in
    apart (same-number count size i alone p q l turns.0)
