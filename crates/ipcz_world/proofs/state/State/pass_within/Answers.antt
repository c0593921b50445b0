use Rattle.std.specs.Prelude.{nat_eq, true}
use Rattle.std.proofs.Common.{◌≡◌, ◌∙◌, ◌≤◌, ◌+◌, ◌⊎◌, ℕ, inl, inr, sym, subst, refl, arith}
use Rattle.std.proofs.lemmas.Bool.Decides.{nat_tests}
use Rattle.ipcz_world.proofs.Vocabulary.{World, next_node, Walk}
use Rattle.ipcz_world.specs.FastPath.{IsLap}
use Rattle.ipcz_world.specs.Visiting.{IsPlace}
use Rattle.ipcz_world.proofs.code.Visiting.{next-place, on_way-start, walked}
use Rattle.ipcz_world.proofs.state.State.pass_within.Goals.{then-more-eq4, else-more-eq4}
use Rattle.ipcz_world.proofs.state.State.pass_within.Goals as goal

at_most : (a : ℕ) → IsLap a → a ≤ 4
at_most a lap = grind arith

-- how far the first item came is a lap, too
first_lap : (a : ℕ) → (a ≡ 0) ⊎ (a ≡ 3) ⊎ (a ≡ 4) → IsLap a
first_lap a (inl e) = inl e
first_lap a (inr (inl e)) = inr (inr (inl e))
first_lap a (inr (inr e)) = inr (inr (inr e))

-- a lap leads on, or nothing was done
led_on : (w0 w u : World) (n acts a : ℕ) → IsLap a → (a ≡ 0 → u ≡ w) →
    (1 ≤ a → (v : World) (done from : ℕ) → Walk v w done from → IsPlace w from → Walk v u (done + a) (next_node u n)) →
    Walk w0 w acts (next_node w n) → Walk w0 u (acts + a) (next_node u n)
led_on w0 w u n acts a (inl e) none more walk =
    subst (λ k. Walk w0 u k (next_node u n)) (omega (arith, e)) (subst (λ v. Walk w0 v acts (next_node v n)) (sym (none e)) walk)
led_on w0 w u n acts a (inr lap) none more walk = more (some lap) w0 acts (next_node w n) walk (next-place w w n refl)
  where
    some : (a ≡ 1) ⊎ (a ≡ 3) ⊎ (a ≡ 4) → 1 ≤ a
    some one = grind arith

pub loop-goes_on-init : goal.loop-goes_on-init
loop-goes_on-init c =
    let s = c.requires.sends in
    let on = c.pass_at-acts.ensures in
    let a = c.pass_at-acts.result in
    let low : 3 ≤ a = on.begun s.0 s.1 s.2 s.3 in
    let high : a ≤ 4 = at_most a (first_lap a on.acts) in
    record {
      begun = low;
      within = omega (arith, high, c.requires.enough);
      passing = λ e. on.passing (grind (arith, e, nat_tests));
      here = omega (arith, c.requires.passing.here, on.count);
      walk = subst (λ k. Walk c.args.self.now.world c.pass_at-acts.new.self.world k (next_node c.pass_at-acts.new.self.world c.args.n)) (omega arith)
          (on.walk low c.args.self.now.world 0 0 (walked c.args.self.now.world c.args.self.now.world 0 0 (on_way-start c.args.self.now.world)) (inl refl));
    }

pub loop-goes_on-preserved : goal.loop-goes_on-preserved
loop-goes_on-preserved c =
    let held = c.loop-goes_on.invariant in
    let on = c.pass_or_rest-more.ensures in
    let a = c.pass_or_rest-more.result in
    let high : a ≤ 4 = at_most a on.acts in
    record {
      begun = omega (arith, held.begun);
      within = omega (arith, high, held.within, c.if-most-acts-ge4.true);
      passing = λ e. on.passing (elim c.if-more-eq4.branch [
        | then-more-eq4 w ↦ inl w.if-more-eq4.true
        | else-more-eq4 w ↦ let one : nat_eq a 1 ≡ true = sym w.goes_on-is ∙ e in inr (grind (arith, one, nat_tests))
      ]);
      here = omega (arith, held.here, on.count);
      walk = led_on c.args.self.now.world c.loop-goes_on.self.world c.pass_or_rest-more.new.self.world c.args.n c.loop-goes_on.acts a on.acts on.none on.walk held.walk;
    }
