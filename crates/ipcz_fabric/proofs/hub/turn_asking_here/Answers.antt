use Rattle.std.proofs.Common.{ℕ, Bool, true, false, MatchBool, refl, subst, sym, ◌∙◌, ◌≡◌}
use Rattle.ipcz_rule.specs.declared.history.Call.TheVariants as calls
use Rattle.ipcz_cell.proofs.Unfolding.{shown_word}
use Rattle.ipcz_cell.specs.Retries.{Retries}
use Rattle.ipcz_fabric.specs.Replays.{Extends, Leaves}
use Rattle.ipcz_fabric.proofs.Replaying.{same_id}
use Rattle.ipcz_fabric.proofs.hub.turn_asking_here.Goals as goal

told : (b : Bool) (X Y : Type 0) → b ≡ true → X → MatchBool b X Y
told true X Y e x = x
told false X Y e x = absurd (cc)

pub returns-then-is_idle-clause-did : goal.returns-then-is_idle-clause-did
returns-then-is_idle-clause-did g c =
    let t = g.F.FabricName.table in
    let found = c.retry-found.result in
    let same = same_id t _ _ c.args.me.now c.turn-answer.new.me c.turn-answer.ensures.extends in
    let asked = subst (λ (by : ℕ). Leaves by (calls.Retried found) (λ done. Retries t c.turn-answer.new.self found done) c.retry-found.new.self) same c.retry-found.ensures.did in (
      c.turn-answer.new.self,
      c.turn-answer.ensures.did,
      told _ _ _ (sym c.is_idle.ensures ∙ c.if-is_idle.true) (found, asked, c.is_again.ensures),
    )

pub returns-then-is_idle-clause-extends : goal.returns-then-is_idle-clause-extends
returns-then-is_idle-clause-extends g c =
    let found = c.retry-found.result in
    let asked = subst (λ (n : ℕ). Extends g.F.FabricName.table n (calls.Retried found) c.turn-answer.new.me c.retry-found.new.me) c.turn-answer.ensures.here
    c.retry-found.ensures.extends in (
      c.turn-answer.new.me,
      c.turn-answer.ensures.extends,
      told _ _ _ (sym c.is_idle.ensures ∙ c.if-is_idle.true) (found, asked),
    )

pub returns-clause-did : goal.returns-clause-did
returns-clause-did g c = (c.turn-answer.new.self, c.turn-answer.ensures.did, shown_word _ _ _ (sym c.is_idle.ensures ∙ c.if-is_idle.false) (refl, refl))

pub returns-clause-extends : goal.returns-clause-extends
returns-clause-extends g c = (c.turn-answer.new.me, c.turn-answer.ensures.extends, shown_word _ _ _ (sym c.is_idle.ensures ∙ c.if-is_idle.false) refl)
