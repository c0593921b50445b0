-- Turns of a node, one after the other.
use Rattle.std.proofs.Common.{◌≡◌, ◌∙◌, ◌++◌, ap, sym, refl, subst, ℕ, zero, suc, true, false, List, [], ◌∷◌, append_assoc, append-nil}
use Rattle.std.specs.Prelude.{MatchBool}
use Rattle.ipcz_world.specs.declared.step.Reply.{Reply}
use Rattle.ipcz_script.specs.Sessions.{is_idle_reply, is_want}
use Rattle.ipcz_cell.specs.TableNames.{TableName}
use Rattle.ipcz_threads.specs.declared.call.Call.TheVariants.{Turn}
use Rattle.ipcz_threads.specs.Workers.{WorkerState, CallsAt}
use Rattle.ipcz_threads.specs.Stages.{AreTurns}

-- whatever turns complete those that are left complete all of them
abbrev pub GoesOn : TableName → ℕ → ℕ → ℕ → List WorkerState → List WorkerState → List Reply → Type 0
GoesOn t count left node ws us turns =
    (more : List Reply) (vs : List WorkerState) → AreTurns t left node us more vs → AreTurns t count node ws (turns ++ more) vs

-- before the first turn
pub goes_on-start : (t : TableName) (count node : ℕ) (ws us : List WorkerState) (turns : List Reply) → us ≡ ws → turns ≡ [] → GoesOn t count count node ws us turns
goes_on-start t count node ws us turns same none more vs is = rw none (subst (λ x. AreTurns t count node x more vs) same is)

-- a turn more, which isn't idle
pub goes_on-turn : (t : TableName) (count left node : ℕ) (ws us xs : List WorkerState) (turns new : List Reply) (r : Reply) → GoesOn t count (suc left) node ws us turns →
    new ≡ turns ++ r ∷ [] → CallsAt t us node Turn r xs → is_want r ≡ false → is_idle_reply r ≡ false → GoesOn t count left node ws xs new
goes_on-turn t count left node ws us xs turns new r on is step fine busy more vs rest =
    let next : AreTurns t (suc left) node us (r ∷ more) vs =
    (xs, step, fine, subst (λ b. MatchBool b ((more ≡ []) × (vs ≡ xs)) (AreTurns t left node xs more vs)) (sym busy) rest) in
    subst (λ l. AreTurns t count node ws l vs) (sym (ap (λ l. l ++ more) is ∙ append_assoc turns (r ∷ []) more)) (on (r ∷ more) vs next)

-- no turn is left
pub goes_on-end : (t : TableName) (count node : ℕ) (ws us : List WorkerState) (turns : List Reply) → GoesOn t count zero node ws us turns → AreTurns t count node ws turns us
goes_on-end t count node ws us turns on = subst (λ l. AreTurns t count node ws l us) (append-nil turns) (on [] us refl)

-- the last turn is idle
pub goes_on-idle : (t : TableName) (count left node : ℕ) (ws us xs : List WorkerState) (turns new : List Reply) (r : Reply) → GoesOn t count (suc left) node ws us turns →
    new ≡ turns ++ r ∷ [] → CallsAt t us node Turn r xs → is_want r ≡ false → is_idle_reply r ≡ true → AreTurns t count node ws new xs
goes_on-idle t count left node ws us xs turns new r on is step fine idle =
    let ended : List Reply = [] in
    let last : AreTurns t (suc left) node us (r ∷ []) xs =
    (xs, step, fine, subst (λ b. MatchBool b ((ended ≡ []) × (xs ≡ xs)) (AreTurns t left node xs [] xs)) (sym idle) (refl, refl)) in
    subst (λ l. AreTurns t count node ws l xs) (sym is) (on (r ∷ []) xs last)
