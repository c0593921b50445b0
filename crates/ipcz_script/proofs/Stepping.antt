-- What comes of a step that is no turn, and of turns one after the other.
use Rattle.std.proofs.Common.{◌≡◌, ◌∙◌, ◌++◌, ap, sym, refl, subst, inl, inr, ℕ, zero, suc, true, false, List, [], ◌∷◌, append_assoc}
use Rattle.std.proofs.Common.{append-nil}
use Rattle.std.specs.Prelude.{MatchBool}
use Rattle.ipcz_base.specs.declared.refusal.Refusal.TheVariants.{OutOfMemory}
use Rattle.ipcz_world.specs.declared.step.Step.{Step}
use Rattle.ipcz_world.specs.declared.step.Step.TheVariants as steps
use Rattle.ipcz_world.specs.declared.step.Reply.{Reply}
use Rattle.ipcz_world.specs.declared.step.Reply.TheVariants as replies
use Rattle.ipcz_world.specs.World.{World}
use Rattle.ipcz_world.specs.Steps.{StepFirst, first_step}
use Rattle.ipcz_script.specs.Sessions.{AreTurns, is_idle_reply, is_turn, is_want}

-- a reply that is no want of memory isn't one
no_want : (reply : Reply) → is_want reply ≡ false → reply ≡ replies.Refused OutOfMemory → ⊥
unfolding is_want
no_want reply fine is = let e : true ≡ false = sym (ap is_want is) ∙ fine in cc

-- with memory a step that is no turn has one outcome
pub steps_once : (w v : World) (step : Step) (reply : Reply) → is_turn step ≡ false → is_want reply ≡ false → StepFirst w step reply v →
    (reply ≡ (first_step w step).reply) × (v ≡ (first_step w step).world)
unfolding first_step
steps_once w v (steps.Get n at) reply still fine is = is
steps_once w v (steps.Turn n) reply still fine is = absurd (let e : true ≡ false = still in cc)
steps_once w v other reply still fine is = elim is [ inl g ↦ g | inr f ↦ absurd (no_want reply fine f.1.0) ]

-- whatever turns complete those that are left complete all of them
abbrev pub GoesOn : ℕ → ℕ → ℕ → World → World → List Reply → Type 0
GoesOn count left node w u turns = (more : List Reply) (v : World) → AreTurns left node u more v → AreTurns count node w (turns ++ more) v

-- before the first turn
pub goes_on-start : (count node : ℕ) (w u : World) (turns : List Reply) → u ≡ w → turns ≡ [] → GoesOn count count node w u turns
goes_on-start count node w u turns same none more v is = rw none (subst (λ x. AreTurns count node x more v) same is)

-- a turn more, which isn't idle
pub goes_on-turn : (count left node : ℕ) (w u x : World) (turns new : List Reply) (r : Reply) → GoesOn count (suc left) node w u turns →
    new ≡ turns ++ r ∷ [] → StepFirst u (steps.Turn node) r x → is_want r ≡ false → is_idle_reply r ≡ false → GoesOn count left node w x new
goes_on-turn count left node w u x turns new r on is step fine busy more v rest =
    let next : AreTurns (suc left) node u (r ∷ more) v =
    (x, step, fine, subst (λ b. MatchBool b ((more ≡ []) × (v ≡ x)) (AreTurns left node x more v)) (sym busy) rest) in
    subst (λ l. AreTurns count node w l v) (sym (ap (λ l. l ++ more) is ∙ append_assoc turns (r ∷ []) more)) (on (r ∷ more) v next)

-- no turn is left
pub goes_on-end : (count node : ℕ) (w u : World) (turns : List Reply) → GoesOn count zero node w u turns → AreTurns count node w turns u
goes_on-end count node w u turns on = subst (λ l. AreTurns count node w l u) (append-nil turns) (on [] u refl)

-- the last turn is idle
pub goes_on-idle : (count left node : ℕ) (w u x : World) (turns new : List Reply) (r : Reply) → GoesOn count (suc left) node w u turns →
    new ≡ turns ++ r ∷ [] → StepFirst u (steps.Turn node) r x → is_want r ≡ false → is_idle_reply r ≡ true → AreTurns count node w new x
goes_on-idle count left node w u x turns new r on is step fine idle =
    let ended : List Reply = [] in
    let last : AreTurns (suc left) node u (r ∷ []) x =
    (x, step, fine, subst (λ b. MatchBool b ((ended ≡ []) × (x ≡ x)) (AreTurns left node x [] x)) (sym idle) (refl, refl)) in
    subst (λ l. AreTurns count node w l x) (sym is) (on (r ∷ []) x last)
