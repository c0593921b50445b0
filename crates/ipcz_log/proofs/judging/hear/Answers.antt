use Rattle.std.proofs.Common.{subst, ◌++◌, ◌∷◌, []}
use Rattle.std.specs.Prelude.{MatchBool}
use Rattle.ipcz_verdict.specs.Ledger.{IsAllowed}
use Rattle.ipcz_verdict.specs.Desks.{HasAllowed}
use Rattle.ipcz_log.specs.Verdicts.{IsLine}
use Rattle.ipcz_log.proofs.judging.hear.Goals as goal

pub returns-then-branch : goal.returns-then-branch
returns-then-branch c = λ nodes profile log has. (
  c.in-Some.line,
  subst (λ o. IsLine c.args.bytes.now o) c.in-Some.is c.in_ok-line.ensures,
  subst (λ b. MatchBool b (HasAllowed c.take.new.self nodes profile (log ++ c.in-Some.line ∷ [])) (IsAllowed nodes profile (log ++ c.in-Some.line ∷ []) → ⊥)) c.if-branch.true
      (c.in_ok-take.ensures.allowed nodes profile log has),
)

pub returns : goal.returns
returns c = λ nodes profile log has. (
  c.in-Some.line,
  subst (λ o. IsLine c.args.bytes.now o) c.in-Some.is c.in_ok-line.ensures,
  subst (λ b. MatchBool b (HasAllowed c.take.new.self nodes profile (log ++ c.in-Some.line ∷ [])) (IsAllowed nodes profile (log ++ c.in-Some.line ∷ []) → ⊥)) c.if-branch.false
      (c.in_ok-take.ensures.allowed nodes profile log has),
)
