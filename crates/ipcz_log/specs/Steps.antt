-- What a judge says of one line, and of some lines of a log.
use Rattle.std.specs.Prelude.{ℕ, ◌≡◌, true, List, [], ◌∷◌, ◌++◌, Option, Some, None}
use Rattle.std.specs.Io.KnownBytes.{Consumes, IsAtEnd}
use Rattle.ipcz_base.specs.declared.profile.Profile.{Profile}
use Rattle.ipcz_verdict.specs.declared.entry.Entry.{Entry}
use Rattle.ipcz_verdict.specs.declared.line.Line.{Line}
use Rattle.ipcz_verdict.specs.Ledger.{IsAllowed}
use Rattle.ipcz_verdict.specs.Desks.{Desk, HasAllowed}
use Rattle.ipcz_verdict.specs.Searches.{HasEntries}
use Rattle.ipcz_log.specs.declared.judging.Heard.{Heard}
use Rattle.ipcz_log.specs.declared.judging.Heard.TheVariants as heard
use Rattle.ipcz_log.specs.declared.verdict.Verdict.{Verdict}
use Rattle.ipcz_log.specs.declared.verdict.Verdict.TheVariants as verdicts
use Rattle.ipcz_log.specs.Pieces.{HoldsOfInput, Pieces}
use Rattle.ipcz_log.specs.Verdicts.{IsLine, IsSaidOf, IsSaidOfLogs, IsSaidTogether, IsVerdict, text_lines}

-- the line, behind these, which the judge has allowed
abbrev pub Said : Desk → List ℕ → ℕ → Profile → List Line → Heard → Desk → Type 0
Said old bytes nodes profile log heard.Allowed new = (line : Line) × IsLine bytes (Some line) × HasAllowed new nodes profile (log ++ line ∷ [])
Said old bytes nodes profile log heard.Refused new = (line : Line) × IsLine bytes (Some line) × (IsAllowed nodes profile (log ++ line ∷ []) → ⊥)
Said old bytes nodes profile log heard.NoLine new = IsLine bytes None

abbrev pub JudgesLine : Desk → List ℕ → Heard → Desk → Type 0
JudgesLine old bytes h new = (nodes : ℕ) (profile : Profile) (log : List Line) → HasAllowed old nodes profile log → Said old bytes nodes profile log h new

-- some lines of what there was to read were taken, and what is said of those that are left is the verdict on all
pub record Goes (before now : Option (List ℕ)) (p : Pieces) (left : List (List ℕ) → Verdict → Type 0) : Type 0 where
  pub read : List ℕ
  pub taken : Consumes before now read
  pub ended : p.ended ≡ true → IsAtEnd now
  pub said : (behind : List ℕ) (verdict : Verdict) → (p.ended ≡ true → behind ≡ []) → left (text_lines (p.unread ++ behind)) verdict → IsVerdict (read ++ behind) verdict

-- the judge of one log has allowed some lines of it
abbrev pub Reaches : Option (List ℕ) → Option (List ℕ) → Pieces → ℕ → Profile → Desk → ℕ → Type 0
Reaches before now p nodes profile judge number = (log : List Line) × HasAllowed judge nodes profile log × Goes before now p (IsSaidOf nodes profile log number)

-- some lines of several logs were read
abbrev pub Reads : Option (List ℕ) → Option (List ℕ) → Pieces → ℕ → Profile → ℕ → List (List Entry) → ℕ → Type 0
Reads before now p nodes profile count logs number = (entries : List Entry) × HasEntries logs entries × Goes before now p (IsSaidOfLogs nodes profile count entries number)

-- all lines of several logs were read, and what is said of these logs is the verdict; or the first that is none was found
abbrev pub AreRead : Option (List ℕ) → Option (List ℕ) → ℕ → Profile → List (List Entry) → Option ℕ → Type 0
AreRead before now nodes profile logs None =
    (entries : List Entry) × HasEntries logs entries × ((verdict : Verdict) → IsSaidTogether nodes profile entries verdict → HoldsOfInput before now (λ input. IsVerdict input verdict))
AreRead before now nodes profile logs (Some number) = HoldsOfInput before now (λ input. IsVerdict input (verdicts.NoLog number))
