-- What a judge says of some bytes.
use Rattle.std.specs.Prelude.{ℕ, suc, ◌≡◌, ◌⊎◌, ◌+◌, List, [], ◌∷◌, ◌++◌, take, drop, nat_eq, if◌then◌else◌, Option, Some, None, option_and_then}
use Rattle.serde_json.specs.Data.{Data}
use Rattle.ipcz_base.specs.declared.profile.Profile.{Profile}
use Rattle.ipcz_script.specs.Reading.{IsJson}
use Rattle.ipcz_verdict.specs.declared.entry.Entry.{Entry}
use Rattle.ipcz_verdict.specs.declared.line.Line.{Line}
use Rattle.ipcz_verdict.specs.Ledger.{IsAllowed}
use Rattle.ipcz_verdict.specs.Together.{AreAllowed, HasFronts, IsNextSomewhere}
use Rattle.ipcz_log.specs.declared.header.Header.{Header}
use Rattle.ipcz_log.specs.declared.verdict.Verdict.{Verdict}
use Rattle.ipcz_log.specs.declared.verdict.Verdict.TheVariants as verdicts
use Rattle.ipcz_log.specs.Logs.{entry_in, header_in, line_in}

-- ---- the lines of a text

-- how many bytes stand before the first newline, or at all
abbrev pub line_len : List ℕ → ℕ
line_len [] = 0
line_len (b ∷ bs) = if nat_eq b 10 then 0 else suc (line_len bs)

-- a byte in front of the first line
abbrev pub onto_first : ℕ → List (List ℕ) → List (List ℕ)
onto_first b [] = (b ∷ []) ∷ []
onto_first b (l ∷ ls) = (b ∷ l) ∷ ls

-- the lines, each ended by a newline but perhaps the last
abbrev pub text_lines : List ℕ → List (List ℕ)
text_lines [] = []
text_lines (b ∷ bs) = if nat_eq b 10 then [] ∷ text_lines bs else onto_first b (text_lines bs)

-- ---- what a text's line says

-- the log's line that the bytes are, or that they are none
abbrev pub IsLine : List ℕ → Option Line → Type 0
IsLine bytes line = (json : Option Data) × IsJson bytes json × (line ≡ option_and_then line_in json)

abbrev pub IsEntry : ℕ → ℕ → List ℕ → Option Entry → Type 0
IsEntry count number bytes entry = (json : Option Data) × IsJson bytes json × (entry ≡ option_and_then (entry_in count number) json)

abbrev pub IsHeader : List ℕ → Option Header → Type 0
IsHeader bytes header = (json : Option Data) × IsJson bytes json × (header ≡ option_and_then header_in json)

-- ---- a verdict

-- what is said of the lines that are left, if these went before, which are allowed; they are numbered from a number on. Each is the log's next line, and
-- allowed; or it is the first that isn't allowed; or it is none
abbrev pub IsSaidOf : ℕ → Profile → List Line → ℕ → List (List ℕ) → Verdict → Type 0
IsSaidOf nodes profile log number [] verdict = IsAllowed nodes profile log × (verdict ≡ verdicts.Allowed)
IsSaidOf nodes profile log number (l ∷ ls) verdict =
    ((line : Line) × IsLine l (Some line) × IsAllowed nodes profile (log ++ line ∷ []) × IsSaidOf nodes profile (log ++ line ∷ []) (number + 1) ls verdict)
    ⊎ ((line : Line) × IsLine l (Some line) × (IsAllowed nodes profile (log ++ line ∷ []) → ⊥) × (verdict ≡ verdicts.Refused number))
    ⊎ (IsLine l None × (verdict ≡ verdicts.NoLog number))

-- so many steps are taken to find an order
abbrev pub most_steps : ℕ
most_steps = 10000000

-- what is said of several logs that have these lines, of which only the order within each log is known
abbrev pub IsSaidTogether : ℕ → Profile → List Entry → Verdict → Type 0
IsSaidTogether nodes profile entries verdicts.Allowed = AreAllowed nodes profile entries
IsSaidTogether nodes profile entries (verdicts.NoOrder number) = (AreAllowed nodes profile entries → ⊥) × IsNextSomewhere nodes profile entries number
IsSaidTogether nodes profile entries verdicts.Untold = HasFronts nodes profile entries most_steps
IsSaidTogether nodes profile entries other = ⊥

-- what is said of the lines that are left, if these went before; they are numbered from a number on. Each is a line of one of so many logs, and all together
-- are judged; or it is the first that is none
abbrev pub IsSaidOfLogs : ℕ → Profile → ℕ → List Entry → ℕ → List (List ℕ) → Verdict → Type 0
IsSaidOfLogs nodes profile count entries number [] verdict = IsSaidTogether nodes profile entries verdict
IsSaidOfLogs nodes profile count entries number (l ∷ ls) verdict =
    ((entry : Entry) × IsEntry count number l (Some entry) × IsSaidOfLogs nodes profile count (entries ++ entry ∷ []) (number + 1) ls verdict)
    ⊎ (IsEntry count number l None × (verdict ≡ verdicts.NoLog number))

-- what is said of the lines behind the header: of one log, or of several
abbrev pub IsSaidBehind : Header → Option ℕ → List (List ℕ) → Verdict → Type 0
IsSaidBehind header None lines verdict = IsSaidOf header.nodes header.profile [] 2 lines verdict
IsSaidBehind header (Some count) lines verdict = IsSaidOfLogs header.nodes header.profile count [] 2 lines verdict

-- the first line is the header, and the others are the log, or the logs
abbrev pub IsVerdict : List ℕ → Verdict → Type 0
IsVerdict bytes verdict =
    ((header : Header) × IsHeader (take (line_len bytes) bytes) (Some header) × IsSaidBehind header header.logs (text_lines (drop (line_len bytes + 1) bytes)) verdict)
    ⊎ (IsHeader (take (line_len bytes) bytes) None × (verdict ≡ verdicts.NoLog 1))
