-- What is said of the text of a log.
use Rattle.std.specs.Prelude.{ℕ, suc, ◌≡◌, ◌⊎◌, ◌+◌, List, [], ◌∷◌, ◌++◌, take, drop, nat_eq, if◌then◌else◌, Option, Some, None, option_and_then}
use Rattle.serde_json.specs.Data.{Data}
use Rattle.ipcz_node.specs.declared.act.Act.{Act}
use Rattle.ipcz_script.specs.Reading.{IsJson}
use Rattle.ipcz_script.specs.Sessions.{Session, new_session}
use Rattle.ipcz_events.specs.declared.entry.Entry.{Entry}
use Rattle.ipcz_events.specs.declared.header.Header.{Header}
use Rattle.ipcz_events.specs.declared.verdict.Verdict.{Verdict}
use Rattle.ipcz_events.specs.declared.verdict.Verdict.TheVariants as verdicts
use Rattle.ipcz_events.specs.Judging.{AreToldActs, HasNone, with_text}
use Rattle.ipcz_events.specs.Reading.{entry_in, header_in}
use Rattle.ipcz_events.specs.Rules.{IsAllowed, MayLog}

-- ---- the lines of a text

-- how many bytes stand before the first line feed, or at all
abbrev pub line_len : List ℕ → ℕ
line_len [] = 0
line_len (b ∷ bs) = if nat_eq b 10 then 0 else suc (line_len bs)

-- a byte in front of the first line
abbrev pub onto_first : ℕ → List (List ℕ) → List (List ℕ)
onto_first b [] = (b ∷ []) ∷ []
onto_first b (l ∷ ls) = (b ∷ l) ∷ ls

-- the lines, each ended by a line feed but perhaps the last
abbrev pub text_lines : List ℕ → List (List ℕ)
text_lines [] = []
text_lines (b ∷ bs) = if nat_eq b 10 then [] ∷ text_lines bs else onto_first b (text_lines bs)

-- ---- what a text's line says

-- the log's line that the bytes are, of an implementation with so many nodes, or that they are none
abbrev pub IsLine : ℕ → List ℕ → Option Entry → Type 0
IsLine nodes bytes entry = (json : Option Data) × IsJson bytes json × (entry ≡ option_and_then (entry_in nodes) json)

abbrev pub IsHeader : List ℕ → Option Header → Type 0
IsHeader bytes header = (json : Option Data) × IsJson bytes json × (header ≡ option_and_then header_in json)

-- ---- a verdict

-- what is told of a line that isn't allowed behind these: a text with which it is allowed in its place; or none, and then nothing can be told in the
-- session that these lead to
abbrev pub IsInPlace : ℕ → ℕ → List Entry → Entry → Option (List ℕ) → Type 0
IsInPlace nodes words log entry (Some text) = IsAllowed nodes words (log ++ with_text entry text ∷ [])
IsInPlace nodes words log entry None = (s : Session) × MayLog (new_session nodes words) log s × HasNone s entry

-- all acts that are told of such a line: those that its node may take in the session that these lead to, if it is an act
abbrev pub AreToldBehind : ℕ → ℕ → List Entry → Entry → List Act → Type 0
AreToldBehind nodes words log entry acts = (s : Session) × MayLog (new_session nodes words) log s × AreToldActs s entry acts

-- what is said of the lines that are left, if these went before, which are allowed; they are numbered from a number on. Each is the log's next line, and
-- allowed; or it is the first that isn't allowed; or it is none
abbrev pub IsSaidOf : ℕ → ℕ → List Entry → ℕ → List (List ℕ) → Verdict → Type 0
IsSaidOf nodes words log number [] verdict = IsAllowed nodes words log × (verdict ≡ verdicts.Allowed)
IsSaidOf nodes words log number (l ∷ ls) verdict =
    ((entry : Entry) × IsLine nodes l (Some entry) × IsAllowed nodes words (log ++ entry ∷ []) × IsSaidOf nodes words (log ++ entry ∷ []) (number + 1) ls verdict)
    ⊎ ((entry : Entry) × (told : Option (List ℕ)) × (acts : List Act) × IsLine nodes l (Some entry) × (IsAllowed nodes words (log ++ entry ∷ []) → ⊥)
    × IsInPlace nodes words log entry told × AreToldBehind nodes words log entry acts × (verdict ≡ verdicts.Refused number told acts))
    ⊎ (IsLine nodes l None × (verdict ≡ verdicts.NoLog number))

-- the first line is the header, and the others are the log
abbrev pub IsVerdict : List ℕ → Verdict → Type 0
IsVerdict text verdict =
    ((header : Header) × IsHeader (take (line_len text) text) (Some header)
    × IsSaidOf header.nodes header.words [] 2 (text_lines (drop (line_len text + 1) text)) verdict)
    ⊎ (IsHeader (take (line_len text) text) None × (verdict ≡ verdicts.NoLog 1))
