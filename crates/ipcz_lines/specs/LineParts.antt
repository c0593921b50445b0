-- How the parts of a transcript's lines are written.
use Rattle.std.specs.Prelude.{ℕ, Bool, ◌≡◌, ◌^◌, ◌<◌, ◌≤◌, ◌≢◌, ◌||◌, ◌==◌, true, List, [], ◌∷◌, ◌++◌, codes, length, slice_index, Option}
use Rattle.std.specs.Prelude.{Some, None}
use Rattle.std.specs.List.{All, AllByRecursion}
use Rattle.std.specs.Char.{is_ascii_alphanumeric}
use Rattle.std.specs.Fmt.{decimal}
use Rattle.ipcz_lines.specs.declared.line.parts.Side.{Side}
use Rattle.ipcz_lines.specs.declared.line.parts.Side.TheVariants as sides
use Rattle.ipcz_lines.specs.declared.line.parts.End.{End}
use Rattle.ipcz_lines.specs.declared.line.parts.Link.{Link}
use Rattle.ipcz_lines.specs.declared.line.parts.Link.TheVariants as links
use Rattle.ipcz_lines.specs.declared.line.parts.Way.{Way}
use Rattle.ipcz_lines.specs.declared.line.parts.Way.TheVariants as ways
use Rattle.ipcz_lines.specs.declared.line.parts.WordStep.{WordStep}
use Rattle.ipcz_lines.specs.declared.line.parts.WordStep.TheVariants as steps
use Rattle.ipcz_lines.specs.declared.line.parts.Kind.{Kind}
use Rattle.ipcz_lines.specs.declared.line.parts.Kind.TheVariants as kinds
use Rattle.ipcz_lines.specs.declared.line.parts.Refusal.{Refusal}
use Rattle.ipcz_lines.specs.declared.line.parts.Refusal.TheVariants as refusals
use Rattle.ipcz_lines.specs.declared.line.parts.Answer.{Answer}
use Rattle.ipcz_lines.specs.declared.line.parts.Answer.TheVariants as answers
use Rattle.ipcz_lines.specs.declared.line.parts.Fault.{Fault}
use Rattle.ipcz_lines.specs.declared.line.parts.Fault.TheVariants as faults

-- the value whose text these bytes are, if there is one
abbrev pub Reads : {A : Type 0} → (A → List ℕ) → (A → Type 0) → List ℕ → Option A → Type 0
Reads text Is bytes (Some x) = Is x × (text x ≡ bytes)
Reads {A} text Is bytes None = (x : A) → Is x → text x ≢ bytes

-- numbers and serials have 64 bits, words and pairs are below 4096, nodes below 8
abbrev pub IsNumber : ℕ → Type 0
IsNumber n = n < 2 ^ 64

abbrev pub IsWordNumber : ℕ → Type 0
IsWordNumber n = n < 4096

abbrev pub IsNodeNumber : ℕ → Type 0
IsNodeNumber n = n < 8

-- how a number may begin: without a sign, and without a zero that more digits follow
pub record BeginsPlainly (bytes : List ℕ) : Type 0 where
  pub no_sign : slice_index bytes 0 ≢ 43
  pub no_zero : slice_index bytes 0 ≡ 48 → length bytes ≡ 1

-- the letter of a side
abbrev pub side_text : Side → List ℕ
side_text sides.A = codes "A"
side_text sides.B = codes "B"

-- the number of an end's pair and the letter of its side, as 3B
abbrev pub end_text : End → List ℕ
end_text end = decimal end.pair ++ side_text end.side

abbrev pub IsEnd : End → Type 0
IsEnd end = IsWordNumber end.pair

-- a central link is C and the number of its word, as C3; a peripheral one P, its node and its serial, as P0.1
abbrev pub link_text : Link → List ℕ
link_text (links.Central word) = codes "C" ++ decimal word
link_text (links.Peripheral node serial) = codes "P" ++ (decimal node ++ (codes "." ++ decimal serial))

abbrev pub IsLink : Link → Type 0
IsLink (links.Central word) = IsWordNumber word
IsLink (links.Peripheral node serial) = IsNodeNumber node × IsNumber serial

abbrev pub refusal_text : Refusal → List ℕ
refusal_text refusals.OutOfMemory = codes "OutOfMemory"
refusal_text refusals.Empty = codes "Empty"
refusal_text refusals.PeerClosed = codes "PeerClosed"
refusal_text refusals.NoWord = codes "NoWord"
refusal_text refusals.SelfAttach = codes "SelfAttach"
refusal_text refusals.PeerAttach = codes "PeerAttach"
refusal_text refusals.Stranger = codes "Stranger"
refusal_text refusals.NumbersEnd = codes "NumbersEnd"
refusal_text refusals.BadData = codes "BadData"
refusal_text refusals.TooMany = codes "TooMany"
refusal_text refusals.Raced = codes "Raced"
refusal_text refusals.Occupied = codes "Occupied"
refusal_text refusals.Passed = codes "Passed"
refusal_text refusals.Forged = codes "Forged"
refusal_text refusals.UnknownName = codes "UnknownName"
refusal_text refusals.Away = codes "Away"

-- a number, or why there is none
abbrev pub answer_text : Answer → List ℕ
answer_text (answers.Number n) = decimal n
answer_text (answers.Refused why) = refusal_text why

abbrev pub IsAnswer : Answer → Type 0
IsAnswer (answers.Number n) = IsNumber n
IsAnswer (answers.Refused why) = Unit {0}

abbrev pub way_text : Way → List ℕ
way_text ways.Out = codes "out"
way_text ways.In = codes "in"

abbrev pub step_text : WordStep → List ℕ
step_text steps.Mark = codes "mark"
step_text steps.Wake = codes "wake"
step_text steps.Lock = codes "lock"
step_text steps.Wait = codes "wait"
step_text steps.Refused = codes "refused"
step_text steps.Unlock = codes "unlock"

-- the kind of a message, of an item with its number
abbrev pub kind_text : Kind → List ℕ
kind_text (kinds.Item n) = codes "item " ++ decimal n
kind_text kinds.BypassPeer = codes "BypassPeer"
kind_text kinds.AcceptBypass = codes "AcceptBypass"
kind_text kinds.StopProxying = codes "StopProxying"
kind_text kinds.ProxyWillStop = codes "ProxyWillStop"
kind_text kinds.Flush = codes "Flush"

abbrev pub IsKind : Kind → Type 0
IsKind (kinds.Item n) = IsNumber n
IsKind other = Unit {0}

-- what became of a message that didn't fit: a Flush is dropped, each other is a stray
abbrev pub fate_text : Kind → List ℕ
fate_text kinds.Flush = codes "dropped"
fate_text other = codes "stray"

abbrev pub fault_text : Fault → List ℕ
fault_text faults.NotJson = codes "NotJson"
fault_text faults.TooLong = codes "TooLong"
fault_text (faults.BadShape n) = codes "BadShape " ++ decimal n

abbrev pub IsFault : Fault → Type 0
IsFault (faults.BadShape n) = IsNumber n
IsFault other = Unit {0}

-- a name is 1 to 16 letters, digits, _ or >
abbrev pub is_name_byte : ℕ → Bool
is_name_byte byte = is_ascii_alphanumeric byte || (byte == 95) || (byte == 62)

pub record IsName (text : List ℕ) : Type 0 where
  pub some : 0 < length text
  pub short : length text ≤ 16
  pub bytes : All (λ b. is_name_byte b ≡ true) text

-- these texts, with the separator between each two
abbrev pub joined : ℕ → List (List ℕ) → List ℕ
joined mark [] = []
joined mark (part ∷ []) = part
joined mark (part ∷ next ∷ parts) = part ++ mark ∷ joined mark (next ∷ parts)

-- one such text or more, with the separator between each two
pub record AreParted (Is : List ℕ → Type 0) (mark : ℕ) (text : List ℕ) : Type 0 where
  pub parts : List (List ℕ)
  pub some : 0 < length parts
  pub each : AllByRecursion Is parts
  pub whole : joined mark parts ≡ text

abbrev pub IsEndText : List ℕ → Type 0
IsEndText text = (end : End) × IsEnd end × (end_text end ≡ text)

abbrev pub IsWordText : List ℕ → Type 0
IsWordText text = (word : ℕ) × IsWordNumber word × (decimal word ≡ text)
