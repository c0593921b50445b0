-- What a line of a transcript says, and how that is written: by these texts a reader tells from the bytes only what was answered.
use Rattle.std.specs.Prelude.{◌≡◌, ◌<◌, ◌^◌, ℕ, true, List, [], ◌∷◌, ◌++◌, map, codes, Ok}
use Rattle.std.specs.List.{AllByRecursion}
use Rattle.std.specs.Fmt.{decimal}
use Rattle.ipcz_base.specs.declared.refusal.Refusal.{Refusal}
use Rattle.ipcz_base.specs.Refusals.{name_of}
use Rattle.ipcz_script.specs.ScriptLimits.{HasScriptLimits}
use Rattle.ipcz_script.specs.declared.command.Command.{Command}
use Rattle.ipcz_script.specs.declared.command.Command.TheVariants as commands
use Rattle.ipcz_script.specs.declared.script.Script.{Script}
use Rattle.ipcz_script.specs.declared.said.Said.{Said}
use Rattle.ipcz_script.specs.declared.said.Said.TheVariants as said
use Rattle.ipcz_script.specs.Reading.{IsScript}
use Rattle.ipcz_script.specs.ScriptNames.{is_name}
use Rattle.ipcz_script.specs.Bindings.{Titles}
use Rattle.ipcz_script.specs.Lines.{title_of, turn_text}
use Rattle.ipcz_script.specs.Sessions.{Session, new_session}
use Rattle.ipcz_script.specs.Transcript.{Answered, AreAnswered, lines_in}
use Rattle.ipcz_script.specs.ReadBack.{AreLines, HaveNames, between, joined, spaced}

-- what a call is answered: that the pair is opened, a number, a parcel with its number, the names of its portals and its data, or why it is
-- refused
pub data Answer : Type 0 where
  Done : Answer
  Number : (number : ℕ) → Answer
  Parcel : (number : ℕ) (portals : List (List ℕ)) (bytes : List ℕ) → Answer
  Refused : (why : Refusal) → Answer
  UnknownName : Answer
  Away : Answer

-- what a line says: a call with its names and its answer, what a settle came to, the claimed words, or what a node's turn did
pub data Saying : Type 0 where
  Open : (first second : List ℕ) (answer : Answer) → Saying
  Put : (name : List ℕ) (answer : Answer) → Saying
  Get : (name : List ℕ) (answer : Answer) → Saying
  Close : (name : List ℕ) (answer : Answer) → Saying
  Settled : Saying
  Unsettled : Saying
  Words : (words : List ℕ) → Saying
  Turn : (node : ℕ) (deed : List ℕ) → Saying

-- ---- how it is written

abbrev pub answer_text : Answer → List ℕ
answer_text Done = codes "ok"
answer_text (Number number) = decimal number
answer_text (Parcel number portals bytes) = spaced (decimal number ∷ between 91 (joined 44 portals) 93 ∷ between 34 bytes 34 ∷ [])
answer_text (Refused why) = name_of why
answer_text UnknownName = codes "UnknownName"
answer_text Away = codes "Away"

abbrev pub saying_text : Saying → List ℕ
saying_text (Open first second answer) = spaced (codes "open" ∷ first ∷ second ∷ answer_text answer ∷ [])
saying_text (Put name answer) = spaced (codes "put" ∷ name ∷ answer_text answer ∷ [])
saying_text (Get name answer) = spaced (codes "get" ∷ name ∷ answer_text answer ∷ [])
saying_text (Close name answer) = spaced (codes "close" ∷ name ∷ answer_text answer ∷ [])
saying_text Settled = codes "settled"
saying_text Unsettled = codes "unsettled"
saying_text (Words words) = spaced (codes "words" ∷ map decimal words)
saying_text (Turn node deed) = spaced ((110 ∷ (decimal node ++ 58 ∷ [])) ∷ deed ∷ [])

-- ---- what may be said

-- names are names
abbrev pub IsName : List ℕ → Type 0
IsName name = is_name name ≡ true

abbrev pub AnswerHasNames : Answer → Type 0
AnswerHasNames (Parcel number portals bytes) = AllByRecursion IsName portals
AnswerHasNames other = Unit {0}

abbrev pub NamesAreNames : Saying → Type 0
NamesAreNames (Open first second answer) = IsName first × IsName second × AnswerHasNames answer
NamesAreNames (Put name answer) = IsName name × AnswerHasNames answer
NamesAreNames (Get name answer) = IsName name × AnswerHasNames answer
NamesAreNames (Close name answer) = IsName name × AnswerHasNames answer
NamesAreNames other = Unit {0}

-- numbers have 64 bits
abbrev pub HasBits : ℕ → Type 0
HasBits n = n < 2 ^ 64

abbrev pub AnswerHasBits : Answer → Type 0
AnswerHasBits (Number number) = HasBits number
AnswerHasBits (Parcel number portals bytes) = HasBits number
AnswerHasBits other = Unit {0}

abbrev pub NumbersHaveBits : Saying → Type 0
NumbersHaveBits (Open first second answer) = AnswerHasBits answer
NumbersHaveBits (Put name answer) = AnswerHasBits answer
NumbersHaveBits (Get name answer) = AnswerHasBits answer
NumbersHaveBits (Close name answer) = AnswerHasBits answer
NumbersHaveBits (Words words) = AllByRecursion HasBits words
NumbersHaveBits (Turn node deed) = HasBits node
NumbersHaveBits other = Unit {0}

-- the lines of a text say this, in order
pub record Says (text : List ℕ) (sayings : List Saying) : Type 0 where
  pub lines : AreLines text (map saying_text sayings)
  pub names : AllByRecursion NamesAreNames sayings

-- law: a text whose numbers have 64 bits says one thing, word for word
abbrev pub TextsSayOneThing : Type 0
TextsSayOneThing =
    (text : List ℕ) (xs ys : List Saying) → Says text xs → Says text ys → AllByRecursion NumbersHaveBits xs →
    AllByRecursion NumbersHaveBits ys → xs ≡ ys

-- ---- what a transcript says

-- what is to be said of a command and its answer: one thing, but for a turn command, of which each turn is said
unfoldable pub sayings_of : Titles → Command → Said → List Saying
sayings_of titles (commands.Open node first second) said.Opened = Open first second Done ∷ []
sayings_of titles (commands.Open node first second) (said.Refused why) = Open first second (Refused why) ∷ []
sayings_of titles (commands.Put at text attached) (said.Put number) = Put at (Number number) ∷ []
sayings_of titles (commands.Put at text attached) said.UnknownName = Put at UnknownName ∷ []
sayings_of titles (commands.Put at text attached) said.Away = Put at Away ∷ []
sayings_of titles (commands.Put at text attached) (said.Refused why) = Put at (Refused why) ∷ []
sayings_of titles (commands.Get at) (said.Got number parcel) = Get at (Parcel number (map (title_of titles) parcel.ends) parcel.bytes) ∷ []
sayings_of titles (commands.Get at) said.UnknownName = Get at UnknownName ∷ []
sayings_of titles (commands.Get at) said.Away = Get at Away ∷ []
sayings_of titles (commands.Get at) (said.Refused why) = Get at (Refused why) ∷ []
sayings_of titles (commands.Close at) (said.Closed number) = Close at (Number number) ∷ []
sayings_of titles (commands.Close at) said.UnknownName = Close at UnknownName ∷ []
sayings_of titles (commands.Close at) said.Away = Close at Away ∷ []
sayings_of titles (commands.Close at) (said.Refused why) = Close at (Refused why) ∷ []
sayings_of titles (commands.Turn node count) (said.Turned turns) = map (λ reply. Turn node (turn_text reply)) turns
sayings_of titles (commands.Settle limit) said.Settled = Settled ∷ []
sayings_of titles (commands.Settle limit) said.Unsettled = Unsettled ∷ []
sayings_of titles commands.Show (said.Words words) = Words words ∷ []
sayings_of titles command answer = []

-- the same of each of these answers
abbrev pub sayings_in : List Answered → List Saying
sayings_in [] = []
sayings_in (a ∷ rest) = sayings_of a.after.titles a.command a.said ++ sayings_in rest

-- law: the lines that answers to a script make say just these answers
abbrev pub LinesSayAnswers : Type 0
LinesSayAnswers =
    (nodes words : ℕ) (cs : List Command) (log : List Answered) (t : Session) → HasScriptLimits nodes words → HaveNames cs →
    AreAnswered (new_session nodes words) cs log t → Says (lines_in log) (sayings_in log)

-- the node of a turn command has a number of 64 bits
abbrev pub NodeHasBits : Command → Type 0
NodeHasBits (commands.Turn node count) = HasBits node
NodeHasBits other = Unit {0}

-- law: it has in each script that is read
abbrev pub TurnsHaveBits : Type 0
TurnsHaveBits = (input : List ℕ) (script : Script) → IsScript input (Ok script) → AllByRecursion NodeHasBits script.commands

-- law: so each number that the lines say has 64 bits
abbrev pub SaidNumbersHaveBits : Type 0
SaidNumbersHaveBits =
    (nodes words : ℕ) (cs : List Command) (log : List Answered) (t : Session) → HasScriptLimits nodes words → AllByRecursion NodeHasBits cs →
    AreAnswered (new_session nodes words) cs log t → AllByRecursion NumbersHaveBits (sayings_in log)
