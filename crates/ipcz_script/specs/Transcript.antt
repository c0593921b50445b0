-- The transcript of what was read, and what a run may have read and written.
use Rattle.std.specs.Prelude.{ℕ, ◌+◌, ◌≡◌, ◌≤◌, Bool, true, false, ◌||◌, List, [], ◌∷◌, ◌++◌, length, Option, Result, Ok, Err}
use Rattle.std.specs.Io.KnownBytes.{Consumes, IsAtEnd, Appends, Keeps}
use Rattle.ipcz_script.specs.declared.command.Command.{Command}
use Rattle.ipcz_script.specs.declared.script.Script.{Script}
use Rattle.ipcz_script.specs.declared.said.Said.{Said}
use Rattle.ipcz_script.specs.declared.said.Said.TheVariants.{Unsettled}
use Rattle.ipcz_script.specs.declared.outcome.Outcome.{Outcome}
use Rattle.ipcz_script.specs.declared.outcome.Outcome.TheVariants as outcomes
use Rattle.ipcz_script.specs.declared.run_fault.RunFault.{RunFault}
use Rattle.ipcz_script.specs.declared.run_fault.RunFault.TheVariants as faults
use Rattle.ipcz_script.specs.Bindings.{Titles}
use Rattle.ipcz_script.specs.Lines.{lines_of, refused_line}
use Rattle.ipcz_script.specs.Reading.{IsScript, max_bytes}
use Rattle.ipcz_script.specs.Sessions.{Session, new_session, Runs}
use Rattle.ipcz_device.specs.WholeIo.{AppendsFront, ConsumesAtMost}

-- whether an answer is that of a settle that came to its limit
unfoldable pub is_unsettled : Said → Bool
is_unsettled Unsettled = true
is_unsettled other = false

-- what runs commands: how one may be answered in a state, and which state that leaves
abbrev pub Runner : Type 0 → Type 1
Runner S = S → Command → Said → S → Type 0

-- a command that was run: what it was answered, and the states before and after it
pub record AnsweredIn (S : Type 0) : Type 0 where
  pub before : S
  pub command : Command
  pub said : Said
  pub after : S

-- these commands, run one after the other, are answered so
abbrev pub AreAnsweredBy : {S : Type 0} → Runner S → S → List Command → List (AnsweredIn S) → S → Type 0
AreAnsweredBy runs s [] [] t = t ≡ s
AreAnsweredBy runs s [] (a ∷ rest) t = ⊥
AreAnsweredBy runs s (c ∷ cs) [] t = ⊥
AreAnsweredBy runs s (c ∷ cs) (a ∷ rest) t =
    (a.before ≡ s) × (a.command ≡ c) × runs s c a.said a.after × AreAnsweredBy runs a.after cs rest t

-- the lines of these commands, by the names that ends have in a state
abbrev pub lines_by : {S : Type 0} → (S → Titles) → List (AnsweredIn S) → List ℕ
lines_by titles [] = []
lines_by titles (a ∷ rest) = lines_of (titles a.after) a.command a.said ++ lines_by titles rest

-- whether some settle among them came to its limit
abbrev pub is_some_unsettled : {S : Type 0} → List (AnsweredIn S) → Bool
is_some_unsettled [] = false
is_some_unsettled (a ∷ rest) = is_unsettled a.said || is_some_unsettled rest

-- these commands, run one after the other, write this text: the lines of what they are answered; and whether some settle came to its limit
abbrev pub WritesBy : {S : Type 0} → Runner S → (S → Titles) → S → List Command → List ℕ → Bool → S → Type 0
WritesBy {S} runs titles s cs text unsettled t = (log : List (AnsweredIn S)) × AreAnsweredBy runs s cs log t × (text ≡ lines_by titles log)
    × (unsettled ≡ is_some_unsettled log)

-- the same of sessions
abbrev pub Answered : Type 0
Answered = AnsweredIn Session

abbrev pub AreAnswered : Session → List Command → List Answered → Session → Type 0
AreAnswered = AreAnsweredBy Runs

abbrev pub lines_in : List Answered → List ℕ
lines_in = lines_by (λ s. s.titles)

abbrev pub Writes : Session → List Command → List ℕ → Bool → Session → Type 0
Writes = WritesBy Runs (λ s. s.titles)

-- a transcript of a script, and whether some line of it is `unsettled`
abbrev pub IsTranscript : Script → List ℕ → Bool → Type 0
IsTranscript script text unsettled = (t : Session) × Writes (new_session script.nodes script.words) script.commands text unsettled t

-- what a run is said to have written, if it says which texts are transcripts of a script, and whether some line of them is `unsettled`
abbrev pub Transcribes : Type 1
Transcribes = Script → List ℕ → Bool → Type 0

-- a transcript of a script, by how its run ends
abbrev pub IsRunOutputBy : Transcribes → Script → Outcome → List ℕ → Type 0
IsRunOutputBy by script outcomes.Done text = by script text false
IsRunOutputBy by script outcomes.Unsettled text = by script text true
IsRunOutputBy by script (outcomes.Refused why) text = ⊥

-- what is written for these bytes and how their run ends: a transcript of the script that they are, or the one line that says why they are
-- none
abbrev pub IsOutputBy : Transcribes → List ℕ → Outcome → List ℕ → Type 0
IsOutputBy by input outcomes.Done text = (script : Script) × IsScript input (Ok script) × by script text false
IsOutputBy by input outcomes.Unsettled text = (script : Script) × IsScript input (Ok script) × by script text true
IsOutputBy by input (outcomes.Refused why) text = IsScript input (Err why) × (text ≡ refused_line why)

-- the bytes that were read: all there are, or one more than a script may have
pub record IsInput (before after : Option (List ℕ)) (input : List ℕ) : Type 0 where
  pub taken : Consumes before after input
  pub most : length input ≤ max_bytes + 1
  pub whole : length input ≤ max_bytes → IsAtEnd after

-- what is written for some bytes, and what is answered then
abbrev pub Outputs : Type 0 → Type 1
Outputs A = List ℕ → A → List ℕ → Type 0

-- what was read and written, by the answer: the whole output, or after a failed write some front of it, and else nothing
abbrev pub ReadsAndWritesBy : {A : Type 0} → Outputs A → Option (List ℕ) → Option (List ℕ) → Option (List ℕ) → Option (List ℕ) →
    Result A RunFault → Type 0
ReadsAndWritesBy is before after old new (Ok answer) =
    (input : List ℕ) × (text : List ℕ) × IsInput before after input × is input answer text × Appends old new text
ReadsAndWritesBy {A} is before after old new (Err faults.Write) =
    (input : List ℕ) × (answer : A) × (text : List ℕ) × IsInput before after input × is input answer text × AppendsFront old new text
ReadsAndWritesBy is before after old new (Err faults.Read) = ConsumesAtMost before after (max_bytes + 1) × Keeps old new
ReadsAndWritesBy is before after old new (Err faults.OutOfMemory) = ConsumesAtMost before after (max_bytes + 1) × Keeps old new

-- the same by the transcripts of `run_script`
abbrev pub IsRunOutput : Script → Outcome → List ℕ → Type 0
IsRunOutput = IsRunOutputBy IsTranscript

abbrev pub IsOutput : List ℕ → Outcome → List ℕ → Type 0
IsOutput = IsOutputBy IsTranscript

abbrev pub ReadsAndWrites : Option (List ℕ) → Option (List ℕ) → Option (List ℕ) → Option (List ℕ) → Result Outcome RunFault → Type 0
ReadsAndWrites = ReadsAndWritesBy IsOutput
