-- What is wrong with a script: with its members, or with its commands.
use Rattle.std.specs.Prelude.{ℕ, ◌≡◌, ◌<◌, ◌⊎◌, ◌||◌, ◌+◌, ◌==◌, List, [], ◌∷◌, ◌++◌, length, Bool, true, false, codes, if◌then◌else◌}
use Rattle.std.specs.Prelude.{Some, None, is_some, option_and_then}
use Rattle.std.specs.Option.{option_map_or}
use Rattle.std.specs.List.{All}
use Rattle.serde_json.specs.Data.{Data}
use Rattle.serde_json.specs.Events.{members_len}
use Rattle.serde_json.specs.Find.{get, as_object}
use Rattle.ipcz_script.specs.declared.command.Command.{Command}
use Rattle.ipcz_script.specs.ScriptNames.{is_taken, opens}
use Rattle.ipcz_script.specs.Scripts.{nodes_in, words_in, values_in, has_three_members}
use Rattle.ipcz_script.specs.Shapes.{command_of}
use Rattle.ipcz_report.specs.declared.wrong.Fault.{Fault}
use Rattle.ipcz_report.specs.declared.wrong.Key.{Key}
use Rattle.ipcz_report.specs.declared.wrong.Key.TheVariants as keys
use Rattle.ipcz_report.specs.declared.wrong.Wrong.{Wrong}
use Rattle.ipcz_report.specs.declared.wrong.Wrong.TheVariants as wrong
use Rattle.ipcz_report.specs.Judging.{IsWrong}

-- ---- the members

abbrev pub key_text : Key → List ℕ
key_text keys.Nodes = codes "nodes"
key_text keys.Words = codes "words"
key_text keys.Commands = codes "commands"

-- whether a member is there and as it has to be; the number of words hangs on that of nodes
abbrev pub has_right : Key → Data → Bool
has_right keys.Nodes d = is_some (nodes_in d)
has_right keys.Words d = is_some (option_and_then (words_in d) (nodes_in d))
has_right keys.Commands d = is_some (values_in d)

-- whether there is a member of this name, as a number
abbrev pub has : List ℕ → Data → ℕ
has name d = if is_some (get name d) then 1 else 0

-- how many of the three members there are
abbrev pub known_members : Data → ℕ
known_members d = has (codes "nodes") d + has (codes "words") d + has (codes "commands") d

-- an object of so many members
abbrev pub has_members : ℕ → Data → Bool
has_members n d = option_map_or (λ ms. members_len ms == n) (as_object d) false

-- what is told to be wrong with the members is so
abbrev pub IsHeadWrong : Data → Wrong → Type 0
IsHeadWrong d wrong.NoObject = as_object d ≡ None
IsHeadWrong d (wrong.Missing key) = get (key_text key) d ≡ None
IsHeadWrong d (wrong.Member key) = has_right key d ≡ false
IsHeadWrong d wrong.Extra = has_members (known_members d) d ≡ false
IsHeadWrong d other = ⊥

-- a fault of the script itself
abbrev pub IsHeadFault : Data → Fault → Type 0
IsHeadFault d f = (f.number ≡ 0) × IsHeadWrong d f.wrong

-- the members are as they have to be, with these nodes and these values that are to be commands
abbrev pub IsHead : Data → ℕ → List Data → Type 0
IsHead d nodes values =
    (has_three_members d ≡ true) × (nodes_in d ≡ Some nodes) × (is_some (words_in d nodes) ≡ true) × (values_in d ≡ Some values)

-- the faults of the members: if there are none, the members are as they have to be
abbrev pub AreHeadFaults : Data → List Fault → Type 0
AreHeadFaults d faults = All (IsHeadFault d) faults
    × (faults ≡ [] → (has_three_members d ≡ true) × ((key : Key) → has_right key d ≡ true))

-- one fault more, if something isn't right
abbrev pub AddsFault : Data → Bool → List Fault → List Fault → Type 0
AddsFault d true old new = new ≡ old
AddsFault d false old new = (f : Fault) × (new ≡ old ++ f ∷ []) × IsHeadFault d f

-- ---- the commands

-- the faults of these values, of which the first is to be the command with this number, behind the commands so far: one fault for each value that
-- is no command
abbrev pub AreFaults : ℕ → List Command → ℕ → List Data → List Fault → Type 0
AreFaults nodes before number [] faults = faults ≡ []
AreFaults nodes before number (d ∷ ds) faults =
    ((c : Command) × (command_of nodes (is_taken before) d ≡ Some c) × AreFaults nodes (before ++ c ∷ []) (number + 1) ds faults)
    ⊎ ((f : Fault) × (rest : List Fault) × (command_of nodes (is_taken before) d ≡ None) × (faults ≡ f ∷ rest) × (f.number ≡ number)
    × IsWrong nodes (is_taken before) d f.wrong × AreFaults nodes before (number + 1) ds rest)

-- what judging one value does to the names that are taken and to the faults so far: a command takes its names, and another value adds a fault
abbrev pub Judges : ℕ → (List ℕ → Bool) → (List ℕ → Bool) → ℕ → Data → List Fault → List Fault → Type 0
Judges nodes taken after number d old new =
    ((c : Command) × (command_of nodes taken d ≡ Some c) × ((name : List ℕ) → after name ≡ (taken name || opens name c)) × (new ≡ old))
    ⊎ ((f : Fault) × (command_of nodes taken d ≡ None) × (f.number ≡ number) × IsWrong nodes taken d f.wrong × (after ≡ taken)
    × (new ≡ old ++ f ∷ []))

-- ---- the whole

-- the faults of a value that is to be a script: those of its members, or, if these are as they have to be, those of its commands
abbrev pub AreFaultsOf : Data → List Fault → Type 0
AreFaultsOf d faults = ((0 < length faults) × All (IsHeadFault d) faults)
    ⊎ ((nodes : ℕ) × (values : List Data) × IsHead d nodes values × AreFaults nodes [] 1 values faults)
