-- Which script a JSON value is.
use Rattle.std.specs.Prelude.{ℕ, ◌+◌, ◌==◌, List, [], ◌∷◌, ◌++◌, length, codes, Bool, false, if◌then◌else◌, Option, Some, option_and_then}
use Rattle.std.specs.Prelude.{Result, Ok, Err}
use Rattle.std.specs.Option.{option_map_or}
use Rattle.serde_json.specs.Data.{Data}
use Rattle.serde_json.specs.Events.{members_len}
use Rattle.serde_json.specs.Find.{get, as_object}
use Rattle.ipcz_node.specs.FirstPairs.{first_pair_count}
use Rattle.ipcz_script.specs.declared.command.Command.{Command}
use Rattle.ipcz_script.specs.declared.script.Script.{Script}
use Rattle.ipcz_script.specs.declared.script_fault.ScriptFault.{ScriptFault}
use Rattle.ipcz_script.specs.declared.script_fault.ScriptFault.TheVariants.{BadShape}
use Rattle.ipcz_script.specs.ScriptNames.{is_taken}
use Rattle.ipcz_script.specs.Shapes.{values_of, number_within, command_of}

-- the commands that these values are, behind those so far, or the number of the first value that is none, counted from 1
abbrev pub commands_from : ℕ → List Command → List Data → Result (List Command) ScriptFault
commands_from nodes before [] = Ok before
commands_from nodes before (d ∷ ds) = option_map_or (λ command. commands_from nodes (before ++ command ∷ []) ds)
    (command_of nodes (is_taken before) d) (Err (BadShape (length before + 1)))

-- ---- the members

-- 1 to 8 nodes
abbrev pub nodes_in : Data → Option ℕ
nodes_in d = option_and_then (number_within 1 8) (get (codes "nodes") d)

-- link words, at least one for each first pair, and at most 4096
abbrev pub words_in : Data → ℕ → Option ℕ
words_in d nodes = option_and_then (number_within (first_pair_count nodes) 4096) (get (codes "words") d)

-- the values that are to be commands
abbrev pub values_in : Data → Option (List Data)
values_in d = option_and_then values_of (get (codes "commands") d)

-- an object of three members; with the three above it has no other
abbrev pub has_three_members : Data → Bool
has_three_members d = option_map_or (λ ms. members_len ms == 3) (as_object d) false

-- ---- the whole

-- the script of these commands, if each of the values was one
abbrev pub with_commands : ℕ → ℕ → Result (List Command) ScriptFault → Result Script ScriptFault
with_commands nodes words (Ok commands) = Ok (record { nodes = nodes; words = words; commands = commands })
with_commands nodes words (Err why) = Err why

-- the script of these members; what is wrong with one of them comes before what is wrong with a command
abbrev pub with_members : Option ℕ → Option ℕ → Option (List Data) → Result Script ScriptFault
with_members (Some nodes) (Some words) (Some values) = with_commands nodes words (commands_from nodes [] values)
with_members _ _ _ = Err (BadShape 0)

-- the script that a value is, or why it is none
abbrev pub script_of : Data → Result Script ScriptFault
script_of d = if has_three_members d then with_members (nodes_in d) (option_and_then (words_in d) (nodes_in d)) (values_in d) else Err
    (BadShape 0)
