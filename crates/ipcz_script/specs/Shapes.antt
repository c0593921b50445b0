-- Which command a JSON value is.
use Rattle.std.specs.Prelude.{ℕ, ◌-◌, ◌&&◌, List, [], ◌∷◌, Bool, not, nat_le, bytes_eq, codes, if◌then◌else◌, Option, Some, None}
use Rattle.std.specs.Prelude.{option_and_then, option_map}
use Rattle.serde_json.specs.Data.{Data, Items, no_items, item}
use Rattle.serde_json.specs.Find.{as_array, as_number, as_str, as_u64}
use Rattle.ipcz_script.specs.declared.command.Command.{Command}
use Rattle.ipcz_script.specs.declared.command.Command.TheVariants.{Open, Put, Get, Close, Turn, Settle, Show}
use Rattle.ipcz_script.specs.Each.{each_of}
use Rattle.ipcz_script.specs.ScriptNames.{is_name, has_angle}

-- the values of an array, as a list
abbrev pub list_of : Items → List Data
list_of no_items = []
list_of (item d ds) = d ∷ list_of ds

-- the values of an array, if the value is one
abbrev pub values_of : Data → Option (List Data)
values_of d = option_map list_of (as_array d)

-- ---- words of a command

-- a number of this range, if the value is a whole number that fits 64 bits and was written without sign, fraction and exponent
abbrev pub number_within : ℕ → ℕ → Data → Option ℕ
number_within low high d = option_and_then (λ n. if nat_le low n && nat_le n high then Some n else None)
    (option_and_then as_u64 (as_number d))

-- the name that a value is
abbrev pub name_in : Data → Option (List ℕ)
name_in d = option_and_then (λ name. if is_name name then Some name else None) (as_str d)

-- the name for a new portal that a value is: it has no `>`, and isn't taken
abbrev pub new_name_in : (List ℕ → Bool) → Data → Option (List ℕ)
new_name_in taken d = option_and_then (λ name. if not (has_angle name) && not (taken name) then Some name else None) (name_in d)

-- ---- the words behind a command's first

-- an open, if the node is one and the names are two that differ
abbrev pub open_of : Option ℕ → Option (List ℕ) → Option (List ℕ) → Option Command
open_of (Some node) (Some first) (Some second) = if bytes_eq first second then None else Some (Open node first second)
open_of _ _ _ = None

-- the names in a list, if each of its values is one
abbrev pub names_in : Data → Option (List (List ℕ))
names_in d = option_and_then (each_of name_in) (values_of d)

-- a put, if the name is one, the data is a text and the list is one of names
abbrev pub put_of : Option (List ℕ) → Option (List ℕ) → Option (List (List ℕ)) → Option Command
put_of (Some at) (Some text) (Some ends) = Some (Put at text ends)
put_of _ _ _ = None

-- a turn, if the node and the count are of their ranges
abbrev pub turn_of : Option ℕ → Option ℕ → Option Command
turn_of (Some node) (Some count) = Some (Turn node count)
turn_of _ _ = None

-- a node, which is below the number of nodes, and two names that are new
abbrev pub open_in : ℕ → (List ℕ → Bool) → List Data → Option Command
open_in nodes taken (node ∷ first ∷ second ∷ []) = open_of (number_within 0 (nodes - 1) node) (new_name_in taken first)
    (new_name_in taken second)
open_in nodes taken ds = None

-- a name, the data, which may be any text, and, if portals are attached, a list of names
abbrev pub put_in : List Data → Option Command
put_in (at ∷ text ∷ []) = put_of (name_in at) (as_str text) (Some [])
put_in (at ∷ text ∷ ends ∷ []) = put_of (name_in at) (as_str text) (names_in ends)
put_in ds = None

-- a name, and nothing more
abbrev pub get_in : List Data → Option Command
get_in (at ∷ []) = option_map Get (name_in at)
get_in ds = None

-- the same
abbrev pub close_in : List Data → Option Command
close_in (at ∷ []) = option_map Close (name_in at)
close_in ds = None

-- a node, and a count from 1 to 1,000,000
abbrev pub turn_in : ℕ → List Data → Option Command
turn_in nodes (node ∷ count ∷ []) = turn_of (number_within 0 (nodes - 1) node) (number_within 1 1000000 count)
turn_in nodes ds = None

-- a limit from 0 to 1,000,000
abbrev pub settle_in : List Data → Option Command
settle_in (limit ∷ []) = option_map Settle (number_within 0 1000000 limit)
settle_in ds = None

-- nothing more
abbrev pub show_in : List Data → Option Command
show_in [] = Some Show
show_in ds = None

-- ---- whole commands

-- the first word says which command it is
abbrev pub command_named : ℕ → (List ℕ → Bool) → List ℕ → List Data → Option Command
command_named nodes taken word ds =
    if bytes_eq word (codes "open") then open_in nodes taken ds
    else if bytes_eq word (codes "put") then put_in ds
    else if bytes_eq word (codes "get") then get_in ds
    else if bytes_eq word (codes "close") then close_in ds
    else if bytes_eq word (codes "turn") then turn_in nodes ds
    else if bytes_eq word (codes "settle") then settle_in ds
    else if bytes_eq word (codes "show") then show_in ds
    else None

-- a command is a list that begins with a text
abbrev pub command_in : ℕ → (List ℕ → Bool) → List Data → Option Command
command_in nodes taken [] = None
command_in nodes taken (word ∷ ds) = option_and_then (λ w. command_named nodes taken w ds) (as_str word)

-- the command that a value is, if there are so many nodes and `taken` says which names are taken
abbrev pub command_of : ℕ → (List ℕ → Bool) → Data → Option Command
command_of nodes taken d = option_and_then (command_in nodes taken) (values_of d)
