-- Which script some bytes are, if commands may ask for acts.
use Rattle.std.specs.Prelude.{ℕ, ◌-◌, ◌+◌, ◌≡◌, ◌<◌, ◌≤◌, ◌⊎◌, List, [], ◌∷◌, ◌++◌, length, codes, bytes_eq, Bool, false, if◌then◌else◌, Option, Some, None, option_and_then, option_map, Result, Ok, Err}
use Rattle.std.specs.List.{list_any}
use Rattle.std.specs.Option.{option_map_or}
use Rattle.serde_json.specs.Data.{Data}
use Rattle.serde_json.specs.Find.{as_str}
use Rattle.ipcz_script.specs.declared.script_fault.ScriptFault.{ScriptFault}
use Rattle.ipcz_script.specs.declared.script_fault.ScriptFault.TheVariants.{NotJson, BadShape, TooLong, OutOfMemory}
use Rattle.ipcz_script.specs.Reading.{IsJson, max_bytes}
use Rattle.ipcz_script.specs.ScriptNames.{opens}
use Rattle.ipcz_script.specs.Scripts.{has_three_members, values_in}
use Rattle.ipcz_script.specs.Shapes.{command_in, number_within, values_of}
use Rattle.ipcz_events.specs.declared.header.Header.{Header}
use Rattle.ipcz_events.specs.declared.order.Order.{Order}
use Rattle.ipcz_events.specs.declared.order.Order.TheVariants as orders
use Rattle.ipcz_events.specs.declared.schedule.Schedule.{Schedule}
use Rattle.ipcz_events.specs.Reading.{header_in}

-- ---- commands

-- whether the first word is `act`
abbrev pub asks : List Data → Bool
asks [] = false
asks (word ∷ ds) = option_map_or (λ w. bytes_eq w (codes "act")) (as_str word) false

abbrev pub act_of : Option ℕ → Option (List ℕ) → Option Order
act_of (Some node) (Some words) = Some (orders.Act node words)
act_of _ _ = None

-- a node, which is below the number of nodes, and any text
abbrev pub act_in : ℕ → List Data → Option Order
act_in nodes (word ∷ node ∷ words ∷ []) = act_of (number_within 0 (nodes - 1) node) (as_str words)
act_in nodes ds = None

-- a command of a script, or one that asks for an act
abbrev pub order_in : ℕ → (List ℕ → Bool) → List Data → Option Order
order_in nodes taken ds = if asks ds then act_in nodes ds else option_map orders.Command (command_in nodes taken ds)

abbrev pub order_of : ℕ → (List ℕ → Bool) → Data → Option Order
order_of nodes taken d = option_and_then (order_in nodes taken) (values_of d)

-- ---- all of them

abbrev pub order_opens : List ℕ → Order → Bool
order_opens name (orders.Command command) = opens name command
order_opens name (orders.Act node words) = false

-- a name is taken once an open has it
abbrev pub is_taken_by : List Order → List ℕ → Bool
is_taken_by os name = list_any (order_opens name) os

-- the commands that these values are, behind those so far, or the number of the first value that is none, counted from 1
abbrev pub orders_from : ℕ → List Order → List Data → Result (List Order) ScriptFault
orders_from nodes before [] = Ok before
orders_from nodes before (d ∷ ds) = option_map_or (λ order. orders_from nodes (before ++ order ∷ []) ds)
    (order_of nodes (is_taken_by before) d) (Err (BadShape (length before + 1)))

-- ---- the whole

abbrev pub with_orders : Header → Result (List Order) ScriptFault → Result Schedule ScriptFault
with_orders header (Ok os) = Ok (record { nodes = header.nodes; words = header.words; orders = os })
with_orders header (Err why) = Err why

abbrev pub with_members : Option Header → Option (List Data) → Result Schedule ScriptFault
with_members (Some header) (Some values) = with_orders header (orders_from header.nodes [] values)
with_members _ _ = Err (BadShape 0)

-- the script that a value is, or why it is none
abbrev pub schedule_of : Data → Result Schedule ScriptFault
schedule_of d = if has_three_members d then with_members (header_in d) (values_in d) else Err (BadShape 0)

abbrev pub schedule_from : Option Data → Result Schedule ScriptFault
schedule_from None = Err NotJson
schedule_from (Some d) = schedule_of d

-- the script that the bytes are, or why they are none
abbrev pub IsSchedule : List ℕ → Result Schedule ScriptFault → Type 0
IsSchedule bytes schedule = ((max_bytes < length bytes) × (schedule ≡ Err TooLong)) ⊎
    ((length bytes ≤ max_bytes) × (json : Option Data) × IsJson bytes json × (schedule ≡ schedule_from json))

-- what reading the bytes may answer: what they are, or that no memory was found
abbrev pub IsRead : List ℕ → Result Schedule ScriptFault → Type 0
IsRead bytes (Ok schedule) = IsSchedule bytes (Ok schedule)
IsRead bytes (Err NotJson) = IsSchedule bytes (Err NotJson)
IsRead bytes (Err (BadShape n)) = IsSchedule bytes (Err (BadShape n))
IsRead bytes (Err TooLong) = IsSchedule bytes (Err TooLong)
IsRead bytes (Err OutOfMemory) = Unit {0}
