-- What a seed draws: which node acts, and which act it takes.
use Rattle.std.specs.Prelude.{◌≡◌, ◌<◌, ◌+◌, ◌*◌, ◌/◌, ◌%◌, ◌^◌, ℕ, Bool, true, false, not, List, [], ◌∷◌, Option, Some, None}
use Rattle.std.specs.List.{filter, list_any}
use Rattle.ipcz_router.specs.declared.act.RouterAct.TheVariants.{Rest}
use Rattle.ipcz_node.specs.declared.act.Act.{Act}
use Rattle.ipcz_node.specs.declared.act.Act.TheVariants.{Router as OfRouter}
use Rattle.ipcz_world.specs.Listing.{possible_acts}
use Rattle.ipcz_world.specs.Turns.{is_idle}
use Rattle.ipcz_world.specs.World.{World, numbers_from}

-- ---- the generator

-- the state behind the next draw
unfoldable pub next_state : ℕ → ℕ
next_state state = (state * 6364136223846793005 + 1442695040888963407) % 2 ^ 64

-- which of so many things a state draws, counted from 0
unfoldable pub drawn_number : ℕ → ℕ → ℕ
drawn_number state count = (state / 2 ^ 32) % count

-- a draw of one of so many things: its number, and the state after it; of none nothing is drawn
abbrev pub Draws : ℕ → ℕ → Option ℕ → ℕ → Type 0
Draws count state None after = (count ≡ 0) × (after ≡ state)
Draws count state (Some number) after = (0 < count) × (number ≡ drawn_number (next_state state) count) × (after ≡ next_state state)

-- ---- what is drawn among

-- whether an act is no rest of a router
unfoldable pub is_no_rest : Act → Bool
is_no_rest (OfRouter serial Rest) = false
is_no_rest other = true

-- the first list, or the other if that is empty
abbrev pub or_all : List Act → List Act → List Act
or_all [] all = all
or_all (act ∷ acts) all = act ∷ acts

-- of the acts that are possible those among which a turn draws: all but rests, or the rests if there are no others
abbrev pub choices_of : List Act → List Act
choices_of acts = or_all (filter is_no_rest acts) acts

abbrev pub choices : World → ℕ → List Act
choices w n = choices_of (possible_acts w n)

-- a node has nothing to do
abbrev pub has_nothing : World → ℕ → Bool
has_nothing w n = list_any is_idle (possible_acts w n)

abbrev pub is_busy : World → ℕ → Bool
is_busy w n = not (has_nothing w n)

-- of so many nodes those that have something to do
abbrev pub busy_nodes : World → ℕ → List ℕ
busy_nodes w nodes = filter (is_busy w) (numbers_from 0 nodes)
