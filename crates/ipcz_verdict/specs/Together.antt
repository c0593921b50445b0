-- THE RULES of several logs, one a thread, of which only the order within each is known.
use Rattle.std.specs.Prelude.{◌≡◌, ◌≢◌, ◌<◌, ◌≤◌, ◌+◌, ℕ, cond, nat_eq, length, List, [], ◌∷◌, ◌++◌, map, All, AllPairs}
use Rattle.ipcz_base.specs.declared.profile.Profile.{Profile}
use Rattle.ipcz_verdict.specs.declared.entry.Entry.{Entry}
use Rattle.ipcz_verdict.specs.declared.line.Line.{Line}
use Rattle.ipcz_verdict.specs.declared.search.Found.{Found}
use Rattle.ipcz_verdict.specs.declared.search.Found.TheVariants as finds
use Rattle.ipcz_verdict.specs.Ledger.{IsAllowed}

-- the lines of one log, in their order
abbrev pub of_log : ℕ → List Entry → List Entry
of_log log [] = []
of_log log (e ∷ es) = cond (nat_eq e.log log) (e ∷ of_log log es) (of_log log es)

-- AN ORDER of all lines agrees with the logs if the lines of each log stand in it as they stand in the log: all of them, no others, and in this order
abbrev pub AgreesWith : List Entry → List Entry → Type 0
AgreesWith order entries = (log : ℕ) → of_log log order ≡ of_log log entries

-- what was called, with its answers
abbrev pub calls_of : List Entry → List Line
calls_of order = map (λ (e : Entry). e.line) order

-- logs are allowed together: in some order that agrees with them the machine allows all their lines
abbrev pub AreAllowed : ℕ → Profile → List Entry → Type 0
AreAllowed nodes profile entries = (order : List Entry) × AgreesWith order entries × IsAllowed nodes profile (calls_of order)

-- some first lines of each log, in an order that keeps each log's own
abbrev pub AreFirst : List Entry → List Entry → Type 0
AreFirst front entries = (log : ℕ) → (rest : List Entry) × (of_log log front ++ rest ≡ of_log log entries)

-- A FRONT of an order: some such lines, one at least, which the machine allows in this order
pub record IsFront (nodes : ℕ) (profile : Profile) (entries front : List Entry) : Type 0 where
  pub some : 0 < length front
  pub first : AreFirst front entries
  pub allowed : IsAllowed nodes profile (calls_of front)

-- how many steps it takes to come to each of these fronts, if each is taken line by line, and taken back
abbrev pub steps_to : List (List Entry) → ℕ
steps_to [] = 0
steps_to (front ∷ fronts) = length front + 1 + steps_to fronts

-- so many fronts are there that to come to each of them, and to no other, takes so many steps
abbrev pub HasFronts : ℕ → Profile → List Entry → ℕ → Type 0
HasFronts nodes profile entries steps =
    (fronts : List (List Entry)) × All (IsFront nodes profile entries) fronts × AllPairs (λ f g. f ≢ g) fronts × (steps ≤ steps_to fronts)

-- a line with this number comes next in its log behind some first lines of each that the machine allows
abbrev pub IsNextSomewhere : ℕ → Profile → List Entry → ℕ → Type 0
IsNextSomewhere nodes profile entries number =
    (before : List Entry) × (e : Entry) × AreFirst (before ++ e ∷ []) entries × IsAllowed nodes profile (calls_of before) × (e.number ≡ number)

-- WHAT A SEARCH TELLS: that there is such an order; that there is none, and a line that comes next somewhere; or nothing, for so many steps were too few
abbrev pub IsFound : ℕ → Profile → List Entry → ℕ → Found → Type 0
IsFound nodes profile entries steps finds.Order = AreAllowed nodes profile entries
IsFound nodes profile entries steps (finds.NoOrder number) = (AreAllowed nodes profile entries → ⊥) × IsNextSomewhere nodes profile entries number
IsFound nodes profile entries steps finds.Untold = HasFronts nodes profile entries steps
