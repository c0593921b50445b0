-- Which portals a run names that tells little of routers.
use Rattle.std.specs.Prelude.{ℕ, ◌+◌, ◌≡◌, ◌<◌, ◌≢◌, ◌≤◌, ◌==◌, ◌++◌, ◌||◌, Bool, true, false, ◌⊎◌, List, [], ◌∷◌, length, take, Option, Some, None}
use Rattle.std.specs.List.{All, AllPairs, AllWithin, Any, HoldsAt, count_by}
use Rattle.std.specs.Option.{IfSome, option_eq}
use Rattle.ipcz_lines.specs.declared.line.Line.{Line}
use Rattle.ipcz_lines.specs.declared.line.Line.TheVariants as lines
use Rattle.ipcz_lines.specs.declared.line.ReadLine.{ReadLine}
use Rattle.ipcz_lines.specs.declared.line.parts.Answer.{Answer}
use Rattle.ipcz_lines.specs.declared.line.parts.Answer.TheVariants as answers
use Rattle.ipcz_lines.specs.declared.line.parts.Refusal.{Refusal}
use Rattle.ipcz_lines.specs.declared.line.parts.Refusal.TheVariants as refusals
use Rattle.ipcz_messages.specs.declared.named.NamedPortal.{NamedPortal}
use Rattle.ipcz_messages.specs.Ends.{IsFirstSettle}
use Rattle.ipcz_messages.specs.Messages.{is_settle}

abbrev pub is_turn : Line → Bool
is_turn (lines.Turn node event) = true
is_turn other = false

-- how many of these lines are of turns, and how many are settles
abbrev pub turn_count : List ReadLine → ℕ
turn_count read = count_by (λ x. is_turn x.line) read

abbrev pub settle_count : List ReadLine → ℕ
settle_count read = count_by (λ x. is_settle x.line) read

-- a run tells of the routers that its calls are at: a turn stands before the first settle, and there are more turns than settles
pub record TellsOfRouters (read : List ReadLine) : Type 0 where
  pub sight : ℕ
  pub settled : IsFirstSettle read sight
  pub turned : Any (λ x. is_turn x.line ≡ true) (take sight read)
  pub more : settle_count read < turn_count read

-- portals may move at a line: a turn or a settle
abbrev pub stirs : Line → Bool
stirs line = is_turn line || is_settle line

-- the first line at which portals may move, or, if there is none, the end
pub record IsFirstStir (read : List ReadLine) (i : ℕ) : Type 0 where
  pub within : i ≤ length read
  pub before : AllWithin (λ x. stirs x.line ≡ false) read 0 i
  pub there : i < length read → HoldsAt (λ x. stirs x.line ≡ true) read i

-- the call found its portal
abbrev pub finds : Refusal → Bool
finds refusals.UnknownName = false
finds refusals.Away = false
finds other = true

abbrev pub is_found : Answer → Bool
is_found (answers.Refused why) = finds why
is_found (answers.Number n) = true

-- a line is a call at the portal of a name, which it found
abbrev pub IsCallAt : List ℕ → Line → Type 0
IsCallAt name (lines.Put at answer) = (name ≡ at.now) × (is_found answer ≡ true)
IsCallAt name (lines.Close at answer) = (name ≡ at.now) × (is_found answer ≡ true)
IsCallAt name (lines.Missed at why) = (name ≡ at.now) × (finds why ≡ true)
IsCallAt name (lines.Got at n names text) = name ≡ at.now
IsCallAt name other = ⊥

-- a line opens a pair, one of whose portals has the name
abbrev pub IsOpenOf : List ℕ → Line → Type 0
IsOpenOf name (lines.Open first second None) = (name ≡ first.now) ⊎ (name ≡ second.now)
IsOpenOf name other = ⊥

-- a line closes the portal of a name
abbrev pub IsCloseOf : List ℕ → Line → Type 0
IsCloseOf name (lines.Close at (answers.Number n)) = name ≡ at.now
IsCloseOf name other = ⊥

-- the name of a first portal, as `0>1`: that at the first of these nodes, of fewer than so many, whose peer is at the other
pub record IsFirstName (nodes : ℕ) (name : List ℕ) (node other : ℕ) : Type 0 where
  pub text : name ≡ (48 + node) ∷ 62 ∷ (48 + other) ∷ []
  pub node_is : node < nodes
  pub other_is : other < nodes
  pub two : node ≢ other

-- the portal at this place has the name, and none before it
pub record IsFirstOfName (name : List ℕ) (named : List NamedPortal) (i : ℕ) : Type 0 where
  pub within : i < length named
  pub found : HoldsAt (λ p. p.name.now ≡ name) named i
  pub before : AllWithin (λ p. p.name.now ≢ name) named 0 i

-- the place of the portal of a name, or none only if none has it
abbrev pub IsPlaceOfName : List ℕ → List NamedPortal → Option ℕ → Type 0
IsPlaceOfName name named (Some i) = IsFirstOfName name named i
IsPlaceOfName name named None = All (λ p. p.name.now ≢ name) named

-- a portal of this name and node is told by the open at its first line
pub record IsOpened (read : List ReadLine) (name : List ℕ) (node : Option ℕ) (first : ℕ) : Type 0 where
  pub nowhere : node ≡ None
  pub within : first < length read
  pub opened : HoldsAt (λ x. IsOpenOf name x.line) read first

-- a portal of this name and node is there from the start, and a line calls it
pub record IsCalled (read : List ReadLine) (name : List ℕ) (node : Option ℕ) (first : ℕ) : Type 0 where
  pub home : (here other : ℕ) × (node ≡ Some here) × IsFirstName 8 name here other
  pub start : first ≡ 0
  pub called : (line : ℕ) × (line < length read) × HoldsAt (λ x. IsCallAt name x.line) read line

abbrev pub IsNamed : List ReadLine → List ℕ → Option ℕ → ℕ → Type 0
IsNamed read name node first = IsOpened read name node first ⊎ IsCalled read name node first

-- a line closes the portal of a name
pub record IsClosedAt (read : List ReadLine) (name : List ℕ) (i : ℕ) : Type 0 where
  pub within : i < length read
  pub closes : HoldsAt (λ x. IsCloseOf name x.line) read i

-- a portal is what the lines tell
pub record IsTold (read : List ReadLine) (p : NamedPortal) : Type 0 where
  pub named : IsNamed read p.name.now p.node p.first
  pub closed : IfSome p.closed (λ i. IsClosedAt read p.name.now i)

-- if no close of a portal is noted, none of the lines from its first one on, and before this one, closes it
abbrev pub NotesItsClose : List ReadLine → ℕ → NamedPortal → Type 0
NotesItsClose read n p = p.closed ≡ None → AllWithin (λ x. IsCloseOf p.name.now x.line → ⊥) read p.first n

-- a portal is one of this node, or, with none, an opened one
abbrev pub is_of_node : Option ℕ → NamedPortal → Bool
is_of_node node p = option_eq (λ m n. m == n) p.node node

-- how many portals stand at a node, or how many are opened ones
abbrev pub portals_at : Option ℕ → List NamedPortal → ℕ
portals_at node named = count_by (is_of_node node) named

-- the portals of a node, and the opened ones, have the places 0, 1, 2 and so on, in the order in which they are named
abbrev pub ArePlaced : List NamedPortal → Type 0
ArePlaced named = (i : ℕ) → i < length named → HoldsAt (λ p. p.place ≡ portals_at p.node (take i named)) named i

-- no two portals have the same name
abbrev pub AreDistinct : List NamedPortal → Type 0
AreDistinct named = AllPairs (λ p q. p.name.now ≢ q.name.now) named

-- a portal that is new, behind others
pub record IsNew (name : List ℕ) (node : Option ℕ) (first : ℕ) (others : List NamedPortal) (p : NamedPortal) : Type 0 where
  pub name_is : p.name.now ≡ name
  pub node_is : p.node ≡ node
  pub place_is : p.place ≡ portals_at node others
  pub first_is : p.first ≡ first
  pub open_is : p.closed ≡ None

-- a portal is noted behind the others, if there is room for it and none has its name
abbrev pub IsNoted : List ℕ → Option ℕ → ℕ → List NamedPortal → List NamedPortal → Type 0
IsNoted name node first old new =
    ((new ≡ old) × ((32 ≤ length old) ⊎ ((i : ℕ) × IsFirstOfName name old i)))
    ⊎ ((length old < 32) × All (λ p. p.name.now ≢ name) old × ((p : NamedPortal) × (new ≡ old ++ p ∷ []) × IsNew name node first old p))

-- the portal of a name is among those that are named, or there was no room for it
abbrev pub IsNamedIn : List ℕ → List NamedPortal → Type 0
IsNamedIn name named = (32 ≤ length named) ⊎ ((i : ℕ) × (i < length named) × HoldsAt (λ p. p.name.now ≡ name) named i)

-- what was named stays named
abbrev pub KeepsNames : List NamedPortal → List NamedPortal → Type 0
KeepsNames old new = (name : List ℕ) → IsNamedIn name old → IsNamedIn name new

-- each portal that a line opens is named, as far as there was room
abbrev pub AllOpensNamed : List NamedPortal → ReadLine → Type 0
AllOpensNamed named x = (name : List ℕ) → IsOpenOf name x.line → IsNamedIn name named

-- the portal that a line calls is named, if it was there from the start, and as far as there was room
abbrev pub AllCallsNamed : List NamedPortal → ReadLine → Type 0
AllCallsNamed named x = (name : List ℕ) (node other : ℕ) → IsCallAt name x.line → IsFirstName 8 name node other → IsNamedIn name named

-- each portal that the lines before this one tell of is named, as far as there was room
pub record AreAllNamed (read : List ReadLine) (n : ℕ) (named : List NamedPortal) : Type 0 where
  pub opened : AllWithin (AllOpensNamed named) read 0 n
  pub called : AllWithin (AllCallsNamed named) read 0 n
