-- What a transcript's lines say that a name got and put, by the names only: its bytes are read back, and compared with the commands of its
-- script.
use Rattle.std.specs.Prelude.{◌≡◌, ◌≢◌, ◌⊎◌, ◌<◌, ℕ, cond, List, [], ◌∷◌, ◌++◌, length, map, take, bytes_eq, Ok}
use Rattle.std.specs.List.{AllByRecursion, range_with_len}
use Rattle.ipcz_script.specs.declared.command.Command.{Command}
use Rattle.ipcz_script.specs.declared.command.Command.TheVariants as commands
use Rattle.ipcz_script.specs.declared.script.Script.{Script}
use Rattle.ipcz_script.specs.declared.outcome.Outcome.{Outcome}
use Rattle.ipcz_script.specs.Labels.{pair_name}
use Rattle.ipcz_script.specs.Reading.{IsScript}
use Rattle.ipcz_script.specs.Transcript.{IsRunOutput}
use Rattle.ipcz_script.specs.Sayings.{Answer, Done, Number, Parcel, Saying, Open, Put, Get, NumbersHaveBits, Says}

-- a parcel as a script has it: the names of its portals, and its data
pub record Content : Type 0 where
  pub portals : List (List ℕ)
  pub data_ : List ℕ

-- a parcel with the number that a line gives it
pub record Numbered : Type 0 where
  pub number : ℕ
  pub content : Content

-- ---- what a name got

-- the parcel that a line says this name got
unfoldable pub got_line : List ℕ → Saying → List Numbered
got_line name (Get at (Parcel number portals bytes)) =
    cond (bytes_eq at name) (record { number = number; content = record { portals = portals; data_ = bytes } } ∷ []) []
got_line name other = []

-- the parcels that these lines say it got, in order
abbrev pub got_by : List ℕ → List Saying → List Numbered
got_by name [] = []
got_by name (x ∷ xs) = got_line name x ++ got_by name xs

-- ---- what a name put

-- what a put command at this name gives
unfoldable pub given : List ℕ → Command → List Content
given name (commands.Put at text attached) = cond (bytes_eq at name) (record { portals = attached; data_ = text } ∷ []) []
given name other = []

-- what these commands give, one for each put at the name
abbrev pub given_by : List ℕ → List Command → List Content
given_by name [] = []
given_by name (c ∷ cs) = given name c ++ given_by name cs

-- what the line of a put at this name answers
unfoldable pub put_line : List ℕ → Saying → List Answer
put_line name (Put at answer) = cond (bytes_eq at name) (answer ∷ []) []
put_line name other = []

-- what these lines answer, one for each put at the name
abbrev pub put_lines : List ℕ → List Saying → List Answer
put_lines name [] = []
put_lines name (x ∷ xs) = put_line name x ++ put_lines name xs

-- the contents of those puts whose line has a number, under it
abbrev pub accepted : List Content → List Answer → List Numbered
accepted [] answers = []
accepted (c ∷ cs) [] = []
accepted (c ∷ cs) (Number number ∷ answers) = record { number = number; content = c } ∷ accepted cs answers
accepted (c ∷ cs) (answer ∷ answers) = accepted cs answers

-- the parcels that a name put, by the commands and the lines of a run
abbrev pub put_by : List ℕ → List Command → List Saying → List Numbered
put_by name cs sayings = accepted (given_by name cs) (put_lines name sayings)

-- ---- peers

-- one of the lines says this
abbrev pub HasSaying : List Saying → Saying → Type 0
HasSaying [] saying = ⊥
HasSaying (x ∷ xs) saying = (x ≡ saying) ⊎ HasSaying xs saying

-- these are the two names of the first pair that two nodes have
pub record AreOfFirstPair (nodes : ℕ) (x y : List ℕ) : Type 0 where
  pub one : ℕ
  pub other : ℕ
  pub one_within : one < nodes
  pub other_within : other < nodes
  pub apart : one ≢ other
  pub first : x ≡ pair_name one other
  pub second : y ≡ pair_name other one

-- the lines tell that two names are those of one pair: one of them says that it was opened under these names, or it is a first pair
abbrev pub ArePeers : ℕ → List Saying → List ℕ → List ℕ → Type 0
ArePeers nodes sayings x y = HasSaying sayings (Open x y Done) ⊎ (HasSaying sayings (Open y x Done) ⊎ AreOfFirstPair nodes x y)

-- ---- the law

-- what was put is numbered from 0 on, and what was got is a front of it, with the same numbers
pub record AreInOrder (puts gots : List Numbered) : Type 0 where
  pub counted : map (λ p. p.number) puts ≡ range_with_len 0 (length puts)
  pub front : take (length gots) puts ≡ gots

-- law: of two names that are peers, the lines say that one got a front of what the other put: the numbers, the names of the portals and
-- the data
abbrev pub GetsFollowPutsByName : Type 0
GetsFollowPutsByName =
    (input : List ℕ) (script : Script) (outcome : Outcome) (text : List ℕ) (sayings : List Saying) (x y : List ℕ) →
    IsScript input (Ok script) → IsRunOutput script outcome text → Says text sayings → AllByRecursion NumbersHaveBits sayings →
    ArePeers script.nodes sayings x y → AreInOrder (put_by x script.commands sayings) (got_by y sayings)
