-- How a search for an order stands.
use Rattle.std.specs.Prelude.{◌≡◌, ◌≢◌, ◌⊎◌, ◌<◌, ◌≤◌, ◌+◌, ◌*◌, ℕ, Bool, true, false, cond, not, ◌&&◌, ◌||◌, nat_eq, bytes_eq, length, Option, Some, None, List, [], ◌∷◌, ◌++◌, map, slice_get, All, AllPairs, MatchBool}
use Rattle.std.specs.Option.{unwrap_or}
use Rattle.std.specs.FinMap.{get}
use Rattle.ipcz_base.specs.declared.end.End.{End}
use Rattle.ipcz_base.specs.declared.profile.Profile.{Profile}
use Rattle.ipcz_base.specs.Ends.{same_end}
use Rattle.ipcz_script.specs.Labels.{Labels, bind}
use Rattle.ipcz_verdict.specs.declared.entry.Entry.{Entry}
use Rattle.ipcz_verdict.specs.declared.line.Line.{Line}
use Rattle.ipcz_verdict.specs.declared.line.Line.TheVariants as lines
use Rattle.ipcz_verdict.specs.declared.search.Step.{Step}
use Rattle.ipcz_verdict.specs.declared.search.Step.TheVariants as came
use Rattle.ipcz_verdict.specs.declared.search.Taken.{Taken}
use Rattle.ipcz_verdict.specs.Desks.{Desk, HasAllowed}
use Rattle.ipcz_verdict.specs.Ledger.{IsAllowed}
use Rattle.ipcz_verdict.specs.Together.{AgreesWith, AreAllowed, IsFront, IsNextSomewhere, calls_of, of_log}

-- ---- the logs

-- what is left of a log
abbrev pub left_of : List (List Entry) → ℕ → List Entry
left_of left log = unwrap_or (slice_get left log) []

-- one log has become this one, and the others are as they were
pub record IsWith (old : List (List Entry)) (log : ℕ) (entries : List Entry) (new : List (List Entry)) : Type 0 where
  pub count : length new ≡ length old
  pub logs : (k : ℕ) → left_of new k ≡ cond (nat_eq k log) entries (left_of old k)

-- these are the lines of 64 logs
pub record HasEntries (left : List (List Entry)) (entries : List Entry) : Type 0 where
  pub count : length left ≡ 64
  pub logs : (log : ℕ) → left_of left log ≡ of_log log entries

-- ---- which line is tried when

-- refused calls come first, then those that take no portal from its holder, and closes last
abbrev pub rank_of_put : List (List ℕ) → ℕ
rank_of_put [] = 1
rank_of_put (name ∷ names) = 2

abbrev pub rank_of : Line → ℕ
rank_of (lines.Opened node first second) = 1
rank_of (lines.Put node at bytes portals number) = rank_of_put portals
rank_of (lines.Got node at bytes portals number) = 1
rank_of (lines.Closed node at number) = 3
rank_of other = 0

abbrev pub key_of : Entry → ℕ
key_of e = 64 * rank_of e.line + e.log

-- ---- what was tried

abbrev pub taken_lines : List Taken → List Entry
taken_lines order = map (λ (t : Taken). t.entry) order

-- some order that begins so is allowed
abbrev pub CanEnd : ℕ → Profile → List Entry → List Entry → Type 0
CanEnd nodes profile entries order = (rest : List Entry) × AgreesWith (order ++ rest) entries × IsAllowed nodes profile (calls_of (order ++ rest))

-- none is that goes on with a line of a lower key
abbrev pub NoneBelow : ℕ → Profile → List Entry → List Entry → ℕ → Type 0
NoneBelow nodes profile entries order from = (e : Entry) → key_of e < from → CanEnd nodes profile entries (order ++ e ∷ []) → ⊥

-- if none goes on with a line that was taken, then none goes on with one of a lower key than that from which to go on in its place
abbrev pub AreTried : ℕ → Profile → List Entry → List Entry → List Taken → Type 0
AreTried nodes profile entries order [] = Unit {0}
AreTried nodes profile entries order (t ∷ ts) =
    ((CanEnd nodes profile entries (order ++ t.entry ∷ []) → ⊥) → NoneBelow nodes profile entries order t.next) × AreTried nodes profile entries (order ++ t.entry ∷ []) ts

-- the lines that were taken, and what is left of each log, are the logs' lines; and what comes before them was tried
pub record IsStack (nodes : ℕ) (profile : Profile) (entries : List Entry) (order : List Taken) (left : List (List Entry)) : Type 0 where
  pub count : length left ≡ 64
  pub within : (log : ℕ) → 64 ≤ log → of_log log entries ≡ []
  pub parted : (log : ℕ) → of_log log (taken_lines order) ++ left_of left log ≡ of_log log entries
  pub tried : AreTried nodes profile entries [] order
  pub allowed : IsAllowed nodes profile (calls_of (taken_lines order))

-- a search that has taken some lines, and tried all next ones of lower keys
pub record IsSearch (nodes : ℕ) (profile : Profile) (entries : List Entry) (judge : Desk) (order : List Taken) (left : List (List Entry)) (from : ℕ) : Type 0 where
  pub stack : IsStack nodes profile entries order left
  pub judged : HasAllowed judge nodes profile (calls_of (taken_lines order))
  pub below : NoneBelow nodes profile entries (taken_lines order) from

-- after lines were taken back: where the search goes on, or that it is at its end
abbrev pub IsBack : ℕ → Profile → List Entry → List Taken → List (List Entry) → Option ℕ → Type 0
IsBack nodes profile entries order left None = AreAllowed nodes profile entries → ⊥
IsBack nodes profile entries order left (Some from) = IsStack nodes profile entries order left × NoneBelow nodes profile entries (taken_lines order) from

-- what came of a step: how the search goes on, that it has found an order, or that there is none
abbrev pub IsStep : ℕ → Profile → List Entry → Desk → List Taken → List (List Entry) → Step → Type 0
IsStep nodes profile entries judge order left (came.On from) = IsSearch nodes profile entries judge order left from
IsStep nodes profile entries judge order left came.Found = AreAllowed nodes profile entries
IsStep nodes profile entries judge order left came.End = AreAllowed nodes profile entries → ⊥

-- ---- which fronts were found

-- none of these fronts goes on behind that order with a line of this key or a higher one
abbrev pub NoneGoesOn : List (List Entry) → List Entry → ℕ → Type 0
NoneGoesOn fronts order from = All (λ front. (e : Entry) (more : List Entry) → from ≤ key_of e → front ≢ order ++ e ∷ more) fronts

-- none goes on in the place of a line that was taken with one of those keys from which to go on there; the line's own is lower
abbrev pub AreFresh : List (List Entry) → List Entry → List Taken → Type 0
AreFresh fronts order [] = Unit {0}
AreFresh fronts order (t ∷ ts) = (key_of t.entry < t.next) × NoneGoesOn fronts order t.next × AreFresh fronts (order ++ t.entry ∷ []) ts

-- these fronts were found, each once, and those that are tried next are others
pub record HasFound (nodes : ℕ) (profile : Profile) (entries : List Entry) (fronts : List (List Entry)) (order : List Taken) (from : ℕ) : Type 0 where
  pub are : All (IsFront nodes profile entries) fronts
  pub apart : AllPairs (λ f g. f ≢ g) fronts
  pub fresh : AreFresh fronts [] order
  pub next : NoneGoesOn fronts (taken_lines order) from

-- a line of this key or a higher one was taken, if one was
abbrev pub Adds : List Taken → List Taken → ℕ → Bool → Type 0
Adds old new from took = MatchBool took ((t : Taken) × (new ≡ old ++ t ∷ []) × (from ≤ key_of t.entry) × (key_of t.entry < t.next)) (new ≡ old)

-- lines were taken back, and from this key on another stands in the place of the last of them
abbrev pub IsShortened : List Taken → List Taken → ℕ → Type 0
IsShortened old new from = (t : Taken) × (more : List Taken) × (old ≡ new ++ t ∷ more) × (from ≡ t.next)

-- a step that isn't the last takes a line, or takes lines back
abbrev pub Moves : List Taken → ℕ → List Taken → Step → Type 0
Moves old from new (came.On next) = (Adds old new from true × (next ≡ 0)) ⊎ IsShortened old new next
Moves old from new other = Unit {0}

-- if there is no order, then a line with this number comes next somewhere
abbrev pub IsStuck : ℕ → Profile → List Entry → ℕ → Type 0
IsStuck nodes profile entries number = (AreAllowed nodes profile entries → ⊥) → IsNextSomewhere nodes profile entries number

-- the number is that of a line that comes next in its log, if a line is left
abbrev pub IsOfNext : List (List Entry) → ℕ → Type 0
IsOfNext left number = ((log : ℕ) → left_of left log ≡ []) ⊎ ((log : ℕ) × (e : Entry) × (rest : List Entry) × (left_of left log ≡ e ∷ rest) × (e.number ≡ number))

-- ---- names that are bound together

abbrev pub may_mean : Option End → End → Bool
may_mean None e = true
may_mean (Some d) e = same_end d e

-- none of these names is this one and means another portal
abbrev pub agrees : List ℕ → End → List (List ℕ) → List End → Bool
agrees name e [] es = true
agrees name e (n ∷ ns) [] = true
agrees name e (n ∷ ns) (d ∷ es) = (not (bytes_eq n name) || same_end d e) && agrees name e ns es

abbrev pub may_bind : Labels → List (List ℕ) → List End → Bool
may_bind b [] [] = true
may_bind b [] (e ∷ es) = false
may_bind b (n ∷ ns) [] = false
may_bind b (n ∷ ns) (e ∷ es) = may_mean (get b.names n) e && (agrees n e ns es && may_bind b ns es)

abbrev pub bind_all : Labels → List (List ℕ) → List End → Labels
bind_all b (n ∷ ns) (e ∷ es) = bind_all (bind b n e) ns es
bind_all b ns es = b
