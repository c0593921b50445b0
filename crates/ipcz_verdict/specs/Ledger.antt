-- THE RULES of a log: which lines, one after the other, the machine of `ipcz_promise` allows.
--
-- A line says what a caller did and what it was answered, and names portals by the log's own names. A ledger has the machine's accounts, and which
-- portal each name means. Between two lines the nodes may take any turns, which a log doesn't have: a turn changes the accounts only where it closes
-- a portal that was dropped.
use Rattle.std.specs.Prelude.{◌≡◌, ◌≢◌, ◌⊎◌, ◌+◌, ℕ, List, [], ◌∷◌, length, map, Option, Some, None}
use Rattle.std.specs.FinMap.{get}
use Rattle.ipcz_base.specs.declared.side.Side.TheVariants.{A, B}
use Rattle.ipcz_base.specs.declared.end.End.{End}
use Rattle.ipcz_base.specs.declared.profile.Profile.{Profile}
use Rattle.ipcz_base.specs.declared.profile.Profile.TheVariants.{Printed, Wide}
use Rattle.ipcz_base.specs.Ends.{end_at}
use Rattle.ipcz_node.specs.FirstPairs.{first_pairs}
use Rattle.ipcz_node.specs.declared.happened.Happened.{Happened}
use Rattle.ipcz_world.specs.declared.step.Step.{Step}
use Rattle.ipcz_world.specs.declared.step.Step.TheVariants as steps
use Rattle.ipcz_world.specs.declared.step.Reply.TheVariants as replies
use Rattle.ipcz_promise.specs.Promise.{Account, May, MayRun, start}
use Rattle.ipcz_script.specs.Labels.{Labels, bind, ends_of, first_labels}
use Rattle.ipcz_verdict.specs.declared.line.Line.{Line}
use Rattle.ipcz_verdict.specs.declared.line.Line.TheVariants as lines

pub record Ledger : Type 0 where
  pub account : Account
  -- which portal each name means
  pub labels : Labels
  -- how many pairs there are: the next one gets this number
  pub pairs : ℕ

-- the ledger before the first line: the first pairs of the nodes, with their names. (How many words there are plays no part: no rule of `May` reads it.)
abbrev pub first_ledger : ℕ → Ledger
first_ledger nodes = record { account = start nodes 0; labels = first_labels nodes; pairs = length (first_pairs nodes) }

-- the portal that a name means
abbrev pub meant : Ledger → List ℕ → Option End
meant l name = get l.labels.names name

-- the names of the portals in a parcel that was got: each means the portal already, or is new, and means it from now on
abbrev pub Binds : Labels → List (List ℕ) → List End → Labels → Type 0
Binds b [] [] c = c ≡ b
Binds b (name ∷ names) (e ∷ es) c = ((get b.names name ≡ None) ⊎ (get b.names name ≡ Some e)) × Binds (bind b name e) names es c
Binds b names es c = ⊥

-- the step of a put, by what the log's puts may have in them
abbrev pub put_step : Profile → ℕ → End → List ℕ → List End → Step
put_step Printed node at bytes ends = steps.Put node at bytes ends
put_step Wide node at bytes ends = steps.PutWide node at bytes ends

-- the labels once a pair was opened under two names: it is the pair with the next number
abbrev pub with_pair : Ledger → List ℕ → List ℕ → Labels
with_pair l first second = bind (bind l.labels first (end_at l.pairs A)) second (end_at l.pairs B)

-- THE RULE OF A LINE: the names in it mean something, and what was called may have been answered so
abbrev pub MayLine : Profile → Ledger → Line → Ledger → Type 0
MayLine profile l (lines.Opened node first second) m =
    (meant l first ≡ None) × (meant l second ≡ None) × (first ≢ second)
    × May l.account (steps.Open node) (replies.Opened (end_at l.pairs A) (end_at l.pairs B)) m.account
    × (m.labels ≡ with_pair l first second) × (m.pairs ≡ l.pairs + 1)
MayLine profile l (lines.Put node name bytes names number) m =
    (at : End) × (ends : List End) × (meant l name ≡ Some at) × (ends_of l.labels names ≡ Some ends)
    × May l.account (put_step profile node at bytes ends) (replies.Put number) m.account × (m.labels ≡ l.labels) × (m.pairs ≡ l.pairs)
MayLine profile l (lines.Got node name bytes names number) m =
    (at : End) × (ends : List End) × (meant l name ≡ Some at)
    × May l.account (steps.Get node at) (replies.Got number (record { bytes = bytes; ends = ends })) m.account
    × Binds l.labels names ends m.labels × (m.pairs ≡ l.pairs)
MayLine profile l (lines.Closed node name number) m =
    (at : End) × (meant l name ≡ Some at) × May l.account (steps.Close node at) (replies.Closed number) m.account
    × (m.labels ≡ l.labels) × (m.pairs ≡ l.pairs)
MayLine profile l (lines.OpenRefused node why) m = May l.account (steps.Open node) (replies.Refused why) m.account × (m.labels ≡ l.labels) × (m.pairs ≡ l.pairs)
MayLine profile l (lines.PutRefused node name bytes names why) m =
    (at : End) × (ends : List End) × (meant l name ≡ Some at) × (ends_of l.labels names ≡ Some ends)
    × May l.account (put_step profile node at bytes ends) (replies.Refused why) m.account × (m.labels ≡ l.labels) × (m.pairs ≡ l.pairs)
MayLine profile l (lines.GetRefused node name why) m =
    (at : End) × (meant l name ≡ Some at) × May l.account (steps.Get node at) (replies.Refused why) m.account × (m.labels ≡ l.labels) × (m.pairs ≡ l.pairs)
MayLine profile l (lines.CloseRefused node name why) m =
    (at : End) × (meant l name ≡ Some at) × May l.account (steps.Close node at) (replies.Refused why) m.account × (m.labels ≡ l.labels) × (m.pairs ≡ l.pairs)

-- some turns of some nodes, in which this was seen
abbrev pub MayTurns : Account → Account → Type 0
MayTurns a c = (nodes : List ℕ) × (seen : List Happened) × MayRun a (map steps.Turn nodes) (map replies.Turned seen) c

-- the same of a ledger, whose names stay
abbrev pub MayRest : Ledger → Ledger → Type 0
MayRest l m = MayTurns l.account m.account × (m.labels ≡ l.labels) × (m.pairs ≡ l.pairs)

-- THE RULE OF A LOG: each of its lines in its turn, with any turns of nodes before, between and after them
abbrev pub MayLog : Profile → Ledger → List Line → Ledger → Type 0
MayLog profile l [] m = MayRest l m
MayLog profile l (line ∷ log) m = (k : Ledger) × (n : Ledger) × MayRest l k × MayLine profile k line n × MayLog profile n log m

-- a log of an implementation with so many nodes is allowed: the machine has a run with these calls and these answers
abbrev pub IsAllowed : ℕ → Profile → List Line → Type 0
IsAllowed nodes profile log = (m : Ledger) × MayLog profile (first_ledger nodes) log m
