-- Which line a JSON value is, and which header.
use Rattle.std.specs.Prelude.{ℕ, ◌&&◌, List, [], nat_le, nat_lt, bytes_eq, codes, if◌then◌else◌, Option, Some, None, option_and_then, option_map}
use Rattle.serde_json.specs.Data.{Data}
use Rattle.serde_json.specs.Find.{as_number, as_str, as_u64, get}
use Rattle.ipcz_base.specs.declared.profile.Profile.{Profile}
use Rattle.ipcz_base.specs.declared.profile.Profile.TheVariants.{Printed, Wide}
use Rattle.ipcz_base.specs.declared.refusal.Refusal.{Refusal}
use Rattle.ipcz_base.specs.declared.refusal.Refusal.TheVariants as why
use Rattle.ipcz_script.specs.Each.{each_of}
use Rattle.ipcz_script.specs.Shapes.{values_of}
use Rattle.ipcz_verdict.specs.declared.entry.Entry.{Entry}
use Rattle.ipcz_verdict.specs.declared.line.Line.{Line}
use Rattle.ipcz_verdict.specs.declared.line.Line.TheVariants as lines
use Rattle.ipcz_log.specs.declared.answers.Answer.{Answer}
use Rattle.ipcz_log.specs.declared.answers.Answer.TheVariants as answers
use Rattle.ipcz_log.specs.declared.header.Header.{Header}

-- ---- members

-- the text that a member is
abbrev pub text_in : List ℕ → Data → Option (List ℕ)
text_in name d = option_and_then as_str (get name d)

-- the whole number that a member is, below 2^64 and written without sign, fraction and exponent
abbrev pub number_in : List ℕ → Data → Option ℕ
number_in name d = option_and_then (λ m. option_and_then as_u64 (as_number m)) (get name d)

-- the refusal of a name
abbrev pub refusal_named : List ℕ → Option Refusal
refusal_named name =
    if bytes_eq name (codes "OutOfMemory") then Some why.OutOfMemory
    else if bytes_eq name (codes "Empty") then Some why.Empty
    else if bytes_eq name (codes "PeerClosed") then Some why.PeerClosed
    else if bytes_eq name (codes "NoWord") then Some why.NoWord
    else if bytes_eq name (codes "SelfAttach") then Some why.SelfAttach
    else if bytes_eq name (codes "PeerAttach") then Some why.PeerAttach
    else if bytes_eq name (codes "Stranger") then Some why.Stranger
    else if bytes_eq name (codes "NumbersEnd") then Some why.NumbersEnd
    else if bytes_eq name (codes "BadData") then Some why.BadData
    else if bytes_eq name (codes "TooMany") then Some why.TooMany
    else None

-- what a call answered: its refusal, if the line has that member as a text, and else its number
abbrev pub answer_by : Option (List ℕ) → Option ℕ → Option Answer
answer_by (Some name) number = option_map answers.Refused (refusal_named name)
answer_by None number = option_map answers.Number number

abbrev pub answer_in : Data → Option Answer
answer_in d = answer_by (text_in (codes "refused") d) (number_in (codes "n") d)

-- the names of the portals in a parcel: none if there is no such member
abbrev pub names_by : Option Data → Option (List (List ℕ))
names_by None = Some []
names_by (Some d) = option_and_then (each_of as_str) (values_of d)

abbrev pub names_in : Data → Option (List (List ℕ))
names_in d = names_by (get (codes "portals") d)

-- a node has a number up to 255; that it is there is the judge's to say
abbrev pub node_in : Data → Option ℕ
node_in d = option_and_then (λ n. if nat_le n 255 then Some n else None) (number_in (codes "node") d)

-- ---- lines

abbrev pub opened_by : ℕ → Option (List ℕ) → Option (List ℕ) → Option Line
opened_by node (Some first) (Some second) = Some (lines.Opened node first second)
opened_by node first second = None

abbrev pub open_by : ℕ → Option Answer → Data → Option Line
open_by node (Some (answers.Refused w)) d = Some (lines.OpenRefused node w)
open_by node answer d = opened_by node (text_in (codes "first") d) (text_in (codes "second") d)

abbrev pub open_in : ℕ → Data → Option Line
open_in node d = open_by node (answer_in d) d

abbrev pub put_by : ℕ → Option (List ℕ) → Option (List ℕ) → Option (List (List ℕ)) → Option Answer → Option Line
put_by node (Some at) (Some bytes) (Some names) (Some (answers.Number number)) = Some (lines.Put node at bytes names number)
put_by node (Some at) (Some bytes) (Some names) (Some (answers.Refused w)) = Some (lines.PutRefused node at bytes names w)
put_by node at bytes names answer = None

abbrev pub put_in : ℕ → Data → Option Line
put_in node d = put_by node (text_in (codes "at") d) (text_in (codes "bytes") d) (names_in d) (answer_in d)

abbrev pub got_by : ℕ → List ℕ → ℕ → Option (List ℕ) → Option (List (List ℕ)) → Option Line
got_by node at number (Some bytes) (Some names) = Some (lines.Got node at bytes names number)
got_by node at number bytes names = None

abbrev pub got_in : ℕ → List ℕ → ℕ → Data → Option Line
got_in node at number d = got_by node at number (text_in (codes "bytes") d) (names_in d)

abbrev pub get_by : ℕ → Option (List ℕ) → Option Answer → Data → Option Line
get_by node (Some at) (Some (answers.Number number)) d = got_in node at number d
get_by node (Some at) (Some (answers.Refused w)) d = Some (lines.GetRefused node at w)
get_by node at answer d = None

abbrev pub get_in : ℕ → Data → Option Line
get_in node d = get_by node (text_in (codes "at") d) (answer_in d) d

abbrev pub close_by : ℕ → Option (List ℕ) → Option Answer → Option Line
close_by node (Some at) (Some (answers.Number number)) = Some (lines.Closed node at number)
close_by node (Some at) (Some (answers.Refused w)) = Some (lines.CloseRefused node at w)
close_by node at answer = None

abbrev pub close_in : ℕ → Data → Option Line
close_in node d = close_by node (text_in (codes "at") d) (answer_in d)

abbrev pub line_named : List ℕ → ℕ → Data → Option Line
line_named op node d =
    if bytes_eq op (codes "open") then open_in node d
    else if bytes_eq op (codes "put") then put_in node d
    else if bytes_eq op (codes "get") then get_in node d
    else if bytes_eq op (codes "close") then close_in node d
    else None

-- the line that a value is; members that it doesn't need are passed over
abbrev pub line_in : Data → Option Line
line_in d = option_and_then (λ node. option_and_then (λ op. line_named op node d) (text_in (codes "op") d)) (node_in d)

-- ---- the header

abbrev pub profile_by : Option (List ℕ) → Profile
profile_by None = Wide
profile_by (Some name) = if bytes_eq name (codes "printed") then Printed else Wide

abbrev pub profile_in : Data → Profile
profile_in d = profile_by (text_in (codes "profile") d)

-- how many logs there are, of which only the order within each is known: 1 to 64. If that is no number, there is one log, in one order
abbrev pub logs_by : Option ℕ → Option (Option ℕ)
logs_by None = Some None
logs_by (Some n) = if nat_le 1 n && nat_le n 64 then Some (Some n) else None

abbrev pub logs_in : Data → Option (Option ℕ)
logs_in d = logs_by (number_in (codes "logs") d)

abbrev pub header_in : Data → Option Header
header_in d = option_and_then (λ n. if nat_le 1 n && nat_le n 8 then option_map (λ logs. record { nodes = n; profile = profile_in d; logs = logs }) (logs_in d) else None) (number_in (codes "nodes") d)

-- ---- lines of several logs

-- the line with this number, of one of so many logs, that a value is
abbrev pub entry_in : ℕ → ℕ → Data → Option Entry
entry_in count number d =
    option_and_then (λ log. if nat_lt log count then option_map (λ line. record { log = log; number = number; line = line }) (line_in d) else None) (number_in (codes "log") d)
