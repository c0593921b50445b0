-- Which line of a log a JSON value is, and which header.
use Rattle.std.specs.Prelude.{ℕ, List, codes, nat_le, if◌then◌else◌, Option, Some, None, option_and_then, option_map}
use Rattle.std.specs.Cmp.Lexicographic.{slice_cmp}
use Rattle.std.specs.FinSet.{contains, empty}
use Rattle.std.specs.Ordering.{nat_cmp}
use Rattle.serde_json.specs.Data.{Data}
use Rattle.serde_json.specs.Find.{as_number, as_str, as_u64, get}
use Rattle.ipcz_script.specs.declared.command.Command.{Command}
use Rattle.ipcz_script.specs.Scripts.{nodes_in, words_in}
use Rattle.ipcz_script.specs.Shapes.{command_in, values_of}
use Rattle.ipcz_events.specs.declared.entry.Entry.{Entry}
use Rattle.ipcz_events.specs.declared.entry.Entry.TheVariants as entries
use Rattle.ipcz_events.specs.declared.header.Header.{Header}

-- ---- lines

abbrev pub text_in : List ℕ → Data → Option (List ℕ)
text_in member d = option_and_then as_str (get member d)

-- a node has a number up to 255; that it is there is the judge's to say
abbrev pub small : ℕ → Option ℕ
small n = if nat_le n 255 then Some n else None

abbrev pub node_in : Data → Option ℕ
node_in d = option_and_then (λ m. option_and_then small (option_and_then as_u64 (as_number m))) (get (codes "node") d)

abbrev pub acted_by : Option ℕ → List ℕ → Option Entry
acted_by (Some node) text = Some (entries.Acted node text)
acted_by None text = None

-- the command that a list is; names may have been opened before
abbrev pub call_in : ℕ → Data → Option Command
call_in nodes d = option_and_then (λ list. option_and_then (command_in nodes (contains {R = slice_cmp nat_cmp} empty)) (values_of list)) (get (codes "call") d)

abbrev pub called_by : Option (List ℕ) → Option Command → Option Entry
called_by (Some answer) (Some command) = Some (entries.Call command answer)
called_by answer command = None

-- a value with the text `event` is an act, and another one a call
abbrev pub entry_by : Option (List ℕ) → ℕ → Data → Option Entry
entry_by (Some text) nodes d = acted_by (node_in d) text
entry_by None nodes d = called_by (text_in (codes "answer") d) (call_in nodes d)

abbrev pub entry_in : ℕ → Data → Option Entry
entry_in nodes d = entry_by (text_in (codes "event") d) nodes d

-- ---- the header

abbrev pub header_in : Data → Option Header
header_in d = option_and_then (λ nodes. option_map (λ words. record { nodes = nodes; words = words }) (words_in d nodes)) (nodes_in d)
