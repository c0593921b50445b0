-- The history of the nodes: what was called at each, by which caller, and what it answered, in one order; and what callers know of it.
use Rattle.std.specs.Prelude.{◌≡◌, ◌<◌, ℕ, cond, nat_eq, List, [], ◌∷◌, ◌++◌, length, Option, Some, None}
use mathlib.Core.Option.{some}
use mathlib.Core.List.{IsPrefix}
use lib.ListN.{get_elem?}
use Rattle.ipcz_rule.specs.declared.history.Call.{Call}
use Rattle.ipcz_rule.specs.declared.history.CallerView.{CallerView}
use Rattle.ipcz_rule.specs.declared.history.Entry.{Entry}
use Rattle.ipcz_rule.specs.declared.view.Part.{Part}
use Rattle.ipcz_rule.specs.declared.view.View.{View}

abbrev pub entry_of : ℕ → ℕ → Call → Entry
entry_of node by call = record { node = node; by = by; call = call }

-- the entries of a node
abbrev pub at_node : ℕ → List Entry → List Entry
at_node node [] = []
at_node node (e ∷ es) = cond (nat_eq e.node node) (e ∷ at_node node es) (at_node node es)

-- the entries of a caller
abbrev pub calls_by : ℕ → List Entry → List Entry
calls_by id [] = []
calls_by id (e ∷ es) = cond (nat_eq e.by id) (e ∷ calls_by id es) (calls_by id es)

-- the part with an entry more in its node's history
abbrev pub noted : Entry → Part → Part
noted e p = record {
  node = p.node;
  state = p.state;
  message = p.message;
  probed = p.probed;
  batches = p.batches;
  put = p.put;
  got = p.got;
  gone = p.gone;
  history = p.history ++ e ∷ [];
}

-- a caller that has made no call yet
abbrev pub new_caller : ℕ → CallerView
new_caller id = record { id = id; seen = []; mine = [] }

-- the caller after a call of its own, before which these were made that it hadn't seen
abbrev pub after_call : List Entry → Entry → CallerView → CallerView
after_call between e c = record { id = c.id; seen = (c.seen ++ between) ++ e ∷ []; mine = c.mine ++ e ∷ [] }

-- of a caller of the seat `at`, which is to have the seat `seat`: it has seen a beginning of the history, and its own calls are those that stand there
pub record IsCaller (log : List Entry) (many seat at : ℕ) (c : CallerView) : Type 0 where
  pub here : seat ≡ at
  pub begun : c.id < many
  pub seen : IsPrefix c.seen log
  pub mine : calls_by c.id log ≡ c.mine

-- there is one history of all nodes: each part has its node's entries, and each caller has one seat
pub record Histories (views : List View) : Type 0 where
  pub log : List Entry
  pub seat_of : ℕ → ℕ
  pub parts : (id : ℕ) (v : View) (j : ℕ) (p : Part) → get_elem? views id ≡ some v → get_elem? v.parts j ≡ some p → p.history ≡ at_node p.node log
  pub callers : (id : ℕ) (v : View) (c : CallerView) → get_elem? views id ≡ some v → v.caller ≡ Some c → IsCaller log (length views) (seat_of c.id) id c
  pub begun : (k : ℕ) (e : Entry) → get_elem? log k ≡ some e → e.by < length views

-- of two callers' views that a seat takes in, it has the second, if there is one
abbrev pub lent_caller : Option CallerView → Option CallerView → Option CallerView
lent_caller o None = o
lent_caller o (Some c) = Some c

-- the view of a caller's own seat
abbrev pub caller_view : Option CallerView → View
caller_view o = record { parts = []; seen = []; announced = None; caller = o }

-- the view without its caller
abbrev pub without_caller : View → View
without_caller v = record { parts = v.parts; seen = v.seen; announced = None; caller = None }

-- a caller that has lent its view to a seat has called, and the call is written down: the caller has seen all before it, its node's entries are those
-- of the seat, and of its own calls there are those that it has made
pub record IsNoted (v : View) (p : Part) (c : CallerView) (call : Call) (w : View) : Type 0 where
  pub between : List Entry
  pub view : w ≡ record {
    parts = noted (entry_of p.node c.id call) p ∷ [];
    seen = v.seen;
    announced = None;
    caller = Some (after_call between (entry_of p.node c.id call) c);
  }
  pub history : at_node p.node (after_call between (entry_of p.node c.id call) c).seen ≡ p.history ++ entry_of p.node c.id call ∷ []
  pub own : calls_by c.id (after_call between (entry_of p.node c.id call) c).seen ≡ (after_call between (entry_of p.node c.id call) c).mine
