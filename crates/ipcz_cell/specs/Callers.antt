-- Callers: what a caller's seat has, and what it knows after a call of its own was written down.
use Rattle.std.specs.Prelude.{◌≡◌, [], ◌∷◌, List, Option, Some, None}
use Rattle.atomic_table.specs.Seated.{TableId}
use Rattle.ipcz_slots.specs.declared.own.Own.{Own}
use Rattle.ipcz_rule.specs.declared.history.CallerView.{CallerView}
use Rattle.ipcz_rule.specs.declared.history.Entry.{Entry}
use Rattle.ipcz_rule.specs.declared.view.View.{View}
use Rattle.ipcz_rule.specs.Histories.{after_call, at_node, caller_view, calls_by, new_caller}
use Rattle.ipcz_rule.specs.Lasting.{own_of}
use Rattle.ipcz_cell.specs.TableNames.{TableName}

-- the caller that a view has
abbrev pub caller_in : Option CallerView → CallerView
caller_in None = new_caller 0
caller_in (Some c) = c

-- what the view of a caller's own seat is
abbrev pub caller_own : CallerView → Own View
caller_own c = own_of (caller_view (Some c)) [] [] []

-- the caller of the first view of a list
abbrev pub first_caller : List (Own View) → CallerView
first_caller [] = new_caller 0
first_caller (o ∷ os) = caller_in o.view.caller

-- a caller's seat is of this table, and has its view alone
pub record IsCallerSeat (t : TableName) (id : TableId) (views : List (Own View)) : Type 0 where
  pub named : id ≡ t.id
  pub alone : views ≡ caller_own (first_caller views) ∷ []

-- the view of a seat to which a caller has lent its own
abbrev pub with_caller : CallerView → View → View
with_caller c v = record { parts = v.parts; seen = v.seen; announced = None; caller = Some c }

-- a caller's call is written down: the history of its node is this then; the caller has seen all before the call, and of its own calls there are those
-- that it has made
pub record IsWritten (e : Entry) (history : List Entry) (c c' : CallerView) : Type 0 where
  pub between : List Entry
  pub after : c' ≡ after_call between e c
  pub history_is : at_node e.node c'.seen ≡ history
  pub own : calls_by c.id c'.seen ≡ c'.mine
