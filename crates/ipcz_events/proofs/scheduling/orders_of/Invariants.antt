use Rattle.std.proofs.Common.{◌≡◌, [], map, drop, length}
use Rattle.std.specs.FinSet.{contains}
use Rattle.serde_json.specs.View.{view}
use Rattle.ipcz_events.specs.Schedules.{is_taken_by, orders_from}
use Rattle.ipcz_events.proofs.scheduling.orders_of.Given as goal

-- the commands so far and those that are left are all of them, and the names are those that the commands so far opened
abbrev pub invariant-loop-value : goal.invariant-loop-value
invariant-loop-value l =
    (orders_from l.nodes l.orders.items (map view (drop l.value-index l.values)) ≡ orders_from l.nodes [] (map view l.values))
    × (contains l.opened ≡ is_taken_by l.orders.items)
    × (length l.orders.items ≡ l.value-index)
