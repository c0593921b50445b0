use Rattle.std.proofs.Common.{◌≡◌, ◌∙◌, ◌+◌, ◌∷◌, [], ap, sym, arith, map, drop, length, length-append, Some}
use Rattle.serde_json.specs.View.{view}
use Rattle.ipcz_script.proofs.Taken.{map-drop}
use Rattle.ipcz_events.specs.Schedules.{is_taken_by, order_of, orders_from}
use Rattle.ipcz_events.proofs.OrdersRead.{order_more, taken_after, taken_at_first}
use Rattle.ipcz_events.proofs.scheduling.orders_of.Goals as goal

pub loop-value-init : goal.loop-value-init
loop-value-init c = (
  ap (λ orders. orders_from c.args.nodes orders (map view c.args.values.now)) c.new-orders.ensures.items,
  taken_at_first c.new-opened.result c.new-orders.result.items c.new-opened.ensures.none c.new-orders.ensures.items,
  ap length c.new-orders.ensures.items,
)

pub loop-value-preserved : goal.loop-value-preserved
loop-value-preserved c =
    let before = c.loop-value.orders.items in
    let i = c.loop-value.value-index in
    let rest = map view (drop (i + 1) c.args.values.now) in
    let order : order_of c.args.nodes (is_taken_by before) (view c.value-item.result) ≡ Some c.in-Some.order =
    ap (λ taken. order_of c.args.nodes taken (view c.value-item.result)) (sym c.loop-value.invariant.1) ∙ sym c.in_ok-order.ensures ∙
    c.in-Some.is in (
      ap (λ orders. orders_from c.args.nodes orders rest) c.in_ok-push.ensures.items
          ∙ sym (order_more c.args.nodes before _ (view c.value-item.result) rest c.in-Some.order
          (map-drop view c.args.values.now i c.value-item.result c.loop-value-test.true c.value-item.is) order)
          ∙ c.loop-value.invariant.0,
      taken_after c.loop-value.opened c.note.new.opened before c.push.new.self.items c.in-Some.order c.loop-value.invariant.1
          c.in_ok-note.ensures c.in_ok-push.ensures.items,
      omega (arith, ap length c.in_ok-push.ensures.items, length-append before (c.in-Some.order ∷ []), c.loop-value.invariant.2),
    )
