use Rattle.std.proofs.Common.{◌≡◌, ◌+◌, arith, refl}
use Rattle.ipcz_events.proofs.Adding.{done-all, done-more, done-start, done-stopped}
use Rattle.ipcz_events.proofs.run.Run.obey_all.Goals as goal

pub loop-order-init : goal.loop-order-init
loop-order-init c = done-start c.args.nodes c.args.self.now c.args.orders.now c.args.out.now.items c.args.out.now.items 1 refl refl

pub returns-in-Some : goal.returns-in-Some
returns-in-Some c =
    done-stopped c.args.nodes c.args.self.now c.args.orders.now c.args.out.now.items c.loop-order.order-index c.loop-order.self c.obey.new.self
    c.loop-order.out.items c.obey.new.out.items c.loop-order.number c.order-item.result c.loop-order.invariant c.loop-order-test.true c.order-item.is
    _ c.in-Some.possible c.in-Some.is c.in_ok-possible.ensures

pub loop-order-preserved : goal.loop-order-preserved
loop-order-preserved c =
    let more : c.in_ok-number.number ≡ c.loop-order.number + 1 = grind (arith, c.in_ok-number.ensures, c.ok_or.ensures, c.checked_add.ensures) in
    done-more c.args.nodes c.args.self.now c.args.orders.now c.args.out.now.items c.loop-order.order-index c.loop-order.self c.obey.new.self
    c.loop-order.out.items c.obey.new.out.items c.loop-order.number c.order-item.result c.loop-order.invariant c.loop-order-test.true c.order-item.is
    c.in_ok-number.number _ c.in-None.is c.in_ok-possible.ensures more

pub returns : goal.returns
returns c =
    done-all c.args.nodes c.args.self.now c.args.orders.now c.args.out.now.items c.loop-order.order-index c.loop-order.self c.loop-order.out.items
    c.loop-order.number c.loop-order.invariant c.loop-order-test.false
