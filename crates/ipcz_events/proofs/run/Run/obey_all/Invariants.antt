use Rattle.ipcz_events.proofs.Adding.{Done}
use Rattle.ipcz_events.proofs.run.Run.obey_all.Given as goal

abbrev pub invariant-loop-order : goal.invariant-loop-order
invariant-loop-order l = Done l.nodes l.fn.self l.orders l.order-index l.fn.out.items l.self l.out.items l.number
