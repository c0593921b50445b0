use Rattle.ipcz_verdict.proofs.Deciding.{sends_open, sends_shut}
use Rattle.ipcz_verdict.proofs.calls.send.Goals as goal

pub returns-then-is_closed : goal.returns-then-is_closed
returns-then-is_closed c =
    sends_shut c.args.portals.now c.count_put.new.portals c.hold_all.new.portals c.close_dropped.new.portals c.args.at c.opposite-peer.result c.args.parcel
    c.as_slice.result.now c.into_vec.result.items c.is_closed.result c.in_ok-count_put.ensures c.as_slice.ensures c.hold_all.ensures c.opposite-peer.ensures
    c.is_closed.ensures c.if-is_closed.true c.into_vec.ensures c.in_ok-close_dropped.ensures

pub returns : goal.returns
returns c =
    sends_open c.args.portals.now c.count_put.new.portals c.hold_all.new.portals c.push.new.portals c.args.at c.opposite-peer.result c.args.parcel
    c.as_slice.result.now c.is_closed.result c.in_ok-count_put.ensures c.as_slice.ensures c.hold_all.ensures c.opposite-peer.ensures
    c.is_closed.ensures c.if-is_closed.false c.in_ok-push.ensures
