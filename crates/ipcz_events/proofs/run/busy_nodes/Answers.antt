use Rattle.ipcz_events.specs.Drawing.{is_busy}
use Rattle.ipcz_events.proofs.Busy.{left-end, left-more, left-start}
use Rattle.ipcz_events.proofs.run.busy_nodes.Goals as goal

pub loop-node-init : goal.loop-node-init
loop-node-init c = left-start (is_busy c.args.session.now.world) c.args.nodes c.new-busy.result.items c.new-busy.ensures.items

pub loop-node-preserved : goal.loop-node-preserved
loop-node-preserved c =
    left-more (is_busy c.args.session.now.world) c.args.nodes c.loop-node.node c.loop-node.busy.items c.loop-node.invariant
    c.push_if_busy.new.busy.items c.loop-node-test.true c.in_ok-push_if_busy.ensures

pub returns : goal.returns
returns c = left-end (is_busy c.args.session.now.world) c.args.nodes c.loop-node.node c.loop-node.busy.items c.loop-node.invariant c.loop-node-test.false
