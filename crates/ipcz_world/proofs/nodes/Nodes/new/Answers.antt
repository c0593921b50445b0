use Rattle.ipcz_world.proofs.code.Beginning.{made-more, made-all}
use Rattle.ipcz_world.proofs.nodes.Nodes.new.Goals as goal

pub loop-number-preserved : goal.loop-number-preserved
loop-number-preserved c =
    made-more c.args.count c.loop-number.number c.loop-number.states.items c.push.new.self.items c.in_ok-state.state c.loop-number-test.true
    c.in_ok-state.ensures.ok c.in-Ok.ensures.items c.loop-number.invariant

pub returns-clause-nodes : goal.returns-clause-nodes
returns-clause-nodes c =
    made-all c.args.count c.loop-number.number c.loop-number.states.items c.loop-number-test.false c.loop-number.invariant
