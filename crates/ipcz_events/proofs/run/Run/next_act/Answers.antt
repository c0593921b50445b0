use Rattle.ipcz_events.proofs.Asked.{steps-seen, steps-undrawn, steps-unpicked, steps-untaken}
use Rattle.ipcz_events.proofs.run.Run.next_act.Goals as goal

pub returns-in_default : goal.returns-in_default
returns-in_default c = steps-unpicked c.args.who c.args.self.now c.picked.new.self _ c.in_ok-node.ensures c.in_default.is

pub returns-in_default-2 : goal.returns-in_default-2
returns-in_default-2 c =
    steps-undrawn c.args.who c.args.self.now c.picked.new.self c.in-Some.node _ c.in_ok-node.ensures c.in-Some.is c.drawn_act.new.self _ c.in_ok-act.ensures c.in_default-2.is

pub returns-in-Some-3 : goal.returns-in-Some-3
returns-in-Some-3 c =
    steps-seen c.args.who c.args.self.now c.picked.new.self c.in-Some.node _ c.in_ok-node.ensures c.in-Some.is c.drawn_act.new.self c.in-Some-2.act _ c.in_ok-act.ensures
    c.in-Some-2.is c.take.new.self c.in-Some-3.event _ c.in_ok-event.ensures c.in-Some-3.is

pub returns-in-None : goal.returns-in-None
returns-in-None c =
    steps-untaken c.args.who c.args.self.now c.picked.new.self c.in-Some.node _ c.in_ok-node.ensures c.in-Some.is c.drawn_act.new.self c.in-Some-2.act _ c.in_ok-act.ensures
    c.in-Some-2.is c.take.new.self _ c.in_ok-event.ensures c.in-None.is
