use Rattle.ipcz_events.proofs.Asked.{taken-none, taken-one}
use Rattle.ipcz_events.proofs.run.Run.take_one.Goals as goal

pub returns-in_default : goal.returns-in_default
returns-in_default c = taken-none c.args.who c.args.self.now c.next_act.new.self c.args.out.now.items _ c.in_ok-seen.ensures c.in_default.is

pub returns : goal.returns
returns c =
    taken-one c.args.who c.args.self.now c.next_act.new.self c.in-Some.seen _ c.args.out.now.items c.push_acted.new.out.items c.was_idle.result c.in_ok-seen.ensures
    c.in-Some.is c.was_idle.ensures c.in_ok-push_acted.ensures
