use Rattle.std.specs.Prelude.{Some, None}
use Rattle.ipcz_events.proofs.Deciding.{hand_found}
use Rattle.ipcz_events.proofs.judging.act_of.Goals as goal

pub returns-in-Some-clause-only : goal.returns-in-Some-clause-only
returns-in-Some-clause-only c =
    hand_found c.args.session.now.world c.args.node c.args.name c.hand.result (Some c.in-Some.sender) c.in-Hand.is c.hand.ensures c.in-Some.is

pub returns-in-None-clause-only : goal.returns-in-None-clause-only
returns-in-None-clause-only c =
    hand_found c.args.session.now.world c.args.node c.args.name c.hand.result None c.in-Hand.is c.hand.ensures c.in-None.is
