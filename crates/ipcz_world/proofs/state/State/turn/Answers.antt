use Rattle.std.proofs.Common.{subst, sym}
use Rattle.ipcz_world.proofs.Vocabulary.{Turn}
use Rattle.ipcz_world.specs.declared.step.Reply.TheVariants.{Turned}
use Rattle.ipcz_world.specs.Steps.{StepFirst}
use Rattle.ipcz_world.proofs.code.Rooming.{ends_numbers}
use Rattle.ipcz_world.specs.RoomyWorlds.{HasRoomToAct}
use Rattle.ipcz_world.specs.Steps.{Gives, first_step, turn_step}
use Rattle.ipcz_world.proofs.code.FirstTurns.{turn-taken, turn-ended}
use Rattle.ipcz_world.specs.declared.step.Reply.TheVariants.{Refused}
use Rattle.ipcz_world.proofs.state.State.turn.Goals as goal

pub returns-in-Ok-clause-stepped : goal.returns-in-Ok-clause-stepped
returns-in-Ok-clause-stepped c =
    let t = c.in-Ok.ensures.turned in
    subst (λ event. StepFirst c.args.self.now.world (Turn c.args.n) (Turned event) c.take_first.new.self.world) (sym t.1) t.2

pub returns-in-Ok-clause-full : goal.returns-in-Ok-clause-full
unfolding first_step
returns-in-Ok-clause-full c = λ room.
    let w = c.args.self.now.world in
    let t = c.in-Ok.ensures.full (subst (HasRoomToAct c.args.self.now c.args.n) (sym c.next-act.ensures) room) in
    subst (λ act. Gives (turn_step w c.args.n act) (Turned c.in-Ok.event) c.take_first.new.self.world) c.next-act.ensures
    (turn-taken w c.args.n c.next-act.result c.requires.node c.take_first.new.self.world c.in-Ok.event t.0)

pub returns-in-Err-clause-full : goal.returns-in-Err-clause-full
unfolding first_step
returns-in-Err-clause-full c = λ room.
    let w = c.args.self.now.world in
    let t = c.in-Err.ensures.full (subst (HasRoomToAct c.args.self.now c.args.n) (sym c.next-act.ensures) room) in
    subst (λ act. Gives (turn_step w c.args.n act) (Refused c.in-Err.why) c.take_first.new.self.world) c.next-act.ensures
    (turn-ended _ w c.args.n c.next-act.result c.requires.node c.take_first.new.self.world c.in-Err.why t.0
    (ends_numbers _ c.in-Err.why t.0.why t.1))
