use Rattle.std.proofs.Common.{refl}
use Rattle.ipcz_events.proofs.Asked.{asked-taken, asked-unnamed, asked-untaken}
use Rattle.ipcz_events.proofs.run.Run.take_asked.Goals as goal

pub returns-in_default : goal.returns-in_default
returns-in_default c =
    (asked-unnamed c.args.self.now c.args.node c.args.words.now c.act_begun.result c.act_begun.ensures.only c.in_default.is, refl, refl)

pub returns-in_default-2 : goal.returns-in_default-2
returns-in_default-2 c =
    let untaken = asked-untaken c.args.self.now c.args.node c.args.words.now c.act_begun.result c.act_begun.ensures.only c.take.new.self c.in-Some.act _ c.in-Some.is
    c.in_ok-event.ensures c.in_default-2.is in
    (untaken.0, untaken.1, refl)

pub returns : goal.returns
returns c =
    asked-taken c.args.self.now c.take.new.self c.args.node c.args.words.now c.in-Some.act _ c.in-Some-2.event c.args.out.now.items c.push_acted.new.out.items
    c.in-Some.ensures.some c.in-Some.ensures.named c.in_ok-event.ensures c.in-Some-2.is c.in_ok-push_acted.ensures
