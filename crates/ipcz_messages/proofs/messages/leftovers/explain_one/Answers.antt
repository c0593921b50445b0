use Rattle.ipcz_messages.proofs.Counting.{once_kept}
use Rattle.ipcz_messages.proofs.Joining.{messages_kept}
use Rattle.ipcz_messages.proofs.messages.leftovers.explain_one.Goals as goal

pub returns-in-Some-clause-each : goal.returns-in-Some-clause-each
returns-in-Some-clause-each c =
    messages_kept c.args.lines.now c.args.messages.now.items c.args.index c.index.result.now c.with_maker.result
    c.requires.messages c.requires.index c.index.ensures c.with_maker.ensures.way

pub returns-in-Some-clause-once : goal.returns-in-Some-clause-once
returns-in-Some-clause-once c =
    once_kept c.args.lines.now c.args.messages.now.items c.args.index c.index.result.now c.with_maker.result
    c.requires.once c.index.ensures c.with_maker.ensures.way
