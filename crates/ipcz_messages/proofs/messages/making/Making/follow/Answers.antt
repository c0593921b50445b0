use Rattle.std.proofs.Common.{◌<◌, length, rules}
use Rattle.ipcz_messages.proofs.Counting.{once_kept}
use Rattle.ipcz_messages.proofs.Joining.{messages_kept}
use Rattle.ipcz_messages.proofs.messages.making.Making.follow.Goals as goal

pub returns-in_ok-messages-in-Turn-default-Hand-clause-each : goal.returns-in_ok-messages-in-Turn-default-Hand-clause-each
returns-in_ok-messages-in-Turn-default-Hand-clause-each c =
    let within : c.in-Some.k < length c.args.messages.now.items = search rules in
    messages_kept c.args.lines.now c.args.messages.now.items c.in-Some.k c.index.result.now c.in_ok-messages-in-Turn-default-Hand.field-0
    c.requires.messages within c.index.ensures c.in_ok-messages-in-Turn-default-Hand.ensures.kept

pub returns-in_ok-messages-in-Turn-default-Hand-clause-once : goal.returns-in_ok-messages-in-Turn-default-Hand-clause-once
returns-in_ok-messages-in-Turn-default-Hand-clause-once c =
    once_kept c.args.lines.now c.args.messages.now.items c.in-Some.k c.index.result.now c.in_ok-messages-in-Turn-default-Hand.field-0
    c.requires.once c.index.ensures c.in_ok-messages-in-Turn-default-Hand.ensures.kept
