use Rattle.std.proofs.Common.{◌≡◌, length, rules}
use Rattle.ipcz_messages.proofs.Counting.{joined_once}
use Rattle.ipcz_messages.proofs.messages.joining.joined.Goals as goal

pub returns-clause-once : goal.returns-clause-once
returns-clause-once c =
    let whole : c.loop-i.i ≡ length c.args.lines.now = search rules in
    joined_once c.args.lines.now c.loop-i.i c.loop-i.messages.items c.loop-i.invariant.0 whole
