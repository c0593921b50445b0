use Rattle.std.proofs.Common.{◌+◌, Some, sym, subst}
use Rattle.ipcz_messages.specs.Joining.{AreJoined, IsFirstSeen, IsPassed}
use Rattle.ipcz_messages.proofs.Counting.{joined_more, joined_same}
use Rattle.ipcz_messages.proofs.messages.joining.add_first_seen.Goals as goal

pub returns-in_ok-push-clause-joined : goal.returns-in_ok-push-clause-joined
returns-in_ok-push-clause-joined c =
    let read = c.args.lines.now in
    let n = c.args.line in
    let before = c.args.messages.now.items in
    let m = c.in-Some.message in
    let comes = subst (λ ms. IsFirstSeen read n ms (Some m)) c.as_slice.ensures.value c.in-Some.ensures in
    subst (AreJoined read (n + 1)) (sym c.in_ok-push.ensures.items) (joined_more read n before m c.requires.messages comes)

pub returns-in_default-clause-joined : goal.returns-in_default-clause-joined
returns-in_default-clause-joined c = joined_same c.args.lines.now c.args.line c.args.messages.now.items c.requires.messages
    (subst (IsPassed c.args.lines.now c.args.line) c.as_slice.ensures.value c.in_default.ensures)
