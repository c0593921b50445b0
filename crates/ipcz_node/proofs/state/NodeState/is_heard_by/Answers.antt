use Rattle.std.proofs.Common.{sym, ◌∙◌}
use Rattle.ipcz_node.proofs.Hearing.{asked_at, asked_none, found_fits, lost_fits}
use Rattle.ipcz_node.proofs.state.NodeState.is_heard_by.Goals as goal

pub returns-in-Some : goal.returns-in-Some
returns-in-Some c =
    let n = c.args.self.now.node in
    let m = c.args.message.now in
    let t = asked_at n m _ c.in-Some.serial c.in-Some.is c.requires.asked in
    c.is_heard_at.ensures t.0 t.1 ∙ sym (found_fits n c.args.sender c.in-Some.serial t.0 m c.args.source t.2 c.requires.other)

pub returns-in-None : goal.returns-in-None
returns-in-None c =
    let n = c.args.self.now.node in
    let m = c.args.message.now in
    c.is_dropped.ensures ∙ sym (lost_fits n c.args.sender m c.args.source (asked_none n m _ c.in-None.is c.requires.asked) c.requires.other)
