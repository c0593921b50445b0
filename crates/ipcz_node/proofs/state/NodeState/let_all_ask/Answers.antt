use Rattle.std.proofs.Common.{◌+◌, ap, ◌∙◌, subst, sym}
use Rattle.ipcz_node.specs.Finding.{rewet_node}
use Rattle.ipcz_node.proofs.Asking.{IsAskedTo, asked_more}
use Rattle.ipcz_node.proofs.state.NodeState.let_all_ask.Goals as goal

pub loop-serial-preserved : goal.loop-serial-preserved
loop-serial-preserved c =
    let m = c.loop-serial.self.node in
    let stays = ap (λ v. rewet_node v.node c.in-Some.serial) c.next_dry.ensures.stays in
    subst (λ m. IsAskedTo c.args.self.now.node c.serials_end-end.result (c.loop-serial.count + 1) (c.in-Some.serial + 1) m)
    (sym (c.rewet.ensures ∙ stays))
    (asked_more _ _ _ _ m c.in-Some.serial c.in-Some.field-0-1 c.loop-serial.invariant c.in-Some.ensures.found c.in-Some.ensures.below)
