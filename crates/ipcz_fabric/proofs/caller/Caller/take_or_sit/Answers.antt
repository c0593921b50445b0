use Rattle.std.proofs.Common.{ap, sym, ◌∙◌}
use Rattle.ipcz_node.specs.Calls.{get_refusal, got_at}
use Rattle.ipcz_fabric.specs.Stopping.{stop_in}
use Rattle.ipcz_rule.specs.Histories.{at_node}
use Rattle.ipcz_fabric.proofs.Locking.{lent, if_allowed}
use Rattle.ipcz_fabric.proofs.Stops.{missed_all, tells_of}
use Rattle.ipcz_fabric.proofs.caller.Caller.take_or_sit.Goals as goal

pub returns-clause-taken : goal.returns-clause-taken
returns-clause-taken g c = if_allowed
    (λ x allowed there. record {
      cell = c.deref_mut.result.now;
      here = lent g.F.FabricName.table _ _ _ _ c.place-node.ensures.node c.deref_mut.ensures.value c.lock.ensures;
      holds = record { allowed = ap (get_refusal c.deref_mut.result.now.part.state) (sym c.end.ensures) ∙ allowed; there = ap (got_at c.deref_mut.result.now.part.state) (sym c.end.ensures) ∙ there };
    })
    c.take_or_sit.result.0 c.take_or_sit.ensures.allowed c.take_or_sit.ensures.parcel

pub returns-clause-refused : goal.returns-clause-refused
returns-clause-refused g c = missed_all g.F.FabricName.table c.args.portal.now.node c.args.portal.now.end (at_node c.deref_mut.result.now.part.node c.take_or_sit.new.me.seen)
    (λ e h. record {
      cell = c.deref_mut.result.now;
      here = lent g.F.FabricName.table _ _ _ _ c.place-node.ensures.node c.deref_mut.ensures.value c.lock.ensures;
      holds = ap (get_refusal c.deref_mut.result.now.part.state) (sym c.end.ensures) ∙ h;
    })
    c.take_or_sit.result.0 c.take_or_sit.ensures.why c.take_or_sit.ensures.stop

pub returns-clause-stop : goal.returns-clause-stop
returns-clause-stop g c =
    let here = (lent g.F.FabricName.table _ _ _ _ c.place-node.ensures.node c.deref_mut.ensures.value c.lock.ensures).node_is in
    tells_of c.take_or_sit.result.0 _ _ (ap (λ n. stop_in (at_node n c.take_or_sit.new.me.seen)) here) c.take_or_sit.ensures.stop
