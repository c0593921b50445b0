use Rattle.ipcz_fabric.proofs.Locking.{lent, if_allowed, if_err}
use Rattle.ipcz_fabric.proofs.Portaling.{close_why}
use Rattle.ipcz_fabric.proofs.caller.Caller.close.Goals as goal

pub returns-clause-number : goal.returns-clause-number
returns-clause-number g c = if_allowed
    (λ n allowed number. record {
      cell = c.deref_mut.result.now;
      here = lent g.F.FabricName.table _ _ _ _ c.place-node.ensures.node c.deref_mut.ensures.value c.lock.ensures;
      holds = (allowed, number);
    })
    c.close_here-closed.result c.close_here-closed.ensures.allowed c.close_here-closed.ensures.number

pub returns-clause-why : goal.returns-clause-why
returns-clause-why g c = if_err (λ e h. close_why c.deref_mut.result.now.part.state _ _ h) c.close_here-closed.result c.close_here-closed.ensures.why

pub returns-clause-refused : goal.returns-clause-refused
returns-clause-refused g c = if_err
    (λ e h. record {
      cell = c.deref_mut.result.now;
      here = lent g.F.FabricName.table _ _ _ _ c.place-node.ensures.node c.deref_mut.ensures.value c.lock.ensures;
      holds = h;
    })
    c.close_here-closed.result c.close_here-closed.ensures.why
