use Rattle.ipcz_fabric.proofs.Locking.{lent, if_allowed, if_err, on_ok}
use Rattle.ipcz_fabric.proofs.Portaling.{put_fits, put_refused}
use Rattle.ipcz_fabric.proofs.caller.Caller.put_as.Goals as goal

pub returns-clause-number : goal.returns-clause-number
returns-clause-number g c = if_allowed
    (λ n allowed number. record {
      cell = c.deref_mut.result.now;
      here = lent g.F.FabricName.table _ _ _ _ c.place-node.ensures.node c.deref_mut.ensures.value c.lock.ensures;
      holds = (allowed, number);
    })
    c.put_as-put.result c.put_as-put.ensures.allowed c.put_as-put.ensures.number

pub returns-clause-fits : goal.returns-clause-fits
returns-clause-fits g c = on_ok (put_fits _ _ _ _ _) c.put_as-put.result c.put_as-put.ensures.allowed

pub returns-clause-why : goal.returns-clause-why
returns-clause-why g c = if_err (λ e h. put_refused _ c.deref_mut.result.now.part.state _ _ _ _ _ h) c.put_as-put.result c.put_as-put.ensures.why

pub returns-clause-refused : goal.returns-clause-refused
returns-clause-refused g c = if_err
    (λ e h. record {
      cell = c.deref_mut.result.now;
      here = lent g.F.FabricName.table _ _ _ _ c.place-node.ensures.node c.deref_mut.ensures.value c.lock.ensures;
      holds = h;
    })
    c.put_as-put.result c.put_as-put.ensures.why
