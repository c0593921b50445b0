use Rattle.std.proofs.Common.{◌∙◌, ℕ, refl, subst, sym}
use Rattle.ipcz_fabric.specs.Places.{IsCellOf}
use Rattle.ipcz_fabric.proofs.Locking.{lent}
use Rattle.ipcz_fabric.proofs.hub.Hub.look_at.Goals as goal

pub returns-clause-found : goal.returns-clause-found
returns-clause-found g c = λ low.
    let t = c.first_ready.ensures.found low in
    let here = lent g.F.FabricName.table _ _ _ _ refl c.deref.ensures c.lock-desk.ensures in (
      t.0,
      t.1,
      record {
        cell = c.deref.result.now;
        here = subst (λ (n : ℕ). IsCellOf g.F.FabricName.table n c.deref.result.now) (sym here.node_is ∙ sym t.2.0) here;
        holds = t.2.1;
      },
    )

pub returns-clause-none : goal.returns-clause-none
returns-clause-none g c = λ k p below is own.
    let here = lent g.F.FabricName.table _ _ _ _ refl c.deref.ensures c.lock-desk.ensures in record {
      cell = c.deref.result.now;
      here = subst (λ (n : ℕ). IsCellOf g.F.FabricName.table n c.deref.result.now) (sym own) here;
      holds = c.first_ready.ensures.none k p below is (own ∙ sym here.node_is);
    }
