use Rattle.std.proofs.Common.{ℕ, refl, subst}
use Rattle.ipcz_rule.specs.declared.history.CallerView.{CallerView}
use Rattle.ipcz_fabric.specs.Hubs.{ExtendsByTurn}
use Rattle.ipcz_fabric.proofs.Locking.{lent}
use Rattle.ipcz_fabric.proofs.caller.Caller.turn_asking.Goals as goal

pub returns-clause-answer : goal.returns-clause-answer
returns-clause-answer g c = λ _. record {
  cell = c.deref_mut.result.now;
  here = lent g.F.FabricName.table _ _ _ _ refl c.deref_mut.ensures.value c.lock.ensures;
  holds = (c.turn_asking_here-answer.ensures.did.1.0, c.turn_asking_here-answer.ensures.did.1.1);
}

pub returns-clause-asking : goal.returns-clause-asking
returns-clause-asking g c = λ _. record {
  cell = c.deref_mut.result.now;
  here = lent g.F.FabricName.table _ _ _ _ refl c.deref_mut.ensures.value c.lock.ensures;
  holds = (_, _, c.turn_asking_here-answer.ensures.did);
}

pub returns-clause-extends : goal.returns-clause-extends
returns-clause-extends g c = λ _.
    let t = g.F.FabricName.table in
    let here = (lent t _ _ _ _ refl c.deref_mut.ensures.value c.lock.ensures).node_is in
    subst (λ (d : CallerView). ExtendsByTurn t c.args.node c.turn_asking_here-answer.result.0 d c.turn_asking_here-answer.new.me) c.self.view_is
    (subst (λ (n : ℕ). ExtendsByTurn t n c.turn_asking_here-answer.result.0 c.self.inside.seat c.turn_asking_here-answer.new.me) here c.turn_asking_here-answer.ensures.extends)
