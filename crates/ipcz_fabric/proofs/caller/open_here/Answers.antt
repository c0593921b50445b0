use Rattle.std.proofs.Common.{Ok, Err, ℕ, refl, subst}
use Rattle.ipcz_rule.specs.declared.history.Call.TheVariants as calls
use Rattle.ipcz_fabric.specs.Replays.{Extends}
use Rattle.ipcz_fabric.proofs.caller.open_here.Goals as goal

pub returns-in-Ok-clause-opens : goal.returns-in-Ok-clause-opens
returns-in-Ok-clause-opens g c =
    (Ok (c.in-Ok.a, c.in-Ok.b), (λ j. Ok (c.new.ensures j, c.new-in-Ok.ensures j)), c.in-Ok.ensures.did)

pub returns-in-Ok-clause-extends : goal.returns-in-Ok-clause-extends
returns-in-Ok-clause-extends g c = (
  Ok (c.in-Ok.a, c.in-Ok.b),
  (λ j. Ok (c.new.ensures j, c.new-in-Ok.ensures j)),
  subst (λ (n : ℕ). Extends g.F.FabricName.table n (calls.Opened (Ok (c.in-Ok.a, c.in-Ok.b))) c.args.me.now c.open_pair.new.me) c.requires.node_is c.in-Ok.ensures.extends,
)

pub returns-in-Err-clause-opens : goal.returns-in-Err-clause-opens
returns-in-Err-clause-opens g c = (Err c.in-Err.why, refl, c.in-Err.ensures.did)

pub returns-in-Err-clause-extends : goal.returns-in-Err-clause-extends
returns-in-Err-clause-extends g c = (
  Err c.in-Err.why,
  refl,
  subst (λ (n : ℕ). Extends g.F.FabricName.table n (calls.Opened (Err c.in-Err.why)) c.args.me.now c.open_pair.new.me) c.requires.node_is c.in-Err.ensures.extends,
)
