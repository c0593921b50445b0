use Rattle.std.proofs.Common.{◌≡◌, ap, subst}
use Rattle.std.specs.Prelude.{◌≢◌, Err, MatchBool}
use Rattle.ipcz_base.specs.declared.refusal.Refusal.TheVariants.{Empty}
use Rattle.ipcz_fabric.specs.declared.missed.Missed.TheVariants.{Refused}
use Rattle.ipcz_fabric.specs.Stopping.{answer_of}
use Rattle.ipcz_fabric.proofs.AskedInTurn.{tried_before}
use Rattle.ipcz_fabric.proofs.caller.Caller.take_timeout.Goals as goal

pub returns-clause-extends : goal.returns-clause-extends
returns-clause-extends g c =
    let first = c.take-first.result in
    let empty : first ≡ Err (Refused Empty) = subst (λ found. MatchBool found (first ≡ Err (Refused Empty)) (first ≢ Err (Refused Empty))) c.if-not-is_empty.false c.is_empty.ensures in
    tried_before g.F.FabricName.table c.args.portal.now (answer_of first) (answer_of c.take_patiently.result) c.args.self.now c.take-first.new.self c.take_patiently.new.self (ap answer_of empty)
    c.take-first.ensures.extends c.take_patiently.ensures.extends
