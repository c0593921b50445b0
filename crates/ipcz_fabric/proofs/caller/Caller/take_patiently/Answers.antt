use Rattle.std.proofs.Common.{◌≡◌, ap, refl, subst}
use Rattle.std.specs.Prelude.{◌≢◌, Err, MatchBool}
use Rattle.ipcz_base.specs.declared.refusal.Refusal.TheVariants.{Empty}
use Rattle.ipcz_fabric.specs.declared.missed.Missed.TheVariants.{Refused}
use Rattle.ipcz_fabric.specs.Stopping.{answer_of}
use Rattle.ipcz_fabric.proofs.AskedInTurn.{tried_in_vain, tried_last}
use Rattle.ipcz_fabric.proofs.caller.Caller.take_patiently.Goals as goal

pub loop-try-init : goal.loop-try-init
loop-try-init g c = (tt, tt, (0, refl))

pub loop-try-preserved : goal.loop-try-preserved
loop-try-preserved g c =
    let taken = c.take_or_sit-taken.result.0 in
    let empty : taken ≡ Err (Refused Empty) = subst (λ found. MatchBool found (taken ≡ Err (Refused Empty)) (taken ≢ Err (Refused Empty))) c.if-not-is_empty.false c.is_empty.ensures in
    (tt, tt, tried_in_vain g.F.FabricName.table c.args.portal.now (answer_of taken) c.args.self.now c.loop-try.self c.take_or_sit-taken.new.self (ap answer_of empty) c.loop-try.invariant.2 c.take_or_sit-taken.ensures.extends)

pub returns-then-is_zero-clause-extends : goal.returns-then-is_zero-clause-extends
returns-then-is_zero-clause-extends g c = tried_last g.F.FabricName.table c.args.portal.now (answer_of c.take_or_sit-taken.result.0) c.args.self.now c.loop-try.self
    c.take_or_sit-taken.new.self c.loop-try.invariant.2 c.take_or_sit-taken.ensures.extends
