use Rattle.std.proofs.Common.{◌≡◌, arith, subst}
use Rattle.std.proofs.lemmas.Grind.{common_steps}
use Rattle.ipcz_base.specs.declared.refusal.Refusal.TheVariants.{NumbersEnd}
use Rattle.ipcz_world.specs.Asking.{WhyNotTaken}
use Rattle.ipcz_world.specs.declared.step.NotTaken.TheVariants as why
use Rattle.ipcz_events.proofs.Deciding.{act_judged, not_found, not_possible, not_wanted}
use Rattle.ipcz_events.proofs.judging.judge_act.Goals as goal

pub returns-in_default : goal.returns-in_default
returns-in_default c = not_found c.args.session.now c.args.session.now c.args.node c.args.text.now c.act_begun.result c.act_begun.ensures.only c.in_default.is

pub returns-in_ok-seen-in-Ok : goal.returns-in_ok-seen-in-Ok
returns-in_ok-seen-in-Ok c =
    act_judged c.args.session.now c.act.new.self c.args.node c.args.text.now c.act_begun.result c.act_begun.ensures.only c.in-Some.act c.in-Some.is
    c.in-Ok.happened c.in_ok-seen-in-Ok.seen.items c.compared.result c.in-Some.ensures.some c.in-Ok.ensures.acted c.act.ensures.session c.in_ok-seen-in-Ok.ensures c.compared.ensures

pub returns-in-Err-NotPossible : goal.returns-in-Err-NotPossible
returns-in-Err-NotPossible c =
    not_possible c.args.session.now c.act.new.self c.args.node c.args.text.now c.act_begun.result c.act_begun.ensures.only c.in-Some.act c.in-Some.is
    (subst (WhyNotTaken c.args.session.now.world c.args.node c.in-Some.act) c.in-Err-NotPossible.field-0-is c.in-Err-NotPossible.ensures.why)

pub returns-in-Err-Refused-NumbersEnd : goal.returns-in-Err-Refused-NumbersEnd
returns-in-Err-Refused-NumbersEnd c =
    let refused : c.in-Err-Refused-NumbersEnd.field-0 ≡ why.Refused NumbersEnd =
    grind (arith, common_steps, c.in-Err-Refused-NumbersEnd.field-0-is, c.in-Err-Refused-NumbersEnd.field-0-0-is) in
    not_wanted c.args.session.now c.act.new.self c.args.node c.args.text.now c.act_begun.result c.act_begun.ensures.only c.in-Some.act c.in-Some.is
    (subst (WhyNotTaken c.args.session.now.world c.args.node c.in-Some.act) refused c.in-Err-Refused-NumbersEnd.ensures.why)
