use Rattle.std.specs.Prelude.{IfSome}
use Rattle.std.proofs.Common.{subst, sym}
use Rattle.ipcz_events.specs.Judging.{BeginsWith}
use Rattle.ipcz_events.proofs.Deciding.{none_begun, some_begun}
use Rattle.ipcz_events.proofs.Asked.{begins_so}
use Rattle.ipcz_events.proofs.judging.act_begun.Goals as goal

pub returns-in-Some-clause-only : goal.returns-in-Some-clause-only
returns-in-Some-clause-only c = λ act bits begins can.
    some_begun c.args.session.now.world c.args.node c.as_bytes.result.now c.named_in.result c.named_in.ensures.only c.in-Some.name c.act_of.result
    c.in-Some.is c.act_of.ensures.only act bits (subst (λ l. BeginsWith l act) (sym c.as_bytes.ensures.value) begins) can

pub returns-in-None-clause-only : goal.returns-in-None-clause-only
returns-in-None-clause-only c = λ act bits begins can.
    none_begun c.args.session.now.world c.args.node c.as_bytes.result.now c.named_in.result c.named_in.ensures.only c.in-None.is
    act bits (subst (λ l. BeginsWith l act) (sym c.as_bytes.ensures.value) begins) can

pub returns-in-Some-clause-named : goal.returns-in-Some-clause-named
returns-in-Some-clause-named c =
    subst (λ l. IfSome c.act_of.result (λ act. BeginsWith l act)) c.as_bytes.ensures.value
    (begins_so c.as_bytes.result.now c.in-Some.name c.act_of.result c.act_of.ensures.named c.in-Some.ensures.some.0)
