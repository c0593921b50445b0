use Rattle.std.proofs.Common.{IfOk, sym, subst}
use Rattle.ipcz_verdict.specs.declared.line.Line.TheVariants as lines
use Rattle.ipcz_verdict.specs.Desks.{Decides}
use Rattle.ipcz_verdict.proofs.judge.Judge.judge.Goals as goal

pub returns-in-Opened-clause-decided : goal.returns-in-Opened-clause-decided
returns-in-Opened-clause-decided c = subst (λ line. IfOk c.opened.result (λ allowed. Decides c.args.self.now line allowed c.opened.new.self)) (sym c.in-Opened.is) c.opened.ensures.decided

pub returns-in-Closed-clause-decided : goal.returns-in-Closed-clause-decided
returns-in-Closed-clause-decided c = subst (λ line. IfOk c.closed.result (λ allowed. Decides c.args.self.now line allowed c.closed.new.self)) (sym c.in-Closed.is) c.closed.ensures.decided

pub returns-in-Put-clause-decided : goal.returns-in-Put-clause-decided
returns-in-Put-clause-decided c = subst (λ line. IfOk c.put.result (λ allowed. Decides c.args.self.now line allowed c.put.new.self)) (sym c.in-Put.is)
    (subst (λ names. IfOk c.put.result (λ allowed. Decides c.args.self.now (lines.Put c.in-Put.node c.in-Put.at c.in-Put.bytes names c.in-Put.number) allowed c.put.new.self)) c.as_slice-in-Put.ensures
    (subst (λ bytes. IfOk c.put.result (λ allowed. Decides c.args.self.now (lines.Put c.in-Put.node c.in-Put.at bytes c.as_slice-in-Put.result.now c.in-Put.number) allowed c.put.new.self)) c.as_slice.ensures c.put.ensures.decided))

pub returns-in-PutRefused-clause-decided : goal.returns-in-PutRefused-clause-decided
returns-in-PutRefused-clause-decided c = subst (λ line. IfOk c.put_refused.result (λ allowed. Decides c.args.self.now line allowed c.args.self.now)) (sym c.in-PutRefused.is)
    (subst (λ names. IfOk c.put_refused.result (λ allowed. Decides c.args.self.now (lines.PutRefused c.in-PutRefused.node c.in-PutRefused.at c.in-PutRefused.bytes names c.in-PutRefused.why) allowed c.args.self.now)) c.as_slice-in-PutRefused-2.ensures
    (subst (λ bytes. IfOk c.put_refused.result (λ allowed. Decides c.args.self.now (lines.PutRefused c.in-PutRefused.node c.in-PutRefused.at bytes c.as_slice-in-PutRefused-2.result.now c.in-PutRefused.why) allowed c.args.self.now)) c.as_slice-in-PutRefused.ensures c.put_refused.ensures))

pub returns-in-Got-clause-decided : goal.returns-in-Got-clause-decided
returns-in-Got-clause-decided c = subst (λ line. IfOk c.got.result (λ allowed. Decides c.args.self.now line allowed c.got.new.self)) (sym c.in-Got.is)
    (subst (λ names. IfOk c.got.result (λ allowed. Decides c.args.self.now (lines.Got c.in-Got.node c.in-Got.at c.in-Got.bytes names c.in-Got.number) allowed c.got.new.self)) c.as_slice-in-Got-2.ensures
    (subst (λ bytes. IfOk c.got.result (λ allowed. Decides c.args.self.now (lines.Got c.in-Got.node c.in-Got.at bytes c.as_slice-in-Got-2.result.now c.in-Got.number) allowed c.got.new.self)) c.as_slice-in-Got.ensures c.got.ensures.decided))

pub returns-in-OpenRefused-clause-decided : goal.returns-in-OpenRefused-clause-decided
returns-in-OpenRefused-clause-decided c = subst (λ line. Decides c.args.self.now line c.open_refused.result c.args.self.now) (sym c.in-OpenRefused.is) c.open_refused.ensures

pub returns-in-GetRefused-clause-decided : goal.returns-in-GetRefused-clause-decided
returns-in-GetRefused-clause-decided c = subst (λ line. Decides c.args.self.now line c.get_refused.result c.args.self.now) (sym c.in-GetRefused.is) c.get_refused.ensures

pub returns-in-CloseRefused-clause-decided : goal.returns-in-CloseRefused-clause-decided
returns-in-CloseRefused-clause-decided c = subst (λ line. Decides c.args.self.now line c.close_refused.result c.args.self.now) (sym c.in-CloseRefused.is) c.close_refused.ensures
