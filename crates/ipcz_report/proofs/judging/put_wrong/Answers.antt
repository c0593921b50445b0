use Rattle.std.proofs.Common.{sym, arith, subst, IfSome, [], ◌∷◌}
use Rattle.std.specs.FinSet.{contains}
use Rattle.serde_json.specs.View.{view}
use Rattle.ipcz_report.specs.declared.wrong.Kind.TheVariants as kinds
use Rattle.ipcz_report.specs.Judging.{IsWrongWith}
use Rattle.ipcz_report.proofs.Opening.{two-of, three-of}
use Rattle.ipcz_report.proofs.judging.put_wrong.Goals as goal

pub returns-in-len2-clause-so : goal.returns-in-len2-clause-so
returns-in-len2-clause-so c =
    subst (λ ds. IfSome c.parcel_wrong.result (IsWrongWith c.args.nodes (contains c.args.opened.now) kinds.Put ds))
    (sym (two-of c.args.args.now _ _ (omega (arith, c.in-len2.len_at_least)) (omega (arith, c.in-len2.len_below)) c.at-item.is c.text-item.is))
    (c.parcel_wrong.ensures.so [])

pub returns-in-Some-clause-so : goal.returns-in-Some-clause-so
returns-in-Some-clause-so c =
    subst (λ ds. IsWrongWith c.args.nodes (contains c.args.opened.now) kinds.Put ds c.in-Some.wrong)
    (sym (three-of c.args.args.now _ _ _ (omega (arith, c.in-len3.len_at_least)) (omega (arith, c.in-len3.len_below)) c.at-item-then-args-lt4.is
    c.text-item-then-args-lt4.is c.ends-item.is))
    (c.in-Some.ensures.so (view c.ends-item.result ∷ []))

pub returns-in-None-clause-so : goal.returns-in-None-clause-so
returns-in-None-clause-so c =
    subst (λ ds. IfSome c.names_wrong.result (IsWrongWith c.args.nodes (contains c.args.opened.now) kinds.Put ds))
    (sym (three-of c.args.args.now _ _ _ (omega (arith, c.in-len3.len_at_least)) (omega (arith, c.in-len3.len_below)) c.at-item-then-args-lt4.is
    c.text-item-then-args-lt4.is c.ends-item.is))
    (c.names_wrong.ensures.so c.args.nodes (contains c.args.opened.now) (view c.at-item-then-args-lt4.result) (view c.text-item-then-args-lt4.result))
