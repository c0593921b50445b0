use Rattle.std.proofs.Common.{sym, map, subst, IfSome}
use Rattle.std.specs.FinSet.{contains}
use Rattle.serde_json.specs.View.{view}
use Rattle.ipcz_report.specs.Judging.{IsWrongWith}
use Rattle.ipcz_report.proofs.judging.args_wrong.Goals as goal

pub returns-in-Show-clause-so : goal.returns-in-Show-clause-so
returns-in-Show-clause-so c =
    subst (λ kind. IfSome c.show_wrong.result (IsWrongWith c.args.nodes (contains c.args.opened.now) kind (map view c.args.args.now)))
    (sym c.in-Show.is) (c.show_wrong.ensures.so c.args.nodes (contains c.args.opened.now))
