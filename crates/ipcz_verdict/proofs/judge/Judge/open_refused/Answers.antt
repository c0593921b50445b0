use Rattle.std.proofs.Common.{subst}
use Rattle.ipcz_verdict.specs.contracts.judge.Judge.{the_view}
use Rattle.ipcz_verdict.specs.declared.line.Line.TheVariants as lines
use Rattle.ipcz_verdict.specs.Desks.{Decides, Desk}
use Rattle.ipcz_verdict.proofs.Lines.{open_refused_line}
use Rattle.ipcz_verdict.proofs.judge.Judge.open_refused.Goals as goal

pub returns : goal.returns
returns c = subst (λ (d : Desk). Decides d (lines.OpenRefused c.args.node c.args.why) c.may_refuse_open.result d) c.self.view_is
    (open_refused_line (the_view c.self.inside) c.args.node c.args.why c.may_refuse_open.result c.may_refuse_open.ensures)
