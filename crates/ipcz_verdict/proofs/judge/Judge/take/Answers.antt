use Rattle.std.proofs.lemmas.Result.{IfOk-weaker}
use Rattle.ipcz_verdict.specs.Desks.{Decides}
use Rattle.ipcz_verdict.proofs.Going.{GoesOn, goes_on}
use Rattle.ipcz_verdict.proofs.judge.Judge.take.Goals as goal

pub returns : goal.returns
returns c = record {
  allowed = λ nodes profile log has. IfOk-weaker c.judge.result (λ allowed. Decides c.args.self.now c.args.line.now allowed c.judge.new.self)
      (λ allowed. GoesOn nodes profile log c.args.line.now allowed c.judge.new.self)
      (λ allowed decides. goes_on c.args.self.now c.judge.new.self nodes profile log c.args.line.now allowed decides has) c.judge.ensures.decided;
  kept = c.judge.ensures.kept;
}
