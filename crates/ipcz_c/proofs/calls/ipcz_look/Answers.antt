use Rattle.ipcz_c.specs.Looks.{IsLookIn}
use Rattle.ipcz_c.proofs.calls.ipcz_look.Goals as goal

pub returns-clause-did : goal.returns-clause-did
returns-clause-did c = λ has. (
  c.look-answer.result,
  coe 0 1 (j. IsLookIn c.args.of.now.held.world c.args.node (c.end.ensures j) c.look-answer.result) c.look-answer.ensures.look,
  c.tell_seen.ensures,
)
