use Rattle.ipcz_events.proofs.WrittenLines.{runs_are_judged}
use Rattle.ipcz_events.proofs.laws.what_is_written_is_judged_allowed.Goals as goal

pub returns : goal.returns
returns c = runs_are_judged
