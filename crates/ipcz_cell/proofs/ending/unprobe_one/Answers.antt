use Rattle.ipcz_cell.specs.Outcomes.{is_itself}
use Rattle.ipcz_cell.specs.Ending.{unprobed}
use Rattle.ipcz_cell.proofs.ending.unprobe_one.Goals as goal

pub unprobe-requires-clause-picked : goal.unprobe-requires-clause-picked
unprobe-requires-clause-picked g c = is_itself (unprobed c.args.to)
