use Rattle.ipcz_script.proofs.CountedLines.{lines_are_counted}
use Rattle.ipcz_script.proofs.laws.lines_are_counted.Goals as goal

pub returns : goal.returns
returns c = lines_are_counted
