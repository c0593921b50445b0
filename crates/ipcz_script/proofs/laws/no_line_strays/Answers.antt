use Rattle.ipcz_script.proofs.StrayLines.{no_line_strays}
use Rattle.ipcz_script.proofs.laws.no_line_strays.Goals as goal

pub returns : goal.returns
returns c = no_line_strays
