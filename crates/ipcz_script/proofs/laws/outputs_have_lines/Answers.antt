use Rattle.ipcz_script.proofs.UnsettledLines.{outputs_have_lines}
use Rattle.ipcz_script.proofs.laws.outputs_have_lines.Goals as goal

pub returns : goal.returns
returns c = outputs_have_lines
