use Rattle.ipcz_script.proofs.ReadNames.{scripts_have_names}
use Rattle.ipcz_script.proofs.laws.scripts_have_names.Goals as goal

pub returns : goal.returns
returns c = scripts_have_names
