use Rattle.ipcz_script.proofs.OpenNames.{opens_name_sides}
use Rattle.ipcz_script.proofs.laws.opens_name_sides.Goals as goal

pub returns : goal.returns
returns c = opens_name_sides
