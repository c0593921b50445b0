use Rattle.ipcz_script.proofs.ReadNames.{turns_have_bits}
use Rattle.ipcz_script.proofs.laws.turns_have_bits.Goals as goal

pub returns : goal.returns
returns c = turns_have_bits
