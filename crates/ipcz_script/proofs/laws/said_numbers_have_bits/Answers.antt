use Rattle.ipcz_script.proofs.SayingBits.{said_numbers_have_bits}
use Rattle.ipcz_script.proofs.laws.said_numbers_have_bits.Goals as goal

pub returns : goal.returns
returns c = said_numbers_have_bits
