use Rattle.ipcz_script.proofs.SendLines.{sends_tell_what_moved}
use Rattle.ipcz_script.proofs.laws.sends_tell_what_moved.Goals as goal

pub returns : goal.returns
returns c = sends_tell_what_moved
