use Rattle.ipcz_world.proofs.Whole.{replies_plainly}
use Rattle.ipcz_world.proofs.laws.each_reply_is_plain.Goals as goal

pub returns : goal.returns
returns c = replies_plainly
