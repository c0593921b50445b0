use Rattle.ipcz_world.proofs.lawful.StayingHeld.{calls_keep_held}
use Rattle.ipcz_world.proofs.laws.calls_let_no_end_go.Goals as goal

pub returns : goal.returns
returns c = calls_keep_held
