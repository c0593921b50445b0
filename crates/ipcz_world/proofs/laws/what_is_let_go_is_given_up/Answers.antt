use Rattle.ipcz_world.proofs.lawful.GivingUp.{let_go_are_given_up}
use Rattle.ipcz_world.proofs.laws.what_is_let_go_is_given_up.Goals as goal

pub returns : goal.returns
returns c = let_go_are_given_up
