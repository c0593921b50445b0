use Rattle.ipcz_world.proofs.lawful.LettingGo.{accepted_are_held}
use Rattle.ipcz_world.proofs.laws.the_old_word_of_a_bypass_in_hand_is_held.Goals as goal

pub returns : goal.returns
returns c = accepted_are_held
