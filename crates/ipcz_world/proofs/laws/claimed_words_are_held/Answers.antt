use Rattle.ipcz_world.proofs.lawful.GivingUp.{claimed_are_held}
use Rattle.ipcz_world.proofs.lawful.StayingHeld.{opening_keeps_held}
use Rattle.ipcz_world.proofs.laws.claimed_words_are_held.Goals as goal

pub returns-clause-claimed : goal.returns-clause-claimed
returns-clause-claimed c = claimed_are_held

pub returns-clause-others : goal.returns-clause-others
returns-clause-others c = opening_keeps_held
