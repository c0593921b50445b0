use Rattle.ipcz_world.proofs.lawful.Settling.{plain_are_rated}
use Rattle.ipcz_world.proofs.laws.parcels_without_ends_have_rates.Goals as goal

pub returns : goal.returns
returns c = plain_are_rated
