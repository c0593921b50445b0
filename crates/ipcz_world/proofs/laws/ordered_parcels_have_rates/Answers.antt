use Rattle.ipcz_world.proofs.lawful.Ordering.{ordered_are_rated}
use Rattle.ipcz_world.proofs.laws.ordered_parcels_have_rates.Goals as goal

pub returns : goal.returns
returns c = ordered_are_rated
