use Rattle.ipcz_world.proofs.lawful.Arriving.{arrived_leave}
use Rattle.ipcz_world.proofs.laws.an_end_that_has_arrived_leaves_its_proxies_behind.Goals as goal

pub returns : goal.returns
returns c = arrived_leave
