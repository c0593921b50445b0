use Rattle.ipcz_world.proofs.Whole.{each_begins_locked}
use Rattle.ipcz_world.proofs.laws.a_bypass_begins_only_under_its_lock.Goals as goal

pub returns : goal.returns
returns c = each_begins_locked
