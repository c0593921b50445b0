use Rattle.ipcz_world.proofs.Whole.{only_flushes_stray}
use Rattle.ipcz_world.proofs.laws.only_a_flush_is_seen_to_stray.Goals as goal

pub returns : goal.returns
returns c = only_flushes_stray
