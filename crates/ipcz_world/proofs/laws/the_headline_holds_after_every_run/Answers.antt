use Rattle.ipcz_world.proofs.Whole.{the_headline_holds}
use Rattle.ipcz_world.proofs.laws.the_headline_holds_after_every_run.Goals as goal

pub returns : goal.returns
returns c = the_headline_holds
