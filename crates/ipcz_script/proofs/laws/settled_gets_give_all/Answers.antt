use Rattle.ipcz_script.proofs.SettledGets.{settled_gets_give_all}
use Rattle.ipcz_script.proofs.laws.settled_gets_give_all.Goals as goal

pub returns : goal.returns
returns c = settled_gets_give_all
