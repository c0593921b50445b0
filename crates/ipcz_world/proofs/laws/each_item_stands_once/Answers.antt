use Rattle.ipcz_world.proofs.Whole.{each_item_stands_once}
use Rattle.ipcz_world.proofs.laws.each_item_stands_once.Goals as goal

pub returns : goal.returns
returns c = each_item_stands_once
