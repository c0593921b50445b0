use Rattle.ipcz_cell.proofs.Races.{raced_try_is_overtaken}
use Rattle.ipcz_cell.proofs.laws.a_raced_try_was_overtaken.Goals as goal

pub returns : goal.returns
returns c = raced_try_is_overtaken
