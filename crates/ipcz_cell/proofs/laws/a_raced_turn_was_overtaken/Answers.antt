use Rattle.ipcz_cell.proofs.Races.{raced_turn_is_overtaken}
use Rattle.ipcz_cell.proofs.laws.a_raced_turn_was_overtaken.Goals as goal

pub returns : goal.returns
returns c = raced_turn_is_overtaken
