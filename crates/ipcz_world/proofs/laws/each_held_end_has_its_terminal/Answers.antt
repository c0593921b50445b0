use Rattle.ipcz_world.proofs.Whole.{held_have_terminals}
use Rattle.ipcz_world.proofs.laws.each_held_end_has_its_terminal.Goals as goal

pub returns : goal.returns
returns c = held_have_terminals
