use Rattle.ipcz_world.proofs.Whole.{pending_have_terminals}
use Rattle.ipcz_world.proofs.laws.each_pending_close_has_its_terminal.Goals as goal

pub returns : goal.returns
returns c = pending_have_terminals
