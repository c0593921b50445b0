use Rattle.ipcz_rule.proofs.Writing.{notes_turns}
use Rattle.ipcz_rule.proofs.kinds.a_note_keeps_the_rule.Goals as goal

pub returns : goal.returns
returns c = notes_turns
