use Rattle.ipcz_script.proofs.OneEvent.{texts_are_one_event}
use Rattle.ipcz_script.proofs.laws.texts_are_one_event.Goals as goal

pub returns : goal.returns
returns c = texts_are_one_event
