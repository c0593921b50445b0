use Rattle.ipcz_events.proofs.EventNames.{words_name}
use Rattle.ipcz_events.proofs.laws.told_words_name_acts.Goals as goal

pub returns : goal.returns
returns c = words_name
