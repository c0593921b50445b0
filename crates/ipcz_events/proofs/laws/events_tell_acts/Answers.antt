use Rattle.ipcz_events.proofs.Deciding.{events_tell_acts}
use Rattle.ipcz_events.proofs.laws.events_tell_acts.Goals as goal

pub returns : goal.returns
returns c = events_tell_acts
