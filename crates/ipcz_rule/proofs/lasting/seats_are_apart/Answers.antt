use Rattle.ipcz_rule.proofs.LastsSeats.{seats_apart}
use Rattle.ipcz_rule.proofs.lasting.seats_are_apart.Goals as goal

pub returns : goal.returns
returns c = seats_apart
