use Rattle.ipcz_rule.proofs.LastsSeats.{seats_last}
use Rattle.ipcz_rule.proofs.lasting.seats_keep_the_lasting_rule.Goals as goal

pub returns : goal.returns
returns c = seats_last
