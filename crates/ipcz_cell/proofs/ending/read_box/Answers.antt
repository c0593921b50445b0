use Rattle.ipcz_cell.proofs.BoxesRead.{box_first, box_none}
use Rattle.ipcz_cell.proofs.ending.read_box.Goals as goal

pub returns-in-Some-clause-mail : goal.returns-in-Some-clause-mail
returns-in-Some-clause-mail c = box_first c.args.word c.args.slot c.args.hand.now c.take_first.new.place c.in-Some.message c.in-1.is c.take_first.ensures.message c.in-Some.is

pub returns-in-1-clause-mail : goal.returns-in-1-clause-mail
returns-in-1-clause-mail c = box_none c.args.word c.args.slot c.args.hand.now c.take_first.new.place c.in-1.is c.take_first.ensures.message c.in-None.is
