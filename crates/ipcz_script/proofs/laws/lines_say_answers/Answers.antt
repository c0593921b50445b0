use Rattle.ipcz_script.proofs.SayingNames.{lines_say_answers}
use Rattle.ipcz_script.proofs.laws.lines_say_answers.Goals as goal

pub returns : goal.returns
returns c = lines_say_answers
