use Rattle.ipcz_script.proofs.OneSaying.{texts_say_one_thing}
use Rattle.ipcz_script.proofs.laws.texts_say_one_thing.Goals as goal

pub returns : goal.returns
returns c = texts_say_one_thing
