use Rattle.ipcz_world.proofs.Whole.{lawful_worlds_give_the_headline}
use Rattle.ipcz_world.proofs.laws.a_lawful_world_gives_the_headline.Goals as goal

pub returns : goal.returns
returns c = lawful_worlds_give_the_headline
