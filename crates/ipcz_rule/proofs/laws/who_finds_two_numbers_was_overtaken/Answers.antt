use Rattle.ipcz_rule.proofs.Races.{raced_is_overtaken}
use Rattle.ipcz_rule.proofs.laws.who_finds_two_numbers_was_overtaken.Goals as goal

pub returns : goal.returns
returns c = raced_is_overtaken
