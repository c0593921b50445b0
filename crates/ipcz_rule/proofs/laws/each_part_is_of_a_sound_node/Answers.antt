use Rattle.ipcz_rule.proofs.RuleLaws.{parts_are_sound}
use Rattle.ipcz_rule.proofs.laws.each_part_is_of_a_sound_node.Goals as goal

pub returns : goal.returns
returns c = parts_are_sound
