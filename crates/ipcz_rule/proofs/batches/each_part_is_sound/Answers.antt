use Rattle.ipcz_rule.proofs.BatchedLaws.{parts_sound}
use Rattle.ipcz_rule.proofs.batches.each_part_is_sound.Goals as goal

pub returns : goal.returns
returns c = parts_sound
