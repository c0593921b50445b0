use Rattle.ipcz_rule.proofs.QuietParts.{quiet_parts_show_quiet}
use Rattle.ipcz_rule.proofs.laws.quiet_parts_show_a_quiet_world.Goals as goal

pub returns : goal.returns
returns c = quiet_parts_show_quiet
