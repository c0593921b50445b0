use Rattle.ipcz_rule.proofs.TableRuns.{overtaken_by_acts}
use Rattle.ipcz_rule.proofs.laws.another_number_is_found_only_behind_an_act.Goals as goal

pub returns : goal.returns
returns c = overtaken_by_acts
