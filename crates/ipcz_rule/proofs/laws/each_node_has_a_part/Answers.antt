use Rattle.ipcz_rule.proofs.RuleLaws.{nodes_have_parts}
use Rattle.ipcz_rule.proofs.laws.each_node_has_a_part.Goals as goal

pub returns : goal.returns
returns c = nodes_have_parts
