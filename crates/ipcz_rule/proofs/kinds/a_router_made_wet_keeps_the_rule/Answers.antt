use Rattle.ipcz_rule.proofs.Wetting.{wets_deeds}
use Rattle.ipcz_rule.proofs.kinds.a_router_made_wet_keeps_the_rule.Goals as goal

pub returns : goal.returns
returns c = wets_deeds
