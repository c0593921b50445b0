use Rattle.std.proofs.Common.{refl}
use Rattle.ipcz_router.specs.declared.act.RouterAct.TheVariants as router_acts
use Rattle.ipcz_cell.proofs.Forms.{actor}
use Rattle.ipcz_node.proofs.Growing.{grows_not}
use Rattle.ipcz_cell.proofs.claims.claim_ready.Goals as goal

pub unreachable-requires : goal.unreachable-requires
unreachable-requires c = let bad = c.in_default.ensures.grows (grows_not _ c.args.serial router_acts.Claim refl) in cc

pub returns-clause-can : goal.returns-clause-can
returns-clause-can c = actor c.args.state.now.node c.args.serial router_acts.Claim c.requires c.in-Ok.ensures.allowed
