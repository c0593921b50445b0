use Rattle.std.proofs.Common.{sym, ◌∙◌}
use Rattle.ipcz_world.proofs.code.StatesOfNodes.{world_is}
use Rattle.ipcz_world.proofs.code.Regular.{lawful-regular}
use Rattle.ipcz_world.proofs.lawful.Arriving.{arrived_in_leave, untold_unheld}
use Rattle.ipcz_world.proofs.world.World.has_arrived.Goals as goal

pub has_arrived-requires : goal.has_arrived-requires
has_arrived-requires c = lawful-regular _ c.self.invariant

pub returns-clause-stranger : goal.returns-clause-stranger
returns-clause-stranger c =
    rw (← world_is c.self.view_is) (λ none inside. untold_unheld _ c.args.node c.args.at c.self.invariant (sym c.has_arrived.ensures ∙ none) inside)

pub returns-clause-behind : goal.returns-clause-behind
returns-clause-behind c =
    rw (← world_is c.self.view_is) (λ yes. arrived_in_leave _ c.args.node c.args.at c.self.invariant (sym c.has_arrived.ensures ∙ yes))
