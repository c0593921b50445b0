use Rattle.std.proofs.Common.{sym, subst}
use Rattle.ipcz_world.proofs.code.StatesOfNodes.{world_is}
use Rattle.std.proofs.lemmas.Result.{IfOk-weaker}
use Rattle.ipcz_world.specs.Listing.{ArePossible}
use Rattle.ipcz_world.proofs.code.Listed.{listed}
use Rattle.ipcz_world.proofs.code.Regular.{lawful-regular}
use Rattle.ipcz_world.proofs.world.World.possible_acts.Goals as goal

pub possible_acts-requires : goal.possible_acts-requires
possible_acts-requires c = lawful-regular _ c.self.invariant

pub returns-clause-possible : goal.returns-clause-possible
returns-clause-possible c =
    let w = c.self.inside.state.world in
    IfOk-weaker c.possible_acts.result _ (λ acts. ArePossible c.args.self.now.world c.args.node acts.items)
    (λ acts is. subst (λ v. ArePossible v c.args.node acts.items) (world_is c.self.view_is) (subst (ArePossible w c.args.node) (sym is) (listed w c.args.node))) c.possible_acts.ensures
