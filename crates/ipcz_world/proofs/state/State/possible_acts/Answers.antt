use Rattle.std.proofs.Common.{◌≤◌, ◌∙◌, ap, subst, sym}
use Rattle.ipcz_world.proofs.code.StatesOfNodes.{world_is}
use Rattle.ipcz_world.proofs.Vocabulary.{World}
use Rattle.ipcz_world.proofs.code.Listing.{nothing-listed}
use Rattle.ipcz_world.proofs.state.State.possible_acts.Goals as goal

pub returns-then-n-self : goal.returns-then-n-self
returns-then-n-self c =
    let past = subst (λ k. k ≤ c.args.n) (ap (λ (w : World). w.count) (world_is c.self.view_is)) c.if-n-self.true in
    c.new-acts.ensures.items ∙ sym (nothing-listed c.args.self.now.world c.args.n past)
