use Rattle.std.proofs.Common.{◌≤◌, ◌<◌, ap, subst}
use Rattle.ipcz_world.proofs.code.StatesOfNodes.{world_is}
use Rattle.ipcz_world.proofs.Vocabulary.{World, Post, can_act}
use Rattle.ipcz_world.proofs.code.Listing.{number-listed, numbers-listed}
use Rattle.ipcz_world.proofs.state.State.push_posts.Goals as goal

pub loop-to-preserved : goal.loop-to-preserved
loop-to-preserved c =
    number-listed (can_act c.args.self.now.world c.args.n) Post c.args.self.now.world.count c.loop-to.to c.loop-to.acts.items c.push_if_possible.new.acts.items _
    (subst (λ k. c.loop-to.to < k) (ap (λ (w : World). w.count) (world_is c.self.view_is)) c.loop-to-test.true) c.in_ok-push_if_possible.ensures c.loop-to.invariant

pub returns : goal.returns
returns c =
    numbers-listed (can_act c.args.self.now.world c.args.n) Post c.args.self.now.world.count c.loop-to.to c.loop-to.acts.items c.args.acts.now.items
    (subst (λ k. k ≤ c.loop-to.to) (ap (λ (w : World). w.count) (world_is c.self.view_is)) c.loop-to-test.false) c.loop-to.invariant
