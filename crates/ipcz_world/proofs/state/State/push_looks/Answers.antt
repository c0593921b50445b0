use Rattle.std.proofs.Common.{◌≤◌, ◌<◌, ap, subst}
use Rattle.ipcz_world.proofs.code.StatesOfNodes.{world_is}
use Rattle.ipcz_world.proofs.Vocabulary.{World, Look, can_act}
use Rattle.ipcz_world.proofs.code.Listing.{number-listed, numbers-listed}
use Rattle.ipcz_world.proofs.state.State.push_looks.Goals as goal

pub loop-sender-preserved : goal.loop-sender-preserved
loop-sender-preserved c =
    number-listed (can_act c.args.self.now.world c.args.n) Look c.args.self.now.world.count c.loop-sender.sender c.loop-sender.acts.items c.push_if_possible.new.acts.items _
    (subst (λ k. c.loop-sender.sender < k) (ap (λ (w : World). w.count) (world_is c.self.view_is)) c.loop-sender-test.true) c.in_ok-push_if_possible.ensures c.loop-sender.invariant

pub returns : goal.returns
returns c =
    numbers-listed (can_act c.args.self.now.world c.args.n) Look c.args.self.now.world.count c.loop-sender.sender c.loop-sender.acts.items c.args.acts.now.items
    (subst (λ k. k ≤ c.loop-sender.sender) (ap (λ (w : World). w.count) (world_is c.self.view_is)) c.loop-sender-test.false) c.loop-sender.invariant
