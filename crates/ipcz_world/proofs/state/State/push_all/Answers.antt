use Rattle.std.proofs.Common.{map, ◌∷◌, []}
use Rattle.std.proofs.lemmas.Result.{on_ok_weaker}
use Rattle.std.specs.FinMap.{entries}
use Rattle.ipcz_world.proofs.Vocabulary.{Idle, Look, Post, can_act, numbers_from}
use Rattle.ipcz_world.specs.Listing.{acts_of_hand, acts_of_pending, acts_of_routers}
use Rattle.ipcz_world.specs.World.{node_at}
use Rattle.ipcz_world.proofs.code.Listing.{six}
use Rattle.ipcz_world.proofs.state.State.push_all.Goals as goal

pub returns : goal.returns
returns c =
    let w = c.args.self.now.world in
    let x = node_at w c.args.n in
    let ns = numbers_from 0 w.count in
    on_ok_weaker c.push_if_possible.result
    (λ is. six (can_act w c.args.n) c.args.acts.now.items c.push_hand.new.acts.items c.push_looks.new.acts.items c.push_posts.new.acts.items c.push_close.new.acts.items
    c.push_routers.new.acts.items c.push_if_possible.new.acts.items (acts_of_hand x.hand) (map Look ns) (map Post ns) (acts_of_pending x.pending)
    (acts_of_routers (entries x.routers)) (Idle ∷ []) c.in_ok-push_hand.ensures c.in_ok-push_looks.ensures c.in_ok-push_posts.ensures c.in_ok-push_close.ensures
    c.in_ok-push_routers.ensures is)
    c.push_if_possible.ensures
