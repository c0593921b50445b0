use Rattle.std.proofs.Common.{◌∙◌, ap, sym}
use Rattle.ipcz_world.proofs.code.StatesOfNodes.{world_is}
use Rattle.ipcz_base.specs.declared.message.Message.TheVariants as messages
use Rattle.ipcz_world.proofs.Vocabulary.{World, node_at, set_node, deliver, the_view}
use Rattle.ipcz_node.specs.Hands.{message_lacks_serials}
use Rattle.ipcz_world.proofs.code.Passing.{rewritten}
use Rattle.ipcz_world.proofs.state.State.hand_lone.Goals as goal

pub returns-in-Ok-clause-taken : goal.returns-in-Ok-clause-taken
unfolding node_at set_node
returns-in-Ok-clause-taken c did source =
    let over = c.args.over.now in
    let there = c.node_mut-node.ensures.value ∙ ap (λ (w : World). node_at w over.other) (world_is c.self.view_is) in
    let moves = c.from_vec-moves.ensures ∙ c.new.ensures.items in
    ap (set_node (the_view c.self.inside).world over.other) ((c.in-Ok.ensures.tried source).taken did)
    ∙ (λ j. set_node (world_is c.self.view_is j) over.other (deliver (there j) c.args.n
    (messages.Item over.link (c.opposite-across.ensures j) c.args.number c.args.item.now (moves j)) source))

pub returns-in-Ok-clause-allowed : goal.returns-in-Ok-clause-allowed
unfolding node_at
returns-in-Ok-clause-allowed c did source =
    let over = c.args.over.now in
    let there = c.node_mut-node.ensures.value ∙ ap (λ (w : World). node_at w over.other) (world_is c.self.view_is) in
    let moves = c.from_vec-moves.ensures ∙ c.new.ensures.items in
    sym (λ j. message_lacks_serials (there j) c.args.n
    (messages.Item over.link (c.opposite-across.ensures j) c.args.number c.args.item.now (moves j)) source)
    ∙ (c.in-Ok.ensures.tried source).allowed did

pub returns-in-Ok-clause-left : goal.returns-in-Ok-clause-left
unfolding node_at set_node
returns-in-Ok-clause-left c kept =
    let left = c.in-Ok.ensures.left kept in
    let same = ap (λ k. k.node) left.1 ∙ c.node_mut-node.ensures.value in
    (rewritten (world_is c.self.view_is) c.args.over.now.other c.take_lone.new.self.node c.requires.lengths c.requires.there same, left.0)

pub returns-clause-left : goal.returns-clause-left
unfolding node_at set_node
returns-clause-left c _ =
    let left = c.in-Err.ensures.err in
    let same = left.1 ∙ c.node_mut-node.ensures.value in
    (rewritten (world_is c.self.view_is) c.args.over.now.other c.take_lone.new.self.node c.requires.lengths c.requires.there same, left.0)
