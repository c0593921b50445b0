use Rattle.std.proofs.Common.{◌≡◌, Some, sym, ap, ◌∙◌}
use Rattle.ipcz_world.proofs.code.StatesOfNodes.{world_is}
use Rattle.ipcz_node.specs.Events.{hand_event}
use Rattle.ipcz_world.proofs.Vocabulary.{place_at, Empty, World, hand_message, mail_at, node_at, way, turn_event}
use Rattle.ipcz_world.specs.Turns.{hand_seen}
use Rattle.ipcz_world.proofs.code.Taken.{has-in-hand, sender-is-node}
use Rattle.ipcz_world.proofs.state.State.hand_event.Goals as goal

pub way-place-requires-clause-from : goal.way-place-requires-clause-from
way-place-requires-clause-from c =
    sender-is-node c.args.self.now.world c.args.n c.args.from c.requires.regular c.requires.node c.requires.possible

pub unreachable-requires : goal.unreachable-requires
unfolding mail_at
unreachable-requires c =
    has-in-hand c.args.self.now.world c.args.n c.args.from c.requires.possible
    (ap (λ k. hand_message (place_at Empty c.args.self.now.world.mail k)) (sym c.way-place.ensures.way)
    ∙ ap (λ (v : World). hand_message (place_at Empty v.mail c.way-place.result)) (sym (world_is c.self.view_is)) ∙ sym c.in_default.ensures)

pub returns : goal.returns
unfolding turn_event hand_seen mail_at node_at
returns c =
    let has : hand_message (mail_at c.args.self.now.world (way c.args.self.now.world c.args.from c.args.n)) ≡ Some c.in-Some.message.now =
    ap (λ k. hand_message (place_at Empty c.args.self.now.world.mail k)) (sym c.way-place.ensures.way)
    ∙ ap (λ (v : World). hand_message (place_at Empty v.mail c.way-place.result)) (sym (world_is c.self.view_is)) ∙ sym c.in-Some.ensures in
    let here : c.node.result.now.node ≡ node_at c.args.self.now.world c.args.n = c.node.ensures ∙ ap (λ (v : World). node_at v c.args.n) (world_is c.self.view_is) in
    rw has (c.hand_event.ensures ∙ ap (λ x. hand_event x c.args.from c.in-Some.message.now c.source_for-source.result) here
    ∙ ap (hand_event (node_at c.args.self.now.world c.args.n) c.args.from c.in-Some.message.now) c.source_for-source.ensures)
