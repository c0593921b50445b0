use Rattle.std.proofs.Common.{subst, sym, ap, ◌∙◌}
use Rattle.ipcz_world.proofs.code.StatesOfNodes.{world_is}
use Rattle.std.specs.Prelude.{if◌then◌else◌, is_some}
use Rattle.ipcz_base.specs.declared.refusal.Refusal.TheVariants.{NumbersEnd, OutOfMemory}
use Rattle.ipcz_world.proofs.Vocabulary.{place_at, put_place, hand_message, Hand, Empty, World, node_at, mail_at, way, deliver, turn_event}
use Rattle.ipcz_world.proofs.Vocabulary.{source_for, the_view}
use Rattle.ipcz_node.specs.Hands.{message_grows, message_lacks_serials}
use Rattle.ipcz_world.specs.Mailing.{put_down}
use Rattle.ipcz_world.specs.World.{word_at}
use Rattle.ipcz_world.proofs.code.Taken.{has-in-hand, sender-is-node, some-there, done-hand, kept-hand, asked}
use Rattle.ipcz_world.proofs.code.Rooming.{handled_with_room, room_in_hand, roomy_is}
use Rattle.ipcz_world.specs.RoomyWorlds.{HasRoomToHandle}
use Rattle.ipcz_world.proofs.state.State.handle_any.Goals as goal

pub way-place-requires-clause-from : goal.way-place-requires-clause-from
way-place-requires-clause-from g c =
    sender-is-node c.args.self.now.world c.args.n c.args.from c.requires.regular c.requires.node c.requires.possible

pub hand_any-requires-clause-hand : goal.hand_any-requires-clause-hand
unfolding mail_at
hand_any-requires-clause-hand g c =
    let w = (the_view c.self.inside).world in
    let a = asked _ _ c.args.n (Hand c.args.from) (world_is c.self.view_is) c.requires.regular c.requires.node c.requires.possible in
    let place = c.way-place.ensures.way ∙ ap (λ (w : World). way w c.args.from c.args.n) (sym (world_is c.self.view_is)) in
    let there = some-there (hand_message (mail_at w (way w c.args.from c.args.n))) (has-in-hand w c.args.n c.args.from a.may) in
    ap (λ k. is_some (hand_message (place_at Empty c.self.inside.mail k))) place ∙ ap is_some there.1

pub returns-clause-taken : goal.returns-clause-taken
unfolding node_at mail_at source_for word_at
returns-clause-taken g c =
    let w = (the_view c.self.inside).world in
    let a = asked _ _ c.args.n (Hand c.args.from) (world_is c.self.view_is) c.requires.regular c.requires.node c.requires.possible in
    let place = c.way-place.ensures.way ∙ ap (λ (w : World). way w c.args.from c.args.n) (sym (world_is c.self.view_is)) in
    let there = some-there (hand_message (mail_at w (way w c.args.from c.args.n))) (has-in-hand w c.args.n c.args.from a.may) in
    let seen = ap (λ k. hand_message (place_at Empty c.self.inside.mail k)) place ∙ there.1 in
    let named = c.source_in_hand-source.ensures there.0
    (ap (λ (v : World). hand_message (place_at Empty v.mail c.way-place.result)) (sym (world_is c.self.view_is)) ∙ seen)
    ∙ ap (λ v. source_for v there.0) (sym (world_is c.self.view_is)) in
    let handed = c.in_default.ensures.delivered there.0 seen in
    let kept = c.in_default.ensures.mail ∙ ap (λ k. put_place Empty c.self.inside.mail k (put_down (place_at Empty c.self.inside.mail k))) place in
    rw (← world_is c.self.view_is)
    (done-hand g.T.Told.tells w c.args.n c.args.from c.args.told there.0 c.node_mut.result.now.node c.hand_any.new.node.node
    c.hand_any.new.self (subst (λ (v : World). g.T.Told.tells (turn_event v c.args.n (Hand c.args.from)) c.args.told) (sym (world_is c.self.view_is))
    c.requires.told) c.node_mut.ensures.value there.1
    (handed.1.ok ∙ ap (deliver c.node_mut.result.now.node c.args.from there.0) named)
    (sym (ap (message_lacks_serials c.node_mut.result.now.node c.args.from there.0) named) ∙ handed.1.allowed) kept)

pub returns-in-Err-clause-taken : goal.returns-in-Err-clause-taken
unfolding node_at mail_at source_for word_at
returns-in-Err-clause-taken g c =
    let w = (the_view c.self.inside).world in
    let a = asked _ _ c.args.n (Hand c.args.from) (world_is c.self.view_is) c.requires.regular c.requires.node c.requires.possible in
    let place = c.way-place.ensures.way ∙ ap (λ (w : World). way w c.args.from c.args.n) (sym (world_is c.self.view_is)) in
    let there = some-there (hand_message (mail_at w (way w c.args.from c.args.n))) (has-in-hand w c.args.n c.args.from a.may) in
    let seen = ap (λ k. hand_message (place_at Empty c.self.inside.mail k)) place ∙ there.1 in
    let named = c.source_in_hand-source.ensures there.0
    (ap (λ (v : World). hand_message (place_at Empty v.mail c.way-place.result)) (sym (world_is c.self.view_is)) ∙ seen)
    ∙ ap (λ v. source_for v there.0) (sym (world_is c.self.view_is)) in
    let handed = c.in-Err.ensures.delivered there.0 seen in
    rw (← world_is c.self.view_is)
    (kept-hand g.T.Told.tells w c.args.n c.args.from there.0 c.in-Err.why c.node_mut.result.now.node c.hand_any.new.node.node c.hand_any.new.self
    a.regular.lengths a.here c.node_mut.ensures.value there.1 handed.1.err.1
    (handed.1.why ∙ ap (λ o. if message_lacks_serials c.node_mut.result.now.node c.args.from there.0 o then NumbersEnd else OutOfMemory) named)
    (λ g. handed.1.grows (ap (message_grows c.node_mut.result.now.node c.args.from there.0) named ∙ g)) c.in-Err.ensures.err)

pub returns-in-Err-clause-full : goal.returns-in-Err-clause-full
unfolding node_at mail_at source_for word_at
returns-in-Err-clause-full g c = λ room.
    let w = (the_view c.self.inside).world in
    let k = c.node_mut.result.now in
    let a = asked _ _ c.args.n (Hand c.args.from) (world_is c.self.view_is) c.requires.regular c.requires.node c.requires.possible in
    let place = c.way-place.ensures.way ∙ ap (λ (w : World). way w c.args.from c.args.n) (sym (world_is c.self.view_is)) in
    let there = some-there (hand_message (mail_at w (way w c.args.from c.args.n))) (has-in-hand w c.args.n c.args.from a.may) in
    let seen = ap (λ k. hand_message (place_at Empty c.self.inside.mail k)) place ∙ there.1 in
    let named = c.source_in_hand-source.ensures there.0
    (ap (λ (v : World). hand_message (place_at Empty v.mail c.way-place.result)) (sym (world_is c.self.view_is)) ∙ seen) in
    let handed = (c.in-Err.ensures.delivered there.0 seen).1 in
    let in_hand = ap (λ (v : World). hand_message (mail_at v (way v c.args.from c.args.n))) (sym (world_is c.self.view_is)) ∙ there.1 in
    let has = room_in_hand c.args.self.now c.args.n c.args.from there.0 in_hand room in
    handled_with_room k c.args.from there.0 c.source_in_hand-source.result c.in-Err.why handed.why handed.full handed.stray
    (subst (λ source. HasRoomToHandle k c.args.from there.0 source) (sym named)
    (subst (λ k. HasRoomToHandle k c.args.from there.0 (source_for c.args.self.now.world there.0))
    (roomy_is c.args.n k c.self.view_is c.node_mut.ensures.value c.node_mut.ensures.room) has))
