use Rattle.std.proofs.Common.{subst, sym, ap, ◌∙◌}
use Rattle.ipcz_world.proofs.code.StatesOfNodes.{world_is}
use Rattle.std.specs.Prelude.{if◌then◌else◌}
use Rattle.ipcz_base.specs.declared.refusal.Refusal.TheVariants.{NumbersEnd, OutOfMemory}
use Rattle.ipcz_world.proofs.Vocabulary.{place_at, put_place, Hand, Empty, World, node_at, mail_at, way, hand_message, turn_event, source_for}
use Rattle.ipcz_world.proofs.Vocabulary.{the_view}
use Rattle.ipcz_world.specs.Mailing.{put_down}
use Rattle.ipcz_world.specs.Taking.{IsTaken}
use Rattle.ipcz_world.proofs.code.Taken.{asked, done-hand, has-in-hand, kept-hand, sender-is-node, some-there, unchanged-both}
use Rattle.ipcz_world.proofs.code.Rooming.{place-put, room_in_hand, roomy_is, same_room, taken_with_room}
use Rattle.ipcz_world.specs.RoomyWorlds.{HasRoomToHandle, RoomyWorld, no_room}
use Rattle.ipcz_node.specs.Telling.{is_lone}
use Rattle.ipcz_world.proofs.state.State.handle.Goals as goal

pub way-place-requires-clause-from : goal.way-place-requires-clause-from
way-place-requires-clause-from g c =
    sender-is-node c.args.self.now.world c.args.n c.args.from c.requires.regular c.requires.node c.requires.possible

pub handle_any-requires-clause-regular : goal.handle_any-requires-clause-regular
unfolding node_at
handle_any-requires-clause-regular g c =
    let a = asked _ _ c.args.n (Hand c.args.from) (world_is c.self.view_is) c.requires.regular c.requires.node c.requires.possible in
    let left = c.in-Ok-false.ensures.left c.in-Ok-false.field-0-test in
    let same = unchanged-both (the_view c.self.inside).world c.args.n c.node_mut.result.now.node c.hand_over.new.node.node c.hand_over.new.self
    a.regular.lengths a.here c.node_mut.ensures.value (ap (λ k. k.node) left.1) left.0 ∙ (world_is c.self.view_is) in
    (asked _ _ c.args.n (Hand c.args.from) same c.requires.regular c.requires.node c.requires.possible).regular

pub handle_any-requires-clause-possible : goal.handle_any-requires-clause-possible
unfolding node_at
handle_any-requires-clause-possible g c =
    let a = asked _ _ c.args.n (Hand c.args.from) (world_is c.self.view_is) c.requires.regular c.requires.node c.requires.possible in
    let left = c.in-Ok-false.ensures.left c.in-Ok-false.field-0-test in
    let same = unchanged-both (the_view c.self.inside).world c.args.n c.node_mut.result.now.node c.hand_over.new.node.node c.hand_over.new.self
    a.regular.lengths a.here c.node_mut.ensures.value (ap (λ k. k.node) left.1) left.0 ∙ (world_is c.self.view_is) in
    (asked _ _ c.args.n (Hand c.args.from) same c.requires.regular c.requires.node c.requires.possible).may

pub handle_any-requires-clause-told : goal.handle_any-requires-clause-told
unfolding node_at
handle_any-requires-clause-told g c =
    let a = asked _ _ c.args.n (Hand c.args.from) (world_is c.self.view_is) c.requires.regular c.requires.node c.requires.possible in
    let left = c.in-Ok-false.ensures.left c.in-Ok-false.field-0-test in
    let same = unchanged-both (the_view c.self.inside).world c.args.n c.node_mut.result.now.node c.hand_over.new.node.node c.hand_over.new.self
    a.regular.lengths a.here c.node_mut.ensures.value (ap (λ k. k.node) left.1) left.0 ∙ (world_is c.self.view_is) in
    subst (λ (w : World). g.T.Told.tells (turn_event w c.args.n (Hand c.args.from)) c.hand_told-told.result) (sym same) c.hand_told-told.ensures

pub returns-in-Ok-false-clause-taken : goal.returns-in-Ok-false-clause-taken
unfolding node_at
returns-in-Ok-false-clause-taken g c =
    let a = asked _ _ c.args.n (Hand c.args.from) (world_is c.self.view_is) c.requires.regular c.requires.node c.requires.possible in
    let left = c.in-Ok-false.ensures.left c.in-Ok-false.field-0-test in
    let same = unchanged-both (the_view c.self.inside).world c.args.n c.node_mut.result.now.node c.hand_over.new.node.node c.hand_over.new.self
    a.regular.lengths a.here c.node_mut.ensures.value (ap (λ k. k.node) left.1) left.0 ∙ (world_is c.self.view_is) in
    subst (λ (w : World). IsTaken g.T.Told.tells w c.args.n (Hand c.args.from) c.handle_any.result c.handle_any.new.self.world) same
    c.handle_any.ensures.taken

pub returns-in-Ok-true-clause-taken : goal.returns-in-Ok-true-clause-taken
unfolding node_at mail_at
returns-in-Ok-true-clause-taken g c =
    let w = (the_view c.self.inside).world in
    let a = asked _ _ c.args.n (Hand c.args.from) (world_is c.self.view_is) c.requires.regular c.requires.node c.requires.possible in
    let place = c.way-place.ensures.way ∙ ap (λ (w : World). way w c.args.from c.args.n) (sym (world_is c.self.view_is)) in
    let there = some-there (hand_message (mail_at w (way w c.args.from c.args.n))) (has-in-hand w c.args.n c.args.from a.may) in
    let seen = ap (λ k. hand_message (place_at Empty c.self.inside.mail k)) place ∙ there.1 in
    let tried = c.in-Ok-true.ensures.tried there.0 (source_for w there.0) seen in
    let kept = c.in-Ok-true.ensures.mail c.in-Ok-true.field-0-test ∙
    ap (λ k. put_place Empty c.self.inside.mail k (put_down (place_at Empty c.self.inside.mail k))) place in
    rw (← world_is c.self.view_is)
    (done-hand g.T.Told.tells w c.args.n c.args.from c.hand_told-told.result there.0 c.node_mut.result.now.node c.hand_over.new.node.node
    c.hand_over.new.self
    (subst (λ (v : World). g.T.Told.tells (turn_event v c.args.n (Hand c.args.from)) c.hand_told-told.result) (sym (world_is c.self.view_is))
    c.hand_told-told.ensures) c.node_mut.ensures.value there.1
    (tried.taken c.in-Ok-true.field-0-test) (tried.allowed c.in-Ok-true.field-0-test) kept)

pub returns-in-Err-clause-taken : goal.returns-in-Err-clause-taken
unfolding node_at mail_at
returns-in-Err-clause-taken g c =
    let w = (the_view c.self.inside).world in
    let a = asked _ _ c.args.n (Hand c.args.from) (world_is c.self.view_is) c.requires.regular c.requires.node c.requires.possible in
    let place = c.way-place.ensures.way ∙ ap (λ (w : World). way w c.args.from c.args.n) (sym (world_is c.self.view_is)) in
    let there = some-there (hand_message (mail_at w (way w c.args.from c.args.n))) (has-in-hand w c.args.n c.args.from a.may) in
    let seen = ap (λ k. hand_message (place_at Empty c.self.inside.mail k)) place ∙ there.1 in
    let told = (c.in-Err.ensures.tried there.0 (source_for w there.0) seen).why in
    rw (← world_is c.self.view_is)
    (kept-hand g.T.Told.tells w c.args.n c.args.from there.0 c.in-Err.why c.node_mut.result.now.node c.hand_over.new.node.node c.hand_over.new.self
    a.regular.lengths a.here c.node_mut.ensures.value there.1 c.in-Err.ensures.err.1
    (told.0 ∙ sym (ap (λ b. if b then NumbersEnd else OutOfMemory) told.1)) (λ g. sym g ∙ told.2) c.in-Err.ensures.err.0)

pub returns-in-Ok-false-clause-full : goal.returns-in-Ok-false-clause-full
unfolding node_at
returns-in-Ok-false-clause-full g c = λ room.
    let a = asked _ _ c.args.n (Hand c.args.from) (world_is c.self.view_is) c.requires.regular c.requires.node c.requires.possible in
    let left = c.in-Ok-false.ensures.left c.in-Ok-false.field-0-test in
    let same = unchanged-both (the_view c.self.inside).world c.args.n c.node_mut.result.now.node c.hand_over.new.node.node c.hand_over.new.self
    a.regular.lengths a.here c.node_mut.ensures.value (ap (λ k. k.node) left.1) left.0 ∙ (world_is c.self.view_is) in
    let stays = place-put no_room c.self.inside.nodes.rooms c.args.n c.hand_over.new.node.room ∙ ap (λ k. k.room) left.1
    ∙ c.node_mut.ensures.room ∙ ap (λ (s : RoomyWorld). place_at no_room s.rooms c.args.n) c.self.view_is in
    c.handle_any.ensures.full (same_room c.args.self.now _ c.args.n c.args.from (sym same) (sym stays) room)

pub returns-in-Err-clause-full : goal.returns-in-Err-clause-full
unfolding node_at mail_at
returns-in-Err-clause-full g c = λ room.
    let w = (the_view c.self.inside).world in
    let k = c.node_mut.result.now in
    let a = asked _ _ c.args.n (Hand c.args.from) (world_is c.self.view_is) c.requires.regular c.requires.node c.requires.possible in
    let place = c.way-place.ensures.way ∙ ap (λ (w : World). way w c.args.from c.args.n) (sym (world_is c.self.view_is)) in
    let there = some-there (hand_message (mail_at w (way w c.args.from c.args.n))) (has-in-hand w c.args.n c.args.from a.may) in
    let seen = ap (λ k. hand_message (place_at Empty c.self.inside.mail k)) place ∙ there.1 in
    let source = source_for c.args.self.now.world there.0 in
    let tried = c.in-Err.ensures.tried there.0 source seen in
    let in_hand = ap (λ (v : World). hand_message (mail_at v (way v c.args.from c.args.n))) (sym (world_is c.self.view_is)) ∙ there.1 in
    let has = room_in_hand c.args.self.now c.args.n c.args.from there.0 in_hand room in
    taken_with_room k c.args.from there.0 source (is_lone there.0) c.in-Err.why tried.wanted tried.full
    (subst (λ k. HasRoomToHandle k c.args.from there.0 source)
    (roomy_is c.args.n k c.self.view_is c.node_mut.ensures.value c.node_mut.ensures.room) has)
