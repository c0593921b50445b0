use Rattle.std.proofs.Common.{◌≡◌, ◌<◌, ◌-◌, ◌&&◌, false, not, ap, sym, ◌∙◌, arith}
use Rattle.ipcz_world.proofs.code.StatesOfNodes.{world_is}
use Rattle.ipcz_world.proofs.Vocabulary.{place_at, World, Node, node_at, first_number, has_mail_for, are_empty, seen_at}
use Rattle.ipcz_node.proofs.Turns.{passed}
use Rattle.ipcz_world.proofs.code.SeenMail.{sees_empty, passes, none_left, no_destination}
use Rattle.ipcz_world.proofs.state.State.first_destination.Goals as goal

pub returns-then-not-has_mail : goal.returns-then-not-has_mail
unfolding node_at
returns-then-not-has_mail c =
    let at = c.node.ensures ∙ ap (λ (w : World). node_at w c.args.n) (world_is c.self.view_is) in
    let none = ap (λ (x : Node). not (are_empty x.outboxes)) (sym at) ∙ sym c.has_mail.ensures ∙ c.if-not-has_mail.true in
    sym (no_destination c.args.self.now.world c.args.n none)
    ∙ ap (first_number (λ i. has_mail_for (node_at c.args.self.now.world c.args.n) i && place_at false
    (seen_at c.args.self.now.world c.args.n).empty i) 0) (sym (c.requires.regular.sound c.args.n c.requires.node).count_is)

pub loop-to-init : goal.loop-to-init
loop-to-init c =
    ap (first_number (λ i. has_mail_for (node_at c.args.self.now.world c.args.n) i && place_at false
    (seen_at c.args.self.now.world c.args.n).empty i) 0)
    (let z : c.args.self.now.world.count - 0 ≡ c.args.self.now.world.count = omega arith in z)

pub loop-to-preserved : goal.loop-to-preserved
loop-to-preserved c =
    let many : c.self.inside.count ≡ c.args.self.now.world.count = ap (λ (w : World). w.count) (world_is c.self.view_is) in
    let low : c.loop-to.to < c.args.self.now.world.count = omega (arith, many, c.loop-to-test.true) in
    passed _ c.loop-to.to c.args.self.now.world.count _ low
    (ap (λ b. has_mail_for (node_at c.args.self.now.world c.args.n) c.loop-to.to && b)
    (sees_empty c.args.self.now.world c.args.n c.loop-to.to low c.requires.regular.lengths.few) ∙ sym c.can_post.ensures ∙ c.if-can_post.false)
    c.loop-to.invariant

pub returns-then-can_post : goal.returns-then-can_post
returns-then-can_post c =
    let many : c.self.inside.count ≡ c.args.self.now.world.count = ap (λ (w : World). w.count) (world_is c.self.view_is) in
    let low : c.loop-to.to < c.args.self.now.world.count = omega (arith, many, c.loop-to-test.true) in
    passes _ c.loop-to.to c.args.self.now.world.count _ low
    (ap (λ b. has_mail_for (node_at c.args.self.now.world c.args.n) c.loop-to.to && b)
    (sees_empty c.args.self.now.world c.args.n c.loop-to.to low c.requires.regular.lengths.few) ∙ sym c.can_post.ensures ∙ c.if-can_post.true)
    c.loop-to.invariant
    ∙ ap (first_number (λ i. has_mail_for (node_at c.args.self.now.world c.args.n) i && place_at false
    (seen_at c.args.self.now.world c.args.n).empty i) 0) (sym (c.requires.regular.sound c.args.n c.requires.node).count_is)

pub returns : goal.returns
returns c =
    let many : c.self.inside.count ≡ c.args.self.now.world.count = ap (λ (w : World). w.count) (world_is c.self.view_is) in
    let all : c.loop-to.to ≡ c.args.self.now.world.count = omega (arith, many, c.loop-to-test.false, c.loop-to.auto.to-end) in
    none_left _ c.loop-to.to c.args.self.now.world.count _ all c.loop-to.invariant
    ∙ ap (first_number (λ i. has_mail_for (node_at c.args.self.now.world c.args.n) i && place_at false
    (seen_at c.args.self.now.world c.args.n).empty i) 0) (sym (c.requires.regular.sound c.args.n c.requires.node).count_is)
