use Rattle.std.proofs.Common.{◌≡◌, ◌<◌, ◌-◌, ℕ, false, ap, subst, sym, ◌∙◌, arith}
use Rattle.ipcz_world.proofs.code.StatesOfNodes.{world_is}
use Rattle.ipcz_world.proofs.Vocabulary.{place_at, Empty, World, mail_at, way, first_number, is_full, seen_at}
use Rattle.ipcz_node.proofs.Turns.{passed}
use Rattle.ipcz_world.proofs.code.SeenMail.{sees_full, no_sender, passes, none_left}
use Rattle.ipcz_world.proofs.state.State.first_sender.Goals as goal

pub returns-then-not-has_full : goal.returns-then-not-has_full
unfolding mail_at
returns-then-not-has_full c =
    let none = λ (k : ℕ). subst (λ (w : World). is_full (mail_at w k) ≡ false) (world_is c.self.view_is) (c.has_full.ensures.none c.if-not-has_full.true k) in
    sym (no_sender c.args.self.now.world c.args.n c.requires.regular.lengths.few none)
    ∙ ap (first_number (λ i. place_at false (seen_at c.args.self.now.world c.args.n).full i) 0)
    (sym (c.requires.regular.sound c.args.n c.requires.node).count_is)

pub loop-from-init : goal.loop-from-init
loop-from-init c =
    ap (first_number (λ i. place_at false (seen_at c.args.self.now.world c.args.n).full i) 0)
    (let z : c.args.self.now.world.count - 0 ≡ c.args.self.now.world.count = omega arith in z)

pub loop-from-preserved : goal.loop-from-preserved
unfolding mail_at
loop-from-preserved c =
    let many : c.self.inside.count ≡ c.args.self.now.world.count = ap (λ (w : World). w.count) (world_is c.self.view_is) in
    let low : c.loop-from.from < c.args.self.now.world.count = omega (arith, many, c.loop-from-test.true) in
    let seen = c.is_full.ensures ∙ ap (λ k. is_full (place_at Empty c.self.inside.mail k)) c.way.ensures.way
    ∙ ap (λ (w : World). is_full (place_at Empty w.mail (way c.args.self.now.world c.loop-from.from c.args.n))) (world_is c.self.view_is) in
    passed _ c.loop-from.from c.args.self.now.world.count _ low
    (sees_full c.args.self.now.world c.args.n c.loop-from.from low c.requires.regular.lengths.few ∙ sym seen ∙ c.if-is_full.false)
    c.loop-from.invariant

pub returns-then-is_full : goal.returns-then-is_full
unfolding mail_at
returns-then-is_full c =
    let many : c.self.inside.count ≡ c.args.self.now.world.count = ap (λ (w : World). w.count) (world_is c.self.view_is) in
    let low : c.loop-from.from < c.args.self.now.world.count = omega (arith, many, c.loop-from-test.true) in
    let seen = c.is_full.ensures ∙ ap (λ k. is_full (place_at Empty c.self.inside.mail k)) c.way.ensures.way
    ∙ ap (λ (w : World). is_full (place_at Empty w.mail (way c.args.self.now.world c.loop-from.from c.args.n))) (world_is c.self.view_is) in
    passes _ c.loop-from.from c.args.self.now.world.count _ low
    (sees_full c.args.self.now.world c.args.n c.loop-from.from low c.requires.regular.lengths.few ∙ sym seen ∙ c.if-is_full.true)
    c.loop-from.invariant
    ∙ ap (first_number (λ i. place_at false (seen_at c.args.self.now.world c.args.n).full i) 0)
    (sym (c.requires.regular.sound c.args.n c.requires.node).count_is)

pub returns : goal.returns
returns c =
    let many : c.self.inside.count ≡ c.args.self.now.world.count = ap (λ (w : World). w.count) (world_is c.self.view_is) in
    let all : c.loop-from.from ≡ c.args.self.now.world.count = omega (arith, many, c.loop-from-test.false, c.loop-from.auto.from-end) in
    none_left _ c.loop-from.from c.args.self.now.world.count _ all c.loop-from.invariant
    ∙ ap (first_number (λ i. place_at false (seen_at c.args.self.now.world c.args.n).full i) 0)
    (sym (c.requires.regular.sound c.args.n c.requires.node).count_is)
