use Rattle.std.proofs.Common.{◌∙◌, ◌<◌, length, arith, ap, sym, subst, Ok}
use Rattle.ipcz_node.specs.Deliveries.{IsTakenAtOnce}
use Rattle.ipcz_world.proofs.Vocabulary.{is_full}
use Rattle.ipcz_world.specs.Turns.{hand_message}
use Rattle.ipcz_world.proofs.code.Marks.{gone, kept-gone, seen-read, within}
use Rattle.ipcz_world.proofs.mailboxes.Mailboxes.hand_over.Goals as goal

pub index_mut-place-requires : goal.index_mut-place-requires
index_mut-place-requires c =
    omega (arith, within _ c.self.inside.marks _ c.args.k c.self.view_is c.requires, c.self.inside.boxes.ok)

pub bounds-self-inside-k : goal.bounds-self-inside-k
bounds-self-inside-k c = omega (arith, within _ c.self.inside.marks _ c.args.k c.self.view_is c.requires, c.self.invariant.few)

pub returns-then-not-taken-clause-tried : goal.returns-then-not-taken-clause-tried
returns-then-not-taken-clause-tried c m source e =
    let l = within _ c.self.inside.marks _ c.args.k c.self.view_is c.requires in
    let many : c.args.k < length c.self.inside.marks = omega (arith, l, c.self.invariant.few, c.self.invariant.marked) in
    let seen = seen-read c.self.inside.boxes.items c.self.inside.marks c.args.self.now c.args.k c.index_mut-place.result.now c.self.view_is l many
    c.index_mut-place.ensures.value in
    subst (λ taken. IsTakenAtOnce c.args.node.now c.args.from m source (Ok taken) c.hand_at.new.node) c.if-not-taken.true
    (c.in-Ok.ensures.tried m source (ap hand_message (sym seen) ∙ e))

pub returns-clause-tried : goal.returns-clause-tried
returns-clause-tried c m source e =
    let l = within _ c.self.inside.marks _ c.args.k c.self.view_is c.requires in
    let many : c.args.k < length c.self.inside.marks = omega (arith, l, c.self.invariant.few, c.self.invariant.marked) in
    let seen = seen-read c.self.inside.boxes.items c.self.inside.marks c.args.self.now c.args.k c.index_mut-place.result.now c.self.view_is l many
    c.index_mut-place.ensures.value in
    subst (λ taken. IsTakenAtOnce c.args.node.now c.args.from m source (Ok taken) c.hand_at.new.node) c.if-not-taken.false
    (c.in-Ok.ensures.tried m source (ap hand_message (sym seen) ∙ e))

pub returns-in-Err-clause-tried : goal.returns-in-Err-clause-tried
returns-in-Err-clause-tried c m source e =
    let l = within _ c.self.inside.marks _ c.args.k c.self.view_is c.requires in
    let many : c.args.k < length c.self.inside.marks = omega (arith, l, c.self.invariant.few, c.self.invariant.marked) in
    let seen = seen-read c.self.inside.boxes.items c.self.inside.marks c.args.self.now c.args.k c.index_mut-place.result.now c.self.view_is l many
    c.index_mut-place.ensures.value in
    c.in-Err.ensures.tried m source (ap hand_message (sym seen) ∙ e)

pub invariant_of-self-2 : goal.invariant_of-self-2
invariant_of-self-2 c =
    let l = within _ c.self.inside.marks _ c.args.k c.self.view_is c.requires in
    let many : c.args.k < length c.self.inside.marks = omega (arith, l, c.self.invariant.few, c.self.invariant.marked) in
    let seen = seen-read c.self.inside.boxes.items c.self.inside.marks c.args.self.now c.args.k c.index_mut-place.result.now c.self.view_is l many
    c.index_mut-place.ensures.value in
    kept-gone c.self.inside.boxes.items c.self.inside.marks c.args.self.now c.args.k c.self.inside.full c.self.invariant c.self.view_is l many
    (ap is_full seen ∙ c.in-Ok.ensures.hand c.if-not-taken.false)

pub returns-clause-mail : goal.returns-clause-mail
returns-clause-mail c = λ t.
    let l = within _ c.self.inside.marks _ c.args.k c.self.view_is c.requires in
    let many : c.args.k < length c.self.inside.marks = omega (arith, l, c.self.invariant.few, c.self.invariant.marked) in
    let seen = seen-read c.self.inside.boxes.items c.self.inside.marks c.args.self.now c.args.k c.index_mut-place.result.now c.self.view_is l many
    c.index_mut-place.ensures.value in
    gone c.self.inside.boxes.items c.self.inside.marks c.args.self.now c.args.k c.self.view_is l many
    (ap is_full seen ∙ c.in-Ok.ensures.hand c.if-not-taken.false)
