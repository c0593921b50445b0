use Rattle.std.proofs.Common.{◌∙◌, ◌<◌, length, arith, ap, sym}
use Rattle.ipcz_world.proofs.Vocabulary.{is_clear}
use Rattle.ipcz_world.proofs.code.Marks.{clear-tells, full-most, kept-posted, posted, seen-read, within}
use Rattle.ipcz_world.proofs.mailboxes.Mailboxes.post.Goals as goal

pub index_mut-place-requires : goal.index_mut-place-requires
index_mut-place-requires c =
    omega (arith, within _ c.self.inside.marks _ c.args.k c.self.view_is c.requires.place, c.self.inside.boxes.ok)

pub unreachable-requires : goal.unreachable-requires
unreachable-requires c =
    let l = within _ c.self.inside.marks _ c.args.k c.self.view_is c.requires.place in
    let many : c.args.k < length c.self.inside.marks = omega (arith, l, c.self.invariant.few, c.self.invariant.marked) in
    let seen = seen-read c.self.inside.boxes.items c.self.inside.marks c.args.self.now c.args.k c.index_mut-place.result.now c.self.view_is l many
    c.index_mut-place.ensures.value in
    c.in_default.not-Empty (clear-tells _ _ (ap is_clear (sym seen) ∙ c.requires.clear))

pub bounds-self-inside-k : goal.bounds-self-inside-k
bounds-self-inside-k c = omega (arith, within _ c.self.inside.marks _ c.args.k c.self.view_is c.requires.place, c.self.invariant.few)

pub overflow_add-self : goal.overflow_add-self
overflow_add-self c = omega (arith, full-most c.self.inside.boxes.items c.self.inside.marks c.self.inside.full c.self.invariant)

pub invariant_of-self : goal.invariant_of-self
invariant_of-self c =
    let l = within _ c.self.inside.marks _ c.args.k c.self.view_is c.requires.place in
    let many : c.args.k < length c.self.inside.marks = omega (arith, l, c.self.invariant.few, c.self.invariant.marked) in
    kept-posted c.self.inside.boxes.items c.self.inside.marks c.args.self.now c.args.k c.self.inside.full c.args.message c.self.invariant
    c.self.view_is l many c.requires.clear

pub returns : goal.returns
returns c =
    let l = within _ c.self.inside.marks _ c.args.k c.self.view_is c.requires.place in
    let many : c.args.k < length c.self.inside.marks = omega (arith, l, c.self.invariant.few, c.self.invariant.marked) in
    posted c.self.inside.boxes.items c.self.inside.marks c.args.self.now c.args.k c.args.message c.self.view_is l many
