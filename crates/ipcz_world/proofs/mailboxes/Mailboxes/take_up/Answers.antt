use Rattle.std.proofs.Common.{◌<◌, length, arith}
use Rattle.ipcz_world.proofs.code.Marks.{full-least, kept-taken, within, wrote-mark}
use Rattle.ipcz_world.proofs.mailboxes.Mailboxes.take_up.Goals as goal

pub bounds-self-inside-k : goal.bounds-self-inside-k
bounds-self-inside-k c = omega (arith, within _ c.self.inside.marks _ c.args.k c.self.view_is c.requires.place, c.self.invariant.few)

pub overflow_sub-self : goal.overflow_sub-self
overflow_sub-self c =
    full-least c.self.inside.boxes.items c.self.inside.marks c.args.self.now c.args.k c.self.inside.full c.self.invariant c.self.view_is
    c.requires.full

pub invariant_of-self : goal.invariant_of-self
invariant_of-self c =
    let l = within _ c.self.inside.marks _ c.args.k c.self.view_is c.requires.place in
    let many : c.args.k < length c.self.inside.marks = omega (arith, l, c.self.invariant.few, c.self.invariant.marked) in
    kept-taken c.self.inside.boxes.items c.self.inside.marks c.args.self.now c.args.k c.self.inside.full c.self.invariant
    c.self.view_is l many c.requires.full

pub returns : goal.returns
returns c =
    let l = within _ c.self.inside.marks _ c.args.k c.self.view_is c.requires.place in
    let many : c.args.k < length c.self.inside.marks = omega (arith, l, c.self.invariant.few, c.self.invariant.marked) in
    wrote-mark c.self.inside.boxes.items c.self.inside.marks c.args.self.now c.args.k c.self.view_is l many
