use Rattle.std.proofs.Common.{◌<◌, length, arith}
use Rattle.ipcz_world.proofs.code.Marks.{back, kept-back, within}
use Rattle.ipcz_world.proofs.mailboxes.Mailboxes.put_back.Goals as goal

pub index_mut-requires : goal.index_mut-requires
index_mut-requires c =
    omega (arith, within _ c.self.inside.marks _ c.args.k c.self.view_is c.requires.place, c.self.inside.boxes.ok)

pub invariant_of-self : goal.invariant_of-self
invariant_of-self c =
    let l = within _ c.self.inside.marks _ c.args.k c.self.view_is c.requires.place in
    let many : c.args.k < length c.self.inside.marks = omega (arith, l, c.self.invariant.few, c.self.invariant.marked) in
    kept-back c.self.inside.boxes.items c.self.inside.marks c.args.self.now c.args.k c.self.inside.full c.args.message c.self.invariant
    c.self.view_is l many c.requires.clear

pub returns : goal.returns
returns c =
    let l = within _ c.self.inside.marks _ c.args.k c.self.view_is c.requires.place in
    let many : c.args.k < length c.self.inside.marks = omega (arith, l, c.self.invariant.few, c.self.invariant.marked) in
    back c.self.inside.boxes.items c.self.inside.marks c.args.self.now c.args.k c.args.message c.self.view_is l many
