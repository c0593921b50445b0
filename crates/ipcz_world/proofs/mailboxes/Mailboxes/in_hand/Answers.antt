use Rattle.std.proofs.Common.{◌∙◌, ◌<◌, length, arith, ap, sym}
use Rattle.ipcz_world.specs.Turns.{hand_message}
use Rattle.ipcz_world.proofs.code.Marks.{seen-read, within}
use Rattle.ipcz_world.proofs.mailboxes.Mailboxes.in_hand.Goals as goal

pub index-requires : goal.index-requires
index-requires c = omega (arith, within _ c.self.inside.marks _ c.args.k c.self.view_is c.requires, c.self.inside.boxes.ok)

pub bounds-self-inside-k : goal.bounds-self-inside-k
bounds-self-inside-k c = omega (arith, within _ c.self.inside.marks _ c.args.k c.self.view_is c.requires, c.self.invariant.few)

pub returns : goal.returns
returns c =
    let l = within _ c.self.inside.marks _ c.args.k c.self.view_is c.requires in
    let many : c.args.k < length c.self.inside.marks = omega (arith, l, c.self.invariant.few, c.self.invariant.marked) in
    c.message_in.ensures ∙ ap hand_message (sym (seen-read c.self.inside.boxes.items c.self.inside.marks c.args.self.now c.args.k
    c.index.result.now c.self.view_is l many c.index.ensures))
