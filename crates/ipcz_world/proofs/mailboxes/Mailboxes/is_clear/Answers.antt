use Rattle.std.proofs.Common.{◌∙◌, arith, ap, sym}
use Rattle.ipcz_world.proofs.Vocabulary.{is_clear}
use Rattle.ipcz_world.proofs.code.Marks.{clear-marked, seen-at, within}
use Rattle.ipcz_world.proofs.mailboxes.Mailboxes.is_clear.Goals as goal

pub index-requires : goal.index-requires
index-requires c =
    omega (arith, within _ c.self.inside.marks _ c.args.k c.self.view_is c.requires, c.self.inside.boxes.ok)

pub returns : goal.returns
returns c =
    let l = within _ c.self.inside.marks _ c.args.k c.self.view_is c.requires in
    let kept = c.self.invariant in
    let at = seen-at c.self.inside.boxes.items c.self.inside.marks _ c.args.k c.index.result.now c.self.view_is l
    (omega (arith, l, kept.few, kept.marked)) c.index.ensures in
    c.is_clear.ensures ∙ sym (ap is_clear at ∙ clear-marked _ _)
