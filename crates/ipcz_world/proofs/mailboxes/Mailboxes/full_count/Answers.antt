use Rattle.std.proofs.Common.{◌∙◌, cond, Some, arith, ap, subst, sym}
use Rattle.ipcz_base.specs.Totals.{total_list}
use Rattle.ipcz_world.proofs.Vocabulary.{is_clear}
use Rattle.ipcz_world.specs.Tallies.{Tells}
use Rattle.ipcz_world.proofs.code.Tallying.{tallied-item, tallied-list}
use Rattle.ipcz_world.proofs.code.Marks.{clear-stand}
use Rattle.ipcz_world.proofs.mailboxes.Mailboxes.full_count.Goals.{then-is_clear, else-is_clear}
use Rattle.ipcz_world.proofs.mailboxes.Mailboxes.full_count.Goals as goal

pub loop-mail-preserved : goal.loop-mail-preserved
loop-mail-preserved c =
    let told : Tells (Some c.if-is_clear.one) (cond (is_clear c.mail-item.result) 0 1) =
    elim c.if-is_clear.branch [
      | then-is_clear w ↦ grind (arith, w.one-is, w.if-is_clear, c.is_clear.ensures)
      | else-is_clear w ↦ grind (arith, w.one-is, w.if-is_clear, c.is_clear.ensures)
    ] in
    tallied-item (λ m. cond (is_clear m) 0 1) c.as_slice-mail-items.result.now c.loop-mail.mail-index c.mail-item.result c.loop-mail.sum
    c.plus-sum.result (Some c.if-is_clear.one) _ c.loop-mail-test.true c.mail-item.is c.loop-mail.invariant c.plus-sum.ensures told

pub returns : goal.returns
returns c =
    subst (Tells c.loop-mail.sum)
    (ap (λ mail. total_list (λ m. cond (is_clear m) 0 1) mail) c.as_slice-mail-items.ensures.value ∙
    sym (clear-stand c.self.inside.boxes.items c.self.inside.marks) ∙
    ap (λ mail. total_list (λ m. cond (is_clear m) 0 1) mail) c.self.view_is)
    (tallied-list (λ m. cond (is_clear m) 0 1) c.as_slice-mail-items.result.now c.loop-mail.mail-index c.loop-mail.sum _
    (omega (arith, c.loop-mail-test.false)) c.loop-mail.invariant)
