use Rattle.std.proofs.Common.{◌≡◌, ◌∙◌, ℕ, Bool, true, cond, get_or, arith, ap, sym}
use Rattle.ipcz_world.proofs.Vocabulary.{is_full}
use Rattle.ipcz_world.proofs.code.Marks.{count-most}
use Rattle.ipcz_world.proofs.code.Tallying.{left-next}
use Rattle.ipcz_world.proofs.mailboxes.count_full.Goals as goal

pub overflow_add-sum : goal.overflow_add-sum
overflow_add-sum c =
    let full : is_full (get_or c.args.boxes.now c.loop-mail.mail-index c.mail-item.result) ≡ true =
    ap is_full (sym c.mail-item.is) ∙ sym c.is_full.ensures ∙ c.if-is_full.true in
    let one = ap {B = ℕ} (λ (b : Bool). cond b 1 0) full in
    let next = left-next (λ m. cond (is_full m) 1 0) c.args.boxes.now c.loop-mail.mail-index c.mail-item.result c.loop-mail-test.true in
    omega (arith, one, next, c.loop-mail.invariant, count-most c.args.boxes.now, c.requires)
