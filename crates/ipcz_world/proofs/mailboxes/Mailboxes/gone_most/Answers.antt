use Rattle.std.proofs.Common.{◌≡◌, ap, sym, ◌∙◌, arith}
use Rattle.ipcz_world.proofs.Vocabulary.{higher, highest}
use Rattle.ipcz_world.specs.SettleLimit.{gone_mailed}
use Rattle.ipcz_world.proofs.code.Tallying.{higher-none, highest-none}
use Rattle.ipcz_world.proofs.code.Marks.{gone-stand}
use Rattle.ipcz_world.proofs.mailboxes.Mailboxes.gone_most.Goals as goal

pub returns : goal.returns
returns c =
    let all : c.loop-mail.most ≡ highest gone_mailed c.as_slice-mail-items.result.now = sym (higher-none c.loop-mail.most) ∙
    ap (higher c.loop-mail.most) (sym (highest-none gone_mailed c.as_slice-mail-items.result.now c.loop-mail.mail-index
    (omega (arith, c.loop-mail-test.false)))) ∙ c.loop-mail.invariant in
    all ∙ ap (highest gone_mailed) c.as_slice-mail-items.ensures.value ∙
    sym (gone-stand c.self.inside.boxes.items c.self.inside.marks) ∙ ap (highest gone_mailed) c.self.view_is
