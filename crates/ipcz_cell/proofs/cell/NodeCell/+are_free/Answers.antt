use Rattle.std.proofs.Common.{ℕ, Bool, ◌&&◌, ap, sym, subst, ◌∙◌}
use Rattle.ipcz_cell.specs.Mails.{mail_word, HasSeen}
use Rattle.ipcz_cell.specs.Opens.{FindsFree}
use Rattle.ipcz_cell.proofs.OpenSteps.{one_more}
use Rattle.ipcz_cell.proofs.cell.NodeCell.+are_free.Goals as goal

pub returns-then-here : goal.returns-then-here
returns-then-here g t c =
    subst (λ (b : Bool). FindsFree g.F.FabricName.table c.args.from c.args.self.now b c.are_free-rest.new.self) (ap (λ (h : Bool). h && c.are_free-rest.result) (sym c.is_free-here.ensures ∙ c.if-here.true))
    (one_more g.F.FabricName.table c.args.from c.load_mail.result _ c.load_mail.new.self _ c.are_free-rest.result
    (subst (λ (n : ℕ). HasSeen (mail_word g.F.FabricName.table c.args.from n) c.load_mail.result c.args.self.now c.load_mail.new.self)
    c.node-node.ensures.node c.load_mail.ensures) c.are_free-rest.ensures)

pub returns-else-here : goal.returns-else-here
returns-else-here g t c =
    subst (λ (b : Bool). FindsFree g.F.FabricName.table c.args.from c.args.self.now b c.are_free-rest.new.self) (ap (λ (h : Bool). h && c.are_free-rest.result) (sym c.is_free-here.ensures ∙ c.if-here.false) ∙ sym c.if-here.false)
    (one_more g.F.FabricName.table c.args.from c.load_mail.result _ c.load_mail.new.self _ c.are_free-rest.result
    (subst (λ (n : ℕ). HasSeen (mail_word g.F.FabricName.table c.args.from n) c.load_mail.result c.args.self.now c.load_mail.new.self)
    c.node-node.ensures.node c.load_mail.ensures) c.are_free-rest.ensures)
