use Rattle.std.proofs.Common.{Bool, subst}
use Rattle.ipcz_cell.specs.Mails.{Looks, mail_word}
use Rattle.ipcz_cell.proofs.TurnActs.{look_acts, look_lost}
use Rattle.ipcz_cell.proofs.cell.NodeCell.look_turn.Goals as goal

pub returns-then-mail_look : goal.returns-then-mail_look
returns-then-mail_look g c =
    let t = g.F.FabricName.table in
    let old = c.args.self.now in
    (_, c.told.ensures, look_acts t c.args.from old c.mail_look.new.self (subst (λ (b : Bool). Looks (mail_word t c.args.from old.part.node) c.args.from old b c.mail_look.new.self) c.if-mail_look.true c.mail_look.ensures))

pub returns-else-mail_look : goal.returns-else-mail_look
returns-else-mail_look g c =
    let t = g.F.FabricName.table in
    let old = c.args.self.now in
    look_lost t c.args.from old c.mail_look.new.self (subst (λ (b : Bool). Looks (mail_word t c.args.from old.part.node) c.args.from old b c.mail_look.new.self) c.if-mail_look.false c.mail_look.ensures)
