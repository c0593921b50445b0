use Rattle.std.proofs.Common.{Bool, subst}
use Rattle.ipcz_cell.specs.Mails.{Probes, mail_word}
use Rattle.ipcz_cell.proofs.TurnActs.{post_acts, probed_can}
use Rattle.ipcz_cell.proofs.cell.NodeCell.post_turn.Goals as goal

pub post_by-requires-clause-probed : goal.post_by-requires-clause-probed
post_by-requires-clause-probed g c =
    let t = g.F.FabricName.table in
    let old = c.args.self.now in
    let h = subst (λ (b : Bool). Probes (mail_word t old.part.node c.args.to) c.args.to old b c.mail_probe.new.self) c.if-not-mail_probe.false c.mail_probe.ensures in
    (probed_can t (mail_word t old.part.node c.args.to) c.args.to old c.mail_probe.new.self h).0

pub returns : goal.returns
returns g c =
    let t = g.F.FabricName.table in
    let old = c.args.self.now in
    let h = subst (λ (b : Bool). Probes (mail_word t old.part.node c.args.to) c.args.to old b c.mail_probe.new.self) c.if-not-mail_probe.false c.mail_probe.ensures in
    (_, c.told.ensures, post_acts t c.args.to old c.mail_probe.new.self c.post_by.new.self h c.post_by.ensures.part c.post_by.ensures.seen)
