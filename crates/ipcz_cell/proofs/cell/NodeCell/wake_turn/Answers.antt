use Rattle.std.proofs.lemmas.Result.{err_from_is_err_and}
use Rattle.ipcz_cell.proofs.TurnWords.{wake_acts}
use Rattle.ipcz_cell.proofs.TurnActs.{after_same, wake_refused}
use Rattle.ipcz_cell.proofs.cell.NodeCell.wake_turn.Goals as goal

pub returns : goal.returns
returns g c =
    let t = g.F.FabricName.table in
    let ready = c.prepare.ensures in
    after_same t _ c.args.self.now c.prepare.new.self c.word_take_waiting.new.self _ ready.part ready.seen (λ seen. tt) (λ seen. c.in_ok-prepare.ensures.ready)
    (wake_acts t c.args.serial c.prepare.new.self c.word_take_waiting.new.self c.word_take_waiting.result c.word_link-link.result c.word_link-link.ensures c.word_take_waiting.ensures)

pub returns-in_err-prepare : goal.returns-in_err-prepare
returns-in_err-prepare g c =
    let p = err_from_is_err_and c.from_residual.result c.from_residual.ensures.1 in
    let ready = c.prepare.ensures in
    rw (p.1, p.2) (wake_refused g.F.FabricName.table c.args.serial c.args.self.now c.prepare.new.self _ ready.part ready.seen c.in_err-prepare.ensures.why c.in_err-prepare.ensures.grows c.in_err-prepare.ensures.full)
