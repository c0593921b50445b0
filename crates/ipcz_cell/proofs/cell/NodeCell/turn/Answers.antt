use Rattle.ipcz_cell.specs.TurnEnds.{Acts}
use Rattle.ipcz_cell.proofs.TurnActs.{told_whole}
use Rattle.ipcz_cell.proofs.TurnParts.{chosen, turn_done}
use Rattle.ipcz_cell.proofs.cell.NodeCell.turn.Goals as goal

pub take-requires : goal.take-requires
take-requires g c =
    let may = chosen g.F.FabricName.table c.act-act.result c.args.self.now c.act-act.new.self c.act-act.ensures.first c.act-act.ensures.possible in
    record { inside = may.0; possible = may.1 }

pub returns : goal.returns
returns g c =
    let t = g.F.FabricName.table in
    turn_done t c.act-act.result c.args.self.now c.act-act.new.self c.take.new.self c.take.result c.act-act.ensures.first
    (told_whole (λ done. Acts t c.act-act.result c.act-act.new.self done c.take.new.self) c.take.result c.take.ensures)
