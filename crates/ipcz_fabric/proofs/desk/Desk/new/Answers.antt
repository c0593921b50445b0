use Rattle.ipcz_fabric.proofs.Stops.{desk_first}
use Rattle.ipcz_fabric.proofs.desk.Desk.new.Goals as goal

pub invariant_of-result : goal.invariant_of-result
invariant_of-result g c = desk_first g.F.FabricName.table c.args.cell.part c.note_as.new.cell.part c.caller-me.result.id c.note_as.ensures.part

pub returns : goal.returns
returns g c = (c.caller-me.result.id, c.note_as.ensures.part)
