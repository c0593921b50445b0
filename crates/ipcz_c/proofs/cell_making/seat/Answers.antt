use Rattle.std.proofs.Common.{◌∙◌}
use Rattle.ipcz_c.proofs.Handing.{as_many, many_first}
use Rattle.ipcz_c.proofs.cell_making.seat.Goals as goal

pub hand_out-requires-clause-each : goal.hand_out-requires-clause-each
hand_out-requires-clause-each g c =
    as_many _ _ _ c.in-Ok-boxed.ensures.all ∙ (many_first g.F.FabricName.table.count _ c.in-Ok.ensures.cells ∙ c.requires.many)
