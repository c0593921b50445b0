use Rattle.ipcz_c.proofs.Handing.{made_of}
use Rattle.ipcz_c.proofs.cells.ipcz_cells_create_lasting.Goals as goal

pub returns-in-Ok-start_lasting-clause-made : goal.returns-in-Ok-start_lasting-clause-made
returns-in-Ok-start_lasting-clause-made c = λ vacant within.
    let size = c.in-Ok-start_lasting.ensures.size in
    made_of c.seat.result _ _ _ _ _ _ _ _ _ c.outcome.ensures size.1 size.2 size.3 c.seat.ensures.made c.seat.ensures.why c.seat.ensures.back
