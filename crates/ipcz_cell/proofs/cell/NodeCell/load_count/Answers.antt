use Rattle.std.proofs.Common.{◌≡◌, ◌+◌, refl, subst, arith}
use Rattle.ipcz_cell.specs.CellStates.{CellState}
use Rattle.ipcz_cell.specs.Claims.{AreReached}
use Rattle.ipcz_cell.specs.Seats.{mine_of}
use Rattle.ipcz_cell.proofs.Mailing.{seen_cell, load_tells}
use Rattle.ipcz_cell.proofs.OpenSteps.{count_load_may}
use Rattle.ipcz_cell.proofs.Slotting.{none_then}
use Rattle.ipcz_cell.proofs.cell.NodeCell.load_count.Goals as goal

pub load_step-requires-clause-may : goal.load_step-requires-clause-may
load_step-requires-clause-may g c =
    let t = g.F.FabricName.table in
    let at : t.size ≡ t.size + 0 = omega arith in
    count_load_may t _ _ (mine_of c.self.inside.seat.me) c.self.invariant.0.seated.whole at

pub invariant_of-self : goal.invariant_of-self
invariant_of-self g c =
    let done = c.load_step.ensures in
    (seen_cell g.F.FabricName.table _ _ _ _ _ _ c.self.invariant.0 _ (mine_of c.load_step.new.seat.me) done.table done.sound _ c.load_step.result done.done.2, none_then c.load_step.ensures.slots c.self.invariant.1)

pub returns-clause-seen : goal.returns-clause-seen
returns-clause-seen g c =
    load_tells g.F.FabricName.table.size _ c.load_step.result (mine_of c.self.inside.seat.me) (mine_of c.load_step.new.seat.me) c.self.inside.state.room c.self.inside.state.room _ c.self.view_is refl c.load_step.ensures.slots.2 refl c.load_step.ensures.done.2

pub returns-clause-reached : goal.returns-clause-reached
returns-clause-reached g c =
    subst (λ (o : CellState). AreReached g.F.FabricName.table.size o.seen c.load_step.result) c.self.view_is c.load_step.ensures.done.1

pub returns-clause-most : goal.returns-clause-most
returns-clause-most g c = c.load_step.ensures.done.0
