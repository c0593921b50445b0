use Rattle.std.specs.Prelude.{not}
use Rattle.std.proofs.Common.{refl, ◌+◌}
use Rattle.ipcz_rule.proofs.BatchPlainKinds.{loads}
use Rattle.ipcz_cell.specs.CellStates.{part_in}
use Rattle.ipcz_cell.proofs.Mailing.{seen_cell, load_tells}
use Rattle.ipcz_cell.proofs.Slotting.{none_then}
use Rattle.ipcz_cell.proofs.cell.NodeCell.load_at.Goals as goal
use Rattle.ipcz_cell.specs.Seats.{mine_of}

pub load_behind-requires-clause-may : goal.load_behind-requires-clause-may
load_behind-requires-clause-may g c =
    let t = g.F.FabricName.table in
    loads (not t.reuses) t.reuses t.count t.size t.id.slots c.self.inside.seat.id (t.size + c.args.place) (mine_of c.self.inside.seat.me) (part_in c.self.inside.seat.me.0.view) c.self.invariant.0.seated.whole

pub invariant_of-self : goal.invariant_of-self
invariant_of-self g c =
    let done = c.load_behind.ensures in
    (seen_cell g.F.FabricName.table _ _ _ _ _ _ c.self.invariant.0 _ (mine_of c.load_behind.new.seat.me) done.table done.sound (g.F.FabricName.table.size + c.args.place) c.load_behind.result done.done, none_then c.load_behind.ensures.slots c.self.invariant.1)

pub returns : goal.returns
returns g c = load_tells (g.F.FabricName.table.size + c.args.place) (g.F.FabricName.table.size + c.args.place) c.load_behind.result (mine_of c.self.inside.seat.me) (mine_of c.load_behind.new.seat.me) c.self.inside.state.room c.self.inside.state.room _ c.self.view_is refl c.load_behind.ensures.slots.2 refl c.load_behind.ensures.done
