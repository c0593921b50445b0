use Rattle.std.specs.Prelude.{not}
use Rattle.std.proofs.Common.{List, ap, ◌∙◌, ◌+◌}
use lib.ListN.{get_elem?}
use Rattle.ipcz_rule.specs.Batches.{BatchMine}
use Rattle.ipcz_rule.specs.declared.view.Part.{Part}
use Rattle.ipcz_rule.proofs.BatchPlainKinds.{loads}
use Rattle.ipcz_cell.specs.CellStates.{part_in}
use Rattle.ipcz_cell.specs.Seats.{mine_of}
use Rattle.ipcz_cell.proofs.twins.look.Goals as goal

pub load_step-requires-clause-may : goal.load_step-requires-clause-may
load_step-requires-clause-may g c =
    let t = g.F.FabricName.table in
    let seat = c.args.seat.now in
    loads (not t.reuses) t.reuses t.count t.size t.id.slots seat.id (t.size + 0) (mine_of seat.me) (part_in seat.me.0.view) c.requires.whole

pub returns : goal.returns
returns g c = (c.load_step.ensures.sound 0 (part_in c.args.seat.now.me.0.view)
    (ap (λ (m : BatchMine). get_elem? m.0.parts 0) c.load_step.ensures.done ∙ ap (λ (ps : List Part). get_elem? ps 0) c.requires.whole)).0
