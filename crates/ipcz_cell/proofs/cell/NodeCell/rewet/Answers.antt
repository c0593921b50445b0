use Rattle.std.proofs.Common.{ap, sym, ◌∙◌, refl, arith}
use Rattle.ipcz_node.specs.Node.{Node}
use Rattle.ipcz_node.specs.Finding.{rewet_node}
use Rattle.ipcz_rule.specs.Steps.{wet_part}
use Rattle.ipcz_rule.proofs.Wetting.{wet_hand}
use Rattle.ipcz_cell.specs.CellStates.{part_in, change_part}
use Rattle.ipcz_cell.specs.Outcomes.{touched, is_itself}
use Rattle.ipcz_cell.specs.Seats.{mine_of}
use Rattle.ipcz_cell.proofs.Seating.{number_inside, reseated, touched_cell}
use Rattle.ipcz_cell.proofs.Slotting.{none_then}
use Rattle.ipcz_cell.proofs.cell.NodeCell.rewet.Goals as goal

pub wet_here-requires-clause-picked : goal.wet_here-requires-clause-picked
wet_here-requires-clause-picked g c = is_itself (touched (wet_part c.args.serial))

pub wet_here-requires-clause-node : goal.wet_here-requires-clause-node
wet_here-requires-clause-node g c =
    let number = number_inside _ _ _ _ c.self.invariant.0.seated in
    let e = c.number-node.ensures in
    omega (arith, number, e)

pub invariant_of-self : goal.invariant_of-self
invariant_of-self g c =
    let was = c.self.invariant.0 in
    let me = mine_of c.self.inside.seat.me in
    let step = c.wet_here.ensures in
    let p' = wet_part c.args.serial (part_in me.0) in
    let v' = change_part (wet_part c.args.serial) me.0 in
    let state = ap (λ (z : Node). rewet_node z c.args.serial) was.seated.state ∙ sym c.rewet.ensures in (
      touched_cell g.F.FabricName.table _ _ _ _ _ _ _ me (mine_of c.wet_here.new.seat.me) p' v' was
          (reseated g.F.FabricName.table _ _ me was.seated c.rewet.new.self.node _ (mine_of c.wet_here.new.seat.me) p' v' me.1 step.table step.done refl state step.sound)
          step.done refl (record { node = refl; hand = wet_hand (part_in me.0).state c.args.serial; message = refl; probed = refl; batches = refl }),
      none_then step.slots c.self.invariant.1,
    )
