use Rattle.std.proofs.Common.{refl}
use Rattle.ipcz_cell.proofs.Slotting.{whole_slotted, none_then}
use Rattle.ipcz_cell.proofs.Mailing.{seen_cell, load_tells}
use Rattle.ipcz_cell.proofs.OpenSteps.{word_load_may}
use Rattle.ipcz_cell.proofs.cell.NodeCell.load_word.Goals as goal
use Rattle.ipcz_cell.specs.Seats.{mine_of}

pub load_link-requires-clause-slotted : goal.load_link-requires-clause-slotted
load_link-requires-clause-slotted g c = whole_slotted g.F.FabricName.table _ c.args.i _ c.requires.order c.requires.below

pub load_link-requires-clause-may : goal.load_link-requires-clause-may
load_link-requires-clause-may g c = word_load_may g.F.FabricName.table _ c.args.i (mine_of c.self.inside.seat.me) c.self.invariant.0.seated.whole c.requires.below

pub invariant_of-self : goal.invariant_of-self
invariant_of-self g c =
    let done = c.load_link.ensures in
    (seen_cell g.F.FabricName.table _ _ _ _ _ _ c.self.invariant.0 _ (mine_of c.load_link.new.seat.me) done.table done.sound c.args.i c.load_link.result done.done.1, none_then c.load_link.ensures.slots c.self.invariant.1)

pub returns-clause-seen : goal.returns-clause-seen
returns-clause-seen g c =
    load_tells c.args.i c.args.i c.load_link.result (mine_of c.self.inside.seat.me) (mine_of c.load_link.new.seat.me) c.self.inside.state.room c.self.inside.state.room _ c.self.view_is refl c.load_link.ensures.slots.2 refl c.load_link.ensures.done.1

pub returns-clause-word : goal.returns-clause-word
returns-clause-word g c = c.load_link.ensures.done.0
