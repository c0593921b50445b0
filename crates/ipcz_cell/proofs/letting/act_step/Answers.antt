use Rattle.std.proofs.Common.{ℕ, sym, subst}
use Rattle.ipcz_rule.specs.Batches.{BatchMine}
use Rattle.ipcz_cell.specs.Cells.{AreSound}
use Rattle.ipcz_cell.specs.Lettings.{MayLeave}
use Rattle.ipcz_cell.specs.Seats.{mine_of}
use Rattle.ipcz_cell.specs.CellStates.{part_in}
use Rattle.ipcz_cell.specs.GivenUp.{GivesUp}
use Rattle.ipcz_cell.proofs.Forms.{acts_touch}
use Rattle.ipcz_cell.proofs.GivenUps.{gives_no_end, routers_end, routers_both}
use Rattle.ipcz_cell.proofs.Lettings.{may_let_go, may_leave}
use Rattle.ipcz_cell.proofs.Seating.{may_by}
use Rattle.ipcz_cell.proofs.letting.act_step.Goals as goal

pub touch-requires-clause-may : goal.touch-requires-clause-may
touch-requires-clause-may g c =
    let r = c.requires in
    let t = g.F.FabricName.table in
    let x = (part_in c.args.seat.now.me.0.view).state in
    may_by _ _ _ _ _ _ _ (λ n. n) _ _ r.picked (acts_touch _ _ _ _ _ _ _ _ c.args.act r.whole r.touch r.possible r.serials
    (gives_no_end t.reuses x c.args.act (subst (GivesUp t.reuses x c.args.act) c.in-Nothing.is r.given)))

pub let_go_step-requires-clause-reuses : goal.let_go_step-requires-clause-reuses
let_go_step-requires-clause-reuses g c =
    let t = g.F.FabricName.table in
    let x = (part_in c.args.seat.now.me.0.view).state in
    (routers_end t.reuses x c.args.act c.in-End.number c.in-End.side (subst (GivesUp t.reuses x c.args.act) c.in-End.is c.requires.given)).reused

pub let_go_step-requires-clause-may : goal.let_go_step-requires-clause-may
let_go_step-requires-clause-may g c =
    let r = c.requires in
    let t = g.F.FabricName.table in
    may_let_go t _ _ c.args.act c.in-End.number c.in-End.side g.X.Outcome.tells c.fabric.invariant.5 r.picked r.whole r.touch r.possible r.serials
    (subst (GivesUp t.reuses (part_in c.args.seat.now.me.0.view).state c.args.act) c.in-End.is r.given)

pub leave_step-requires-clause-reuses : goal.leave_step-requires-clause-reuses
leave_step-requires-clause-reuses g c =
    let t = g.F.FabricName.table in
    let x = (part_in c.args.seat.now.me.0.view).state in
    (routers_both t.reuses x c.args.act c.in-EndAndSpare.number c.in-EndAndSpare.side c.in-EndAndSpare.spare (subst (GivesUp t.reuses x c.args.act) c.in-EndAndSpare.is c.requires.given)).reused

pub leave_step-requires-clause-may : goal.leave_step-requires-clause-may
leave_step-requires-clause-may g c =
    let r = c.requires in
    let t = g.F.FabricName.table in
    subst (λ (p : ℕ). MayLeave t c.args.seat.now.id c.args.seat.now.me c.in-EndAndSpare.number c.in-EndAndSpare.side p (g.X.Outcome.tells (mine_of c.args.seat.now.me))) (sym c.number_slot-slot.ensures.slot)
    (may_leave t _ _ c.args.act c.in-EndAndSpare.number c.in-EndAndSpare.spare c.in-EndAndSpare.side g.X.Outcome.tells c.fabric.invariant.5 r.picked r.whole r.touch r.possible r.serials
    (subst (GivesUp t.reuses (part_in c.args.seat.now.me.0.view).state c.args.act) c.in-EndAndSpare.is r.given))

pub returns-in-EndAndSpare-clause-sound : goal.returns-in-EndAndSpare-clause-sound
returns-in-EndAndSpare-clause-sound g c =
    let t = g.F.FabricName.table in
    subst (λ (m : BatchMine). AreSound t.count t.size m.0) (sym c.return_step.ensures.me) c.leave_step.ensures.sound
