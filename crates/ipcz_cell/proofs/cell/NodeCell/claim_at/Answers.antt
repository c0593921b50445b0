use Rattle.std.proofs.Common.{[], ◌∷◌, ap, sym, ◌∙◌, arith}
use Rattle.ipcz_rule.specs.Batches.{BatchMine}
use Rattle.ipcz_cell.specs.CellStates.{CellState, part_in}
use Rattle.ipcz_cell.specs.Seats.{mine_of}
use Rattle.ipcz_cell.proofs.Mailing.{seen_cell, told_miss}
use Rattle.ipcz_cell.proofs.NumberClaims.{open_claim_may, kept_cell}
use Rattle.ipcz_cell.proofs.cell.NodeCell.claim_at.Goals as goal

pub claim_step-now-requires-clause-may : goal.claim_step-now-requires-clause-may
claim_step-now-requires-clause-may g c =
    let few = c.fabric.invariant.5.limits.words in
    let me = c.number_at.ensures.me in
    open_claim_may g.F.FabricName.table _ c.args.count c.in-Some.number c.number_at.new.seat.me c.fabric.invariant.5 (omega (arith, few))
    (ap (λ (m : BatchMine). m.0.parts) me ∙ (c.self.invariant.0.seated.whole ∙ ap (λ (m : BatchMine). part_in m.0 ∷ []) (sym me)))
    (ap (λ (m : BatchMine). (part_in m.0).state.opening) me ∙ (ap (λ (o : CellState). o.part.state.opening) c.self.view_is ∙ c.requires.free))
    c.in-Some.ensures.number.0 c.in-Some.ensures.number.1

pub invariant_of-self-then-now-count : goal.invariant_of-self-then-now-count
invariant_of-self-then-now-count g c =
    let t = g.F.FabricName.table in
    let found = c.number_at.ensures in
    let done = c.claim_step-now.ensures in
    let left = c.leave_slot.ensures in
    let at = kept_cell t _ _ _ _ _ _ c.self.invariant.0 _ (mine_of c.number_at.new.seat.me) found.table.0 found.me in
    let seen = seen_cell t _ _ _ _ _ _ at _ (mine_of c.claim_step-now.new.seat.me) done.table done.sound _ c.claim_step-now.result (told_miss _ c.args.count _ _ c.if-now-count.true done.done) in
    (kept_cell t _ _ _ _ _ _ seen _ (mine_of c.leave_slot.new.seat.me) left.table.0 left.me, c.leave_slot.ensures.none)
