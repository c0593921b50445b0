use Rattle.std.proofs.Common.{◌≡◌, ◌+◌, ap, sym, ◌∙◌, arith, eqb, MatchBool}
use prog.Atomic.{either}
use Rattle.atomic_table.specs.Seated.{TableId}
use Rattle.ipcz_cell.specs.Seats.{mine_of, HasNoSlots, SlotsStay}
use Rattle.ipcz_cell.proofs.Slotting.{seat_may}
use Rattle.ipcz_cell.proofs.plays.claim_step.Goals as goal

pub overflow_add-next : goal.overflow_add-next
overflow_add-next g c = let few = c.fabric.invariant.5.limits.words in let below = c.requires.below in omega (arith, few, below)

pub compare_exchange-requires : goal.compare_exchange-requires
compare_exchange-requires g c =
    let f = c.fabric.invariant in
    let t = g.F.FabricName.table in
    let wide = ap (λ (z : TableId). z.words) f.0 in
    let words = f.5.words in
    let slots = f.8 in
    let at : c.fabric.inside.slots ≡ t.slots + 0 = omega (arith, slots) in (
      c.requires.own ∙ sym f.0,
      omega (arith, wide, words, slots),
      (seat_may _ _ _ _ _ _ _ t _ _ (λ k. either (eqb k c.args.count) (c.args.number + 1) k) (λ k m'. g.X.Outcome.tells (mine_of c.args.seat.now.me) k (mine_of m')) (λ k m'. MatchBool (eqb k c.args.count) (HasNoSlots m'.0) (SlotsStay c.args.seat.now.me m')) f.1 f.2 f.6 f.7 (ap (λ (z : TableId). z.slots) f.0) at c.requires.may),
    )
