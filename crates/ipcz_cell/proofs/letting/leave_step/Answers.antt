use Rattle.std.specs.Prelude.{◌%◌, ◌∷◌, bit_or}
use Rattle.std.proofs.Common.{◌≡◌, ℕ, ap, sym, subst, ◌∙◌, arith}
use Rattle.atomic_table.specs.Seated.{TableId}
use Rattle.atomic_table.specs.Table.{Allows}
use Rattle.ipcz_rule.specs.Lasting.{LastingRules}
use Rattle.ipcz_slots.specs.Slots.{let_go_word}
use Rattle.ipcz_cell.specs.Cells.{AreSound}
use Rattle.ipcz_cell.specs.Lettings.{bit_of_side, MayLeave}
use Rattle.ipcz_cell.specs.Seats.{mine_of, sizes_of}
use Rattle.ipcz_cell.proofs.Slotting.{slots_are}
use Rattle.ipcz_cell.proofs.letting.leave_step.Goals as goal

pub fetch_or-requires : goal.fetch_or-requires
fetch_or-requires g c =
    let f = c.fabric.invariant in
    let t = g.F.FabricName.table in
    let wide = ap (λ (z : TableId). z.words) f.0 in
    let inside = c.let_go_word-word.ensures.inside in
    let at : c.let_go_word-word.result ≡ let_go_word (sizes_of t) (c.args.number % t.slots) =
    c.let_go_word-word.ensures.word ∙ ap (λ (p : ℕ). let_go_word (sizes_of t) p) c.number_slot.ensures.slot in (
      c.requires.own ∙ sym f.0,
      omega (arith, wide, inside),
      subst (λ (b : ℕ). Allows (LastingRules c.fabric.inside.table.shared.key.nodes c.fabric.inside.table.shared.key.words c.fabric.inside.table.shared.key.slots c.fabric.inside.table.shared.key.reuses) c.fabric.inside.table.shared.table_id.slots c.args.seat.now.id c.args.seat.now.me c.let_go_word-word.result (λ k. bit_or k b) (λ k m'. g.X.Outcome.tells (mine_of c.args.seat.now.me) k (mine_of m') × AreSound t.count t.size m'.0.view × (m'.0.dirty ≡ g.S.SlotName.slot ∷ c.args.seat.now.me.0.dirty) × (m'.0.free ≡ c.args.seat.now.me.0.free) × (m'.0.looked ≡ c.args.seat.now.me.0.looked))) (sym c.side_bit.ensures)
          (slots_are _ _ _ _ _ _ (let_go_word (sizes_of t) (c.args.number % t.slots)) t c.args.seat.now.id c.args.seat.now.me (λ k. bit_or k (bit_of_side c.args.side)) (g.X.Outcome.tells (mine_of c.args.seat.now.me))
          (g.S.SlotName.slot ∷ c.args.seat.now.me.0.dirty) c.args.seat.now.me.0.free c.args.seat.now.me.0.looked f.1 f.2 f.6 f.7 (ap (λ (z : TableId). z.slots) f.0) at
          (subst (λ (q : ℕ). MayLeave t c.args.seat.now.id c.args.seat.now.me c.args.number c.args.side q (g.X.Outcome.tells (mine_of c.args.seat.now.me))) (sym c.requires.named) c.requires.may)),
    )
