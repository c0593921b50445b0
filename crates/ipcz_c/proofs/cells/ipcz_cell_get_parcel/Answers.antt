use Rattle.std.proofs.Common.{ap, subst, sym, ◌∙◌, length}
use Rattle.std.specs.Prelude.{true, Option, ◌≡◌}
use Rattle.ipcz_base.specs.declared.parcel.Sizes.{Sizes}
use Rattle.ipcz_world.specs.Steps.{sizes_given}
use Rattle.ipcz_world.specs.declared.step.Reply.{Reply}
use Rattle.ipcz_c.specs.CellSteps.{GetsAt}
use Rattle.ipcz_c.specs.HeldCells.{HeldCell, Moves, cell_sizes}
use Rattle.ipcz_c.specs.Statuses.{status_of}
use Rattle.ipcz_c.specs.Told.{room_of, IsGot, fits}
use Rattle.ipcz_c.proofs.CellAnswering.{fits_got}
use Rattle.ipcz_c.proofs.cells.ipcz_cell_get_parcel.Goals as goal

pub tell_got-requires : goal.tell_got-requires
tell_got-requires c =
    let same = ap (λ (old : Option HeldCell). cell_sizes old c.end-end.result) c.next_sizes-next.ensures.same ∙ sym c.next_sizes-next.ensures.sizes in
    let fit = ap (λ (sizes : Option Sizes). fits sizes (length c.args.bytes.now) (length c.args.portals.now)) same ∙ c.in_default.ensures.fits in
    subst (λ (reply : Reply). fits (sizes_given reply) (length c.args.bytes.now) (length c.args.portals.now) ≡ true) (sym c.got-reply.ensures)
    (fits_got c.get-answer.result _ _ _ c.get-answer.ensures.sizes fit)

pub returns-clause-did : goal.returns-clause-did
returns-clause-did c = λ has room. (
  c.get-answer.result,
  coe 0 1 (j. Moves (λ t x y. GetsAt (c.end-end.ensures j) x c.get-answer.result y) (c.next_sizes-next.ensures.same j) c.get-answer.new.self.held.cell)
      c.get-answer.ensures.got,
  c.status.ensures ∙ ap status_of c.got-reply.ensures,
  subst (λ (reply : Reply). IsGot reply (room_of c.args.bytes.now c.args.size.now c.args.portals.now c.args.count.now c.args.number.now)
      (room_of c.tell_got.new.bytes c.tell_got.new.size c.tell_got.new.portals c.tell_got.new.count c.tell_got.new.number)) c.got-reply.ensures
      c.tell_got.ensures,
)
