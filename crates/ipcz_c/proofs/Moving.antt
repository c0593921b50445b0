-- A call of a cell that was taken out of its handle and given back is a call of the handle's cell.
use Rattle.std.proofs.Common.{◌≡◌, Option, Some, subst, sym, ap, ◌∙◌}
use Rattle.std.specs.Prelude.{unwrap_or, IsSomeAnd}
use Rattle.ipcz_cell.specs.CellStates.{CellState}
use Rattle.ipcz_cell.specs.TableNames.{TableName}
use Rattle.ipcz_c.specs.HeldCells.{HeldCell, Moves}

pub moved : (Does : TableName → CellState → CellState → Type 0) (old new : Option HeldCell) (t : TableName) (x y : CellState) →
    old ≡ Some (record { table = t; cell = x }) → new ≡ Some (record { table = t; cell = y }) → Does t x y → Moves Does old new
moved Does old new t x y was is did c has =
    let x' : HeldCell = record { table = t; cell = x } in
    let same : x' ≡ c = ap (λ (o : Option HeldCell). unwrap_or o c) (sym was ∙ has) in
    subst (λ (n : Option HeldCell). IsSomeAnd n (λ d. (d.table ≡ c.table) × Does c.table c.cell d.cell)) (sym is)
    (ap (λ (h : HeldCell). h.table) same, subst (λ (h : HeldCell). Does h.table h.cell y) same did)
