-- The cell that a call finds behind a lock, and clauses on what a call answers.
use Rattle.std.proofs.Common.{◌≡◌, ◌<◌, ◌∙◌, ℕ, sym, subst}
use Rattle.std.specs.Prelude.{Result, Ok, Err, IfOk, IfErr, OnOk}
use Rattle.ipcz_cell.specs.CellStates.{CellState}
use Rattle.ipcz_cell.specs.Cells.{IsSoundCell}
use Rattle.ipcz_cell.specs.TableNames.{TableName}
use Rattle.ipcz_fabric.specs.Places.{IsCellOf}

-- the cell that was asked for its node
pub asked : (t : TableName) (node told : ℕ) (c guarded : CellState) → c ≡ guarded → told ≡ c.part.node → IsSoundCell t c → told ≡ node → node < t.count → IsCellOf t node guarded
asked t node told c guarded is own sound same inside = subst (IsCellOf t node) is (record { node_is = sym own ∙ same; inside = inside; sound = sound })

-- the cell that is lent from a guard
pub lent : (t : TableName) (node there : ℕ) (c guarded : CellState) → node ≡ there → c ≡ guarded → IsCellOf t node guarded → IsCellOf t there c
lent t node there c guarded same is here = subst (λ (n : ℕ). IsCellOf t n c) same (subst (IsCellOf t node) (sym is) here)

-- what holds of an answer, by what is known of it
pub if_ok : {A E : Type 0} {P Q : A → Type 0} → ((a : A) → P a → Q a) → (answer : Result A E) → IfOk answer P → IfOk answer Q
if_ok so (Ok a) h = so a h
if_ok so (Err e) h = tt

pub if_err : {A E : Type 0} {P Q : E → Type 0} → ((e : E) → P e → Q e) → (answer : Result A E) → IfErr answer P → IfErr answer Q
if_err so (Ok a) h = tt
if_err so (Err e) h = so e h

pub on_ok : {A E : Type 0} {P Q : Type 0} → (P → Q) → (answer : Result A E) → OnOk answer P → OnOk answer Q
on_ok so (Ok a) h = so h
on_ok so (Err e) h = tt

pub if_allowed : {A E : Type 0} {P : Type 0} {Q R : A → Type 0} → ((a : A) → P → Q a → R a) → (answer : Result A E) → OnOk answer P → IfOk answer Q → IfOk answer R
if_allowed so (Ok a) p h = so a p h
if_allowed so (Err e) p h = tt
