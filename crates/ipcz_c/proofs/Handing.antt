-- The cells of a new table: how many they are, and what a create makes of naming the table.
use Rattle.std.proofs.Common.{◌≡◌, ℕ, Bool, List, [], map, length, ap, sym, subst, ◌∙◌, inl, inr}
use Rattle.std.specs.Prelude.{Result, Ok, Err, OnOk, OnErr, IfErr}
use Rattle.std.proofs.lemmas.List.{length-map, length-replicate}
use Rattle.ipcz_base.specs.declared.refusal.Refusal.{Refusal}
use Rattle.ipcz_base.specs.declared.refusal.Refusal.TheVariants.{OutOfMemory}
use Rattle.ipcz_base.specs.Refusals.{code_of}
use Rattle.ipcz_cell.specs.CellStates.{CellState}
use Rattle.ipcz_cell.specs.Making.{AreFirst}
use Rattle.ipcz_c.specs.CellCalls.{outcome_of, AreMade, MakesCells}
use Rattle.ipcz_c.specs.declared.cell_handle.CellHandle.{CellHandle}

pub as_many : {X Y : Type 0} (f : X → Y) (xs : List X) (ys : List Y) → map f xs ≡ ys → length xs ≡ length ys
as_many f xs ys is = sym (length-map xs f) ∙ ap length is

-- as many as nodes
pub many_first : (count : ℕ) (cells : List CellState) → AreFirst count count cells → length cells ≡ count
many_first count cells are = as_many (λ (c : CellState). c.seen) cells _ are.seen ∙ length-replicate count []

pub made_of : (answer : Result (Unit {0}) Refusal) (status size k words slots : ℕ) (b reuses : Bool) (old new : List CellHandle) → status ≡ outcome_of answer → size ≡ words →
    k ≡ slots → b ≡ reuses → OnOk answer (AreMade size k b new) → IfErr answer (λ e. e ≡ OutOfMemory) → OnErr answer (new ≡ old) → MakesCells words slots reuses old status new
unfolding outcome_of
made_of (Ok u) status size k words slots b reuses old new is same fits again made why back =
    inl (is, subst (λ (r : Bool). AreMade words slots r new) again (subst (λ (p : ℕ). AreMade words p b new) fits (subst (λ (w : ℕ). AreMade w k b new) same made)))
made_of (Err e) status size k words slots b reuses old new is same fits again made why back = inr (is ∙ ap code_of why, back)
