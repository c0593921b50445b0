-- Each handle gets the next cell.
use Rattle.std.specs.Prelude.{◌≡◌, ◌<◌, ◌+◌, ℕ, zero, suc, List, [], ◌∷◌, ◌++◌, length, map, take, Some, refl}
use Rattle.std.proofs.Common.{arith, ap, ◌∙◌, sym, set}
use Rattle.std.proofs.lemmas.List.{append-nil, append_assoc, take_all}
use Rattle.ipcz_cell.specs.CellStates.{CellState}
use Rattle.ipcz_cell.specs.TableNames.{TableName}
use Rattle.ipcz_c.specs.CellCalls.{AreHeld, cells_of, holds_each}
use Rattle.ipcz_c.specs.declared.cell_handle.CellHandle.{CellHandle}

placed : (xs : List CellHandle) (at : ℕ) (h : CellHandle) → at < length xs → take (suc at) (set xs at h) ≡ take at xs ++ h ∷ []
placed [] at h below = absurd (omega (arith, below))
placed (x ∷ xs) zero h below = refl
placed (x ∷ xs) (suc at) h below = ap (λ ys. x ∷ ys) (placed xs at h (omega (arith, below)))

cells_more : (xs : List CellHandle) (h : CellHandle) → cells_of (xs ++ h ∷ []) ≡ cells_of xs ++ h.held.cell ∷ []
cells_more [] h = refl
cells_more (x ∷ xs) h = ap (λ cs. x.held.cell ∷ cs) (cells_more xs h)

-- the handles up to one have the first cells, and this one gets the next
pub hands_one : (t : TableName) (xs : List CellHandle) (at : ℕ) (h : CellHandle) (v : CellState) (vs all : List CellState) → at < length xs →
    cells_of (take at xs) ++ holds_each t (v ∷ vs) ≡ holds_each t all → h.held.cell ≡ Some (record { table = t; cell = v }) →
    cells_of (take (at + 1) (set xs at h)) ++ holds_each t vs ≡ holds_each t all
hands_one t xs at h v vs all below held is =
    let next : at + 1 ≡ suc at = omega arith in
    ap (λ n. cells_of (take n (set xs at h)) ++ holds_each t vs) next
    ∙ (ap (λ hs. cells_of hs ++ holds_each t vs) (placed xs at h below)
    ∙ (ap (λ cs. cs ++ holds_each t vs) (cells_more (take at xs) h)
    ∙ (append_assoc (cells_of (take at xs)) (h.held.cell ∷ []) (holds_each t vs)
    ∙ (ap (λ c. cells_of (take at xs) ++ c ∷ holds_each t vs) is ∙ held))))

-- of no cells there is none
pub none_left : {A B : Type 0} (f : A → B) (xs : List A) → length xs ≡ 0 → map f xs ≡ []
none_left f [] e = refl
none_left f (x ∷ xs) e = absurd (omega (arith, e))

-- once all handles have one, no cell is left
pub all_held : (t : TableName) (xs : List CellHandle) (at : ℕ) (left all : List CellState) → length xs ≡ at → left ≡ [] → cells_of (take at xs) ++ holds_each t left ≡ holds_each t all → AreHeld t all xs
all_held t xs at left all many none held =
    sym (ap (λ cs. cs ++ holds_each t []) (ap (λ hs. cells_of hs) (take_all at xs (omega (arith, many)))) ∙ append-nil (cells_of xs))
    ∙ (ap (λ (l : List CellState). cells_of (take at xs) ++ holds_each t l) (sym none) ∙ held)
