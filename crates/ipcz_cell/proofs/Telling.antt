-- A step of any kind tells its seat that its nodes are sound.
use Rattle.std.specs.Prelude.{◌≡◌, ◌<◌, ℕ, zero, suc, List, [], ◌∷◌, length, Bool}
use Rattle.std.proofs.Common.{sym, arith}
use mathlib.Core.Option.{some, some-ne-none}
use lib.ListN.{get_elem?}
use Rattle.atomic_table.proofs.Lists.{set_here}
use Rattle.ipcz_rule.specs.declared.view.View.{View}
use Rattle.ipcz_rule.specs.Batches.{BatchMine, BatchSt, Batched}
use Rattle.ipcz_rule.proofs.BatchedLaws.{parts_sound}
use Rattle.ipcz_cell.specs.Cells.{AreSound}
use Rattle.ipcz_cell.specs.Seats.{Keeps}

-- a seat's view is inside
pub at_inside : {A : Type 0} (l : List A) (i : ℕ) (v : A) → get_elem? l i ≡ some v → i < length l
at_inside [] i v e = absurd (some-ne-none v (sym e))
at_inside (x ∷ xs) zero v e = omega arith
at_inside (x ∷ xs) (suc i) v e = let h = at_inside xs i v e in omega arith

-- the nodes of a seat are sound
pub sound_at : {alone : Bool} (count size : ℕ) (s : BatchSt) → Batched count size alone s → (id : ℕ) (v : View) → get_elem? s.views id ≡ some v → AreSound count size v
sound_at {alone} count size s b id v at k p there = let h = parts_sound count size alone s b id v k p at there in (h.0, h.1)

pub tells : (all : Bool) (count size slots id i : ℕ) (m : BatchMine) (f : ℕ → ℕ) (then : ℕ → BatchMine → Type 0) → Keeps all count size slots id m i f then →
    Keeps all count size slots id m i f (λ n m'. then n m' × AreSound count size m'.0)
tells all count size slots id i m f then may s r deep at small =
    let t = may s r deep at small in
    (t.0, t.1, t.2, t.3, (t.4, sound_at count size _ t.3.0 id t.0 (set_here s.views id t.0 (at_inside s.views id m.0 at))))
