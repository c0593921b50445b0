-- A step by which an end of a link word is let go, where slots are used again.
use Rattle.std.specs.Prelude.{◌≡◌, ◌%◌, ◌∷◌, ℕ, bit_or}
use Rattle.atomic_table.specs.Table.{Me, Allows}
use Rattle.ipcz_base.specs.declared.side.Side.{Side}
use Rattle.ipcz_base.specs.declared.side.Side.TheVariants.{A, B}
use Rattle.ipcz_slots.specs.declared.own.Own.{Own}
use Rattle.ipcz_slots.specs.Slots.{let_go_word}
use Rattle.ipcz_rule.specs.declared.view.View.{View}
use Rattle.ipcz_rule.specs.Batches.{Batch, BatchMine}
use Rattle.ipcz_rule.specs.Lasting.{LastingRules}
use Rattle.ipcz_cell.specs.TableNames.{TableName}
use Rattle.ipcz_cell.specs.Seats.{mine_of, sizes_of}

-- the bit of a side in a let-go word
abbrev pub bit_of_side : Side → ℕ
bit_of_side A = 1
bit_of_side B = 2

-- the bit of a side may be set in the let-go word of a number's slot, and that is told of it
abbrev pub LetsGo : TableName → ℕ → Me Batch (Own View) → ℕ → Side → (ℕ → Me Batch (Own View) → Type 0) → Type 0
LetsGo t id m i side told =
    Allows (LastingRules t.count t.size t.slots t.reuses) t.id.slots id m (let_go_word (sizes_of t) (i % t.slots)) (λ n. bit_or n (bit_of_side side)) told

-- it may, and the seat's slots stay
abbrev pub MayLetGo : TableName → ℕ → Me Batch (Own View) → ℕ → Side → (ℕ → BatchMine → Type 0) → Type 0
MayLetGo t id m i side told = LetsGo t id m i side (λ n m'. told n (mine_of m') × (m'.0.dirty ≡ m.0.dirty) × (m'.0.free ≡ m.0.free) × (m'.0.looked ≡ m.0.looked))

-- it may, and a slot is the seat's then, to be emptied
abbrev pub MayLeave : TableName → ℕ → Me Batch (Own View) → ℕ → Side → ℕ → (ℕ → BatchMine → Type 0) → Type 0
MayLeave t id m i side slot told = LetsGo t id m i side (λ n m'. told n (mine_of m') × (m'.0.dirty ≡ slot ∷ m.0.dirty) × (m'.0.free ≡ m.0.free) × (m'.0.looked ≡ m.0.looked))
