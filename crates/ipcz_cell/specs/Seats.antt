-- A cell's seat at a table with slots, and what it knows of the table that is folded, in which each number has its word.
use Rattle.std.specs.Prelude.{◌≡◌, ℕ, Bool, not, cond, [], ◌∷◌, ◌+◌, ◌%◌, MatchBool, eqb}
use prog.Atomic.{either}
use Rattle.atomic_table.specs.Table.{Me, Allows}
use Rattle.ipcz_slots.specs.declared.own.Own.{Own}
use Rattle.ipcz_slots.specs.Slots.{Sizes, let_go_word, without_number}
use Rattle.ipcz_slots.specs.SlotKinds.{HasSlot}
use Rattle.ipcz_rule.specs.declared.view.View.{View}
use Rattle.ipcz_rule.specs.Batches.{Batch, BatchMine, BatchKept}
use Rattle.ipcz_rule.specs.Lasting.{LastingRules, virtual, sizes, own_of}
use Rattle.ipcz_cell.specs.TableNames.{TableName}
use Rattle.ipcz_cell.specs.Outcomes.{Tells}

-- what it knows and holds at the table that is folded
abbrev pub mine_of : Me Batch (Own View) → BatchMine
mine_of m = (m.0.view, m.1)

-- the sizes of a table
abbrev pub sizes_of : TableName → Sizes
sizes_of t = sizes t.count t.size t.slots t.reuses

-- a step of a seat on a word of the table that is folded: it keeps the rule, ends that nobody held are held by nobody, and if `all` are kept, as
-- where slots are used again, those that were held are
abbrev pub Keeps : (all : Bool) → (count size slots id : ℕ) → BatchMine → ℕ → (ℕ → ℕ) → (ℕ → BatchMine → Type 0) → Type 0
Keeps all count size slots id m i f told = BatchKept (not all) all count size slots id m i f (λ n. []) told

-- a seat has no slot of its own
abbrev pub HasNoSlots : Own View → Type 0
HasNoSlots o = (o.dirty ≡ []) × (o.free ≡ [])

-- a seat's own slots stay, and it has looked at no other
abbrev pub SlotsStay : Me Batch (Own View) → Me Batch (Own View) → Type 0
SlotsStay m m' = (m'.0.dirty ≡ m.0.dirty) × (m'.0.free ≡ m.0.free) × (m'.0.looked ≡ m.0.looked)

-- a seat's own slots are that of this number alone, which is free, if slots are used again
abbrev pub HasSlotFor : TableName → ℕ → Own View → Type 0
HasSlotFor t n o = (o.dirty ≡ []) × (o.free ≡ cond t.reuses (n % t.slots ∷ []) [])

-- a number has a slot, as the seat knows
abbrev pub IsSlotted : TableName → ℕ → View → ℕ → Type 0
IsSlotted t id v i = HasSlot (virtual t.count t.size t.reuses) (sizes_of t) id v i

-- an exchange 3 to 0 of a let-go word: the slot is the seat's to empty, if 3 was found, and else the seat has looked at it
abbrev pub Taken : TableName → ℕ → Me Batch (Own View) → ℕ → Me Batch (Own View) → Type 0
Taken t word m n m' = (p : ℕ) × (word ≡ let_go_word (sizes_of t) p) × MatchBool (eqb n 3)
    (m' ≡ (own_of m.0.view (p ∷ m.0.dirty) m.0.free m.0.looked, m.1)) (m' ≡ (own_of m.0.view m.0.dirty m.0.free (p ∷ m.0.looked), m.1))

-- a store 0 in the word of a slot that was taken: it is free
abbrev pub Emptied : ℕ → Me Batch (Own View) → Me Batch (Own View) → Type 0
Emptied word m m' = m' ≡ (own_of m.0.view (without_number m.0.dirty word) (word ∷ m.0.free) m.0.looked, m.1)

-- a store 3 in the let-go word of a slot that is the seat's: it is the seat's no more
abbrev pub Returned : TableName → ℕ → Me Batch (Own View) → Me Batch (Own View) → Type 0
Returned t word m m' = (p : ℕ) × (word ≡ let_go_word (sizes_of t) p) × (m' ≡ (own_of m.0.view (without_number m.0.dirty p) (without_number m.0.free p) m.0.looked, m.1))

-- an exchange of the claim count for the number behind one may be, if that is told of it; if the count was found the seat has no slot then, and
-- else its slots stay
abbrev pub MayClaim : TableName → ℕ → Me Batch (Own View) → ℕ → ℕ → Tells → Type 0
MayClaim t id m count n told =
    Allows (LastingRules t.count t.size t.slots t.reuses) t.id.slots id m (t.slots + 0) (λ k. either (eqb k count) (n + 1) k)
    (λ k m'. told (mine_of m) k (mine_of m') × MatchBool (eqb k count) (HasNoSlots m'.0) (SlotsStay m m'))
