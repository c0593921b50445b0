-- A table whose link words come back: each of its slots shows the word of one number of a table in which no word comes back, its virtual table.
use Rattle.std.specs.Prelude.{◌≡◌, ◌≤◌, ◌<◌, ◌⊎◌, ◌+◌, ◌%◌, ℕ, zero, suc, Bool, true, false, ◌||◌, cond, nat_eq, List, [], ◌∷◌, map, length, slice_index}
use mathlib.Core.Option.{some}
use lib.ListN.{get_elem?}
use Rattle.atomic_table.specs.Table.{State}
use Rattle.ipcz_slots.specs.declared.own.Own.{Own}

-- a rule of virtual tables, and when the end of a number at a side is nowhere (false is side A)
pub record Virtual (S V : Type 0) : Type 1 where
  pub holds : State S V → Type 0
  pub gone : (t : State S V) → holds t → Bool → ℕ → Type 0

-- how many slots there are, how many numbers, and how many words behind the link words: the claim count first; and whether slots are used again.
-- Else each number has a slot of its own
pub record Sizes : Type 0 where
  pub slots : ℕ
  pub limit : ℕ
  pub others : ℕ
  pub reuses : Bool

-- the slot of a number
abbrev pub slot_of : Sizes → ℕ → ℕ
slot_of z i = i % z.slots

-- the let-go word of a slot
abbrev pub let_go_word : Sizes → ℕ → ℕ
let_go_word z p = z.slots + z.others + p

-- whether a list has a number
abbrev pub has_number : List ℕ → ℕ → Bool
has_number [] i = false
has_number (j ∷ js) i = nat_eq i j || has_number js i

-- a list without a number
abbrev pub without_number : List ℕ → ℕ → List ℕ
without_number [] i = []
without_number (j ∷ js) i = cond (nat_eq j i) (without_number js i) (j ∷ without_number js i)

-- what a slot is for
pub data Status : Type 0 where
  -- it shows the word of this number
  Shows : (i : ℕ) → Status
  -- its number is used no more, and this seat is to empty its word
  Dirty : (seat : ℕ) → Status
  -- it is free, and this seat's
  Free : (seat : ℕ) → Status
  -- it shows no number, and is whoever's takes it
  Spare : Status

-- what the let-go word of a slot says of its number: bit 1 that side A has let go, bit 2 that side B has
abbrev pub LetGo : {S V : Type 0} (x : Virtual S V) (t : State S V) → x.holds t → ℕ → ℕ → Type 0
LetGo x t r zero i = Unit {0}
LetGo x t r (suc zero) i = x.gone t r false i
LetGo x t r (suc (suc zero)) i = x.gone t r true i
LetGo x t r (suc (suc (suc zero))) i = x.gone t r false i × x.gone t r true i
LetGo x t r (suc (suc (suc (suc n)))) i = ⊥

-- and what it doesn't say: the end of a side whose bit isn't set is somewhere
abbrev pub NotLetGo : {S V : Type 0} (x : Virtual S V) (t : State S V) → x.holds t → ℕ → ℕ → Type 0
NotLetGo x t r zero i = (x.gone t r false i → ⊥) × (x.gone t r true i → ⊥)
NotLetGo x t r (suc zero) i = x.gone t r true i → ⊥
NotLetGo x t r (suc (suc zero)) i = x.gone t r false i → ⊥
NotLetGo x t r (suc (suc (suc n))) i = Unit {0}

-- what a slot, its word and its let-go word say of the virtual table. Where slots are used again, the let-go word tells exactly which ends of
-- its number are nowhere, but for some numbers
abbrev pub SlotSays : {S V : Type 0} (x : Virtual S V) (z : Sizes) (but : ℕ → Type 0) (t : State S V) → x.holds t → ℕ → ℕ → ℕ → Status → Type 0
SlotSays x z but t r p word bits (Shows i) =
    (slot_of z i ≡ p) × (i < z.limit) × (word ≡ slice_index t.words i) × LetGo x t r bits i ×
    (z.reuses ≡ true → (but i → ⊥) → NotLetGo x t r bits i)
SlotSays x z but t r p word bits (Dirty seat) = bits ≡ 0
SlotSays x z but t r p word bits (Free seat) = (bits ≡ 0) × (word ≡ 0)
SlotSays x z but t r p word bits Spare = bits ≡ 3

-- both ends of a number are nowhere
abbrev pub Unused : {S V : Type 0} (x : Virtual S V) (t : State S V) → x.holds t → ℕ → Type 0
Unused x t r i = x.gone t r false i × x.gone t r true i

-- the slots that a seat has are its own
pub record Owns (z : Sizes) (status : ℕ → Status) (id : ℕ) (dirty free : List ℕ) : Type 0 where
  pub dirty_is : (p : ℕ) → has_number dirty p ≡ true → (p < z.slots) × (status p ≡ Dirty id)
  pub free_is : (p : ℕ) → has_number free p ≡ true → (p < z.slots) × (status p ≡ Free id)

-- and a slot that is a seat's own is one that the seat has
abbrev pub HasOwner : {V : Type 0} → List (Own V) → ℕ → Status → Type 0
HasOwner {V} views p (Dirty id) = (o : Own V) × (get_elem? views id ≡ some o) × (has_number o.dirty p ≡ true)
HasOwner {V} views p (Free id) = (o : Own V) × (get_elem? views id ≡ some o) × (has_number o.free p ≡ true)
HasOwner {V} views p other = Unit {0}

-- where slots aren't used again each shows its own number, and nobody has let go of one that isn't claimed
pub record IsWhole (z : Sizes) (words : List ℕ) (claimed : ℕ) (status : ℕ → Status) : Type 0 where
  pub shows : (p : ℕ) → p < z.slots → status p ≡ Shows p
  pub fresh : (p : ℕ) → claimed ≤ p → p < z.slots → slice_index words (let_go_word z p) ≡ 0

-- a table folds a virtual one: slots and views are the same, and so are the words behind the link words; each slot of a link word shows one
-- number, or is a seat's own; and each other number that was claimed is used no more. Of some numbers a slot may not tell yet that an end is
-- nowhere
pub record FoldsBut {S V : Type 0} (x : Virtual S V) (z : Sizes) (but : ℕ → Type 0) (s : State S (Own V)) (t : State S V) (r : x.holds t) : Type 0 where
  pub wide : length s.words ≡ z.slots + z.others + z.slots
  pub tall : length t.words ≡ z.limit + z.others
  pub homes : s.homes ≡ t.homes
  pub views : map (λ (o : Own V). o.view) s.views ≡ t.views
  pub rest : (j : ℕ) → j < z.others → slice_index s.words (z.slots + j) ≡ slice_index t.words (z.limit + j)
  pub status : ℕ → Status
  pub slots : (p : ℕ) → p < z.slots → SlotSays x z but t r p (slice_index s.words p) (slice_index s.words (let_go_word z p)) (status p)
  pub others : (i : ℕ) → i < slice_index t.words z.limit → (status (slot_of z i) ≡ Shows i) ⊎ Unused x t r i
  pub own : (id : ℕ) (o : Own V) → get_elem? s.views id ≡ some o → Owns z status id o.dirty o.free
  pub owned : (p : ℕ) → p < z.slots → HasOwner s.views p (status p)
  pub whole : z.reuses ≡ false → IsWhole z s.words (slice_index t.words z.limit) status

-- of no number
abbrev pub of_none : ℕ → Type 0
of_none i = ⊥

abbrev pub Folds : {S V : Type 0} (x : Virtual S V) (z : Sizes) (s : State S (Own V)) (t : State S V) → x.holds t → Type 0
Folds x z s t r = FoldsBut x z of_none s t r

-- the rule of a lasting table
abbrev pub Lasting : {S V : Type 0} → Virtual S V → Sizes → State S (Own V) → Type 0
Lasting {S} {V} x z s = (t : State S V) × (r : x.holds t) × Folds x z s t r

-- what a slot is for: its number lives, an end of it being somewhere; or it is to be had, both sides having let go; or a seat has it
pub data IsInUse {S V : Type 0} (x : Virtual S V) (z : Sizes) (s : State S (Own V)) (t : State S V) (r : x.holds t) (p : ℕ) : Type 0 where
  HasNumber : (i : ℕ) (b : Bool) → slot_of z i ≡ p → i < slice_index t.words z.limit → (x.gone t r b i → ⊥) → IsInUse x z s t r p
  IsToBeHad : slice_index s.words (let_go_word z p) ≡ 3 → IsInUse x z s t r p
  IsOwned : (id : ℕ) (o : Own V) → get_elem? s.views id ≡ some o → (has_number o.dirty p ≡ true) ⊎ (has_number o.free p ≡ true) → IsInUse x z s t r p

-- no slot is lost: each is in use so
abbrev pub NoSlotIsLost : {S V : Type 0} → Virtual S V → Sizes → Type 0
NoSlotIsLost {S} {V} x z = (s : State S (Own V)) (l : Lasting x z s) → z.reuses ≡ true → (p : ℕ) → p < z.slots → IsInUse x z s l.0 l.1 p

-- there are slots where there are numbers, and words behind them
pub record AreSizes (z : Sizes) : Type 0 where
  pub some_slot : 1 ≤ z.limit → 1 ≤ z.slots
  pub whole : z.reuses ≡ false → z.slots ≡ z.limit
  pub count : 1 ≤ z.others

-- what is asked of the virtual rule: link words fit; a number that isn't claimed yet has an empty word, and its ends are nowhere
pub record Laws {S V : Type 0} (x : Virtual S V) (z : Sizes) : Type 0 where
  pub fits : (t : State S V) (r : x.holds t) (i : ℕ) → i < z.limit → slice_index t.words i < 18446744073709551616
  pub empty : (t : State S V) (r : x.holds t) (i : ℕ) → slice_index t.words z.limit ≤ i → i < z.limit → slice_index t.words i ≡ 0
  pub unclaimed : (t : State S V) (r : x.holds t) (b : Bool) (i : ℕ) → slice_index t.words z.limit ≤ i → x.gone t r b i
