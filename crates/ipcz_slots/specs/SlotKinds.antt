-- The kinds of atomic step on a lasting table, each out of a kind of step on its virtual table.
use Rattle.std.specs.Prelude.{◌≡◌, ◌≢◌, ◌≤◌, ◌<◌, ◌⊎◌, ◌+◌, ℕ, Bool, true, false, cond, List, [], ◌∷◌, ◌++◌, map, length, slice_index, slice_set, MatchBool, eqb, bit_or}
use prog.Atomic.{either}
use mathlib.Core.Option.{some}
use lib.ListN.{get_elem?}
use Rattle.atomic_table.specs.Table.{State, Me, Act, Valid, stepped, carried_after}
use Rattle.ipcz_slots.specs.declared.own.Own.{Own}
use Rattle.ipcz_slots.specs.Slots.{Virtual, Sizes, Folds, Lasting, Unused, slot_of, let_go_word, has_number, without_number}

-- what is known of a step of the virtual table, beside that the rule is kept
abbrev pub Known : {S V : Type 0} → Virtual S V → Type 1
Known {S} {V} x = (t : State S V) → x.holds t → (t' : State S V) → x.holds t' → Type 0

-- a step of a seat on a word of the virtual table
abbrev pub Steps : {S V : Type 0} (x : Virtual S V) → Known x → (slots id : ℕ) → Me S V → ℕ → (ℕ → ℕ) → (ℕ → Me S V → Type 0) → Type 0
Steps {S} {V} x g slots id me i f told =
    (t : State S V) (r : x.holds t) → length t.homes ≡ slots → get_elem? t.views id ≡ some me.0 → slice_index t.words i < 18446744073709551616 →
    (v : V) × (a : Act S) × Valid t.homes me.1 a ×
    ((r' : x.holds (stepped t i (f (slice_index t.words i)) id me.1 v a)) × g t r (stepped t i (f (slice_index t.words i)) id me.1 v a) r') ×
    told (slice_index t.words i) (v, carried_after me.1 a)

-- what a step is known to keep: an end that is nowhere, of a number that was claimed
abbrev pub Keeps : {S V : Type 0} (x : Virtual S V) → Sizes → Known x → Type 0
Keeps {S} {V} x z g =
    (t : State S V) (r : x.holds t) (t' : State S V) (r' : x.holds t') → g t r t' r' → (b : Bool) (i : ℕ) → i < slice_index t.words z.limit →
    x.gone t r b i → x.gone t' r' b i

-- and where slots are used again, an end that is somewhere, as the seat knows: none becomes nowhere
abbrev pub LosesNone : {S V : Type 0} (x : Virtual S V) → Sizes → (id : ℕ) → V → Known x → Type 0
LosesNone {S} {V} x z id v g =
    z.reuses ≡ true → (t : State S V) (r : x.holds t) (t' : State S V) (r' : x.holds t') → get_elem? t.views id ≡ some v → g t r t' r' → (b : Bool) (i : ℕ) →
    i < slice_index t.words z.limit → x.gone t' r' b i → x.gone t r b i

-- or none but those that are told
abbrev pub LosesBut : {S V : Type 0} (x : Virtual S V) → Sizes → (id : ℕ) → V → (Bool → ℕ → Type 0) → Known x → Type 0
LosesBut {S} {V} x z id v but g =
    z.reuses ≡ true → (t : State S V) (r : x.holds t) (t' : State S V) (r' : x.holds t') → get_elem? t.views id ≡ some v → g t r t' r' → (b : Bool) (i : ℕ) →
    i < slice_index t.words z.limit → (but b i → ⊥) → x.gone t' r' b i → x.gone t r b i

-- what a seat has beside its view stays
abbrev pub same_own : {S V : Type 0} → (o : Own V) → (ℕ → Me S V → Type 0) → ℕ → Me S (Own V) → Type 0
same_own o told n m' = told n (m'.0.view, m'.1) × (m'.0.dirty ≡ o.dirty) × (m'.0.free ≡ o.free) × (m'.0.looked ≡ o.looked)

-- a number of which an end isn't nowhere, as the seat knows
abbrev pub Lives : {S V : Type 0} (x : Virtual S V) → Sizes → (id : ℕ) → V → ℕ → Type 0
Lives {S} {V} x z id v i =
    (t : State S V) (r : x.holds t) → get_elem? t.views id ≡ some v →
    (i < slice_index t.words z.limit) × (i < z.limit) × (Unused x t r i → ⊥)

-- a step of a seat on a word of a lasting table: it keeps the rule, and this is known of the virtual table's step
abbrev pub LastingSteps : {S V : Type 0} (x : Virtual S V) (z : Sizes) → Known x → (slots id : ℕ) → Me S (Own V) → ℕ → (ℕ → ℕ) → (ℕ → Me S (Own V) → Type 0) → Type 0
LastingSteps {S} {V} x z g slots id me i f told =
    (s : State S (Own V)) (l : Lasting x z s) → length s.homes ≡ slots → get_elem? s.views id ≡ some me.0 → slice_index s.words i < 18446744073709551616 →
    (w : Own V) × (a : Act S) × Valid s.homes me.1 a ×
    ((l' : Lasting x z (stepped s i (f (slice_index s.words i)) id me.1 w a)) × g l.0 l.1 l'.0 l'.1) ×
    told (slice_index s.words i) (w, carried_after me.1 a)

-- a step on a word behind the link words which leaves the claim count: that of the virtual table
abbrev pub OtherSteps : {S V : Type 0} → Virtual S V → Sizes → Type 1
OtherSteps {S} {V} x z =
    (g : Known x) (slots id : ℕ) (o : Own V) (c : List (ℕ × S)) (j : ℕ) (f : ℕ → ℕ) (told : ℕ → Me S V → Type 0) → Keeps x z g → LosesNone x z id o.view g →
    j < z.others →
    ((n : ℕ) → j ≡ 0 → f n ≡ n) → Steps x g slots id (o.view, c) (z.limit + j) f told →
    LastingSteps x z g slots id (o, c) (z.slots + j) f (same_own o told)

-- a number that has a slot: it lives, as the seat knows, or slots aren't used again
abbrev pub HasSlot : {S V : Type 0} (x : Virtual S V) → Sizes → (id : ℕ) → V → ℕ → Type 0
HasSlot x z id v i = Lives x z id v i ⊎ ((z.reuses ≡ false) × (i < z.limit))

-- a step on the word of a number that has a slot: that of the virtual table on its word, here on its slot
abbrev pub LinkSteps : {S V : Type 0} → Virtual S V → Sizes → Type 1
LinkSteps {S} {V} x z =
    (g : Known x) (slots id : ℕ) (o : Own V) (c : List (ℕ × S)) (i : ℕ) (f : ℕ → ℕ) (told : ℕ → Me S V → Type 0) → Keeps x z g → LosesNone x z id o.view g →
    HasSlot x z id o.view i →
    Steps x g slots id (o.view, c) i f told → LastingSteps x z g slots id (o, c) (slot_of z i) f (same_own o told)

-- the bit of a side in a let-go word
abbrev pub side_bit : Bool → ℕ
side_bit false = 1
side_bit true = 2

-- an act by which the end of a number at a side is let go, and no other: a touch of the virtual table, here the side's bit in the let-go word
abbrev pub LetsGo : {S V : Type 0} → Virtual S V → Sizes → Type 1
LetsGo {S} {V} x z =
    (g : Known x) (slots id : ℕ) (o : Own V) (c : List (ℕ × S)) (i : ℕ) (b : Bool) (told : Me S V → Type 0) → Keeps x z g →
    LosesBut x z id o.view (λ d k. (d ≡ b) × (k ≡ i)) g → Lives x z id o.view i →
    ((t : State S V) (r : x.holds t) (t' : State S V) (r' : x.holds t') → get_elem? t.views id ≡ some o.view → g t r t' r' → x.gone t' r' b i) →
    Steps x g slots id (o.view, c) i (λ n. n) (λ n m'. told m') →
    LastingSteps x z g slots id (o, c) (let_go_word z (slot_of z i)) (λ n. bit_or n (side_bit b)) (same_own o (λ n m'. told m'))

-- a slot whose number both sides have let go is taken, to be emptied: whoever finds 3 has it; else the seat has looked at a slot that wasn't to be
-- had
abbrev pub Reclaims : {S V : Type 0} → Virtual S V → Sizes → Type 1
Reclaims {S} {V} x z =
    (g : Known x) (slots id p : ℕ) (o : Own V) (c : List (ℕ × S)) → ((t : State S V) (r : x.holds t) → g t r t r) → z.reuses ≡ true → p < z.slots →
    LastingSteps x z g slots id (o, c) (let_go_word z p) (λ n. either (eqb n 3) 0 n)
    (λ n m'. MatchBool (eqb n 3) (m' ≡ (record { view = o.view; dirty = p ∷ o.dirty; free = o.free; looked = o.looked }, c))
    (m' ≡ (record { view = o.view; dirty = o.dirty; free = o.free; looked = p ∷ o.looked }, c)))

-- the word of such a slot is emptied, and the slot is free
abbrev pub Empties : {S V : Type 0} → Virtual S V → Sizes → Type 1
Empties {S} {V} x z =
    (g : Known x) (slots id p : ℕ) (o : Own V) (c : List (ℕ × S)) → ((t : State S V) (r : x.holds t) → g t r t r) → has_number o.dirty p ≡ true →
    LastingSteps x z g slots id (o, c) p (λ n. 0)
    (λ n m'. m' ≡ (record { view = o.view; dirty = without_number o.dirty p; free = p ∷ o.free; looked = o.looked }, c))

-- a slot that a seat has is given back, to be taken by whoever wants it
abbrev pub Returns : {S V : Type 0} → Virtual S V → Sizes → Type 1
Returns {S} {V} x z =
    (g : Known x) (slots id p : ℕ) (o : Own V) (c : List (ℕ × S)) → ((t : State S V) (r : x.holds t) → g t r t r) →
    (has_number o.dirty p ≡ true) ⊎ (has_number o.free p ≡ true) →
    LastingSteps x z g slots id (o, c) (let_go_word z p) (λ n. 3)
    (λ n m'. m' ≡ (record { view = o.view; dirty = without_number o.dirty p; free = without_number o.free p; looked = o.looked }, c))

-- what a claim of a number beyond a count leaves gone: the numbers between, which nobody has
abbrev pub Skips : {S V : Type 0} (x : Virtual S V) → Sizes → Known x → ℕ → Type 0
Skips {S} {V} x z g n =
    (t : State S V) (r : x.holds t) (t' : State S V) (r' : x.holds t') → g t r t' r' → (b : Bool) (i : ℕ) → slice_index t.words z.limit ≤ i → i < n →
    x.gone t' r' b i

-- both its ends are somewhere then
abbrev pub Takes : {S V : Type 0} (x : Virtual S V) → (id : ℕ) → V → Known x → ℕ → Type 0
Takes {S} {V} x id v g n =
    (t : State S V) (r : x.holds t) (t' : State S V) (r' : x.holds t') → get_elem? t.views id ≡ some v → g t r t' r' → (b : Bool) → x.gone t' r' b n → ⊥

-- the view after a claim of a number
abbrev pub claimed_own : {V : Type 0} → Sizes → ℕ → Own V → V → Own V
claimed_own z n o v = record { view = v; dirty = o.dirty; free = without_number o.free (slot_of z n); looked = o.looked }

-- a claim of a number whose slot is free: the count is exchanged for the next number, if it is what was found before; else the step was a load
abbrev pub Claims : {S V : Type 0} → Virtual S V → Sizes → Type 1
Claims {S} {V} x z =
    (g h : Known x) (slots id count n : ℕ) (o : Own V) (c : List (ℕ × S)) (hit : Me S V → Type 0) (miss : ℕ → Me S V → Type 0) → Keeps x z g → LosesNone x z id o.view g → Skips x z g n →
    Takes x id o.view g n → Keeps x z h → LosesNone x z id o.view h → count ≤ n → n < z.limit → has_number o.free (slot_of z n) ≡ true →
    Steps x (λ t r t' r'. MatchBool (eqb (slice_index t.words z.limit) count) (g t r t' r') (h t r t' r')) slots id (o.view, c) (z.limit + 0)
    (λ m. either (eqb m count) (n + 1) m) (λ m m'. MatchBool (eqb m count) (hit m') (miss m m')) →
    LastingSteps x z (λ t r t' r'. MatchBool (eqb (slice_index t.words z.limit) count) (g t r t' r') (h t r t' r')) slots id (o, c) (z.slots + 0)
    (λ m. either (eqb m count) (n + 1) m)
    (λ m m'. (m'.0.dirty ≡ o.dirty) × (m'.0.looked ≡ o.looked) × MatchBool (eqb m count) (hit (m'.0.view, m'.1) × (m'.0.free ≡ without_number o.free (slot_of z n)))
    (miss m (m'.0.view, m'.1) × (m'.0.free ≡ o.free)))

-- the same where slots aren't used again: numbers are claimed in their order, and each has its slot
abbrev pub ClaimsInOrder : {S V : Type 0} → Virtual S V → Sizes → Type 1
ClaimsInOrder {S} {V} x z =
    (g : Known x) (slots id count : ℕ) (o : Own V) (c : List (ℕ × S)) (told : ℕ → Me S V → Type 0) → Keeps x z g → z.reuses ≡ false → count < z.limit →
    Steps x g slots id (o.view, c) (z.limit + 0) (λ m. either (eqb m count) (count + 1) m) told →
    LastingSteps x z g slots id (o, c) (z.slots + 0) (λ m. either (eqb m count) (count + 1) m) (same_own o told)

-- a number whose ends both are somewhere, as the seat knows
abbrev pub LivesWhole : {S V : Type 0} (x : Virtual S V) → Sizes → (id : ℕ) → V → ℕ → Type 0
LivesWhole {S} {V} x z id v j =
    (t : State S V) (r : x.holds t) → get_elem? t.views id ≡ some v → (j < slice_index t.words z.limit) × ((b : Bool) → x.gone t r b j → ⊥)

-- the same of an act by which another number, of which the seat's node alone had both ends, is used no more: the seat takes its slot, to be
-- emptied
abbrev pub LetsGoWhole : {S V : Type 0} → Virtual S V → Sizes → Type 1
LetsGoWhole {S} {V} x z =
    (g : Known x) (slots id : ℕ) (o : Own V) (c : List (ℕ × S)) (i j : ℕ) (b : Bool) (told : Me S V → Type 0) → Keeps x z g → LosesBut x z id o.view (λ d k. ((d ≡ b) × (k ≡ i)) ⊎ (k ≡ j)) g →
    z.reuses ≡ true → Lives x z id o.view i → LivesWhole x z id o.view j →
    ((t : State S V) (r : x.holds t) → get_elem? t.views id ≡ some o.view → j ≢ i) →
    ((t : State S V) (r : x.holds t) (t' : State S V) (r' : x.holds t') → get_elem? t.views id ≡ some o.view → g t r t' r' →
    x.gone t' r' b i × Unused x t' r' j) →
    Steps x g slots id (o.view, c) i (λ n. n) (λ n m'. told m') →
    LastingSteps x z g slots id (o, c) (let_go_word z (slot_of z i)) (λ n. bit_or n (side_bit b))
    (λ n m'. told (m'.0.view, m'.1) × (m'.0.dirty ≡ slot_of z j ∷ o.dirty) × (m'.0.free ≡ o.free) × (m'.0.looked ≡ o.looked))

-- the table at the start: each slot shows its own number; if slots are used again, both ends of those that are claimed are somewhere, and both
-- sides of the others count as having let go
pub record Begins {S V : Type 0} (x : Virtual S V) (z : Sizes) (s : State S (Own V)) (t : State S V) (r : x.holds t) : Type 0 where
  pub wide : length s.words ≡ z.slots + z.others + z.slots
  pub tall : length t.words ≡ z.limit + z.others
  pub homes : s.homes ≡ t.homes
  pub views : map (λ (o : Own V). o.view) s.views ≡ t.views
  pub rest : (j : ℕ) → j < z.others → slice_index s.words (z.slots + j) ≡ slice_index t.words (z.limit + j)
  pub numbers : z.slots ≤ z.limit
  pub few : slice_index t.words z.limit ≤ z.slots
  pub links : (p : ℕ) → p < z.slots → slice_index s.words p ≡ slice_index t.words p
  pub claimed : (p : ℕ) → p < slice_index t.words z.limit → slice_index s.words (let_go_word z p) ≡ 0
  pub unclaimed : (p : ℕ) → slice_index t.words z.limit ≤ p → p < z.slots → slice_index s.words (let_go_word z p) ≡ cond z.reuses 3 0
  pub held : z.reuses ≡ true → (b : Bool) (p : ℕ) → p < slice_index t.words z.limit → x.gone t r b p → ⊥
  pub none : (id : ℕ) (o : Own V) → get_elem? s.views id ≡ some o → (o.dirty ≡ []) × (o.free ≡ [])

abbrev pub Starts : {S V : Type 0} → Virtual S V → Sizes → Type 0
Starts {S} {V} x z = (s : State S (Own V)) (t : State S V) (r : x.holds t) → Begins x z s t r → Folds x z s t r

-- the same ends are nowhere
abbrev pub SameEnds : {S V : Type 0} (x : Virtual S V) (t : State S V) → x.holds t → (t' : State S V) → x.holds t' → Type 0
SameEnds x t r t' r' = ((b : Bool) (i : ℕ) → x.gone t r b i → x.gone t' r' b i) × ((b : Bool) (i : ℕ) → x.gone t' r' b i → x.gone t r b i)

-- a seat's view is cut in two, and a new seat has the second: what is known of that where there are no slots is known of it here
abbrev pub SplitsKnown : {S V : Type 0} (x : Virtual S V) → Sizes → Known x → ℕ → Own V → Own V → Own V → Type 0
SplitsKnown {S} {V} x z g id o left right =
    (s : State S (Own V)) (l : Lasting x z s) → get_elem? s.views id ≡ some o →
    (l' : Lasting x z (record { words = s.words; homes = s.homes; views = slice_set s.views id left ++ right ∷ [] })) × g l.0 l.1 l'.0 l'.1

-- a seat takes in another's view, and the other is spent
abbrev pub JoinsKnown : {S V : Type 0} (x : Virtual S V) → Sizes → Known x → ℕ → Own V → ℕ → Own V → Own V → Own V → Type 0
JoinsKnown {S} {V} x z g id o other p both spent =
    (s : State S (Own V)) (l : Lasting x z s) → get_elem? s.views id ≡ some o → ¬ (other ≡ id) → get_elem? (slice_set s.views id both) other ≡ some p →
    (l' : Lasting x z (record { words = s.words; homes = s.homes; views = slice_set (slice_set s.views id both) other spent })) × g l.0 l.1 l'.0 l'.1

-- a seat is dealt a part of a view, and its slots stay where they are
abbrev pub Deals : {S V : Type 0} → Virtual S V → Sizes → Type 1
Deals {S} {V} x z =
    (g : Known x) (id : ℕ) (o : Own V) (left right : V) →
    ((t : State S V) (r : x.holds t) → get_elem? t.views id ≡ some o.view →
    (r' : x.holds (record { words = t.words; homes = t.homes; views = slice_set t.views id left ++ right ∷ [] })) ×
    SameEnds x t r (record { words = t.words; homes = t.homes; views = slice_set t.views id left ++ right ∷ [] }) r' ×
    g t r (record { words = t.words; homes = t.homes; views = slice_set t.views id left ++ right ∷ [] }) r') →
    SplitsKnown x z g id o (record { view = left; dirty = o.dirty; free = o.free; looked = o.looked }) (record { view = right; dirty = []; free = []; looked = [] })

-- a seat comes, and has no slot
abbrev pub Comes : {S V : Type 0} → Virtual S V → Sizes → Type 1
Comes {S} {V} x z =
    (g : Known x) (new : V) (s : State S (Own V)) (l : Lasting x z s) →
    ((r' : x.holds (record { words = l.0.words; homes = l.0.homes; views = l.0.views ++ new ∷ [] })) ×
    SameEnds x l.0 l.1 (record { words = l.0.words; homes = l.0.homes; views = l.0.views ++ new ∷ [] }) r' ×
    g l.0 l.1 (record { words = l.0.words; homes = l.0.homes; views = l.0.views ++ new ∷ [] }) r') →
    (l' : Lasting x z (record { words = s.words; homes = s.homes; views = s.views ++ (record { view = new; dirty = []; free = []; looked = [] }) ∷ [] })) ×
    g l.0 l.1 l'.0 l'.1

-- a seat takes in the view of another, and its slots
abbrev pub JoinsSeats : {S V : Type 0} → Virtual S V → Sizes → Type 1
JoinsSeats {S} {V} x z =
    (g : Known x) (id other : ℕ) (o p : Own V) (both spent : V) →
    ((t : State S V) (r : x.holds t) → get_elem? t.views id ≡ some o.view → ¬ (other ≡ id) → get_elem? (slice_set t.views id both) other ≡ some p.view →
    (r' : x.holds (record { words = t.words; homes = t.homes; views = slice_set (slice_set t.views id both) other spent })) ×
    SameEnds x t r (record { words = t.words; homes = t.homes; views = slice_set (slice_set t.views id both) other spent }) r' ×
    g t r (record { words = t.words; homes = t.homes; views = slice_set (slice_set t.views id both) other spent }) r') →
    JoinsKnown x z g id o other p (record { view = both; dirty = o.dirty ++ p.dirty; free = o.free ++ p.free; looked = o.looked })
    (record { view = spent; dirty = []; free = []; looked = [] })
