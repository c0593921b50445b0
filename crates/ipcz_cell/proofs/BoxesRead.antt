-- Words, slots and hands that are read one after the other.
use Rattle.std.specs.Prelude.{◌≡◌, ◌≢◌, ◌⊎◌, ◌≤◌, ◌<◌, ◌+◌, ◌*◌, ◌/◌, ◌%◌, ℕ, zero, suc, Bool, true, false, nat_eq, List, [], ◌∷◌, ◌++◌, length, slice_index, Option, Some, None, refl}
use Rattle.std.proofs.Common.{arith, ap, ◌∙◌, sym, inl, inr, ⊎_elim, set, get_or}
use Rattle.std.proofs.lemmas.Bool.Decides.{nat_tests}
use Rattle.std.proofs.lemmas.Nat.{div_below, mod_below, div-add-mod'}
use mathlib.Core.Logic.{dite}
use mathlib.Core.Option.{some, some-injective, some-ne-none}
use native.Mathlib.Decide.{ℕ_discrete}
use lib.ListN.{get_elem?}
use Rattle.atomic_table.proofs.Lists.{set_here, set_else}
use Rattle.ipcz_base.specs.Indexed.{place_at}
use Rattle.ipcz_base.specs.declared.message.Message.{Message}
use Rattle.ipcz_node.specs.Acts.{first_of}
use Rattle.ipcz_world.specs.declared.mail.Mail.{Mail}
use Rattle.ipcz_world.specs.declared.mail.Mail.TheVariants as mails
use Rattle.ipcz_rule.specs.Batches.{Batch}
use Rattle.ipcz_cell.specs.Ending.{Reads, box_of, hand_left, full_of, hand_of}

-- a number of a list
pub read_at : (l : List ℕ) (i n : ℕ) → get_elem? l i ≡ some n → slice_index l i ≡ n
read_at [] i n e = absurd (some-ne-none n (sym e))
read_at (x ∷ l) zero n e = some-injective x n e
read_at (x ∷ l) (suc i) n e = read_at l i n e

-- a list with a number more, read
more_read : (l : List ℕ) (x j : ℕ) → j < length l → slice_index (l ++ x ∷ []) j ≡ slice_index l j
more_read [] x j b = absurd (omega (arith, b))
more_read (y ∷ l) x zero b = refl
more_read (y ∷ l) x (suc j) b = more_read l x j (omega (arith, b))

last_read : (l : List ℕ) (x j : ℕ) → length l ≡ j → slice_index (l ++ x ∷ []) j ≡ x
last_read [] x zero e = refl
last_read [] x (suc j) e = absurd (omega (arith, e))
last_read (y ∷ l) x zero e = absurd (omega (arith, e))
last_read (y ∷ l) x (suc j) e = last_read l x j (omega (arith, e))

pub words_more : (bits new ws : List ℕ) (i x : ℕ) → length bits ≡ i → ((j : ℕ) → j < i → slice_index bits j ≡ slice_index ws j) → get_elem? ws i ≡ some x →
    new ≡ bits ++ x ∷ [] → (j : ℕ) → j < i + 1 → slice_index new j ≡ slice_index ws j
words_more bits new ws i x many read here more j below = dite (ℕ_discrete j i)
    (λ same. ap (λ (l : List ℕ). slice_index l j) more ∙ (last_read bits x j (omega (arith, many, same)) ∙ (sym (read_at ws i x here) ∙ ap (slice_index ws) (sym same))))
    (λ other. ap (λ (l : List ℕ). slice_index l j) more ∙ (more_read bits x j (omega (arith, many, other, below)) ∙ read j (omega (arith, other, below))))

-- a list of mailboxes with one more, read
more_place : (l : List Mail) (x : Mail) (j : ℕ) → j < length l → place_at mails.Empty (l ++ x ∷ []) j ≡ place_at mails.Empty l j
unfolding place_at
more_place [] x j b = absurd (omega (arith, b))
more_place (y ∷ l) x zero b = refl
more_place (y ∷ l) x (suc j) b = more_place l x j (omega (arith, b))

last_place : (l : List Mail) (x : Mail) (j : ℕ) → length l ≡ j → place_at mails.Empty (l ++ x ∷ []) j ≡ x
unfolding place_at
last_place [] x zero e = refl
last_place [] x (suc j) e = absurd (omega (arith, e))
last_place (y ∷ l) x zero e = absurd (omega (arith, e))
last_place (y ∷ l) x (suc j) e = last_place l x j (omega (arith, e))

-- the mailboxes below k are read, and the hands that these don't have are as they were
pub record AreRead (n first : ℕ) (words : List ℕ) (slots : List Batch) (old hands : List (Option Message)) (k : ℕ) (boxes : List Mail) : Type 0 where
  pub boxes_are : (mail : ℕ → Mail) → Reads n first words slots old mail → (j : ℕ) → j < k → place_at mails.Empty boxes j ≡ mail j
  pub hands_are : (to : ℕ) → to < n → (get_elem? hands to ≡ get_elem? old to) ⊎
      ((from : ℕ) × (from < n) × (from * n + to < k) × (slice_index words (first + (from * n + to)) ≡ 2))

-- a number below a square, by row and column
some_rows : (n k : ℕ) → k < n * n → 0 < n
some_rows zero k l = absurd (omega (arith, l))
some_rows (suc n) k l = omega arith

row_below : (n k : ℕ) → k < n * n → k / n < n
row_below n k l = div_below k n n (some_rows n k l) l

pub column_below : (n k : ℕ) → k < n * n → k % n < n
column_below n k l = mod_below k n (some_rows n k l)

box_full : (word : ℕ) (slot : Batch) (hand : Option Message) (x : Message) → word ≡ 1 → slot ≡ x ∷ [] → box_of word slot hand ≡ mails.Full x
box_full word slot hand x e f = ap (λ (n : ℕ). box_of n slot hand) e ∙ ap full_of f

-- what is taken first out of a slot
pub box_first : (word : ℕ) (slot : Batch) (hand r : Option Message) (x : Message) → word ≡ 1 → r ≡ first_of slot → r ≡ Some x → mails.Full x ≡ box_of word slot hand
unfolding first_of
box_first word [] hand r x e f g = cc
box_first word (y ∷ ys) hand r x e f g = let same : y ≡ x = cc in sym (ap (λ (n : ℕ). box_of n (y ∷ ys) hand) e ∙ ap mails.Full same)

pub box_none : (word : ℕ) (slot : Batch) (hand r : Option Message) → word ≡ 1 → r ≡ first_of slot → r ≡ None → mails.Empty ≡ box_of word slot hand
unfolding first_of
box_none word [] hand r e f g = sym (ap (λ (n : ℕ). box_of n [] hand) e)
box_none word (y ∷ ys) hand r e f g = cc

box_hand : (word : ℕ) (slot : Batch) (hand : Option Message) (x : Message) → word ≡ 2 → hand ≡ Some x → box_of word slot hand ≡ mails.Hand x
box_hand word slot hand x e f = ap (λ (n : ℕ). box_of n slot hand) e ∙ ap hand_of f

box_empty : (word : ℕ) (slot : Batch) (hand : Option Message) → word ≢ 1 → word ≢ 2 → box_of word slot hand ≡ mails.Empty
box_empty word slot hand a b =
    let not_full : nat_eq word 1 ≡ false = grind (arith, nat_tests, a) in
    let not_hand : nat_eq word 2 ≡ false = grind (arith, nat_tests, b) in
    rw (not_full, not_hand) refl

hand_stays : (word : ℕ) (hand : Option Message) → word ≢ 2 → hand_left word hand ≡ hand
hand_stays word hand b = let not_hand : nat_eq word 2 ≡ false = grind (arith, nat_tests, b) in rw not_hand refl

module _ (n first : ℕ) (words : List ℕ) (slots : List Batch) (old hands after : List (Option Message)) (k : ℕ) (boxes new : List Mail) (word : ℕ) (slot : Batch) (hand : Option Message)
    (l : k < n * n) (was : AreRead n first words slots old hands k boxes) (many : length boxes ≡ k) (at_word : get_elem? words (first + k) ≡ some word) (at_slot : get_elem? slots k ≡ some slot)
    (at_hand : get_elem? hands (k % n) ≡ some hand) (inside : k % n < length hands) (left : after ≡ set hands (k % n) (hand_left word hand)) (more : new ≡ boxes ++ box_of word slot hand ∷ []) where
  row : ℕ
  row = k / n

  place : (k / n) * n + k % n ≡ k
  place = div-add-mod' k n

  word_is : slice_index words (first + k) ≡ word
  word_is = read_at words (first + k) word at_word

  word_there : slice_index words (first + ((k / n) * n + k % n)) ≡ word
  word_there = ap (λ (i : ℕ). slice_index words (first + i)) place ∙ word_is

  -- the mailbox is the one that is wanted
  box_is : (mail : ℕ → Mail) → Reads n first words slots old mail → box_of word slot hand ≡ mail k
  box_is mail rs = dite (ℕ_discrete word 1)
      (λ one. let t = rs.full k l (word_is ∙ one) in
      box_full word slot hand t.0 one (some-injective slot (t.0 ∷ []) (sym at_slot ∙ t.1)) ∙ sym t.2)
      (λ not_one. dite (ℕ_discrete word 2)
      (λ two. let t = rs.hand (k / n) (k % n) (row_below n k l) (column_below n k l) (word_there ∙ two) in
      let mail_is : mail k ≡ mails.Hand t.0 = ap mail (sym place) ∙ t.2 in
      ⊎_elim
      (λ (same : get_elem? hands (k % n) ≡ get_elem? old (k % n)).
      box_hand word slot hand t.0 two (some-injective hand (Some t.0) (sym at_hand ∙ (same ∙ t.1))) ∙ sym mail_is)
      (λ (taken : (f : ℕ) × (f < n) × (f * n + k % n < k) × (slice_index words (first + (f * n + k % n)) ≡ 2)).
      let same = rs.once (k / n) taken.0 (k % n) (row_below n k l) taken.1 (column_below n k l) (word_there ∙ two) taken.3 in
      let there : taken.0 * n + k % n ≡ k = ap (λ (i : ℕ). i * n + k % n) (sym same) ∙ place in
      absurd (omega (arith, there, taken.2)))
      (was.hands_are (k % n) (column_below n k l)))
      (λ not_two. box_empty word slot hand not_one not_two ∙ sym (rs.empty k l (λ e. not_one (sym word_is ∙ e)) (λ e. not_two (sym word_is ∙ e)))))

  -- what was taken before is taken
  weaken : (to : ℕ) → (get_elem? hands to ≡ get_elem? old to) ⊎ ((f : ℕ) × (f < n) × (f * n + to < k) × (slice_index words (first + (f * n + to)) ≡ 2)) →
      get_elem? after to ≡ get_elem? hands to →
      (get_elem? after to ≡ get_elem? old to) ⊎ ((f : ℕ) × (f < n) × (f * n + to < k + 1) × (slice_index words (first + (f * n + to)) ≡ 2))
  weaken to h same = ⊎_elim (λ (e : get_elem? hands to ≡ get_elem? old to). inl (same ∙ e))
      (λ (t : (f : ℕ) × (f < n) × (f * n + to < k) × (slice_index words (first + (f * n + to)) ≡ 2)). inr (t.0, t.1, omega (arith, t.2), t.3)) h

  after_at : (to : ℕ) → to ≢ k % n → get_elem? after to ≡ get_elem? hands to
  after_at to ne = ap (λ (h : List (Option Message)). get_elem? h to) left ∙ set_else hands (k % n) to (hand_left word hand) ne

  pub boxes_more : AreRead n first words slots old after (k + 1) new
  boxes_more = record {
    boxes_are = λ mail rs j below. dite (ℕ_discrete j k)
        (λ same. ap (λ (b : List Mail). place_at mails.Empty b j) more ∙ (last_place boxes (box_of word slot hand) j (omega (arith, many, same)) ∙ (box_is mail rs ∙ ap mail (sym same))))
        (λ other. ap (λ (b : List Mail). place_at mails.Empty b j) more ∙ (more_place boxes (box_of word slot hand) j (omega (arith, many, other, below)) ∙ was.boxes_are mail rs j (omega (arith, other, below))));
    hands_are = λ to lt. dite (ℕ_discrete to (k % n))
        (λ same. dite (ℕ_discrete word 2)
        (λ two. let there : (k / n) * n + to ≡ k = ap (λ (i : ℕ). (k / n) * n + i) same ∙ place in
        inr (k / n, row_below n k l, omega (arith, there), ap (λ (i : ℕ). slice_index words (first + i)) there ∙ (word_is ∙ two)))
        (λ not_two. weaken to (was.hands_are to lt)
        (ap (λ (h : List (Option Message)). get_elem? h to) left ∙ (ap (get_elem? (set hands (k % n) (hand_left word hand))) same
        ∙ (set_here hands (k % n) (hand_left word hand) inside ∙ (ap some (hand_stays word hand not_two) ∙ (sym at_hand ∙ ap (get_elem? hands) (sym same))))))))
        (λ other. weaken to (was.hands_are to lt) (after_at to other));
  }

-- places of slots, of which one is emptied
pub empties : (fs : List Bool) (k : ℕ) → get_or (set fs k false) k false ≡ false
empties [] k = refl
empties (f ∷ fs) zero = refl
empties (f ∷ fs) (suc k) = empties fs k

pub others_stay : (fs : List Bool) (k i : ℕ) → i ≢ k → get_or (set fs k false) i false ≡ get_or fs i false
others_stay [] k i ne = refl
others_stay (f ∷ fs) zero zero ne = absurd (ne refl)
others_stay (f ∷ fs) zero (suc i) ne = refl
others_stay (f ∷ fs) (suc k) zero ne = refl
others_stay (f ∷ fs) (suc k) (suc i) ne = others_stay fs k i (λ e. ne (ap suc e))

pub taken_more : (fs new : List Bool) (k : ℕ) → new ≡ set fs k false → ((i : ℕ) → i < k → get_or fs i false ≡ false) → (i : ℕ) → i < k + 1 → get_or new i false ≡ false
taken_more fs new k is were i below = ap (λ (l : List Bool). get_or l i false) is ∙ dite (ℕ_discrete i k)
    (λ same. ap (λ (j : ℕ). get_or (set fs k false) j false) same ∙ empties fs k)
    (λ other. others_stay fs k i other ∙ were i (omega (arith, below, other)))

pub there_more : (fs new : List Bool) (k n : ℕ) → new ≡ set fs k false → ((i : ℕ) → k ≤ i → i < n → get_or fs i false ≡ true) → (i : ℕ) → k + 1 ≤ i → i < n → get_or new i false ≡ true
there_more fs new k n is were i above below = ap (λ (l : List Bool). get_or l i false) is
    ∙ (others_stay fs k i (λ e. omega (arith, above, e)) ∙ were i (omega (arith, above)) below)
