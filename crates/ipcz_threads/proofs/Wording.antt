-- The link words that a worker tells, one after the other.
use Rattle.std.proofs.Common.{◌≡◌, ◌∙◌, ◌++◌, ◌<◌, ◌≤◌, ◌+◌, ◌-◌, ap, sym, refl, subst, ℕ, zero, suc, List, [], ◌∷◌, append_assoc, append-nil, arith}
use Rattle.std.specs.Prelude.{MatchBool, false, Option, Some, None, length, slice_set, slice_index_or}
use lib.ListN.{get_elem?}
use mathlib.Core.Option.{some}
use Rattle.atomic_table.proofs.Lists.{at_last, at_longer}
use Rattle.ipcz_cell.specs.CellStates.{CellState}
use Rattle.ipcz_cell.specs.Mails.{HasSeen}
use Rattle.ipcz_cell.specs.Opens.{ReadsWord, ShowsWord}
use Rattle.ipcz_cell.specs.TableNames.{TableName}
use Rattle.ipcz_threads.specs.Shows.{FirstTells, ReadsWords, TellsWords}
use Rattle.ipcz_threads.specs.Workers.{WorkerState}

-- the claim count was once found at this number
abbrev HasCount : ℕ → ℕ → CellState → Type 0
HasCount size n c = (k : ℕ) × (get_elem? c.seen k ≡ some (size, n))

-- it is found
has_count : (size n : ℕ) (c d : CellState) → HasSeen size n c d → HasCount size n d
has_count size n c d is = (
  length c.seen,
  subst (λ l. get_elem? l (length c.seen) ≡ some (size, n)) (sym is.seen) (at_last c.seen (size, n) (length c.seen) refl),
)

-- two more looks
still_has_count : (size n : ℕ) (c d : CellState) (a b : ℕ × ℕ) → d.seen ≡ (c.seen ++ a ∷ []) ++ b ∷ [] → HasCount size n c → HasCount size n d
still_has_count size n c d a b is has = (
  has.0,
  subst (λ l. get_elem? l has.0 ≡ some (size, n)) (sym is)
      (at_longer (c.seen ++ a ∷ []) (b ∷ []) has.0 (size, n) (at_longer c.seen (a ∷ []) has.0 (size, n) has.1)),
)

module _ (t : TableName) (whole : t.reuses ≡ false) where
  -- what is read of a link word where no word comes back
  is_read : (i : ℕ) (c d : CellState) (answer : Option ℕ) → ShowsWord t i c answer d → ReadsWord t.size i c answer d
  is_read i c d answer shows = subst (λ b. MatchBool b ((answer ≡ None) × (d ≡ c)) (ReadsWord t.size i c answer d)) whole shows

  -- each claimed word is there
  pub all_there : (i left : ℕ) (c d : CellState) (words : List ℕ) → HasCount t.size (i + left) c → ReadsWords t i left c words d → length words ≡ left
  all_there i zero c d [] has reads = refl
  all_there i zero c d (word ∷ words) has reads = absurd reads
  all_there i (suc left) c d [] has reads =
      let read = is_read i c d None reads in
      let far : i + suc left ≤ read.0 = read.2 has.0 (i + suc left) has.1 in
      let near : read.0 ≤ i = read.3.0 in
      absurd (omega (arith, far, near))
  all_there i (suc left) c d (word ∷ words) has reads =
      let e = reads.0 in
      let read = is_read i c e (Some word) reads.1 in
      let one : i + suc left ≡ i + 1 + left = omega arith in
      ap suc (all_there (i + 1) left e d words
      (subst (λ n. HasCount t.size n e) one (still_has_count t.size (i + suc left) c e (t.size, read.0) (i, word) read.3.4 has)) reads.2)

-- whatever words complete those that are told so far, with so many looked at of the claimed ones, complete all that the worker tells
abbrev pub GoesOn : TableName → WorkerState → ℕ → ℕ → CellState → List ℕ → Type 0
GoesOn t w claimed i c words =
    (more : List ℕ) (v : WorkerState) → ReadsWords t i (claimed - i) c more v.cell → v.starved ≡ w.starved → v.left ≡ w.left → TellsWords t w (words ++ more) v

module _ (t : TableName) (w : WorkerState) (claimed : ℕ) where
  -- the claim count was looked at
  pub goes_on-start : (c : CellState) (words : List ℕ) → HasSeen t.size claimed w.cell c → words ≡ [] → GoesOn t w claimed 0 c words
  goes_on-start c words seen none more v reads starved left =
      let all : claimed - 0 ≡ claimed = omega arith in
      let told : ReadsWords t 0 claimed c more v.cell = subst (λ n. ReadsWords t 0 n c more v.cell) all reads in
      let each : claimed ≡ 0 + claimed = omega arith in
      let has = subst (λ n. HasCount t.size n c) each (has_count t.size claimed w.cell c seen) in
      rw none (claimed, c, seen, told, (λ whole. all_there t whole 0 claimed c v.cell more has told), starved, left)

  module _ (i : ℕ) (c : CellState) (words : List ℕ) (on : GoesOn t w claimed i c words) (less : i < claimed) where
    -- one more is to be looked at
    one_more : suc (claimed - (i + 1)) ≡ claimed - i
    one_more = omega (arith, less)

    -- a word more
    pub goes_on-word : (word : ℕ) (d : CellState) (told : List ℕ) → ShowsWord t i c (Some word) d → told ≡ words ++ word ∷ [] → GoesOn t w claimed (i + 1) d told
    goes_on-word word d told shows is more v reads starved left =
        subst (λ l. TellsWords t w l v) (sym (ap (λ l. l ++ more) is ∙ append_assoc words (word ∷ []) more))
        (on (word ∷ more) v (subst (λ n. ReadsWords t i n c (word ∷ more) v.cell) one_more (d, shows, reads)) starved left)

    -- a word that isn't there
    pub goes_on-none : (v : WorkerState) → ShowsWord t i c None v.cell → v.starved ≡ w.starved → v.left ≡ w.left → TellsWords t w words v
    goes_on-none v shows starved left = subst (λ l. TellsWords t w l v) (append-nil words)
        (on [] v (subst (λ n. ReadsWords t i n c [] v.cell) one_more shows) starved left)

  -- each word below the claim count was looked at
  pub goes_on-end : (i : ℕ) (v : WorkerState) (words : List ℕ) → GoesOn t w claimed i v.cell words → claimed ≤ i → v.starved ≡ w.starved → v.left ≡ w.left →
      TellsWords t w words v
  goes_on-end i v words on past starved left =
      let none : zero ≡ claimed - i = omega (arith, past) in
      subst (λ l. TellsWords t w l v) (append-nil words) (on [] v (subst (λ n. ReadsWords t i n v.cell [] v.cell) none refl) starved left)

-- what the worker at the head tells, the workers tell
pub first-tells : (t : TableName) (ws : List WorkerState) (w v : WorkerState) (words : List ℕ) → 0 < length ws → w ≡ slice_index_or ws 0 w →
    TellsWords t w words v → FirstTells t ws words (slice_set ws 0 v)
first-tells t [] w v words there head tells = absurd (omega (arith, there))
first-tells t (x ∷ ws) w v words there head tells = (v, refl, subst (λ y. TellsWords t y words v) head tells)
