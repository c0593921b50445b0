-- The link words as numbers, laid out as they are claimed, read and written, and as the sets that they stand for.
use Rattle.std.specs.Prelude.{◌≡◌, ◌<◌, ◌≤◌, ◌+◌, ◌-◌, ℕ, zero, suc, Some, true, nat_lt, List, [], ◌∷◌, ◌++◌, length, map, take, replicate}
use Rattle.std.specs.List.{All}
use Rattle.std.proofs.Common.{arith, ap, sym, subst, refl, get_or, set, append_assoc, ◌∙◌}
use Rattle.std.proofs.lemmas.Bool.Decides.{nat_tests}
use Rattle.std.proofs.lemmas.List.{get_or-map, map-set, map-append, take-map, length-map, length-append, length-set, length-take, length-replicate}
use Rattle.std.proofs.lemmas.List.Elements.{All-get_or}
use Rattle.ipcz_world.proofs.Vocabulary.{place_at, put_place, Word, empty_word, open_word, WordTable}
use Rattle.ipcz_word.specs.Layout.{word_of_bits, source_of_bits, bits_of}
use Rattle.ipcz_word.specs.SideSets.{both}
use Rattle.ipcz_word.specs.SideSets as sides
use Rattle.ipcz_world.specs.Coding.{IsLinkNumber, AreUnclaimedEmpty, laid_table, claimed_word, source_at, put_word, with_more, claim_one}
use Rattle.ipcz_world.proofs.code.Slots.{get-place, set-place, place-front, put-front}
use Rattle.ipcz_world.proofs.code.WordNumbers.{spelled}

-- the table has so many words
pub laid_size : (bits : List ℕ) (size : ℕ) → length bits ≤ size → length (laid_table bits size).words ≡ size
laid_size bits size l = omega (
  arith,
  l,
  length-append (map word_of_bits bits) (replicate (size - length bits) empty_word),
  length-map bits word_of_bits,
  length-replicate {A = Word} (size - length bits) empty_word,
)

-- a claimed word is laid out
pub laid : (bits : List ℕ) (size i : ℕ) (t : WordTable) → laid_table bits size ≡ t → i < t.claimed → i < length bits
laid bits size i t e l = subst (λ (t : WordTable). i < t.claimed) (sym e) l

-- a number that is read stands for the word of the table
pub read_word : (bits : List ℕ) (size i n : ℕ) → i < length bits → n ≡ get_or bits i n →
    word_of_bits n ≡ place_at empty_word (laid_table bits size).words i
read_word bits size i n l e =
    let l' : i < length (map word_of_bits bits) = omega (arith, length-map bits word_of_bits, l) in
    ap word_of_bits e ∙ sym (get_or-map word_of_bits bits i n empty_word l)
    ∙ get-place empty_word empty_word (map word_of_bits bits) i l'
    ∙ sym (place-front empty_word (map word_of_bits bits) (replicate (size - length bits) empty_word) i l')

-- it is a link word
pub valid_word : (bits : List ℕ) (i n : ℕ) → All IsLinkNumber bits → i < length bits → n ≡ get_or bits i n → IsLinkNumber n
valid_word bits i n words l e = subst IsLinkNumber (sym e) (All-get_or IsLinkNumber bits i n l words)

-- a claimed word's number is read
pub read_claimed : (bits : List ℕ) (size i n : ℕ) → All IsLinkNumber bits → i < length bits → n ≡ get_or bits i n →
    Some n ≡ claimed_word (laid_table bits size) i
read_claimed bits size i n words l e =
    let yes : nat_lt i (length bits) ≡ true = grind (arith, l, nat_tests) in
    let number : bits_of (place_at empty_word (laid_table bits size).words i) ≡ n =
    spelled (place_at empty_word (laid_table bits size).words i) n (read_word bits size i n l e) (valid_word bits i n words l e)
    in rw (yes, number) refl

-- and so is its source
pub read_source : (bits : List ℕ) (size i n : ℕ) → i < length bits → n ≡ get_or bits i n →
    (word_of_bits n).source ≡ source_at (laid_table bits size) i
read_source bits size i n l e =
    let yes : nat_lt i (length bits) ≡ true = grind (arith, l, nat_tests) in
    rw yes (ap (λ (w : Word). w.source) (read_word bits size i n l e))

-- a number that is written makes the word of the table
pub write_word : (bits : List ℕ) (size i n : ℕ) (x : Word) → i < length bits → word_of_bits n ≡ x →
    laid_table (set bits i n) size ≡ put_word (laid_table bits size) i x
write_word bits size i n x l e =
    let l' : i < length (map word_of_bits bits) = omega (arith, length-map bits word_of_bits, l) in
    λ j. record {
      words = (ap (λ k. map word_of_bits (set bits i n) ++ replicate (size - k) empty_word) (length-set bits i n)
          ∙ ap (λ ws. ws ++ replicate (size - length bits) empty_word)
          (map-set word_of_bits bits i n ∙ set-place empty_word (map word_of_bits bits) i (word_of_bits n) l'
          ∙ ap (λ y. put_place empty_word (map word_of_bits bits) i y) e)
          ∙ sym (put-front empty_word (map word_of_bits bits) (replicate (size - length bits) empty_word) i x l')) j;
      claimed = length-set bits i n j;
    }

-- the number of a first link's word
pub open_number : word_of_bits 3 ≡ open_word
unfolding word_of_bits source_of_bits open_word both sides.none
open_number = refl

-- the number of an empty word
empty_number : word_of_bits 0 ≡ empty_word
unfolding word_of_bits source_of_bits empty_word both sides.none
empty_number = refl

-- an empty word that is laid out is one claimed
pub claim_word : (bits : List ℕ) (size : ℕ) → length bits < size → laid_table (bits ++ 0 ∷ []) size ≡ claim_one (laid_table bits size)
claim_word bits size l =
    let longer : length (bits ++ 0 ∷ []) ≡ length bits + 1 = length-append bits (0 ∷ []) in
    let rest : suc (size - (length bits + 1)) ≡ size - length bits = omega (arith, l) in
    λ j. record {
      words = (ap (λ k. map word_of_bits (bits ++ 0 ∷ []) ++ replicate (size - k) empty_word) longer
          ∙ ap (λ ws. ws ++ replicate (size - (length bits + 1)) empty_word) (map-append word_of_bits bits (0 ∷ []))
          ∙ append_assoc (map word_of_bits bits) (word_of_bits 0 ∷ []) (replicate (size - (length bits + 1)) empty_word)
          ∙ ap (λ w. map word_of_bits bits ++ w ∷ replicate (size - (length bits + 1)) empty_word) empty_number
          ∙ ap (λ k. map word_of_bits bits ++ replicate k empty_word) rest) j;
      claimed = longer j;
    }

-- so many elements and so many others are all of them
replicate-more : {X : Type 0} (x : X) (m n : ℕ) → replicate (m + n) x ≡ replicate m x ++ replicate n x
replicate-more x zero n = let all : 0 + n ≡ n = omega arith in ap (λ k. replicate k x) all
replicate-more x (suc m) n =
    let more : suc m + n ≡ suc (m + n) = omega arith in
    ap (λ k. replicate k x) more ∙ ap (λ xs. x ∷ xs) (replicate-more x m n)

-- a larger table that has the same words laid out has more empty ones
pub more_words : (bits : List ℕ) (size count : ℕ) → length bits ≤ size → laid_table bits (size + count) ≡ with_more (laid_table bits size) count
more_words bits size count l =
    let rest : size + count - length bits ≡ (size - length bits) + count = omega (arith, l) in
    λ j. record {
      words = (ap (λ k. map word_of_bits bits ++ replicate k empty_word) rest
          ∙ ap (λ ws. map word_of_bits bits ++ ws) (replicate-more empty_word (size - length bits) count)
          ∙ sym (append_assoc (map word_of_bits bits) (replicate (size - length bits) empty_word) (replicate count empty_word))) j;
      claimed = length bits;
    }

-- words that are all empty
all_empty : (ws : List Word) → AreUnclaimedEmpty ws 0 → replicate (length ws) empty_word ≡ ws
unfolding place_at
all_empty [] h = refl
all_empty (w ∷ ws) h =
    let first : w ≡ empty_word = h 0 (omega arith) in
    ap (λ v. v ∷ replicate (length ws) empty_word) (sym first) ∙ ap (λ vs. w ∷ vs) (all_empty ws (λ i _. h (suc i) (omega arith)))

-- words of which those from a number on are empty are the first ones and so many empty ones
emptied : (ws : List Word) (k : ℕ) → k ≤ length ws → AreUnclaimedEmpty ws k → take k ws ++ replicate (length ws - k) empty_word ≡ ws
unfolding place_at
emptied ws zero l h = let all : length ws - 0 ≡ length ws = omega arith in ap (λ n. replicate n empty_word) all ∙ all_empty ws h
emptied [] (suc k) l h = absurd (omega arith)
emptied (w ∷ ws) (suc k) l h =
    let rest : suc (length ws) - suc k ≡ length ws - k = omega arith in
    ap (λ n. w ∷ (take k ws ++ replicate n empty_word)) rest
    ∙ ap (λ vs. w ∷ vs) (emptied ws k (omega arith) (λ i c. h (suc i) (omega (arith, c))))

-- so the claimed ones of a table's numbers make it
pub claimed_alone : (bits : List ℕ) (claimed : ℕ) → claimed ≤ length bits → AreUnclaimedEmpty (map word_of_bits bits) claimed →
    (laid_table (take claimed bits) (length bits)).words ≡ map word_of_bits bits
claimed_alone bits claimed l h =
    let long : length (map word_of_bits bits) ≡ length bits = length-map bits word_of_bits in
    let few : length (take claimed bits) ≡ claimed = omega (arith, l, length-take claimed bits) in
    ap (λ ws. ws ++ replicate (length bits - length (take claimed bits)) empty_word) (sym (take-map word_of_bits claimed bits))
    ∙ ap (λ k. take claimed (map word_of_bits bits) ++ replicate (length bits - k) empty_word) few
    ∙ ap (λ n. take claimed (map word_of_bits bits) ++ replicate (n - claimed) empty_word) (sym long)
    ∙ emptied (map word_of_bits bits) claimed (omega (arith, l, long)) h
