-- The claimed words, one after the other.
use Rattle.std.proofs.Common.{◌≡◌, ◌∙◌, ◌++◌, ◌+◌, ◌-◌, ◌<◌, ◌≤◌, ap, sym, refl, ℕ, suc, List, [], ◌∷◌, map, Some, arith, append_assoc}
use Rattle.std.proofs.Common.{nat_lt, true}
use Rattle.std.proofs.lemmas.Bool.Decides.{nat_tests}
use Rattle.ipcz_word.specs.Layout.{bits_of}
use Rattle.ipcz_world.specs.World.{World, word_at, numbers_from}
use Rattle.ipcz_world.specs.Holding.{shown_word, shown_words}

-- the numbers of the words that are left
abbrev pub words_left : World → ℕ → List ℕ
words_left w i = map (λ k. bits_of (word_at w k)) (numbers_from i (w.claimed - i))

left-some : (w : World) (i : ℕ) → i < w.claimed → words_left w i ≡ bits_of (word_at w i) ∷ words_left w (i + 1)
left-some w i below =
    let more : w.claimed - i ≡ suc (w.claimed - (i + 1)) = omega arith in
    ap (λ n. map (λ k. bits_of (word_at w k)) (numbers_from i n)) more

left-none : (w : World) (i : ℕ) → w.claimed ≤ i → words_left w i ≡ []
left-none w i past = let none : w.claimed - i ≡ 0 = omega arith in ap (λ n. map (λ k. bits_of (word_at w k)) (numbers_from i n)) none

-- one word more is shown
pub shown-more : (w : World) (i word : ℕ) (words new : List ℕ) → i < w.claimed → shown_word w i ≡ Some word → new ≡ words ++ word ∷ [] →
    words ++ words_left w i ≡ shown_words w → new ++ words_left w (i + 1) ≡ shown_words w
shown-more w i word words new below is more all =
    let claimed : nat_lt i w.claimed ≡ true = grind (arith, nat_tests) in
    let shown : shown_word w i ≡ Some (bits_of (word_at w i)) = rw claimed refl in
    let same : bits_of (word_at w i) ≡ word = some_is _ _ (sym shown ∙ is) in
    ap (λ l. l ++ words_left w (i + 1)) more
    ∙ append_assoc words (word ∷ []) (words_left w (i + 1))
    ∙ ap (λ x. words ++ x ∷ words_left w (i + 1)) (sym same)
    ∙ ap (λ l. words ++ l) (sym (left-some w i below))
    ∙ all
  where
    some_is : (x y : ℕ) → Some x ≡ Some y → x ≡ y
    some_is x y e = cc
