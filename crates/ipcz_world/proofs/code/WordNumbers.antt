-- The number of a link word, from the sets that it stands for.
use Rattle.std.specs.Prelude.{◌≡◌, ℕ, Bool, true, false, not, nat_eq}
use Rattle.std.proofs.Common.{ap, sym, ◌∙◌, refl, arith}
use Rattle.std.proofs.lemmas.Bool.Decides.{nat_tests}
use Rattle.ipcz_world.proofs.Vocabulary.{Side, A, B, opposite, has, Word}
use Rattle.ipcz_word.specs.Layout.{IsWord, word_of_bits, bits_of, bits_beside}
use Rattle.ipcz_word.specs.SideSets.{Sides, without, has-without_here}
use Rattle.ipcz_word.specs.Word.{wake}
use Rattle.ipcz_word.proofs.Tables.{number_returns}
use Rattle.ipcz_world.specs.Coding.{IsLinkNumber}

-- a link word without bits 6 and 7 is the number of what it stands for
pub spelled : (w : Word) (n : ℕ) → word_of_bits n ≡ w → IsLinkNumber n → bits_of w ≡ n
spelled w n e is = omega (arith, ap bits_of e, number_returns n is.word.small, is.idle)

-- what is written apart from the idle bits of such a word is such a word
pub kept : (n m : ℕ) (w : Word) → IsLinkNumber n → IsWord m → word_of_bits m ≡ w → m ≡ bits_beside n w → IsLinkNumber m
kept n m w is next e beside =
    record { word = next; idle = omega (arith, number_returns m next.small, ap bits_of e, beside, is.idle) }

-- a set without a side that isn't in it is the same
without_absent : (s : Sides) (x : Side) → has s x ≡ false → without s x ≡ s
unfolding has without
without_absent s A e = λ j. record { a = sym e j; b = s.b }
without_absent s B e = λ j. record { a = s.a; b = sym e j }

-- waking changes the number of a word exactly if the side across waits
pub waits-changes : (n woken : ℕ) (s : Side) → IsLinkNumber n → IsLinkNumber woken → word_of_bits woken ≡ wake (word_of_bits n) s →
    has (word_of_bits n).waiting (opposite s) ≡ not (nat_eq woken n)
waits-changes n woken s is next e = go (has (word_of_bits n).waiting (opposite s)) (nat_eq woken n) refl refl
  where
    go : (waits same : Bool) → has (word_of_bits n).waiting (opposite s) ≡ waits → nat_eq woken n ≡ same →
        has (word_of_bits n).waiting (opposite s) ≡ not (nat_eq woken n)
    go true true h k = absurd (
        let same : woken ≡ n = grind (arith, k, nat_tests) in
        let stays : word_of_bits n ≡ wake (word_of_bits n) s = ap word_of_bits (sym same) ∙ e in
        let gone : has (word_of_bits n).waiting (opposite s) ≡ false =
        ap (λ (w : Word). has w.waiting (opposite s)) stays ∙ has-without_here (word_of_bits n).waiting (opposite s) (opposite s) refl
        in cc
        )
    go true false h k = h ∙ ap not (sym k)
    go false true h k = h ∙ ap not (sym k)
    go false false h k = absurd (
        let stays : wake (word_of_bits n) s ≡ word_of_bits n = λ j.
        record (word_of_bits n) { waiting = without_absent (word_of_bits n).waiting (opposite s) h j } in
        let same : woken ≡ n = sym (spelled (word_of_bits n) woken (e ∙ stays) next) ∙ spelled (word_of_bits n) n refl is in
        let found : nat_eq woken n ≡ true = grind (arith, same, nat_tests) in cc
        )
