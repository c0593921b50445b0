-- A number by its low byte, which has the sets, and by what stands above it, which has the source.
use Rattle.std.proofs.Common.{◌≡◌, ℕ, zero, suc, ◌+◌, ◌*◌, ◌/◌, ◌%◌, ◌==◌, ◌<◌, refl, ap, sym, ◌∙◌, arith, bit_and, bit_or, None}
use Rattle.std.specs.Int.Bits.{or_add_and, and_zero_r}
use Rattle.std.proofs.lemmas.Nat.{or_block, and_block, and_mask}
use Rattle.std.proofs.lemmas.Nat.Bits.{and_high_mask}
use Rattle.ipcz_word.specs.Layout.{idle_bits, source_of_bits, source_bits, word_of_bits, sets_bits, bits_of, bits_beside}
use Rattle.ipcz_word.specs.Word.{Word}

pub low : ℕ → ℕ
low n = n % 256

pub high : ℕ → ℕ
high n = n / 256

pub low_small : (n : ℕ) → low n < 256
unfolding low
low_small n = omega arith

pub whole : (n : ℕ) → high n * 256 + low n ≡ n
unfolding high low
whole n = omega arith

-- a number below 256 is its own low byte
byte : (k : ℕ) → 0 * 256 + k ≡ k
byte k = omega arith

or_none : (a : ℕ) → bit_or a 0 ≡ a
or_none a = omega (arith, or_add_and a 0, and_zero_r a)

-- setting bits of the low byte leaves what is above
pub or_low : (n bit : ℕ) → bit < 256 → bit_or n bit ≡ high n * 256 + bit_or (low n) bit
or_low n bit small =
    ap (λ z. bit_or z bit) (sym (whole n)) ∙ ap (bit_or (high n * 256 + low n)) (sym (byte bit))
    ∙ or_block 8 (high n) 0 (low n) bit (low_small n) small ∙ ap (λ z. z * 256 + bit_or (low n) bit) (or_none (high n))

-- keeping bits of the low byte alone takes what is above away
pub and_low : (n kept : ℕ) → kept < 256 → bit_and n kept ≡ bit_and (low n) kept
and_low n kept small =
    ap (λ z. bit_and z kept) (sym (whole n)) ∙ ap (bit_and (high n * 256 + low n)) (sym (byte kept))
    ∙ and_block 8 (high n) 0 (low n) kept (low_small n) small ∙ ap (λ z. z * 256 + bit_and (low n) kept) (and_zero_r (high n)) ∙ byte (bit_and (low n) kept)

high_few : (n : ℕ) → n < 32768 → high n % 72057594037927936 ≡ high n
unfolding high
high_few n small = omega (arith, small)

-- keeping all bits above, and some of the low byte
pub and_high : (n kept all : ℕ) → n < 32768 → kept < 256 → all ≡ 72057594037927935 * 256 + kept → bit_and n all ≡ high n * 256 + bit_and (low n) kept
and_high n kept all small few is =
    ap (λ z. bit_and z all) (sym (whole n)) ∙ ap (bit_and (high n * 256 + low n)) is
    ∙ and_block 8 (high n) 72057594037927935 (low n) kept (low_small n) few
    ∙ ap (λ z. z * 256 + bit_and (low n) kept) (and_mask (high n) 56 ∙ high_few n small)

high_below : (n : ℕ) → n < 32768 → high n < 72057594037927936
unfolding high
high_below n small = omega (arith, small)

above_gone : (n : ℕ) → n < 32768 → high n / 256 * 256 ≡ 0
unfolding high
above_gone n small = omega (arith, small)

-- taking bits 8 to 15 away takes all that is above the low byte
pub and_apart : (n kept all : ℕ) → n < 32768 → kept < 256 → all ≡ 72057594037927680 * 256 + kept → bit_and n all ≡ bit_and n kept
and_apart n kept all small few is =
    ap (λ z. bit_and z all) (sym (whole n)) ∙ ap (bit_and (high n * 256 + low n)) is
    ∙ and_block 8 (high n) 72057594037927680 (low n) kept (low_small n) few
    ∙ ap (λ z. z * 256 + bit_and (low n) kept) (and_high_mask 56 8 (omega arith) (high n) (high_below n small) ∙ above_gone n small)
    ∙ byte (bit_and (low n) kept) ∙ sym (and_low n kept few)

low_of : (above byte : ℕ) → byte < 256 → low (above * 256 + byte) ≡ byte
unfolding low
low_of above byte small = omega (arith, small)

-- what stands above a low byte is taken away by keeping that byte
pub low_kept : (n byte : ℕ) → byte < 256 → bit_and (high n * 256 + byte) 255 ≡ bit_and byte 255
low_kept n byte small = and_low (high n * 256 + byte) 255 (omega arith) ∙ ap (λ z. bit_and z 255) (low_of (high n) byte small)

same_bit : (m n : ℕ) → m ≡ n → (m == 1) ≡ (n == 1)
same_bit m n = ap (λ z. z == 1)

-- the word that a number stands for has the sets of its low byte
pub word_low : (n : ℕ) → word_of_bits n ≡ record (word_of_bits (low n)) { source = source_of_bits (high n) }
unfolding word_of_bits low high
word_low n =
    let stable_a : n / 1 % 2 ≡ n % 256 / 1 % 2 = omega arith in
    let stable_b : n / 2 % 2 ≡ n % 256 / 2 % 2 = omega arith in
    let waiting_a : n / 4 % 2 ≡ n % 256 / 4 % 2 = omega arith in
    let waiting_b : n / 8 % 2 ≡ n % 256 / 8 % 2 = omega arith in
    let locked_a : n / 16 % 2 ≡ n % 256 / 16 % 2 = omega arith in
    let locked_b : n / 32 % 2 ≡ n % 256 / 32 % 2 = omega arith in
    λ i. record {
      stable = record { a = same_bit _ _ stable_a i; b = same_bit _ _ stable_b i };
      waiting = record { a = same_bit _ _ waiting_a i; b = same_bit _ _ waiting_b i };
      holder = record { a = same_bit _ _ locked_a i; b = same_bit _ _ locked_b i };
      source = source_of_bits (n / 256);
    }

pub idle_low : (n : ℕ) → idle_bits (low n) ≡ idle_bits n
unfolding low
idle_low n = omega arith

code_returns : (code : ℕ) → source_bits (source_of_bits code) ≡ code
unfolding source_bits source_of_bits
code_returns zero = refl
code_returns (suc node) = refl

-- the low byte names no source
pub low_none : (n : ℕ) → (word_of_bits (low n)).source ≡ None
unfolding word_of_bits low source_of_bits
low_none n = let nothing : n % 256 / 256 ≡ 0 = omega arith in ap source_of_bits nothing

no_source : source_bits None ≡ 0
unfolding source_bits
no_source = refl

-- what is above the low byte stands for the source
pub beside_high : (n : ℕ) (w : Word) → w.source ≡ None → high n * 256 + bits_beside (low n) w ≡ bits_beside n (record w { source = source_of_bits (high n) })
unfolding bits_of sets_bits
beside_high n w none = omega (arith, ap source_bits none, no_source, code_returns (high n), idle_low n)
