-- What a writer adds, call by call.
use Rattle.std.proofs.Common.{ℕ, ◌+◌, ◌*◌, ◌<◌, ◌^◌, ◌≤◌, ◌++◌, [], ◌∷◌, List, length, sym, ap, ◌∙◌, arith, rules, append_assoc, subst}
use Rattle.std.proofs.Common.{length-append}
use Rattle.std.proofs.lemmas.Fmt.{length-decimal-le}
use Rattle.std.specs.Fmt.{decimal}
use Rattle.ipcz_markup.specs.declared.writer.Tag.{Tag}
use Rattle.ipcz_markup.specs.declared.writer.Writer.{Writer}
use Rattle.ipcz_markup.specs.Markup.{escaped, escaped_byte, row_head, row_names, row_title, run_title, Adds, IsMarkup, Place, Row, Stands}

-- two additions are one
pub adds_two : (a b c : Writer) (x y : List ℕ) → Adds a b x → Adds b c y → Adds a c (x ++ y)
adds_two a b c x y h k = record {
  done = λ works.
      let last = k.done works in
      let first = h.done last.0 in
      (first.0, last.1 ∙ ap (λ l. l ++ y) first.1 ∙ append_assoc a.bytes.items x y);
  size = omega (arith, h.size, k.size, length-append x y);
}

-- what stood before an addition stands after it, by the rule for these bytes
pub stands_after : (a b : Writer) (x : List ℕ) (rows more : List Row) (p q : Place) (s t : List Tag) → Adds a b x
    → ((l : List ℕ) → IsMarkup l rows p s → IsMarkup (l ++ x) more q t) → Stands a rows p s → Stands b more q t
stands_after a b x rows more p q s t h rule old = record {
  markup = λ works.
      let step = h.done works in
      subst (λ l. IsMarkup l more q t) (sym step.1) (rule a.bytes.items (old.markup step.0));
}

-- three additions are one
pub adds_three : (a b c d : Writer) (x y z : List ℕ) → Adds a b x → Adds b c y → Adds c d z → Adds a d (x ++ y ++ z)
adds_three a b c d x y z h k l = adds_two a c d (x ++ y) z (adds_two a b c x y h k) l

-- a byte takes six at most
pub escaped_byte_length : (c : ℕ) → length (escaped_byte c) ≤ 6
escaped_byte_length c = search rules

-- bytes take six times as many at most
pub escaped_length : (bytes : List ℕ) → length (escaped bytes) ≤ 6 * length bytes
escaped_length [] = omega arith
escaped_length (c ∷ bytes) = omega (arith, escaped_byte_length c, escaped_length bytes, length-append (escaped_byte c) (escaped bytes))

-- a number of 64 bits takes twenty at most
pub decimal_length : (n : ℕ) → n < 2 ^ 64 → length (decimal n) ≤ 20
decimal_length n fits = length-decimal-le 20 n (omega arith) (omega (arith, fits)) fits

-- how long the names of a row are
pub row_names_length : (number last : ℕ) → number < 2 ^ 64 → last < 2 ^ 64 → length (row_names number last) ≤ 61
row_names_length number last h k = simp (length-append {A = ℕ}) (omega (arith, decimal_length number h, decimal_length last k))

-- how long the beginning of a row is
pub row_head_length : (number last top : ℕ) → number < 2 ^ 64 → last < 2 ^ 64 → top < 2 ^ 64 → length (row_head number last top) ≤ 120
row_head_length number last top h k l =
    simp (length-append {A = ℕ}) (omega (arith, decimal_length number h, decimal_length last k, decimal_length top l))

-- how long the title of a row with one line is
pub row_title_length : (number : ℕ) (text : List ℕ) → number < 2 ^ 64 → length (row_title number (text ∷ [])) ≤ 30 + 6 * length text
row_title_length number text h = simp (length-append {A = ℕ}) (omega (arith, decimal_length number h, escaped_length text))

-- how long the title of a row with more lines is
pub run_title_length : (number last count : ℕ) → number < 2 ^ 64 → last < 2 ^ 64 → count < 2 ^ 64 → length (run_title number last count)
    ≤ 76
run_title_length number last count h k l =
    simp (length-append {A = ℕ}) (omega (arith, decimal_length number h, decimal_length last k, decimal_length count l))
