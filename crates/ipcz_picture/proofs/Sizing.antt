-- How many bytes rows take, and how many bytes there are of lines.
use Rattle.std.proofs.Common.{ℕ, zero, suc, ◌+◌, ◌*◌, ◌<◌, ◌≤◌, [], ◌∷◌, List, length, get_or, take, drop, flat_map, length-append, arith}
use Rattle.std.proofs.Common.{ap, codes}
use Rattle.std.specs.List.{All, HoldsAt, sum_by}
use Rattle.std.proofs.lemmas.List.{drop-drop}
use Rattle.std.proofs.lemmas.List.Sums.{sum_by-cons, sum_by-take-drop}
use Rattle.ipcz_lines.specs.declared.line.Line.{Line}
use Rattle.ipcz_lines.specs.declared.line.Line.TheVariants as lines
use Rattle.ipcz_lines.specs.declared.line.ReadLine.{ReadLine}
use Rattle.ipcz_lines.specs.Lines.{and_more, with_line_feed, IsLine, IsRead, IsReadLine}
use Rattle.ipcz_picture.specs.declared.rows.Place.{Place}
use Rattle.ipcz_picture.specs.Rows.{Follow, IsPlace}
use Rattle.ipcz_picture.specs.Sizes.{most_marks, most_picture, most_place, most_row, IsBounded}

-- a line is one of those from it on
pub row_in : (read : List ReadLine) (i n : ℕ) (d : ReadLine) → 0 < n → i < length read → most_row (get_or read i d)
    ≤ sum_by most_row (take n (drop i read))
row_in [] i n d some within = absurd (omega (arith, within))
row_in (y ∷ ys) zero zero d some within = absurd (omega (arith, some))
row_in (y ∷ ys) zero (suc n) d some within = omega (arith, sum_by-cons most_row y (take n ys))
row_in (y ∷ ys) (suc i) n d some within = row_in ys i n d some (omega (arith, within))

-- the parts of a row are within the row
pub row_fits : (read : List ReadLine) (p : Place) (d : ReadLine) → IsPlace read p → (a b c e f g : ℕ) →
    HoldsAt (λ x. b ≤ a + (210 + 6 * length x.text.now)) read p.first
    → c ≤ b + 8 → e ≤ c + 1140 → f ≤ e + most_marks (get_or read p.first d).line → g ≤ f + 8 → g ≤ a + most_place read p
row_fits read p d place a b c e f g begun closed gutter marks done =
    omega (arith, row_in read p.first p.count d place.some (omega (arith, place.some, place.within)), begun d, closed, gutter, marks, done)

-- the rows at places that follow one another take no more than those of the lines from the first on
pub places_in : (read : List ReadLine) (from top : ℕ) (ps : List Place) (to bottom : ℕ) → Follow read from top ps to bottom
    → sum_by (most_place read) ps ≤ sum_by most_row (drop from read)
places_in read from top [] to bottom h = omega arith
places_in read from top (p ∷ ps) to bottom h =
    omega (
      arith,
      sum_by-cons (most_place read) p ps,
      sum_by-take-drop most_row (drop p.first read) p.count,
      ap (sum_by most_row) (drop-drop p.count p.first read),
      ap (λ k. sum_by most_row (drop (k + p.count) read)) h.0,
      ap (λ k. sum_by most_row (drop k read)) h.0,
      places_in read (from + p.count) (top + 18 * p.units) ps to bottom h.3,
    )

words_in : (values : List ℕ) → length values ≤ length (and_more (codes "words") values)
words_in [] = omega arith
words_in (b ∷ bs) = omega (arith, length-append (codes "words") (32 ∷ b ∷ bs))

-- the signs of a line are bounded by its text
marks_in : (text : List ℕ) (line : Line) → IsLine text line → most_marks line ≤ 3000 + 1890 * length text
marks_in text (lines.Words values) h = omega (arith, words_in values.now, ap length h.spelled)
marks_in text other h = omega arith

rows_in : (read : List ReadLine) → All IsReadLine read →
    sum_by most_row read ≤ 4300 * length read + 1900 * length (flat_map with_line_feed read)
rows_in [] each = omega arith
rows_in (x ∷ xs) each =
    omega (
      arith,
      sum_by-cons most_row x xs,
      marks_in x.text.now x.line (each 0 x (omega arith)),
      rows_in xs (λ k d h. each (suc k) d (omega (arith, h))),
      length-append (with_line_feed x) (flat_map with_line_feed xs),
      length-append x.text.now (10 ∷ []),
    )

-- the bound of a picture, by the bytes that its lines were read from
pub bounded : (input : List ℕ) (read : List ReadLine) (text : List ℕ) → IsRead input read → length text ≤ most_picture read →
    IsBounded input read text
bounded input read text h few = omega (arith, few, rows_in read h.each, ap length h.whole)
