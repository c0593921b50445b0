-- Places one under the other, with one more.
use Rattle.std.proofs.Common.{◌≡◌, ℕ, zero, suc, ◌+◌, ◌*◌, ◌<◌, ◌≤◌, ◌++◌, [], ◌∷◌, List, length, get_or, flat_map, length-append, arith}
use Rattle.std.proofs.Common.{refl, ◌∙◌}
use Rattle.ipcz_lines.specs.declared.line.ReadLine.{ReadLine}
use Rattle.ipcz_picture.specs.declared.rows.Place.{Place}
use Rattle.ipcz_lines.specs.Lines.{with_line_feed}
use Rattle.ipcz_picture.specs.Rows.{Follow, IsPlace}

pub follow_one : (read : List ReadLine) (from top : ℕ) (ps : List Place) (to bottom : ℕ) (p : Place) → Follow read from top ps to bottom
    → p.first ≡ to → p.top ≡ bottom → IsPlace read p → Follow read from top (ps ++ p ∷ []) (to + p.count) (bottom + 18 * p.units)
follow_one read from top [] to bottom p h first under place = (first ∙ h.0, under ∙ h.1, place, (cc, cc))
follow_one read from top (q ∷ ps) to bottom p h first under place =
    (h.0, h.1, h.2, follow_one read (from + q.count) (top + 18 * q.units) ps to bottom p h.3 first under place)

-- each of such places is a place
pub follow_place : (read : List ReadLine) (from top : ℕ) (ps : List Place) (to bottom : ℕ) → Follow read from top ps to bottom
    → (k : ℕ) (p : Place) → k < length ps → IsPlace read (get_or ps k p)
follow_place read from top [] to bottom h k p less = absurd (omega (arith, less))
follow_place read from top (q ∷ ps) to bottom h zero p less = h.2
follow_place read from top (q ∷ ps) to bottom h (suc k) p less =
    follow_place read (from + q.count) (top + 18 * q.units) ps to bottom h.3 k p (omega (arith, less))

-- a list of two or more begins with two
pub two_of : {A : Type 0} (xs : List A) → 2 ≤ length xs → (a : A) × (b : A) × (rest : List A) × (xs ≡ a ∷ b ∷ rest)
two_of [] h = absurd (omega (arith, h))
two_of (a ∷ []) h = absurd (omega (arith, h))
two_of (a ∷ b ∷ rest) h = (a, b, rest, refl)

-- a text has at least as many bytes as lines
pub fewer_lines : (read : List ReadLine) → length read ≤ length (flat_map with_line_feed read)
fewer_lines [] = omega arith
fewer_lines (x ∷ read) =
    omega (arith, fewer_lines read, length-append (with_line_feed x) (flat_map with_line_feed read), length-append x.text.now (10 ∷ []))
