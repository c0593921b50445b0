-- Why the line of a send tells which ends moved.
use Rattle.std.proofs.Common.{◌≡◌, ◌<◌, ◌^◌, ◌∙◌, ℕ, List, [], ◌∷◌, ◌++◌, refl, sym, ap, ap₂, subst, append_assoc, arith, codes, drop}
use Rattle.std.specs.List.{AllByRecursion}
use Rattle.std.specs.Fmt.{decimal}
use Rattle.std.proofs.lemmas.Fmt.{decimal_injective}
use Rattle.ipcz_base.specs.declared.side.Side.{Side}
use Rattle.ipcz_base.specs.declared.side.Side.TheVariants as sides
use Rattle.ipcz_base.specs.declared.end.End.{End}
use Rattle.ipcz_base.specs.Ends.{end_at}
use Rattle.ipcz_base.specs.Texts.{end_text, link_text}
use Rattle.ipcz_script.specs.EventTexts.{more_ends, moved_text}
use Rattle.ipcz_script.specs.SendLines.{HavePairs, SendsTellWhatMoved}
use Rattle.ipcz_script.proofs.Feeds.{IsDigit, decimal_digits}

-- behind the same text the rests are the same
pub rests_agree : (text a b : List ℕ) → text ++ a ≡ text ++ b → a ≡ b
rests_agree [] a b e = e
rests_agree (x ∷ text) a b e = rests_agree text a b (ap (drop {A = ℕ} 1) e)

-- digits up to another byte
record Parted (a c b d : List ℕ) (x y : ℕ) : Type 0 where
  digits : a ≡ c
  byte : x ≡ y
  rest : b ≡ d

digits_part : (a c b d : List ℕ) (x y : ℕ) → AllByRecursion IsDigit a → AllByRecursion IsDigit c → (IsDigit x → ⊥) → (IsDigit y → ⊥) →
    a ++ x ∷ b ≡ c ++ y ∷ d → Parted a c b d x y
digits_part [] [] b d x y h k p q e = record { digits = refl; byte = cc; rest = cc }
digits_part [] (z ∷ c) b d x y h k p q e = let same : x ≡ z = cc in absurd (p (subst IsDigit (sym same) k.0))
digits_part (z ∷ a) [] b d x y h k p q e = let same : z ≡ y = cc in absurd (q (subst IsDigit same h.0))
digits_part (z ∷ a) (u ∷ c) b d x y h k p q e =
    let first : z ≡ u = cc in
    let rest : a ++ x ∷ b ≡ c ++ y ∷ d = cc in
    let more = digits_part a c b d x y h.1 k.1 p q rest in
    record { digits = λ i. first i ∷ more.digits i; byte = more.byte; rest = more.rest }

-- the letter of a side
letter : Side → ℕ
letter sides.A = 65
letter sides.B = 66

no_digit : (s : Side) → IsDigit (letter s) → ⊥
unfolding letter
no_digit sides.A h = omega (arith, h.1)
no_digit sides.B h = omega (arith, h.1)

same_letter : (s t : Side) → letter s ≡ letter t → s ≡ t
unfolding letter
same_letter sides.A sides.A e = refl
same_letter sides.A sides.B e = absurd (omega (arith, e))
same_letter sides.B sides.A e = absurd (omega (arith, e))
same_letter sides.B sides.B e = refl

-- an end, and what stands behind it
spelled : (n : ℕ) (s : Side) (rest : List ℕ) → end_text (end_at n s) ++ rest ≡ decimal n ++ letter s ∷ rest
unfolding letter
spelled n sides.A rest = append_assoc (decimal n) (codes "A") rest
spelled n sides.B rest = append_assoc (decimal n) (codes "B") rest

pub one_end : (d e : End) (rest more : List ℕ) → d.pair < 2 ^ 64 → e.pair < 2 ^ 64 → end_text d ++ rest ≡ end_text e ++ more → (d ≡ e) ×
    (rest ≡ more)
one_end d e rest more h k same =
    let t = digits_part (decimal d.pair) (decimal e.pair) rest more (letter d.side) (letter e.side) (decimal_digits d.pair)
    (decimal_digits e.pair) (no_digit d.side) (no_digit e.side) (sym (spelled d.pair d.side rest) ∙ same ∙ spelled e.pair e.side more) in
    (ap₂ end_at (decimal_injective d.pair e.pair h k t.digits) (same_letter d.side e.side t.byte), t.rest)

more_tell : (xs ys : List End) → HavePairs xs → HavePairs ys → more_ends xs ≡ more_ends ys → xs ≡ ys
more_tell [] [] h k e = refl
more_tell [] (y ∷ ys) h k e = cc
more_tell (x ∷ xs) [] h k e = cc
more_tell (x ∷ xs) (y ∷ ys) h k e =
    let t = one_end x y (more_ends xs) (more_ends ys) h.0 k.0 (rests_agree (codes ",") _ _ e) in
    let more = more_tell xs ys h.1 k.1 t.1 in
    λ i. t.0 i ∷ more i

pub moved_tell : (xs ys : List End) → HavePairs xs → HavePairs ys → moved_text xs ≡ moved_text ys → xs ≡ ys
moved_tell [] [] h k e = refl
moved_tell [] (y ∷ ys) h k e = cc
moved_tell (x ∷ xs) [] h k e = cc
moved_tell (x ∷ xs) (y ∷ ys) h k e =
    let t = one_end x y (more_ends xs) (more_ends ys) h.0 k.0 (rests_agree (codes " moves ") _ _ e) in
    let more = more_tell xs ys h.1 k.1 t.1 in
    λ i. t.0 i ∷ more i

pub sends_tell_what_moved : SendsTellWhatMoved
sends_tell_what_moved serial way n link moved other h k same =
    moved_tell moved other h k (rests_agree
    (codes "r" ++ decimal serial ++ codes " send " ++ way ++ codes " " ++ decimal n ++ codes " " ++ link_text link) (moved_text moved)
    (moved_text other) same)
