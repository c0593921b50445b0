-- Texts that lack a separator, and how a text parts at its first separator.
use Rattle.std.proofs.Common.{◌≡◌, ◌≢◌, ℕ, ◌+◌, ◌%◌, ◌<◌, ◌≤◌, Bool, true, false, List, [], ◌∷◌, ◌++◌, length, Option, None, refl, sym, ap}
use Rattle.std.proofs.Common.{◌∙◌, subst, arith, cond, eqb, drop, take, ◌-◌, length-append, get_or}
use Rattle.std.specs.List.{All}
use Rattle.std.proofs.lemmas.List.{take_all}
use Rattle.std.proofs.Math.Seq.{take-append_seam}
use Rattle.std.specs.Cmp.Lexicographic.{other_text, pointwise, same_text}
use Rattle.std.proofs.lemmas.Bool.{eq-eqb, false≢true}
use Rattle.std.specs.Fmt.{decimal}
use Rattle.std.proofs.lemmas.Fmt.{decimal_by_steps}
use Rattle.std.proofs.lemmas.List.Elements.{All-cons, All-head, All-tail, All-nil, All-same, All-push, All-append, All-weaker}
use Rattle.ipcz_lines.specs.LineParts.{IsEndText, IsName, IsNumber, IsWordText, Reads, is_name_byte, side_text}
use Rattle.ipcz_lines.specs.declared.line.parts.Side.{Side}
use Rattle.ipcz_lines.specs.declared.line.parts.Side.TheVariants as sides

-- the separator doesn't stand in the text
abbrev pub Lacks : ℕ → List ℕ → Type 0
Lacks mark text = All (λ b. b ≢ mark) text

-- a text that lacks a separator has no two parts with the separator between
pub no_mark : (mark : ℕ) (a b : List ℕ) → Lacks mark (a ++ mark ∷ b) → ⊥
no_mark mark [] b h = All-head (λ b. b ≢ mark) mark b h refl
no_mark mark (x ∷ a) b h = no_mark mark a b (All-tail (λ b. b ≢ mark) x (a ++ mark ∷ b) h)

pub not_parted : (mark : ℕ) (a b text : List ℕ) → Lacks mark text → a ++ mark ∷ b ≡ text → ⊥
not_parted mark a b text h e = no_mark mark a b (All-same (λ b. b ≢ mark) (a ++ mark ∷ b) text e h)

-- at its first separator a text parts in one way
pub one_parting : (mark : ℕ) (a b c d : List ℕ) → Lacks mark a → Lacks mark c → a ++ mark ∷ b ≡ c ++ mark ∷ d → (a ≡ c) × (b ≡ d)
one_parting mark [] b [] d h k e = (refl, cc)
one_parting mark [] b (y ∷ c) d h k e = absurd (All-head (λ b. b ≢ mark) y c k cc)
one_parting mark (x ∷ a) b [] d h k e = absurd (All-head (λ b. b ≢ mark) x a h cc)
one_parting mark (x ∷ a) b (y ∷ c) d h k e =
    let P : ℕ → Type 0 = λ b. b ≢ mark in
    let rest : a ++ mark ∷ b ≡ c ++ mark ∷ d = cc in
    let r = one_parting mark a b c d (All-tail P x a h) (All-tail P y c k) rest in
    (cc, r.1)

-- at the first separator of a text its parts are known
pub parts_agree : (mark : ℕ) (a b first rest text : List ℕ) → Lacks mark a → Lacks mark first → text ≡ first ++ mark ∷ rest
    → a ++ mark ∷ b ≡ text → (a ≡ first) × (b ≡ rest)
parts_agree mark a b first rest text h k e d = one_parting mark a b first rest h k (d ∙ e)

-- behind the same text the rests are the same
pub rests_agree : (text a b : List ℕ) → text ++ a ≡ text ++ b → a ≡ b
rests_agree [] a b e = e
rests_agree (x ∷ text) a b e = rests_agree text a b (ap (drop {A = ℕ} 1) e)

-- two texts differ at a place that both have
abbrev pub differ : List ℕ → List ℕ → Bool
differ [] ys = false
differ (x ∷ xs) [] = false
differ (x ∷ xs) (y ∷ ys) = cond (eqb x y) (differ xs ys) true

none_differs : (xs : List ℕ) → differ xs xs ≡ false
none_differs [] = refl
none_differs (x ∷ xs) = ap (λ t. cond t (differ xs xs) true) (eq-eqb x x refl) ∙ none_differs xs

pub apart : (xs ys : List ℕ) → differ xs ys ≡ true → xs ≡ ys → ⊥
apart xs ys h e = false≢true (sym (none_differs xs) ∙ ap (differ xs) e ∙ h)

-- a test of two texts that fails tells that the first isn't a word
pub unlike : (xs ys word : List ℕ) → false ≡ pointwise eqb xs ys → ys ≡ word → xs ≢ word
unlike xs ys word h e d = other_text xs ys h (d ∙ sym e)

pub alike : (xs ys word : List ℕ) → true ≡ pointwise eqb xs ys → ys ≡ word → xs ≡ word
alike xs ys word h e = same_text xs ys h ∙ e

-- what stands behind the first byte
pub tail_is : (x : ℕ) (xs first : List ℕ) → x ∷ xs ≡ first → xs ≡ take (length first - 1) (drop 1 first)
tail_is x xs first e = subst (λ (l : List ℕ). xs ≡ take (length l - 1) (drop 1 l)) e (sym (take_all (length (x ∷ xs) - 1) xs (omega arith)))

-- what stands between the first byte and the last
pub middle_is : (x y : ℕ) (xs first : List ℕ) → x ∷ (xs ++ y ∷ []) ≡ first → xs ≡ take (length first - 1 - 1) (drop 1 first)
middle_is x y xs first e =
    subst (λ (l : List ℕ). xs ≡ take (length l - 1 - 1) (drop 1 l)) e
    (sym (front_of (length (x ∷ (xs ++ y ∷ [])) - 1 - 1) (omega (arith, length-append xs (y ∷ [])))))
  where
    front_of : (n : ℕ) → n ≡ length xs → take n (xs ++ y ∷ []) ≡ xs
    front_of n h = rw h (take-append_seam xs (y ∷ []))

last_of : (xs : List ℕ) (y : ℕ) → get_or (xs ++ y ∷ []) (length xs) 0 ≡ y
last_of [] y = refl
last_of (x ∷ xs) y = last_of xs y

-- the last byte of a text
pub ends_with : (xs : List ℕ) (y : ℕ) (text : List ℕ) → xs ++ y ∷ [] ≡ text
    → (length xs < length text) × (get_or text (length text - 1) 0 ≡ y)
ends_with xs y text e = subst (λ (l : List ℕ). (length xs < length l) × (get_or l (length l - 1) 0 ≡ y)) e
    (omega (arith, length-append xs (y ∷ [])), at_end (length (xs ++ y ∷ []) - 1) (omega (arith, length-append xs (y ∷ []))))
  where
    at_end : (n : ℕ) → n ≡ length xs → get_or (xs ++ y ∷ []) n 0 ≡ y
    at_end n h = rw h (last_of xs y)

-- nothing is read if no value has the text
pub reads_none : {A : Type 0} (text : A → List ℕ) (Is : A → Type 0) (bytes : List ℕ) (r : Option A) → r ≡ None → ((x : A) → Is x
    → text x ≢ bytes) → Reads text Is bytes r
reads_none text Is bytes r e h = subst (Reads text Is bytes) (sym e) h

abbrev pub IsDigit : ℕ → Type 0
IsDigit b = (48 ≤ b) × (b ≤ 57)

pub decimal_digits : (n : ℕ) → IsNumber n → All IsDigit (decimal n)
decimal_digits n h = decimal_by_steps (λ n ds. All IsDigit ds)
    (λ n small. All-cons IsDigit (48 + n) [] (omega arith, omega arith) (All-nil IsDigit))
    (λ n ds big h. All-push IsDigit ds (48 + n % 10) h (omega arith, omega arith)) n h

-- a separator that is no digit
abbrev pub IsNoDigit : ℕ → Type 0
IsNoDigit mark = IsDigit mark → ⊥

pub decimal_lacks : (mark n : ℕ) → IsNumber n → IsNoDigit mark → Lacks mark (decimal n)
decimal_lacks mark n h k = All-weaker IsDigit (λ b. b ≢ mark) (λ b d e. k (subst IsDigit e d)) (decimal n) (decimal_digits n h)

pub name_lacks : (mark : ℕ) (text : List ℕ) → IsName text → is_name_byte mark ≡ false → Lacks mark text
name_lacks mark text h k = All-weaker (λ b. is_name_byte b ≡ true) (λ b. b ≢ mark) (λ b t e. cc) text h.bytes

pub end_lacks_comma : (text : List ℕ) → IsEndText text → Lacks 44 text
end_lacks_comma text h =
    let digits = decimal_lacks 44 h.0.pair (omega (arith, h.1)) (λ d. absurd (omega arith)) in
    All-same (λ b. b ≢ 44) text (decimal h.0.pair ++ side_text h.0.side) (sym h.2)
    (All-append (λ b. b ≢ 44) (decimal h.0.pair) (side_text h.0.side) digits (side_lacks h.0.side))
  where
    side_lacks : (side : Side) → Lacks 44 (side_text side)
    side_lacks sides.A = All-cons (λ b. b ≢ 44) 65 [] (λ e. absurd (omega arith)) (All-nil (λ b. b ≢ 44))
    side_lacks sides.B = All-cons (λ b. b ≢ 44) 66 [] (λ e. absurd (omega arith)) (All-nil (λ b. b ≢ 44))

pub word_lacks_space : (text : List ℕ) → IsWordText text → Lacks 32 text
word_lacks_space text h =
    All-same (λ b. b ≢ 32) text (decimal h.0) (sym h.2) (decimal_lacks 32 h.0 (omega (arith, h.1)) (λ d. absurd (omega arith)))
