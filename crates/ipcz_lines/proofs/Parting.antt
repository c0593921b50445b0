-- Texts that a separator parts.
use Rattle.std.proofs.Common.{◌≡◌, ◌↔◌, ℕ, ◌<◌, Bool, false, IsTrue, List, [], ◌∷◌, ◌++◌, length, refl, sym, ap, ◌∙◌, subst, arith, codes}
use Rattle.std.proofs.Common.{length-append}
use Rattle.std.specs.List.{AllByRecursion}
use Rattle.ipcz_lines.specs.LineParts.{AreParted, IsEndText, IsWordText, joined, side_text}
use Rattle.std.specs.Fmt.{decimal}
use Rattle.std.proofs.lemmas.Fmt.{decimal_nonempty}
use Rattle.ipcz_lines.specs.declared.line.parts.Side.{Side}
use Rattle.ipcz_lines.specs.declared.line.parts.Side.TheVariants as sides
use Rattle.ipcz_lines.proofs.Lacking.{Lacks, not_parted, one_parting}
use Rattle.ipcz_lines.specs.Lines.{AreMoves, AreWords, and_more, moves_text}

parted_one : (Is : List ℕ → Type 0) (mark : ℕ) (text : List ℕ) → Is text → AreParted Is mark text
parted_one Is mark text h = record { parts = text ∷ []; some = omega arith; each = (h, tt); whole = refl }

parted_by_parts : (Is : List ℕ → Type 0) (mark : ℕ) (first rest text : List ℕ) (parts : List (List ℕ)) → Is first → 0 < length parts
    → AllByRecursion Is parts → joined mark parts ≡ rest → text ≡ first ++ mark ∷ rest → AreParted Is mark text
parted_by_parts Is mark first rest text [] h some each whole e = absurd (omega arith)
parted_by_parts Is mark first rest text (p ∷ ps) h some each whole e =
    record { parts = first ∷ p ∷ ps; some = omega arith; each = (h, each); whole = ap (λ (xs : List ℕ). first ++ mark ∷ xs) whole ∙ sym e }

parted_alone : (Is : List ℕ → Type 0) (mark : ℕ) (text : List ℕ) → Lacks mark text → AreParted Is mark text → Is text
parted_alone Is mark text none h = one_by_parts Is mark text none h.parts h.some h.each h.whole
  where
    one_by_parts : (Is : List ℕ → Type 0) (mark : ℕ) (text : List ℕ) → Lacks mark text → (parts : List (List ℕ)) → 0 < length parts →
        AllByRecursion Is parts → joined mark parts ≡ text → Is text
    one_by_parts Is mark text none [] some each whole = absurd (omega arith)
    one_by_parts Is mark text none (p ∷ []) some each whole = subst Is whole each.0
    one_by_parts Is mark text none (p ∷ q ∷ ps) some each whole = absurd (not_parted mark p (joined mark (q ∷ ps)) text none whole)

-- if no such text has the separator, what is parted is such a text up to the first separator, and parted behind it
pub parted_front : (Is : List ℕ → Type 0) (mark : ℕ) → ((text : List ℕ) → Is text → Lacks mark text) → (first rest text : List ℕ)
    → Lacks mark first → text ≡ first ++ mark ∷ rest → AreParted Is mark text → Is first × AreParted Is mark rest
parted_front Is mark lack first rest text none e h = front_by_parts Is mark lack first rest text none e h.parts h.some h.each h.whole
  where
    front_by_parts : (Is : List ℕ → Type 0) (mark : ℕ) → ((text : List ℕ) → Is text → Lacks mark text) → (first rest text : List ℕ) → Lacks
        mark first → text ≡ first ++ mark ∷ rest → (parts : List (List ℕ)) → 0 < length parts → AllByRecursion Is parts →
        joined mark parts ≡
        text → Is first × AreParted Is mark rest
    front_by_parts Is mark lack first rest text none e [] some each whole = absurd (omega arith)
    front_by_parts Is mark lack first rest text none e (p ∷ []) some each whole =
        absurd (not_parted mark first rest p (lack p each.0) (sym e ∙ sym whole))
    front_by_parts Is mark lack first rest text none e (p ∷ q ∷ ps) some each whole =
        let r = one_parting mark p (joined mark (q ∷ ps)) first rest (lack p each.0) none (whole ∙ e) in
        (subst Is r.0 each.0, record { parts = q ∷ ps; some = omega arith; each = each.1; whole = r.1 })

-- nothing parts the text, and it is such a text if the test says so
pub parted_whole : (Is : List ℕ → Type 0) (mark : ℕ) (text : List ℕ) (r : Bool) → Lacks mark text → IsTrue r ↔ Is text
    → IsTrue r ↔ AreParted Is mark text
parted_whole Is mark text r none h = (λ t. parted_one Is mark text (h.0 t), λ p. h.1 (parted_alone Is mark text none p))

-- behind a first such text, the rest is parted if the test says so
pub parted_more : (Is : List ℕ → Type 0) (mark : ℕ) → ((text : List ℕ) → Is text → Lacks mark text)
    → (first rest text : List ℕ) (r : Bool) → Is first → Lacks mark first → IsTrue r ↔ AreParted Is mark rest
    → text ≡ first ++ mark ∷ rest → IsTrue r ↔ AreParted Is mark text
parted_more Is mark lack first rest text r h none more e = (
  λ t. let m = more.0 t in parted_by_parts Is mark first rest text m.parts h m.some m.each m.whole e,
  λ p. more.1 (parted_front Is mark lack first rest text none e p).1,
)

-- behind a first text that is none such, nothing is parted
pub parted_none : (Is : List ℕ → Type 0) (mark : ℕ) → ((text : List ℕ) → Is text → Lacks mark text)
    → (first rest text : List ℕ) (r : Bool) → IsTrue r ↔ Is first → r ≡ false → Lacks mark first → text ≡ first ++ mark ∷ rest
    → AreParted Is mark text → ⊥
parted_none Is mark lack first rest text r h refused none e p = let t = h.1 (parted_front Is mark lack first rest text none e p).0 in cc

some_by_parts : (Is : List ℕ → Type 0) (mark : ℕ) → ((text : List ℕ) → Is text → 0 < length text) → (parts : List (List ℕ))
    → 0 < length parts → AllByRecursion Is parts → 0 < length (joined mark parts)
some_by_parts Is mark some [] h each = absurd (omega arith)
some_by_parts Is mark some (p ∷ []) h each = some p each.0
some_by_parts Is mark some (p ∷ q ∷ ps) h each = omega (arith, length-append p (mark ∷ joined mark (q ∷ ps)))

-- if no such text is empty, parted texts aren't
pub parted_some : (Is : List ℕ → Type 0) (mark : ℕ) → ((text : List ℕ) → Is text → 0 < length text) → (text : List ℕ)
    → AreParted Is mark text → 0 < length text
parted_some Is mark some text h = let n = some_by_parts Is mark some h.parts h.some h.each in omega (arith, ap length h.whole)

some_by_side : (n : ℕ) (side : Side) → 0 < length (decimal n ++ side_text side)
some_by_side n sides.A = omega (arith, length-append (decimal n) (65 ∷ []))
some_by_side n sides.B = omega (arith, length-append (decimal n) (66 ∷ []))

end_some : (text : List ℕ) → IsEndText text → 0 < length text
end_some text h = omega (arith, some_by_side h.0.pair h.0.side, ap length h.2)

-- a link, the word moves, and ends
pub link_and_ends : (link moves rest bytes : List ℕ) → AreParted IsEndText 44 moves → rest ≡ codes "moves" ++ 32 ∷ moves
    → bytes ≡ link ++ 32 ∷ rest → AreMoves moves × (and_more link (moves_text moves) ≡ bytes)
link_and_ends link [] rest bytes h e d = absurd (omega (arith, parted_some IsEndText 44 end_some [] h))
link_and_ends link (m ∷ ms) rest bytes h e d = (h, sym (d ∙ ap (λ (xs : List ℕ). link ++ 32 ∷ xs) e))

word_some : (text : List ℕ) → IsWordText text → 0 < length text
word_some text h = omega (arith, decimal_nonempty h.0 (omega (arith, h.1)), ap length h.2)

-- the line of parted words
pub words_line : (bytes : List ℕ) → AreParted IsWordText 32 bytes
    → AreWords bytes × (and_more (codes "words") bytes ≡ codes "words" ++ 32 ∷ bytes)
words_line [] h = absurd (omega (arith, parted_some IsWordText 32 word_some [] h))
words_line (b ∷ bs) h = (h, refl)
