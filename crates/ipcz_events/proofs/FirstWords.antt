-- The first word of a text, and what stands behind it.
use Rattle.std.proofs.Common.{◌≡◌, ◌≢◌, ◌∙◌, ℕ, Bool, true, false, List, [], ◌∷◌, ◌++◌, refl, sym, ap, arith}
use Rattle.std.specs.Prelude.{◌==◌, not, if◌then◌else◌}
use Rattle.std.proofs.lemmas.Bool.{and_parts}
use Rattle.std.proofs.lemmas.Bool.Decides.{nat_tests}
use Rattle.std.proofs.lemmas.List.Elements.{All-head, All-tail}
use Rattle.ipcz_lines.proofs.Lacking.{Lacks}
use Rattle.ipcz_script.specs.ReadBack.{lacks}
use Rattle.ipcz_events.specs.Naming.{behind_word, first_word}

no_space : (b : ℕ) → b ≢ 32 → (b == 32) ≡ false
no_space b h = go (b == 32) refl
  where
    go : (c : Bool) → (b == 32) ≡ c → (b == 32) ≡ false
    go true e = absurd (h (grind (arith, e, nat_tests)))
    go false e = e

-- up to its first space a text is its first word
word_front : (a b : List ℕ) → Lacks 32 a → (a ≡ first_word (a ++ 32 ∷ b)) × (b ≡ behind_word (a ++ 32 ∷ b))
word_front [] b h = (refl, refl)
word_front (x ∷ a) b h =
    let no = no_space x (All-head (λ b. b ≢ 32) x a h) in
    let t = word_front a b (All-tail (λ b. b ≢ 32) x a h) in (
      ap (λ w. x ∷ w) t.0 ∙ ap (λ c. if c then [] else x ∷ first_word (a ++ 32 ∷ b)) (sym no),
      t.1 ∙ ap (λ c. if c then a ++ 32 ∷ b else behind_word (a ++ 32 ∷ b)) (sym no),
    )

pub word_parted : (a b text : List ℕ) → Lacks 32 a → text ≡ a ++ 32 ∷ b → (a ≡ first_word text) × (b ≡ behind_word text)
word_parted a b text h e = let t = word_front a b h in (t.0 ∙ ap first_word (sym e), t.1 ∙ ap behind_word (sym e))

-- a text without a space is one word
pub word_whole : (text : List ℕ) → Lacks 32 text → (text ≡ first_word text) × ([] ≡ behind_word text)
word_whole [] h = (refl, refl)
word_whole (x ∷ text) h =
    let no = no_space x (All-head (λ b. b ≢ 32) x text h) in
    let t = word_whole text (All-tail (λ b. b ≢ 32) x text h) in (
      ap (λ w. x ∷ w) t.0 ∙ ap (λ c. if c then [] else x ∷ first_word text) (sym no),
      t.1 ∙ ap (λ c. if c then text else behind_word text) (sym no),
    )

-- the same of a text of which a test says that it lacks the space
pub tested_front : (a b : List ℕ) → lacks 32 a ≡ true → (first_word (a ++ 32 ∷ b) ≡ a) × (behind_word (a ++ 32 ∷ b) ≡ b)
tested_front [] b h = (refl, refl)
tested_front (x ∷ a) b h =
    let parts = and_parts (not (x == 32)) (lacks 32 a) h in
    let no : (x == 32) ≡ false = flipped (x == 32) parts.0 in
    let t = tested_front a b parts.1 in (
      ap (λ c. if c then [] else x ∷ first_word (a ++ 32 ∷ b)) no ∙ ap (λ w. x ∷ w) t.0,
      ap (λ c. if c then a ++ 32 ∷ b else behind_word (a ++ 32 ∷ b)) no ∙ t.1,
    )
  where
    flipped : (c : Bool) → not c ≡ true → c ≡ false
    flipped true e = cc
    flipped false e = refl
