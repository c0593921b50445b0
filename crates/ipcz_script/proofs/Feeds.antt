-- Texts without line feeds, and why a text has one list of lines.
use Rattle.std.proofs.Common.{◌≡◌, ◌∙◌, ℕ, zero, suc, ◌+◌, ◌%◌, ◌/◌, ◌<◌, ◌≤◌, Bool, true, false, not, List, [], ◌∷◌, ◌++◌, length, refl, sym, ap}
use Rattle.std.proofs.Common.{subst}
use Rattle.std.proofs.Common.{arith, append_assoc}
use Rattle.std.specs.Prelude.{◌==◌, ◌&&◌, if◌then◌else◌, nat_le, nat_lt}
use Rattle.std.specs.List.{list_all, AllByRecursion}
use Rattle.std.specs.Fmt.{decimal, digits}
use Rattle.std.proofs.lemmas.Bool.{and_parts}
use Rattle.std.proofs.lemmas.List.Folds.{list_all-append}
use Rattle.std.proofs.lemmas.Bool.Decides.{nat_tests}
use Rattle.ipcz_base.specs.declared.refusal.Refusal.{Refusal}
use Rattle.ipcz_base.specs.declared.refusal.Refusal.TheVariants as refusals
use Rattle.ipcz_base.specs.Refusals.{name_of}
use Rattle.ipcz_script.specs.ScriptNames.{is_name, is_name_byte}
use Rattle.ipcz_script.specs.ReadBack.{AreLines, HaveNoFeeds, IsNamely, lacks, text_of}

-- ---- marks

pub no_mark : (mark : ℕ) (bs : List ℕ) → lacks mark (mark ∷ bs) ≡ true → ⊥
no_mark mark bs h = let same : (mark == mark) ≡ true = grind (arith, nat_tests) in grind (arith, same, h)

pub lacks-rest : (mark b : ℕ) (bs : List ℕ) → lacks mark (b ∷ bs) ≡ true → lacks mark bs ≡ true
lacks-rest mark b bs h = (and_parts (not (b == mark)) (lacks mark bs) h).1

pub lacks-append : (mark : ℕ) (a b : List ℕ) → lacks mark a ≡ true → lacks mark b ≡ true → lacks mark (a ++ b) ≡ true
lacks-append mark [] b h k = k
lacks-append mark (x ∷ a) b h k =
    let t = and_parts (not (x == mark)) (lacks mark a) h in
    ap (λ c. c && lacks mark (a ++ b)) t.0 ∙ lacks-append mark a b t.1 k

-- at its first mark a text parts in one way
pub one_parting : (mark : ℕ) (a b c d : List ℕ) → lacks mark a ≡ true → lacks mark c ≡ true → a ++ mark ∷ b ≡ c ++ mark ∷ d →
    (a ≡ c) × (b ≡ d)
one_parting mark [] b [] d h k e = (refl, cc)
one_parting mark [] b (y ∷ c) d h k e =
    let same : mark ≡ y = cc in absurd (no_mark mark c (subst (λ z. lacks mark (z ∷ c) ≡ true) (sym same) k))
one_parting mark (x ∷ a) b [] d h k e =
    let same : x ≡ mark = cc in absurd (no_mark mark a (subst (λ z. lacks mark (z ∷ a) ≡ true) same h))
one_parting mark (x ∷ a) b (y ∷ c) d h k e =
    let rest : a ++ mark ∷ b ≡ c ++ mark ∷ d = cc in
    let r = one_parting mark a b c d (lacks-rest mark x a h) (lacks-rest mark y c k) rest in
    (cc, r.1)

-- ---- lines

pub not_empty : (a b : List ℕ) (x : ℕ) → a ++ x ∷ b ≡ [] → ⊥
not_empty [] b x e = cc
not_empty (y ∷ a) b x e = cc

one_list : (xs ys : List (List ℕ)) → HaveNoFeeds xs → HaveNoFeeds ys → text_of xs ≡ text_of ys → xs ≡ ys
one_list [] [] h k e = refl
one_list [] (y ∷ ys) h k e = absurd (not_empty y (text_of ys) 10 (sym e))
one_list (x ∷ xs) [] h k e = absurd (not_empty x (text_of xs) 10 e)
one_list (x ∷ xs) (y ∷ ys) h k e =
    let r = one_parting 10 x (text_of xs) y (text_of ys) h.0 k.0 e in
    let more = one_list xs ys h.1 k.1 r.1 in
    λ i. r.0 i ∷ more i

-- a text has one list of lines
pub same_lines : (text : List ℕ) (xs ys : List (List ℕ)) → AreLines text xs → AreLines text ys → xs ≡ ys
same_lines text xs ys h k = one_list xs ys h.each k.each (h.whole ∙ sym k.whole)

pub text-append : (xs ys : List (List ℕ)) → text_of (xs ++ ys) ≡ text_of xs ++ text_of ys
text-append [] ys = refl
text-append (x ∷ xs) ys = ap (λ l. x ++ 10 ∷ l) (text-append xs ys) ∙ sym (append_assoc x (10 ∷ text_of xs) (text_of ys))

pub feeds-append : (xs ys : List (List ℕ)) → HaveNoFeeds xs → HaveNoFeeds ys → HaveNoFeeds (xs ++ ys)
feeds-append [] ys h k = k
feeds-append (x ∷ xs) ys h k = (h.0, feeds-append xs ys h.1 k)

-- ---- numbers, names and refusals

abbrev pub IsDigit : ℕ → Type 0
IsDigit b = (48 ≤ b) × (b ≤ 57)

-- the last digits of a number, so many at most, followed by more
abbrev onto : ℕ → ℕ → List ℕ → List ℕ
onto zero n acc = acc
onto (suc k) n acc = if n / 10 == 0 then (if nat_lt (n % 10) 10 then 48 + n % 10 else 87 + n % 10) ∷ acc
    else onto k (n / 10) ((if nat_lt (n % 10) 10 then 48 + n % 10 else 87 + n % 10) ∷ acc)

decimal-is : (n : ℕ) → decimal n ≡ onto 64 n []
unfolding digits
decimal-is n = refl

glyph : (d : ℕ) → d < 10 → IsDigit (if nat_lt d 10 then 48 + d else 87 + d)
glyph d h = go (nat_lt d 10) (grind (arith, h, nat_tests))
  where
    go : (c : Bool) → c ≡ true → IsDigit (if c then 48 + d else 87 + d)
    go true e = (omega (arith, h), omega (arith, h))
    go false e = cc

onto-digits : (k n : ℕ) (acc : List ℕ) → AllByRecursion IsDigit acc → AllByRecursion IsDigit (onto k n acc)
onto-digits zero n acc h = h
onto-digits (suc k) n acc h = go (n / 10 == 0) (λ acc more. onto-digits k (n / 10) acc more)
  where
    d : ℕ
    d = if nat_lt (n % 10) 10 then 48 + n % 10 else 87 + n % 10

    more : AllByRecursion IsDigit (d ∷ acc)
    more = (glyph (n % 10) (omega arith), h)

    go : (c : Bool) → ((acc : List ℕ) → AllByRecursion IsDigit acc → AllByRecursion IsDigit (onto k (n / 10) acc)) →
        AllByRecursion IsDigit (if c then d ∷ acc else onto k (n / 10) (d ∷ acc))
    go true front = more
    go false front = front (d ∷ acc) more

pub decimal_digits : (n : ℕ) → AllByRecursion IsDigit (decimal n)
decimal_digits n = subst (AllByRecursion IsDigit) (sym (decimal-is n)) (onto-digits 64 n [] tt)

onto-some : (k n b : ℕ) (acc : List ℕ) → onto k n (b ∷ acc) ≡ [] → ⊥
onto-some zero n b acc e = cc
onto-some (suc k) n b acc e = go (n / 10 == 0) (λ d. onto-some k (n / 10) d (b ∷ acc)) e
  where
    go : (c : Bool) → ((d : ℕ) → onto k (n / 10) (d ∷ b ∷ acc) ≡ [] → ⊥) →
        (if c then (if nat_lt (n % 10) 10 then 48 + n % 10 else 87 + n % 10) ∷ b ∷ acc
        else onto k (n / 10) ((if nat_lt (n % 10) 10 then 48 + n % 10 else 87 + n % 10) ∷ b ∷ acc)) ≡ [] → ⊥
    go true more h = cc
    go false more h = more _ h

-- a number has a digit
pub decimal_some : (n : ℕ) → decimal n ≡ [] → ⊥
decimal_some n e = go (n / 10 == 0) (sym (decimal-is n) ∙ e)
  where
    go : (c : Bool) → (if c then (if nat_lt (n % 10) 10 then 48 + n % 10 else 87 + n % 10) ∷ []
        else onto 63 (n / 10) ((if nat_lt (n % 10) 10 then 48 + n % 10 else 87 + n % 10) ∷ [])) ≡ [] → ⊥
    go true h = cc
    go false h = onto-some 63 (n / 10) _ [] h

digits_lack : (mark : ℕ) (bs : List ℕ) → (IsDigit mark → ⊥) → AllByRecursion IsDigit bs → lacks mark bs ≡ true
digits_lack mark [] other h = refl
digits_lack mark (b ∷ bs) other h = go (b == mark) refl (digits_lack mark bs other h.1)
  where
    go : (c : Bool) → (b == mark) ≡ c → lacks mark bs ≡ true → not c && lacks mark bs ≡ true
    go true e more = let same : b ≡ mark = grind (arith, e, nat_tests) in absurd (other (subst IsDigit same h.0))
    go false e more = more

pub decimal_lacks : (mark n : ℕ) → (IsDigit mark → ⊥) → lacks mark (decimal n) ≡ true
decimal_lacks mark n other = digits_lack mark (decimal n) other (decimal_digits n)

pub namely_lacks : (mark : ℕ) (text : List ℕ) → is_name_byte mark ≡ false → IsNamely text → lacks mark text ≡ true
namely_lacks mark [] other h = refl
namely_lacks mark (b ∷ bs) other h = go (b == mark) refl (namely_lacks mark bs other t.1)
  where
    t : (is_name_byte b ≡ true) × IsNamely bs
    t = and_parts (is_name_byte b) (list_all is_name_byte bs) h

    go : (c : Bool) → (b == mark) ≡ c → lacks mark bs ≡ true → not c && lacks mark bs ≡ true
    go true e more =
        let same : b ≡ mark = grind (arith, e, nat_tests) in
        let both : true ≡ false = sym t.0 ∙ ap is_name_byte same ∙ other in cc
    go false e more = more

-- a name has only such bytes
pub namely : (text : List ℕ) → is_name text ≡ true → IsNamely text
namely text h = (and_parts (nat_le 1 (length text) && nat_le (length text) 16) (list_all is_name_byte text) h).1

pub namely-append : (a b : List ℕ) → IsNamely a → IsNamely b → IsNamely (a ++ b)
namely-append a b h k = list_all-append is_name_byte a b ∙ ap (λ c. c && list_all is_name_byte b) h ∙ k

digits_namely : (bs : List ℕ) → AllByRecursion IsDigit bs → IsNamely bs
digits_namely [] h = refl
digits_namely (b ∷ bs) h = ap (λ c. c && list_all is_name_byte bs) (digit b h.0) ∙ digits_namely bs h.1
  where
    digit : (b : ℕ) → IsDigit b → is_name_byte b ≡ true
    digit b d =
        let low : nat_le 48 b ≡ true = grind (arith, d.0, nat_tests) in
        let high : nat_le b 57 ≡ true = grind (arith, d.1, nat_tests) in
        rw (low, high) refl

-- a number has the bytes of names
pub decimal_namely : (n : ℕ) → IsNamely (decimal n)
decimal_namely n = digits_namely (decimal n) (decimal_digits n)

pub refusal_lacks : (why : Refusal) → lacks 10 (name_of why) ≡ true
refusal_lacks refusals.OutOfMemory = refl
refusal_lacks other = refl
