-- Why a text says one thing.
use Rattle.std.proofs.Common.{◌≡◌, ◌∙◌, ◌<◌, ℕ, true, false, List, [], ◌∷◌, ◌++◌, map, refl}
use Rattle.std.proofs.Common.{sym, ap, subst, arith, append_assoc, codes, drop}
use Rattle.std.specs.Prelude.{if◌then◌else◌, bytes_eq}
use Rattle.std.specs.List.{AllByRecursion}
use Rattle.std.specs.Fmt.{decimal}
use Rattle.std.proofs.lemmas.Fmt.{decimal_injective}
use Rattle.ipcz_base.specs.declared.refusal.Refusal.{Refusal}
use Rattle.ipcz_base.specs.declared.refusal.Refusal.TheVariants as refusals
use Rattle.ipcz_script.specs.ScriptNames.{is_name_byte}
use Rattle.ipcz_script.specs.ReadBack.{joined, lacks}
use Rattle.ipcz_script.specs.Sayings.{Answer, Done, Number, Parcel, Refused, UnknownName, Away, Saying, Open, Put, Get, Close, Settled}
use Rattle.ipcz_script.specs.Sayings.{Unsettled, Words, Turn, AnswerHasBits, AnswerHasNames, HasBits, IsName, NamesAreNames}
use Rattle.ipcz_script.specs.Sayings.{NumbersHaveBits, TextsSayOneThing, answer_text, saying_text}
use Rattle.ipcz_script.proofs.Feeds.{IsDigit, decimal_digits, decimal_lacks, decimal_some, lacks-append, lacks-rest, namely, namely_lacks}
use Rattle.ipcz_script.proofs.Feeds.{no_mark, not_empty, one_parting, same_lines}
use Rattle.ipcz_script.proofs.SendLines.{rests_agree}

-- ---- words with a mark between each two

-- a word that has bytes, none of them the mark
abbrev pub IsWord : ℕ → List ℕ → Type 0
IsWord mark word = (lacks mark word ≡ true) × (word ≡ [] → ⊥)

no-inside : (mark : ℕ) (a b : List ℕ) → lacks mark (a ++ mark ∷ b) ≡ true → ⊥
no-inside mark [] b h = no_mark mark b h
no-inside mark (x ∷ a) b h = no-inside mark a b (lacks-rest mark x (a ++ mark ∷ b) h)

pub joined-read : (mark : ℕ) (xs ys : List (List ℕ)) → AllByRecursion (IsWord mark) xs → AllByRecursion (IsWord mark) ys →
    joined mark xs ≡ joined mark ys → xs ≡ ys
joined-read mark [] [] h k e = refl
joined-read mark [] (y ∷ []) h k e = absurd (k.0.1 (sym e))
joined-read mark [] (y ∷ z ∷ ys) h k e = absurd (not_empty y (joined mark (z ∷ ys)) mark (sym e))
joined-read mark (x ∷ []) [] h k e = absurd (h.0.1 e)
joined-read mark (x ∷ []) (y ∷ []) h k e = λ i. e i ∷ []
joined-read mark (x ∷ []) (y ∷ z ∷ ys) h k e =
    absurd (no-inside mark y (joined mark (z ∷ ys)) (subst (λ l. lacks mark l ≡ true) e h.0.0))
joined-read mark (x ∷ w ∷ xs) [] h k e = absurd (not_empty x (joined mark (w ∷ xs)) mark e)
joined-read mark (x ∷ w ∷ xs) (y ∷ []) h k e =
    absurd (no-inside mark x (joined mark (w ∷ xs)) (subst (λ l. lacks mark l ≡ true) (sym e) k.0.0))
joined-read mark (x ∷ w ∷ xs) (y ∷ z ∷ ys) h k e =
    let t = one_parting mark x (joined mark (w ∷ xs)) y (joined mark (z ∷ ys)) h.0.0 k.0.0 e in
    let more = joined-read mark (w ∷ xs) (z ∷ ys) h.1 k.1 t.1 in
    λ i. t.0 i ∷ more i

joined-lacks : (mark other : ℕ) (xs : List (List ℕ)) → (lacks mark (other ∷ []) ≡ true) → AllByRecursion (IsWord mark) xs →
    lacks mark (joined other xs) ≡ true
joined-lacks mark other [] apart h = refl
joined-lacks mark other (x ∷ []) apart h = h.0.0
joined-lacks mark other (x ∷ y ∷ xs) apart h =
    lacks-append mark x (other ∷ joined other (y ∷ xs)) h.0.0
    (lacks-append mark (other ∷ []) (joined other (y ∷ xs)) apart (joined-lacks mark other (y ∷ xs) apart h.1))

same-front : (x : ℕ) (a b : List ℕ) → a ++ x ∷ [] ≡ b ++ x ∷ [] → a ≡ b
same-front x [] [] e = refl
same-front x [] (y ∷ b) e = let rest : [] ≡ b ++ x ∷ [] = ap (drop {A = ℕ} 1) e in absurd (not_empty b [] x (sym rest))
same-front x (y ∷ a) [] e = let rest : a ++ x ∷ [] ≡ [] = ap (drop {A = ℕ} 1) e in absurd (not_empty a [] x rest)
same-front x (y ∷ a) (z ∷ b) e =
    let one : y ≡ z = cc in
    let more = same-front x a b (ap (drop {A = ℕ} 1) e) in
    λ i. one i ∷ more i

-- ---- names and numbers

not-none : (name : List ℕ) → IsName name → name ≡ [] → ⊥
not-none [] h e = cc
not-none (b ∷ name) h e = cc

-- a name is a word
name-word : (mark : ℕ) (name : List ℕ) → is_name_byte mark ≡ false → IsName name → IsWord mark name
name-word mark name other h = (namely_lacks mark name other (namely name h), not-none name h)

name-words : (mark : ℕ) (names : List (List ℕ)) → is_name_byte mark ≡ false → AllByRecursion IsName names →
    AllByRecursion (IsWord mark) names
name-words mark [] other h = tt
name-words mark (n ∷ names) other h = (name-word mark n other h.0, name-words mark names other h.1)

name-lacks : (name : List ℕ) → IsName name → lacks 32 name ≡ true
name-lacks name h = namely_lacks 32 name refl (namely name h)

pub number-lacks : (n : ℕ) → lacks 32 (decimal n) ≡ true
number-lacks n = decimal_lacks 32 n (λ d. absurd (omega (arith, d.0)))

number-words : (ns : List ℕ) → AllByRecursion (IsWord 32) (map decimal ns)
number-words [] = tt
number-words (n ∷ ns) = ((number-lacks n, decimal_some n), number-words ns)

numbers-read : (ms ns : List ℕ) → AllByRecursion HasBits ms → AllByRecursion HasBits ns → map decimal ms ≡ map decimal ns → ms ≡ ns
numbers-read [] [] h k e = refl
numbers-read [] (n ∷ ns) h k e = cc
numbers-read (m ∷ ms) [] h k e = cc
numbers-read (m ∷ ms) (n ∷ ns) h k e =
    let first : decimal m ≡ decimal n = cc in
    let rest : map decimal ms ≡ map decimal ns = cc in
    let one = decimal_injective m n h.0 k.0 first in
    let more = numbers-read ms ns h.1 k.1 rest in
    λ i. one i ∷ more i

-- ---- answers

pub first : List ℕ → ℕ
first [] = 0
first (b ∷ bs) = b

begins : (bs rest : List ℕ) → AllByRecursion IsDigit bs → (bs ≡ [] → ⊥) → IsDigit (first (bs ++ rest))
unfolding first
begins [] rest h some = absurd (some refl)
begins (b ∷ bs) rest h some = h.0

begins-number : (n : ℕ) → IsDigit (first (decimal n))
unfolding first
begins-number n = go (decimal n) (decimal_digits n) (decimal_some n)
  where
    go : (bs : List ℕ) → AllByRecursion IsDigit bs → (bs ≡ [] → ⊥) → IsDigit (first bs)
    go [] h some = absurd (some refl)
    go (b ∷ bs) h some = h.0

-- an answer that is a word
abbrev IsWorded : Answer → Type 0
IsWorded (Number n) = ⊥
IsWorded (Parcel n portals bytes) = ⊥
IsWorded other = Unit {0}

abbrev refusal_named : List ℕ → Answer
refusal_named word =
    if bytes_eq word (codes "OutOfMemory") then Refused refusals.OutOfMemory
    else if bytes_eq word (codes "Empty") then Refused refusals.Empty
    else if bytes_eq word (codes "PeerClosed") then Refused refusals.PeerClosed
    else if bytes_eq word (codes "NoWord") then Refused refusals.NoWord
    else if bytes_eq word (codes "SelfAttach") then Refused refusals.SelfAttach
    else if bytes_eq word (codes "PeerAttach") then Refused refusals.PeerAttach
    else if bytes_eq word (codes "Stranger") then Refused refusals.Stranger
    else if bytes_eq word (codes "NumbersEnd") then Refused refusals.NumbersEnd
    else if bytes_eq word (codes "BadData") then Refused refusals.BadData
    else if bytes_eq word (codes "TooMany") then Refused refusals.TooMany
    else if bytes_eq word (codes "Raced") then Refused refusals.Raced
    else if bytes_eq word (codes "Occupied") then Refused refusals.Occupied
    else if bytes_eq word (codes "Passed") then Refused refusals.Passed
    else Refused refusals.Forged

-- the answer that a word is
abbrev answer_named : List ℕ → Answer
answer_named word =
    if bytes_eq word (codes "ok") then Done
    else if bytes_eq word (codes "UnknownName") then UnknownName
    else if bytes_eq word (codes "Away") then Away
    else refusal_named word

named-refusal : (why : Refusal) → answer_named (answer_text (Refused why)) ≡ Refused why
named-refusal refusals.OutOfMemory = refl
named-refusal other = refl

named-answer : (r : Answer) → IsWorded r → answer_named (answer_text r) ≡ r
named-answer Done h = refl
named-answer (Number n) h = absurd h
named-answer (Parcel n portals bytes) h = absurd h
named-answer (Refused why) h = named-refusal why
named-answer UnknownName h = refl
named-answer Away h = refl

letter : (b : ℕ) → 57 < b → IsDigit b → ⊥
letter b h d = omega (arith, h, d.1)

refusal-letter : (why : Refusal) → 57 < first (answer_text (Refused why))
unfolding first
refusal-letter refusals.OutOfMemory = omega arith
refusal-letter other = omega arith

-- a word begins with a letter, and so is no number
no-number : (r : Answer) → IsWorded r → IsDigit (first (answer_text r)) → ⊥
unfolding first
no-number Done h d = letter 111 (omega arith) d
no-number (Number n) h d = h
no-number (Parcel n portals bytes) h d = h
no-number (Refused why) h d = letter (first (answer_text (Refused why))) (refusal-letter why) d
no-number UnknownName h d = letter 85 (omega arith) d
no-number Away h d = letter 65 (omega arith) d

numbered-begins : (n : ℕ) (rest : List ℕ) → IsDigit (first (decimal n ++ rest))
numbered-begins n rest = begins (decimal n) rest (decimal_digits n) (decimal_some n)

same_parcel : (m n : ℕ) (ps qs : List (List ℕ)) (bs cs : List ℕ) → AllByRecursion IsName ps → AllByRecursion IsName qs → HasBits m →
    HasBits n → answer_text (Parcel m ps bs) ≡ answer_text (Parcel n qs cs) → Parcel m ps bs ≡ Parcel n qs cs
same_parcel m n ps qs bs cs h k hm hn e =
    let t = one_parting 32 (decimal m) _ (decimal n) _ (number-lacks m) (number-lacks n) e in
    let lists : (joined 44 ps ++ 93 ∷ []) ++ 32 ∷ 34 ∷ (bs ++ 34 ∷ []) ≡ (joined 44 qs ++ 93 ∷ []) ++ 32 ∷ 34 ∷ (cs ++ 34 ∷ []) =
    ap (drop {A = ℕ} 1) t.1 in
    let u = one_parting 93 (joined 44 ps) (32 ∷ 34 ∷ (bs ++ 34 ∷ [])) (joined 44 qs) (32 ∷ 34 ∷ (cs ++ 34 ∷ []))
    (joined-lacks 93 44 ps refl (name-words 93 ps refl h)) (joined-lacks 93 44 qs refl (name-words 93 qs refl k))
    (sym (append_assoc (joined 44 ps) (93 ∷ []) (32 ∷ 34 ∷ (bs ++ 34 ∷ []))) ∙ lists
    ∙ append_assoc (joined 44 qs) (93 ∷ []) (32 ∷ 34 ∷ (cs ++ 34 ∷ []))) in
    let number = decimal_injective m n hm hn t.0 in
    let portals = joined-read 44 ps qs (name-words 44 ps refl h) (name-words 44 qs refl k) u.0 in
    let bytes = same-front 34 bs cs (ap (drop {A = ℕ} 2) u.1) in
    λ i. Parcel (number i) (portals i) (bytes i)

same_answer : (r q : Answer) → AnswerHasNames r → AnswerHasNames q → AnswerHasBits r → AnswerHasBits q → answer_text r ≡ answer_text q →
    r ≡ q
same_answer (Number m) (Number n) h k hb kb e = ap Number (decimal_injective m n hb kb e)
same_answer (Number m) (Parcel n qs cs) h k hb kb e =
    absurd (no-inside 32 (decimal n) _ (subst (λ l. lacks 32 l ≡ true) e (number-lacks m)))
same_answer (Parcel m ps bs) (Number n) h k hb kb e =
    absurd (no-inside 32 (decimal m) _ (subst (λ l. lacks 32 l ≡ true) (sym e) (number-lacks n)))
same_answer (Parcel m ps bs) (Parcel n qs cs) h k hb kb e = same_parcel m n ps qs bs cs h k hb kb e
same_answer (Number m) q h k hb kb e = absurd (no-number q tt (subst IsDigit (ap first e) (begins-number m)))
same_answer (Parcel m ps bs) q h k hb kb e = absurd (no-number q tt (subst IsDigit (ap first e) (numbered-begins m _)))
same_answer r (Number n) h k hb kb e = absurd (no-number r tt (subst IsDigit (ap first (sym e)) (begins-number n)))
same_answer r (Parcel n qs cs) h k hb kb e = absurd (no-number r tt (subst IsDigit (ap first (sym e)) (numbered-begins n _)))
same_answer r q h k hb kb e = sym (named-answer r tt) ∙ ap answer_named e ∙ named-answer q tt

-- ---- lines

-- the letter that a line begins with, which tells its form
abbrev letter_of : Saying → ℕ
letter_of (Open a b r) = 111
letter_of (Put a r) = 112
letter_of (Get a r) = 103
letter_of (Close a r) = 99
letter_of Settled = 115
letter_of Unsettled = 117
letter_of (Words ws) = 119
letter_of (Turn node deed) = 110

pub begins-with : (x : Saying) → first (saying_text x) ≡ letter_of x
unfolding first
begins-with (Open a b r) = refl
begins-with (Put a r) = refl
begins-with (Get a r) = refl
begins-with (Close a r) = refl
begins-with Settled = refl
begins-with Unsettled = refl
begins-with (Words []) = refl
begins-with (Words (w ∷ ws)) = refl
begins-with (Turn node deed) = refl

-- a name and what stands behind it
one_name : (a b r q : List ℕ) → IsName a → IsName b → a ++ 32 ∷ r ≡ b ++ 32 ∷ q → (a ≡ b) × (r ≡ q)
one_name a b r q h k e = one_parting 32 a r b q (name-lacks a h) (name-lacks b k) e

pub same_saying : (x y : Saying) → NamesAreNames x → NamesAreNames y → NumbersHaveBits x → NumbersHaveBits y →
    saying_text x ≡ saying_text y → x ≡ y
same_saying (Open a b r) (Open c d q) h k hb kb e =
    let t = one_name a c _ _ h.0 k.0 (rests_agree (codes "open ") _ _ e) in
    let u = one_name b d _ _ h.1 k.1 t.1 in
    let answers = same_answer r q h.2 k.2 hb kb u.1 in
    λ i. Open (t.0 i) (u.0 i) (answers i)
same_saying (Put a r) (Put b q) h k hb kb e =
    let t = one_name a b _ _ h.0 k.0 (rests_agree (codes "put ") _ _ e) in
    let answers = same_answer r q h.1 k.1 hb kb t.1 in
    λ i. Put (t.0 i) (answers i)
same_saying (Get a r) (Get b q) h k hb kb e =
    let t = one_name a b _ _ h.0 k.0 (rests_agree (codes "get ") _ _ e) in
    let answers = same_answer r q h.1 k.1 hb kb t.1 in
    λ i. Get (t.0 i) (answers i)
same_saying (Close a r) (Close b q) h k hb kb e =
    let t = one_name a b _ _ h.0 k.0 (rests_agree (codes "close ") _ _ e) in
    let answers = same_answer r q h.1 k.1 hb kb t.1 in
    λ i. Close (t.0 i) (answers i)
same_saying Settled Settled h k hb kb e = refl
same_saying Unsettled Unsettled h k hb kb e = refl
same_saying (Words ms) (Words ns) h k hb kb e =
    let all = joined-read 32 (codes "words" ∷ map decimal ms) (codes "words" ∷ map decimal ns) ((refl, λ i. cc), number-words ms)
    ((refl, λ i. cc), number-words ns) e in
    ap Words (numbers-read ms ns hb kb (ap (drop {A = List ℕ} 1) all))
same_saying (Turn m x) (Turn n y) h k hb kb e =
    let t = one_parting 32 (decimal m ++ 58 ∷ []) x (decimal n ++ 58 ∷ []) y
    (lacks-append 32 (decimal m) (58 ∷ []) (number-lacks m) refl) (lacks-append 32 (decimal n) (58 ∷ []) (number-lacks n) refl)
    (ap (drop {A = ℕ} 1) e) in
    let number = decimal_injective m n hb kb (same-front 58 (decimal m) (decimal n) t.0) in
    λ i. Turn (number i) (t.1 i)
same_saying x y h k hb kb e = absurd (omega (arith, sym (begins-with x) ∙ ap first e ∙ begins-with y))

same_all : (xs ys : List Saying) → AllByRecursion NamesAreNames xs → AllByRecursion NamesAreNames ys → AllByRecursion NumbersHaveBits xs →
    AllByRecursion NumbersHaveBits ys → map saying_text xs ≡ map saying_text ys → xs ≡ ys
same_all [] [] h k hb kb e = refl
same_all [] (y ∷ ys) h k hb kb e = cc
same_all (x ∷ xs) [] h k hb kb e = cc
same_all (x ∷ xs) (y ∷ ys) h k hb kb e =
    let head : saying_text x ≡ saying_text y = cc in
    let rest : map saying_text xs ≡ map saying_text ys = cc in
    let one = same_saying x y h.0 k.0 hb.0 kb.0 head in
    let more = same_all xs ys h.1 k.1 hb.1 kb.1 rest in
    λ i. one i ∷ more i

pub texts_say_one_thing : TextsSayOneThing
texts_say_one_thing text xs ys x y hb kb =
    same_all xs ys x.names y.names hb kb (same_lines text (map saying_text xs) (map saying_text ys) x.lines y.lines)
