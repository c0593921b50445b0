-- The lines of a text that comes in pieces.
use Rattle.std.specs.Prelude.{ℕ, suc, ◌≡◌, ◌<◌, ◌≤◌, ◌+◌, ◌-◌, ◌*◌, ◌==◌, Bool, cond, true, false, not, List, [], ◌∷◌, ◌++◌, length, take, drop, nat_eq, nat_lt, if◌then◌else◌, Option, Some, None, refl}
use Rattle.std.proofs.Common.{arith, ap, ◌∙◌, sym, append_assoc, append-nil, length-append}
use Rattle.std.proofs.lemmas.Bool.Decides.{nat_tests}
use Rattle.std.proofs.lemmas.List.{take_all, drop_all}
use Rattle.std.specs.Io.KnownBytes.{Consumes, IsAtEnd}
use Rattle.ipcz_device.proofs.KnownBytes.{consumes_two}
use Rattle.ipcz_log.specs.Pieces.{ConsumesSome, IsCut, Pieces, ReadsLine, ReadsPiece}
use Rattle.ipcz_log.specs.Verdicts.{line_len, onto_first, text_lines}

-- a text that isn't empty is its first line and those of what stands behind it
pub cut : (bs : List ℕ) → 0 < length bs → text_lines bs ≡ take (line_len bs) bs ∷ text_lines (drop (line_len bs + 1) bs)
cut [] h = absurd (omega (arith, h))
cut (b ∷ bs) h = go (nat_eq b 10) (λ k. cut bs k)
  where
    more : (bs : List ℕ) → (0 < length bs → text_lines bs ≡ take (line_len bs) bs ∷ text_lines (drop (line_len bs + 1) bs)) →
        onto_first b (text_lines bs) ≡ take (suc (line_len bs)) (b ∷ bs) ∷ text_lines (drop (suc (line_len bs) + 1) (b ∷ bs))
    more [] rec = refl
    more (x ∷ xs) rec =
        let n : ℕ = line_len (x ∷ xs) in
        let e : suc n + 1 ≡ suc (n + 1) = omega arith in
        ap (onto_first b) (rec (omega arith)) ∙ ap (λ k. (b ∷ take n (x ∷ xs)) ∷ text_lines (drop k (b ∷ x ∷ xs))) (sym e)

    go : (c : Bool) → (0 < length bs → text_lines bs ≡ take (line_len bs) bs ∷ text_lines (drop (line_len bs + 1) bs)) → (if c then [] ∷ text_lines bs else onto_first b (text_lines bs)) ≡
        take (if c then 0 else suc (line_len bs)) (b ∷ bs) ∷ text_lines (drop ((if c then 0 else suc (line_len bs)) + 1) (b ∷ bs))
    go true rec = refl
    go false rec = more bs rec

len_within : (u : List ℕ) → line_len u ≤ length u
len_within [] = omega arith
len_within (x ∷ u) = go (nat_eq x 10) (len_within u)
  where
    go : (c : Bool) → line_len u ≤ length u → (if c then 0 else suc (line_len u)) ≤ suc (length u)
    go true h = omega arith
    go false h = omega (arith, h)

-- ---- a line that isn't at its end

-- what stands behind a text without a newline goes on with its line
pub len_behind : (l u : List ℕ) → line_len l ≡ length l → line_len (l ++ u) ≡ length l + line_len u
len_behind [] u e = omega arith
len_behind (b ∷ l) u e = go (nat_eq b 10) e (λ k. len_behind l u k)
  where
    go : (c : Bool) → (if c then 0 else suc (line_len l)) ≡ suc (length l) → (line_len l ≡ length l → line_len (l ++ u) ≡ length l + line_len u) →
        (if c then 0 else suc (line_len (l ++ u))) ≡ suc (length l) + line_len u
    go true k rec = absurd (omega (arith, k))
    go false k rec = let r : line_len (l ++ u) ≡ length l + line_len u = rec (omega (arith, k)) in omega (arith, r)

-- the line ends in what comes behind it
pub ends_in : (u b : List ℕ) → line_len u < length u → text_lines (u ++ b) ≡ take (line_len u) u ∷ text_lines (drop (line_len u + 1) u ++ b)
ends_in [] b h = absurd (omega (arith, h))
ends_in (x ∷ u) b h = go (nat_eq x 10) h (λ k. ends_in u b k)
  where
    go : (c : Bool) → (if c then 0 else suc (line_len u)) < suc (length u) → (line_len u < length u → text_lines (u ++ b) ≡ take (line_len u) u ∷ text_lines (drop (line_len u + 1) u ++ b)) →
        (if c then [] ∷ text_lines (u ++ b) else onto_first x (text_lines (u ++ b))) ≡ take (if c then 0 else suc (line_len u)) (x ∷ u) ∷ text_lines (drop ((if c then 0 else suc (line_len u)) + 1) (x ∷ u) ++ b)
    go true k rec = refl
    go false k rec =
        let n : ℕ = line_len u in
        let e : suc n + 1 ≡ suc (n + 1) = omega arith in
        ap (onto_first x) (rec (omega (arith, k))) ∙ ap (λ m. (x ∷ take n u) ∷ text_lines (drop m (x ∷ u) ++ b)) (sym e)

pub ends_behind : (l u b : List ℕ) → line_len l ≡ length l → line_len u < length u → text_lines (l ++ (u ++ b)) ≡ (l ++ take (line_len u) u) ∷ text_lines (drop (line_len u + 1) u ++ b)
ends_behind [] u b e h = ends_in u b h
ends_behind (x ∷ l) u b e h = go (nat_eq x 10) e (λ k. ends_behind l u b k h)
  where
    go : (c : Bool) → (if c then 0 else suc (line_len l)) ≡ suc (length l) → (line_len l ≡ length l → text_lines (l ++ (u ++ b)) ≡ (l ++ take (line_len u) u) ∷ text_lines (drop (line_len u + 1) u ++ b)) →
        (if c then [] ∷ text_lines (l ++ (u ++ b)) else onto_first x (text_lines (l ++ (u ++ b)))) ≡ ((x ∷ l) ++ take (line_len u) u) ∷ text_lines (drop (line_len u + 1) u ++ b)
    go true k rec = absurd (omega (arith, k))
    go false k rec = ap (onto_first x) (rec (omega (arith, k)))

-- the last line has no newline
pub last_line : (l : List ℕ) → line_len l ≡ length l → 0 < length l → text_lines l ≡ l ∷ []
last_line [] e h = absurd (omega (arith, h))
last_line (x ∷ l) e h = go (nat_eq x 10) e (λ k j. last_line l k j)
  where
    more : (l : List ℕ) → (0 < length l → text_lines l ≡ l ∷ []) → onto_first x (text_lines l) ≡ (x ∷ l) ∷ []
    more [] rec = refl
    more (y ∷ ys) rec = ap (onto_first x) (rec (omega arith))

    go : (c : Bool) → (if c then 0 else suc (line_len l)) ≡ suc (length l) → (line_len l ≡ length l → 0 < length l → text_lines l ≡ l ∷ []) → (if c then [] ∷ text_lines l else onto_first x (text_lines l)) ≡ (x ∷ l) ∷ []
    go true k rec = absurd (omega (arith, k))
    go false k rec = more l (rec (omega (arith, k)))

-- ---- reading a line

nil_of : (l : List ℕ) → length l ≡ 0 → l ≡ []
nil_of [] e = refl
nil_of (x ∷ l) e = absurd (omega (arith, e))

-- a line is read, and isn't at its end yet; `old` is how it began, without a line
pub record IsReading (before now : Option (List ℕ)) (old p : Pieces) : Type 0 where
  pub read : List ℕ
  pub taken : Consumes before now read
  pub ended : (old.ended ≡ true → IsAtEnd before) → p.ended ≡ true → IsAtEnd now
  pub over : old.ended ≡ true → (read ≡ []) × (p.ended ≡ true)
  pub one : line_len p.line ≡ length p.line
  pub within : length p.line + length p.unread ≤ 1073745920 + length old.unread
  pub parts : old.unread ++ read ≡ p.line ++ p.unread

pub nothing : (now : Option (List ℕ)) → Consumes now now []
nothing None = tt
nothing (Some xs) = refl

pub consumes_more : (before now after : Option (List ℕ)) → ConsumesSome before now → ConsumesSome now after → ConsumesSome before after
consumes_more before now after some more = (some.0 ++ more.0, consumes_two before now after some.0 more.0 some.1 more.1)

-- what was read before the first piece
pub begins : (now : Option (List ℕ)) (old p : Pieces) → p.line ≡ [] → p.unread ≡ old.unread → p.ended ≡ old.ended → IsReading now now old p
begins now old p line unread ended = record {
  read = [];
  taken = nothing now;
  ended = λ h e. h (sym ended ∙ e);
  over = λ e. (refl, ended ∙ e);
  one = ap line_len line ∙ sym (ap length line);
  within = let a : length p.line ≡ 0 = ap length line in let b : length p.unread ≡ length old.unread = ap length unread in omega (arith, a, b);
  parts = append-nil old.unread ∙ sym (ap (λ l. l ++ p.unread) line ∙ unread);
}

-- the bytes behind what was read belong to the line and to what isn't in it yet
behind_all : (first read line unread behind : List ℕ) → first ++ read ≡ line ++ unread → first ++ (read ++ behind) ≡ line ++ (unread ++ behind)
behind_all first read line unread behind e = sym (append_assoc first read behind) ∙ ap (λ l. l ++ behind) e ∙ append_assoc line unread behind

-- the line's newline was found
pub reads_line : (before now : Option (List ℕ)) (old p q : Pieces) → (old.ended ≡ true → IsAtEnd before) → IsReading before now old p → q.line ≡ p.line ++ take (line_len p.unread) p.unread →
    q.unread ≡ drop (line_len p.unread + 1) p.unread → q.ended ≡ p.ended → nat_lt (line_len p.unread) (length p.unread) ≡ true → ReadsLine before now old q true
reads_line before now old p q end law line unread ended found = record {
  read = law.read;
  taken = law.taken;
  ended = λ e. law.ended end (sym ended ∙ e);
  over = λ e. ((law.over e).0, ended ∙ (law.over e).1);
  lines = λ behind h.
      let less : line_len p.unread < length p.unread = grind (arith, nat_tests, found) in
      ap text_lines (behind_all old.unread law.read p.line p.unread behind law.parts) ∙ ends_behind p.line p.unread behind law.one less ∙
      ap (λ l. l ∷ text_lines (drop (line_len p.unread + 1) p.unread ++ behind)) (sym line) ∙ ap (λ u. q.line ∷ text_lines (u ++ behind)) (sym unread);
}

-- all that was read is in the line, which isn't at its end
pub goes_on : (before now : Option (List ℕ)) (old p q : Pieces) → IsReading before now old p → q.line ≡ p.line ++ take (line_len p.unread) p.unread →
    q.unread ≡ drop (line_len p.unread + 1) p.unread → q.ended ≡ p.ended → nat_lt (line_len p.unread) (length p.unread) ≡ false →
    (q.line ≡ p.line ++ p.unread) × (q.unread ≡ []) × IsReading before now old q
goes_on before now old p q law line unread ended missed =
    let most = len_within p.unread in
    let all : line_len p.unread ≡ length p.unread = grind (arith, nat_tests, missed, most) in
    let is : q.line ≡ p.line ++ p.unread = line ∙ ap (λ l. p.line ++ l) (take_all (line_len p.unread) p.unread (omega (arith, all))) in
    let rest : q.unread ≡ [] = unread ∙ drop_all (line_len p.unread + 1) p.unread (omega (arith, all)) in
    let size : length q.line ≡ length p.line + length p.unread = ap length is ∙ length-append p.line p.unread in
    let none : length q.unread ≡ 0 = ap length rest in (
      is,
      rest,
      record {
        read = law.read;
        taken = law.taken;
        ended = λ h e. law.ended h (sym ended ∙ e);
        over = λ e. ((law.over e).0, ended ∙ (law.over e).1);
        one = ap line_len is ∙ len_behind p.line p.unread law.one ∙ ap (λ n. length p.line + n) all ∙ sym size;
        within = let w = law.within in omega (arith, size, none, w);
        parts = law.parts ∙ sym is ∙ sym (append-nil q.line) ∙ ap (λ u. q.line ++ u) (sym rest);
      },
    )

-- the text is at its end, and the last line, if one is begun, is the next
pub reads_last : (before now : Option (List ℕ)) (old p q : Pieces) (none : Bool) → (old.ended ≡ true → IsAtEnd before) → IsReading before now old p → q.line ≡ p.line ++ take (line_len p.unread) p.unread →
    q.unread ≡ drop (line_len p.unread + 1) p.unread → q.ended ≡ p.ended → nat_lt (line_len p.unread) (length p.unread) ≡ false → q.ended ≡ true →
    none ≡ (length q.line == 0) → ReadsLine before now old q (not none)
reads_last before now old p q none end law line unread ended missed over empty = record {
  read = r.read;
  taken = r.taken;
  ended = λ e. r.ended end e;
  over = r.over;
  lines = λ behind h. cut_of none empty behind (h over);
}
  where
    gone : (q.line ≡ p.line ++ p.unread) × (q.unread ≡ []) × IsReading before now old q
    gone = goes_on before now old p q law line unread ended missed

    r : IsReading before now old q
    r = gone.2

    all : (behind : List ℕ) → behind ≡ [] → old.unread ++ (r.read ++ behind) ≡ q.line
    all behind e = ap (λ b. old.unread ++ (r.read ++ b)) e ∙ behind_all old.unread r.read q.line q.unread [] r.parts ∙ ap (λ u. q.line ++ (u ++ [])) gone.1 ∙ append-nil q.line

    left : (behind : List ℕ) → behind ≡ [] → q.unread ++ behind ≡ []
    left behind e = ap (λ b. q.unread ++ b) e ∙ append-nil q.unread ∙ gone.1

    cut_of : (c : Bool) → c ≡ (length q.line == 0) → (behind : List ℕ) → behind ≡ [] → IsCut (not c) (text_lines (old.unread ++ (r.read ++ behind))) q (text_lines (q.unread ++ behind))
    cut_of true c behind e =
        let no : length q.line ≡ 0 = grind (arith, nat_tests, c) in
        let is : q.line ≡ [] = nil_of q.line no in
        (ap text_lines (all behind e ∙ is), is, gone.1, over)
    cut_of false c behind e =
        let some : 0 < length q.line = grind (arith, nat_tests, c) in
        ap text_lines (all behind e) ∙ last_line q.line r.one some ∙ ap (λ t. q.line ∷ text_lines t) (sym (left behind e))

-- a piece more was read
pub reads_more : (before now after : Option (List ℕ)) (old p q r : Pieces) → IsReading before now old p → q.line ≡ p.line ++ take (line_len p.unread) p.unread →
    q.unread ≡ drop (line_len p.unread + 1) p.unread → q.ended ≡ p.ended → nat_lt (line_len p.unread) (length p.unread) ≡ false → q.ended ≡ false →
    length q.line ≤ 1073741824 → r.line ≡ q.line → ReadsPiece now after r →
    IsReading before after old r × (2 * (1073745920 + length old.unread - (length r.line + length r.unread)) + cond r.ended 0 1 < 2 * (1073745920 + length old.unread - (length p.line + length p.unread)) + cond p.ended 0 1)
reads_more before now after old p q r law line unread ended missed on few same piece = (
  record {
    read = s.read ++ r.unread;
    taken = consumes_two before now after s.read r.unread s.taken piece.taken;
    ended = λ h e. piece.ended e;
    over = λ e. absurd (differ ((s.over e).1));
    one = ap line_len same ∙ s.one ∙ sym (ap length same);
    within = let n = piece.few in omega (arith, size, few, n);
    parts = sym (append_assoc old.unread s.read r.unread) ∙ ap (λ l. l ++ r.unread) (s.parts ∙ ap (λ u. q.line ++ u) gone.1 ∙ append-nil q.line) ∙ ap (λ l. l ++ r.unread) (sym same);
  },
  less r.ended refl,
)
  where
    gone : (q.line ≡ p.line ++ p.unread) × (q.unread ≡ []) × IsReading before now old q
    gone = goes_on before now old p q law line unread ended missed

    s : IsReading before now old q
    s = gone.2

    size : length r.line ≡ length q.line
    size = ap length same

    sum : length q.line ≡ length p.line + length p.unread
    sum = ap length gone.0 ∙ length-append p.line p.unread

    differ : q.ended ≡ true → ⊥
    differ e = grind (arith, on, e)

    was : p.ended ≡ false
    was = sym ended ∙ on

    less : (c : Bool) → r.ended ≡ c → 2 * (1073745920 + length old.unread - (length r.line + length r.unread)) + cond r.ended 0 1 < 2 * (1073745920 + length old.unread - (length p.line + length p.unread)) + cond p.ended 0 1
    less true e = let n : length r.unread ≡ 0 = ap length (piece.none e) in rw (e, was) (omega (arith, size, sum, n))
    less false e = let n = piece.some e in let m = piece.few in rw (e, was) (omega (arith, size, sum, n, m, few))
