-- How many of the messages have a line as theirs.
use Rattle.std.proofs.Common.{◌≡◌, ℕ, zero, suc, ◌+◌, ◌<◌, ◌≤◌, ◌++◌, Bool, true, List, [], ◌∷◌, length, get_or, Option, Some, None, refl}
use Rattle.std.proofs.Common.{sym, ap, ◌∙◌, subst, arith, rules, inl, inr, ◌⊎◌}
use Rattle.std.specs.List.{All, Any, sum, sum_by}
use Rattle.std.proofs.Math.ListN.{set}
use Rattle.std.proofs.Math.Seq.{map-set_same}
use Rattle.std.proofs.lemmas.List.Elements.{All-push}
use Rattle.std.specs.Option.{IfNone, IfSome}
use Rattle.std.proofs.lemmas.Bool.{cases_order}
use Rattle.std.proofs.lemmas.List.Sums.{sum-map, sum_by-append, sum_by-cons}
use Rattle.ipcz_messages.specs.declared.messages.Message.{Message}
use Rattle.ipcz_lines.specs.declared.line.Line.{Line}
use Rattle.ipcz_lines.specs.declared.line.ReadLine.{ReadLine}
use Rattle.ipcz_messages.specs.Messages.{hands_at, looks_at, posts_at, is_any_look, is_hand, is_look, is_post, times, touches_hand}
use Rattle.ipcz_messages.specs.Messages.{touches_mailbox, AreOnce, Handles, IsAt, IsHandOf, IsLookOf, IsMessage, IsNext, IsPosted, KeepsWay}
use Rattle.ipcz_messages.specs.Messages.{Takes}
use Rattle.ipcz_messages.proofs.Joining.{passed_over, some_line}
use Rattle.ipcz_messages.specs.Joining.{AreJoined, ComesAt, IsEarly, IsPassed}

times_cases : (i : ℕ) (o : Option ℕ) → (times i o ≡ 0) ⊎ (o ≡ Some i)
times_cases i None = inl refl
times_cases i (Some j) = elim (cases_order i j) [
  | inl e ↦ inr (ap Some (sym e))
  | inr (inl h) ↦ inl (search rules)
  | inr (inr h) ↦ inl (search rules)
]

times_most : (i : ℕ) (o : Option ℕ) → times i o ≤ 1
times_most i o = search rules

times_same : (i : ℕ) (o : Option ℕ) → o ≡ Some i → times i o ≡ 1
times_same i o e = search rules

-- none of the messages has the line
count_none : (f : Message → Option ℕ) (i : ℕ) (ms : List Message) → All (λ x. f x ≡ Some i → ⊥) ms → sum_by (λ m. times i (f m)) ms ≡ 0
count_none f i [] none = refl
count_none f i (x ∷ xs) none = elim (times_cases i (f x)) [
  | inl e ↦ omega (arith, e, sum_by-cons (λ m. times i (f m)) x xs, count_none f i xs (λ k d h. none (suc k) d (omega (arith, h))))
  | inr e ↦ absurd (none 0 x (omega arith) e)
]

-- one of the messages has the line
count_some : (f : Message → Option ℕ) (i : ℕ) (ms : List Message) (k : ℕ) (x : Message) → k < length ms → f (get_or ms k x) ≡ Some i →
    0 < sum_by (λ m. times i (f m)) ms
count_some f i [] k x within at = absurd (omega (arith, within))
count_some f i (y ∷ ys) zero x within at = omega (arith, times_same i (f y) at, sum_by-cons (λ m. times i (f m)) y ys)
count_some f i (y ∷ ys) (suc k) x within at =
    omega (arith, count_some f i ys k x (omega (arith, within)) at, sum_by-cons (λ m. times i (f m)) y ys)

pub count_any : (f : Message → Option ℕ) (i : ℕ) (ms : List Message) → Any (λ m. f m ≡ Some i) ms → 0 < sum_by (λ m. times i (f m)) ms
count_any f i ms h = count_some f i ms h.0 h.1 h.2 (ap f h.3 ∙ h.4)

-- one message more
count_push : (f : Message → Option ℕ) (i : ℕ) (ms : List Message) (m : Message) → sum_by (λ x. times i (f x)) (ms ++ m ∷ [])
    ≡ sum_by (λ x. times i (f x)) ms + times i (f m)
count_push f i ms m =
    let g : Message → ℕ = λ x. times i (f x) in
    omega (arith, sum_by-append g ms (m ∷ []), sum_by-cons g m [])

one_by_any : (f : Message → Option ℕ) (i n : ℕ) (ms : List Message) → i ≡ n → sum_by (λ x. times i (f x)) ms ≤ 1 → Any (λ x. f x ≡ Some n)
    ms → sum_by (λ x. times i (f x)) ms ≡ 1
one_by_any f i n ms e few h = omega (arith, few, count_any f i ms (subst (λ k. Any (λ x. f x ≡ Some k) ms) (sym e) h))

one_kept : (f : Message → Option ℕ) (i : ℕ) (ms : List Message) (m : Message) → sum_by (λ x. times i (f x)) (ms ++ m ∷ []) ≤ 1 →
    sum_by (λ x. times i (f x)) ms ≡ 1
    → sum_by (λ x. times i (f x)) (ms ++ m ∷ []) ≡ 1
one_kept f i ms m few h = omega (arith, few, h, count_push f i ms m)

one_new : (f : Message → Option ℕ) (i n : ℕ) (ms : List Message) (m : Message) → i ≡ n → sum_by (λ x. times i (f x)) (ms ++ m ∷ []) ≤ 1 →
    f m ≡ Some n
    → sum_by (λ x. times i (f x)) (ms ++ m ∷ []) ≡ 1
one_new f i n ms m e few own = omega (arith, few, count_push f i ms m, times_same i (f m) (own ∙ ap Some (sym e)))

few_push : (f : Message → Option ℕ) (i : ℕ) (ms : List Message) (m : Message) → sum_by (λ x. times i (f x)) ms ≤ 1 →
    (f m ≡ Some i → All (λ x. f x ≡ Some i → ⊥) ms)
    → sum_by (λ x. times i (f x)) (ms ++ m ∷ []) ≤ 1
few_push f i ms m few none = elim (times_cases i (f m)) [
  | inl e ↦ omega (arith, e, few, count_push f i ms m)
  | inr e ↦ omega (arith, times_most i (f m), count_none f i ms (none e), count_push f i ms m)
]

-- two lines before the same next one are one
pub one_before : (test : Line → Bool) (read : List ReadLine) (a b k : ℕ) → IsAt test read a → IsAt test read b → IsNext test read a k →
    IsNext test read b k → a ≡ b
one_before test read a b k at bt h g = elim (cases_order a b) [
  | inl e ↦ e
  | inr (inl l) ↦ absurd (passed_over test read (a + 1) k b h.first (omega (arith, l)) g.behind bt)
  | inr (inr l) ↦ absurd (passed_over test read (b + 1) k a g.first (omega (arith, l)) h.behind at)
]

-- from one test to another, at a line
at_line : (p q : Line → Bool) → ((x : Line) → p x ≡ true → q x ≡ true) → (read : List ReadLine) (i : ℕ) → IsAt p read i → IsAt q read i
at_line p q more read i h = record { within = h.within; holds = λ d. more (get_or read i d).line (h.holds d) }

post_touches : (from to : ℕ) (x : Line) → is_post from to x ≡ true → touches_mailbox from to x ≡ true
post_touches from to x h = search rules

look_touches : (to : ℕ) (x : Line) → is_any_look to x ≡ true → touches_hand to x ≡ true
look_touches to x h = search rules

same_look : (a b c d : ℕ) (x : Line) → is_look a b x ≡ true → is_look c d x ≡ true → (a ≡ c) × (b ≡ d)
same_look a b c d x h k = search rules

same_hand : (a b : ℕ) (x : Line) → is_hand a x ≡ true → is_hand b x ≡ true → a ≡ b
same_hand a b x h k = search rules

not_post_look : (a b c d : ℕ) (x : Line) → is_post a b x ≡ true → is_look c d x ≡ true → ⊥
not_post_look a b c d x h k = search rules

not_post_hand : (a b c : ℕ) (x : Line) → is_post a b x ≡ true → is_hand c x ≡ true → ⊥
not_post_hand a b c x h k = search rules

not_look_hand : (a b c : ℕ) (x : Line) → is_look a b x ≡ true → is_hand c x ≡ true → ⊥
not_look_hand a b c x h k = search rules

some_same : (i j : ℕ) (o : Option ℕ) → o ≡ Some i → o ≡ Some j → i ≡ j
some_same i j o e f = cc

pub none_some : (i : ℕ) (o : Option ℕ) → o ≡ None → o ≡ Some i → ⊥
none_some i o e f = cc

-- an early message that is looked at at a later line was posted, and the look takes it
early_look : (read : List ReadLine) (n j : ℕ) (x : Message) → IsMessage read x → IsEarly n x → n ≤ j → x.looked ≡ Some j
    → (from : ℕ) × (to : ℕ) × (i : ℕ) × (i < n) × Takes read from to i j
early_look read n j x (inl h) early late e = (h.0, h.1, h.2, early.posted h.2 h.3.posted, subst (IsLookOf read h.0 h.1 h.2) e h.3.look)
early_look read n j x (inr (inl h)) early late e = absurd (omega (arith, late, early.looked j h.3.posted e))
early_look read n j x (inr (inr h)) early late e = absurd (none_some j x.looked h.2.looked e)

posted_hand : (read : List ReadLine) (from to i k : ℕ) (x : Message) (o : Option ℕ) → x.looked ≡ o → IsPosted read from to i x →
    x.handled ≡ Some k
    → (j : ℕ) × (x.looked ≡ Some j) × (i < j) × Handles read to j k
posted_hand read from to i k x None e h f = absurd (none_some k x.handled (subst (λ o. IfNone o (x.handled ≡ None)) e h.unseen) f)
posted_hand read from to i k x (Some j) e h f =
    let look = subst (IsLookOf read from to i) e h.look in
    let hand = subst (λ o. IfSome o (λ l. IsHandOf read to l x.handled)) e h.hand in
    (j, e, look.next.behind, subst (IsHandOf read to j) f hand)

-- an early message that is handed over at a later line was looked at, and the hand is of that look
early_hand : (read : List ReadLine) (n k : ℕ) (x : Message) → IsMessage read x → IsEarly n x → n ≤ k → x.handled ≡ Some k
    → (to : ℕ) × (j : ℕ) × (x.looked ≡ Some j) × Handles read to j k
early_hand read n k x (inl h) early late e = let p = posted_hand read h.0 h.1 h.2 k x x.looked refl h.3 e in (h.1, p.0, p.1, p.3)
early_hand read n k x (inr (inl h)) early late e = (h.1, h.2, h.3.looked, subst (IsHandOf read h.1 h.2) e h.3.hand)
early_hand read n k x (inr (inr h)) early late e = absurd (omega (arith, late, early.handled k h.2.looked e))

-- no early message is looked at if one that is posted now is
fresh_look : (read : List ReadLine) (n : ℕ) (ms : List Message) (from to j : ℕ) → AreJoined read n ms → Takes read from to n j →
    All (λ x. x.looked ≡ Some j → ⊥) ms
fresh_look read n ms from to j h takes k d less e =
    let x = get_or ms k d in
    let behind : n < j = takes.next.behind in
    let p = early_look read n j x (h.each k d less) (h.early k d less) (omega (arith, behind)) e in
    let line = (some_line read j takes.look.within) in
    let same = same_look from to p.0 p.1 (get_or read j line).line (takes.look.holds line) (p.4.look.holds line) in
    let test : Line → Bool = touches_mailbox from to in
    let next : IsNext test read p.2 j = rw (same.0, same.1) p.4.next in
    let post : IsAt (is_post from to) read p.2 = rw (same.0, same.1) p.4.post in
    let met = one_before test read p.2 n j (at_line (is_post from to) test (post_touches from to) read p.2 post)
    (at_line (is_post from to) test (post_touches from to) read n takes.post) next takes.next in
    absurd (omega (arith, p.3, met))

-- no message is handed over if another one is that was looked at at a line of its own
fresh_hand : (read : List ReadLine) (n : ℕ) (ms : List Message) (to j k : ℕ) → AreJoined read n ms → n ≤ j →
    All (λ x. x.looked ≡ Some j → ⊥) ms → Handles read to j k
    → All (λ x. x.handled ≡ Some k → ⊥) ms
fresh_hand read n ms to j k h late none handles i d less e =
    let x = get_or ms i d in
    let behind : j < k = handles.next.behind in
    let p = early_hand read n k x (h.each i d less) (h.early i d less) (omega (arith, behind, late)) e in
    let line = (some_line read k handles.hand.within) in
    let same = same_hand to p.0 (get_or read k line).line (handles.hand.holds line) (p.3.hand.holds line) in
    let test : Line → Bool = touches_hand to in
    let next : IsNext test read p.1 k = rw same p.3.next in
    let look : IsAt (is_any_look to) read p.1 = rw same p.3.look in
    let met = one_before test read p.1 j k (at_line (is_any_look to) test (look_touches to) read p.1 look)
    (at_line (is_any_look to) test (look_touches to) read j handles.look) next handles.next in
    none i d less (p.2 ∙ ap Some met)

-- what comes into sight at a line has no line of a message before
fresh_posts : (read : List ReadLine) (n : ℕ) (ms : List Message) (m : Message) → AreJoined read n ms → ComesAt read n ms m → (i : ℕ) →
    m.posted ≡ Some i
    → All (λ x. x.posted ≡ Some i → ⊥) ms
fresh_posts read n ms m h (inl c) i e = λ k d less f. absurd
    (omega (arith, some_same n i m.posted c.2.posted e, (h.early k d less).posted i f))
fresh_posts read n ms m h (inr (inl c)) i e = absurd (none_some i m.posted c.2.posted e)
fresh_posts read n ms m h (inr (inr c)) i e = absurd (none_some i m.posted c.1.posted e)

fresh_looks : (read : List ReadLine) (n : ℕ) (ms : List Message) (m : Message) → AreJoined read n ms → ComesAt read n ms m → (i : ℕ) →
    m.looked ≡ Some i
    → All (λ x. x.looked ≡ Some i → ⊥) ms
fresh_looks read n ms m h (inl c) i e = fresh_look read n ms c.0 c.1 i h (subst (IsLookOf read c.0 c.1 n) e c.2.look)
fresh_looks read n ms m h (inr (inl c)) i e = subst (λ j. All (λ x. x.looked ≡ Some j → ⊥) ms) (some_same n i m.looked c.2.looked e) c.3
fresh_looks read n ms m h (inr (inr c)) i e = absurd (none_some i m.looked c.1.looked e)

fresh_hands : (read : List ReadLine) (n : ℕ) (ms : List Message) (m : Message) → AreJoined read n ms → ComesAt read n ms m → (i : ℕ) →
    m.handled ≡ Some i
    → All (λ x. x.handled ≡ Some i → ⊥) ms
fresh_hands read n ms m h (inl c) i e =
    let p = posted_hand read c.0 c.1 n i m m.looked refl c.2 e in
    let look : n < p.0 = p.2 in
    fresh_hand read n ms c.1 p.0 i h (omega (arith, look)) (fresh_looks read n ms m h (inl c) p.0 p.1) p.3
fresh_hands read n ms m h (inr (inl c)) i e = fresh_hand read n ms c.1 n i h (omega arith) c.3 (subst (IsHandOf read c.1 n) e c.2.hand)
fresh_hands read n ms m h (inr (inr c)) i e = subst (λ j. All (λ x. x.handled ≡ Some j → ⊥) ms) (some_same n i m.handled c.1.handled e) c.2

below_or_last : (i n : ℕ) → i < n + 1 → (i < n) ⊎ (i ≡ n)
below_or_last i n h = elim (cases_order i n) [
  | inl e ↦ inr e
  | inr (inl l) ↦ inl l
  | inr (inr l) ↦ absurd (omega (arith, h, l))
]

early_more : (n : ℕ) (m : Message) → IsEarly n m → IsEarly (n + 1) m
early_more n m h = record {
  posted = λ i e. omega (arith, h.posted i e);
  looked = λ i u e. omega (arith, h.looked i u e);
  handled = λ i u e. omega (arith, h.handled i u e);
}

-- a line at which no message comes into sight
pub joined_same : (read : List ReadLine) (n : ℕ) (ms : List Message) → AreJoined read n ms → IsPassed read n ms → AreJoined read (n + 1) ms
joined_same read n ms h p = record {
  each = h.each;
  early = λ k d less. early_more n (get_or ms k d) (h.early k d less);
  few_posts = h.few_posts;
  few_looks = h.few_looks;
  few_hands = h.few_hands;
  posts = λ from to i less at. elim (below_or_last i n less) [
    | inl l ↦ h.posts from to i l at
    | inr e ↦ absurd (p.post from to (subst (IsAt (is_post from to) read) e at))
  ];
  looks = λ from to i less at. elim (below_or_last i n less) [
    | inl l ↦ h.looks from to i l at
    | inr e ↦ one_by_any (λ m. m.looked) i n ms e (h.few_looks i) (p.look from to (subst (IsAt (is_look from to) read) e at))
  ];
  hands = λ to i less at. elim (below_or_last i n less) [
    | inl l ↦ h.hands to i l at
    | inr e ↦ one_by_any (λ m. m.handled) i n ms e (h.few_hands i) (p.hand to (subst (IsAt (is_hand to) read) e at))
  ];
}

is_message : (read : List ReadLine) (n : ℕ) (ms : List Message) (m : Message) → ComesAt read n ms m → IsMessage read m
is_message read n ms m (inl c) = inl (c.0, c.1, n, c.2)
is_message read n ms m (inr (inl c)) = inr (inl (c.0, c.1, n, c.2))
is_message read n ms m (inr (inr c)) = inr (inr (c.0, n, c.1))

is_early : (read : List ReadLine) (n : ℕ) (ms : List Message) (m : Message) → ComesAt read n ms m → IsEarly (n + 1) m
is_early read n ms m (inl c) = record {
  posted = λ i e. omega (arith, some_same n i m.posted c.2.posted e);
  looked = λ i u e. absurd (none_some n m.posted u c.2.posted);
  handled = λ i u e. absurd (none_some i m.handled (subst (λ o. IfNone o (m.handled ≡ None)) u c.2.unseen) e);
}
is_early read n ms m (inr (inl c)) = record {
  posted = λ i e. absurd (none_some i m.posted c.2.posted e);
  looked = λ i u e. omega (arith, some_same n i m.looked c.2.looked e);
  handled = λ i u e. absurd (none_some n m.looked u c.2.looked);
}
is_early read n ms m (inr (inr c)) = record {
  posted = λ i e. absurd (none_some i m.posted c.1.posted e);
  looked = λ i u e. absurd (none_some i m.looked c.1.looked e);
  handled = λ i u e. omega (arith, some_same n i m.handled c.1.handled e);
}

-- two such lines that are one line
met : (p q : Line → Bool) → ((x : Line) → p x ≡ true → q x ≡ true → ⊥) → (read : List ReadLine) (n : ℕ) → IsAt p read n → IsAt q read n → ⊥
met p q apart read n h k = let line = (some_line read n h.within) in apart (get_or read n line).line (h.holds line) (k.holds line)

-- the message that comes into sight at a line has that line
own_post : (read : List ReadLine) (n : ℕ) (ms : List Message) (m : Message) → ComesAt read n ms m → (from to : ℕ) → IsAt (is_post from to)
    read n → m.posted ≡ Some n
own_post read n ms m (inl c) from to at = c.2.posted
own_post read n ms m (inr (inl c)) from to at =
    absurd (met (is_post from to) (is_look c.0 c.1) (not_post_look from to c.0 c.1) read n at c.2.look)
own_post read n ms m (inr (inr c)) from to at = absurd (met (is_post from to) (is_hand c.0) (not_post_hand from to c.0) read n at c.1.hand)

own_look : (read : List ReadLine) (n : ℕ) (ms : List Message) (m : Message) → ComesAt read n ms m → (from to : ℕ) → IsAt (is_look from to)
    read n → m.looked ≡ Some n
own_look read n ms m (inl c) from to at =
    absurd (met (is_post c.0 c.1) (is_look from to) (not_post_look c.0 c.1 from to) read n c.2.post at)
own_look read n ms m (inr (inl c)) from to at = c.2.looked
own_look read n ms m (inr (inr c)) from to at = absurd (met (is_look from to) (is_hand c.0) (not_look_hand from to c.0) read n at c.1.hand)

own_hand : (read : List ReadLine) (n : ℕ) (ms : List Message) (m : Message) → ComesAt read n ms m → (to : ℕ) → IsAt (is_hand to) read n →
    m.handled ≡ Some n
own_hand read n ms m (inl c) to at = absurd (met (is_post c.0 c.1) (is_hand to) (not_post_hand c.0 c.1 to) read n c.2.post at)
own_hand read n ms m (inr (inl c)) to at = absurd (met (is_look c.0 c.1) (is_hand to) (not_look_hand c.0 c.1 to) read n c.2.look at)
own_hand read n ms m (inr (inr c)) to at = c.1.handled

-- a line at which a message comes into sight
pub joined_more : (read : List ReadLine) (n : ℕ) (ms : List Message) (m : Message) → AreJoined read n ms → ComesAt read n ms m →
    AreJoined read (n + 1) (ms ++ m ∷ [])
joined_more read n ms m h c =
    let posts : (i : ℕ) → posts_at i (ms ++ m ∷ []) ≤ 1 = λ i. few_push (λ x. x.posted) i ms m (h.few_posts i)
    (fresh_posts read n ms m h c i) in
    let looks : (i : ℕ) → looks_at i (ms ++ m ∷ []) ≤ 1 = λ i. few_push (λ x. x.looked) i ms m (h.few_looks i)
    (fresh_looks read n ms m h c i) in
    let hands : (i : ℕ) → hands_at i (ms ++ m ∷ []) ≤ 1 = λ i. few_push (λ x. x.handled) i ms m (h.few_hands i)
    (fresh_hands read n ms m h c i) in
    record {
      each = All-push (IsMessage read) ms m h.each (is_message read n ms m c);
      early = All-push (IsEarly (n + 1)) ms m (λ k d less. early_more n (get_or ms k d) (h.early k d less)) (is_early read n ms m c);
      few_posts = posts;
      few_looks = looks;
      few_hands = hands;
      posts = λ from to i less at. elim (below_or_last i n less) [
        | inl l ↦ one_kept (λ x. x.posted) i ms m (posts i) (h.posts from to i l at)
        | inr e ↦ one_new (λ x. x.posted) i n ms m e (posts i) (own_post read n ms m c from to (subst (IsAt (is_post from to) read) e at))
      ];
      looks = λ from to i less at. elim (below_or_last i n less) [
        | inl l ↦ one_kept (λ x. x.looked) i ms m (looks i) (h.looks from to i l at)
        | inr e ↦ one_new (λ x. x.looked) i n ms m e (looks i) (own_look read n ms m c from to (subst (IsAt (is_look from to) read) e at))
      ];
      hands = λ to i less at. elim (below_or_last i n less) [
        | inl l ↦ one_kept (λ x. x.handled) i ms m (hands i) (h.hands to i l at)
        | inr e ↦ one_new (λ x. x.handled) i n ms m e (hands i) (own_hand read n ms m c to (subst (IsAt (is_hand to) read) e at))
      ];
    }

-- once all lines are gone through
pub joined_once : (read : List ReadLine) (n : ℕ) (ms : List Message) → AreJoined read n ms → n ≡ length read → AreOnce read ms
joined_once read n ms h e = record {
  posts = λ from to i at. h.posts from to i (omega (arith, at.within, e)) at;
  looks = λ from to i at. h.looks from to i (omega (arith, at.within, e)) at;
  hands = λ to i at. h.hands to i (omega (arith, at.within, e)) at;
}

kept_by : (g : Message → ℕ) (ms : List Message) (k : ℕ) (y d : Message) → g y ≡ g (get_or ms k d) → sum_by g (set ms k y) ≡ sum_by g ms
kept_by g ms k y d e = sym (sum-map g (set ms k y)) ∙ ap sum (map-set_same g ms k y d e) ∙ sum-map g ms

-- one message of all is changed, and keeps its way
pub once_kept : (read : List ReadLine) (ms : List Message) (k : ℕ) (old new : Message) → AreOnce read ms → old ≡ get_or ms k old →
    KeepsWay old new → AreOnce read (set ms k new)
once_kept read ms k old new h at way = record {
  posts = λ from to i line. kept_by (λ m. times i m.posted) ms k new old (ap (times i) (way.posted_kept ∙ ap (λ m. m.posted) at))
      ∙ h.posts from to i line;
  looks = λ from to i line. kept_by (λ m. times i m.looked) ms k new old (ap (times i) (way.looked_kept ∙ ap (λ m. m.looked) at))
      ∙ h.looks from to i line;
  hands = λ to i line. kept_by (λ m. times i m.handled) ms k new old (ap (times i) (way.handled_kept ∙ ap (λ m. m.handled) at))
      ∙ h.hands to i line;
}
