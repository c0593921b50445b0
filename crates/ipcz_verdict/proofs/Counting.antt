-- How many steps a search has taken: it finds each front once.
use Rattle.std.specs.Prelude.{◌≡◌, ◌≢◌, ◌⊎◌, ◌<◌, ◌≤◌, ◌+◌, ◌/◌, ◌%◌, ℕ, zero, suc, length, Bool, true, false, cond, nat_eq, Some, None, slice_get, List, [], ◌∷◌, ◌++◌, All, AllPairs, refl}
use Rattle.std.proofs.Common.{arith, ap, ◌∙◌, sym, subst, inl, inr, append_assoc, below_more, length-append}
use Rattle.std.proofs.lemmas.Bool.Decides.{nat_tests}
use Rattle.std.proofs.lemmas.List.Elements.{All-cons, All-nil, All-weaker}
use Rattle.ipcz_base.specs.declared.profile.Profile.{Profile}
use Rattle.ipcz_verdict.specs.declared.entry.Entry.{Entry}
use Rattle.ipcz_verdict.specs.declared.search.Step.TheVariants as came
use Rattle.ipcz_verdict.specs.declared.search.Taken.{Taken}
use Rattle.ipcz_verdict.specs.Searches.{Adds, AreFresh, HasFound, IsOfNext, IsShortened, IsStack, IsStuck, Moves, NoneGoesOn, key_of, left_of, rank_of, taken_lines}
use Rattle.ipcz_verdict.specs.Together.{AreFirst, HasFronts, IsFront, IsNextSomewhere, of_log, steps_to}
use Rattle.ipcz_verdict.proofs.Facts.{same_some}
use Rattle.ipcz_verdict.proofs.Searching.{all_none, empty_is, found, its_log, lines-append}
use Rattle.ipcz_verdict.proofs.Together.{append_nothing, of_log-append, same_rest}

-- ---- lists

heads : {x y : Entry} {xs ys : List Entry} → x ∷ xs ≡ y ∷ ys → x ≡ y
heads m = cc

-- what goes on with one line doesn't go on with another
apart_there : (before : List Entry) (d e : Entry) (rest more : List Entry) (from : ℕ) → key_of d < from → from ≤ key_of e → before ++ d ∷ rest ≢ before ++ e ∷ more
apart_there before d e rest more from low high is =
    let same : key_of d ≡ key_of e = ap key_of (heads (same_rest before (d ∷ rest) (e ∷ more) is)) in
    omega (arith, low, high, same)

-- nothing is the same and goes on
longer : (front : List Entry) (e : Entry) (more : List Entry) → front ≢ front ++ e ∷ more
longer front e more is =
    let size : length front ≡ length front + (length more + 1) = ap (λ (xs : List Entry). length xs) is ∙ length-append front (e ∷ more) ∙ ap (λ n. length front + n) (omega arith) in
    omega (arith, size)

pairs_cons : (f : List Entry) (fronts : List (List Entry)) → All (λ g. f ≢ g) fronts → AllPairs (λ f g. f ≢ g) fronts → AllPairs (λ f g. f ≢ g) (f ∷ fronts)
pairs_cons f fronts one all zero zero d less in' = absurd (omega (arith, less))
pairs_cons f fronts one all zero (suc j) d less in' = one j d (omega (arith, in'))
pairs_cons f fronts one all (suc i) zero d less in' = absurd (omega (arith, less))
pairs_cons f fronts one all (suc i) (suc j) d less in' = all i j d (omega (arith, less)) (omega (arith, in'))

-- ---- a line that is taken

-- the front that was found now goes on with a line of a lower key there
none_cons : (f : List Entry) (fronts : List (List Entry)) (order : List Entry) (d : Entry) (rest : List Entry) (from : ℕ) → f ≡ order ++ d ∷ rest → key_of d < from → NoneGoesOn fronts order from →
    NoneGoesOn (f ∷ fronts) order from
none_cons f fronts order d rest from is low none = All-cons (λ front. (e : Entry) (more : List Entry) → from ≤ key_of e → front ≢ order ++ e ∷ more) f fronts
    (λ e more high same. apart_there order d e rest more from low high (sym is ∙ same)) none

fresh_on : (fronts : List (List Entry)) (before : List Entry) (order : List Taken) (t : Taken) (f : List Entry) → f ≡ (before ++ taken_lines order) ++ t.entry ∷ [] → key_of t.entry < t.next →
    NoneGoesOn fronts (before ++ taken_lines order) t.next → AreFresh fronts before order → AreFresh (f ∷ fronts) before (order ++ t ∷ [])
fresh_on fronts before [] t f is low none fresh = (
  low,
  none_cons f fronts before t.entry [] t.next (is ∙ ap (λ xs. xs ++ t.entry ∷ []) (append_nothing before)) low (subst (λ xs. NoneGoesOn fronts xs t.next) (append_nothing before) none),
  tt,
)
fresh_on fronts before (u ∷ order) t f is low none fresh =
    let same : (before ++ u.entry ∷ []) ++ taken_lines order ≡ before ++ u.entry ∷ taken_lines order = append_assoc before (u.entry ∷ []) (taken_lines order) in (
      fresh.0,
      none_cons f fronts before u.entry (taken_lines order ++ t.entry ∷ []) u.next (is ∙ append_assoc before (u.entry ∷ taken_lines order) (t.entry ∷ [])) fresh.0 fresh.1,
      fresh_on fronts (before ++ u.entry ∷ []) order t f (is ∙ ap (λ xs. xs ++ t.entry ∷ []) (sym same)) low (subst (λ xs. NoneGoesOn fronts xs t.next) (sym same) none) fresh.2,
    )

higher : (fronts : List (List Entry)) (order : List Entry) (from to : ℕ) → from ≤ to → NoneGoesOn fronts order from → NoneGoesOn fronts order to
higher fronts order from to le none =
    All-weaker (λ front. (e : Entry) (more : List Entry) → from ≤ key_of e → front ≢ order ++ e ∷ more) (λ front. (e : Entry) (more : List Entry) → to ≤ key_of e → front ≢ order ++ e ∷ more)
    (λ front h e more high. h e more (omega (arith, le, high))) fronts none

-- a front more is found
pub found_on : (nodes : ℕ) (profile : Profile) (entries : List Entry) (fronts : List (List Entry)) (old new : List Taken) (left : List (List Entry)) (from : ℕ) →
    HasFound nodes profile entries fronts old from → IsStack nodes profile entries new left → Adds old new from true → HasFound nodes profile entries (taken_lines new ∷ fronts) new 0
found_on nodes profile entries fronts old new left from was stack adds = record {
  are = All-cons (IsFront nodes profile entries) f fronts (record { some = some; first = λ log. (left_of left log, stack.parted log); allowed = stack.allowed }) was.are;
  apart = pairs_cons f fronts (All-weaker (λ front. (e : Entry) (more : List Entry) → from ≤ key_of e → front ≢ taken_lines old ++ e ∷ more) (λ g. f ≢ g)
      (λ g h is. h t.entry [] adds.2 (sym is ∙ lines)) fronts was.next) was.apart;
  fresh = subst (λ (ts : List Taken). AreFresh (f ∷ fronts) [] ts) (sym adds.1)
      (fresh_on fronts [] old t f lines adds.3 (higher fronts (taken_lines old) from t.next (omega (arith, low, high)) was.next) was.fresh);
  next = All-cons (λ front. (e : Entry) (more : List Entry) → 0 ≤ key_of e → front ≢ f ++ e ∷ more) f fronts (λ e more any. longer f e more)
      (All-weaker (λ front. (e : Entry) (more : List Entry) → from ≤ key_of e → front ≢ taken_lines old ++ e ∷ more) (λ front. (e : Entry) (more : List Entry) → 0 ≤ key_of e → front ≢ f ++ e ∷ more)
      (λ front h e more any is. h t.entry (e ∷ more) adds.2 (is ∙ ap (λ xs. xs ++ e ∷ more) lines ∙ append_assoc (taken_lines old) (t.entry ∷ []) (e ∷ more))) fronts was.next);
}
  where
    t : Taken
    t = adds.0

    f : List Entry
    f = taken_lines new

    low : from ≤ key_of t.entry
    low = adds.2

    high : key_of t.entry < t.next
    high = adds.3

    lines : taken_lines new ≡ taken_lines old ++ t.entry ∷ []
    lines = ap taken_lines adds.1 ∙ lines-append old (t ∷ [])

    some : 0 < length (taken_lines new)
    some = let size : length (taken_lines new) ≡ length (taken_lines old) + 1 = ap (λ (xs : List Entry). length xs) lines ∙ length-append (taken_lines old) (t.entry ∷ []) in omega (arith, size)

-- ---- lines that are taken back

fresh_less : (fronts : List (List Entry)) (before : List Entry) (order : List Taken) (t : Taken) (more : List Taken) → AreFresh fronts before (order ++ t ∷ more) →
    AreFresh fronts before order × NoneGoesOn fronts (before ++ taken_lines order) t.next
fresh_less fronts before [] t more fresh = (tt, subst (λ xs. NoneGoesOn fronts xs t.next) (sym (append_nothing before)) fresh.1)
fresh_less fronts before (u ∷ order) t more fresh =
    let less = fresh_less fronts (before ++ u.entry ∷ []) order t more fresh.2 in
    ((fresh.0, fresh.1, less.0), subst (λ xs. NoneGoesOn fronts xs t.next) (append_assoc before (u.entry ∷ []) (taken_lines order)) less.1)

pub found_back : (nodes : ℕ) (profile : Profile) (entries : List Entry) (fronts : List (List Entry)) (old new : List Taken) (from next : ℕ) →
    HasFound nodes profile entries fronts old from → IsShortened old new next → HasFound nodes profile entries fronts new next
found_back nodes profile entries fronts old new from next was short =
    let less = fresh_less fronts [] new short.0 short.1 (subst (λ (ts : List Taken). AreFresh fronts [] ts) short.2 was.fresh) in
    record { are = was.are; apart = was.apart; fresh = less.0; next = subst (λ n. NoneGoesOn fronts (taken_lines new) n) (sym short.3) less.1 }

pub found_none : (nodes : ℕ) (profile : Profile) (entries : List Entry) (order : List Taken) (from : ℕ) → order ≡ [] → HasFound nodes profile entries [] order from
found_none nodes profile entries order from none = record {
  are = All-nil (IsFront nodes profile entries);
  apart = λ i j d less in'. absurd (omega (arith, in'));
  fresh = subst (λ (ts : List Taken). AreFresh [] [] ts) (sym none) tt;
  next = All-nil (λ front. (e : Entry) (more : List Entry) → from ≤ key_of e → front ≢ taken_lines order ++ e ∷ more);
}

-- one line more is taken back
pub popped : (all old new : List Taken) (t : Taken) (more : List Taken) → all ≡ old ++ more → old ≡ new ++ t ∷ [] → all ≡ new ++ t ∷ more
popped all old new t more is last = is ∙ ap (λ (ts : List Taken). ts ++ more) last ∙ append_assoc new (t ∷ []) more

-- ---- steps

-- to take so many lines back one after the other takes so many steps at most
abbrev pub steps_back : ℕ → ℕ
steps_back zero = 0
steps_back (suc n) = suc n + steps_back n

back_most : (j k : ℕ) → j ≤ k → steps_back j ≤ steps_back k
back_most zero k le = omega arith
back_most (suc j) zero le = absurd (omega (arith, le))
back_most (suc j) (suc k) le = let m = back_most j k (omega (arith, le)) in omega (arith, m, le)

back_less : (j k : ℕ) → j < k → steps_back j + k ≤ steps_back k
back_less j zero less = absurd (omega (arith, less))
back_less j (suc k) less = let m = back_most j k (omega (arith, less)) in omega (arith, m)

-- the fronts that were found account for the steps that were taken, and for those of the way back
abbrev pub IsPaid : ℕ → ℕ → List Taken → List (List Entry) → Type 0
IsPaid all left order fronts = all + steps_back (length order) ≤ left + steps_to fronts

lines_count : (order : List Taken) → length (taken_lines order) ≡ length order
lines_count [] = refl
lines_count (t ∷ order) = let n = lines_count order in omega (arith, n)

paid_on : (all left rest : ℕ) (old new : List Taken) (fronts : List (List Entry)) (from : ℕ) → Adds old new from true → left ≡ rest + 1 → IsPaid all left old fronts → IsPaid all rest new (taken_lines new ∷ fronts)
paid_on all left rest old new fronts from adds one paid =
    let more : length old + 1 ≡ suc (length old) = omega arith in
    let size : length new ≡ suc (length old) = ap (λ (ts : List Taken). length ts) adds.1 ∙ length-append old (adds.0 ∷ []) ∙ more in
    let back : steps_back (length new) ≡ suc (length old) + steps_back (length old) = ap steps_back size in
    let lines : length (taken_lines new) ≡ length new = lines_count new in
    omega (arith, size, back, lines, one, paid)

paid_back : (all left rest : ℕ) (old new : List Taken) (fronts : List (List Entry)) (next : ℕ) → IsShortened old new next → left ≤ rest + 1 + length new → IsPaid all left old fronts → IsPaid all rest new fronts
paid_back all left rest old new fronts next short least paid =
    let size : length old ≡ length new + suc (length short.1) = ap (λ (ts : List Taken). length ts) short.2 ∙ length-append new (short.0 ∷ short.1) in
    let less : length new < length old = omega (arith, size) in
    let back = back_less (length new) (length old) less in
    omega (arith, size, back, least, paid)

-- the fronts that were found so far, and what they account for
abbrev pub IsOnTheWay : ℕ → Profile → List Entry → ℕ → ℕ → List Taken → ℕ → Type 0
IsOnTheWay nodes profile entries all left order from = (fronts : List (List Entry)) × HasFound nodes profile entries fronts order from × IsPaid all left order fronts

pub sets_out : (nodes : ℕ) (profile : Profile) (entries : List Entry) (all : ℕ) (order : List Taken) (from : ℕ) → order ≡ [] → IsOnTheWay nodes profile entries all all order from
sets_out nodes profile entries all order from none =
    ([], found_none nodes profile entries order from none, subst (λ (ts : List Taken). IsPaid all all ts []) (sym none) (omega arith))

pub goes_on : (nodes : ℕ) (profile : Profile) (entries : List Entry) (all left rest : ℕ) (old new : List Taken) (queues : List (List Entry)) (from next : ℕ) → IsStack nodes profile entries new queues →
    Moves old from new (came.On next) → (next ≡ 0 → left ≡ rest + 1) → left ≤ rest + 1 + length new → IsOnTheWay nodes profile entries all left old from → IsOnTheWay nodes profile entries all rest new next
goes_on nodes profile entries all left rest old new queues from next stack moves one least way = go moves
  where
    go : (Adds old new from true × (next ≡ 0)) ⊎ IsShortened old new next → IsOnTheWay nodes profile entries all rest new next
    go (inl m) = (
      taken_lines new ∷ way.0,
      subst (λ n. HasFound nodes profile entries (taken_lines new ∷ way.0) new n) (sym m.1) (found_on nodes profile entries way.0 old new queues from way.1 stack m.0),
      paid_on all left rest old new way.0 from m.0 (one m.1) way.2,
    )
    go (inr short) = (way.0, found_back nodes profile entries way.0 old new from next way.1 short, paid_back all left rest old new way.0 next short least way.2)

-- no step is left
pub untold : (nodes : ℕ) (profile : Profile) (entries : List Entry) (all : ℕ) (order : List Taken) (from : ℕ) → IsOnTheWay nodes profile entries all 0 order from → HasFronts nodes profile entries all
untold nodes profile entries all order from way = (way.0, way.1.are, way.1.apart, (let paid = way.2 in omega (arith, paid)))

-- ---- where a search is stuck

-- the key of a line tells its rank and its log
pub key_is : (key : ℕ) (e : Entry) → rank_of e.line ≡ key / 64 → e.log ≡ key % 64 → (key ≤ key_of e) × (key_of e < key + 1)
key_is key e rank log = (omega (arith, rank, log), omega (arith, rank, log))

-- a line that is left comes next behind those that were taken
pub stuck_here : (nodes : ℕ) (profile : Profile) (entries : List Entry) (order : List Taken) (left : List (List Entry)) (number : ℕ) → IsStack nodes profile entries order left → IsOfNext left number →
    IsStuck nodes profile entries number
stuck_here nodes profile entries order left number stack next none = go next
  where
    go : ((log : ℕ) → left_of left log ≡ []) ⊎ ((log : ℕ) × (e : Entry) × (rest : List Entry) × (left_of left log ≡ e ∷ rest) × (e.number ≡ number)) → IsNextSomewhere nodes profile entries number
    go (inl all) = absurd (none (found nodes profile entries order left stack all))
    go (inr n) = (taken_lines order, n.1, first, stack.allowed, n.4)
      where
        own : n.1.log ≡ n.0
        own = its_log nodes profile entries order left n.0 n.1 n.2 stack n.3

        first : AreFirst (taken_lines order ++ n.1 ∷ []) entries
        first log = part (nat_eq n.1.log log) refl
          where
            part : (c : Bool) → nat_eq n.1.log log ≡ c → (rest : List Entry) × (of_log log (taken_lines order ++ n.1 ∷ []) ++ rest ≡ of_log log entries)
            part true h =
                let same : n.0 ≡ log = let here : n.1.log ≡ log = grind (arith, nat_tests, h) in sym own ∙ here in
                let mine : of_log log (n.1 ∷ []) ≡ n.1 ∷ [] = ap (λ c. cond c (n.1 ∷ []) []) h in (
                  n.2,
                  ap (λ xs. xs ++ n.2) (of_log-append log (taken_lines order) (n.1 ∷ []) ∙ ap (λ xs. of_log log (taken_lines order) ++ xs) mine)
                      ∙ append_assoc (of_log log (taken_lines order)) (n.1 ∷ []) n.2
                      ∙ ap (λ xs. of_log log (taken_lines order) ++ xs) (sym (ap (left_of left) (sym same) ∙ n.3))
                      ∙ stack.parted log,
                )
            part false h =
                let other : of_log log (n.1 ∷ []) ≡ [] = ap (λ c. cond c (n.1 ∷ []) []) h in (
                  left_of left log,
                  ap (λ xs. xs ++ left_of left log) (of_log-append log (taken_lines order) (n.1 ∷ []) ∙ ap (λ xs. of_log log (taken_lines order) ++ xs) other ∙ append_nothing (of_log log (taken_lines order)))
                      ∙ stack.parted log,
                )

-- so many queues have no line, and the number is the greatest there is; or it is that of a line that is the next of its log
abbrev pub IsLeast : List (List Entry) → ℕ → ℕ → Type 0
IsLeast left i number =
    (((k : ℕ) → k < i → left_of left k ≡ []) × (number ≡ 18446744073709551615)) ⊎ ((log : ℕ) × (e : Entry) × (rest : List Entry) × (left_of left log ≡ e ∷ rest) × (e.number ≡ number))

-- a queue more has no line
pub least_kept : (left : List (List Entry)) (i : ℕ) (q : List Entry) (old new : ℕ) → q ≡ left_of left i → slice_get q 0 ≡ None → new ≡ old → IsLeast left i old → IsLeast left (i + 1) new
least_kept left i q old new is none same (inl n) = inl (below_more _ _ n.0 (sym is ∙ empty_is q none), same ∙ n.1)
least_kept left i q old new is none same (inr n) = inr (n.0, n.1, n.2, n.3, n.4 ∙ sym same)

begins_with : (q : List Entry) (e : Entry) → slice_get q 0 ≡ Some e → (rest : List Entry) × (q ≡ e ∷ rest)
begins_with [] e some = absurd (differ some)
  where
    differ : None ≡ Some e → ⊥
    differ k = cc
begins_with (x ∷ q) e some = (q, ap (λ y. y ∷ q) (same_some some))

-- a queue more has one
pub least_more : (left : List (List Entry)) (i : ℕ) (q : List Entry) (e : Entry) (old new : ℕ) → q ≡ left_of left i → slice_get q 0 ≡ Some e → (new ≡ old) ⊎ (new ≡ e.number) →
    (old ≡ 18446744073709551615 → new ≡ e.number) → IsLeast left i old → IsLeast left (i + 1) new
least_more left i q e old new is some one first (inl n) = let t = begins_with q e some in inr (i, e, t.0, sym is ∙ t.1, sym (first n.1))
least_more left i q e old new is some (inl same) first (inr n) = inr (n.0, n.1, n.2, n.3, n.4 ∙ sym same)
least_more left i q e old new is some (inr same) first (inr n) = let t = begins_with q e some in inr (i, e, t.0, sym is ∙ t.1, sym same)

pub least_of : (left : List (List Entry)) (i number : ℕ) → length left ≤ i → IsLeast left i number → IsOfNext left number
least_of left i number all (inl n) = inl (all_none left i n.0 all)
least_of left i number all (inr n) = inr n
