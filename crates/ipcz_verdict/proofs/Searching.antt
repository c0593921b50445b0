-- A search for an order: what a line that is taken, one that isn't, and one that is taken back change.
use Rattle.std.specs.Prelude.{◌≡◌, ◌<◌, ◌≤◌, ◌+◌, ◌/◌, ◌%◌, ℕ, zero, suc, Bool, true, false, cond, nat_eq, nat_lt, length, MatchBool, Option, Some, None, is_some, List, [], ◌∷◌, ◌++◌, take, drop, slice_get, slice_index_or, refl}
use Rattle.std.proofs.Common.{arith, ap, ap₂, ◌∙◌, sym, subst, append_assoc}
use Rattle.std.proofs.lemmas.Bool.Decides.{nat_tests}
use Rattle.std.proofs.lemmas.List.{take_more}
use Rattle.ipcz_base.specs.declared.profile.Profile.{Profile}
use Rattle.ipcz_verdict.specs.declared.entry.Entry.{Entry}
use Rattle.ipcz_verdict.specs.declared.line.Line.{Line}
use Rattle.ipcz_verdict.specs.declared.line.Line.TheVariants as lines
use Rattle.ipcz_verdict.specs.declared.search.Taken.{Taken}
use Rattle.ipcz_verdict.specs.Desks.{Desk, HasAllowed}
use Rattle.ipcz_verdict.specs.Ledger.{IsAllowed}
use Rattle.ipcz_verdict.specs.Searches.{AreTried, CanEnd, HasEntries, IsBack, IsSearch, IsStack, IsWith, NoneBelow, key_of, left_of, rank_of, taken_lines}
use Rattle.ipcz_verdict.specs.Together.{AgreesWith, AreAllowed, calls_of, of_log}
use Rattle.ipcz_verdict.proofs.Facts.{same_some, some_none}
use Rattle.ipcz_verdict.proofs.Together.{append_nothing, eq_itself, calls-append, front_allowed, of_log-append, of_log-other, of_log-own, same_rest}

-- ---- lists

pub lines-append : (xs ys : List Taken) → taken_lines (xs ++ ys) ≡ taken_lines xs ++ taken_lines ys
lines-append [] ys = refl
lines-append (t ∷ ts) ys = ap (λ xs. t.entry ∷ xs) (lines-append ts ys)

left_beyond : (left : List (List Entry)) (log : ℕ) → length left ≤ log → left_of left log ≡ []
left_beyond [] log h = refl
left_beyond (q ∷ left) zero h = absurd (omega (arith, h))
left_beyond (q ∷ left) (suc n) h = left_beyond left n (omega (arith, h))

-- ---- which line may come next

-- what an allowed order goes on with is the first line that is left of its log
next_is : (nodes : ℕ) (profile : Profile) (entries order : List Entry) (left : List (List Entry)) (e : Entry) →
    ((log : ℕ) → of_log log order ++ left_of left log ≡ of_log log entries) → CanEnd nodes profile entries (order ++ e ∷ []) → (rest : List Entry) × (left_of left e.log ≡ e ∷ rest)
next_is nodes profile entries order left e parted can = (
  of_log e.log can.0,
  sym (same_rest (of_log e.log order) (e ∷ of_log e.log can.0) (left_of left e.log) (
      ap (λ xs. of_log e.log order ++ xs) (sym (of_log-own e can.0))
      ∙ sym (of_log-append e.log order (e ∷ can.0))
      ∙ ap (of_log e.log) (sym (append_assoc order (e ∷ []) can.0))
      ∙ can.1 e.log
      ∙ sym (parted e.log))),
)

next_within : (left : List (List Entry)) (e : Entry) (rest : List Entry) → length left ≡ 64 → left_of left e.log ≡ e ∷ rest → e.log < 64
next_within left e rest count is = go (nat_lt e.log 64) refl
  where
    go : (c : Bool) → nat_lt e.log 64 ≡ c → e.log < 64
    go true h = grind (arith, nat_tests, h)
    go false h = let far : length left ≤ e.log = grind (arith, nat_tests, h, count) in absurd (differ (sym (left_beyond left e.log far) ∙ is))
      where
        differ : [] ≡ e ∷ rest → ⊥
        differ k = cc

-- ---- a line that isn't taken

one_more : (nodes : ℕ) (profile : Profile) (entries order : List Entry) (key : ℕ) → NoneBelow nodes profile entries order key →
    ((e : Entry) → key_of e ≡ key → CanEnd nodes profile entries (order ++ e ∷ []) → ⊥) → NoneBelow nodes profile entries order (key + 1)
one_more nodes profile entries order key below here e less can = go (nat_lt (key_of e) key) refl
  where
    go : (c : Bool) → nat_lt (key_of e) key ≡ c → ⊥
    go true h = below e (grind (arith, nat_tests, h)) can
    go false h = here e (grind (arith, nat_tests, h, less)) can

pub more : (nodes : ℕ) (profile : Profile) (entries order : List Entry) (from to : ℕ) → from ≤ to → NoneBelow nodes profile entries order to → NoneBelow nodes profile entries order from
more nodes profile entries order from to le below e less can = below e (omega (arith, le, less)) can

rank_small : (line : Line) → rank_of line ≤ 3
rank_small (lines.Opened node first second) = omega arith
rank_small (lines.Put node at bytes [] number) = omega arith
rank_small (lines.Put node at bytes (n ∷ ns) number) = omega arith
rank_small (lines.Got node at bytes portals number) = omega arith
rank_small (lines.Closed node at number) = omega arith
rank_small (lines.OpenRefused node why) = omega arith
rank_small (lines.PutRefused node at bytes portals why) = omega arith
rank_small (lines.GetRefused node at why) = omega arith
rank_small (lines.CloseRefused node at why) = omega arith

-- the line with a key, if it comes next, stands first in the log that the key tells, and has the rank that it tells
pub record IsNext (left : List (List Entry)) (key : ℕ) (e : Entry) : Type 0 where
  pub rest : List Entry
  pub first : left_of left (key % 64) ≡ e ∷ rest
  pub rank : rank_of e.line ≡ key / 64

pub next_at : (nodes : ℕ) (profile : Profile) (entries : List Entry) (order : List Taken) (left : List (List Entry)) (key : ℕ) (e : Entry) → IsStack nodes profile entries order left →
    key_of e ≡ key → CanEnd nodes profile entries (taken_lines order ++ e ∷ []) → IsNext left key e
next_at nodes profile entries order left key e stack is can =
    let n = next_is nodes profile entries (taken_lines order) left e stack.parted can in
    let small : e.log < 64 = next_within left e n.0 stack.count n.1 in
    let log : e.log ≡ key % 64 = omega (arith, small, is) in
    let rank : rank_of e.line ≡ key / 64 = omega (arith, small, is) in
    record { rest = n.0; first = ap (left_of left) (sym log) ∙ n.1; rank = rank }

pub skipped : (nodes : ℕ) (profile : Profile) (entries : List Entry) (judge : Desk) (order : List Taken) (left : List (List Entry)) (key : ℕ) →
    IsSearch nodes profile entries judge order left key → ((e : Entry) → IsNext left key e → CanEnd nodes profile entries (taken_lines order ++ e ∷ []) → ⊥) →
    IsSearch nodes profile entries judge order left (key + 1)
skipped nodes profile entries judge order left key was never = record {
  stack = was.stack;
  judged = was.judged;
  below = one_more nodes profile entries (taken_lines order) key was.below (λ e is can. never e (next_at nodes profile entries order left key e was.stack is can) can);
}

-- no line is left of that log
pub skip_none : (nodes : ℕ) (profile : Profile) (entries : List Entry) (judge : Desk) (order : List Taken) (left : List (List Entry)) (key : ℕ) →
    IsSearch nodes profile entries judge order left key → slice_get (left_of left (key % 64)) 0 ≡ None → IsSearch nodes profile entries judge order left (key + 1)
skip_none nodes profile entries judge order left key was none = skipped nodes profile entries judge order left key was
    (λ e next can. some_none (slice_get (left_of left (key % 64)) 0) (ap (λ xs. slice_get xs 0) next.first) none)

-- its first line has another rank
pub skip_rank : (nodes : ℕ) (profile : Profile) (entries : List Entry) (judge : Desk) (order : List Taken) (left : List (List Entry)) (key : ℕ) (entry : Entry) →
    IsSearch nodes profile entries judge order left key → slice_get (left_of left (key % 64)) 0 ≡ Some entry → (rank_of entry.line ≡ key / 64 → ⊥) →
    IsSearch nodes profile entries judge order left (key + 1)
skip_rank nodes profile entries judge order left key entry search some other = skipped nodes profile entries judge order left key search
    (λ e next can. other (ap (λ (x : Entry). rank_of x.line) (same_some (sym some ∙ ap (λ xs. slice_get xs 0) next.first)) ∙ next.rank))

calls_more : (xs : List Entry) (e : Entry) (rest : List Entry) → calls_of ((xs ++ e ∷ []) ++ rest) ≡ (calls_of xs ++ e.line ∷ []) ++ calls_of rest
calls_more xs e rest = calls-append (xs ++ e ∷ []) rest ∙ ap (λ ys. ys ++ calls_of rest) (calls-append xs (e ∷ []))

-- or it isn't allowed now
pub skip_refused : (nodes : ℕ) (profile : Profile) (entries : List Entry) (judge : Desk) (order : List Taken) (left : List (List Entry)) (key : ℕ) (entry : Entry) →
    IsSearch nodes profile entries judge order left key → slice_get (left_of left (key % 64)) 0 ≡ Some entry → (IsAllowed nodes profile (calls_of (taken_lines order) ++ entry.line ∷ []) → ⊥) →
    IsSearch nodes profile entries judge order left (key + 1)
skip_refused nodes profile entries judge order left key entry was some never = skipped nodes profile entries judge order left key was
    (λ e next can. never (subst (λ (x : Entry). IsAllowed nodes profile (calls_of (taken_lines order) ++ x.line ∷ [])) (same_some (ap (λ xs. slice_get xs 0) (sym next.first) ∙ some))
    (front_allowed nodes profile (calls_of (taken_lines order) ++ e.line ∷ []) (calls_of can.0)
    (subst (λ ls. IsAllowed nodes profile ls) (calls_more (taken_lines order) e can.0) can.2))))

-- ---- a line that is taken

-- the lines of a log are of that log
of_its_log : (log : ℕ) (es xs : List Entry) (e : Entry) (ys : List Entry) → of_log log es ≡ xs ++ e ∷ ys → e.log ≡ log
of_its_log log [] [] e ys h = absurd (differ h)
  where
    differ : [] ≡ e ∷ ys → ⊥
    differ k = cc
of_its_log log [] (x ∷ xs) e ys h = absurd (differ h)
  where
    differ : [] ≡ x ∷ (xs ++ e ∷ ys) → ⊥
    differ k = cc
of_its_log log (d ∷ es) xs e ys h = go (nat_eq d.log log) refl (λ zs. of_its_log log es zs e ys) xs h
  where
    go : (c : Bool) → nat_eq d.log log ≡ c → ((zs : List Entry) → of_log log es ≡ zs ++ e ∷ ys → e.log ≡ log) → (zs : List Entry) → cond c (d ∷ of_log log es) (of_log log es) ≡ zs ++ e ∷ ys → e.log ≡ log
    go false is rec zs k = rec zs k
    go true is rec [] k =
        let same : d ≡ e = heads k in
        let here : d.log ≡ log = grind (arith, nat_tests, is) in
        ap (λ (x : Entry). x.log) (sym same) ∙ here
      where
        heads : d ∷ of_log log es ≡ e ∷ ys → d ≡ e
        heads m = cc
    go true is rec (z ∷ zs) k = rec zs (tails k)
      where
        tails : d ∷ of_log log es ≡ z ∷ (zs ++ e ∷ ys) → of_log log es ≡ zs ++ e ∷ ys
        tails m = cc

-- what is tried of an order with one more line
tried_more : (nodes : ℕ) (profile : Profile) (entries before : List Entry) (order : List Taken) (t : Taken) → AreTried nodes profile entries before order →
    ((CanEnd nodes profile entries ((before ++ taken_lines order) ++ t.entry ∷ []) → ⊥) → NoneBelow nodes profile entries (before ++ taken_lines order) t.next) →
    AreTried nodes profile entries before (order ++ t ∷ [])
tried_more nodes profile entries before [] t tried last = (
  subst (λ xs. (CanEnd nodes profile entries (xs ++ t.entry ∷ []) → ⊥) → NoneBelow nodes profile entries xs t.next) (append_nothing before) last,
  tt,
)
tried_more nodes profile entries before (u ∷ order) t tried last = (
  tried.0,
  tried_more nodes profile entries (before ++ u.entry ∷ []) order t tried.1
      (subst (λ xs. (CanEnd nodes profile entries (xs ++ t.entry ∷ []) → ⊥) → NoneBelow nodes profile entries xs t.next) (sym (append_assoc before (u.entry ∷ []) (taken_lines order))) last),
)

-- and of it without that line
tried_less : (nodes : ℕ) (profile : Profile) (entries before : List Entry) (order : List Taken) (t : Taken) → AreTried nodes profile entries before (order ++ t ∷ []) →
    AreTried nodes profile entries before order
    × ((CanEnd nodes profile entries ((before ++ taken_lines order) ++ t.entry ∷ []) → ⊥) → NoneBelow nodes profile entries (before ++ taken_lines order) t.next)
tried_less nodes profile entries before [] t tried = (
  tt,
  subst (λ xs. (CanEnd nodes profile entries (xs ++ t.entry ∷ []) → ⊥) → NoneBelow nodes profile entries xs t.next) (sym (append_nothing before)) tried.0,
)
tried_less nodes profile entries before (u ∷ order) t tried =
    let less = tried_less nodes profile entries (before ++ u.entry ∷ []) order t tried.1 in (
      (tried.0, less.0),
      subst (λ xs. (CanEnd nodes profile entries (xs ++ t.entry ∷ []) → ⊥) → NoneBelow nodes profile entries xs t.next) (append_assoc before (u.entry ∷ []) (taken_lines order)) less.1,
    )

-- the logs are parted as before if a line goes from the front of what is left to the end of what was taken
parted_more : (entries order : List Entry) (left new : List (List Entry)) (e : Entry) → ((log : ℕ) → of_log log order ++ left_of left log ≡ of_log log entries) →
    left_of left e.log ≡ e ∷ left_of new e.log → IsWith left e.log (left_of new e.log) new → (log : ℕ) → of_log log (order ++ e ∷ []) ++ left_of new log ≡ of_log log entries
parted_more entries order left new e parted first is log = go (nat_eq e.log log) refl
  where
    go : (c : Bool) → nat_eq e.log log ≡ c → of_log log (order ++ e ∷ []) ++ left_of new log ≡ of_log log entries
    go true h =
        let same : e.log ≡ log = grind (arith, nat_tests, h) in
        subst (λ k. of_log k (order ++ e ∷ []) ++ left_of new k ≡ of_log k entries) same
        (ap (λ xs. xs ++ left_of new e.log) (of_log-append e.log order (e ∷ []) ∙ ap (λ xs. of_log e.log order ++ xs) (of_log-own e []))
        ∙ append_assoc (of_log e.log order) (e ∷ []) (left_of new e.log) ∙ ap (λ xs. of_log e.log order ++ xs) (sym first) ∙ parted e.log)
    go false h =
        let other : nat_eq log e.log ≡ false = grind (arith, nat_tests, h) in
        ap (λ xs. xs ++ left_of new log) (of_log-append log order (e ∷ []) ∙ ap (λ xs. of_log log order ++ xs) (of_log-other log e [] h) ∙ append_nothing (of_log log order))
        ∙ ap (λ xs. of_log log order ++ xs) (is.logs log ∙ ap (λ c. cond c (left_of new e.log) (left_of left log)) other) ∙ parted log

pub its_log : (nodes : ℕ) (profile : Profile) (entries : List Entry) (order : List Taken) (left : List (List Entry)) (log : ℕ) (e : Entry) (rest : List Entry) →
    IsStack nodes profile entries order left → left_of left log ≡ e ∷ rest → e.log ≡ log
its_log nodes profile entries order left log e rest stack first =
    of_its_log log entries (of_log log (taken_lines order)) e rest (sym (stack.parted log) ∙ ap (λ xs. of_log log (taken_lines order) ++ xs) first)

abbrev pub IsDone : ℕ → Profile → List Entry → List Taken → Entry → ℕ → Type 0
IsDone nodes profile entries order e next = (CanEnd nodes profile entries (taken_lines order ++ e ∷ []) → ⊥) → NoneBelow nodes profile entries (taken_lines order) next

pub took : (nodes : ℕ) (profile : Profile) (entries : List Entry) (old judge : Desk) (order : List Taken) (left new : List (List Entry)) (key log : ℕ) (e : Entry) (next : ℕ) →
    IsSearch nodes profile entries old order left key → left_of left log ≡ e ∷ left_of new log → IsWith left log (left_of new log) new →
    HasAllowed judge nodes profile (calls_of (taken_lines order) ++ e.line ∷ []) → IsDone nodes profile entries order e next →
    IsSearch nodes profile entries judge (order ++ (record { entry = e; next = next }) ∷ []) new 0
took nodes profile entries old judge order left new key log e next search first is has last = record {
  stack = record {
    count = is.count ∙ search.stack.count;
    within = search.stack.within;
    parted = λ k. ap (λ xs. of_log k xs ++ left_of new k) (lines-append order (t ∷ [])) ∙ parted_more entries (taken_lines order) left new e search.stack.parted
        (subst (λ n. left_of left n ≡ e ∷ left_of new n) (sym own) first) (subst (λ n. IsWith left n (left_of new n) new) (sym own) is) k;
    tried = tried_more nodes profile entries [] order t search.stack.tried last;
    allowed = (has_now.ledger, has_now.run);
  };
  judged = has_now;
  below = λ x less can. absurd (omega (arith, less));
}
  where
    t : Taken
    t = record { entry = e; next = next }

    own : e.log ≡ log
    own = its_log nodes profile entries order left log e (left_of new log) search.stack first

    has_now : HasAllowed judge nodes profile (calls_of (taken_lines (order ++ (record { entry = e; next = next }) ∷ [])))
    has_now = subst (λ ls. HasAllowed judge nodes profile ls)
        (sym (ap calls_of (lines-append order ((record { entry = e; next = next }) ∷ [])) ∙ calls-append (taken_lines order) (e ∷ []))) has

-- all that may come in its place: what has higher keys
pub done_beside : (nodes : ℕ) (profile : Profile) (entries : List Entry) (judge : Desk) (order : List Taken) (left : List (List Entry)) (key : ℕ) (e : Entry) (rest : List Entry) →
    IsSearch nodes profile entries judge order left key → left_of left (key % 64) ≡ e ∷ rest → IsDone nodes profile entries order e (key + 1)
done_beside nodes profile entries judge order left key e rest search first none = one_more nodes profile entries (taken_lines order) key search.below
    (λ x is can. none (subst (λ y. CanEnd nodes profile entries (taken_lines order ++ y ∷ []))
    (heads (sym (next_at nodes profile entries order left key x search.stack is can).first ∙ first)) can))
  where
    heads : {x y : Entry} {xs ys : List Entry} → x ∷ xs ≡ y ∷ ys → x ≡ y
    heads m = cc

-- ---- the end, and lines that are taken back

pub found : (nodes : ℕ) (profile : Profile) (entries : List Entry) (order : List Taken) (left : List (List Entry)) → IsStack nodes profile entries order left →
    ((log : ℕ) → left_of left log ≡ []) → AreAllowed nodes profile entries
found nodes profile entries order left stack none = (
  taken_lines order,
  (λ log. sym (append_nothing (of_log log (taken_lines order))) ∙ ap (λ xs. of_log log (taken_lines order) ++ xs) (sym (none log)) ∙ stack.parted log),
  stack.allowed,
)

pub dead : (nodes : ℕ) (profile : Profile) (entries : List Entry) (order : List Taken) (left : List (List Entry)) (from : ℕ) → IsStack nodes profile entries order left →
    NoneBelow nodes profile entries (taken_lines order) from → 256 ≤ from → (((log : ℕ) → left_of left log ≡ []) → ⊥) → CanEnd nodes profile entries (taken_lines order) → ⊥
dead nodes profile entries order left from stack below le some can = go can.0 can.1 can.2
  where
    go : (rest : List Entry) → AgreesWith (taken_lines order ++ rest) entries → IsAllowed nodes profile (calls_of (taken_lines order ++ rest)) → ⊥
    go [] agrees it = some (λ log. same_rest (of_log log (taken_lines order)) (left_of left log) [] (stack.parted log ∙ sym (agrees log)
        ∙ ap (of_log log) (append_nothing (taken_lines order)) ∙ sym (append_nothing (of_log log (taken_lines order)))))
    go (e ∷ rest) agrees it =
        let same = append_assoc (taken_lines order) (e ∷ []) rest in
        let here : CanEnd nodes profile entries (taken_lines order ++ e ∷ []) =
        (rest, (λ log. ap (of_log log) same ∙ agrees log), subst (λ xs. IsAllowed nodes profile (calls_of xs)) (sym same) it) in
        let n = next_is nodes profile entries (taken_lines order) left e stack.parted here in
        let small : e.log < 64 = next_within left e n.0 stack.count n.1 in
        let few : rank_of e.line ≤ 3 = rank_small e.line in
        let low : key_of e < from = omega (arith, small, few, le) in
        below e low here

pub at_end : (nodes : ℕ) (profile : Profile) (entries : List Entry) → (CanEnd nodes profile entries [] → ⊥) → AreAllowed nodes profile entries → ⊥
at_end nodes profile entries none are = none (are.0, are.1, are.2)

-- a line goes back to its log
pub record IsTakenBack (nodes : ℕ) (profile : Profile) (entries : List Entry) (order : List Taken) (t : Taken) (new : List (List Entry)) : Type 0 where
  pub stack : IsStack nodes profile entries order new
  pub below : NoneBelow nodes profile entries (taken_lines order) t.next
  pub some : ((log : ℕ) → left_of new log ≡ []) → ⊥

parted_less : (entries order : List Entry) (left new : List (List Entry)) (e : Entry) → ((log : ℕ) → of_log log (order ++ e ∷ []) ++ left_of left log ≡ of_log log entries) →
    IsWith left e.log (e ∷ left_of left e.log) new → (log : ℕ) → of_log log order ++ left_of new log ≡ of_log log entries
parted_less entries order left new e parted is log = go (nat_eq log e.log) refl
  where
    go : (c : Bool) → nat_eq log e.log ≡ c → of_log log order ++ left_of new log ≡ of_log log entries
    go true h =
        let same : e.log ≡ log = grind (arith, nat_tests, h) in
        ap (λ xs. of_log log order ++ xs) (is.logs log ∙ ap (λ c. cond c (e ∷ left_of left e.log) (left_of left log)) h ∙ ap (λ k. e ∷ left_of left k) same)
        ∙ sym (append_assoc (of_log log order) (e ∷ []) (left_of left log))
        ∙ ap (λ xs. xs ++ left_of left log) (ap (λ xs. of_log log order ++ xs) (sym (subst (λ k. of_log k (e ∷ []) ≡ e ∷ []) same (of_log-own e []))) ∙ sym (of_log-append log order (e ∷ [])))
        ∙ parted log
    go false h =
        let other : nat_eq e.log log ≡ false = grind (arith, nat_tests, h) in
        ap (λ xs. of_log log order ++ xs) (is.logs log ∙ ap (λ c. cond c (e ∷ left_of left e.log) (left_of left log)) h)
        ∙ ap (λ xs. xs ++ left_of left log) (sym (append_nothing (of_log log order)) ∙ ap (λ xs. of_log log order ++ xs) (sym (of_log-other log e [] other)) ∙ sym (of_log-append log order (e ∷ [])))
        ∙ parted log

pub taken_back : (nodes : ℕ) (profile : Profile) (entries : List Entry) (order : List Taken) (t : Taken) (left new : List (List Entry)) → IsStack nodes profile entries (order ++ t ∷ []) left →
    (CanEnd nodes profile entries (taken_lines (order ++ t ∷ [])) → ⊥) → IsWith left t.entry.log (t.entry ∷ left_of left t.entry.log) new → IsTakenBack nodes profile entries order t new
taken_back nodes profile entries order t left new stack none is =
    let lines : taken_lines (order ++ t ∷ []) ≡ taken_lines order ++ t.entry ∷ [] = lines-append order (t ∷ []) in
    let less = tried_less nodes profile entries [] order t stack.tried in
    let parted = parted_less entries (taken_lines order) left new t.entry (λ log. ap (λ xs. of_log log xs ++ left_of left log) (sym lines) ∙ stack.parted log) is in
    record {
      stack = record {
        count = is.count ∙ stack.count;
        within = stack.within;
        parted = parted;
        tried = less.0;
        allowed = front_allowed nodes profile (calls_of (taken_lines order)) (t.entry.line ∷ []) (subst (λ ls. IsAllowed nodes profile ls) (ap calls_of lines ∙ calls-append (taken_lines order) (t.entry ∷ [])) stack.allowed);
      };
      below = less.1 (λ can. none (subst (λ xs. CanEnd nodes profile entries xs) (sym lines) can));
      some = λ all. differ (sym (all t.entry.log) ∙ is.logs t.entry.log ∙ ap (λ c. cond c (t.entry ∷ left_of left t.entry.log) (left_of left t.entry.log)) (eq_itself t.entry.log));
    }
  where
    differ : {xs : List Entry} {x : Entry} → [] ≡ x ∷ xs → ⊥
    differ k = cc

-- the log of a line that was taken is one of the logs
pub taken_within : (nodes : ℕ) (profile : Profile) (entries : List Entry) (order : List Taken) (t : Taken) (left : List (List Entry)) → IsStack nodes profile entries (order ++ t ∷ []) left →
    length left ≤ t.entry.log → ⊥
taken_within nodes profile entries order t left stack far =
    let log : ℕ = t.entry.log in
    let beyond : 64 ≤ log = omega (arith, far, stack.count) in
    let all : of_log log (taken_lines order ++ t.entry ∷ []) ++ left_of left log ≡ [] = ap (λ xs. of_log log xs ++ left_of left log) (sym (lines-append order (t ∷ []))) ∙ stack.parted log ∙ stack.within log beyond in
    nothing (of_log log (taken_lines order)) (left_of left log)
    (ap (λ xs. xs ++ left_of left log) (sym (of_log-append log (taken_lines order) (t.entry ∷ []) ∙ ap (λ xs. of_log log (taken_lines order) ++ xs) (of_log-own t.entry []))) ∙ all)
  where
    nothing : (xs ys : List Entry) → (xs ++ t.entry ∷ []) ++ ys ≡ [] → ⊥
    nothing [] ys k = differ k
      where
        differ : t.entry ∷ ys ≡ [] → ⊥
        differ m = cc
    nothing (x ∷ xs) ys k = differ k
      where
        differ : x ∷ ((xs ++ t.entry ∷ []) ++ ys) ≡ [] → ⊥
        differ m = cc

pub start : (nodes : ℕ) (profile : Profile) (entries : List Entry) (judge : Desk) (left : List (List Entry)) → HasEntries left entries → HasAllowed judge nodes profile [] →
    IsSearch nodes profile entries judge [] left 0
start nodes profile entries judge left has allowed = record {
  stack = record {
    count = has.count;
    within = λ log far. let beyond : length left ≤ log = omega (arith, far, has.count) in sym (has.logs log) ∙ left_beyond left log beyond;
    parted = has.logs;
    tried = tt;
    allowed = (allowed.ledger, allowed.run);
  };
  judged = allowed;
  below = λ e less can. absurd (omega (arith, less));
}

-- ---- the logs, one by one

pub one_longer : (left : List (List Entry)) → length (left ++ [] ∷ []) ≡ length left + 1
one_longer [] = refl
one_longer (q ∷ left) = omega (arith, one_longer left)

pub none_more : (left : List (List Entry)) → ((k : ℕ) → left_of left k ≡ []) → (k : ℕ) → left_of (left ++ [] ∷ []) k ≡ []
none_more [] none zero = refl
none_more [] none (suc k) = refl
none_more (q ∷ left) none zero = none zero
none_more (q ∷ left) none (suc k) = none_more left (λ n. none (suc n)) k

pub no_lines : (left : List (List Entry)) → length left ≡ 64 → ((k : ℕ) → left_of left k ≡ []) → HasEntries left []
no_lines left count none = record { count = count; logs = none }

pub pushed : (old new : List (List Entry)) (entries : List Entry) (e : Entry) → HasEntries old entries → IsWith old e.log (left_of old e.log ++ e ∷ []) new → HasEntries new (entries ++ e ∷ [])
pushed old new entries e has is = record {
  count = is.count ∙ has.count;
  logs = λ log. is.logs log ∙ go log (nat_eq log e.log) refl ∙ sym (of_log-append log entries (e ∷ []));
}
  where
    go : (log : ℕ) (c : Bool) → nat_eq log e.log ≡ c → cond c (left_of old e.log ++ e ∷ []) (left_of old log) ≡ of_log log entries ++ of_log log (e ∷ [])
    go log true h =
        let same : e.log ≡ log = grind (arith, nat_tests, h) in
        ap₂ (λ xs ys. xs ++ ys) (ap (left_of old) same ∙ has.logs log) (sym (subst (λ k. of_log k (e ∷ []) ≡ e ∷ []) same (of_log-own e [])))
    go log false h =
        let other : nat_eq e.log log ≡ false = grind (arith, nat_tests, h) in
        has.logs log ∙ sym (append_nothing (of_log log entries)) ∙ ap (λ xs. of_log log entries ++ xs) (sym (of_log-other log e [] other))

pub none_of : {X : Type 0} (o : Option X) → is_some o ≡ false → o ≡ None
none_of None h = refl
none_of (Some x) h = cc

pub empty_is : (q : List Entry) → slice_get q 0 ≡ None → q ≡ []
empty_is [] h = refl
empty_is (e ∷ q) h = cc

pub seen : (left : List (List Entry)) (i : ℕ) (d : List Entry) → i < length left → slice_index_or left i d ≡ left_of left i
seen [] i d h = absurd (omega (arith, h))
seen (q ∷ left) zero d h = refl
seen (q ∷ left) (suc i) d h = seen left i d (omega (arith, h))

pub all_none : (left : List (List Entry)) (i : ℕ) → ((k : ℕ) → k < i → left_of left k ≡ []) → length left ≤ i → (log : ℕ) → left_of left log ≡ []
all_none left i below le log = go (nat_lt log i) refl
  where
    go : (c : Bool) → nat_lt log i ≡ c → left_of left log ≡ []
    go true h = below log (grind (arith, nat_tests, h))
    go false h = let far : i ≤ log = grind (arith, nat_tests, h) in left_beyond left log (omega (arith, far, le))

pub same_first : (q rest : List Entry) (x e : Entry) → slice_get q 0 ≡ Some x → q ≡ e ∷ rest → x ≡ e
same_first q rest x e some is = same_some (sym some ∙ ap (λ xs. slice_get xs 0) is)

pub lowered : (nodes : ℕ) (profile : Profile) (entries : List Entry) (judge : Desk) (order : List Taken) (left : List (List Entry)) (from to : ℕ) → from ≤ to →
    IsSearch nodes profile entries judge order left to → IsSearch nodes profile entries judge order left from
lowered nodes profile entries judge order left from to le search =
    record { stack = search.stack; judged = search.judged; below = more nodes profile entries (taken_lines order) from to le search.below }

-- ---- a step

-- nothing goes on here, so lines are taken back
pub back_of : (nodes : ℕ) (profile : Profile) (entries : List Entry) (judge : Desk) (order : List Taken) (left same : List (List Entry)) (after : List Taken) (new : List (List Entry))
    (o : Option ℕ) (b : Bool) → IsSearch nodes profile entries judge order left 256 → same ≡ left →
    MatchBool b ((log : ℕ) → left_of same log ≡ []) (((log : ℕ) → left_of same log ≡ []) → ⊥) → b ≡ false →
    (IsStack nodes profile entries order left → (CanEnd nodes profile entries (taken_lines order) → ⊥) → IsBack nodes profile entries after new o) → IsBack nodes profile entries after new o
back_of nodes profile entries judge order left same after new o b was is tells shut back = back was.stack
    (dead nodes profile entries order left 256 was.stack was.below (omega arith)
    (subst (λ (q : List (List Entry)). ((log : ℕ) → left_of q log ≡ []) → ⊥) is
    (subst (λ c. MatchBool c ((log : ℕ) → left_of same log ≡ []) (((log : ℕ) → left_of same log ≡ []) → ⊥)) shut tells)))

pub search_of : (nodes : ℕ) (profile : Profile) (entries : List Entry) (judge : Desk) (order : List Taken) (left : List (List Entry)) (from : ℕ) →
    IsStack nodes profile entries order left × NoneBelow nodes profile entries (taken_lines order) from → HasAllowed judge nodes profile (calls_of (taken_lines order)) →
    IsSearch nodes profile entries judge order left from
search_of nodes profile entries judge order left from back judged = record { stack = back.0; judged = judged; below = back.1 }

-- ---- lines that are judged again

calls_take : (order : List Taken) (i : ℕ) (t : Taken) → i < length order → t ≡ slice_index_or order i t →
    calls_of (taken_lines (take (i + 1) order)) ≡ calls_of (taken_lines (take i order)) ++ t.entry.line ∷ []
calls_take order i t h is =
    ap (λ (ts : List Taken). calls_of (taken_lines ts)) (take_more order i t h) ∙ ap calls_of (lines-append (take i order) (slice_index_or order i t ∷ []))
    ∙ calls-append (taken_lines (take i order)) ((slice_index_or order i t).entry ∷ []) ∙ ap (λ (x : Taken). calls_of (taken_lines (take i order)) ++ x.entry.line ∷ []) (sym is)

take_rest : (order : List Taken) (k : ℕ) → order ≡ take k order ++ drop k order
take_rest [] zero = refl
take_rest [] (suc k) = refl
take_rest (t ∷ order) zero = refl
take_rest (t ∷ order) (suc k) = ap (λ ts. t ∷ ts) (take_rest order k)

pub take_whole : (order : List Taken) (k : ℕ) → length order ≤ k → take k order ≡ order
take_whole [] zero h = refl
take_whole [] (suc k) h = refl
take_whole (t ∷ order) zero h = absurd (omega (arith, h))
take_whole (t ∷ order) (suc k) h = ap (λ ts. t ∷ ts) (take_whole order k (omega (arith, h)))

pub again : (nodes : ℕ) (profile : Profile) (order same : List Taken) (i : ℕ) (t : Taken) (judge : Desk) (b : Bool) → same ≡ order → i < length same → t ≡ slice_index_or same i t →
    IsAllowed nodes profile (calls_of (taken_lines order)) →
    MatchBool b (HasAllowed judge nodes profile (calls_of (taken_lines (take i order)) ++ t.entry.line ∷ [])) (IsAllowed nodes profile (calls_of (taken_lines (take i order)) ++ t.entry.line ∷ []) → ⊥) →
    HasAllowed judge nodes profile (calls_of (taken_lines (take (i + 1) order)))
again nodes profile order same i t judge b eq h is it tells = go b tells
  where
    lines : calls_of (taken_lines (take (i + 1) order)) ≡ calls_of (taken_lines (take i order)) ++ t.entry.line ∷ []
    lines = calls_take order i t (subst (λ (ts : List Taken). i < length ts) eq h) (subst (λ (ts : List Taken). t ≡ slice_index_or ts i t) eq is)

    front : IsAllowed nodes profile (calls_of (taken_lines (take (i + 1) order)))
    front = front_allowed nodes profile (calls_of (taken_lines (take (i + 1) order))) (calls_of (taken_lines (drop (i + 1) order)))
        (subst (λ ls. IsAllowed nodes profile ls)
        (ap (λ (ts : List Taken). calls_of (taken_lines ts)) (take_rest order (i + 1)) ∙ ap calls_of (lines-append (take (i + 1) order) (drop (i + 1) order))
        ∙ calls-append (taken_lines (take (i + 1) order)) (taken_lines (drop (i + 1) order))) it)

    go : (c : Bool) → MatchBool c (HasAllowed judge nodes profile (calls_of (taken_lines (take i order)) ++ t.entry.line ∷ [])) (IsAllowed nodes profile (calls_of (taken_lines (take i order)) ++ t.entry.line ∷ []) → ⊥) →
        HasAllowed judge nodes profile (calls_of (taken_lines (take (i + 1) order)))
    go true has = subst (λ ls. HasAllowed judge nodes profile ls) (sym lines) has
    go false never = absurd (never (subst (λ ls. IsAllowed nodes profile ls) lines front))

pub back_step : (nodes : ℕ) (profile : Profile) (entries : List Entry) (old order : List Taken) (t : Taken) (left same new : List (List Entry)) → IsStack nodes profile entries old left →
    (CanEnd nodes profile entries (taken_lines old) → ⊥) → old ≡ order ++ t ∷ [] → same ≡ left →
    (t.entry.log < length same → IsWith same t.entry.log (t.entry ∷ left_of same t.entry.log) new) → IsTakenBack nodes profile entries order t new
back_step nodes profile entries old order t left same new stack never last eq put =
    let here : IsStack nodes profile entries (order ++ t ∷ []) left = subst (λ (ts : List Taken). IsStack nodes profile entries ts left) last stack in
    taken_back nodes profile entries order t left new here (subst (λ (ts : List Taken). CanEnd nodes profile entries (taken_lines ts) → ⊥) last never)
    (subst (λ (q : List (List Entry)). IsWith q t.entry.log (t.entry ∷ left_of q t.entry.log) new) eq
    (put (subst (λ (q : List (List Entry)). t.entry.log < length q) (sym eq) (within here (nat_lt t.entry.log (length left)) refl))))
  where
    within : IsStack nodes profile entries (order ++ t ∷ []) left → (c : Bool) → nat_lt t.entry.log (length left) ≡ c → t.entry.log < length left
    within here true h = grind (arith, nat_tests, h)
    within here false h = let far : length left ≤ t.entry.log = grind (arith, nat_tests, h) in absurd (taken_within nodes profile entries order t left here far)
