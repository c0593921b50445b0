-- What is written of a run that ends with its script is judged to be allowed.
use Rattle.std.proofs.Common.{◌≡◌, ◌∙◌, ◌+◌, ◌-◌, ◌==◌, MatchBool, ℕ, zero, suc, Bool, true, false, not, List, [], ◌∷◌, ◌++◌, length, take, drop, Option, Some, None, Result, Ok, Err, inl, inr, refl, sym, ap, subst, arith, codes, append-nil, append_assoc}
use Rattle.std.specs.Prelude.{IsUtf8, nat_eq, nat_le, if◌then◌else◌, option_and_then, option_map}
use Rattle.std.specs.List.{AllByRecursion}
use Rattle.std.specs.Option.{option_map_or}
use Rattle.std.proofs.lemmas.Bool.{and_parts}
use Rattle.std.proofs.lemmas.Bool.Decides.{nat_tests}
use Rattle.serde_json.specs.Data.{Data, number, unsigned}
use Rattle.serde_json.specs.Find.{as_str, get}
use Rattle.ipcz_script.specs.declared.command.Command.{Command}
use Rattle.ipcz_script.specs.declared.command.Command.TheVariants as commands
use Rattle.ipcz_script.specs.declared.script_fault.ScriptFault.{ScriptFault}
use Rattle.ipcz_script.specs.declared.script_fault.ScriptFault.TheVariants.{BadShape}
use Rattle.ipcz_script.specs.ReadBack.{lacks, text_of}
use Rattle.ipcz_script.specs.Scripts.{has_three_members, nodes_in, values_in, words_in}
use Rattle.ipcz_script.specs.Sessions.{Session, new_session}
use Rattle.ipcz_script.specs.Shapes.{command_in, number_within, values_of}
use Rattle.ipcz_script.proofs.ReadNames.{Reads, Where, any, where-else, where-then}
use Rattle.ipcz_node.specs.FirstPairs.{first_pair_count}
use Rattle.ipcz_events.specs.declared.entry.Entry.{Entry}
use Rattle.ipcz_events.specs.declared.entry.Entry.TheVariants as entries
use Rattle.ipcz_events.specs.declared.ending.Ending.TheVariants as endings
use Rattle.ipcz_events.specs.declared.header.Header.{Header}
use Rattle.ipcz_events.specs.declared.order.Order.{Order}
use Rattle.ipcz_events.specs.declared.order.Order.TheVariants as orders
use Rattle.ipcz_events.specs.declared.run.Run.{Run}
use Rattle.ipcz_events.specs.declared.schedule.Schedule.{Schedule}
use Rattle.ipcz_events.specs.declared.verdict.Verdict.TheVariants as verdicts
use Rattle.ipcz_events.specs.declared.who.Who.{Who}
use Rattle.ipcz_events.specs.declared.who.Who.TheVariants as whose
use Rattle.ipcz_events.specs.Reading.{called_by, entry_in, header_in}
use Rattle.ipcz_events.specs.Rules.{IsAllowed, MayLog, is_call}
use Rattle.ipcz_events.specs.RunOutputs.{RunsAreJudged}
use Rattle.ipcz_events.specs.Runs.{Acts, IsCalled, Obeys, ObeysAll, first_run, was_idle}
use Rattle.ipcz_events.specs.Schedules.{IsSchedule, act_in, act_of, asks, is_taken_by, order_in, order_of, orders_from, schedule_from, schedule_of, with_members, with_orders}
use Rattle.ipcz_events.specs.Verdicts.{IsHeader, IsLine, IsSaidOf, line_len, onto_first, text_lines}
use Rattle.ipcz_events.specs.Written.{AreUtf8, AreWritten, HasByte, IsWritten, entry_data, header_data, own_text}
use Rattle.ipcz_events.proofs.Allowed.{runs_are_allowed}
use Rattle.ipcz_events.proofs.ReadingBack.{IsBack, command-back, within-back}

-- ---- the lines of a text

no_feed : (b : ℕ) (bs : List ℕ) → lacks 10 (b ∷ bs) ≡ true → (nat_eq b 10 ≡ false) × (lacks 10 bs ≡ true)
no_feed b bs h = go (b == 10) refl (and_parts (not (b == 10)) (lacks 10 bs) h)
  where
    go : (c : Bool) → (b == 10) ≡ c → (not (b == 10) ≡ true) × (lacks 10 bs ≡ true) → (nat_eq b 10 ≡ false) × (lacks 10 bs ≡ true)
    go true e both = absurd (let never : false ≡ true = ap not (sym e) ∙ both.0 in cc)
    go false e both = (e, both.1)

pub first_line : (l rest : List ℕ) → lacks 10 l ≡ true → text_lines (l ++ 10 ∷ rest) ≡ l ∷ text_lines rest
first_line [] rest h = refl
first_line (b ∷ l) rest h =
    let t = no_feed b l h in
    ap (λ c. if c then [] ∷ text_lines (l ++ 10 ∷ rest) else onto_first b (text_lines (l ++ 10 ∷ rest))) t.0
    ∙ ap (onto_first b) (first_line l rest t.1)

pub first_len : (l rest : List ℕ) → lacks 10 l ≡ true → line_len (l ++ 10 ∷ rest) ≡ length l
first_len [] rest h = refl
first_len (b ∷ l) rest h =
    let t = no_feed b l h in
    ap (λ c. if c then 0 else suc (line_len (l ++ 10 ∷ rest))) t.0 ∙ ap suc (first_len l rest t.1)

pub front_is : (l rest : List ℕ) → take (length l) (l ++ rest) ≡ l
front_is [] rest = refl
front_is (b ∷ l) rest = ap (λ x. b ∷ x) (front_is l rest)

pub behind_is : (l rest : List ℕ) (b : ℕ) → drop (suc (length l)) (l ++ b ∷ rest) ≡ rest
behind_is [] rest b = refl
behind_is (a ∷ l) rest b = behind_is l rest b

-- ---- entries

-- a call is read from its own value
abbrev pub HasForm : ℕ → Entry → Type 0
HasForm nodes (entries.Acted n text) = Unit {0}
HasForm nodes (entries.Call c text) = IsBack nodes c × (is_call c ≡ true)

entry-back : (nodes : ℕ) (e : Entry) → HasByte e → HasForm nodes e → entry_in nodes (entry_data e) ≡ Some e
entry-back nodes (entries.Acted n text) byte form = let few : nat_le n 255 ≡ true = grind (arith, byte, nat_tests) in rw few refl
entry-back nodes (entries.Call c text) byte back = ap (called_by (Some text)) (back.0 back.1)

pub line-back : (nodes : ℕ) (e : Entry) (text : List ℕ) → IsWritten e text → IsUtf8 (own_text e) → HasForm nodes e → IsLine nodes text (Some e)
line-back nodes e text is utf8 form = (Some (entry_data e), (is.value utf8).reads, sym (entry-back nodes e is.byte form))

-- ---- what is said of them

may-front : (xs ys : List Entry) (s t : Session) → MayLog s (xs ++ ys) t → (u : Session) × MayLog s xs u × MayLog u ys t
may-front [] ys s t h = (s, refl, h)
may-front (x ∷ xs) ys s t h = let more = may-front xs ys h.0 t h.2 in (more.0, (h.0, h.1, more.1), more.2)

pub said-allowed : (nodes words : ℕ) (before log : List Entry) (lines : List (List ℕ)) (n : ℕ) → AreWritten log lines → AreUtf8 log →
    AllByRecursion (HasForm nodes) log → IsAllowed nodes words (before ++ log) → IsSaidOf nodes words before n (text_lines (text_of lines)) verdicts.Allowed
said-allowed nodes words before [] [] n w u f a = (subst (IsAllowed nodes words) (append-nil before) a, refl)
said-allowed nodes words before [] (l ∷ lines) n w u f a = absurd w
said-allowed nodes words before (e ∷ log) [] n w u f a = absurd w
said-allowed nodes words before (e ∷ log) (l ∷ lines) n w u f a =
    let all : IsAllowed nodes words ((before ++ e ∷ []) ++ log) = subst (IsAllowed nodes words) (sym (append_assoc before (e ∷ []) log)) a in
    let front = may-front (before ++ e ∷ []) log (new_session nodes words) all.0 all.1 in
    subst (λ ls. IsSaidOf nodes words before n ls verdicts.Allowed) (sym (first_line l (text_of lines) w.0.line))
    (inl (e, line-back nodes e l w.0 u.0 f.0, (front.0, front.1), said-allowed nodes words (before ++ e ∷ []) log lines (n + 1) w.1 u.1 f.1 all))

-- ---- which calls a run has

-- a command that was read is read from its own value
abbrev pub IsReadable : ℕ → Order → Type 0
IsReadable nodes (orders.Command c) = IsBack nodes c
IsReadable nodes (orders.Act node words) = Unit {0}

all-append : {X : Type 0} (P : X → Type 0) (xs ys : List X) → AllByRecursion P xs → AllByRecursion P ys → AllByRecursion P (xs ++ ys)
all-append P [] ys h k = k
all-append P (x ∷ xs) ys h k = (h.0, all-append P xs ys h.1 k)

acts-form : (nodes left : ℕ) (who : Who) (p q : Run) (log : List Entry) → Acts left who p log q → AllByRecursion (HasForm nodes) log
acts-form nodes zero who p q [] h = tt
acts-form nodes zero who p q (e ∷ log) h = absurd h
acts-form nodes (suc left) who p q [] h = tt
acts-form nodes (suc left) who p q (e ∷ log) h = (subst (HasForm nodes) (sym h.3) tt, go (was_idle h.0.1) h.4 (λ more. acts-form nodes left who h.1 q log more))
  where
    go : (b : Bool) → MatchBool b ((log ≡ []) × (q ≡ h.1)) (Acts left who h.1 log q) → (Acts left who h.1 log q → AllByRecursion (HasForm nodes) log) →
        AllByRecursion (HasForm nodes) log
    go true end rest = subst (AllByRecursion (HasForm nodes)) (sym end.0) tt
    go false more rest = rest more

called-form : (nodes : ℕ) (p q : Run) (c : Command) (log : List Entry) → is_call c ≡ true → IsBack nodes c → IsCalled p c log q → AllByRecursion (HasForm nodes) log
called-form nodes p q c log call back h = subst (AllByRecursion (HasForm nodes)) (sym h.5) ((back, call), tt)

obeys-form : (nodes : ℕ) (p q : Run) (o : Order) (log : List Entry) → IsReadable nodes o → Obeys nodes p o log q → AllByRecursion (HasForm nodes) log
obeys-form nodes p q (orders.Command (commands.Turn node count)) log r h = acts-form nodes count (whose.Node node) p q log h
obeys-form nodes p q (orders.Command (commands.Settle limit)) log r h = acts-form nodes limit (whose.AnyOf nodes) p q log h
obeys-form nodes p q (orders.Command (commands.Open node a b)) log r h = called-form nodes p q (commands.Open node a b) log refl r h
obeys-form nodes p q (orders.Command (commands.Put at text ends)) log r h = called-form nodes p q (commands.Put at text ends) log refl r h
obeys-form nodes p q (orders.Command (commands.Get at)) log r h = called-form nodes p q (commands.Get at) log refl r h
obeys-form nodes p q (orders.Command (commands.Close at)) log r h = called-form nodes p q (commands.Close at) log refl r h
obeys-form nodes p q (orders.Command commands.Show) log r h = called-form nodes p q commands.Show log refl r h
obeys-form nodes p q (orders.Act node words) log r h = subst (AllByRecursion (HasForm nodes)) (sym h.5) (tt, tt)

all-form : (nodes : ℕ) (p q : Run) (os : List Order) (log : List Entry) → AllByRecursion (IsReadable nodes) os → ObeysAll nodes p os log q → AllByRecursion (HasForm nodes) log
all-form nodes p q [] log r h = subst (AllByRecursion (HasForm nodes)) (sym h.0) tt
all-form nodes p q (o ∷ os) log r h =
    subst (AllByRecursion (HasForm nodes)) (sym h.3)
    (all-append (HasForm nodes) h.0 h.1 (obeys-form nodes p h.2 o h.0 r.0 h.4) (all-form nodes h.2 q os h.1 r.1 h.5))

-- ---- what was read

order-readable : (nodes : ℕ) (taken : List ℕ → Bool) (ds : List Data) → Where (IsReadable nodes) (order_in nodes taken ds)
order-readable nodes taken ds = where-else (IsReadable nodes) (asks ds) (act_in nodes ds) _ (act ds) (plain (command_in nodes taken ds) (command-back nodes taken ds))
  where
    act-of : (n : Option ℕ) (w : Option (List ℕ)) → Where (IsReadable nodes) (act_of n w)
    act-of None w = tt
    act-of (Some n) None = tt
    act-of (Some n) (Some w) = tt

    act : (ds : List Data) → Where (IsReadable nodes) (act_in nodes ds)
    act [] = tt
    act (a ∷ []) = tt
    act (a ∷ b ∷ []) = tt
    act (a ∷ b ∷ c ∷ []) = act-of (number_within 0 (nodes - 1) b) (as_str c)
    act (a ∷ b ∷ c ∷ d ∷ ds) = tt

    plain : (o : Option Command) → Where (IsBack nodes) o → Where (IsReadable nodes) (option_map orders.Command o)
    plain None h = tt
    plain (Some c) h = h

orders-readable : (nodes : ℕ) (before : List Order) (ds : List Data) → AllByRecursion (IsReadable nodes) before →
    Reads (AllByRecursion (IsReadable nodes)) (orders_from nodes before ds)
orders-readable nodes before [] h = h
orders-readable nodes before (d ∷ ds) h =
    go (order_of nodes (is_taken_by before) d)
    (where-then (λ a. Unit {0}) (IsReadable nodes) _ (values_of d) (any (values_of d)) (λ vs k. order-readable nodes (is_taken_by before) vs))
    (λ o more. orders-readable nodes (before ++ o ∷ []) ds more)
  where
    go : (o : Option Order) → Where (IsReadable nodes) o →
        ((o : Order) → AllByRecursion (IsReadable nodes) (before ++ o ∷ []) → Reads (AllByRecursion (IsReadable nodes)) (orders_from nodes (before ++ o ∷ []) ds)) →
        Reads (AllByRecursion (IsReadable nodes))
        (option_map_or (λ order. orders_from nodes (before ++ order ∷ []) ds) o (Err (BadShape (length before + 1))))
    go None k rest = tt
    go (Some o) k rest = rest o (all-append (IsReadable nodes) before (o ∷ []) h (k, tt))

-- the header is read from its own value
abbrev IsHead : Header → Type 0
IsHead h = (seed : ℕ) → header_in (header_data h.nodes h.words seed) ≡ Some h

head-back : (d : Data) → Where IsHead (header_in d)
head-back d = go (nodes_in d) (where-then (λ a. Unit {0}) (λ n. number_within 1 8 (number (unsigned n)) ≡ Some n) (number_within 1 8) (get (codes "nodes") d) (any (get (codes "nodes") d)) (λ a h. within-back 1 8 a))
  where
    words : (n : ℕ) → Where (λ w. number_within (first_pair_count n) 4096 (number (unsigned w)) ≡ Some w) (words_in d n)
    words n = where-then (λ a. Unit {0}) (λ w. number_within (first_pair_count n) 4096 (number (unsigned w)) ≡ Some w) (number_within (first_pair_count n) 4096)
        (get (codes "words") d) (any (get (codes "words") d)) (λ a h. within-back (first_pair_count n) 4096 a)

    both : (n : ℕ) (w : Option ℕ) → number_within 1 8 (number (unsigned n)) ≡ Some n → Where (λ w. number_within (first_pair_count n) 4096 (number (unsigned w)) ≡ Some w) w →
        Where IsHead (option_map (λ words. record { nodes = n; words = words }) w)
    both n None h k = tt
    both n (Some w) h k = λ seed.
        ap (option_and_then (λ nodes. option_map (λ words. record { nodes = nodes; words = words }) (words_in (header_data n w seed) nodes))) h
        ∙ ap (option_map (λ words. record { nodes = n; words = words })) k

    go : (n : Option ℕ) → Where (λ n. number_within 1 8 (number (unsigned n)) ≡ Some n) n →
        Where IsHead (option_and_then (λ nodes. option_map (λ words. record { nodes = nodes; words = words }) (words_in d nodes)) n)
    go None h = tt
    go (Some n) h = both n (words_in d n) h (words n)

abbrev IsGood : Schedule → Type 0
IsGood s = AllByRecursion (IsReadable s.nodes) s.orders × ((seed : ℕ) → header_in (header_data s.nodes s.words seed) ≡ Some (record { nodes = s.nodes; words = s.words }))

schedule-good : (d : Data) → Reads IsGood (schedule_of d)
schedule-good d = go (has_three_members d)
  where
    made : (h : Header) (r : Result (List Order) ScriptFault) → IsHead h → Reads (AllByRecursion (IsReadable h.nodes)) r → Reads IsGood (with_orders h r)
    made h (Ok os) head are = (are, head)
    made h (Err why) head are = tt

    members : (h : Option Header) (vs : Option (List Data)) → Where IsHead h → Reads IsGood (with_members h vs)
    members None vs head = tt
    members (Some h) None head = tt
    members (Some h) (Some vs) head = made h (orders_from h.nodes [] vs) head (orders-readable h.nodes [] vs tt)

    go : (c : Bool) → Reads IsGood (if c then with_members (header_in d) (values_in d) else Err (BadShape 0))
    go true = members (header_in d) (values_in d) (head-back d)
    go false = tt

read-good : (input : List ℕ) (s : Schedule) → IsSchedule input (Ok s) → IsGood s
read-good input s (inl h) = let never : Ok s ≡ Err _ = h.1 in cc
read-good input s (inr h) = go h.1 h.3
  where
    go : (json : Option Data) → Ok s ≡ schedule_from json → IsGood s
    go None same = cc
    go (Some d) same = subst (Reads IsGood) (sym same) (schedule-good d)

-- ---- the whole

pub runs_are_judged : RunsAreJudged
runs_are_judged input s seed text is run utf8 =
    let good = read-good input s is in
    let whole : text ≡ run.header ++ 10 ∷ text_of run.lines = run.whole ∙ append-nil (run.header ++ 10 ∷ text_of run.lines) in
    let len : line_len text ≡ length run.header = ap line_len whole ∙ first_len run.header (text_of run.lines) run.first.line in
    let head : take (line_len text) text ≡ run.header =
    (λ i. take (len i) (whole i)) ∙ front_is run.header (10 ∷ text_of run.lines) in
    let one : length run.header + 1 ≡ suc (length run.header) = omega arith in
    let rest : drop (line_len text + 1) text ≡ text_of run.lines =
    (λ i. drop (len i + 1) (whole i)) ∙ ap (λ k. drop k (run.header ++ 10 ∷ text_of run.lines)) one ∙ behind_is run.header (text_of run.lines) 10 in
    let allowed : IsAllowed s.nodes s.words run.log = runs_are_allowed s seed endings.Whole run.log run.run in
    inl (
      record { nodes = s.nodes; words = s.words },
      subst (λ l. IsHeader l (Some (record { nodes = s.nodes; words = s.words }))) (sym head) (Some (header_data s.nodes s.words seed), run.first.reads, sym (good.1 seed)),
      subst (λ l. IsSaidOf s.nodes s.words [] 2 (text_lines l) verdicts.Allowed) (sym rest)
          (said-allowed s.nodes s.words [] run.log run.lines 2 run.written utf8 (all-form s.nodes (first_run s seed) run.run.0 s.orders run.log good.0 run.run.1) allowed),
    )
