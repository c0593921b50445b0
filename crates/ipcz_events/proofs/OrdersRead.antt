-- How a script is read whose commands may ask for acts.
use Rattle.std.proofs.Common.{◌≡◌, ◌∙◌, ◌||◌, ◌≤◌, ◌+◌, ℕ, Bool, true, false, List, [], ◌∷◌, ◌++◌, length, Some, Result, Ok, Err, inr, refl, sym, ap}
use Rattle.std.specs.Prelude.{IsUtf8}
use Rattle.std.specs.List.{list_any}
use Rattle.std.specs.Option.{option_map_or}
use Rattle.std.specs.Ordering.{nat_cmp}
use Rattle.std.specs.Cmp.Lexicographic.{slice_cmp}
use Rattle.std.specs.FinSet.{FinSet, contains, contains-empty, empty}
use Rattle.serde_json.specs.Data.{Data}
use Rattle.serde_json.specs.Read.{read}
use Rattle.ipcz_script.specs.declared.script_fault.ScriptFault.{ScriptFault}
use Rattle.ipcz_script.specs.declared.script_fault.ScriptFault.TheVariants.{NotJson, BadShape, TooLong, OutOfMemory}
use Rattle.ipcz_script.specs.Faults.{Gives}
use Rattle.ipcz_script.specs.Reading.{max_bytes}
use Rattle.ipcz_events.specs.declared.order.Order.{Order}
use Rattle.ipcz_events.specs.declared.schedule.Schedule.{Schedule}
use Rattle.ipcz_events.specs.Schedules.{IsRead, is_taken_by, order_of, order_opens, orders_from, schedule_of}

any-push : {X : Type 0} (p : X → Bool) (xs : List X) (x : X) → list_any p (xs ++ x ∷ []) ≡ (list_any p xs || p x)
any-push p [] x = elim (p x) as (λ b. (b || false) ≡ b) [ true ↦ refl | false ↦ refl ]
any-push p (y ∷ ys) x =
    ap (λ b. p y || b) (any-push p ys x) ∙
    elim (p y) as (λ a. (a || (list_any p ys || p x)) ≡ ((a || list_any p ys) || p x)) [ true ↦ refl | false ↦ refl ]

-- no command has taken a name yet
pub taken_at_first : (s : FinSet (slice_cmp nat_cmp)) (os : List Order) → s ≡ empty → os ≡ [] → contains s ≡ is_taken_by os
taken_at_first s os none start =
    λ i name. (ap (λ t. contains t name) none ∙ contains-empty (slice_cmp nat_cmp) name ∙ ap (λ l. is_taken_by l name) (sym start)) i

-- one command more takes the names that it opens
pub taken_after : (s t : FinSet (slice_cmp nat_cmp)) (os more : List Order) (o : Order)
    → contains s ≡ is_taken_by os → ((name : List ℕ) → contains t name ≡ (contains s name || order_opens name o)) → more ≡ os ++ o ∷ [] →
    contains t ≡ is_taken_by more
taken_after s t os more o same grown is = λ i name.
    (grown name ∙ (λ j. same j name || order_opens name o) ∙ sym (any-push (order_opens name) os o) ∙ ap (λ l. is_taken_by l name) (sym is)) i

-- a value that is a command goes over to the commands so far
pub order_more : (nodes : ℕ) (before : List Order) (values : List Data) (d : Data) (ds : List Data) (o : Order)
    → values ≡ d ∷ ds → order_of nodes (is_taken_by before) d ≡ Some o →
    orders_from nodes before values ≡ orders_from nodes (before ++ o ∷ []) ds
order_more nodes before values d ds o front is =
    ap (orders_from nodes before) front
    ∙ ap (λ x. option_map_or (λ order. orders_from nodes (before ++ order ∷ []) ds) x (Err (BadShape (length before + 1)))) is

-- what is read of the bytes' JSON value is what the bytes are
pub read-value : (bytes : List ℕ) (d : Data) (r : Result Schedule ScriptFault) → length bytes ≤ max_bytes → IsUtf8 bytes →
    read bytes ≡ Some d → Gives r (schedule_of d) → IsRead bytes r
read-value bytes d (Ok s) few text is h = inr (few, Some d, (text, is), sym h)
read-value bytes d (Err NotJson) few text is h = inr (few, Some d, (text, is), sym h)
read-value bytes d (Err (BadShape n)) few text is h = inr (few, Some d, (text, is), sym h)
read-value bytes d (Err TooLong) few text is h = inr (few, Some d, (text, is), sym h)
read-value bytes d (Err OutOfMemory) few text is h = tt
