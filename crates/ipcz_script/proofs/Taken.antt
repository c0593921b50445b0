-- The names that the commands so far have taken, and the commands that are left.
use Rattle.std.proofs.Common.{◌≡◌, ◌∙◌, ◌||◌, ◌+◌, ◌<◌, ap, sym, refl, Bool, true, false, ℕ, suc, add-one, List, [], ◌∷◌, ◌++◌, map, drop}
use Rattle.std.proofs.Common.{drop-cons, get_or, length, Some}
use Rattle.std.specs.List.{list_any}
use Rattle.std.specs.Option.{option_map_or}
use Rattle.std.specs.Ordering.{nat_cmp}
use Rattle.std.specs.Cmp.Lexicographic.{slice_cmp}
use Rattle.std.specs.FinSet.{FinSet, contains, contains-empty, empty}
use Rattle.std.specs.Prelude.{Err}
use Rattle.serde_json.specs.Data.{Data}
use Rattle.ipcz_script.specs.declared.command.Command.{Command}
use Rattle.ipcz_script.specs.declared.script_fault.ScriptFault.TheVariants.{BadShape}
use Rattle.ipcz_script.specs.ScriptNames.{opens, is_taken}
use Rattle.ipcz_script.specs.Scripts.{commands_from}
use Rattle.ipcz_script.specs.Shapes.{command_of}

any-push : {X : Type 0} (p : X → Bool) (xs : List X) (x : X) → list_any p (xs ++ x ∷ []) ≡ (list_any p xs || p x)
any-push p [] x = elim (p x) as (λ b. (b || false) ≡ b) [ true ↦ refl | false ↦ refl ]
any-push p (y ∷ ys) x =
    ap (λ b. p y || b) (any-push p ys x) ∙
    elim (p y) as (λ a. (a || (list_any p ys || p x)) ≡ ((a || list_any p ys) || p x)) [ true ↦ refl | false ↦ refl ]

-- no command has taken a name yet
pub taken_at_first : (s : FinSet (slice_cmp nat_cmp)) (commands : List Command) → s ≡ empty → commands ≡ [] → contains s ≡ is_taken commands
taken_at_first s commands none start =
    λ i name. (ap (λ t. contains t name) none ∙ contains-empty (slice_cmp nat_cmp) name ∙ ap (λ l. is_taken l name) (sym start)) i

-- one command more takes the names that it opens
pub taken_after : (s t : FinSet (slice_cmp nat_cmp)) (commands more : List Command) (c : Command)
    → contains s ≡ is_taken commands → ((name : List ℕ) → contains t name ≡ (contains s name || opens name c)) → more ≡ commands ++ c ∷ [] →
    contains t ≡ is_taken more
taken_after s t commands more c same grown is = λ i name.
    (grown name ∙ (λ j. same j name || opens name c) ∙ sym (any-push (opens name) commands c) ∙ ap (λ l. is_taken l name) (sym is)) i

-- what is left has the next element at its front
pub map-drop : {X Y : Type 0} (f : X → Y) (xs : List X) (i : ℕ) (x : X) → i < length xs → x ≡ get_or xs i x →
    map f (drop i xs) ≡ f x ∷ map f (drop (i + 1) xs)
map-drop f xs i x within is =
    let front : drop i xs ≡ x ∷ drop (i + 1) xs = rw add-one (drop-cons xs i x within ∙ ap (λ y. y ∷ drop (suc i) xs) (sym is)) in
    ap (map f) front

-- a value that is a command goes over to the commands so far
pub command_more : (nodes : ℕ) (before : List Command) (values : List Data) (d : Data) (ds : List Data) (c : Command)
    → values ≡ d ∷ ds → command_of nodes (is_taken before) d ≡ Some c →
    commands_from nodes before values ≡ commands_from nodes (before ++ c ∷ []) ds
command_more nodes before values d ds c front is =
    ap (commands_from nodes before) front
    ∙ ap (λ o. option_map_or (λ command. commands_from nodes (before ++ command ∷ []) ds) o (Err (BadShape (length before + 1)))) is
