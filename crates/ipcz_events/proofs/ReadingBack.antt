-- The lines of the log of a run are read as what they were written for.
use Rattle.std.proofs.Common.{◌≡◌, ◌∙◌, ◌-◌, ℕ, Bool, true, false, not, List, [], ◌∷◌, Option, Some, None, refl, ap, codes}
use Rattle.std.specs.Prelude.{◌&&◌, if◌then◌else◌, nat_le, bytes_eq, option_and_then, option_map}
use Rattle.std.specs.FinSet.{contains, contains-empty, empty}
use Rattle.std.specs.List.{AllByRecursion}
use Rattle.std.specs.Ordering.{nat_cmp}
use Rattle.std.specs.Cmp.Lexicographic.{slice_cmp}
use Rattle.std.proofs.lemmas.Bool.{and_parts}
use Rattle.serde_json.specs.Data.{Data, array, number, string, unsigned}
use Rattle.serde_json.specs.Find.{as_number, as_str, as_u64}
use Rattle.ipcz_script.specs.declared.command.Command.{Command}
use Rattle.ipcz_script.specs.declared.command.Command.TheVariants as commands
use Rattle.ipcz_script.specs.Each.{each_of}
use Rattle.ipcz_script.specs.ScriptNames.{has_angle, is_name}
use Rattle.ipcz_script.specs.Shapes.{close_in, command_in, command_named, get_in, list_of, name_in, names_in, new_name_in, number_within, open_in, open_of, put_in, put_of, settle_in, show_in, turn_in, turn_of, values_of}
use Rattle.ipcz_script.proofs.ReadNames.{IsName, Where, any, where-else, where-if, where-then}
use Rattle.ipcz_events.specs.Rules.{is_call}
use Rattle.ipcz_events.specs.Written.{call_items, texts}

-- no name is taken
abbrev none_taken : List ℕ → Bool
none_taken = contains {R = slice_cmp nat_cmp} empty

pub within-back : (low high : ℕ) (d : Data) → Where (λ n. number_within low high (number (unsigned n)) ≡ Some n) (number_within low high d)
within-back low high d =
    where-then (λ a. Unit {0}) (λ n. number_within low high (number (unsigned n)) ≡ Some n) _ (option_and_then as_u64 (as_number d))
    (any (option_and_then as_u64 (as_number d)))
    (λ n h. where-if (λ m. number_within low high (number (unsigned m)) ≡ Some m) (nat_le low n && nat_le n high) (Some n)
    (λ e. ap (λ b. if b then Some n else None) e))

name-is : (d : Data) → Where IsName (name_in d)
name-is d = where-then (λ a. Unit {0}) IsName _ (as_str d) (any (as_str d)) (λ n h. where-if IsName (is_name n) (Some n) (λ e. e))

name-back : (n : List ℕ) → IsName n → name_in (string n) ≡ Some n
name-back n h = ap (λ b. if b then Some n else None) h

new-back : (taken : List ℕ → Bool) (d : Data) → Where (λ n. new_name_in none_taken (string n) ≡ Some n) (new_name_in taken d)
new-back taken d =
    where-then IsName (λ n. new_name_in none_taken (string n) ≡ Some n) _ (name_in d) (name-is d)
    (λ n h. where-if (λ m. new_name_in none_taken (string m) ≡ Some m) (not (has_angle n) && not (taken n)) (Some n) (λ e. free n h (and_parts _ _ e).0))
  where
    free : (n : List ℕ) → IsName n → not (has_angle n) ≡ true → new_name_in none_taken (string n) ≡ Some n
    free n h e =
        ap (option_and_then (λ name. if not (has_angle name) && not (none_taken name) then Some name else None)) (name-back n h)
        ∙ ap (λ b. if b && not (none_taken n) then Some n else None) e
        ∙ ap (λ b. if not b then Some n else None) (contains-empty (slice_cmp nat_cmp) n)

names-are : (ds : List Data) → Where (AllByRecursion IsName) (each_of name_in ds)
names-are [] = tt
names-are (d ∷ ds) = go (name_in d) (each_of name_in ds) (name-is d) (names-are ds)
  where
    go : (n : Option (List ℕ)) (ns : Option (List (List ℕ))) → Where IsName n → Where (AllByRecursion IsName) ns →
        Where (AllByRecursion IsName) (option_and_then (λ y. option_map (λ ys. y ∷ ys) ns) n)
    go None ns h k = tt
    go (Some n) None h k = tt
    go (Some n) (Some ns) h k = (h, k)

names-back : (ns : List (List ℕ)) → AllByRecursion IsName ns → each_of name_in (list_of (texts ns)) ≡ Some ns
names-back [] h = refl
names-back (n ∷ ns) h =
    ap (option_and_then (λ y. option_map (λ ys. y ∷ ys) (each_of name_in (list_of (texts ns))))) (name-back n h.0)
    ∙ ap (option_map (λ ys. n ∷ ys)) (names-back ns h.1)

-- ---- commands

-- a call is read from its own value
abbrev pub IsBack : ℕ → Command → Type 0
IsBack nodes c = is_call c ≡ true → command_in nodes none_taken (list_of (call_items c)) ≡ Some c

module _ (nodes : ℕ) where
  open_of-back : (n : Option ℕ) (a b : Option (List ℕ)) → Where (λ n. number_within 0 (nodes - 1) (number (unsigned n)) ≡ Some n) n →
      Where (λ n. new_name_in none_taken (string n) ≡ Some n) a → Where (λ n. new_name_in none_taken (string n) ≡ Some n) b →
      Where (IsBack nodes) (open_of n a b)
  open_of-back None a b i j k = tt
  open_of-back (Some n) None b i j k = tt
  open_of-back (Some n) (Some a) None i j k = tt
  open_of-back (Some n) (Some a) (Some b) i j k = go (bytes_eq a b) refl
    where
      go : (c : Bool) → bytes_eq a b ≡ c → Where (IsBack nodes) (if c then None else Some (commands.Open n a b))
      go true e = tt
      go false e = λ call.
          ap (λ o. open_of o (new_name_in none_taken (string a)) (new_name_in none_taken (string b))) i
          ∙ ap (λ o. open_of (Some n) o (new_name_in none_taken (string b))) j ∙ ap (open_of (Some n) (Some a)) k
          ∙ ap (λ c. if c then None else Some (commands.Open n a b)) e

  put_of-back : (at text : Option (List ℕ)) (ends : Option (List (List ℕ))) → Where IsName at → Where (AllByRecursion IsName) ends →
      Where (IsBack nodes) (put_of at text ends)
  put_of-back None text ends h k = tt
  put_of-back (Some at) None ends h k = tt
  put_of-back (Some at) (Some text) None h k = tt
  put_of-back (Some at) (Some text) (Some ends) h k = λ call.
      ap (λ o. put_of o (Some text) (names_in (array (texts ends)))) (name-back at h) ∙ ap (put_of (Some at) (Some text)) (names-back ends k)

  names_in-are : (d : Data) → Where (AllByRecursion IsName) (names_in d)
  names_in-are d = where-then (λ a. Unit {0}) (AllByRecursion IsName) (each_of name_in) (values_of d) (any (values_of d)) (λ ds h. names-are ds)

  one-back : (f : List ℕ → Command) (o : Option (List ℕ)) → ((n : List ℕ) → IsName n → IsBack nodes (f n)) → Where IsName o → Where (IsBack nodes) (option_map f o)
  one-back f None each h = tt
  one-back f (Some n) each h = each n h

  open-back : (taken : List ℕ → Bool) (ds : List Data) → Where (IsBack nodes) (open_in nodes taken ds)
  open-back taken [] = tt
  open-back taken (a ∷ []) = tt
  open-back taken (a ∷ b ∷ []) = tt
  open-back taken (a ∷ b ∷ c ∷ []) =
      open_of-back (number_within 0 (nodes - 1) a) (new_name_in taken b) (new_name_in taken c) (within-back 0 (nodes - 1) a) (new-back taken b) (new-back taken c)
  open-back taken (a ∷ b ∷ c ∷ d ∷ ds) = tt

  put-back : (ds : List Data) → Where (IsBack nodes) (put_in ds)
  put-back [] = tt
  put-back (a ∷ []) = tt
  put-back (a ∷ b ∷ []) = put_of-back (name_in a) (as_str b) (Some []) (name-is a) tt
  put-back (a ∷ b ∷ c ∷ []) = put_of-back (name_in a) (as_str b) (names_in c) (name-is a) (names_in-are c)
  put-back (a ∷ b ∷ c ∷ d ∷ ds) = tt

  get-back : (ds : List Data) → Where (IsBack nodes) (get_in ds)
  get-back [] = tt
  get-back (a ∷ []) = one-back commands.Get (name_in a) (λ n h call. ap (option_map commands.Get) (name-back n h)) (name-is a)
  get-back (a ∷ b ∷ ds) = tt

  close-back : (ds : List Data) → Where (IsBack nodes) (close_in ds)
  close-back [] = tt
  close-back (a ∷ []) = one-back commands.Close (name_in a) (λ n h call. ap (option_map commands.Close) (name-back n h)) (name-is a)
  close-back (a ∷ b ∷ ds) = tt

  turn_of-back : (n count : Option ℕ) → Where (IsBack nodes) (turn_of n count)
  turn_of-back None count = tt
  turn_of-back (Some n) None = tt
  turn_of-back (Some n) (Some count) = λ call. absurd (let never : false ≡ true = call in cc)

  turn-back : (ds : List Data) → Where (IsBack nodes) (turn_in nodes ds)
  turn-back [] = tt
  turn-back (a ∷ []) = tt
  turn-back (a ∷ b ∷ []) = turn_of-back (number_within 0 (nodes - 1) a) (number_within 1 1000000 b)
  turn-back (a ∷ b ∷ c ∷ ds) = tt

  settled-back : (o : Option ℕ) → Where (IsBack nodes) (option_map commands.Settle o)
  settled-back None = tt
  settled-back (Some n) = λ call. absurd (let never : false ≡ true = call in cc)

  settle-back : (ds : List Data) → Where (IsBack nodes) (settle_in ds)
  settle-back [] = tt
  settle-back (a ∷ []) = settled-back (number_within 0 1000000 a)
  settle-back (a ∷ b ∷ ds) = tt

  show-back : (ds : List Data) → Where (IsBack nodes) (show_in ds)
  show-back [] = λ call. refl
  show-back (a ∷ ds) = tt

  named-back : (taken : List ℕ → Bool) (w : List ℕ) (ds : List Data) → Where (IsBack nodes) (command_named nodes taken w ds)
  named-back taken w ds =
      where-else (IsBack nodes) (bytes_eq w (codes "open")) (open_in nodes taken ds) _ (open-back taken ds)
      (where-else (IsBack nodes) (bytes_eq w (codes "put")) (put_in ds) _ (put-back ds)
      (where-else (IsBack nodes) (bytes_eq w (codes "get")) (get_in ds) _ (get-back ds)
      (where-else (IsBack nodes) (bytes_eq w (codes "close")) (close_in ds) _ (close-back ds)
      (where-else (IsBack nodes) (bytes_eq w (codes "turn")) (turn_in nodes ds) _ (turn-back ds)
      (where-else (IsBack nodes) (bytes_eq w (codes "settle")) (settle_in ds) _ (settle-back ds)
      (where-else (IsBack nodes) (bytes_eq w (codes "show")) (show_in ds) None (show-back ds) tt))))))

  pub command-back : (taken : List ℕ → Bool) (ds : List Data) → Where (IsBack nodes) (command_in nodes taken ds)
  command-back taken [] = tt
  command-back taken (w ∷ ds) = where-then (λ a. Unit {0}) (IsBack nodes) _ (as_str w) (any (as_str w)) (λ n h. named-back taken n ds)
