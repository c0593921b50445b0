-- Why the opens of a script that is read have new names.
use Rattle.std.proofs.Common.{◌≡◌, ◌∙◌, ℕ, Bool, true, false, List, [], ◌∷◌, ◌++◌, length, Option, Some, None, Result, Ok, Err, refl, sym}
use Rattle.std.proofs.Common.{◌+◌, subst, codes, inl, inr, append_assoc, append-nil}
use Rattle.std.specs.Prelude.{◌&&◌, if◌then◌else◌, not, bytes_eq, option_and_then, option_map}
use Rattle.std.specs.Option.{option_map_or}
use Rattle.std.proofs.lemmas.Bool.{and_parts}
use Rattle.serde_json.specs.Data.{Data}
use Rattle.serde_json.specs.Find.{as_str}
use Rattle.ipcz_script.specs.declared.command.Command.{Command}
use Rattle.ipcz_script.specs.declared.command.Command.TheVariants as commands
use Rattle.ipcz_script.specs.declared.script.Script.{Script}
use Rattle.ipcz_script.specs.declared.script_fault.ScriptFault.{ScriptFault}
use Rattle.ipcz_script.specs.declared.script_fault.ScriptFault.TheVariants.{BadShape}
use Rattle.ipcz_script.specs.ScriptNames.{has_angle, is_taken}
use Rattle.ipcz_script.specs.Shapes.{close_in, command_in, command_named, command_of, get_in, name_in, names_in, new_name_in}
use Rattle.ipcz_script.specs.Shapes.{number_within, open_in, open_of, put_in, put_of, settle_in, show_in, turn_in, turn_of, values_of}
use Rattle.ipcz_script.specs.Scripts.{commands_from, has_three_members, nodes_in, script_of, values_in, with_commands, with_members}
use Rattle.ipcz_script.specs.Scripts.{words_in}
use Rattle.ipcz_script.specs.Reading.{IsScript, script_from}
use Rattle.ipcz_script.proofs.ReadNames.{Reads, Where, any, where-else, where-if, where-then}

-- a name is new if others are taken
pub record IsNew (taken : List ℕ → Bool) (name : List ℕ) : Type 0 where
  pub plain : has_angle name ≡ false
  pub free : taken name ≡ false

-- an open has two new names
abbrev pub OpensNew : (List ℕ → Bool) → Command → Type 0
OpensNew taken (commands.Open node a b) = IsNew taken a × IsNew taken b × (bytes_eq a b ≡ false)
OpensNew taken other = Unit {0}

-- so does each open of these commands, behind those before
abbrev pub HaveNew : List Command → List Command → Type 0
HaveNew before [] = Unit {0}
HaveNew before (c ∷ cs) = OpensNew (is_taken before) c × HaveNew (before ++ c ∷ []) cs

-- ---- one command

not-true : (b : Bool) → not b ≡ true → b ≡ false
not-true true h = sym h
not-true false h = refl

new_name-new : (taken : List ℕ → Bool) (d : Data) → Where (IsNew taken) (new_name_in taken d)
new_name-new taken d = where-then (λ a. Unit {0}) (IsNew taken) _ (name_in d) (any (name_in d))
    (λ n h. where-if (IsNew taken) (not (has_angle n) && not (taken n)) (Some n) (λ e. new n (and_parts _ _ e)))
  where
    new : (n : List ℕ) → (not (has_angle n) ≡ true) × (not (taken n) ≡ true) → IsNew taken n
    new n e = record { plain = not-true (has_angle n) e.0; free = not-true (taken n) e.1 }

where-not : {A : Type 0} (P : A → Type 0) (c : Bool) (o : Option A) → (c ≡ false → Where P o) → Where P (if c then None else o)
where-not P true o h = tt
where-not P false o h = h refl

module _ (taken : List ℕ → Bool) where
  abbrev pub New : Command → Type 0
  New = OpensNew taken

  open_of-new : (node : Option ℕ) (a b : Option (List ℕ)) → Where (IsNew taken) a → Where (IsNew taken) b → Where New (open_of node a b)
  open_of-new (Some node) (Some a) (Some b) h k =
      where-not New (bytes_eq a b) (Some (commands.Open node a b)) (λ e. (h, k, e))
  open_of-new (Some node) (Some a) None h k = tt
  open_of-new (Some node) None b h k = tt
  open_of-new None a b h k = tt

  open-new : (nodes : ℕ) (ds : List Data) → Where New (open_in nodes taken ds)
  open-new nodes [] = tt
  open-new nodes (a ∷ []) = tt
  open-new nodes (a ∷ b ∷ []) = tt
  open-new nodes (a ∷ b ∷ c ∷ []) =
      open_of-new _ (new_name_in taken b) (new_name_in taken c) (new_name-new taken b) (new_name-new taken c)
  open-new nodes (a ∷ b ∷ c ∷ d ∷ ds) = tt

  put_of-new : (at text : Option (List ℕ)) (ends : Option (List (List ℕ))) → Where New (put_of at text ends)
  put_of-new (Some at) (Some text) (Some ends) = tt
  put_of-new (Some at) (Some text) None = tt
  put_of-new (Some at) None ends = tt
  put_of-new None text ends = tt

  put-new : (ds : List Data) → Where New (put_in ds)
  put-new [] = tt
  put-new (a ∷ []) = tt
  put-new (a ∷ b ∷ []) = put_of-new (name_in a) (as_str b) (Some [])
  put-new (a ∷ b ∷ c ∷ []) = put_of-new (name_in a) (as_str b) (names_in c)
  put-new (a ∷ b ∷ c ∷ d ∷ ds) = tt

  mapped-new : {X : Type 0} (f : X → Command) (o : Option X) → ((x : X) → New (f x)) → Where New (option_map f o)
  mapped-new f None each = tt
  mapped-new f (Some x) each = each x

  get-new : (ds : List Data) → Where New (get_in ds)
  get-new [] = tt
  get-new (a ∷ []) = mapped-new commands.Get (name_in a) (λ n. tt)
  get-new (a ∷ b ∷ ds) = tt

  close-new : (ds : List Data) → Where New (close_in ds)
  close-new [] = tt
  close-new (a ∷ []) = mapped-new commands.Close (name_in a) (λ n. tt)
  close-new (a ∷ b ∷ ds) = tt

  turn_of-new : (node count : Option ℕ) → Where New (turn_of node count)
  turn_of-new (Some node) (Some count) = tt
  turn_of-new (Some node) None = tt
  turn_of-new None count = tt

  turn-new : (nodes : ℕ) (ds : List Data) → Where New (turn_in nodes ds)
  turn-new nodes [] = tt
  turn-new nodes (a ∷ []) = tt
  turn-new nodes (a ∷ b ∷ []) = turn_of-new _ _
  turn-new nodes (a ∷ b ∷ c ∷ ds) = tt

  settle-new : (ds : List Data) → Where New (settle_in ds)
  settle-new [] = tt
  settle-new (a ∷ []) = mapped-new commands.Settle (number_within 0 1000000 a) (λ n. tt)
  settle-new (a ∷ b ∷ ds) = tt

  show-new : (ds : List Data) → Where New (show_in ds)
  show-new [] = tt
  show-new (a ∷ ds) = tt

  named-new : (nodes : ℕ) (w : List ℕ) (ds : List Data) → Where New (command_named nodes taken w ds)
  named-new nodes w ds =
      where-else New (bytes_eq w (codes "open")) (open_in nodes taken ds) _ (open-new nodes ds)
      (where-else New (bytes_eq w (codes "put")) (put_in ds) _ (put-new ds)
      (where-else New (bytes_eq w (codes "get")) (get_in ds) _ (get-new ds)
      (where-else New (bytes_eq w (codes "close")) (close_in ds) _ (close-new ds)
      (where-else New (bytes_eq w (codes "turn")) (turn_in nodes ds) _ (turn-new nodes ds)
      (where-else New (bytes_eq w (codes "settle")) (settle_in ds) _ (settle-new ds)
      (where-else New (bytes_eq w (codes "show")) (show_in ds) None (show-new ds) tt))))))

  list-new : (nodes : ℕ) (ds : List Data) → Where New (command_in nodes taken ds)
  list-new nodes [] = tt
  list-new nodes (w ∷ ds) = where-then (λ a. Unit {0}) New _ (as_str w) (any (as_str w)) (λ n h. named-new nodes n ds)

  command-new : (nodes : ℕ) (d : Data) → Where New (command_of nodes taken d)
  command-new nodes d = where-then (λ a. Unit {0}) New _ (values_of d) (any (values_of d)) (λ ds h. list-new nodes ds)

-- ---- all commands

-- commands that begin with those before, and go on with new names
abbrev GoOn : List Command → List Command → Type 0
GoOn before cs = (more : List Command) × (cs ≡ before ++ more) × HaveNew before more

reads-more : {A E : Type 0} (P Q : A → Type 0) → ((a : A) → P a → Q a) → (r : Result A E) → Reads P r → Reads Q r
reads-more P Q f (Ok a) h = f a h
reads-more P Q f (Err e) h = tt

each-new : (nodes : ℕ) (before : List Command) (ds : List Data) → Reads (GoOn before) (commands_from nodes before ds)
each-new nodes before [] = ([], sym (append-nil before), tt)
each-new nodes before (d ∷ ds) = go (command_of nodes (is_taken before) d) (command-new (is_taken before) nodes d)
    (λ c new. reads-more (GoOn (before ++ c ∷ [])) (GoOn before)
    (λ cs on. (c ∷ on.0, on.1 ∙ append_assoc before (c ∷ []) on.0, (new, on.2)))
    (commands_from nodes (before ++ c ∷ []) ds) (each-new nodes (before ++ c ∷ []) ds))
  where
    go : (o : Option Command) → Where (OpensNew (is_taken before)) o →
        ((c : Command) → OpensNew (is_taken before) c → Reads (GoOn before) (commands_from nodes (before ++ c ∷ []) ds)) →
        Reads (GoOn before)
        (option_map_or (λ command. commands_from nodes (before ++ command ∷ []) ds) o (Err (BadShape (length before + 1))))
    go None k rest = tt
    go (Some c) k rest = rest c k

-- ---- the whole

abbrev HasNew : Script → Type 0
HasNew script = HaveNew [] script.commands

commands-new : (nodes words : ℕ) (r : Result (List Command) ScriptFault) → Reads (GoOn []) r → Reads HasNew (with_commands nodes words r)
commands-new nodes words (Ok cs) h = subst (HaveNew []) (sym h.1) h.2
commands-new nodes words (Err why) h = tt

members-new : (n w : Option ℕ) (vs : Option (List Data)) → Reads HasNew (with_members n w vs)
members-new None w vs = tt
members-new (Some nodes) None vs = tt
members-new (Some nodes) (Some words) None = tt
members-new (Some nodes) (Some words) (Some ds) = commands-new nodes words (commands_from nodes [] ds) (each-new nodes [] ds)

script-new : (d : Data) → Reads HasNew (script_of d)
script-new d = go (has_three_members d)
  where
    go : (c : Bool) → Reads HasNew (if c then with_members (nodes_in d) (option_and_then (words_in d) (nodes_in d)) (values_in d) else Err
        (BadShape 0))
    go true = members-new (nodes_in d) (option_and_then (words_in d) (nodes_in d)) (values_in d)
    go false = tt

pub scripts_have_new : (input : List ℕ) (script : Script) → IsScript input (Ok script) → HaveNew [] script.commands
scripts_have_new input script (inl h) = let never : Ok script ≡ Err _ = h.1 in cc
scripts_have_new input script (inr h) = go h.1 h.3
  where
    go : (json : Option Data) → Ok script ≡ script_from json → HasNew script
    go None same = cc
    go (Some d) same = subst (Reads HasNew) (sym same) (script-new d)
