-- Why the commands of a script that is read have names, and its numbers are within the limits.
use Rattle.std.proofs.Common.{◌≡◌, ◌≤◌, ℕ, Bool, true, false, List, [], ◌∷◌, ◌++◌, length, Option, Some, None, Result, Ok, Err, refl, sym}
use Rattle.std.proofs.Common.{◌+◌, ◌-◌, arith, subst, codes, inl, inr}
use Rattle.std.specs.Prelude.{◌&&◌, if◌then◌else◌, nat_le, bytes_eq, option_and_then, option_map}
use Rattle.std.specs.List.{AllByRecursion}
use Rattle.std.specs.Option.{option_map_or}
use Rattle.std.proofs.lemmas.Bool.{and_parts}
use Rattle.std.proofs.lemmas.Bool.Decides.{nat_tests}
use Rattle.serde_json.specs.Data.{Data}
use Rattle.serde_json.specs.Find.{as_number, as_str, as_u64, get}
use Rattle.ipcz_script.specs.ScriptLimits.{HasScriptLimits}
use Rattle.ipcz_script.specs.declared.command.Command.{Command}
use Rattle.ipcz_script.specs.declared.command.Command.TheVariants as commands
use Rattle.ipcz_script.specs.declared.script.Script.{Script}
use Rattle.ipcz_script.specs.declared.script_fault.ScriptFault.{ScriptFault}
use Rattle.ipcz_script.specs.declared.script_fault.ScriptFault.TheVariants.{BadShape}
use Rattle.ipcz_script.specs.ScriptNames.{is_name, is_taken}
use Rattle.ipcz_script.specs.Shapes.{close_in, command_in, command_named, command_of, get_in, name_in, names_in, new_name_in}
use Rattle.ipcz_script.specs.Shapes.{number_within, open_in, open_of, put_in, put_of, settle_in, show_in, turn_in, turn_of, values_of}
use Rattle.ipcz_node.specs.FirstPairs.{first_pair_count}
use Rattle.ipcz_script.specs.Scripts.{commands_from, has_three_members, nodes_in, script_of, values_in, with_commands}
use Rattle.ipcz_script.specs.Scripts.{with_members, words_in}
use Rattle.ipcz_script.specs.Reading.{IsScript, script_from}
use Rattle.ipcz_script.specs.ReadBack.{HasNames, HaveNames}
use Rattle.ipcz_script.specs.ByteLaws.{ScriptsHaveNames}
use Rattle.ipcz_script.specs.Sayings.{NodeHasBits, TurnsHaveBits}

-- what holds of a thing, if there is one
abbrev pub Where : {A : Type 0} → (A → Type 0) → Option A → Type 0
Where P None = Unit {0}
Where P (Some a) = P a

pub where-then : {A B : Type 0} (P : A → Type 0) (Q : B → Type 0) (f : A → Option B) (o : Option A) → Where P o →
    ((a : A) → P a → Where Q (f a)) → Where Q (option_and_then f o)
where-then P Q f None h each = tt
where-then P Q f (Some a) h each = each a h

pub any : {A : Type 0} (o : Option A) → Where (λ a. Unit {0}) o
any None = tt
any (Some a) = tt

pub where-if : {A : Type 0} (P : A → Type 0) (c : Bool) (o : Option A) → (c ≡ true → Where P o) → Where P (if c then o else None)
where-if P true o h = h refl
where-if P false o h = tt

pub where-else : {A : Type 0} (P : A → Type 0) (c : Bool) (o q : Option A) → Where P o → Where P q → Where P (if c then o else q)
where-else P true o q h k = h
where-else P false o q h k = k

-- ---- names

abbrev pub IsName : List ℕ → Type 0
IsName name = is_name name ≡ true

name-is : (d : Data) → Where IsName (name_in d)
name-is d = where-then (λ a. Unit {0}) IsName _ (as_str d) (any (as_str d)) (λ n h. where-if IsName (is_name n) (Some n) (λ e. e))

new_name-is : (taken : List ℕ → Bool) (d : Data) → Where IsName (new_name_in taken d)
new_name-is taken d = where-then IsName IsName _ (name_in d) (name-is d)
    (λ n h. where-if IsName _ (Some n) (λ e. h))

-- what holds of what a result has, if it is no error
abbrev pub Reads : {A E : Type 0} → (A → Type 0) → Result A E → Type 0
Reads P (Ok a) = P a
Reads P (Err e) = Unit {0}

-- ---- numbers

within : (low high : ℕ) (d : Data) → Where (λ n. (low ≤ n) × (n ≤ high)) (number_within low high d)
within low high d =
    where-then (λ a. Unit {0}) _ _ (option_and_then as_u64 (as_number d)) (any (option_and_then as_u64 (as_number d)))
    (λ n h. where-if (λ m. (low ≤ m) × (m ≤ high)) (nat_le low n && nat_le n high) (Some n) (λ e. bounds n (and_parts _ _ e)))
  where
    bounds : (n : ℕ) → (nat_le low n ≡ true) × (nat_le n high ≡ true) → (low ≤ n) × (n ≤ high)
    bounds n e = (grind (arith, e.0, nat_tests), grind (arith, e.1, nat_tests))

nodes-within : (d : Data) → Where (λ n. (1 ≤ n) × (n ≤ 8)) (nodes_in d)
nodes-within d =
    where-then (λ a. Unit {0}) (λ n. (1 ≤ n) × (n ≤ 8)) (number_within 1 8) (get (codes "nodes") d) (any (get (codes "nodes") d))
    (λ a h. within 1 8 a)

words-within : (d : Data) (nodes : ℕ) → Where (λ n. (first_pair_count nodes ≤ n) × (n ≤ 4096)) (words_in d nodes)
words-within d nodes =
    where-then (λ a. Unit {0}) (λ n. (first_pair_count nodes ≤ n) × (n ≤ 4096)) (number_within (first_pair_count nodes) 4096)
    (get (codes "words") d) (any (get (codes "words") d)) (λ a h. within (first_pair_count nodes) 4096 a)

-- ---- commands

-- what holds of a command by its names, and of a turn by its node, which is one of at most eight
pub record Holds (P : Command → Type 0) : Type 0 where
  pub opens : (node : ℕ) (a b : List ℕ) → IsName a → IsName b → P (commands.Open node a b)
  pub put : (at text : List ℕ) (ends : List (List ℕ)) → IsName at → P (commands.Put at text ends)
  pub get : (at : List ℕ) → IsName at → P (commands.Get at)
  pub close : (at : List ℕ) → IsName at → P (commands.Close at)
  pub turn : (node count : ℕ) → node ≤ 7 → P (commands.Turn node count)
  pub settle : (limit : ℕ) → P (commands.Settle limit)
  pub show : P commands.Show

module _ (P : Command → Type 0) (holds : Holds P) where
  open_of-holds : (node : Option ℕ) (a b : Option (List ℕ)) → Where IsName a → Where IsName b → Where P (open_of node a b)
  open_of-holds (Some node) (Some a) (Some b) h k =
      where-else P (bytes_eq a b) None (Some (commands.Open node a b)) tt (holds.opens node a b h k)
  open_of-holds (Some node) (Some a) None h k = tt
  open_of-holds (Some node) None b h k = tt
  open_of-holds None a b h k = tt

  put_of-holds : (at text : Option (List ℕ)) (ends : Option (List (List ℕ))) → Where IsName at → Where P (put_of at text ends)
  put_of-holds (Some at) (Some text) (Some ends) h = holds.put at text ends h
  put_of-holds (Some at) (Some text) None h = tt
  put_of-holds (Some at) None ends h = tt
  put_of-holds None text ends h = tt

  turn_of-holds : (node count : Option ℕ) → Where (λ n. n ≤ 7) node → Where P (turn_of node count)
  turn_of-holds (Some node) (Some count) h = holds.turn node count h
  turn_of-holds (Some node) None h = tt
  turn_of-holds None count h = tt

  open-holds : (nodes : ℕ) (taken : List ℕ → Bool) (ds : List Data) → Where P (open_in nodes taken ds)
  open-holds nodes taken [] = tt
  open-holds nodes taken (a ∷ []) = tt
  open-holds nodes taken (a ∷ b ∷ []) = tt
  open-holds nodes taken (a ∷ b ∷ c ∷ []) =
      open_of-holds _ (new_name_in taken b) (new_name_in taken c) (new_name-is taken b) (new_name-is taken c)
  open-holds nodes taken (a ∷ b ∷ c ∷ d ∷ ds) = tt

  put-holds : (ds : List Data) → Where P (put_in ds)
  put-holds [] = tt
  put-holds (a ∷ []) = tt
  put-holds (a ∷ b ∷ []) = put_of-holds (name_in a) (as_str b) (Some []) (name-is a)
  put-holds (a ∷ b ∷ c ∷ []) = put_of-holds (name_in a) (as_str b) (names_in c) (name-is a)
  put-holds (a ∷ b ∷ c ∷ d ∷ ds) = tt

  named-by : (f : List ℕ → Command) (o : Option (List ℕ)) → ((n : List ℕ) → IsName n → P (f n)) → Where IsName o → Where P (option_map f o)
  named-by f None each h = tt
  named-by f (Some n) each h = each n h

  get-holds : (ds : List Data) → Where P (get_in ds)
  get-holds [] = tt
  get-holds (a ∷ []) = named-by commands.Get (name_in a) holds.get (name-is a)
  get-holds (a ∷ b ∷ ds) = tt

  close-holds : (ds : List Data) → Where P (close_in ds)
  close-holds [] = tt
  close-holds (a ∷ []) = named-by commands.Close (name_in a) holds.close (name-is a)
  close-holds (a ∷ b ∷ ds) = tt

  turn-holds : (nodes : ℕ) (ds : List Data) → nodes ≤ 8 → Where P (turn_in nodes ds)
  turn-holds nodes [] few = tt
  turn-holds nodes (a ∷ []) few = tt
  turn-holds nodes (a ∷ b ∷ []) few =
      turn_of-holds _ (number_within 1 1000000 b) (go (number_within 0 (nodes - 1) a) (within 0 (nodes - 1) a))
    where
      go : (o : Option ℕ) → Where (λ n. (0 ≤ n) × (n ≤ nodes - 1)) o → Where (λ n. n ≤ 7) o
      go None h = tt
      go (Some n) h = omega (arith, h.1, few)
  turn-holds nodes (a ∷ b ∷ c ∷ ds) few = tt

  settled : (o : Option ℕ) → Where P (option_map commands.Settle o)
  settled None = tt
  settled (Some n) = holds.settle n

  settle-holds : (ds : List Data) → Where P (settle_in ds)
  settle-holds [] = tt
  settle-holds (a ∷ []) = settled (number_within 0 1000000 a)
  settle-holds (a ∷ b ∷ ds) = tt

  show-holds : (ds : List Data) → Where P (show_in ds)
  show-holds [] = holds.show
  show-holds (a ∷ ds) = tt

  named-holds : (nodes : ℕ) (taken : List ℕ → Bool) (w : List ℕ) (ds : List Data) → nodes ≤ 8 → Where P (command_named nodes taken w ds)
  named-holds nodes taken w ds few =
      where-else P (bytes_eq w (codes "open")) (open_in nodes taken ds) _ (open-holds nodes taken ds)
      (where-else P (bytes_eq w (codes "put")) (put_in ds) _ (put-holds ds)
      (where-else P (bytes_eq w (codes "get")) (get_in ds) _ (get-holds ds)
      (where-else P (bytes_eq w (codes "close")) (close_in ds) _ (close-holds ds)
      (where-else P (bytes_eq w (codes "turn")) (turn_in nodes ds) _ (turn-holds nodes ds few)
      (where-else P (bytes_eq w (codes "settle")) (settle_in ds) _ (settle-holds ds)
      (where-else P (bytes_eq w (codes "show")) (show_in ds) None (show-holds ds) tt))))))

  list-holds : (nodes : ℕ) (taken : List ℕ → Bool) (ds : List Data) → nodes ≤ 8 → Where P (command_in nodes taken ds)
  list-holds nodes taken [] few = tt
  list-holds nodes taken (w ∷ ds) few =
      where-then (λ a. Unit {0}) P _ (as_str w) (any (as_str w)) (λ n h. named-holds nodes taken n ds few)

  command-holds : (nodes : ℕ) (taken : List ℕ → Bool) (d : Data) → nodes ≤ 8 → Where P (command_of nodes taken d)
  command-holds nodes taken d few =
      where-then (λ a. Unit {0}) P _ (values_of d) (any (values_of d)) (λ ds h. list-holds nodes taken ds few)

  -- ---- all commands

  all-append : (cs ds : List Command) → AllByRecursion P cs → AllByRecursion P ds → AllByRecursion P (cs ++ ds)
  all-append [] ds h k = k
  all-append (c ∷ cs) ds h k = (h.0, all-append cs ds h.1 k)

  all-read : (nodes : ℕ) (before : List Command) (ds : List Data) → nodes ≤ 8 → AllByRecursion P before →
      Reads (AllByRecursion P) (commands_from nodes before ds)
  all-read nodes before [] few h = h
  all-read nodes before (d ∷ ds) few h = go (command_of nodes (is_taken before) d) (command-holds nodes (is_taken before) d few)
      (λ c more. all-read nodes (before ++ c ∷ []) ds few more)
    where
      go : (o : Option Command) → Where P o →
          ((c : Command) → AllByRecursion P (before ++ c ∷ []) → Reads (AllByRecursion P) (commands_from nodes (before ++ c ∷ []) ds)) →
          Reads (AllByRecursion P)
          (option_map_or (λ command. commands_from nodes (before ++ command ∷ []) ds) o (Err (BadShape (length before + 1))))
      go None k rest = tt
      go (Some c) k rest = rest c (all-append before (c ∷ []) h (k, tt))

  abbrev IsGood : Script → Type 0
  IsGood script = HasScriptLimits script.nodes script.words × (script.words ≤ 4096) × AllByRecursion P script.commands

  commands-good : (nodes words : ℕ) (r : Result (List Command) ScriptFault) → HasScriptLimits nodes words → words ≤ 4096 →
      Reads (AllByRecursion P) r → Reads IsGood (with_commands nodes words r)
  commands-good nodes words (Ok cs) limits few h = (limits, few, h)
  commands-good nodes words (Err why) limits few h = tt

  members-good : (d : Data) (n : Option ℕ) (vs : Option (List Data)) → Where (λ n. (1 ≤ n) × (n ≤ 8)) n →
      Reads IsGood (with_members n (option_and_then (words_in d) n) vs)
  members-good d None vs h = tt
  members-good d (Some nodes) vs h = go (words_in d nodes) vs (words-within d nodes)
    where
      go : (w : Option ℕ) (vs : Option (List Data)) → Where (λ n. (first_pair_count nodes ≤ n) × (n ≤ 4096)) w →
          Reads IsGood (with_members (Some nodes) w vs)
      go None vs k = tt
      go (Some words) None k = tt
      go (Some words) (Some ds) k = commands-good nodes words (commands_from nodes [] ds)
          (record { world = record { some_node = h.0; nodes = omega (arith, h.1); pairs = k.0; words = omega (arith, k.1) }; few = h.1 }) k.1 (all-read nodes [] ds h.1 tt)

  script-good : (d : Data) → Reads IsGood (script_of d)
  script-good d = go (has_three_members d)
    where
      go : (c : Bool) → Reads IsGood (if c then with_members (nodes_in d) (option_and_then (words_in d) (nodes_in d)) (values_in d) else Err
          (BadShape 0))
      go true = members-good d (nodes_in d) (values_in d) (nodes-within d)
      go false = tt

  pub read-good : (input : List ℕ) (script : Script) → IsScript input (Ok script) →
      HasScriptLimits script.nodes script.words × (script.words ≤ 4096) × AllByRecursion P script.commands
  read-good input script (inl h) = let never : Ok script ≡ Err _ = h.1 in cc
  read-good input script (inr h) = go h.1 h.3
    where
      go : (json : Option Data) → Ok script ≡ script_from json → IsGood script
      go None same = cc
      go (Some d) same = subst (Reads IsGood) (sym same) (script-good d)

-- ---- the whole

all-names : (cs : List Command) → AllByRecursion HasNames cs → HaveNames cs
all-names [] h = tt
all-names (c ∷ cs) h = (h.0, all-names cs h.1)

pub scripts_have_names : ScriptsHaveNames
scripts_have_names input script is =
    let good = read-good HasNames (record {
      opens = λ node a b h k. (h, k);
      put = λ at text ends h. h;
      get = λ at h. h;
      close = λ at h. h;
      turn = λ node count l. tt;
      settle = λ limit. tt;
      show = tt;
    }) input script is in
    (good.0, good.1, all-names script.commands good.2)

pub turns_have_bits : TurnsHaveBits
turns_have_bits input script is = (read-good NodeHasBits (record {
  opens = λ node a b h k. tt;
  put = λ at text ends h. tt;
  get = λ at h. tt;
  close = λ at h. tt;
  turn = λ node count l. grind (arith, l);
  settle = λ limit. tt;
  show = tt;
}) input script is).2
