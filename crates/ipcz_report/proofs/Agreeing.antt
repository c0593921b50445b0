-- The number of the first fault is the one that the script's reader tells.
use Rattle.std.proofs.Common.{◌≡◌, ◌<◌, ◌∙◌, ◌+◌, ◌++◌, ◌==◌, ℕ, List, [], ◌∷◌, length, length-append, Bool, true, false, if◌then◌else◌, sym, ap, refl, arith}
use Rattle.std.proofs.Common.{Option, Some, None, is_some, Result, Ok, Err, inl, inr}
use Rattle.std.specs.Prelude.{codes, option_and_then}
use Rattle.std.specs.List.{All}
use Rattle.std.specs.Option.{option_map_or}
use Rattle.serde_json.specs.Data.{Data}
use Rattle.serde_json.specs.Events.{members_len}
use Rattle.serde_json.specs.Find.{get}
use Rattle.ipcz_node.specs.FirstPairs.{first_pair_count}
use Rattle.ipcz_script.specs.declared.command.Command.{Command}
use Rattle.ipcz_script.specs.declared.script.Script.{Script}
use Rattle.ipcz_script.specs.declared.script_fault.ScriptFault.{ScriptFault}
use Rattle.ipcz_script.specs.declared.script_fault.ScriptFault.TheVariants.{BadShape}
use Rattle.ipcz_script.specs.Scripts.{commands_from, with_commands, with_members, script_of, has_three_members, nodes_in, words_in, values_in}
use Rattle.ipcz_script.specs.Shapes.{values_of, number_within}
use Rattle.ipcz_report.specs.declared.wrong.Fault.{Fault}
use Rattle.ipcz_report.specs.declared.wrong.Key.{Key}
use Rattle.ipcz_report.specs.declared.wrong.Key.TheVariants as keys
use Rattle.ipcz_report.specs.declared.wrong.Wrong.{Wrong}
use Rattle.ipcz_report.specs.declared.wrong.Wrong.TheVariants as wrong
use Rattle.ipcz_report.proofs.Judged.{none_of}
use Rattle.ipcz_report.specs.Faults.{key_text, has_right, has_members, AreFaults, AreFaultsOf, IsHead, IsHeadFault, IsHeadWrong}

-- the first of some faults has this number
abbrev pub IsFirst : ℕ → List Fault → Type 0
IsFirst n fs = (f : Fault) × (rest : List Fault) × (fs ≡ f ∷ rest) × (f.number ≡ n)

same_fault : (m n : ℕ) → ◌≡◌ {A = Result (List Command) ScriptFault} (Err (BadShape m)) (Err (BadShape n)) → m ≡ n
same_fault m n h = cc h

pub commands-agree : (nodes : ℕ) (before : List Command) (number n : ℕ) (ds : List Data) (fs : List Fault) → number ≡ length before + 1 →
    commands_from nodes before ds ≡ Err (BadShape n) → AreFaults nodes before number ds fs → IsFirst n fs
commands-agree nodes before number n [] fs at err is = absurd (cc err)
commands-agree nodes before number n (d ∷ ds) fs at err (inl (c, is, more)) =
    commands-agree nodes (before ++ c ∷ []) (number + 1) n ds fs (omega (arith, at, length-append before (c ∷ [])))
    (sym (ap (λ o. option_map_or (λ command. commands_from nodes (before ++ command ∷ []) ds) o (Err (BadShape (length before + 1)))) is) ∙ err)
    more
commands-agree nodes before number n (d ∷ ds) fs at err (inr (f, rest, none, front, is, told, more)) = (
  f,
  rest,
  front,
  is ∙ at ∙ same_fault (length before + 1) n
      (sym (ap (λ o. option_map_or (λ command. commands_from nodes (before ++ command ∷ []) ds) o (Err (BadShape (length before + 1)))) none) ∙ err),
)

-- ---- the members

no_nodes : (three : Bool) (w : Option ℕ) (v : Option (List Data)) → (if three then with_members None w v else Err (BadShape 0)) ≡ Err (BadShape 0)
no_nodes true w v = refl
no_nodes false w v = refl

no_words : (three : Bool) (n : Option ℕ) (v : Option (List Data)) → (if three then with_members n None v else Err (BadShape 0)) ≡ Err (BadShape 0)
no_words true None v = refl
no_words true (Some n) v = refl
no_words false n v = refl

no_values : (three : Bool) (n w : Option ℕ) → (if three then with_members n w None else Err (BadShape 0)) ≡ Err (BadShape 0)
no_values true None w = refl
no_values true (Some n) None = refl
no_values true (Some n) (Some w) = refl
no_values false n w = refl

not_three : (d : Data) → has_three_members d ≡ false → script_of d ≡ Err (BadShape 0)
not_three d lacks = ap (λ three. if three then with_members (nodes_in d) (option_and_then (words_in d) (nodes_in d)) (values_in d) else Err
    (BadShape 0)) lacks

pub not_right : (d : Data) (key : Key) → has_right key d ≡ false → script_of d ≡ Err (BadShape 0)
not_right d keys.Nodes lacks =
    ap (λ n. if has_three_members d then with_members n (option_and_then (words_in d) (nodes_in d)) (values_in d) else Err (BadShape 0))
    (none_of (nodes_in d) lacks) ∙ no_nodes (has_three_members d) (option_and_then (words_in d) (nodes_in d)) (values_in d)
not_right d keys.Words lacks =
    ap (λ w. if has_three_members d then with_members (nodes_in d) w (values_in d) else Err (BadShape 0))
    (none_of (option_and_then (words_in d) (nodes_in d)) lacks) ∙ no_words (has_three_members d) (nodes_in d) (values_in d)
not_right d keys.Commands lacks =
    ap (λ v. if has_three_members d then with_members (nodes_in d) (option_and_then (words_in d) (nodes_in d)) v else Err (BadShape 0))
    (none_of (values_in d) lacks) ∙ no_values (has_three_members d) (nodes_in d) (option_and_then (words_in d) (nodes_in d))

no_word_number : (d : Data) (n : Option ℕ) → get (codes "words") d ≡ None → is_some (option_and_then (words_in d) n) ≡ false
no_word_number d None none = refl
no_word_number d (Some n) none = ap (λ o. is_some (option_and_then (number_within (first_pair_count n) 4096) o)) none

pub missing : (d : Data) (key : Key) → get (key_text key) d ≡ None → script_of d ≡ Err (BadShape 0)
missing d keys.Nodes none = not_right d keys.Nodes (ap (λ o. is_some (option_and_then (number_within 1 8) o)) none)
missing d keys.Words none = not_right d keys.Words (no_word_number d (nodes_in d) none)
missing d keys.Commands none = not_right d keys.Commands (ap (λ o. is_some (option_and_then values_of o)) none)

more : (d : Data) (a b c : Option Data) → get (codes "nodes") d ≡ a → get (codes "words") d ≡ b → get (codes "commands") d ≡ c
    → has_members ((if is_some a then 1 else 0) + (if is_some b then 1 else 0) + (if is_some c then 1 else 0)) d ≡ false
    → script_of d ≡ Err (BadShape 0)
more d None b c x y z lacks = missing d keys.Nodes x
more d (Some a) None c x y z lacks = missing d keys.Words y
more d (Some a) (Some b) None x y z lacks = missing d keys.Commands z
more d (Some a) (Some b) (Some c) x y z lacks = not_three d lacks

head-agrees : (d : Data) (why : Wrong) → IsHeadWrong d why → script_of d ≡ Err (BadShape 0)
head-agrees d wrong.NoObject h = not_three d (ap (λ o. option_map_or (λ ms. members_len ms == 3) o false) h)
head-agrees d (wrong.Missing key) h = missing d key h
head-agrees d (wrong.Member key) h = not_right d key h
head-agrees d wrong.Extra h = more d _ _ _ refl refl refl h
head-agrees d other h = absurd h

-- ---- the whole

same_number : (m n : ℕ) → ◌≡◌ {A = Result Script ScriptFault} (Err (BadShape m)) (Err (BadShape n)) → m ≡ n
same_number m n h = cc h

without_commands : (nodes words n : ℕ) (r : Result (List Command) ScriptFault) → with_commands nodes words r ≡ Err (BadShape n) → r ≡ Err (BadShape n)
without_commands nodes words n (Ok cs) h = absurd (cc h)
without_commands nodes words n (Err why) h = cc h

members-agree : (n nodes : ℕ) (w : Option ℕ) (values : List Data) → is_some w ≡ true → with_members (Some nodes) w (Some values) ≡ Err (BadShape n) →
    commands_from nodes [] values ≡ Err (BadShape n)
members-agree n nodes None values some h = absurd (cc some)
members-agree n nodes (Some w) values some h = without_commands nodes w n (commands_from nodes [] values) h

head-commands : (d : Data) (n nodes : ℕ) (values : List Data) → IsHead d nodes values → script_of d ≡ Err (BadShape n) →
    commands_from nodes [] values ≡ Err (BadShape n)
head-commands d n nodes values head err =
    members-agree n nodes (words_in d nodes) values head.2
    (sym (ap (λ three. if three then with_members (nodes_in d) (option_and_then (words_in d) (nodes_in d)) (values_in d) else Err (BadShape 0)) head.0
    ∙ ap (λ o. with_members o (option_and_then (words_in d) o) (values_in d)) head.1
    ∙ ap (λ v. with_members (Some nodes) (words_in d nodes) v) head.3) ∙ err)

first_of : (d : Data) (n : ℕ) (fs : List Fault) → 0 < length fs → All (IsHeadFault d) fs → script_of d ≡ Err (BadShape n) → IsFirst n fs
first_of d n [] some all err = absurd (omega (arith, some))
first_of d n (f ∷ rest) some all err =
    let bad = all 0 f (omega arith) in
    (f, rest, refl, bad.0 ∙ same_number 0 n (sym (head-agrees d f.wrong bad.1) ∙ err))

-- the faults of a refused value begin with one whose number is the one that the reader tells
pub faults-agree : (d : Data) (n : ℕ) (fs : List Fault) → script_of d ≡ Err (BadShape n) → AreFaultsOf d fs → IsFirst n fs
faults-agree d n fs err (inl (some, all)) = first_of d n fs some all err
faults-agree d n fs err (inr (nodes, values, head, faults)) =
    commands-agree nodes [] 1 n values fs (omega arith) (head-commands d n nodes values head err) faults
