-- The faults so far, and one value more.
use Rattle.std.proofs.Common.{◌≡◌, ◌∙◌, ◌+◌, ◌++◌, ℕ, zero, suc, List, [], ◌∷◌, append_assoc, Bool, true, false, not, if◌then◌else◌, sym, ap, subst, refl}
use Rattle.std.proofs.Common.{Option, Some, None, is_some, Result, Ok, Err, inl, inr, OnOk, IfOk, arith}
use Rattle.std.specs.Prelude.{codes, option_and_then, option_map}
use Rattle.std.specs.FinSet.{FinSet, contains}
use Rattle.std.specs.Ordering.{nat_cmp}
use Rattle.std.specs.Cmp.Lexicographic.{slice_cmp}
use Rattle.std.specs.List.{All}
use Rattle.std.proofs.lemmas.List.Elements.{All-nil, All-cons, All-append}
use Rattle.serde_json.specs.Data.{Data}
use Rattle.serde_json.specs.Find.{get}
use Rattle.ipcz_node.specs.FirstPairs.{first_pair_count}
use Rattle.ipcz_script.specs.declared.command.Command.{Command}
use Rattle.ipcz_script.specs.ScriptNames.{is_taken}
use Rattle.ipcz_script.specs.Scripts.{has_three_members, nodes_in, words_in}
use Rattle.ipcz_script.specs.Shapes.{command_of, values_of, number_within}
use Rattle.ipcz_script.proofs.Taken.{taken_after}
use Rattle.ipcz_report.specs.declared.wrong.Fault.{Fault}
use Rattle.ipcz_report.specs.declared.wrong.Key.{Key}
use Rattle.ipcz_report.specs.declared.wrong.Key.TheVariants as keys
use Rattle.ipcz_report.specs.Faults.{has, has_members, has_right, known_members, AddsFault, AreFaults, IsHeadFault, Judges}
use Rattle.ipcz_report.specs.Judging.{IsWrong}

pub on_ok : {X E P Q : Type 0} (r : Result X E) → OnOk r P → (P → Q) → OnOk r Q
on_ok (Ok x) h f = f h
on_ok (Err e) h f = h

pub if_ok : {X E : Type 0} (P Q : X → Type 0) (r : Result X E) → IfOk r P → ((x : X) → P x → Q x) → IfOk r Q
if_ok P Q (Ok x) h f = f x h
if_ok P Q (Err e) h f = h

-- ---- the commands

pub some_of : {X : Type 0} (o : Option X) → is_some o ≡ true → (x : X) × (o ≡ Some x)
some_of None is = absurd (cc is)
some_of (Some x) is = (x, refl)

pub none_of : {X : Type 0} (o : Option X) → is_some o ≡ false → o ≡ None
none_of None lacks = refl
none_of (Some x) lacks = absurd (cc lacks)

-- the faults of the rest stand behind those so far
abbrev pub Continues : ℕ → List Command → ℕ → List Data → List Data → List Fault → Type 0
Continues nodes before number left all faults =
    (rest : List Fault) → AreFaults nodes before number left rest → AreFaults nodes [] 1 all (faults ++ rest)

pub judged : (nodes number : ℕ) (before : List Command) (s t : FinSet (slice_cmp nat_cmp)) (d : Data) (ds all : List Data) (old new : List Fault) →
    contains s ≡ is_taken before → Judges nodes (contains s) (contains t) number d old new → Continues nodes before number (d ∷ ds) all old →
    (more : List Command) × (contains t ≡ is_taken more) × Continues nodes more (number + 1) ds all new
judged nodes number before s t d ds all old new same (inl (c, is, grown, kept)) step = (
  before ++ c ∷ [],
  taken_after s t before (before ++ c ∷ []) c same grown refl,
  λ rest h.
      subst (λ fs. AreFaults nodes [] 1 all (fs ++ rest)) (sym kept)
      (step rest (inl (c, ap (λ taken. command_of nodes taken d) (sym same) ∙ is, h))),
)
judged nodes number before s t d ds all old new same (inr (f, none, is, wrong, kept, more)) step = (
  before,
  kept ∙ same,
  λ rest h.
      subst (AreFaults nodes [] 1 all) (sym (ap (λ fs. fs ++ rest) more ∙ append_assoc old (f ∷ []) rest))
      (step (f ∷ rest) (inr (
        f,
        rest,
        ap (λ taken. command_of nodes taken d) (sym same) ∙ none,
        refl,
        is,
        subst (λ taken. IsWrong nodes taken d f.wrong) same wrong,
        h,
      ))),
)

-- ---- the members

pub adds-all : (d : Data) (b : Bool) (old new : List Fault) → AddsFault d b old new → All (IsHeadFault d) old → All (IsHeadFault d) new
adds-all d true old new is all = subst (All (IsHeadFault d)) (sym is) all
adds-all d false old new is all =
    subst (All (IsHeadFault d)) (sym is.1)
    (All-append (IsHeadFault d) old (is.0 ∷ []) all (All-cons (IsHeadFault d) is.0 [] is.2 (All-nil (IsHeadFault d))))

not_empty : (old : List Fault) (f : Fault) → old ++ f ∷ [] ≡ [] → ⊥
not_empty [] f h = cc h
not_empty (x ∷ xs) f h = cc h

pub adds-none : (d : Data) (b : Bool) (old new : List Fault) → AddsFault d b old new → new ≡ [] → (b ≡ true) × (old ≡ [])
adds-none d true old new is none = (refl, sym is ∙ none)
adds-none d false old new is none = absurd (not_empty old is.0 (sym is.1 ∙ none))

-- a member that is right is there
there : {X : Type 0} (f : Data → Option X) (o : Option Data) → is_some (option_and_then f o) ≡ true → (if is_some o then 1 else zero) ≡ suc zero
there f None right = absurd (cc right)
there f (Some d) right = refl

words_there : (d : Data) (n : Option ℕ) → is_some (option_and_then (words_in d) n) ≡ true → has (codes "words") d ≡ 1
words_there d None right = absurd (cc right)
words_there d (Some n) right = there (number_within (first_pair_count n) 4096) (get (codes "words") d) right

-- with all three members right, an object of as many members as are known has three
pub three_members : (d : Data) → ((key : Key) → has_right key d ≡ true) → has_members (known_members d) d ≡ true → has_three_members d ≡ true
three_members d right is =
    let n = there (number_within 1 8) (get (codes "nodes") d) (right keys.Nodes) in
    let w = words_there d (nodes_in d) (right keys.Words) in
    let v = there values_of (get (codes "commands") d) (right keys.Commands) in
    let three : known_members d ≡ 3 = omega (arith, n, w, v) in
    ap (λ k. has_members k d) (sym three) ∙ is

pub keys_right : (d : Data) → has_right keys.Nodes d ≡ true → has_right keys.Words d ≡ true → has_right keys.Commands d ≡ true → (key : Key) →
    has_right key d ≡ true
keys_right d n w v keys.Nodes = n
keys_right d n w v keys.Words = w
keys_right d n w v keys.Commands = v

pub not_false : (b : Bool) → false ≡ not b → b ≡ true
not_false true h = refl
not_false false h = absurd (cc h)

pub not_true : (b : Bool) → true ≡ not b → b ≡ false
not_true true h = absurd (cc h)
not_true false h = refl

pub some_map : {X Y : Type 0} (f : X → Y) (o : Option X) → is_some (option_map f o) ≡ is_some o
some_map f None = refl
some_map f (Some x) = refl

pub none_some : {X : Type 0} (o : Option X) → o ≡ None → is_some o ≡ true → ⊥
none_some None none is = cc is
none_some (Some x) none is = cc none
