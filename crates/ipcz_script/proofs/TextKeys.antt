-- Trees whose keys are texts, as finite maps and finite sets of the texts' bytes.
use Rattle.std.proofs.Common.{◌≡◌, ◌∙◌, ◌||◌, ap, sym, refl, Bool, true, false, cond, ℕ, List, [], ◌∷◌, map, Some, String, Global}
use Rattle.std.proofs.Common.{string_bytes}
use Rattle.std.specs.List.{list_any}
use Rattle.std.specs.Map.{lookup}
use Rattle.std.specs.Ordering.{nat_cmp, eq_by_cmp}
use Rattle.std.specs.Cmp.{eq_by_cmp_equiv}
use Rattle.std.specs.Cmp.Lexicographic.{slice_cmp, nat_list_cmp_total}
use Rattle.std.specs.FinMap as finite
use Rattle.std.specs.FinSet as set
use Rattle.std.specs.BTreeMap as tree
use Rattle.std.specs.BTreeSet as sorted
use Rattle.std.specs.String.{string_cmp}
use Rattle.std.specs.Str.{bytes_eq}
use Rattle.std.proofs.lemmas.Map.Text.{is_eq-slice_cmp, btree_map_updates_text, btree_set_updates_text}
use Rattle.ipcz_base.specs.declared.end.End.{End}
use Rattle.ipcz_script.specs.Bindings.{bindings_of}

-- two texts tie if their bytes are equal
tied : (q k : List ℕ) → bytes_eq k q ≡ eq_by_cmp (slice_cmp nat_cmp) q k
tied q k = sym (is_eq-slice_cmp k q) ∙ (eq_by_cmp_equiv nat_list_cmp_total).symm k q

-- ---- maps

find-bytes : {X : Type 0} (q : List ℕ) (es : List (String Global × X)) →
    finite.find (slice_cmp nat_cmp) q (map (λ e. (string_bytes e.0, e.1)) es) ≡
    lookup (tree.is_at (λ k. slice_cmp nat_cmp q (string_bytes k))) es
find-bytes q [] = refl
find-bytes q (e ∷ es) = ap (cond (eq_by_cmp (slice_cmp nat_cmp) q (string_bytes e.0)) (Some e.1)) (find-bytes q es)

-- a name is bound to what stands at it in the tree
pub get-bindings_of : (m : tree.BTreeMap (String Global) End) (q : List ℕ) → finite.get (bindings_of m.entries) q ≡ tree.get_by_text m q
get-bindings_of m q = finite.get-from_entries nat_list_cmp_total _ q ∙ find-bytes q m.entries

-- to insert a text into the tree is to bind its bytes
pub bindings_of-insert : (m n : tree.BTreeMap (String Global) End) (k : String Global) (v : End) → tree.Updates string_cmp m n k (Some v) →
    bindings_of n.entries ≡ finite.insert (bindings_of m.entries) (string_bytes k) v
bindings_of-insert m n k v is = finite.same_map nat_list_cmp_total (finite.slice_cmp-IsAntisymmetric finite.nat_cmp-IsAntisymmetric) _ _
    (λ q.
    get-bindings_of n q
    ∙ btree_map_updates_text (string_bytes k) m n (Some v) is q
    ∙ ap (λ b. cond b (Some v) (tree.get_by_text m q)) (tied q (string_bytes k))
    ∙ ap (cond (eq_by_cmp (slice_cmp nat_cmp) q (string_bytes k)) (Some v)) (sym (get-bindings_of m q))
    ∙ sym (finite.get-insert nat_list_cmp_total (bindings_of m.entries) (string_bytes k) v q))

-- ---- sets

any-bytes : (q : List ℕ) (ks : List (String Global)) → list_any (eq_by_cmp (slice_cmp nat_cmp) q) (map string_bytes ks) ≡
    list_any (tree.is_at (λ k. slice_cmp nat_cmp q (string_bytes k))) ks
any-bytes q [] = refl
any-bytes q (k ∷ ks) = ap (λ b. eq_by_cmp (slice_cmp nat_cmp) q (string_bytes k) || b) (any-bytes q ks)

-- the set has the texts that the tree has
pub contains-bytes : (s : sorted.BTreeSet (String Global)) (q : List ℕ) →
    set.contains (set.from_list {R = slice_cmp nat_cmp} (map string_bytes s.keys)) q ≡ sorted.contains_text s q
contains-bytes s q = set.contains-from_list nat_list_cmp_total _ q ∙ any-bytes q s.keys

true_or : (a b : Bool) → cond a true b ≡ (a || b)
true_or true b = refl
true_or false b = refl

-- to insert a text into the tree is to insert its bytes into the set
pub from_list-insert : (s n : sorted.BTreeSet (String Global)) (k : String Global) → sorted.Updates string_cmp s n k true →
    set.from_list {R = slice_cmp nat_cmp} (map string_bytes n.keys) ≡ set.insert (set.from_list (map string_bytes s.keys)) (string_bytes k)
from_list-insert s n k is = set.same_set nat_list_cmp_total (finite.slice_cmp-IsAntisymmetric finite.nat_cmp-IsAntisymmetric) _ _ (λ q.
    contains-bytes n q
    ∙ btree_set_updates_text (string_bytes k) s n true is q
    ∙ true_or (bytes_eq (string_bytes k) q) (sorted.contains_text s q)
    ∙ ap (λ b. b || sorted.contains_text s q) (tied q (string_bytes k))
    ∙ ap (λ b. eq_by_cmp (slice_cmp nat_cmp) q (string_bytes k) || b) (sym (contains-bytes s q))
    ∙ sym (set.contains-insert nat_list_cmp_total (set.from_list (map string_bytes s.keys)) (string_bytes k) q))

swapped : (x y z : Bool) → (x || (y || z)) ≡ (z || (y || x))
swapped true true true = refl
swapped true true false = refl
swapped true false true = refl
swapped true false false = refl
swapped false true true = refl
swapped false true false = refl
swapped false false true = refl
swapped false false false = refl

-- the set after two texts more
pub contains-insert_two : (s : set.FinSet (slice_cmp nat_cmp)) (a b q : List ℕ) →
    set.contains (set.insert (set.insert s a) b) q ≡ (set.contains s q || (bytes_eq a q || bytes_eq b q))
contains-insert_two s a b q =
    set.contains-insert nat_list_cmp_total (set.insert s a) b q
    ∙ ap (λ t. eq_by_cmp (slice_cmp nat_cmp) q b || t) (set.contains-insert nat_list_cmp_total s a q)
    ∙ (λ i. sym (tied q b) i || (sym (tied q a) i || set.contains s q))
    ∙ swapped (bytes_eq b q) (bytes_eq a q) (set.contains s q)
