-- Trees whose keys are ends, as finite maps.
use Rattle.std.proofs.Common.{◌≡◌, ◌∙◌, ap, ap₂, sym, refl, true, cond, ℕ, List, [], ◌∷◌, Some, nat_eq, arith}
use Rattle.std.specs.Map.{lookup}
use Rattle.std.specs.Ordering.{is_eq, eq_by_cmp}
use Rattle.std.specs.Cmp.{eq_by_cmp_equiv}
use Rattle.std.specs.FinMap as finite
use Rattle.std.specs.BTreeMap as tree
use Rattle.std.proofs.lemmas.Bool.Decides.{nat_tests}
use Rattle.ipcz_base.specs.declared.end.End.{End}
use Rattle.ipcz_base.specs.Sides.{same_side}
use Rattle.ipcz_base.specs.Ends.{same_end, end_at}
use Rattle.ipcz_base.specs.Orders.{end_cmp}
use Rattle.ipcz_base.proofs.Orders.{end_ties, end_total}
use Rattle.ipcz_script.specs.Bindings.{titles_of}
use Rattle.std.proofs.lemmas.Bool.{and_parts}
use Rattle.ipcz_world.proofs.facts.Lengths.{same_side-tells}

-- ends that tie are the same
end_same : finite.IsAntisymmetric end_cmp
end_same d e ties =
    let same : same_end d e ≡ true = sym (end_ties d e) ∙ ap is_eq ties in
    let parts = and_parts (nat_eq d.pair e.pair) (same_side d.side e.side) same in
    let pairs : d.pair ≡ e.pair = grind (arith, nat_tests, parts.0) in
    ap₂ end_at pairs (same_side-tells d.side e.side parts.1)

find-entries : {X : Type 0} (q : End) (es : List (End × X)) → finite.find end_cmp q es ≡ lookup (tree.is_at (end_cmp q)) es
find-entries q [] = refl
find-entries q (e ∷ es) = ap (cond (eq_by_cmp end_cmp q e.0) (Some e.1)) (find-entries q es)

-- an end has the title that stands at it in the tree
pub get-titles_of : (m : tree.BTreeMap End (List ℕ)) (q : End) → finite.get (titles_of m.entries) q ≡ tree.get end_cmp m q
get-titles_of m q = finite.get-from_entries end_total m.entries q ∙ find-entries q m.entries

-- to insert into the tree is to give a title
pub titles_of-insert : (m n : tree.BTreeMap End (List ℕ)) (k : End) (v : List ℕ) → tree.Updates end_cmp m n k (Some v) →
    titles_of n.entries ≡ finite.insert (titles_of m.entries) k v
titles_of-insert m n k v is = finite.same_map end_total end_same _ _ (λ q.
    get-titles_of n q
    ∙ is.0 q
    ∙ ap (λ b. cond b (Some v) (tree.get end_cmp m q)) ((eq_by_cmp_equiv end_total).symm k q)
    ∙ ap (cond (eq_by_cmp end_cmp q k) (Some v)) (sym (get-titles_of m q))
    ∙ sym (finite.get-insert end_total (titles_of m.entries) k v q))
