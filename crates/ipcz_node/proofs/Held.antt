-- Which ends callers of a node hold, after they hold more or fewer.
use Rattle.std.proofs.Common.{◌≡◌, Bool, true, false, not, ◌&&◌, ◌||◌, List, [], ◌∷◌, refl, sym, ◌∙◌, ap, ap₂}
use Rattle.std.specs.List.{list_any}
use Rattle.std.specs.Ordering.{is_eq, eq_by_cmp}
use Rattle.ipcz_base.specs.Orders.{end_cmp}
use Rattle.ipcz_node.specs.SortedSets.{has}
use Rattle.ipcz_node.proofs.Refiling.{number_is, first_of_both, second_of_both, side_is}
use Rattle.std.specs.FinSet as sets
use Rattle.std.specs.Prelude.{ℕ, nat_eq}
use Rattle.std.proofs.Common.{arith}
use Rattle.std.proofs.lemmas.Bool.Decides.{nat_tests}
use Rattle.ipcz_base.specs.declared.side.Side.{Side}
use Rattle.ipcz_base.specs.declared.side.Side.TheVariants.{A, B}
use Rattle.ipcz_base.specs.Sides.{same_side}
use Rattle.ipcz_base.specs.declared.end.End.{End}
use Rattle.ipcz_base.specs.Ends.{same_end, has_end}
use Rattle.ipcz_base.proofs.Orders.{end_ties, end_total}
use Rattle.ipcz_node.specs.Node.{EndSet, with_ends, without_ends}

-- an end more
pub contains-insert : (held : EndSet) (e d : End) → sets.contains (sets.insert held e) d ≡ (same_end d e || sets.contains held d)
contains-insert held e d = sets.contains-insert end_total held e d ∙ ap (λ t. t || sets.contains held d) (end_ties d e)

-- an end fewer
pub contains-remove : (held : EndSet) (e d : End) → sets.contains (sets.remove held e) d ≡ (not (same_end d e) && sets.contains held d)
contains-remove held e d = sets.contains-remove end_total held e d ∙ ap (λ t. not t && sets.contains held d) (end_ties d e)

or_turned : (a b c : Bool) → (a || (b || c)) ≡ ((b || a) || c)
or_turned true true c = refl
or_turned true false c = refl
or_turned false true c = refl
or_turned false false c = refl

and_turned : (a b c : Bool) → (not a && (not b && c)) ≡ (not (b || a) && c)
and_turned true true c = refl
and_turned true false c = refl
and_turned false true c = refl
and_turned false false c = refl

nat_turned : (a b : ℕ) → nat_eq a b ≡ nat_eq b a
nat_turned a b = grind (arith, nat_tests)

-- two ends are the same from either side
same_turned : (d e : End) → same_end d e ≡ same_end e d
same_turned d e = go d.side e.side (nat_turned d.pair e.pair)
  where
    go : (s t : Side) → nat_eq d.pair e.pair ≡ nat_eq e.pair d.pair →
        (nat_eq d.pair e.pair && same_side s t) ≡ (nat_eq e.pair d.pair && same_side t s)
    go A A p = ap (λ b. b && true) p
    go A B p = ap (λ b. b && false) p
    go B A p = ap (λ b. b && false) p
    go B B p = ap (λ b. b && true) p

-- these ends more
pub contains-with_ends : (held : EndSet) (es : List End) (d : End) →
    sets.contains (with_ends held es) d ≡ (has_end d es || sets.contains held d)
contains-with_ends held [] d = refl
contains-with_ends held (e ∷ es) d =
    contains-with_ends (sets.insert held e) es d ∙ ap (λ t. has_end d es || t) (contains-insert held e d)
    ∙ or_turned (has_end d es) (same_end d e) (sets.contains held d)
    ∙ ap (λ t. (t || has_end d es) || sets.contains held d) (same_turned d e)

-- these ends fewer
pub contains-without_ends : (held : EndSet) (es : List End) (d : End) →
    sets.contains (without_ends held es) d ≡ (not (has_end d es) && sets.contains held d)
contains-without_ends held [] d = refl
contains-without_ends held (e ∷ es) d =
    contains-without_ends (sets.remove held e) es d ∙ ap (λ t. not (has_end d es) && t) (contains-remove held e d)
    ∙ and_turned (has_end d es) (same_end d e) (sets.contains held d)
    ∙ ap (λ t. not (t || has_end d es) && sets.contains held d) (same_turned d e)

-- only an end itself ties with it
pub end_is : (d e : End) → same_end d e ≡ true → d ≡ e
end_is d e h = ap₂ (λ pair side. record { pair = pair; side = side }) (number_is d.pair e.pair (first_of_both _ _ h))
    (side_is d.side e.side (second_of_both _ _ h))

end_antisymmetric : sets.IsAntisymmetric end_cmp
end_antisymmetric d e tie = end_is d e (sym (end_ties d e) ∙ ap is_eq tie)

-- the ends of a list are those that tie with a member
contains_listed : (ds : List End) (d : End) → sets.contains (sets.from_list {R = end_cmp} ds) d ≡ has end_cmp ds d
contains_listed ds d = sets.contains-from_list end_total ds d ∙ go ds
  where
    go : (es : List End) → list_any (eq_by_cmp end_cmp d) es ≡ has end_cmp es d
    go [] = refl
    go (e ∷ es) = ap₂ (λ a b. a || b) (end_ties d e ∙ same_turned d e ∙ sym (end_ties e d)) (go es)

-- sets with the same members are the same
pub same_ends : (held more : EndSet) → ((d : End) → sets.contains held d ≡ sets.contains more d) → held ≡ more
same_ends held more same = sets.same_set end_total end_antisymmetric held more same

-- a list with a member more, and with one fewer
pub listed_more : (old new : List End) (e : End) → ((d : End) → has end_cmp new d ≡ (is_eq (end_cmp e d) || has end_cmp old d)) →
    sets.from_list {R = end_cmp} new ≡ sets.insert (sets.from_list old) e
listed_more old new e members = same_ends _ _ (λ d.
    contains_listed new d ∙ members d ∙ ap₂ (λ a b. a || b) (end_ties e d ∙ same_turned e d) (sym (contains_listed old d)) ∙
    sym (contains-insert (sets.from_list old) e d))

pub listed_fewer : (old new : List End) (e : End) → ((d : End) → has end_cmp new d ≡ (not (is_eq (end_cmp e d)) && has end_cmp old d)) →
    sets.from_list {R = end_cmp} new ≡ sets.remove (sets.from_list old) e
listed_fewer old new e members = same_ends _ _ (λ d.
    contains_listed new d ∙ members d ∙ ap₂ (λ a b. not a && b) (end_ties e d ∙ same_turned e d) (sym (contains_listed old d)) ∙
    sym (contains-remove (sets.from_list old) e d))

-- an end of the set is a member of the list
pub contains_is : (ds : List End) (d : End) → has end_cmp ds d ≡ sets.contains (sets.from_list {R = end_cmp} ds) d
contains_is ds d = sym (contains_listed ds d)

pub ruleset held = (contains-insert, contains-remove, contains-with_ends, contains-without_ends)
