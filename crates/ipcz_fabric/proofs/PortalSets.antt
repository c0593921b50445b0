-- Sets of portals: what is noted of a list stays right where a portal is added, and where one is removed.
use Rattle.std.specs.Prelude.{◌≡◌, ◌≢◌, ◌≤◌, ◌<◌, ◌+◌, ◌-◌, ◌++◌, ℕ, Bool, true, false, List, [], ◌∷◌, length, refl, slice_get, Option, Some, None, IfSome, get_or, is_some, nat_eq}
use Rattle.std.specs.BTreeMap.{BTreeMap, Updates, get, is_at}
use Rattle.std.specs.Ordering.{is_eq, nat_cmp}
use Rattle.std.proofs.Common.{arith, ap, ap₂, sym, subst, ◌∙◌, true≢false, inl, inr}
use Rattle.std.proofs.lemmas.Bool.{and_parts, cases_eq, cases_lt}
use Rattle.std.proofs.lemmas.Option.{slice_get-get_or, slice_get_cases, slice_get_within}
use Rattle.ipcz_base.specs.declared.end.End.{End}
use Rattle.ipcz_base.specs.Ends.{end_at, same_end}
use Rattle.ipcz_base.specs.Orders.{end_cmp}
use Rattle.ipcz_base.specs.Sides.{same_side}
use Rattle.ipcz_base.proofs.Orders.{both_tie, end_ties, number_ties}
use Rattle.ipcz_rule.proofs.Adding.{slice_get-last, slice_get-longer, slice_get-more}
use Rattle.ipcz_world.proofs.facts.Lengths.{same_side-tells}
use Rattle.ipcz_world.proofs.facts.Tests.{nat_eq-is}
use Rattle.ipcz_fabric.specs.Portals.{PortalValue, portal_at}
use Rattle.ipcz_fabric.specs.PortalSets.{AreNoted, AreOnce, IsRemoved, key_cmp}
use Rattle.ipcz_fabric.specs.Readiness.{EachBefore, IsThere}

-- what a map has is one thing
pub one : {X : Type 0} {o : Option X} {x y : X} → o ≡ Some x → o ≡ Some y → x ≡ y
one {X} {o} {x} {y} a b = same (sym a ∙ b)
  where
    same : Some x ≡ Some y → x ≡ y
    same h = cc

same_end-is : (d e : End) → same_end d e ≡ true → d ≡ e
same_end-is d e h = let p = and_parts (nat_eq d.pair e.pair) (same_side d.side e.side) h in
    ap₂ end_at (nat_eq-is d.pair e.pair p.0) (same_side-tells d.side e.side p.1)

-- keys that tie are the same
pub same_key : (k q : ℕ × End) → is_at (key_cmp k) q ≡ true → k ≡ q
same_key k q h =
    let parts = and_parts (is_eq (nat_cmp k.0 q.0)) (is_eq (end_cmp k.1 q.1)) (sym (both_tie (nat_cmp k.0 q.0) (end_cmp k.1 q.1)) ∙ h) in
    ap₂ (λ (n : ℕ) (e : End). (n, e)) (nat_eq-is k.0 q.0 (sym (number_ties k.0 q.0) ∙ parts.0)) (same_end-is k.1 q.1 (sym (end_ties k.1 q.1) ∙ parts.1))

abbrev pub key_of : PortalValue → ℕ × End
key_of p = (p.node, p.end)

-- portals that differ have keys that don't tie
other_key : (p q : PortalValue) → q ≢ p → is_at (key_cmp (key_of p)) (key_of q) ≡ false
other_key p q differ = go (is_at (key_cmp (key_of p)) (key_of q)) refl
  where
    go : (b : Bool) → is_at (key_cmp (key_of p)) (key_of q) ≡ b → is_at (key_cmp (key_of p)) (key_of q) ≡ false
    go false h = h
    go true h = absurd (differ (sym (ap (λ (k : ℕ × End). portal_at k.0 k.1) (same_key (key_of p) (key_of q) h))))

-- what is there isn't nothing
pub some_none : (o : Option ℕ) → is_some o ≡ true → o ≡ None → ⊥
some_none o some none = true≢false (sym some ∙ ap is_some none)

module _ (count : ℕ) (ps : List PortalValue) (m : BTreeMap (ℕ × End) ℕ) (ns : List ℕ) (noted : AreNoted count ps m ns) where
  -- no portal is at two places
  pub noted_once : AreOnce ps
  noted_once i j p a b = one (sym (sym (noted.placed i p a))) (noted.placed j p b)

  -- a portal that is found is that of the key, and none before it is
  pub noted_there : (node : ℕ) (end : End) (place : ℕ) → get key_cmp m (node, end) ≡ Some place →
      IsThere ps place (λ p. p ≡ portal_at node end) × EachBefore ps place (λ p. p ≢ portal_at node end)
  noted_there node end place is = (
    (portal_at node end, noted.there (node, end) place is, refl),
    λ k p below here same. absurd (omega (arith, below, one (sym (ap (get key_cmp m) (ap key_of same)) ∙ noted.placed k p here) is)),
  )

  -- one that isn't found is nowhere
  pub noted_nowhere : (node : ℕ) (end : End) → get key_cmp m (node, end) ≡ None → EachBefore ps (length ps) (λ p. p ≢ portal_at node end)
  noted_nowhere node end none k p below here same = not_both (sym none ∙ (sym (ap (get key_cmp m) (ap key_of same)) ∙ noted.placed k p here))
    where
      not_both : None ≡ Some k → ⊥
      not_both h = cc

  pub found_there : (node : ℕ) (end : End) (o : Option ℕ) → o ≡ get key_cmp m (node, end) → IfSome o (λ place. IsThere ps place (λ p. p ≡ portal_at node end))
  found_there node end None is = tt
  found_there node end (Some place) is = (noted_there node end place (sym is)).0

  pub found_first : (node : ℕ) (end : End) (o : Option ℕ) → o ≡ get key_cmp m (node, end) → IfSome o (λ place. EachBefore ps place (λ p. p ≢ portal_at node end))
  found_first node end None is = tt
  found_first node end (Some place) is = (noted_there node end place (sym is)).1

  -- a portal that wasn't there is added
  pub noted_more : (n : BTreeMap (ℕ × End) ℕ) (after : List ℕ) (p : PortalValue) → EachBefore ps (length ps) (λ q. q ≢ p) →
      Updates key_cmp m n (key_of p) (Some (length ps)) → ((j : ℕ) × (slice_get after j ≡ Some p.node)) →
      ((j k : ℕ) → slice_get ns j ≡ Some k → slice_get after j ≡ Some k) → ((j k : ℕ) → slice_get after j ≡ Some k → k ≢ p.node → slice_get ns j ≡ Some k) →
      p.node < count → AreNoted count (ps ++ p ∷ []) n after
  noted_more n after p new updates has kept inside low = record {
    placed = λ i q here. elim (slice_get-more ps p q i here) [
      | inl old ↦ updates.2 (key_of q) (other_key p q (new i q (slice_get_within ps i q old) old)) ∙ noted.placed i q old
      | inr last ↦ ap (λ (x : PortalValue). get key_cmp n (key_of x)) last.1 ∙ (updates.1 ∙ ap Some (sym last.0))
    ];
    there = λ k i is. there k i is (is_at (key_cmp (key_of p)) k) refl;
    noded = λ i q here. elim (slice_get-more ps p q i here) [
      | inl old ↦ let t = noted.noded i q old in (t.0, kept t.0 q.node t.1)
      | inr last ↦ (has.0, has.1 ∙ ap (λ (x : PortalValue). Some x.node) (sym last.1))
    ];
    inside = λ j k here. elim (cases_eq k p.node) [
      | inl same ↦ subst (λ (x : ℕ). x < count) (sym same) low
      | inr other ↦ noted.inside j k (inside j k here other)
    ];
  }
    where
      there : (k : ℕ × End) (i : ℕ) → get key_cmp n k ≡ Some i → (b : Bool) → is_at (key_cmp (key_of p)) k ≡ b → slice_get (ps ++ p ∷ []) i ≡ Some (portal_at k.0 k.1)
      there k i is true same =
          let key = same_key (key_of p) k same in
          ap (slice_get (ps ++ p ∷ [])) (one is (sym (ap (get key_cmp n) key) ∙ updates.1)) ∙ (slice_get-last ps p ∙ ap (λ (x : ℕ × End). Some (portal_at x.0 x.1)) key)
      there k i is false other = slice_get-longer ps p (portal_at k.0 k.1) i (noted.there k i (sym (updates.2 k other) ∙ is))

  module _ (place : ℕ) (r : PortalValue) (new : List PortalValue) (n : BTreeMap (ℕ × End) ℕ) (here : slice_get ps place ≡ Some r)
      (removed : IsRemoved ps place new) (without : Updates key_cmp m n (key_of r) None) where
    not_none : {i : ℕ} {k : ℕ × End} → k ≡ key_of r → get key_cmp n k ≡ Some i → ⊥
    not_none {i} {k} same is = never (sym is ∙ (ap (get key_cmp n) same ∙ without.1))
      where
        never : Some i ≡ None → ⊥
        never h = cc

    -- the others are in the map yet
    left : (i : ℕ) (q : PortalValue) → slice_get ps i ≡ Some q → i ≢ place → get key_cmp n (key_of q) ≡ Some i
    left i q is other = without.2 (key_of q) (other_key r q (λ same. other (noted_once i place q is (here ∙ ap Some (sym same))))) ∙ noted.placed i q is

    back : (k : ℕ × End) (i : ℕ) → get key_cmp n k ≡ Some i → (slice_get ps i ≡ Some (portal_at k.0 k.1)) × (i ≢ place)
    back k i is = go (is_at (key_cmp (key_of r)) k) refl
      where
        there : is_at (key_cmp (key_of r)) k ≡ false → slice_get ps i ≡ Some (portal_at k.0 k.1)
        there other = noted.there k i (sym (without.2 k other) ∙ is)

        go : (b : Bool) → is_at (key_cmp (key_of r)) k ≡ b → (slice_get ps i ≡ Some (portal_at k.0 k.1)) × (i ≢ place)
        go true same = absurd (not_none (sym (same_key (key_of r) k same)) is)
        go false other = (
          there other,
          λ same. not_none (ap key_of (one (there other) (ap (slice_get ps) same ∙ here))) is,
        )

    inside : (i : ℕ) (q : PortalValue) → slice_get ps i ≡ Some q → i < length new + 1
    inside i q is = omega (arith, slice_get_within ps i q is, removed.shorter)

    -- so the one that took the place is
    pub known_moved : (p : PortalValue) → slice_get new place ≡ Some p → is_some (get key_cmp n (key_of p)) ≡ true
    known_moved p is =
        let low = slice_get_within new place p is in
        ap is_some (left (length new) p (sym (removed.moved low) ∙ is) (λ same. omega (arith, low, same)))

    module _ (o : BTreeMap (ℕ × End) ℕ) (after : List ℕ)
        (told : (p : PortalValue) → slice_get new place ≡ Some p → Updates key_cmp n o (key_of p) (Some place)) (none : length new ≤ place → o ≡ n) where
      -- the last one was removed
      module _ (last : length new ≤ place) where
        pub placed_last : (i : ℕ) (q : PortalValue) → slice_get new i ≡ Some q → get key_cmp o (key_of q) ≡ Some i
        placed_last i q is =
            let low = slice_get_within new i q is in
            let other : i ≢ place = λ same. omega (arith, low, last, same) in
            ap (λ (t : BTreeMap (ℕ × End) ℕ). get key_cmp t (key_of q)) (none last) ∙ left i q (sym (removed.others i other low) ∙ is) other

        pub there_last : (k : ℕ × End) (i : ℕ) → get key_cmp o k ≡ Some i → slice_get new i ≡ Some (portal_at k.0 k.1)
        there_last k i is =
            let b = back k i (sym (ap (λ (t : BTreeMap (ℕ × End) ℕ). get key_cmp t k) (none last)) ∙ is) in
            removed.others i b.1 (below i b.1 (inside i (portal_at k.0 k.1) b.0)) ∙ b.0
          where
            below : (i : ℕ) → i ≢ place → i < length new + 1 → i < length new
            below i other low = elim (cases_lt i (length new)) [
              | inl less ↦ less
              | inr up ↦ absurd (other (omega (arith, up, low, last, removed.inside, removed.shorter)))
            ]

      -- the last one, which is this one, took the place
      module _ (p : PortalValue) (moved : slice_get new place ≡ Some p) where
        behind : slice_get ps (length new) ≡ Some p
        behind = sym (removed.moved (slice_get_within new place p moved)) ∙ moved

        pub placed_moved : (i : ℕ) (q : PortalValue) → slice_get new i ≡ Some q → get key_cmp o (key_of q) ≡ Some i
        placed_moved i q is = elim (cases_eq i place) [
          | inl same ↦
              ap (λ (x : PortalValue). get key_cmp o (key_of x)) (one (sym (ap (slice_get new) same) ∙ is) moved) ∙ ((told p moved).1 ∙ ap Some (sym same))
          | inr other ↦
              let low = slice_get_within new i q is in
              let old = sym (removed.others i other low) ∙ is in
              (told p moved).2 (key_of q) (other_key p q (λ same. omega (arith, low, noted_once i (length new) q old (behind ∙ ap Some (sym same))))) ∙ left i q old other
        ]

        pub there_moved : (k : ℕ × End) (i : ℕ) → get key_cmp o k ≡ Some i → slice_get new i ≡ Some (portal_at k.0 k.1)
        there_moved k i is = go (is_at (key_cmp (key_of p)) k) refl
          where
            at_place : k ≡ key_of p → i ≡ place
            at_place same = one is (ap (get key_cmp o) same ∙ (told p moved).1)

            go : (b : Bool) → is_at (key_cmp (key_of p)) k ≡ b → slice_get new i ≡ Some (portal_at k.0 k.1)
            go true same =
                let key = same_key (key_of p) k same in
                ap (slice_get new) (at_place (sym key)) ∙ (moved ∙ ap (λ (x : ℕ × End). Some (portal_at x.0 x.1)) key)
            go false other =
                let b = back k i (sym ((told p moved).2 k other) ∙ is) in
                elim (cases_lt i (length new)) [
                  | inl less ↦ removed.others i b.1 less ∙ b.0
                  | inr up ↦ absurd (b.1 (at_place (ap key_of (one b.0 (ap (slice_get ps) (omega (arith, up, inside i (portal_at k.0 k.1) b.0)) ∙ behind)))))
                ]

      -- what is noted is right yet
      pub noted_less : ((k j : ℕ) (p : PortalValue) → slice_get new k ≡ Some p → slice_get ns j ≡ Some p.node → (i : ℕ) × (slice_get after i ≡ Some p.node)) →
          ((j k : ℕ) → slice_get after j ≡ Some k → (i : ℕ) × (slice_get ns i ≡ Some k)) → AreNoted count new o after
      noted_less kept only = record {
        placed = placed;
        there = there;
        noded = λ i q is. let t = was i q is in let n = noted.noded t.0 q t.1 in kept i n.0 q is n.1;
        inside = λ j k is. let t = only j k is in noted.inside t.0 k t.1;
      }
        where
          was : (i : ℕ) (q : PortalValue) → slice_get new i ≡ Some q → (j : ℕ) × (slice_get ps j ≡ Some q)
          was i q is = elim (cases_eq i place) [
            | inl same ↦ (length new, sym (removed.moved (subst (λ (x : ℕ). x < length new) same (slice_get_within new i q is))) ∙ (sym (ap (slice_get new) same) ∙ is))
            | inr other ↦ (i, sym (removed.others i other (slice_get_within new i q is)) ∙ is)
          ]

          there : (k : ℕ × End) (i : ℕ) → get key_cmp o k ≡ Some i → slice_get new i ≡ Some (portal_at k.0 k.1)
          there k i is = elim (slice_get_cases new place).1 [
            | inl t ↦ there_moved t.0 t.2 k i is
            | inr past ↦ there_last past.0 k i is
          ]

          placed : (i : ℕ) (q : PortalValue) → slice_get new i ≡ Some q → get key_cmp o (key_of q) ≡ Some i
          placed i q is = elim (slice_get_cases new place).1 [
            | inl t ↦ placed_moved t.0 t.2 i q is
            | inr past ↦ placed_last past.0 i q is
          ]

-- the last one was moved to the place of the one that was removed, where these are the lengths
pub is_removed : (old new : List PortalValue) (place : ℕ) (r : PortalValue) (n l : ℕ) → n ≡ length old → l ≡ length new → place < n → l + 1 ≡ n →
    (place + 1 < n → get_or new place r ≡ get_or old (n - 1) r) → ((k : ℕ) → k ≢ place → k + 1 < n → get_or new k r ≡ get_or old k r) → IsRemoved old place new
is_removed old new place r n l many few inside shorter moved others = record {
  inside = omega (arith, inside, many);
  shorter = omega (arith, shorter, many, few);
  moved = λ low.
      slice_get-get_or new place r low ∙ (ap Some (moved (omega (arith, low, shorter, few)) ∙ ap (λ (i : ℕ). get_or old i r) (omega (arith, shorter, few)))
      ∙ sym (slice_get-get_or old (length new) r (omega (arith, shorter, many, few))));
  others = λ k other low.
      slice_get-get_or new k r low ∙ (ap Some (others k other (omega (arith, low, shorter, few))) ∙ sym (slice_get-get_or old k r (omega (arith, low, shorter, many, few))));
}
