-- What the views have seen of the claim count: no step takes it below that.
use Rattle.std.specs.Prelude.{◌≡◌, ◌≢◌, ◌⊎◌, ◌≤◌, ℕ, List, [], ◌∷◌, ◌++◌, slice_index, None}
use Rattle.std.proofs.Common.{arith, ap, ◌∙◌, sym, subst, ⊎_elim, set}
use mathlib.Core.Option.{some}
use lib.ListN.{get_elem?}
use Rattle.atomic_table.proofs.Lists.{at_set, at_snoc}
use Rattle.ipcz_world.specs.World.{World}
use Rattle.ipcz_rule.specs.declared.view.View.{View}
use Rattle.ipcz_rule.specs.Rule.{HasSeenCounts}

-- a view has seen no more than before, or one word more, as it was found
abbrev pub Sees : List ℕ → View → View → Type 0
Sees words v v' = (v'.seen ≡ v.seen) ⊎ ((i : ℕ) × (v'.seen ≡ v.seen ++ (i, slice_index words i) ∷ []))

-- so it is, and the view has announced nothing, and has the same caller
abbrev pub Silent : List ℕ → View → View → Type 0
Silent words v v' = (v'.announced ≡ None) × Sees words v v' × (v'.caller ≡ v.caller)

-- so it is if the claim count doesn't fall
pub keeps_counts : (views : List View) (words : List ℕ) (w w' : World) (id : ℕ) (v v' : View) → get_elem? views id ≡ some v → Sees words v v' →
    w'.size ≡ w.size → w.claimed ≤ w'.claimed → slice_index words w.size ≡ w.claimed → HasSeenCounts views w → HasSeenCounts (set views id v') w'
keeps_counts views words w w' id v v' at sight size up claims was j u k n at_j at_k =
    let here : get_elem? u.seen k ≡ some (w.size, n) = subst (λ (c : ℕ). get_elem? u.seen k ≡ some (c, n)) size at_k in
    let low : n ≤ w.claimed = ⊎_elim
    (λ (t : (j ≡ id) × (v' ≡ u)). own (ap (λ (z : View). get_elem? z.seen k) t.1 ∙ here))
    (λ (t : (j ≢ id) × (get_elem? views j ≡ some u)). was j u k n t.1 here)
    (at_set views id j v' u at_j) in
    omega (arith, low, up)
  where
    own : get_elem? v'.seen k ≡ some (w.size, n) → n ≤ w.claimed
    own e = ⊎_elim
        (λ (same : v'.seen ≡ v.seen). was id v k n at (ap (λ (l : List (ℕ × ℕ)). get_elem? l k) (sym same) ∙ e))
        (λ (more : (i : ℕ) × (v'.seen ≡ v.seen ++ (i, slice_index words i) ∷ [])). ⊎_elim
        (λ (before : get_elem? v.seen k ≡ some (w.size, n)). was id v k n at before)
        (λ (last : (more.0, slice_index words more.0) ≡ (w.size, n)).
        let word : more.0 ≡ w.size = ap (λ (z : ℕ × ℕ). z.0) last in
        let found : slice_index words more.0 ≡ n = ap (λ (z : ℕ × ℕ). z.1) last in
        let is : n ≡ w.claimed = sym found ∙ (ap (slice_index words) word ∙ claims) in
        omega (arith, is))
        (at_snoc v.seen (more.0, slice_index words more.0) (w.size, n) k (ap (λ (l : List (ℕ × ℕ)). get_elem? l k) (sym more.1) ∙ e)))
        sight
