-- Facts on finite maps.
use Rattle.std.proofs.Common.{◌≡◌, ◌<◌, ℕ, Option, cond, refl, sym, ◌∙◌, ap, subst, None, Some, inl, inr}
use Rattle.std.specs.Prelude.{IsSomeAnd}
use Rattle.std.specs.Ordering.{nat_cmp, eq_by_cmp}
use Rattle.std.specs.Cmp.{nat_cmp_total}
use Rattle.std.specs.FinMap.{FinMap, get, insert, get-insert, remove, get-remove, same_map, nat_cmp-IsAntisymmetric}
use Rattle.ipcz_seq.proofs.Pairs.{one_or_two, tied}
use Rattle.ipcz_node.specs.Rooms.{HasQueueRoom}

-- to write what stands there changes nothing
pub insert_same : {V : Type 0} (m : FinMap nat_cmp V) (k : ℕ) (v : V) → get m k ≡ Some v → insert m k v ≡ m
insert_same {V} m k v here = same_map nat_cmp_total nat_cmp-IsAntisymmetric _ _ (λ q. get-insert nat_cmp_total m k v q ∙ cases q)
  where
    cases : (q : ℕ) → cond (eq_by_cmp nat_cmp q k) (Some v) (get m q) ≡ get m q
    cases q = elim (one_or_two q k) [
      | inl t ↦ rw t.1 (sym (ap (get m) t.0 ∙ here))
      | inr t ↦ rw t.1 refl
    ]

-- what is written twice under a key is what was written last
pub insert_twice : {V : Type 0} (m : FinMap nat_cmp V) (k : ℕ) (v z : V) → insert (insert m k v) k z ≡ insert m k z
insert_twice {V} m k v z = same_map nat_cmp_total nat_cmp-IsAntisymmetric _ _ (λ q.
    get-insert nat_cmp_total (insert m k v) k z q ∙ cases q ∙ sym (get-insert nat_cmp_total m k z q))
  where
    cases : (q : ℕ) → cond (eq_by_cmp nat_cmp q k) (Some z) (get (insert m k v) q) ≡ cond (eq_by_cmp nat_cmp q k) (Some z) (get m q)
    cases q = elim (one_or_two q k) [
      | inl t ↦ rw t.1 refl
      | inr t ↦ rw t.1 (get-insert nat_cmp_total m k v q ∙ rw t.1 refl)
    ]

-- what was written stands there
pub insert_here : {V : Type 0} (m : FinMap nat_cmp V) (k : ℕ) (v : V) → get (insert m k v) k ≡ Some v
insert_here m k v = get-insert nat_cmp_total m k v k ∙ rw (tied k k refl) refl

-- a queue that had room has it still, if one of them got more
pub room_kept : (rooms : FinMap nat_cmp ℕ) (k was is : ℕ) → get rooms k ≡ Some was → (0 < was → 0 < is) → (q : ℕ) →
    HasQueueRoom rooms q → HasQueueRoom (insert rooms k is) q
room_kept rooms k was is here more q has = subst HasRoom (sym (get-insert nat_cmp_total rooms k is q)) cases
  where
    HasRoom : Option ℕ → Type 0
    HasRoom g = IsSomeAnd g (λ room. 0 < room)

    cases : HasRoom (cond (eq_by_cmp nat_cmp q k) (Some is) (get rooms q))
    cases = elim (one_or_two q k) [
      | inl t ↦ rw t.1 (more (subst HasRoom (ap (get rooms) t.0 ∙ here) has))
      | inr t ↦ rw t.1 has
    ]

-- to take out what isn't there changes nothing
pub remove_absent : {V : Type 0} (m : FinMap nat_cmp V) (k : ℕ) → get m k ≡ None → remove m k ≡ m
remove_absent m k none = same_map nat_cmp_total nat_cmp-IsAntisymmetric _ _ (λ q. get-remove nat_cmp_total m k q ∙ cases q)
  where
    cases : (q : ℕ) → cond (eq_by_cmp nat_cmp q k) None (get m q) ≡ get m q
    cases q = elim (one_or_two q k) [
      | inl t ↦ rw t.1 (sym (ap (get m) t.0 ∙ none))
      | inr t ↦ rw t.1 refl
    ]

-- to take out what was just written takes out what stood there
pub remove_written : {V : Type 0} (m : FinMap nat_cmp V) (k : ℕ) (v : V) → remove (insert m k v) k ≡ remove m k
remove_written {V} m k v = same_map nat_cmp_total nat_cmp-IsAntisymmetric _ _
    (λ q. get-remove nat_cmp_total (insert m k v) k q ∙ ap (cond (eq_by_cmp nat_cmp q k) None) (get-insert nat_cmp_total m k v q) ∙ cases q
    ∙ sym (get-remove nat_cmp_total m k q))
  where
    cases : (q : ℕ) → cond (eq_by_cmp nat_cmp q k) None (cond (eq_by_cmp nat_cmp q k) (Some v) (get m q)) ≡
        cond (eq_by_cmp nat_cmp q k) None (get m q)
    cases q = elim (one_or_two q k) [
      | inl t ↦ rw t.1 refl
      | inr t ↦ rw t.1 refl
    ]
