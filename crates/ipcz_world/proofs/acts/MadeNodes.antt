-- A node while terminals are made in it: what was there stays, and it doesn't matter whether a router was put back before or after.
use Rattle.std.specs.Prelude.{◌≡◌, ◌≢◌, ◌<◌, ◌+◌, ℕ, Bool, true, false, cond, nat_eq, Some, refl, List, [], ◌∷◌}
use Rattle.std.specs.Ordering.{nat_cmp}
use Rattle.std.specs.Cmp.{nat_cmp_total}
use Rattle.std.specs.FinMap.{FinMap, get, insert, same_map, nat_cmp-IsAntisymmetric}
use Rattle.std.proofs.Common.{arith, ap, ◌∙◌, sym}
use Rattle.std.proofs.lemmas.Bool.Decides.{nat_tests}
use Rattle.ipcz_world.proofs.Vocabulary.{Descriptor, Router, from_descriptor, Node, with_router, add_router, make_terminals}
use Rattle.ipcz_world.proofs.facts.Finding.{get_inserted}

-- two inserts under different keys commute
pub inserts_commute : (m : FinMap nat_cmp Router) (i j : ℕ) (x y : Router) → i ≢ j → insert (insert m i x) j y ≡ insert (insert m j y) i x
inserts_commute m i j x y ne = same_map nat_cmp_total nat_cmp-IsAntisymmetric _ _ (λ q. go q (nat_eq q i) (nat_eq q j) refl refl)
  where
    go : (q : ℕ) (c d : Bool) → nat_eq q i ≡ c → nat_eq q j ≡ d → get (insert (insert m i x) j y) q ≡ get (insert (insert m j y) i x) q
    go q true true e f = let a : q ≡ i = grind (arith, e, nat_tests) in let b : q ≡ j = grind (arith, f, nat_tests) in
        absurd (ne (sym a ∙ b))
    go q true false e f = grind (arith, get_inserted (insert m i x) j y q, get_inserted m i x q, get_inserted (insert m j y) i x q, e, f)
    go q false d e f = grind (
      arith,
      get_inserted (insert m i x) j y q,
      get_inserted m i x q,
      get_inserted (insert m j y) i x q,
      get_inserted m j y q,
      e,
      f,
    )

pub made_hand : (x : Node) (a : ℕ) (ds : List Descriptor) → (make_terminals x a ds).hand ≡ x.hand
made_hand x a [] = refl
made_hand x a (d ∷ ds) = made_hand (add_router x (from_descriptor d a)) a ds

pub made_boxes : (x : Node) (a : ℕ) (ds : List Descriptor) → (make_terminals x a ds).outboxes ≡ x.outboxes
made_boxes x a [] = refl
made_boxes x a (d ∷ ds) = made_boxes (add_router x (from_descriptor d a)) a ds

pub made_router : (x : Node) (a : ℕ) (ds : List Descriptor) (s : ℕ) → s < x.next_router →
    get (make_terminals x a ds).routers s ≡ get x.routers s
made_router x a [] s l = refl
made_router x a (d ∷ ds) s l = made_router (add_router x (from_descriptor d a)) a ds s (omega (arith, l)) ∙ get_inserted x.routers
    x.next_router (from_descriptor d a) s ∙ apart
  where
    apart : cond (nat_eq s x.next_router) (Some (from_descriptor d a)) (get x.routers s) ≡ get x.routers s
    apart = let n : nat_eq s x.next_router ≡ false = grind (arith, l, nat_tests) in
        ap (λ c. cond c (Some (from_descriptor d a)) (get x.routers s)) n

-- a router that is put back before is the same as one that is put back after
pub made_with : (x : Node) (a : ℕ) (ds : List Descriptor) (s : ℕ) (y : Router) → s < x.next_router →
    make_terminals (with_router x s y) a ds ≡ with_router (make_terminals x a ds) s y
made_with x a [] s y l = refl
made_with x a (d ∷ ds) s y l =
    ap (λ m. make_terminals (record x { routers = m; next_router = x.next_router + 1 }) a ds)
    (inserts_commute x.routers s x.next_router y (from_descriptor d a) (λ e. grind (arith, e, l))) ∙ made_with
    (add_router x (from_descriptor d a)) a ds s y (omega (arith, l))
