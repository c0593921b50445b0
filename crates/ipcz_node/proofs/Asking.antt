-- A walk over the routers of a node that lets each dry one ask again.
use Rattle.std.proofs.Common.{◌≡◌, ◌⊎◌, ◌≤◌, ◌<◌, ◌+◌, ℕ, suc, Bool, true, false, cond, Some, refl, sym, ◌∙◌, ap, subst, arith, inl, inr}
use Rattle.std.specs.Ordering.{nat_cmp, eq_by_cmp}
use Rattle.std.specs.Cmp.{nat_cmp_total}
use Rattle.std.specs.FinMap.{get, get-insert}
use Rattle.std.proofs.lemmas.Bool.{cases_lt}
use Rattle.ipcz_base.specs.declared.end.End.{End}
use Rattle.ipcz_seq.proofs.Pairs.{one_or_two}
use Rattle.ipcz_router.specs.Router.{Router}
use Rattle.ipcz_router.specs.ActEffects.{rewet}
use Rattle.ipcz_node.specs.Node.{Node, router_in, with_router, on_router}
use Rattle.ipcz_node.specs.Finding.{IsNext, rewet_node, LetAsk}

-- so many have been let ask, and none below a serial is dry now
pub record IsAskedTo (n : Node) (end count from : ℕ) (m : Node) : Type 0 where
  pub asks : LetAsk n count m
  pub few : count ≤ from
  pub within : from ≤ end
  pub end_is : m.next_router ≡ end
  pub wet : (s : ℕ) (r : Router) → s < from → router_in m s ≡ Some r → r.dry ≡ false

pub asked_none : (n : Node) (end : ℕ) → end ≡ n.next_router → IsAskedTo n end 0 0 n
asked_none n end is = record { asks = refl; few = omega arith; within = omega arith; end_is = sym is; wet = λ s r low here. absurd (omega (arith, low)) }

rewet_there : (m : Node) (s : ℕ) (r : Router) → router_in m s ≡ Some r → rewet_node m s ≡ with_router m s (rewet r)
unfolding on_router
rewet_there m s r here = rw here refl

-- a router after the one of the serial was let ask is that one, or was there before
after_one : (m : Node) (s q : ℕ) (r x : Router) → router_in m s ≡ Some r → router_in (rewet_node m s) q ≡ Some x →
    (x.dry ≡ false) ⊎ ((q ≡ s → ⊥) × (router_in m q ≡ Some x))
after_one m s q r x here at = elim (one_or_two q s) [
  | inl t ↦ inl (let is : Some (rewet r) ≡ Some x = sym (ap (λ c. cond c (Some (rewet r)) (get m.routers q)) t.1) ∙ found in
      let same : rewet r ≡ x = cc in ap (λ (y : Router). y.dry) (sym same))
  | inr t ↦ inr (t.0, sym (ap (λ c. cond c (Some (rewet r)) (get m.routers q)) t.1) ∙ found)
]
  where
    found : cond (eq_by_cmp nat_cmp q s) (Some (rewet r)) (get m.routers q) ≡ Some x
    found = sym (get-insert nat_cmp_total m.routers s (rewet r) q) ∙ (ap (λ (y : Node). router_in y q) (sym (rewet_there m s r here)) ∙ at)

-- one more
pub asked_more : (n : Node) (end count from : ℕ) (m : Node) (s : ℕ) (e : End) → IsAskedTo n end count from m →
    IsNext (router_in m) (λ r. r.dry) from (Some (s, e)) → s < m.next_router → IsAskedTo n end (count + 1) (s + 1) (rewet_node m s)
asked_more n end count from m s e is next low = record {
  asks = subst (λ c. LetAsk n c (rewet_node m s)) one_more (m, is.asks, record { serial = s; router = next.router; here = next.here; dry = next.passes; after = refl });
  few = omega (arith, is.few, next.reached);
  within = omega (arith, low, is.end_is);
  end_is = ap (λ (y : Node). y.next_router) (rewet_there m s next.router next.here) ∙ is.end_is;
  wet = λ q x below at. elim (after_one m s q next.router x next.here at) [
    | inl dry ↦ dry
    | inr t ↦ go q x below t.0 t.1 x.dry refl
  ];
}
  where
    one_more : suc count ≡ count + 1
    one_more = omega arith

    go : (q : ℕ) (x : Router) → q < s + 1 → (q ≡ s → ⊥) → router_in m q ≡ Some x → (d : Bool) → x.dry ≡ d → x.dry ≡ false
    go q x below other at false e = e
    go q x below other at true e = elim (cases_lt q from) [
      | inl t ↦ is.wet q x t at
      | inr t ↦ absurd (other (omega (arith, below, next.first q x t at e)))
    ]
