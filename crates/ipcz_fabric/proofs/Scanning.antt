-- A look at a list of portals: at one node, by the ends where something has come, and then at all of their nodes.
use Rattle.std.specs.Prelude.{◌≡◌, ◌≢◌, ◌≤◌, ◌<◌, ◌+◌, ℕ, Bool, true, false, List, length, refl, slice_get, Option, Some, None, IfSome, nat_eq}
use Rattle.std.proofs.Common.{arith, ap, sym, subst, ◌∙◌, true≢false, inl, inr}
use Rattle.std.proofs.lemmas.Bool.{cases_lt}
use Rattle.std.proofs.lemmas.Option.{slice_get_within}
use Rattle.std.proofs.lemmas.Bool.Decides.{nat_tests}
use Rattle.ipcz_base.specs.declared.end.End.{End}
use Rattle.ipcz_base.specs.declared.refusal.Refusal.{Refusal}
use Rattle.ipcz_base.specs.declared.refusal.Refusal.TheVariants.{Empty}
use Rattle.ipcz_node.specs.Node.{router_in}
use Rattle.ipcz_node.specs.Finding.{IsNextReady, is_ready_in}
use Rattle.ipcz_router.specs.Router.{Router}
use Rattle.ipcz_world.proofs.facts.Finding.{IsReadyThere, ready_there}
use Rattle.ipcz_cell.specs.CellStates.{CellState}
use Rattle.ipcz_cell.specs.TableNames.{TableName}
use Rattle.ipcz_fabric.specs.declared.missed.Missed.{Missed}
use Rattle.ipcz_fabric.specs.declared.missed.Missed.TheVariants.{Refused, Stopped}
use Rattle.ipcz_fabric.specs.Portals.{PortalValue, portal_at}
use Rattle.ipcz_fabric.specs.Readiness.{EachBefore, Finds, FindsHere, FindsNoneHere, IsThere, IsWhyNone, finds_at}
use Rattle.ipcz_fabric.specs.Stopping.{IsStop}

is_portal : (p : PortalValue) (node : ℕ) (end : End) → p.node ≡ node → p.end ≡ end → p ≡ portal_at node end
is_portal p node end a b = ap (λ (n : ℕ). portal_at n p.end) a ∙ ap (portal_at node) b

module _ (c : CellState) (portals : List PortalValue) where
  -- of the ends where something has come at routers below a serial, none is a portal's before a place, unless a get there finds nothing
  abbrev pub IsScanned : ℕ → ℕ → Type 0
  IsScanned from place = EachBefore portals place (λ p. p.node ≡ c.part.node → (s : ℕ) (r : Router) → s < from → router_in c.part.state s ≡ Some r →
      is_ready_in c.part.state.held r ≡ true → r.end ≡ p.end → finds_at c.part.state p.end ≡ false)

  pub scan_start : (place : ℕ) → IsScanned 0 place
  scan_start place k p below is own s r low = absurd (omega (arith, low))

  -- the next end where something has come is looked for among those before the place
  pub scan_more : (from serial place found : ℕ) (end : End) → IsNextReady c.part.state from (Some (serial, end)) → IsScanned from place → found ≤ place →
      EachBefore portals found (λ p. p.node ≡ c.part.node → p.end ≡ end → finds_at c.part.state p.end ≡ false) → IsScanned (serial + 1) found
  scan_more from serial place found end next scanned le none k p below is own s r low here ready end_is = go (nat_eq s serial) refl
    where
      at : s ≡ serial → finds_at c.part.state p.end ≡ false
      at same = none k p below is own (sym end_is ∙ (ap (λ (x : Router). x.end) (one (sym here ∙ (ap (router_in c.part.state) same ∙ next.here))) ∙ next.end_is))
        where
          one : Some r ≡ Some next.router → r ≡ next.router
          one h = cc

      go : (b : Bool) → nat_eq s serial ≡ b → finds_at c.part.state p.end ≡ false
      go true same = at (grind (arith, nat_tests, same))
      go false other = before (grind (arith, nat_tests, other, low))
        where
          before : s < serial → finds_at c.part.state p.end ≡ false
          before less = elim (cases_lt s from) [
            | inl passed ↦ scanned k p (omega (arith, below, le)) is own s r passed here ready end_is
            | inr ahead ↦ absurd (omega (arith, less, next.first s r ahead here ready))
          ]

  -- a get at that end finds something, and the first portal of it is found, if there is one before the place
  pub scan_found : (node from serial place found : ℕ) (end : End) → node ≡ c.part.node → IsNextReady c.part.state from (Some (serial, end)) →
      IsScanned from place → found ≤ place → EachBefore portals found (λ p. p ≢ portal_at node end) → IsScanned (serial + 1) found
  scan_found node from serial place found end here next scanned le none = scan_more from serial place found end next scanned le
      (λ k p below is own end_is. absurd (none k p below is (is_portal p node end (own ∙ sym here) end_is)))

  -- a get at that end finds nothing
  pub scan_passed : (from serial place : ℕ) (end : End) → IsNextReady c.part.state from (Some (serial, end)) → IsScanned from place →
      finds_at c.part.state end ≡ false → IsScanned (serial + 1) place
  scan_passed from serial place end next scanned none = scan_more from serial place place end next scanned (omega arith)
      (λ k p below is own end_is. ap (finds_at c.part.state) end_is ∙ none)

  pub found_there : (node place limit found : ℕ) (end : End) → node ≡ c.part.node → finds_at c.part.state end ≡ true → found ≤ place →
      (found < place → IsThere portals found (λ p. p ≡ portal_at node end)) → (place < limit → IsThere portals place (FindsHere c)) → found < limit →
      IsThere portals found (FindsHere c)
  found_there node place limit found end here finds le there before low = elim (cases_lt found place) [
    | inl less ↦
        let t = there less in
        (t.0, t.1, (ap (λ (p : PortalValue). p.node) t.2 ∙ here, ap (λ (p : PortalValue). finds_at c.part.state p.end) t.2 ∙ finds))
    | inr up ↦
        let same : place ≡ found = omega (arith, le, up) in
        subst (λ (i : ℕ). IsThere portals i (FindsHere c)) same (before (omega (arith, low, same)))
  ]

  -- none is left
  pub scan_end : (from place : ℕ) → IsNextReady c.part.state from None → IsScanned from place → EachBefore portals place (FindsNoneHere c)
  scan_end from place none scanned k p below is own = go (finds_at c.part.state p.end) refl
    where
      go : (b : Bool) → finds_at c.part.state p.end ≡ b → finds_at c.part.state p.end ≡ false
      go false h = h
      go true h = there (ready_there c.part.state p.end h)
        where
          there : IsReadyThere c.part.state p.end → finds_at c.part.state p.end ≡ false
          there t = elim (cases_lt t.serial from) [
            | inl low ↦ scanned k p below is own t.serial t.router low t.here t.ready t.end_is
            | inr high ↦ absurd (true≢false (sym t.ready ∙ none t.serial t.router high t.here))
          ]

-- what a look at the first so many of some nodes has found: the first portal where a get finds something, of those at nodes that were looked at; and why
-- one of these is stopped
pub record IsLooked (t : TableName) (portals : List PortalValue) (nodes : List ℕ) (first looked : ℕ) (stopped : Option (ℕ × Refusal)) : Type 0 where
  pub most : first ≤ length portals
  pub found : first < length portals → IsThere portals first (Finds t true)
  pub before : (j : ℕ) → j < looked → EachBefore portals first (λ p. slice_get nodes j ≡ Some p.node → Finds t false p)
  pub why : IfSome stopped (λ s. IsStop s.1)

-- one more node is looked at
pub look_more : (t : TableName) (portals : List PortalValue) (nodes : List ℕ) (first looked : ℕ) (stopped : Option (ℕ × Refusal)) (node found : ℕ)
    (after : Option (ℕ × Refusal)) → slice_get nodes looked ≡ Some node → IsLooked t portals nodes first looked stopped → found ≤ first →
    (found < first → IsThere portals found (Finds t true)) → EachBefore portals found (λ p. p.node ≡ node → Finds t false p) →
    IfSome after (λ s. IsStop s.1) → IsLooked t portals nodes found (looked + 1) after
look_more t portals nodes first looked stopped node found after here so_far le there none why = record {
  most = omega (arith, le, so_far.most);
  found = λ low. elim (cases_lt found first) [
    | inl less ↦ there less
    | inr up ↦
        let same : first ≡ found = omega (arith, le, up) in
        subst (λ (i : ℕ). IsThere portals i (Finds t true)) same (so_far.found (omega (arith, low, same)))
  ];
  before = λ j low k p below is own. elim (cases_lt j looked) [
    | inl less ↦ so_far.before j less k p (omega (arith, below, le)) is own
    | inr up ↦ none k p below is (one (sym own ∙ (ap (slice_get nodes) (omega (arith, low, up)) ∙ here)))
  ];
  why = why;
}
  where
    one : {m n : ℕ} → Some m ≡ Some n → m ≡ n
    one h = cc

-- why a node is stopped, if one more may be
pub stopped_more : (node : ℕ) (before after : Option (ℕ × Refusal)) (stop : Option Refusal) → IfSome stop IsStop → IfSome before (λ s. IsStop s.1) →
    IfSome before (λ s. after ≡ Some s) → (before ≡ None → stop ≡ None → after ≡ None) → (before ≡ None → IfSome stop (λ why. after ≡ Some (node, why))) →
    IfSome after (λ s. IsStop s.1)
stopped_more node (Some s) after stop known good is none now = subst (λ (o : Option (ℕ × Refusal)). IfSome o (λ s. IsStop s.1)) (sym is) good
stopped_more node None after None known good is none now = subst (λ (o : Option (ℕ × Refusal)). IfSome o (λ s. IsStop s.1)) (sym (none refl refl)) tt
stopped_more node None after (Some why) known good is none now = subst (λ (o : Option (ℕ × Refusal)). IfSome o (λ s. IsStop s.1)) (sym (now refl)) known

-- the place of one whose node is stopped, where the nodes' stops are known
pub stopped_there : (portals : List PortalValue) (stopped : Option (ℕ × Refusal)) (there : Option (ℕ × Refusal)) → IfSome stopped (λ s. IsStop s.1) →
    IfSome there (λ s. IfSome stopped (λ known. IsThere portals s.0 (λ p. p.node ≡ known.0))) → IfSome there (λ s. IfSome stopped (λ known. s.1 ≡ known.1)) →
    (stopped ≡ None → there ≡ None) → IfSome there (λ s. (s.0 < length portals) × IsStop s.1)
stopped_there portals stopped None known place why none = tt
stopped_there portals (Some known) (Some s) good place why none = (slice_get_within portals s.0 place.0 place.1, subst IsStop (sym why) good)
stopped_there portals None (Some s) known place why none = absurd (never (none refl))
  where
    never : Some s ≡ None → ⊥
    never h = cc

-- what is told where nothing is found
pub told_none : (portals : List PortalValue) (stopped : Option (ℕ × Refusal)) (place : Option ℕ) (why : Missed) →
    IfSome stopped (λ s. (s.0 < length portals) × IsStop s.1) → (stopped ≡ None → (place ≡ None) × (why ≡ Refused Empty)) →
    IfSome stopped (λ s. (place ≡ Some s.0) × (why ≡ Stopped s.1)) → IsWhyNone portals place why
told_none portals None place why known none told = let n = none refl in subst (λ (o : Option ℕ). IsWhyNone portals o why) (sym n.0) n.1
told_none portals (Some s) place why known none told =
    subst (λ (o : Option ℕ). IsWhyNone portals o why) (sym told.0) (known.0, (s.1, told.1, known.1))

-- all nodes were looked at, or there is no portal before the first
pub looked_at_all : (t : TableName) (portals : List PortalValue) (nodes : List ℕ) (first looked : ℕ) (stopped : Option (ℕ × Refusal)) →
    IsLooked t portals nodes first looked stopped → ((k : ℕ) (p : PortalValue) → slice_get portals k ≡ Some p → (j : ℕ) × (slice_get nodes j ≡ Some p.node)) →
    (0 < first → length nodes ≤ looked) → EachBefore portals first (Finds t false)
looked_at_all t portals nodes first looked stopped l all past k p below is =
    let n = all k p is in
    let within = slice_get_within nodes n.0 p.node n.1 in
    l.before n.0 (omega (arith, within, past (omega (arith, below)))) k p below is n.1
