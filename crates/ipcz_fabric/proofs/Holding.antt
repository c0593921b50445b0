-- The walk over the ends that callers of a node hold, and the portals of all cells.
use Rattle.std.proofs.Common.{◌≡◌, ◌⊎◌, ◌≤◌, ◌+◌, ◌-◌, ◌^◌, ℕ, false, List, [], ◌∷◌, ◌++◌, Some, None, Result, Ok, Err, OnOk, is_err, length, take, drop, get_or, refl, sym, subst, ap, ◌∙◌, arith}
use Rattle.std.proofs.lemmas.List.{append_assoc, append-nil, map-append, take_all}
use Rattle.ipcz_base.specs.declared.end.End.{End}
use Rattle.ipcz_node.specs.Node.{Node}
use Rattle.ipcz_node.specs.Finding.{IsNextHeld}
use Rattle.ipcz_cell.specs.CellStates.{CellState}
use Rattle.ipcz_fabric.specs.Portals.{PortalValue, portal_at, portals_at}
use Rattle.ipcz_fabric.specs.Hubs.{AreHeldFrom, AddsHeld, AddsFirst, AreFirstPortals}

module _ (n : Node) (node : ℕ) (before : List PortalValue) where
  -- the ends so far have their portals, and with those from a serial on they are all
  pub record IsWalked (from : ℕ) (now : List PortalValue) : Type 0 where
    pub ends : List End
    pub portals : now ≡ before ++ portals_at node ends
    pub all : (rest : List End) → AreHeldFrom n from rest → AreHeldFrom n 0 (ends ++ rest)

  pub walk_more : (from serial : ℕ) (end : End) (now after : List PortalValue) → IsWalked from now → IsNextHeld n from (Some (serial, end)) →
      after ≡ now ++ portal_at node end ∷ [] → IsWalked (serial + 1) after
  walk_more from serial end now after w next more = record {
    ends = w.ends ++ end ∷ [];
    portals = more ∙ (ap (λ (l : List PortalValue). l ++ portal_at node end ∷ []) w.portals ∙ (append_assoc before (portals_at node w.ends) (portal_at node end ∷ [])
        ∙ ap (λ (l : List PortalValue). before ++ l) (sym (map-append (portal_at node) w.ends (end ∷ [])))));
    all = λ rest h. subst (AreHeldFrom n 0) (sym (append_assoc w.ends (end ∷ []) rest)) (w.all (end ∷ rest) (serial, next, h));
  }

  pub walk_end : (from : ℕ) (now : List PortalValue) → IsWalked from now → (2 ^ 64 ≤ from) ⊎ IsNextHeld n from None → AddsHeld n node before now
  walk_end from now w none = (w.ends, subst (AreHeldFrom n 0) (append-nil w.ends) (w.all [] none), w.portals)

-- the portals of one cell more
pub first_more : (c : CellState) (cells : List CellState) (before now after : List PortalValue) → AddsHeld c.part.state c.part.node before now → AddsFirst cells now after →
    AddsFirst (c ∷ cells) before after
first_more c cells before now after held first = (
  portals_at c.part.node held.0 ++ first.0,
  (held.0, first.0, held.1, first.1, refl),
  first.2 ∙ (ap (λ (l : List PortalValue). l ++ first.0) held.2 ∙ append_assoc before (portals_at c.part.node held.0) first.0),
)

-- the walk over a slice: the portals of its first cell, and those of the others
pub first_walked : {X E : Type 0} (r : Result X E) (cells : List CellState) (c : CellState) (before now after : List PortalValue) → 1 ≤ length cells → c ≡ get_or cells 0 c →
    AddsHeld c.part.state c.part.node before now → OnOk r (AddsFirst (take (length cells - 1) (drop 1 cells)) now after) → OnOk r (AddsFirst cells before after)
first_walked (Err e) cells c before now after some is held first = tt
first_walked (Ok x) [] c before now after some is held first = absurd (omega (arith, some))
first_walked (Ok x) (d ∷ cells) c before now after some is held first =
    subst (λ (y : CellState). AddsFirst (y ∷ cells) before after) is
    (first_more c cells before now after held (subst (λ (l : List CellState). AddsFirst l now after) (take_all (length (d ∷ cells) - 1) cells (omega arith)) first))

-- all portals, where there were none before
pub first_portals : {X E : Type 0} (r : Result X E) (cells : List CellState) (before after : List PortalValue) → is_err r ≡ false → OnOk r (AddsFirst cells before after) → before ≡ [] →
    AreFirstPortals cells after
first_portals (Err e) cells before after ok first none = absurd (cc)
first_portals (Ok x) cells before after ok first none = subst (AreFirstPortals cells) (sym (first.2 ∙ ap (λ (l : List PortalValue). l ++ first.0) none)) first.1
