-- Two places are one only if link and side are.
use Rattle.std.proofs.Common.{◌≡◌, ◌&&◌, Bool, true, false, refl, ap₂, ◌∙◌}
use Rattle.std.specs.Prelude.{nat_eq}
use Rattle.std.specs.Ordering.{is_eq, nat_cmp}
use Rattle.ipcz_base.specs.declared.side.Side.{Side}
use Rattle.ipcz_base.specs.declared.link_id.LinkId.{LinkId}
use Rattle.ipcz_base.specs.declared.link_id.LinkId.TheVariants.{Central, Peripheral}
use Rattle.ipcz_base.specs.Links.{same_link}
use Rattle.ipcz_base.specs.Sides.{same_side}
use Rattle.ipcz_base.specs.Orders.{side_cmp}
use Rattle.ipcz_base.proofs.Orders.{both_tie, number_ties, side_ties}
use Rattle.ipcz_node.specs.LinkPlaces.{place_cmp, link_place}

no_tie : (b : Bool) → (b && false) ≡ false
no_tie true = refl
no_tie false = refl

-- numbers, makers and sides in turn
in_turn : (number maker side : Bool) → (number && (maker && side)) ≡ ((maker && number) && side)
in_turn true true side = refl
in_turn true false side = refl
in_turn false true side = refl
in_turn false false side = refl

pub places_tie : (l : LinkId) (s : Side) (k : LinkId) (t : Side) →
    is_eq (place_cmp (link_place l s) (link_place k t)) ≡ (same_link l k && same_side s t)
unfolding link_place
places_tie (Central i) s (Central j) t = both_tie (nat_cmp i j) (side_cmp s t) ∙ ap₂ (λ a b. a && b) (number_ties i j) (side_ties s t)
places_tie (Central i) s (Peripheral m u) t = both_tie (nat_cmp i u) _ ∙ no_tie (is_eq (nat_cmp i u))
places_tie (Peripheral n v) s (Central j) t = both_tie (nat_cmp v j) _ ∙ no_tie (is_eq (nat_cmp v j))
places_tie (Peripheral n v) s (Peripheral m u) t = both_tie (nat_cmp v u) _ ∙
    ap₂ (λ a b. a && b) (number_ties v u) (both_tie (nat_cmp n m) (side_cmp s t) ∙
    ap₂ (λ a b. a && b) (number_ties n m) (side_ties s t)) ∙ in_turn (nat_eq v u) (nat_eq n m) (same_side s t)
