-- A router that has a link is the one that the link's record knows.
use Rattle.std.specs.Prelude.{◌≡◌, ◌⊎◌, true, Option, Some}
use Rattle.std.proofs.Common.{inl, inr}
use Rattle.std.proofs.lemmas.Bool.{or_cases}
use Rattle.ipcz_world.proofs.Vocabulary.{Side, LinkId, LinkEnd, has_link, Router, router_has, inward_edge, World, Key, router_at, Records}
use Rattle.ipcz_world.proofs.Vocabulary.{is_recorded, side_router, side_end, IsRecorded, Links, outward_has}
use Rattle.ipcz_router.specs.Router.{inward_has}
use Rattle.ipcz_world.proofs.facts.Lengths.{HasEnd, has_link-tells}

-- what a router's having a link tells
pub record HasAt (w : World) (g : Records) (k : Key) (r : Router) (link : LinkId) (s : Side) : Type 0 where
  pub recorded : is_recorded w g link ≡ true
  pub router : side_router g link s ≡ Some k
  pub end : r.end ≡ side_end g link s

of_end : (w : World) (g : Records) (k : Key) (r : Router) (t : Option LinkEnd) (link : LinkId) (s : Side) → has_link t link s ≡ true →
    ((d : LinkEnd) → t ≡ Some d → IsRecorded w g k r d) → HasAt w g k r link s
of_end w g k r t link s h rec =
    let e : HasEnd t link s = has_link-tells t link s h in
    let d : IsRecorded w g k r e.end = rec e.end e.there in
    record {
      recorded = rw (e.on_link) at d.recorded;
      router = rw (e.on_link, e.at_side) at d.router;
      end = rw (e.on_link, e.at_side) at d.end;
    }

pub has_at : (w : World) (g : Records) (k : Key) (r : Router) (link : LinkId) (s : Side) → Links w g → router_at w k ≡ Some r →
    router_has r link s ≡ true → HasAt w g k r link s
has_at w g k r link s law here has = go (or_cases _ _ has)
  where
    outer : (has_link r.outward.primary link s ≡ true) ⊎ (has_link r.outward.decaying link s ≡ true) → HasAt w g k r link s
    outer (inl t) = of_end w g k r r.outward.primary link s t (law k r here).primary
    outer (inr t) = of_end w g k r r.outward.decaying link s t (law k r here).decaying

    inner : (has_link (inward_edge r).primary link s ≡ true) ⊎ (has_link (inward_edge r).decaying link s ≡ true) → HasAt w g k r link s
    inner (inl t) = of_end w g k r (inward_edge r).primary link s t (law k r here).inward_primary
    inner (inr t) = of_end w g k r (inward_edge r).decaying link s t (law k r here).inward_decaying

    go : (outward_has r link s ≡ true) ⊎ (inward_has r link s ≡ true) → HasAt w g k r link s
    go (inl t) = outer (or_cases _ _ t)
    go (inr t) = inner (or_cases _ _ t)
