-- A router that may claim again, as a step on the own touch word.
use Rattle.std.specs.Prelude.{◌≡◌, ℕ, true, Option, Some, None, is_some, [], ◌∷◌, refl, Bool}
use Rattle.std.proofs.Common.{ap, ◌∙◌, sym, subst, inl}
use Rattle.ipcz_router.specs.Router.{Router}
use Rattle.ipcz_router.specs.ActEffects.{rewet}
use Rattle.ipcz_node.specs.Node.{Node, router_in, with_router, on_router}
use Rattle.ipcz_node.specs.Finding.{rewet_node}
use Rattle.ipcz_world.specs.World.{World, node_at, router_at, set_node}
use Rattle.ipcz_world.specs.HeldEnds.{wet_act}
use Rattle.ipcz_world.specs.Lawful.{Lawful}
use Rattle.ipcz_world.proofs.facts.Tests.{some_is}
use Rattle.ipcz_world.proofs.frames.Frames.{word-set_node, claimed-set_node}
use Rattle.ipcz_world.proofs.runs.Drying.{wet_keeps_lawful}
use Rattle.ipcz_world.proofs.lawful.LastingEnds.{deeds_keep_ends}
use Rattle.ipcz_rule.specs.Rule.{with_part}
use Rattle.ipcz_rule.specs.Steps.{wet_part}
use Rattle.ipcz_rule.specs.Deeds.{Beside}
use Rattle.ipcz_rule.specs.Deeds as asides
use Rattle.ipcz_rule.specs.Kinds.{IsDeeds, KeepsEnds, Wets}
use Rattle.ipcz_rule.proofs.Joins.{joined_same}
use Rattle.ipcz_rule.proofs.Touching.{Kept, any_kept, touches, set_moves}

-- the world after it
pub wet_is : (w : World) (n serial : ℕ) (rt : Router) → router_in (node_at w n) serial ≡ Some rt →
    set_node w n (rewet_node (node_at w n) serial) ≡ wet_act w (record { node = n; serial = serial }) rt
unfolding on_router
wet_is w n serial rt here = rw here refl

-- what is in hand stays
pub wet_hand : (x : Node) (serial : ℕ) → (rewet_node x serial).hand ≡ x.hand
unfolding on_router
wet_hand x serial = go (router_in x serial)
  where
    go : (o : Option Router) → (on_router x o (λ r. with_router x serial (rewet r))).hand ≡ x.hand
    go None = refl
    go (Some r) = refl

pub wets_deeds : Wets IsDeeds
unfolding router_at
wets_deeds count size slots id i m p serial is has =
    let some = some_is (router_in p.state serial) has in
    let rt = some.0 in
    let p' = wet_part serial p in
    let v' = with_part p' m.0 in
    touches count size slots id i m p p' v' (Beside (asides.Wets p.node serial) ∷ []) is refl (refl, refl, refl) (record { node = refl; hand = wet_hand p.state serial; message = refl; probed = refl; history = refl })
    (λ s r seat inside state.
    let w = r.world in
    let n : ℕ = p.node in
    let here : router_in (node_at w n) serial ≡ Some rt = ap (λ (y : Node). router_in y serial) state ∙ some.1 in
    let there : set_node w n p'.state ≡ wet_act w (record { node = n; serial = serial }) rt =
    ap (λ (y : Node). set_node w n (rewet_node y serial)) (sym state) ∙ wet_is w n serial rt here in
    record {
      world = set_node w n p'.state;
      books = r.books;
      routes = r.routes;
      moves = set_moves w n p'.state;
      words = word-set_node w n p'.state;
      claimed = claimed-set_node w n p'.state;
      joined = joined_same s.views id m.0 v' p p' r.books seat is refl refl refl refl r.joined;
      lawful = subst (λ (u : World). Lawful u r.books r.routes) (sym there) (wet_keeps_lawful w r.books r.routes (record { node = n; serial = serial }) rt r.lawful here);
      known = (
        (
          (inside, ap (λ (y : Node). is_some (router_in y serial)) state ∙ has),
          (ap (λ (y : Node). set_node w n (rewet_node y serial)) (sym state), refl, refl),
        ),
        subst (λ (u : World). KeepsEnds true w u) (sym there) (
          (λ k side held. inl ((deeds_keep_ends.wets w (record { node = n; serial = serial }) rt k side here).were held)),
          (λ e k side held. (deeds_keep_ends.wets w (record { node = n; serial = serial }) rt k side here).are held),
        ),
      );
    })

pub wets : (all : Bool) → Wets (Kept all)
wets all count size slots id i m p serial is has =
    any_kept all count size slots id m i (λ n. n) (λ n. Beside (asides.Wets p.node serial) ∷ []) (λ n m'. m' ≡ (with_part (wet_part serial p) m.0, m.1))
    (wets_deeds count size slots id i m p serial is has)
