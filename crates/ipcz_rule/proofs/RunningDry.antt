-- A claim of a proxy that is told that no word is left, at any time, as a step on the own touch word.
use Rattle.std.specs.Prelude.{◌≡◌, ℕ, true, Some, [], ◌∷◌, refl, Bool}
use Rattle.std.proofs.Common.{ap, ◌∙◌, sym, subst, inl}
use Rattle.ipcz_router.specs.Router.{Router}
use Rattle.ipcz_router.specs.ActTable.{may_take}
use Rattle.ipcz_router.specs.ActEffects.{apply, leaves_by, output_of}
use Rattle.ipcz_router.specs.declared.act.RouterAct.TheVariants as router_acts
use Rattle.ipcz_router.specs.declared.act.Answer.TheVariants as answers
use Rattle.ipcz_node.specs.declared.act.Act.TheVariants.{Router as OfRouter}
use Rattle.ipcz_node.specs.Node.{Node, router_in, on_router}
use Rattle.ipcz_node.specs.Acts.{commit, commit_router, keep_or_drop}
use Rattle.ipcz_node.specs.Sends.{send}
use Rattle.ipcz_world.specs.World.{World, node_at, router_at, set_node}
use Rattle.ipcz_world.specs.Turns.{router_of, can_take, may_act}
use Rattle.ipcz_world.specs.HeldEnds.{dry_act}
use Rattle.ipcz_world.specs.Lawful.{Lawful}
use Rattle.ipcz_world.proofs.frames.Frames.{word-set_node, claimed-set_node}
use Rattle.ipcz_world.proofs.runs.Drying.{dry_keeps_lawful}
use Rattle.ipcz_world.proofs.lawful.LastingEnds.{deeds_keep_ends}
use Rattle.ipcz_rule.specs.Rule.{with_part}
use Rattle.ipcz_rule.specs.Steps.{act_part}
use Rattle.ipcz_rule.specs.Deeds.{Beside}
use Rattle.ipcz_rule.specs.Deeds as asides
use Rattle.ipcz_rule.specs.Kinds.{IsDeeds, KeepsEnds, Dries}
use Rattle.ipcz_rule.proofs.Joins.{joined_same}
use Rattle.ipcz_rule.proofs.Touching.{Kept, any_kept, touches, set_moves}
use Rattle.ipcz_rule.proofs.Acting.{plain_part, act_hand}

-- the world after it
pub dry_is : (w : World) (n serial : ℕ) (rt : Router) → router_in (node_at w n) serial ≡ Some rt →
    set_node w n (commit (node_at w n) (OfRouter serial router_acts.Claim) answers.NoWord) ≡ dry_act w (record { node = n; serial = serial }) rt
unfolding commit on_router commit_router keep_or_drop leaves_by apply output_of send
dry_is w n serial rt here = rw here refl

dry_can : (w : World) (n serial : ℕ) (rt : Router) → router_of w n serial ≡ Some rt → may_take rt router_acts.Claim ≡ true → can_take w n (OfRouter serial router_acts.Claim) ≡ true
unfolding can_take may_act
dry_can w n serial rt here may = rw here may

pub dries_deeds : Dries IsDeeds
unfolding router_at
dries_deeds count size slots id i m p serial rt is can =
    let p' = plain_part serial router_acts.Claim answers.NoWord p in
    let v' = with_part p' m.0 in
    touches count size slots id i m p p' v' (Beside (asides.Dries p.node serial) ∷ []) is refl (refl, refl, refl) (record { node = refl; hand = act_hand p.state serial router_acts.Claim answers.NoWord; message = refl; probed = refl; history = refl })
    (λ s r seat inside state.
    let w = r.world in
    let n : ℕ = p.node in
    let here : router_in (node_at w n) serial ≡ Some rt = ap (λ (y : Node). router_in y serial) state ∙ can.there in
    let there : set_node w n p'.state ≡ dry_act w (record { node = n; serial = serial }) rt =
    ap (λ (y : Node). set_node w n (commit y (OfRouter serial router_acts.Claim) answers.NoWord)) (sym state) ∙ dry_is w n serial rt here in
    record {
      world = set_node w n p'.state;
      books = r.books;
      routes = r.routes;
      moves = set_moves w n p'.state;
      words = word-set_node w n p'.state;
      claimed = claimed-set_node w n p'.state;
      joined = joined_same s.views id m.0 v' p p' r.books seat is refl refl refl refl r.joined;
      lawful = subst (λ (u : World). Lawful u r.books r.routes) (sym there) (dry_keeps_lawful w r.books r.routes n serial rt r.lawful inside here (dry_can w n serial rt here can.may));
      known = (
        (
          (inside, dry_can w n serial rt here can.may),
          (ap (λ (y : Node). set_node w n (commit y (OfRouter serial router_acts.Claim) answers.NoWord)) (sym state), refl, refl),
        ),
        subst (λ (u : World). KeepsEnds true w u) (sym there) (
          (λ k side held. inl ((deeds_keep_ends.dries w (record { node = n; serial = serial }) rt k side here).were held)),
          (λ e k side held. (deeds_keep_ends.dries w (record { node = n; serial = serial }) rt k side here).are held),
        ),
      );
    })

pub dries : (all : Bool) → Dries (Kept all)
dries all count size slots id i m p serial rt is can =
    any_kept all count size slots id m i (λ n. n) (λ n. Beside (asides.Dries p.node serial) ∷ [])
    (λ n m'. m' ≡ (with_part (act_part (OfRouter serial router_acts.Claim) answers.NoWord p) m.0, m.1)) (dries_deeds count size slots id i m p serial rt is can)
