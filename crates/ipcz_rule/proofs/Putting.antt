-- A put as a step on the own touch word.
use Rattle.std.specs.Prelude.{◌≡◌, ℕ, [], ◌∷◌, ◌++◌, length, Option, Some, None, refl, Bool}
use Rattle.std.proofs.Common.{ap, subst}
use Rattle.ipcz_base.specs.declared.item.Item.TheVariants.{Parcel}
use Rattle.ipcz_node.specs.Node.{Node, Found, on_found, terminal_of}
use Rattle.ipcz_base.specs.declared.parcel.Parcel as parcels
use Rattle.ipcz_node.specs.Calls.{put_node, put_number, put_at_router}
use Rattle.ipcz_world.specs.World.{set_node}
use Rattle.ipcz_world.specs.Books.{add_put}
use Rattle.ipcz_world.specs.Lawful.{Lawful}
use Rattle.ipcz_world.proofs.frames.Frames.{word-set_node, claimed-set_node}
use Rattle.ipcz_rule.specs.Rule.{with_part}
use Rattle.ipcz_rule.specs.Steps.{put_part}
use Rattle.ipcz_world.specs.Steps.{put_of}
use Rattle.ipcz_world.specs.declared.step.Reply.TheVariants as replies
use Rattle.ipcz_rule.specs.Deeds.{Does}
use Rattle.ipcz_rule.specs.Kinds.{Done, IsDeeds, Puts}
use Rattle.ipcz_rule.proofs.Touching.{Kept, any_kept, touches, set_moves, put_lawful, put_done}
use Rattle.ipcz_rule.proofs.Adding.{joined_put}

found_hand : (n : Node) (f : Option Found) (p : parcels.Parcel) → (on_found n f (put_at_router n p)).hand ≡ n.hand
unfolding on_found
found_hand n None p = refl
found_hand n (Some f) p = refl

pub puts_deeds : Puts IsDeeds
puts_deeds profile count size slots id i m p at bytes ends is fine =
    let p' = put_part at bytes ends p in
    let item = Parcel (record { bytes = bytes; ends = ends }) in
    let v' = with_part p' m.0 in
    let step = put_of profile p.node at bytes ends in
    touches count size slots id i m p p' v' (Does step (replies.Put (put_number p.state at)) ∷ []) is refl (refl, refl, refl) (record { node = refl; hand = found_hand p.state (terminal_of p.state at) (record { bytes = bytes; ends = ends }); message = refl; probed = refl; history = refl })
    (λ s r seat inside state.
    let w = r.world in
    let b = r.books in
    let g = r.routes in
    let n : ℕ = p.node in
    let Kept : Node → Type 0 = λ y. Lawful (set_node w n (put_node y at (record { bytes = bytes; ends = ends }))) (add_put b at item) g × (put_number y at ≡ length (b.put at)) in
    let kept : Kept p.state = subst Kept state (put_lawful profile w b g n at bytes ends r.lawful inside (rw state fine)) in
    record {
      world = set_node w n p'.state;
      books = add_put b at item;
      routes = g;
      moves = set_moves w n p'.state;
      words = word-set_node w n p'.state;
      claimed = claimed-set_node w n p'.state;
      joined = joined_put s.views id m.0 v' p p' b at seat is refl r.joined item (ap (λ k. p.put ++ ((at, k), item) ∷ []) kept.1) refl refl;
      lawful = kept.0;
      known = subst (λ (y : Node). Done w b g (Does step (replies.Put (put_number y at)) ∷ []) (set_node w n (put_node y at (record { bytes = bytes; ends = ends }))) (add_put b at item) g) state
          (put_done profile w b g n at bytes ends r.lawful inside (rw state fine));
    })

pub puts : (all : Bool) → Puts (Kept all)
puts all profile count size slots id i m p at bytes ends is fine =
    any_kept all count size slots id m i (λ n. n) (λ n. Does (put_of profile p.node at bytes ends) (replies.Put (put_number p.state at)) ∷ [])
    (λ n m'. m' ≡ (with_part (put_part at bytes ends p) m.0, m.1)) (puts_deeds profile count size slots id i m p at bytes ends is fine)
