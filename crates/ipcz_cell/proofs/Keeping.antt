-- What the calls of a node leave of what it has in hand.
use Rattle.std.specs.Prelude.{◌≡◌, ℕ, Bool, true, false, Option, Some, None, List, [], ◌∷◌}
use Rattle.std.proofs.Common.{◌∙◌, refl}
use Rattle.ipcz_base.specs.declared.end.End.{End}
use Rattle.ipcz_base.specs.declared.parcel.Parcel as parcels
use Rattle.ipcz_router.specs.Router.{Router}
use Rattle.ipcz_router.specs.declared.act.Answer.{Answer}
use Rattle.ipcz_router.specs.declared.act.Applied.{Applied}
use Rattle.ipcz_router.specs.declared.act.Applied.TheVariants as outputs
use Rattle.ipcz_router.specs.declared.act.RouterAct.{RouterAct}
use Rattle.ipcz_router.specs.declared.act.RouterAct.TheVariants as router_acts
use Rattle.ipcz_router.specs.ActEffects.{apply, leaves_by, output_of}
use Rattle.ipcz_node.specs.declared.act.Act.{Act}
use Rattle.ipcz_node.specs.declared.act.Act.TheVariants as acts
use Rattle.ipcz_node.specs.Node.{Node, Found, release_ends, terminal_of, on_found, on_router, router_in}
use Rattle.ipcz_node.specs.Sends.{Transfer, move_end, move_ends, move_found, moved_ends, send, send_item}
use Rattle.ipcz_node.specs.Calls.{put_at_router, got_at, get_at_router, close_at_router}
use Rattle.ipcz_node.specs.Acts.{commit, commit_router, keep_or_drop, rest_of}
use Rattle.ipcz_rule.specs.declared.view.Part.{Part}
use Rattle.ipcz_rule.specs.Rule.{with_state}
use Rattle.ipcz_rule.specs.Steps.{put_part, close_part, act_part, written_part, dropped_part, retired_part}
use Rattle.ipcz_cell.specs.Parts.{got_part, part_got}
use Rattle.ipcz_rule.specs.Steps.{is_touch_act}
use Rattle.ipcz_cell.proofs.Seating.{KeepsHands}

put_hand : (n : Node) (f : Option Found) (q : parcels.Parcel) → (on_found n f (put_at_router n q)).hand ≡ n.hand
unfolding on_found
put_hand n None q = refl
put_hand n (Some f) q = refl

pub put_keeps : (at : End) (bytes : List ℕ) (ends : List End) (p : Part) → KeepsHands p (put_part at bytes ends p)
put_keeps at bytes ends p = record { node = refl; hand = put_hand p.state (terminal_of p.state at) (record { bytes = bytes; ends = ends }); message = refl; probed = refl; batches = refl }

get_hand : (n : Node) (f : Option Found) → (on_found n f (get_at_router n)).hand ≡ n.hand
unfolding on_found
get_hand n None = refl
get_hand n (Some f) = refl

got_keeps : (at : End) (o : Option (ℕ × parcels.Parcel)) (p : Part) → KeepsHands p (part_got at o p)
got_keeps at None p = record { node = refl; hand = refl; message = refl; probed = refl; batches = refl }
got_keeps at (Some g) p = record { node = refl; hand = get_hand p.state (terminal_of p.state at); message = refl; probed = refl; batches = refl }

pub get_keeps : (at : End) (p : Part) → KeepsHands p (got_part at p)
get_keeps at p = got_keeps at (got_at p.state at) p

close_hand : (n : Node) (f : Option Found) → (on_found n f (close_at_router n)).hand ≡ n.hand
unfolding on_found
close_hand n None = refl
close_hand n (Some f) = refl

pub close_keeps : (at : End) (p : Part) → KeepsHands p (close_part at p)
close_keeps at p = record { node = refl; hand = close_hand (release_ends p.state (at ∷ [])) (terminal_of (release_ends p.state (at ∷ [])) at); message = refl; probed = refl; batches = refl }

-- a send leaves the hand
move_found_hand : (m : Transfer) (to : ℕ) (f : Option Found) → (move_found m to f).node.hand ≡ m.node.hand
unfolding move_found
move_found_hand m to None = refl
move_found_hand m to (Some f) = refl

moves_hand : (m : Transfer) (to : ℕ) (ends : List End) → (move_ends m to ends).node.hand ≡ m.node.hand
moves_hand m to [] = refl
moves_hand m to (e ∷ es) = moves_hand (move_end m to e) to es ∙ move_found_hand m to (terminal_of m.node e)

send_hand : (n : Node) (a : Applied) → (send n a).hand ≡ n.hand
unfolding send send_item
send_hand n (outputs.Sent link number item) = moves_hand (record { node = n; moves = [] }) link.other (moved_ends n link item)
send_hand n any = refl

keep_hand : (n : Node) (serial : ℕ) (r : Router) (leaves : Bool) → (keep_or_drop n serial r leaves).hand ≡ n.hand
unfolding keep_or_drop
keep_hand n serial r true = refl
keep_hand n serial r false = refl

router_hand : (n : Node) (serial : ℕ) (act : RouterAct) (answer : Answer) (r : Option Router) → (on_router n r (commit_router n serial act answer)).hand ≡ n.hand
unfolding on_router commit_router
router_hand n serial act answer None = refl
router_hand n serial act answer (Some r) = send_hand (keep_or_drop n serial (apply r act answer) (leaves_by r act)) (output_of r act) ∙ keep_hand n serial (apply r act answer) (leaves_by r act)

same_hands : (p : Part) → KeepsHands p p
same_hands p = record { node = refl; hand = refl; message = refl; probed = refl; batches = refl }

dropped_keeps : (r : Option Router) (p : Part) → KeepsHands p (dropped_part r p)
dropped_keeps None p = same_hands p
dropped_keeps (Some r) p = record { node = refl; hand = refl; message = refl; probed = refl; batches = refl }

retired_keeps : (r : Option Router) (p : Part) → KeepsHands p (retired_part r p)
retired_keeps None p = same_hands p
retired_keeps (Some r) p = record { node = refl; hand = refl; message = refl; probed = refl; batches = refl }

-- what is written into the books leaves the hand
pub written_keeps : (n : Node) (act : Act) (p : Part) → KeepsHands p (written_part n act p)
written_keeps n (acts.Close e) p = record { node = refl; hand = refl; message = refl; probed = refl; batches = refl }
written_keeps n (acts.Router serial router_acts.Discard) p = dropped_keeps (router_in n serial) p
written_keeps n (acts.Router serial router_acts.Retire) p = retired_keeps (router_in n serial) p
written_keeps n other p = same_hands p

-- and the state of the node
pub written_state : (n : Node) (act : Act) (p : Part) → (written_part n act p).state ≡ p.state
written_state n (acts.Router serial router_acts.Discard) p = go (router_in n serial)
  where
    go : (o : Option Router) → (dropped_part o p).state ≡ p.state
    go None = refl
    go (Some r) = refl
written_state n (acts.Router serial router_acts.Retire) p = go (router_in n serial)
  where
    go : (o : Option Router) → (retired_part o p).state ≡ p.state
    go None = refl
    go (Some r) = refl
written_state n other p = refl

pub act_state : (act : Act) (answer : Answer) (p : Part) → (act_part act answer p).state ≡ commit p.state act answer
act_state act answer p = written_state p.state act (with_state (commit p.state act answer) p)

acted_keeps : (act : Act) (answer : Answer) (p : Part) → (commit p.state act answer).hand ≡ p.state.hand → KeepsHands p (act_part act answer p)
acted_keeps act answer p hand =
    let k = written_keeps p.state act (with_state (commit p.state act answer) p) in
    record { node = k.node; hand = k.hand ∙ hand; message = k.message; probed = k.probed; batches = k.batches }

pub router_act_keeps : (serial : ℕ) (act : RouterAct) (answer : Answer) (p : Part) → KeepsHands p (act_part (acts.Router serial act) answer p)
unfolding commit
router_act_keeps serial act answer p = acted_keeps (acts.Router serial act) answer p (router_hand p.state serial act answer (router_in p.state serial))

close_act_keeps : (end : End) (answer : Answer) (p : Part) → KeepsHands p (act_part (acts.Close end) answer p)
unfolding commit
close_act_keeps end answer p = acted_keeps (acts.Close end) answer p (close_hand (record p.state { pending = rest_of p.state.pending }) (terminal_of (record p.state { pending = rest_of p.state.pending }) end))

pub act_keeps : (act : Act) (answer : Answer) (p : Part) → is_touch_act act ≡ true → KeepsHands p (act_part act answer p)
act_keeps (acts.Router serial act) answer p e = router_act_keeps serial act answer p
act_keeps (acts.Close end) answer p e = close_act_keeps end answer p
act_keeps other answer p e = absurd cc
