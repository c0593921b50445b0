-- The kinds of step on mailboxes, on a table of batches: which turns each is, and which ends it keeps.
use Rattle.std.specs.Prelude.{ℕ, Bool, List, [], ◌∷◌}
use Rattle.std.proofs.Common.{⊎_elim}
use Rattle.ipcz_base.specs.declared.side.Side.{Side}
use Rattle.ipcz_node.specs.declared.act.Act.{Act}
use Rattle.ipcz_node.specs.declared.act.Act.TheVariants as acts
use Rattle.ipcz_world.specs.World.{World}
use Rattle.ipcz_world.specs.Books.{Books}
use Rattle.ipcz_world.specs.Routes.{Routes}
use Rattle.ipcz_world.specs.Lawful.{Lawful}
use Rattle.ipcz_world.specs.Ranks.{AreTurns}
use Rattle.ipcz_world.specs.HeldEnds.{OneLetsGo}
use Rattle.ipcz_world.proofs.Whole.{each_step_keeps_lawful, messages_in_hand_fit}
use Rattle.ipcz_world.proofs.lawful.LastingTurns.{turns_held_were_held, turns_keep_held}
use Rattle.ipcz_world.proofs.lawful.StayingHeld.{held_until_let_go}
use Rattle.ipcz_rule.specs.Kinds.{KeepsEnds}
use Rattle.ipcz_rule.specs.Batches.{BatchTurns, BatchKept}
use Rattle.ipcz_rule.specs.BatchKinds.{BatchProbes, BatchUnprobes, BatchPosts, BatchLooks, LooksOn, BatchHands, HandsOn, BatchClears, BatchGivesBack}
use Rattle.ipcz_rule.proofs.BatchSteps.{by_turns, by_kept}
use Rattle.ipcz_rule.proofs.BatchProbing.{batch_probes, batch_unprobes}
use Rattle.ipcz_rule.proofs.BatchPosting.{batch_posts}
use Rattle.ipcz_rule.proofs.BatchLooking.{batch_looks}
use Rattle.ipcz_rule.proofs.BatchHanding.{batch_hands}
use Rattle.ipcz_rule.proofs.BatchGoingOn.{batch_looks_on, batch_hands_on}
use Rattle.ipcz_rule.proofs.BatchClearing.{batch_clears}
use Rattle.ipcz_rule.proofs.BatchHomes.{batch_gives_back}
use Rattle.ipcz_rule.proofs.KeptEnds.{two_keep}
use Rattle.ipcz_rule.proofs.Probing as probing
use Rattle.ipcz_rule.proofs.Returning as returning
use Rattle.ipcz_rule.proofs.Posting as posting
use Rattle.ipcz_rule.proofs.Handling as handling
use Rattle.ipcz_rule.proofs.Clearing as clearing
use Rattle.ipcz_rule.proofs.WordKinds as words

pub probes_turns : (alone : Bool) → BatchProbes (BatchTurns alone)
probes_turns alone = batch_probes by_turns alone probing.probes_turns words.loads_turns

pub unprobes_turns : (alone : Bool) → BatchUnprobes (BatchTurns alone)
unprobes_turns alone = batch_unprobes by_turns alone returning.unprobes_turns

pub posts_turns : (alone : Bool) → BatchPosts alone (BatchTurns alone)
posts_turns alone = batch_posts by_turns alone posting.posts_turns

pub looks_turns : (alone : Bool) → BatchLooks alone (BatchTurns alone)
looks_turns alone = batch_looks by_turns alone posting.looks_turns words.loads_turns

pub looks_at_what_is_left_turns : (alone : Bool) → LooksOn (BatchTurns alone)
looks_at_what_is_left_turns alone = batch_looks_on by_turns alone posting.looks_turns

pub hands_turns : (alone : Bool) → BatchHands (BatchTurns alone)
hands_turns alone = batch_hands by_turns alone handling.hands_turns

pub hands_with_more_left_turns : (alone : Bool) → HandsOn (BatchTurns alone)
hands_with_more_left_turns alone = batch_hands_on alone handling.hands_turns

pub clears_turns : (alone : Bool) → BatchClears (BatchTurns alone)
clears_turns alone = batch_clears by_turns alone clearing.clears_turns

pub gives_back_turns : (alone : Bool) → BatchGivesBack (BatchTurns alone)
gives_back_turns alone = batch_gives_back by_turns alone words.loads_turns

pub probes : (alone all : Bool) → BatchProbes (BatchKept alone all)
probes alone all = batch_probes (by_kept all) alone (probing.probes all) (words.loads all)

pub unprobes : (alone all : Bool) → BatchUnprobes (BatchKept alone all)
unprobes alone all = batch_unprobes (by_kept all) alone (returning.unprobes all)

pub posts : (alone all : Bool) → BatchPosts alone (BatchKept alone all)
posts alone all = batch_posts (by_kept all) alone (posting.posts all)

pub looks : (alone all : Bool) → BatchLooks alone (BatchKept alone all)
looks alone all = batch_looks (by_kept all) alone (posting.looks all) (words.loads all)

pub looks_at_what_is_left : (alone all : Bool) → LooksOn (BatchKept alone all)
looks_at_what_is_left alone all = batch_looks_on (by_kept all) alone (posting.looks all)

pub hands : (alone all : Bool) → BatchHands (BatchKept alone all)
hands alone all = batch_hands (by_kept all) alone (handling.hands all)

-- turns of which none lets an end go keep all ends
ends_kept : (all : Bool) (w v : World) (b d : Books) (g h : Routes) (turns : List (ℕ × Act)) → Lawful w b g → ((i : ℕ) (side : Side) → OneLetsGo w turns i side → ⊥) → AreTurns w b g turns v d h → KeepsEnds all w v
ends_kept all w v b d g h turns law none done = (
  (λ i side held. turns_held_were_held each_step_keeps_lawful w v b d g h turns i side law done held),
  (λ e i side held. ⊎_elim (λ x. x) (λ gone. absurd (none i side gone)) (turns_keep_held each_step_keeps_lawful (held_until_let_go messages_in_hand_fit) w v b d g h turns i side law done held)),
)

pub hands_with_more_left : (alone all : Bool) → HandsOn (BatchKept alone all)
hands_with_more_left alone all count size slots id i from m p x y ys is batch holds has serials s b deep at small =
    let t = hands_with_more_left_turns alone count size slots id i from m p x y ys is batch holds has serials s b deep at small in
    let r = b.rules in
    let v = t.3.0.rules in (
      t.0,
      t.1,
      t.2,
      (t.3.0, ends_kept all r.world v.world r.books v.books r.routes v.routes ((p.node, acts.Hand from) ∷ (from, acts.Post p.node) ∷ []) r.lawful (two_keep r.world p.node from (acts.Hand from) (acts.Post p.node) tt tt) t.3.1),
      t.4,
    )

pub clears : (alone all : Bool) → BatchClears (BatchKept alone all)
clears alone all = batch_clears (by_kept all) alone (clearing.clears all)

pub gives_back : (alone all : Bool) → BatchGivesBack (BatchKept alone all)
gives_back alone all = batch_gives_back (by_kept all) alone (words.loads all)
