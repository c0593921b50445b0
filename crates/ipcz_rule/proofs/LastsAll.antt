-- All kinds of step that a turn takes, on a table whose link words come back, by the laws of worlds and the rule's own kinds.
use Rattle.std.specs.Prelude.{◌≡◌, ℕ, Bool, false, not, List, [], refl}
use Rattle.ipcz_world.proofs.Whole.{each_step_keeps_lawful, messages_in_hand_fit, lawful_worlds_stray_nothing}
use Rattle.ipcz_world.proofs.lawful.GivingUp.{let_go_are_given_up, claimed_are_held}
use Rattle.ipcz_world.proofs.lawful.LastingTurns.{turns_held_were_held, turns_keep_held}
use Rattle.ipcz_world.proofs.lawful.StayingHeld.{held_until_let_go}
use Rattle.ipcz_world.proofs.lawful.LettingGo.{lost_are_not_held, let_go_are_not_held, accepted_are_held}
use Rattle.ipcz_world.proofs.runs.PassingOver.{passing_keeps_lawful}
use Rattle.ipcz_rule.specs.Rule.{saw}
use Rattle.ipcz_rule.specs.Lasting.{EndLaws, Behind}
use Rattle.ipcz_rule.specs.LastingKinds.{TurnsLast}
use Rattle.ipcz_rule.specs.Batches.{BatchTurns}
use Rattle.ipcz_rule.specs.Kinds.{Loads, Claims, Touches}
use Rattle.ipcz_rule.proofs.RuleLaws.{links_are_words}
use Rattle.ipcz_rule.proofs.BatchesAll.{plain_turns}
use Rattle.ipcz_rule.proofs.BatchMailKinds.{probes_turns, unprobes_turns, posts_turns, looks_turns, looks_at_what_is_left_turns, hands_turns, hands_with_more_left_turns, clears_turns, gives_back_turns}
use Rattle.ipcz_rule.proofs.Lasts.{slot_kinds, other_kinds, letting_go, leaving, reusing, behind}
use Rattle.ipcz_rule.proofs.LastsClaims.{claims_last}

pub ends : EndLaws
ends = record {
  kept = turns_held_were_held each_step_keeps_lawful;
  stay = turns_keep_held each_step_keeps_lawful (held_until_let_go messages_in_hand_fit);
  lost = lost_are_not_held;
  let_go = let_go_are_not_held;
  given_up = let_go_are_given_up;
  claimed = claimed_are_held;
  accepted = accepted_are_held;
  words = links_are_words;
}

-- the kinds of the table of batches that are used here
pub batch_loads : (alone : Bool) → Loads (BatchTurns alone)
batch_loads alone = (plain_turns alone).0

batch_touches : (alone : Bool) → Touches (BatchTurns alone)
batch_touches alone = (plain_turns alone).2

batch_claims : (alone : Bool) → Claims (BatchTurns alone)
batch_claims alone = (plain_turns alone).10

loads_last : (k : ℕ) (reuses : Bool) (dirty free looked : List ℕ) → Loads (Behind k reuses dirty free looked)
loads_last k reuses dirty free looked count limit slots id i m p is =
    behind ends k reuses dirty free looked count limit slots id m i (λ n. n) (λ n. []) (λ n m'. m' ≡ (saw i n m.0, m.1)) (λ again t r t' r' at n g j s h. h) (λ e n. refl)
    (batch_loads (not reuses) count limit slots id i m p is)

pub turns_last : TurnsLast
turns_last = (
  (λ k reuses dirty free looked.
      let a = slot_kinds ends k reuses dirty free looked in
      let b = other_kinds ends k reuses dirty free looked in
      let kinds = plain_turns (not reuses) in (
        a.0 kinds.4,
        a.1 kinds.5,
        a.2 kinds.6,
        a.3 kinds.7,
        a.4 kinds.8,
        a.5 kinds.13,
        loads_last k reuses dirty free looked,
        b.0 kinds.3,
        b.1 kinds.9,
        b.2 (probes_turns (not reuses)),
        b.3 (unprobes_turns (not reuses)),
        b.4 kinds.11,
        b.5 kinds.12,
        b.6 (clears_turns (not reuses)),
        b.7 (posts_turns (not reuses)),
        b.8 (looks_turns (not reuses)),
        b.9 (hands_turns (not reuses)),
        b.10 (gives_back_turns (not reuses)),
        b.11 (looks_at_what_is_left_turns (not reuses)),
        b.12 (hands_with_more_left_turns (not reuses)),
      )),
  letting_go ends (λ reuses. batch_touches (not reuses)),
  leaving ends (batch_touches false),
  reusing,
  (claims_last ends passing_keeps_lawful lawful_worlds_stray_nothing batch_loads batch_claims).0,
  (claims_last ends passing_keeps_lawful lawful_worlds_stray_nothing batch_loads batch_claims).1,
)
