-- All kinds of step on a table whose slots carry batches, by the single table's own kinds.
use Rattle.ipcz_rule.specs.BatchKinds.{PlainTurnsKeepBatches, PlainDeedsKeepBatches}
use Rattle.ipcz_rule.proofs.Putting.{puts_deeds}
use Rattle.ipcz_rule.proofs.Calling.{gets_deeds, closes_deeds, pending_closes_turns}
use Rattle.ipcz_rule.proofs.Dropping.{touches_acts_turns}
use Rattle.ipcz_rule.proofs.TouchActs.{touch_acts as touch_acts_turns}
use Rattle.ipcz_rule.proofs.WordKinds.{loads_turns, marks_turns, wakes_turns, unlocks_turns, tries_lock_turns, loads_for_lock_turns, loads_for_hand_turns}
use Rattle.ipcz_rule.proofs.Claiming.{claims_turns, loads_for_claim_turns, claims_for_open_deeds}
use Rattle.ipcz_rule.proofs.Announcing.{announces_turns, loads_for_post_turns}
use Rattle.ipcz_rule.proofs.Opening.{opens_deeds}
use Rattle.ipcz_rule.proofs.RunningDry.{dries_deeds}
use Rattle.ipcz_rule.proofs.Wetting.{wets_deeds}
use Rattle.ipcz_rule.proofs.Writing.{notes_turns}
use Rattle.ipcz_rule.proofs.BatchSteps.{by_turns, by_deeds}
use Rattle.ipcz_rule.proofs.BatchedKinds.{loads, puts, gets, closes, pending_closes, touches, touch_acts, dries, wets, marks, wakes, unlocks, tries_lock, loads_for_lock, loads_for_claim, claims, claims_for_open, opens}
use Rattle.ipcz_rule.proofs.BatchedKinds.{announces, loads_for_post, loads_for_hand, notes}

pub plain_turns : PlainTurnsKeepBatches
plain_turns alone = (
  loads by_turns alone loads_turns,
  pending_closes by_turns alone pending_closes_turns,
  touches by_turns alone touches_acts_turns,
  touch_acts by_turns alone touch_acts_turns,
  marks by_turns alone marks_turns,
  wakes by_turns alone wakes_turns,
  unlocks by_turns alone unlocks_turns,
  tries_lock by_turns alone tries_lock_turns,
  loads_for_lock by_turns alone loads_for_lock_turns,
  loads_for_claim by_turns alone loads_for_claim_turns,
  claims by_turns alone claims_turns,
  announces by_turns alone announces_turns,
  loads_for_post by_turns alone loads_for_post_turns,
  loads_for_hand by_turns alone loads_for_hand_turns,
  notes by_turns alone notes_turns,
)

pub plain_deeds : PlainDeedsKeepBatches
plain_deeds alone = (
  puts by_deeds alone puts_deeds,
  gets by_deeds alone gets_deeds,
  closes by_deeds alone closes_deeds,
  dries by_deeds alone dries_deeds,
  wets by_deeds alone wets_deeds,
  claims_for_open by_deeds alone claims_for_open_deeds,
  opens by_deeds alone opens_deeds,
)
