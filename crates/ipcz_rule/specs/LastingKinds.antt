-- All kinds of step that a turn takes, on a table whose link words come back.
use Rattle.std.specs.Prelude.{ℕ, Bool, not, List}
use Rattle.ipcz_rule.specs.Kinds.{Loads, Marks, Wakes, Unlocks, TriesLock, LoadsForLock, LoadsForClaim, LoadsForHand, Announces, LoadsForPost}
use Rattle.ipcz_rule.specs.BatchKinds.{BatchProbes, BatchUnprobes, BatchPosts, BatchLooks, LooksOn, BatchHands, HandsOn, BatchClears, BatchGivesBack}
use Rattle.ipcz_rule.specs.Lasting.{OnSlot, Behind, TouchActsLast, LetsGoOnSlots, LeavesOnSlots, ReusingLasts}
use Rattle.ipcz_rule.specs.LastingClaims.{ClaimsOnSlots, ClaimsInTheirOrder}

-- the kinds of a table of batches, word for word, with the slot of a number in place of its link word
abbrev pub KindsOnSlots : Type 0
KindsOnSlots = (k : ℕ) (reuses : Bool) (dirty free looked : List ℕ) →
    Marks (OnSlot k reuses dirty free looked) × Wakes (OnSlot k reuses dirty free looked) × Unlocks (OnSlot k reuses dirty free looked) × TriesLock (OnSlot k reuses dirty free looked) ×
    LoadsForLock (OnSlot k reuses dirty free looked) × LoadsForHand (OnSlot k reuses dirty free looked) ×
    Loads (Behind k reuses dirty free looked) × TouchActsLast k reuses dirty free looked × LoadsForClaim (Behind k reuses dirty free looked) ×
    BatchProbes (Behind k reuses dirty free looked) × BatchUnprobes (Behind k reuses dirty free looked) × Announces (Behind k reuses dirty free looked) ×
    LoadsForPost (Behind k reuses dirty free looked) × BatchClears (Behind k reuses dirty free looked) ×
    BatchPosts (not reuses) (Behind k reuses dirty free looked) × BatchLooks (not reuses) (Behind k reuses dirty free looked) × BatchHands (Behind k reuses dirty free looked) ×
    BatchGivesBack (Behind k reuses dirty free looked) × LooksOn (Behind k reuses dirty free looked) × HandsOn (Behind k reuses dirty free looked)

-- and with them the acts that let ends go, slots that come back, and claims
abbrev pub TurnsLast : Type 0
TurnsLast = KindsOnSlots × LetsGoOnSlots × LeavesOnSlots × ReusingLasts × ClaimsOnSlots × ClaimsInTheirOrder
