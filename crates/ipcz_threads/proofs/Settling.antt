-- Rounds, one after the other.
use Rattle.std.proofs.Common.{◌≡◌, ◌<◌, ℕ, zero, suc, Bool, true, false, List, length, subst, true≢false}
use Rattle.ipcz_cell.specs.TableNames.{TableName}
use Rattle.ipcz_threads.specs.Workers.{WorkerState}
use Rattle.ipcz_threads.specs.Rounds.{AreAsked, Gates, IsRound, is_some_starved, left_after}
use Rattle.ipcz_threads.specs.Stages.{Settles, TakesRounds}

-- whatever rounds complete those that were taken complete all of them
abbrev pub GoesOn : Gates → TableName → ℕ → ℕ → List WorkerState → List WorkerState → Type 0
GoesOn gates t limit left ws us =
    (rounds : ℕ) (quiet : Bool) (vs : List WorkerState) → TakesRounds gates t rounds left us quiet vs → Settles gates t limit ws quiet vs

-- after the last round
pub settles-end : (gates : Gates) (t : TableName) (limit left : ℕ) (ws us vs : List WorkerState) (quiet : Bool) → GoesOn gates t limit left ws us →
    AreAsked t (length us) 0 us quiet vs → (quiet ≡ false → left ≡ 0) → Settles gates t limit ws quiet vs
settles-end gates t limit left ws us vs quiet on asked ended = on zero quiet vs (asked, ended)

-- all nodes are quiet
pub settles-quiet : (gates : Gates) (t : TableName) (limit left : ℕ) (ws us vs : List WorkerState) (quiet : Bool) → GoesOn gates t limit left ws us →
    AreAsked t (length us) 0 us quiet vs → quiet ≡ true → Settles gates t limit ws true vs
settles-quiet gates t limit left ws us vs quiet on asked is =
    settles-end gates t limit left ws us vs true on (subst (λ b. AreAsked t (length us) 0 us b vs) is asked) (λ never. absurd (true≢false never))

-- a round more
pub settles-round : (gates : Gates) (t : TableName) (limit left next : ℕ) (ws us xs ys : List WorkerState) (now : Bool) → GoesOn gates t limit left ws us →
    0 < left → AreAsked t (length us) 0 us now xs → now ≡ false → IsRound gates t left xs ys → is_some_starved ys ≡ false → next ≡ left_after left ys →
    GoesOn gates t limit next ws ys
settles-round gates t limit left next ws us xs ys now on some asked busy round fed after rounds quiet vs rest =
    on (suc rounds) quiet vs (
      xs,
      ys,
      some,
      subst (λ b. AreAsked t (length us) 0 us b xs) busy asked,
      round,
      fed,
      subst (λ n. TakesRounds gates t rounds n ys quiet vs) after rest,
    )
