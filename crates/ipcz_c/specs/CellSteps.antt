-- A put, a get, a close and a count of claimed words by a node's cell: what they answer and leave.
use Rattle.std.specs.Prelude.{◌≡◌, ◌≤◌, ℕ, None, Some, List, Result, MatchResult, unwrap_or}
use Rattle.ipcz_base.specs.declared.end.End.{End}
use Rattle.ipcz_base.specs.declared.parcel.Parcel as parcels
use Rattle.ipcz_base.specs.declared.profile.Profile.{Profile}
use Rattle.ipcz_base.specs.declared.refusal.Refusal.{Refusal}
use Rattle.ipcz_base.specs.declared.refusal.Refusal.TheVariants.{OutOfMemory}
use Rattle.ipcz_node.specs.Calls.{put_refusal, put_number, get_refusal, got_at, close_refusal}
use Rattle.ipcz_rule.specs.Steps.{put_part, close_part}
use Rattle.ipcz_cell.specs.CellStates.{CellState}
use Rattle.ipcz_cell.specs.Claims.{AreReached}
use Rattle.ipcz_cell.specs.Mails.{HasSeen}
use Rattle.ipcz_cell.specs.Parts.{got_part}

-- a put, which loads nothing
pub record PutsAt (profile : Profile) (at : End) (bytes : List ℕ) (ends : List End) (old : CellState) (answer : Result ℕ Refusal) (new : CellState) : Type 0 where
  pub seen : new.seen ≡ old.seen
  pub outcome : MatchResult answer
      (λ number. (put_refusal profile old.part.state at bytes ends ≡ None) × (number ≡ put_number old.part.state at)
      × (new.part ≡ put_part at bytes ends old.part))
      (λ why. (why ≡ unwrap_or (put_refusal profile old.part.state at bytes ends) OutOfMemory) × (new.part ≡ old.part))

-- a get, which loads nothing and takes no memory
pub record GetsAt (at : End) (old : CellState) (answer : Result (ℕ × parcels.Parcel) Refusal) (new : CellState) : Type 0 where
  pub seen : new.seen ≡ old.seen
  pub outcome : MatchResult answer
      (λ got. (get_refusal old.part.state at ≡ None) × (got_at old.part.state at ≡ Some got) × (new.part ≡ got_part at old.part))
      (λ why. (get_refusal old.part.state at ≡ Some why) × (new.part ≡ old.part))

-- a close, which loads nothing
pub record ClosesAt (at : End) (old : CellState) (answer : Result ℕ Refusal) (new : CellState) : Type 0 where
  pub seen : new.seen ≡ old.seen
  pub outcome : MatchResult answer
      (λ number. (close_refusal old.part.state at ≡ None) × (number ≡ put_number old.part.state at) × (new.part ≡ close_part at old.part))
      (λ why. (why ≡ unwrap_or (close_refusal old.part.state at) OutOfMemory) × (new.part ≡ old.part))

-- how many link words were claimed, when their count was loaded: all at most, and at least as many as at each load of it before
pub record CountsClaimed (size : ℕ) (old : CellState) (answer : ℕ) (new : CellState) : Type 0 where
  pub seen : HasSeen size answer old new
  pub most : answer ≤ size
  pub reached : AreReached size old.seen answer
