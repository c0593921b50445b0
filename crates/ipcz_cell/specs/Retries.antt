-- A proxy that found no slot for its bypass asks again: what that call answers and leaves.
use Rattle.std.specs.Prelude.{◌≡◌, ◌<◌, ◌⊎◌, ℕ, Bool, false, Option, None, Some, [], ◌∷◌, ◌++◌, MatchBool}
use Rattle.ipcz_base.specs.declared.end.End.{End}
use Rattle.ipcz_node.specs.Node.{Node, router_in}
use Rattle.ipcz_node.specs.Finding.{IsNext}
use Rattle.ipcz_rule.specs.Steps.{wet_part}
use Rattle.ipcz_cell.specs.TableNames.{TableName}
use Rattle.ipcz_cell.specs.CellStates.{CellState}
use Rattle.ipcz_cell.specs.Claims.{AreReached, FindsNone}
use Rattle.ipcz_rule.specs.declared.retry.Retry.{Retry}
use Rattle.ipcz_rule.specs.declared.retry.Retry.TheVariants as retries

-- the first router of the node that was told that there is no word, or there is none
abbrev pub IsFirstDry : Node → Option (ℕ × End) → Type 0
IsFirstDry x first = IsNext (router_in x) (λ r. r.dry) 0 first

-- a load of the claim count, and a look for a slot: a number is left, or each was claimed, or none was found (`FindsNone`)
pub record FindsNumber (t : TableName) (old : CellState) (answer : Bool) (new : CellState) : Type 0 where
  pub count : ℕ
  pub reached : AreReached t.size old.seen count
  pub part : new.part ≡ old.part
  pub room : new.room ≡ old.room
  pub seen : new.seen ≡ old.seen ++ (t.size, count) ∷ []
  pub why : MatchBool answer (count < t.size) ((count ≡ t.size) ⊎ FindsNone t count old.looked new.looked)

-- what such a call answers and leaves: no router waits; or one does, and no number was found; or one was, and the router that waits first may
-- claim again
pub data Retries (t : TableName) (old : CellState) (answer : Retry) (new : CellState) : Type 0 where
  NobodyWaits : answer ≡ retries.NoneWaits → new ≡ old → IsFirstDry old.part.state None → Retries t old answer new
  InVain : (first : ℕ × End) → answer ≡ retries.NoSlot → IsFirstDry old.part.state (Some first) → FindsNumber t old false new → Retries t old answer new
  Anew : (first : ℕ × End) (c : ℕ) → answer ≡ retries.Again first.0 → IsFirstDry old.part.state (Some first) → AreReached t.size old.seen c → c < t.size →
      new.part ≡ wet_part first.0 old.part → new.seen ≡ old.seen ++ (t.size, c) ∷ [] → Retries t old answer new
