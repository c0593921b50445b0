use Rattle.std.proofs.Common.{◌≡◌, ◌++◌, ℕ, List, length}
use Rattle.ipcz_base.specs.declared.profile.Profile.{Profile}
use Rattle.ipcz_verdict.specs.declared.entry.Entry.{Entry}
use Rattle.ipcz_verdict.specs.declared.search.Taken.{Taken}
use Rattle.ipcz_verdict.specs.Searches.{CanEnd, IsStack, taken_lines}
use Rattle.ipcz_verdict.proofs.search.Search.take_back.Given as goal

abbrev pub invariant-loop-taken : goal.invariant-loop-taken
invariant-loop-taken l = ((more : List Taken) × (l.fn.self.order.items ≡ l.self.order.items ++ more)) × ((nodes : ℕ) (profile : Profile) (entries : List Entry) → IsStack nodes profile entries l.fn.self.order.items l.fn.self.left.items →
    (CanEnd nodes profile entries (taken_lines l.fn.self.order.items) → ⊥) →
    IsStack nodes profile entries l.self.order.items l.self.left.items × (CanEnd nodes profile entries (taken_lines l.self.order.items) → ⊥))

abbrev pub decreases-loop-taken : goal.decreases-loop-taken
decreases-loop-taken l = length l.self.order.items
