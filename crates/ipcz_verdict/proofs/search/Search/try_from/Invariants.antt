use Rattle.std.proofs.Common.{◌≡◌, ◌≤◌, ℕ, List}
use Rattle.ipcz_base.specs.declared.profile.Profile.{Profile}
use Rattle.ipcz_verdict.specs.declared.entry.Entry.{Entry}
use Rattle.ipcz_verdict.specs.Searches.{IsSearch}
use Rattle.ipcz_verdict.proofs.search.Search.try_from.Given as goal

abbrev pub invariant-loop-key : goal.invariant-loop-key
invariant-loop-key l = (l.from ≤ l.key) × ((nodes : ℕ) (profile : Profile) (entries : List Entry) → IsSearch nodes profile entries l.fn.self.judge l.fn.self.order.items l.fn.self.left.items l.from →
    IsSearch nodes profile entries l.self.judge l.self.order.items l.self.left.items l.key × (l.self.order.items ≡ l.fn.self.order.items))
