use Rattle.std.proofs.Common.{◌≡◌, ◌++◌, drop}
use Rattle.std.specs.List.{filter}
use Rattle.ipcz_world.proofs.Vocabulary.{can_act}
use Rattle.ipcz_world.proofs.code.Listing.{acts_of_serials}
use Rattle.ipcz_world.proofs.state.State.push_routers.Given as goal

-- those that are listed, and those that are left, are all of them
abbrev pub invariant-loop-serial : goal.invariant-loop-serial
invariant-loop-serial l = l.acts.items ++ filter (can_act l.fn.self.world l.fn.n) (acts_of_serials (drop l.serial-index l.serial-items)) ≡ l.fn.acts.items ++ filter (can_act l.fn.self.world l.fn.n) (acts_of_serials l.serial-items)
