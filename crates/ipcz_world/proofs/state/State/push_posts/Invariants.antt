use Rattle.std.proofs.Common.{◌≡◌, ◌++◌}
use Rattle.std.specs.List.{filter}
use Rattle.ipcz_world.proofs.Vocabulary.{Post, can_act}
use Rattle.ipcz_world.proofs.code.Listing.{numbers_left}
use Rattle.ipcz_world.proofs.state.State.push_posts.Given as goal

-- those that are listed, and those that are left, are all of them
abbrev pub invariant-loop-to : goal.invariant-loop-to
invariant-loop-to l = l.acts.items ++ filter (can_act l.fn.self.world l.fn.n) (numbers_left Post l.fn.self.world.count l.to) ≡ l.fn.acts.items ++ filter (can_act l.fn.self.world l.fn.n) (numbers_left Post l.fn.self.world.count 0)
