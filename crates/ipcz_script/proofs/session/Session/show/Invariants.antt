use Rattle.std.proofs.Common.{◌≡◌, ◌++◌}
use Rattle.ipcz_world.specs.Holding.{shown_words}
use Rattle.ipcz_script.proofs.Showing.{words_left}
use Rattle.ipcz_script.proofs.session.Session.show.Given as goal

-- the words so far, and those that are left, are all of them
abbrev pub invariant-loop-i : goal.invariant-loop-i
invariant-loop-i l = l.words.items ++ words_left l.self.world l.i ≡ shown_words l.self.world
