use Rattle.std.proofs.Common.{◌≡◌, ◌≤◌, ◌+◌, ◌-◌, true, if◌then◌else◌}
use Rattle.ipcz_world.proofs.Vocabulary.{IsPassing, next_node, Walk}
use Rattle.ipcz_world.proofs.state.State.pass_within.Given as goal

-- the first item passed, or came to hand, and the visits so far lead on
abbrev pub invariant-loop-goes_on : goal.invariant-loop-goes_on
invariant-loop-goes_on l = record {
  begun : 3 ≤ l.acts;
  within : l.acts ≤ l.most;
  passing : (l.goes_on ≡ true → IsPassing l.self.world l.n l.n);
  here : l.n + 1 ≤ l.self.world.count;
  walk : Walk l.fn.self.world l.self.world l.acts (next_node l.self.world l.n);
}

abbrev pub decreases-loop-goes_on : goal.decreases-loop-goes_on
decreases-loop-goes_on l = (l.most - l.acts) + (if l.goes_on then 1 else 0)
