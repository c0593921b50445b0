use Rattle.std.proofs.Common.{◌≡◌, ◌≤◌, ◌+◌, ◌*◌, ◌-◌, ℕ}
use Rattle.ipcz_world.proofs.Vocabulary.{IsPassing, with_hand, next_node, Walk}
use Rattle.ipcz_world.specs.FastPath.{lone_message}
use Rattle.ipcz_world.proofs.state.State.pass_over.Given as goal

-- so many laps were made, and the visits so far lead to the world with the item's message in the taker's hand
abbrev pub invariant-loop-acts : goal.invariant-loop-acts
invariant-loop-acts l = record {
  laps : ((laps : ℕ) × (l.acts ≡ 4 * laps + 3));
  within : l.acts ≤ l.most;
  to : l.over.other ≡ l.to;
  passing : IsPassing l.self.world l.n l.to;
  walk : Walk l.fn.self.world (with_hand l.self.world l.n l.to (lone_message l.over l.number l.item)) l.acts (next_node l.self.world l.to);
}

abbrev pub decreases-loop-acts : goal.decreases-loop-acts
decreases-loop-acts l = l.most - l.acts
