use Rattle.std.proofs.Common.{◌≡◌}
use Rattle.ipcz_threads.proofs.Wording.{GoesOn}
use Rattle.ipcz_threads.proofs.worker.NodeWorker.words.Given as goal

-- the words so far were looked at, and nothing but the cell has changed
abbrev pub invariant-loop-i : goal.invariant-loop-i
invariant-loop-i g l = record {
  on : GoesOn g.F.FabricName.table l.fn.self l.claimed l.i l.self-inside.cell l.words.items;
  starved : l.self-inside.starved ≡ l.fn.self.starved;
  left : l.self-inside.left ≡ l.fn.self.left;
}
