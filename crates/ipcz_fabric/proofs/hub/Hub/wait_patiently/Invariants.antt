use Rattle.ipcz_fabric.proofs.hub.Hub.wait_patiently.Given as goal

abbrev pub invariant-loop-try : goal.invariant-loop-try
invariant-loop-try g l = (goal.iterator-loop-try g).can_next l._try-iterator × (goal.iterator-loop-try g).is_finite l._try-iterator
