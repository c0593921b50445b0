use Rattle.std.proofs.Common.{ℕ, [], ◌∷◌}
use Rattle.ipcz_fabric.specs.Replays.{ExtendsInTurn}
use Rattle.ipcz_fabric.specs.Selecting.{vain_looks}
use Rattle.ipcz_fabric.proofs.caller.Caller.take_patiently.Given as goal

-- each try so far has found nothing
abbrev pub invariant-loop-try : goal.invariant-loop-try
invariant-loop-try g l = (goal.iterator-loop-try g).can_next l._try-iterator × (goal.iterator-loop-try g).is_finite l._try-iterator ×
    ((vain : ℕ) × ExtendsInTurn g.F.FabricName.table (vain_looks vain (l.portal ∷ [])) l.fn.self l.self)
