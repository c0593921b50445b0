use Rattle.ipcz_cell.specs.Making.{AreBodies}
use Rattle.ipcz_cell.proofs.making.make_bodies.Given as goal

-- the bodies of the nodes so far
abbrev pub invariant-loop-number : goal.invariant-loop-number
invariant-loop-number l = AreBodies l.fn.count l.number l.bodies.items
