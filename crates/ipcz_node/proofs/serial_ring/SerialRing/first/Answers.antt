use Rattle.std.proofs.Common.{ap}
use Rattle.ipcz_node.proofs.SerialSets.{lowest}
use Rattle.ipcz_node.proofs.serial_ring.SerialRing.first.Goals as goal

pub returns-in-Some-clause-least : goal.returns-in-Some-clause-least
returns-in-Some-clause-least c = λ s there.
    lowest c.self.inside.serials.items c.in-Some.serial.now s c.self.invariant c.in-Some.ensures.lookup (rw (ap (λ v. v.members) c.self.view_is) there)
