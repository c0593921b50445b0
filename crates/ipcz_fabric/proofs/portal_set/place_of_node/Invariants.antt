use Rattle.std.proofs.Common.{◌≢◌}
use Rattle.ipcz_fabric.specs.Readiness.{EachBefore}
use Rattle.ipcz_fabric.proofs.portal_set.place_of_node.Given as goal

-- none so far is of the node
abbrev pub invariant-loop-place : goal.invariant-loop-place
invariant-loop-place l = EachBefore l.portals l.place (λ p. p.node ≢ l.node)
