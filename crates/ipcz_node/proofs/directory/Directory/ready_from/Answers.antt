use Rattle.std.proofs.Common.{◌≡◌, true, subst, sym, ◌∙◌}
use Rattle.std.specs.FinMap.{get}
use Rattle.std.specs.FinSet as sets
use Rattle.ipcz_node.proofs.Readiness.{one_ready}
use Rattle.ipcz_node.proofs.directory.Directory.ready_from.Goals as goal

pub returns-then-has-clause-next : goal.returns-then-has-clause-next
returns-then-has-clause-next c =
    one_ready (get c.args.self.now.filed.routers) c.args.self.now.filed.held c.args.serial c.loop-ready.from c.loop-ready.invariant
    (c.in-Some.ready, c.in-Some.end) c.in-Some.ensures.found
    (subst (λ v. sets.contains v.filed.held c.in-Some.end ≡ true) c.self.view_is (sym c.has.ensures ∙ c.if-has.true))
