use Rattle.std.proofs.Common.{Some}
use Rattle.ipcz_router.proofs.Numbers.{keeps-pop_out}
use Rattle.ipcz_router.proofs.router.Router.pop_out_ready.Goals as goal

pub invariant_of-self : goal.invariant_of-self
invariant_of-self c = keeps-pop_out _ _ c.self.inside.out_queue c.pop_ready.new.self _ (Some c.pop_ready.result) c.self.invariant c.pop_ready.ensures.item c.pop_ready.ensures.queue tt
