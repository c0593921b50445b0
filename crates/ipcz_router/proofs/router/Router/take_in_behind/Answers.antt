use Rattle.ipcz_router.proofs.Numbers.{keeps-push_in}
use Rattle.ipcz_router.proofs.router.Router.take_in_behind.Goals as goal

pub invariant_of-self : goal.invariant_of-self
invariant_of-self c = keeps-push_in _ _ _ _ _ _ _ c.self.invariant c.requires.number c.push_behind.ensures.queue
