use Rattle.std.proofs.Common.{◌≡◌, true, subst, sym}
use Rattle.ipcz_router.specs.Router.{is_open_terminal}
use Rattle.ipcz_router.proofs.Numbers.{keeps-close}
use Rattle.ipcz_router.proofs.router.Router.close.Goals as goal

pub invariant_of-self : goal.invariant_of-self
invariant_of-self c =
    keeps-close _ _ _ _ _ _ _ c.self.invariant
    (subst (λ v. is_open_terminal v.router ≡ true) (sym c.self.view_is) c.requires)
    c.reach-n.ensures.least
    c.in-Ok.ensures.ok
