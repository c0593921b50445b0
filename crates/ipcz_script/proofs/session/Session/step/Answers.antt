use Rattle.std.proofs.Common.{◌∙◌, ap, sym}
use Rattle.ipcz_world.specs.Steps.{first_step}
use Rattle.ipcz_script.specs.Sessions.{with_world}
use Rattle.ipcz_script.proofs.Stepping.{steps_once}
use Rattle.ipcz_script.proofs.session.Session.step.Goals as goal

pub returns-clause-reply : goal.returns-clause-reply
returns-clause-reply c =
    (steps_once c.self.inside.world.world c.step-reply.new.self.world c.args.step c.step-reply.result c.requires
    (sym c.is_want.ensures ∙ c.if-is_want.false) c.step-reply.ensures.step).0
    ∙ ap (λ s. (first_step s.world c.args.step).reply) c.self.view_is

pub returns-clause-session : goal.returns-clause-session
returns-clause-session c =
    ap (λ w. record { world = w; names = c.self.inside.labels.names; titles = c.self.inside.labels.titles })
    (steps_once c.self.inside.world.world c.step-reply.new.self.world c.args.step c.step-reply.result c.requires
    (sym c.is_want.ensures ∙ c.if-is_want.false) c.step-reply.ensures.step).1
    ∙ ap (λ s. with_world s (first_step s.world c.args.step).world) c.self.view_is
