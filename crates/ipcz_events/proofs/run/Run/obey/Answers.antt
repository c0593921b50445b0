use Rattle.std.specs.Prelude.{IfOk, None}
use Rattle.std.proofs.Common.{subst, sym}
use Rattle.ipcz_events.specs.declared.order.Order.TheVariants as orders
use Rattle.ipcz_events.specs.Runs.{IsObeyed}
use Rattle.ipcz_events.proofs.run.Run.obey.Goals as goal

pub returns-in_ok-command-in-Command : goal.returns-in_ok-command-in-Command
returns-in_ok-command-in-Command c =
    subst (λ o. IsObeyed c.args.nodes c.args.self.now o None c.command.new.self c.args.out.now.items c.command.new.out.items) (sym c.in-Command.is) c.in_ok-command-in-Command.ensures

pub returns-in-Act : goal.returns-in-Act
returns-in-Act c =
    subst (λ o. IfOk c.act.result (λ stopped. IsObeyed c.args.nodes c.args.self.now o stopped c.act.new.self c.args.out.now.items c.act.new.out.items)) (sym c.in-Act.is)
    (subst (λ w. IfOk c.act.result (λ stopped. IsObeyed c.args.nodes c.args.self.now (orders.Act c.in-Act.node w) stopped c.act.new.self c.args.out.now.items c.act.new.out.items))
    c.as_str.ensures.same c.act.ensures)
