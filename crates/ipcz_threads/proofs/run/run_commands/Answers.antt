use Rattle.std.proofs.Common.{◌≡◌, ◌+◌, ◌++◌, ◌||◌, drop, ap, subst}
use Rattle.ipcz_script.specs.Lines.{lines_of}
use Rattle.ipcz_script.proofs.Writing.{next_of, past, writes-next, writes-end}
use Rattle.ipcz_threads.specs.Stages.{Runs}
use Rattle.ipcz_threads.proofs.run.run_commands.Goals as goal

pub loop-command-preserved : goal.loop-command-preserved
loop-command-preserved g c =
    let i = c.loop-command.command-index in
    writes-next (Runs g.G.Gate.answers g.F.FabricName.table) (λ s. s.labels.titles) c.args.session.now c.loop-command.session c.run.new.self
    c.args.commands.now (drop i c.args.commands.now) (drop (i + 1) c.args.commands.now)
    c.command-item.result c.in_ok-said.said c.loop-command.text.items c.push_answer.new.text.items c.loop-command.unsettled
    (c.loop-command.unsettled || c.in_ok-stopped.stopped)
    c.loop-command.invariant
    (next_of c.args.commands.now i c.command-item.result c.loop-command-test.true c.command-item.is)
    c.in_ok-said.ensures
    (subst (λ t. c.push_answer.new.text.items ≡ c.loop-command.text.items ++ lines_of t c.command-item.result c.in_ok-said.said)
    c.titles.ensures.titles c.in_ok-stopped.ensures.lines)
    (ap (λ b. c.loop-command.unsettled || b) c.in_ok-stopped.ensures.unsettled)

pub returns : goal.returns
returns g c =
    writes-end (Runs g.G.Gate.answers g.F.FabricName.table) (λ s. s.labels.titles) c.args.session.now c.loop-command.session c.args.commands.now
    (drop c.loop-command.command-index c.args.commands.now)
    c.loop-command.text.items c.loop-command.unsettled
    c.loop-command.invariant
    (past c.args.commands.now c.loop-command.command-index c.loop-command-test.false)
