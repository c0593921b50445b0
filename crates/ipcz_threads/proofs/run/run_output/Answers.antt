use Rattle.std.proofs.Common.{subst}
use Rattle.ipcz_threads.specs.Transcripts.{IsTranscript}
use Rattle.ipcz_threads.proofs.run.run_output.Goals as goal

pub returns-then-unsettled : goal.returns-then-unsettled
returns-then-unsettled g c = subst (IsTranscript g.G.Gate.answers c.args.script.now c.in_ok-unsettled.text.items) c.if-unsettled.true c.in_ok-unsettled.ensures

pub returns : goal.returns
returns g c = subst (IsTranscript g.G.Gate.answers c.args.script.now c.in_ok-unsettled.text.items) c.if-unsettled.false c.in_ok-unsettled.ensures
