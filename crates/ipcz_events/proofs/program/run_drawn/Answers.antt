use Rattle.ipcz_script.proofs.WholeRuns.{front-written, read-input, whole-written}
use Rattle.ipcz_events.specs.RunOutputs.{IsRunOutput}
use Rattle.ipcz_events.proofs.program.run_drawn.Goals as goal

pub returns-in_default-write_whole-clause-run : goal.returns-in_default-write_whole-clause-run
returns-in_default-write_whole-clause-run g c =
    front-written (IsRunOutput c.args.seed) _ _ (g.W.Write.contents c.args.writer.now.inner) (g.W.Write.contents c.write_whole.new.device.inner) _ _ _ _ c.in-Ok.ran
    (read-input _ _ _ c.in_ok-input.ensures.read c.in_ok-input.ensures.few c.in_ok-input.ensures.whole)
    c.deref.ensures.value c.in-Ok.ensures c.deref-2.ensures.value c.write_whole.ensures.front

pub returns-clause-run : goal.returns-clause-run
returns-clause-run g c =
    whole-written (IsRunOutput c.args.seed) _ _ (g.W.Write.contents c.args.writer.now.inner) (g.W.Write.contents c.write_whole.new.device.inner) _ _ _ _ c.in-Ok.ran
    (read-input _ _ _ c.in_ok-input.ensures.read c.in_ok-input.ensures.few c.in_ok-input.ensures.whole)
    c.deref.ensures.value c.in-Ok.ensures c.deref-2.ensures.value c.in-Ok-write_whole.ensures.done
