use Rattle.std.proofs.Common.{subst, arith}
use Rattle.std.specs.Io.KnownBytes.{Appends}
use Rattle.ipcz_device.specs.WholeIo.{AppendsFront}
use Rattle.ipcz_picture.specs.Outputs.{IsOutput}
use Rattle.ipcz_picture.proofs.output.draw.Goals as goal

pub returns-in_default-write_whole-clause-run : goal.returns-in_default-write_whole-clause-run
returns-in_default-write_whole-clause-run g c = (
  c.in_ok-input.input.items,
  c.in-Ok.ending,
  c.in-Ok.text.items,
  record {
    taken = c.in_ok-input.ensures.read;
    most = c.in_ok-input.ensures.few;
    whole = λ h. c.in_ok-input.ensures.whole (omega (arith, h));
  },
  subst (λ input. IsOutput input c.args.part c.in-Ok.ending c.in-Ok.text.items) c.deref.ensures.value c.in-Ok.ensures,
  subst (AppendsFront (g.W.Write.contents c.args.writer.now.inner) (g.W.Write.contents c.write_whole.new.device.inner))
      c.deref-2.ensures.value c.write_whole.ensures.front,
)

pub returns-clause-run : goal.returns-clause-run
returns-clause-run g c = (
  c.in_ok-input.input.items,
  c.in-Ok.text.items,
  record {
    taken = c.in_ok-input.ensures.read;
    most = c.in_ok-input.ensures.few;
    whole = λ h. c.in_ok-input.ensures.whole (omega (arith, h));
  },
  subst (λ input. IsOutput input c.args.part c.in-Ok.ending c.in-Ok.text.items) c.deref.ensures.value c.in-Ok.ensures,
  subst (Appends (g.W.Write.contents c.args.writer.now.inner) (g.W.Write.contents c.write_whole.new.device.inner))
      c.deref-2.ensures.value c.in-Ok-write_whole.ensures.done,
)
