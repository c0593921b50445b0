use Rattle.std.proofs.Common.{◌+◌, ◌∙◌, ap, ◌||◌, false}
use Rattle.ipcz_device.proofs.KnownBytes.{written}
use Rattle.ipcz_device.proofs.whole_io.write_whole.Goals as goal

pub writing-preserved : goal.writing-preserved
writing-preserved g c =
    let so_far = c.writing.invariant in
    let next = written (g.W.Write.contents c.args.device.now.inner) (g.W.Write.contents c.writing.device.inner)
    (g.W.Write.contents c.write.new.self.inner) c.args.text.now c.writing.rest.now so_far.1 c.in-Ok.count so_far.2 so_far.3
    c.in-Ok.ensures.bound so_far.4 c.in-Ok.ensures.bytes in
    (c.in-Ok.ensures.failed ∙ ap (λ b. b || false) so_far.0, so_far.1 + c.in-Ok.count, next.0, next.1, next.2)
