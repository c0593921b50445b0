use Rattle.std.proofs.Common.{◌≡◌, ◌++◌, arith, rules, length, length-append, length-take, take}
use Rattle.ipcz_device.proofs.KnownBytes.{consumes_two}
use Rattle.ipcz_device.proofs.whole_io.read_up_to.Goals as goal

pub returns-in_err-extend_from_slice-clause-taken : goal.returns-in_err-extend_from_slice-clause-taken
returns-in_err-extend_from_slice-clause-taken g c =
    let before = c.reading.bytes.items in
    let more = take c.in-Ok.count c.read.new.buf in
    let filled : length c.read.new.buf ≡ c.min-room.result = search rules in (
      before ++ more,
      omega (arith, length-append before more, length-take c.in-Ok.count c.read.new.buf, filled),
      consumes_two (g.R.Read.remaining c.args.device.now.inner) (g.R.Read.remaining c.reading.device.inner)
          (g.R.Read.remaining c.read.new.self.inner) before more c.reading.invariant.2 c.in-Ok.ensures.bytes.0,
    )
