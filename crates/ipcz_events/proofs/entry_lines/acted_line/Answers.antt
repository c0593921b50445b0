use Rattle.std.proofs.Common.{◌<◌, ◌^◌, subst}
use Rattle.ipcz_events.specs.declared.entry.Entry.TheVariants as entries
use Rattle.ipcz_events.specs.Written.{IsWritten}
use Rattle.ipcz_events.proofs.JsonLines.{unwritten, written_so}
use Rattle.ipcz_events.proofs.entry_lines.acted_line.Goals as goal

pub returns-in_ok-line-in-Ok : goal.returns-in_ok-line-in-Ok
returns-in_ok-line-in-Ok c =
    subst (λ t. IsWritten (entries.Acted c.args.node t) c.in_ok-line-in-Ok.line.items) c.in-Ok.ensures.cases.0
    (subst (λ n. IsWritten (entries.Acted n c.in-Ok.event.now) c.in_ok-line-in-Ok.line.items) c.byte_of-byte.ensures.same
    (written_so (entries.Acted c.byte_of-byte.result c.in-Ok.event.now) c.in_ok-line-in-Ok.line.items c.byte_of-byte.ensures.bits c.in_ok-line-in-Ok.ensures))

pub returns-in_ok-none-in-Err : goal.returns-in_ok-none-in-Err
returns-in_ok-none-in-Err c =
    unwritten (entries.Acted c.args.node c.args.event.now) c.in_ok-none-in-Err.none.items (subst (λ n. n < 2 ^ 8) c.byte_of-byte.ensures.same c.byte_of-byte.ensures.bits)
    c.in_ok-none-in-Err.ensures c.in-Err.ensures.cases.0
