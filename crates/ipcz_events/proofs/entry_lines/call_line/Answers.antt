use Rattle.std.proofs.Common.{subst}
use Rattle.ipcz_events.specs.declared.entry.Entry.TheVariants as entries
use Rattle.ipcz_events.specs.Written.{IsWritten}
use Rattle.ipcz_events.proofs.JsonLines.{unwritten, written_so}
use Rattle.ipcz_events.proofs.entry_lines.call_line.Goals as goal

pub returns-in_ok-line-in-Ok : goal.returns-in_ok-line-in-Ok
returns-in_ok-line-in-Ok c =
    subst (λ t. IsWritten (entries.Call c.args.command.now t) c.in_ok-line-in-Ok.line.items) c.in-Ok.ensures.cases.0
    (written_so (entries.Call c.args.command.now c.in-Ok.answer.now) c.in_ok-line-in-Ok.line.items tt c.in_ok-line-in-Ok.ensures)

pub returns-in_ok-none-in-Err : goal.returns-in_ok-none-in-Err
returns-in_ok-none-in-Err c = unwritten (entries.Call c.args.command.now c.args.answer.now) c.in_ok-none-in-Err.none.items tt c.in_ok-none-in-Err.ensures c.in-Err.ensures.cases.0
