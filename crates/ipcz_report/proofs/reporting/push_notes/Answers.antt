use Rattle.std.proofs.Common.{ap}
use Rattle.ipcz_report.specs.Remarks.{remarks_text}
use Rattle.ipcz_report.proofs.Judged.{on_ok}
use Rattle.ipcz_report.proofs.reporting.push_notes.Goals as goal

pub returns : goal.returns
returns c =
    let input = c.args.input.now in
    let lines = remarks_text input c.deref.result.now in
    record {
      notes = on_ok c.push_remarks.result c.push_remarks.ensures.lines
          (λ same. (lines, (c.in_ok-notes.notes.items, c.in_ok-notes.ensures.notes, ap (remarks_text input) c.deref.ensures.value), same));
    }
