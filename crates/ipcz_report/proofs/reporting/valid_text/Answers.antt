use Rattle.std.proofs.Common.{◌∙◌, ◌++◌, append_assoc, ap}
use Rattle.ipcz_report.specs.Remarks.{remarks_text}
use Rattle.ipcz_report.specs.Reports.{numbers, valid_line}
use Rattle.ipcz_report.proofs.reporting.valid_text.Goals as goal

pub returns : goal.returns
returns c =
    let input = c.args.input.now in
    let script = c.args.script.now in
    let remarks = c.in_ok-remarks.remarks.items in
    let notes = c.in_ok-push_notes.ensures.notes in (
      remarks,
      c.in_ok-remarks.ensures ∙ ap (numbers 1) c.as_slice.ensures,
      notes.0,
      notes.1,
      c.in-Ok.ensures ∙ ap (λ text. text ++ valid_line script.nodes script.words c.len.result) (notes.2 ∙ ap (λ text. text ++ notes.0)
          (c.in_ok-push_remarks.ensures.lines ∙ ap (λ text. text ++ remarks_text input c.deref.result.now) c.new-text.ensures.items
          ∙ ap (remarks_text input) c.deref.ensures.value))
          ∙ append_assoc (remarks_text input remarks) notes.0 (valid_line script.nodes script.words c.len.result)
          ∙ ap (λ n. remarks_text input remarks ++ (notes.0 ++ valid_line script.nodes script.words n)) c.len.ensures,
    )
