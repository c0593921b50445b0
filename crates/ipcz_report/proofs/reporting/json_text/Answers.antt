use Rattle.std.proofs.Common.{◌∙◌, ◌++◌, ◌∷◌, [], ap}
use Rattle.ipcz_report.specs.Remarks.{remarks_text}
use Rattle.ipcz_report.proofs.reporting.json_text.Goals as goal

pub returns : goal.returns
returns c =
    let input = c.args.input.now in
    let remark = c.in_ok-json_remark.field-0 in (
      remark,
      c.in_ok-json_remark.ensures.script,
      c.in_ok-json_remark.ensures.within,
      c.in_ok-push_remarks.ensures.lines ∙ ap (λ text. text ++ remarks_text input c.deref.result.now) c.new-text.ensures.items
          ∙ ap (remarks_text input) (c.deref.ensures.value ∙ c.in_ok-push.ensures.items ∙ ap (λ remarks. remarks ++ remark ∷ []) c.new-remarks.ensures.items),
    )
