use Rattle.std.proofs.Common.{◌∙◌, ◌++◌, ap, subst, refl, inr, Some}
use Rattle.serde_json.specs.View.{view}
use Rattle.ipcz_script.proofs.ReadingLaws.{same_script}
use Rattle.ipcz_report.specs.Faults.{AreFaultsOf}
use Rattle.ipcz_report.specs.Remarks.{remarks_text}
use Rattle.ipcz_report.specs.Reports.{TellsAll}
use Rattle.ipcz_report.proofs.Agreeing.{faults-agree}
use Rattle.ipcz_report.proofs.reporting.shape_text.Goals as goal

pub returns : goal.returns
returns c =
    let input = c.args.input.now in
    let d = view c.in-Ok.value in
    let faults = c.in_ok-faults.faults.items in
    let remarks = c.in_ok-remarks.remarks.items in
    let refused = same_script input _ _ (inr (c.requires.few, Some d, (c.in-Ok.ensures.ok.0, c.in-Ok.ensures.ok.1), refl)) c.requires.refused in
    let first = faults-agree d c.args.first faults refused c.in_ok-faults.ensures.faults in
    let tells = subst (λ fs. TellsAll fs remarks) (c.deref.ensures.value ∙ first.2) c.in_ok-remarks.ensures in
    let notes = c.in_ok-push_notes.ensures.notes in (
      d,
      (c.in-Ok.ensures.ok.0, c.in-Ok.ensures.ok.1),
      first.0,
      first.1,
      subst (AreFaultsOf d) first.2 c.in_ok-faults.ensures.faults,
      first.3,
      remarks,
      tells,
      notes.0,
      notes.1,
      notes.2 ∙ ap (λ text. text ++ notes.0) (c.in_ok-push_remarks.ensures.lines
          ∙ ap (λ text. text ++ remarks_text input c.deref-2.result.now) c.new-text.ensures.items ∙ ap (remarks_text input) c.deref-2.ensures.value),
    )
