use Rattle.std.proofs.Common.{◌∷◌, [], sym, subst, IfSome}
use Rattle.std.specs.List.{All}
use Rattle.std.proofs.lemmas.List.Elements.{All-nil, All-cons, All-append}
use Rattle.ipcz_report.specs.Notes.{IsNote}
use Rattle.ipcz_report.proofs.again.push_note.Goals as goal

pub returns : goal.returns
returns c =
    let P = IsNote c.args.text.now in
    let note = c.in-Some.note in
    let one = subst (λ o. IfSome o P) c.in-Some.is c.in_ok-note.ensures.note in
    record {
      notes = λ all. subst (All P) (sym c.in_ok-push.ensures.items) (All-append P c.args.notes.now.items (note ∷ []) all (All-cons P note [] one (All-nil P)));
    }
