use Rattle.std.proofs.Common.{◌≡◌, ◌∙◌, ◌++◌, ◌∷◌, [], subst}
use Rattle.ipcz_script.specs.EventTexts.{event_text}
use Rattle.ipcz_events.specs.declared.entry.Entry.TheVariants as entries
use Rattle.ipcz_events.specs.Written.{IsWritten}
use Rattle.ipcz_events.proofs.Adding.{adds-one}
use Rattle.ipcz_events.proofs.entry_lines.push_acted.Goals as goal

pub returns : goal.returns
returns c =
    adds-one (entries.Acted c.args.node (event_text c.args.event.now)) c.in_ok-line.line.items c.args.out.now.items c.push_line.new.out.items
    (subst (λ t. IsWritten (entries.Acted c.args.node t) c.in_ok-line.line.items) (c.as_slice.ensures.value ∙ c.in_ok-text.ensures) c.in_ok-line.ensures)
    (subst (λ t. c.push_line.new.out.items ≡ c.args.out.now.items ++ (t ++ 10 ∷ [])) c.as_slice-2.ensures.value c.in_ok-push_line.ensures)
