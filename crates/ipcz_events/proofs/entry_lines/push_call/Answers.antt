use Rattle.std.proofs.Common.{◌≡◌, ◌++◌, ◌∷◌, [], subst}
use Rattle.ipcz_events.specs.declared.entry.Entry.TheVariants as entries
use Rattle.ipcz_events.proofs.Adding.{adds-one}
use Rattle.ipcz_events.proofs.entry_lines.push_call.Goals as goal

pub returns : goal.returns
returns c =
    adds-one (entries.Call c.args.command.now c.args.answer.now) c.in_ok-line.line.items c.args.out.now.items c.push_line.new.out.items c.in_ok-line.ensures
    (subst (λ t. c.push_line.new.out.items ≡ c.args.out.now.items ++ (t ++ 10 ∷ [])) c.as_slice.ensures.value c.in_ok-push_line.ensures)
