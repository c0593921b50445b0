use Rattle.std.proofs.Common.{◌≡◌, ◌++◌, ◌∷◌, [], refl, subst}
use Rattle.ipcz_script.specs.Lines.{lines_of}
use Rattle.ipcz_events.specs.declared.entry.Entry.TheVariants as entries
use Rattle.ipcz_events.specs.Written.{Adds}
use Rattle.ipcz_events.proofs.Adding.{called}
use Rattle.ipcz_events.proofs.run.Run.call.Goals as goal

pub returns : goal.returns
returns c =
    called c.args.self.now _ c.args.command.now c.in_ok-said.said c.in_ok-answer.answer.items c.args.out.now.items c.push_call.new.out.items
    c.in_ok-said.ensures.runs
    (subst (λ t. lines_of t c.args.command.now c.in_ok-said.said ≡ c.in_ok-answer.answer.items ++ 10 ∷ []) c.titles.ensures.titles c.in_ok-answer.ensures) refl
    (subst (λ t. Adds (entries.Call c.args.command.now t ∷ []) c.args.out.now.items c.push_call.new.out.items) c.as_slice.ensures.value c.in_ok-push_call.ensures)
