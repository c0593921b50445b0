use Rattle.std.proofs.Common.{◌||◌, ◌∙◌, sym, ap}
use Rattle.std.specs.FinSet.{contains, insert}
use Rattle.std.specs.Str.{bytes_eq}
use Rattle.ipcz_script.specs.ScriptNames.{opens}
use Rattle.ipcz_script.proofs.TextKeys.{contains-insert_two}
use Rattle.ipcz_script.proofs.opened_names.OpenedNames.note.Goals as goal

pub returns-in_ok-insert-2 : goal.returns-in_ok-insert-2
returns-in_ok-insert-2 c = record {
  ok = λ name.
      ap (λ s. contains s name) (c.in_ok-insert-2.ensures.ok ∙ ap (λ s. insert s c.as_str-in-Open.result.now) c.in_ok-insert.ensures.ok)
      ∙ contains-insert_two c.args.self.now c.as_str.result.now c.as_str-in-Open.result.now name
      ∙ ap (λ b. contains c.args.self.now name || b)
      ((λ i. bytes_eq (c.as_str.ensures.same i) name || bytes_eq (c.as_str-in-Open.ensures.same i) name) ∙
      ap (opens name) (sym c.in-Open.is));
}
