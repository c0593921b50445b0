use Rattle.std.proofs.Common.{◌∙◌, sym, ap}
use Rattle.std.specs.FinSet.{contains}
use Rattle.ipcz_script.proofs.TextKeys.{contains-bytes}
use Rattle.ipcz_script.proofs.opened_names.OpenedNames.has.Goals as goal

pub returns : goal.returns
returns c = record {
  member = c.contains.ensures ∙ sym (contains-bytes c.self.inside.names c.args.name.now) ∙
      ap (λ s. contains s c.args.name.now) c.self.view_is;
}
