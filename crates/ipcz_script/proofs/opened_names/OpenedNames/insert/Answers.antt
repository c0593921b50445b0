use Rattle.std.proofs.Common.{◌∙◌, ap}
use Rattle.std.specs.FinSet.{insert}
use Rattle.ipcz_script.proofs.TextKeys.{from_list-insert}
use Rattle.ipcz_script.proofs.opened_names.OpenedNames.insert.Goals as goal

pub returns : goal.returns
returns c = record {
  ok =
      from_list-insert c.self.inside.names c.insert.new.self c.in_ok-name.name c.in_ok-insert.ensures.updates
      ∙ ap (insert _) c.in_ok-name.ensures.ok
      ∙ ap (λ s. insert s c.args.name.now) c.self.view_is;
}
