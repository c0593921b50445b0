use Rattle.std.proofs.Common.{◌∙◌, ap}
use Rattle.std.specs.FinMap.{insert}
use Rattle.ipcz_script.specs.Bindings.{titles_of}
use Rattle.ipcz_script.proofs.EndKeys.{titles_of-insert}
use Rattle.ipcz_script.proofs.titles.Titles.bind.Goals as goal

pub returns-clause-ok : goal.returns-clause-ok
returns-clause-ok c =
    titles_of-insert c.self.inside.names c.insert.new.self c.args.end c.in_ok-name.name c.in_ok-insert.ensures.updates
    ∙ ap (λ v. insert (titles_of c.self.inside.names.entries) c.args.end v) c.in_ok-name.ensures.copy
    ∙ ap (λ m. insert m c.args.end c.args.name.now) c.self.view_is
