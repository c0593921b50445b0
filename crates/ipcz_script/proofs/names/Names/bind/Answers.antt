use Rattle.std.proofs.Common.{◌∙◌, ap}
use Rattle.std.specs.FinMap.{insert}
use Rattle.ipcz_script.specs.Bindings.{bindings_of}
use Rattle.ipcz_script.proofs.TextKeys.{bindings_of-insert}
use Rattle.ipcz_script.proofs.names.Names.bind.Goals as goal

pub returns-clause-ok : goal.returns-clause-ok
returns-clause-ok c =
    bindings_of-insert c.self.inside.ends c.insert.new.self c.in_ok-name.name c.args.end c.in_ok-insert.ensures.updates
    ∙ ap (λ k. insert (bindings_of c.self.inside.ends.entries) k c.args.end) c.in_ok-name.ensures.ok
    ∙ ap (λ m. insert m c.args.name.now c.args.end) c.self.view_is
