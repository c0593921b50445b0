use Rattle.std.proofs.Common.{◌∙◌, sym, ap}
use Rattle.std.specs.FinMap.{get}
use Rattle.ipcz_script.proofs.TextKeys.{get-bindings_of}
use Rattle.ipcz_script.proofs.names.Names.end_of.Goals as goal

pub returns : goal.returns
returns c = record {
  end = c.copied.ensures ∙ c.get.ensures.value ∙ sym (get-bindings_of c.self.inside.ends c.args.name.now) ∙
      ap (λ m. get m c.args.name.now) c.self.view_is;
}
