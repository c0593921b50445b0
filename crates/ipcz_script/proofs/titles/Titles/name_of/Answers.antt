use Rattle.std.proofs.Common.{◌∙◌, ap, sym, Some}
use Rattle.std.specs.Option.{option_copied}
use Rattle.std.specs.FinMap.{get}
use Rattle.ipcz_script.proofs.EndKeys.{get-titles_of}
use Rattle.ipcz_script.proofs.titles.Titles.name_of.Goals as goal

pub returns-in-Some : goal.returns-in-Some
returns-in-Some c = record {
  name =
      ap Some c.as_str.ensures.same
      ∙ ap option_copied (sym c.in-Some.is)
      ∙ c.get.ensures.value
      ∙ sym (get-titles_of c.self.inside.names c.args.end)
      ∙ ap (λ m. get m c.args.end) c.self.view_is;
}

pub returns-in-None : goal.returns-in-None
returns-in-None c = record {
  name =
      ap option_copied (sym c.in-None.is)
      ∙ c.get.ensures.value
      ∙ sym (get-titles_of c.self.inside.names c.args.end)
      ∙ ap (λ m. get m c.args.end) c.self.view_is;
}
