use Rattle.std.proofs.Common.{[], ◌∷◌, ◌++◌, sym, ap, ◌∙◌, subst, codes}
use Rattle.ipcz_markup.specs.Markup.{IsMarkup, InTag, Root}
use Rattle.ipcz_markup.specs.declared.writer.Tag.TheVariants as tags
use Rattle.ipcz_markup.proofs.writer.Writer.new.Goals as goal

pub returns-clause-root : goal.returns-clause-root
returns-clause-root c = record {
  markup = λ works.
      subst (λ l. IsMarkup l [] InTag (tags.Svg ∷ []))
      (sym ((c.add.ensures.done works).1 ∙ ap (λ l. l ++ codes "<svg") c.new.ensures.items)) Root;
}
