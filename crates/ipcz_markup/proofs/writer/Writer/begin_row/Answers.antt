use Rattle.std.proofs.Common.{◌∷◌, [], arith}
use Rattle.ipcz_markup.specs.Markup.{InText, RowGroup}
use Rattle.ipcz_markup.specs.declared.writer.Tag.TheVariants as tags
use Rattle.ipcz_markup.proofs.Adding.{adds_two, row_head_length, row_title_length, stands_after}
use Rattle.ipcz_markup.proofs.writer.Writer.begin_row.Goals as goal

pub returns-clause-begins : goal.returns-clause-begins
returns-clause-begins c rows u s units old =
    stands_after _ _ _ rows _ InText InText (u ∷ s) (tags.Title ∷ tags.G ∷ u ∷ s)
    (adds_two _ _ _ _ _ c.add_row_head.ensures c.add_line_title.ensures)
    (λ l m. RowGroup (record { number = c.args.number; texts = c.args.text.now ∷ []; top = c.args.top; units = units }) m) old

pub returns-clause-few : goal.returns-clause-few
returns-clause-few c =
    omega (
      arith,
      c.add_row_head.ensures.size,
      c.add_line_title.ensures.size,
      row_head_length c.args.number c.args.number c.args.top c.ranges.number.fits c.ranges.number.fits c.ranges.top.fits,
      row_title_length c.args.number c.args.text.now c.ranges.number.fits,
    )
