use Rattle.std.proofs.Common.{◌≡◌, ◌+◌, ◌-◌, ◌∷◌, length, sym, arith}
use Rattle.ipcz_markup.specs.Markup.{InText, RowGroup}
use Rattle.ipcz_markup.specs.declared.writer.Tag.TheVariants as tags
use Rattle.ipcz_markup.proofs.Adding.{adds_two, row_head_length, run_title_length, stands_after}
use Rattle.ipcz_markup.proofs.writer.Writer.begin_run.Goals as goal

pub returns-clause-begins : goal.returns-clause-begins
returns-clause-begins c rows u s units a b texts many old =
    let last : c.args.number + (c.args.count - 1) ≡ c.args.number + length texts + 1 = omega (arith, many) in
    let headed = rw last at c.add_row_head.ensures in
    let titled = rw (last, sym many) at c.add_run_title.ensures in
    stands_after _ _ _ rows _ InText InText (u ∷ s) (tags.Title ∷ tags.G ∷ u ∷ s) (adds_two _ _ _ _ _ headed titled)
    (λ l m. RowGroup (record { number = c.args.number; texts = a ∷ b ∷ texts; top = c.args.top; units = units }) m) old

pub returns-clause-few : goal.returns-clause-few
returns-clause-few c =
    omega (
      arith,
      c.add_row_head.ensures.size,
      c.add_run_title.ensures.size,
      row_head_length c.args.number (c.args.number + (c.args.count - 1)) c.args.top c.ranges.number.fits (omega arith) c.ranges.top.fits,
      run_title_length c.args.number (c.args.number + (c.args.count - 1)) c.args.count c.ranges.number.fits (omega arith)
          c.ranges.count.fits,
    )
