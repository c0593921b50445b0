use Rattle.ipcz_picture.proofs.Sizing.{row_fits}
use Rattle.ipcz_picture.proofs.row.draw_row.Goals as goal

pub returns-clause-few : goal.returns-clause-few
returns-clause-few c =
    row_fits c.args.lines.now c.args.place.now _ c.requires.place _ _ _ _ _ _ c.begin_place.ensures.few c.close.ensures.few
    c.draw_place_gutter.ensures.few c.draw_marks.ensures.few c.close-2.ensures.few
