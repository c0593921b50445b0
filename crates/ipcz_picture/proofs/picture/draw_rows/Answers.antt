use Rattle.std.proofs.Common.{length, arith, ap}
use Rattle.std.specs.List.{sum_by}
use Rattle.std.proofs.lemmas.List.Sums.{sum_by-take-drop, sum_by-take-le}
use Rattle.ipcz_picture.specs.Sizes.{most_place, most_row}
use Rattle.ipcz_picture.proofs.Following.{follow_place}
use Rattle.ipcz_picture.proofs.Sizing.{places_in}
use Rattle.ipcz_picture.proofs.picture.draw_rows.Goals as goal

pub draw_row-requires-clause-place : goal.draw_row-requires-clause-place
draw_row-requires-clause-place c =
    follow_place c.args.lines.now c.args.scene.now.bounds.first 136 c.args.placed.now (length c.args.lines.now)
    c.args.bottom c.requires.follow c.loop-place.place-index _ (omega arith)

pub returns-clause-few : goal.returns-clause-few
returns-clause-few c =
    let lines = c.args.lines.now in
    let placed = c.args.placed.now in
    omega (
      arith,
      c.loop-place.invariant.1,
      sum_by-take-le (most_place lines) placed c.loop-place.place-index,
      places_in lines c.args.scene.now.bounds.first 136 placed (length lines) c.args.bottom c.requires.follow,
      sum_by-take-drop most_row lines c.args.scene.now.bounds.first,
      ap (sum_by most_row) c.requires.part,
      sum_by-take-le most_row c.args.scene.now.lines.now c.args.scene.now.bounds.end,
    )
