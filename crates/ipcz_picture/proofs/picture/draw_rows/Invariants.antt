use Rattle.std.proofs.Common.{[], ◌∷◌, map, take}
use Rattle.std.specs.List.{sum_by}
use Rattle.ipcz_markup.specs.declared.writer.Tag.TheVariants as tags
use Rattle.ipcz_markup.specs.Markup.{Grows, Stands, InText}
use Rattle.ipcz_picture.specs.Rows.{row_at}
use Rattle.ipcz_picture.specs.Sizes.{most_place}
use Rattle.ipcz_picture.proofs.picture.draw_rows.Given as goal

-- the places so far have their rows
abbrev pub invariant-loop-place : goal.invariant-loop-place
invariant-loop-place l =
    (Stands l.fn.out [] InText (tags.Svg ∷ []) → Stands l.out (map (row_at l.lines) (take l.place-index l.placed)) InText (tags.Svg ∷ []))
    × Grows l.fn.out l.out (sum_by (most_place l.lines) (take l.place-index l.placed))
