use Rattle.std.proofs.Common.{◌≡◌, ◌+◌, ◌++◌, [], ◌∷◌, List, ℕ, length, map, take, drop, arith, sym, ap, ◌∙◌, subst, length-take}
use Rattle.std.proofs.Common.{length-drop}
use Rattle.std.proofs.lemmas.List.{length-map}
use Rattle.ipcz_markup.specs.Markup.{InText, Stands}
use Rattle.ipcz_markup.specs.declared.writer.Tag.TheVariants as tags
use Rattle.ipcz_picture.proofs.Following.{two_of}
use Rattle.ipcz_picture.proofs.row.begin_place.Goals as goal

pub returns-else-place-eq1-clause-begins : goal.returns-else-place-eq1-clause-begins
returns-else-place-eq1-clause-begins c rows u s old =
    let p = c.args.place.now in
    let texts : List (List ℕ) = map (λ x. x.text.now) (take p.count (drop p.first c.args.lines.now)) in
    let many : length texts ≡ p.count =
    simp (length-map, length-take, length-drop) (omega (arith, c.requires.place.within)) in
    let more = two_of texts (omega (arith, many, c.requires.place.some, c.if-place-eq1.false)) in
    let count : length more.2 + 2 ≡ p.count = omega (arith, sym many ∙ ap length more.3) in
    subst
    (λ (t : List (List ℕ)). Stands c.begin_run.new.self
    (rows ++ (record { number = p.first + 1; texts = t; top = p.top; units = p.units }) ∷ [])
    InText (tags.Title ∷ tags.G ∷ u ∷ s))
    (sym more.3) (c.begin_run.ensures.begins rows u s p.units more.0 more.1 more.2 count old)
