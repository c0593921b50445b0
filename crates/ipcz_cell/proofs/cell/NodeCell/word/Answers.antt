use Rattle.std.proofs.Common.{[], ◌∷◌, ◌++◌, ap, sym, ◌∙◌, arith}
use Rattle.ipcz_cell.proofs.Unfolding.{shown_word}
use Rattle.ipcz_cell.proofs.cell.NodeCell.word.Goals as goal

pub returns-then-count-i : goal.returns-then-count-i
returns-then-count-i g c =
    let count = c.load_count-count.ensures in
    shown_word _ _ _ (sym c.fabric.invariant.9 ∙ c.if-fabric.false)
    (c.load_count-count.result, count.most, count.reached, (c.if-count-i.true, count.seen))

pub returns : goal.returns
returns g c =
    let count = c.load_count-count.ensures in
    let word = c.load_word.ensures in
    shown_word _ _ _ (sym c.fabric.invariant.9 ∙ c.if-fabric.false) (
      c.load_count-count.result,
      count.most,
      count.reached,
      (
        (let more = c.if-count-i.false in omega (arith, more)),
        word.word,
        word.seen.part ∙ count.seen.part,
        word.seen.room ∙ count.seen.room,
        word.seen.seen ∙ ap (λ (l : _). l ++ (c.args.i, c.load_word.result) ∷ []) count.seen.seen,
      ),
    )
