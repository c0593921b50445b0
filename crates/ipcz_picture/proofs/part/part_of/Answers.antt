use Rattle.std.proofs.Common.{arith, sym, ◌∙◌}
use Rattle.std.proofs.lemmas.Fmt.{decimal_injective}
use Rattle.ipcz_picture.proofs.part.part_of.Goals.{then-from-eq0-via-then-from-eq0, then-from-eq0-via-else-from-eq0+then-to-from}
use Rattle.ipcz_picture.proofs.part.part_of.Goals as goal

pub returns-then-from-eq0 : goal.returns-then-from-eq0
returns-then-from-eq0 c p part from to =
    let first = decimal_injective p.from c.in_ok-from.from (omega (arith, part.ordered, part.few)) c.in_ok-from.ensures.0
    (from ∙ sym c.in_ok-from.ensures.1) in
    let last = decimal_injective p.to c.in_ok-to.to part.few c.in_ok-to.ensures.0 (to ∙ sym c.in_ok-to.ensures.1) in
    elim c.then-from-eq0.branch [
      | then-from-eq0-via-then-from-eq0 w ↦ omega (arith, w.if-from-eq0, first, part.some)
      | then-from-eq0-via-else-from-eq0+then-to-from w ↦ omega (arith, w.if-to-from, first, last, part.ordered)
    ]
