use Rattle.std.proofs.lemmas.Bool.{false≢true}
use Rattle.std.proofs.Common.{◌∙◌, ℕ, List, Bor, codes, sym, subst}
use Rattle.ipcz_lines.specs.LineParts.{AreParted, IsEndText}
use Rattle.ipcz_lines.specs.Lines.{spaced}
use Rattle.ipcz_lines.proofs.Lacking.{not_parted, parts_agree, reads_none, unlike}
use Rattle.ipcz_lines.proofs.Forms.{moves_lacks}
use Rattle.ipcz_lines.proofs.line.acts.moves.Goals as goal
use Rattle.ipcz_lines.proofs.line.acts.moves.Goals.{then-eq+else-are_ends, else-eq}

pub returns-in_err-ends : goal.returns-in_err-ends
returns-in_err-ends c =
    reads_none {A = Bor (List ℕ)} (λ ends. spaced (codes "moves") ends.now) (λ ends. AreParted IsEndText 44 ends.now)
    c.args.bytes.now _ c.from_residual.ensures (λ x h e.
    not_parted 32 (codes "moves") x.now c.args.bytes.now c.in_err-ends.ensures.none e)

pub returns-after-eq : goal.returns-after-eq
returns-after-eq c =
    λ x h e.
    let q =
    parts_agree 32 (codes "moves") x.now c.in_ok-ends.field-0.0.now c.in_ok-ends.field-0.1.now c.args.bytes.now moves_lacks
    c.in_ok-ends.ensures.first c.in_ok-ends.ensures.joined e in
    elim c.if-eq.branch [
      | then-eq+else-are_ends w ↦ false≢true (sym w.if-are_ends.false ∙ w.are_ends.ensures.1 (subst (AreParted IsEndText 44) q.1 h))
      | else-eq w ↦ unlike _ _ (codes "moves") w.if-eq.ensures c.as_slice.ensures (sym q.0)
    ]
