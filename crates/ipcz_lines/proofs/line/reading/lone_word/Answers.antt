use Rattle.std.proofs.Common.{codes, sym, inl, inr}
use Rattle.ipcz_lines.proofs.Lacking.{unlike}
use Rattle.ipcz_lines.proofs.Forms.{lone_line}
use Rattle.ipcz_lines.proofs.line.reading.lone_word.Goals as goal

pub returns-else-eq-3 : goal.returns-else-eq-3
returns-else-eq-3 c =
    λ x h e. elim (lone_line x c.args.bytes.now c.requires.one_word e) [
      | inl p ↦ unlike _ _ (codes "settled") c.if-eq.ensures c.as_slice.ensures (sym p)
      | inr (inl p) ↦ unlike _ _ (codes "unsettled") c.if-eq-2.ensures c.as_slice-2.ensures (sym p)
      | inr (inr p) ↦ unlike _ _ (codes "words") c.if-eq-3.ensures c.as_slice-3.ensures (sym p)
    ]
