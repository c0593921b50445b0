use Rattle.std.proofs.Common.{codes, sym, inl, inr}
use Rattle.ipcz_lines.specs.Lines.{IsEvent, event_text}
use Rattle.ipcz_lines.proofs.Lacking.{reads_none, unlike}
use Rattle.ipcz_lines.proofs.Forms.{lone_event}
use Rattle.ipcz_lines.proofs.line.acts.alone.Goals as goal

pub returns-in_err-refusal : goal.returns-in_err-refusal
returns-in_err-refusal c =
    reads_none event_text IsEvent (c.args.bytes.now) _ c.from_residual.ensures (λ x h e.
    elim (lone_event x c.args.bytes.now c.requires.one_word h e) [
      | inl p ↦ unlike _ _ (codes "idle") c.if-eq.ensures c.as_slice.ensures (sym p)
      | inr w ↦ c.in_err-refusal.ensures w.0 tt w.1
    ])
