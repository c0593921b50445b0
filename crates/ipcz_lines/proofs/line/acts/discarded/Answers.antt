use Rattle.std.proofs.Common.{◌∙◌, codes, sym, inl, inr}
use Rattle.std.specs.Fmt.{decimal}
use Rattle.ipcz_lines.specs.Lines.{IsAct, act_text, spaced}
use Rattle.ipcz_lines.proofs.Lacking.{not_parted, parts_agree, reads_none, unlike}
use Rattle.ipcz_lines.proofs.Forms.{discarded_only, number_lacks}
use Rattle.ipcz_lines.proofs.line.acts.discarded.Goals as goal

pub returns-in_err-number-in-None : goal.returns-in_err-number-in-None
returns-in_err-number-in-None c =
    reads_none act_text IsAct (spaced (codes "discard") c.args.bytes.now) _ c.from_residual.ensures (λ x h e.
    let s = discarded_only x c.args.bytes.now h e in elim s.text [
      | inl p ↦ c.in_err-number-in-None.ensures s.n s.number p
      | inr p ↦ not_parted 32 (decimal s.n) (codes "leave") c.args.bytes.now c.in-None.ensures.none p
    ])

pub returns-in_err-number-in-Some : goal.returns-in_err-number-in-Some
returns-in_err-number-in-Some c =
    reads_none act_text IsAct (spaced (codes "discard") c.args.bytes.now) _ c.from_residual-in_err-number-in-Some.ensures (λ x h e.
    let s = discarded_only x c.args.bytes.now h e in elim s.text [
      | inl p ↦
          not_parted 32 c.in-Some.first.now c.in-Some.rest.now (decimal s.n) (number_lacks s.n s.number)
          (sym c.in-Some.ensures.joined ∙ sym p)
      | inr p ↦
          c.in_err-number-in-Some.ensures s.n s.number
          (parts_agree 32 (decimal s.n) (codes "leave") c.in-Some.first.now c.in-Some.rest.now c.args.bytes.now
          (number_lacks s.n s.number) c.in-Some.ensures.first c.in-Some.ensures.joined p).0
    ])

pub returns-in-Some-2 : goal.returns-in-Some-2
returns-in-Some-2 c =
    λ x h e. let s = discarded_only x c.args.bytes.now h e in elim s.text [
      | inl p ↦
          not_parted 32 c.in-Some.first.now c.in-Some.rest.now (decimal s.n) (number_lacks s.n s.number)
          (sym c.in-Some.ensures.joined ∙ sym p)
      | inr p ↦
          unlike _ _ (codes "leave") c.if-eq.ensures c.as_slice.ensures
          (sym (parts_agree 32 (decimal s.n) (codes "leave") c.in-Some.first.now c.in-Some.rest.now c.args.bytes.now
          (number_lacks s.n s.number) c.in-Some.ensures.first c.in-Some.ensures.joined p).1)
    ]
