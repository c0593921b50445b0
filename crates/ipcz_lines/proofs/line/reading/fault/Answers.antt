use Rattle.std.proofs.Common.{◌≢◌, ◌∙◌, codes, sym, inl, inr, rules}
use Rattle.ipcz_lines.proofs.Lacking.{unlike}
use Rattle.ipcz_lines.proofs.Forms.{lone_fault, other_fault}
use Rattle.ipcz_lines.proofs.line.reading.fault.Goals as goal

pub returns-in_default : goal.returns-in_default
returns-in_default c =
    λ x h e. elim (lone_fault x c.args.bytes.now c.in-None.ensures.none e) [
      | inl p ↦ unlike _ _ (codes "NotJson") c.if-eq.ensures c.as_slice.ensures (sym p)
      | inr p ↦ (let other : c.args.bytes.now ≢ codes "TooLong" = search rules in other (sym p))
    ]

pub returns-in_default-2 : goal.returns-in_default-2
returns-in_default-2 c =
    let other : c.in-Some.first.now ≢ codes "BadShape" = search rules in
    λ x h e. other_fault x c.in-Some.first.now c.in-Some.rest.now c.in-Some.ensures.first other (e ∙ c.in-Some.ensures.joined)
