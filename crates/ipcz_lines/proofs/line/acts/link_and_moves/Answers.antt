use Rattle.std.proofs.Common.{◌≡◌, ◌∙◌, codes, sym, inl, inr}
use Rattle.ipcz_lines.specs.LineParts.{IsLink, link_text}
use Rattle.ipcz_lines.specs.Lines.{AreMoves, and_more, moves_text, spaced}
use Rattle.ipcz_lines.proofs.Lacking.{not_parted, parts_agree, reads_none}
use Rattle.ipcz_lines.proofs.Parting.{link_and_ends}
use Rattle.ipcz_lines.proofs.Forms.{link_lacks, with_moves}
use Rattle.ipcz_lines.proofs.line.acts.link_and_moves.Goals as goal

pub returns-in_err-link-in-None : goal.returns-in_err-link-in-None
returns-in_err-link-in-None c =
    reads_none (λ x. and_more (link_text x.0) (moves_text x.1.now)) (λ x. IsLink x.0 × AreMoves x.1.now) (c.args.bytes.now)
    _ c.from_residual.ensures (λ x h e.
    elim (with_moves (link_text x.0) x.1.now c.args.bytes.now h.1 e) [
      | inl p ↦ c.in_err-link-in-None.ensures x.0 h.0 p
      | inr p ↦ not_parted 32 (link_text x.0) (spaced (codes "moves") x.1.now) c.args.bytes.now c.in-None.ensures.none p.1
    ])

pub returns-in_err-link-in-Some : goal.returns-in_err-link-in-Some
returns-in_err-link-in-Some c =
    reads_none (λ x. and_more (link_text x.0) (moves_text x.1.now)) (λ x. IsLink x.0 × AreMoves x.1.now) (c.args.bytes.now)
    _ c.from_residual-in_err-link-in-Some.ensures (λ x h e.
    elim (with_moves (link_text x.0) x.1.now c.args.bytes.now h.1 e) [
      | inl p ↦
          not_parted 32 c.in-Some.first.now c.in-Some.rest.now (link_text x.0) (link_lacks x.0 h.0) (sym c.in-Some.ensures.joined ∙ sym p)
      | inr p ↦
          c.in_err-link-in-Some.ensures x.0 h.0
          (parts_agree 32 (link_text x.0) (spaced (codes "moves") x.1.now) c.in-Some.first.now c.in-Some.rest.now c.args.bytes.now
          (link_lacks x.0 h.0) c.in-Some.ensures.first c.in-Some.ensures.joined p.1).0
    ])

pub returns-in_err-ends-in-Some : goal.returns-in_err-ends-in-Some
returns-in_err-ends-in-Some c =
    reads_none (λ x. and_more (link_text x.0) (moves_text x.1.now)) (λ x. IsLink x.0 × AreMoves x.1.now) (c.args.bytes.now)
    _ c.from_residual-in_err-ends-in-Some.ensures (λ x h e.
    elim (with_moves (link_text x.0) x.1.now c.args.bytes.now h.1 e) [
      | inl p ↦
          not_parted 32 c.in-Some.first.now c.in-Some.rest.now (link_text x.0) (link_lacks x.0 h.0) (sym c.in-Some.ensures.joined ∙ sym p)
      | inr p ↦
          c.in_err-ends-in-Some.ensures x.1 p.0
          ((parts_agree 32 (link_text x.0) (spaced (codes "moves") x.1.now) c.in-Some.first.now c.in-Some.rest.now c.args.bytes.now
          (link_lacks x.0 h.0) c.in-Some.ensures.first c.in-Some.ensures.joined p.1).1)
    ])

pub returns-in_ok-ends-in-Some : goal.returns-in_ok-ends-in-Some
returns-in_ok-ends-in-Some c =
    let ends = c.in_ok-ends-in-Some in
    let h =
    link_and_ends c.in-Some.first.now ends.ends.now c.in-Some.rest.now c.args.bytes.now ends.ensures.0 (sym ends.ensures.1)
    c.in-Some.ensures.joined in
    let e : link_text c.in_ok-link-in-Some.link ≡ c.in-Some.first.now = c.in_ok-link-in-Some.ensures.1 in
    ((c.in_ok-link-in-Some.ensures.0, h.0), rw e h.1)
