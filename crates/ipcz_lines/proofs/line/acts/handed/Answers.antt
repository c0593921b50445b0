use Rattle.std.proofs.Common.{◌∙◌, codes, inl, inr}
use Rattle.std.specs.Fmt.{decimal}
use Rattle.ipcz_lines.specs.LineParts.{fate_text, kind_text, link_text}
use Rattle.ipcz_lines.specs.Lines.{IsEvent, event_text, spaced}
use Rattle.ipcz_lines.proofs.Lacking.{not_parted, parts_agree, reads_none, unlike, alike}
use Rattle.ipcz_lines.proofs.Forms.{handed_only, kind_word, no_item, number_lacks}
use Rattle.ipcz_lines.proofs.line.acts.handed.Goals as goal

pub returns-in_err-rest : goal.returns-in_err-rest
returns-in_err-rest c =
    reads_none event_text IsEvent (spaced (codes "hand") c.args.bytes.now) _ c.from_residual.ensures (λ x h e.
    let s = handed_only x c.args.bytes.now h e in elim s.text [
      | inl p ↦ not_parted 32 (kind_text s.kind) (link_text s.link) c.args.bytes.now c.in_err-rest.ensures.none p
      | inr p ↦
          not_parted 32 (kind_text s.kind) (spaced (link_text s.link) (fate_text s.kind)) c.args.bytes.now c.in_err-rest.ensures.none p
    ])

pub returns-in_err-first : goal.returns-in_err-first
returns-in_err-first c =
    reads_none event_text IsEvent (spaced (codes "hand") c.args.bytes.now) _ c.from_residual-in_err-first.ensures (λ x h e.
    let s = handed_only x c.args.bytes.now h e in elim s.text [
      | inl p ↦
          elim (kind_word s.kind (link_text s.link) c.in_ok-rest.field-0.0.now c.in_ok-rest.field-0.1.now s.is_kind
          c.in_ok-rest.ensures.first (p ∙ c.in_ok-rest.ensures.joined)) [
            | inl q ↦
                not_parted 32 (decimal q.1) (link_text s.link) c.in_ok-rest.field-0.1.now c.in_err-first.ensures.none q.4
            | inr q ↦ no_item
                s.kind (q.0 ∙ alike _ _ (codes "item") c.if-eq.ensures c.as_slice.ensures)
          ]
      | inr p ↦
          elim (kind_word s.kind (spaced (link_text s.link) (fate_text s.kind)) c.in_ok-rest.field-0.0.now c.in_ok-rest.field-0.1.now
          s.is_kind c.in_ok-rest.ensures.first (p ∙ c.in_ok-rest.ensures.joined)) [
            | inl q ↦
                not_parted 32 (decimal q.1) (spaced (link_text s.link) (fate_text s.kind)) c.in_ok-rest.field-0.1.now
                c.in_err-first.ensures.none q.4
            | inr q ↦ no_item s.kind (q.0 ∙ alike _ _ (codes "item") c.if-eq.ensures c.as_slice.ensures)
          ]
    ])

pub returns-in_err-number : goal.returns-in_err-number
returns-in_err-number c =
    reads_none event_text IsEvent (spaced (codes "hand") c.args.bytes.now) _ c.from_residual-in_err-number.ensures (λ x h e.
    let s = handed_only x c.args.bytes.now h e in elim s.text [
      | inl p ↦
          elim (kind_word s.kind (link_text s.link) c.in_ok-rest.field-0.0.now c.in_ok-rest.field-0.1.now s.is_kind
          c.in_ok-rest.ensures.first (p ∙ c.in_ok-rest.ensures.joined)) [
            | inl q ↦
                c.in_err-number.ensures q.1 q.2
                (parts_agree 32 (decimal q.1) (link_text s.link) c.in_ok-first.first.now c.in_ok-first.rest.now c.in_ok-rest.field-0.1.now
                (number_lacks q.1 q.2) c.in_ok-first.ensures.first c.in_ok-first.ensures.joined q.4).0
            | inr q ↦ no_item s.kind
                (q.0 ∙ alike _ _ (codes "item") c.if-eq.ensures c.as_slice.ensures)
          ]
      | inr p ↦
          elim (kind_word s.kind (spaced (link_text s.link) (fate_text s.kind)) c.in_ok-rest.field-0.0.now c.in_ok-rest.field-0.1.now
          s.is_kind c.in_ok-rest.ensures.first (p ∙ c.in_ok-rest.ensures.joined)) [
            | inl q ↦
                c.in_err-number.ensures q.1 q.2
                (parts_agree 32 (decimal q.1) (spaced (link_text s.link) (fate_text s.kind)) c.in_ok-first.first.now c.in_ok-first.rest.now
                c.in_ok-rest.field-0.1.now (number_lacks q.1 q.2) c.in_ok-first.ensures.first c.in_ok-first.ensures.joined q.4).0
            | inr q ↦
                no_item s.kind (q.0 ∙ alike _ _ (codes "item") c.if-eq.ensures c.as_slice.ensures)
          ]
    ])

pub returns-in_err-kind : goal.returns-in_err-kind
returns-in_err-kind c =
    reads_none event_text IsEvent (spaced (codes "hand") c.args.bytes.now) _ c.from_residual-in_err-kind.ensures (λ x h e.
    let s = handed_only x c.args.bytes.now h e in elim s.text [
      | inl p ↦
          elim (kind_word s.kind (link_text s.link) c.in_ok-rest.field-0.0.now c.in_ok-rest.field-0.1.now s.is_kind
          c.in_ok-rest.ensures.first (p ∙ c.in_ok-rest.ensures.joined)) [
            | inl q ↦
                unlike _ _ (codes "item") c.if-eq.ensures c.as_slice.ensures q.0
            | inr q ↦ c.in_err-kind.ensures s.kind s.is_kind q.0
          ]
      | inr p ↦
          elim (kind_word s.kind (spaced (link_text s.link) (fate_text s.kind)) c.in_ok-rest.field-0.0.now c.in_ok-rest.field-0.1.now
          s.is_kind c.in_ok-rest.ensures.first (p ∙ c.in_ok-rest.ensures.joined)) [
            | inl q ↦
                unlike _ _ (codes "item") c.if-eq.ensures c.as_slice.ensures q.0
            | inr q ↦ c.in_err-kind.ensures s.kind s.is_kind q.0
          ]
    ])
