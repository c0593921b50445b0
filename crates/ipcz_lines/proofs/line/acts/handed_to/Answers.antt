use Rattle.std.proofs.lemmas.Bool.{false≢true}
use Rattle.std.proofs.Common.{◌∙◌, codes, sym, ap, inl, inr}
use Rattle.ipcz_lines.specs.LineParts.{fate_text, kind_text, link_text}
use Rattle.ipcz_lines.specs.Lines.{IsEvent, event_text, spaced}
use Rattle.ipcz_lines.proofs.Lacking.{not_parted, parts_agree, reads_none}
use Rattle.ipcz_lines.proofs.Forms.{handed_only, kinds_agree, link_lacks}
use Rattle.ipcz_lines.proofs.line.acts.handed_to.Goals as goal

pub returns-in_err-link-in-None : goal.returns-in_err-link-in-None
returns-in_err-link-in-None c =
    reads_none event_text IsEvent (spaced (codes "hand") (spaced (kind_text c.args.kind) c.args.bytes.now))
    _ c.from_residual.ensures (λ x h e.
    let s = handed_only x (spaced (kind_text c.args.kind) c.args.bytes.now) h e in elim s.text [
      | inl p ↦
          (let k = kinds_agree s.kind c.args.kind (link_text s.link) c.args.bytes.now s.is_kind c.requires p in
          c.in_err-link-in-None.ensures s.link s.is_link k.1)
      | inr p ↦
          (let k = kinds_agree s.kind c.args.kind (spaced (link_text s.link) (fate_text s.kind)) c.args.bytes.now s.is_kind c.requires p
          in not_parted 32 (link_text s.link) (fate_text s.kind) c.args.bytes.now c.in-None.ensures.none k.1)
    ])

pub returns-in_err-link-in-Some : goal.returns-in_err-link-in-Some
returns-in_err-link-in-Some c =
    reads_none event_text IsEvent (spaced (codes "hand") (spaced (kind_text c.args.kind) c.args.bytes.now))
    _ c.from_residual-in_err-link-in-Some.ensures (λ x h e.
    let s = handed_only x (spaced (kind_text c.args.kind) c.args.bytes.now) h e in elim s.text [
      | inl p ↦
          (let k = kinds_agree s.kind c.args.kind (link_text s.link) c.args.bytes.now s.is_kind c.requires p in not_parted 32
          c.in-Some.first.now c.in-Some.fate.now (link_text s.link) (link_lacks s.link s.is_link)
          (sym c.in-Some.ensures.joined ∙ sym k.1))
      | inr p ↦
          (let k = kinds_agree s.kind c.args.kind (spaced (link_text s.link) (fate_text s.kind)) c.args.bytes.now s.is_kind c.requires p
          in c.in_err-link-in-Some.ensures s.link s.is_link
          (parts_agree 32 (link_text s.link) (fate_text s.kind) c.in-Some.first.now c.in-Some.fate.now c.args.bytes.now
          (link_lacks s.link s.is_link) c.in-Some.ensures.first c.in-Some.ensures.joined k.1).0)
    ])

pub returns-in-Some-2 : goal.returns-in-Some-2
returns-in-Some-2 c =
    λ x h e. let s = handed_only x (spaced (kind_text c.args.kind) c.args.bytes.now) h e in elim s.text [
      | inl p ↦
          (let k = kinds_agree s.kind c.args.kind (link_text s.link) c.args.bytes.now s.is_kind c.requires p in not_parted 32
          c.in-Some.first.now c.in-Some.fate.now (link_text s.link) (link_lacks s.link s.is_link)
          (sym c.in-Some.ensures.joined ∙ sym k.1))
      | inr p ↦
          (let k = kinds_agree s.kind c.args.kind (spaced (link_text s.link) (fate_text s.kind)) c.args.bytes.now s.is_kind c.requires p
          in absurd
          (false≢true
          (sym c.if-is_fate.false ∙ c.is_fate.ensures.1
          (ap fate_text (sym k.0) ∙
          (parts_agree 32 (link_text s.link) (fate_text s.kind) c.in-Some.first.now c.in-Some.fate.now c.args.bytes.now
          (link_lacks s.link s.is_link) c.in-Some.ensures.first c.in-Some.ensures.joined k.1).1))))
    ]
