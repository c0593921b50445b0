use Rattle.std.proofs.Common.{codes}
use Rattle.ipcz_lines.specs.LineParts.{link_text, way_text}
use Rattle.ipcz_lines.specs.Lines.{IsAct, act_text, spaced}
use Rattle.ipcz_lines.proofs.Lacking.{not_parted, parts_agree, reads_none}
use Rattle.ipcz_lines.proofs.Forms.{finished_only, way_lacks}
use Rattle.ipcz_lines.proofs.line.acts.finished.Goals as goal

pub returns-in_err-first : goal.returns-in_err-first
returns-in_err-first c =
    reads_none act_text IsAct (spaced (codes "finish") c.args.bytes.now) _ c.from_residual.ensures (λ x h e.
    let s = finished_only x c.args.bytes.now h e in
    not_parted 32 (way_text s.way) (link_text s.link) c.args.bytes.now c.in_err-first.ensures.none s.text)

pub returns-in_err-way : goal.returns-in_err-way
returns-in_err-way c =
    reads_none act_text IsAct (spaced (codes "finish") c.args.bytes.now) _ c.from_residual-in_err-way.ensures (λ x h e.
    let s = finished_only x c.args.bytes.now h e in
    c.in_err-way.ensures s.way tt
    (parts_agree 32 (way_text s.way) (link_text s.link) c.in_ok-first.first.now c.in_ok-first.rest.now c.args.bytes.now
    (way_lacks s.way) c.in_ok-first.ensures.first c.in_ok-first.ensures.joined s.text).0)

pub returns-in_err-link : goal.returns-in_err-link
returns-in_err-link c =
    reads_none act_text IsAct (spaced (codes "finish") c.args.bytes.now) _ c.from_residual-in_err-link.ensures (λ x h e.
    let s = finished_only x c.args.bytes.now h e in
    c.in_err-link.ensures s.link s.is_link
    (parts_agree 32 (way_text s.way) (link_text s.link) c.in_ok-first.first.now c.in_ok-first.rest.now c.args.bytes.now
    (way_lacks s.way) c.in_ok-first.ensures.first c.in_ok-first.ensures.joined s.text).1)
