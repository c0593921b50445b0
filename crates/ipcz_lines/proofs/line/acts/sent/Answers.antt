use Rattle.std.proofs.Common.{codes}
use Rattle.std.specs.Fmt.{decimal}
use Rattle.ipcz_lines.specs.LineParts.{link_text, way_text}
use Rattle.ipcz_lines.specs.Lines.{IsAct, act_text, and_more, moves_text, spaced}
use Rattle.ipcz_lines.proofs.Lacking.{not_parted, parts_agree, reads_none}
use Rattle.ipcz_lines.proofs.Forms.{number_lacks, sent_only, way_lacks}
use Rattle.ipcz_lines.proofs.line.acts.sent.Goals as goal

pub returns-in_err-second : goal.returns-in_err-second
returns-in_err-second c =
    reads_none act_text IsAct (spaced (codes "send") c.args.bytes.now) _ c.from_residual-in_err-second.ensures (λ x h e.
    let s = sent_only x c.args.bytes.now h e in
    let q =
    parts_agree 32 (way_text s.way) (spaced (decimal s.n) (and_more (link_text s.link) (moves_text s.moves.now)))
    c.in_ok-first.first.now c.in_ok-first.rest.now c.args.bytes.now (way_lacks s.way) c.in_ok-first.ensures.first
    c.in_ok-first.ensures.joined s.text in
    not_parted 32 (decimal s.n) (and_more (link_text s.link) (moves_text s.moves.now)) c.in_ok-first.rest.now c.in_err-second.ensures.none
    q.1)

pub returns-in_err-link : goal.returns-in_err-link
returns-in_err-link c =
    reads_none act_text IsAct (spaced (codes "send") c.args.bytes.now) _ c.from_residual-in_err-link.ensures (λ x h e.
    let s = sent_only x c.args.bytes.now h e in
    let q =
    parts_agree 32 (way_text s.way) (spaced (decimal s.n) (and_more (link_text s.link) (moves_text s.moves.now)))
    c.in_ok-first.first.now c.in_ok-first.rest.now c.args.bytes.now (way_lacks s.way) c.in_ok-first.ensures.first
    c.in_ok-first.ensures.joined s.text in
    let r =
    parts_agree 32 (decimal s.n) (and_more (link_text s.link) (moves_text s.moves.now)) c.in_ok-second.second.now
    c.in_ok-second.rest.now c.in_ok-first.rest.now (number_lacks s.n s.number) c.in_ok-second.ensures.first
    c.in_ok-second.ensures.joined q.1 in
    c.in_err-link.ensures (s.link, s.moves) (s.is_link, s.are_moves) r.1)

pub returns-in_err-way : goal.returns-in_err-way
returns-in_err-way c =
    reads_none act_text IsAct (spaced (codes "send") c.args.bytes.now) _ c.from_residual-in_err-way.ensures (λ x h e.
    let s = sent_only x c.args.bytes.now h e in
    let q =
    parts_agree 32 (way_text s.way) (spaced (decimal s.n) (and_more (link_text s.link) (moves_text s.moves.now)))
    c.in_ok-first.first.now c.in_ok-first.rest.now c.args.bytes.now (way_lacks s.way) c.in_ok-first.ensures.first
    c.in_ok-first.ensures.joined s.text in
    c.in_err-way.ensures s.way tt q.0)

pub returns-in_err-number : goal.returns-in_err-number
returns-in_err-number c =
    reads_none act_text IsAct (spaced (codes "send") c.args.bytes.now) _ c.from_residual-in_err-number.ensures (λ x h e.
    let s = sent_only x c.args.bytes.now h e in
    let q =
    parts_agree 32 (way_text s.way) (spaced (decimal s.n) (and_more (link_text s.link) (moves_text s.moves.now)))
    c.in_ok-first.first.now c.in_ok-first.rest.now c.args.bytes.now (way_lacks s.way) c.in_ok-first.ensures.first
    c.in_ok-first.ensures.joined s.text in
    let r =
    parts_agree 32 (decimal s.n) (and_more (link_text s.link) (moves_text s.moves.now)) c.in_ok-second.second.now
    c.in_ok-second.rest.now c.in_ok-first.rest.now (number_lacks s.n s.number) c.in_ok-second.ensures.first
    c.in_ok-second.ensures.joined q.1 in
    c.in_err-number.ensures s.n s.number r.0)
