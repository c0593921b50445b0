use Rattle.std.proofs.lemmas.Bool.{false≢true}
use Rattle.std.proofs.Common.{◌∙◌, codes, refl, sym, subst}
use Rattle.ipcz_lines.specs.LineParts.{IsName}
use Rattle.ipcz_lines.specs.Lines.{FitsLine, line_text, opened_text, spaced}
use Rattle.ipcz_lines.proofs.Lacking.{name_lacks, not_parted, parts_agree, reads_none}
use Rattle.ipcz_lines.proofs.Forms.{opened_only}
use Rattle.ipcz_lines.proofs.line.reading.opened.Goals as goal
use Rattle.ipcz_lines.proofs.line.reading.opened.Goals.{then-not-is_name-via-then-not-is_name}
use Rattle.ipcz_lines.proofs.line.reading.opened.Goals.{then-not-is_name-via-else-not-is_name+then-not-is_name-2}

pub returns-in_err-first : goal.returns-in_err-first
returns-in_err-first c =
    reads_none line_text FitsLine (spaced (codes "open") c.args.bytes.now) _ c.from_residual.ensures (λ x h e.
    let s = opened_only x c.args.bytes.now h e in
    not_parted 32 s.first (spaced s.second (opened_text s.why)) c.args.bytes.now c.in_err-first.ensures.none s.text)

pub returns-in_err-second : goal.returns-in_err-second
returns-in_err-second c =
    reads_none line_text FitsLine (spaced (codes "open") c.args.bytes.now) _ c.from_residual-in_err-second.ensures (λ x h e.
    let s = opened_only x c.args.bytes.now h e in
    let q =
    parts_agree 32 s.first (spaced s.second (opened_text s.why)) c.in_ok-first.first.now c.in_ok-first.rest.now c.args.bytes.now
    (name_lacks 32 s.first s.is_first refl) c.in_ok-first.ensures.first c.in_ok-first.ensures.joined s.text in
    not_parted 32 s.second (opened_text s.why) c.in_ok-first.rest.now c.in_err-second.ensures.none q.1)

pub returns-then-not-is_name : goal.returns-then-not-is_name
returns-then-not-is_name c =
    λ x h e.
    let s = opened_only x c.args.bytes.now h e in
    let q =
    parts_agree 32 s.first (spaced s.second (opened_text s.why)) c.in_ok-first.first.now c.in_ok-first.rest.now c.args.bytes.now
    (name_lacks 32 s.first s.is_first refl) c.in_ok-first.ensures.first c.in_ok-first.ensures.joined s.text in
    let r =
    parts_agree 32 s.second (opened_text s.why) c.in_ok-second.second.now c.in_ok-second.why.now c.in_ok-first.rest.now
    (name_lacks 32 s.second s.is_second refl) c.in_ok-second.ensures.first c.in_ok-second.ensures.joined q.1 in
    elim c.then-not-is_name.branch [
      | then-not-is_name-via-then-not-is_name w ↦ false≢true (sym w.if-not-is_name.true ∙ c.is_name.ensures.1 (subst IsName q.0 s.is_first))
      | then-not-is_name-via-else-not-is_name+then-not-is_name-2 w ↦
          false≢true (sym w.if-not-is_name-2.true ∙ w.is_name-else-not-is_name.ensures.1 (subst IsName r.0 s.is_second))
    ]

pub returns-in_err-opening : goal.returns-in_err-opening
returns-in_err-opening c =
    reads_none line_text FitsLine (spaced (codes "open") c.args.bytes.now) _ c.from_residual-in_err-opening.ensures (λ x h e.
    let s = opened_only x c.args.bytes.now h e in
    let q =
    parts_agree 32 s.first (spaced s.second (opened_text s.why)) c.in_ok-first.first.now c.in_ok-first.rest.now c.args.bytes.now
    (name_lacks 32 s.first s.is_first refl) c.in_ok-first.ensures.first c.in_ok-first.ensures.joined s.text in
    let r =
    parts_agree 32 s.second (opened_text s.why) c.in_ok-second.second.now c.in_ok-second.why.now c.in_ok-first.rest.now
    (name_lacks 32 s.second s.is_second refl) c.in_ok-second.ensures.first c.in_ok-second.ensures.joined q.1 in
    c.in_err-opening.ensures s.why tt r.1)
