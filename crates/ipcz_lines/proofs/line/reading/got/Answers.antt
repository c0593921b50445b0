use Rattle.std.proofs.lemmas.Bool.{false≢true}
use Rattle.std.proofs.Common.{◌∙◌, codes, refl, sym, subst, inl, inr}
use Rattle.std.specs.Fmt.{decimal}
use Rattle.ipcz_lines.specs.LineParts.{IsName}
use Rattle.ipcz_lines.specs.Lines.{FitsLine, line_text, spaced}
use Rattle.ipcz_lines.proofs.Lacking.{name_lacks, not_parted, parts_agree, reads_none}
use Rattle.ipcz_lines.proofs.Forms.{got_only}
use Rattle.ipcz_lines.proofs.line.reading.got.Goals as goal

pub returns-in_err-name : goal.returns-in_err-name
returns-in_err-name c =
    reads_none line_text FitsLine (spaced (codes "get") c.args.bytes.now) _ c.from_residual.ensures (λ x h e.
    let s = got_only x c.args.bytes.now h e in not_parted 32 s.name s.behind c.args.bytes.now c.in_err-name.ensures.none s.text)

pub returns-then-not-is_name : goal.returns-then-not-is_name
returns-then-not-is_name c =
    λ x h e.
    let s = got_only x c.args.bytes.now h e in
    let q =
    parts_agree 32 s.name s.behind c.in_ok-name.name.now c.in_ok-name.rest.now c.args.bytes.now (name_lacks 32 s.name s.is_name refl)
    c.in_ok-name.ensures.first c.in_ok-name.ensures.joined s.text in
    false≢true (sym c.if-not-is_name.true ∙ c.is_name.ensures.1 (subst IsName q.0 s.is_name))

pub returns-in_err-refusal-in-None : goal.returns-in_err-refusal-in-None
returns-in_err-refusal-in-None c =
    reads_none line_text FitsLine (spaced (codes "get") c.args.bytes.now) _ c.from_residual-in_err-refusal-in-None.ensures (λ x h e.
    let s = got_only x c.args.bytes.now h e in
    let q =
    parts_agree 32 s.name s.behind c.in_ok-name.name.now c.in_ok-name.rest.now c.args.bytes.now (name_lacks 32 s.name s.is_name refl)
    c.in_ok-name.ensures.first c.in_ok-name.ensures.joined s.text in
    elim s.got [
      | inl w ↦ c.in_err-refusal-in-None.ensures w.0 tt (w.1 ∙ q.1)
      | inr w ↦ not_parted 32 (decimal w.0) _ c.in_ok-name.rest.now c.in-None.ensures.none (w.5 ∙ q.1)
    ])
