use Rattle.std.proofs.lemmas.Bool.{false≢true}
use Rattle.std.proofs.Common.{◌∙◌, refl, sym, subst}
use Rattle.ipcz_lines.specs.LineParts.{IsAnswer, IsName, answer_text}
use Rattle.ipcz_lines.specs.Lines.{spaced}
use Rattle.ipcz_lines.proofs.Lacking.{name_lacks, not_parted, parts_agree, reads_none}
use Rattle.ipcz_lines.proofs.line.reading.name_and_answer.Goals as goal

pub returns-in_err-name : goal.returns-in_err-name
returns-in_err-name c =
    reads_none (λ x. spaced x.0.now (answer_text x.1)) (λ x. IsName x.0.now × IsAnswer x.1) (c.args.bytes.now)
    _ c.from_residual.ensures (λ x h e.
    not_parted 32 x.0.now (answer_text x.1) c.args.bytes.now c.in_err-name.ensures.none e)

pub returns-then-not-is_name : goal.returns-then-not-is_name
returns-then-not-is_name c =
    λ x h e.
    false≢true
    (sym c.if-not-is_name.true ∙ c.is_name.ensures.1
    (subst IsName
    (parts_agree 32 x.0.now (answer_text x.1) c.in_ok-name.name.now c.in_ok-name.rest.now c.args.bytes.now
    (name_lacks 32 x.0.now h.0 refl) c.in_ok-name.ensures.first c.in_ok-name.ensures.joined e).0 h.0))

pub returns-in_err-answer : goal.returns-in_err-answer
returns-in_err-answer c =
    reads_none (λ x. spaced x.0.now (answer_text x.1)) (λ x. IsName x.0.now × IsAnswer x.1) (c.args.bytes.now)
    _ c.from_residual-in_err-answer.ensures (λ x h e.
    c.in_err-answer.ensures x.1 h.1
    (parts_agree 32 x.0.now (answer_text x.1) c.in_ok-name.name.now c.in_ok-name.rest.now c.args.bytes.now
    (name_lacks 32 x.0.now h.0 refl) c.in_ok-name.ensures.first c.in_ok-name.ensures.joined e).1)
