use Rattle.std.proofs.lemmas.Bool.{false≢true}
use Rattle.std.proofs.Common.{IfNone, ◌∙◌, sym, subst}
use Rattle.std.specs.List.{All}
use Rattle.ipcz_lines.specs.Lines.{BeginsWithNoLine, IsPrintable}
use Rattle.ipcz_lines.proofs.Forms.{line_ends}
use Rattle.ipcz_lines.proofs.line.reading.first_line.Goals as goal

pub returns-then-not-are_printable-clause-none : goal.returns-then-not-are_printable-clause-none
returns-then-not-are_printable-clause-none c =
    λ x behind h e.
    false≢true
    (sym c.if-not-are_printable.true ∙ c.are_printable.ensures.1
    (subst (All IsPrintable)
    (line_ends x behind c.in_ok-text.text.now c.in_ok-text.rest.now c.args.bytes.now h c.in_ok-text.ensures.first
    c.in_ok-text.ensures.joined e) h.prints))

pub returns-in_err-line-clause-none : goal.returns-in_err-line-clause-none
returns-in_err-line-clause-none c =
    subst (λ r. IfNone r (BeginsWithNoLine c.args.bytes.now)) (sym c.from_residual-in_err-line.ensures) (λ x behind h e.
    c.in_err-line.ensures x.line h.fits
    (h.spelled ∙ line_ends x behind c.in_ok-text.text.now c.in_ok-text.rest.now c.args.bytes.now h c.in_ok-text.ensures.first
    c.in_ok-text.ensures.joined e))
