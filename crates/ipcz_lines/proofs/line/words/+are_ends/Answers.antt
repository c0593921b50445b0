use Rattle.std.proofs.Common.{sym, ◌∙◌}
use Rattle.std.proofs.lemmas.Bool.{false≢true}
use Rattle.ipcz_lines.specs.LineParts.{IsEndText}
use Rattle.ipcz_lines.proofs.Lacking.{end_lacks_comma}
use Rattle.ipcz_lines.proofs.Parting.{parted_more, parted_none, parted_whole}
use Rattle.ipcz_lines.proofs.line.words.+are_ends.Goals as goal

pub returns-in-None : goal.returns-in-None
returns-in-None t c = parted_whole IsEndText 44 c.args.text.now c.is_end.result c.in-None.ensures.none c.is_end.ensures

pub returns-then-is_end : goal.returns-then-is_end
returns-then-is_end t c =
    parted_more IsEndText 44 end_lacks_comma c.in-Some.first.now c.in-Some.rest.now c.args.text.now c.are_ends.result
    (c.is_end-in-Some.ensures.0 c.if-is_end.true) c.in-Some.ensures.first c.are_ends.ensures c.in-Some.ensures.joined

pub returns-else-is_end : goal.returns-else-is_end
returns-else-is_end t c =
    let refuted =
    parted_none IsEndText 44 end_lacks_comma c.in-Some.first.now c.in-Some.rest.now c.args.text.now c.is_end-in-Some.result
    c.is_end-in-Some.ensures c.if-is_end.false c.in-Some.ensures.first c.in-Some.ensures.joined in
    (λ h. absurd (false≢true (sym c.if-is_end.false ∙ h)), λ h. absurd (refuted h))
