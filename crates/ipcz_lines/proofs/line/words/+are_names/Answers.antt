use Rattle.std.proofs.Common.{refl}
use Rattle.std.proofs.Common.{sym, ◌∙◌}
use Rattle.std.proofs.lemmas.Bool.{false≢true}
use Rattle.ipcz_lines.specs.LineParts.{IsName}
use Rattle.ipcz_lines.proofs.Lacking.{name_lacks}
use Rattle.ipcz_lines.proofs.Parting.{parted_more, parted_none, parted_whole}
use Rattle.ipcz_lines.proofs.line.words.+are_names.Goals as goal

pub returns-in-None : goal.returns-in-None
returns-in-None t c = parted_whole IsName 44 c.args.text.now c.is_name.result c.in-None.ensures.none c.is_name.ensures

pub returns-then-is_name : goal.returns-then-is_name
returns-then-is_name t c =
    parted_more IsName 44 (λ text h. name_lacks 44 text h refl) c.in-Some.first.now c.in-Some.rest.now c.args.text.now c.are_names.result
    (c.is_name-in-Some.ensures.0 c.if-is_name.true) c.in-Some.ensures.first c.are_names.ensures c.in-Some.ensures.joined

pub returns-else-is_name : goal.returns-else-is_name
returns-else-is_name t c =
    let refuted =
    parted_none IsName 44 (λ text h. name_lacks 44 text h refl) c.in-Some.first.now c.in-Some.rest.now c.args.text.now
    c.is_name-in-Some.result c.is_name-in-Some.ensures c.if-is_name.false c.in-Some.ensures.first c.in-Some.ensures.joined in
    (λ h. absurd (false≢true (sym c.if-is_name.false ∙ h)), λ h. absurd (refuted h))
