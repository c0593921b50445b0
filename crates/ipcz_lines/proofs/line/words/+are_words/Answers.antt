use Rattle.std.proofs.Common.{sym, ◌∙◌}
use Rattle.std.proofs.lemmas.Bool.{false≢true}
use Rattle.ipcz_lines.specs.LineParts.{IsWordText}
use Rattle.ipcz_lines.proofs.Lacking.{word_lacks_space}
use Rattle.ipcz_lines.proofs.Parting.{parted_more, parted_none, parted_whole}
use Rattle.ipcz_lines.proofs.line.words.+are_words.Goals as goal

pub returns-in-None : goal.returns-in-None
returns-in-None t c = parted_whole IsWordText 32 c.args.text.now c.is_word.result c.in-None.ensures.none c.is_word.ensures

pub returns-then-is_word : goal.returns-then-is_word
returns-then-is_word t c =
    parted_more IsWordText 32 word_lacks_space c.in-Some.first.now c.in-Some.rest.now c.args.text.now c.are_words.result
    (c.is_word-in-Some.ensures.0 c.if-is_word.true) c.in-Some.ensures.first c.are_words.ensures c.in-Some.ensures.joined

pub returns-else-is_word : goal.returns-else-is_word
returns-else-is_word t c =
    let refuted =
    parted_none IsWordText 32 word_lacks_space c.in-Some.first.now c.in-Some.rest.now c.args.text.now c.is_word-in-Some.result
    c.is_word-in-Some.ensures c.if-is_word.false c.in-Some.ensures.first c.in-Some.ensures.joined in
    (λ h. absurd (false≢true (sym c.if-is_word.false ∙ h)), λ h. absurd (refuted h))
