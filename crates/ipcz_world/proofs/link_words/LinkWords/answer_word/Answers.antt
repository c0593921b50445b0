use Rattle.std.proofs.Common.{◌≡◌, ap, ◌∙◌}
use Rattle.ipcz_world.proofs.Vocabulary.{place_at, Word, empty_word, WordTable, word_answer}
use Rattle.ipcz_word.specs.Layout.{word_of_bits}
use Rattle.ipcz_world.specs.Coding.{put_word, side_answer, side_after}
use Rattle.ipcz_world.specs.WordAnswers.{word_after}
use Rattle.ipcz_world.proofs.code.Tables.{laid, read_word, write_word}
use Rattle.ipcz_world.proofs.link_words.LinkWords.answer_word.Goals as goal

-- the word that is read is that of the table
read : (c : goal.After-self-1) → word_of_bits c.index.result.now ≡ place_at empty_word c.args.self.now.words c.args.i
read c =
    let l = laid c.self.inside.bits.items c.self.inside.size c.args.i c.args.self.now c.self.view_is c.requires.within in
    read_word c.self.inside.bits.items c.self.inside.size c.args.i c.index.result.now l c.index.ensures
    ∙ ap (λ (t : WordTable). place_at empty_word t.words c.args.i) c.self.view_is

pub returns-clause-answer : goal.returns-clause-answer
unfolding side_answer
returns-clause-answer c = c.answer_act-answered.ensures.answer ∙ ap (λ x. word_answer x c.args.side c.args.source c.args.act) (read c)

pub returns-clause-table : goal.returns-clause-table
unfolding side_after
returns-clause-table c =
    let l = laid c.self.inside.bits.items c.self.inside.size c.args.i c.args.self.now c.self.view_is c.requires.within in
    let after : Word = word_after (place_at empty_word c.args.self.now.words c.args.i) c.args.side c.args.source c.args.act in
    write_word c.self.inside.bits.items c.self.inside.size c.args.i c.answer_act-answered.result.word after l
    (c.answer_act-answered.ensures.word ∙ ap (λ x. word_after x c.args.side c.args.source c.args.act) (read c))
    ∙ ap (λ t. put_word t c.args.i after) c.self.view_is
