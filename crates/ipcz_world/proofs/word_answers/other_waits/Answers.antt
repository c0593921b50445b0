use Rattle.std.proofs.Common.{sym}
use Rattle.ipcz_word.specs.Layout.{word_of_bits}
use Rattle.ipcz_word.specs.Word.{wake}
use Rattle.ipcz_world.proofs.code.WordNumbers.{waits-changes, kept}
use Rattle.ipcz_world.proofs.word_answers.other_waits.Goals as goal

pub returns : goal.returns
returns c = sym (waits-changes c.args.word c.take_waiting.result c.args.side c.requires
    (kept c.args.word c.take_waiting.result (wake (word_of_bits c.args.word) c.args.side)
    c.requires c.take_waiting.ensures.valid c.take_waiting.ensures.moved c.take_waiting.ensures.is) c.take_waiting.ensures.moved)
