use Rattle.std.proofs.Common.{◌≡◌, ◌++◌, drop}
use Rattle.ipcz_script.specs.Lines.{words_text}
use Rattle.ipcz_script.proofs.lines.push_words.Given as goal

-- what is written, and the words that are left, are all of it
abbrev pub invariant-loop-word : goal.invariant-loop-word
invariant-loop-word l = l.out.items ++ words_text (drop l.word-index l.words) ≡ l.fn.out.items ++ words_text l.words
