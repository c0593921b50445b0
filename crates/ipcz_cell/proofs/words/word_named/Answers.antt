use Rattle.std.proofs.Common.{sym, ◌∙◌}
use Rattle.ipcz_cell.proofs.Wording.{word_there, can_word}
use Rattle.ipcz_cell.proofs.words.word_named.Goals as goal

pub unreachable-requires : goal.unreachable-requires
unreachable-requires c = word_there c.args.state.now.node c.args.serial c.args.act c.requires.on_word c.requires.possible c.requires.serials (sym c.word_of.ensures ∙ c.in_default.is)

pub returns-clause-can : goal.returns-clause-can
returns-clause-can c = can_word c.args.state.now.node c.args.serial _ _ c.args.act c.requires.possible c.requires.serials (sym c.word_of.ensures ∙ c.in-Some.is)
