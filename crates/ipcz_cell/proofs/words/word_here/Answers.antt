use Rattle.std.proofs.Common.{ap, sym, ◌∙◌}
use Rattle.ipcz_node.specs.Node.{Node, word_side}
use Rattle.ipcz_cell.proofs.Wording.{word_there, can_word}
use Rattle.ipcz_cell.proofs.words.word_here.Goals as goal

pub unreachable-requires : goal.unreachable-requires
unreachable-requires c = let bad = c.in_default.ensures.grows c.requires.grows in cc

pub unreachable-requires-in_default-word_of : goal.unreachable-requires-in_default-word_of
unreachable-requires-in_default-word_of c = word_there c.args.state.now.node c.args.serial c.args.act c.requires.on_word c.requires.possible c.in-Ok.ensures.allowed (ap (λ (z : Node). word_side z c.args.serial) (sym c.prepare.ensures.node) ∙ (sym c.word_of.ensures ∙ c.in_default-word_of.is))

pub returns-clause-can : goal.returns-clause-can
returns-clause-can c = can_word c.args.state.now.node c.args.serial _ _ c.args.act c.requires.possible c.in-Ok.ensures.allowed (ap (λ (z : Node). word_side z c.args.serial) (sym c.prepare.ensures.node) ∙ (sym c.word_of.ensures ∙ c.in-Some.is))
