use Rattle.std.proofs.Common.{◌∙◌}
use Rattle.ipcz_events.proofs.FirstWords.{word_parted, word_whole}
use Rattle.ipcz_events.proofs.naming.parted.Goals as goal

pub returns-in-Some-clause-first : goal.returns-in-Some-clause-first
returns-in-Some-clause-first c =
    (word_parted c.in-Some.parts.0.now c.in-Some.parts.1.now c.args.text.now c.in-Some.ensures.first c.in-Some.ensures.joined).0

pub returns-in-Some-clause-behind : goal.returns-in-Some-clause-behind
returns-in-Some-clause-behind c =
    (word_parted c.in-Some.parts.0.now c.in-Some.parts.1.now c.args.text.now c.in-Some.ensures.first c.in-Some.ensures.joined).1

pub returns-in-None-clause-first : goal.returns-in-None-clause-first
returns-in-None-clause-first c = (word_whole c.args.text.now c.in-None.ensures.none).0

pub returns-in-None-clause-behind : goal.returns-in-None-clause-behind
returns-in-None-clause-behind c = c.as_slice.ensures ∙ (word_whole c.args.text.now c.in-None.ensures.none).1
