use Rattle.ipcz_promise.proofs.Growing.{words-promised, words-claimed, words-quiet}
use Rattle.ipcz_promise.proofs.calls.add_words.Goals as goal

pub returns-clause-promise : goal.returns-clause-promise
returns-clause-promise c = words-promised _ _ c.args.count c.add_words.result c.add_words.ensures.more c.add_words.ensures.lawful

pub returns-clause-claimed : goal.returns-clause-claimed
returns-clause-claimed c = words-claimed _ _ _ c.add_words.result c.add_words.ensures.more c.add_words.ensures.err

pub returns-clause-quiet : goal.returns-clause-quiet
returns-clause-quiet c = words-quiet _ _ _ c.add_words.result c.add_words.ensures.more c.add_words.ensures.err
