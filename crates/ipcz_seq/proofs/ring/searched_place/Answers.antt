use Rattle.std.proofs.Common.{rules}
use Rattle.std.proofs.lemmas.List.Sorted.{answers_always}
use Rattle.ipcz_seq.proofs.ring.searched_place.Goals as goal

pub returns-clause-position : goal.returns-clause-position
returns-clause-position g c = c.binary_search_by_key.ensures.position (λ e. e.0) (answers_always _ _ _ (λ f a r h called. search rules))
