use Rattle.std.proofs.Common.{List, subst}
use Rattle.ipcz_verdict.specs.declared.entry.Entry.{Entry}
use Rattle.ipcz_verdict.specs.Searches.{IsOfNext}
use Rattle.ipcz_verdict.proofs.Counting.{stuck_here}
use Rattle.ipcz_verdict.proofs.search.Search.stuck.Goals as goal

pub returns : goal.returns
returns c = λ nodes profile entries stack was. stuck_here nodes profile entries c.args.self.now.order.items c.args.self.now.left.items c.least_next.result stack
    (subst (λ (q : List (List Entry)). IsOfNext q c.least_next.result) c.deref.ensures.value c.least_next.ensures)
