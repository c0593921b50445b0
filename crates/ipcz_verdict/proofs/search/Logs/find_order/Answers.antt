use Rattle.std.proofs.Common.{List, sym, subst}
use Rattle.ipcz_verdict.specs.declared.entry.Entry.{Entry}
use Rattle.ipcz_verdict.specs.declared.search.Taken.{Taken}
use Rattle.ipcz_verdict.specs.Searches.{HasEntries, IsSearch}
use Rattle.ipcz_verdict.proofs.Searching.{start}
use Rattle.ipcz_verdict.proofs.search.Logs.find_order.Goals as goal

pub returns : goal.returns
returns c = record {
  found = λ entries has. c.run.ensures entries
      (subst (λ (ts : List Taken). IsSearch c.args.nodes c.args.profile entries c.in_ok-new.field-0 ts c.self.inside.queues.items 0) (sym c.new-2.ensures.items)
      (start c.args.nodes c.args.profile entries c.in_ok-new.field-0 c.self.inside.queues.items (subst (λ (q : List (List Entry)). HasEntries q entries) (sym c.self.view_is) has) c.in_ok-new.ensures.nothing))
      c.new-2.ensures.items;
}
