use Rattle.std.proofs.Common.{◌++◌, ◌∷◌, ◌<◌, List, [], length, arith, sym, subst, ◌∙◌}
use Rattle.std.proofs.lemmas.List.{with_items_is}
use Rattle.std.proofs.lemmas.Result.{on_ok_weaker}
use Rattle.ipcz_verdict.specs.declared.entry.Entry.{Entry}
use Rattle.ipcz_verdict.specs.Searches.{HasEntries, IsWith, left_of}
use Rattle.ipcz_verdict.proofs.Searching.{pushed}
use Rattle.ipcz_verdict.proofs.search.Logs.push.Goals as goal

pub returns : goal.returns
returns c = record {
  more = λ entries has.
      let here : HasEntries c.deref_mut.result.now entries = subst (λ (q : List (List Entry)). HasEntries q entries) (sym (c.deref_mut.ensures.value ∙ c.self.view_is)) has in
      let less : c.args.entry.log < length c.deref_mut.result.now = omega (arith, c.requires, here.count) in
      on_ok_weaker c.push_back.result
      (λ (is : IsWith c.deref_mut.result.now c.args.entry.log (left_of c.deref_mut.result.now c.args.entry.log ++ c.args.entry ∷ []) c.push_back.new.left).
      subst (λ (q : List (List Entry)). HasEntries q (entries ++ c.args.entry ∷ []))
      (sym (with_items_is c.self.inside.queues c.push_back.new.left (c.push_back.auto.left ∙ c.deref_mut.ensures.len)))
      (pushed c.deref_mut.result.now c.push_back.new.left entries c.args.entry here is))
      (c.push_back.ensures less);
}
