use Rattle.std.proofs.Common.{◌-◌, ap, sym, subst, ◌∙◌, arith}
use Rattle.std.specs.Slice.{IsGetResult}
use Rattle.ipcz_seq.specs.Last.{last_of, last_entry}
use Rattle.ipcz_seq.proofs.Last.{entries-from_entries, back-is, last-none}
use Rattle.ipcz_seq.proofs.Pairs.{equal}
use Rattle.ipcz_seq.proofs.gap_queue.GapQueue.last.Goals as goal

pub returns-then-is_empty : goal.returns-then-is_empty
returns-then-is_empty g c =
    let q = c.self.inside.pairs in
    let empty = equal _ _ (sym c.is_empty.ensures ∙ c.if-is_empty.true) in
    sym (last-none q.items (omega (arith, empty, q.ok.0))) ∙
    ap last_of (sym (entries-from_entries c.self.inside.current q.items c.self.invariant)) ∙ ap (λ q. last_entry q.queue) c.self.view_is

pub returns : goal.returns
returns g c =
    let q = c.self.inside.pairs in
    back-is q.items c.back.result (subst (λ n. IsGetResult q.items 0 (n - 1) c.back.result) q.ok.0 c.back.ensures.item) ∙
    ap last_of (sym (entries-from_entries c.self.inside.current q.items c.self.invariant)) ∙ ap (λ q. last_entry q.queue) c.self.view_is
