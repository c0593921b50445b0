use Rattle.std.proofs.Common.{◌≡◌, ℕ, List, ap, sym, ◌∙◌, ◌+◌, true, true≢false, is_some, arith}
use Rattle.std.specs.Cmp.{nat_cmp_total}
use Rattle.std.specs.Ordering.{nat_cmp}
use Rattle.std.specs.FinMap.{find, from_entries, get-from_entries}
use Rattle.std.specs.FinMap as map
use Rattle.ipcz_seq.specs.Queue.{current_item, pop_front}
use Rattle.ipcz_seq.specs.Pairs.{queue_of}
use Rattle.ipcz_seq.proofs.Pairs.{find-same, find-empty, first_is_current, from_entries-rest}
use Rattle.ipcz_seq.proofs.gap_queue.GapQueue.pop_ready.Given as given
use Rattle.ipcz_seq.proofs.gap_queue.GapQueue.pop_ready.Goals as goal

-- a pair has the current number if its item has come
come : {T : Type 0} (es : List (ℕ × T)) (n : ℕ) → is_some (current_item (queue_of es n)) ≡ true → is_some (find nat_cmp n es) ≡ true
come es n is = ap is_some (sym (get-from_entries nat_cmp_total es n)) ∙ is

pub unreachable-requires : goal.unreachable-requires
unreachable-requires g c =
    let gone = find-empty c.self.inside.current c.self.inside.pairs.items
    (omega (arith, c.in_default.ensures.cases.0, c.self.inside.pairs.ok.0)) in
    true≢false (sym (come _ _ (ap (λ q. is_some (current_item q.queue)) c.self.view_is ∙ c.requires)) ∙ ap is_some gone)

-- the pair that was taken has it
first : (g : given.Over) (c : goal.After-self-1 g) → c.in-Some.n ≡ c.self.inside.current
first g c = first_is_current c.self.inside.current (c.in-Some.n, c.in-Some.item) c.pop_front.new.self.items
    c.self.inside.pairs.items c.in-Some.ensures.items c.self.invariant
    (come _ _ (ap (λ q. is_some (current_item q.queue)) c.self.view_is ∙ c.requires))

pub invariant_of-self : goal.invariant_of-self
invariant_of-self g c = (rw c.in-Some.ensures.items at c.self.invariant).2

pub returns-clause-item : goal.returns-clause-item
returns-clause-item g c =
    let e : ℕ × g.row.T.Denot = (c.in-Some.n, c.in-Some.item) in
    sym (find-same c.self.inside.current e c.pop_front.new.self.items (sym (first g c)))
    ∙ ap (find nat_cmp c.self.inside.current) (sym c.in-Some.ensures.items)
    ∙ sym (get-from_entries nat_cmp_total c.self.inside.pairs.items c.self.inside.current)
    ∙ ap (λ q. current_item q.queue) c.self.view_is

pub returns-clause-queue : goal.returns-clause-queue
returns-clause-queue g c =
    let e : ℕ × g.row.T.Denot = (c.in-Some.n, c.in-Some.item) in
    ap (λ k. record { items = from_entries c.pop_front.new.self.items; current = k + 1 }) (first g c)
    ∙ ap (λ m. record { items = m; current = c.self.inside.current + 1 })
    (from_entries-rest c.self.inside.current e c.pop_front.new.self.items (rw c.in-Some.ensures.items at c.self.invariant) (first g c)
    ∙ ap (λ es. map.remove (from_entries es) c.self.inside.current) (sym c.in-Some.ensures.items))
    ∙ ap (λ q. pop_front q.queue) c.self.view_is
