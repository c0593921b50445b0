use Rattle.std.proofs.Common.{ℕ, List, ap, sym, ◌∙◌, ◌≡◌, ◌≤◌, arith, true, length}
use Rattle.std.specs.Prelude.{insert}
use Rattle.std.specs.FinMap as map
use Rattle.std.proofs.lemmas.Bool.Decides.{nat_tests}
use Rattle.std.proofs.lemmas.List.Edits.{insert_end}
use Rattle.ipcz_seq.specs.Queue.{has_place, push_at}
use Rattle.ipcz_seq.specs.Pairs.{queue_of}
use Rattle.ipcz_seq.proofs.Pairs.{waiting_from, waiting_with, from_entries-insert}
use Rattle.ipcz_seq.proofs.gap_queue.GapQueue.push_ready.Given as given
use Rattle.ipcz_seq.proofs.gap_queue.GapQueue.push_ready.Goals as goal

pub place_of-requires : goal.place_of-requires
place_of-requires g c = waiting_from 0 _ _ (omega arith) c.self.invariant

-- a number that has its place is no less than the current one
from_place : {T : Type 0} (es : List (ℕ × T)) (c n : ℕ) → has_place (queue_of es c) n ≡ true → c ≤ n
from_place es c n placed = grind (arith, nat_tests, placed)

-- a pair that comes behind the last one is inserted there
pushed : (g : given.Over) (c : goal.After-push_back_reserved g) →
    c.push_back_reserved.new.self.items ≡ insert c.self.inside.pairs.items c.in-Err.place (c.args.n, c.args.item)
pushed g c =
    let at : c.in-Err.place ≡ length c.self.inside.pairs.items =
    omega (arith, c.if-place-len.true, c.len.ensures, c.self.inside.pairs.ok.0) in
    c.push_back_reserved.ensures.items ∙ sym (insert_end c.self.inside.pairs.items (c.args.n, c.args.item))
    ∙ ap (λ i. insert c.self.inside.pairs.items i (c.args.n, c.args.item)) (sym at)

pub invariant_of-self : goal.invariant_of-self
invariant_of-self g c =
    let from = from_place c.self.inside.pairs.items c.self.inside.current c.args.n
    (ap (λ q. has_place q.queue c.args.n) c.self.view_is ∙ c.requires.place) in
    rw (pushed g c) (waiting_with _ _ _ _ _ c.self.invariant c.in-Err.ensures.place from c.requires.number)

pub returns-then-place-len-clause-queue : goal.returns-then-place-len-clause-queue
returns-then-place-len-clause-queue g c =
    ap (λ m. record { items = m; current = c.self.inside.current })
    (ap map.from_entries (pushed g c) ∙ from_entries-insert _ _ _ _ c.in-Err.ensures.place)
    ∙ ap (λ q. push_at q.queue c.args.n c.args.item) c.self.view_is
