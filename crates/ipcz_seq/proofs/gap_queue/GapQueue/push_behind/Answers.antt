use Rattle.std.proofs.Common.{ℕ, List, ap, sym, ◌∙◌, ◌≡◌, ◌≤◌, ◌&&◌, Bool, arith, true, false, refl, true≢false, length, nat_le}
use Rattle.std.specs.Prelude.{insert}
use Rattle.std.specs.FinMap as map
use Rattle.std.proofs.lemmas.Bool.Decides.{nat_tests}
use Rattle.std.proofs.lemmas.List.Edits.{insert_end}
use Rattle.ipcz_seq.specs.Queue.{push_at}
use Rattle.ipcz_seq.specs.Last.{last_of, is_above, goes_behind}
use Rattle.ipcz_seq.specs.Pairs.{AreWaiting, IsPlaceFor, queue_of}
use Rattle.ipcz_seq.proofs.Pairs.{waiting_with, from_entries-insert}
use Rattle.ipcz_seq.proofs.Last.{entries-from_entries, place_behind}
use Rattle.ipcz_seq.proofs.gap_queue.GapQueue.push_behind.Given as given
use Rattle.ipcz_seq.proofs.gap_queue.GapQueue.push_behind.Goals as goal

first_of : (a b : Bool) → (a && b) ≡ true → a ≡ true
first_of true b h = refl
first_of false b h = h

second_of : (a b : Bool) → (a && b) ≡ true → b ≡ true
second_of true b h = h
second_of false b h = absurd (true≢false (sym h))

-- a number that goes behind all that are there is no less than the current one, and its place is behind the last pair
from_behind : {T : Type 0} (es : List (ℕ × T)) (c n : ℕ) → goes_behind (queue_of es c) n ≡ true → c ≤ n
from_behind es c n behind = let up : nat_le c n ≡ true = first_of _ _ behind in grind (arith, nat_tests, up)

place_of_behind : {T : Type 0} (es : List (ℕ × T)) (c n : ℕ) → AreWaiting c es → goes_behind (queue_of es c) n ≡ true →
    IsPlaceFor n es (length es)
place_of_behind es c n w behind = place_behind c n es w
    (ap (λ xs. is_above (last_of xs) n) (sym (entries-from_entries c es w)) ∙ second_of _ _ behind)

-- the pair comes behind the last one
pushed : (g : given.Over) (c : goal.After-push_back_reserved g) →
    c.push_back_reserved.new.self.items ≡ insert c.self.inside.pairs.items (length c.self.inside.pairs.items) (c.args.n, c.args.item)
pushed g c = c.push_back_reserved.ensures.items ∙ sym (insert_end c.self.inside.pairs.items (c.args.n, c.args.item))

behind_of : (g : given.Over) (c : goal.After-push_back_reserved g) →
    goes_behind (queue_of c.self.inside.pairs.items c.self.inside.current) c.args.n ≡ true
behind_of g c = ap (λ q. goes_behind q.queue c.args.n) c.self.view_is ∙ c.requires.behind

pub invariant_of-self : goal.invariant_of-self
invariant_of-self g c =
    rw (pushed g c) (waiting_with _ _ _ _ _ c.self.invariant (place_of_behind _ _ _ c.self.invariant (behind_of g c))
    (from_behind _ _ _ (behind_of g c)) c.requires.number)

pub returns-clause-queue : goal.returns-clause-queue
returns-clause-queue g c =
    ap (λ m. record { items = m; current = c.self.inside.current })
    (ap map.from_entries (pushed g c) ∙ from_entries-insert _ _ _ _ (place_of_behind _ _ _ c.self.invariant (behind_of g c)))
    ∙ ap (λ q. push_at q.queue c.args.n c.args.item) c.self.view_is
