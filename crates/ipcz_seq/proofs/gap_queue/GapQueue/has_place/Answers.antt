use Rattle.std.proofs.Common.{ℕ, List, true, refl, ap, ◌∙◌, ◌≡◌, ◌≤◌, arith, Result, Ok, Err, MatchResult, nat_le}
use Rattle.std.specs.Prelude.{IsSome, is_err}
use Rattle.std.specs.Ordering.{nat_cmp}
use Rattle.std.specs.Cmp.{nat_cmp_total}
use Rattle.std.specs.FinMap.{get-from_entries, find}
use Rattle.std.proofs.lemmas.Bool.Decides.{nat_tests}
use Rattle.ipcz_seq.specs.Queue.{has_place}
use Rattle.ipcz_seq.specs.Pairs.{AreWaiting, IsPlaceFor, queue_of}
use Rattle.ipcz_seq.proofs.Pairs.{waiting_from, none_at_place}
use Rattle.ipcz_seq.proofs.gap_queue.GapQueue.has_place.Goals as goal

pub place_of-requires : goal.place_of-requires
place_of-requires g c = waiting_from 0 _ _ (omega arith) c.self.invariant

-- a number from the current one on has its place if the search doesn't find it
placed : {T : Type 0} (c n : ℕ) (es : List (ℕ × T)) (r : Result ℕ ℕ) → AreWaiting c es → c ≤ n →
    MatchResult r (λ _. IsSome (find nat_cmp n es)) (IsPlaceFor n es) → is_err r ≡ has_place (queue_of es c) n
placed c n es (Ok k) w from found = let up : nat_le c n ≡ true = grind (arith, nat_tests) in
    rw (up, get-from_entries nat_cmp_total es n, found) refl
placed c n es (Err k) w from place = let up : nat_le c n ≡ true = grind (arith, nat_tests) in
    rw (up, get-from_entries nat_cmp_total es n, none_at_place c n es k w place) refl

pub returns-then-self-n : goal.returns-then-self-n
returns-then-self-n g c =
    c.is_err.ensures.value
    ∙ placed c.self.inside.current c.args.n c.self.inside.pairs.items _ c.self.invariant c.if-self-n.true c.place_of.ensures.place
    ∙ ap (λ v. has_place v.queue c.args.n) c.self.view_is
