use Rattle.std.proofs.Common.{ℕ, List, true, length, nat_le, refl, sym, ap, ◌∙◌, ◌≡◌, ◌≤◌, arith}
use Rattle.std.specs.Cmp.{nat_cmp_total}
use Rattle.std.specs.FinMap.{get-from_entries}
use Rattle.std.proofs.lemmas.Bool.Decides.{nat_tests}
use Rattle.ipcz_seq.specs.Queue.{has_place}
use Rattle.ipcz_seq.specs.Last.{last_of, last_entry, is_above}
use Rattle.ipcz_seq.specs.Pairs.{AreWaiting, IsPlaceFor, queue_of}
use Rattle.ipcz_seq.proofs.Pairs.{none_at_place}
use Rattle.ipcz_seq.proofs.Last.{entries-from_entries, place_behind}
use Rattle.ipcz_seq.proofs.gap_queue.GapQueue.takes_behind.Goals as goal

-- a number from the current one on has its place behind the last pair
placed : {T : Type 0} (c n : ℕ) (es : List (ℕ × T)) → AreWaiting c es → c ≤ n → IsPlaceFor n es (length es) →
    has_place (queue_of es c) n ≡ true
placed c n es w from place = let up : nat_le c n ≡ true = grind (arith, nat_tests) in
    rw (up, get-from_entries nat_cmp_total es n, none_at_place c n es (length es) w place) refl

pub returns-clause-place : goal.returns-clause-place
returns-clause-place g c above =
    let es = c.self.inside.pairs.items in
    let from = c.self.inside.current in
    sym (ap (λ v. has_place v.queue c.args.n) c.self.view_is) ∙
    placed from c.args.n es c.self.invariant c.if-self-n.false (place_behind from c.args.n es c.self.invariant
    (ap (λ xs. is_above (last_of xs) c.args.n) (sym (entries-from_entries from es c.self.invariant))
    ∙ ap (λ v. is_above (last_entry v.queue) c.args.n) c.self.view_is ∙ sym c.is_above_last.ensures ∙ above))
