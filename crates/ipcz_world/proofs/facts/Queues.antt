-- What a queue's reach says, what a map without entries weighs, and whose an out queue is.
use Rattle.std.specs.Prelude.{◌≡◌, ◌≤◌, ◌<◌, ℕ, true, Option, Some, None, is_some, option_map, refl}
use Rattle.std.proofs.Common.{arith, sym, ◌∙◌, ap}
use Rattle.std.specs.Ordering.{nat_cmp}
use Rattle.std.specs.Cmp.{nat_cmp_total}
use Rattle.std.specs.FinMap.{FinMap, nat_cmp-IsAntisymmetric, get, empty, entries, get-entries, get-empty, same_map}
use Rattle.ipcz_world.proofs.Vocabulary.{total, Item, Queue, Router, item_at, reach}
use Rattle.std.proofs.lemmas.Option.{none-some, same_Some}
use Rattle.ipcz_base.proofs.Totals.{total-empty, total-remove}
use Rattle.ipcz_world.proofs.facts.Reaching.{filled}

-- from the current number up to the reach each number has its item
pub reach_filled : {T : Type 0} (q : Queue T) (m : ℕ) → q.current ≤ m → m < reach q → is_some (item_at q m) ≡ true
unfolding reach
reach_filled q m a b = ap is_some (get-entries q.items m) ∙ filled (entries q.items) q.current m a b

-- a map that finds nothing weighs nothing
pub total-none : {X : Type 0} (f : ℕ → X → ℕ) (m : FinMap nat_cmp X) → ((n : ℕ) → get m n ≡ None) → total f m ≡ 0
total-none {X} f m h = ap (total f) (same_map nat_cmp_total nat_cmp-IsAntisymmetric m empty (λ q. h q ∙ sym (get-empty nat_cmp q))) ∙
    total-empty nat_cmp f

-- a map has at least the weight of each of its entries
pub total-at : {X : Type 0} (f : ℕ → X → ℕ) (m : FinMap nat_cmp X) (n : ℕ) (x : X) → get m n ≡ Some x → f n x ≤ total f m
total-at f m n x h = omega (arith, total-remove nat_cmp nat_cmp_total nat_cmp-IsAntisymmetric f m n x h)

-- a router that may stand somewhere does, and this is its out queue
pub record HasOutQueue (m : Option Router) (q : Queue Item) : Type 0 where
  pub router : Router
  pub there : m ≡ Some router
  pub queue : router.out_queue ≡ q

pub out_queue_of : (m : Option Router) (q : Queue Item) → option_map (λ u. u.out_queue) m ≡ Some q → HasOutQueue m q
out_queue_of None q e = absurd (none-some q e)
out_queue_of (Some u) q e = record { router = u; there = refl; queue = same_Some _ _ e }
