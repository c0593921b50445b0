-- The promise, kept: by each step, at rest, and at the start.
use Rattle.std.specs.Prelude.{◌≡◌, ℕ, refl}
use Rattle.std.proofs.Common.{◌∙◌, sym}
use Rattle.ipcz_world.specs.declared.step.Step.{Step}
use Rattle.ipcz_world.specs.declared.step.Reply.{Reply}
use Rattle.ipcz_world.specs.World.{World, new_world}
use Rattle.ipcz_world.specs.Books.{advance, no_books}
use Rattle.ipcz_world.specs.Steps.{StepAny}
use Rattle.ipcz_world.specs.Lawful.{IsWithinLimits}
use Rattle.ipcz_promise.specs.Promise.{Account, May, start}
use Rattle.ipcz_promise.specs.Accounting.{Keeps, StepsKeepThePromise, RestDelivers}
use Rattle.ipcz_promise.proofs.Promised.{steps_stand}
use Rattle.ipcz_promise.proofs.Resting.{rest_delivers}
use Rattle.ipcz_promise.proofs.Start.{starts_standing}
use Rattle.ipcz_promise.proofs.WordCount.{may-words, size-step}

-- by books that go on with each step
pub steps_keep_books : (w v : World) (a : Account) (step : Step) (reply : Reply) (k : Keeps w a) → StepAny w step reply v →
    (c : Account) × May a step reply c × (t : Keeps v c) × (t.stands.books ≡ advance w k.stands.books step reply)
steps_keep_books w v a step reply k s =
    let t = steps_stand w v a step reply k.stands s in
    let kept : Keeps v t.0 = record { stands = t.2; words = may-words a t.0 step reply t.1 ∙ k.words ∙ sym (size-step w v step reply s) } in
    (t.0, t.1, kept, t.3)

pub steps_keep_the_promise : StepsKeepThePromise
steps_keep_the_promise w v a step reply k s = let t = steps_keep_books w v a step reply k s in (t.0, t.1, t.2)

pub a_rest_delivers : RestDelivers
a_rest_delivers w v a n at k quiet s = rest_delivers w v a k.stands n at quiet s

-- at the start by books in which nothing stands
pub starts_with_no_books : (nodes words : ℕ) → IsWithinLimits nodes words →
    (t : Keeps (new_world nodes words) (start nodes words)) × (t.stands.books ≡ no_books)
unfolding new_world
starts_with_no_books nodes words limits =
    let t = starts_standing nodes words limits in
    let kept : Keeps (new_world nodes words) (start nodes words) = record { stands = t.0; words = refl } in
    (kept, t.1)

pub starts_promised : (nodes words : ℕ) → IsWithinLimits nodes words → Keeps (new_world nodes words) (start nodes words)
starts_promised nodes words limits = (starts_with_no_books nodes words limits).0
