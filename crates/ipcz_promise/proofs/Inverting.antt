-- What the reply to a caller tells of its step: it was done, or refused and why.
use Rattle.std.specs.Prelude.{◌≡◌, ◌⊎◌, ◌≤◌, ◌<◌, ℕ, Bool, true, false, nat_lt, if◌then◌else◌, Option, Some, None, refl}
use Rattle.std.proofs.Common.{arith, inl, inr}
use Rattle.std.proofs.lemmas.Bool.Decides.{nat_tests}
use Rattle.ipcz_world.proofs.Vocabulary.{Refusal, World, unless}
use Rattle.ipcz_world.specs.declared.step.Reply.{Reply}
use Rattle.ipcz_base.specs.declared.refusal.Refusal.TheVariants.{Stranger}
use Rattle.ipcz_world.specs.declared.step.Reply.TheVariants as replies
use Rattle.ipcz_world.specs.Steps.{Effect, Gives, at_node, is_refused, refuse}

-- nothing refused it
pub record IsDone (w : World) (n : ℕ) (o : Option Refusal) (done : Effect) (reply : Reply) (v : World) : Type 0 where
  pub inside : n < w.count
  pub fine : o ≡ None
  pub says : reply ≡ done.reply
  pub world : v ≡ done.world

-- it was refused: the node isn't there, or for the reason given
pub record IsRefused (w : World) (n : ℕ) (o : Option Refusal) (reply : Reply) (v : World) : Type 0 where
  pub why : Refusal
  pub says : reply ≡ replies.Refused why
  pub world : v ≡ w
  pub because : ((w.count ≤ n) × (why ≡ Stranger)) ⊎ ((n < w.count) × (o ≡ Some why))

pub call-cases : (w : World) (n : ℕ) (o : Option Refusal) (done : Effect) (reply : Reply) (v : World) →
    Gives (at_node w n (unless w o done)) reply v → IsDone w n o done reply v ⊎ IsRefused w n o reply v
unfolding unless
call-cases w n o done reply v gives = go (nat_lt n w.count) o refl refl gives
  where
    go : (c : Bool) (x : Option Refusal) → nat_lt n w.count ≡ c → o ≡ x → Gives (if c then unless w x done else refuse w Stranger) reply v →
        IsDone w n o done reply v ⊎ IsRefused w n o reply v
    go false x e f (p, q) =
        inr (record { why = Stranger; says = p; world = q; because = inl (grind (arith, e, nat_tests), refl) })
    go true None e f (p, q) = inl (record { inside = grind (arith, e, nat_tests); fine = f; says = p; world = q })
    go true (Some why) e f (p, q) =
        inr (record { why = why; says = p; world = q; because = inr (grind (arith, e, nat_tests), f) })

-- a call that isn't refused is one at a node that is there
pub unrefused-inside : (w : World) (n : ℕ) (done : Effect) → is_refused (at_node w n done).reply ≡ false → n < w.count
unfolding is_refused
unrefused-inside w n done h = go (nat_lt n w.count) refl h
  where
    go : (c : Bool) → nat_lt n w.count ≡ c → is_refused (if c then done else refuse w Stranger).reply ≡ false → n < w.count
    go true e h = grind (arith, e, nat_tests)
    go false e h = cc

-- and nothing refused it
pub unrefused-call : (w : World) (n : ℕ) (o : Option Refusal) (done : Effect) → is_refused (at_node w n (unless w o done)).reply ≡ false →
    (n < w.count) × (o ≡ None)
unfolding is_refused unless
unrefused-call w n o done h = (unrefused-inside w n (unless w o done) h, go (nat_lt n w.count) o h)
  where
    go : (c : Bool) (x : Option Refusal) → is_refused (if c then unless w x done else refuse w Stranger).reply ≡ false → x ≡ None
    go c None h = refl
    go true (Some why) h = cc
    go false (Some why) h = cc
