-- A turn that has taken the first act, or what stands in for it, or was refused it, is a step.
use Rattle.std.specs.Prelude.{◌≡◌, ◌⊎◌, ◌<◌, ℕ, Bool, true, false, nat_lt, if◌then◌else◌, Ok, Err}
use Rattle.std.proofs.Common.{arith, ap, sym, refl, inl, inr, ◌∙◌}
use Rattle.std.proofs.lemmas.Bool.Decides.{nat_tests}
use Rattle.ipcz_world.proofs.Vocabulary.{Refusal, Act, World, after_act, unless, Happened, Turn, turn_event, turn_lacks_serials, Effect, refuse}
use Rattle.ipcz_world.proofs.Vocabulary.{turn_step}
use Rattle.ipcz_base.specs.declared.refusal.Refusal.TheVariants.{NumbersEnd, OutOfMemory}
use Rattle.ipcz_router.specs.declared.act.RouterAct.TheVariants as acts
use Rattle.ipcz_node.specs.declared.act.Act.TheVariants.{Router as OfRouter}
use Rattle.ipcz_node.specs.Acts.{stand_in}
use Rattle.ipcz_world.specs.declared.step.Reply.TheVariants.{Turned, Refused}
use Rattle.ipcz_world.specs.Turns.{turn_grows}
use Rattle.ipcz_world.specs.Steps.{is_refused, FirstAct, Gives, StepFirst}
use Rattle.ipcz_world.specs.Taking.{IsTaken, ToldTurn}

module _ {X : Type 0} (tells : Happened → X → Type 0) (w : World) (n : ℕ) (act : Act) (here : n < w.count) where
  done : Effect
  done = record { reply = Turned (turn_event w n act); world = after_act w n act }

  effect : (c : Bool) → turn_lacks_serials w n act ≡ c → turn_step w n act ≡
      (if c then refuse w NumbersEnd else record { reply = Turned (turn_event w n act); world = after_act w n act })
  unfolding unless
  effect true e = let h : nat_lt n w.count ≡ true = grind (arith, here, nat_tests) in rw (h, e) refl
  effect false e = let h : nat_lt n w.count ≡ true = grind (arith, here, nat_tests) in rw (h, e) refl

  -- an act that was taken
  pub step-taken : (v : World) (told : X) → FirstAct w n act → IsTaken tells w n act (Ok told) v → ToldTurn tells w n told v
  step-taken v told first is =
      let e = effect false is.allowed in (
        turn_event w n act,
        is.event,
        (act, first, inl (ap (λ (x : Effect). x.reply) (sym e), is.done ∙ ap (λ (x : Effect). x.world) (sym e))),
      )

  -- an act that was refused, and for which nothing stands in
  pub step-refused : (v : World) (why : Refusal) → FirstAct w n act → (act ≡ stand_in act) ⊎ (why ≡ NumbersEnd) →
      IsTaken tells w n act (Err why) v → StepFirst w (Turn n) (Refused why) v
  unfolding is_refused
  step-refused v why first alone is = go (turn_lacks_serials w n act) (turn_grows w n act) refl refl alone
    where
      go : (c g : Bool) → turn_lacks_serials w n act ≡ c → turn_grows w n act ≡ g → (act ≡ stand_in act) ⊎ (why ≡ NumbersEnd) →
          StepFirst w (Turn n) (Refused why) v
      go true g e k alone =
          let z = effect true e in
          let because : why ≡ NumbersEnd = is.why ∙ ap (λ c. if c then NumbersEnd else OutOfMemory) e in
          (act, first, inl (ap Refused because ∙ ap (λ (x : Effect). x.reply) (sym z), is.left ∙ ap (λ (x : Effect). x.world) (sym z)))
      go false false e k alone = absurd (let no : false ≡ true = is.grows k e in cc)
      go false true e k (inr x) = absurd (let because : why ≡ OutOfMemory = is.why ∙ ap (λ c. if c then NumbersEnd else OutOfMemory) e in
          cc)
      go false true e k (inl x) =
          let z = effect false e in
          let because : why ≡ OutOfMemory = is.why ∙ ap (λ c. if c then NumbersEnd else OutOfMemory) e in
          (act, first, inr (k, x, ap (λ (x : Effect). is_refused x.reply) z, (ap Refused because, is.left)))

  -- an act that was refused for want of memory makes something grow
  pub refused-grows : (v : World) (why : Refusal) → (why ≡ NumbersEnd → ⊥) → IsTaken tells w n act (Err why) v → turn_grows w n act ≡ true
  refused-grows v why other is = go (turn_lacks_serials w n act) (turn_grows w n act) refl refl
    where
      go : (c g : Bool) → turn_lacks_serials w n act ≡ c → turn_grows w n act ≡ g → g ≡ true
      go true g e k = absurd (other (is.why ∙ ap (λ c. if c then NumbersEnd else OutOfMemory) e))
      go false true e k = refl
      go false false e k = is.grows k e

-- nothing stands in for what stands in
pub stands-alone : (act : Act) → stand_in act ≡ stand_in (stand_in act)
unfolding stand_in
stands-alone (OfRouter s acts.Begin) = refl
stands-alone (OfRouter s acts.Retire) = refl
stands-alone other = refl

-- a turn that was taken gives what its step says
pub turn-taken : (w : World) (n : ℕ) (act : Act) → n < w.count → (v : World) (event : Happened) →
    IsTaken (λ (event told : Happened). told ≡ event) w n act (Ok event) v → Gives (turn_step w n act) (Turned event) v
turn-taken w n act here v event is =
    let e = effect (λ (event told : Happened). told ≡ event) w n act here false is.allowed in
    (ap Turned is.event ∙ ap (λ (x : Effect). x.reply) (sym e), is.done ∙ ap (λ (x : Effect). x.world) (sym e))

-- so does one that is refused for want of serials
pub turn-ended : {X : Type 0} (tells : Happened → X → Type 0) (w : World) (n : ℕ) (act : Act) → n < w.count → (v : World) (why : Refusal) →
    IsTaken tells w n act (Err why) v → why ≡ NumbersEnd → Gives (turn_step w n act) (Refused why) v
turn-ended tells w n act here v why is ends = go (turn_lacks_serials w n act) refl
  where
    go : (c : Bool) → turn_lacks_serials w n act ≡ c → Gives (turn_step w n act) (Refused why) v
    go true e =
        let z = effect tells w n act here true e in
        (ap Refused ends ∙ ap (λ (x : Effect). x.reply) (sym z), is.left ∙ ap (λ (x : Effect). x.world) (sym z))
    go false e = absurd (let because : why ≡ OutOfMemory = is.why ∙ ap (λ c. if c then NumbersEnd else OutOfMemory) e in cc)
