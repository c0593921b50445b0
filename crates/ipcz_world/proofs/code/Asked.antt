-- An act that is asked for by name and taken is a step of the world, whichever possible act it is.
use Rattle.std.specs.Prelude.{◌≡◌, ◌<◌, ℕ, true, false, nat_lt, Some, Result, Ok, Err, IfOk, OnErr}
use Rattle.std.proofs.Common.{arith, ap, sym, subst, refl, inl, ◌∙◌}
use Rattle.std.proofs.lemmas.Bool.Decides.{nat_tests}
use Rattle.ipcz_node.specs.declared.act.Act.{Act}
use Rattle.ipcz_world.proofs.Vocabulary.{World, Books, after_act, node_at, unless, Happened, Turn, advance, Lawful, IsLawful, Routes, routes_after}
use Rattle.ipcz_world.proofs.Vocabulary.{Effect, StepAny, turn_step, IsRegular, turn_event, turn_lacks_serials}
use Rattle.ipcz_world.specs.declared.step.NotTaken.{NotTaken}
use Rattle.ipcz_world.specs.declared.step.Reply.TheVariants.{Turned}
use Rattle.ipcz_world.specs.Asking.{IsActed}
use Rattle.ipcz_world.specs.Plain.{Plain}
use Rattle.ipcz_world.proofs.Whole.{each_step_keeps_lawful, replies_plainly}

-- the sender of the message in a node's hand is a node
pub hand_of_node : (w : World) (n sender : ℕ) → IsRegular w → n < w.count → (node_at w n).hand ≡ Some sender → sender < w.count
hand_of_node w n sender is here e = (is.sound n here).hand sender e

module _ (w v : World) (n : ℕ) (act : Act) where
  effect : n < w.count → turn_lacks_serials w n act ≡ false →
      turn_step w n act ≡ record { reply = Turned (turn_event w n act); world = after_act w n act }
  unfolding unless
  effect here e = let h : nat_lt n w.count ≡ true = grind (arith, here, nat_tests) in rw (h, e) refl

  pub acted-step : (event : Happened) → IsActed w n act event v → StepAny w (Turn n) (Turned event) v
  acted-step event is =
      let e = effect is.node is.serials in (
        act,
        λ here. is.possible,
        inl (ap Turned is.seen ∙ ap (λ (x : Effect). x.reply) (sym e), is.after ∙ ap (λ (x : Effect). x.world) (sym e)),
      )

  module _ (r : Result Happened NotTaken) (acted : IfOk r (λ event. IsActed w n act event v)) where
    go-step : (r : Result Happened NotTaken) → IfOk r (λ event. IsActed w n act event v) → IfOk r (λ event. StepAny w (Turn n) (Turned event) v)
    go-step (Ok event) is = acted-step event is
    go-step (Err why) is = tt

    pub acted-steps : IfOk r (λ event. StepAny w (Turn n) (Turned event) v)
    acted-steps = go-step r acted

    go-keeps : (r : Result Happened NotTaken) → IfOk r (λ event. StepAny w (Turn n) (Turned event) v) →
        IfOk r (λ event. (b : Books) → (g : Routes) → Lawful w b g →
        Lawful v (advance w b (Turn n) (Turned event)) (routes_after w g (Turn n) (Turned event)))
    go-keeps (Ok event) is = λ b g law. each_step_keeps_lawful w v b g (Turn n) (Turned event) law is
    go-keeps (Err why) is = tt

    pub acted-keeps : IfOk r (λ event. (b : Books) → (g : Routes) → Lawful w b g →
        Lawful v (advance w b (Turn n) (Turned event)) (routes_after w g (Turn n) (Turned event)))
    acted-keeps = go-keeps r acted-steps

    go-plain : (r : Result Happened NotTaken) → IfOk r (λ event. StepAny w (Turn n) (Turned event) v) →
        IfOk r (λ event. (b : Books) → (g : Routes) → Lawful w b g → Plain b (Turn n) (Turned event) (advance w b (Turn n) (Turned event)))
    go-plain (Ok event) is = λ b g law. replies_plainly w v b g (Turn n) (Turned event) law is
    go-plain (Err why) is = tt

    pub acted-plainly : IfOk r (λ event. (b : Books) → (g : Routes) → Lawful w b g →
        Plain b (Turn n) (Turned event) (advance w b (Turn n) (Turned event)))
    acted-plainly = go-plain r acted-steps

    go-lawful : (r : Result Happened NotTaken) → IfOk r (λ event. StepAny w (Turn n) (Turned event) v) → OnErr r (v ≡ w) → IsLawful w → IsLawful v
    go-lawful (Ok event) is same law = record {
      books = advance w law.books (Turn n) (Turned event);
      routes = routes_after w law.routes (Turn n) (Turned event);
      lawful = each_step_keeps_lawful w v law.books law.routes (Turn n) (Turned event) law.lawful is;
    }
    go-lawful (Err why) is same law = subst IsLawful (sym same) law

    pub acted-lawful : OnErr r (v ≡ w) → IsLawful w → IsLawful v
    acted-lawful = go-lawful r acted-steps
