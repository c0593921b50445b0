-- What steps of turns do to the accounts of the world that a table shows, and what a quiet table has delivered.
use Rattle.std.specs.Prelude.{◌≡◌, ◌<◌, ℕ, true, nat_lt, Some, refl}
use Rattle.std.proofs.Common.{arith, ap, ◌∙◌, sym}
use Rattle.std.proofs.lemmas.Bool.Decides.{nat_tests}
use Rattle.ipcz_base.specs.declared.end.End.{End}
use Rattle.ipcz_base.specs.declared.refusal.Refusal.TheVariants.{Empty}
use Rattle.ipcz_node.specs.Node.{Node}
use Rattle.ipcz_node.specs.Calls.{get_refusal}
use Rattle.ipcz_node.proofs.Fronts.{get_refusal_behind}
use Rattle.ipcz_world.specs.declared.step.Step.TheVariants.{Get}
use Rattle.ipcz_world.specs.declared.step.Reply.TheVariants.{Refused}
use Rattle.ipcz_world.specs.World.{World, node_at}
use Rattle.ipcz_world.proofs.Vocabulary.{unless}
use Rattle.ipcz_world.specs.Steps.{StepAny}
use Rattle.ipcz_rule.specs.TableRuns.{all_turns}
use Rattle.ipcz_rule.proofs.BatchedQuiet.{quiet_batches}
use Rattle.ipcz_rule.proofs.TableRuns.{steps_are_turns}
use Rattle.ipcz_promise.proofs.Kept.{a_rest_delivers}
use Rattle.ipcz_promise.proofs.Resting.{rest_closes}
use Rattle.ipcz_promise.proofs.TurnRuns.{turns_keep_the_promise}
use Rattle.ipcz_shown.proofs.Parts.{node-shown}
use Rattle.ipcz_shown.specs.Shown.{TableTurnsKeepThePromise, QuietTablesDeliver}

pub table_turns_keep_the_promise : TableTurnsKeepThePromise
table_turns_keep_the_promise count size alone t u steps a kept taken = let r = t.1.rules in let q = u.1.rules in
    turns_keep_the_promise r.world q.world r.books q.books r.routes q.routes a (all_turns steps) kept
    (steps_are_turns count size alone t u steps taken)

-- a get that its node refuses so is a step of the world
empty-get : (w : World) (n : ℕ) (at : End) → n < w.count → get_refusal (node_at w n) at ≡ Some Empty → StepAny w (Get n at) (Refused Empty) w
unfolding unless
empty-get w n at l refused = let inside : nat_lt n w.count ≡ true = grind (arith, l, nat_tests) in rw (inside, refused) (refl, refl)

pub quiet_tables_deliver : QuietTablesDeliver
quiet_tables_deliver count size alone t a kept still none =
    let r = t.1.rules in
    let quiet = quiet_batches count size alone t.0 t.1 still none in (
      rest_closes r.world a kept quiet,
      λ id v j p seat there at refused.
          let is = node-shown t.1 id v j p seat there in
          a_rest_delivers r.world r.world a p.node at kept quiet
          (empty-get r.world p.node at is.0 (ap (λ (n : Node). get_refusal n at) is.1 ∙ (sym (get_refusal_behind (t.1.fronts p.node) p.state at) ∙ refused))),
    )
