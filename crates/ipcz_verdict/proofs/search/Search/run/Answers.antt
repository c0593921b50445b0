use Rattle.std.proofs.Common.{◌≡◌, ◌≤◌, ◌+◌, List, arith, length, subst}
use Rattle.ipcz_verdict.specs.declared.entry.Entry.{Entry}
use Rattle.ipcz_verdict.specs.declared.search.Step.{Step}
use Rattle.ipcz_verdict.specs.declared.search.Step.TheVariants as came
use Rattle.ipcz_verdict.specs.Searches.{IsOfNext, IsSearch, IsStep, Moves}
use Rattle.ipcz_verdict.proofs.Counting.{goes_on, sets_out, stuck_here}
use Rattle.ipcz_verdict.proofs.search.Search.run.Goals as goal

pub loop-steps-init : goal.loop-steps-init
loop-steps-init c = λ entries s none. (
  s,
  sets_out c.args.nodes c.args.profile entries c.args.steps c.args.self.now.order.items 0 none,
  stuck_here c.args.nodes c.args.profile entries c.args.self.now.order.items c.args.self.now.left.items c.least_next.result s.stack
      (subst (λ (q : List (List Entry)). IsOfNext q c.least_next.result) c.deref.ensures.value c.least_next.ensures),
)

pub loop-steps-preserved : goal.loop-steps-preserved
loop-steps-preserved c = λ entries s none.
    let inv = c.loop-steps.invariant entries s none in
    let next : IsSearch c.args.nodes c.args.profile entries c.step.new.self.judge c.step.new.self.order.items c.step.new.self.left.items c.in-On.next =
    subst (λ (st : Step). IsStep c.args.nodes c.args.profile entries c.step.new.self.judge c.step.new.self.order.items c.step.new.self.left.items st) c.in-On.is (c.in_ok-next.ensures.search entries inv.0) in
    let moves : Moves c.loop-steps.self.order.items c.loop-steps.from c.step.new.self.order.items (came.On c.in-On.next) =
    subst (λ (st : Step). Moves c.loop-steps.self.order.items c.loop-steps.from c.step.new.self.order.items st) c.in-On.is (c.in_ok-next.ensures.moves entries inv.0) in
    let size : c.len.result ≡ length c.step.new.self.order.items = grind (arith, c.len.ensures, c.step.new.self.order.ok) in
    let least : c.loop-steps.steps ≤ c.steps_left-steps.result + 1 + length c.step.new.self.order.items = let l = c.steps_left-steps.ensures.least in omega (arith, l, size) in (
      next,
      goes_on c.args.nodes c.args.profile entries c.args.steps c.loop-steps.steps c.steps_left-steps.result c.loop-steps.self.order.items c.step.new.self.order.items c.step.new.self.left.items c.loop-steps.from
          c.in-On.next next.stack moves c.steps_left-steps.ensures.one least inv.1,
      c.stuck-stuck.ensures c.args.nodes c.args.profile entries inv.0.stack inv.2,
    )
