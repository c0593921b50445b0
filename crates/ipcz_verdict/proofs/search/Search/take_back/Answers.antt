use Rattle.std.proofs.Common.{◌≡◌, ◌∷◌, [], List, refl, Some, arith, sym, subst, ◌∙◌}
use Rattle.std.proofs.lemmas.List.{with_items_is}
use Rattle.ipcz_verdict.specs.declared.entry.Entry.{Entry}
use Rattle.ipcz_verdict.specs.declared.search.Taken.{Taken}
use Rattle.ipcz_verdict.specs.Searches.{CanEnd, IsBack, IsStack, taken_lines}
use Rattle.ipcz_verdict.proofs.Counting.{popped}
use Rattle.ipcz_verdict.proofs.Searching.{at_end, back_step, dead}
use Rattle.ipcz_verdict.proofs.search.Search.take_back.Goals as goal

pub returns-then-next-lt-KEYS-clause-back : goal.returns-then-next-lt-KEYS-clause-back
returns-then-next-lt-KEYS-clause-back c = λ nodes profile entries stack none.
    let inv = c.loop-taken.invariant.1 nodes profile entries stack none in
    let b = back_step nodes profile entries c.loop-taken.self.order.items c.pop.new.self.items c.in-Some.taken c.loop-taken.self.left.items c.deref_mut.result.now c.put_back.new.left inv.0 inv.1
    c.in-Some.ensures.items c.deref_mut.ensures.value c.in_ok-put_back.ensures in
    subst (λ (q : List (List Entry)). IsBack nodes profile entries c.pop.new.self.items q (Some c.in-Some.taken.next))
    (sym (with_items_is c.loop-taken.self.left c.put_back.new.left (c.put_back.auto.left ∙ c.deref_mut.ensures.len))) (b.stack, b.below)

pub loop-taken-preserved : goal.loop-taken-preserved
loop-taken-preserved c = (
  (
    c.in-Some.taken ∷ c.loop-taken.invariant.0.0,
    popped c.args.self.now.order.items c.loop-taken.self.order.items c.pop.new.self.items c.in-Some.taken c.loop-taken.invariant.0.0
        c.loop-taken.invariant.0.1 c.in-Some.ensures.items,
  ),
  λ nodes profile entries stack none.
      let inv = c.loop-taken.invariant.1 nodes profile entries stack none in
      let b = back_step nodes profile entries c.loop-taken.self.order.items c.pop.new.self.items c.in-Some.taken c.loop-taken.self.left.items c.deref_mut.result.now c.put_back.new.left inv.0 inv.1
      c.in-Some.ensures.items c.deref_mut.ensures.value c.in_ok-put_back.ensures in
      subst (λ (q : List (List Entry)). IsStack nodes profile entries c.pop.new.self.items q × (CanEnd nodes profile entries (taken_lines c.pop.new.self.items) → ⊥))
      (sym (with_items_is c.loop-taken.self.left c.put_back.new.left (c.put_back.auto.left ∙ c.deref_mut.ensures.len)))
      (b.stack, dead nodes profile entries c.pop.new.self.items c.put_back.new.left c.in-Some.taken.next b.stack b.below (omega (arith, c.if-next-lt-KEYS.false)) b.some),
)

pub returns-clause-back : goal.returns-clause-back
returns-clause-back c = λ nodes profile entries stack none are.
    let inv = c.loop-taken.invariant.1 nodes profile entries stack none in
    let nothing : c.loop-taken.self.order.items ≡ [] = grind (arith, c.in_default.ensures, c.loop-taken.self.order.ok) in
    at_end nodes profile entries (subst (λ (ts : List Taken). CanEnd nodes profile entries (taken_lines ts) → ⊥) nothing inv.1) are

pub returns-then-next-lt-KEYS-clause-shortened : goal.returns-then-next-lt-KEYS-clause-shortened
returns-then-next-lt-KEYS-clause-shortened c = (
  c.in-Some.taken,
  c.loop-taken.invariant.0.0,
  popped c.args.self.now.order.items c.loop-taken.self.order.items c.pop.new.self.items c.in-Some.taken c.loop-taken.invariant.0.0
      c.loop-taken.invariant.0.1 c.in-Some.ensures.items,
  refl,
)
