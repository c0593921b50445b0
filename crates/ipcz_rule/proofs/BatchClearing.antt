-- A sender's bit is cleared while the last message of its batch is in hand: nothing is left of it, so the bits of all senders of whom something is left stay.
use Rattle.std.specs.Prelude.{◌≡◌, ◌≢◌, ◌<◌, ◌+◌, ℕ, Bool, bit_and, List, [], ◌∷◌, slice_index, Some, refl}
use Rattle.std.specs.Int.{bit_at}
use Rattle.std.proofs.Common.{arith, ap, ◌∙◌, sym, subst}
use mathlib.Core.Option.{some}
use lib.ListN.{get_elem?}
use Rattle.ipcz_node.specs.declared.act.Act.{Act}
use Rattle.ipcz_world.proofs.Whole.{lists_have_lengths}
use Rattle.ipcz_rule.specs.declared.view.View.{View}
use Rattle.ipcz_rule.specs.declared.view.Part.{Part}
use Rattle.ipcz_rule.specs.Rule.{Mine, forgetting}
use Rattle.ipcz_rule.specs.Kinds.{Clears}
use Rattle.ipcz_rule.specs.Batches.{BatchSt, batch_from, shown_part, ViewFolds, Batched}
use Rattle.ipcz_rule.specs.BatchKinds.{BatchClears}
use Rattle.ipcz_rule.proofs.Announcing.{kept_stays}
use Rattle.ipcz_rule.proofs.Moved.{spelled}
use Rattle.ipcz_rule.proofs.BatchSteps.{KnownBy, SingleBy, BatchBy, plain_step}
use Rattle.ipcz_rule.proofs.BatchedKinds.{part_there, forgetting_folds}
use Rattle.ipcz_rule.proofs.BatchMail.{hand_two}

module _ {count size : ℕ} {alone : Bool} (id i from kept : ℕ) (v : View) (p : Part) (is : v.parts ≡ p ∷ []) (at_i : i ≡ size + 1 + p.node) (holds : p.state.hand ≡ Some from) (spent : batch_from p from ≡ [])
    (others : (j : ℕ) → j < 64 → j ≢ from → bit_at kept j ≡ 1) where
  kept_bit : (s : BatchSt) (b : Batched count size alone s) → get_elem? s.views id ≡ some v → (a to : ℕ) → a < count → to < count → b.left a to ≢ [] → i ≡ size + 1 + to →
      bit_at (slice_index s.words i) a ≡ 1 → bit_at (bit_and (slice_index s.words i) kept) a ≡ 1
  kept_bit s b at a to la lt some_left word bit =
      let r = b.rules in
      let w = r.world in
      let c = r.nodes in
      let few = (lists_have_lengths w r.books r.routes r.lawful).few in
      let from_in = (hand_two b.folds r id v p from at is holds).0 in
      let to_is : to ≡ p.node = omega (arith, word, at_i) in
      kept_stays (slice_index s.words i) kept a bit (others a (omega (arith, la, few, c))
      (λ e. some_left (ap (λ z. b.left z to) e ∙ (ap (b.left from) to_is ∙ (sym (b.folds.parts id v 0 p from at (ap (λ (l : List Part). get_elem? l 0) is) from_in) ∙ spent)))))

pub batch_clears : (q : KnownBy (List (ℕ × Act))) (alone : Bool) → Clears (SingleBy q) → BatchClears (BatchBy alone q)
batch_clears q alone old count size slots id i from kept m p is at_i holds spent others =
    plain_step count size alone slots id m p i (λ n m'. m' ≡ (forgetting m.0, m.1)) is
    (λ n. q []) (λ n. bit_and n kept) (λ fronts u n m1. m1 ≡ (forgetting u, []))
    (λ fronts u f t r at. let l = (spelled t r id u (shown_part fronts p) at (part_there f is)).inside in let c = r.nodes in omega (arith, at_i, l, c))
    (λ s b at a to la lt some_left word bit. kept_bit id i from kept m.0 p is at_i holds spent others s b at a to la lt some_left word bit)
    (λ fronts u f. old count size slots id i from kept (u, []) (shown_part fronts p) (part_there f is) at_i holds others)
    (λ fronts u f n m1 e. record {
      none_carried = ap (λ (x : Mine). x.1) e;
      view = forgetting m.0;
      part = p;
      parts = is;
      node = refl;
      batches = refl;
      folds = subst (λ (x : View). ViewFolds count size fronts (forgetting m.0) x) (sym (ap (λ (y : Mine). y.0) e)) (forgetting_folds f);
      is = refl;
    })
