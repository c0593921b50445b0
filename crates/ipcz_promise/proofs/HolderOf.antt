-- The node whose callers hold an end is the one that the accounts tell.
use Rattle.std.specs.Prelude.{◌≡◌, ◌≤◌, ◌<◌, ◌+◌, ℕ, zero, suc, Bool, true, false, if◌then◌else◌, Option, Some, None, refl}
use Rattle.std.proofs.Common.{arith, ap, ◌∙◌, sym}
use Rattle.ipcz_node.specs.Node.{holds_end}
use Rattle.ipcz_node.specs.Acts.{first_number}
use Rattle.ipcz_world.proofs.Vocabulary.{End, World, node_at}
use Rattle.ipcz_world.specs.Holding.{holder_of}
use Rattle.ipcz_promise.specs.Promise.{Account, is_holder}
use Rattle.ipcz_promise.specs.Accounting.{Keeps}
use Rattle.ipcz_promise.proofs.Refusals.{holder-is, is-holder}

first-holder : (test : ℕ → Bool) (from left : ℕ) (o : Option ℕ) → ((n : ℕ) → from ≤ n → n < from + left → test n ≡ is_holder o n) →
    ((n : ℕ) → o ≡ Some n → (from ≤ n) × (n < from + left)) → first_number test from left ≡ o
first-holder test from zero o same within = go o refl
  where
    go : (p : Option ℕ) → o ≡ p → None ≡ o
    go None e = sym e
    go (Some n) e = let t = within n e in absurd (omega (arith, t.0, t.1))
first-holder test from (suc left) o same within =
    go (test from) refl (λ h. first-holder test (from + 1) left o (λ n l m. same n (omega (arith, l)) (omega (arith, m)))
    (λ n e. later n e h))
  where
    here : test from ≡ is_holder o from
    here = same from (omega arith) (omega arith)

    later : (n : ℕ) → o ≡ Some n → test from ≡ false → (from + 1 ≤ n) × (n < (from + 1) + left)
    later n e h =
        let t = within n e in
        let apart : from ≡ n → ⊥ = λ q. both (sym h ∙ here ∙ is-holder o from (e ∙ ap Some (sym q))) in
        (omega (arith, t.0, apart), omega (arith, t.1))
      where
        both : false ≡ true → ⊥
        both q = cc

    go : (c : Bool) → test from ≡ c → (test from ≡ false → first_number test (from + 1) left ≡ o) →
        (if c then Some from else first_number test (from + 1) left) ≡ o
    go true h more = sym (holder-is o from (sym here ∙ h))
    go false h more = more h

pub holder-promised : (w : World) (e : End) (a : Account) → Keeps w a → holder_of w e ≡ a.holder e
holder-promised w e a k = first-holder (λ n. holds_end (node_at w n) e) 0 w.count (a.holder e)
    (λ n l m. k.stands.holder n e (omega (arith, m))) (λ n q. let r = k.stands.real n e q in (omega arith, omega (arith, r)))
