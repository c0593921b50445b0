use Rattle.std.proofs.Common.{◌≡◌, ◌∙◌, ℕ, arith, true, false, subst, sym}
use Rattle.std.proofs.lemmas.Bool.Decides.{nat_tests}
use Rattle.ipcz_world.proofs.Vocabulary.{place_at, Empty, is_full}
use Rattle.ipcz_world.specs.Mailing.{as_they_stand, count_full}
use Rattle.ipcz_world.proofs.code.Marks.{none-full, some-full}
use Rattle.ipcz_world.proofs.mailboxes.Mailboxes.has_full.Goals as goal

pub returns-clause-none : goal.returns-clause-none
returns-clause-none c = λ none k.
    let zero : c.self.inside.full ≡ 0 = grind (arith, none, nat_tests) in
    subst (λ mail. is_full (place_at Empty mail k) ≡ false) c.self.view_is
    (none-full (as_they_stand c.self.inside.boxes.items c.self.inside.marks) k (sym c.self.invariant.counted ∙ zero))

pub returns-clause-some : goal.returns-clause-some
returns-clause-some c = λ some.
    let most : count_full (as_they_stand c.self.inside.boxes.items c.self.inside.marks) ≡ 0 → ⊥ =
    λ zero. grind (arith, some, c.self.invariant.counted ∙ zero, nat_tests) in
    subst (λ mail. (k : ℕ) × (is_full (place_at Empty mail k) ≡ true)) c.self.view_is
    (some-full (as_they_stand c.self.inside.boxes.items c.self.inside.marks) most)
