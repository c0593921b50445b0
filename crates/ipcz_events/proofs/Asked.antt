-- The act that is drawn or asked for is taken, or none_there be.
use Rattle.std.specs.Prelude.{IfSome}
use Rattle.std.proofs.Common.{◌≡◌, ◌∙◌, ℕ, Bool, true, false, List, [], ◌∷◌, Option, Some, None, inl, inr, refl, sym, subst}
use Rattle.ipcz_node.specs.declared.act.Act.{Act}
use Rattle.ipcz_node.specs.declared.happened.Happened.{Happened}
use Rattle.ipcz_world.specs.Asking.{IsActed, can_act}
use Rattle.ipcz_world.specs.Listing.{ArePossible}
use Rattle.ipcz_events.specs.declared.entry.Entry.TheVariants as entries
use Rattle.ipcz_events.specs.declared.naming.Named.{Named}
use Rattle.ipcz_events.specs.declared.order.Order.TheVariants as orders
use Rattle.ipcz_events.specs.declared.run.Run.{Run}
use Rattle.ipcz_events.specs.declared.who.Who.{Who}
use Rattle.ipcz_events.specs.Judging.{BeginsWith, HasNone}
use Rattle.ipcz_events.specs.Naming.{IsNamedBy, behind_word, first_word, name_of}
use Rattle.ipcz_events.specs.Rules.{ActHasBits}
use Rattle.ipcz_events.specs.Runs.{DrawsAct, IsObeyed, IsTakenAsked, IsTakenOne, Picks, Steps, Takes, acted, was_idle}
use Rattle.ipcz_events.specs.Written.{Adds}
use Rattle.ipcz_events.proofs.Deciding.{can_be}

-- the act that was found is named so
pub begins_so : (text : List ℕ) (name : Named) (o : Option Act) → IfSome o (λ act. name_of act ≡ name) →
    IsNamedBy (first_word text) (behind_word text) name → IfSome o (λ act. BeginsWith text act)
begins_so text name None h is = tt
begins_so text name (Some act) h is = subst (IsNamedBy (first_word text) (behind_word text)) (sym h) is

-- ---- drawn

module _ (who : Who) (p : Run) where
  pub steps-unpicked : (q : Run) (picked : Option ℕ) → Picks who p picked q → picked ≡ None → Steps who p None q
  steps-unpicked q picked h is = inl (subst (λ o. Picks who p o q) is h)

  module _ (m : Run) (n : ℕ) (picked : Option ℕ) (picks : Picks who p picked m) (some : picked ≡ Some n) where
    pub steps-undrawn : (q : Run) (drawn : Option Act) → DrawsAct m n drawn q → drawn ≡ None → Steps who p None q
    steps-undrawn q drawn h is = inr (n, m, subst (λ o. Picks who p o m) some picks, inl (subst (λ o. DrawsAct m n o q) is h))

    module _ (o : Run) (act : Act) (drawn : Option Act) (draws : DrawsAct m n drawn o) (is : drawn ≡ Some act) where
      pub steps-untaken : (q : Run) (taken : Option Happened) → Takes o n act taken q → taken ≡ None → Steps who p None q
      steps-untaken q taken h none =
          inr (
            n,
            m,
            subst (λ x. Picks who p x m) some picks,
            inr (act, o, subst (λ x. DrawsAct m n x o) is draws, subst (λ x. Takes o n act x q) none h),
          )

      pub steps-seen : (q : Run) (event : Happened) (taken : Option Happened) → Takes o n act taken q → taken ≡ Some event → Steps who p (Some (n, event)) q
      steps-seen q event taken h so = (
        act,
        m,
        o,
        subst (λ x. Picks who p x m) some picks,
        subst (λ x. DrawsAct m n x o) is draws,
        subst (λ x. Takes o n act x q) so h,
      )

module _ (who : Who) (p q : Run) where
  pub taken-none : (old : List ℕ) (seen : Option (ℕ × Happened)) → Steps who p seen q → seen ≡ None → IsTakenOne who p true q old old
  taken-none old seen h none = inl (subst (λ s. Steps who p s q) none h, refl)

  pub taken-one : (seen : ℕ × Happened) (o : Option (ℕ × Happened)) (old new : List ℕ) (last : Bool) → Steps who p o q → o ≡ Some seen → last ≡ was_idle seen.1 →
      Adds (acted seen ∷ []) old new → IsTakenOne who p last q old new
  taken-one seen o old new true h some idle adds = inr (seen, subst (λ s. Steps who p s q) some h, sym idle, adds)
  taken-one seen o old new false h some idle adds = (seen, subst (λ s. Steps who p s q) some h, sym idle, adds)

-- ---- asked for

abbrev Only : Run → ℕ → List ℕ → Option Act → Type 0
Only p n words o = (act : Act) → ActHasBits act → BeginsWith words act → can_act p.session.world n act ≡ true → o ≡ Some act

same_act : (a b : Act) → Some a ≡ Some b → a ≡ b
same_act a b e = cc

module _ (p : Run) (n : ℕ) (words : List ℕ) (o : Option Act) (only : Only p n words o) where
  pub asked-unnamed : o ≡ None → HasNone p.session (entries.Acted n words)
  asked-unnamed none act event v bits begins is =
      absurd (let never : None ≡ Some act = sym none ∙ only act bits begins (can_be p.session.world n act event v is) in cc)

  pub asked-untaken : (q : Run) (act : Act) (taken : Option Happened) → o ≡ Some act → Takes p n act taken q → taken ≡ None → HasNone p.session (entries.Acted n words) × (q ≡ p)
  asked-untaken q act taken some h none =
      let none_there = subst (λ t. Takes p n act t q) none h in (
        λ a event v bits begins is.
            let same : act ≡ a = same_act act a (sym some ∙ only a bits begins (can_be p.session.world n a event v is)) in
            none_there.0 event v (subst (λ x. IsActed p.session.world n x event v) (sym same) is),
        none_there.1,
      )

pub asked-taken : (p q : Run) (n : ℕ) (words : List ℕ) (act : Act) (taken : Option Happened) (event : Happened) (old new : List ℕ) → ActHasBits act →
    BeginsWith words act → Takes p n act taken q → taken ≡ Some event → Adds (acted (n, event) ∷ []) old new → IsTakenAsked p n words true q old new
asked-taken p q n words act taken event old new bits begins h some adds =
    (acted (n, event) ∷ [], (act, event, bits, begins, subst (λ t. Takes p n act t q) some h, refl), adds)

module _ (nodes : ℕ) (p q : Run) (n : ℕ) (words old new : List ℕ) (taken : Bool) (is : IsTakenAsked p n words taken q old new) where
  pub obeyed-so : taken ≡ true → IsObeyed nodes p (orders.Act n words) None q old new
  obeyed-so so = subst (λ t. IsTakenAsked p n words t q old new) so is

  pub stopped-so : (acts : List Act) (r : Run) → taken ≡ false → ArePossible q.session.world n acts → IsObeyed nodes p (orders.Act n words) (Some acts) r old new
  stopped-so acts r not_so possible =
      let none_there = subst (λ t. IsTakenAsked p n words t q old new) not_so is in
      ((none_there.0, subst (λ (x : Run). ArePossible x.session.world n acts) none_there.1 possible), none_there.2)
