-- A word that is no link's gets another owner: what is said of all else is kept.
use Rattle.ipcz_world.proofs.frames.Aside.{IsAside, central_left, peripheral_left}
use Rattle.ipcz_world.proofs.Vocabulary.{Books, Records, Owner, is_linked, side_end, RetiredEnds, is_left}
use Rattle.ipcz_world.proofs.facts.RecordsAfter.{set_owner}
use Rattle.std.specs.Prelude.{◌≡◌, ℕ, Bool, true, false, cond, nat_eq, refl}
use Rattle.std.proofs.Common.{arith, sym, ◌∙◌, ap}
use Rattle.std.proofs.lemmas.Bool.Decides.{nat_tests}

module _ (g : Records) (i : ℕ) (x : Owner) (free : is_linked (g.owner i) ≡ false) (other : is_linked x ≡ false) where
  abbrev pub owned : Records
  owned = set_owner g i x

  pub is_owned : IsAside g owned.owner (central_left g) (peripheral_left g) g.terminal
  unfolding is_left
  is_owned = record {
    linked = λ j. go j (nat_eq j i) refl;
    more = λ l s e. e;
    nowhere = λ e. refl;
    descriptor = λ e. refl;
    weight = λ f e. refl;
  }
    where
      go : (j : ℕ) (t : Bool) → nat_eq j i ≡ t → is_linked (cond t x (g.owner j)) ≡ is_linked (g.owner j)
      go j true e = let f : j ≡ i = grind (arith, e, nat_tests) in other ∙ sym (ap (λ n. is_linked (g.owner n)) f ∙ free)
      go j false e = refl

  pub retired-owned : {b : Books} → RetiredEnds b g → RetiredEnds b owned
  unfolding is_left side_end
  retired-owned law = record {
    retired = law.retired;
    peer_closed = law.peer_closed;
    peer_stays = law.peer_stays;
    all_read = law.all_read;
    gone_read = law.gone_read;
    no_bypass = law.no_bypass;
    left = λ e j h a d p. law.left e j h (sym (is_owned.linked j) ∙ a) d p;
    left_of = law.left_of;
    accepted = law.accepted;
  }
