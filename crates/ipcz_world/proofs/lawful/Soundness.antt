-- The words that a node names are claimed, so they are words of the world, and each of its nodes is sound.
use Rattle.ipcz_world.proofs.Vocabulary.{Router, primary_word, World, Key, node_at, router_at, Records, Owner, Spare, Opening, Fresh, Linked}
use Rattle.ipcz_world.proofs.Vocabulary.{is_linked, is_unclaimed, Books, Inv, Lost, Unclaimed}
use Rattle.std.specs.Prelude.{◌≡◌, ◌<◌, ℕ, true, false, Some, refl}
use Rattle.std.proofs.Common.{arith, ap}
use Rattle.std.proofs.lemmas.Bool.Decides.{nat_tests}
use Rattle.ipcz_world.specs.Soundness.{IsSound}
use Rattle.ipcz_world.proofs.acts.Flags.{on-word}

-- a linked word was claimed
linked_claimed : (o : Owner) → is_linked o ≡ true → is_unclaimed o ≡ false
unfolding is_linked is_unclaimed
linked_claimed Unclaimed e = cc
linked_claimed (Spare k) e = refl
linked_claimed (Opening n) e = refl
linked_claimed (Fresh o) e = refl
linked_claimed Lost e = refl
linked_claimed Linked e = refl

module _ (w : World) (b : Books) (g : Records) (law : Inv w b g) where
  -- a word that isn't unclaimed is below the claim count
  claimed_below : (i : ℕ) → is_unclaimed (g.owner i) ≡ false → i < w.claimed
  claimed_below i e = grind (arith, law.counts.unclaimed i, e, nat_tests)

  -- the word of a router's outward primary link is claimed
  primary_claimed : (k : Key) (r : Router) (i : ℕ) → router_at w k ≡ Some r → primary_word r ≡ Some i → i < w.claimed
  primary_claimed k r i here on = claimed_below i (linked_claimed (g.owner i) (on-word w b g k r i law here on).linked)

  -- the spare of a router
  spare_claimed : (k : Key) (r : Router) (i : ℕ) → router_at w k ≡ Some r → r.spare ≡ Some i → i < w.claimed
  unfolding is_unclaimed
  spare_claimed k r i here has = claimed_below i (ap is_unclaimed (law.spares.spare k r i here has))

  -- the word of an open under way
  opening_claimed : (n i : ℕ) → (node_at w n).opening ≡ Some i → i < w.claimed
  unfolding is_unclaimed
  opening_claimed n i has = claimed_below i (ap is_unclaimed (law.spares.opening n i has))

  -- each node of the world is sound, and the words that it names are claimed
  pub node_names_claimed : (n : ℕ) → n < w.count → IsSound w.count w.claimed n (node_at w n)
  unfolding router_at
  node_names_claimed n l = record {
    number_is = law.counts.node n l;
    count_is = law.counts.nodes n l;
    primary = λ s r i here on. primary_claimed (record { node = n; serial = s }) r i here on;
    spare = λ s r i here has. spare_claimed (record { node = n; serial = s }) r i here has;
    opening = λ i has. opening_claimed n i has;
    hand = λ from has. law.counts.hand_from n from l has;
  }

  -- so they are words of the world
  pub primary_below : (k : Key) (r : Router) (i : ℕ) → router_at w k ≡ Some r → primary_word r ≡ Some i → i < w.size
  primary_below k r i here on = omega (arith, primary_claimed k r i here on, law.counts.claimed)

  pub opening_below : (n i : ℕ) → (node_at w n).opening ≡ Some i → i < w.size
  opening_below n i has = omega (arith, opening_claimed n i has, law.counts.claimed)

  pub node_is_sound : (n : ℕ) → n < w.count → IsSound w.count w.size n (node_at w n)
  node_is_sound n l = let known = node_names_claimed n l in record {
    number_is = known.number_is;
    count_is = known.count_is;
    primary = λ s r i here on. omega (arith, known.primary s r i here on, law.counts.claimed);
    spare = λ s r i here has. omega (arith, known.spare s r i here has, law.counts.claimed);
    opening = λ i has. opening_below n i has;
    hand = known.hand;
  }
