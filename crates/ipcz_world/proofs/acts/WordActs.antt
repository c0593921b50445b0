-- The acts on words: a mark, a try for the lock, and its return keep the invariant.
use Rattle.ipcz_world.proofs.frames.RolesTell.{positions-in}
use Rattle.ipcz_world.proofs.frames.LeftSides.{not_left}
use Rattle.ipcz_world.proofs.Vocabulary.{Side, A, B, Central, opposite, has, Word, Router, is_possible, World, Key, word_at, router_at, set_word}
use Rattle.ipcz_world.proofs.Vocabulary.{set_router, Books, Records, is_begun, side_router, proxy_side, across_side, Inv, is_left, source_of, Plan}
use Rattle.ipcz_world.proofs.Vocabulary.{Locks, Waits, Refuses, plan_of}
use Rattle.std.specs.Prelude.{◌≡◌, ◌⊎◌, ◌≤◌, ℕ, Bool, true, false, cond, nat_eq, Some, refl}
use Rattle.std.proofs.Common.{arith, sym, ◌∙◌, ap, inl, inr}
use Rattle.std.proofs.lemmas.Bool.Decides.{nat_tests}
use Rattle.ipcz_word.specs.SideSets.{with, without, sides}
use Rattle.ipcz_word.specs.Word.{is_held, mark, lock, wait, unlock}
use Rattle.ipcz_router.specs.ActEffects.{mark_side, take_lock, fail_lock, drop_lock}
use Rattle.ipcz_router.specs.declared.act.RouterAct.TheVariants as acts
use Rattle.ipcz_world.proofs.frames.Frames.{word-set_word, word-set_node, claimed-set_word, claimed-set_node}
use Rattle.ipcz_world.proofs.frames.StandingRules.{standing_rules}
use Rattle.ipcz_world.proofs.facts.Updates.{CanTouch, mark_act, lock_act, unlock_act}
use Rattle.ipcz_world.proofs.facts.LinkTests.{side_is}
use Rattle.ipcz_world.proofs.facts.Lengths.{same_side-itself}
use Rattle.ipcz_world.proofs.frames.OneRouter.{SameButRouter, SameWords, set-router, set-word}
use Rattle.ipcz_world.proofs.acts.Flags.{IsFlagged, FlagsFit, OnWord, on-word, Touches, inv-touched, inv-flagged}
use Rattle.ipcz_world.specs.WordAnswers.{tells_waiting}

-- what an act on a word is in the world
set-both : (w : World) (k : Key) (y : Router) (i : ℕ) (x : Word) → SameButRouter w (set_word (set_router w k y) i x) k (Some y)
set-both w k y i x = set-word w (set_router w k y) k (Some y) i x (set-router w k y)

word-both : (w : World) (k : Key) (y : Router) (i : ℕ) (x : Word) (j : ℕ) →
    word_at (set_word (set_router w k y) i x) j ≡ cond (nat_eq j i) x (word_at w j)
word-both w k y i x j = word-set_word (set_router w k y) i x j ∙ ap (cond (nat_eq j i) x) (word-set_node w k.node _ j)

claimed-both : (w : World) (k : Key) (y : Router) (i : ℕ) (x : Word) → (set_word (set_router w k y) i x).claimed ≡ w.claimed
claimed-both w k y i x = claimed-set_word (set_router w k y) i x ∙ claimed-set_node w k.node _

-- a router on a link under bypass is the one across: marked, and not the holder
pub record IsAcross (r : Router) : Type 0 where
  pub marked : r.marked ≡ true
  pub free : r.holds ≡ false

pub begun-across : (w : World) (b : Books) (g : Records) (k : Key) (r : Router) (i : ℕ) → Inv w b g → router_at w k ≡ Some r →
    OnWord w g k r i → is_begun (g.bypass i) ≡ true → IsAcross r
begun-across w b g k r i law here on begun = record {
  marked = grind (arith, standing_rules, at, here, (law.stages i).across_marked begun stage);
  free = grind (arith, standing_rules, at, here, (law.stages i).across_free begun stage);
}
  where
    stage : (g.bypass i).stage ≤ 2
    stage = ((positions-in law).each k r here).primary_old on.end i on.primary on.link begun

    at : side_router g (Central i) (across_side g i) ≡ Some k
    at = ap (side_router g (Central i)) (sym (((positions-in law).each k r here).primary_across on.end i on.primary on.link begun) ∙ on.side) ∙ on.known

pub not_true : (b : Bool) → (b ≡ true → ⊥) → b ≡ false
not_true true h = absurd (h refl)
not_true false h = refl

-- what the word says of this router's side, if the link is live
pub record Says (x : Word) (r : Router) : Type 0 where
  pub stable : has x.stable r.end.side ≡ r.marked
  pub holder : has x.holder r.end.side ≡ r.holds

pub word-says : (w : World) (b : Books) (g : Records) (k : Key) (r : Router) (i : ℕ) → Inv w b g → router_at w k ≡ Some r →
    OnWord w g k r i → is_begun (g.bypass i) ≡ false → Says (word_at w i) r
word-says w b g k r i law here on live = record {
  stable = (law.words.each i).stable r.end.side on.linked live here_still ∙ grind (arith, standing_rules, on.known, here);
  holder = (law.words.each i).holder r.end.side on.linked live here_still ∙ grind (arith, standing_rules, on.known, here);
}
  where
    here_still : is_left g (Central i) r.end.side ≡ false
    here_still = not_left w g (Central i) r.end.side k r law.stands on.known here

-- a router that holds the lock has the word name the node inward of it
pub had_source : (w : World) (b : Books) (g : Records) (k : Key) (r : Router) (i : ℕ) → Inv w b g → router_at w k ≡ Some r →
    OnWord w g k r i → r.holds ≡ true → (word_at w i).source ≡ source_of r
had_source w b g k r i law here on h = law.words.source k r on.end i here h on.primary on.link

pub inv-mark : (w : World) (b : Books) (g : Records) (k : Key) (r : Router) (i : ℕ) → Inv w b g → CanTouch w k r i acts.Mark →
    Inv (mark_act w k r i) b g
unfolding is_possible
inv-mark w b g k r i law can =
    inv-touched w (mark_act w k r i) b g k r y i x law can.here can.word live (set-both w k y i x) (claimed-both w k y i x) flagged
    (word-both w k y i x) shaped touches
  where
    y : Router
    y = mark_side r (tells_waiting (word_at w i) r.end.side)

    x : Word
    x = mark (word_at w i) r.end.side

    on : OnWord w g k r i
    on = on-word w b g k r i law can.here can.word

    live : is_begun (g.bypass i) ≡ false
    live = not_true _ (λ h. let a : IsAcross r = begun-across w b g k r i law can.here on h in grind (arith, can.possible, a.marked))

    says : Says (word_at w i) r
    says = word-says w b g k r i law can.here on live

    flagged : IsFlagged r y
    flagged = record { end = refl; outward = refl; inward = refl; out_queue = refl; in_queue = refl; closed = refl; mark_seen = refl; mark_dropped = refl; gone_sent = refl }

    shaped : FlagsFit r y
    shaped = record {
      spare = refl;
      central = λ h. grind (arith, can.possible);
      still = λ h. grind (arith, can.possible);
      marked = λ h. refl;
      fit = (law.shape k r can.here).holds_fit;
      word = (law.shape k r can.here).holds_spare;
    }

    touches : Touches (word_at w i) x y
    touches = record {
      stable = grind (arith, sides);
      stable_other = other r.end.side;
      holder = says.holder;
      holder_other = refl;
      held_stable = λ s t h. held s t h (side_is t r.end.side);
      one_holder = (law.words.each i).one_holder;
      source = λ h. had_source w b g k r i law can.here on h;
      source_other = λ h. refl;
    }
      where
        other : (s : Side) → has (with (word_at w i).stable s) (opposite s) ≡ has (word_at w i).stable (opposite s)
        other A = grind (arith, sides)
        other B = grind (arith, sides)

        held : (s t : Side) → has (word_at w i).holder s ≡ true → (t ≡ r.end.side) ⊎ (t ≡ opposite r.end.side) →
            has (with (word_at w i).stable r.end.side) t ≡ true
        held s t h (inl e) = grind (arith, sides, e)
        held s t h (inr e) = grind (arith, other r.end.side, (law.words.each i).held_stable s t h, e)

pub inv-unlock : (w : World) (b : Books) (g : Records) (k : Key) (r : Router) (i : ℕ) → Inv w b g → CanTouch w k r i acts.Unlock →
    Inv (unlock_act w k r i) b g
unfolding is_possible
inv-unlock w b g k r i law can =
    inv-touched w (unlock_act w k r i) b g k r y i x law can.here can.word live (set-both w k y i x) (claimed-both w k y i x) flagged
    (word-both w k y i x) shaped touches
  where
    y : Router
    y = drop_lock r

    x : Word
    x = unlock (word_at w i) r.end.side

    on : OnWord w g k r i
    on = on-word w b g k r i law can.here can.word

    live : is_begun (g.bypass i) ≡ false
    live = not_true _ (λ h. let a : IsAcross r = begun-across w b g k r i law can.here on h in grind (arith, can.possible, a.free))

    says : Says (word_at w i) r
    says = word-says w b g k r i law can.here on live

    flagged : IsFlagged r y
    flagged = record { end = refl; outward = refl; inward = refl; out_queue = refl; in_queue = refl; closed = refl; mark_seen = refl; mark_dropped = refl; gone_sent = refl }

    shaped : FlagsFit r y
    shaped = record {
      spare = refl;
      central = (law.shape k r can.here).marked_central;
      still = (law.shape k r can.here).marked_still;
      marked = λ h. absurd (grind (arith, h));
      fit = λ h. absurd (grind (arith, h));
      word = λ h p. absurd (grind (arith, h));
    }

    touches : Touches (word_at w i) x y
    touches = record {
      stable = says.stable;
      stable_other = refl;
      holder = grind (arith, sides);
      holder_other = other r.end.side;
      held_stable = λ s t h. (law.words.each i).held_stable s t (held s h (side_is s r.end.side));
      one_holder = λ s t h e. (law.words.each i).one_holder s t (held s h (side_is s r.end.side)) (held t e (side_is t r.end.side));
      source = λ h. absurd (cc_holds h);
      source_other = λ h. absurd (not_across r.end.side ((law.words.each i).one_holder r.end.side (opposite r.end.side) mine h));
    }
      where
        cc_holds : false ≡ true → ⊥
        cc_holds h = cc

        mine : has (word_at w i).holder r.end.side ≡ true
        mine = says.holder ∙ grind (arith, can.possible)

        not_across : (s : Side) → s ≡ opposite s → ⊥
        not_across A h = cc
        not_across B h = cc

        other : (s : Side) → has (without (word_at w i).holder s) (opposite s) ≡ has (word_at w i).holder (opposite s)
        other A = grind (arith, sides)
        other B = grind (arith, sides)

        held : (s : Side) → has (without (word_at w i).holder r.end.side) s ≡ true → (s ≡ r.end.side) ⊎ (s ≡ opposite r.end.side) →
            has (word_at w i).holder s ≡ true
        held s h (inl e) = absurd (grind (arith, sides, h, e))
        held s h (inr e) = grind (arith, other r.end.side, h, e)

-- what a plan tells of the word
pub record CanLock (x : Word) (s : Side) : Type 0 where
  pub free : (t : Side) → has x.holder t ≡ false
  pub mine : has x.stable s ≡ true
  pub other : has x.stable (opposite s) ≡ true

locks-tells : (x : Word) (s : Side) → plan_of x s ≡ Locks → CanLock x s
unfolding plan_of
locks-tells x s h = go (is_held x) (has x.stable s) (has x.stable (opposite s)) refl refl refl
  where
    free : is_held x ≡ false → (t : Side) → has x.holder t ≡ false
    free e A = grind (arith, e)
    free e B = grind (arith, e)

    go : (a c d : Bool) → is_held x ≡ a → has x.stable s ≡ c → has x.stable (opposite s) ≡ d → CanLock x s
    go true c d p q r = absurd (grind (arith, h, p))
    go false false d p q r = absurd (grind (arith, h, p, q))
    go false true false p q r = absurd (grind (arith, h, p, q, r))
    go false true true p q r = record { free = free p; mine = q; other = r }

-- a try that doesn't refuse finds the link held by nobody
tried-free : (x : Word) (s : Side) → (plan_of x s ≡ Refuses → ⊥) → is_held x ≡ false
unfolding plan_of
tried-free x s h = go (is_held x) refl
  where
    go : (a : Bool) → is_held x ≡ a → is_held x ≡ false
    go true p = absurd (h (grind (arith, p)))
    go false p = p

held-begun : (w : World) (b : Books) (g : Records) (i : ℕ) → Inv w b g → is_begun (g.bypass i) ≡ true → is_held (word_at w i) ≡ true
held-begun w b g i law h = go (proxy_side g i) ((law.words.each i).begun_holder (proxy_side g i) h ∙ same_side-itself (proxy_side g i))
  where
    go : (s : Side) → has (word_at w i).holder s ≡ true → is_held (word_at w i) ≡ true
    go A e = grind (arith, e)
    go B e = grind (arith, e)

pub inv-lock : (w : World) (b : Books) (g : Records) (k : Key) (r : Router) (i : ℕ) (plan : Plan) → Inv w b g → CanTouch w k r i acts.Lock →
    plan_of (word_at w i) r.end.side ≡ plan → Inv (lock_act w k r i plan) b g
unfolding is_possible
inv-lock w b g k r i Refuses law can planned = inv-flagged w (lock_act w k r i Refuses) b g k r (fail_lock r) law can.here
    (set-both w k (fail_lock r) i (word_at w i)) words flagged (record { spare = refl; marked = refl; holds = refl })
  where
    words : SameWords w (lock_act w k r i Refuses)
    words = record {
      words = λ j. grind (arith, word-both w k (fail_lock r) i (word_at w i) j, nat_tests);
      claimed =
          claimed-both w k (fail_lock r) i (word_at w i);
    }

    flagged : IsFlagged r (fail_lock r)
    flagged = record { end = refl; outward = refl; inward = refl; out_queue = refl; in_queue = refl; closed = refl; mark_seen = refl; mark_dropped = refl; gone_sent = refl }
inv-lock w b g k r i Waits law can planned =
    inv-touched w (lock_act w k r i Waits) b g k r (fail_lock r) i x law can.here can.word live (set-both w k (fail_lock r) i x)
    (claimed-both w k (fail_lock r) i x) flagged (word-both w k (fail_lock r) i x) shaped touches
  where
    x : Word
    x = wait (word_at w i) r.end.side

    on : OnWord w g k r i
    on = on-word w b g k r i law can.here can.word

    live : is_begun (g.bypass i) ≡ false
    live = not_true _ (λ h. grind (arith, held-begun w b g i law h, tried-free (word_at w i) r.end.side (λ e. grind (arith, e, planned))))

    says : Says (word_at w i) r
    says = word-says w b g k r i law can.here on live

    flagged : IsFlagged r (fail_lock r)
    flagged = record { end = refl; outward = refl; inward = refl; out_queue = refl; in_queue = refl; closed = refl; mark_seen = refl; mark_dropped = refl; gone_sent = refl }

    shaped : FlagsFit r (fail_lock r)
    shaped = record {
      spare = refl;
      central = (law.shape k r can.here).marked_central;
      still = (law.shape k r can.here).marked_still;
      marked = (law.shape k r can.here).holds_marked;
      fit = (law.shape k r can.here).holds_fit;
      word = (law.shape k r can.here).holds_spare;
    }

    touches : Touches (word_at w i) x (fail_lock r)
    touches = record {
      stable = says.stable;
      stable_other = refl;
      holder = says.holder;
      holder_other = refl;
      held_stable = (law.words.each i).held_stable;
      one_holder = (law.words.each i).one_holder;
      source = λ h. had_source w b g k r i law can.here on h;
      source_other = λ h. refl;
    }
inv-lock w b g k r i Locks law can planned =
    inv-touched w (lock_act w k r i Locks) b g k r (take_lock r) i x law can.here can.word live (set-both w k (take_lock r) i x)
    (claimed-both w k (take_lock r) i x) flagged (word-both w k (take_lock r) i x) shaped touches
  where
    x : Word
    x = lock (word_at w i) r.end.side (source_of r)

    on : OnWord w g k r i
    on = on-word w b g k r i law can.here can.word

    free : CanLock (word_at w i) r.end.side
    free = locks-tells (word_at w i) r.end.side planned

    live : is_begun (g.bypass i) ≡ false
    live = not_true _ (λ h. grind (arith, held-begun w b g i law h, tried-free (word_at w i) r.end.side (λ e. grind (arith, e, planned))))

    says : Says (word_at w i) r
    says = word-says w b g k r i law can.here on live

    flagged : IsFlagged r (take_lock r)
    flagged = record { end = refl; outward = refl; inward = refl; out_queue = refl; in_queue = refl; closed = refl; mark_seen = refl; mark_dropped = refl; gone_sent = refl }

    shaped : FlagsFit r (take_lock r)
    shaped = record {
      spare = refl;
      central = (law.shape k r can.here).marked_central;
      still = (law.shape k r can.here).marked_still;
      marked = λ h. sym says.stable ∙ free.mine;
      fit = λ h. grind (arith, can.possible);
      word = λ h p. grind (arith, can.possible, p);
    }

    touches : Touches (word_at w i) x (take_lock r)
    touches = record {
      stable = says.stable;
      stable_other = refl;
      holder = grind (arith, sides);
      holder_other = other r.end.side;
      held_stable = λ s t h. both t (side_is t r.end.side);
      one_holder = λ s t h e. only s h (side_is s r.end.side) ∙ sym (only t e (side_is t r.end.side));
      source = λ h. refl;
      source_other = λ h. absurd (grind (arith, free.free (opposite r.end.side), h));
    }
      where
        other : (s : Side) → has (with (word_at w i).holder s) (opposite s) ≡ has (word_at w i).holder (opposite s)
        other A = grind (arith, sides)
        other B = grind (arith, sides)

        both : (t : Side) → (t ≡ r.end.side) ⊎ (t ≡ opposite r.end.side) → has (word_at w i).stable t ≡ true
        both t (inl e) = grind (arith, free.mine, e)
        both t (inr e) = grind (arith, free.other, e)

        only : (s : Side) → has (with (word_at w i).holder r.end.side) s ≡ true → (s ≡ r.end.side) ⊎ (s ≡ opposite r.end.side) →
            s ≡ r.end.side
        only s h (inl e) = e
        only s h (inr e) = absurd (grind (arith, other r.end.side, free.free (opposite r.end.side), h, e))
