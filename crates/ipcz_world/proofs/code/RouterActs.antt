-- What the table of link words answers to an act of a router, and what the act makes of the world.
use Rattle.std.specs.Prelude.{◌≡◌, ◌<◌, ◌+◌, ℕ, Bool, true, false, not, ◌&&◌, ◌||◌, nat_lt, if◌then◌else◌, Option, Some, None, is_some, option_map}
use Rattle.std.specs.Prelude.{IfSome, length}
use Rattle.std.proofs.Common.{arith, ap, sym, subst, refl, ◌∙◌}
use Rattle.ipcz_world.proofs.Vocabulary.{Side, place_at, put_place, has, Word, empty_word, Router, primary_word, is_possible, RouterAct, World}
use Rattle.ipcz_world.proofs.Vocabulary.{word_at, set_word, set_claimed, answer_of, plan_of, Plan, Locks, Waits, Refuses, source_of, may_take}
use Rattle.ipcz_world.proofs.Vocabulary.{is_rest, word_answer, link_answer, touch_word, touch, WordTable, HasLengths}
use Rattle.ipcz_router.specs.ActTable.{is_ready, is_leaving, can_begin, can_retire}
use Rattle.ipcz_router.specs.ActEffects.{IsAnswerOf}
use Rattle.ipcz_router.specs.declared.act.RouterAct.TheVariants as acts
use Rattle.ipcz_router.specs.declared.act.Answer.TheVariants as answers
use Rattle.ipcz_world.specs.WordAnswers.{try_answer, word_after, claim_answer, claim_next}
use Rattle.ipcz_world.specs.Coding.{has_unclaimed, claim_one, is_claim, side_answer, side_after, table_answer, table_after}
use Rattle.ipcz_world.specs.Coding.{table_of}
use Rattle.ipcz_world.proofs.code.Slots.{put-same, length-put}
use Rattle.ipcz_world.proofs.facts.Tests.{and_first, and_second}

-- the word and the side of a router's outward primary link
abbrev pub link_of : Router → Option ℕ → Option (ℕ × Side)
link_of r p = option_map (λ i. (i, r.end.side)) p

-- the world with the words of this table
abbrev pub retabled : World → WordTable → World
retabled w t = record w { words = t.words; claimed = t.claimed; size = length t.words }

module _ (w : World) (r : Router) where
  on_link : (act : RouterAct) (p : Option ℕ) → link_answer w r.end.side (source_of r) act p ≡ side_answer (table_of w) (source_of r) act
      (link_of r p)
  unfolding link_answer side_answer word_at
  on_link act None = refl
  on_link act (Some i) = refl

  on_claim : HasLengths w → claim_answer w ≡ (if has_unclaimed (table_of w) then answers.Claimed w.claimed else answers.NoWord)
  on_claim has = ap (λ s. if nat_lt w.claimed s then answers.Claimed w.claimed else answers.NoWord) (sym has.words)

  -- the answer of the world is that of its table
  pub answers-as : (act : RouterAct) → HasLengths w → answer_of w r act ≡ table_answer (table_of w) (source_of r) act
      (link_of r (primary_word r))
  unfolding answer_of is_claim
  answers-as acts.Claim has = on_claim has
  answers-as other has = on_link other (primary_word r)

  same_table : HasLengths w → w ≡ retabled w (table_of w)
  same_table has = λ j. record w { size = sym has.words j }

  touched : (act : RouterAct) (p : Option ℕ) → HasLengths w → IfSome p (λ i. i < w.size) →
      touch_word w r.end.side (source_of r) act p ≡ retabled w (side_after (table_of w) (source_of r) act (link_of r p))
  unfolding touch_word side_after set_word word_at
  touched act None has l = same_table has
  touched act (Some i) has l = λ j. record w {
    words = put_place empty_word w.words i (word_after (place_at empty_word w.words i) r.end.side (source_of r) act);
    size = sym (length-put empty_word w.words i (word_after (place_at empty_word w.words i) r.end.side (source_of r) act)
        (omega (arith, l, has.words)) ∙
        has.words) j;
  }

  still : (act : RouterAct) (p : Option ℕ) → HasLengths w → IfSome p (λ i. i < w.size) →
      ((x : Word) → word_after x r.end.side (source_of r) act ≡ x) →
      w ≡ retabled w (side_after (table_of w) (source_of r) act (link_of r p))
  unfolding side_after
  still act None has l keeps = same_table has
  still act (Some i) has l keeps =
      let e : put_place empty_word w.words i (word_after (place_at empty_word w.words i) r.end.side (source_of r) act) ≡ w.words =
      ap (put_place empty_word w.words i) (keeps (place_at empty_word w.words i)) ∙
      put-same empty_word w.words i (omega (arith, l, has.words))
      in λ j. record w { words = sym e j; size = (sym has.words ∙ ap length (sym e)) j }

  claims : HasLengths w → claim_next w ≡ retabled w (if has_unclaimed (table_of w) then claim_one (table_of w) else table_of w)
  unfolding set_claimed
  claims has = ap (λ s. if nat_lt w.claimed s then set_claimed w (w.claimed + 1) else w) (sym has.words) ∙
      go (nat_lt w.claimed (length w.words))
    where
      go : (c : Bool) → (if c then set_claimed w (w.claimed + 1) else w) ≡ retabled w (if c then claim_one (table_of w) else table_of w)
      go true = λ j. record w { claimed = w.claimed + 1; size = sym has.words j }
      go false = same_table has

  -- the world after the act is the world with the table after it
  pub touches-as : (act : RouterAct) → HasLengths w → IfSome (primary_word r) (λ i. i < w.size) →
      touch w r act ≡ retabled w (table_after (table_of w) (source_of r) act (link_of r (primary_word r)))
  unfolding touch is_claim word_after
  touches-as acts.Mark has l = touched acts.Mark (primary_word r) has l
  touches-as acts.Wake has l = touched acts.Wake (primary_word r) has l
  touches-as acts.Claim has l = claims has
  touches-as acts.Lock has l = touched acts.Lock (primary_word r) has l
  touches-as acts.Unlock has l = touched acts.Unlock (primary_word r) has l
  touches-as other has l = still other (primary_word r) has l (λ x. refl)

or_left : (a b : Bool) → b ≡ false → (a || b) ≡ true → a ≡ true
or_left true b k e = refl
or_left false b k e = cc

-- what follows of each of two follows of either
either : {P : Type 0} (a b : Bool) → (a || b) ≡ true → (a ≡ true → P) → (b ≡ true → P) → P
either true b e first second = first refl
either false b e first second = second e

try_is : (x : Word) (s : Side) (source : Option ℕ) (p : Plan) → IsAnswerOf acts.Lock (try_answer x s source p)
unfolding try_answer
try_is x s source Locks = tt
try_is x s source Waits = tt
try_is x s source Refuses = tt

module _ (t : WordTable) (r : Router) where
  central : (act : RouterAct) (p : Option ℕ) → is_some p ≡ true →
      ((x : Word) → IsAnswerOf act (word_answer x r.end.side (source_of r) act)) →
      IsAnswerOf act (side_answer t (source_of r) act (link_of r p))
  unfolding side_answer
  central act None some is = cc
  central act (Some i) some is = is (place_at empty_word t.words i)

  plain : (act : RouterAct) (p : Option ℕ) → IsAnswerOf act answers.Plain →
      ((x : Word) → word_answer x r.end.side (source_of r) act ≡ answers.Plain) →
      IsAnswerOf act (side_answer t (source_of r) act (link_of r p))
  unfolding side_answer
  plain act None is same = is
  plain act (Some i) is same = subst (IsAnswerOf act) (sym (same (place_at empty_word t.words i))) is

  claim_is : (c : Bool) → IsAnswerOf acts.Claim (if c then answers.Claimed t.claimed else answers.NoWord)
  claim_is true = tt
  claim_is false = tt

  -- the answer of the table is of the act's kind, if the router may take it
  pub answers-kind : (act : RouterAct) → may_take r act ≡ true → IsAnswerOf act
      (table_answer t (source_of r) act (link_of r (primary_word r)))
  unfolding is_claim word_answer is_possible is_rest
  answers-kind acts.Mark may = central acts.Mark (primary_word r) (and_first _ _ (or_left _ _ refl may)) (λ x. tt)
  answers-kind acts.Wake may = central acts.Wake (primary_word r) (and_second _ _ (or_left _ _ refl may)) (λ x. tt)
  answers-kind acts.Claim may = claim_is (has_unclaimed t)
  answers-kind acts.Lock may = central acts.Lock (primary_word r)
      (either (is_ready r && (is_some r.spare && not r.holds)) (is_leaving r && not r.holds) (or_left _ _ refl may)
      (λ ready. and_first _ _ (and_second _ _ (and_first _ _ ready)))
      (λ leaving. and_first _ _ (and_second _ _ (and_first _ _ leaving))))
      (λ x. try_is x r.end.side (source_of r) (plan_of x r.end.side))
  answers-kind acts.Unlock may =
      central acts.Unlock (primary_word r)
      (either (can_begin r) (can_retire r) (or_left _ _ refl may) (λ begins. and_first _ _ (and_second _ _ (and_second _ _ begins)))
      (λ retires. and_first _ _ (and_second _ _ (and_second _ _ retires)))) (λ x. tt)
  answers-kind other may = plain other (primary_word r) tt (λ x. refl)
