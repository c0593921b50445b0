-- What lies between two steps of a seat that only loads: an act of another seat, if a number has changed.
use Rattle.std.specs.Prelude.{◌≡◌, ◌≢◌, ◌≤◌, ◌⊎◌, ℕ, zero, suc, Bool, true, false, cond, nat_eq, List, [], ◌∷◌, ◌++◌, length, slice_index, MatchBool, refl}
use Rattle.std.proofs.Common.{arith, ap, ◌∙◌, sym, subst, set, inl, inr, append_assoc, get_or-set_other}
use Rattle.std.proofs.lemmas.List.{set-get_or, append_cancel_left, append-nil}
use Rattle.std.proofs.lemmas.Bool.Decides.{nat_tests}
use mathlib.Core.Option.{some, some-injective, some-ne-none}
use mathlib.Core.Logic.{dite}
use native.Mathlib.Decide.{ℕ_discrete}
use lib.ListN.{get_elem?}
use Rattle.atomic_table.proofs.Lists.{set_else}
use Rattle.ipcz_node.specs.declared.act.Act.{Act}
use Rattle.ipcz_rule.specs.declared.view.View.{View}
use Rattle.ipcz_rule.specs.Rule.{saw}
use Rattle.ipcz_rule.specs.Batches.{BatchMine}
use Rattle.ipcz_rule.specs.TableRuns.{TurnStep, Ruled, after_step, AreSteps}
use Rattle.ipcz_rule.specs.Races.{IsLoad, IsOneAtMost, OnlyLoads, IsOvertaken, RacedIsOvertaken, SightsAreLoads}
use Rattle.ipcz_rule.proofs.TableRuns.{overtaken_by_acts}

put-there : {A : Type 0} (l : List A) (i : ℕ) (a b : A) → get_elem? l i ≡ some b → get_elem? (set l i a) i ≡ some a
put-there [] i a b e = absurd (some-ne-none b (sym e))
put-there (x ∷ xs) zero a b e = refl
put-there (x ∷ xs) (suc i) a b e = put-there xs i a b e

pub heads : {A : Type 0} {x y : A} {xs ys : List A} → x ∷ xs ≡ y ∷ ys → x ≡ y
heads h = cc

tails : {A : Type 0} {x y : A} {xs ys : List A} → x ∷ xs ≡ y ∷ ys → xs ≡ ys
tails h = cc

pub same-seat : (s id : ℕ) → nat_eq s id ≡ true → s ≡ id
same-seat s id e = grind (arith, e, nat_tests)

other-seat : (s id : ℕ) → nat_eq s id ≡ false → id ≢ s
other-seat s id e same = absurd (grind (arith, e, same, nat_tests))

module _ (count size : ℕ) (alone : Bool) (id : ℕ) where
  -- the table, and its runs
  abbrev T : Type 0
  T = Ruled count size alone

  abbrev Steps : Type 0
  Steps = List (List (ℕ × Act))

  abbrev next : (p : T) (turns : List (ℕ × Act)) → TurnStep count size alone p.0 turns → T
  next = after_step count size alone

  -- what the steps of the seat have found
  abbrev pub found_by : (p : T) (steps : Steps) (q : T) → AreSteps count size alone p steps q → List (ℕ × ℕ)
  found_by p [] q run = []
  found_by p (turns ∷ steps) q run =
      cond (nat_eq run.0.seat id) ((run.0.word, slice_index p.0.words run.0.word) ∷ found_by (next p turns run.0) steps q run.1)
      (found_by (next p turns run.0) steps q run.1)

  -- the seat's view after its own load, and after a step of another seat
  pub own-view : (p : T) (turns : List (ℕ × Act)) (t : TurnStep count size alone p.0 turns) (v : View) → t.seat ≡ id → IsLoad count size alone p turns t →
      get_elem? p.0.views id ≡ some v → get_elem? (next p turns t).0.views id ≡ some (saw t.word (slice_index p.0.words t.word) v)
  own-view p turns t v e load at =
      let mine : t.me.0 ≡ v = some-injective t.me.0 v (sym t.there ∙ (ap (get_elem? p.0.views) e ∙ at)) in
      let view : View = (t.allowed p.0 p.1 refl t.there t.small).0 in
      subst (λ j. get_elem? (set p.0.views j view) id ≡ some (saw t.word (slice_index p.0.words t.word) v)) (sym e)
      (put-there p.0.views id view v at ∙ ap some (load.view ∙ ap (saw t.word (slice_index p.0.words t.word)) mine))

  pub other-view : (p : T) (turns : List (ℕ × Act)) (t : TurnStep count size alone p.0 turns) → nat_eq t.seat id ≡ false →
      get_elem? (next p turns t).0.views id ≡ get_elem? p.0.views id
  other-view p turns t e = set_else p.0.views t.seat id (t.allowed p.0 p.1 refl t.there t.small).0 (other-seat t.seat id e)

  -- so what they have found is what its view has seen more
  pub seen-more : (p : T) (steps : Steps) (q : T) (run : AreSteps count size alone p steps q) (v v' : View) → OnlyLoads count size alone id p steps q run →
      get_elem? p.0.views id ≡ some v → get_elem? q.0.views id ≡ some v' → v'.seen ≡ v.seen ++ found_by p steps q run
  seen-more p [] q run v v' loads at last =
      let same : v ≡ v' = some-injective v v' (sym at ∙ (ap (λ (x : T). get_elem? x.0.views id) (sym run) ∙ last)) in
      ap (λ (x : View). x.seen) (sym same) ∙ sym (append-nil v.seen)
  seen-more p (turns ∷ steps) q run v v' loads at last =
      go (nat_eq run.0.seat id) refl loads.0 (λ u here. seen-more (next p turns run.0) steps q run.1 u v' loads.1 here last)
    where
      go : (b : Bool) → nat_eq run.0.seat id ≡ b → MatchBool b (IsLoad count size alone p turns run.0) (IsOneAtMost turns) →
          ((u : View) → get_elem? (next p turns run.0).0.views id ≡ some u → v'.seen ≡ u.seen ++ found_by (next p turns run.0) steps q run.1) →
          v'.seen ≡ v.seen ++ cond b ((run.0.word, slice_index p.0.words run.0.word) ∷ found_by (next p turns run.0) steps q run.1)
          (found_by (next p turns run.0) steps q run.1)
      go true e load more =
          more (saw run.0.word (slice_index p.0.words run.0.word) v) (own-view p turns run.0 v (same-seat run.0.seat id e) load at) ∙
          append_assoc v.seen ((run.0.word, slice_index p.0.words run.0.word) ∷ []) (found_by (next p turns run.0) steps q run.1)
      go false e one more = more v (other-view p turns run.0 e ∙ at)

  -- what a run says of itself by its steps, if so many loads of the seat are yet to come: it is carried over each step backwards
  pub record Carries (G : (k : ℕ) (p : T) (steps : Steps) (q : T) → AreSteps count size alone p steps q → Type 0) : Type 0 where
    pub own : (k : ℕ) (p : T) (turns : List (ℕ × Act)) (steps : Steps) (q : T) (t : TurnStep count size alone p.0 turns)
        (more : AreSteps count size alone (next p turns t) steps q) → nat_eq t.seat id ≡ true → IsLoad count size alone p turns t →
        G k (next p turns t) steps q more → G (suc k) p (turns ∷ steps) q (t, more)
    pub other : (k : ℕ) (p : T) (turns : List (ℕ × Act)) (steps : Steps) (q : T) (t : TurnStep count size alone p.0 turns)
        (more : AreSteps count size alone (next p turns t) steps q) → nat_eq t.seat id ≡ false →
        G k (next p turns t) steps q more → G k p (turns ∷ steps) q (t, more)

  -- from the load that found n on, the rest of a run
  module _ (i n found : ℕ) (G : (k : ℕ) (p : T) (steps : Steps) (q : T) → AreSteps count size alone p steps q → Type 0) (carry : Carries G)
      (rest : (p : T) (steps : Steps) (q : T) (run : AreSteps count size alone p steps q) → OnlyLoads count size alone id p steps q run →
      found_by p steps q run ≡ (i, found) ∷ [] → slice_index p.0.words i ≡ n → G 0 p steps q run) where
    pub from-load : (before : List (ℕ × ℕ)) (p : T) (steps : Steps) (q : T) (run : AreSteps count size alone p steps q) → OnlyLoads count size alone id p steps q run →
        found_by p steps q run ≡ before ++ (i, n) ∷ (i, found) ∷ [] → G (suc (length before)) p steps q run
    from-load before p [] q run loads is = absurd (none before is)
      where
        none : (before : List (ℕ × ℕ)) → [] ≡ before ++ (i, n) ∷ (i, found) ∷ [] → ⊥
        none [] h = cc
        none (b ∷ bs) h = cc
    from-load before p (turns ∷ steps) q run loads is =
        go (nat_eq run.0.seat id) refl loads.0 is (λ bs h. from-load bs (next p turns run.0) steps q run.1 loads.1 h)
      where
        t : TurnStep count size alone p.0 turns
        t = run.0

        left : List (ℕ × ℕ)
        left = found_by (next p turns t) steps q run.1

        More : Type 0
        More = (bs : List (ℕ × ℕ)) → left ≡ bs ++ (i, n) ∷ (i, found) ∷ [] → G (suc (length bs)) (next p turns t) steps q run.1

        go : (b : Bool) → nat_eq t.seat id ≡ b → MatchBool b (IsLoad count size alone p turns t) (IsOneAtMost turns) →
            cond b ((t.word, slice_index p.0.words t.word) ∷ left) left ≡ before ++ (i, n) ∷ (i, found) ∷ [] → More →
            G (suc (length before)) p (turns ∷ steps) q run
        go false e one h more = carry.other (suc (length before)) p turns steps q t run.1 e (more before h)
        go true e load h more = by before h
          where
            kept : (next p turns t).0.words ≡ p.0.words
            kept = ap (set p.0.words t.word) load.same ∙ set-get_or p.0.words t.word 0

            by : (before : List (ℕ × ℕ)) → (t.word, slice_index p.0.words t.word) ∷ left ≡ before ++ (i, n) ∷ (i, found) ∷ [] →
                G (suc (length before)) p (turns ∷ steps) q run
            by [] h = carry.own 0 p turns steps q t run.1 e load (rest (next p turns t) steps q run.1 loads.1 (tails h)
                (ap (λ ws. slice_index ws i) kept ∙ (ap (slice_index p.0.words) (sym (ap (λ (x : ℕ × ℕ). x.0) (heads h))) ∙
                ap (λ (x : ℕ × ℕ). x.1) (heads h))))
            by (b ∷ bs) h = carry.own (suc (length bs)) p turns steps q t run.1 e load (more bs (tails h))

-- if the number of a link word or of the claim count has changed, a step of another seat has changed it, and is an act
module _ (count size : ℕ) (alone : Bool) (id i n found : ℕ) (low : i ≤ size) (apart : found ≢ n) where
  pub overtaken-behind : (p : Ruled count size alone) (steps : List (List (ℕ × Act))) (q : Ruled count size alone) (run : AreSteps count size alone p steps q) →
      OnlyLoads count size alone id p steps q run → found_by count size alone id p steps q run ≡ (i, found) ∷ [] → slice_index p.0.words i ≡ n →
      IsOvertaken count size alone id i 0 p steps q run
  overtaken-behind p [] q run loads is was = cc
  overtaken-behind p (turns ∷ steps) q run loads is was =
      go (nat_eq run.0.seat id) loads.0 is (λ h same. overtaken-behind (after_step count size alone p turns run.0) steps q run.1 loads.1 h same)
    where
      t : TurnStep count size alone p.0 turns
      t = run.0

      u : Ruled count size alone
      u = after_step count size alone p turns t

      left : List (ℕ × ℕ)
      left = found_by count size alone id u steps q run.1

      go : (b : Bool) → MatchBool b (IsLoad count size alone p turns t) (IsOneAtMost turns) →
          cond b ((t.word, slice_index p.0.words t.word) ∷ left) left ≡ (i, found) ∷ [] →
          (left ≡ (i, found) ∷ [] → slice_index u.0.words i ≡ n → IsOvertaken count size alone id i 0 u steps q run.1) →
          MatchBool b ((j : ℕ) × (◌≡◌ {A = ℕ} 0 (suc j)) × IsOvertaken count size alone id i j u steps q run.1)
          (((◌≡◌ {A = ℕ} 0 0) × (t.word ≡ i) × (turns ≢ [])) ⊎ IsOvertaken count size alone id i 0 u steps q run.1)
      go true load h more = absurd (apart (sym (ap (λ (x : ℕ × ℕ). x.1) (heads h)) ∙
          (ap (slice_index p.0.words) (ap (λ (x : ℕ × ℕ). x.0) (heads h)) ∙ was)))
      go false one h more = dite (ℕ_discrete (slice_index u.0.words i) n)
          (λ same. inr (more h same))
          (λ changed. inl (refl, on changed, act changed))
        where
          on : (slice_index u.0.words i ≢ n) → t.word ≡ i
          on changed = dite (ℕ_discrete t.word i) (λ e. e)
              (λ ne. absurd (changed (get_or-set_other p.0.words t.word i (t.change (slice_index p.0.words t.word)) 0 (λ e. ne (sym e)) ∙ was)))

          act : (slice_index u.0.words i ≢ n) → turns ≢ []
          act changed none = overtaken_by_acts count size i alone p u (turns ∷ []) (t, refl) low (λ e. changed (e ∙ was)) (ap (λ ts. ts ++ []) none)

pub raced_is_overtaken : RacedIsOvertaken
raced_is_overtaken count size alone id i n found p q steps run v v' before h low apart =
    from-load count size alone id i n found (λ k p steps q run. IsOvertaken count size alone id i k p steps q run) carry
    (overtaken-behind count size alone id i n found low apart) before p steps q run h.loads
    (append_cancel_left v.seen (found_by count size alone id p steps q run) (before ++ (i, n) ∷ (i, found) ∷ [])
    (sym (seen-more count size alone id p steps q run v v' h.loads h.first h.last) ∙ h.seen))
  where
    carry : Carries count size alone id (λ k p steps q run. IsOvertaken count size alone id i k p steps q run)
    carry = record {
      own = λ k p turns steps q t more e load g. rw e (k, refl, g);
      other = λ k p turns steps q t more e g. rw e (inr g);
    }

pub sights_are_loads : SightsAreLoads
sights_are_loads count size alone id i me change acts hit p kind there small miss same none =
    let done = kind p.0 p.1 refl there small in (
      record {
        seat = id;
        me = me;
        word = i;
        change = change;
        acts = acts;
        allowed = λ s r long at few. let d = kind s r long at few in (d.0, d.1, d.2, d.3, tt);
        there = there;
        small = small;
        is = none;
      },
      record {
        none = refl;
        same = same;
        view = ap (λ (m : BatchMine). m.0) (done.4 miss);
      },
    )
