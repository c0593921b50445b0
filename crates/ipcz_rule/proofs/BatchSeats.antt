-- Seats of a table of batches are dealt and joined, and callers come with seats of their own: words, slots and batches stay, and so does what is shown.
use Rattle.std.specs.Prelude.{◌≡◌, ◌≢◌, ◌<◌, ◌+◌, ◌-◌, ℕ, suc, Bool, Option, Some, List, [], ◌∷◌, ◌++◌, map, length, refl}
use Rattle.std.proofs.Common.{arith, ap, ◌∙◌, sym, subst, ⊎_elim, set, length-set, length-append}
use Rattle.std.proofs.lemmas.List.{map-append}
use mathlib.Core.Option.{some, some-ne-none}
use lib.ListN.{get_elem?}
use Rattle.atomic_table.proofs.Lists.{at_set, set_here, set_else, at_longer, at_last}
use Rattle.ipcz_rule.specs.declared.view.View.{View}
use Rattle.ipcz_rule.specs.declared.view.Part.{Part}
use Rattle.ipcz_rule.specs.declared.history.CallerView.{CallerView}
use Rattle.ipcz_rule.specs.Histories.{caller_view, lent_caller, new_caller, without_caller}
use Rattle.ipcz_rule.specs.Start.{head_parts, tail_parts, dealt, after_deal, opening_part, opening_parts}
use Rattle.ipcz_rule.specs.Kinds.{together, spent}
use Rattle.ipcz_rule.specs.Rule.{St}
use Rattle.ipcz_rule.specs.Batches.{Batch, BatchSt, Batched, Folds, ViewFolds, shown_part}
use Rattle.ipcz_rule.proofs.Dealing.{deals_stay, left-some}
use Rattle.ipcz_rule.proofs.Histories.{StoodPart, at_end, only}
use Rattle.ipcz_rule.proofs.Joining.{in_both, joins_stay}
use Rattle.ipcz_rule.proofs.Moved.{Stays, at_inside}
use Rattle.ipcz_rule.proofs.PostingBeside.{at_unmap}
use Rattle.ipcz_rule.proofs.Starting.{parts_are}
use Rattle.ipcz_rule.proofs.Writing.{callers_come, returns}

-- views that fold others seat by seat, and whose parts stood in a list of views
pub record ViewsFold (count size : ℕ) (fronts : ℕ → List Batch) (from vs vt : List View) : Type 0 where
  pub many : length vs ≡ length vt
  pub each : (id : ℕ) (v : View) → get_elem? vs id ≡ some v → (u : View) × (get_elem? vt id ≡ some u) × ViewFolds count size fronts v u
  pub stood : (id k : ℕ) (v : View) (p : Part) → get_elem? vs id ≡ some v → get_elem? v.parts k ≡ some p → StoodPart from p

-- the parts of a view stood there
abbrev StoodIn : List View → View → Type 0
StoodIn from v = (k : ℕ) (p : Part) → get_elem? v.parts k ≡ some p → StoodPart from p

-- a view without a part
stood_none : (from : List View) (v : View) → v.parts ≡ [] → StoodIn from v
stood_none from v none k p at = absurd (some-ne-none p (sym (ap (λ (l : List Part). get_elem? l k) (sym none) ∙ at)))

-- a seat's view becomes another, which folds what it becomes there
set_folds : {count size : ℕ} {fronts : ℕ → List Batch} {from vs vt : List View} → ViewsFold count size fronts from vs vt → (id : ℕ) (v u : View) → ViewFolds count size fronts v u → StoodIn from v →
    ViewsFold count size fronts from (set vs id v) (set vt id u)
set_folds {count} {size} {fronts} {from} {vs} {vt} f id v u own stood = record {
  many = length-set vs id v ∙ (f.many ∙ sym (length-set vt id u));
  each = λ j w seat. ⊎_elim
      (λ (h : (j ≡ id) × (v ≡ w)).
      let inside = at_inside (set vs id v) j w seat in
      let long = length-set vs id v in
      let same = f.many in
      let there = h.0 in (
        u,
        ap (get_elem? (set vt id u)) h.0 ∙ set_here vt id u (omega (arith, inside, long, same, there)),
        subst (λ (z : View). ViewFolds count size fronts z u) h.1 own,
      ))
      (λ (h : (j ≢ id) × (get_elem? vs j ≡ some w)). let g = f.each j w h.1 in (g.0, set_else vt id j u h.0 ∙ g.1, g.2))
      (at_set vs id j v w seat);
  stood = λ j k w p seat at. ⊎_elim
      (λ (h : (j ≡ id) × (v ≡ w)). stood k p (ap (λ (z : View). get_elem? z.parts k) h.1 ∙ at))
      (λ (h : (j ≢ id) × (get_elem? vs j ≡ some w)). f.stood j k w p h.1 at)
      (at_set vs id j v w seat);
}

-- a seat comes
snoc_folds : {count size : ℕ} {fronts : ℕ → List Batch} {from vs vt : List View} → ViewsFold count size fronts from vs vt → (v u : View) → ViewFolds count size fronts v u → StoodIn from v →
    ViewsFold count size fronts from (vs ++ v ∷ []) (vt ++ u ∷ [])
snoc_folds {count} {size} {fronts} {from} {vs} {vt} f v u own stood = record {
  many = length-append vs (v ∷ []) ∙ (ap (λ n. n + 1) f.many ∙ sym (length-append vt (u ∷ [])));
  each = λ j w seat. ⊎_elim
      (λ (h : get_elem? vs j ≡ some w). let g = f.each j w h in (g.0, at_longer vt (u ∷ []) j g.0 g.1, g.2))
      (λ (h : (j ≡ length vt) × (v ≡ w)). (u, at_last vt u j (sym h.0), subst (λ (z : View). ViewFolds count size fronts z u) h.1 own))
      (at_end vs v w j f.many seat);
  stood = λ j k w p seat at. ⊎_elim
      (λ (h : get_elem? vs j ≡ some w). f.stood j k w p h at)
      (λ (h : (j ≡ length vt) × (v ≡ w)). stood k p (ap (λ (z : View). get_elem? z.parts k) h.1 ∙ at))
      (at_end vs v w j f.many seat);
}

module _ {count size : ℕ} {alone : Bool} {s : BatchSt} {t : St} {fronts : ℕ → List Batch} {left : ℕ → ℕ → Batch} (f : Folds count size alone s t fronts left) where
  -- as they are
  views_fold : ViewsFold count size fronts s.views s.views t.views
  views_fold = record { many = f.many; each = f.views; stood = λ j k v p seat at. (j, v, k, seat, at) }

  -- a table whose seats have moved
  moved_folds : (vs vt : List View) → ViewsFold count size fronts s.views vs vt →
      Folds count size alone (record { words = s.words; homes = s.homes; views = vs }) (record { words = t.words; homes = t.homes; views = vt }) fronts left
  moved_folds vs vt m = record {
    wide = f.wide;
    deep = f.deep;
    many = m.many;
    words = f.words;
    mail = f.mail;
    views = m.each;
    parts = λ j v k p from seat there lf. let h = m.stood j k v p seat there in f.parts h.0 h.1 h.2 p from h.3 h.4 lf;
    announced = f.announced;
    none_behind = f.none_behind;
    none_left = f.none_left;
  }

module _ {count size : ℕ} {alone : Bool} (s : BatchSt) (b : Batched count size alone s) where
  -- the table with these views in place of its own
  abbrev with_views : List View → BatchSt
  with_views vs = record { words = s.words; homes = s.homes; views = vs }

  abbrev g : Part → Part
  g = shown_part b.fronts

  abbrev Fold : View → View → Type 0
  Fold = ViewFolds count size b.fronts

  -- each of them has the parts of a view that folds
  module _ {v u : View} (h : Fold v u) (p : Part) (ps : List Part) (is : v.parts ≡ p ∷ ps) where
    first_folds : Fold (dealt v) (dealt u)
    first_folds = record { parts = ap head_parts (h.parts ∙ ap (map g) is) ∙ sym (ap (λ (l : List Part). map g (head_parts l)) is); announced = refl; caller = refl; seen = h.seen }

    others_fold : Fold (after_deal v) (after_deal u)
    others_fold = record { parts = ap tail_parts (h.parts ∙ ap (map g) is) ∙ sym (ap (λ (l : List Part). map g (tail_parts l)) is); announced = refl; caller = h.caller; seen = h.seen }

  -- deal
  pub deals_batches : (id : ℕ) (v : View) (nodes n : ℕ) → n < nodes → v.parts ≡ opening_parts nodes n (nodes - n) → get_elem? s.views id ≡ some v →
      (b' : Batched count size alone (with_views (set s.views id (after_deal v) ++ dealt v ∷ []))) × Stays b.rules b'.rules
  deals_batches id v nodes n below is at =
      let p : Part = opening_part nodes n in
      let ps : List Part = opening_parts nodes (n + 1) (nodes - (n + 1)) in
      let own : v.parts ≡ p ∷ ps = is ∙ left-some nodes n below in
      let h = b.folds.views id v at in
      let others : (k : ℕ) (q : Part) → get_elem? (map g ps) k ≡ some q → q.node ≢ n = λ k q e same.
      let x = at_unmap g ps k q e in
      let t = parts_are nodes (n + 1) (nodes - (n + 1)) k x.0 x.1 in
      let number : (n + 1) + k ≡ x.0.node = ap (λ (z : Part). z.node) t.1 in
      let node : x.0.node ≡ q.node = ap (λ (z : Part). z.node) x.2 in omega (arith, number, node, same) in
      let d = deals_stay count size id h.0 (g p) (map g ps) (h.2.parts ∙ ap (map g) own) others b.single b.rules h.1 in (
        record {
          single = record { words = b.single.words; homes = b.single.homes; views = set b.single.views id (after_deal h.0) ++ dealt h.0 ∷ [] };
          rules = d.0;
          fronts = b.fronts;
          left = b.left;
          folds = moved_folds b.folds (set s.views id (after_deal v) ++ dealt v ∷ []) (set b.single.views id (after_deal h.0) ++ dealt h.0 ∷ [])
              (snoc_folds (set_folds (views_fold b.folds) id (after_deal v) (after_deal h.0) (others_fold h.2 p ps own)
              (λ k q there. (id, v, suc k, at, ap (λ (l : List Part). get_elem? l (suc k)) own ∙ (sym (ap (λ (l : List Part). get_elem? (tail_parts l) k) own) ∙ there))))
              (dealt v) (dealt h.0) (first_folds h.2 p ps own)
              (λ k q there. (id, v, 0, at, ap (λ (l : List Part). get_elem? l 0) own ∙ ap some (only (dealt v).parts p q k (ap head_parts own) there))));
        },
        d.1,
      )

  -- join
  lent_same : (o o' w w' : Option CallerView) → o' ≡ o → w' ≡ w → lent_caller o' w' ≡ lent_caller o w
  lent_same o o' w w' e f = ap (λ (x : Option CallerView). lent_caller x w') e ∙ ap (lent_caller o) f

  pub joins_batches : (id : ℕ) (v : View) (other : ℕ) (w : View) → get_elem? s.views id ≡ some v → ¬ (other ≡ id) → get_elem? (set s.views id (together v w)) other ≡ some w →
      (b' : Batched count size alone (with_views (set (set s.views id (together v w)) other spent))) × Stays b.rules b'.rules
  joins_batches id v other w at apart there =
      let was : get_elem? s.views other ≡ some w = sym (set_else s.views id other (together v w) apart) ∙ there in
      let h = b.folds.views id v at in
      let k = b.folds.views other w was in
      let d = joins_stay count size id h.0 other k.0 b.single b.rules h.1 apart (set_else b.single.views id other (together h.0 k.0) apart ∙ k.1) in
      let both : Fold (together v w) (together h.0 k.0) = record {
        parts = ap (λ (l : List Part). l ++ k.0.parts) h.2.parts ∙ (ap (λ (l : List Part). map g v.parts ++ l) k.2.parts ∙ sym (map-append g v.parts w.parts));
        announced = refl;
        caller = lent_same v.caller h.0.caller w.caller k.0.caller h.2.caller k.2.caller;
        seen = h.2.seen;
      } in (
        record {
          single = record { words = b.single.words; homes = b.single.homes; views = set (set b.single.views id (together h.0 k.0)) other spent };
          rules = d.0;
          fronts = b.fronts;
          left = b.left;
          folds = moved_folds b.folds (set (set s.views id (together v w)) other spent) (set (set b.single.views id (together h.0 k.0)) other spent)
              (set_folds (set_folds (views_fold b.folds) id (together v w) (together h.0 k.0) both
              (λ j q e. ⊎_elim
              (λ (y : (i : ℕ) × (get_elem? v.parts i ≡ some q)). (id, v, y.0, at, y.1))
              (λ (y : (i : ℕ) × (get_elem? w.parts i ≡ some q)). (other, w, y.0, was, y.1))
              (in_both v.parts w.parts j q e)))
              other spent spent (record { parts = refl; announced = refl; caller = refl; seen = λ i l. refl }) (stood_none s.views spent refl));
        },
        d.1,
      )

  -- the caller that a seat has goes on with a seat of its own
  pub returns_batches : (id : ℕ) (v : View) (p : Part) → get_elem? s.views id ≡ some v → v.parts ≡ p ∷ [] →
      (b' : Batched count size alone (with_views (set s.views id (without_caller v) ++ caller_view v.caller ∷ []))) × Stays b.rules b'.rules
  returns_batches id v p at is =
      let h = b.folds.views id v at in
      let d = returns b.single b.rules id h.0 (g p) h.1 (h.2.parts ∙ ap (map g) is) in (
        record {
          single = record { words = b.single.words; homes = b.single.homes; views = set b.single.views id (without_caller h.0) ++ caller_view h.0.caller ∷ [] };
          rules = d.0;
          fronts = b.fronts;
          left = b.left;
          folds = moved_folds b.folds (set s.views id (without_caller v) ++ caller_view v.caller ∷ []) (set b.single.views id (without_caller h.0) ++ caller_view h.0.caller ∷ [])
              (snoc_folds (set_folds (views_fold b.folds) id (without_caller v) (without_caller h.0) (record { parts = h.2.parts; announced = refl; caller = refl; seen = h.2.seen })
              (λ k q e. (id, v, k, at, e)))
              (caller_view v.caller) (caller_view h.0.caller) (record { parts = refl; announced = refl; caller = h.2.caller; seen = λ i l. refl }) (stood_none s.views (caller_view v.caller) refl));
        },
        d.1,
      )

  -- a caller comes that has called nothing yet
  pub callers_come_batches : (b' : Batched count size alone (with_views (s.views ++ caller_view (Some (new_caller (length s.views))) ∷ []))) × Stays b.rules b'.rules
  callers_come_batches =
      let new : View = caller_view (Some (new_caller (length s.views))) in
      let there : View = caller_view (Some (new_caller (length b.single.views))) in
      let d = callers_come b.single b.rules in (
        record {
          single = record { words = b.single.words; homes = b.single.homes; views = b.single.views ++ there ∷ [] };
          rules = d.0;
          fronts = b.fronts;
          left = b.left;
          folds = moved_folds b.folds (s.views ++ new ∷ []) (b.single.views ++ there ∷ [])
              (snoc_folds (views_fold b.folds) new there (record { parts = refl; announced = refl; caller = ap (λ n. Some (new_caller n)) (sym b.folds.many); seen = λ i l. refl })
              (stood_none s.views new refl));
        },
        d.1,
      )
