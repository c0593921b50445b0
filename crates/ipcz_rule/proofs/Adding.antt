-- The books with an item or a parcel more, or an item more that is gone, joined from the parts with its entry more.
use Rattle.std.specs.Prelude.{◌≡◌, ◌≢◌, ◌⊎◌, ◌<◌, ◌≤◌, ◌+◌, ℕ, zero, suc, Bool, true, false, cond, ◌&&◌, nat_eq, List, [], ◌∷◌, ◌++◌, length, slice_get, Some, refl}
use Rattle.std.proofs.Common.{arith, ap, ◌∙◌, sym, subst, inl, inr, set}
use Rattle.std.proofs.lemmas.Bool.Decides.{nat_tests}
use mathlib.Core.Option.{some}
use mathlib.Core.Logic.{dite}
use native.Mathlib.Decide.{ℕ_discrete}
use lib.ListN.{get_elem?}
use Rattle.atomic_table.proofs.Lists.{at_longer, at_last, at_snoc, set_here}
use Rattle.ipcz_base.specs.declared.side.Side.{Side}
use Rattle.ipcz_base.specs.declared.side.Side.TheVariants.{A, B}
use Rattle.ipcz_base.specs.Sides.{same_side}
use Rattle.ipcz_base.specs.declared.end.End.{End}
use Rattle.ipcz_base.specs.declared.item.Item.{Item}
use Rattle.ipcz_base.specs.declared.parcel.Parcel as parcels
use Rattle.ipcz_base.specs.Ends.{same_end}
use Rattle.ipcz_world.specs.Books.{Books, add_put, add_got, add_gone, read}
use Rattle.ipcz_rule.specs.declared.view.View.{View}
use Rattle.ipcz_rule.specs.declared.view.Part.{Part}
use Rattle.ipcz_rule.specs.Rule.{InParts, Joined, puts_of, gets_of, drops_of}
use Rattle.ipcz_rule.proofs.Joins.{stays_in, stood_in, stands_in, same_in}
use Rattle.ipcz_rule.proofs.Moved.{at_inside}

pub slice_get-more : {X : Type 0} (xs : List X) (y x : X) (i : ℕ) → slice_get (xs ++ y ∷ []) i ≡ Some x → (slice_get xs i ≡ Some x) ⊎ ((i ≡ length xs) × (x ≡ y))
slice_get-more [] y x zero e = inr (refl, grind (arith, e))
slice_get-more [] y x (suc i) e = cc
slice_get-more (z ∷ xs) y x zero e = inl e
slice_get-more (z ∷ xs) y x (suc i) e = elim (slice_get-more xs y x i e) [ inl h ↦ inl h | inr h ↦ inr (ap suc h.0, h.1) ]

pub slice_get-longer : {X : Type 0} (xs : List X) (y x : X) (i : ℕ) → slice_get xs i ≡ Some x → slice_get (xs ++ y ∷ []) i ≡ Some x
slice_get-longer [] y x i e = cc
slice_get-longer (z ∷ xs) y x zero e = e
slice_get-longer (z ∷ xs) y x (suc i) e = slice_get-longer xs y x i e

pub slice_get-last : {X : Type 0} (xs : List X) (y : X) → slice_get (xs ++ y ∷ []) (length xs) ≡ Some y
slice_get-last [] y = refl
slice_get-last (z ∷ xs) y = slice_get-last xs y

same_side_is : (s t : Side) → same_side s t ≡ true → s ≡ t
same_side_is A A h = refl
same_side_is A B h = cc
same_side_is B A h = cc
same_side_is B B h = refl

and_first : (a b : Bool) → (a && b) ≡ true → a ≡ true
and_first true b h = refl
and_first false b h = cc

and_second : (a b : Bool) → (a && b) ≡ true → b ≡ true
and_second true b h = h
and_second false b h = cc

pub same_end-is : (d e : End) → same_end d e ≡ true → d ≡ e
same_end-is d e h =
    let p : d.pair ≡ e.pair = let q = and_first (nat_eq d.pair e.pair) (same_side d.side e.side) h in grind (arith, q, nat_tests) in
    let s : d.side ≡ e.side = same_side_is d.side e.side (and_second (nat_eq d.pair e.pair) (same_side d.side e.side) h) in
    λ i. record { pair = p i; side = s i }

same_side-itself : (s : Side) → same_side s s ≡ true
same_side-itself A = refl
same_side-itself B = refl

pub same_end-itself : (e : End) → same_end e e ≡ true
same_end-itself e = grind (arith, nat_tests, same_side-itself e.side)

-- a statement of the books at an end, by whether it is the end with one more
pub more_by : {X : Type 0} (f : End → X) (x : X) (e d : End) (P : X → Type 0) → (d ≢ e → P (f d)) → (d ≡ e → P x) → P (cond (same_end d e) x (f d))
more_by f x e d P other own = go (same_end d e) refl
  where
    go : (b : Bool) → same_end d e ≡ b → P (cond b x (f d))
    go true h = own (same_end-is d e h)
    go false h = other (λ is. grind (arith, h, is, same_end-itself e))

-- a list at each end has one more at the end e, and the part that changed has its entry more
module _ {X : Type 0} (of : Part → List ((End × ℕ) × X)) (f : End → List X) (views : List View) (id : ℕ) (v v' : View) (p p' : Part) (e : End) (x : X)
    (at : get_elem? views id ≡ some v) (is : v.parts ≡ p ∷ []) (is' : v'.parts ≡ p' ∷ [])
    (more : of p' ≡ of p ++ ((e, length (f e)), x) ∷ [])
    (there : (d : End) (n : ℕ) (y : X) → slice_get (f d) n ≡ Some y → InParts views of ((d, n), y))
    (only_there : (d : End) (n : ℕ) (y : X) → InParts views of ((d, n), y) → slice_get (f d) n ≡ Some y) where
  abbrev Entry : Type 0
  Entry = (End × ℕ) × X

  abbrev after : List View
  after = set views id v'

  abbrev entry : Entry
  entry = ((e, length (f e)), x)

  -- the lists with one more
  abbrev added : End → List X
  added d = cond (same_end d e) (f e ++ x ∷ []) (f d)

  keeps : (k : ℕ) (y : Entry) → get_elem? (of p) k ≡ some y → get_elem? (of p') k ≡ some y
  keeps k y t = ap (λ l. get_elem? l k) more ∙ at_longer (of p) (entry ∷ []) k y t

  new : InParts after of entry
  new = record {
    id = id;
    view = v';
    place = 0;
    part = p';
    index = length (of p);
    seat = set_here views id v' (at_inside views id v at);
    there = ap (λ (l : List Part). get_elem? l 0) is';
    entry = ap (λ l. get_elem? l (length (of p))) more ∙ at_last (of p) entry (length (of p)) refl;
  }

  old : (y : Entry) → InParts views of y → InParts after of y
  old = stays_in of views id v v' p p' at is is' keeps

  pub entry_there : (d : End) (n : ℕ) (y : X) → slice_get (added d) n ≡ Some y → InParts after of ((d, n), y)
  entry_there d n y = more_by f (f e ++ x ∷ []) e d (λ xs. slice_get xs n ≡ Some y → InParts after of ((d, n), y))
      (λ ne h. old ((d, n), y) (there d n y h))
      (λ same h. elim (slice_get-more (f e) x y n h) [
        | inl h ↦ old ((d, n), y) (there d n y (ap (λ z. slice_get (f z) n) same ∙ h))
        | inr h ↦ subst (InParts after of) (λ i. ((sym same i, sym h.0 i), sym h.1 i)) new
      ])

  was_there : (d : End) (n : ℕ) (y : X) → slice_get (f d) n ≡ Some y → slice_get (added d) n ≡ Some y
  was_there d n y h = more_by f (f e ++ x ∷ []) e d (λ xs. slice_get xs n ≡ Some y) (λ ne. h)
      (λ same. slice_get-longer (f e) x y n (ap (λ z. slice_get (f z) n) (sym same) ∙ h))

  now_there : (d : End) (n : ℕ) (y : X) → entry ≡ ((d, n), y) → slice_get (added d) n ≡ Some y
  now_there d n y same = more_by f (f e ++ x ∷ []) e d (λ xs. slice_get xs n ≡ Some y)
      (λ ne. absurd (ne (sym (ap (λ (z : Entry). z.0.0) same))))
      (λ own. ap (slice_get (f e ++ x ∷ [])) (sym (ap (λ (z : Entry). z.0.1) same)) ∙ (slice_get-last (f e) x ∙ ap (λ (z : Entry). Some z.1) same))

  pub entry_back : (d : End) (n : ℕ) (y : X) → InParts after of ((d, n), y) → slice_get (added d) n ≡ Some y
  entry_back d n y h = elim (stood_in of views id v v' p p' at is is' ((d, n), y) h) [
    | inl was ↦ was_there d n y (only_there d n y was)
    | inr t ↦ elim (at_snoc (of p) entry ((d, n), y) t.0 (ap (λ l. get_elem? l t.0) (sym more) ∙ t.1)) [
      | inl o ↦ was_there d n y (only_there d n y (stands_in of views id v v' p p' at is is' t.0 ((d, n), y) o))
      | inr o ↦ now_there d n y o
    ]
  ]

module _ (views : List View) (id : ℕ) (v v' : View) (p p' : Part) (b : Books) (e : End) (at : get_elem? views id ≡ some v) (is : v.parts ≡ p ∷ []) (is' : v'.parts ≡ p' ∷ []) (j : Joined views b) where
  -- an item more was put
  pub joined_put : (item : Item) → p'.put ≡ p.put ++ ((e, length (b.put e)), item) ∷ [] → p'.got ≡ p.got → p'.gone ≡ p.gone → Joined (set views id v') (add_put b e item)
  joined_put item more got gone = record {
    put = entry_there puts_of b.put views id v v' p p' e item at is is' more j.put j.put_only;
    put_only = entry_back puts_of b.put views id v v' p p' e item at is is' more j.put j.put_only;
    got = λ d n q h. stays_in gets_of views id v v' p p' at is is' (λ k x t. ap (λ l. get_elem? l k) got ∙ t) _ (j.got d n q h);
    got_only = λ d n q h. j.got_only d n q (same_in gets_of views id v v' p p' at is is' got _ h);
    gone = λ d n h l. stays_in drops_of views id v v' p p' at is is' (λ k x t. ap (λ l. get_elem? l k) gone ∙ t) _ (j.gone d n h l);
    gone_only = λ d n h. j.gone_only d n (same_in drops_of views id v v' p p' at is is' gone _ h);
  }

  -- a parcel more was got, at an end that has dropped nothing
  pub joined_got : (q : parcels.Parcel) → b.gone e ≡ 0 → p'.got ≡ p.got ++ ((e, length (b.got e)), q) ∷ [] → p'.put ≡ p.put → p'.gone ≡ p.gone → Joined (set views id v') (add_got b e q)
  joined_got q nothing more put gone = record {
    put = λ d n item h. stays_in puts_of views id v v' p p' at is is' (λ k x t. ap (λ l. get_elem? l k) put ∙ t) _ (j.put d n item h);
    put_only = λ d n item h. j.put_only d n item (same_in puts_of views id v v' p p' at is is' put _ h);
    got = entry_there gets_of b.got views id v v' p p' e q at is is' more j.got j.got_only;
    got_only = entry_back gets_of b.got views id v v' p p' e q at is is' more j.got j.got_only;
    gone = λ d n. more_by b.got (b.got e ++ q ∷ []) e d (λ xs. length xs ≤ n → n < length xs + b.gone d → InParts (set views id v') drops_of (d, n))
        (λ ne h l. stays_in drops_of views id v v' p p' at is is' (λ k x t. ap (λ l. get_elem? l k) gone ∙ t) _ (j.gone d n h l))
        (λ same h l. let none_here = ap b.gone same in absurd (omega (arith, nothing, none_here, h, l)));
    gone_only = λ d n h. let was = j.gone_only d n (same_in drops_of views id v v' p p' at is is' gone _ h) in
        more_by b.got (b.got e ++ q ∷ []) e d (λ xs. (length xs ≤ n) × (n < length xs + b.gone d)) (λ ne. was)
        (λ same. let none_here = ap b.gone same in let a = was.0 in let l = was.1 in absurd (omega (arith, nothing, none_here, a, l)));
  }

  dropped_by : (d : End) (n : ℕ) → d ≡ e → n ≡ read b e → ◌≡◌ {A = End × ℕ} (e, read b e) (d, n)
  dropped_by d n same number i = (sym same i, sym number i)

  -- an item more is gone
  pub joined_gone : p'.gone ≡ p.gone ++ (e, read b e) ∷ [] → p'.put ≡ p.put → p'.got ≡ p.got → Joined (set views id v') (add_gone b e)
  joined_gone more put got = record {
    put = λ d n item h. stays_in puts_of views id v v' p p' at is is' (λ k x t. ap (λ l. get_elem? l k) put ∙ t) _ (j.put d n item h);
    put_only = λ d n item h. j.put_only d n item (same_in puts_of views id v v' p p' at is is' put _ h);
    got = λ d n q h. stays_in gets_of views id v v' p p' at is is' (λ k x t. ap (λ l. get_elem? l k) got ∙ t) _ (j.got d n q h);
    got_only = λ d n q h. j.got_only d n q (same_in gets_of views id v v' p p' at is is' got _ h);
    gone = λ d n. more_by b.gone (b.gone e + 1) e d (λ c. length (b.got d) ≤ n → n < length (b.got d) + c → InParts (set views id v') drops_of (d, n))
        (λ ne h l. old (d, n) (j.gone d n h l))
        (λ same h l. dite (ℕ_discrete n (read b e))
        (λ number. subst (InParts (set views id v') drops_of) (dropped_by d n same number) new)
        (λ apart. old (d, n) (j.gone d n h (let k = ap (λ z. length (b.got z)) same in let g = ap b.gone same in omega (arith, h, l, k, g, apart)))));
    gone_only = λ d n h. elim (stood_in drops_of views id v v' p p' at is is' (d, n) h) [
      | inl was ↦ still d n (j.gone_only d n was)
      | inr t ↦ elim (at_snoc p.gone (e, read b e) (d, n) t.0 (ap (λ l. get_elem? l t.0) (sym more) ∙ t.1)) [
        | inl o ↦ still d n (j.gone_only d n (stands_in drops_of views id v v' p p' at is is' t.0 (d, n) o))
        | inr o ↦ more_by b.gone (b.gone e + 1) e d (λ c. (length (b.got d) ≤ n) × (n < length (b.got d) + c))
            (λ ne. absurd (ne (sym (ap (λ (z : End × ℕ). z.0) o))))
            (λ same. let k = ap (λ z. length (b.got z)) same in let number = ap (λ (z : End × ℕ). z.1) o in (omega (arith, k, number), omega (arith, k, number)))
      ]
    ];
  }
    where
      old : (x : End × ℕ) → InParts views drops_of x → InParts (set views id v') drops_of x
      old = stays_in drops_of views id v v' p p' at is is' (λ k x t. ap (λ l. get_elem? l k) more ∙ at_longer p.gone ((e, read b e) ∷ []) k x t)

      new : InParts (set views id v') drops_of (e, read b e)
      new = record {
        id = id;
        view = v';
        place = 0;
        part = p';
        index = length p.gone;
        seat = set_here views id v' (at_inside views id v at);
        there = ap (λ (l : List Part). get_elem? l 0) is';
        entry = ap (λ l. get_elem? l (length p.gone)) more ∙ at_last p.gone (e, read b e) (length p.gone) refl;
      }

      still : (d : End) (n : ℕ) → (length (b.got d) ≤ n) × (n < read b d) → (length (b.got d) ≤ n) × (n < length (b.got d) + (add_gone b e).gone d)
      still d n was = (was.0, more_by b.gone (b.gone e + 1) e d (λ c. n < length (b.got d) + c) (λ ne. was.1) (λ same. let g = ap b.gone same in let l = was.1 in omega (arith, l, g)))
