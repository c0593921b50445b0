-- The table at the start, and the seats that are dealt there.
use Rattle.std.specs.Prelude.{◌≡◌, ℕ, Bool, true, false, cond, List, [], ◌∷◌, ◌++◌, map, slice_index, slice_set, refl}
use Rattle.std.proofs.Common.{arith, ap, ◌∙◌, sym, subst, inl, inr, ⊎_elim, set}
use Rattle.std.proofs.lemmas.List.{map-set}
use Rattle.std.proofs.Math.Nat.{mod-eq_of_lt}
use mathlib.Core.Logic.{dite}
use native.Mathlib.Decide.{dec_lt}
use Rattle.atomic_table.specs.Table.{State}
use Rattle.atomic_table.proofs.Lists.{at_snoc, at_longer}
use Rattle.ipcz_slots.specs.declared.own.Own.{Own}
use Rattle.ipcz_slots.specs.Slots.{Virtual, Sizes, Laws, Owns, HasOwner, LetGo, NotLetGo, Status, Shows, Dirty, Free, Spare, of_none, let_go_word, has_number}
use Rattle.ipcz_slots.specs.SlotKinds.{Starts, Deals, Comes}
use Rattle.ipcz_slots.proofs.Folding.{says_still, view_at, own_after, owned_after}

pub no_slots : (z : Sizes) (status : ℕ → Status) (id : ℕ) (dirty free : List ℕ) → dirty ≡ [] → free ≡ [] → Owns z status id dirty free
no_slots z status id dirty free d f = record {
  dirty_is = λ p h. absurd (let k : has_number [] p ≡ true = subst (λ l. has_number l p ≡ true) d h in cc);
  free_is = λ p h. absurd (let k : has_number [] p ≡ true = subst (λ l. has_number l p ≡ true) f h in cc);
}

-- a number that isn't claimed may count as let go by both sides, and by none
unclaimed_let_go : {S V : Type 0} (x : Virtual S V) (t : State S V) (r : x.holds t) (reuses : Bool) (i : ℕ) → ((b : Bool) → x.gone t r b i) → LetGo x t r (cond reuses 3 0) i
unclaimed_let_go x t r true i h = (h false, h true)
unclaimed_let_go x t r false i h = tt

pub starts : {S V : Type 0} (x : Virtual S V) (z : Sizes) → Laws x z → Starts x z
starts {S} {V} x z laws s t r b = record {
  wide = b.wide;
  tall = b.tall;
  homes = b.homes;
  views = b.views;
  rest = b.rest;
  status = Shows;
  owned = λ p l. tt;
  slots = λ p l. (
    mod-eq_of_lt l,
    (let n = b.numbers in omega (arith, n, l)),
    b.links p l,
    dite (dec_lt p (slice_index t.words z.limit))
        (λ here. subst (λ n. LetGo x t r n p) (sym (b.claimed p here)) tt)
        (λ far. subst (λ n. LetGo x t r n p) (sym (b.unclaimed p (omega (arith, far)) l)) (unclaimed_let_go x t r z.reuses p (λ d. laws.unclaimed t r d p (omega (arith, far))))),
    λ again other. dite (dec_lt p (slice_index t.words z.limit))
        (λ here. subst (λ n. NotLetGo x t r n p) (sym (b.claimed p here)) (b.held again false p here, b.held again true p here))
        (λ far. subst (λ n. NotLetGo x t r n p) (sym (b.unclaimed p (omega (arith, far)) l ∙ ap (λ c. cond c 3 0) again)) tt),
  );
  others = λ i l. inl (ap Shows (mod-eq_of_lt (let f = b.few in omega (arith, l, f))));
  own = λ id o at. no_slots z Shows id o.dirty o.free (b.none id o at).0 (b.none id o at).1;
  whole = λ e. record { shows = λ p l. refl; fresh = λ p far l. b.unclaimed p far l ∙ ap (λ d. cond d 3 0) e };
}

map_snoc : {A B : Type 0} (f : A → B) (l : List A) (a : A) → map f (l ++ a ∷ []) ≡ map f l ++ f a ∷ []
map_snoc f [] a = refl
map_snoc f (y ∷ ys) a = ap (λ l. f y ∷ l) (map_snoc f ys a)

-- a seat's slots are its own where there is one seat more
owner_longer : {V : Type 0} (views : List (Own V)) (new : Own V) (p : ℕ) (st : Status) → HasOwner views p st → HasOwner (views ++ new ∷ []) p st
owner_longer views new p (Shows i) h = tt
owner_longer views new p (Dirty k) h = (h.0, at_longer views (new ∷ []) k h.0 h.1, h.2)
owner_longer views new p (Free k) h = (h.0, at_longer views (new ∷ []) k h.0 h.1, h.2)
owner_longer views new p Spare h = tt

pub deals : {S V : Type 0} (x : Virtual S V) (z : Sizes) → Laws x z → Deals x z
deals {S} {V} x z laws g id o left right deal s l at =
    let t = l.0 in
    let r = l.1 in
    let fold = l.2 in
    let d = deal t r (view_at x z s t r fold id o at) in
    let t' : State S V = record { words = t.words; homes = t.homes; views = slice_set t.views id left ++ right ∷ [] } in
    let mine : Own V = record { view = left; dirty = o.dirty; free = o.free; looked = o.looked } in
    let new : Own V = record { view = right; dirty = []; free = []; looked = [] } in (
      (
        t',
        d.0,
        record {
          wide = fold.wide;
          tall = fold.tall;
          homes = fold.homes;
          views = map_snoc (λ q. q.view) (set s.views id mine) new ∙ ap (λ vs. vs ++ right ∷ []) (map-set (λ q. q.view) s.views id mine ∙ ap (λ vs. set vs id left) fold.views);
          rest = fold.rest;
          status = fold.status;
          slots = λ p k. says_still x z of_none t t' r d.0 p (slice_index s.words p) (slice_index s.words (let_go_word z p)) (fold.status p) (λ i e b. refl) (λ b i e. d.1.0 b i)
              (λ again b i e other. d.1.1 b i) (fold.slots p k);
          others = λ i k. ⊎_elim (λ e. inl e) (λ h. inr (d.1.0 false i h.0, d.1.0 true i h.1)) (fold.others i k);
          owned = λ p k. owner_longer (set s.views id mine) new p (fold.status p) (owned_after s.views id o mine p (fold.status p) at (λ h. h) (λ h. h) (fold.owned p k));
          own = λ j q there. ⊎_elim
              (λ e. own_after z s.views fold.status fold.status id mine fold.own (λ j1 p ne. ((λ e. e), (λ e. e))) (let w = fold.own id o at in record { dirty_is = w.dirty_is; free_is = w.free_is }) j q e)
              (λ e. no_slots z fold.status j q.dirty q.free (ap (λ y. y.dirty) (sym e)) (ap (λ y. y.free) (sym e)))
              (at_snoc (set s.views id mine) new q j there);
          whole = fold.whole;
        },
      ),
      d.2,
    )

pub comes : {S V : Type 0} (x : Virtual S V) (z : Sizes) → Comes x z
comes {S} {V} x z g right s l d =
    let t = l.0 in
    let r = l.1 in
    let fold = l.2 in
    let t' : State S V = record { words = t.words; homes = t.homes; views = t.views ++ right ∷ [] } in
    let new : Own V = record { view = right; dirty = []; free = []; looked = [] } in (
      (
        t',
        d.0,
        record {
          wide = fold.wide;
          tall = fold.tall;
          homes = fold.homes;
          views = map_snoc (λ q. q.view) s.views new ∙ ap (λ vs. vs ++ right ∷ []) fold.views;
          rest = fold.rest;
          status = fold.status;
          slots = λ p k. says_still x z of_none t t' r d.0 p (slice_index s.words p) (slice_index s.words (let_go_word z p)) (fold.status p) (λ i e b. refl) (λ b i e. d.1.0 b i)
              (λ again b i e other. d.1.1 b i) (fold.slots p k);
          others = λ i k. ⊎_elim (λ e. inl e) (λ h. inr (d.1.0 false i h.0, d.1.0 true i h.1)) (fold.others i k);
          owned = λ p k. owner_longer s.views new p (fold.status p) (fold.owned p k);
          own = λ j q there. ⊎_elim (λ e. fold.own j q e)
              (λ e. no_slots z fold.status j q.dirty q.free (ap (λ y. y.dirty) (sym e)) (ap (λ y. y.free) (sym e)))
              (at_snoc s.views new q j there);
          whole = fold.whole;
        },
      ),
      d.2,
    )
