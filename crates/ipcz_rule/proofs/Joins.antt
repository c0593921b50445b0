-- The books that the views keep, after a step that writes nothing or one entry.
use Rattle.std.specs.Prelude.{◌≡◌, ◌≢◌, ◌⊎◌, ℕ, List, [], ◌∷◌}
use Rattle.std.proofs.Common.{ap, ◌∙◌, sym, inl, inr, ⊎_elim, set}
use mathlib.Core.Option.{some, some-injective}
use mathlib.Core.Logic.{dite}
use native.Mathlib.Decide.{ℕ_discrete}
use lib.ListN.{get_elem?}
use Rattle.atomic_table.proofs.Lists.{at_set, set_here, set_else}
use Rattle.ipcz_world.specs.Books.{Books}
use Rattle.ipcz_rule.specs.declared.view.View.{View}
use Rattle.ipcz_rule.specs.declared.view.Part.{Part}
use Rattle.ipcz_rule.specs.Rule.{InParts, Joined, puts_of, gets_of, drops_of}
use Rattle.ipcz_rule.proofs.Moved.{at_inside}
use Rattle.ipcz_rule.proofs.Histories.{only}

module _ {X : Type 0} (of : Part → List X) (views : List View) (id : ℕ) (v v' : View) (p p' : Part) (at : get_elem? views id ≡ some v) (is : v.parts ≡ p ∷ []) (is' : v'.parts ≡ p' ∷ []) where
  -- what stood in a part still stands in one, if the part that changed keeps its entries
  pub stays_in : ((k : ℕ) (x : X) → get_elem? (of p) k ≡ some x → get_elem? (of p') k ≡ some x) → (x : X) → InParts views of x → InParts (set views id v') of x
  stays_in keeps x h = dite (ℕ_discrete h.id id)
      (λ same. let whose : v ≡ h.view = some-injective v h.view (sym at ∙ (ap (get_elem? views) (sym same) ∙ h.seat)) in
      let mine : p ≡ h.part = only h.view.parts p h.part h.place (ap (λ (z : View). z.parts) (sym whose) ∙ is) h.there in
      record {
        id = id;
        view = v';
        place = 0;
        part = p';
        index = h.index;
        seat = set_here views id v' (at_inside views id v at);
        there = ap (λ (l : List Part). get_elem? l 0) is';
        entry = keeps h.index x (ap (λ (z : Part). get_elem? (of z) h.index) mine ∙ h.entry);
      })
      (λ apart. record { id = h.id; view = h.view; place = h.place; part = h.part; index = h.index; seat = set_else views id h.id v' apart ∙ h.seat; there = h.there; entry = h.entry })

  -- what stands in a part after the step stood in one before, or stands in the part that changed
  pub stood_in : (x : X) → InParts (set views id v') of x → InParts views of x ⊎ ((k : ℕ) × (get_elem? (of p') k ≡ some x))
  stood_in x h = ⊎_elim
      (λ (t : (h.id ≡ id) × (v' ≡ h.view)). let mine : p' ≡ h.part = only h.view.parts p' h.part h.place (ap (λ (z : View). z.parts) (sym t.1) ∙ is') h.there in
      inr (h.index, ap (λ (z : Part). get_elem? (of z) h.index) mine ∙ h.entry))
      (λ (t : (h.id ≢ id) × (get_elem? views h.id ≡ some h.view)).
      inl record { id = h.id; view = h.view; place = h.place; part = h.part; index = h.index; seat = t.1; there = h.there; entry = h.entry })
      (at_set views id h.id v' h.view h.seat)

  -- an entry of the part that changed
  pub stands_in : (k : ℕ) (x : X) → get_elem? (of p) k ≡ some x → InParts views of x
  stands_in k x e = record { id = id; view = v; place = 0; part = p; index = k; seat = at; there = ap (λ (l : List Part). get_elem? l 0) is; entry = e }

  -- the same entries stand in parts, if the part that changed has the same
  pub same_in : of p' ≡ of p → (x : X) → InParts (set views id v') of x → InParts views of x
  same_in same x h = ⊎_elim (λ (t : InParts views of x). t) (λ (t : (k : ℕ) × (get_elem? (of p') k ≡ some x)). stands_in t.0 x (ap (λ (l : List X). get_elem? l t.0) (sym same) ∙ t.1)) (stood_in x h)

-- the books stay, if the part that changed keeps its part of them
pub joined_same : (views : List View) (id : ℕ) (v v' : View) (p p' : Part) (b : Books) → get_elem? views id ≡ some v → v.parts ≡ p ∷ [] → v'.parts ≡ p' ∷ [] →
    p'.put ≡ p.put → p'.got ≡ p.got → p'.gone ≡ p.gone → Joined views b → Joined (set views id v') b
joined_same views id v v' p p' b at is is' put got gone j = record {
  put = λ e n item h. stays_in puts_of views id v v' p p' at is is' (λ k x t. ap (λ l. get_elem? l k) put ∙ t) _ (j.put e n item h);
  put_only = λ e n item h. j.put_only e n item (same_in puts_of views id v v' p p' at is is' put _ h);
  got = λ e n q h. stays_in gets_of views id v v' p p' at is is' (λ k x t. ap (λ l. get_elem? l k) got ∙ t) _ (j.got e n q h);
  got_only = λ e n q h. j.got_only e n q (same_in gets_of views id v v' p p' at is is' got _ h);
  gone = λ e n h l. stays_in drops_of views id v v' p p' at is is' (λ k x t. ap (λ l. get_elem? l k) gone ∙ t) _ (j.gone e n h l);
  gone_only = λ e n h. j.gone_only e n (same_in drops_of views id v v' p p' at is is' gone _ h);
}
