-- A get at several portals, one after the other.
use Rattle.std.specs.Prelude.{◌≡◌, ◌≢◌, ◌<◌, ◌≤◌, ◌+◌, ℕ, zero, suc, Bool, true, false, List, [], ◌∷◌, ◌++◌, map, take, get_or, length, refl, Option, None, Result, Ok, Err, MatchBool, MatchResult}
use Rattle.std.proofs.Common.{arith, ap, append_assoc, ◌∙◌, sym, subst}
use Rattle.std.proofs.lemmas.List.{append-nil, take_all}
use Rattle.std.proofs.lemmas.List.Elements.{All-more}
use Rattle.std.proofs.lemmas.Option.{slice_get_read}
use Rattle.ipcz_base.specs.declared.parcel.Parcel as parcels
use Rattle.ipcz_base.specs.declared.refusal.Refusal.{Refusal}
use Rattle.ipcz_base.specs.declared.refusal.Refusal.TheVariants.{Empty}
use Rattle.ipcz_rule.specs.declared.history.Call.{Call}
use Rattle.ipcz_rule.specs.declared.history.Call.TheVariants as calls
use Rattle.ipcz_rule.specs.declared.history.CallerView.{CallerView}
use Rattle.ipcz_cell.specs.TableNames.{TableName}
use Rattle.ipcz_fabric.specs.declared.missed.Missed.{Missed}
use Rattle.ipcz_fabric.specs.Portals.{PortalValue, IsRefusedTake}
use Rattle.ipcz_fabric.specs.Replays.{Extends, ExtendsInTurn}
use Rattle.ipcz_fabric.specs.Selecting.{AreEmpty, IsFirst, LooksInVain, LooksOnce, LooksOnceInVain, LooksUntil, tries, vain_get, vain_looks}
use Rattle.ipcz_fabric.proofs.Replaying.{in_turn_both, one_call}

-- the portal at a place is asked, where those before it were empty
module _ (t : TableName) (portals : List PortalValue) (place : ℕ) (p : PortalValue) (within : place < length portals) (is : p ≡ get_or portals place p)
    (before : AreEmpty t (take place portals)) where
  pub more_empty : (why : Refusal) → why ≡ Empty → IsRefusedTake t p.node p.end why → AreEmpty t (take (place + 1) portals)
  more_empty why empty h = All-more (λ q. IsRefusedTake t q.node q.end Empty) portals place p within before
      (subst (λ (q : PortalValue). IsRefusedTake t q.node q.end Empty) is (subst (IsRefusedTake t p.node p.end) empty h))

  pub first_at : (Answers : PortalValue → Type 0) → Answers p → IsFirst t portals place Answers
  first_at Answers h = (p, slice_get_read portals (length portals) place p refl within is, before, h)

-- all were asked
pub all_empty : (t : TableName) (portals : List PortalValue) (place : ℕ) → length portals ≤ place → AreEmpty t (take place portals) → AreEmpty t portals
all_empty t portals place past h = subst (AreEmpty t) (take_all place portals past) h

-- a portal more is asked
gets_more : (portals : List PortalValue) (place : ℕ) (p : PortalValue) → place < length portals → p ≡ get_or portals place p →
    map vain_get (take (suc place) portals) ≡ map vain_get (take place portals) ++ vain_get p ∷ []
gets_more [] place p within is = absurd (omega (arith, within))
gets_more (q ∷ qs) zero p within is = ap (λ (x : PortalValue). vain_get x ∷ []) (sym is)
gets_more (q ∷ qs) (suc place) p within is = ap (λ (l : List (ℕ × Call)). vain_get q ∷ l) (gets_more qs place p (omega (arith, within)) is)

-- and was so in vain
pub vain_more : (t : TableName) (portals : List PortalValue) (place : ℕ) (p : PortalValue) (c d e : CallerView) (why : Refusal) → place < length portals →
    p ≡ get_or portals place p → ExtendsInTurn t (map vain_get (take place portals)) c d → why ≡ Empty → Extends t p.node (calls.Taken p.end (Err why)) d e →
    ExtendsInTurn t (map vain_get (take (place + 1) portals)) c e
vain_more t portals place p c d e why within is so_far empty more =
    let one : place + 1 ≡ suc place = omega (arith) in
    let gets = ap (λ (n : ℕ). map vain_get (take n portals)) one ∙ gets_more portals place p within is in
    let last = one_call t p.node (calls.Taken p.end (Err Empty)) d e (subst (λ (x : Refusal). Extends t p.node (calls.Taken p.end (Err x)) d e) empty more) in
    subst (λ (l : List (ℕ × Call)). ExtendsInTurn t l c e) (sym gets) (in_turn_both t (map vain_get (take place portals)) (vain_get p ∷ []) c d e so_far last)

-- all were asked in vain
pub vain_all : (t : TableName) (portals : List PortalValue) (place : ℕ) (c d : CallerView) → length portals ≤ place →
    ExtendsInTurn t (map vain_get (take place portals)) c d → ExtendsInTurn t (map vain_get portals) c d
vain_all t portals place c d past h = subst (λ (ps : List PortalValue). ExtendsInTurn t (map vain_get ps) c d) (take_all place portals past) h

-- the portal at a place was asked behind those before it
pub looked_at : (t : TableName) (portals : List PortalValue) (place : ℕ) (p : PortalValue) (c d e : CallerView) → place < length portals → p ≡ get_or portals place p →
    ExtendsInTurn t (map vain_get (take place portals)) c d → (answer : Result (ℕ × parcels.Parcel) Refusal) → Extends t p.node (calls.Taken p.end answer) d e →
    (Answered : PortalValue → Result (ℕ × parcels.Parcel) Refusal → Type 0) → Answered p answer → LooksOnce t portals place Answered c e
looked_at t portals place p c d e within is so_far answer last Answered answered = record {
  portal = p;
  answer = answer;
  there = slice_get_read portals (length portals) place p refl within is;
  answered = answered;
  made = in_turn_both t (map vain_get (take place portals)) ((p.node, calls.Taken p.end answer) ∷ []) c d e so_far (one_call t p.node (calls.Taken p.end answer) d e last);
}

-- a look that found all Empty
pub looked_in_vain : {A E : Type 0} (place : E → Option ℕ) (why : E → Missed) (t : TableName) (portals : List PortalValue) (Given : A → Type 0) (r : Result A E)
    (empty : Bool) (c c' : CallerView) → MatchResult r (λ a. empty ≡ false) (λ e. MatchBool empty (place e ≡ None) (place e ≢ None)) → empty ≡ true →
    MatchResult r Given (λ e. LooksOnceInVain t portals (place e) (why e) c c') → ExtendsInTurn t (map vain_get portals) c c'
looked_in_vain place why t portals Given (Ok a) empty c c' tells is looks = absurd (cc)
looked_in_vain place why t portals Given (Err e) empty c c' tells is looks =
    let none : place e ≡ None = subst (λ (b : Bool). MatchBool b (place e ≡ None) (place e ≢ None)) is tells in
    subst (λ (x : Option ℕ). LooksOnceInVain t portals x (why e) c c') none looks

-- a look more in vain
pub looks_more : (t : TableName) (portals : List PortalValue) (vain : ℕ) (c d e : CallerView) → ExtendsInTurn t (vain_looks vain portals) c d →
    ExtendsInTurn t (map vain_get portals) d e → ExtendsInTurn t (vain_looks (suc vain) portals) c e
looks_more t portals vain c d e so_far look = in_turn_both t (vain_looks vain portals) (map vain_get portals) c d e so_far look

-- the last of some tries of a get that sleeps
pub tried_last : (t : TableName) (p : PortalValue) (answer : Result (ℕ × parcels.Parcel) Refusal) (c d e : CallerView) →
    (vain : ℕ) × ExtendsInTurn t (vain_looks vain (p ∷ [])) c d → Extends t p.node (calls.Taken p.end answer) d e → (vain : ℕ) × ExtendsInTurn t (tries vain p answer) c e
tried_last t p answer c d e so_far last =
    (so_far.0, in_turn_both t (vain_looks so_far.0 (p ∷ [])) ((p.node, calls.Taken p.end answer) ∷ []) c d e so_far.1 (one_call t p.node (calls.Taken p.end answer) d e last))

-- which found nothing, too
pub tried_in_vain : (t : TableName) (p : PortalValue) (answer : Result (ℕ × parcels.Parcel) Refusal) (c d e : CallerView) → answer ≡ Err Empty →
    (vain : ℕ) × ExtendsInTurn t (vain_looks vain (p ∷ [])) c d → Extends t p.node (calls.Taken p.end answer) d e → (vain : ℕ) × ExtendsInTurn t (vain_looks vain (p ∷ [])) c e
tried_in_vain t p answer c d e empty so_far last =
    let more = tried_last t p (Err Empty) c d e so_far (subst (λ (a : Result (ℕ × parcels.Parcel) Refusal). Extends t p.node (calls.Taken p.end a) d e) empty last) in
    (suc more.0, more.1)

-- looks in vain are the same calls, whether one is made before the others or behind them
looks_turned : (portals : List PortalValue) (vain : ℕ) → vain_looks vain portals ++ map vain_get portals ≡ map vain_get portals ++ vain_looks vain portals
looks_turned portals zero = sym (append-nil (map vain_get portals))
looks_turned portals (suc vain) = ap (λ (l : List (ℕ × Call)). l ++ map vain_get portals) (looks_turned portals vain) ∙ append_assoc (map vain_get portals) (vain_looks vain portals) (map vain_get portals)

-- a look in vain before others
pub looks_before : (t : TableName) (portals : List PortalValue) (vain : ℕ) (c d e : CallerView) → ExtendsInTurn t (map vain_get portals) c d →
    ExtendsInTurn t (vain_looks vain portals) d e → ExtendsInTurn t (vain_looks (suc vain) portals) c e
looks_before t portals vain c d e look others = subst (λ (l : List (ℕ × Call)). ExtendsInTurn t l c e) (sym (looks_turned portals vain))
    (in_turn_both t (map vain_get portals) (vain_looks vain portals) c d e look others)

pub looked_before : {A E : Type 0} (place : E → Option ℕ) (why : E → Missed) (at : A → ℕ) (Answered : A → PortalValue → Result (ℕ × parcels.Parcel) Refusal → Type 0)
    (t : TableName) (portals : List PortalValue) (c d e : CallerView) (r : Result A E) → ExtendsInTurn t (map vain_get portals) c d →
    MatchResult r (λ a. LooksUntil t portals (at a) (Answered a) d e) (λ x. LooksInVain t portals (place x) (why x) d e) →
    MatchResult r (λ a. LooksUntil t portals (at a) (Answered a) c e) (λ x. LooksInVain t portals (place x) (why x) c e)
looked_before place why at Answered t portals c d e (Ok a) look others = (suc others.0, others.1, looks_before t portals others.0 c d others.1 look others.2, others.3)
looked_before place why at Answered t portals c d e (Err x) look others = (suc others.0, others.1, looks_before t portals others.0 c d others.1 look others.2, others.3)

-- a try in vain before others
pub tried_before : (t : TableName) (p : PortalValue) (first answer : Result (ℕ × parcels.Parcel) Refusal) (c d e : CallerView) → first ≡ Err Empty →
    Extends t p.node (calls.Taken p.end first) c d → (vain : ℕ) × ExtendsInTurn t (tries vain p answer) d e → (vain : ℕ) × ExtendsInTurn t (tries vain p answer) c e
tried_before t p first answer c d e empty try others =
    let last = (p.node, calls.Taken p.end answer) ∷ [] in
    let one = one_call t p.node (calls.Taken p.end (Err Empty)) c d (subst (λ (a : Result (ℕ × parcels.Parcel) Refusal). Extends t p.node (calls.Taken p.end a) c d) empty try) in (
      suc others.0,
      subst (λ (l : List (ℕ × Call)). ExtendsInTurn t (l ++ last) c e) (sym (looks_turned (p ∷ []) others.0))
          (in_turn_both t (vain_get p ∷ []) (vain_looks others.0 (p ∷ []) ++ last) c d e one others.1),
    )
