-- What a get at several portals answers: that of the first which has something, or none has. And which calls of its caller it is, and a get that sleeps.
use Rattle.std.specs.Prelude.{◌≡◌, ◌≢◌, ℕ, zero, suc, All, List, [], ◌∷◌, ◌++◌, map, take, slice_get, Option, Some, None, Result, Ok, Err}
use Rattle.ipcz_base.specs.declared.parcel.Parcel as parcels
use Rattle.ipcz_base.specs.declared.refusal.Refusal.{Refusal}
use Rattle.ipcz_base.specs.declared.refusal.Refusal.TheVariants.{Empty}
use Rattle.ipcz_rule.specs.declared.history.Call.{Call}
use Rattle.ipcz_rule.specs.declared.history.Call.TheVariants as calls
use Rattle.ipcz_rule.specs.declared.history.CallerView.{CallerView}
use Rattle.ipcz_rule.specs.Histories.{at_node}
use Rattle.ipcz_cell.specs.TableNames.{TableName}
use Rattle.ipcz_fabric.specs.Portals.{PortalValue, IsRefusedTake}
use Rattle.ipcz_fabric.specs.declared.missed.Missed.{Missed}
use Rattle.ipcz_fabric.specs.declared.missed.Missed.TheVariants.{Refused}
use Rattle.ipcz_fabric.specs.Stopping.{IsMissed, TellsStop, refusal_of, stop_in}
use Rattle.ipcz_fabric.specs.Replays.{ExtendsInTurn, IsParcelOf}

-- a get at each of these portals is Empty
abbrev pub AreEmpty : TableName → List PortalValue → Type 0
AreEmpty t portals = All (λ p. IsRefusedTake t p.node p.end Empty) portals

-- the portal at a place answers so, and those before it are Empty
abbrev pub IsFirst : TableName → List PortalValue → ℕ → (PortalValue → Type 0) → Type 0
IsFirst t portals place Answers = (p : PortalValue) × (slice_get portals place ≡ Some p) × AreEmpty t (take place portals) × Answers p

-- why no parcel was got: the portal at a place refuses the get, and not because it is Empty, or its node is stopped; or all are Empty
abbrev pub IsNoneGot : TableName → List PortalValue → Option ℕ → Missed → Type 0
IsNoneGot t portals (Some place) why = IsFirst t portals place (λ p. IsMissed t p.node p.end why × (why ≢ Refused Empty))
IsNoneGot t portals None why = (why ≡ Refused Empty) × AreEmpty t portals

-- a get at a portal that was Empty, at its node
abbrev pub vain_get : PortalValue → ℕ × Call
vain_get p = (p.node, calls.Taken p.end (Err Empty))

-- so many looks at these portals, one after the other, in which each was Empty
abbrev pub vain_looks : ℕ → List PortalValue → List (ℕ × Call)
vain_looks zero portals = []
vain_looks (suc more) portals = vain_looks more portals ++ map vain_get portals

-- the calls of a get that sleeps while there is nothing: so many tries that found none, and a last one that was answered this
abbrev pub tries : ℕ → PortalValue → Result (ℕ × parcels.Parcel) Refusal → List (ℕ × Call)
tries vain p answer = vain_looks vain (p ∷ []) ++ (p.node, calls.Taken p.end answer) ∷ []

-- the caller's next calls were the tries of such a get at a portal, and the last gave a parcel of this number, with these bytes and these portals
abbrev pub WaitsForParcel : TableName → PortalValue → ℕ → List ℕ → List PortalValue → CallerView → CallerView → Type 0
WaitsForParcel t p number bytes portals c c' = (parcel : parcels.Parcel) × IsParcelOf p.node bytes portals parcel ×
    ((vain : ℕ) × ExtendsInTurn t (tries vain p (Ok (number, parcel))) c c')

-- a get at a portal was answered so: it gave a parcel of this number, with these bytes and these portals
abbrev pub GivesParcel : ℕ → List ℕ → List PortalValue → PortalValue → Result (ℕ × parcels.Parcel) Refusal → Type 0
GivesParcel number bytes portals p answer = (parcel : parcels.Parcel) × (answer ≡ Ok (number, parcel)) × IsParcelOf p.node bytes portals parcel

-- the caller's next calls were a look at these portals: those before a place were Empty, and the get at the portal there was answered so
pub record LooksOnce (t : TableName) (portals : List PortalValue) (place : ℕ) (Answered : PortalValue → Result (ℕ × parcels.Parcel) Refusal → Type 0) (c c' : CallerView) : Type 0 where
  pub portal : PortalValue
  pub answer : Result (ℕ × parcels.Parcel) Refusal
  pub there : slice_get portals place ≡ Some portal
  pub answered : Answered portal answer
  pub made : ExtendsInTurn t (map vain_get (take place portals) ++ (portal.node, calls.Taken portal.end answer) ∷ []) c c'

-- and it gave no parcel: the portal at a place refuses the get, or its node is stopped behind it; or all were Empty
abbrev pub LooksOnceInVain : TableName → List PortalValue → Option ℕ → Missed → CallerView → CallerView → Type 0
LooksOnceInVain t portals (Some place) why c c' =
    LooksOnce t portals place (λ p answer. (answer ≡ Err (refusal_of why)) × TellsStop (stop_in (at_node p.node c'.seen)) why) c c'
LooksOnceInVain t portals None why c c' = ExtendsInTurn t (map vain_get portals) c c'

-- the caller's next calls were looks at these portals, each in vain but for the last, in which the get at the portal of a place was answered so
abbrev pub LooksUntil : TableName → List PortalValue → ℕ → (PortalValue → Result (ℕ × parcels.Parcel) Refusal → Type 0) → CallerView → CallerView → Type 0
LooksUntil t portals place Answered c c' = (vain : ℕ) × (d : CallerView) × ExtendsInTurn t (vain_looks vain portals) c d × LooksOnce t portals place Answered d c'

-- and they gave no parcel: in the last the portal at a place refuses the get, or its node is stopped, or all were Empty in the last, too
abbrev pub LooksInVain : TableName → List PortalValue → Option ℕ → Missed → CallerView → CallerView → Type 0
LooksInVain t portals place why c c' = (vain : ℕ) × (d : CallerView) × ExtendsInTurn t (vain_looks vain portals) c d × LooksOnceInVain t portals place why d c'
