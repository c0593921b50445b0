-- What a get that waits answers, if it takes the parcel as it is under the lock, and makes its portals behind it.
use Rattle.std.proofs.Common.{◌≡◌, ℕ, List, take, sym, ap, ◌∙◌, Some}
use Rattle.ipcz_base.specs.declared.end.End.{End}
use Rattle.ipcz_base.specs.declared.parcel.Parcel as parcels
use Rattle.ipcz_cell.specs.TableNames.{TableName}
use Rattle.ipcz_fabric.specs.Portals.{PortalValue, portals_at, IsTaken, IsGot}

-- the parcel that was taken is got with portals of its ends
pub got_by : (t : TableName) (node here : ℕ) (at : End) (n m : ℕ) (p : parcels.Parcel) (bytes : List ℕ) (portals : List PortalValue) → IsTaken t node at (n, p) →
    m ≡ n → bytes ≡ p.bytes → portals ≡ portals_at here (take 8 p.ends) → here ≡ node → IsGot t node at m bytes portals
got_by t node here at n m p bytes portals taken same bytes_are portals_are there = record {
  cell = taken.cell;
  here = taken.here;
  holds = record {
    parcel = p;
    allowed = taken.holds.allowed;
    there = taken.holds.there ∙ ap (λ (k : ℕ). Some (k, p)) (sym same);
    bytes_are = bytes_are;
    portals_are = portals_are ∙ ap (λ (k : ℕ). portals_at k (take 8 p.ends)) there;
  };
}
