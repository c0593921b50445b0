-- What holds of the machine's accounts in every run: what the judge's books stand on.
use Rattle.std.specs.Prelude.{◌≡◌, ◌≤◌, ℕ, true, false, Some, None, [], length, slice_get}
use Rattle.ipcz_base.specs.declared.end.End.{End}
use Rattle.ipcz_base.specs.declared.parcel.Parcel.{Parcel}
use Rattle.ipcz_base.specs.Ends.{has_end}
use Rattle.ipcz_promise.specs.Promise.{Account, peer, IsInOrder}

-- portal d lies in the parcel with this number, which was put for portal e and wasn't got there yet
pub record Lies (a : Account) (d e : End) (number : ℕ) : Type 0 where
  pub parcel : Parcel
  pub put : slice_get (a.put (peer e)) number ≡ Some parcel
  pub ungot : length (a.got e) ≤ number
  pub carried : has_end d parcel.ends ≡ true

pub record IsSound (a : Account) : Type 0 where
  -- at each portal was got a first part of what was put for it
  pub in_order : IsInOrder a
  -- a portal that lies in a parcel is held by nobody, lies in no other one, and is of a pair that was opened
  pub unheld : (d e : End) (n : ℕ) → Lies a d e n → a.holder d ≡ None
  pub one_portal : (d e f : End) (n m : ℕ) → Lies a d e n → Lies a d f m → e ≡ f
  pub one_number : (d e f : End) (n m : ℕ) → Lies a d e n → Lies a d f m → n ≡ m
  pub lies_opened : (d e : End) (n : ℕ) → Lies a d e n → a.opened d.pair ≡ true
  -- and while the parcel's own portal isn't closed it isn't either
  pub lies_unclosed : (d e : End) (n : ℕ) → Lies a d e n → a.closed e ≡ false → a.closed d ≡ false
  -- a portal that is held is of a pair that was opened, and isn't closed
  pub held_opened : (e : End) (n : ℕ) → a.holder e ≡ Some n → a.opened e.pair ≡ true
  pub held_unclosed : (e : End) (n : ℕ) → a.holder e ≡ Some n → a.closed e ≡ false
  -- of a pair that wasn't opened nothing was put, got or closed
  pub new_put : (e : End) → a.opened e.pair ≡ false → a.put e ≡ []
  pub new_got : (e : End) → a.opened e.pair ≡ false → a.got e ≡ []
  pub new_unclosed : (e : End) → a.opened e.pair ≡ false → a.closed e ≡ false
