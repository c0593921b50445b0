-- No slot is lost: where slots are used again, each shows a number of which an end is somewhere, is to be had, or is a seat's own.
use Rattle.std.specs.Prelude.{◌≡◌, ℕ, zero, suc, Bool, true, false, slice_index, refl}
use Rattle.std.proofs.Common.{arith, inl, inr}
use mathlib.Core.Logic.{dite}
use native.Mathlib.Decide.{dec_lt}
use Rattle.atomic_table.specs.Table.{State}
use Rattle.ipcz_slots.specs.declared.own.Own.{Own}
use Rattle.ipcz_slots.specs.Slots.{Virtual, Sizes, Laws, of_none, HasOwner, SlotSays, LetGo, NotLetGo, Status, Shows, Dirty, Free, Spare, slot_of, let_go_word, IsInUse, HasNumber, IsToBeHad, IsOwned, NoSlotIsLost}

module _ {S V : Type 0} (x : Virtual S V) (z : Sizes) (laws : Laws x z) (s : State S (Own V)) (t : State S V) (r : x.holds t) (p : ℕ) where
  lives : (i : ℕ) (b : Bool) → slot_of z i ≡ p → (x.gone t r b i → ⊥) → IsInUse x z s t r p
  lives i b here held = HasNumber i b here (dite (dec_lt i (slice_index t.words z.limit)) (λ l. l) (λ far. absurd (held (laws.unclaimed t r b i (omega (arith, far)))))) held

  shown : (i bits : ℕ) → slice_index s.words (let_go_word z p) ≡ bits → slot_of z i ≡ p → LetGo x t r bits i → NotLetGo x t r bits i → IsInUse x z s t r p
  shown i zero e here says but = lives i false here but.0
  shown i (suc zero) e here says but = lives i true here but
  shown i (suc (suc zero)) e here says but = lives i false here but
  shown i (suc (suc (suc zero))) e here says but = IsToBeHad e
  shown i (suc (suc (suc (suc n)))) e here says but = absurd says

  in_use : (again : z.reuses ≡ true) (st : Status) → SlotSays x z of_none t r p (slice_index s.words p) (slice_index s.words (let_go_word z p)) st → HasOwner s.views p st →
      IsInUse x z s t r p
  in_use again (Shows i) says owner = shown i (slice_index s.words (let_go_word z p)) refl says.0 says.3 (says.4 again (λ e. e))
  in_use again (Dirty id) says owner = IsOwned id owner.0 owner.1 (inl owner.2)
  in_use again (Free id) says owner = IsOwned id owner.0 owner.1 (inr owner.2)
  in_use again Spare says owner = IsToBeHad says

pub no_slot_is_lost : {S V : Type 0} (x : Virtual S V) (z : Sizes) → Laws x z → NoSlotIsLost x z
no_slot_is_lost x z laws s l again p low = in_use x z laws s l.0 l.1 p again (l.2.status p) (l.2.slots p low) (l.2.owned p low)
