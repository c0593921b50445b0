-- Seats of a table whose link words come back are dealt and joined, and callers come with seats of their own.
use Rattle.std.specs.Prelude.{ℕ, Bool, not, [], length, Some, refl}
use Rattle.std.proofs.Common.{ap, ◌∙◌, sym, subst}
use Rattle.ipcz_world.specs.World.{World}
use Rattle.ipcz_world.specs.HeldEnds.{IsEndHeld}
use Rattle.ipcz_rule.specs.Start.{after_deal, dealt}
use Rattle.ipcz_rule.specs.Histories.{caller_view, new_caller, without_caller}
use Rattle.ipcz_rule.specs.Kinds.{together, spent}
use Rattle.ipcz_rule.specs.Lasting.{virtual, sizes, side_of, own_of}
use Rattle.ipcz_slots.specs.SlotKinds.{SameEnds}
use Rattle.ipcz_rule.specs.Batches.{BatchSt, Batched}
use Rattle.ipcz_rule.specs.LastingSeats.{SeatsAreApart, SeatsLast, staying}
use Rattle.ipcz_rule.proofs.Moved.{Stays}
use Rattle.ipcz_slots.proofs.Beginning.{deals as dealing, comes}
use Rattle.ipcz_slots.proofs.Folding.{view_at}
use Rattle.ipcz_slots.proofs.Uniting.{joins_seats}
use Rattle.ipcz_rule.proofs.BatchSeats.{deals_batches, joins_batches, returns_batches, callers_come_batches}
use Rattle.ipcz_rule.proofs.Lasts.{laws_of, part_owner}
use Rattle.ipcz_rule.proofs.LastsAll.{ends}

-- the same ends are nowhere, where what is shown stays
same_ends : (count limit : ℕ) (reuses : Bool) (t t' : BatchSt) (r : Batched count limit (not reuses) t) (r' : Batched count limit (not reuses) t') → Stays r.rules r'.rules →
    SameEnds (virtual count limit reuses) t r t' r'
same_ends count limit reuses t t' r r' stays = (
  (λ b i gone held. gone (subst (λ (u : World). IsEndHeld u i (side_of b)) stays.0 held)),
  (λ b i gone held. gone (subst (λ (u : World). IsEndHeld u i (side_of b)) (sym stays.0) held)),
)

pub seats_last : SeatsLast
seats_last = (
  (λ count limit k id reuses o nodes n below is. dealing (virtual count limit reuses) (sizes count limit k reuses) (laws_of ends count limit k reuses) (staying count limit reuses) id o
      (after_deal o.view) (dealt o.view) (λ t r at. let d = deals_batches t r id o.view nodes n below is at in (d.0, same_ends count limit reuses t _ r d.0 d.1, d.1))),
  (λ count limit k id other reuses o p. joins_seats (virtual count limit reuses) (sizes count limit k reuses) (staying count limit reuses) id other o p (together o.view p.view) spent
      (λ t r at apart there. let d = joins_batches t r id o.view other p.view at apart there in (d.0, same_ends count limit reuses t _ r d.0 d.1, d.1))),
  (λ count limit k id reuses o p is. dealing (virtual count limit reuses) (sizes count limit k reuses) (laws_of ends count limit k reuses) (staying count limit reuses) id o
      (without_caller o.view) (caller_view o.view.caller) (λ t r at. let d = returns_batches t r id o.view p at is in (d.0, same_ends count limit reuses t _ r d.0 d.1, d.1))),
  (λ count limit k slots i reuses s l deep small. let new = new_caller (length l.0.views) in
      let d = callers_come_batches l.0 l.1 in (
        own_of (caller_view (Some new)) [] [] [],
        comes (virtual count limit reuses) (sizes count limit k reuses) (staying count limit reuses) (caller_view (Some new)) s l
            (d.0, same_ends count limit reuses l.0 _ l.1 d.0 d.1, d.1),
        (length l.0.views, refl),
      )),
)

-- each node's part is its owner's
pub seats_apart : SeatsAreApart
seats_apart count limit k id other reuses s l o p a b at there mine his same =
    let t = l.0 in
    let r = l.1 in
    let view = view_at (virtual count limit reuses) (sizes count limit k reuses) s t r l.2 in
    sym (part_owner count limit id o.view a mine t r (view id o at)) ∙ (ap r.rules.owner same ∙ part_owner count limit other p.view b his t r (view other p there))
