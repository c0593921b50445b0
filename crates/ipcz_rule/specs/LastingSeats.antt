-- Seats of a table whose link words come back are dealt and joined, and callers come with seats of their own.
use Rattle.std.specs.Prelude.{◌≡◌, ◌<◌, ◌-◌, ◌++◌, ℕ, Bool, [], ◌∷◌, Some, length, slice_index}
use mathlib.Core.Option.{some}
use lib.ListN.{get_elem?}
use Rattle.atomic_table.specs.Table.{State}
use Rattle.ipcz_rule.specs.declared.view.View.{View}
use Rattle.ipcz_rule.specs.declared.view.Part.{Part}
use Rattle.ipcz_rule.specs.Histories.{caller_view, new_caller, without_caller}
use Rattle.ipcz_rule.specs.Start.{opening_parts, after_deal, dealt}
use Rattle.ipcz_rule.specs.Batches.{Batch}
use Rattle.ipcz_rule.specs.Kinds.{together, spent}
use Rattle.ipcz_slots.specs.declared.own.Own.{Own}
use Rattle.ipcz_slots.specs.SlotKinds.{Known, SplitsKnown, JoinsKnown}
use Rattle.ipcz_rule.specs.Deeds.{AreDeeds}
use Rattle.ipcz_rule.specs.Lasting.{LastingRules, own_of, virtual, sizes}

-- what is known of seats that move: what is shown stays
abbrev pub staying : (count limit : ℕ) (reuses : Bool) → Known (virtual count limit reuses)
staying count limit reuses t r t' r' = AreDeeds r.rules.world r.rules.books r.rules.routes [] r'.rules.world r'.rules.books r'.rules.routes

-- deal: the new seat gets the part of the next node at the start, and no slot
abbrev pub DealsLast : Type 0
DealsLast = (count limit k id : ℕ) (reuses : Bool) (o : Own View) (nodes n : ℕ) → n < nodes → o.view.parts ≡ opening_parts nodes n (nodes - n) →
    SplitsKnown (virtual count limit reuses) (sizes count limit k reuses) (staying count limit reuses) id o (own_of (after_deal o.view) o.dirty o.free o.looked) (own_of (dealt o.view) [] [] [])

-- join: a seat takes in the parts and the slots of another
abbrev pub JoinsLast : Type 0
JoinsLast = (count limit k id other : ℕ) (reuses : Bool) (o p : Own View) →
    JoinsKnown (virtual count limit reuses) (sizes count limit k reuses) (staying count limit reuses) id o other p (own_of (together o.view p.view) (o.dirty ++ p.dirty) (o.free ++ p.free) o.looked) (own_of spent [] [] [])

-- split: the caller that a seat has goes on with a seat of its own
abbrev pub ReturnsLast : Type 0
ReturnsLast = (count limit k id : ℕ) (reuses : Bool) (o : Own View) (p : Part) → o.view.parts ≡ p ∷ [] →
    SplitsKnown (virtual count limit reuses) (sizes count limit k reuses) (staying count limit reuses) id o (own_of (without_caller o.view) o.dirty o.free o.looked) (own_of (caller_view o.view.caller) [] [] [])

-- a seat comes: a caller that has called nothing yet
abbrev pub CallersCome : Type 0
CallersCome = (count limit k slots i : ℕ) (reuses : Bool) →
    (s : State Batch (Own View)) (l : LastingRules count limit k reuses s) → length s.homes ≡ slots → slice_index s.words i < 18446744073709551616 →
    (w : Own View) × ((l' : LastingRules count limit k reuses (record { words = s.words; homes = s.homes; views = s.views ++ w ∷ [] })) ×
    staying count limit reuses l.0 l.1 l'.0 l'.1) × ((id : ℕ) × (w ≡ own_of (caller_view (Some (new_caller id))) [] [] []))

abbrev pub SeatsLast : Type 0
SeatsLast = DealsLast × JoinsLast × ReturnsLast × CallersCome

-- no two seats have a part of one node
abbrev pub SeatsAreApart : Type 0
SeatsAreApart = (count limit k id other : ℕ) (reuses : Bool) (s : State Batch (Own View)) → LastingRules count limit k reuses s → (o p : Own View) (a b : Part) →
    get_elem? s.views id ≡ some o → get_elem? s.views other ≡ some p → o.view.parts ≡ a ∷ [] → p.view.parts ≡ b ∷ [] → a.node ≡ b.node → id ≡ other
