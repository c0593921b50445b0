-- A turn of a cell: which act it takes by what its own loads have found of the mailboxes, and what it answers and leaves.
use Rattle.std.specs.Prelude.{◌≡◌, ◌≢◌, ◌<◌, ◌⊎◌, ℕ, [], ◌∷◌, ◌++◌, List, Bool, true, false, replicate, Option, Some, None, MatchBool}
use Rattle.std.specs.Prelude.{MatchOption}
use Rattle.std.specs.Int.{bit_at}
use Rattle.ipcz_node.specs.declared.act.Act.{Act}
use Rattle.ipcz_node.specs.declared.act.Act.TheVariants.{Hand, Look, Post}
use Rattle.ipcz_node.specs.declared.act.MailSeen.{MailSeen}
use Rattle.ipcz_node.specs.Acts.{has_mail_for, next}
use Rattle.ipcz_rule.specs.declared.view.Part.{Part}
use Rattle.ipcz_rule.specs.Rule.{has_number}
use Rattle.ipcz_cell.specs.TableNames.{TableName}
use Rattle.ipcz_cell.specs.CellStates.{CellState}
use Rattle.ipcz_cell.specs.Cells.{has_batch}
use Rattle.ipcz_cell.specs.Mails.{mail_word, inbox_word}

-- one of these loads found the word at a number
pub record WasFound (found : List (ℕ × ℕ)) (word n : ℕ) : Type 0 where
  pub before : List (ℕ × ℕ)
  pub after : List (ℕ × ℕ)
  pub there : found ≡ before ++ (word, n) ∷ after

-- one of these loads found the word at another number
pub record WasFoundOther (found : List (ℕ × ℕ)) (word n : ℕ) : Type 0 where
  pub at : ℕ
  pub other : at ≢ n
  pub load : WasFound found word at

-- the last of these loads found the word at a number
pub record IsLast (found : List (ℕ × ℕ)) (word n : ℕ) : Type 0 where
  pub before : List (ℕ × ℕ)
  pub last : found ≡ before ++ (word, n) ∷ []

-- one of these loads found a node's inbox without the bit of a sender: then that sender's mailbox wasn't full, by the rule of the table
pub record WasFoundClear (t : TableName) (node from : ℕ) (found : List (ℕ × ℕ)) : Type 0 where
  pub at : ℕ
  pub clear : bit_at at from ≡ 0
  pub load : WasFound found (inbox_word t node) at

-- of the batch of each sender below a number nothing is left, and its mailbox was loaded, and not found full, or the sender's bit wasn't set
abbrev pub NoneFull : TableName → Part → ℕ → List (ℕ × ℕ) → Type 0
NoneFull t p end found = (from : ℕ) → from < end → (has_batch p from ≡ false) ×
    (WasFoundOther found (mail_word t from p.node) 1 ⊎ WasFoundClear t p.node from found)

-- something is left of the batch of a sender, or the last load has found its mailbox full
abbrev pub IsFull : TableName → Part → ℕ → List (ℕ × ℕ) → Type 0
IsFull t p from found = MatchBool (has_batch p from) (Unit {0}) (IsLast found (mail_word t from p.node) 1)

-- messages wait for a node whose mailbox is this node's already, or was found empty by the last load
pub record IsOpen (t : TableName) (p : Part) (to : ℕ) (found : List (ℕ × ℕ)) : Type 0 where
  pub mail : has_mail_for p.state to ≡ true
  pub free : has_number p.probed to ≡ false → IsLast found (mail_word t p.node to) 0

-- if messages wait for a node, its mailbox isn't this node's already, and was not found empty
abbrev pub IsShut : TableName → Part → ℕ → List (ℕ × ℕ) → Type 0
IsShut t p to found = has_mail_for p.state to ≡ true → (has_number p.probed to ≡ false) × WasFoundOther found (mail_word t p.node to) 0

-- no message can be posted to a node below another
abbrev pub NoneEmpty : TableName → Part → ℕ → List (ℕ × ℕ) → Type 0
NoneEmpty t p end found = (to : ℕ) → to < end → IsShut t p to found

-- to look into a mailbox comes first: nothing is in hand, there is nothing of a lower sender, and there is of this one
pub record IsFirstLook (t : TableName) (p : Part) (found : List (ℕ × ℕ)) (from : ℕ) : Type 0 where
  pub inside : from < t.count
  pub idle : p.state.hand ≡ None
  pub none : NoneFull t p from found
  pub full : IsFull t p from found

-- to post to a node comes first: nothing is in hand, no mailbox to this node is full, and this is the lowest destination that a message can
-- be posted to
pub record IsFirstPost (t : TableName) (p : Part) (found : List (ℕ × ℕ)) (to : ℕ) : Type 0 where
  pub inside : to < t.count
  pub idle : p.state.hand ≡ None
  pub none : NoneFull t p t.count found
  pub lowest : NoneEmpty t p to found
  pub can : IsOpen t p to found

-- no mailbox was seen full, and none empty
abbrev pub nothing_seen : MailSeen
nothing_seen = record { full = replicate 64 false; empty = replicate 64 false }

-- an act that is about no mailbox comes first: nothing is in hand, no mailbox to this node is full, there is none to post to, and the act
-- is what comes first without any
pub record IsFirstElse (t : TableName) (p : Part) (found : List (ℕ × ℕ)) (act : Act) : Type 0 where
  pub idle : p.state.hand ≡ None
  pub none : NoneFull t p t.count found
  pub lowest : NoneEmpty t p t.count found
  pub first : act ≡ next p.state nothing_seen

-- an act is the first one for the mailboxes as these loads have found them, among which each mailbox is that the act depends on
abbrev pub IsFirst : TableName → Part → List (ℕ × ℕ) → Act → Type 0
IsFirst t p found (Hand from) = p.state.hand ≡ Some from
IsFirst t p found (Look from) = IsFirstLook t p found from
IsFirst t p found (Post to) = IsFirstPost t p found to
IsFirst t p found other = IsFirstElse t p found other

-- the mailbox that an act is about is one of the table's
abbrev pub IsInside : TableName → Act → Type 0
IsInside t (Look from) = from < t.count
IsInside t (Post to) = to < t.count
IsInside t other = Unit {0}

-- the loads of a cell have found so much, and nothing else has changed
pub record HasLooked (found : List (ℕ × ℕ)) (old new : CellState) : Type 0 where
  pub part : new.part ≡ old.part
  pub room : new.room ≡ old.room
  pub looked : new.looked ≡ old.looked
  pub seen : new.seen ≡ old.seen ++ found

-- the first act for the mailboxes as they are found by loads now
pub record Chooses (t : TableName) (old : CellState) (act : Act) (new : CellState) : Type 0 where
  pub found : List (ℕ × ℕ)
  pub looked : HasLooked found old new
  pub first : IsFirst t old.part found act

-- which mailbox to a node is the first that is found full
pub record FindsFull (t : TableName) (old : CellState) (answer : Option ℕ) (new : CellState) : Type 0 where
  pub found : List (ℕ × ℕ)
  pub looked : HasLooked found old new
  pub first : MatchOption answer (NoneFull t old.part t.count found)
      (λ from. (from < t.count) × NoneFull t old.part from found × IsFull t old.part from found)

-- whether a message can be posted to a node
pub record CanPost (t : TableName) (to : ℕ) (old : CellState) (answer : Bool) (new : CellState) : Type 0 where
  pub found : List (ℕ × ℕ)
  pub looked : HasLooked found old new
  pub can : MatchBool answer (IsOpen t old.part to found) (IsShut t old.part to found)

-- which destination is the first that can be posted to
pub record FindsEmpty (t : TableName) (old : CellState) (answer : Option ℕ) (new : CellState) : Type 0 where
  pub found : List (ℕ × ℕ)
  pub looked : HasLooked found old new
  pub first : MatchOption answer (NoneEmpty t old.part t.count found) (λ to. (to < t.count) × NoneEmpty t old.part to found ×
      IsOpen t old.part to found)
