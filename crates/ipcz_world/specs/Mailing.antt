-- What the mailboxes of the world do with a message, as the code names it, and how the code keeps them.
use Rattle.std.specs.Prelude.{◌≡◌, ◌≤◌, ℕ, Bool, true, false, cond, List, [], ◌∷◌, length, Option, Result}
use Rattle.ipcz_base.specs.Totals.{total_list}
use Rattle.ipcz_base.specs.declared.message.Message.{Message}
use Rattle.ipcz_base.specs.declared.refusal.Refusal.{Refusal}
use Rattle.ipcz_node.specs.Deliveries.{IsDeliveredInPlace}
use Rattle.ipcz_node.specs.Hands.{deliver}
use Rattle.ipcz_node.specs.RoomyNodes.{RoomyNode}
use Rattle.ipcz_world.specs.declared.mail.Mail.{Mail}
use Rattle.ipcz_world.specs.declared.mail.Mail.TheVariants.{Empty, Full, Hand}
use Rattle.ipcz_world.specs.Turns.{is_full}

-- a mailbox whose message, if it was full, is taken into the hand
unfoldable pub taken_up : Mail → Mail
taken_up Empty = Empty
taken_up (Full m) = Hand m
taken_up (Hand m) = Hand m

-- a mailbox whose message, if it was in hand, is gone
unfoldable pub put_down : Mail → Mail
put_down Empty = Empty
put_down (Full m) = Full m
put_down (Hand m) = Empty

-- a mailbox as it stands: if its flag is set, its message was taken into the hand since it was left there
unfoldable pub as_marked : Bool → Mail → Mail
as_marked false mail = mail
as_marked true mail = taken_up mail

-- the mailboxes as they stand, by what was left in each of them and their flags
abbrev pub as_they_stand : List Mail → List Bool → List Mail
as_they_stand [] marks = []
as_they_stand (mail ∷ boxes) [] = mail ∷ as_they_stand boxes []
as_they_stand (mail ∷ boxes) (mark ∷ marks) = as_marked mark mail ∷ as_they_stand boxes marks

-- how many of the mailboxes are full
abbrev pub count_full : List Mail → ℕ
count_full mail = total_list (λ m. cond (is_full m) 1 0) mail

-- there are 4096 mailboxes at most, each has a flag, and so many of them are full
pub record AreKept (boxes : List Mail) (marks : List Bool) (full : ℕ) : Type 0 where
  pub few : length boxes ≤ 4096
  pub marked : length marks ≡ 4096
  pub counted : full ≡ count_full (as_they_stand boxes marks)

-- a message of a mailbox is delivered to a node from where it lies, or the node is as it was
abbrev pub IsHanded : {A : Type 0} → RoomyNode → ℕ → Message → Option ℕ → Result A Refusal → RoomyNode → Type 0
IsHanded old from m source result new = (left : Message) × IsDeliveredInPlace old from m left source (deliver old.node from m source) result new
