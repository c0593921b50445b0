-- What comes of a message that is delivered to a node: it is taken or kept as a stray, or it is handed back.
use Rattle.std.specs.Prelude.{◌≡◌, ◌<◌, ℕ, Bool, true, false, ◌&&◌, if◌then◌else◌, Option, Result, OnOk, OnErr, IfOk, IfErr, IsOk}
use Rattle.ipcz_base.specs.declared.message.Message.{Message}
use Rattle.ipcz_base.specs.declared.refusal.Refusal.{Refusal}
use Rattle.ipcz_base.specs.declared.refusal.Refusal.TheVariants.{NumbersEnd, OutOfMemory}
use Rattle.ipcz_node.specs.Node.{Node}
use Rattle.ipcz_node.specs.Hands.{deliver, fits, is_unfit, message_lacks_serials, message_grows}
use Rattle.ipcz_node.specs.RoomyNodes.{RoomyNode}
use Rattle.ipcz_node.specs.Telling.{HasRoomFor, is_lone}

-- A message lies where its owner keeps it. A node took it from a sender, and is as it is then, and what is left of the message counts for
-- nothing; or message and node are as they were: only for want of serials, or if there was no room for what the message makes grow
pub record IsDeliveredInPlace {A : Type 0} (old : RoomyNode) (sender : ℕ) (m left : Message) (source : Option ℕ) (after : Node)
    (result : Result A Refusal) (new : RoomyNode) : Type 0 where
  pub ok : OnOk result (new.node ≡ after)
  pub allowed : OnOk result (message_lacks_serials old.node sender m source ≡ false)
  pub why : IfErr result (λ e. e ≡ (if message_lacks_serials old.node sender m source then NumbersEnd else OutOfMemory))
  pub grows : message_grows old.node sender m source ≡ false → IsOk result
  pub full : fits old.node sender m source ≡ true → HasRoomFor old m → message_lacks_serials old.node sender m source ≡ false → IsOk result
  pub stray : fits old.node sender m source ≡ false → 0 < old.room.strays → IsOk result
  pub err : OnErr result ((left ≡ m) × (new.node ≡ old.node))

-- A node was asked to take a message from a sender at once, and tells whether it did: it does if that is an item without ends and moves that
-- has its place here. It is refused only if there was no room for such an item and none was found
pub record IsTakenAtOnce (old : RoomyNode) (sender : ℕ) (m : Message) (source : Option ℕ) (result : Result Bool Refusal) (new : RoomyNode) :
    Type 0 where
  pub when : IfOk result (λ taken. taken ≡ (is_lone m && fits old.node sender m source))
  pub taken : IfOk result (λ taken. taken ≡ true → new.node ≡ deliver old.node sender m source)
  pub allowed : IfOk result (λ taken. taken ≡ true → message_lacks_serials old.node sender m source ≡ false)
  pub fit : IfOk result (λ taken. taken ≡ true → is_unfit old.node sender m source ≡ false)
  pub why : IfErr result (λ e. (e ≡ OutOfMemory) × (message_lacks_serials old.node sender m source ≡ false) ×
      (message_grows old.node sender m source ≡ true))
  pub wanted : OnErr result ((is_lone m && fits old.node sender m source) ≡ true)
  pub full : HasRoomFor old m → IsOk result
