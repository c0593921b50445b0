-- Worlds with the room that their nodes have made for what may grow.
use Rattle.std.specs.Prelude.{ℕ, ◌<◌, Option, IfSome, List, [], MatchBool}
use Rattle.std.specs.FinMap.{empty}
use Rattle.ipcz_base.specs.Indexed.{place_at}
use Rattle.ipcz_node.specs.Node.{Node}
use Rattle.ipcz_base.specs.declared.message.Message.{Message}
use Rattle.ipcz_node.specs.declared.act.Act.{Act}
use Rattle.ipcz_node.specs.declared.act.Act.TheVariants as acts
use Rattle.ipcz_node.specs.Hands.{fits}
use Rattle.ipcz_node.specs.RoomyNodes.{NodeRoom, RoomyNode, CanOpen, IsReadyFor, TakesMore}
use Rattle.ipcz_node.specs.Telling.{HasRoomFor}
use Rattle.ipcz_world.specs.declared.step.Step.{Step}
use Rattle.ipcz_world.specs.declared.step.Step.TheVariants as steps
use Rattle.ipcz_world.specs.World.{World, node_at}
use Rattle.ipcz_world.specs.Turns.{message_in_hand, next_at}
use Rattle.ipcz_world.specs.WordAnswers.{source_for}

-- nodes by number, and the room of each
pub record NodesValue : Type 0 where
  pub nodes : List Node
  pub rooms : List NodeRoom

-- a world, and the room of each of its nodes
pub record RoomyWorld : Type 0 where
  pub world : World
  pub rooms : List NodeRoom

-- no room at all
abbrev pub no_room : NodeRoom
no_room = record {
  outboxes = [];
  routers = 0;
  links = 0;
  out_rooms = empty;
  in_rooms = empty;
  ends = 0;
  moves = 0;
  pending = 0;
  strays = 0;
  event_ends = 0;
}

-- a node of the world with its room
abbrev pub roomy_at : RoomyWorld → ℕ → RoomyNode
roomy_at s n = record { node = node_at s.world n; room = place_at no_room s.rooms n }

-- there is room for a message of a sender, for which this source is known: if it fits, for what it makes a router take and tell, and else for
-- a stray more
abbrev pub HasRoomToHandle : RoomyNode → ℕ → Message → Option ℕ → Type 0
HasRoomToHandle k from m source = MatchBool (fits k.node from m source) (HasRoomFor k m) (0 < k.room.strays)

-- a node has room for what an act makes grow: of a hand, for the message there
abbrev pub HasRoomToAct : RoomyWorld → ℕ → Act → Type 0
HasRoomToAct s n (acts.Hand from) =
    IfSome (message_in_hand s.world n from) (λ m. HasRoomToHandle (roomy_at s n) from m (source_for s.world m))
HasRoomToAct s n other = IsReadyFor (roomy_at s n) other

-- a node has room for what a step makes grow: of a turn, for its first act. A put by a step copies its lists, and may find no memory for that
-- whatever room there is
abbrev pub HasRoomToStep : RoomyWorld → Step → Type 0
HasRoomToStep s (steps.Open n) = CanOpen (roomy_at s n)
HasRoomToStep s (steps.Put n at bytes ends) = ⊥
HasRoomToStep s (steps.PutWide n at bytes ends) = ⊥
HasRoomToStep s (steps.Get n at) = Unit {0}
HasRoomToStep s (steps.Close n at) = TakesMore (roomy_at s n) at
HasRoomToStep s (steps.Turn n) = HasRoomToAct s n (next_at s.world n)
