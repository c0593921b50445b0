-- What a lawful world and each of its nodes keep so that code can index by them: lengths, and the words and senders that are named.
use Rattle.std.specs.Prelude.{◌≡◌, ◌≤◌, ◌<◌, ◌*◌, ℕ, Some, length}
use Rattle.ipcz_router.specs.Router.{Router, primary_word}
use Rattle.ipcz_node.specs.Node.{Node, router_in}
use Rattle.ipcz_world.specs.World.{node_limit, World}

-- the lists of a world are as long as its numbers say: a node for each number below the count, a word for each below the size, a mailbox
-- for each two nodes. No more words are claimed than there are
pub record HasLengths (w : World) : Type 0 where
  pub nodes : length w.nodes ≡ w.count
  pub words : length w.words ≡ w.size
  pub mail : length w.mail ≡ w.count * w.count
  pub claimed : w.claimed ≤ w.size
  pub few : w.count ≤ node_limit

-- the node knows its number and how many nodes there are, the words that it names are words of the world, and the message in hand comes
-- from a node of the world
pub record IsSound (count size number : ℕ) (n : Node) : Type 0 where
  pub number_is : n.number ≡ number
  pub count_is : n.count ≡ count
  -- the words of its routers' outward primary links, their spares, and the word of an open under way
  pub primary : (serial : ℕ) (r : Router) (i : ℕ) → router_in n serial ≡ Some r → primary_word r ≡ Some i → i < size
  pub spare : (serial : ℕ) (r : Router) (i : ℕ) → router_in n serial ≡ Some r → r.spare ≡ Some i → i < size
  pub opening : (i : ℕ) → n.opening ≡ Some i → i < size
  -- the sender of the message in hand
  pub hand : (from : ℕ) → n.hand ≡ Some from → from < count
