-- The table at the end: the world that all nodes' parts, the words and the slots come back to.
use Rattle.std.specs.Prelude.{◌≡◌, ℕ, true, List, [], ◌∷◌, map, length, None}
use mathlib.Core.Option.{some}
use lib.ListN.{get_elem?}
use Rattle.ipcz_node.specs.Node.{Node}
use Rattle.ipcz_world.specs.World.{World}
use Rattle.ipcz_world.specs.Routes.{hand_of}
use Rattle.ipcz_rule.specs.declared.view.View.{View}
use Rattle.ipcz_rule.specs.declared.view.Part.{Part}
use Rattle.ipcz_rule.specs.Rule.{Joined}
use Rattle.ipcz_rule.specs.Batches.{BatchSt, Batched}

-- a view of these parts
abbrev pub view_of : List Part → View
view_of ps = record { parts = ps; seen = []; announced = None; caller = None }

-- the states of the nodes that parts are of
abbrev pub states_of : List Part → List Node
states_of ps = map (λ p. p.state) ps

-- the parts are those of so many nodes, in their order
pub record AreAll (count : ℕ) (ps : List Part) : Type 0 where
  pub many : length ps ≡ count
  pub ordered : (k : ℕ) (p : Part) → get_elem? ps k ≡ some p → p.node ≡ k

-- a part whose probed mailboxes have been given back
abbrev pub rested : Part → Part
rested p = record { node = p.node; state = p.state; message = p.message; probed = []; batches = p.batches; put = p.put; got = p.got; gone = p.gone; history = p.history }

-- the world that was shown when the table of so many nodes and words came to its end: the table kept the rule, with this world, and with the
-- books that the parts keep, and each of its batches was of one message; one view had these parts, but for what was probed; the world's nodes are those of the parts, each with the
-- message in its hand
pub record IsShown (count size : ℕ) (ps : List Part) (w : World) : Type 0 where
  pub nodes : w.nodes ≡ states_of ps
  pub hands : (k : ℕ) (p : Part) → get_elem? ps k ≡ some p → hand_of w k p.state.hand ≡ p.message
  pub table : BatchSt
  pub rules : Batched count size true table
  pub world_is : rules.rules.world ≡ w
  pub id : ℕ
  pub view : View
  pub seat : get_elem? table.views id ≡ some view
  pub parts : map rested view.parts ≡ map rested ps
  pub joined : Joined (view_of ps ∷ []) rules.rules.books
