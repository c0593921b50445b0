-- Routers that found no word for their bypass and ask for one again, since words were added.
-- (This project's own: ipcz's routers find link states, or ask for them again at each flush.)
use Rattle.std.specs.Prelude.{◌≡◌, ◌^◌, ◌-◌, ℕ, zero, suc, min, true, cond, Some, option_map}
use Rattle.ipcz_router.specs.Router.{Router}
use Rattle.ipcz_router.specs.ActEffects.{rewet}
use Rattle.ipcz_node.specs.Node.{Node}
use Rattle.ipcz_node.specs.Finding.{HasNoDry}
use Rattle.ipcz_node.specs.Finding as nodes
use Rattle.ipcz_world.specs.World.{World, Key, node_at, router_at, set_node}
use Rattle.ipcz_world.specs.HeldEnds.{wet_act}

-- a dry router may claim again
pub record LetsOneAsk (w v : World) : Type 0 where
  pub key : Key
  pub router : Router
  pub here : router_at w key ≡ Some router
  pub dry : router.dry ≡ true
  pub after : v ≡ wet_act w key router

-- so many dry routers, one after another, may claim again
abbrev pub LetAsk : World → ℕ → World → Type 0
LetAsk w zero v = v ≡ w
LetAsk w (suc count) v = (x : World) × LetAsk w count x × LetsOneAsk x v

-- so many as are told, or more than a number of 64 bits can tell
abbrev pub LetAskTold : World → ℕ → World → Type 0
LetAskTold w told v = (count : ℕ) × LetAsk w count v × (told ≡ min count (2 ^ 64 - 1))

-- those of one node
abbrev pub LetAskAt : World → ℕ → ℕ → World → Type 0
LetAskAt w n count v = (x : Node) × nodes.LetAsk (node_at w n) count x × HasNoDry x × (v ≡ set_node w n x)

-- a router as it is, or, if it is dry, as one that may claim again
abbrev pub asking : Router → Router
asking r = cond r.dry (rewet r) r

-- each router of each node is as it was, but that the dry ones may claim again, and nothing else has changed
pub record AllMayAsk (w v : World) : Type 0 where
  pub routers : (k : Key) → router_at v k ≡ option_map asking (router_at w k)
  pub nodes : (n : ℕ) → node_at v n ≡ record (node_at w n) { routers = (node_at v n).routers }
  pub rest : v ≡ record w { nodes = v.nodes }
