-- Settling: visits to the nodes in their order, again and again, in which each takes an act if it has one.
use Rattle.std.specs.Prelude.{◌≡◌, ◌≤◌, ◌<◌, ℕ, ◌+◌, Bool, true, false, nat_lt, if◌then◌else◌, List, [], ◌∷◌}
use Rattle.std.specs.Prelude.{length, ◌*◌}
use Rattle.ipcz_base.specs.declared.refusal.Refusal.{Refusal}
use Rattle.ipcz_node.specs.declared.happened.Happened.{Happened}
use Rattle.ipcz_node.specs.Acts.{is_quiet}
use Rattle.ipcz_world.specs.declared.step.Settled.{Settled}
use Rattle.ipcz_world.specs.declared.step.Settled.TheVariants as ends
use Rattle.ipcz_world.specs.declared.step.Step.TheVariants.{Turn}
use Rattle.ipcz_world.specs.declared.step.Reply.TheVariants as replies
use Rattle.ipcz_node.specs.Node.{outbox}
use Rattle.ipcz_world.specs.declared.mail.Mail.TheVariants as mails
use Rattle.ipcz_world.specs.World.{node_limit, World, node_at, mail_at, way}
use Rattle.ipcz_world.specs.Turns.{next_at, is_idle, is_clear}
use Rattle.ipcz_world.specs.Steps.{StepFirst}

-- nothing waits: no node has a message, a pending close or a flagged router, and no mailbox has a message
pub record IsQuiet (w : World) : Type 0 where
  pub nodes : (n : ℕ) → n < w.count → is_quiet (node_at w n) ≡ true
  pub mail : (k : ℕ) → is_clear (mail_at w k) ≡ true

-- the world has a node for each number below its count, a word for each below its size and a mailbox for each two nodes; nothing lies
-- beyond its nodes, and there are so few that each sees all mailboxes to and from it
pub record IsBounded (w : World) : Type 0 where
  pub nodes : length w.nodes ≡ w.count
  pub words : length w.words ≡ w.size
  pub mailboxes : length w.mail ≡ w.count * w.count
  pub few : w.count ≤ node_limit
  pub box : (n to : ℕ) → n < w.count → w.count ≤ to → outbox (node_at w n) to ≡ []
  pub mail : (k : ℕ) → ((from to : ℕ) → from < w.count → to < w.count → k ≡ way w from to → ⊥) → mail_at w k ≡ mails.Empty

-- the node has an act but idle
abbrev pub HasAct : World → ℕ → Type 0
HasAct w n = (n < w.count) × (is_idle (next_at w n) ≡ false)

-- the node takes its first act, or what stands in for it
abbrev pub TakesTurn : World → ℕ → World → Type 0
TakesTurn w n v = (event : Happened) × StepFirst w (Turn n) (replies.Turned event) v

-- the node after this one in a pass, or the first one of the next pass
abbrev pub next_node : World → ℕ → ℕ
next_node w n = if nat_lt (n + 1) w.count then n + 1 else 0

-- visits from a node on, one node after the other, pass after pass; each says whether the node took an act, and a node takes one wherever
-- it has one
abbrev pub AreVisits : ℕ → List Bool → World → World → Type 0
AreVisits n [] w v = v ≡ w
AreVisits n (true ∷ visits) w v = HasAct w n × ((u : World) × TakesTurn w n u × AreVisits (next_node w n) visits u v)
AreVisits n (false ∷ visits) w v = (is_idle (next_at w n) ≡ true) × AreVisits (next_node w n) visits w v

-- how many of the visits took an act
abbrev pub act_count : List Bool → ℕ
act_count [] = 0
act_count (acts ∷ visits) = if acts then act_count visits + 1 else act_count visits

-- the answer fits the turns taken: settled only if nothing waits, after so many acts; unsettled only if the limit is reached and an
-- act is still possible
abbrev pub FitsAnswer : ℕ → ℕ → World → Settled → Type 0
FitsAnswer limit acts v (ends.Settled after) = (after ≡ acts) × IsQuiet v
FitsAnswer limit acts v ends.Unsettled = (acts ≡ limit) × ((n : ℕ) × HasAct v n)

-- a settle: turns in passes over the nodes, at most as many as its limit, and an answer that fits them
pub record IsSettle (limit : ℕ) (w v : World) (answer : Settled) : Type 0 where
  pub visits : List Bool
  pub turns : AreVisits 0 visits w v
  pub within : act_count visits ≤ limit
  pub answers : FitsAnswer limit (act_count visits) v answer

-- the node that is visited behind these visits from a node on, if there are so many
abbrev pub node_behind : ℕ → ℕ → List Bool → ℕ
node_behind count n [] = n
node_behind count n (acts ∷ visits) = node_behind count (if nat_lt (n + 1) count then n + 1 else 0) visits

-- a settle that is refused: turns in passes over the nodes, fewer than its limit, and then the next node has an act and its turn is refused
pub record IsRefusedSettle (limit : ℕ) (w v : World) (why : Refusal) : Type 0 where
  pub visits : List Bool
  pub turns : AreVisits 0 visits w v
  pub below : act_count visits < limit
  pub busy : HasAct v (node_behind w.count 0 visits)
  pub refused : StepFirst v (Turn (node_behind w.count 0 visits)) (replies.Refused why) v
