-- In every world that steps lead to, a router with a possible act is flagged.
use Rattle.std.specs.Prelude.{ℕ, zero, suc, Bool, true, false, cond, nat_eq, List, [], ◌∷◌}
use Rattle.std.proofs.Common.{sym, subst}
use Rattle.ipcz_world.proofs.Vocabulary.{place_at, Word, Node, bare_node, Reply, World, node_at, router_at, set_node, set_word, set_claimed}
use Rattle.ipcz_world.proofs.Vocabulary.{set_mail, answer_of, Books, Records, Inv, Mail, Step, new_world, numbers_from, StepAny}
use Rattle.ipcz_world.proofs.Vocabulary.{claim_for_open, AreFlagged}
use Rattle.ipcz_world.specs.World.{new_nodes}
use Rattle.ipcz_world.proofs.frames.Frames.{node-set_node, node-set_word, node-set_claimed, node-set_mail}
use Rattle.ipcz_world.proofs.runs.Flagging.{AreAwake, awake-router, awake-pending, awake-put, awake-get, awake-close_node, awake-open}
use Rattle.ipcz_world.proofs.runs.Flagging.{awake-new, awake-bare, awake-deliver}
use Rattle.ipcz_world.proofs.runs.NodeSteps.{IsKept, kept-claim_for_open, kept-step}

-- each node's routers are so
abbrev IsAwakeWorld : World → Type 0
IsAwakeWorld w = (n : ℕ) → AreAwake (node_at w n)

to-nodes : (w : World) → AreFlagged w → IsAwakeWorld w
unfolding router_at
to-nodes w law n s r at act = law (record { node = n; serial = s }) r act at

from-nodes : (w : World) → IsAwakeWorld w → AreFlagged w
unfolding router_at
from-nodes w law k r act at = law k.node k.serial r at act

awake-set_node : (w : World) (n : ℕ) (x : Node) → IsAwakeWorld w → AreAwake x → IsAwakeWorld (set_node w n x)
awake-set_node w n x law is j = subst AreAwake (sym (node-set_node w n x j)) (go (nat_eq j n))
  where
    go : (c : Bool) → AreAwake (cond c x (node_at w j))
    go true = is
    go false = law j

awake-set_word : (w : World) (i : ℕ) (x : Word) → IsAwakeWorld w → IsAwakeWorld (set_word w i x)
awake-set_word w i x law j = subst AreAwake (sym (node-set_word w i x j)) (law j)

awake-set_claimed : (w : World) (i : ℕ) → IsAwakeWorld w → IsAwakeWorld (set_claimed w i)
awake-set_claimed w i law j = subst AreAwake (sym (node-set_claimed w i j)) (law j)

awake-set_mail : (w : World) (k : ℕ) (x : Mail) → IsAwakeWorld w → IsAwakeWorld (set_mail w k x)
awake-set_mail w k x law j = subst AreAwake (sym (node-set_mail w k x j)) (law j)

awake-kept : IsKept IsAwakeWorld AreAwake
awake-kept = record {
  node_of = λ w n law. law n;
  set_node = awake-set_node;
  set_word = awake-set_word;
  set_claimed = awake-set_claimed;
  set_mail = awake-set_mail;
  look = λ n from law. law;
  post = λ n to ms law. law;
  claim = λ n i law. law;
  put = awake-put;
  get = awake-get;
  close = awake-close_node;
  open_pair = awake-open;
  pending = awake-pending;
  router = λ w b g n s act r law ln is here may. awake-router (node_at w n) s act r (answer_of w r act) (is n) here may;
  deliver = awake-deliver;
}

-- the first half of an open
pub flagged-claim_for_open : (w : World) (n : ℕ) → AreFlagged w → AreFlagged (claim_for_open w n)
flagged-claim_for_open w n is = from-nodes (claim_for_open w n) (kept-claim_for_open IsAwakeWorld AreAwake awake-kept w n (to-nodes w is))

-- any step
pub flagged-step : (w v : World) (b : Books) (g : Records) (step : Step) (reply : Reply) → Inv w b g → AreFlagged w →
    StepAny w step reply v → AreFlagged v
flagged-step w v b g step reply law is h = from-nodes v (kept-step IsAwakeWorld AreAwake awake-kept w v b g step reply law (to-nodes w is)
    h)

-- the world at the start
awake-places : (nodes n : ℕ) (is : List ℕ) → AreAwake (place_at (bare_node 0 0) (new_nodes nodes is) n)
unfolding place_at
awake-places nodes n [] = awake-bare 0 0
awake-places nodes zero (i ∷ is) = awake-new i nodes
awake-places nodes (suc n) (i ∷ is) = awake-places nodes n is

pub flagged-new : (nodes words : ℕ) → AreFlagged (new_world nodes words)
unfolding node_at new_world
flagged-new nodes words = from-nodes (new_world nodes words) (λ n. awake-places nodes n (numbers_from 0 nodes))
