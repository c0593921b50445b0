-- What nodes do of their own, in whatever order, is turns of the plain machine of specs/Promise: also where several threads take them.
use Rattle.std.specs.Prelude.{ℕ, List, [], ◌∷◌, map}
use Rattle.ipcz_node.specs.declared.act.Act.{Act}
use Rattle.ipcz_node.specs.declared.happened.Happened.{Happened}
use Rattle.ipcz_world.specs.declared.step.Step.TheVariants.{Turn}
use Rattle.ipcz_world.specs.declared.step.Reply.TheVariants.{Turned}
use Rattle.ipcz_world.specs.World.{World}
use Rattle.ipcz_world.specs.Books.{Books}
use Rattle.ipcz_world.specs.Routes.{Routes}
use Rattle.ipcz_world.specs.Turns.{after_act, turn_event}
use Rattle.ipcz_world.specs.Ranks.{AreTurns}
use Rattle.ipcz_promise.specs.Promise.{Account, MayRun}
use Rattle.ipcz_promise.specs.Accounting.{Keeps}

-- what these acts, one after the other, are seen to do
abbrev pub seen_of : World → List (ℕ × Act) → List Happened
seen_of w [] = []
seen_of w (t ∷ turns) = turn_event w t.0 t.1 ∷ seen_of (after_act w t.0 t.1) turns

-- the machine may take these turns, with what was seen in them, from some accounts on to others
abbrev pub MayTakeTurns : World → Account → List (ℕ × Act) → Account → Type 0
MayTakeTurns w a turns c = MayRun a (map (λ t. Turn t.0) turns) (map Turned (seen_of w turns)) c

-- law: from a world that keeps accounts, acts that are possible lead to one that keeps those which the machine comes to by these turns
abbrev pub TurnsKeepThePromise : Type 0
TurnsKeepThePromise =
    (w v : World) (b d : Books) (g h : Routes) (a : Account) (turns : List (ℕ × Act)) → Keeps w a → AreTurns w b g turns v d h →
    (c : Account) × MayTakeTurns w a turns c × Keeps v c
