-- The chairs of a node, on which gets sleep.
use Rattle.std.specs.Prelude.{ℕ, ◌+◌, ◌||◌, if◌then◌else◌, Bool, true, false, List, [], ◌∷◌, Option, Some}
use Rattle.ipcz_base.specs.declared.end.End.{End}
use Rattle.ipcz_base.specs.declared.refusal.Refusal.{Refusal}
use Rattle.ipcz_base.specs.declared.refusal.Refusal.TheVariants as refusals
use Rattle.ipcz_node.specs.Node.{Node}
use Rattle.ipcz_node.specs.Calls.{get_refusal}
use Rattle.ipcz_fabric.specs.declared.chair.Chair.{Chair}
use Rattle.ipcz_fabric.specs.declared.chair.Chair.TheVariants as chairs

-- how many of a chair are taken
abbrev pub taken_of : Chair → ℕ
taken_of chairs.Free = 0
taken_of (chairs.Waits at) = 1
taken_of chairs.Woken = 1

-- how many of some chairs are taken
abbrev pub taken_in : List Chair → ℕ
taken_in [] = 0
taken_in (c ∷ cs) = taken_of c + taken_in cs

-- who waits on a chair is woken if something has come at its end, or if all are woken
abbrev pub woken_chair : (End → Bool) → Bool → Chair → Chair
woken_chair comes all chairs.Free = chairs.Free
woken_chair comes all (chairs.Waits at) = if all || comes at then chairs.Woken else chairs.Waits at
woken_chair comes all chairs.Woken = chairs.Woken

-- whether a get is answered by something else than that nothing has come
abbrev pub is_answer : Option Refusal → Bool
is_answer (Some refusals.Empty) = false
is_answer other = true

-- the same of a get at an end of a node
abbrev pub is_answered : Node → End → Bool
is_answered n at = is_answer (get_refusal n at)
