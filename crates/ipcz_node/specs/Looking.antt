-- What a look at an end tells: what gets there would answer, one after the other.
-- (ipcz: QueryPortalStatus.)
use Rattle.std.specs.Prelude.{◌≡◌, ℕ, zero, suc, ◌<◌, Option, None, Some}
use Rattle.ipcz_base.specs.declared.end.End.{End}
use Rattle.ipcz_base.specs.declared.refusal.Refusal.TheVariants.{Stranger}
use Rattle.ipcz_base.specs.declared.status.PortalStatus.{PortalStatus}
use Rattle.ipcz_router.specs.Status.{refusal_behind}
use Rattle.ipcz_node.specs.Node.{Node, terminal_of}
use Rattle.ipcz_node.specs.Calls.{number_at, get_refusal, get_node, next_sizes}

-- the node after so many gets at an end
abbrev pub after_gets : Node → End → ℕ → Node
after_gets n at zero = n
after_gets n at (suc k) = get_node (after_gets n at k) at

-- the number that the next parcel of an end has
abbrev pub get_number : Node → End → ℕ
get_number n at = number_at (terminal_of n at) (λ r. r.in_queue.current)

-- a status tells of an end what gets there would answer: of the next parcel the number and the sizes; so many gets give a parcel each; and
-- the one after them is refused, since the peer has closed or since nothing more has come
pub record IsStatusOf (n : Node) (at : End) (s : PortalStatus) : Type 0 where
  pub next : s.next ≡ get_number n at
  pub sizes : s.sizes ≡ next_sizes n at
  pub given : (i : ℕ) → i < s.waiting → get_refusal (after_gets n at i) at ≡ None
  pub refused : get_refusal (after_gets n at s.waiting) at ≡ Some (refusal_behind s.peer_closed)

-- what a look at an end answers: none exactly if a get there is refused as a stranger's
abbrev pub IsLook : Node → End → Option PortalStatus → Type 0
IsLook n at None = get_refusal n at ≡ Some Stranger
IsLook n at (Some s) = IsStatusOf n at s
