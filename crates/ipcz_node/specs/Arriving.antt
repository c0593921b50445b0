-- Whether an end has arrived where its callers hold it.
use Rattle.std.specs.Prelude.{Bool, if◌then◌else◌, Option, None, option_map}
use Rattle.ipcz_base.specs.declared.end.End.{End}
use Rattle.ipcz_router.specs.Arrivals.{has_arrived}
use Rattle.ipcz_node.specs.Node.{Node, holds_end, terminal_of}

-- whether an end that callers of the node hold has arrived, as its terminal tells; none if they don't hold it
abbrev pub arrival_of : Node → End → Option Bool
arrival_of n at = if holds_end n at then option_map (λ f. has_arrived f.router) (terminal_of n at) else None
