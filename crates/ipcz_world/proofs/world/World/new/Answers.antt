use Rattle.std.proofs.Common.{sym, subst}
use Rattle.ipcz_world.proofs.Vocabulary.{World, no_books, Lawful}
use Rattle.ipcz_world.specs.Routes.{first_routes}
use Rattle.ipcz_world.proofs.Whole.{world_starts_lawful}
use Rattle.ipcz_world.proofs.world.World.new.Goals as goal

-- what was made is lawful
made : (c : goal.In_ok-state) → Lawful c.in_ok-state.state.world no_books (first_routes c.args.nodes)
made c =
    subst (λ (w : World). Lawful w no_books (first_routes c.args.nodes)) (sym c.in_ok-state.ensures.world)
    (world_starts_lawful c.args.nodes c.args.words c.requires.limits)

pub invariant_of-result : goal.invariant_of-result
invariant_of-result c = record { books = no_books; routes = first_routes c.args.nodes; lawful = made c }

pub returns-clause-lawful : goal.returns-clause-lawful
returns-clause-lawful c = made c
