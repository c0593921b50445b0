use Rattle.std.proofs.Common.{◌≡◌, ℕ, ◌+◌, ◌<◌, get_or, subst}
use Rattle.std.specs.Prelude.{MatchOption}
use Rattle.ipcz_messages.proofs.Naming.{no_node, no_other}
use Rattle.ipcz_messages.proofs.calls.nodes_of_name.Goals as goal

pub returns-in_default-2-clause-other : goal.returns-in_default-2-clause-other
returns-in_default-2-clause-other c = no_other c.args.nodes c.args.name.now c.in_default-2.ensures'

pub returns-in_default-2-2-clause-other : goal.returns-in_default-2-2-clause-other
returns-in_default-2-2-clause-other c =
    no_node c.args.nodes c.args.name.now
    (subst (λ o. MatchOption o ((n : ℕ) → n < c.args.nodes → get_or c.args.name.now 0 0 ≡ 48 + n → ⊥)
    (λ n. (n < c.args.nodes) × (get_or c.args.name.now 0 0 ≡ 48 + n))) c.in_default-2.is-0 c.node_of.ensures)
