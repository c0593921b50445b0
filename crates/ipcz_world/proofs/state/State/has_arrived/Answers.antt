use Rattle.std.proofs.Common.{◌≡◌, ◌∙◌, ap, sym, arith}
use Rattle.ipcz_world.proofs.code.StatesOfNodes.{world_is}
use Rattle.std.specs.Prelude.{true, false, None, nat_lt, if◌then◌else◌}
use Rattle.std.proofs.lemmas.Bool.Decides.{nat_tests}
use Rattle.ipcz_node.specs.Arriving.{arrival_of}
use Rattle.ipcz_world.proofs.Vocabulary.{place_at, bare_node, World, node_at}
use Rattle.ipcz_world.proofs.state.State.has_arrived.Goals as goal

pub returns-then-n-self : goal.returns-then-n-self
returns-then-n-self c =
    let w = c.args.self.now.world in
    let many : c.self.inside.count ≡ w.count = ap (λ (w : World). w.count) (world_is c.self.view_is) in
    let out : nat_lt c.args.n w.count ≡ false = grind (arith, nat_tests, many, c.if-n-self.true) in
    sym (ap (λ x. if x then arrival_of (node_at w c.args.n) c.args.at else None) out)

pub returns : goal.returns
unfolding node_at
returns c =
    let w = c.args.self.now.world in
    let many : c.self.inside.count ≡ w.count = ap (λ (w : World). w.count) (world_is c.self.view_is) in
    let within : nat_lt c.args.n w.count ≡ true = grind (arith, nat_tests, many, c.if-n-self.false) in
    let read = c.node.ensures ∙ ap (λ (w : World). place_at (bare_node 0 0) w.nodes c.args.n) (world_is c.self.view_is) in
    c.has_arrived.ensures ∙ ap (λ x. arrival_of x c.args.at) read ∙
    sym (ap (λ x. if x then arrival_of (node_at w c.args.n) c.args.at else None) within)
