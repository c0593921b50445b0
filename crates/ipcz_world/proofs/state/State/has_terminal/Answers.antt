use Rattle.std.proofs.Common.{◌≡◌, ◌<◌, ◌+◌, ◌&&◌, ◌||◌, Bool, true, false, is_some, length, drop, arith, ap, sym, ◌∙◌}
use Rattle.ipcz_world.proofs.code.StatesOfNodes.{world_is}
use Rattle.std.specs.FinMap.{entries}
use Rattle.ipcz_base.specs.Ends.{same_end}
use Rattle.ipcz_node.specs.Node.{find_router, first_where}
use Rattle.ipcz_node.proofs.Serials.{entries_are}
use Rattle.ipcz_world.proofs.Vocabulary.{World, Node, Router, is_terminal, place_at, bare_node}
use Rattle.ipcz_world.specs.SettleLimit.{has_within}
use Rattle.ipcz_world.proofs.code.Tallying.{has_within-next}
use Rattle.ipcz_world.proofs.state.State.has_terminal.Goals as goal

pub loop-n-preserved : goal.loop-n-preserved
loop-n-preserved c =
    let nodes = c.args.self.now.world.nodes in
    let e = c.args.end in
    let n = c.loop-n.n in
    let test : Router → Bool = λ r. is_terminal r && same_end r.end e in
    let low : n < length nodes =
    omega (arith, c.loop-n-test.true, c.requires.lengths.nodes, ap (λ (w : World). w.count) (world_is c.self.view_is)) in
    let node = c.node.ensures ∙ ap (λ (w : World). place_at (bare_node 0 0) w.nodes n) (world_is c.self.view_is) in
    let here : is_some (find_router (place_at (bare_node 0 0) nodes n) test) ≡ false =
    ap (λ (x : Node). is_some (find_router x test)) (sym node) ∙ ap (λ es. is_some (first_where test es))
    (ap entries (sym c.routers.ensures.routers) ∙ entries_are (λ x. x.router) 0 _ c.routers.result.now c.routers.ensures.rising) ∙
    sym c.has_among.ensures ∙ c.if-has_among.false in
    sym (has_within-next e (bare_node 0 0) nodes n low ∙ ap (λ b. b || has_within e (drop (n + 1) nodes)) here) ∙ c.loop-n.invariant

pub returns-then-has_among : goal.returns-then-has_among
returns-then-has_among c =
    let nodes = c.args.self.now.world.nodes in
    let e = c.args.end in
    let n = c.loop-n.n in
    let test : Router → Bool = λ r. is_terminal r && same_end r.end e in
    let low : n < length nodes =
    omega (arith, c.loop-n-test.true, c.requires.lengths.nodes, ap (λ (w : World). w.count) (world_is c.self.view_is)) in
    let node = c.node.ensures ∙ ap (λ (w : World). place_at (bare_node 0 0) w.nodes n) (world_is c.self.view_is) in
    let here : is_some (find_router (place_at (bare_node 0 0) nodes n) test) ≡ true =
    ap (λ (x : Node). is_some (find_router x test)) (sym node) ∙ ap (λ es. is_some (first_where test es))
    (ap entries (sym c.routers.ensures.routers) ∙ entries_are (λ x. x.router) 0 _ c.routers.result.now c.routers.ensures.rising) ∙
    sym c.has_among.ensures ∙ c.if-has_among.true in
    sym (sym c.loop-n.invariant ∙ has_within-next e (bare_node 0 0) nodes n low ∙ ap (λ b. b || has_within e (drop (n + 1) nodes)) here)
