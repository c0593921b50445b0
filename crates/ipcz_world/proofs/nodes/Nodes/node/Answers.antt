use Rattle.std.proofs.Common.{ap, ◌∙◌}
use Rattle.ipcz_world.proofs.Vocabulary.{place_at, bare_node}
use Rattle.ipcz_world.specs.RoomyWorlds.{NodesValue}
use Rattle.ipcz_world.proofs.code.StatesOfNodes.{as_many, part_read}
use Rattle.ipcz_world.proofs.nodes.Nodes.node.Goals as goal

pub returns : goal.returns
returns c =
    let same = ap (λ (v : NodesValue). v.nodes) c.self.view_is in
    let l = as_many c.self.inside.states.items c.args.self.now.nodes c.args.n same c.requires in
    part_read (λ k. k.node) (bare_node 0 0) c.self.inside.states.items c.args.n c.index.result.now l c.index.ensures ∙
    ap (λ xs. place_at (bare_node 0 0) xs c.args.n) same
