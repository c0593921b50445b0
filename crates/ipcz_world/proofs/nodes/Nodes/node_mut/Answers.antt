use Rattle.std.proofs.Common.{ap, refl, ◌∙◌}
use Rattle.ipcz_world.proofs.Vocabulary.{place_at, put_place, bare_node}
use Rattle.ipcz_world.specs.RoomyWorlds.{NodesValue, no_room}
use Rattle.ipcz_world.proofs.code.StatesOfNodes.{as_many, part_read, part_written}
use Rattle.ipcz_world.proofs.nodes.Nodes.node_mut.Goals as goal

pub returns : goal.returns
returns c =
    let items = c.self.inside.states.items in
    let nodes = ap (λ (v : NodesValue). v.nodes) c.self.view_is in
    let rooms = ap (λ (v : NodesValue). v.rooms) c.self.view_is in
    let l = as_many items c.args.self.now.nodes c.args.n nodes c.requires in (
      (
        refl,
        λ w. λ i. record {
          nodes = (part_written (λ k. k.node) (bare_node 0 0) items c.args.n w l ∙ ap (λ xs. put_place (bare_node 0 0) xs c.args.n w.node) nodes) i;
          rooms = (part_written (λ k. k.room) no_room items c.args.n w l ∙ ap (λ xs. put_place no_room xs c.args.n w.room) rooms) i;
        },
      ),
      record {
        writes_back = tt;
        value = part_read (λ k. k.node) (bare_node 0 0) items c.args.n c.index_mut.result.now l c.index_mut.ensures.value
            ∙ ap (λ xs. place_at (bare_node 0 0) xs c.args.n) nodes;
        room = part_read (λ k. k.room) no_room items c.args.n c.index_mut.result.now l c.index_mut.ensures.value
            ∙ ap (λ xs. place_at no_room xs c.args.n) rooms;
      },
    )
