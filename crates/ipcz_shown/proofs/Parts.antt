-- A node of the world that a table of batches shows is what its part says, behind the messages that are under way.
use Rattle.std.specs.Prelude.{◌≡◌, ◌<◌, ℕ, Bool}
use mathlib.Core.Option.{some}
use lib.ListN.{get_elem?}
use Rattle.ipcz_node.specs.Fronts.{behind}
use Rattle.ipcz_world.specs.World.{node_at}
use Rattle.ipcz_rule.specs.declared.view.View.{View}
use Rattle.ipcz_rule.specs.declared.view.Part.{Part}
use Rattle.ipcz_rule.specs.Batches.{BatchSt, Batched, shown_part}
use Rattle.ipcz_rule.proofs.BatchedLaws.{part_shown}

pub node-shown : {count size : ℕ} {alone : Bool} {s : BatchSt} (b : Batched count size alone s) (id : ℕ) (v : View) (j : ℕ) (p : Part) →
    get_elem? s.views id ≡ some v → get_elem? v.parts j ≡ some p →
    (p.node < b.rules.world.count) × (node_at b.rules.world p.node ≡ behind (b.fronts p.node) p.state)
node-shown b id v j p seat there =
    let g = part_shown b.folds id v j p seat there in
    let is = (b.rules.shows.parts id g.view j (shown_part b.fronts p) g.seat g.there).1 in
    (is.inside, is.state)
