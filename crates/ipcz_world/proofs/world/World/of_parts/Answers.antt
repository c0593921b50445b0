use Rattle.std.proofs.Common.{map}
use Rattle.ipcz_word.specs.Layout.{word_of_bits}
use Rattle.ipcz_node.specs.RoomyNodes.{RoomyNode}
use Rattle.ipcz_world.specs.Parts.{world_of_parts}
use Rattle.ipcz_world.proofs.code.Regular.{unclaimed-empty}
use Rattle.ipcz_world.proofs.world.World.of_parts.Goals as goal

pub of_parts-state-requires-clause-empty : goal.of_parts-state-requires-clause-empty
of_parts-state-requires-clause-empty c =
    unclaimed-empty (world_of_parts (map (λ (k : RoomyNode). k.node) c.args.nodes.items) c.args.mail.items (map word_of_bits c.args.words.items)
    c.args.claimed) c.requires.lawful
