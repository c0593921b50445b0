-- Places weigh the same by records that tell the same sources of links.
use Rattle.std.specs.Prelude.{◌≡◌, refl}
use Rattle.std.proofs.Common.{arith, ap}
use Rattle.ipcz_base.specs.declared.message.Message.TheVariants as messages
use Rattle.ipcz_world.proofs.Vocabulary.{Weight, Side, LinkId, Message, World, node_at, Records}
use Rattle.ipcz_world.specs.Places.{in_message as in_message', in_node as in_node', in_places as in_places'}
use Rattle.ipcz_world.proofs.frames.OfRecords.{source, in_message, in_node, in_places}
use Rattle.ipcz_world.proofs.frames.Sums.{total_below-same}
use Rattle.ipcz_world.proofs.frames.Totalling.{total_list-same}
use Rattle.ipcz_world.proofs.frames.Flowing.{under_way-congr}

message-sources : (f : Weight) (g h : Records) → ((l : LinkId) (s : Side) → source h l s ≡ source g l s) → (m : Message) →
    in_message f h m ≡ in_message f g m
unfolding in_message'
message-sources f g h same (messages.Item l s n item moves) = ap (λ e. f e n item) (same l s)
message-sources f g h same other = refl

-- places weigh the same by records that tell the same sources
pub places-sources : (f : Weight) (g h : Records) (v : World) → ((l : LinkId) (s : Side) → source h l s ≡ source g l s) →
    in_places f h v ≡ in_places f g v
unfolding in_places' in_node'
places-sources f g h v same = omega (
  arith,
  total_below-same v.count (λ n. in_node f h (node_at v n)) (λ n. in_node f g (node_at v n))
      (λ n. omega (arith, total_list-same (in_message f h) (in_message f g) (node_at v n).strays message)),
  under_way-congr (λ from to m. in_message f h m) (λ from to m. in_message f g m) v (λ from to i m u. message m),
)
  where
    message : (m : Message) → in_message f h m ≡ in_message f g m
    message m = message-sources f g h same m
