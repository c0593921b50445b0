-- Where a node keeps a link among others: by its number, by who numbers it, and by its side.
-- (This project's own: ipcz finds a router by its sublink.)
use Rattle.std.specs.declared.cmp.Ordering.{Ordering}
use Rattle.ipcz_base.specs.declared.side.Side.{Side}
use Rattle.ipcz_base.specs.declared.link_id.LinkId.{LinkId}
use Rattle.ipcz_base.specs.declared.link_id.LinkId.TheVariants.{Central, Peripheral}
use Rattle.ipcz_node.specs.declared.link_place.LinkPlace.{LinkPlace}
use Rattle.ipcz_node.specs.declared.link_place.LinkMaker.TheVariants.{Words, Node}
use Rattle.ipcz_node.specs.contracts.link_place.LinkPlaceOrd.TheImpl as place_order

-- the order of places
abbrev pub place_cmp : LinkPlace → LinkPlace → Ordering
place_cmp = (place_order.ghosts).cmp

-- the place of a link at a side
unfoldable pub link_place : LinkId → Side → LinkPlace
link_place (Central word) side = record { number = word; maker = Words; side = side }
link_place (Peripheral node serial) side = record { number = serial; maker = Node node; side = side }
