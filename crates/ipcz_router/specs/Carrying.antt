-- The message that carries an item which brings no router along.
use Rattle.std.specs.Prelude.{Option, Some, None, []}
use Rattle.ipcz_base.specs.declared.message.Message.{Message}
use Rattle.ipcz_base.specs.declared.message.Message.TheVariants as messages
use Rattle.ipcz_base.specs.Sides.{opposite}
use Rattle.ipcz_router.specs.declared.act.Applied.{Applied}
use Rattle.ipcz_router.specs.declared.act.Applied.TheVariants as outputs

-- the message that carries what an act gives over its link without moves, if that is an item
unfoldable pub carried_by : Applied → Option Message
carried_by (outputs.Sent link n item) = Some (messages.Item link.link (opposite link.side) n item [])
carried_by other = None
