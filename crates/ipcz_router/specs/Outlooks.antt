-- What an act of a router is about to give its node, as far as the node needs room for it.
use Rattle.std.specs.Prelude.{Option, Some, None, length}
use Rattle.ipcz_base.specs.declared.link_end.LinkEnd.{LinkEnd}
use Rattle.ipcz_base.specs.declared.item.Item.{Item}
use Rattle.ipcz_base.specs.Items.{ends_in}
use Rattle.ipcz_router.specs.declared.act.Applied.{Applied}
use Rattle.ipcz_router.specs.declared.act.Applied.TheVariants as outputs
use Rattle.ipcz_router.specs.declared.outlook.Outlook.{Outlook}
use Rattle.ipcz_router.specs.declared.outlook.Outlook.TheVariants as outlooks

-- the outlook of what an act gives
abbrev pub outlook_of : Applied → Outlook
outlook_of outputs.Nothing = outlooks.Nothing
outlook_of (outputs.Sent link n item) = outlooks.Item link.other (length (ends_in item))
outlook_of (outputs.Message to message) = outlooks.Message to
outlook_of (outputs.Discarded n item) = outlooks.Closing (length (ends_in item))

-- of an item that goes over a link end, if there are both
unfoldable pub item_outlook : Option LinkEnd → Option Item → Outlook
item_outlook None item = outlooks.Nothing
item_outlook (Some e) None = outlooks.Nothing
item_outlook (Some e) (Some item) = outlooks.Item e.other (length (ends_in item))

-- of an item that is dropped, if there is one
unfoldable pub closing_outlook : Option Item → Outlook
closing_outlook None = outlooks.Nothing
closing_outlook (Some item) = outlooks.Closing (length (ends_in item))
