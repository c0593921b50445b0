-- What closing a portal does to its router.
-- (ipcz: Router::CloseRoute. There the peer is told by a message of its own; here by the mark, an item like any other.)
use Rattle.std.specs.Prelude.{true}
use Rattle.ipcz_base.specs.declared.item.Item.TheVariants.{Mark}
use Rattle.ipcz_router.specs.Router.{Router}
use Rattle.ipcz_router.specs.Calls.{put_item}

-- the mark is put, and the terminal becomes a sink
abbrev pub close_router : Router → Router
close_router r = record (put_item r Mark) { closed = true }
