-- What becomes of the routers when one of them was lent.
use Rattle.std.specs.Prelude.{ℕ}
use Rattle.std.specs.Borrow.{Lends, MutBor, Fml}
use Rattle.ipcz_router.specs.RoomyRouters.{RoomyRouter}
use Rattle.ipcz_router.specs.contracts.router.Router.{the_row as router_row}
use Rattle.ipcz_node.specs.Rooms.{RoutersValue, put_router}
use Rattle.ipcz_node.specs.contracts.routers.Routers.{the_row}

-- the router of the serial becomes what is written through the loan, and nothing else changes
abbrev pub LendsRouter : MutBor RoutersValue → ℕ → MutBor RoomyRouter → Fml
LendsRouter lender serial loan = Lends the_row router_row lender loan (put_router lender.now serial)
