-- What is said of each router of a world by itself.
use Rattle.std.specs.Prelude.{◌≡◌, Some}
use Rattle.ipcz_router.specs.Router.{Router}
use Rattle.ipcz_world.specs.World.{World, Key, router_at}

-- a fact of each router and of where it stands
abbrev pub EachRouter : World → (Key → Router → Type 0) → Type 0
EachRouter w IsSo = (k : Key) (r : Router) → router_at w k ≡ Some r → IsSo k r
