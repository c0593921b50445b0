-- The invariant but for what it says of terminals, of retired ends and of Gone.
use Rattle.ipcz_world.proofs.Vocabulary.{World, Books, Records, Counts, Ordered, Shape, Links, Positions, Stands, Words, Spares, BypassRecords}
use Rattle.ipcz_world.proofs.Vocabulary.{Stages, Controls, Terminals, EndPlaces, BooksKept, Items, Order, ProxyNumbers, FreshNumbers, Conserved, HeldOnce}
use Rattle.ipcz_world.proofs.Vocabulary.{Inv, Moves, LiveLinks, RetiredEnds, Gones}
use Rattle.ipcz_world.specs.Inv.{HasNoStrays}
use Rattle.ipcz_world.proofs.frames.Roles.{Roles, BegunRecords}
use Rattle.ipcz_world.proofs.frames.RolesTell.{links-of-roles, positions-of-roles}

pub record NearInv (w : World) (b : Books) (g : Records) : Type 0 where
  pub counts : Counts w g
  pub ordered : Ordered w
  pub shape : Shape w
  pub roles : Roles w g
  pub begun : BegunRecords g
  pub stands : Stands w g
  pub words : Words w g
  pub spares : Spares w g
  pub bypasses : BypassRecords w g
  pub live : LiveLinks g
  pub stages : Stages w g
  pub controls : Controls w g
  pub moves : Moves w g
  pub end_places : EndPlaces w g
  pub books_kept : BooksKept w b g
  pub items : Items w g
  pub order : Order w g
  pub proxy_numbers : ProxyNumbers w g
  pub fresh_numbers : FreshNumbers w g
  pub conserved : Conserved w b g
  pub held_once : HeldOnce w b g
  pub no_strays : HasNoStrays w

pub inv-near : {w : World} {b : Books} {g : Records} → NearInv w b g → Terminals w g → RetiredEnds b g → Gones w b g → Inv w b g
inv-near near terminals retired_ends gones = assumption near

pub near-inv : {w : World} {b : Books} {g : Records} → Inv w b g → NearInv w b g
near-inv law = assumption law

pub links-near : {w : World} {b : Books} {g : Records} → NearInv w b g → Links w g
links-near law = links-of-roles law.bypasses law.stands law.begun law.roles

pub positions-near : {w : World} {b : Books} {g : Records} → NearInv w b g → Positions w g
positions-near law = positions-of-roles law.bypasses law.stands law.begun law.roles
