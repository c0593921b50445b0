-- The invariant while the moves of an item under way are in the making: all clauses but that an item has one descriptor per end.
use Rattle.ipcz_world.proofs.Vocabulary.{Side, A, B, End, LinkId, Descriptor, Item, Message, is_central, ends_in, World, Key, Books, Records}
use Rattle.ipcz_world.proofs.Vocabulary.{is_recorded, inner_link, side_node, side_router, side_end, IsUnderWay, under_way, of_end, moves_of}
use Rattle.ipcz_world.proofs.Vocabulary.{total_list, Counts, Ordered, Shape, Links, Positions, Stands, Words, Spares, BypassRecords, Stages, Controls}
use Rattle.ipcz_world.proofs.Vocabulary.{moving_link, Terminals, EndPlaces, BooksKept, Conserved, HeldOnce, Items, Order, ProxyNumbers, FreshNumbers}
use Rattle.ipcz_world.proofs.Vocabulary.{Inv, RetiredEnds, Gones, LiveLinks, move_weight}
use Rattle.std.specs.Prelude.{◌≡◌, ◌≢◌, ℕ, false, true, None, Some, List, [], map, slice_get}
use Rattle.ipcz_base.specs.declared.message.Message.TheVariants as messages
use Rattle.ipcz_world.specs.Inv.{HasNoStrays}
use Rattle.ipcz_world.proofs.frames.Roles.{Roles, BegunRecords}
use Rattle.ipcz_world.proofs.frames.RolesTell.{links-of-roles, positions-of-roles}

-- an item between two nodes has one descriptor per end, in order
abbrev pub HasEnds : World → Type 0
HasEnds w = (from to i : ℕ) (link : LinkId) (s : Side) (n : ℕ) (item : Item) (moves : List Descriptor) →
    IsUnderWay w from to i (messages.Item link s n item moves) → from ≢ to → map (λ d. d.end) moves ≡ ends_in item

-- the other clauses on moves
pub record OpenMoves (w : World) (g : Records) : Type 0 where
  pub within : (n i : ℕ) (link : LinkId) (s : Side) (number : ℕ) (item : Item) (moves : List Descriptor) →
      IsUnderWay w n n i (messages.Item link s number item moves) → moves ≡ []
  pub recorded : (from to i j : ℕ) (m : Message) (d : Descriptor) → IsUnderWay w from to i m → slice_get (moves_of m) j ≡ Some d →
      is_recorded w g d.link ≡ true
  pub peripheral : (from to i j : ℕ) (m : Message) (d : Descriptor) → IsUnderWay w from to i m → slice_get (moves_of m) j ≡ Some d →
      is_central d.link ≡ false
  pub sender : (from to i j : ℕ) (m : Message) (d : Descriptor) → IsUnderWay w from to i m → slice_get (moves_of m) j ≡ Some d →
      side_node g d.link A ≡ from
  pub receiver : (from to i j : ℕ) (m : Message) (d : Descriptor) → IsUnderWay w from to i m → slice_get (moves_of m) j ≡ Some d →
      side_node g d.link B ≡ to
  pub awaited : (from to i j : ℕ) (m : Message) (d : Descriptor) → IsUnderWay w from to i m → slice_get (moves_of m) j ≡ Some d →
      side_router g d.link B ≡ None
  pub end : (from to i j : ℕ) (m : Message) (d : Descriptor) → IsUnderWay w from to i m → slice_get (moves_of m) j ≡ Some d →
      side_end g d.link B ≡ d.end
  pub one : (e : End) (h : Descriptor → ℕ) → under_way (λ from to m. total_list (of_end e h) (moves_of m)) w ≡ move_weight h (g.terminal e)
  pub moving : (p : Key) → is_recorded w g (inner_link p) ≡ true → (g.peripheral p).router ≡ None →
      moving_link (g.terminal (g.peripheral p).end) ≡ Some (inner_link p)

pub record OpenInv (w : World) (b : Books) (g : Records) : Type 0 where
  pub counts : Counts w g
  pub ordered : Ordered w
  pub shape : Shape w
  pub roles : Roles w g
  pub begun : BegunRecords g
  pub stands : Stands w g
  pub words : Words w g
  pub spares : Spares w g
  pub bypasses : BypassRecords w g
  pub live : LiveLinks g
  pub stages : Stages w g
  pub controls : Controls w g
  pub moves : OpenMoves w g
  pub terminals : Terminals w g
  pub end_places : EndPlaces w g
  pub books_kept : BooksKept w b g
  pub items : Items w g
  pub order : Order w g
  pub proxy_numbers : ProxyNumbers w g
  pub fresh_numbers : FreshNumbers w g
  pub conserved : Conserved w b g
  pub held_once : HeldOnce w b g
  pub retired_ends : RetiredEnds b g
  pub gones : Gones w b g
  pub no_strays : HasNoStrays w

pub opened : (w : World) (b : Books) (g : Records) → Inv w b g → OpenInv w b g
opened w b g law = record {
  counts = law.counts;
  ordered = law.ordered;
  shape = law.shape;
  roles = law.roles;
  begun = law.begun;
  stands = law.stands;
  words = law.words;
  spares = law.spares;
  bypasses = law.bypasses;
  live = law.live;
  stages = law.stages;
  controls = law.controls;
  moves = assumption law.moves;
  terminals = law.terminals;
  end_places = law.end_places;
  books_kept = law.books_kept;
  items = law.items;
  order = law.order;
  proxy_numbers = law.proxy_numbers;
  fresh_numbers = law.fresh_numbers;
  conserved = law.conserved;
  held_once = law.held_once;
  retired_ends = law.retired_ends;
  gones = law.gones;
  no_strays = law.no_strays;
}

pub closed : (w : World) (b : Books) (g : Records) → OpenInv w b g → HasEnds w → Inv w b g
closed w b g law ends = record {
  counts = law.counts;
  ordered = law.ordered;
  shape = law.shape;
  roles = law.roles;
  begun = law.begun;
  stands = law.stands;
  words = law.words;
  spares = law.spares;
  bypasses = law.bypasses;
  live = law.live;
  stages = law.stages;
  controls = law.controls;
  moves = assumption law.moves;
  terminals = law.terminals;
  end_places = law.end_places;
  books_kept = law.books_kept;
  items = law.items;
  order = law.order;
  proxy_numbers = law.proxy_numbers;
  fresh_numbers = law.fresh_numbers;
  conserved = law.conserved;
  held_once = law.held_once;
  retired_ends = law.retired_ends;
  gones = law.gones;
  no_strays = law.no_strays;
}

pub links-open : {w : World} {b : Books} {g : Records} → OpenInv w b g → Links w g
links-open law = links-of-roles law.bypasses law.stands law.begun law.roles

pub positions-open : {w : World} {b : Books} {g : Records} → OpenInv w b g → Positions w g
positions-open law = positions-of-roles law.bypasses law.stands law.begun law.roles
