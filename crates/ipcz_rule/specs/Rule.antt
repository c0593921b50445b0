-- The rule of the table: what words, slots and views show is a lawful world, with the books that the views keep, in which nothing strays.
-- (This project's own: ipcz's nodes share no memory but the link states, and nothing there says what all of it shows.)
use Rattle.std.specs.Prelude.{◌≡◌, ◌≤◌, ◌<◌, ◌+◌, ◌*◌, ℕ, zero, suc, Bool, true, false, ◌||◌, cond, nat_eq, List, [], ◌∷◌, ◌++◌, length}
use Rattle.std.specs.Prelude.{slice_index, slice_get, Option, Some, None}
use Rattle.std.specs.Int.{bit_at}
use mathlib.Core.Option.{some}
use mathlib.Core.Option as maybe
use lib.ListN.{get_elem?}
use Rattle.atomic_table.specs.Table.{State, Me}
use Rattle.ipcz_base.specs.declared.end.End.{End}
use Rattle.ipcz_base.specs.declared.parcel.Parcel as parcels
use Rattle.ipcz_base.specs.declared.item.Item.{Item}
use Rattle.ipcz_base.specs.declared.message.Message.{Message}
use Rattle.ipcz_word.specs.Laws.{HasNode}
use Rattle.ipcz_word.specs.Layout.{bits_of}
use Rattle.ipcz_node.specs.Node.{Node}
use Rattle.ipcz_world.specs.declared.mail.Mail.{Mail}
use Rattle.ipcz_world.specs.declared.mail.Mail.TheVariants as mails
use Rattle.ipcz_world.specs.World.{World, node_at, word_at, mail_at, way}
use Rattle.ipcz_world.specs.Books.{Books, read}
use Rattle.ipcz_world.specs.Routes.{Routes, hand_of}
use Rattle.ipcz_world.specs.Lawful.{Lawful}
use Rattle.ipcz_world.specs.Laws.{LengthLaw, StrayLaw}
use Rattle.ipcz_rule.specs.declared.view.View.{View}
use Rattle.ipcz_rule.specs.declared.view.Part.{Part}
use Rattle.ipcz_rule.specs.Histories.{Histories}

-- what a slot has: a message while its mailbox is full
abbrev pub Slot : Type 0
Slot = Option Message

abbrev pub Homes : Type 0
Homes = List (maybe.Option Slot)

abbrev pub St : Type 0
St = State Slot View

abbrev pub Mine : Type 0
Mine = Me Slot View

-- the word of a mailbox: it stands behind the link words, the claim count and the inboxes
abbrev pub mailbox : World → ℕ → ℕ
mailbox w k = w.size + 1 + w.count + k

-- the inbox of a node: its word has a bit for each sender, and stands behind the link words and the claim count
abbrev pub inbox : World → ℕ → ℕ
inbox w to = w.size + 1 + to

-- how many words the table of a world has
abbrev pub word_count : World → ℕ
word_count w = w.size + 1 + w.count + w.count * w.count

-- whether a list has a number
abbrev pub has_number : List ℕ → ℕ → Bool
has_number [] i = false
has_number (j ∷ js) i = nat_eq i j || has_number js i

-- a list without a number
abbrev pub without_number : List ℕ → ℕ → List ℕ
without_number [] i = []
without_number (j ∷ js) i = cond (nat_eq j i) (without_number js i) (j ∷ without_number js i)

-- the word of a mailbox, its slot, and the mailbox that they show
abbrev pub MailAt : ℕ → maybe.Option (maybe.Option Slot) → Mail → Type 0
MailAt zero home m = (home ≡ some (some None)) × (m ≡ mails.Empty)
MailAt (suc zero) home m = (x : Message) × (home ≡ some (some (Some x))) × (m ≡ mails.Full x)
MailAt (suc (suc zero)) home m = (x : Message) × (m ≡ mails.Hand x)
MailAt (suc (suc (suc zero))) home m = m ≡ mails.Empty
MailAt (suc (suc (suc (suc n)))) home m = ⊥

-- what a part says of the world that is shown
pub record Spells (words : List ℕ) (w : World) (p : Part) : Type 0 where
  pub inside : p.node < w.count
  pub state : node_at w p.node ≡ p.state
  pub message : hand_of w p.node p.state.hand ≡ p.message
  pub probed : (to : ℕ) → to < w.count → has_number p.probed to ≡ nat_eq (slice_index words (mailbox w (way w p.node to))) 3

-- words, slots and views show the world, in which the seat of the node n is `owner n`
pub record Shows (s : St) (w : World) (owner : ℕ → ℕ) : Type 0 where
  pub wide : length s.words ≡ word_count w
  pub deep : length s.homes ≡ w.count * w.count
  pub links : (i : ℕ) → i < w.size → slice_index s.words i ≡ bits_of (word_at w i)
  pub claims : slice_index s.words w.size ≡ w.claimed
  pub mail : (k : ℕ) → k < w.count * w.count → MailAt (slice_index s.words (mailbox w k)) (get_elem? s.homes k) (mail_at w k)
  pub parts : (id : ℕ) (v : View) (j : ℕ) (p : Part) → get_elem? s.views id ≡ some v → get_elem? v.parts j ≡ some p →
      (owner p.node ≡ id) × Spells s.words w p

-- an entry stands in a part of a view
pub record InParts {X : Type 0} (views : List View) (of : Part → List X) (x : X) : Type 0 where
  pub id : ℕ
  pub view : View
  pub place : ℕ
  pub part : Part
  pub index : ℕ
  pub seat : get_elem? views id ≡ some view
  pub there : get_elem? view.parts place ≡ some part
  pub entry : get_elem? (of part) index ≡ some x

abbrev pub puts_of : Part → List ((End × ℕ) × Item)
puts_of p = p.put

abbrev pub gets_of : Part → List ((End × ℕ) × parcels.Parcel)
gets_of p = p.got

abbrev pub drops_of : Part → List (End × ℕ)
drops_of p = p.gone

-- the books are the parts joined by number
pub record Joined (views : List View) (b : Books) : Type 0 where
  pub put : (e : End) (n : ℕ) (item : Item) → slice_get (b.put e) n ≡ Some item → InParts views puts_of ((e, n), item)
  pub put_only : (e : End) (n : ℕ) (item : Item) → InParts views puts_of ((e, n), item) → slice_get (b.put e) n ≡ Some item
  pub got : (e : End) (n : ℕ) (p : parcels.Parcel) → slice_get (b.got e) n ≡ Some p → InParts views gets_of ((e, n), p)
  pub got_only : (e : End) (n : ℕ) (p : parcels.Parcel) → InParts views gets_of ((e, n), p) → slice_get (b.got e) n ≡ Some p
  pub gone : (e : End) (n : ℕ) → length (b.got e) ≤ n → n < read b e → InParts views drops_of (e, n)
  pub gone_only : (e : End) (n : ℕ) → InParts views drops_of (e, n) → (length (b.got e) ≤ n) × (n < read b e)

-- a node has a part in some view
pub record HasPart (views : List View) (node : ℕ) : Type 0 where
  pub id : ℕ
  pub view : View
  pub place : ℕ
  pub part : Part
  pub seat : get_elem? views id ≡ some view
  pub there : get_elem? view.parts place ≡ some part
  pub node_is : part.node ≡ node

-- so has each of so many nodes
abbrev pub HaveParts : List View → ℕ → Type 0
HaveParts views count = (node : ℕ) → node < count → HasPart views node

-- no view has seen the claim count above what it is
abbrev pub HasSeenCounts : List View → World → Type 0
HasSeenCounts views w = (id : ℕ) (v : View) (k n : ℕ) → get_elem? views id ≡ some v → get_elem? v.seen k ≡ some (w.size, n) → n ≤ w.claimed

-- what the inboxes say: the bit of each sender whose mailbox is full is set there; and so it is as long as a sender that has announced its
-- message has the mailbox
pub record Inboxes (words : List ℕ) (views : List View) (w : World) : Type 0 where
  pub full : (from to : ℕ) → from < w.count → to < w.count → slice_index words (mailbox w (way w from to)) ≡ 1 →
      bit_at (slice_index words (inbox w to)) from ≡ 1
  pub announced : (id : ℕ) (v : View) (j : ℕ) (p : Part) (to : ℕ) → get_elem? views id ≡ some v → get_elem? v.parts j ≡ some p → v.announced ≡ Some to →
      to < w.count → has_number p.probed to ≡ true → bit_at (slice_index words (inbox w to)) p.node ≡ 1

-- the rule of a table for so many nodes and words
pub record Rules (count size : ℕ) (s : St) : Type 0 where
  pub world : World
  pub books : Books
  pub routes : Routes
  pub owner : ℕ → ℕ
  pub nodes : world.count ≡ count
  pub words : world.size ≡ size
  pub shows : Shows s world owner
  pub inboxes : Inboxes s.words s.views world
  pub joined : Joined s.views books
  pub lawful : Lawful world books routes
  -- all that know a link's length know the same, and no message but a Flush finds its router gone
  pub lengths : LengthLaw world
  pub strays : StrayLaw world
  -- each link word names a node as its source, or none
  pub sources : (i : ℕ) → HasNode (word_at world i).source
  pub counted : HasSeenCounts s.views world
  pub parts : HaveParts s.views count
  pub histories : Histories s.views

-- a table that keeps the rule, with what the rule shows of it
abbrev pub SingleRuled : ℕ → ℕ → Type 0
SingleRuled count size = (s : St) × Rules count size s

-- the view with another part, its only one
abbrev pub with_part : Part → View → View
with_part p v = record { parts = p ∷ []; seen = v.seen; announced = None; caller = v.caller }

-- the view that has seen the word i to be n
abbrev pub saw : ℕ → ℕ → View → View
saw i n v = record { parts = v.parts; seen = v.seen ++ (i, n) ∷ []; announced = None; caller = v.caller }

-- the view that has announced a message to a node
abbrev pub announcing : ℕ → View → View
announcing to v = record { parts = v.parts; seen = v.seen; announced = Some to; caller = v.caller }

-- the view of a seat that no longer knows that it has announced a message
abbrev pub forgetting : View → View
forgetting v = record { parts = v.parts; seen = v.seen; announced = None; caller = v.caller }

-- the part with another state of its node
abbrev pub with_state : Node → Part → Part
with_state x p = record { node = p.node; state = x; message = p.message; probed = p.probed; batches = p.batches; put = p.put; got = p.got; gone = p.gone; history = p.history }
