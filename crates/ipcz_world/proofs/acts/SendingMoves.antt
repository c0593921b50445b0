-- A send to another node, with the terminals of its item's ends: all that holds is kept.
use Rattle.std.specs.Prelude.{◌≡◌, ◌≢◌, ◌<◌, ℕ, Option, Some, None, refl, List, [], ◌∷◌, ◌++◌, map}
use Rattle.std.proofs.Common.{arith, ap, subst, ◌∙◌, sym, inl, inr}
use Rattle.ipcz_world.proofs.Vocabulary.{Side, End, LinkId, Item, Message, place_at, put_place, Router, Node, Found, outbox, with_router, terminal_of}
use Rattle.ipcz_world.proofs.Vocabulary.{ends_in, World, Key, node_at, Books, Records, Inv, Transfer, move_ends, move_found}
use Rattle.ipcz_base.specs.declared.message.Message.TheVariants as messages
use Rattle.ipcz_node.specs.Sends.{move_end}
use Rattle.ipcz_world.proofs.frames.Frames.{node-set_node, word-set_node, mail-set_node, claimed-set_node, size-set_node, count-set_node}
use Rattle.ipcz_world.proofs.facts.RecordsAfter.{moves_records}
use Rattle.ipcz_world.proofs.frames.Changing.{IsNodeChanged, pushed_by}
use Rattle.ipcz_world.proofs.frames.Flowing.{IsPushed, came_pushed}
use Rattle.ipcz_world.proofs.frames.Opened.{opened, closed}
use Rattle.ipcz_world.proofs.acts.Sending.{IsSend, inv-sent}
use Rattle.ipcz_world.proofs.acts.MovingEnds.{posted_node, posted_world, inv-ends}

pub boxes_found : (m : Transfer) (a : ℕ) (o : Option Found) → (move_found m a o).node.outboxes ≡ m.node.outboxes
unfolding move_found
boxes_found m a None = refl
boxes_found m a (Some f) = refl

pub boxes_kept : (m : Transfer) (a : ℕ) (es : List End) → (move_ends m a es).node.outboxes ≡ m.node.outboxes
boxes_kept m a [] = refl
boxes_kept m a (e ∷ es) = boxes_kept (move_end m a e) a es ∙ boxes_found m a (terminal_of m.node e)

-- the node before its terminals move
abbrev pub before_moves : World → Key → Router → Transfer
before_moves w k y = record { node = with_router (node_at w k.node) k.serial y; moves = [] }

-- each end's terminal was found, in order
abbrev pub AreMoved : World → Key → Router → ℕ → Item → Type 0
AreMoved w k y to item = map (λ d. d.end) (move_ends (before_moves w k y) to (ends_in item)).moves ≡ ends_in item

pub inv-send_moves : (w : World) (b : Books) (g : Records) (k : Key) (r y : Router) (link : LinkId) (s : Side) (to n : ℕ) (item : Item) →
    Inv w b g → IsSend w g k r y link s to n item → k.node ≢ to → AreMoved w k y to item →
    Inv (posted_world w k.node to link s n item (move_ends (before_moves w k y) to (ends_in item))) b
    (moves_records g (before_moves w k y) to (ends_in item))
inv-send_moves w b g k r y link s to n item law is away all =
    closed v b h (inv-ends w b k.node to link s n item away within m g (ends_in item) (law.counts.node k.node here)
    (inv-sent w b g k r y link s to n item (opened w b g law) is) (λ e f. f))
    (λ from t i l u x z ds c ne. elim (came_pushed w v k.node to message p from t i (messages.Item l u x z ds) c) [
      | inl o ↦ law.moves.ends from t o.at l u x z ds o.was ne
      | inr o ↦ let d : ds ≡ (move_ends m to (ends_in item)).moves = grind (arith, o.message) in let e : z ≡ item =
          grind (arith, o.message) in ap (map (λ d. d.end)) d ∙ all ∙ ap ends_in (sym e)
    ])
  where
    m : Transfer
    m = before_moves w k y

    h : Records
    h = moves_records g (before_moves w k y) to (ends_in item)

    x : Node
    x = posted_node to link s n item (move_ends (before_moves w k y) to (ends_in item))

    v : World
    v = posted_world w k.node to link s n item (move_ends (before_moves w k y) to (ends_in item))

    message : Message
    message = messages.Item link s n item (move_ends (before_moves w k y) to (ends_in item)).moves

    here : k.node < w.count
    here = law.counts.on_node k r is.here

    within : to < w.count
    within = subst (λ f. f < w.count) (sym is.receiver) (law.counts.side_on_node link s is.recorded)

    changed : IsNodeChanged w v k.node x
    changed = record {
      node = λ j. node-set_node w k.node x j;
      word = λ i. word-set_node w k.node x i;
      claimed =
          claimed-set_node w k.node x;
      size = size-set_node w k.node x;
      count = count-set_node w k.node x;
    }

    boxes : x.outboxes ≡ put_place [] (node_at w k.node).outboxes to (outbox (node_at w k.node) to ++ message ∷ [])
    boxes = ap (λ o. put_place [] o to (place_at [] o to ++ message ∷ [])) (boxes_kept (before_moves w k y) to (ends_in item))

    p : IsPushed w v k.node to message
    p = pushed_by w v k.node to x message changed (λ i. mail-set_node w k.node x i) boxes here within
