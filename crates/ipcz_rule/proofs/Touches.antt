-- Steps that change the node of the seat, and no mailbox: touches, and steps on a link word.
use Rattle.std.specs.Prelude.{◌≡◌, ◌≢◌, ◌<◌, ◌+◌, ◌*◌, ℕ, nat_eq, List, slice_index, Option, Some, None, refl}
use Rattle.std.proofs.Common.{ap, ◌∙◌, sym}
use lib.ListN.{get_elem?}
use Rattle.ipcz_node.specs.Node.{Node}
use Rattle.ipcz_world.specs.World.{World, node_at, mail_at, way}
use Rattle.ipcz_world.specs.Turns.{hand_message}
use Rattle.ipcz_world.specs.Routes.{hand_of}
use Rattle.ipcz_rule.specs.declared.view.Part.{Part}
use Rattle.ipcz_rule.specs.Rule.{St, has_number, mailbox, MailAt, Spells, Shows}

-- the world has another node at one number, and all else is as it was but link words and the claim count
pub record NodeMoves (w w' : World) (n : ℕ) (x : Node) : Type 0 where
  pub count : w'.count ≡ w.count
  pub size : w'.size ≡ w.size
  pub here : node_at w' n ≡ x
  pub apart : (j : ℕ) → j ≢ n → node_at w' j ≡ node_at w j
  pub mail : (k : ℕ) → mail_at w' k ≡ mail_at w k

-- the message in a hand is found in the same mailbox
pub same_hand : (w w' : World) (n : ℕ) (hand : Option ℕ) → w'.count ≡ w.count → ((from : ℕ) → hand ≡ Some from → mail_at w' (way w from n) ≡ mail_at w (way w from n)) →
    hand_of w' n hand ≡ hand_of w n hand
unfolding hand_of
same_hand w w' n None count mail = refl
same_hand w w' n (Some from) count mail = ap hand_message (ap (λ c. mail_at w' (from * c + n)) count ∙ mail from refl)

-- the words of mailboxes are the same for both worlds
pub same_box : (w w' : World) (k : ℕ) → w'.count ≡ w.count → w'.size ≡ w.size → mailbox w' k ≡ mailbox w k
same_box w w' k count size = rw (count, size) refl

pub same_way : (w w' : World) (a b : ℕ) → w'.count ≡ w.count → way w' a b ≡ way w a b
same_way w w' a b count = rw count refl

module _ (s : St) (w w' : World) (words : List ℕ) (n : ℕ) (x : Node) (m : NodeMoves w w' n x) (boxes : (k : ℕ) → slice_index words (mailbox w k) ≡ slice_index s.words (mailbox w k)) where
  box_is : (k : ℕ) → slice_index words (mailbox w' k) ≡ slice_index s.words (mailbox w k)
  box_is k = ap (slice_index words) (same_box w w' k m.count m.size) ∙ boxes k

  pub same_probed : (q : Part) → Spells s.words w q → (to : ℕ) → to < w'.count → nat_eq (slice_index s.words (mailbox w (way w q.node to))) 3 ≡ nat_eq (slice_index words (mailbox w' (way w' q.node to))) 3
  same_probed q sp to l = ap (λ z. nat_eq z 3) (sym (box_is (way w' q.node to) ∙ ap (λ z. slice_index s.words (mailbox w z)) (same_way w w' q.node to m.count)))

  -- other parts still spell the world
  pub others_spell : (q : Part) → q.node ≢ n → Spells s.words w q → Spells words w' q
  others_spell q ne sp = record {
    inside = rw m.count sp.inside;
    state = m.apart q.node ne ∙ sp.state;
    message = same_hand w w' q.node q.state.hand m.count (λ from e. m.mail (way w from q.node)) ∙ sp.message;
    probed = λ to l. sp.probed to (rw (← m.count) l) ∙ same_probed q sp to l;
  }

  -- the own part spells the world, with its new state
  pub own_spells : (p p' : Part) → p.node ≡ n → p'.node ≡ p.node → p'.state ≡ x → p'.state.hand ≡ p.state.hand → p'.message ≡ p.message → p'.probed ≡ p.probed → Spells s.words w p → Spells words w' p'
  own_spells p p' mine node state hand message probed sp = record {
    inside = rw (m.count, node) sp.inside;
    state = ap (node_at w') (node ∙ mine) ∙ (m.here ∙ sym state);
    message = rw (node, hand, message) (same_hand w w' p.node p.state.hand m.count (λ from e. m.mail (way w from p.node)) ∙ sp.message);
    probed = λ to l. ap (λ z. has_number z to) probed ∙ (sp.probed to (rw (← m.count) l) ∙ (same_probed p sp to l ∙ ap (λ z. nat_eq (slice_index words (mailbox w' (way w' z to))) 3) (sym node)));
  }

  -- the mailboxes are shown as before
  pub mails_show : (owner : ℕ → ℕ) → Shows s w owner → (k : ℕ) → k < w'.count * w'.count → MailAt (slice_index words (mailbox w' k)) (get_elem? s.homes k) (mail_at w' k)
  mails_show owner r k l = rw (box_is k, m.mail k) (r.mail k (rw (← m.count) l))
