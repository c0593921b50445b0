-- Steps on the word of a mailbox.
use Rattle.std.specs.Prelude.{◌≡◌, ◌≢◌, ◌<◌, ◌⊎◌, ◌+◌, ◌*◌, ℕ, nat_eq, List, [], ◌∷◌, length, slice_index, Some}
use Rattle.std.specs.Int.{bit_at}
use Rattle.std.proofs.Common.{arith, ap, ◌∙◌, sym, inl, inr, set, length-set, get_or-set_same, get_or-set_other}
use Rattle.std.proofs.lemmas.Bool.Decides.{nat_tests}
use mathlib.Core.Option.{some}
use mathlib.Core.Logic.{dite}
use native.Mathlib.Decide.{ℕ_discrete}
use lib.ListN.{get_elem?}
use Rattle.ipcz_word.specs.Layout.{bits_of}
use Rattle.ipcz_node.specs.declared.act.Act.{Act}
use Rattle.ipcz_node.specs.Node.{Node}
use Rattle.ipcz_world.specs.declared.mail.Mail.{Mail}
use Rattle.ipcz_world.specs.World.{World, node_at, word_at, mail_at, way, set_node, set_mail}
use Rattle.ipcz_world.specs.Books.{Books}
use Rattle.ipcz_world.specs.Routes.{Routes, hand_of}
use Rattle.ipcz_world.specs.Lawful.{Lawful}
use Rattle.ipcz_world.specs.Ranks.{AreTurns}
use Rattle.ipcz_world.proofs.frames.Frames.{node-set_node, node-set_mail, word-set_node, word-set_mail, mail-set_node, mail-set_mail, claimed-set_node, claimed-set_mail, size-set_node, size-set_mail, count-set_node, count-set_mail}
use Rattle.ipcz_rule.specs.declared.view.View.{View}
use Rattle.ipcz_rule.specs.declared.view.Part.{Part}
use Rattle.ipcz_rule.specs.Rule.{Homes, St, has_number, inbox, mailbox, MailAt, Spells, Rules, Joined}
use Rattle.ipcz_rule.specs.Kinds.{Follows}
use Rattle.ipcz_rule.proofs.Counts.{Silent}
use Rattle.ipcz_rule.proofs.Moved.{ruled_with, spelled, keeps_sources}
use Rattle.ipcz_rule.proofs.Inboxes.{same_box_way, inboxes_stay}
use Rattle.ipcz_rule.proofs.Touches.{same_hand, same_box}

pub way_low : (c a b s t : ℕ) → s < c → a < b → (a * c + s) < b * c + t
way_low c a b s t l less = grind (arith, l, less)

pub way_first : (c a b s t : ℕ) → s < c → t < c → a ≢ b → (a * c + s) ≢ b * c + t
way_first c a b s t ls lt ne e = let one = way_low c a b s t ls in let two = way_low c b a t s lt in grind (arith, ne, e, one, two)

pub way_second : (c a b s t : ℕ) → s < c → t < c → s ≢ t → (a * c + s) ≢ b * c + t
way_second c a b s t ls lt ne e = dite (ℕ_discrete a b) (λ same. let h = ap (λ z. z * c) same in absurd (ne (omega arith))) (λ apart. way_first c a b s t ls lt apart e)

-- a node and a mailbox are others
pub record MailMoves (w w' : World) (n : ℕ) (x : Node) (k : ℕ) (new : Mail) : Type 0 where
  pub count : w'.count ≡ w.count
  pub size : w'.size ≡ w.size
  pub claimed : w'.claimed ≡ w.claimed
  pub words : (j : ℕ) → word_at w' j ≡ word_at w j
  pub node : node_at w' n ≡ x
  pub nodes : (j : ℕ) → j ≢ n → node_at w' j ≡ node_at w j
  pub mail : mail_at w' k ≡ new
  pub mails : (j : ℕ) → j ≢ k → mail_at w' j ≡ mail_at w j

pub mail_moves : (w : World) (n : ℕ) (x : Node) (k : ℕ) (mail : Mail) → MailMoves w (set_mail (set_node w n x) k mail) n x k mail
mail_moves w n x k mail = record {
  count = count-set_mail (set_node w n x) k mail ∙ count-set_node w n x;
  size = size-set_mail (set_node w n x) k mail ∙ size-set_node w n x;
  claimed = claimed-set_mail (set_node w n x) k mail ∙ claimed-set_node w n x;
  words = λ j. word-set_mail (set_node w n x) k mail j ∙ word-set_node w n x j;
  node = node-set_mail (set_node w n x) k mail n ∙ (node-set_node w n x n ∙ grind (arith, nat_tests));
  nodes = λ j ne. node-set_mail (set_node w n x) k mail j ∙ (node-set_node w n x j ∙ grind (arith, nat_tests, ne));
  mail = mail-set_mail (set_node w n x) k mail k ∙ grind (arith, nat_tests);
  mails = λ j ne. mail-set_mail (set_node w n x) k mail j ∙ (grind (arith, nat_tests, ne, mail-set_node w n x j));
}

-- the rule after a step on the word i of the mailbox k, which shows this mail now
module _ (count size : ℕ) (s : St) (r : Rules count size s) (id : ℕ) (v v' : View) (p p' : Part) (w' : World) (g' : Routes) (i k n' : ℕ) (homes : Homes) (mail : Mail)
    (at : get_elem? s.views id ≡ some v) (is : v.parts ≡ p ∷ []) (is' : v'.parts ≡ p' ∷ []) (sight : Silent s.words v v') (moves : MailMoves r.world w' p.node p'.state k mail)
    (index : i ≡ mailbox r.world k) (inside : k < r.world.count * r.world.count)
    (deep : length homes ≡ length s.homes) (homes_else : (j : ℕ) → j ≢ k → get_elem? homes j ≡ get_elem? s.homes j) (shown : MailAt n' (get_elem? homes k) mail)
    (node : p'.node ≡ p.node) (history : p'.history ≡ p.history) (books' : Books) (joined : Joined (set s.views id v') books')
    (message : hand_of w' p.node p'.state.hand ≡ p'.message)
    (probed : (to : ℕ) → to < r.world.count → has_number p'.probed to ≡ nat_eq (slice_index (set s.words i n') (mailbox r.world (way r.world p.node to))) 3)
    (hands : (q : Part) → Spells s.words r.world q → q.node ≢ p.node → (from : ℕ) → q.state.hand ≡ Some from → way r.world from q.node ≢ k)
    (threes : (q : Part) → q.node ≢ p.node → (to : ℕ) → to < r.world.count → way r.world q.node to ≡ k → nat_eq (slice_index s.words i) 3 ≡ nat_eq n' 3)
    (posts : n' ≡ 1 → (from to : ℕ) → from < r.world.count → to < r.world.count → way r.world from to ≡ k → bit_at (slice_index s.words (inbox r.world to)) from ≡ 1)
    (lawful : Lawful w' books' g') (turns : List (ℕ × Act)) (how : AreTurns r.world r.books r.routes turns w' books' g') where
  abbrev w : World
  w = r.world

  wide : i < length s.words
  wide = let e = r.shows.wide in let j = index in let l = inside in omega arith

  there : slice_index (set s.words i n') i ≡ n'
  there = get_or-set_same s.words i n' 0 wide

  else : (j : ℕ) → j ≢ i → slice_index (set s.words i n') j ≡ slice_index s.words j
  else j ne = get_or-set_other s.words i j n' 0 ne

  box_else : (j : ℕ) → j ≢ k → slice_index (set s.words i n') (mailbox w j) ≡ slice_index s.words (mailbox w j)
  box_else j ne = else (mailbox w j) (λ e. let x = index in ne (omega arith))

  three : (q : Part) → q.node ≢ p.node → (to : ℕ) → to < w.count → nat_eq (slice_index s.words (mailbox w (way w q.node to))) 3 ≡ nat_eq (slice_index (set s.words i n') (mailbox w (way w q.node to))) 3
  three q ne to l = dite (ℕ_discrete (way w q.node to) k)
      (λ same. let box : mailbox w (way w q.node to) ≡ i = ap (mailbox w) same ∙ sym index in
      ap (λ z. nat_eq (slice_index s.words z) 3) box ∙ (threes q ne to l same ∙ ap (λ z. nat_eq z 3) (sym (ap (slice_index (set s.words i n')) box ∙ there))))
      (λ apart. ap (λ z. nat_eq z 3) (sym (box_else (way w q.node to) apart)))

  others : (q : Part) → q.node ≢ p.node → Spells s.words w q → Spells (set s.words i n') w' q
  others q ne sp = record {
    inside = rw moves.count sp.inside;
    state = moves.nodes q.node ne ∙ sp.state;
    message = same_hand w w' q.node q.state.hand moves.count (λ from e. moves.mails (way w from q.node) (hands q sp ne from e)) ∙ sp.message;
    probed = λ to l. let l' : to < w.count = rw (← moves.count) l in
        sp.probed to l' ∙ (three q ne to l' ∙ ap (λ z. nat_eq (slice_index (set s.words i n') z) 3) (sym (same_box_way w w' q.node to moves.count moves.size)));
  }

  own : Spells (set s.words i n') w' p'
  own = let sp = spelled s r id v p at is in record {
    inside = rw (moves.count, node) sp.inside;
    state = ap (node_at w') node ∙ moves.node;
    message = rw node message;
    probed = λ to l. probed to (rw (← moves.count) l) ∙ ap (λ z. nat_eq (slice_index (set s.words i n') z) 3) (sym (same_box_way w w' p.node to moves.count moves.size) ∙ ap (λ z. mailbox w' (way w' z to)) (sym node));
  }

  mails_shown : (j : ℕ) → j < w'.count * w'.count → MailAt (slice_index (set s.words i n') (mailbox w' j)) (get_elem? homes j) (mail_at w' j)
  mails_shown j l = dite (ℕ_discrete j k)
      (λ same. let box : mailbox w' j ≡ i = same_box w w' j moves.count moves.size ∙ (ap (mailbox w) same ∙ sym index) in
      rw (box, there, same, moves.mail) shown)
      (λ apart. rw (same_box w w' j moves.count moves.size, box_else j apart, homes_else j apart, moves.mails j apart) (r.shows.mail j (rw (← moves.count) l)))

  posted : (from to : ℕ) → from < w.count → to < w.count → slice_index (set s.words i n') (mailbox w (way w from to)) ≡ 1 →
      (slice_index s.words (mailbox w (way w from to)) ≡ 1) ⊎ (bit_at (slice_index s.words (inbox w to)) from ≡ 1)
  posted from to lf lt is = dite (ℕ_discrete (way w from to) k)
      (λ same. inr (posts (sym there ∙ (ap (slice_index (set s.words i n')) (index ∙ ap (mailbox w) (sym same)) ∙ is)) from to lf lt same))
      (λ apart. inl (sym (box_else (way w from to) apart) ∙ is))

  pub mail_rules : Follows count size s r turns record { words = set s.words i n'; homes = homes; views = set s.views id v' }
  mail_rules = ruled_with s r w' books' g' (set s.words i n') homes id v v' p p' at is is' sight.1 (history, sight.2) (record {
    count = moves.count;
    size = moves.size;
    wide = length-set s.words i n';
    deep = deep;
    links = λ j l. let l' : j < w.size = rw (← moves.size) l in else j (λ e. let x = index in omega arith) ∙ (r.shows.links j l' ∙ ap bits_of (sym (moves.words j)));
    sources = keeps_sources w w' moves.words r.sources;
    claims = ap (slice_index (set s.words i n')) moves.size ∙ (else w.size (λ e. let x = index in omega arith) ∙ (r.shows.claims ∙ sym moves.claimed));
    grows = let same = moves.claimed in omega (arith, same);
    mail = mails_shown;
    node = node;
    own = own;
    others = others;
  }) (inboxes_stay s r w' (set s.words i n') id v' moves.count moves.size sight.0 (λ to l. else (inbox w to) (λ e. let x = index in omega (arith, x, l, e))) posted) joined lawful (AreTurns r.world r.books r.routes turns) how
