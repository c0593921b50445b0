-- The kind of step by which a bit of the own inbox is cleared. The shown world stays.
use Rattle.std.specs.Prelude.{◌≡◌, ◌≢◌, ◌<◌, ◌*◌, ℕ, bit_and, Bool, true, nat_eq, List, [], ◌∷◌, slice_index, Some, refl}
use Rattle.std.specs.Int.{bit_at}
use Rattle.std.proofs.Common.{arith, ap, ◌∙◌, sym, ⊎_elim, set}
use Rattle.std.proofs.lemmas.Bool.Decides.{nat_tests}
use mathlib.Core.Option.{some}
use lib.ListN.{get_elem?}
use Rattle.atomic_table.specs.Table.{keeps}
use Rattle.atomic_table.proofs.Lists.{at_set}
use Rattle.ipcz_node.specs.Node.{Node}
use Rattle.ipcz_world.proofs.Whole.{lists_have_lengths}
use Rattle.ipcz_world.specs.World.{World, node_at, mail_at, way}
use Rattle.ipcz_rule.specs.declared.view.View.{View}
use Rattle.ipcz_rule.specs.declared.view.Part.{Part}
use Rattle.ipcz_rule.specs.Rule.{St, inbox, mailbox, Spells, Rules, forgetting}
use Rattle.ipcz_rule.specs.Kinds.{Follows, IsKept, IsTurns, Clears}
use Rattle.ipcz_rule.proofs.Announcing.{kept_stays, boxes_stay, bit_by, inbox_rules, inbox_is}
use Rattle.ipcz_rule.proofs.FromLaws.{hand_stands, hand_sender}
use Rattle.ipcz_rule.proofs.Inboxes.{has_not}
use Rattle.ipcz_rule.proofs.KeptEnds.{turns_keep}
use Rattle.ipcz_rule.proofs.Moved.{spelled}
use Rattle.ipcz_rule.proofs.Returning.{any_home}
use Rattle.ipcz_rule.proofs.Mailing.{way_low}

-- clear: the mailbox whose message is in hand is neither full nor its sender's
module _ (count size : ℕ) (s : St) (r : Rules count size s) (id : ℕ) (v : View) (p : Part) (i from kept : ℕ)
    (at : get_elem? s.views id ≡ some v) (is : v.parts ≡ p ∷ []) (index : i ≡ inbox r.world p.node) (holds : p.state.hand ≡ Some from)
    (others : (j : ℕ) → j < 64 → j ≢ from → bit_at kept j ≡ 1) where
  abbrev w : World
  w = r.world

  abbrev n' : ℕ
  n' = bit_and (slice_index s.words i) kept

  abbrev words' : List ℕ
  words' = set s.words i n'

  sp : Spells s.words w p
  sp = spelled s r id v p at is

  hand_is : (node_at w p.node).hand ≡ Some from
  hand_is = ap (λ (y : Node). y.hand) sp.state ∙ holds

  from_in : from < w.count
  from_in = hand_sender w r.books r.routes p.node from r.lawful sp.inside hand_is

  two : slice_index s.words (mailbox w (way w from p.node)) ≡ 2
  two =
      let n_in = sp.inside in
      let f_in = from_in in
      let inside : way w from p.node < w.count * w.count = let h = way_low w.count from w.count p.node 0 n_in f_in in omega (arith, h) in
      (any_home _ (get_elem? s.homes (way w from p.node)) (get_elem? s.homes (way w from p.node)) (mail_at w (way w from p.node))
      (hand_stands w r.books r.routes p.node from r.lawful sp.inside hand_is) (r.shows.mail (way w from p.node) inside)).0

  bit : (a b : ℕ) → a < w.count → b < w.count → (slice_index s.words (mailbox w (way w a b)) ≢ 2) → bit_at (slice_index s.words (inbox w b)) a ≡ 1 → bit_at (slice_index words' (inbox w b)) a ≡ 1
  bit a b la lb other was = bit_by count size s r id v (forgetting v) p i p.node n' at is is refl refl index sp.inside a b
      (λ e. kept_stays (slice_index s.words i) kept a (ap (λ k. bit_at (slice_index s.words k) a) (index ∙ ap (inbox w) (sym e)) ∙ was)
      (others a (let few = (lists_have_lengths w r.books r.routes r.lawful).few in omega (arith, la, few))
      (λ f. other (ap (λ k. slice_index s.words (mailbox w (way w k b))) f ∙ (ap (λ k. slice_index s.words (mailbox w (way w from k))) e ∙ two)))))
      (λ ne. was)

  pub cleared_rules : Follows count size s r [] record { words = words'; homes = s.homes; views = set s.views id (forgetting v) }
  cleared_rules = inbox_rules count size s r id v (forgetting v) p i p.node n' at is is refl refl index sp.inside (record {
    full = λ a b la lb e.
        let one = sym (boxes_stay w s.words i p.node n' (way w a b) index sp.inside) ∙ e in
        bit a b la lb (λ t. absurd (omega (arith, t, one))) (r.inboxes.full a b la lb one);
    announced = λ j u k q b seat there says lb has. ⊎_elim
        (λ (t : (j ≡ id) × (forgetting v ≡ u)). absurd (has_not (forgetting v) u b refl t.1 says))
        (λ (t : (j ≢ id) × (get_elem? s.views j ≡ some u)).
        let sq = (r.shows.parts j u k q t.1 there).1 in
        let three : nat_eq (slice_index s.words (mailbox w (way w q.node b))) 3 ≡ true = sym (sq.probed b lb) ∙ has in
        bit q.node b sq.inside lb (λ e. absurd (grind (arith, nat_tests, three, e))) (r.inboxes.announced j u k q b t.1 there says lb has))
        (at_set s.views id j (forgetting v) u seat);
  })

pub clears_turns : Clears IsTurns
clears_turns count size slots id i from kept m p is at_i holds others s r deep at low =
    (forgetting m.0, keeps, tt, cleared_rules count size s r id m.0 p i from kept at is (inbox_is count size s r i p.node at_i) holds others, refl)

pub clears : (all : Bool) → Clears (IsKept all)
clears all count size slots id i from kept m p is at_i holds others s r deep at low =
    let t = clears_turns count size slots id i from kept m p is at_i holds others s r deep at low in (t.0, t.1, t.2, turns_keep all count size s _ r [] (λ e j side g. g) t.3, t.4)
