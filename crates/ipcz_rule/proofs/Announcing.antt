-- Steps on an inbox, and the kind by which a message is announced. The shown world stays.
use Rattle.std.specs.Prelude.{◌≡◌, ◌≢◌, ◌<◌, ◌+◌, ℕ, bit_and, bit_or, Bool, true, false, if◌then◌else◌, List, [], ◌∷◌, length, slice_index, Some, refl}
use Rattle.std.specs.Int.{bit_at}
use Rattle.std.proofs.Common.{arith, ap, ◌∙◌, sym, inl, subst, ⊎_elim, set, length-set, get_or-set_same, get_or-set_other, eqb, eqb-true}
use Rattle.std.proofs.lemmas.Nat.Bits.{bit_at_and, bit_at_or, bit_at-lt}
use mathlib.Core.Option.{some}
use mathlib.Core.Logic.{dite}
use native.Mathlib.Decide.{ℕ_discrete}
use lib.ListN.{get_elem?}
use Rattle.atomic_table.specs.Table.{Act as TableAct, Valid, stepped, carried_after, keeps}
use Rattle.atomic_table.proofs.Lists.{at_set}
use Rattle.ipcz_world.specs.Ranks.{AreTurns}
use Rattle.ipcz_world.specs.World.{World, mail_at, way}
use Rattle.ipcz_rule.specs.declared.view.View.{View}
use Rattle.ipcz_rule.specs.declared.view.Part.{Part}
use Rattle.ipcz_rule.specs.Rule.{Slot, St, Mine, inbox, mailbox, MailAt, Inboxes, Rules, announcing, forgetting}
use Rattle.ipcz_rule.specs.Kinds.{Follows, IsKept, IsTurns, Announces, LoadsForPost}
use Rattle.ipcz_rule.proofs.Joins.{joined_same}
use Rattle.ipcz_rule.proofs.KeptEnds.{turns_keep}
use Rattle.ipcz_rule.proofs.Moved.{ruled_with, spelled}
use Rattle.ipcz_rule.proofs.Histories.{only}
use Rattle.ipcz_rule.proofs.Touches.{others_spell, own_spells}
use Rattle.ipcz_rule.proofs.Wording.{same_moves, sees}

-- a bit that is set stays if others are set, and if it is kept
pub set_stays : (n m i : ℕ) → bit_at n i ≡ 1 → bit_at (bit_or n m) i ≡ 1
set_stays n m i is = omega (arith, bit_at_or n m i, bit_at-lt m i, is)

pub set_new : (n m i : ℕ) → bit_at m i ≡ 1 → bit_at (bit_or n m) i ≡ 1
set_new n m i is = omega (arith, bit_at_or n m i, bit_at-lt n i, is)

pub kept_stays : (n m i : ℕ) → bit_at n i ≡ 1 → bit_at m i ≡ 1 → bit_at (bit_and n m) i ≡ 1
kept_stays n m i is kept = omega (arith, bit_at_and n m i, is, kept)

-- a step on an inbox leaves the mailboxes
pub boxes_stay : (w : World) (words : List ℕ) (i to n' k : ℕ) → i ≡ inbox w to → to < w.count → slice_index (set words i n') (mailbox w k) ≡ slice_index words (mailbox w k)
boxes_stay w words i to n' k index inside = get_or-set_other words i (mailbox w k) n' 0 (λ e. omega (arith, e, index, inside))

-- a step on an inbox that leaves n' there
module _ (count size : ℕ) (s : St) (r : Rules count size s) (id : ℕ) (v v' : View) (p : Part) (i to n' : ℕ)
    (at : get_elem? s.views id ≡ some v) (is : v.parts ≡ p ∷ []) (is' : v'.parts ≡ p ∷ []) (seen : v'.seen ≡ v.seen) (caller : v'.caller ≡ v.caller) (index : i ≡ inbox r.world to) (inside : to < r.world.count) where
  abbrev w : World
  w = r.world

  wide : i < length s.words
  wide = let e = r.shows.wide in let j = index in let l = inside in omega arith

  there : slice_index (set s.words i n') i ≡ n'
  there = get_or-set_same s.words i n' 0 wide

  apart : (j : ℕ) → j ≢ i → slice_index (set s.words i n') j ≡ slice_index s.words j
  apart j ne = get_or-set_other s.words i j n' 0 ne

  boxes : (k : ℕ) → slice_index (set s.words i n') (mailbox w k) ≡ slice_index s.words (mailbox w k)
  boxes k = boxes_stay w s.words i to n' k index inside

  -- what is known of a bit there holds of each inbox, since the others stay
  pub bit_by : (a b : ℕ) → (b ≡ to → bit_at n' a ≡ 1) → (b ≢ to → bit_at (slice_index s.words (inbox w b)) a ≡ 1) → bit_at (slice_index (set s.words i n') (inbox w b)) a ≡ 1
  bit_by a b here beside = dite (ℕ_discrete b to)
      (λ e. ap (λ k. bit_at (slice_index (set s.words i n') k) a) (ap (inbox w) e ∙ sym index) ∙ (ap (λ n. bit_at n a) there ∙ here e))
      (λ ne. ap (λ n. bit_at n a) (apart (inbox w b) (λ e. let j = index in ne (omega (arith, e, j)))) ∙ beside ne)

  pub inbox_rules : Inboxes (set s.words i n') (set s.views id v') w → Follows count size s r [] record { words = set s.words i n'; homes = s.homes; views = set s.views id v' }
  inbox_rules inboxes =
      let sp = spelled s r id v p at is in
      let moves = same_moves w p.node p.state sp.state in
      ruled_with s r w r.books r.routes (set s.words i n') s.homes id v v' p p at is is' (inl seen) (refl, caller) (record {
        count = refl;
        size = refl;
        wide = length-set s.words i n';
        deep = refl;
        links = λ j l. apart j (λ e. let x = index in omega (arith, x, l, e)) ∙ r.shows.links j l;
        sources = r.sources;
        claims = apart w.size (λ e. let x = index in omega (arith, x, e)) ∙ r.shows.claims;
        grows = omega arith;
        mail = λ k l. subst (λ (z : ℕ). MailAt z (get_elem? s.homes k) (mail_at w k)) (sym (boxes k)) (r.shows.mail k l);
        node = refl;
        own = own_spells s w w (set s.words i n') p.node p.state moves boxes p p refl refl refl refl refl refl sp;
        others = others_spell s w w (set s.words i n') p.node p.state moves boxes;
      }) inboxes (joined_same s.views id v v' p p r.books at is is' refl refl refl r.joined) r.lawful (AreTurns w r.books r.routes []) (refl, refl, refl)

-- the rule after a step that leaves an inbox with all bits that it had, and the bit of the own node: the seat has announced a message
module _ (count size : ℕ) (s : St) (r : Rules count size s) (id : ℕ) (v : View) (p : Part) (i to n' : ℕ)
    (at : get_elem? s.views id ≡ some v) (is : v.parts ≡ p ∷ []) (index : i ≡ inbox r.world to) (inside : to < r.world.count)
    (own : bit_at n' p.node ≡ 1) (all : (j : ℕ) → bit_at (slice_index s.words i) j ≡ 1 → bit_at n' j ≡ 1) where
  abbrev words' : List ℕ
  words' = set s.words i n'

  bit : (a b : ℕ) → bit_at (slice_index s.words (inbox r.world b)) a ≡ 1 → bit_at (slice_index words' (inbox r.world b)) a ≡ 1
  bit a b was = bit_by count size s r id v (announcing to v) p i to n' at is is refl refl index inside a b
      (λ e. all a (ap (λ k. bit_at (slice_index s.words k) a) (index ∙ ap (inbox r.world) (sym e)) ∙ was)) (λ ne. was)

  pub announced_rules : Follows count size s r [] record { words = words'; homes = s.homes; views = set s.views id (announcing to v) }
  announced_rules = inbox_rules count size s r id v (announcing to v) p i to n' at is is refl refl index inside (record {
    full = λ from b lf lb e. bit from b (r.inboxes.full from b lf lb (sym (boxes_stay r.world s.words i to n' (way r.world from b) index inside) ∙ e));
    announced = λ j u k q b seat there says lb has. ⊎_elim
        (λ (t : (j ≡ id) × (announcing to v ≡ u)).
        let same : p ≡ q = only u.parts p q k (sym (ap (λ (z : View). z.parts) t.1) ∙ is) there in
        let goal : to ≡ b = some_is to b (ap (λ (z : View). z.announced) t.1 ∙ says) in
        subst (λ (z : Part). bit_at (slice_index words' (inbox r.world b)) z.node ≡ 1) same
        (bit_by count size s r id v (announcing to v) p i to n' at is is refl refl index inside p.node b (λ e. own) (λ ne. absurd (ne (sym goal)))))
        (λ (t : (j ≢ id) × (get_elem? s.views j ≡ some u)). bit q.node b (r.inboxes.announced j u k q b t.1 there says lb has))
        (at_set s.views id j (announcing to v) u seat);
  })
    where
      some_is : (a b : ℕ) → Some a ≡ Some b → a ≡ b
      some_is a b e = cc

-- the inbox of a node of the table
pub inbox_is : (count size : ℕ) (s : St) (r : Rules count size s) (i to : ℕ) → i ≡ size + 1 + to → i ≡ inbox r.world to
inbox_is count size s r i to e = let z = r.words in omega (arith, e, z)

pub announces_turns : Announces IsTurns
announces_turns count size slots id i to bits m p is at_i small_to own s r deep at low = (
  announcing to m.0,
  keeps,
  tt,
  announced_rules count size s r id m.0 p i to (bit_or (slice_index s.words i) bits) at is (inbox_is count size s r i to at_i) (let c = r.nodes in omega (arith, c, small_to))
      (set_new (slice_index s.words i) bits p.node own) (λ j was. set_stays (slice_index s.words i) bits j was),
  refl,
)

pub announces : (all : Bool) → Announces (IsKept all)
announces all count size slots id i to bits m p is at_i small_to own s r deep at low =
    let t = announces_turns count size slots id i to bits m p is at_i small_to own s r deep at low in (t.0, t.1, t.2, turns_keep all count size s _ r [] (λ e j side g. g) t.3, t.4)

-- a load that finds the bit set says the same as setting it
module _ (count size id i to : ℕ) (m : Mine) (p : Part) (is : m.0.parts ≡ p ∷ []) (at_i : i ≡ size + 1 + to) (small_to : to < count)
    (s : St) (r : Rules count size s) (at : get_elem? s.views id ≡ some m.0) where
  abbrev n : ℕ
  n = slice_index s.words i

  abbrev Told : Bool → Mine → Type 0
  Told b m' = m' ≡ (if b then announcing to m.0 else forgetting m.0, m.1)

  abbrev F : Bool → Type 0
  F b = (v : View) × (a : TableAct Slot) × Valid s.homes m.1 a × Follows count size s r [] (stepped s i n id m.1 v a) × Told b (v, carried_after m.1 a)

  loads_by : (b : Bool) → eqb (bit_at n p.node) 1 ≡ b → F b
  loads_by true e =
      (announcing to m.0, keeps, tt, announced_rules count size s r id m.0 p i to n at is (inbox_is count size s r i to at_i) (let c = r.nodes in omega (arith, c, small_to)) (eqb-true (bit_at n p.node) 1 e) (λ j was. was), refl)
  loads_by false e = (forgetting m.0, keeps, tt, sees s r i id m.0 (forgetting m.0) p at is is (refl, inl refl, refl), refl)

  pub loaded_for_post : F (eqb (bit_at n p.node) 1)
  loaded_for_post = loads_by (eqb (bit_at n p.node) 1) refl

pub loads_for_post_turns : LoadsForPost IsTurns
loads_for_post_turns count size slots id i to m p is at_i small_to s r deep at low = loaded_for_post count size id i to m p is at_i small_to s r at

pub loads_for_post : (all : Bool) → LoadsForPost (IsKept all)
loads_for_post all count size slots id i to m p is at_i small_to s r deep at low =
    let t = loads_for_post_turns count size slots id i to m p is at_i small_to s r deep at low in (t.0, t.1, t.2, turns_keep all count size s _ r [] (λ e j side g. g) t.3, t.4)
