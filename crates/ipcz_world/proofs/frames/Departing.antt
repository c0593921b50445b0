-- A router leaves with its primary links, empty: what is said of all but books, retired ends and Gone is kept, with the records after it.
use Rattle.ipcz_world.proofs.frames.NearInv.{links-near, positions-near}
use Rattle.ipcz_world.proofs.frames.NearInv.{NearInv}
use Rattle.ipcz_world.proofs.Vocabulary.{side_node, next_sent, side_length, has_passed, Side, A, B, LinkId, Central, Peripheral, LinkEnd, Descriptor}
use Rattle.ipcz_world.proofs.Vocabulary.{Item, opposite, opposite_end, has, Router, is_terminal, inward_edge, World, Key, same_key, router_at}
use Rattle.ipcz_world.proofs.Vocabulary.{word_at, Books, read, Records, Spare, is_linked, is_begun, is_recorded, inner_link, bypass_of, side_router}
use Rattle.ipcz_world.proofs.Vocabulary.{side_end, proxy_side, across_side, Weight, in_router, at_end, IsUnderWay, view, key_passes, has_primary}
use Rattle.ipcz_world.proofs.Vocabulary.{is_attached, is_outward, IsRecorded, Stands, Words, Spares, Stages, inner_of, Conserved, Edge, Standing}
use Rattle.ipcz_world.proofs.Vocabulary.{view_by, is_retired, length_by, RetiredEnds, Gones, decays, IsItemUnderWay, is_left, is_lost_owner, Lost}
use Rattle.ipcz_world.proofs.Vocabulary.{spare_of, has_inward_primary, is_begun_router}
use Rattle.std.proofs.lemmas.Bool.{or_left}
use Rattle.ipcz_world.proofs.facts.LinkTests.{has_link-is}
use Rattle.ipcz_world.proofs.facts.Lengths.{opposite-twice, view-standing, has_passed-none}
use Rattle.ipcz_world.proofs.frames.Draining.{next_sent-standing}
use Rattle.ipcz_world.proofs.frames.GivingUp.{counts-gives, ordered-gives, shape-gives, roles-gives}
use Rattle.ipcz_world.proofs.frames.GivenUp.{end_places-gives, books-gives, items-gives, order-gives, proxy_numbers-gives, fresh_numbers-gives}
use Rattle.ipcz_world.proofs.frames.GivenUp.{conserved-gives, held_once-gives}
use Rattle.ipcz_world.proofs.frames.GonesKept.{IsGoneRight, right-of, gones-all}
use Rattle.ipcz_world.proofs.frames.SameMessages.{bypasses-same, controls-same, moves-same}
use Rattle.ipcz_world.proofs.frames.LeftSides.{not_left}
use Rattle.std.specs.Prelude.{◌≡◌, ◌≢◌, ◌⊎◌, ◌≤◌, ◌<◌, ◌&&◌, ◌||◌, ℕ, Bool, true, false, cond, Option, Some, None, is_some, List, length}
use Rattle.std.specs.Prelude.{drop, refl}
use Rattle.std.proofs.Common.{arith, sym, ◌∙◌, ap, subst, inl, inr}
use Rattle.std.proofs.lemmas.Bool.Decides.{nat_tests}
use Rattle.std.proofs.lemmas.Option.{none-some}
use Rattle.ipcz_world.proofs.frames.OfRecords.{source}
use Rattle.std.proofs.lemmas.Bool.{and_parts}
use Rattle.ipcz_base.specs.declared.message.Message.TheVariants as messages
use Rattle.ipcz_word.specs.Word.{Word}
use Rattle.ipcz_world.specs.Records.{Opening, Fresh}
use Rattle.ipcz_world.specs.Standing.{taking_queue}
use Rattle.ipcz_world.proofs.facts.Lengths.{HasEnd, has_link-tells}
use Rattle.ipcz_world.proofs.facts.Tests.{not_both}
use Rattle.ipcz_world.proofs.frames.Frames.{same_key_tells, same_key-itself}
use Rattle.ipcz_world.proofs.frames.StandingRules.{standing_rules}
use Rattle.ipcz_world.proofs.frames.Touching.{either}
use Rattle.ipcz_world.proofs.frames.GivingUp.{Gives, Keeps, was_same, WasSame, passes-still, same-messages}
use Rattle.ipcz_world.proofs.frames.GivenUp.{Settled}
use Rattle.ipcz_world.proofs.frames.SameMessages.{recorded-same}
use Rattle.ipcz_world.proofs.frames.LeftRecords.{off_of, off-primary, off-inward, off-back, off-owner, off-lost, off-back_owner, is_off, off-owners}
use Rattle.ipcz_world.proofs.frames.LeftRecords.{off-same, off-is}
use Rattle.ipcz_world.proofs.frames.Sourcing.{sourced-by}
use Rattle.ipcz_world.proofs.frames.Booking.{from_number-range, length-drop}
use Rattle.ipcz_world.proofs.frames.Weighing.{in_places-has, in_message-item, of_number}
use Rattle.ipcz_world.proofs.facts.LinkTests.{same_end-itself}
use Rattle.ipcz_world.proofs.frames.Known.{edge_has-tells, attached_recorded}
use Rattle.ipcz_world.proofs.frames.Aside as off
use Rattle.ipcz_world.specs.Routes.{source as source'}
use Rattle.ipcz_world.specs.Standing.{fed_queue, sending_queue}
use Rattle.ipcz_world.proofs.frames.Draining.{taking_queue-standing}
use Rattle.ipcz_world.proofs.facts.LinkTests.{inward_link}

-- an item under way has a number that isn't read, of what its end put
pub way_numbers : (w : World) (b : Books) (g : Records) (from to i : ℕ) (link : LinkId) (s : Side) (n : ℕ) (item : Item)
    (moves : List Descriptor) → Conserved w b g → IsUnderWay w from to i (messages.Item link s n item moves) →
    (read b (opposite_end (source g link s)) ≤ n) × (n < length (b.put (source g link s)))
way_numbers w b g from to i link s n item moves law u =
    let e = source g link s in let f : Weight = at_end e (of_number n) in
    let one : f e n item ≡ 1 = grind (arith, same_end-itself e, nat_tests) in
    let has = in_places-has f g w from to i (messages.Item link s n item moves) u in
    let range = from_number-range n (read b (opposite_end e)) (drop (read b (opposite_end e)) (b.put e))
    (omega (arith, has, in_message-item f g link s n item moves, one, law.exact e (of_number n))) in
    (range.0, omega (arith, range.1, length-drop (read b (opposite_end e)) (b.put e) (law.read_put e)))

-- a router that leaves: no edge decays, no bypass of its pair has messages under way, its queues are empty, nothing comes any more, and the
-- word of its link is locked for good
pub record IsLeaver (w : World) (b : Books) (g : Records) (k : Key) (r : Router) : Type 0 where
  pub here : router_at w k ≡ Some r
  pub still : decays r ≡ false
  pub begun : is_begun_router r ≡ false
  pub unbypassed : (o : ℕ) → 1 ≤ (g.bypass o).stage → (g.bypass o).stage ≤ 4 → (g.central o).pair ≢ r.end.pair
  pub empty : (f : Weight) → in_router f r ≡ 0
  pub in_all : length (b.put (opposite_end r.end)) ≤ r.in_queue.current
  pub out_all : is_terminal r ≡ false → length (b.put r.end) ≤ read b (opposite_end r.end)
  pub locked : (i : ℕ) (e : LinkEnd) → r.outward.primary ≡ Some e → e.link ≡ Central i →
      (has (word_at w i).holder e.side ≡ true) ⊎ ((s : Side) × (is_left g (Central i) s ≡ true))

source_outward : (g : Records) (l : LinkId) (s : Side) → is_outward l s ≡ true → source g l s ≡ opposite_end (side_end g l s)
unfolding source' side_end is_outward
source_outward g (Central i) s o = refl
source_outward g (Peripheral n x) A o = cc
source_outward g (Peripheral n x) B o = refl

source_inward : (g : Records) (l : LinkId) (s : Side) → is_outward l s ≡ false → source g l s ≡ side_end g l s
unfolding source' side_end is_outward
source_inward g (Central i) s o = cc
source_inward g (Peripheral n x) A o = refl
source_inward g (Peripheral n x) B o = cc

fed_outward : (l : LinkId) (s : Side) (r : Router) → is_outward l s ≡ true → fed_queue l s r ≡ r.in_queue
unfolding fed_queue is_outward
fed_outward (Central i) s r o = refl
fed_outward (Peripheral n x) A r o = cc
fed_outward (Peripheral n x) B r o = refl

-- two routers across an inner link aren't both outward of it, nor both inward
out_apart : (n x : ℕ) (s : Side) → is_outward (Peripheral n x) s ≡ true → is_outward (Peripheral n x) (opposite s) ≡ true → ⊥
unfolding is_outward
out_apart n x A a d = cc
out_apart n x B a d = cc

not_inward : (i : ℕ) (s : Side) → is_outward (Central i) s ≡ false → ⊥
unfolding is_outward
not_inward i s a = cc

both_inward : (l : LinkId) (s : Side) (m : LinkId) (t : Side) → l ≡ m → opposite s ≡ t → is_outward l s ≡ false → is_outward m t ≡ false → ⊥
unfolding is_outward
both_inward l s m t e f a d = go l s a (ap (λ z. is_outward z (opposite s)) e ∙ ap (is_outward m) f ∙ d)
  where
    go : (l : LinkId) (s : Side) → is_outward l s ≡ false → is_outward l (opposite s) ≡ false → ⊥
    go (Central i) s a d = cc
    go (Peripheral n x) A a d = cc
    go (Peripheral n x) B a d = cc

around : (g : Records) (l : LinkId) (s : Side) → is_outward l s ≡ false → side_end g l (opposite s) ≡ side_end g l s
unfolding is_outward side_end
around g (Central i) s h = cc
around g (Peripheral n x) s h = refl

module _ {w v : World} {b : Books} {g : Records} {k : Key} {r : Router} (law : NearInv w b g) (is : IsLeaver w b g k r) (c : Gives w v k r None)
    (keeps : Keeps w v r None) where
  abbrev left_records : Records
  left_records = off_of g r

  -- the records after it, field by field
  abbrev pub h : Records
  h = off.aside g left_records.owner (off.central_left left_records) (off.peripheral_left left_records) g.terminal

  pub h_is : left_records ≡ h
  h_is = off-is g left_records (off-same g r)

  pub is_off_here : off.IsAside g left_records.owner (off.central_left left_records) (off.peripheral_left left_records) g.terminal
  is_off_here = is_off g r k (λ i s. law.spares.spare k r i is.here s)

  keeps_owners : off.KeepsOwners g left_records.owner
  keeps_owners = off-owners g r k (λ i s. law.spares.spare k r i is.here s)

  linked : (i : ℕ) → is_linked (h.owner i) ≡ true → is_linked (g.owner i) ≡ true
  linked i e = sym (is_off_here.linked i) ∙ e

  recorded : (l : LinkId) → is_recorded w h l ≡ is_recorded w g l
  recorded l = off.recorded-aside is_off_here w l

  pub left_more : (l : LinkId) (s : Side) → is_left g l s ≡ true → is_left h l s ≡ true
  left_more = is_off_here.more

  pub unleft : (l : LinkId) (s : Side) → is_left h l s ≡ false → is_left g l s ≡ false
  unleft l s n = go (is_left g l s) refl
    where
      go : (a : Bool) → is_left g l s ≡ a → a ≡ false
      go false e = refl
      go true e = absurd (not_both (is_left h l s) (left_more l s e) n)

  pub left_primary : (e : LinkEnd) → r.outward.primary ≡ Some e → is_left h e.link e.side ≡ true
  left_primary e p = ap (λ x. is_left x e.link e.side) (sym h_is) ∙ off-primary g r e p

  pub left_inward : (e : LinkEnd) → (inward_edge r).primary ≡ Some e → is_left h e.link e.side ≡ true
  left_inward e p = ap (λ x. is_left x e.link e.side) (sym h_is) ∙ off-inward g r e p

  pub left_back : (l : LinkId) (s : Side) → is_left h l s ≡ true → (is_left g l s ≡ true) ⊎
      (((e : LinkEnd) × (r.outward.primary ≡ Some e) × (l ≡ e.link) × (s ≡ e.side)) ⊎
      ((e : LinkEnd) × ((inward_edge r).primary ≡ Some e) × (l ≡ e.link) × (s ≡ e.side)))
  left_back l s e = off-back g r l s (ap (λ x. is_left x l s) h_is ∙ e)

  no_decaying : r.outward.decaying ≡ None
  no_decaying = go r.outward.decaying refl
    where
      go : (o : Option LinkEnd) → r.outward.decaying ≡ o → r.outward.decaying ≡ None
      go None e = e
      go (Some x) e = absurd (grind (arith, is.still, e))

  no_inward_decaying : (inward_edge r).decaying ≡ None
  no_inward_decaying = go (inward_edge r).decaying refl
    where
      go : (o : Option LinkEnd) → (inward_edge r).decaying ≡ o → (inward_edge r).decaying ≡ None
      go None e = e
      go (Some x) e = absurd (grind (arith, is.still, e))

  -- a link of the router is a primary one
  pub central_at : (o : ℕ) (s : Side) → is_attached (Central o) s r ≡ true → HasEnd r.outward.primary (Central o) s
  unfolding is_attached
  central_at o s a = elim (edge_has-tells r.outward (Central o) s a) [
    | inl e ↦ record { end = e.end; there = e.is; on_link = e.link_is; at_side = e.side_is }
    | inr e ↦ absurd (none-some e.end (sym no_decaying ∙ e.is))
  ]

  pub inner_at : (p : Key) → is_attached (inner_link p) B r ≡ true → HasEnd r.outward.primary (inner_link p) B
  unfolding is_attached
  inner_at p a = elim (edge_has-tells r.outward (inner_link p) B a) [
    | inl e ↦ record { end = e.end; there = e.is; on_link = e.link_is; at_side = e.side_is }
    | inr e ↦ absurd (none-some e.end (sym no_decaying ∙ e.is))
  ]

  proxy_at : (p : Key) → is_attached (inner_link p) A r ≡ true → HasEnd (inward_edge r).primary (inner_link p) A
  unfolding is_attached
  proxy_at p a = elim (edge_has-tells (inward_edge r) (inner_link p) A a) [
    | inl e ↦ record { end = e.end; there = e.is; on_link = e.link_is; at_side = e.side_is }
    | inr e ↦ absurd (none-some e.end (sym no_inward_decaying ∙ e.is))
  ]

  known : (l : LinkId) (s : Side) → is_attached l s r ≡ true → is_left h l s ≡ true
  known (Central o) s a = let e = central_at o s a in
      subst (λ l. is_left h l s ≡ true) e.on_link (subst (λ s. is_left h e.end.link s ≡ true) e.at_side (left_primary e.end e.there))
  known (Peripheral n x) A a = let e = proxy_at (record { node = n; serial = x }) a in
      subst (λ l. is_left h l A ≡ true) e.on_link (subst (λ s. is_left h e.end.link s ≡ true) e.at_side (left_inward e.end e.there))
  known (Peripheral n x) B a = let e = inner_at (record { node = n; serial = x }) a in
      subst (λ l. is_left h l B ≡ true) e.on_link (subst (λ s. is_left h e.end.link s ≡ true) e.at_side (left_primary e.end e.there))

  -- the pair of a central link, and of an inner one
  central_pair : (o : ℕ) (s : Side) → HasEnd r.outward.primary (Central o) s → (g.central o).pair ≡ r.end.pair
  unfolding side_end
  central_pair o s e = let rec : IsRecorded w g k r e.end = ((links-near law) k r is.here).primary e.end e.there in
      sym (ap (λ z. z.pair) rec.end ∙ ap (λ l. (side_end g l e.end.side).pair) e.on_link)

  inner_pair : (p : Key) → HasEnd r.outward.primary (inner_link p) B → (g.peripheral p).end.pair ≡ r.end.pair
  unfolding side_end
  inner_pair p e = let rec : IsRecorded w g k r e.end = ((links-near law) k r is.here).primary e.end e.there in
      sym (ap (λ z. z.pair) rec.end ∙ ap (λ l. (side_end g l e.end.side).pair) e.on_link)

  pub settled : Settled w v h k r None
  unfolding side_router view_by is_outward
  settled = record {
    own_old = λ o p a d t. absurd (none-some _ (sym no_decaying ∙ (has_link-tells r.outward.decaying (Central o) (proxy_side g o) t).there));
    own_inner = λ o p a d t. absurd (none-some _ (sym no_inward_decaying ∙ (has_link-tells (inward_edge r).decaying (inner_of g o) A t).there));
    inner = λ o e a d t. absurd (none-some _ (sym no_decaying ∙ (has_link-tells r.outward.decaying (inner_of g o) B t).there));
    known = λ l s up. right (is_some _) (is_left h l s) (known l s up.had);
    nothing = λ from to i l s n item moves u up. nothing from to i l s n item moves u up.before up.had;
    across_gone = λ o q at a up. let e = central_at o (across_side g o) up.had in
        let low = ((positions-near law).each k r is.here).primary_old e.end o e.there e.on_link (begun_by o a) in absurd (omega (arith, low, a));
    inner_gone = λ o q at a up. let e = inner_at (g.bypass o).inner up.had in
        let low = ((positions-near law).each k r is.here).primary_inner e.end (g.bypass o).inner o e.there e.on_link
        ((law.bypasses o).inner_by (begun_by o (omega (arith, a)))) in absurd (omega (arith, low, a));
    out_finished = λ o y p a f. absurd (none-some y f);
    in_finished = λ o y p a f. absurd (none-some y f);
  }
    where
      right : (a c : Bool) → c ≡ true → (a || c) ≡ true
      right true c f = refl
      right false c f = f

      begun_by : (o : ℕ) → 3 ≤ (g.bypass o).stage → is_begun (g.bypass o) ≡ true
      begun_by o a = grind (arith, a, nat_tests)

      nothing : (from to i : ℕ) (l : LinkId) (s : Side) (n : ℕ) (item : Item) (moves : List Descriptor) →
          IsItemUnderWay w from to i l s n item moves → view w h l s ≡ Standing r → is_attached l s r ≡ true → ⊥
      nothing from to i l s n item moves u at on = go (is_outward l s) refl
        where
          range : (read b (opposite_end (source g l s)) ≤ n) × (n < length (b.put (source g l s)))
          range = way_numbers w b g from to i l s n item moves law.conserved u

          rec : (e : LinkEnd) × (e.link ≡ l) × (e.side ≡ s) × IsRecorded w g k r e
          rec = attached_recorded w g k r l s (links-near law) is.here on

          end : r.end ≡ side_end g l s
          end = rec.3.end ∙ ap (λ x. side_end g x rec.0.side) rec.1 ∙ ap (side_end g l) rec.2

          inner : (l : LinkId) (s : Side) → is_outward l s ≡ false → is_attached l s r ≡ true → is_terminal r ≡ false
          inner (Central i) s o a = cc
          inner (Peripheral n x) B o a = cc
          inner (Peripheral n x) A o a = lone r.inward refl
            where
              e : HasEnd (inward_edge r).primary (inner_link (record { node = n; serial = x })) A
              e = proxy_at (record { node = n; serial = x }) a

              lone : (z : Option Edge) → r.inward ≡ z → is_terminal r ≡ false
              lone None f = absurd (grind (arith, f, e.there))
              lone (Some z) f = grind (arith, f)

          go : (o : Bool) → is_outward l s ≡ o → ⊥
          go true o =
              let most : n < length (b.put (opposite_end r.end)) =
              subst (λ d. n < length (b.put d)) (source_outward g l s o ∙ ap opposite_end (sym end)) range.1 in
              let low : r.in_queue.current ≤ n = (off.items-aside is_off_here w law.items).not_passed from to i l s n item moves r.in_queue u
              (ap (taking_queue l s) at ∙ taking_queue-standing l s r ∙ ap Some (fed_outward l s r o)) in
              omega (arith, most, low, is.in_all)
          go false o =
              let most : n < length (b.put r.end) = subst (λ d. n < length (b.put d)) (source_inward g l s o ∙ sym end) range.1 in
              let low : read b (opposite_end r.end) ≤ n =
              subst (λ d. read b (opposite_end d) ≤ n) (source_inward g l s o ∙ sym end) range.0 in
              omega (arith, most, low, is.out_all (inner l s o on))

  -- who passed a test of its primary link, at a side that isn't left, is another
  passes_on : (o : Option Key) (l : LinkId) (s : Side) (test : Router → Bool) → is_left h l s ≡ false →
      (test r ≡ true → is_left h l s ≡ true) → key_passes w o test ≡ true → key_passes v o test ≡ true
  passes_on o l s test n had t = passes-still c test o t (λ e at. absurd (not_both (is_left h l s) (had at) n))

  had_primary : (l : LinkId) (s : Side) → has_primary l s r ≡ true → is_left h l s ≡ true
  had_primary l s t = let e = has_link-tells r.outward.primary l s t in
      subst (λ l. is_left h l s ≡ true) e.on_link (subst (λ s. is_left h e.end.link s ≡ true) e.at_side (left_primary e.end e.there))

  had_inward : (l : LinkId) (s : Side) → has_inward_primary l s r ≡ true → is_left h l s ≡ true
  had_inward l s t = let e = has_link-tells (inward_edge r).primary l s t in
      subst (λ l. is_left h l s ≡ true) e.on_link (subst (λ s. is_left h e.end.link s ≡ true) e.at_side (left_inward e.end e.there))

  gone : key_passes v (Some k) (λ z. true) ≡ false
  gone = grind (arith, standing_rules, c.one.routers k, same_key-itself k)

  nobody : (o : Option Key) → key_passes w o (λ z. true) ≡ false → key_passes v o (λ z. true) ≡ false
  nobody None e = grind (arith, standing_rules)
  nobody (Some q) e = go (same_key_tells q k)
    where
      go : ((same_key q k ≡ true) × (q ≡ k)) ⊎ ((same_key q k ≡ false) × (q ≢ k)) → key_passes v (Some q) (λ z. true) ≡ false
      go (inl f) = absurd (grind (arith, standing_rules, e, f.1, is.here))
      go (inr f) = grind (arith, standing_rules, e, c.one.routers q, f.0)

  recorded-v : (l : LinkId) → is_recorded v h l ≡ is_recorded w g l
  recorded-v l = recorded-same w v h l (same-messages c.one) ∙ recorded l

  pub stands-departed : Stands v h
  unfolding side_router bypass_of side_end
  stands-departed = record {
    central = λ i s q a d n e. passes_on (Some q) (Central i) s (has_primary (Central i) s) n (had_primary (Central i) s)
        (law.stands.central i s q (linked i a) d (unleft (Central i) s n) e);
    awaited = λ i s a. law.stands.awaited i s (linked i a);
    awaited_stage = λ i s o a. law.stands.awaited_stage i s o (linked i a);
    awaited_side = λ i s o a. law.stands.awaited_side i s o (linked i a);
    proxy = λ p a d n. passes_on (side_router g (inner_link p) A) (inner_link p) A (has_inward_primary (inner_link p) A) n
        (had_inward (inner_link p) A) (law.stands.proxy p (sym (recorded-v (inner_link p)) ∙ a) d (unleft (inner_link p) A n));
    inner = λ p q a d n e. passes_on (Some q) (inner_link p) B (has_primary (inner_link p) B) n (had_primary (inner_link p) B)
        (law.stands.inner p q (sym (recorded-v (inner_link p)) ∙ a) d (unleft (inner_link p) B n) e);
    by_begun = law.stands.by_begun;
    by_inner = law.stands.by_inner;
    left_recorded = λ l s e. recorded-v l ∙ elim (left_back l s e) [
      | inl a ↦ law.stands.left_recorded l s a
      | inr (inl a) ↦ ap (is_recorded w g) a.2 ∙ (((links-near law) k r is.here).primary a.0 a.1).recorded
      | inr (inr a) ↦ ap (is_recorded w g) a.2 ∙ (((links-near law) k r is.here).inward_primary a.0 a.1).recorded
    ];
    left_known = λ l s e. elim (left_back l s e) [
      | inl a ↦ law.stands.left_known l s a
      | inr (inl a) ↦ ap is_some (at l s a.0 a.2 a.3 (((links-near law) k r is.here).primary a.0 a.1))
      | inr (inr a) ↦ ap is_some (at l s a.0 a.2 a.3 (((links-near law) k r is.here).inward_primary a.0 a.1))
    ];
    left_gone = λ l s e. elim (left_back l s e) [
      | inl a ↦ nobody (side_router g l s) (law.stands.left_gone l s a)
      | inr (inl a) ↦ ap (λ o. key_passes v o (λ z. true)) (at l s a.0 a.2 a.3 (((links-near law) k r is.here).primary a.0 a.1)) ∙ gone
      | inr (inr a) ↦ ap (λ o. key_passes v o (λ z. true)) (at l s a.0 a.2 a.3 (((links-near law) k r is.here).inward_primary a.0 a.1)) ∙ gone
    ];
    left_live = λ l s e. elim (left_back l s e) [
      | inl a ↦ law.stands.left_live l s a
      | inr (inl a) ↦ ap (bypass_of g) a.2 ∙ live a.0 a.1 (bypass_of g a.0.link) refl
      | inr (inr a) ↦ ap (bypass_of g) a.2 ∙ ((positions-near law).each k r is.here).inward_primary a.0 a.1
    ];
  }
    where
      at : (l : LinkId) (s : Side) (e : LinkEnd) → l ≡ e.link → s ≡ e.side → IsRecorded w g k r e → side_router g l s ≡ Some k
      at l s e f t rec = ap (λ l. side_router g l s) f ∙ ap (side_router g e.link) t ∙ rec.router

      -- no bypass takes the primary link away
      live : (e : LinkEnd) → r.outward.primary ≡ Some e → (o : Option ℕ) → bypass_of g e.link ≡ o → bypass_of g e.link ≡ None
      live e p None f = f
      live e p (Some o) f = absurd (taken e.link refl (bypass_of g e.link) f)
        where
          taken : (l : LinkId) → e.link ≡ l → (z : Option ℕ) → bypass_of g e.link ≡ Some o → ⊥
          taken (Central i) l z f =
              let here : HasEnd r.outward.primary (Central i) e.side = record { end = e; there = p; on_link = l; at_side = refl } in
              let begun : is_begun (g.bypass i) ≡ true = begun_of i (sym (ap (bypass_of g) l) ∙ f) in
              let low = ((positions-near law).each k r is.here).primary_old e i p l begun in
              is.unbypassed i (grind (arith, begun, nat_tests)) (omega (arith, low)) (central_pair i e.side here)
            where
              begun_of : (i : ℕ) → bypass_of g (Central i) ≡ Some o → is_begun (g.bypass i) ≡ true
              begun_of i h = go (is_begun (g.bypass i)) refl
                where
                  go : (c : Bool) → is_begun (g.bypass i) ≡ c → is_begun (g.bypass i) ≡ true
                  go true e = e
                  go false e = absurd (grind (arith, h, e))
          taken (Peripheral n x) l z f =
              let q : Key = record { node = n; serial = x } in
              let by : (g.peripheral q).by ≡ Some o = sym (ap (bypass_of g) l) ∙ f in
              let one = ((positions-near law).each k r is.here).primary_inner e q o p l by in
              let pair : (g.peripheral q).end.pair ≡ r.end.pair = peripheral_pair q l in
              is.unbypassed o (omega (arith, one)) (omega (arith, one))
              (sym ((law.bypasses o).pair (law.stands.by_begun q o by)) ∙
              ap (λ z. (g.peripheral z).end.pair) (law.stands.by_inner q o by) ∙ pair)
            where
              peripheral_pair : (q : Key) → e.link ≡ inner_link q → (g.peripheral q).end.pair ≡ r.end.pair
              peripheral_pair q l = let rec : IsRecorded w g k r e = ((links-near law) k r is.here).primary e p in
                  sym (ap (λ z. z.pair) rec.end ∙ ap (λ l. (side_end g l e.side).pair) l)

  pub words-departed : Words v h
  unfolding side_router side_node is_outward
  words-departed = record {
    each = λ i. record {
      unused = λ e. keeps.words.words i ∙ (law.words.each i).unused (sym (is_off_here.linked i) ∙ e);
      begun_stable = λ s e. ap (λ z. has z.stable s) (keeps.words.words i) ∙ (law.words.each i).begun_stable s e;
      begun_holder = λ s e. ap (λ z. has z.holder s) (keeps.words.words i) ∙ (law.words.each i).begun_holder s e;
      stable = λ s a d n. ap (λ z. has z.stable s) (keeps.words.words i) ∙
          (law.words.each i).stable s (linked i a) d (unleft (Central i) s n) ∙
          sym (flags i s (linked i a) d n (λ z. z.marked));
      holder = λ s a d n. ap (λ z. has z.holder s) (keeps.words.words i) ∙
          (law.words.each i).holder s (linked i a) d (unleft (Central i) s n) ∙
          sym (flags i s (linked i a) d n (λ z. z.holds));
      held_stable = λ s t e. ap (λ z. has z.stable t) (keeps.words.words i) ∙ (law.words.each i).held_stable s t
          (sym (ap (λ z. has z.holder s) (keeps.words.words i)) ∙ e);
      one_holder = λ s t a d. (law.words.each i).one_holder s t (sym (ap (λ z. has z.holder s) (keeps.words.words i)) ∙ a)
          (sym (ap (λ z. has z.holder t) (keeps.words.words i)) ∙ d);
      left_held = λ s e. ap (λ (z : Word). (is_left h (Central i) A && has z.holder A) || (is_left h (Central i) B && has z.holder B))
          (keeps.words.words i) ∙ elim (left_back (Central i) s e) [
            | inl a ↦ held i s a
            | inr (inl a) ↦ own i a.0 a.1 a.2
            | inr (inr a) ↦ absurd (not_central i a.0 a.1 a.2)
          ];
      begun_source = λ e l. ap (λ (z : Word). z.source) (keeps.words.words i) ∙ (law.words.each i).begun_source e l;
    };
    source = sourced-by w v (λ q y at e. let z : WasSame w q y = was_same c keeps q y at in record {
      router = z.router;
      at = z.at;
      primary = z.part.primary;
      inward = z.part.inward_primary;
      holds = λ e. sym z.flags.holds ∙ e;
    }) (λ q y e i at p l. ap (λ (z : Word). z.source) (keeps.words.words i)) law.words.source;
  }
    where
      -- who stands at a side that isn't left is another
      flags : (i : ℕ) (s : Side) → is_linked (g.owner i) ≡ true → is_begun (g.bypass i) ≡ false → is_left h (Central i) s ≡ false →
          (test : Router → Bool) → key_passes v (side_router g (Central i) s) test ≡ key_passes w (side_router g (Central i) s) test
      flags i s a d n test = go (side_router g (Central i) s) refl
        where
          go : (o : Option Key) → side_router g (Central i) s ≡ o → key_passes v o test ≡ key_passes w o test
          go None e = grind (arith, standing_rules)
          go (Some q) e = at (same_key_tells q k)
            where
              at : ((same_key q k ≡ true) × (q ≡ k)) ⊎ ((same_key q k ≡ false) × (q ≢ k)) →
                  key_passes v (Some q) test ≡ key_passes w (Some q) test
              at (inl f) =
                  let on : key_passes w (Some q) (has_primary (Central i) s) ≡ true =
                  law.stands.central i s q a d (unleft (Central i) s n) e in
                  let mine : has_primary (Central i) s r ≡ true = grind (arith, standing_rules, on, f.1, is.here) in
                  absurd (not_both (is_left h (Central i) s) (had_primary (Central i) s mine) n)
              at (inr f) = grind (arith, standing_rules, c.one.routers q, f.0)

      at : Side → Bool → Bool → Bool
      at A a d = a
      at B a d = d

      join : (a d p q : Bool) → (t : Side) → at t a d ≡ true → at t p q ≡ true → ((a && p) || (d && q)) ≡ true
      join a d p q A e f = rw (e, f) refl
      join a d p q B e f = rw (e, f) (or_true (a && p))
        where
          or_true : (x : Bool) → (x || true) ≡ true
          or_true true = refl
          or_true false = refl

      held : (i : ℕ) (s : Side) → is_left g (Central i) s ≡ true →
          ((is_left h (Central i) A && has (word_at w i).holder A) || (is_left h (Central i) B && has (word_at w i).holder B)) ≡ true
      held i s e = elim (either (is_left g (Central i) A && has (word_at w i).holder A) (is_left g (Central i) B && has (word_at w i).holder B)
          ((law.words.each i).left_held s e)) [
            | inl a ↦ let p = and_parts (is_left g (Central i) A) (has (word_at w i).holder A) a in
                join (is_left h (Central i) A) (is_left h (Central i) B) (has (word_at w i).holder A) (has (word_at w i).holder B) A (left_more (Central i) A p.0) p.1
            | inr a ↦ let p = and_parts (is_left g (Central i) B) (has (word_at w i).holder B) a in
                join (is_left h (Central i) A) (is_left h (Central i) B) (has (word_at w i).holder A) (has (word_at w i).holder B) B (left_more (Central i) B p.0) p.1
          ]

      own : (i : ℕ) (e : LinkEnd) → r.outward.primary ≡ Some e → Central i ≡ e.link →
          ((is_left h (Central i) A && has (word_at w i).holder A) || (is_left h (Central i) B && has (word_at w i).holder B)) ≡ true
      own i e p l = elim (is.locked i e p (sym l)) [
        | inl a ↦ mine e.side (subst (λ l. is_left h l e.side ≡ true) (sym l) (left_primary e p)) a
        | inr a ↦ held i a.0 a.1
      ]
        where
          mine : (t : Side) → is_left h (Central i) t ≡ true → has (word_at w i).holder t ≡ true →
              ((is_left h (Central i) A && has (word_at w i).holder A) || (is_left h (Central i) B && has (word_at w i).holder B)) ≡ true
          mine A a d = join (is_left h (Central i) A) (is_left h (Central i) B) (has (word_at w i).holder A) (has (word_at w i).holder B) A a d
          mine B a d = join (is_left h (Central i) A) (is_left h (Central i) B) (has (word_at w i).holder A) (has (word_at w i).holder B) B a d

      not_central : (i : ℕ) (e : LinkEnd) → (inward_edge r).primary ≡ Some e → Central i ≡ e.link → ⊥
      not_central i e p l = not_both (is_outward (Central i) e.side) refl
          (ap (λ l. is_outward l e.side) l ∙ ((links-near law) k r is.here).inward_primary_inward e p)

  pub spares-departed : Spares v h
  unfolding spare_of is_lost_owner
  spares-departed = record {
    spare = λ q y i at e. let o = other q y at in
        off-owner g r i (λ s. o.1 (same_owner (sym (law.spares.spare q y i o.0 e) ∙ law.spares.spare k r i is.here s))) ∙
        law.spares.spare q y i o.0 e;
    spare_back = λ q i e. let f = off-back_owner g r i (Spare q) e refl in
        let had = law.spares.spare_back q i f in still q i e had (same_key_tells q k);
    opening = λ n i e. let f = law.spares.opening n i (sym (c.one.nodes n).opening ∙ e) in
        off-owner g r i (λ s. let two : Spare k ≡ Opening n = sym (law.spares.spare k r i is.here s) ∙ f in cc) ∙ f;
    opening_back = λ n i e. (c.one.nodes n).opening ∙ law.spares.opening_back n i (off-back_owner g r i (Opening n) e refl);
    fresh = λ o i e. law.spares.fresh o i (off-back_owner g r i (Fresh o) e refl);
    fresh_back = λ o i e. law.spares.fresh_back o i (off-back_owner g r i (Fresh o) e refl);
  }
    where
      same_owner : {q : Key} → Spare q ≡ Spare k → q ≡ k
      same_owner e = cc

      other : (q : Key) (y : Router) → router_at v q ≡ Some y → (router_at w q ≡ Some y) × (q ≢ k)
      other q y at = go (same_key_tells q k)
        where
          go : ((same_key q k ≡ true) × (q ≡ k)) ⊎ ((same_key q k ≡ false) × (q ≢ k)) → (router_at w q ≡ Some y) × (q ≢ k)
          go (inl e) = absurd (none-some y (sym (c.one.routers q ∙ ap (λ b. cond b None (router_at w q)) e.0) ∙ at))
          go (inr e) = (sym (c.one.routers q ∙ ap (λ b. cond b None (router_at w q)) e.0) ∙ at, e.1)

      still : (q : Key) (i : ℕ) → h.owner i ≡ Spare q → spare_of (router_at w q) ≡ Some i →
          ((same_key q k ≡ true) × (q ≡ k)) ⊎ ((same_key q k ≡ false) × (q ≢ k)) → spare_of (router_at v q) ≡ Some i
      still q i e had (inl f) =
          let mine : r.spare ≡ Some i = sym (ap spare_of (ap (router_at w) f.1 ∙ is.here)) ∙ had in
          let two : Lost ≡ Spare q = sym (off-lost g r i mine) ∙ e in absurd (lost_spare q two)
        where
          lost_spare : (q : Key) → Lost ≡ Spare q → ⊥
          lost_spare q e = cc
      still q i e had (inr f) = ap spare_of (c.one.routers q ∙ ap (λ b. cond b None (router_at w q)) f.0) ∙ had

  pub stages-departed : Stages v h
  unfolding side_router side_end
  stages-departed o = record {
    proxy_old = λ a d. passes-still c _ _ ((law.stages o).proxy_old a d) (λ e t. absurd (none-some _
        (sym no_decaying ∙ (has_link-tells r.outward.decaying (Central o) (proxy_side g o) t).there)));
    proxy_inner = λ a d. passes-still c _ _ ((law.stages o).proxy_inner a d) (λ e t. absurd (none-some _
        (sym no_inward_decaying ∙ (has_link-tells (inward_edge r).decaying (inner_of g o) A t).there)));
    proxy_begun = λ y a at. (law.stages o).proxy_begun y a (other (g.bypass o).proxy y at);
    proxy_end = λ y a at. (law.stages o).proxy_end y a (other (g.bypass o).proxy y at);
    across_old = λ a d. passes-still c _ _ ((law.stages o).across_old a d) (λ e t. absurd (early o a d t));
    across_marked = λ a d. passes-still c _ _ ((law.stages o).across_marked a d) (λ e t. absurd (early o a d (on o a d e)));
    across_free = λ a d. passes-still c _ _ ((law.stages o).across_free a d) (λ e t. absurd (early o a d (on o a d e)));
    across_fresh = λ a d. passes-still c _ _ ((law.stages o).across_fresh a d) (λ e t. absurd (is.unbypassed o (omega (arith, a)) d
        (sym ((law.bypasses o).fresh_pair (omega (arith, a))) ∙ central_pair (g.bypass o).fresh (across_side g o)
        (has_link-tells r.outward.primary (Central (g.bypass o).fresh) (across_side g o) t))));
    inner_primary = λ q a e. passes-still c _ _ ((law.stages o).inner_primary q a e) (λ f t. absurd (is.unbypassed o (omega (arith, a))
        (omega (arith, a)) (sym ((law.bypasses o).pair (grind (arith, a, nat_tests))) ∙ inner_pair (g.bypass o).inner
        (has_link-tells r.outward.primary (inner_of g o) B t))));
    inner_decaying = λ a d. passes-still c _ _ ((law.stages o).inner_decaying a d) (λ e t. absurd (none-some _
        (sym no_decaying ∙ (has_link-tells r.outward.decaying (inner_of g o) B t).there)));
  }
    where
      other : (q : Key) (y : Router) → router_at v q ≡ Some y → router_at w q ≡ Some y
      other q y at = go (same_key_tells q k)
        where
          go : ((same_key q k ≡ true) × (q ≡ k)) ⊎ ((same_key q k ≡ false) × (q ≢ k)) → router_at w q ≡ Some y
          go (inl e) = absurd (none-some y (sym (c.one.routers q ∙ ap (λ b. cond b None (router_at w q)) e.0) ∙ at))
          go (inr e) = sym (c.one.routers q ∙ ap (λ b. cond b None (router_at w q)) e.0) ∙ at

      early : (o : ℕ) → is_begun (g.bypass o) ≡ true → (g.bypass o).stage ≤ 2 → has_primary (Central o) (across_side g o) r ≡ true → ⊥
      early o a d t = is.unbypassed o (grind (arith, a, nat_tests)) (omega (arith, d)) (central_pair o (across_side g o)
          (has_link-tells r.outward.primary (Central o) (across_side g o) t))

      on : (o : ℕ) → is_begun (g.bypass o) ≡ true → (g.bypass o).stage ≤ 2 → side_router g (Central o) (across_side g o) ≡ Some k →
          has_primary (Central o) (across_side g o) r ≡ true
      on o a d e = grind (arith, standing_rules, (law.stages o).across_old a d, e, is.here)

  -- whose peer's end has retired
  module _ (retired_ends : RetiredEnds b g) (gones : Gones w b g) (retired : is_retired b (opposite_end r.end) ≡ true) where
    pub retired-departed : RetiredEnds b h
    unfolding side_end
    retired-departed = record {
      retired = retired_ends.retired;
      peer_closed = retired_ends.peer_closed;
      peer_stays = retired_ends.peer_stays;
      all_read = retired_ends.all_read;
      gone_read = retired_ends.gone_read;
      no_bypass = retired_ends.no_bypass;
      left = λ e i a l d p. left_more (Central i) e.side (retired_ends.left e i a (linked i l) d p);
      left_of = λ l s e. elim (left_back l s e) [
        | inl a ↦ retired_ends.left_of l s a
        | inr (inl a) ↦ mine l s a.0 a.2 a.3 (((links-near law) k r is.here).primary a.0 a.1)
        | inr (inr a) ↦ mine l s a.0 a.2 a.3 (((links-near law) k r is.here).inward_primary a.0 a.1)
      ];
      accepted = retired_ends.accepted;
    }
      where
        right : (a c : Bool) → c ≡ true → (a || c) ≡ true
        right true c f = refl
        right false c f = f

        mine : (l : LinkId) (s : Side) (e : LinkEnd) → l ≡ e.link → s ≡ e.side → IsRecorded w g k r e →
            (is_retired b (side_end g l s) || is_retired b (opposite_end (side_end g l s))) ≡ true
        mine l s e f t rec = right _ _ (ap (λ l. is_retired b (opposite_end (side_end g l s))) f ∙
            ap (λ s. is_retired b (opposite_end (side_end g e.link s))) t ∙ ap (λ d. is_retired b (opposite_end d)) (sym rec.end) ∙ retired)

    -- at a central link nobody stands across
    across_central : (i : ℕ) (e : LinkEnd) → r.outward.primary ≡ Some e → e.link ≡ Central i → (q : Key) (y : Router) (d : LinkEnd) →
        router_at w q ≡ Some y → y.outward.primary ≡ Some d → d.link ≡ e.link → opposite d.side ≡ e.side → ⊥
    unfolding side_end is_recorded
    across_central i e p l q y d at dp dl ds = not_both (is_left g (Central i) d.side) gone_there stays_there
      where
        here_e : HasEnd r.outward.primary (Central i) e.side
        here_e = record { end = e; there = p; on_link = l; at_side = refl }

        rec : IsRecorded w g k r e
        rec = ((links-near law) k r is.here).primary e p

        rec_d : IsRecorded w g q y d
        rec_d = ((links-near law) q y at).primary d dp

        is_link : is_linked (g.owner i) ≡ true
        is_link = sym (ap (is_recorded w g) l) ∙ rec.recorded

        unbegun : is_begun (g.bypass i) ≡ false
        unbegun = go (is_begun (g.bypass i)) refl
          where
            go : (c : Bool) → is_begun (g.bypass i) ≡ c → c ≡ false
            go false f = refl
            go true f = let low = ((positions-near law).each k r is.here).primary_old e i p l f in
                absurd (is.unbypassed i (grind (arith, f, nat_tests)) (omega (arith, low)) (central_pair i e.side here_e))

        side : (opposite_end r.end).side ≡ d.side
        side = ap (λ z. opposite z.side) (rec.end ∙ ap (λ l. side_end g l e.side) l) ∙ ap opposite (sym ds) ∙ opposite-twice d.side

        gone_there : is_left g (Central i) d.side ≡ true
        gone_there = subst (λ s. is_left g (Central i) s ≡ true) side
            (retired_ends.left (opposite_end r.end) i retired is_link unbegun (central_pair i e.side here_e))

        stays_there : is_left g (Central i) d.side ≡ false
        stays_there = ap (λ l. is_left g l d.side) (sym (dl ∙ l)) ∙ not_left w g d.link d.side q y law.stands rec_d.router at

    -- the proxy across an inner link has passed all that the router has
    across_inner : (p : Key) (e : LinkEnd) → r.outward.primary ≡ Some e → e.link ≡ inner_link p → (q : Key) (y : Router) (d : LinkEnd) →
        router_at w q ≡ Some y → (inward_edge y).primary ≡ Some d → d.link ≡ e.link → opposite d.side ≡ e.side →
        length (b.put (opposite_end y.end)) ≤ y.in_queue.current
    unfolding side_end is_attached sending_queue fed_queue length_by
    across_inner p e ep l q y d at dp dl ds =
        let le : r.in_queue.current ≤ y.in_queue.current = law.order.current (inner_link p) B y.in_queue.current r.in_queue rec_p sent takes
        short in omega (arith, le, is.in_all, ap (λ z. length (b.put (opposite_end z))) ends)
      where
        out_d : is_outward d.link d.side ≡ false
        out_d = ((links-near law) q y at).inward_primary_inward d dp

        side_d : d.side ≡ A
        side_d = (inward_link d.link d.side out_d).2

        side_e : e.side ≡ B
        side_e = sym ds ∙ ap opposite side_d

        link_d : d.link ≡ inner_link p
        link_d = dl ∙ l

        rec_d : IsRecorded w g q y d
        rec_d = ((links-near law) q y at).inward_primary d dp

        rec_e : IsRecorded w g k r e
        rec_e = ((links-near law) k r is.here).primary e ep

        rec_p : is_recorded w g (inner_link p) ≡ true
        rec_p = sym (ap (is_recorded w g) l) ∙ rec_e.recorded

        ends : y.end ≡ r.end
        ends = rec_d.end ∙ ap (λ l. side_end g l d.side) link_d ∙ sym (rec_e.end ∙ ap (λ l. side_end g l e.side) l)

        sent : next_sent (inner_link p) A (view w g (inner_link p) A) ≡ Some y.in_queue.current
        sent = ap (next_sent (inner_link p) A) (view-standing w g (inner_link p) A q y
            (sym (ap (λ l. side_router g l A) link_d) ∙ ap (side_router g d.link) (sym side_d) ∙ rec_d.router) at
            (or_left _ _ (has_link-is (inward_edge y).primary d (inner_link p) A dp link_d side_d))) ∙
            next_sent-standing (inner_link p) A y

        takes : taking_queue (inner_link p) B (view w g (inner_link p) B) ≡ Some r.in_queue
        takes = ap (taking_queue (inner_link p) B) (view-standing w g (inner_link p) B k r
            (sym (ap (λ l. side_router g l B) l) ∙ ap (side_router g e.link) (sym side_e) ∙ rec_e.router) is.here
            (or_left _ _ (has_link-is r.outward.primary e (inner_link p) B ep l side_e))) ∙
            taking_queue-standing (inner_link p) B r

        short : has_passed (side_length g (inner_link p) A) y.in_queue.current ≡ false
        short = ap (λ o. has_passed (length_by g (inner_link p) A o) y.in_queue.current)
            (ap (bypass_of g) (sym link_d) ∙ ((positions-near law).each q y at).inward_primary d dp) ∙ has_passed-none y.in_queue.current

    pub gones-departed : Gones v b h
    gones-departed = gones-all right
      where
        right : (q : Key) (y : Router) → router_at v q ≡ Some y → IsGoneRight b h y
        right q y at = record {
          sent = o.sent;
          sent_back = o.sent_back;
          left_primary = λ e p l. elim (left_back e.link (opposite e.side) l) [
            | inl a ↦ o.left_primary e p a
            | inr (inl a) ↦ primary e p a.0 a.1 a.2 a.3
            | inr (inr a) ↦ inner e p a.0 a.1 a.2 a.3
          ];
          left_inner = λ e p l. elim (left_back e.link (opposite e.side) l) [
            | inl a ↦ o.left_inner e p a
            | inr (inl a) ↦ beyond e p a.0 a.1 a.2 a.3
            | inr (inr a) ↦ absurd (both_inward e.link e.side a.0.link a.0.side a.2 a.3
                (((links-near law) q y before).inward_primary_inward e p) (((links-near law) k r is.here).inward_primary_inward a.0 a.1))
          ];
          out_put = o.out_put;
          in_put = o.in_put;
          still = o.still;
          dropped = o.dropped;
          dropped_closed = o.dropped_closed;
          dropped_back = o.dropped_back;
        }
          where
            before : router_at w q ≡ Some y
            before = go (same_key_tells q k)
              where
                go : ((same_key q k ≡ true) × (q ≡ k)) ⊎ ((same_key q k ≡ false) × (q ≢ k)) → router_at w q ≡ Some y
                go (inl e) = absurd (none-some y (sym (c.one.routers q ∙ ap (λ b. cond b None (router_at w q)) e.0) ∙ at))
                go (inr e) = sym (c.one.routers q ∙ ap (λ b. cond b None (router_at w q)) e.0) ∙ at

            o : IsGoneRight b g y
            o = right-of gones q y before

            -- across the outward primary link
            primary : (e : LinkEnd) → y.outward.primary ≡ Some e → (a : LinkEnd) → r.outward.primary ≡ Some a → e.link ≡ a.link →
                opposite e.side ≡ a.side → is_retired b (opposite_end y.end) ≡ true
            primary e p a ap_ l s = go a.link refl
              where
                go : (x : LinkId) → a.link ≡ x → is_retired b (opposite_end y.end) ≡ true
                go (Central i) f = absurd (across_central i a ap_ f q y e before p l s)
                go (Peripheral n x) f = absurd (out_apart n x e.side
                    (ap (λ z. is_outward z e.side) (sym (l ∙ f)) ∙ ((links-near law) q y before).primary_outward e p)
                    (ap (λ z. is_outward z (opposite e.side)) (sym f) ∙ ap (is_outward a.link) s ∙ ((links-near law) k r is.here).primary_outward a ap_))

            -- inward of the router
            inner : (e : LinkEnd) → y.outward.primary ≡ Some e → (a : LinkEnd) → (inward_edge r).primary ≡ Some a → e.link ≡ a.link →
                opposite e.side ≡ a.side → is_retired b (opposite_end y.end) ≡ true
            inner e p a ip l s = ap (λ z. is_retired b (opposite_end z)) ends ∙ retired
              where
                ends : y.end ≡ r.end
                ends = (((links-near law) q y before).primary e p).end ∙ ap (λ z. side_end g z e.side) l ∙ ap (side_end g a.link)
                    (sym (opposite-twice e.side) ∙ ap opposite s) ∙ around g a.link a.side (((links-near law) k r is.here).inward_primary_inward a ip) ∙
                    sym (((links-near law) k r is.here).inward_primary a ip).end

            -- outward of it, over an inner link
            beyond : (e : LinkEnd) → (inward_edge y).primary ≡ Some e → (a : LinkEnd) → r.outward.primary ≡ Some a → e.link ≡ a.link →
                opposite e.side ≡ a.side → length (b.put (opposite_end y.end)) ≤ y.in_queue.current
            beyond e p a ap_ l s = go e.link refl
              where
                go : (x : LinkId) → e.link ≡ x → length (b.put (opposite_end y.end)) ≤ y.in_queue.current
                go (Central i) f = absurd (not_inward i e.side (ap (λ z. is_outward z e.side) (sym f) ∙ ((links-near law) q y before).inward_primary_inward e p))
                go (Peripheral n x) f = across_inner (record { node = n; serial = x }) a ap_ (sym l ∙ f) q y e before p l s

  pub on_node : k.node < w.count
  on_node = law.counts.on_node k r is.here

  -- all but the groups that tell of terminals, retired ends and Gone
  pub near-departed : NearInv v b h
  near-departed = record {
    counts = counts-gives w v h k r None c keeps.words.claimed (off.counts-aside is_off_here w keeps_owners law.counts);
    ordered = ordered-gives w v k r None c law.ordered;
    shape = shape-gives w v k r None c keeps law.shape;
    roles = roles-gives w v h k r None c (off.roles-aside is_off_here w law.bypasses law.begun law.stands law.roles);
    begun = assumption law.begun;
    stands = stands-departed;
    words = words-departed;
    spares = spares-departed;
    bypasses = bypasses-same w v h (same-messages c.one) (off.bypasses-aside is_off_here w keeps_owners law.bypasses);
    live = off.live-aside is_off_here w law.live;
    stages = stages-departed;
    controls = controls-same w v h (same-messages c.one) (off.controls-aside is_off_here w law.controls);
    moves = moves-same w v h (same-messages c.one) (off.moves-aside is_off_here w law.moves);
    end_places = end_places-gives w v h k r None c (off.end_places-aside is_off_here w law.end_places);
    books_kept = books-gives w v b h k r None c (off.books_kept-aside is_off_here w law.books_kept);
    items = items-gives w v h k r None c settled (off.items-aside is_off_here w law.items);
    order = order-gives w v h k r None c (off.order-aside is_off_here w law.order);
    proxy_numbers = proxy_numbers-gives w v h k r None c settled (off.proxy_numbers-aside is_off_here w law.proxy_numbers);
    fresh_numbers = fresh_numbers-gives w v h k r None c (off.fresh_numbers-aside is_off_here w law.fresh_numbers);
    conserved = conserved-gives w v b h k r None c on_node (off.conserved-aside is_off_here w law.conserved);
    held_once = held_once-gives w v b h k r None c on_node (off.held_once-aside is_off_here w law.held_once);
    no_strays = λ n. (c.one.nodes n).strays ∙ law.no_strays n;
  }
