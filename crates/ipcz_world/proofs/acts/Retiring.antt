-- A sink that retires: what holds of it, so that it may leave.
use Rattle.ipcz_world.proofs.frames.RolesTell.{links-in, positions-in}
use Rattle.std.specs.Prelude.{◌≡◌, ◌≢◌, ◌⊎◌, ◌≤◌, ◌<◌, ℕ, Bool, true, false, cond, nat_eq, nat_le, Option, Some, None, length, slice_get}
use Rattle.std.specs.Prelude.{List, [], ◌∷◌, suc, refl}
use Rattle.std.proofs.Common.{arith, ap, ◌∙◌, sym, inl, inr}
use Rattle.std.proofs.lemmas.Bool.Decides.{nat_tests}
use Rattle.std.proofs.lemmas.Option.{none-some, same_Some}
use Rattle.ipcz_base.specs.declared.item.Item.{Item}
use Rattle.ipcz_world.proofs.Vocabulary.{Side, B, LinkId, Central, LinkEnd, opposite, opposite_end, has, Router, is_terminal, inward_edge, World, Key}
use Rattle.ipcz_world.proofs.Vocabulary.{router_at, word_at, item_at, Books, Records, is_linked, is_begun, side_router, side_end, proxy_side}
use Rattle.ipcz_world.proofs.Vocabulary.{across_side, key_passes, has_decaying, has_primary, inner_of, IsRecorded, Inv, Edge, Peripheral, bypass_of}
use Rattle.ipcz_world.proofs.Vocabulary.{Parcel, Mark, Gone, end_at, decays, has_mark, is_retired, fresh_of, is_left, is_begun_router, link_in}
use Rattle.ipcz_seq.specs.Queue.{is_drained}
use Rattle.ipcz_router.specs.ActTable.{can_retire}
use Rattle.ipcz_world.proofs.facts.LinkTests.{side_is}
use Rattle.ipcz_world.proofs.acts.Flags.{OnWord}
use Rattle.ipcz_world.proofs.acts.Leaving.{leaver-weighs, no_item}
use Rattle.ipcz_world.proofs.acts.Reading.{in_numbers, slice_get-below}
use Rattle.ipcz_world.proofs.facts.Drained.{drained_item}
use Rattle.ipcz_world.proofs.facts.Lengths.{has_link-tells}
use Rattle.ipcz_world.proofs.facts.Tests.{not_both, some_is}
use Rattle.ipcz_world.proofs.frames.Departing.{IsLeaver}
use Rattle.ipcz_world.proofs.frames.StandingRules.{standing_rules}
use Rattle.ipcz_world.proofs.frames.LeftSides.{not_left, held_stays, held_unretired}

-- a mark that was put stands somewhere
pub mark_stands : (xs : List Item) → has_mark xs ≡ true → (n : ℕ) × (slice_get xs n ≡ Some Mark)
mark_stands [] h = cc
mark_stands (Parcel p ∷ xs) h = let t = mark_stands xs h in (suc t.0, t.1)
mark_stands (Mark ∷ xs) h = (0, refl)
mark_stands (Gone ∷ xs) h = let t = mark_stands xs h in (suc t.0, t.1)

-- a router that is known and passes a test
pub record Known (w : World) (o : Option Key) (test : Router → Bool) : Type 0 where
  pub key : Key
  pub router : Router
  pub is : o ≡ Some key
  pub at : router_at w key ≡ Some router
  pub passed : test router ≡ true

known_tells : (w : World) (o : Option Key) (test : Router → Bool) → key_passes w o test ≡ true → Known w o test
known_tells w None test h = absurd (grind (arith, standing_rules, h))
known_tells w (Some q) test h = go (router_at w q) refl
  where
    go : (x : Option Router) → router_at w q ≡ x → Known w (Some q) test
    go None e = absurd (grind (arith, standing_rules, h, e))
    go (Some z) e = record { key = q; router = z; is = refl; at = e; passed = grind (arith, standing_rules, h, e) }

module _ (w : World) (b : Books) (g : Records) (k : Key) (r : Router) (i : ℕ) (law : Inv w b g) (here : router_at w k ≡ Some r)
    (on : OnWord w g k r i) (can : can_retire r ≡ true) where
  pub terminal : is_terminal r ≡ true
  terminal = grind (arith, can)

  holds : r.holds ≡ true
  holds = grind (arith, can)

  still : decays r ≡ false
  still = grind (arith, can)

  pub noted : r.mark_dropped ≡ true
  noted = grind (arith, can)

  drained : is_drained r.out_queue ≡ true
  drained = grind (arith, can)

  on_node : k.node < w.count
  on_node = law.counts.on_node k r here

  pub pair_is : (g.central i).pair ≡ r.end.pair
  unfolding side_end
  pair_is = let rec : IsRecorded w g k r on.end = ((links-in law) k r here).primary on.end on.primary in
      sym (ap (λ z. z.pair) rec.end ∙ ap (λ l. (side_end g l on.end.side).pair) on.link)

  -- who holds a lock hasn't begun, nor is across one that has
  pub live : is_begun (g.bypass i) ≡ false
  live = go (is_begun (g.bypass i)) refl
    where
      go : (c : Bool) → is_begun (g.bypass i) ≡ c → is_begun (g.bypass i) ≡ false
      go false f = f
      go true f =
          let low = ((positions-in law).each k r here).primary_old on.end i on.primary on.link f in
          let side : r.end.side ≡ across_side g i = sym on.side ∙ ((positions-in law).each k r here).primary_across on.end i on.primary on.link f in
          let at : side_router g (Central i) (across_side g i) ≡ Some k = ap (side_router g (Central i)) (sym side) ∙ on.known in
          let free = (law.stages i).across_free f low in
          absurd (grind (arith, standing_rules, free, at, here, holds))

  pub unleft : is_left g (Central i) r.end.side ≡ false
  unleft = not_left w g (Central i) r.end.side k r law.stands on.known here

  pub holder : has (word_at w i).holder r.end.side ≡ true
  holder = (law.words.each i).holder r.end.side on.linked live unleft ∙ ap (λ o. key_passes w o (λ z. z.holds)) on.known ∙
      grind (arith, standing_rules, here, holds)

  pub unretired : (s : Side) → is_retired b (end_at r.end.pair s) ≡ false
  unretired s = ap (λ n. is_retired b (end_at n s)) (sym pair_is) ∙
      held_unretired w b g i r.end.side law.words law.retired_ends holder unleft on.linked live s

  pub across_unleft : (t : Side) → is_left g (Central i) t ≡ false
  across_unleft t = held_stays w g i r.end.side t law.words holder unleft

  pub marked_at : (t : Side) → key_passes w (side_router g (Central i) t) (λ z. z.marked) ≡ true
  marked_at t = sym ((law.words.each i).stable t on.linked live (across_unleft t)) ∙ (law.words.each i).held_stable r.end.side t holder

  -- no bypass of its pair has messages under way
  pub unbypassed : (o : ℕ) → 1 ≤ (g.bypass o).stage → (g.bypass o).stage ≤ 4 → (g.central o).pair ≢ r.end.pair
  unfolding is_linked
  unbypassed o l m p = first (nat_eq (g.bypass o).stage 1) refl
    where
      begun_o : is_begun (g.bypass o) ≡ true
      begun_o = grind (arith, l, nat_tests)

      f : ℕ
      f = (g.bypass o).fresh

      first : (c : Bool) → nat_eq (g.bypass o).stage 1 ≡ c → ⊥
      first true e = let one : (g.bypass o).stage ≡ 1 = grind (arith, e, nat_tests) in
          not_both (is_begun (g.bypass i)) (law.live.none_live o i one on.linked (pair_is ∙ sym p)) live
      first false e = later (grind (arith, e, l, nat_tests)) (is_begun (g.bypass f)) refl (nat_eq (g.bypass o).stage 2) refl
        where
          later : 2 ≤ (g.bypass o).stage → (c : Bool) → is_begun (g.bypass f) ≡ c → (d : Bool) → nat_eq (g.bypass o).stage 2 ≡ d → ⊥
          later a false fl d e =
              let linked_f : is_linked (g.owner f) ≡ true = ap is_linked ((law.bypasses o).fresh_linked a) in
              let pair_f : (g.central f).pair ≡ (g.central i).pair = (law.bypasses o).fresh_pair a ∙ p ∙ sym pair_is in
              let same : f ≡ i = law.live.one_live f i linked_f on.linked pair_f fl live in
              fresh_here same d e
            where
              fresh_here : f ≡ i → (d : Bool) → nat_eq (g.bypass o).stage 2 ≡ d → ⊥
              fresh_here same true e =
                  let two : (g.bypass o).stage ≡ 2 = grind (arith, e, nat_tests) in
                  let none : side_router g (Central i) (across_side g o) ≡ None =
                  ap (λ n. side_router g (Central n) (across_side g o)) (sym same) ∙ (law.bypasses o).fresh_awaited two in
                  grind (arith, standing_rules, marked_at (across_side g o), none)
              fresh_here same false e =
                  let three : 3 ≤ (g.bypass o).stage = grind (arith, a, e, nat_tests) in
                  let z = known_tells w (side_router g (inner_of g o) B) (has_decaying (inner_of g o) B) ((law.stages o).inner_decaying a m) in
                  let at : side_router g (Central i) (proxy_side g o) ≡ Some z.key =
                  ap (λ n. side_router g (Central n) (proxy_side g o)) (sym same) ∙ (law.bypasses o).fresh_inner a ∙ z.is in
                  let marked : z.router.marked ≡ true = grind (arith, standing_rules, marked_at (proxy_side g o), at, z.at) in
                  let has = has_link-tells z.router.outward.decaying (inner_of g o) B z.passed in
                  grind (arith, (law.shape z.key z.router z.at).marked_still marked, has.there)
          later a true fl true e =
              let two : (g.bypass o).stage ≡ 2 = grind (arith, e, nat_tests) in
              let none = (law.bypasses o).fresh_awaited two in
              elim (side_is (across_side g o) (proxy_side g f)) [
                | inl s ↦ none-some (g.bypass f).proxy (sym none ∙ ap (side_router g (Central f)) s ∙ (law.bypasses f).proxy_old fl)
                | inr s ↦ let t = some_is (side_router g (Central f) (across_side g f)) ((law.bypasses f).across fl) in
                    none-some t.0 (sym none ∙ ap (side_router g (Central f)) s ∙ t.1)
              ]
          later a true fl false e =
              let z = known_tells w (side_router g (inner_of g o) B) (has_decaying (inner_of g o) B) ((law.stages o).inner_decaying a m) in
              let has = has_link-tells z.router.outward.decaying (inner_of g o) B z.passed in
              let to : link_in z.router.outward.primary ≡ Some (Central f) =
              ((positions-in law).each z.key z.router z.at).inner_fresh has.end (g.bypass o).inner o has.there has.on_link
              ((law.bypasses o).inner_by begun_o) in
              over z.key z.router z.at has.end has.there z.router.outward.primary refl to
            where
              over : (q : Key) (z : Router) → router_at w q ≡ Some z → (d : LinkEnd) → z.outward.decaying ≡ Some d →
                  (x : Option LinkEnd) → z.outward.primary ≡ x → link_in x ≡ Some (Central f) → ⊥
              over q z at d dec None x t = cc
              over q z at d dec (Some e) x t =
                  let l : e.link ≡ Central f = same_Some e.link (Central f) t in
                  let low = ((positions-in law).each q z at).primary_old e f x l fl in
                  let side : e.side ≡ across_side g f = ((positions-in law).each q z at).primary_across e f x l fl in
                  let rec : IsRecorded w g q z e = ((links-in law) q z at).primary e x in
                  let known : side_router g (Central f) (across_side g f) ≡ Some q =
                  ap (side_router g (Central f)) (sym side) ∙ ap (λ y. side_router g y e.side) (sym l) ∙ rec.router in
                  let marked : z.marked ≡ true = grind (arith, standing_rules, (law.stages f).across_marked fl low, known, at) in
                  grind (arith, (law.shape q z at).marked_still marked, dec)

  -- it has read all that its peer put
  pub all : length (b.put (opposite_end r.end)) ≤ r.in_queue.current
  all = let t = mark_stands (b.put (opposite_end r.end)) (law.gones.dropped_closed k r here noted) in
      let low = law.gones.dropped k r t.0 here terminal t.1 noted in
      let last = law.books_kept.mark_last (opposite_end r.end) t.0 t.1 in
      omega (arith, low, last, ap (λ (c : Bool). one c) (unretired (opposite r.end.side)))
    where
      one : Bool → ℕ
      one c = cond c 1 0

  none_out : (n : ℕ) → item_at r.out_queue n ≡ None
  none_out n = drained_item r.out_queue n drained

  none_in : (n : ℕ) → item_at r.in_queue n ≡ None
  none_in n = no_item (item_at r.in_queue n) (λ item e.
      let put = in_numbers w b g k r n item law.conserved on_node here e in
      omega (arith, slice_get-below n (b.put (opposite_end r.end)) item put, (law.ordered k r here).inn n item e, all))

  pub retire_leaver : IsLeaver w b g k r
  retire_leaver = record {
    here = here;
    still = still;
    begun = grind (arith, terminal);
    unbypassed = unbypassed;
    empty = λ f. leaver-weighs f r none_out none_in;
    in_all = all;
    out_all = λ t. absurd (not_both (is_terminal r) terminal t);
    locked = λ j e p l. inl (mine j e p l);
  }
    where
      mine : (j : ℕ) (e : LinkEnd) → r.outward.primary ≡ Some e → e.link ≡ Central j → has (word_at w j).holder e.side ≡ true
      mine j e p l = let same : e ≡ on.end = same_Some e on.end (sym p ∙ on.primary) in
          let word : Central j ≡ Central i = sym l ∙ ap (λ x. x.link) same ∙ on.link in
          ap (λ x. has (word_at w j).holder x.side) same ∙ ap (has (word_at w j).holder) on.side ∙
          ap (λ n. has (word_at w n).holder r.end.side) (same_word word) ∙ holder
        where
          same_word : {j : ℕ} → Central j ≡ Central i → j ≡ i
          same_word e = cc

  -- a router of its pair whose primary link is a fresh one is marked
  marked_fresh : (q : Key) (y : Router) (o : ℕ) (x : Option LinkEnd) → router_at w q ≡ Some y → y.outward.primary ≡ x →
      link_in x ≡ Some (fresh_of g o) → 2 ≤ (g.bypass o).stage → (g.central o).pair ≡ r.end.pair → decays y ≡ false
  unfolding is_linked
  marked_fresh q y o None at p t two pair = cc
  marked_fresh q y o (Some d) at p t two pair = go (is_begun (g.bypass n)) refl
    where
      n : ℕ
      n = (g.bypass o).fresh

      l : d.link ≡ Central n
      l = same_Some d.link (Central n) t

      linked : is_linked (g.owner n) ≡ true
      linked = ap is_linked ((law.bypasses o).fresh_linked two)

      pair_n : (g.central n).pair ≡ r.end.pair
      pair_n = (law.bypasses o).fresh_pair two ∙ pair

      go : (c : Bool) → is_begun (g.bypass n) ≡ c → decays y ≡ false
      go true f = let low = ((positions-in law).each q y at).primary_old d n p l f in
          absurd (unbypassed n (grind (arith, f, nat_tests)) (omega (arith, low)) pair_n)
      go false f =
          let same : n ≡ i = law.live.one_live n i linked on.linked (pair_n ∙ sym pair_is) f live in
          let rec : IsRecorded w g q y d = ((links-in law) q y at).primary d p in
          let known : side_router g (Central i) d.side ≡ Some q =
          ap (λ m. side_router g (Central m) d.side) (sym same) ∙ ap (λ z. side_router g z d.side) (sym l) ∙ rec.router in
          (law.shape q y at).marked_still (grind (arith, standing_rules, marked_at d.side, known, at))

  -- no router of its pair decays, but a proxy that has begun
  pub pair_still : (q : Key) (y : Router) → router_at w q ≡ Some y → y.end.pair ≡ r.end.pair → is_begun_router y ≡ false → decays y ≡ false
  unfolding side_end bypass_of
  pair_still q y at pair unbegun = outer y.outward.decaying refl
    where
      lone : (e : LinkEnd) → (inward_edge y).decaying ≡ Some e → (z : Option Edge) → y.inward ≡ z → is_terminal y ≡ false
      lone e off None f = absurd (grind (arith, f, off))
      lone e off (Some z) f = grind (arith, f)

      inner : y.outward.decaying ≡ None → (o : Option LinkEnd) → (inward_edge y).decaying ≡ o → decays y ≡ false
      inner none None off = grind (arith, none, off)
      inner none (Some e) off = no_inward (inward_edge y).primary refl
        where
          no_inward : (p : Option LinkEnd) → (inward_edge y).primary ≡ p → decays y ≡ false
          no_inward None p = absurd (grind (arith, unbegun, p, lone e off y.inward refl))
          no_inward (Some d) p = absurd (grind (arith, (law.shape q y at).role, p, off, lone e off y.inward refl))

      by_stage : (o : ℕ) → is_begun (g.bypass o) ≡ true → (g.central o).pair ≡ r.end.pair → (3 ≤ (g.bypass o).stage → decays y ≡ false) →
          decays y ≡ false
      by_stage o begun p late = go (nat_le 5 (g.bypass o).stage) refl
        where
          go : (c : Bool) → nat_le 5 (g.bypass o).stage ≡ c → decays y ≡ false
          go true f = late (grind (arith, f, nat_tests))
          go false f = absurd (unbypassed o (grind (arith, begun, nat_tests)) (grind (arith, f, nat_tests)) p)

      outer : (o : Option LinkEnd) → y.outward.decaying ≡ o → decays y ≡ false
      outer None off = inner off (inward_edge y).decaying refl
      outer (Some e) off = on_link e.link refl (bypass_of g e.link) refl
        where
          rec : IsRecorded w g q y e
          rec = ((links-in law) q y at).decaying e off

          on_link : (l : LinkId) → e.link ≡ l → (b : Option ℕ) → bypass_of g e.link ≡ b → decays y ≡ false
          on_link l m None b = absurd (grind (arith, ((positions-in law).each q y at).decaying e off, b))
          on_link (Central o) m (Some j) b = by_stage o (begun_of o (sym (ap (bypass_of g) m) ∙ b)) pair_o (λ three. sides three
              (side_is e.side (proxy_side g o)))
            where
              begun_of : (o : ℕ) → bypass_of g (Central o) ≡ Some j → is_begun (g.bypass o) ≡ true
              begun_of o h = go (is_begun (g.bypass o)) refl
                where
                  go : (c : Bool) → is_begun (g.bypass o) ≡ c → is_begun (g.bypass o) ≡ true
                  go true e = e
                  go false e = absurd (grind (arith, h, e))

              pair_o : (g.central o).pair ≡ r.end.pair
              pair_o = sym (ap (λ z. z.pair) rec.end ∙ ap (λ l. (side_end g l e.side).pair) m) ∙ pair

              sides : 3 ≤ (g.bypass o).stage → (e.side ≡ proxy_side g o) ⊎ (e.side ≡ opposite (proxy_side g o)) → decays y ≡ false
              sides three (inl s) =
                  let proxy : (g.bypass o).proxy ≡ q = ((positions-in law).each q y at).own_proxy e o off m s in
                  let begun = (law.stages o).proxy_begun y (grind (arith, three, nat_tests)) (ap (router_at w) proxy ∙ at) in
                  absurd (not_both (is_begun_router y) begun unbegun)
              sides three (inr s) = marked_fresh q y o y.outward.primary at refl (((positions-in law).each q y at).across_fresh e o off m s)
                  (omega (arith, three)) pair_o
          on_link (Peripheral n x) m (Some o) b = by_stage o (law.stands.by_begun p o by) pair_o
              (λ three. marked_fresh q y o y.outward.primary at refl (((positions-in law).each q y at).inner_fresh e p o off m by) (omega (arith, three)) pair_o)
            where
              p : Key
              p = record { node = n; serial = x }

              by : (g.peripheral p).by ≡ Some o
              by = sym (ap (bypass_of g) m) ∙ b

              pair_o : (g.central o).pair ≡ r.end.pair
              pair_o = sym ((law.bypasses o).pair (law.stands.by_begun p o by)) ∙
                  ap (λ z. (g.peripheral z).end.pair) (law.stands.by_inner p o by) ∙
                  sym (ap (λ z. z.pair) rec.end ∙ ap (λ l. (side_end g l e.side).pair) m) ∙ pair

  -- a router stands across
  pub across : Known w (side_router g (Central i) (opposite r.end.side)) (has_primary (Central i) (opposite r.end.side))
  across = known_tells w _ _ (go (side_router g (Central i) (opposite r.end.side)) refl)
    where
      go : (o : Option Key) → side_router g (Central i) (opposite r.end.side) ≡ o → key_passes w (side_router g (Central i) (opposite r.end.side))
          (has_primary (Central i) (opposite r.end.side)) ≡ true
      go (Some q) f = ap (λ o. key_passes w o (has_primary (Central i) (opposite r.end.side))) f ∙
          law.stands.central i (opposite r.end.side) q on.linked live (across_unleft (opposite r.end.side)) f
      go None f = absurd (grind (arith, standing_rules, marked_at (opposite r.end.side), f))
