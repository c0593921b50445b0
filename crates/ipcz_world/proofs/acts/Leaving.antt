-- A proxy leaves, without links or when it has sent Gone inward: the invariant is kept, for its queues are empty.
use Rattle.ipcz_world.proofs.frames.RolesTell.{links-in, positions-in}
use Rattle.ipcz_world.proofs.frames.NearInv.{inv-near, near-inv}
use Rattle.std.specs.Prelude.{◌≢◌, ◌⊎◌, ◌<◌, ◌||◌, length}
use Rattle.std.proofs.Common.{ap, sym, subst, ◌∙◌, inl, inr}
use Rattle.std.proofs.lemmas.Bool.{and_parts}
use Rattle.ipcz_world.proofs.Vocabulary.{LinkEnd, opposite, is_terminal, is_linked, is_begun, is_recorded, side_end, read, IsRecorded, Terminals}
use Rattle.ipcz_world.proofs.Vocabulary.{Side, A, B, LinkId, Central, Peripheral, Item, opposite_end, has_link, item_at, Router, inward_edge}
use Rattle.ipcz_world.proofs.Vocabulary.{is_possible, World, Key, router_at, Books, Records, proxy_side, across_side, Weight, in_router, is_attached}
use Rattle.ipcz_world.proofs.Vocabulary.{inner_of, Inv, end_at, is_retired, is_left, is_begun_router, is_proxy}
use Rattle.ipcz_router.specs.Router.{has_no_link}
use Rattle.ipcz_world.proofs.facts.RecordsAfter.{left_end, lost_word, leave_records}
use Rattle.ipcz_world.proofs.acts.Reading.{in_numbers, slice_get-below}
use Rattle.ipcz_world.proofs.facts.LinkTests.{opposite_end-twice, central_some}
use Rattle.ipcz_world.proofs.facts.Tests.{not_both}
use Rattle.ipcz_world.proofs.frames.Departing.{IsLeaver, h, h_is, is_off_here, near-departed, retired-departed, gones-departed}
use Rattle.ipcz_world.proofs.frames.GivingUp.{IsBare}
use Rattle.ipcz_world.proofs.frames.GivenUp.{terminals-gives}
use Rattle.ipcz_world.proofs.frames.Aside.{terminals-aside}
use Rattle.ipcz_world.proofs.frames.LeftRecords.{off_of}
use Rattle.ipcz_world.proofs.frames.Touching.{either}
use Rattle.ipcz_world.proofs.frames.Booking.{out_numbers}
use Rattle.std.specs.Prelude.{◌≡◌, ◌≤◌, ℕ, Bool, true, false, nat_le, Option, Some, None, refl}
use Rattle.std.proofs.Common.{arith}
use Rattle.std.proofs.lemmas.Bool.Decides.{nat_tests}
use Rattle.ipcz_router.specs.declared.act.RouterAct.TheVariants as acts
use Rattle.ipcz_world.proofs.frames.StandingRules.{standing_rules}
use Rattle.ipcz_world.proofs.facts.Updates.{CanAct, leave_act}
use Rattle.ipcz_world.proofs.facts.Queues.{total-none}
use Rattle.ipcz_world.proofs.frames.OneRouter.{remove-router, words-remove_router}
use Rattle.ipcz_world.proofs.frames.GivingUp.{Keeps, Gives}
use Rattle.ipcz_world.proofs.frames.GivenUp.{Settled, inv-gives, has_some}
use Rattle.ipcz_world.proofs.facts.Tests.{none_is}

-- a router without links
pub record HasNoLink (r : Router) : Type 0 where
  pub proxy : is_proxy r ≡ true
  pub primary : r.outward.primary ≡ None
  pub decaying : r.outward.decaying ≡ None
  pub inward_primary : (inward_edge r).primary ≡ None
  pub inward_decaying : (inward_edge r).decaying ≡ None

pub no_link-tells : (r : Router) → is_proxy r ≡ true → has_no_link r ≡ true → HasNoLink r
no_link-tells r p e = record {
  proxy = p;
  primary = none_is _ (grind (arith, e));
  decaying = none_is _ (grind (arith, e));
  inward_primary = none_is _ (grind (arith, e));
  inward_decaying = none_is _ (grind (arith, e));
}

-- who leaves is a proxy that has no link, or has sent Gone
pub leave-tells : (r : Router) → is_possible r acts.Leave ≡ true → HasNoLink r ⊎ ((is_proxy r ≡ true) × (r.gone_sent ≡ true))
unfolding is_possible
leave-tells r e = elim (either (has_no_link r) r.gone_sent p.1) [ inl f ↦ inl (no_link-tells r p.0 f) | inr f ↦ inr (p.0, f) ]
  where
    p : (is_proxy r ≡ true) × ((has_no_link r || r.gone_sent) ≡ true)
    p = and_parts (is_proxy r) (has_no_link r || r.gone_sent) e

not_attached : (l : LinkId) (s : Side) (r : Router) → HasNoLink r → is_attached l s r ≡ false
unfolding is_attached has_link
not_attached (Central i) s r bare = grind (arith, bare.primary, bare.decaying)
not_attached (Peripheral n x) A r bare = grind (arith, bare.inward_primary, bare.inward_decaying)
not_attached (Peripheral n x) B r bare = grind (arith, bare.primary, bare.decaying)

-- it is the proxy of a bypass whose lengths it knows
pub record IsTold (g : Records) (k : Key) : Type 0 where
  pub bypass : ℕ
  pub proxy : (g.bypass bypass).proxy ≡ k
  pub told : 4 ≤ (g.bypass bypass).stage

pub leaver-told : (w : World) (b : Books) (g : Records) (k : Key) (r : Router) → Inv w b g → router_at w k ≡ Some r → HasNoLink r →
    IsTold g k
unfolding has_link
leaver-told w b g k r law here bare = go (g.begun k) refl
  where
    go : (o : Option ℕ) → g.begun k ≡ o → IsTold g k
    go None e = absurd (grind (arith, ((positions-in law).each k r here).begun, bare.proxy, bare.inward_primary, e))
    go (Some o) e = record {
      bypass = o;
      proxy = law.begun.begun_proxy k o e;
      told = late (nat_le 4 (g.bypass o).stage) refl;
    }
      where
        late : (b : Bool) → nat_le 4 (g.bypass o).stage ≡ b → 4 ≤ (g.bypass o).stage
        late true q = grind (arith, q, nat_tests)
        late false q = absurd (grind (
          arith,
          standing_rules,
          (law.stages o).proxy_old (law.begun.begun_stage k o e)
              (grind (arith, q, nat_tests)),
          law.begun.begun_proxy k o e,
          here,
          bare.decaying,
        ))

pub no_item : (o : Option Item) → ((item : Item) → o ≡ Some item → ⊥) → o ≡ None
no_item None h = refl
no_item (Some item) h = absurd (h item refl)

-- its queues are empty
pub leaver-out : (w : World) (b : Books) (g : Records) (k : Key) (r : Router) → Inv w b g → router_at w k ≡ Some r → HasNoLink r →
    IsTold g k → (n : ℕ) → item_at r.out_queue n ≡ None
leaver-out w b g k r law here bare is n = no_item (item_at r.out_queue n) (λ item e.
    let at : router_at w (g.bypass is.bypass).proxy ≡ Some r = grind (arith, is.proxy, here) in
    omega (
      arith,
      is.told,
      law.proxy_numbers.out_items is.bypass r n item at (omega (arith, is.told)) e,
      law.proxy_numbers.out_finished is.bypass r at is.told bare.decaying,
      (law.ordered k r here).out n item e,
    ))

pub leaver-in : (w : World) (b : Books) (g : Records) (k : Key) (r : Router) → Inv w b g → router_at w k ≡ Some r → HasNoLink r →
    IsTold g k → (n : ℕ) → item_at r.in_queue n ≡ None
leaver-in w b g k r law here bare is n = no_item (item_at r.in_queue n) (λ item e.
    let at : router_at w (g.bypass is.bypass).proxy ≡ Some r = grind (arith, is.proxy, here) in
    omega (
      arith,
      is.told,
      law.proxy_numbers.in_items is.bypass r n item at (omega (arith, is.told)) e,
      law.proxy_numbers.in_finished is.bypass r at is.told bare.inward_decaying,
      (law.ordered k r here).inn n item e,
    ))

pub leaver-weighs : (f : Weight) (r : Router) → ((n : ℕ) → item_at r.out_queue n ≡ None) → ((n : ℕ) → item_at r.in_queue n ≡ None) →
    in_router f r ≡ 0
unfolding in_router
leaver-weighs f r out inn = omega (
  arith,
  total-none (f r.end) r.out_queue.items out,
  total-none (f (opposite_end r.end)) r.in_queue.items inn,
)

inv-leave_bare : (w : World) (b : Books) (g : Records) (k : Key) (r : Router) → Inv w b g → CanAct w k r acts.Leave → HasNoLink r →
    Inv (leave_act w k) b g
inv-leave_bare w b g k r law can bare = inv-gives w (leave_act w k) b g k r None gives is_bare keeps settled law
  where
    told : IsTold g k
    told = leaver-told w b g k r law can.here bare

    without : (i : ℕ) → r.spare ≡ Some i → ⊥
    without i e = grind (arith, central_some r.outward.primary ((law.shape k r can.here).spare_central i e), bare.primary)

    spare : (o : Option ℕ) → r.spare ≡ o → r.spare ≡ None
    spare None e = e
    spare (Some i) e = absurd (without i e)

    gives : Gives w (leave_act w k) k r None
    gives = record {
      one = remove-router w k r can.here;
      here = can.here;
      part = λ y e. absurd (grind (arith, e));
      no_item = λ e f. leaver-weighs f r (leaver-out w b g k r law can.here bare told) (leaver-in w b g k r law can.here bare told);
    }

    is_bare : IsBare r None
    is_bare = record {
      no_primary = λ e. bare.primary;
      no_inward = λ e. bare.inward_primary;
      no_terminal = λ e. grind (arith, bare.proxy);
      no_spare = λ e. spare r.spare refl;
    }

    keeps : Keeps w (leave_act w k) r None
    keeps = record { words = words-remove_router w k; flags = λ y e. absurd (grind (arith, e)) }

    settled : Settled w (leave_act w k) g k r None
    settled = record {
      own_old = λ o e a c h. absurd (grind (arith, has_some r.outward.decaying (Central o) (proxy_side g o) h, bare.decaying));
      own_inner = λ o e a c h. absurd (grind (arith, has_some (inward_edge r).decaying (inner_of g o) A h, bare.inward_decaying));
      inner = λ o e a c h. absurd (grind (arith, has_some r.outward.decaying (inner_of g o) B h, bare.decaying));
      known = λ l s up. absurd (grind (arith, up.had, not_attached l s r bare));
      nothing = λ from to i l s n item moves u up. grind (arith, up.had, not_attached l s r bare);
      across_gone = λ o q at a up. absurd (grind (arith, up.had, not_attached (Central o) (across_side g o) r bare));
      inner_gone = λ o q at a up. absurd (grind (arith, up.had, not_attached (inner_of g o) B r bare));
      out_finished = λ o y e a f. absurd (grind (arith, f));
      in_finished = λ o y e a f. absurd (grind (arith, f));
    }

-- a router whose peer's end has retired leaves with its links, once nothing comes any more
module _ (w : World) (b : Books) (g : Records) (k : Key) (r : Router) (law : Inv w b g) (here : router_at w k ≡ Some r)
    (begun : is_begun_router r ≡ false) (retired : is_retired b (opposite_end r.end) ≡ true)
    (all : r.in_queue.current ≡ length (b.put (opposite_end r.end))) where
  on_node : k.node < w.count
  on_node = law.counts.on_node k r here

  out_read : read b (opposite_end r.end) ≡ length (b.put r.end)
  out_read = law.retired_ends.all_read (opposite_end r.end) retired ∙ ap (λ d. length (b.put d)) (opposite_end-twice r.end)

  none_out : (n : ℕ) → item_at r.out_queue n ≡ None
  none_out n = no_item (item_at r.out_queue n) (λ item e. let o = out_numbers w b g k r n item law.conserved on_node here e in
      omega (arith, o.0, o.1, out_read))

  none_in : (n : ℕ) → item_at r.in_queue n ≡ None
  none_in n = no_item (item_at r.in_queue n) (λ item e.
      let put = in_numbers w b g k r n item law.conserved on_node here e in
      omega (arith, slice_get-below n (b.put (opposite_end r.end)) item put, (law.ordered k r here).inn n item e, all))

  unbypassed : (o : ℕ) → 1 ≤ (g.bypass o).stage → (g.bypass o).stage ≤ 4 → (g.central o).pair ≢ r.end.pair
  unbypassed o l m p = not_both (is_retired b (opposite_end r.end)) retired (ap (λ n. is_retired b (end_at n (opposite r.end.side))) (sym p) ∙
      law.retired_ends.no_bypass o (opposite r.end.side) l m)

  pub gone_leaver : IsLeaver w b g k r
  unfolding is_recorded side_end
  gone_leaver = record {
    here = here;
    still = law.gones.still k r (opposite r.end.side) here begun retired;
    begun = begun;
    unbypassed = unbypassed;
    empty = λ f. leaver-weighs f r none_out none_in;
    in_all = omega (arith, all);
    out_all = λ t. omega (arith, out_read);
    locked = λ i e p l. inr (opposite r.end.side, left i e p l);
  }
    where
      left : (i : ℕ) (e : LinkEnd) → r.outward.primary ≡ Some e → e.link ≡ Central i → is_left g (Central i) (opposite r.end.side) ≡ true
      left i e p l = law.retired_ends.left (opposite_end r.end) i retired linked (unbegun (is_begun (g.bypass i)) refl) pair
        where
          rec : IsRecorded w g k r e
          rec = ((links-in law) k r here).primary e p

          linked : is_linked (g.owner i) ≡ true
          linked = sym (ap (is_recorded w g) l) ∙ rec.recorded

          pair : (g.central i).pair ≡ r.end.pair
          pair = sym (ap (λ z. z.pair) rec.end ∙ ap (λ l. (side_end g l e.side).pair) l)

          unbegun : (c : Bool) → is_begun (g.bypass i) ≡ c → is_begun (g.bypass i) ≡ false
          unbegun false f = f
          unbegun true f = let low = ((positions-in law).each k r here).primary_old e i p l f in
              absurd (unbypassed i (grind (arith, f, nat_tests)) (omega (arith, low)) pair)

-- a proxy that has sent Gone leaves
module _ (w : World) (b : Books) (g : Records) (k : Key) (r : Router) (law : Inv w b g) (here : router_at w k ≡ Some r)
    (proxy : is_proxy r ≡ true) (sent : r.gone_sent ≡ true) where
  begun : is_begun_router r ≡ false
  begun = grind (arith, (law.shape k r here).sent_proxy sent)

  leaver : IsLeaver w b g k r
  leaver = let s = law.gones.sent k r here sent in gone_leaver w b g k r law here begun s.0 s.1

  gives : Gives w (leave_act w k) k r None
  gives = record {
    one = remove-router w k r here;
    here = here;
    part = λ y e. absurd (grind (arith, e));
    no_item = λ e. leaver.empty;
  }

  keeps : Keeps w (leave_act w k) r None
  keeps = record { words = words-remove_router w k; flags = λ y e. absurd (grind (arith, e)) }

  terminals : Terminals (leave_act w k) (off_of g r)
  terminals = subst (Terminals (leave_act w k)) (sym (h_is (near-inv law) leaver gives keeps))
      (terminals-gives w (leave_act w k) (h (near-inv law) leaver gives keeps) k r None gives (λ e. grind (arith, proxy))
      (terminals-aside (is_off_here (near-inv law) leaver gives keeps) w law.terminals))

  inv-leave_gone : Inv (leave_act w k) b (off_of g r)
  inv-leave_gone = let s = law.gones.sent k r here sent in
      subst (Inv (leave_act w k) b) (sym (h_is (near-inv law) leaver gives keeps)) (inv-near (near-departed (near-inv law) leaver gives keeps)
      (subst (Terminals (leave_act w k)) (h_is (near-inv law) leaver gives keeps) terminals)
      (retired-departed (near-inv law) leaver gives keeps law.retired_ends law.gones s.0)
      (gones-departed (near-inv law) leaver gives keeps law.retired_ends law.gones s.0))

-- no link and no spare is left
empty_records : (g : Records) (p q : Option LinkEnd) (s : Option ℕ) → p ≡ None → q ≡ None → s ≡ None →
    lost_word (left_end (left_end g p) q) s ≡ g
unfolding lost_word left_end
empty_records g p q s a c d = rw (a, c, d) refl

-- a proxy leaves
pub inv-leave : (w : World) (b : Books) (g : Records) (k : Key) (r : Router) → Inv w b g → CanAct w k r acts.Leave →
    Inv (leave_act w k) b (leave_records g r)
inv-leave w b g k r law can = elim (leave-tells r can.possible) [
  | inl bare ↦ subst (Inv (leave_act w k) b) (sym (bare_records g r bare (no_spare bare r.spare refl))) (inv-leave_bare w b g k r law can bare)
  | inr f ↦ subst (Inv (leave_act w k) b) (sym (proxy_records g r f.0)) (inv-leave_gone w b g k r law can.here f.0 f.1)
]
  where
    no_spare : HasNoLink r → (o : Option ℕ) → r.spare ≡ o → r.spare ≡ None
    no_spare bare None e = e
    no_spare bare (Some i) e = absurd (grind (arith, central_some r.outward.primary ((law.shape k r can.here).spare_central i e), bare.primary))

    proxy_records : (g : Records) (r : Router) → is_proxy r ≡ true → leave_records g r ≡ off_of g r
    proxy_records g r p = let lone : is_terminal r ≡ false = grind (arith, p) in rw lone refl

    bare_records : (g : Records) (r : Router) → HasNoLink r → r.spare ≡ None → leave_records g r ≡ g
    bare_records g r bare s = proxy_records g r bare.proxy ∙ empty_records g r.outward.primary (inward_edge r).primary r.spare bare.primary
        bare.inward_primary s
