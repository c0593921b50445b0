-- A proxy claims a word: the invariant is kept.
use Rattle.ipcz_world.proofs.Vocabulary.{HasShape, A, B, Central, LinkId, has, Router, is_possible, word_of, World, Key, same_key, word_at, mail_at}
use Rattle.ipcz_world.proofs.Vocabulary.{way, router_at, set_router, Books, Records, Owner, Spare, Fresh, Linked, is_linked, is_unclaimed}
use Rattle.ipcz_world.proofs.Vocabulary.{is_recorded, side_router, side_node, Weight, names_end, key_passes, Inv, inner_link, Unclaimed, spare_of}
use Rattle.ipcz_world.proofs.Vocabulary.{is_left, is_proxy, is_on_central, is_done}
use Rattle.ipcz_world.proofs.frames.EachKept.{each-one}
use Rattle.ipcz_world.proofs.frames.GivingUp.{stays_bare}
use Rattle.ipcz_world.proofs.frames.LiveLinks.{live-kept}
use Rattle.ipcz_world.proofs.frames.Sourcing.{sourced-by, had-one}
use Rattle.ipcz_word.specs.Word.{Word}
use Rattle.ipcz_world.specs.Routes.{source as source'}
use Rattle.std.specs.Prelude.{◌≡◌, ◌≢◌, ◌⊎◌, ◌<◌, ◌+◌, ◌*◌, ℕ, Bool, true, false, cond, not, nat_eq, Option, Some, None, refl}
use Rattle.std.proofs.Common.{arith, sym, ◌∙◌, ap, inl, inr}
use Rattle.std.proofs.lemmas.Bool.Decides.{nat_tests}
use Rattle.ipcz_router.specs.ActEffects.{claim_word}
use Rattle.ipcz_router.specs.declared.act.RouterAct.TheVariants as acts
use Rattle.ipcz_world.proofs.frames.Frames.{frames, same_key_tells, same_key-itself}
use Rattle.ipcz_world.proofs.facts.RecordsAfter.{claim_records}
use Rattle.ipcz_world.proofs.frames.OfRecords.{in_places}
use Rattle.ipcz_world.proofs.frames.StandingRules.{standing_rules}
use Rattle.ipcz_world.proofs.facts.Updates.{CanAct, claim_act}
use Rattle.ipcz_world.proofs.frames.OneRouter.{SameButRouter, set-router, set-claimed}
use Rattle.ipcz_world.proofs.frames.SameMessages.{recorded-same, controls-same, moves-same}
use Rattle.ipcz_world.proofs.frames.GivingUp.{was, Gives, same-messages, ordered-gives, roles-gives, stands-gives}
use Rattle.ipcz_world.proofs.frames.GivenUp.{Settled, stays, stages-flags, terminals-gives, end_places-gives, books-gives, items-gives}
use Rattle.ipcz_world.proofs.frames.GivenUp.{order-gives, proxy_numbers-gives, fresh_numbers-gives, conserved-gives, held_once-gives}
use Rattle.ipcz_world.proofs.acts.Flags.{IsFlagged, flagged-part, flagged-settled}
use Rattle.ipcz_world.proofs.frames.Aside.{IsAside, central_left, peripheral_left, recorded-aside, roles-aside, stands-aside}
use Rattle.ipcz_world.proofs.frames.Aside.{stages-aside, moves-aside, controls-aside, terminals-aside, items-aside, order-aside}
use Rattle.ipcz_world.proofs.frames.Aside.{proxy_numbers-aside, fresh_numbers-aside}
use Rattle.ipcz_world.proofs.frames.Owners.{is_owned}
use Rattle.ipcz_world.proofs.frames.RecordRules.{unclaimed-is}
use Rattle.ipcz_world.proofs.frames.Owners.{retired-owned}
use Rattle.ipcz_world.proofs.frames.GonesKept.{gones-by}
use Rattle.ipcz_world.proofs.frames.GivenUp.{part_gone}
use Rattle.std.proofs.lemmas.Bool.{or_left}
use Rattle.std.specs.Prelude.{◌||◌, ◌&&◌}
use Rattle.ipcz_world.proofs.frames.SourceWeights.{places-sources}
use Rattle.ipcz_world.proofs.frames.BypassesKept.{bypasses-alike, same_bypass}

pub inv-claim : (w : World) (b : Books) (g : Records) (k : Key) (r : Router) → Inv w b g → CanAct w k r acts.Claim → w.claimed < w.size →
    Inv (claim_act w k r) b (claim_records g k w.claimed)
unfolding is_possible is_unclaimed is_linked spare_of source' word_of side_router side_node is_left
inv-claim w b g k r law can left = record {
  counts = record {
    node = λ n e. grind (arith, (one.nodes n).node, one.count, law.counts.node n, e);
    nodes = λ n e. grind (arith, (one.nodes n).nodes, one.count, law.counts.nodes n, e);
    claimed = grind (arith, frames, left);
    unclaimed = λ j. grind (arith, frames, law.counts.unclaimed j, nat_tests);
    on_node = λ q z at. let o = was gives q z at in grind (arith, one.count, law.counts.on_node q o.router o.at);
    serial = λ q z at. let o = was gives q z at in grind (arith, (one.nodes q.node).next_router, law.counts.serial q o.router o.at);
    side_serial = λ l s q a e. grind (arith, (one.nodes q.node).next_router, law.counts.side_serial l s q (sym (recorded l) ∙ a) e);
    side_on_node = λ l s a. grind (arith, one.count, law.counts.side_on_node l s (sym (recorded l) ∙ a));
    hand = λ n from a e. grind (arith, one.count, mail n from, (one.nodes n).hand, law.counts.hand n from, a, e);
    hand_from = λ n from a e. grind (arith, one.count, (one.nodes n).hand, law.counts.hand_from n from, a, e);
    in_hand = λ n from a d e. grind (arith, one.count, mail n from, (one.nodes n).hand, law.counts.in_hand n from, a, d, e);
  };
  ordered = ordered-gives w v k r (Some y) gives law.ordered;
  shape = each-one w v k y HasShape one.routers law.shape (let shape = law.shape k r can.here in record {
    role = shape.role;
    marked_central = shape.marked_central;
    marked_still = shape.marked_still;
    holds_marked = shape.holds_marked;
    holds_fit = λ m. or_left (is_proxy y) (is_done y) ready;
    holds_spare = λ m p. refl;
    dropped_sink = shape.dropped_sink;
    sent_proxy = shape.sent_proxy;
    spare_proxy = λ j e. ready;
    spare_central = λ j e. central;
  });
  roles = roles-gives w v _ k r (Some y) gives (roles-aside aside_here w law.bypasses law.begun law.stands law.roles);
  begun = assumption law.begun;
  stands = stands-aside aside_here v (stands-gives w v g k r (Some y) gives (stays_bare r y) law.stands);
  words = record {
    each = λ j. record {
      unused = λ a. grind (arith, frames, (law.words.each j).unused, linked j, a);
      begun_stable = λ s a. grind (arith, frames, (law.words.each j).begun_stable s, a);
      begun_holder = λ s a. grind (arith, frames, (law.words.each j).begun_holder s, a);
      stable = λ s l a n. ap (λ x. has x.stable s) (word j) ∙ (law.words.each j).stable s (sym (linked j) ∙ l) a n ∙ sym
          (flag (λ z. z.marked) refl (side_router g (Central j) s));
      holder = λ s l a n. ap (λ x. has x.holder s) (word j) ∙ (law.words.each j).holder s (sym (linked j) ∙ l) a n ∙ sym
          (flag (λ z. z.holds) refl (side_router g (Central j) s));
      held_stable = λ s t a. grind (arith, frames, (law.words.each j).held_stable s t, a);
      one_holder = λ s t a d. grind (arith, frames, (law.words.each j).one_holder s t, a, d);
      begun_source = λ h l. ap (λ (x : Word). x.source) (word j) ∙ (law.words.each j).begun_source h l;
      left_held = λ s h.
          ap (λ (x : Word). (has (g.central j).left A && has x.holder A) || (has (g.central j).left B && has x.holder B)) (word j) ∙
          (law.words.each j).left_held s h;
    };
    source = sourced-by w v (had-one w v k r y one.routers
        (λ h. record { router = r; at = can.here; primary = refl; inward = refl; holds = λ h. h }))
        (λ q z e j at p l. ap (λ (x : Word). x.source) (word j)) law.words.source;
  };
  spares = record {
    spare = λ q z j at e. grind (arith, one.routers q, same_key_tells q k, law.spares.spare q z j, mine, e, at, nat_tests);
    spare_back = λ q j e. back q j e (nat_eq j i) refl;
    opening = λ n j e. grind (arith, (one.nodes n).opening, law.spares.opening n j, mine, e, nat_tests);
    opening_back = λ n j e. grind (arith, (one.nodes n).opening, law.spares.opening_back n j, e, nat_tests);
    fresh = λ o j e. grind (arith, law.spares.fresh o j, e, nat_tests);
    fresh_back = λ o j e. grind (arith, law.spares.fresh_back o j, e, nat_tests);
  };
  live = live-kept g _ (λ j l. sym (linked j) ∙ l) (λ j. refl) (λ o s. s) (λ o. refl) law.live;
  bypasses = bypasses-alike {w = w}
      (record {
        same = λ o. same_bypass (g.bypass o);
        central = λ i. refl;
        peripheral = λ p. refl;
        linked = linked;
        link = λ j e. owner j Linked e (λ f. grind (arith, f, mine));
        fresh = λ o j e. owner j (Fresh o) e (λ f. grind (arith, f, mine));
        recorded = λ p. recorded (inner_link p);
      })
      law.bypasses;
  stages = stages-aside aside_here v (stages-flags w v g k r (Some y) gives (stays_bare r y) settled law.stages
      (λ o a d. flag (λ z. z.marked) refl _ ∙ (law.stages o).across_marked a d)
      (λ o a d. flag (λ z. not z.holds) refl _ ∙ (law.stages o).across_free a d));
  controls = controls-aside aside_here v (controls-same w v g (same-messages one) law.controls);
  moves = moves-aside aside_here v (moves-same w v g (same-messages one) law.moves);
  terminals = terminals-aside aside_here v (terminals-gives w v g k r (Some y) gives (stays_bare r y).no_terminal law.terminals);
  end_places = let e = end_places-gives w v g k r (Some y) gives law.end_places in
      record {
        held = e.held;
        pending = e.pending;
        each = λ q z at. let is = e.each q z at in record { out = is.out; inn = is.inn };
        within = e.within;
      };
  books_kept = let e = books-gives w v b g k r (Some y) gives law.books_kept in
      (assumption e);
  retired_ends = retired-owned g i (Spare k) unlinked refl law.retired_ends;
  gones = gones-by w v b g (claim_records g k i) (λ q z at. let o = was gives q z at in
      record { router = o.router; at = o.at; alike = part_gone o.router z o.part }) (λ l s h. h) law.gones;
  items = items-aside aside_here v (items-gives w v g k r (Some y) gives settled law.items);
  order = order-aside aside_here v (order-gives w v g k r (Some y) gives law.order);
  proxy_numbers = proxy_numbers-aside aside_here v
      (proxy_numbers-gives w v g k r (Some y) gives settled law.proxy_numbers);
  fresh_numbers = fresh_numbers-aside aside_here v (fresh_numbers-gives w v g k r (Some y) gives law.fresh_numbers);
  conserved = let e = conserved-gives w v b g k r (Some y) gives (law.counts.on_node k r gives.here) law.conserved in record {
    exact = λ d f. places _ ∙ e.exact d f;
    read_put = e.read_put;
    prefix = e.prefix;
    gone_closed = e.gone_closed;
    reach = e.reach;
    current = e.current;
    sink = e.sink;
    move_out = e.move_out;
    move_in = e.move_in;
    move_open = e.move_open;
    unopened_put = e.unopened_put;
    unopened_got = e.unopened_got;
  };
  held_once = let e = held_once-gives w v b g k r (Some y) gives (law.counts.on_node k r gives.here) law.held_once in
      record { once = λ d. omega (arith, e.once d, places (names_end d)); moves_in_parcel = e.moves_in_parcel };
  no_strays = λ n. (one.nodes n).strays ∙ law.no_strays n;
}
  where
    i : ℕ
    i = w.claimed

    y : Router
    y = claim_word r i

    v : World
    v = claim_act w k r

    one : SameButRouter w v k (Some y)
    one = set-claimed w (set_router w k y) k (Some y) (i + 1) (set-router w k y)

    mine : g.owner i ≡ Unclaimed
    mine = unclaimed-is (g.owner i) (law.counts.unclaimed i ∙ grind (arith, nat_tests))

    unlinked : is_linked (g.owner i) ≡ false
    unlinked = ap is_linked mine

    aside_here : IsAside g (claim_records g k i).owner (central_left g) (peripheral_left g) g.terminal
    aside_here = is_owned g i (Spare k) unlinked refl

    linked : (j : ℕ) → is_linked ((claim_records g k i).owner j) ≡ is_linked (g.owner j)
    linked j = aside_here.linked j

    same : IsFlagged r y
    same = record { end = refl; outward = refl; inward = refl; out_queue = refl; in_queue = refl; closed = refl; mark_seen = refl; mark_dropped = refl; gone_sent = refl }

    gives : Gives w v k r (Some y)
    gives = stays w v k r y one can.here (flagged-part r y same)

    settled : Settled w v g k r (Some y)
    settled = flagged-settled w v b g k r y law can.here same

    recorded : (l : LinkId) → is_recorded v (claim_records g k i) l ≡ is_recorded w g l
    recorded l = recorded-aside aside_here v l ∙ recorded-same w v g l (same-messages one)

    word : (j : ℕ) → word_at v j ≡ word_at w j
    word j = grind (arith, frames)

    ready : is_proxy r ≡ true
    ready = grind (arith, can.possible)

    central : is_on_central r ≡ true
    central = grind (arith, can.possible)

    mail : (n from : ℕ) → mail_at v (way v from n) ≡ mail_at w (way w from n)
    mail n from = one.mail (way v from n) ∙ ap (λ j. mail_at w (from * j + n)) one.count

    flag : (test : Router → Bool) → test y ≡ test r → (q : Option Key) → key_passes v q test ≡ key_passes w q test
    flag test e None = grind (arith, standing_rules)
    flag test e (Some q) = grind (arith, standing_rules, one.routers q, can.here, same_key_tells q k, e)

    owner : (j : ℕ) (x : Owner) → g.owner j ≡ x → (g.owner i ≡ x → ⊥) → (claim_records g k i).owner j ≡ x
    owner j x e apart = go (nat_eq j i) refl
      where
        go : (t : Bool) → nat_eq j i ≡ t → (claim_records g k i).owner j ≡ x
        go true n = absurd (apart (let f : i ≡ j = grind (arith, n, nat_tests) in ap g.owner f ∙ e))
        go false n = grind (arith, n, e)

    spare_same : (p q : Key) → Spare p ≡ Spare q → p ≡ q
    spare_same p q e = cc

    back : (q : Key) (j : ℕ) → (claim_records g k i).owner j ≡ Spare q → (t : Bool) → nat_eq j i ≡ t → spare_of (router_at v q) ≡ Some j
    back q j h true n = let f : j ≡ i = grind (arith, n, nat_tests) in let e : k ≡ q =
        spare_same k q (sym (ap (λ t. cond t (Spare k) (g.owner j)) n) ∙ h) in grind (arith, one.routers q, e, same_key-itself q, f)
    back q j h false n = go (same_key_tells q k)
      where
        e : spare_of (router_at w q) ≡ Some j
        e = law.spares.spare_back q j (grind (arith, h, n))

        go : ((same_key q k ≡ true) × (q ≡ k)) ⊎ ((same_key q k ≡ false) × (q ≢ k)) → spare_of (router_at v q) ≡ Some j
        go (inl a) = absurd (grind (arith, e, a, can.here, can.possible))
        go (inr a) = grind (arith, e, a, one.routers q)

    places : (f : Weight) → in_places f (claim_records g k i) v ≡ in_places f g v
    places f = places-sources f g (claim_records g k i) v (λ l s. refl)
