-- One router changes in what its links, its spare and its lock don't show: what is said of those is kept.
use Rattle.ipcz_world.proofs.frames.Roles.{Roles}
use Rattle.ipcz_world.proofs.frames.RolesKept.{role-in, role-alike}
use Rattle.ipcz_world.proofs.Vocabulary.{HasShape, A, B, LinkId, Central, Peripheral, Router, World, Key, same_key, node_at}
use Rattle.ipcz_world.proofs.Vocabulary.{word_at, mail_at, way, router_at, hand_message, Records, is_recorded, inner_link, side_router, across_side}
use Rattle.ipcz_world.proofs.Vocabulary.{Counts, Shape, Stands, Words, Spares, BypassRecords, Stages, inner_of}
use Rattle.ipcz_world.proofs.Vocabulary.{Terminals, inward_edge, HasTerminal, spare_of, fresh_of, is_sink, is_proxy, is_done}
use Rattle.ipcz_world.proofs.frames.EachKept.{each-by}
use Rattle.ipcz_world.proofs.frames.EachKept.{each-one}
use Rattle.std.proofs.Common.{ap}
use Rattle.ipcz_world.proofs.frames.Sourcing.{sourced-by, had-one, inward-same}
use Rattle.ipcz_edge.specs.Edge.{Edge}
use Rattle.ipcz_word.specs.Word.{Word}
use Rattle.std.specs.Prelude.{◌≡◌, ◌≢◌, ◌⊎◌, ◌<◌, ℕ, ◌||◌, Bool, true, false, Some, is_some, refl}
use Rattle.std.proofs.Common.{inl, inr}
use Rattle.std.proofs.lemmas.Bool.{or_left, or_right}
use Rattle.std.proofs.Common.{arith, ◌∙◌, sym}
use Rattle.ipcz_world.proofs.frames.Frames.{same_key_tells}
use Rattle.ipcz_world.proofs.frames.OneChange.{OneChanges, passes-same}
use Rattle.ipcz_world.proofs.frames.BypassesKept.{bypasses-still}
use Rattle.ipcz_world.proofs.frames.EndsKept.{terminal-kept}
use Rattle.ipcz_world.proofs.frames.WordsKept.{word-kept}

-- two routers with the same end, links and flags of bypasses
pub record IsAlike (r y : Router) : Type 0 where
  pub end : y.end ≡ r.end
  pub outward : y.outward ≡ r.outward
  pub inward : y.inward ≡ r.inward
  pub spare : y.spare ≡ r.spare
  pub marked : y.marked ≡ r.marked
  pub holds : y.holds ≡ r.holds
  pub done : is_done r ≡ true → is_done y ≡ true
  pub dropped : y.mark_dropped ≡ true → (r.mark_dropped ≡ true → is_sink r ≡ true) → is_sink y ≡ true
  pub sent : y.gone_sent ≡ true → (r.gone_sent ≡ true → is_some (inward_edge r).primary ≡ true) → is_some (inward_edge y).primary ≡ true

pub alike-itself : (r : Router) → IsAlike r r
alike-itself r = record {
  end = refl;
  outward = refl;
  inward = refl;
  spare = refl;
  marked = refl;
  holds = refl;
  done = λ h. h;
  dropped = λ h f. f h;
  sent = λ h f. f h;
}

pub either : (a b : Bool) → (a || b) ≡ true → (a ≡ true) ⊎ (b ≡ true)
either true b h = inl refl
either false b h = inr h

fit-alike : (r y : Router) → IsAlike r y → (is_proxy r || is_done r) ≡ true → (is_proxy y || is_done y) ≡ true
fit-alike r y same h = elim (either (is_proxy r) (is_done r) h) [
  | inl p ↦ or_left _ _ (ap is_some same.inward ∙ p)
  | inr d ↦ or_right _ _ (same.done d)
]

shape-alike : (r y : Router) → IsAlike r y → HasShape r → HasShape y
shape-alike r y same law = record {
  role = rw (same.outward, same.inward) law.role;
  marked_central = λ m. rw (same.outward) (law.marked_central (sym same.marked ∙ m));
  marked_still = λ m. rw (same.outward, same.inward) (law.marked_still (sym same.marked ∙ m));
  holds_marked = λ m. same.marked ∙ law.holds_marked (sym same.holds ∙ m);
  holds_fit = λ m. fit-alike r y same (law.holds_fit (sym same.holds ∙ m));
  holds_spare = λ m p. ap is_some same.spare ∙ law.holds_spare (sym same.holds ∙ m) (sym (ap is_some same.inward) ∙ p);
  dropped_sink = λ m. same.dropped m law.dropped_sink;
  sent_proxy = λ m. same.sent m law.sent_proxy;
  spare_proxy = λ i e. ap is_some same.inward ∙ law.spare_proxy i (sym same.spare ∙ e);
  spare_central = λ i e. rw (same.outward) (law.spare_central i (sym same.spare ∙ e));
}

-- one router changes in its queues: the words are as they were, while messages and hands may move on
pub record IsTouched (w v : World) (k : Key) (r y : Router) : Type 0 where
  pub one : OneChanges w v k r y
  pub open one use *
  pub word : (i : ℕ) → word_at v i ≡ word_at w i

-- hands and mailboxes are as before
pub record HasSameHands (w v : World) : Type 0 where
  pub hand : (n : ℕ) → (node_at v n).hand ≡ (node_at w n).hand
  pub mail : (i : ℕ) → mail_at v i ≡ mail_at w i

-- what callers hold and what is pending is as before
pub record HasSameEnds (w v : World) : Type 0 where
  pub count : v.count ≡ w.count
  pub held : (n : ℕ) → (node_at v n).held ≡ (node_at w n).held
  pub pending : (n : ℕ) → (node_at v n).pending ≡ (node_at w n).pending

-- each hand has what its mailbox has
pub record Hands (w : World) : Type 0 where
  pub hand : (n from : ℕ) → n < w.count → (node_at w n).hand ≡ Some from → is_some (hand_message (mail_at w (way w from n))) ≡ true
  pub hand_from : (n from : ℕ) → n < w.count → (node_at w n).hand ≡ Some from → from < w.count
  pub in_hand : (n from : ℕ) → n < w.count → from < w.count → is_some (hand_message (mail_at w (way w from n))) ≡ true →
      (node_at w n).hand ≡ Some from

pub hands-same : (w v : World) (g : Records) → Counts w g → v.count ≡ w.count → HasSameHands w v → Hands v
hands-same w v g law count same = record {
  hand = λ n from h a. grind (arith, count, same.hand n, same.mail (way v from n), law.hand n from);
  hand_from = λ n from h a. grind (arith, count, same.hand n, law.hand_from n from);
  in_hand = λ n from h l a. grind (arith, count, same.hand n, same.mail (way v from n), law.in_hand n from);
}

pub recorded_same : (w v : World) (k : Key) (r y : Router) (g : Records) → IsTouched w v k r y → (link : LinkId) →
    is_recorded v g link ≡ is_recorded w g link
unfolding is_recorded
recorded_same w v k r y g t (Central i) = refl
recorded_same w v k r y g t (Peripheral n s) = grind (arith, t.count, t.next_peripheral n)

module _ (w v : World) (k : Key) (r y : Router) (g : Records) (t : IsTouched w v k r y) (a : IsAlike r y) where
  pub counts-touched : Counts w g → Hands v → Counts v g
  counts-touched law hands = record {
    node = λ n h. grind (arith, t.node n, t.count, law.node n);
    nodes = λ n h. grind (arith, t.nodes n, t.count, law.nodes n);
    claimed = grind (arith, t.claimed, t.size, law.claimed);
    unclaimed = λ i. grind (arith, t.claimed, law.unclaimed i);
    on_node = λ q x at. grind (arith, t.router q, same_key_tells q k, t.here, t.count, law.on_node q x, law.on_node k r);
    serial = λ q x at. grind (arith, t.router q, same_key_tells q k, t.here, t.next_router q.node, law.serial q x, law.serial k r);
    side_serial = λ link s q h e. grind (arith, recorded_same w v k r y g t link, t.next_router q.node, law.side_serial link s q);
    side_on_node = λ link s h. grind (arith, recorded_same w v k r y g t link, t.count, law.side_on_node link s);
    hand = hands.hand;
    hand_from = hands.hand_from;
    in_hand = hands.in_hand;
  }

  -- what stood there before, alike
  pub before : (q : Key) (x : Router) → router_at v q ≡ Some x → (z : Router) × (router_at w q ≡ Some z) × IsAlike z x
  before q x at = go (same_key_tells q k)
    where
      go : ((same_key q k ≡ true) × (q ≡ k)) ⊎ ((same_key q k ≡ false) × (q ≢ k)) → (z : Router) × (router_at w q ≡ Some z) × IsAlike z x
      go (inl e) = let f : y ≡ x = grind (arith, t.router q, e.0, at) in (r, rw e.1 t.here, rw (← f) a)
      go (inr e) = (x, grind (arith, t.router q, e.0, at), alike-itself x)

  pub shape-touched : Shape w → Shape v
  shape-touched law = each-one w v k y HasShape t.router law (shape-alike r y a (law k r t.here))

  pub roles-touched : Roles w g → Roles v g
  roles-touched law q x at = let z = before q x at in
      role-in (recorded_same w v k r y g t) (role-alike z.2.end z.2.outward z.2.inward (law q z.0 z.1))

  pub stands-touched : Stands w g → Stands v g
  stands-touched law = record {
    central = λ i s q l b n is. passes-same t.one _ (grind (arith, a.outward)) (Some q) ∙ law.central i s q l b n is;
    awaited = law.awaited;
    awaited_stage = law.awaited_stage;
    awaited_side = law.awaited_side;
    proxy = λ p h b n. passes-same t.one _ (grind (arith, a.inward)) (side_router g (inner_link p) A) ∙ law.proxy p
        (sym (recorded_same w v k r y g t (inner_link p)) ∙ h) b n;
    inner = λ p q h b n is. passes-same t.one _ (grind (arith, a.outward)) (Some q) ∙ law.inner p q
        (sym (recorded_same w v k r y g t (inner_link p)) ∙ h) b n is;
    by_begun = law.by_begun;
    by_inner = law.by_inner;
    left_recorded = λ l s h. recorded_same w v k r y g t l ∙ law.left_recorded l s h;
    left_known = law.left_known;
    left_gone = λ l s h. passes-same t.one (λ x. true) refl (side_router g l s) ∙ law.left_gone l s h;
    left_live = law.left_live;
  }

  pub words-touched : Words w g → Words v g
  words-touched law = record {
    each = λ i. word-kept {w = w}
        (record {
          word = t.word i;
          linked = refl;
          begun = refl;
          early = λ l. l;
          side = λ b. refl;
          inner = λ b. refl;
          left = λ s. refl;
          marked = λ s l b n. passes-same t.one (λ x. x.marked) a.marked (side_router g (Central i) s);
          holds = λ s l b n. passes-same t.one (λ x. x.holds) a.holds (side_router g (Central i) s);
        })
        (law.each i);
    source = sourced-by w v (had-one w v k r y t.router
        (λ h. record {
          router = r;
          at = t.here;
          primary = ap (λ (z : Edge). z.primary) a.outward;
          inward = inward-same r y a.inward;
          holds = λ h. sym a.holds ∙ h;
        }))
        (λ q z e i at p l. ap (λ (x : Word). x.source) (t.word i)) law.source;
  }

  spare_same : (q : Key) → spare_of (router_at v q) ≡ spare_of (router_at w q)
  unfolding spare_of
  spare_same q = grind (arith, t.router q, same_key_tells q k, t.here, a.spare)

  pub spares-touched : Spares w g → Spares v g
  spares-touched law = record {
    spare = λ q x i at is. grind (arith, t.router q, same_key_tells q k, t.here, law.spare q x i, law.spare k r i);
    spare_back = λ q i is. spare_same q ∙ law.spare_back q i is;
    opening = λ n i is. grind (arith, t.opening n, law.opening n i);
    opening_back = λ n i is. grind (arith, t.opening n, law.opening_back n i);
    fresh = law.fresh;
    fresh_back = law.fresh_back;
  }

  pub bypasses-touched : BypassRecords w g → BypassRecords v g
  bypasses-touched law = bypasses-still w v g (recorded_same w v k r y g t) law

  pub stages-touched : Stages w g → Stages v g
  stages-touched law o = record {
    proxy_old = λ h s. passes-same t.one _ (grind (arith, a.outward)) (Some (g.bypass o).proxy) ∙ (law o).proxy_old h s;
    proxy_inner = λ h s. passes-same t.one _ (grind (arith, a.inward)) (Some (g.bypass o).proxy) ∙ (law o).proxy_inner h s;
    proxy_begun = λ x h at. grind (
      arith,
      t.router (g.bypass o).proxy,
      same_key_tells (g.bypass o).proxy k,
      t.here,
      (law o).proxy_begun x,
      (law o).proxy_begun r,
    );
    proxy_end = λ x h at. grind (
      arith,
      t.router (g.bypass o).proxy,
      same_key_tells (g.bypass o).proxy k,
      t.here,
      (law o).proxy_end x,
      (law o).proxy_end r,
    );
    across_old = λ h s. passes-same t.one _ (grind (arith, a.outward)) (side_router g (Central o) (across_side g o)) ∙
        (law o).across_old h s;
    across_marked = λ h s. passes-same t.one _ a.marked (side_router g (Central o) (across_side g o)) ∙ (law o).across_marked h s;
    across_free = λ h s. passes-same t.one _ (grind (arith, a.holds)) (side_router g (Central o) (across_side g o)) ∙
        (law o).across_free h s;
    across_fresh = λ h s. passes-same t.one _ (grind (arith, a.outward)) (side_router g (fresh_of g o) (across_side g o)) ∙
        (law o).across_fresh h s;
    inner_primary = λ q h is. passes-same t.one _ (grind (arith, a.outward)) (Some q) ∙ (law o).inner_primary q h is;
    inner_decaying = λ h s. passes-same t.one _ (grind (arith, a.outward)) (side_router g (inner_of g o) B) ∙ (law o).inner_decaying h
        s;
  }

  pub terminals-touched : Terminals w g → Terminals v g
  terminals-touched law = record {
    each = each-by w v k y (HasTerminal g) (HasTerminal g) t.router (λ q z is. is) law.each
        (terminal-kept {g = g} {h = g} (λ e. refl) a.end (λ m. grind (arith, a.inward, m)) (law.each k r t.here));
    stands = λ e q is. passes-same t.one _ (grind (arith, a.inward, a.end)) (Some q) ∙ law.stands e q is;
    link_opened = λ link s h. law.link_opened link s (sym (recorded_same w v k r y g t link) ∙ h);
    both = law.both;
    unopened = law.unopened;
    other_pair = law.other_pair;
  }
