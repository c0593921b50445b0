-- The record of a bypass goes a stage further, from 3 or 4: links, words and stages are as before.
use Rattle.ipcz_world.proofs.frames.Sealing.{begun_of}
use Rattle.ipcz_world.proofs.frames.Roles.{begun-kept, Inward, FitsOut, HasRole, Roles, BegunRecords, until, until-same, until-most}
use Rattle.ipcz_world.proofs.frames.RolesKept.{knows-agree, Knows, role-kept}
use Rattle.ipcz_world.proofs.Vocabulary.{HasShape, opposite_end, Side, A, B, LinkId, Central, Peripheral, Descriptor, Item, opposite}
use Rattle.ipcz_world.proofs.Vocabulary.{has_link, word_of, Router, inward_edge, World, Key, same_key, word_at, router_at, Books, Records}
use Rattle.ipcz_world.proofs.Vocabulary.{is_recorded, bypass_of, inner_link, side_node, side_router, side_end, proxy_side, across_side, known_from, side_length}
use Rattle.ipcz_world.proofs.Vocabulary.{is_attached, view, has_primary, has_decaying, has_inward_decaying, key_passes, IsUnderWay, is_made_before}
use Rattle.ipcz_world.proofs.Vocabulary.{Shape, Stands, Words, BypassRecords, Stages, inner_of, is_done, is_sink, is_retired}
use Rattle.ipcz_world.proofs.Vocabulary.{RetiredEnds, Gones, is_left, is_proxy, decays, has_inward_primary, is_begun_router, has_role, fresh_of}
use Rattle.std.specs.Prelude.{◌||◌}
use Rattle.ipcz_world.proofs.frames.Sealing.{retired_ends_of, gones_of}
use Rattle.ipcz_world.proofs.frames.GonesKept.{IsGoneLike, gones-by}
use Rattle.ipcz_world.proofs.frames.Unmoved.{is_left-agree, bypass_of-agree}
use Rattle.ipcz_world.proofs.frames.Sourcing.{sourced-by}
use Rattle.ipcz_word.specs.Word.{Word}
use Rattle.std.specs.Prelude.{◌≡◌, ◌≢◌, ◌⊎◌, ◌≤◌, ℕ, suc, Bool, true, false, cond, nat_eq, is_some, is_none, not, Option, Some, None, List}
use Rattle.std.specs.Prelude.{refl}
use Rattle.std.proofs.Common.{arith, ap, ◌∙◌, sym, inl, inr}
use Rattle.std.proofs.lemmas.Bool.Decides.{nat_tests}
use Rattle.ipcz_base.specs.declared.message.Message.TheVariants as messages
use Rattle.ipcz_world.proofs.frames.Frames.{same_key_tells, same_key-itself, one_or_before}
use Rattle.ipcz_world.proofs.facts.RecordsAfter.{set_bypass}
use Rattle.ipcz_world.proofs.frames.Unmoved.{IsLike, Changed, Carried, Agree, side_node-agree, side_end-agree, proxy_side-agree}
use Rattle.ipcz_world.proofs.frames.Unmoved.{is_recorded-kept, key_passes-kept}
use Rattle.ipcz_world.proofs.frames.Viewing.{IsSameView, view-kept}
use Rattle.ipcz_world.proofs.facts.Lengths.{length-old, length-proxy, length-inner, length-live, length-none, known_from-yes}
use Rattle.ipcz_world.proofs.frames.Sealing.{Sealed, shape_of, stands_of, words_of, bypasses_of, stages_of, roles_of}
use Rattle.ipcz_world.proofs.frames.BypassesKept.{bypasses-alike}
use Rattle.ipcz_world.proofs.frames.WordsKept.{word-kept}

-- two routers with the same links, marked alike
pub record IsLinkedLike (r x : Router) : Type 0 where
  pub primary : x.outward.primary ≡ r.outward.primary
  pub decaying : x.outward.decaying ≡ r.outward.decaying
  pub inward_primary : (inward_edge x).primary ≡ (inward_edge r).primary
  pub inward_decaying : (inward_edge x).decaying ≡ (inward_edge r).decaying
  pub marked : x.marked ≡ r.marked
  pub holds : x.holds ≡ r.holds

-- an item under way has before it what made its receiver, if it had
pub record StillMade (w v : World) (carried : Carried w v) : Type 0 where
  pub made : (a c i : ℕ) (link : LinkId) (s : Side) (n : ℕ) (item : Item) (moves : List Descriptor) →
      IsUnderWay v a c i (messages.Item link s n item moves) → is_made_before w a c (carried.place a c i) link s ≡ true →
      is_made_before v a c i link s ≡ true

some_none : {X : Type 0} (t : Option X) → is_some t ≡ not (is_none t)
some_none None = refl
some_none (Some y) = refl

pub proxy_like : (r x : Router) → IsLike r x → is_proxy x ≡ is_proxy r
proxy_like r x like = some_none x.inward ∙ ap not like.terminal ∙ sym (some_none r.inward)

sink_like : (r x : Router) → IsLike r x → is_sink r ≡ true → is_sink x ≡ true
sink_like r x like h = rw (like.terminal, like.closed) h

fit_like : (r x : Router) → IsLike r x → (is_proxy r || is_done r) ≡ true → (is_proxy x || is_done x) ≡ true
fit_like r x like h = rw (proxy_like r x like, like.closed, like.mark_dropped, like.out_queue) h

role_like : (r x : Router) → IsLike r x → IsLinkedLike r x → has_role x ≡ has_role r
role_like r x like linked = rw (like.terminal, linked.primary, linked.inward_primary, linked.inward_decaying) refl

decays_like : (r x : Router) → IsLinkedLike r x → decays x ≡ decays r
decays_like r x linked = rw (linked.decaying, linked.inward_decaying) refl

shape_like : (r x : Router) → IsLike r x → IsLinkedLike r x → HasShape r → HasShape x
shape_like r x like linked law = record {
  role = role_like r x like linked ∙ law.role;
  marked_central = λ m. ap (λ u. is_some (word_of u)) linked.primary ∙ law.marked_central (sym linked.marked ∙ m);
  marked_still = λ m. decays_like r x linked ∙ law.marked_still (sym linked.marked ∙ m);
  holds_marked = λ m. linked.marked ∙ law.holds_marked (sym linked.holds ∙ m);
  holds_fit = λ m. fit_like r x like (law.holds_fit (sym linked.holds ∙ m));
  holds_spare = λ m a. ap is_some like.spare ∙ law.holds_spare (sym linked.holds ∙ m) (sym (proxy_like r x like) ∙ a);
  dropped_sink = λ m. sink_like r x like (law.dropped_sink (sym like.mark_dropped ∙ m));
  sent_proxy = λ m. ap is_some linked.inward_primary ∙ law.sent_proxy (sym like.gone_sent ∙ m);
  spare_proxy = λ i e. proxy_like r x like ∙ law.spare_proxy i (sym like.spare ∙ e);
  spare_central = λ i e. ap (λ o. is_some (word_of o)) linked.primary ∙ law.spare_central i (sym like.spare ∙ e);
}

pub gone_like : (r x : Router) → IsLike r x → IsLinkedLike r x → IsGoneLike r x
gone_like r x like linked = record {
  end = like.end;
  current = ap (λ q. q.current) like.in_queue;
  out = ap (λ q. q.current) like.out_queue;
  terminal = like.terminal;
  inner = linked.inward_primary;
  primary = linked.primary;
  sent = like.gone_sent;
  dropped = like.mark_dropped;
  closed = like.closed;
  still = λ h. decays_like r x linked ∙ h;
}

pub begun_like : (r x : Router) → IsLike r x → IsLinkedLike r x → is_begun_router x ≡ is_begun_router r
begun_like r x like linked = rw (proxy_like r x like, linked.inward_primary) refl

module _ {w v : World} {b : Books} {g : Records} {k : Key} {r x : Router} {o s : ℕ} (law : Sealed w b g) (c : Changed w v k r x)
    (like : IsLike r x) (linked : IsLinkedLike r x) (carried : Carried w v) (at : (g.bypass o).stage ≡ s) (late : 3 ≤ s)
    (early : s ≤ 4) where
  abbrev pub h : Records
  h = set_bypass g o (record (g.bypass o) { stage = suc s })

  pub at_o : (j : ℕ) → ((nat_eq j o ≡ true) × (j ≡ o)) ⊎ ((nat_eq j o ≡ false) × (j ≢ o))
  at_o j = grind (arith, nat_tests)

  pub stage_at : (j : ℕ) → (h.bypass j).stage ≡ cond (nat_eq j o) (suc s) (g.bypass j).stage
  stage_at j = grind (arith, at_o j)

  pub agree : Agree g h
  agree = record {
    owner = λ i. refl;
    pair = λ i. refl;
    node = λ i t. refl;
    born = λ i. refl;
    left = λ i. refl;
    peripheral = λ p. refl;
    terminal = λ t. refl;
    begun = λ q. refl;
    proxy = λ j. grind (arith, at_o j);
    inner = λ j. grind (arith, at_o j);
    fresh = λ j. grind (arith, at_o j);
    is_begun = λ j. grind (arith, at_o j, at, late, nat_tests);
  }

  pub taken_same : (j : ℕ) → (h.bypass j).taken_at ≡ (g.bypass j).taken_at
  taken_same j = grind (arith, at_o j)

  pub accepted_same : (j : ℕ) → (h.bypass j).accepted_at ≡ (g.bypass j).accepted_at
  accepted_same j = grind (arith, at_o j)

  pub at_least : (j n : ℕ) → n ≤ 3 → n ≤ (h.bypass j).stage → n ≤ (g.bypass j).stage
  at_least j n l p = grind (arith, at_o j, at, late, l, p)

  at_most : (j n : ℕ) → (h.bypass j).stage ≤ n → (g.bypass j).stage ≤ n
  at_most j n p = grind (arith, at_o j, at, p)

  just : (j n : ℕ) → n ≤ 3 → (h.bypass j).stage ≡ n → (g.bypass j).stage ≡ n
  just j n l p = grind (arith, at_o j, at, late, l, p)

  known_same : (j first n : ℕ) → first ≤ 3 → known_from first (h.bypass j).stage n ≡ known_from first (g.bypass j).stage n
  known_same j first n l = grind (arith, at_o j, at, late, l, known_from-yes first (suc s) n, known_from-yes first s n)

  pub router_same : (link : LinkId) (t : Side) → side_router h link t ≡ side_router g link t
  unfolding side_router
  router_same (Central i) t = refl
  router_same (Peripheral n p) A = refl
  router_same (Peripheral n p) B = refl

  pub left_same : (link : LinkId) (t : Side) → is_left h link t ≡ is_left g link t
  left_same = is_left-agree g h agree

  pub proxy_side_same : (j : ℕ) → proxy_side h j ≡ proxy_side g j
  proxy_side_same j = proxy_side-agree g h agree j

  pub across_side_same : (j : ℕ) → across_side h j ≡ across_side g j
  across_side_same j = ap opposite (proxy_side_same j)

  pub length_same : (link : LinkId) (t : Side) → side_length h link t ≡ side_length g link t
  length_same (Central i) t = grind (
    arith,
    length-old h i t,
    length-old g i t,
    length-live h i t,
    length-live g i t,
    agree.is_begun i,
    proxy_side_same i,
    known_same i 3 (g.bypass i).taken_at,
    known_same i 3 (g.bypass i).accepted_at,
    taken_same i,
    accepted_same i,
  )
  length_same (Peripheral n p) A = go (g.peripheral (record { node = n; serial = p })).by refl
    where
      go : (t : Option ℕ) → (g.peripheral (record { node = n; serial = p })).by ≡ t →
          side_length h (Peripheral n p) A ≡ side_length g (Peripheral n p) A
      go None e = length-none h (record { node = n; serial = p }) A e ∙ sym (length-none g (record { node = n; serial = p }) A e)
      go (Some j) e = length-proxy h (record { node = n; serial = p }) j e ∙ ap (known_from 3 (h.bypass j).stage) (accepted_same j) ∙
          known_same j 3 (g.bypass j).accepted_at (omega arith) ∙ sym (length-proxy g (record { node = n; serial = p }) j e)
  length_same (Peripheral n p) B = go (g.peripheral (record { node = n; serial = p })).by refl
    where
      go : (t : Option ℕ) → (g.peripheral (record { node = n; serial = p })).by ≡ t →
          side_length h (Peripheral n p) B ≡ side_length g (Peripheral n p) B
      go None e = length-none h (record { node = n; serial = p }) B e ∙ sym (length-none g (record { node = n; serial = p }) B e)
      go (Some j) e = length-inner h (record { node = n; serial = p }) j e ∙ ap (known_from 2 (h.bypass j).stage) (taken_same j) ∙
          known_same j 2 (g.bypass j).taken_at (omega arith) ∙ sym (length-inner g (record { node = n; serial = p }) j e)

  attached : (link : LinkId) (t : Side) → is_attached link t x ≡ is_attached link t r
  unfolding is_attached
  attached (Central i) t = rw (linked.primary, linked.decaying) refl
  attached (Peripheral n p) A = rw (linked.inward_primary, linked.inward_decaying) refl
  attached (Peripheral n p) B = rw (linked.primary, linked.decaying) refl

  pub view_same : (link : LinkId) (t : Side) → IsSameView link t (view v h link t) (view w g link t)
  view_same link t = view-kept w v g h k r x c agree like link t (router_same link t) (λ m. attached link t)

  pub recorded_same : (link : LinkId) → is_recorded v h link ≡ is_recorded w g link
  recorded_same = is_recorded-kept w v g h k r x c agree

  pub node_same : (link : LinkId) (t : Side) → side_node h link t ≡ side_node g link t
  node_same = side_node-agree g h agree

  passes_same : (link : LinkId) (t : Side) (test : Router → Bool) → test x ≡ test r →
      key_passes v (side_router h link t) test ≡ key_passes w (side_router g link t) test
  passes_same link t test e = ap (λ q. key_passes v q test) (router_same link t) ∙ key_passes-kept w v g h k r x c agree
      (side_router g link t) test e

  -- what a router was before
  pub record Was (q : Key) (t : Router) : Type 0 where
    pub router : Router
    pub here_before : router_at w q ≡ Some router
    pub alike : IsLike router t
    pub linked_alike : IsLinkedLike router t

  pub was_router : (q : Key) (t : Router) → router_at v q ≡ Some t → Was q t
  was_router q t e = go (same_key_tells q k)
    where
      go : ((same_key q k ≡ true) × (q ≡ k)) ⊎ ((same_key q k ≡ false) × (q ≢ k)) → Was q t
      go (inl m) = let same : x ≡ t = grind (arith, c.router q, e, m.0) in
          record { router = r; here_before = rw m.1 c.here; alike = rw (← same) like; linked_alike = rw (← same) linked }
      go (inr m) = record {
        router = t;
        here_before = grind (arith, c.router q, e, m.0);
        alike = record { end = refl; out_queue = refl; in_queue = refl; terminal = refl; closed = refl; mark_seen = refl; mark_dropped = refl; gone_sent = refl; spare = refl };
        linked_alike = record {
          primary = refl;
          decaying = refl;
          inward_primary = refl;
          inward_decaying = refl;
          marked = refl;
          holds =
              refl;
        };
      }

  pub shape-further : Shape v
  shape-further q t e = let z : Was q t = was_router q t e in
      shape_like z.router t z.alike z.linked_alike (shape_of law q z.router z.here_before)

  pub knows : Knows w v g h
  knows = knows-agree agree recorded_same (λ l t q e. router_same l t ∙ e) (λ j. grind (arith, at_o j, at))

  -- a bypass that goes further here isn't one of a link that is primary still
  pub stays-further : (l : LinkId) (t : Side) → ((j : ℕ) → bypass_of g l ≡ Some j → (g.bypass j).stage ≤ until g j l t) →
      (j : ℕ) → bypass_of h l ≡ Some j → (h.bypass j).stage ≤ until h j l t
  stays-further l t low j by = let m = low j (sym (bypass_of-agree g h agree l) ∙ by) in rw (until-same g h j l t (proxy_side_same j))
      (grind (arith, at_o j, at, late, m, until-most g j l t))

  -- the routers have their roles still, if the lengths that another stage tells are known where it tells them
  pub roles-further : ((q : Key) (j n : ℕ) → (q ≡ k → ⊥) → FitsOut g q (Inward j) → known_from 5 (h.bypass j).stage n ≡ known_from 5 (g.bypass j).stage n) →
      ((q : Key) (j n : ℕ) → (q ≡ k → ⊥) → g.begun q ≡ Some j → known_from 4 (h.bypass j).stage n ≡ known_from 4 (g.bypass j).stage n) →
      HasRole v h k x → Roles v h
  roles-further inward proxy own q z e = elim (one_or_before w v k x c.router q z e) [
    | inl a ↦ rw (a.0, ← a.1) own
    | inr a ↦ let apart : (q ≡ k → ⊥) = λ m. grind (arith, m, a.0, same_key-itself k) in role-kept knows (bypasses_of law) (begun_of law).begun_stage (record {
      stays = λ d l t on. stays-further l t on.stays;
      begun = λ j n. n;
      across = λ j f. (accepted_same j, taken_same j);
      inward = λ j f. (taken_same j, ap (known_from 5 (h.bypass j).stage) (accepted_same j) ∙ inward q j _ apart f);
      proxy = λ j n. (
        ap (known_from 4 (h.bypass j).stage) (taken_same j) ∙ proxy q j _ apart n,
        ap (known_from 4 (h.bypass j).stage) (accepted_same j) ∙ proxy q j _ apart n,
      );
    }) z (roles_of law q z a.1)
  ]

  pub stands-further : Stands v h
  stands-further = record {
    central = λ i t q l n nl m. key_passes-kept w v g h k r x c agree (Some q) (has_primary (Central i) t)
        (ap (λ u. has_link u (Central i) t) linked.primary) ∙ (stands_of law).central i t q l (sym (agree.is_begun i) ∙ n)
        (sym (left_same (Central i) t) ∙ nl)
        (sym (router_same (Central i) t) ∙ m);
    awaited = λ i t l n. (stands_of law).awaited i t l n;
    awaited_stage = λ i t j l n m. let e : (g.bypass j).stage ≡ 2 = (stands_of law).awaited_stage i t j l n m in
        grind (arith, at_o j, e, at, late);
    awaited_side = λ i t j l n m. (stands_of law).awaited_side i t j l n m ∙ sym (across_side_same j);
    proxy = λ p l n nl. passes_same (inner_link p) A (has_inward_primary (inner_link p) A)
        (ap (λ u. has_link u (inner_link p) A) linked.inward_primary) ∙ (stands_of law).proxy p
        (sym (recorded_same (inner_link p)) ∙ l) n (sym (left_same (inner_link p) A) ∙ nl);
    inner = λ p q l n nl m. key_passes-kept w v g h k r x c agree (Some q) (has_primary (inner_link p) B)
        (ap (λ u. has_link u (inner_link p) B) linked.primary) ∙ (stands_of law).inner p q (sym (recorded_same (inner_link p)) ∙ l) n
        (sym (left_same (inner_link p) B) ∙ nl)
        (sym (router_same (inner_link p) B) ∙ m);
    by_begun = λ p j n. agree.is_begun j ∙ (stands_of law).by_begun p j n;
    by_inner = λ p j n. agree.inner j ∙ (stands_of law).by_inner p j n;
    left_recorded = λ l t n. recorded_same l ∙ (stands_of law).left_recorded l t (sym (left_same l t) ∙ n);
    left_known = λ l t n. ap is_some (router_same l t) ∙ (stands_of law).left_known l t (sym (left_same l t) ∙ n);
    left_gone = λ l t n. passes_same l t (λ y. true) refl ∙ (stands_of law).left_gone l t (sym (left_same l t) ∙ n);
    left_live = λ l t n. bypass_of-agree g h agree l ∙ (stands_of law).left_live l t (sym (left_same l t) ∙ n);
  }

  pub retired-further : RetiredEnds b h
  retired-further = record {
    retired = (retired_ends_of law).retired;
    peer_closed = (retired_ends_of law).peer_closed;
    peer_stays = (retired_ends_of law).peer_stays;
    all_read = (retired_ends_of law).all_read;
    gone_read = (retired_ends_of law).gone_read;
    no_bypass = λ j t l m. (retired_ends_of law).no_bypass j t (at_least j 1 (omega arith) l) (at_most j 4 m);
    left = λ e i a l n p. left_same (Central i) e.side ∙ (retired_ends_of law).left e i a l (sym (agree.is_begun i) ∙ n) p;
    left_of = λ l t n. ap (λ d. is_retired b d || is_retired b (opposite_end d)) (side_end-agree g h agree l t) ∙
        (retired_ends_of law).left_of l t (sym (left_same l t) ∙ n);
    accepted = λ j l. rw (accepted_same j, across_side_same j) ((retired_ends_of law).accepted j (at_least j 3 (omega arith) l));
  }

  pub gones-further : Gones v b h
  gones-further = gones-by w v b g h (λ q t e. let z : Was q t = was_router q t e in
      record { router = z.router; at = z.here_before; alike = gone_like z.router t z.alike z.linked_alike })
      (λ l t n. sym (left_same l t) ∙ n) (gones_of law)

  pub words-further : ((i : ℕ) → word_at v i ≡ word_at w i) → Words v h
  words-further same = record {
    each = λ i. word-kept {w = w}
        (record {
          word = same i;
          linked = refl;
          begun = agree.is_begun i;
          early = at_most i 2;
          side = λ b. proxy_side_same i;
          inner = λ b. ap (λ p. side_node h (inner_link p) B) (agree.inner i) ∙ node_same (inner_link (g.bypass i).inner) B;
          left = left_same (Central i);
          marked = λ s l b n. passes_same (Central i) s (λ y. y.marked) linked.marked;
          holds = λ s l b n. passes_same (Central i) s (λ y. y.holds) linked.holds;
        })
        ((words_of law).each i);
    source = sourced-by w v (λ q t e m. let z : Was q t = was_router q t e in record {
      router = z.router;
      at = z.here_before;
      primary = z.linked_alike.primary;
      inward = z.linked_alike.inward_primary;
      holds = λ m. sym z.linked_alike.holds ∙ m;
    })
        (λ q t e i at p l. ap (λ (z : Word). z.source) (same i)) (words_of law).source;
  }

  pub stages-further : Stages v h
  stages-further j = record {
    proxy_old = λ n l. rw (agree.proxy j, proxy_side_same j) (key_passes-kept w v g h k r x c agree (Some (g.bypass j).proxy)
        (has_decaying (Central j) (proxy_side g j)) (ap (λ u. has_link u (Central j) (proxy_side g j)) linked.decaying)
        ∙ (stages_of law j).proxy_old (sym (agree.is_begun j) ∙ n) (at_most j 3 l));
    proxy_inner = λ n l. rw (agree.proxy j, agree.inner j) (key_passes-kept w v g h k r x c agree (Some (g.bypass j).proxy)
        (has_inward_decaying (inner_of g j) A) (ap (λ u. has_link u (inner_of g j) A) linked.inward_decaying)
        ∙ (stages_of law j).proxy_inner (sym (agree.is_begun j) ∙ n) (at_most j 3 l));
    proxy_begun = λ t n e. let z : Was (g.bypass j).proxy t =
        was_router (g.bypass j).proxy t (ap (router_at v) (sym (agree.proxy j)) ∙ e)
        in
        begun_like z.router t z.alike z.linked_alike ∙ (stages_of law j).proxy_begun z.router (sym (agree.is_begun j) ∙ n) z.here_before;
    proxy_end = λ t n e. let z : Was (g.bypass j).proxy t = was_router (g.bypass j).proxy t (ap (router_at v) (sym (agree.proxy j)) ∙ e)
        in
        z.alike.end ∙ (stages_of law j).proxy_end z.router (sym (agree.is_begun j) ∙ n) z.here_before ∙ sym
        (ap (λ p. side_end h (inner_link p) A) (agree.inner j) ∙ side_end-agree g h agree (inner_of g j) A);
    across_old = λ n l. rw (across_side_same j) (passes_same (Central j) (across_side g j) (has_primary (Central j) (across_side g j))
        (ap (λ u. has_link u (Central j) (across_side g j)) linked.primary) ∙ (stages_of law j).across_old (sym (agree.is_begun j) ∙ n)
        (at_most j 2 l));
    across_marked = λ n l. rw (across_side_same j) (passes_same (Central j) (across_side g j) (λ y. y.marked) linked.marked ∙
        (stages_of law j).across_marked (sym (agree.is_begun j) ∙ n) (at_most j 2 l));
    across_free = λ n l. rw (across_side_same j) (passes_same (Central j) (across_side g j) (λ y. not y.holds) (ap not linked.holds) ∙
        (stages_of law j).across_free (sym (agree.is_begun j) ∙ n) (at_most j 2 l));
    across_fresh = λ l m. rw (agree.fresh j, across_side_same j)
        (passes_same (fresh_of g j) (across_side g j) (has_primary (fresh_of g j) (across_side g j))
        (ap (λ u. has_link u (fresh_of g j) (across_side g j)) linked.primary) ∙ (stages_of law j).across_fresh
        (at_least j 3 (omega arith) l) (at_most j 4 m));
    inner_primary = λ q l m. rw (agree.inner j) (key_passes-kept w v g h k r x c agree (Some q) (has_primary (inner_of g j) B)
        (ap (λ u. has_link u (inner_of g j) B) linked.primary)
        ∙ (stages_of law j).inner_primary q (just j 1 (omega arith) l)
        (sym (router_same (inner_of g j) B) ∙ ap (λ p. side_router h (inner_link p) B) (sym (agree.inner j)) ∙ m));
    inner_decaying = λ l m. rw (agree.inner j) (passes_same (inner_of g j) B (has_decaying (inner_of g j) B)
        (ap (λ u. has_link u (inner_of g j) B) linked.decaying) ∙ (stages_of law j).inner_decaying (at_least j 2 (omega arith) l)
        (at_most j 4 m));
  }

  pub bypasses-further : BypassRecords v h
  bypasses-further = bypasses-alike {w = w}
      (record {
        same = λ j. record {
          proxy = agree.proxy j;
          inner = agree.inner j;
          fresh = agree.fresh j;
          most = λ m. grind (arith, stage_at j, m, early);
          begun = λ n. sym (agree.is_begun j) ∙ n;
          first = just j 1 (omega arith);
          second = just j 2 (omega arith);
          third = at_least j 3 (omega arith);
          back = λ m. grind (arith, m, at_o j, at, late);
        };
        central = λ i. refl;
        peripheral = λ p. refl;
        linked = λ i. refl;
        link = λ i e. e;
        fresh = λ j i e. e;
        recorded = λ p. recorded_same (inner_link p);
      })
      (bypasses_of law)

  pub begun-further : BegunRecords h
  begun-further = begun-kept agree.proxy agree.is_begun (λ q. refl) (begun_of law)
