-- A world without routers, words, messages and books is lawful.
use Rattle.ipcz_world.proofs.frames.Roles.{Roles, BegunRecords}
use Rattle.std.specs.Prelude.{false}
use Rattle.ipcz_world.proofs.Vocabulary.{Weight, in_router, at_end, names_end, times, Side, End, LinkId, Central, Peripheral, Descriptor, Message}
use Rattle.ipcz_world.proofs.Vocabulary.{opposite_end, has_end, has, place_at, total, total_list, Router, Word, empty_word, outbox, Empty, World, Key}
use Rattle.ipcz_world.proofs.Vocabulary.{node_at, word_at, mail_at, router_at, way, flow, messages_in, hand_message, Records, Owner, Spare, Opening}
use Rattle.ipcz_world.proofs.Vocabulary.{Fresh, Terminal, At, is_linked, is_unclaimed, is_recorded, inner_link, is_nowhere, IsUnderWay, under_way}
use Rattle.ipcz_world.proofs.Vocabulary.{of_end, moves_of, Counts, Ordered, Shape, Stands, Words, Spares, BypassRecords, Stages}
use Rattle.ipcz_world.proofs.Vocabulary.{Controls, of_bypass, control_weight, Terminals, EndPlaces, BooksKept, Conserved, HeldOnce, times_held, Items}
use Rattle.ipcz_world.proofs.Vocabulary.{Order, ProxyNumbers, FreshNumbers, Inv, RetiredEnds, Gones, LiveLinks, no_books, Unclaimed, Nowhere, Retired}
use Rattle.ipcz_world.proofs.Vocabulary.{is_left, Moves, move_weight}
use Rattle.ipcz_world.proofs.frames.LiveLinks.{first_begun}
use Rattle.ipcz_world.specs.Places.{in_node as in_node', in_places as in_places'}
use Rattle.std.specs.Prelude.{◌≡◌, ◌<◌, ◌+◌, ℕ, Bool, true, cond, nat_le, Some, None, is_some, refl, List, [], ◌++◌, slice_get}
use Rattle.std.specs.Ordering.{nat_cmp}
use Rattle.std.specs.FinMap.{get, empty, get-empty}
use Rattle.std.proofs.Common.{arith, ap, ◌∙◌, sym}
use Rattle.std.proofs.lemmas.Bool.Decides.{nat_tests}
use Rattle.std.proofs.lemmas.Option.{none-some}
use Rattle.ipcz_base.proofs.Totals.{total-empty}
use Rattle.ipcz_world.proofs.frames.OfRecords.{in_message, in_places, holds, held_times, none_holder}
use Rattle.std.specs.FinSet as sets
use Rattle.ipcz_base.specs.Orders.{end_cmp}
use Rattle.ipcz_world.proofs.frames.Booking.{flag}
use Rattle.ipcz_world.proofs.frames.Changing.{flow_is}
use Rattle.ipcz_world.proofs.facts.Tests.{not_both}
use Rattle.ipcz_world.proofs.frames.Sums.{total_below-none}

-- nothing stands in the world
pub record IsBare (w : World) : Type 0 where
  pub node : (n : ℕ) → n < w.count → (node_at w n).number ≡ n
  pub nodes : (n : ℕ) → n < w.count → (node_at w n).count ≡ w.count
  pub routers : (n : ℕ) → (node_at w n).routers ≡ empty
  pub outboxes : (n to : ℕ) → outbox (node_at w n) to ≡ []
  pub pending : (n : ℕ) → (node_at w n).pending ≡ []
  pub strays : (n : ℕ) → (node_at w n).strays ≡ []
  pub no_held : (n : ℕ) → (node_at w n).held ≡ sets.empty
  pub hand : (n : ℕ) → (node_at w n).hand ≡ None
  pub opening : (n : ℕ) → (node_at w n).opening ≡ None
  pub next_peripheral : (n : ℕ) → (node_at w n).next_peripheral ≡ 0
  pub claimed : w.claimed ≡ 0
  pub word : (i : ℕ) → word_at w i ≡ empty_word
  pub mail : (i : ℕ) → mail_at w i ≡ Empty

-- nothing is remembered
pub record IsUnnoted (g : Records) : Type 0 where
  pub owner : (i : ℕ) → g.owner i ≡ Unclaimed
  pub stage : (o : ℕ) → (g.bypass o).stage ≡ 0
  pub by : (p : Key) → (g.peripheral p).by ≡ None
  pub begun : (k : Key) → g.begun k ≡ None
  pub terminal : (e : End) → g.terminal e ≡ Nowhere
  pub left : (l : LinkId) (s : Side) → is_left g l s ≡ false

not_linked : (o : Owner) → o ≡ Unclaimed → is_linked o ≡ true → ⊥
unfolding is_linked
not_linked o e h = grind (arith, e, h)

unclaimed-bare : (o : Owner) → o ≡ Unclaimed → is_unclaimed o ≡ true
unfolding is_unclaimed
unclaimed-bare o e = rw e refl

pub not_spare : (k : Key) → Unclaimed ≡ Spare k → ⊥
not_spare k h = cc

not_opening : (n : ℕ) → Unclaimed ≡ Opening n → ⊥
not_opening n h = cc

pub not_fresh : (o : ℕ) → Unclaimed ≡ Fresh o → ⊥
not_fresh o h = cc

moves_none : (h : Descriptor → ℕ) (t : Terminal) → t ≡ Nowhere → move_weight h t ≡ 0
unfolding move_weight
moves_none h t e = rw e refl

weighs_none : (c : Bool) → c ≡ true → 0 + cond c 0 1 ≡ 0
weighs_none c e = rw e refl

nowhere : (t : Terminal) → t ≡ Nowhere → is_nowhere t ≡ true
unfolding is_nowhere
nowhere t e = rw e refl

not_begun : (n : ℕ) → n ≡ 0 → nat_le 1 n ≡ true → ⊥
not_begun n e h = grind (arith, e, h, nat_tests)

nowhere_at : (k : Key) → Nowhere ≡ At k → ⊥
nowhere_at k h = cc

nowhere_retired : Nowhere ≡ Retired → ⊥
nowhere_retired h = cc

no_link : (w : World) (g : Records) (l : LinkId) → ((n : ℕ) → (node_at w n).next_peripheral ≡ 0) → ((i : ℕ) → g.owner i ≡ Unclaimed) →
    is_recorded w g l ≡ true → ⊥
unfolding is_recorded
no_link w g (Central i) none owner h = not_linked (g.owner i) (owner i) h
no_link w g (Peripheral n s) none owner h = grind (arith, none n, h, nat_tests)

no_end : (e : End) (es : List End) → es ≡ [] → has_end e es ≡ true → ⊥
no_end e es q h = grind (arith, q, h)

no_holder : (x : Word) (s : Side) → x ≡ empty_word → has x.holder s ≡ true → ⊥
no_holder x s q h = not_both (has x.holder s) h (ap (λ (y : Word). has y.holder s) q ∙ none_holder s)

expected-none : (g : Records) (h : ℕ → ℕ → Message → ℕ) (o : ℕ) → (g.bypass o).stage ≡ 0 → control_weight g h o ≡ 0
unfolding control_weight
expected-none g h o e = rw e refl

module _ (w : World) (g : Records) (world : IsBare w) (noted : IsUnnoted g) where
  no_router : (k : Key) (r : Router) → router_at w k ≡ Some r → ⊥
  unfolding router_at
  no_router k r h = none-some r (sym (ap (λ m. get m k.serial) (world.routers k.node) ∙ get-empty {X = Router} nat_cmp k.serial) ∙ h)

  no_flow : (from to : ℕ) → flow w from to ≡ []
  unfolding messages_in place_at
  no_flow from to = flow_is w from to ∙ ap (λ x. messages_in x ++ outbox (node_at w from) to) (world.mail (way w from to)) ∙ world.outboxes
      from to

  no_message : (from to i : ℕ) (m : Message) → IsUnderWay w from to i m → ⊥
  no_message from to i m u = none-some m (sym (ap (λ ms. slice_get ms i) (no_flow from to)) ∙ u.place)

  no_hand : (i : ℕ) → is_some (hand_message (mail_at w i)) ≡ true → ⊥
  unfolding hand_message
  no_hand i h = grind (arith, world.mail i, h)

  totals : (h : ℕ → ℕ → Message → ℕ) → under_way h w ≡ 0
  unfolding under_way
  totals h = total_below-none w.count _ (λ from. total_below-none w.count _ (λ to. ap (total_list (h from to)) (no_flow from to)))

  places : (f : Weight) → in_places f g w ≡ 0
  unfolding in_places' in_node'
  places f = omega (
    arith,
    totals (λ from to m. in_message f g m),
    total_below-none w.count (λ n. total (λ serial r. in_router f r) (node_at w n).routers + total_list (in_message f g)
        (node_at w n).strays) node,
  )
    where
      node : (n : ℕ) → total (λ serial r. in_router f r) (node_at w n).routers + total_list (in_message f g) (node_at w n).strays ≡ 0
      node n = omega (
        arith,
        ap (total (λ serial r. in_router f r)) (world.routers n),
        total-empty nat_cmp (λ serial r. in_router f r),
        ap (total_list (in_message f g)) (world.strays n),
      )

  held : (e : End) → times_held w e ≡ 0
  held e = total_below-none w.count _ (λ n. omega (
    arith,
    ap (held_times e) (world.no_held n),
    ap flag (sets.contains-empty end_cmp e),
    ap (times e) (world.pending n),
  ))

  counts-bare : Counts w g
  counts-bare = record {
    node = world.node;
    nodes = world.nodes;
    claimed = omega (arith, world.claimed);
    unclaimed = λ i. unclaimed-bare (g.owner i) (noted.owner i) ∙ sym (ap (λ z. nat_le z i) world.claimed ∙ grind (arith, nat_tests));
    on_node = λ k r h1. absurd (no_router k r h1);
    serial = λ k r h1. absurd (no_router k r h1);
    side_serial = λ link s k h1 h2. absurd (no_link w g link (world.next_peripheral) (noted.owner) h1);
    side_on_node = λ link s h1. absurd (no_link w g link (world.next_peripheral) (noted.owner) h1);
    hand = λ n from h1 h2. absurd (none-some from (sym (world.hand n) ∙ h2));
    hand_from = λ n from h1 h2. absurd (none-some from (sym (world.hand n) ∙ h2));
    in_hand = λ n from h1 h2 h3. absurd (no_hand _ h3);
  }

  ordered-bare : Ordered w
  ordered-bare k r at = absurd (no_router k r at)

  shape-bare : Shape w
  shape-bare k r at = absurd (no_router k r at)

  roles-bare : Roles w g
  roles-bare k r at = absurd (no_router k r at)

  begun-bare : BegunRecords g
  begun-bare = record {
    begun_proxy = λ k o h1. absurd (none-some o (sym (noted.begun k) ∙ h1));
    begun_stage = λ k o h1. absurd (none-some o (sym (noted.begun k) ∙ h1));
    proxy_begun = λ o h1. absurd (not_begun (g.bypass o).stage (noted.stage o) h1);
  }

  stands-bare : Stands w g
  stands-bare = record {
    central = λ i s k h1 h2 h3 h4. absurd (not_linked (g.owner i) (noted.owner i) h1);
    awaited = λ i s h1 h2. absurd (not_linked (g.owner i) (noted.owner i) h1);
    awaited_stage = λ i s o h1 h2 h3. absurd (not_linked (g.owner i) (noted.owner i) h1);
    awaited_side = λ i s o h1 h2 h3. absurd (not_linked (g.owner i) (noted.owner i) h1);
    proxy = λ p h1 h2 h3. absurd (no_link w g (inner_link p) (world.next_peripheral) (noted.owner) h1);
    inner = λ p k h1 h2 h3 h4. absurd (no_link w g (inner_link p) (world.next_peripheral) (noted.owner) h1);
    by_begun = λ p o h1. absurd (none-some o (sym (noted.by p) ∙ h1));
    by_inner = λ p o h1. absurd (none-some o (sym (noted.by p) ∙ h1));
    left_recorded = λ l s h1. absurd (not_both (is_left g l s) h1 (noted.left l s));
    left_known = λ l s h1. absurd (not_both (is_left g l s) h1 (noted.left l s));
    left_gone = λ l s h1. absurd (not_both (is_left g l s) h1 (noted.left l s));
    left_live = λ l s h1. absurd (not_both (is_left g l s) h1 (noted.left l s));
  }

  live-bare : LiveLinks g
  live-bare = record {
    one_live = λ i j a c p d e. absurd (not_linked (g.owner i) (noted.owner i) a);
    none_live = λ o i s a p. absurd (not_linked (g.owner i) (noted.owner i) a);
    one_begun = λ o p s t e. absurd (not_begun (g.bypass o).stage (noted.stage o) (first_begun (g.bypass o).stage s));
  }

  words-bare : Words w g
  words-bare = record {
    each = λ i. record {
      unused = λ h1. world.word i;
      begun_stable = λ s h1. absurd (not_begun (g.bypass i).stage (noted.stage i) h1);
      begun_holder = λ s h1. absurd (not_begun (g.bypass i).stage (noted.stage i) h1);
      stable = λ s h1 h2 h3. absurd (not_linked (g.owner i) (noted.owner i) h1);
      holder = λ s h1 h2 h3. absurd (not_linked (g.owner i) (noted.owner i) h1);
      held_stable = λ s t h1. absurd (no_holder (word_at w i) s (world.word i) h1);
      one_holder = λ s t h1 h2. absurd (no_holder (word_at w i) s (world.word i) h1);
      begun_source = λ h1 h2. absurd (not_begun (g.bypass i).stage (noted.stage i) h1);
      left_held = λ s h1. absurd (not_both (is_left g (Central i) s) h1 (noted.left (Central i) s));
    };
    source = λ k r e i h1 h2 h3 h4. absurd (no_router k r h1);
  }

  spares-bare : Spares w g
  spares-bare = record {
    spare = λ k r i h1 h2. absurd (no_router k r h1);
    spare_back = λ k i h1. absurd (not_spare k (sym (noted.owner i) ∙ h1));
    opening = λ n i h1. absurd (none-some i (sym (world.opening n) ∙ h1));
    opening_back = λ n i h1. absurd (not_opening n (sym (noted.owner i) ∙ h1));
    fresh = λ o i h1. absurd (not_fresh o (sym (noted.owner i) ∙ h1));
    fresh_back = λ o i h1. absurd (not_fresh o (sym (noted.owner i) ∙ h1));
  }

  bypasses-bare : BypassRecords w g
  bypasses-bare o = record {
    stage = omega (arith, noted.stage o);
    old = λ h1. absurd (not_begun (g.bypass o).stage (noted.stage o) h1);
    inner = λ h1. absurd (not_begun (g.bypass o).stage (noted.stage o) h1);
    inner_by = λ h1. absurd (not_begun (g.bypass o).stage (noted.stage o) h1);
    pair = λ h1. absurd (not_begun (g.bypass o).stage (noted.stage o) h1);
    proxy_old = λ h1. absurd (not_begun (g.bypass o).stage (noted.stage o) h1);
    proxy_inner = λ h1. absurd (not_begun (g.bypass o).stage (noted.stage o) h1);
    across = λ h1. absurd (not_begun (g.bypass o).stage (noted.stage o) h1);
    fresh = λ h1. absurd (omega (arith, h1, noted.stage o));
    fresh_linked = λ h1. absurd (omega (arith, h1, noted.stage o));
    fresh_born = λ h1. absurd (omega (arith, h1, noted.stage o));
    fresh_pair = λ h1. absurd (omega (arith, h1, noted.stage o));
    inner_known = λ h1. absurd (omega (arith, h1, noted.stage o));
    fresh_inner = λ h1. absurd (omega (arith, h1, noted.stage o));
    fresh_inner_node = λ h1. absurd (omega (arith, h1, noted.stage o));
    fresh_across_node = λ h1. absurd (omega (arith, h1, noted.stage o));
    fresh_awaited = λ h1. absurd (omega (arith, h1, noted.stage o));
    fresh_across = λ h1. absurd (omega (arith, h1, noted.stage o));
    born_fresh = λ i h1 h2. absurd (not_linked (g.owner i) (noted.owner i) h1);
    born_stage = λ i h1 h2. absurd (not_linked (g.owner i) (noted.owner i) h1);
  }

  stages-bare : Stages w g
  stages-bare o = record {
    proxy_old = λ h1 h2. absurd (not_begun (g.bypass o).stage (noted.stage o) h1);
    proxy_inner = λ h1 h2. absurd (not_begun (g.bypass o).stage (noted.stage o) h1);
    proxy_begun = λ r h1 h2. absurd (not_begun (g.bypass o).stage (noted.stage o) h1);
    proxy_end = λ r h1 h2. absurd (not_begun (g.bypass o).stage (noted.stage o) h1);
    across_old = λ h1 h2. absurd (not_begun (g.bypass o).stage (noted.stage o) h1);
    across_marked = λ h1 h2. absurd (not_begun (g.bypass o).stage (noted.stage o) h1);
    across_free = λ h1 h2. absurd (not_begun (g.bypass o).stage (noted.stage o) h1);
    across_fresh = λ h1 h2. absurd (omega (arith, h1, noted.stage o));
    inner_primary = λ k h1 h2. absurd (omega (arith, h1, noted.stage o));
    inner_decaying = λ h1 h2. absurd (omega (arith, h1, noted.stage o));
  }

  controls-bare : Controls w g
  controls-bare = record {
    control = λ o h. totals (λ from to. of_bypass g o (h from to)) ∙ sym (expected-none g h o (noted.stage o));
    will_stop = λ from to i link s n h1. absurd (no_message _ _ _ _ h1);
    behind = λ from to i link s old target fresh h1 h2. absurd (no_message _ _ _ _ h1);
    flush_central = λ from to i link s h1. absurd (no_message _ _ _ _ h1);
    flush_recorded = λ from to i link s h1. absurd (no_message _ _ _ _ h1);
    flush_to = λ from to i link s h1. absurd (no_message _ _ _ _ h1);
    flush_from = λ from to i link s h1. absurd (no_message _ _ _ _ h1);
  }

  moves-bare : Moves w g
  moves-bare = record {
    ends = λ from to i link s n item moves h1 h2. absurd (no_message _ _ _ _ h1);
    within = λ n i link s number item moves h1. absurd (no_message _ _ _ _ h1);
    recorded = λ from to i j m d h1 h2. absurd (no_message _ _ _ _ h1);
    peripheral = λ from to i j m d h1 h2. absurd (no_message _ _ _ _ h1);
    sender = λ from to i j m d h1 h2. absurd (no_message _ _ _ _ h1);
    receiver = λ from to i j m d h1 h2. absurd (no_message _ _ _ _ h1);
    awaited = λ from to i j m d h1 h2. absurd (no_message _ _ _ _ h1);
    end = λ from to i j m d h1 h2. absurd (no_message _ _ _ _ h1);
    one = λ e h. totals (λ from to m. total_list (of_end e h) (moves_of m)) ∙ sym (moves_none h _ (noted.terminal e));
    moving = λ p h1 h2. absurd (no_link w g (inner_link p) (world.next_peripheral) (noted.owner) h1);
  }

  terminals-bare : Terminals w g
  terminals-bare = record {
    each = λ k r h1. record {
      terminal = λ h2. absurd (no_router k r h1);
      opened = absurd (no_router k r h1);
    };
    stands = λ e k h1. absurd (nowhere_at k (sym (noted.terminal e) ∙ h1));
    link_opened = λ link s h1. absurd (no_link w g link (world.next_peripheral) (noted.owner) h1);
    both = λ e. nowhere _ (noted.terminal (opposite_end e)) ∙ sym (nowhere _ (noted.terminal e));
    unopened = λ e h1. nowhere _ (noted.terminal e);
    other_pair = λ e h1 h2. nowhere _ (noted.terminal e);
  }

  end_places-bare : EndPlaces w g
  end_places-bare = record {
    held = λ n e h1. absurd (not_both (holds e (node_at w n).held) h1 (ap (holds e) (world.no_held n) ∙ sets.contains-empty end_cmp e));
    pending = λ n e h1. absurd (no_end e (node_at w n).pending (world.pending n) h1);
    each = λ k r h1. record {
      out = λ n item e h2 h3. absurd (no_router k r h1);
      inn = λ n item e h2 h3. absurd (no_router k r h1);
    };
    within = λ n i link s number item moves e h1 h2. absurd (no_message _ _ _ _ h1);
  }

  books_kept-bare : BooksKept w no_books g
  books_kept-bare = record {
    own_pair = λ e d n item h1 h2. cc;
    mark_last = λ e n h1. cc;
    gone_last = λ e n h1. cc;
    retired_closed = λ e h1. cc;
    numbers = λ e. omega arith;
    mark_seen = λ k r h1 h2. absurd (no_router k r h1);
  }

  retired-bare : RetiredEnds no_books g
  retired-bare = record {
    retired = λ e h1. cc;
    peer_closed = λ e h1. cc;
    peer_stays = λ e h1. cc;
    all_read = λ e h1. cc;
    gone_read = λ e h1 h2. absurd (nowhere_retired (sym (noted.terminal e) ∙ h1));
    no_bypass = λ o s h1 h2. refl;
    left = λ e i h1 h2 h3 h4. cc;
    left_of = λ l s h1. absurd (not_both (is_left g l s) h1 (noted.left l s));
    accepted = λ o h1. absurd (omega (arith, noted.stage o, h1));
  }

  gones-bare : Gones w no_books g
  gones-bare = record {
    sent = λ k r h1 h2. absurd (no_router k r h1);
    sent_back = λ k r h1 h2 h3 h4 h5. absurd (no_router k r h1);
    left_primary = λ k r e h1 h2 h3. absurd (no_router k r h1);
    left_inner = λ k r e h1 h2 h3. absurd (no_router k r h1);
    out_put = λ k r h1. absurd (no_router k r h1);
    in_put = λ k r h1. absurd (no_router k r h1);
    still = λ k r s h1 h2 h3. absurd (no_router k r h1);
    dropped = λ k r n h1 h2 h3 h4. absurd (no_router k r h1);
    dropped_closed = λ k r h1 h2. absurd (no_router k r h1);
    dropped_back = λ k r n h1 h2 h3 h4 h5. absurd (no_router k r h1);
  }

  conserved-bare : Conserved w no_books g
  conserved-bare = record {
    exact = λ e h. places (at_end e h);
    read_put = λ e. omega arith;
    prefix = λ e. refl;
    gone_closed = λ e h1. refl;
    reach = λ k r h1 h2. absurd (no_router k r h1);
    current = λ k r h1 h2. absurd (no_router k r h1);
    sink = λ k r h1 h2. absurd (no_router k r h1);
    move_out = λ from to i j m d h1 h2. absurd (no_message _ _ _ _ h1);
    move_in = λ from to i j m d h1 h2. absurd (no_message _ _ _ _ h1);
    move_open = λ from to i j m d h1 h2. absurd (no_message _ _ _ _ h1);
    unopened_put = λ e h1. refl;
    unopened_got = λ e h1. refl;
  }

  held_once-bare : HeldOnce w no_books g
  held_once-bare = record {
    once = λ e. omega (arith, places (names_end e), held e, weighs_none _ (nowhere _ (noted.terminal e)));
    moves_in_parcel = λ from to i link s n item moves j d h1 h2. absurd (no_message _ _ _ _ h1);
  }

  items-bare : Items w g
  items-bare = record {
    recorded = λ from to i link s n item moves h1. absurd (no_message _ _ _ _ h1);
    sender = λ from to i link s n item moves h1. absurd (no_message _ _ _ _ h1);
    receiver = λ from to i link s n item moves h1. absurd (no_message _ _ _ _ h1);
    below_length = λ from to i link s n item moves length h1 h2. absurd (no_message _ _ _ _ h1);
    was_sent = λ from to i link s n item moves u h1 h2. absurd (no_message _ _ _ _ h1);
    by_sender = λ from to i link s n item moves h1. absurd (no_message _ _ _ _ h1);
    sender_gone = λ from to i link s n item moves h1 h2. absurd (no_message _ _ _ _ h1);
    not_passed = λ from to i link s n item moves q h1 h2. absurd (no_message _ _ _ _ h1);
    behind = λ from to i link s n item moves h1 h2. absurd (no_message _ _ _ _ h1);
    not_awaited_low = λ from to i c s n item moves o h1 h2 h3. absurd (no_message _ _ _ _ h1);
    receiver_there = λ from to i link s n item moves h1. absurd (no_message _ _ _ _ h1);
  }

  order-bare : Order w g
  order-bare = record {
    current = λ link s u q h1 h2 h3 h4. absurd (no_link w g link (world.next_peripheral) (noted.owner) h1);
    stored = λ link s u q n item h1 h2 h3 h4 h5. absurd (no_link w g link (world.next_peripheral) (noted.owner) h1);
  }

  proxy_numbers-bare : ProxyNumbers w g
  proxy_numbers-bare = record {
    out_current = λ o r h1 h2. absurd (no_router (g.bypass o).proxy r h1);
    out_items = λ o r n item h1 h2 h3. absurd (no_router (g.bypass o).proxy r h1);
    in_current = λ o r h1 h2. absurd (no_router (g.bypass o).proxy r h1);
    in_items = λ o r n item h1 h2 h3. absurd (no_router (g.bypass o).proxy r h1);
    across_gone = λ o r h1 h2 h3. absurd (no_router (g.bypass o).proxy r h1);
    inner_gone = λ o r h1 h2 h3. absurd (no_router (g.bypass o).proxy r h1);
    out_finished = λ o r h1 h2 h3. absurd (no_router (g.bypass o).proxy r h1);
    in_finished = λ o r h1 h2 h3. absurd (no_router (g.bypass o).proxy r h1);
  }

  fresh_numbers-bare : FreshNumbers w g
  fresh_numbers-bare k r h1 = record {
    own = λ p d length h2 h3 h4. absurd (no_router k r h1);
    comes = λ p d length from to i n item moves h2 h3 h4 h5. absurd (no_router k r h1);
    other = λ q p d length h2 h3 h4 h5. absurd (no_router k r h1);
  }

  pub inv-bare : Inv w no_books g
  inv-bare = record {
    counts = counts-bare;
    ordered = ordered-bare;
    shape = shape-bare;
    roles = roles-bare;
    begun = begun-bare;
    stands = stands-bare;
    words = words-bare;
    spares = spares-bare;
    bypasses = bypasses-bare;
    live = live-bare;
    stages = stages-bare;
    controls = controls-bare;
    moves = moves-bare;
    terminals = terminals-bare;
    end_places = end_places-bare;
    books_kept = books_kept-bare;
    retired_ends = retired-bare;
    gones = gones-bare;
    items = items-bare;
    order = order-bare;
    proxy_numbers = proxy_numbers-bare;
    fresh_numbers = fresh_numbers-bare;
    conserved = conserved-bare;
    held_once = held_once-bare;
    no_strays = world.strays;
  }
