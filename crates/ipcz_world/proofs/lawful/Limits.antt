-- If no item that wasn't read carries an end, the rank is within the limit that the world tells: messages move no end, and a terminal
-- tells what its end has put.
use Rattle.std.specs.Prelude.{◌≡◌, ◌≤◌, ◌<◌, ℕ, zero, suc, ◌+◌, ◌*◌, ◌-◌, ◌⊎◌, Bool, true, false, T, not, cond, ◌&&◌, ◌||◌, if◌then◌else◌, nat_eq, nat_lt, is_some}
use Rattle.std.specs.Prelude.{Option, Some, None}
use Rattle.std.specs.Prelude.{is_none, List, [], ◌∷◌, ◌++◌, length, slice_get, refl}
use Rattle.std.proofs.Common.{arith, ap, subst, ◌∙◌, sym, inl, inr}
use Rattle.std.proofs.lemmas.Bool.Decides.{nat_tests}
use Rattle.std.proofs.lemmas.Bool.{and_parts}
use Rattle.std.proofs.lemmas.Option.{slice_get_within, same_Some}
use Rattle.std.specs.Ordering.{nat_cmp, eq_by_cmp, is_eq}
use Rattle.std.specs.Cmp.{nat_cmp_total, tied_itself}
use Rattle.std.specs.FinMap.{FinMap, find, get, entries, get-entries, entries_sorted, is_sorted}
use Rattle.std.specs.FinMap.Entries.{below_all}
use Rattle.ipcz_base.specs.declared.message.Message.TheVariants as messages
use Rattle.ipcz_base.specs.Totals.{total_of}
use Rattle.ipcz_world.proofs.Vocabulary.{End, LinkId, Side, Descriptor, Item, Message, opposite_end, same_end, has_end, ends_in, total, total_list}
use Rattle.ipcz_world.proofs.Vocabulary.{place_at, Router, Node, Edge, bare_node, inward_edge, is_terminal, outbox, World, node_at, mail_at, way}
use Rattle.ipcz_world.proofs.Vocabulary.{router_at, Books, is_closed, Terminal, At, IsUnderWay, moves_of, messages_in, flow, at_end, is_nowhere, Key}
use Rattle.ipcz_world.proofs.Vocabulary.{Weight, Queue, Found, read, in_router, under_way, item_at, edge_decays, is_proxy, is_on_central, next_number}
use Rattle.ipcz_world.proofs.Vocabulary.{Mail, Nowhere, Moving, Retired, routes_of, move_weight, is_clear, Routes, Lawful, Rates, worth, router_worth}
use Rattle.ipcz_world.proofs.Vocabulary.{node_worth, rank, higher, highest, Parcel, Mark, Gone, is_gone_item, no_number, is_retired}
use Rattle.ipcz_world.specs.declared.mail.Mail.TheVariants as mails
use Rattle.ipcz_world.specs.Places as places
use Rattle.ipcz_world.specs.Places.{just}
use Rattle.ipcz_world.specs.Flows.{of_end}
use Rattle.ipcz_world.specs.Routes as routes
use Rattle.ipcz_world.specs.Ranks.{may_put, sink_worth, is_unbegun, bypass_worth, moves_worth, message_worth}
use Rattle.ipcz_world.specs.Ranks.{box_worth}
use Rattle.ipcz_world.specs.Ranks.{mail_worth}
use Rattle.ipcz_world.specs.SettleBounds.{CarryNone, PlainLimitIsEnough, is_over, plain_rates, plain_limit}
use Rattle.ipcz_world.specs.SettleLimit.{put_among, put_within, numbers_left, router_limit, node_limit, settle_limit}
use Rattle.ipcz_world.specs.SettleLimit.{after_gone, last_gone, gone_queued, gone_held, gone_message, gone_mailed, gone_at, gone_most, has_within, put_most}
use Rattle.ipcz_world.specs.SettleLimit.{RankIsWithinLimit}
use Rattle.ipcz_world.specs.SettleLimit.{SettleLimitIsEnough}
use Rattle.ipcz_world.proofs.facts.LinkTests.{same_end-itself, same_end-tells, opposite_end-twice}
use Rattle.ipcz_base.specs.Items.{same_item}
use Rattle.ipcz_base.specs.Limits.{last_number}
use Rattle.ipcz_node.specs.Node.{find_router}
use Rattle.ipcz_world.proofs.facts.Finding.{found_tells, found_there, find_above}
use Rattle.ipcz_world.proofs.facts.Reaching.{left, right}
use Rattle.ipcz_world.proofs.facts.Drained.{gone_stands}
use Rattle.ipcz_world.proofs.lawful.Quiet.{total-zero, total_below-zero, in_node-is}
use Rattle.ipcz_world.proofs.lawful.RouterWorths.{worth-most}
use Rattle.ipcz_world.proofs.frames.Flowing.{found, total_list-found}
use Rattle.ipcz_world.proofs.lawful.EachOnce.{just-here, once, only, in_queue-put}
use Rattle.ipcz_world.proofs.frames.Booking.{out_numbers}
use Rattle.ipcz_world.proofs.frames.OfRecords.{source, in_message, in_node, in_places}
use Rattle.ipcz_world.proofs.frames.Weighing.{in_places-has, in_places-is, in_router-is}
use Rattle.ipcz_world.proofs.frames.Passing.{passes-tells}

-- the higher of two numbers is no less than either
pub higher-first : (a b : ℕ) → a ≤ higher a b
higher-first a b = go (nat_lt a b) refl
  where
    go : (c : Bool) → nat_lt a b ≡ c → a ≤ (if c then b else a)
    go true e = grind (arith, e, nat_tests)
    go false e = omega arith

pub higher-second : (a b : ℕ) → b ≤ higher a b
higher-second a b = go (nat_lt a b) refl
  where
    go : (c : Bool) → nat_lt a b ≡ c → b ≤ (if c then b else a)
    go true e = omega arith
    go false e = grind (arith, e, nat_tests)

-- and no more than what both are no more than
higher-most : (a b c : ℕ) → a ≤ c → b ≤ c → higher a b ≤ c
higher-most a b c p q = go (nat_lt a b)
  where
    go : (t : Bool) → (if t then b else a) ≤ c
    go true = q
    go false = p

-- a terminal among routers
put_among-has : (e : End) (s : ℕ) (r : Router) (xs : List (ℕ × Router)) → find nat_cmp s xs ≡ Some r →
    (is_terminal r && same_end r.end e) ≡ true →
    next_number r ≤ put_among e xs
put_among-has e s r [] h is = cc
put_among-has e s r (x ∷ xs) h is = go _ h (put_among-has e s r xs)
  where
    here : ℕ
    here = cond (is_terminal x.1 && same_end x.1.end e) (next_number x.1) 0

    go : (c : Bool) → cond c (Some x.1) (find nat_cmp s xs) ≡ Some r →
        (find nat_cmp s xs ≡ Some r → (is_terminal r && same_end r.end e) ≡ true → next_number r ≤ put_among e xs) →
        next_number r ≤ higher here (put_among e xs)
    go true h more =
        let same : x.1 ≡ r = same_Some x.1 r h in
        let mine : here ≡ next_number r =
        ap (λ y. cond (is_terminal y && same_end y.end e) (next_number y) 0) same ∙ ap (λ t. cond t (next_number r) 0) is in
        omega (arith, mine, higher-first here (put_among e xs))
    go false h more = omega (arith, more h is, higher-second here (put_among e xs))

-- and among the routers of nodes
put_within-has : (e : End) (ns : List Node) (i : ℕ) (n : Node) → slice_get ns i ≡ Some n → put_among e (entries n.routers) ≤ put_within e ns
put_within-has e [] i n h = cc
put_within-has e (x ∷ xs) zero n h =
    let same : x ≡ n = same_Some x n h in
    omega (arith, ap (λ y. put_among e (entries y.routers)) same, higher-first (put_among e (entries x.routers)) (put_within e xs))
put_within-has e (x ∷ xs) (suc i) n h =
    omega (arith, put_within-has e xs i n h, higher-second (put_among e (entries x.routers)) (put_within e xs))

-- what is in a list is no more than the highest
highest-has : {X : Type 0} (h : X → ℕ) (xs : List X) (i : ℕ) (x : X) → slice_get xs i ≡ Some x → h x ≤ highest h xs
highest-has h [] i x e = cc
highest-has h (y ∷ ys) zero x e = let same : y ≡ x = same_Some y x e in omega (arith, ap h same, higher-first (h y) (highest h ys))
highest-has h (y ∷ ys) (suc i) x e = omega (arith, highest-has h ys i x e, higher-second (h y) (highest h ys))

highest-found : {X : Type 0} (h : (ℕ × X) → ℕ) (k : ℕ) (v : X) (es : List (ℕ × X)) → find nat_cmp k es ≡ Some v → T (is_sorted nat_cmp es) →
    h (k, v) ≤ highest h es
highest-found h k v [] e s = cc
highest-found {X} h k v (x ∷ xs) e s = go (eq_by_cmp nat_cmp k x.0) refl e
    (λ f. highest-found h k v xs f (right (below_all nat_cmp x.0 xs) (is_sorted nat_cmp xs) s))
  where
    go : (c : Bool) → eq_by_cmp nat_cmp k x.0 ≡ c → cond c (Some x.1) (find nat_cmp k xs) ≡ Some v →
        (find nat_cmp k xs ≡ Some v → h (k, v) ≤ highest h xs) → h (k, v) ≤ higher (h x) (highest h xs)
    go true q f more =
        let number : x.0 ≡ k = grind (arith, q, nat_tests) in
        let value : x.1 ≡ v = same_Some x.1 v f in
        let same : h x ≡ h (k, v) = ap (λ n. h (n, x.1)) number ∙ ap (λ y. h (k, y)) value in
        omega (arith, same, higher-first (h x) (highest h xs))
    go false q f more = omega (arith, more f, higher-second (h x) (highest h xs))

-- the entry of the highest number is the last
last-has : (m : ℕ) (x : Item) (es : List (ℕ × Item)) → find nat_cmp m es ≡ Some x → T (is_sorted nat_cmp es) →
    ((j : ℕ) (y : Item) → find nat_cmp j es ≡ Some y → j ≤ m) → after_gone m x ≤ last_gone es
last-has m x [] h s most = cc
last-has m x (e ∷ []) h s most = go (eq_by_cmp nat_cmp m e.0) refl h
  where
    go : (c : Bool) → eq_by_cmp nat_cmp m e.0 ≡ c → cond c (Some e.1) None ≡ Some x → after_gone m x ≤ after_gone e.0 e.1
    go true q f =
        let number : e.0 ≡ m = grind (arith, q, nat_tests) in
        let item : e.1 ≡ x = same_Some e.1 x f in
        omega (arith, ap (λ n. after_gone n e.1) number ∙ ap (after_gone m) item)
    go false q f = cc
last-has m x (e ∷ y ∷ ys) h s most = go (eq_by_cmp nat_cmp m e.0) refl h
    (λ f. last-has m x (y ∷ ys) f (right (below_all nat_cmp e.0 (y ∷ ys)) (is_sorted nat_cmp (y ∷ ys)) s)
    (λ j z found. most j z (later j z found)))
  where
    above : (j : ℕ) (z : Item) → find nat_cmp j (y ∷ ys) ≡ Some z → e.0 < j
    above j z found = find_above e.0 j z (y ∷ ys) (left (below_all nat_cmp e.0 (y ∷ ys)) (is_sorted nat_cmp (y ∷ ys)) s) found

    later : (j : ℕ) (z : Item) → find nat_cmp j (y ∷ ys) ≡ Some z → cond (eq_by_cmp nat_cmp j e.0) (Some e.1) (find nat_cmp j (y ∷ ys)) ≡ Some z
    later j z found =
        let apart : eq_by_cmp nat_cmp j e.0 ≡ false = grind (arith, above j z found, nat_tests) in
        ap (λ c. cond c (Some e.1) (find nat_cmp j (y ∷ ys))) apart ∙ found

    first : find nat_cmp y.0 (y ∷ ys) ≡ Some y.1
    first = ap (λ c. cond c (Some y.1) (find nat_cmp y.0 ys)) (ap is_eq (tied_itself nat_cmp_total y.0))

    go : (c : Bool) → eq_by_cmp nat_cmp m e.0 ≡ c → cond c (Some e.1) (find nat_cmp m (y ∷ ys)) ≡ Some x →
        (find nat_cmp m (y ∷ ys) ≡ Some x → after_gone m x ≤ last_gone (y ∷ ys)) → after_gone m x ≤ last_gone (y ∷ ys)
    go true q f more =
        let number : e.0 ≡ m = grind (arith, q, nat_tests) in
        absurd (omega (arith, number, above y.0 y.1 first, most y.0 y.1 (later y.0 y.1 first)))
    go false q f more = more f

highest-placed : {X : Type 0} (h : X → ℕ) (d : X) (xs : List X) (i : ℕ) → h d ≡ 0 → h (place_at d xs i) ≤ highest h xs
unfolding place_at
highest-placed h d [] i z = omega (arith, z)
highest-placed h d (x ∷ xs) zero z = higher-first (h x) (highest h xs)
highest-placed h d (x ∷ xs) (suc i) z = omega (arith, highest-placed h d xs i z, higher-second (h x) (highest h xs))

highest-both : {X : Type 0} (h : X → ℕ) (xs ys : List X) (i : ℕ) (x : X) → slice_get (xs ++ ys) i ≡ Some x →
    h x ≤ higher (highest h xs) (highest h ys)
highest-both h [] ys i x e = omega (arith, highest-has h ys i x e, higher-second 0 (highest h ys))
highest-both h (y ∷ xs) ys zero x e =
    let same : y ≡ x = same_Some y x e in
    omega (arith, ap h same, higher-first (h y) (highest h xs), higher-first (higher (h y) (highest h xs)) (highest h ys))
highest-both h (y ∷ xs) ys (suc i) x e = omega (
  arith,
  highest-both h xs ys i x e,
  higher-most (highest h xs) (highest h ys) (higher (higher (h y) (highest h xs)) (highest h ys))
      (omega (arith, higher-second (h y) (highest h xs), higher-first (higher (h y) (highest h xs)) (highest h ys)))
      (higher-second (higher (h y) (highest h xs)) (highest h ys)),
)

-- a terminal that stands is found, and one that is found stands
within-has : (e : End) (ns : List Node) (i : ℕ) (n : Node) (s : ℕ) (r : Router) → slice_get ns i ≡ Some n → get n.routers s ≡ Some r →
    (is_terminal r && same_end r.end e) ≡ true → has_within e ns ≡ true
within-has e [] i n s r h here is = cc
within-has e (x ∷ xs) zero n s r h here is =
    let same : x ≡ n = same_Some x n h in
    let f = found_there n (λ r. is_terminal r && same_end r.end e) s r here is in
    ap (λ o. is_some o || has_within e xs) (ap (λ y. find_router y (λ r. is_terminal r && same_end r.end e)) same ∙ f.1)
within-has e (x ∷ xs) (suc i) n s r h here is =
    behind_true (is_some (find_router x (λ r. is_terminal r && same_end r.end e))) (within-has e xs i n s r h here is)
  where
    behind_true : (a : Bool) {c : Bool} → c ≡ true → (a || c) ≡ true
    behind_true true q = refl
    behind_true false q = q

record IsWithin (e : End) (ns : List Node) : Type 0 where
  index : ℕ
  node : Node
  serial : ℕ
  router : Router
  there : slice_get ns index ≡ Some node
  here : get node.routers serial ≡ Some router
  is : (is_terminal router && same_end router.end e) ≡ true

within-tells : (e : End) (ns : List Node) → has_within e ns ≡ true → IsWithin e ns
within-tells e [] h = cc
within-tells e (x ∷ xs) h = go (find_router x (λ r. is_terminal r && same_end r.end e)) refl h (λ q. within-tells e xs q)
  where
    go : (o : Option Found) → find_router x (λ r. is_terminal r && same_end r.end e) ≡ o → (is_some o || has_within e xs) ≡ true →
        (has_within e xs ≡ true → IsWithin e xs) → IsWithin e (x ∷ xs)
    go (Some f) q h more =
        let t = found_tells x (λ r. is_terminal r && same_end r.end e) f q in
        record { index = 0; node = x; serial = f.serial; router = f.router; there = refl; here = t.0; is = t.1 }
    go None q h more = let t = more h in record {
      index = suc t.index;
      node = t.node;
      serial = t.serial;
      router = t.router;
      there = t.there;
      here = t.here;
      is = t.is;
    }

-- totals of what is less
pub total_list-most : {X : Type 0} (h k : X → ℕ) (xs : List X) → ((i : ℕ) (x : X) → slice_get xs i ≡ Some x → h x ≤ k x) →
    total_list h xs ≤ total_list k xs
total_list-most h k [] less = omega arith
total_list-most h k (x ∷ xs) less = omega (arith, less 0 x refl, total_list-most h k xs (λ i y e. less (suc i) y e))

pub total-most : (h k : Router → ℕ) (m : FinMap nat_cmp Router) → ((r : Router) → h r ≤ k r) → total (λ s r. h r) m ≤ total (λ s r. k r) m
unfolding total
total-most h k m less = go (entries m)
  where
    go : (es : List (ℕ × Router)) → total_of (λ s r. h r) es ≤ total_of (λ s r. k r) es
    go [] = omega arith
    go (e ∷ es) = omega (arith, less e.1, go es)

times-list : {X : Type 0} (k : ℕ) (h : X → ℕ) (xs : List X) → total_list (λ x. k * h x) xs ≡ k * total_list h xs
times-list k h [] = omega arith
times-list k h (x ∷ xs) = omega (arith, times-list k h xs)

-- what stands at an index of a list
placed : {X : Type 0} (d : X) (xs : List X) (i : ℕ) (x : X) → slice_get xs i ≡ Some x → place_at d xs i ≡ x
unfolding place_at
placed d [] i x h = cc
placed d (y ∷ ys) zero x h = same_Some y x h
placed d (y ∷ ys) (suc i) x h = placed d ys i x h

stands_at : {X : Type 0} (d : X) (xs : List X) (i : ℕ) → i < length xs → slice_get xs i ≡ Some (place_at d xs i)
unfolding place_at
stands_at d [] i l = absurd (omega (arith, l))
stands_at d (x ∷ xs) zero l = refl
stands_at d (x ∷ xs) (suc i) l = stands_at d xs i (omega (arith, l))

nat_eq-yes : (m n : ℕ) → m ≡ n → nat_eq m n ≡ true
nat_eq-yes m n e = grind (arith, e, nat_tests)

behind : {X : Type 0} (xs ys : List X) (i : ℕ) (x : X) → slice_get ys i ≡ Some x → slice_get (xs ++ ys) (length xs + i) ≡ Some x
behind [] ys i x h = let e : i ≡ 0 + i = omega arith in subst (λ j. slice_get ys j ≡ Some x) e h
behind (z ∷ zs) ys i x h =
    let e : suc (length zs + i) ≡ suc (length zs) + i = omega arith in
    subst (λ j. slice_get (z ∷ zs ++ ys) j ≡ Some x) e (behind zs ys i x h)

-- what numbers are worth of which one more is counted
six-more : (a b c m n k : ℕ) → a ≤ b + 2 → c ≤ k + 2 → 6 * ((a - m) + (c - n)) ≤ 6 * ((b - m) + (k - n) + 4)
six-more a b c m n k p q = omega (arith, p, q)

module _ (w : World) (b : Books) (g : Routes) (law : Lawful w b g) (none : CarryNone b) where
  -- an item under way was put and isn't read
  under_way-bare : (from to i : ℕ) (link : LinkId) (s : Side) (n : ℕ) (item : Item) (moves : List Descriptor) →
      IsUnderWay w from to i (messages.Item link s n item moves) → ends_in item ≡ []
  unfolding places.in_message routes.source
  under_way-bare from to i link s n item moves u =
      let e : End = source law.records link s in
      let mine : in_message (at_end e (just n item)) law.records (messages.Item link s n item moves) ≡ 1 =
      ap (λ c. cond c (just n item n item) 0) (same_end-itself e) ∙ just-here n item in
      let put = only w b (routes_of law.records) law.conserved.exact e n item
      (omega (arith, mine, in_places-has (at_end e (just n item)) law.records w from to i (messages.Item link s n item moves) u)) in
      none e n item put.0 put.1

  -- so no message moves an end
  no-move : (from to i j : ℕ) (m : Message) (d : Descriptor) → IsUnderWay w from to i m → slice_get (moves_of m) j ≡ Some d → ⊥
  unfolding moves_of
  no-move from to i j (messages.Item link s n item moves) d u h =
      let has = law.held_once.moves_in_parcel from to i link s n item moves j d u h in
      let no : has_end d.end (ends_in item) ≡ false = ap (has_end d.end) (under_way-bare from to i link s n item moves u) in
      let odd : true ≡ false = sym has ∙ no in cc
  no-move from to i j (messages.BypassPeer l s old target fresh) d u h = cc
  no-move from to i j (messages.AcceptBypass old s fresh n) d u h = cc
  no-move from to i j (messages.StopProxying s old m n) d u h = cc
  no-move from to i j (messages.ProxyWillStop l s n) d u h = cc
  no-move from to i j (messages.Flush l s) d u h = cc

  bare-moves : (from to i : ℕ) (m : Message) → IsUnderWay w from to i m → moves_of m ≡ []
  bare-moves from to i m u = go (moves_of m) refl
    where
      go : (ds : List Descriptor) → moves_of m ≡ ds → moves_of m ≡ []
      go [] e = e
      go (d ∷ ds) e = absurd (no-move from to i 0 m d u (ap (λ xs. slice_get xs 0) e))

  -- the rates of the plain limit
  abbrev c : Rates
  c = plain_rates b

  -- a message that moves no end
  message-most : (m : Message) → moves_of m ≡ [] → message_worth c m ≤ 36
  unfolding message_worth moves_of
  message-most (messages.Item link s n item moves) e = let free : moves_worth c moves ≡ 0 = ap (moves_worth c) e in omega (arith, free)
  message-most other e = omega arith

  -- if no Gone anywhere comes to a number, no Gone of that number stands anywhere
  module _ (e : End) (n : ℕ) (last : suc n ≡ length (b.put e)) (low : gone_most w ≤ n) where
    abbrev f : Weight
    f = at_end e (just n Gone)

    -- an item of that weight is this one
    item-is : (d : End) (m : ℕ) (x : Item) → (f d m x ≡ 0) ⊎ ((m ≡ n) × (is_gone_item x ≡ true) × (same_end d e ≡ true))
    item-is d m x = by (same_end d e) (nat_eq m n) (is_gone_item x) refl refl refl
      where
        by : (p q t : Bool) → same_end d e ≡ p → nat_eq m n ≡ q → is_gone_item x ≡ t → (f d m x ≡ 0) ⊎ ((m ≡ n) × (is_gone_item x ≡ true) × (same_end d e ≡ true))
        by false q t a c h = inl (ap (λ z. cond z (just n Gone m x) 0) a)
        by true false t a c h = inl (ap (λ z. cond z (just n Gone m x) 0) a ∙ ap (λ z. cond (z && same_item x Gone) 1 0) c)
        by true true true a c h = inr (grind (arith, c, nat_tests), h, a)
        by true true false a c h = inl (ap (λ z. cond z (just n Gone m x) 0) a ∙ ap (λ z. cond (z && same_item x Gone) 1 0) c
            ∙ ap (λ z. cond z 1 0) (other x h))
          where
            other : (x : Item) → is_gone_item x ≡ false → same_item x Gone ≡ false
            other (Parcel p) h = refl
            other Mark h = refl
            other Gone h = cc

    -- no item has the number that no item has
    within : n < no_number
    within = elim (is_closed b e) as (λ c. length (b.put e) ≤ last_number + cond c 1 0 + cond (is_retired b e) 1 0 → n < no_number) [
      | true ↦ λ l. elim (is_retired b e) as (λ c. length (b.put e) ≤ last_number + 1 + cond c 1 0 → n < no_number) [
        | true ↦ λ l. omega (arith, last, l)
        | false ↦ λ l. omega (arith, last, l)
      ] l
      | false ↦ λ l. elim (is_retired b e) as (λ c. length (b.put e) ≤ last_number + 0 + cond c 1 0 → n < no_number) [
        | true ↦ λ l. omega (arith, last, l)
        | false ↦ λ l. omega (arith, last, l)
      ] l
    ] (law.inv.books_kept.numbers e)

    above : (x : Item) (m : ℕ) → m ≡ n → is_gone_item x ≡ true → cond (is_gone_item x) (cond (nat_lt m no_number) (m + 1) m) 0 ≡ n + 1
    above x m p h =
        let low : nat_lt n no_number ≡ true = grind (arith, within, nat_tests) in
        ap (λ z. cond z (cond (nat_lt m no_number) (m + 1) m) 0) h ∙ ap (λ z. cond (nat_lt z no_number) (z + 1) z) p
        ∙ ap (λ z. cond z (n + 1) n) low

    node-low : (i : ℕ) (x : Node) → slice_get w.nodes i ≡ Some x → gone_at x ≤ gone_most w
    unfolding gone_most
    node-low i x at = omega (arith, highest-has gone_at w.nodes i x at, higher-first (highest gone_at w.nodes) (highest gone_mailed w.mail))

    queue-bare : (q : Queue Item) (d : End) → gone_queued q ≤ n → (same_end d e ≡ true → (m : ℕ) (x : Item) → item_at q m ≡ Some x → m ≤ n) →
        total (f d) q.items ≡ 0
    unfolding gone_queued after_gone
    queue-bare q d l most = total-zero (f d) q.items (λ m x at. elim (item-is d m x) [
      | inl z ↦ z
      | inr z ↦ absurd (omega (
        arith,
        l,
        above x m z.0 z.1,
        last-has m x (entries q.items) (sym (get-entries q.items m) ∙ at) (entries_sorted q.items)
            (λ j y found. omega (arith, z.0, most z.2 j y (get-entries q.items j ∙ found))),
      ))
    ])

    router-bare : (k : Key) (r : Router) → router_at w k ≡ Some r → gone_held r ≤ n → in_router f r ≡ 0
    unfolding gone_held
    router-bare k r here l = in_router-is f r ∙ omega (
      arith,
      queue-bare r.out_queue r.end (omega (arith, l, higher-first (gone_queued r.out_queue) (gone_queued r.in_queue)))
          (λ is m x at. omega (
            arith,
            last,
            (out_numbers w b law.records k r m x law.conserved (law.inv.counts.on_node k r here) here at).1,
            ap (λ d. length (b.put d)) (same_end-tells r.end e is),
          )),
      queue-bare r.in_queue (opposite_end r.end) (omega (arith, l, higher-second (gone_queued r.out_queue) (gone_queued r.in_queue)))
          (λ is m x at. omega (
            arith,
            last,
            slice_get_within (b.put (opposite_end r.end)) m x (in_queue-put w b law.records k r m x law.inv here at).1,
            ap (λ d. length (b.put d)) (same_end-tells (opposite_end r.end) e is),
          )),
    )

    at-index : (i : ℕ) → i < w.count → slice_get w.nodes i ≡ Some (node_at w i)
    unfolding node_at
    at-index i l = stands_at (bare_node 0 0) w.nodes i (omega (arith, l, law.bounded.nodes))

    node-bare : (i : ℕ) → i < w.count → in_node f law.records (node_at w i) ≡ 0
    unfolding gone_at router_at node_at
    node-bare i l = in_node-is f law.records (node_at w i) ∙ omega (
      arith,
      total-zero (λ s r. in_router f r) (node_at w i).routers (λ s r at. router-bare (record { node = i; serial = s }) r at (omega (
        arith,
        low,
        node-low i (node_at w i) (at-index i l),
        higher-first (highest (λ (y : ℕ × Router). gone_held y.1) (entries (node_at w i).routers))
            (highest (λ box. highest gone_message box) (node_at w i).outboxes),
        highest-found (λ (y : ℕ × Router). gone_held y.1) s r (entries (node_at w i).routers)
            (sym (get-entries (node_at w i).routers s) ∙ at) (entries_sorted (node_at w i).routers),
      ))),
      ap (total_list (in_message f law.records)) (law.inv.no_strays i),
    )

    weightless : (m : Message) → gone_message m ≤ n → in_message f law.records m ≡ 0
    unfolding gone_message after_gone places.in_message routes.source
    weightless (messages.Item link s m x moves) l = elim (item-is (source law.records link s) m x) [
      | inl z ↦ z
      | inr z ↦ absurd (omega (arith, l, above x m z.0 z.1))
    ]
    weightless (messages.BypassPeer l s old target fresh) h = refl
    weightless (messages.AcceptBypass old s fresh k) h = refl
    weightless (messages.StopProxying s old a c) h = refl
    weightless (messages.ProxyWillStop l s a) h = refl
    weightless (messages.Flush l s) h = refl

    mail-low : (x : Mail) → highest gone_message (messages_in x) ≤ gone_mailed x
    unfolding gone_mailed messages_in
    mail-low mails.Empty = omega arith
    mail-low (mails.Full m) = higher-most (gone_message m) 0 (gone_message m) (omega arith) (omega arith)
    mail-low (mails.Hand m) = higher-most (gone_message m) 0 (gone_message m) (omega arith) (omega arith)

    way-bare : (from to i : ℕ) (m : Message) → IsUnderWay w from to i m → 1 ≤ in_message f law.records m → ⊥
    unfolding flow gone_mailed mail_at gone_most gone_at
    way-bare from to i m u some = omega (
      arith,
      some,
      weightless m (omega (
        arith,
        low,
        highest-both gone_message (messages_in (mail_at w (way w from to))) (outbox (node_at w from) to) i m u.place,
        higher-most (highest gone_message (messages_in (mail_at w (way w from to)))) (highest gone_message (outbox (node_at w from) to)) (gone_most w)
            (omega (
              arith,
              mail-low (mail_at w (way w from to)),
              highest-placed gone_mailed mails.Empty w.mail (way w from to) refl,
              higher-second (highest gone_at w.nodes) (highest gone_mailed w.mail),
            ))
            (omega (
              arith,
              node-low from (node_at w from) (at-index from u.sender),
              higher-second (highest (λ (y : ℕ × Router). gone_held y.1) (entries (node_at w from).routers))
                  (highest (λ box. highest gone_message box) (node_at w from).outboxes),
              highest-placed (λ box. highest gone_message box) [] (node_at w from).outboxes to refl,
            )),
      )),
    )

    bare : in_places f law.records w ≡ 0
    bare = in_places-is f law.records w ∙ omega (
      arith,
      total_below-zero w.count (λ i. in_node f law.records (node_at w i)) node-bare,
      none_way (under_way (λ from to m. in_message f law.records m) w) refl,
    )
      where
        none_way : (k : ℕ) → under_way (λ from to m. in_message f law.records m) w ≡ k → under_way (λ from to m. in_message f law.records m) w ≡ 0
        none_way zero h = h
        none_way (suc k) h = let t = found (λ from to m. in_message f law.records m) w (omega (arith, h)) in
            absurd (way-bare t.0 t.1 t.2 t.3 t.4 t.5)

  -- a Gone that isn't read stands somewhere
  gone-there : (e : End) (n : ℕ) → read b (opposite_end e) ≤ n → slice_get (b.put e) n ≡ Some Gone → n + 1 ≤ gone_most w
  gone-there e n unread put = go (nat_lt n (gone_most w)) refl
    where
      go : (c : Bool) → nat_lt n (gone_most w) ≡ c → n + 1 ≤ gone_most w
      go true h = grind (arith, h, nat_tests)
      go false h = absurd (omega (
        arith,
        bare e n (law.inv.books_kept.gone_last e n put) (grind (arith, h, nat_tests)),
        once w b (routes_of law.records) law.conserved.exact e n Gone unread put,
      ))

  -- an end's terminal, if it stands, tells what it has put
  put-there : (e : End) (k : Key) → law.records.terminal e ≡ At k → (has_within e w.nodes ≡ true) × (length (b.put e) ≤ put_within e w.nodes)
  unfolding router_at node_at place_at
  put-there e k q =
      let x = passes-tells w (Some k) (λ r. is_terminal r && same_end r.end e) (law.inv.terminals.stands e k q) in
      let t = and_parts (is_terminal x.router) (same_end x.router.end e) x.passed in
      let put : next_number x.router ≡ length (b.put e) =
      law.conserved.reach x.key x.router x.here t.0 ∙ ap (λ d. length (b.put d)) (same_end-tells x.router.end e t.1) in
      let on = law.inv.counts.on_node x.key x.router x.here in
      let at = stands_at (bare_node 0 0) w.nodes x.key.node (omega (arith, on, law.bounded.nodes)) in (
        within-has e w.nodes x.key.node (node_at w x.key.node) x.key.serial x.router at x.here x.passed,
        omega (
          arith,
          put,
          put_among-has e x.key.serial x.router (entries (node_at w x.key.node).routers)
              (sym (get-entries (node_at w x.key.node).routers x.key.serial) ∙ x.here) x.passed,
          put_within-has e w.nodes x.key.node (node_at w x.key.node) at,
        ),
      )

  -- if an end has no terminal, none is found
  none-within : (e : End) → law.records.terminal e ≡ Retired → has_within e w.nodes ≡ false
  unfolding router_at node_at
  none-within e q = go (has_within e w.nodes) refl
    where
      go : (c : Bool) → has_within e w.nodes ≡ c → c ≡ false
      go false h = refl
      go true h =
          let t = within-tells e w.nodes h in
          let p = and_parts (is_terminal t.router) (same_end t.router.end e) t.is in
          let k : Key = record { node = t.index; serial = t.serial } in
          let here : router_at w k ≡ Some t.router = ap (λ (x : Node). get x.routers t.serial) (placed (bare_node 0 0) w.nodes t.index t.node t.there) ∙ t.here in
          absurd (apart k (sym ((law.inv.terminals.each k t.router here).terminal p.0) ∙
          ap law.records.terminal (same_end-tells t.router.end e p.1) ∙ q))
        where
          apart : (k : Key) → At k ≡ Retired → ⊥
          apart k h = cc

  may-most : (e : End) → may_put b e ≤ 2
  may-most e = omega (arith, worth-most 1 (not (is_closed b e)), worth-most 1 (not (is_retired b e)))

  over-none : (e : End) → is_over b e ≡ true → c.cap e ≡ 0
  over-none e h = ap (λ t. cond t 0 (length (b.put e) + may_put b e)) h

  cap-within : (e : End) → c.cap e ≤ length (b.put e) + may_put b e
  cap-within e = go (is_over b e)
    where
      go : (t : Bool) → cond t 0 (length (b.put e) + may_put b e) ≤ length (b.put e) + may_put b e
      go true = omega arith
      go false = omega arith

  cap-most : (e : End) → c.cap e ≤ put_most w e + 2
  unfolding is_nowhere move_weight put_most
  cap-most e = go (law.records.terminal e) refl
    where
      limit : (t : Bool) → has_within e w.nodes ≡ t → (if has_within e w.nodes then put_within e w.nodes else gone_most w) ≡
          (if t then put_within e w.nodes else gone_most w)
      limit t h = ap (λ z. if z then put_within e w.nodes else gone_most w) h

      over : (a d : Bool) {x : Bool} → (a ≡ true) ⊎ (d ≡ true) → x ≡ true → ((a || d) && x) ≡ true
      over true d h k = k
      over false true h k = k
      over false false (inl h) k = cc
      over false false (inr h) k = cc

      -- a sink has retired, or has read Gone
      gone : law.records.terminal e ≡ Retired → (t : Bool) → is_retired b e ≡ t → c.cap e ≤ put_most w e + 2
      gone q false h =
          let x = law.inv.retired_ends.gone_read e q h in
          let all : read b (opposite_end e) ≡ length (b.put e) = law.inv.retired_ends.all_read (opposite_end e) x.0
          ∙ ap (λ d. length (b.put d)) (opposite_end-twice e) in
          omega (arith, over-none e (over (is_retired b e) (is_retired b (opposite_end e)) (inr x.0) (nat_eq-yes _ _ all)))
      gone q true h = by (nat_eq (read b (opposite_end e)) (length (b.put e))) refl
        where
          by : (t : Bool) → nat_eq (read b (opposite_end e)) (length (b.put e)) ≡ t → c.cap e ≤ put_most w e + 2
          by true k = omega (arith, over-none e (over (is_retired b e) (is_retired b (opposite_end e)) (inl h) k))
          by false k =
              let last = gone_stands (b.put e) h in
              let end = law.inv.books_kept.gone_last e last.0 last.1 in
              let unread : read b (opposite_end e) ≤ last.0 =
              below (read b (opposite_end e)) (length (b.put e)) last.0 k (law.conserved.read_put e) end in
              omega (arith, cap-within e, may-most e, end, gone-there e last.0 unread last.1, limit false (none-within e q))
            where
              below : (r l n : ℕ) → nat_eq r l ≡ false → r ≤ l → suc n ≡ l → r ≤ n
              below r l n a p q = grind (arith, a, p, q, nat_tests)

      go : (t : Terminal) → law.records.terminal e ≡ t → c.cap e ≤ put_most w e + 2
      go Nowhere q = let bare : length (b.put e) ≡ 0 = ap length (law.conserved.unopened_put e (ap is_nowhere q)) in
          omega (arith, bare, cap-within e, may-most e)
      go (Moving d) q =
          let weight = law.inv.moves.one e (λ x. 1) ∙ ap (move_weight (λ x. 1)) q in
          let t = found (λ from to m. total_list (of_end e (λ x. 1)) (moves_of m)) w (omega (arith, weight)) in
          let some = total_list-found (of_end e (λ x. 1)) (moves_of t.3) t.5 in
          absurd (no-move t.0 t.1 t.2 some.0 t.3 some.1 t.4 some.2)
      go Retired q = gone q (is_retired b e) refl
      go (At k) q = let t = put-there e k q in omega (arith, cap-within e, may-most e, t.1, limit true t.0)

  -- a router
  flag-most : (n : ℕ) (t : Bool) → worth n t ≤ n
  flag-most n true = omega arith
  flag-most n false = omega arith

  bypass-most : (r : Router) → bypass_worth r ≤ 44
  bypass-most r = omega (arith, flag-most 1 (is_none r.spare && not r.dry), flag-most 1 (not r.holds), flag-most 1 (not r.tried))

  begun-most : (r : Router) (t : Bool) → cond t (bypass_worth r) 0 ≤ 44
  begun-most r true = bypass-most r
  begun-most r false = omega arith

  abbrev of_role : Option Edge → ℕ
  of_role o = cond (is_none o) 17 61

  -- a proxy's inward edge, its leaving and its bypass
  role-most : (r : Router) (o : Option Edge) → r.inward ≡ o →
      worth 1 (edge_decays (inward_edge r)) + (worth 1 (is_proxy r) + (cond (is_unbegun r) (bypass_worth r) 0 +
      cond (is_terminal r) (sink_worth r) 0)) + 15 ≤ of_role r.inward
  role-most r None e = rw e (omega (arith, flag-most 1 (not r.holds), flag-most 1 (not (r.tried && r.closed))))
  role-most r (Some x) e =
      let two : of_role r.inward ≡ of_role (Some x) = ap of_role e in
      let none : cond (is_terminal r) (sink_worth r) 0 ≡ 0 = ap (λ o. cond (is_none o) (sink_worth r) 0) e in
      omega (arith, two, none, flag-most 1 (edge_decays (inward_edge r)), flag-most 1 (is_proxy r), begun-most r (is_unbegun r))

  router-most : (r : Router) → router_worth c r ≤ router_limit w r
  unfolding router_worth router_limit numbers_left
  router-most r = omega (
    arith,
    six-more (c.cap r.end) (put_most w r.end) (c.cap (opposite_end r.end)) r.out_queue.current r.in_queue.current
        (put_most w (opposite_end r.end)) (cap-most r.end) (cap-most (opposite_end r.end)),
    flag-most 1 r.flagged,
    flag-most 1 (edge_decays r.outward),
    flag-most 7 (is_on_central r && not r.marked),
    flag-most 6 r.wake_owed,
    role-most r r.inward refl,
  )

  -- the messages to a node, each of which is under way
  box-most : (n to : ℕ) (box : List Message) → n < w.count → to < w.count → outbox (node_at w n) to ≡ box →
      box_worth c box ≤ 38 * length box
  unfolding flow
  box-most n to box l m e = omega (
    arith,
    total_list-most (λ x. message_worth c x + 2) (λ x. 38) box (λ i x at.
        omega (
          arith,
          message-most x (bare-moves n to (length (messages_in (mail_at w (way w n to))) + i) x (record {
            sender = l;
            receiver = m;
            place = behind (messages_in (mail_at w (way w n to))) (outbox (node_at w n) to) i x (ap (λ xs. slice_get xs i) e ∙ at);
          })),
        )),
    constant 38 box,
  )
    where
      constant : (k : ℕ) (xs : List Message) → total_list (λ x. k) xs ≡ k * length xs
      constant k [] = omega arith
      constant k (x ∷ xs) = omega (arith, constant k xs)

  node-most : (n : ℕ) (x : Node) → slice_get w.nodes n ≡ Some x → node_worth c x ≤ node_limit w x
  unfolding node_worth node_limit node_at
  node-most n x at = omega (
    arith,
    total-most (router_worth c) (router_limit w) x.routers router-most,
    total_list-most (box_worth c) (λ box. 38 * length box) x.outboxes boxes,
    times-list 38 length x.outboxes,
  )
    where
      l : n < w.count
      l = omega (arith, slice_get_within w.nodes n x at, law.bounded.nodes)

      is : node_at w n ≡ x
      is = placed (bare_node 0 0) w.nodes n x at

      boxes : (to : ℕ) (box : List Message) → slice_get x.outboxes to ≡ Some box → box_worth c box ≤ 38 * length box
      boxes to box h = go (nat_lt to w.count) refl
        where
          there : outbox (node_at w n) to ≡ box
          there = ap (λ y. outbox y to) is ∙ placed [] x.outboxes to box h

          go : (t : Bool) → nat_lt to w.count ≡ t → box_worth c box ≤ 38 * length box
          go true e = box-most n to box l (grind (arith, e, nat_tests)) there
          go false e =
              let none : box ≡ [] = sym there ∙ law.bounded.box n to l (grind (arith, e, nat_tests)) in
              let free : box_worth c box ≡ 0 = ap (box_worth c) none in omega (arith, free)

  -- a mailbox
  pub mailed-bare : (k : ℕ) (m : Message) → messages_in (mail_at w k) ≡ m ∷ [] → moves_of m ≡ []
  unfolding flow messages_in
  mailed-bare k m full = go (moves_of m) refl
    where
      go : (ds : List Descriptor) → moves_of m ≡ ds → moves_of m ≡ []
      go [] e = e
      go (d ∷ ds) e =
          let clear = law.bounded.mail k (λ from to lf lt is. no-move from to 0 0 m d (record {
            sender = lf;
            receiver = lt;
            place = ap (λ xs. slice_get (xs ++ outbox (node_at w from) to) 0) (ap (λ i. messages_in (mail_at w i)) (sym is) ∙ full);
          }) (ap (λ xs. slice_get xs 0) e)) in
          let odd : [] ≡ m ∷ [] = ap messages_in (sym clear) ∙ full in cc

  mail-most : (k : ℕ) (x : Mail) → slice_get w.mail k ≡ Some x → mail_worth c x ≤ 37 * cond (is_clear x) 0 1
  unfolding mail_worth mail_at messages_in is_clear
  mail-most k mails.Empty at = omega arith
  mail-most k (mails.Full m) at = omega (
    arith,
    message-most m
        (mailed-bare k m (ap messages_in (placed mails.Empty w.mail k (mails.Full m) at))),
  )
  mail-most k (mails.Hand m) at = omega (
    arith,
    message-most m
        (mailed-bare k m (ap messages_in (placed mails.Empty w.mail k (mails.Hand m) at))),
  )

  limit-most : plain_limit b w ≤ settle_limit w
  unfolding rank settle_limit
  limit-most = omega (
    arith,
    total_list-most (node_worth c) (node_limit w) w.nodes node-most,
    total_list-most (mail_worth c) (λ x. 37 * cond (is_clear x) 0 1) w.mail mail-most,
    times-list 37 (λ x. cond (is_clear x) 0 1) w.mail,
  )

pub rank_is_within_limit : RankIsWithinLimit
rank_is_within_limit w b g law none = limit-most w b g law none

pub settle_limit_is_enough : PlainLimitIsEnough → SettleLimitIsEnough
settle_limit_is_enough plain limit w v b g law none s = omega (arith, plain limit w v b g law none s, rank_is_within_limit w b g law none)
