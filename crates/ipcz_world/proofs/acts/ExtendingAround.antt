-- A terminal that moves becomes a proxy with a new peripheral link: what the records say of what was there, and of the new link.
use Rattle.ipcz_world.specs.Standing.{passes}
use Rattle.ipcz_word.specs.SideSets.{has, has-none}
use Rattle.ipcz_world.proofs.Vocabulary.{Side, A, B, LinkId, Central, Peripheral, same_link, has_link, Edge, Router, is_terminal, World, Key}
use Rattle.ipcz_world.proofs.Vocabulary.{same_key, node_at, word_at, router_at, Books, Records, is_recorded, is_begun, bypass_of, inner_link}
use Rattle.ipcz_world.proofs.Vocabulary.{side_node, side_router, side_end, proxy_side, is_nowhere, key_passes, Descriptor, is_left, none}
use Rattle.ipcz_world.proofs.Vocabulary.{descriptor_of, Moving}
use Rattle.ipcz_world.specs.Routes.{source as source'}
use Rattle.std.specs.Prelude.{◌≡◌, ◌≢◌, ◌⊎◌, ◌≤◌, ◌<◌, ◌+◌, ℕ, Bool, true, false, cond, ◌&&◌, nat_eq, nat_le, nat_lt, Option, Some, None}
use Rattle.std.specs.Prelude.{is_none, refl}
use Rattle.std.proofs.Common.{arith, ap, ◌∙◌, sym, inl, inr}
use Rattle.std.proofs.lemmas.Bool.Decides.{nat_tests}
use Rattle.ipcz_router.specs.Calls.{extend}
use Rattle.ipcz_world.proofs.frames.Frames.{same_key_tells}
use Rattle.ipcz_world.proofs.facts.RecordsAfter.{set_terminal, set_peripheral}
use Rattle.ipcz_world.proofs.frames.RecordRules.{is_recorded-inner}
use Rattle.ipcz_world.proofs.frames.OfRecords.{source}
use Rattle.ipcz_world.proofs.frames.StandingRules.{standing_rules}
use Rattle.ipcz_world.proofs.frames.Opened.{OpenInv}
use Rattle.ipcz_world.proofs.facts.Lengths.{same_link-tells}

-- the key of the next peripheral link of a node
abbrev pub next_key : World → ℕ → Key
next_key w n = record { node = n; serial = (node_at w n).next_peripheral }

-- the proxy that the terminal becomes
abbrev pub extended : World → Key → Router → ℕ → Router
extended w q r to = extend r (record { link = inner_link (next_key w q.node); side = A; other = to })

-- the records after it
abbrev pub extended_records : World → Records → Key → Router → ℕ → Records
extended_records w g q r to =
    set_terminal (set_peripheral g (next_key w q.node) (record {
      end = r.end;
      proxy = q.serial;
      node = to;
      router = None;
      by = None;
      left = none;
    })) r.end (Moving (descriptor_of r (inner_link (next_key w q.node))))

-- the worlds differ in the router of one key, in the count of peripheral links of its node, in flows and in hands
pub record IsGrown (w v : World) (q : Key) (y : Router) : Type 0 where
  pub router : (x : Key) → router_at v x ≡ cond (same_key x q) (Some y) (router_at w x)
  pub word : (i : ℕ) → word_at v i ≡ word_at w i
  pub claimed : v.claimed ≡ w.claimed
  pub size : v.size ≡ w.size
  pub count : v.count ≡ w.count
  pub node : (n : ℕ) → (node_at v n).number ≡ (node_at w n).number
  pub nodes : (n : ℕ) → (node_at v n).count ≡ (node_at w n).count
  pub opening : (n : ℕ) → (node_at v n).opening ≡ (node_at w n).opening
  pub next_router : (n : ℕ) → (node_at v n).next_router ≡ (node_at w n).next_router
  pub next_peripheral : (n : ℕ) → (node_at v n).next_peripheral ≡ cond (nat_eq n q.node) ((node_at w n).next_peripheral + 1)
      ((node_at w n).next_peripheral)
  pub strays : (n : ℕ) → (node_at v n).strays ≡ (node_at w n).strays

-- the terminal that is extended, toward another node
pub record IsExtend (w : World) (q : Key) (r : Router) (to : ℕ) : Type 0 where
  pub here : router_at w q ≡ Some r
  pub lone : is_terminal r ≡ true
  pub receiver : to < w.count

not_below : (b : Bool) (n : ℕ) → (b && nat_lt n n) ≡ false
not_below true n = grind (arith, nat_tests)
not_below false n = refl

just_below : (n c d i j : ℕ) → n < c → d ≡ c → j ≡ cond (nat_eq n n) (i + 1) i → (nat_lt n d && nat_lt i j) ≡ true
just_below n c d i j l e f = grind (arith, l, e, f, nat_tests)

same_key-is : (n x : ℕ) (p : Key) → same_key (record { node = n; serial = x }) p ≡ false → (nat_eq n p.node && nat_eq x p.serial) ≡ false
unfolding same_key
same_key-is n x p f = f

pub inner_one : (j k : Key) → inner_link j ≡ inner_link k → j ≡ k
inner_one j k e = let n : j.node ≡ k.node = grind (arith, e) in let s : j.serial ≡ k.serial = grind (arith, e) in
    λ i. record { node = n i; serial = s i }

pub two_begun : (n : ℕ) → n ≡ 2 → nat_le 1 n ≡ true
two_begun n e = grind (arith, e, nat_tests)

pub one_begun : (n : ℕ) → n ≡ 1 → nat_le 1 n ≡ true
one_begun n e = grind (arith, e, nat_tests)

pub stage_begun : (s n : ℕ) → 1 ≤ n → n ≤ s → nat_le 1 s ≡ true
stage_begun s n l e = grind (arith, l, e, nat_tests)

pub no_link_here : (l : LinkId) (s : Side) → has_link None l s ≡ true → ⊥
unfolding has_link
no_link_here l s h = cc

pub is_nowhere-moving : (d : Descriptor) → is_nowhere (Moving d) ≡ false
unfolding is_nowhere
is_nowhere-moving d = refl

pub inner_end_is : (g : Records) (k : Key) (s : Side) → side_end g (inner_link k) s ≡ (g.peripheral k).end
unfolding side_end
inner_end_is g k s = refl

module _ {w v : World} {b : Books} {g : Records} {q : Key} {r : Router} {a : ℕ} (law : OpenInv w b g) (is : IsExtend w q r a)
    (t : IsGrown w v q (extended w q r a)) where
  abbrev p : Key
  p = next_key w q.node

  abbrev h : Records
  h = extended_records w g q r a

  abbrev y : Router
  y = extended w q r a

  pub no_inward : r.inward ≡ None
  no_inward = go r.inward refl is.lone
    where
      go : (o : Option Edge) → r.inward ≡ o → is_none r.inward ≡ true → r.inward ≡ None
      go None e f = e
      go (Some x) e f = absurd (grind (arith, e, f))

  -- the link wasn't there
  unrecorded : is_recorded w g (inner_link p) ≡ false
  unrecorded = is_recorded-inner w g p ∙ not_below (nat_lt q.node w.count) (node_at w q.node).next_peripheral

  pub other_link : (link : LinkId) → is_recorded w g link ≡ true → same_link link (inner_link p) ≡ false
  other_link link e = go (same_link link (inner_link p)) refl
    where
      go : (c : Bool) → same_link link (inner_link p) ≡ c → same_link link (inner_link p) ≡ false
      go true f = let s : link ≡ inner_link p = same_link-tells link (inner_link p) f in absurd (grind (arith, s, e, unrecorded))
      go false f = f

  pub other_key : (x : Key) → is_recorded w g (inner_link x) ≡ true → same_key x p ≡ false
  unfolding same_key
  other_key x e = other_link (inner_link x) e

  pub recorded_more : (link : LinkId) → is_recorded w g link ≡ true → is_recorded v h link ≡ true
  unfolding is_recorded
  recorded_more (Central i) e = e
  recorded_more (Peripheral n x) e = grind (arith, t.count, t.next_peripheral n, e, nat_tests)

  pub recorded_new : is_recorded v h (inner_link p) ≡ true
  recorded_new = is_recorded-inner v h p ∙ just_below q.node w.count v.count (node_at w q.node).next_peripheral
      (node_at v q.node).next_peripheral (law.counts.on_node q r is.here) t.count (t.next_peripheral q.node)

  pub recorded_back : (link : LinkId) → is_recorded v h link ≡ true → (is_recorded w g link ≡ true) ⊎ (link ≡ inner_link p)
  unfolding is_recorded
  recorded_back (Central i) e = inl e
  recorded_back (Peripheral n x) e = go (same_key (record { node = n; serial = x }) p) refl
    where
      go : (c : Bool) → same_key (record { node = n; serial = x }) p ≡ c →
          ((nat_lt n w.count && nat_lt x (node_at w n).next_peripheral) ≡ true) ⊎ (Peripheral n x ≡ inner_link p)
      go true f = let s : record { node = n; serial = x } ≡ p = grind (arith, f, same_key_tells (record { node = n; serial = x }) p) in
          inr (ap inner_link s)
      go false f = inl (grind (arith, e, t.count, t.next_peripheral n, same_key_apart_by n x f, nat_tests))
        where
          same_key_apart_by : (n x : ℕ) → same_key (record { node = n; serial = x }) p ≡ false →
              (nat_eq n q.node && nat_eq x (node_at w q.node).next_peripheral) ≡ false
          same_key_apart_by n x f = same_key-is n x p f

  -- the records of other links
  pub router_same : (link : LinkId) (s : Side) → same_link link (inner_link p) ≡ false → side_router h link s ≡ side_router g link s
  unfolding side_router same_key
  router_same (Central i) s e = refl
  router_same (Peripheral n x) A e = grind (arith, e)
  router_same (Peripheral n x) B e = grind (arith, e)

  pub node_same : (link : LinkId) (s : Side) → same_link link (inner_link p) ≡ false → side_node h link s ≡ side_node g link s
  unfolding side_node same_key
  node_same (Central i) s e = refl
  node_same (Peripheral n x) A e = refl
  node_same (Peripheral n x) B e = grind (arith, e)

  pub end_same : (link : LinkId) (s : Side) → same_link link (inner_link p) ≡ false → side_end h link s ≡ side_end g link s
  unfolding side_end same_key
  end_same (Central i) s e = refl
  end_same (Peripheral n x) s e = grind (arith, e)

  pub source_same : (link : LinkId) (s : Side) → same_link link (inner_link p) ≡ false → source h link s ≡ source g link s
  unfolding source' same_key
  source_same (Central i) s e = refl
  source_same (Peripheral n x) A e = grind (arith, e)
  source_same (Peripheral n x) B e = grind (arith, e)

  -- no bypass had the link
  pub no_by : (g.peripheral p).by ≡ None
  no_by = go (g.peripheral p).by refl
    where
      go : (o : Option ℕ) → (g.peripheral p).by ≡ o → (g.peripheral p).by ≡ None
      go None e = e
      go (Some o) e = absurd (grind (arith, unrecorded, (law.bypasses o).inner (law.stands.by_begun p o e), law.stands.by_inner p o e))

  pub by_same : (x : Key) → (h.peripheral x).by ≡ (g.peripheral x).by
  by_same x = grind (arith, same_key_tells x p, no_by)

  pub bypass_same : (link : LinkId) → bypass_of h link ≡ bypass_of g link
  unfolding bypass_of
  bypass_same (Central i) = refl
  bypass_same (Peripheral n x) = by_same (record { node = n; serial = x })

  -- no more sides are left
  pub left_same : (link : LinkId) (s : Side) → is_left h link s ≡ is_left g link s
  unfolding is_left
  left_same (Central i) s = refl
  left_same (Peripheral n x) s = go (same_key_tells (record { node = n; serial = x }) p)
    where
      k : Key
      k = record { node = n; serial = x }

      old : (k : Key) → k ≡ p → has (g.peripheral k).left s ≡ false
      old k f = none (is_left g (inner_link k) s) refl
        where
          none : (c : Bool) → is_left g (inner_link k) s ≡ c → c ≡ false
          none false e = refl
          none true e = absurd (grind (arith, law.stands.left_recorded (inner_link k) s e, ap (λ z. is_recorded w g (inner_link z)) f, unrecorded))

      new_here : (k : Key) → same_key k p ≡ true → h.peripheral k ≡ record { end = r.end; proxy = q.serial; node = a; router = None; by = None; left = none }
      new_here k e = rw e refl

      go : ((same_key k p ≡ true) × (k ≡ p)) ⊎ ((same_key k p ≡ false) × (k ≢ p)) → has (h.peripheral k).left s ≡ has (g.peripheral k).left s
      go (inl e) = ap (λ z. has z.left s) (new_here k e.0) ∙ has-none s ∙ sym (old k e.1)
      go (inr e) = ap (λ z. has z.left s) (old_here k e.0)
        where
          old_here : (k : Key) → same_key k p ≡ false → h.peripheral k ≡ g.peripheral k
          old_here k e = rw e refl

  pub new_left : is_left h (inner_link p) B ≡ false
  new_left = left_same (inner_link p) B ∙ none (is_left g (inner_link p) B) refl
    where
      none : (c : Bool) → is_left g (inner_link p) B ≡ c → c ≡ false
      none false e = refl
      none true e = absurd (grind (arith, law.stands.left_recorded (inner_link p) B e, unrecorded))

  pub side_same : (o : ℕ) → is_begun (g.bypass o) ≡ true → proxy_side h o ≡ proxy_side g o
  side_same o e = grind (arith, other_key (g.bypass o).inner ((law.bypasses o).inner e))

  -- what stood there before
  pub stood : (x : Key) (z : Router) → router_at v x ≡ Some z → ((router_at w x ≡ Some z) × (same_key x q ≡ false)) ⊎ ((z ≡ y) × (x ≡ q))
  stood x z at = go (same_key x q) refl
    where
      go : (c : Bool) → same_key x q ≡ c → ((router_at w x ≡ Some z) × (same_key x q ≡ false)) ⊎ ((z ≡ y) × (x ≡ q))
      go true e = inr (grind (arith, t.router x, e, at), grind (arith, e, same_key_tells x q))
      go false e = inl (grind (arith, t.router x, e, at), e)

  key_of : (x : Key) → same_key x q ≡ true → x ≡ q
  key_of x c = grind (arith, c, same_key_tells x q)

  passes_at : (u : World) (x : Key) (z : Router) (test : Router → Bool) → router_at u x ≡ Some z → key_passes u (Some x) test ≡ test z
  unfolding key_passes passes
  passes_at u x z test at = rw at refl

  passes_alike : (u u' : World) (x : Key) (test : Router → Bool) → router_at u x ≡ router_at u' x →
      key_passes u (Some x) test ≡ key_passes u' (Some x) test
  unfolding key_passes passes
  passes_alike u u' x test at = rw at refl

  -- a test that the terminal passes only if the proxy does
  pub passes_kept : (o : Option Key) (test : Router → Bool) → (test r ≡ true → test y ≡ true) → key_passes w o test ≡ true →
      key_passes v o test ≡ true
  passes_kept None test f e = absurd (grind (arith, standing_rules, e))
  passes_kept (Some x) test f e = go (same_key x q) refl
    where
      go : (c : Bool) → same_key x q ≡ c → key_passes v (Some x) test ≡ true
      go true c = let b : router_at w x ≡ Some r = ap (router_at w) (key_of x c) ∙ is.here in
          let a : router_at v x ≡ Some y = t.router x ∙ ap (λ b. cond b (Some y) (router_at w x)) c in
          passes_at v x y test a ∙ f (sym (passes_at w x r test b) ∙ e)
      go false c = passes_alike v w x test (t.router x ∙ ap (λ b. cond b (Some y) (router_at w x)) c) ∙ e

  pub passes_equal : (o : Option Key) (test : Router → Bool) → test y ≡ test r → key_passes v o test ≡ key_passes w o test
  passes_equal None test f = grind (arith, standing_rules)
  passes_equal (Some x) test f = go (same_key x q) refl
    where
      go : (c : Bool) → same_key x q ≡ c → key_passes v (Some x) test ≡ key_passes w (Some x) test
      go true c = let b : router_at w x ≡ Some r = ap (router_at w) (key_of x c) ∙ is.here in
          let a : router_at v x ≡ Some y = t.router x ∙ ap (λ b. cond b (Some y) (router_at w x)) c in
          passes_at v x y test a ∙ f ∙ sym (passes_at w x r test b)
      go false c = passes_alike v w x test (t.router x ∙ ap (λ b. cond b (Some y) (router_at w x)) c)
