-- A descriptor becomes a terminal: what the records say of what was there, and of the terminal.
use Rattle.ipcz_word.specs.SideSets.{has}
use Rattle.ipcz_world.proofs.Vocabulary.{Side, A, B, End, LinkId, Central, Peripheral, Descriptor, Item, Message, same_side, same_link, opposite_end}
use Rattle.ipcz_world.proofs.Vocabulary.{item_at, Router, from_descriptor, World, Key, same_key, node_at, word_at, router_at, Books, Records, At}
use Rattle.ipcz_world.proofs.Vocabulary.{is_recorded, bypass_of, inner_link, side_node, side_router, side_end, proxy_side, terminal_descriptor}
use Rattle.ipcz_world.proofs.Vocabulary.{key_passes, IsUnderWay, moves_of, is_outward, moving_link, is_left, key_at, spare_of}
use Rattle.ipcz_world.specs.Routes.{source as source'}
use Rattle.std.specs.Prelude.{◌≡◌, ◌⊎◌, ◌<◌, ◌+◌, ℕ, Bool, true, false, cond, ◌&&◌, nat_eq, Option, Some, None, refl, slice_get}
use Rattle.std.specs.Ordering.{nat_cmp}
use Rattle.std.specs.FinMap.{get-empty}
use Rattle.std.proofs.Common.{arith, ap, subst, ◌∙◌, sym, inl, inr}
use Rattle.std.proofs.lemmas.Bool.Decides.{nat_tests}
use Rattle.ipcz_seq.specs.Queue.{queue_from}
use Rattle.ipcz_world.proofs.frames.Frames.{same_key_tells, same_key-itself}
use Rattle.ipcz_world.specs.Records.{PeripheralRecord}
use Rattle.ipcz_world.proofs.facts.RecordsAfter.{set_terminal, set_peripheral}
use Rattle.ipcz_world.proofs.frames.RecordRules.{side_router-inner, side_node-inner}
use Rattle.ipcz_world.proofs.frames.OfRecords.{source}
use Rattle.ipcz_world.proofs.frames.StandingRules.{standing_rules}
use Rattle.ipcz_world.proofs.frames.Opened.{OpenInv}
use Rattle.ipcz_world.proofs.frames.Awaited.{no_router}
use Rattle.ipcz_world.proofs.acts.ExtendingAround.{inner_end_is}

-- the records after it
abbrev pub made_key_records : Records → Key → Key → End → Records
made_key_records g p q e = set_terminal (set_peripheral g p (record (g.peripheral p) { router = Some q.serial })) e (At q)

-- the worlds differ in a new router under a key, in the count of routers of its node, in flows and in hands
pub record IsMade (w v : World) (q : Key) (y : Router) : Type 0 where
  pub router : (x : Key) → router_at v x ≡ cond (same_key x q) (Some y) (router_at w x)
  pub word : (i : ℕ) → word_at v i ≡ word_at w i
  pub claimed : v.claimed ≡ w.claimed
  pub size : v.size ≡ w.size
  pub count : v.count ≡ w.count
  pub node : (n : ℕ) → (node_at v n).number ≡ (node_at w n).number
  pub nodes : (n : ℕ) → (node_at v n).count ≡ (node_at w n).count
  pub opening : (n : ℕ) → (node_at v n).opening ≡ (node_at w n).opening
  pub next_router : (n : ℕ) → (node_at v n).next_router ≡ cond (nat_eq n q.node) ((node_at w n).next_router + 1) ((node_at w n).next_router)
  pub next_peripheral : (n : ℕ) → (node_at v n).next_peripheral ≡ (node_at w n).next_peripheral
  pub strays : (n : ℕ) → (node_at v n).strays ≡ (node_at w n).strays

-- a descriptor of a message under way from a node to the key's node, which is to be made under the key
pub record IsMaterial (w : World) (g : Records) (from : ℕ) (q p : Key) (d : Descriptor) : Type 0 where
  pub index : ℕ
  pub place : ℕ
  pub message : Message
  pub under_way : IsUnderWay w from q.node index message
  pub descriptor : slice_get (moves_of message) place ≡ Some d
  pub link : d.link ≡ inner_link p
  pub serial : q.serial ≡ (node_at w q.node).next_router

pub up : (s i j : ℕ) (c : Bool) → s < i → j ≡ cond c (i + 1) i → s < j
up s i j true l e = omega (arith, l, e)
up s i j false l e = omega (arith, l, e)

pub own_up : (n s i j : ℕ) → s ≡ i → j ≡ cond (nat_eq n n) (i + 1) i → s < j
own_up n s i j e f = grind (arith, e, f, nat_tests)

pub not_none : {X : Type 0} {x : X} → None ≡ Some x → ⊥
not_none e = cc

pub empty_at : (f m : ℕ) (i : Item) → item_at {T = Item} (queue_from f) m ≡ Some i → ⊥
empty_at f m i e = let n : item_at {T = Item} (queue_from f) m ≡ None = get-empty nat_cmp m in grind (arith, n, e)

pub is_outward-B : (k : Key) → is_outward (inner_link k) B ≡ true
unfolding is_outward
is_outward-B k = refl

pub no_central : {k : Key} {o : ℕ} → Central o ≡ inner_link k → ⊥
no_central e = cc

pub and_false : (b : Bool) → (b && false) ≡ false
and_false true = refl
and_false false = refl

pub no_spare : (i : ℕ) → spare_of None ≡ Some i → ⊥
unfolding spare_of
no_spare i e = cc

pub at_waits : (k : Key) (l : LinkId) → moving_link (At k) ≡ Some l → ⊥
unfolding terminal_descriptor
at_waits k l e = cc

pub at_one : (j k : Key) → At j ≡ At k → j ≡ k
at_one j k e = cc

module _ {w v : World} {b : Books} {g : Records} {a : ℕ} {q p : Key} {d : Descriptor} (law : OpenInv w b g) (is : IsMaterial w g a q p d)
    (t : IsMade w v q (from_descriptor d a)) where
  abbrev h : Records
  h = made_key_records g p q d.end

  abbrev y : Router
  y = from_descriptor d a

  pub recorded : is_recorded w g (inner_link p) ≡ true
  recorded = subst (λ l. is_recorded w g l ≡ true) is.link (law.moves.recorded a q.node is.index is.place is.message d is.under_way
      is.descriptor)

  pub from_node : side_node g (inner_link p) A ≡ a
  from_node = subst (λ l. side_node g l A ≡ a) is.link (law.moves.sender a q.node is.index is.place is.message d is.under_way is.descriptor)

  to_node : side_node g (inner_link p) B ≡ q.node
  to_node = subst (λ l. side_node g l B ≡ q.node) is.link (law.moves.receiver a q.node is.index is.place is.message d is.under_way
      is.descriptor)

  pub unmade : side_router g (inner_link p) B ≡ None
  unmade = subst (λ l. side_router g l B ≡ None) is.link (law.moves.awaited a q.node is.index is.place is.message d is.under_way
      is.descriptor)

  pub end_is : (g.peripheral p).end ≡ d.end
  end_is = sym (inner_end_is g p B) ∙ subst (λ l. side_end g l B ≡ d.end) is.link
      (law.moves.end a q.node is.index is.place is.message d is.under_way is.descriptor)

  pub no_inner_router : (g.peripheral p).router ≡ None
  no_inner_router = no_router (g.peripheral p).node (g.peripheral p).router (sym (side_router-inner g p) ∙ unmade)

  pub waits : moving_link (g.terminal d.end) ≡ Some (inner_link p)
  waits = ap (λ e. moving_link (g.terminal e)) (sym end_is) ∙ law.moves.moving p recorded no_inner_router

  -- the records of links, but the router inward
  pub peripheral_same : {X : Type 0} (f : PeripheralRecord → X) →
      ((x : PeripheralRecord) (o : Option ℕ) → f (record x { router = o }) ≡ f x) → (x : Key) → f (h.peripheral x) ≡ f (g.peripheral x)
  peripheral_same f e x = go (same_key x p) refl
    where
      go : (c : Bool) → same_key x p ≡ c → f (h.peripheral x) ≡ f (g.peripheral x)
      go true c = let s : x ≡ p = grind (arith, c, same_key_tells x p) in
          ap f (grind (arith, c)) ∙ e (g.peripheral p) (Some q.serial) ∙ ap (λ k. f (g.peripheral k)) (sym s)
      go false c = ap f (grind (arith, c))

  pub node_same : (link : LinkId) (s : Side) → side_node h link s ≡ side_node g link s
  unfolding side_node
  node_same (Central i) s = refl
  node_same (Peripheral n x) A = refl
  node_same (Peripheral n x) B = peripheral_same (λ z. z.node) (λ z o. refl) (record { node = n; serial = x })

  pub end_same : (link : LinkId) (s : Side) → side_end h link s ≡ side_end g link s
  unfolding side_end
  end_same (Central i) s = refl
  end_same (Peripheral n x) s = peripheral_same (λ z. z.end) (λ z o. refl) (record { node = n; serial = x })

  pub left_same : (link : LinkId) (s : Side) → is_left h link s ≡ is_left g link s
  unfolding is_left
  left_same (Central i) s = refl
  left_same (Peripheral n x) s = peripheral_same (λ z. has z.left s) (λ z o. refl) (record { node = n; serial = x })

  pub source_same : (link : LinkId) (s : Side) → source h link s ≡ source g link s
  unfolding source'
  source_same (Central i) s = refl
  source_same (Peripheral n x) A = peripheral_same (λ z. z.end) (λ z o. refl) (record { node = n; serial = x })
  source_same (Peripheral n x) B = ap opposite_end (peripheral_same (λ z. z.end) (λ z o. refl) (record { node = n; serial = x }))

  pub by_same : (x : Key) → (h.peripheral x).by ≡ (g.peripheral x).by
  by_same x = peripheral_same (λ z. z.by) (λ z o. refl) x

  pub bypass_same : (link : LinkId) → bypass_of h link ≡ bypass_of g link
  unfolding bypass_of
  bypass_same (Central i) = refl
  bypass_same (Peripheral n x) = by_same (record { node = n; serial = x })

  pub side_same : (o : ℕ) → proxy_side h o ≡ proxy_side g o
  side_same o = peripheral_same (λ z. z.end.side) (λ z o. refl) (g.bypass o).inner

  pub recorded_same : (link : LinkId) → is_recorded v h link ≡ is_recorded w g link
  unfolding is_recorded
  recorded_same (Central i) = refl
  recorded_same (Peripheral n x) = grind (arith, t.count, t.next_peripheral n)

  -- a side that had its router has it still
  pub router_kept : (link : LinkId) (s : Side) (x : Key) → side_router g link s ≡ Some x → side_router h link s ≡ Some x
  unfolding side_router
  router_kept (Central i) s x e = e
  router_kept (Peripheral n z) A x e = ap (λ o. Some (record { node = n; serial = o }))
      (peripheral_same (λ z. z.proxy) (λ z o. refl) (record { node = n; serial = z })) ∙ e
  router_kept (Peripheral n z) B x e = go (same_key (record { node = n; serial = z }) p) refl
    where
      go : (c : Bool) → same_key (record { node = n; serial = z }) p ≡ c →
          key_at (h.peripheral (record { node = n; serial = z })).node (h.peripheral (record { node = n; serial = z })).router ≡ Some x
      go true c = let s : record { node = n; serial = z } ≡ p = grind (arith, c, same_key_tells (record { node = n; serial = z }) p) in
          absurd (not_none (sym (ap (λ k. key_at (g.peripheral k).node (g.peripheral k).router) s ∙ ap (key_at (g.peripheral p).node)
          no_inner_router) ∙ e))
      go false c = grind (arith, c, e)

  pub router_new : side_router h (inner_link p) B ≡ Some q
  router_new = side_router-inner h p ∙ new_at ∙ ap (λ n. Some (record { node = n; serial = q.serial }))
      (sym (side_node-inner g p) ∙ to_node)
    where
      new_at : key_at (h.peripheral p).node (h.peripheral p).router ≡ Some (record { node = (g.peripheral p).node; serial = q.serial })
      new_at = grind (arith, same_key-itself p)

  -- another side has the router that it had, or none
  pub router_same : (link : LinkId) (s : Side) → (same_link link (inner_link p) && same_side s B) ≡ false →
      side_router h link s ≡ side_router g link s
  unfolding side_router same_key
  router_same (Central i) s e = refl
  router_same (Peripheral n z) A e = ap (λ o. Some (record { node = n; serial = o }))
      (peripheral_same (λ z. z.proxy) (λ z o. refl) (record { node = n; serial = z }))
  router_same (Peripheral n z) B e = grind (arith, e)

  -- the key is new
  key_new : (x : Key) → x.serial < (node_at w x.node).next_router → same_key x q ≡ false
  key_new x l = go (same_key x q) refl
    where
      go : (c : Bool) → same_key x q ≡ c → same_key x q ≡ false
      go false e = e
      go true e = let s : x ≡ q = grind (arith, e, same_key_tells x q) in
          absurd (low (subst (λ k. k.serial < (node_at w k.node).next_router) s l))
        where
          low : q.serial < (node_at w q.node).next_router → ⊥
          low l = omega (arith, l, is.serial)

  pub side_new : (link : LinkId) (s : Side) (x : Key) → is_recorded w g link ≡ true → side_router g link s ≡ Some x → same_key x q ≡ false
  side_new link s x rec e = key_new x (law.counts.side_serial link s x rec e)

  pub stood : (x : Key) (z : Router) → router_at w x ≡ Some z → router_at v x ≡ Some z
  stood x z e = t.router x ∙ grind (arith, key_new x (law.counts.serial x z e), e)

  pub was_there : (x : Key) (z : Router) → router_at v x ≡ Some z →
      ((router_at w x ≡ Some z) × (same_key x q ≡ false)) ⊎ ((z ≡ y) × (x ≡ q))
  was_there x z at = go (same_key x q) refl
    where
      go : (c : Bool) → same_key x q ≡ c → ((router_at w x ≡ Some z) × (same_key x q ≡ false)) ⊎ ((z ≡ y) × (x ≡ q))
      go true e = inr (grind (arith, t.router x, e, at), grind (arith, e, same_key_tells x q))
      go false e = inl (grind (arith, t.router x, e, at), e)

  pub passes_kept : (o : Option Key) (test : Router → Bool) → key_passes w o test ≡ true → key_passes v o test ≡ true
  passes_kept None test e = absurd (grind (arith, standing_rules, e))
  passes_kept (Some x) test e = go (router_at w x) refl
    where
      go : (z : Option Router) → router_at w x ≡ z → key_passes v (Some x) test ≡ true
      go None f = absurd (grind (arith, standing_rules, e, f))
      go (Some z) f = grind (arith, standing_rules, e, f, stood x z f)

  pub passes_same : (link : LinkId) (s : Side) (test : Router → Bool) → is_recorded w g link ≡ true → (o : Option Key) →
      side_router g link s ≡ o → key_passes v o test ≡ key_passes w o test
  passes_same link s test rec None e = grind (arith, standing_rules)
  passes_same link s test rec (Some x) e = grind (arith, standing_rules, t.router x, side_new link s x rec e)
