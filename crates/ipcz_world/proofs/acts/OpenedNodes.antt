-- A node after an open: two terminals more, held by its callers.
use Rattle.ipcz_world.proofs.frames.OfRecords.{holds, held_times, source, in_message, in_node, in_places}
use Rattle.ipcz_world.proofs.Vocabulary.{Weight, in_router, times, Side, A, B, End, LinkId, Central, Peripheral, opposite, opposite_end, total}
use Rattle.ipcz_world.proofs.Vocabulary.{total_below, total_list, Node, World, Key, node_at, word_at, router_at, flow, Books, Records, Owner, Opening}
use Rattle.ipcz_world.proofs.Vocabulary.{Terminal, is_linked, is_unclaimed, is_recorded, is_nowhere, IsUnderWay, times_held, Inv, new_end}
use Rattle.ipcz_world.proofs.Vocabulary.{claim_for_open, Unclaimed, CentralRecord}
use Rattle.ipcz_world.specs.Places.{in_node as in_node'}
use Rattle.ipcz_world.specs.Routes.{source as source'}
use Rattle.std.specs.Prelude.{◌≡◌, ◌≢◌, ◌⊎◌, ◌<◌, ◌+◌, ℕ, Bool, true, false, cond, nat_eq, Some, None, refl, []}
use Rattle.std.specs.Ordering.{nat_cmp}
use Rattle.std.proofs.Common.{arith, ap, subst, ◌∙◌, sym, inl, inr}
use Rattle.std.proofs.lemmas.Bool.Decides.{nat_tests}
use Rattle.ipcz_base.proofs.Totals.{total-empty}
use Rattle.ipcz_world.proofs.frames.Frames.{frames}
use Rattle.ipcz_world.proofs.facts.RecordsAfter.{opening_records}
use Rattle.ipcz_world.proofs.frames.Changing.{flow_is, same_routers}
use Rattle.ipcz_world.proofs.frames.Flowing.{under_way-congr}
use Rattle.ipcz_world.proofs.frames.Weighing.{in_places-is, in_router-is, under_way-same, in_message-same}
use Rattle.ipcz_world.proofs.frames.FirstLink.{inv-grown}
use Rattle.ipcz_world.proofs.frames.RecordRules.{unclaimed-is}
use Rattle.ipcz_world.proofs.frames.Totalling.{total_below-same}
use Rattle.ipcz_world.proofs.facts.Tests.{not_both}

pub times_by : (w v : World) (e : End) → v.count ≡ w.count → ((m : ℕ) → m < w.count →
    held_times e (node_at v m).held + times e (node_at v m).pending ≡ held_times e (node_at w m).held + times e (node_at w m).pending) →
    times_held v e ≡ times_held w e
times_by w v e count same = ap (λ c. total_below c (λ m. held_times e (node_at v m).held + times e (node_at v m).pending)) count
    ∙ total_below-same w.count (λ m. held_times e (node_at v m).held + times e (node_at v m).pending)
    (λ m. held_times e (node_at w m).held + times e (node_at w m).pending) same

-- a node without strays weighs what its routers weigh
pub in_node_is : (f : Weight) (g : Records) (n : Node) → n.strays ≡ [] → in_node f g n ≡ total (λ serial r. in_router f r) n.routers
unfolding in_node'
in_node_is f g n e = omega (arith, ap (total_list (in_message f g)) e)

pub same_number : (j i : ℕ) → (j ≡ i) ⊎ (j ≢ i)
same_number j i = go (nat_eq j i) refl
  where
    go : (c : Bool) → nat_eq j i ≡ c → (j ≡ i) ⊎ (j ≢ i)
    go true e = inl (grind (arith, e, nat_tests))
    go false e = inr (λ s. grind (arith, e, s, nat_tests))

-- messages weigh the same by records in which the links that have records have the same sources
pub places_by : (f : Weight) (w v : World) (b : Books) (g h : Records) → Inv w b g → v.count ≡ w.count →
    ((from to : ℕ) → flow v from to ≡ flow w from to) → ((l : LinkId) (s : Side) → is_recorded w g l ≡ true → source h l s ≡ source g l s) →
    ((n : ℕ) → (node_at v n).strays ≡ (node_at w n).strays) → ((n : ℕ) →
    total (λ serial r. in_router f r) (node_at v n).routers ≡ total (λ serial r. in_router f r) (node_at w n).routers) →
    in_places f h v ≡ in_places f g w
places_by f w v b g h law count flows sources strays routers = omega (
  arith,
  in_places-is f h v,
  in_places-is f g w,
  ap (λ c. total_below c (λ n. in_node f h (node_at v n))) count,
  total_below-same w.count (λ n. in_node f h (node_at v n)) (λ n. in_node f g (node_at w n))
      (λ n l. in_node_is f h (node_at v n) (strays n ∙ law.no_strays n) ∙ routers n ∙ sym (in_node_is f g (node_at w n) (law.no_strays n))),
  under_way-same (λ from to m. in_message f h m) w v count flows,
  under_way-congr (λ from to m. in_message f h m) (λ from to m. in_message f g m) w
      (λ from to i m u. in_message-same f g h m (λ x c j z ds e. sources x c
      (law.items.recorded from to i x c j z ds (subst (λ m. IsUnderWay w from to i m) e u)))),
)

-- the first half of an open
pub inv-claim_for_open : (w : World) (b : Books) (g : Records) (n : ℕ) → Inv w b g → w.claimed < w.size → (node_at w n).opening ≡ None →
    Inv (claim_for_open w n) b (opening_records g n w.claimed)
unfolding is_unclaimed is_linked source'
inv-claim_for_open w b g n law room none = inv-grown w v b g owner' g.central g.terminal i (λ s. record { node = 0; serial = 0 }) law
    (record {
      was = λ q x e. inl (sym (routers q) ∙ e);
      old = λ q l. routers q;
      count = grind (arith, frames);
      node = λ m. grind (arith, nodes m, nat_tests);
      nodes = λ m. grind (arith, nodes m, nat_tests);
      next_peripheral = λ m. grind (arith, nodes m, nat_tests);
      next_router = λ m. grind (arith, nodes m, nat_tests);
      strays = λ m. grind (arith, nodes m, nat_tests);
      pending = λ m. grind (arith, nodes m, nat_tests);
      hands = record { hand = λ m. grind (arith, nodes m, nat_tests); mail = λ k. grind (arith, frames) };
      flows = flows;
      claimed = grind (arith, frames, room);
      unclaimed = λ j. grind (arith, frames, law.counts.unclaimed j, nat_tests);
      owner = λ j ne. grind (arith, ne, nat_tests);
      central = λ j ne. refl;
      word = λ j ne. words j;
      free = ap is_linked mine;
      no_spare = λ k e. grind (arith, mine, e);
      no_fresh = λ o e. grind (arith, mine, e);
      not_spare = λ k e. grind (arith, now, e);
      not_fresh = λ o e. grind (arith, now, e);
      opening = λ m j e. opening m j e (nat_eq m n) refl;
      opening_back = λ m j e. opening_back m j e (same_number j i);
      unlinked = λ e. words i ∙ (law.words.each i).unused (ap is_linked mine);
      still = λ e. refl;
      linked = λ e. absurd (not_both (is_linked (owner' i)) e (ap is_linked now));
      terminal = λ e. inl refl;
      terminal_pair = law.terminals.both;
      held = λ m e k. inl (ap (holds e) (sym (held m)) ∙ k);
      times = λ e. ap (λ t. t + cond (is_nowhere (g.terminal e)) 0 1) (times_kept e);
      places = λ f. places_by f w v b g (opening_records g n i) law (grind (arith, frames)) flows (λ l s r. sources l s)
          (λ m. grind (arith, nodes m, nat_tests)) (λ m. ap (total (λ serial r. in_router f r)) (maps m));
    })
  where
    i : ℕ
    i = w.claimed

    owner' : ℕ → Owner
    owner' = λ j. cond (nat_eq j i) (Opening n) (g.owner j)

    v : World
    v = claim_for_open w n

    x : Node
    x = record (node_at w n) { opening = Some i }

    nodes : (m : ℕ) → node_at v m ≡ cond (nat_eq m n) x (node_at w m)
    nodes m = grind (arith, frames)

    words : (j : ℕ) → word_at v j ≡ word_at w j
    words j = grind (arith, frames)

    maps : (m : ℕ) → (node_at v m).routers ≡ (node_at w m).routers
    maps m = grind (arith, nodes m, nat_tests)

    pending : (m : ℕ) → (node_at v m).pending ≡ (node_at w m).pending
    pending m = grind (arith, nodes m, nat_tests)

    held : (m : ℕ) → (node_at v m).held ≡ (node_at w m).held
    held m = grind (arith, nodes m, nat_tests)

    routers : (q : Key) → router_at v q ≡ router_at w q
    routers q = same_routers w v q (maps q.node)

    flows : (from to : ℕ) → flow v from to ≡ flow w from to
    flows from to = flow_is v from to ∙ grind (arith, frames, nodes from, nat_tests) ∙ sym (flow_is w from to)

    mine : g.owner i ≡ Unclaimed
    mine = unclaimed-is (g.owner i) (law.counts.unclaimed i ∙ grind (arith, nat_tests))

    now : owner' i ≡ Opening n
    now = grind (arith, nat_tests)

    sources : (l : LinkId) (s : Side) → source (opening_records g n i) l s ≡ source g l s
    sources (Central j) s = refl
    sources (Peripheral m y) A = refl
    sources (Peripheral m y) B = refl

    times_kept : (e : End) → times_held v e ≡ times_held w e
    times_kept e = times_by w v e (grind (arith, frames)) (λ m l. ap (λ es. held_times e es + times e (node_at v m).pending) (held m) ∙ ap
        (λ es. held_times e (node_at w m).held + times e es) (pending m))

    opening : (m j : ℕ) → (node_at v m).opening ≡ Some j → (c : Bool) → nat_eq m n ≡ c → owner' j ≡ Opening m
    opening m j e true c = grind (arith, nodes m, e, c, nat_tests)
    opening m j e false c = grind (arith, nodes m, e, c, law.spares.opening m j, mine, nat_tests)

    opening_back : (m j : ℕ) → owner' j ≡ Opening m → (j ≡ i) ⊎ (j ≢ i) → (node_at v m).opening ≡ Some j
    opening_back m j e (inl s) = grind (arith, nodes m, e, s, nat_tests)
    opening_back m j e (inr ne) = grind (arith, nodes m, e, ne, law.spares.opening_back m j, none, nat_tests)

-- the first terminals with nothing in their queues weigh nothing
pub fresh_weight : (f : Weight) (i : ℕ) (t : Side) (other : ℕ) → in_router f (new_end i t other) ≡ 0
fresh_weight f i t other = omega (
  arith,
  in_router-is f (new_end i t other),
  total-empty nat_cmp (f (record { pair = i; side = t })),
  total-empty nat_cmp (f (opposite_end (record { pair = i; side = t }))),
)

pub source_apart : (g : Records) (o : ℕ → Owner) (c : ℕ → CentralRecord) (t : End → Terminal) (i : ℕ) (l : LinkId) (s : Side) →
    ((j : ℕ) → j ≢ i → c j ≡ g.central j) → l ≢ Central i → source (record g { owner = o; central = c; terminal = t }) l s ≡ source g l s
unfolding source'
source_apart g o c t i (Central j) s e ne = ap (λ (r : CentralRecord). record { pair = r.pair; side = opposite s })
    (e j (λ f. ne (ap Central f)))
source_apart g o c t i (Peripheral m y) A e ne = refl
source_apart g o c t i (Peripheral m y) B e ne = refl

pub recorded_apart : (w : World) (g : Records) (i : ℕ) (l : LinkId) → is_linked (g.owner i) ≡ false → is_recorded w g l ≡ true →
    l ≢ Central i
unfolding is_recorded
recorded_apart w g i (Central j) free r e = let f : j ≡ i = grind (arith, e) in grind (arith, free, r, f)
recorded_apart w g i (Peripheral m y) free r e = grind (arith, e)
