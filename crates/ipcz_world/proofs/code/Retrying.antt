-- A walk over the nodes of a world that lets each dry router ask again.
use Rattle.std.specs.Prelude.{◌≡◌, ◌⊎◌, ◌≤◌, ◌<◌, ◌+◌, ◌-◌, ◌^◌, ℕ, zero, suc, min, true, false, cond, Option, Some, None, length, nat_eq, option_map, refl, List, [], ◌∷◌}
use Rattle.std.specs.Ordering.{nat_cmp}
use Rattle.std.specs.FinMap.{FinMap, insert, get-empty}
use Rattle.std.proofs.Common.{arith, ap, sym, subst, ◌∙◌, inl, inr, true≢false}
use Rattle.std.proofs.lemmas.Option.{same_Some}
use Rattle.std.proofs.lemmas.Bool.{cases_lt}
use Rattle.std.proofs.lemmas.Bool.Decides.{nat_tests}
use Rattle.ipcz_router.specs.ActEffects.{rewet}
use Rattle.ipcz_world.proofs.Vocabulary.{Router, Node, World, Key, same_key, Books, bare_node, place_at, node_at, router_at, set_node, on_router}
use Rattle.ipcz_world.proofs.Vocabulary.{Routes, Lawful, IsLawful}
use Rattle.ipcz_node.specs.Node.{router_in, with_router}
use Rattle.ipcz_node.specs.Finding.{rewet_node}
use Rattle.ipcz_node.specs.Finding as nodes
use Rattle.ipcz_world.specs.HeldEnds.{wet_act}
use Rattle.ipcz_world.specs.Owed.{IsWet}
use Rattle.ipcz_world.specs.Retries.{LetAsk, LetAskAt, LetAskTold, LetsOneAsk, AllMayAsk, asking}
use Rattle.ipcz_world.proofs.acts.Updating.{set-twice, node-here}
use Rattle.ipcz_world.proofs.code.Slots.{put-same, length-put}
use Rattle.ipcz_world.proofs.frames.Frames.{node-set_node, router-set_router, count-set_node, same_key_tells}
use Rattle.ipcz_world.proofs.runs.Drying.{wet_keeps_lawful}

-- routers that ask again keep a world lawful
pub asks_lawful : (w : World) (count : ℕ) (v : World) (b : Books) (g : Routes) → LetAsk w count v → Lawful w b g → Lawful v b g
asks_lawful w zero v b g asked law = subst (λ (u : World). Lawful u b g) (sym asked) law
asks_lawful w (suc count) v b g asked law =
    let one = asked.2 in
    subst (λ (u : World). Lawful u b g) (sym one.after)
    (wet_keeps_lawful asked.0 b g one.key one.router (asks_lawful w count asked.0 b g asked.1 law) one.here)

pub asks_lawful_told : (w v : World) (told : ℕ) (b : Books) (g : Routes) → LetAskTold w told v → Lawful w b g → Lawful v b g
asks_lawful_told w v told b g asked law = asks_lawful w asked.0 v b g asked.1 law

pub asks_stay_lawful : (w v : World) (told : ℕ) → LetAskTold w told v → IsLawful w → IsLawful v
asks_stay_lawful w v told asked law = record { books = law.books; routes = law.routes; lawful = asks_lawful_told w v told law.books law.routes asked law.lawful }

-- what one node's routers do is done in the world
rewet_is : (n : Node) (s : ℕ) (r : Router) → router_in n s ≡ Some r → rewet_node n s ≡ with_router n s (rewet r)
unfolding on_router
rewet_is n s r here = rw here refl

set-same : (w : World) (n : ℕ) → n < length w.nodes → set_node w n (node_at w n) ≡ w
unfolding set_node node_at
set-same w n low = ap (λ ns. record w { nodes = ns }) (put-same (bare_node 0 0) w.nodes n low)

node_asks : (w : World) (before : ℕ) (u : World) (n : ℕ) (count : ℕ) (x : Node) → LetAsk w before u → n < length u.nodes → nodes.LetAsk (node_at u n) count x →
    LetAsk w (count + before) (set_node u n x)
unfolding router_at
node_asks w before u n zero x asked low is = subst (λ (c : ℕ). LetAsk w c (set_node u n x)) none
    (subst (LetAsk w before) (sym (ap (set_node u n) is ∙ set-same u n low)) asked)
  where
    none : before ≡ zero + before
    none = omega arith
node_asks w before u n (suc count) x asked low is = subst (λ (c : ℕ). LetAsk w c (set_node u n x)) more (
  set_node u n y,
  node_asks w before u n count y asked low is.1,
  record {
    key = record { node = n; serial = one.serial };
    router = one.router;
    here = ap (λ (z : Node). router_in z one.serial) (node-here u n y) ∙ one.here;
    dry = one.dry;
    after = ap (set_node u n) (one.after ∙ rewet_is y one.serial one.router one.here) ∙ sym (set-twice u n y (with_router y one.serial (rewet one.router)))
        ∙ ap (λ (z : Node). set_node (set_node u n y) n (with_router z one.serial (rewet one.router))) (sym (node-here u n y));
  },
)
  where
    y : Node
    y = is.0

    one : nodes.LetsOneAsk y x
    one = is.2

    more : suc (count + before) ≡ suc count + before
    more = omega arith

-- the nodes below a number have been walked over
pub record IsRetriedBelow (w : World) (n told : ℕ) (u : World) : Type 0 where
  pub asked : LetAskTold w told u
  pub wet : (k : Key) (r : Router) → k.node < n → router_at u k ≡ Some r → r.dry ≡ false
  pub count : u.count ≡ w.count
  pub nodes : length u.nodes ≡ w.count

long-set : (u : World) (n : ℕ) (x : Node) → n < length u.nodes → length (set_node u n x).nodes ≡ length u.nodes
unfolding set_node
long-set u n x low = length-put (bare_node 0 0) u.nodes n x low

one_or_other : (i n : ℕ) → (i ≡ n) ⊎ (i ≡ n → ⊥)
one_or_other i n = elim (cases_lt i n) [
  | inl t ↦ inr (λ e. omega (arith, e, t))
  | inr t ↦ elim (cases_lt n i) [
    | inl s ↦ inr (λ e. omega (arith, e, s))
    | inr s ↦ inl (omega (arith, t, s))
  ]
]

-- the routers of a node that was changed, and of the others
set_here : (u : World) (n : ℕ) (x : Node) (k : Key) → k.node ≡ n → router_at (set_node u n x) k ≡ router_in x k.serial
unfolding router_at
set_here u n x k at = ap (λ (z : Node). router_in z k.serial) (ap (node_at (set_node u n x)) at ∙ node-here u n x)

set_apart : (u : World) (n : ℕ) (x : Node) (k : Key) → (k.node ≡ n → ⊥) → router_at (set_node u n x) k ≡ router_at u k
unfolding router_at
set_apart u n x k off = ap (λ (z : Node). router_in z k.serial) (node-set_node u n x k.node ∙ ap (λ b. cond b x (node_at u k.node)) other)
  where
    other : nat_eq k.node n ≡ false
    other = grind (arith, off, nat_tests)

sum_told : (told count sum before : ℕ) → told ≡ min before (2 ^ 64 - 1) → sum ≡ min (told + count) (2 ^ 64 - 1) → sum ≡ min (count + before) (2 ^ 64 - 1)
sum_told told count sum before a s = omega (arith, a, s)

pub retried_more : (w : World) (n told count sum : ℕ) (u v : World) → IsRetriedBelow w n told u → n < w.count → LetAskAt u n count v →
    sum ≡ min (told + count) (2 ^ 64 - 1) → IsRetriedBelow w (n + 1) sum v
retried_more w n told count sum u v is low asks adds = record {
  asked = (
    count + is.asked.0,
    subst (LetAsk w (count + is.asked.0)) (sym asks.3) (node_asks w is.asked.0 u n count asks.0 is.asked.1 long asks.1),
    sum_told told count sum is.asked.0 is.asked.2 adds,
  );
  wet = λ k r below here. go k r below (subst (λ (z : World). router_at z k ≡ Some r) asks.3 here);
  count = ap (λ (z : World). z.count) asks.3 ∙ count-set_node u n asks.0 ∙ is.count;
  nodes = ap (λ (z : World). length z.nodes) asks.3 ∙ long-set u n asks.0 long ∙ is.nodes;
}
  where
    long : n < length u.nodes
    long = subst (λ (c : ℕ). n < c) (sym is.nodes) low

    go : (k : Key) (r : Router) → k.node < n + 1 → router_at (set_node u n asks.0) k ≡ Some r → r.dry ≡ false
    go k r below here = elim (one_or_other k.node n) [
      | inl t ↦ asks.2 k.serial r (sym (set_here u n asks.0 k t) ∙ here)
      | inr t ↦ is.wet k r (omega (arith, below, t)) (sym (set_apart u n asks.0 k t) ∙ here)
    ]

place_beyond : (xs : List Node) (n : ℕ) → length xs ≤ n → place_at (bare_node 0 0) xs n ≡ bare_node 0 0
unfolding place_at
place_beyond [] n past = refl
place_beyond (x ∷ xs) zero past = absurd (omega (arith, past))
place_beyond (x ∷ xs) (suc n) past = place_beyond xs n (omega (arith, past))

none_beyond : (u : World) (k : Key) → length u.nodes ≤ k.node → router_at u k ≡ None
unfolding router_at node_at
none_beyond u k past = ap (λ (z : Node). router_in z k.serial) (place_beyond u.nodes k.node past) ∙ get-empty nat_cmp k.serial

pub retried_all : (w : World) (n told : ℕ) (u : World) → IsRetriedBelow w n told u → w.count ≤ n → IsWet u
retried_all w n told u is all k r here = elim (cases_lt k.node n) [
  | inl t ↦ is.wet k r t here
  | inr t ↦ let no : None ≡ Some r = sym (none_beyond u k (omega (arith, t, is.nodes, all))) ∙ here in absurd (cc)
]

-- how a router stands after some were let ask: as it did, or it was dry and may claim again
abbrev StoodOrAsks : World → World → Key → Type 0
StoodOrAsks w v k = (router_at v k ≡ router_at w k) ⊎
    ((r : Router) × (router_at w k ≡ Some r) × (r.dry ≡ true) × (router_at v k ≡ Some (rewet r)))

-- some routers were let ask, and nothing else has changed
record SomeMayAsk (w v : World) : Type 0 where
  routers : (k : Key) → StoodOrAsks w v k
  nodes : (n : ℕ) → node_at v n ≡ record (node_at w n) { routers = (node_at v n).routers }
  rest : v ≡ record w { nodes = v.nodes }

none_asks : (w : World) → SomeMayAsk w w
none_asks w = record { routers = λ k. inl refl; nodes = λ n. refl; rest = refl }

-- a node that has other routers
has_others : (a c d : Node) (m : FinMap nat_cmp Router) → c ≡ record a { routers = c.routers } → d ≡ record c { routers = m } → d ≡ record a { routers = d.routers }
has_others a c d m is by = by ∙ ap (λ (z : Node). record z { routers = m }) is ∙ ap (λ (z : Node). record a { routers = z.routers }) (sym by)

node_stays : (w x : World) (k : Key) (r : Router) → ((n : ℕ) → node_at x n ≡ record (node_at w n) { routers = (node_at x n).routers }) →
    (n : ℕ) → node_at (wet_act x k r) n ≡ record (node_at w n) { routers = (node_at (wet_act x k r) n).routers }
node_stays w x k r nodes n = elim (one_or_other n k.node) [
  | inl t ↦ has_others (node_at w n) (node_at x n) (node_at y n) (insert (node_at x n).routers k.serial (rewet r)) (nodes n)
      (ap (node_at y) t ∙ node-here x k.node (with_router (node_at x k.node) k.serial (rewet r)) ∙ ap (λ i. with_router (node_at x i) k.serial (rewet r)) (sym t))
  | inr t ↦ has_others (node_at w n) (node_at x n) (node_at y n) (node_at x n).routers (nodes n)
      (node-set_node x k.node (with_router (node_at x k.node) k.serial (rewet r)) n
      ∙ ap (λ b. cond b (with_router (node_at x k.node) k.serial (rewet r)) (node_at x n)) (other t))
]
  where
    y : World
    y = wet_act x k r

    other : (n ≡ k.node → ⊥) → nat_eq n k.node ≡ false
    other off = grind (arith, off, nat_tests)

one_asks : (w x v : World) → SomeMayAsk w x → LetsOneAsk x v → SomeMayAsk w v
unfolding set_node
one_asks w x v some one = record {
  routers = λ k. subst (λ (z : World). StoodOrAsks w z k) (sym one.after) (stood k (same_key_tells k one.key));
  nodes = λ n. subst (λ (z : World). node_at z n ≡ record (node_at w n) { routers = (node_at z n).routers }) (sym one.after)
      (node_stays w x one.key one.router some.nodes n);
  rest = one.after ∙ ap (λ (z : World). record z { nodes = y.nodes }) some.rest ∙ ap (λ (z : World). record w { nodes = z.nodes }) (sym one.after);
}
  where
    y : World
    y = wet_act x one.key one.router

    gone : (k : Key) → k ≡ one.key → same_key k one.key ≡ true → StoodOrAsks w x one.key → StoodOrAsks w y k
    gone k at same (inl e) = inr (
      one.router,
      ap (router_at w) at ∙ (sym e ∙ one.here),
      one.dry,
      router-set_router x one.key (rewet one.router) k ∙ ap (λ b. cond b (Some (rewet one.router)) (router_at x k)) same,
    )
    gone k at same (inr t) = absurd (true≢false (sym one.dry ∙ ap (λ (z : Router). z.dry) (same_Some one.router (rewet t.0) (sym one.here ∙ t.3))))

    stood : (k : Key) → ((same_key k one.key ≡ true) × (k ≡ one.key)) ⊎ ((same_key k one.key ≡ false) × (k ≡ one.key → ⊥)) → StoodOrAsks w y k
    stood k (inl m) = gone k m.1 m.0 (some.routers one.key)
    stood k (inr m) = elim (some.routers k) [
      | inl e ↦ inl (apart ∙ e)
      | inr t ↦ inr (t.0, t.1, t.2, apart ∙ t.3)
    ]
      where
        apart : router_at y k ≡ router_at x k
        apart = router-set_router x one.key (rewet one.router) k ∙ ap (λ b. cond b (Some (rewet one.router)) (router_at x k)) m.0

some_ask : (w : World) (count : ℕ) (v : World) → LetAsk w count v → SomeMayAsk w v
some_ask w zero v is = subst (SomeMayAsk w) (sym is) (none_asks w)
some_ask w (suc count) v is = one_asks w is.0 v (some_ask w count is.0 is.1) is.2

pub all_may_ask : (w v : World) (told : ℕ) → LetAskTold w told v → IsWet v → AllMayAsk w v
all_may_ask w v told asked wet = record {
  routers = λ k. go k (router_at w k) refl (some.routers k);
  nodes = some.nodes;
  rest = some.rest;
}
  where
    some : SomeMayAsk w v
    some = some_ask w asked.0 v asked.1

    go : (k : Key) (o : Option Router) → router_at w k ≡ o → StoodOrAsks w v k → router_at v k ≡ option_map asking o
    go k None e (inl same) = same ∙ e
    go k None e (inr t) = let no : None ≡ Some t.0 = sym e ∙ t.1 in absurd (cc)
    go k (Some r) e (inl same) = same ∙ e ∙ ap (λ b. Some (cond b (rewet r) r)) (sym (wet k r (same ∙ e)))
    go k (Some r) e (inr t) = let is = same_Some t.0 r (sym t.1 ∙ e) in
        t.3 ∙ ap (λ (z : Router). Some (rewet z)) is ∙ ap (λ b. Some (cond b (rewet r) r)) (sym (ap (λ (z : Router). z.dry) (sym is) ∙ t.2))
