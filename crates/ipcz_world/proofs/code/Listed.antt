-- The acts of a node that are listed are those that it may take, each once.
use Rattle.std.specs.Prelude.{◌≡◌, ◌⊎◌, ◌<◌, ◌≤◌, ◌+◌, ◌++◌, ◌∷◌, [], ◌&&◌, ℕ, zero, suc, Bool, true, false, cond, T, map, nat_lt, nat_eq, slice_get, List, Option, Some, None, refl}
use Rattle.std.proofs.Common.{arith, ap, sym, subst, inl, inr, ◌∙◌}
use Rattle.std.proofs.lemmas.Bool.Decides.{nat_tests}
use Rattle.std.specs.List.{filter}
use Rattle.std.specs.Ordering.{nat_cmp, eq_by_cmp, is_lt}
use Rattle.std.specs.FinMap.{entries, entries_sorted, find, get-entries, is_sorted}
use Rattle.std.specs.FinMap.Entries.{below_all}
use Rattle.ipcz_base.specs.declared.end.End.{End}
use Rattle.ipcz_router.specs.Router.{Router}
use Rattle.ipcz_router.specs.declared.act.RouterAct.{RouterAct}
use Rattle.ipcz_router.specs.declared.act.RouterAct.TheVariants.{SendOut, SendIn, Discard, FinishOut, FinishIn, Leave, Mark, Wake, Claim}
use Rattle.ipcz_router.specs.declared.act.RouterAct.TheVariants.{Lock, Begin, Retire, Unlock, Rest}
use Rattle.ipcz_world.proofs.Vocabulary.{is_hand_of, Look, Post, Idle, can_act, may_act, router_of, numbers_from}
use Rattle.ipcz_node.specs.declared.act.Act.{Act}
use Rattle.ipcz_node.specs.declared.act.Act.TheVariants.{Hand, Close, Router as OfRouter}
use Rattle.ipcz_world.specs.Listing.{acts_in_order, acts_of_hand, acts_of_pending, acts_of_routers, AreAllPossible, AreDistinct, ArePossible, IsAmong, possible_acts, router_acts}
use Rattle.ipcz_world.specs.Turns.{can_take, is_first_pending}
use Rattle.ipcz_world.specs.World.{World, node_at, router_at}
use Rattle.ipcz_world.proofs.facts.LinkTests.{same_end-tells}
use Rattle.ipcz_world.proofs.facts.Reaching.{left, less, right}
use Rattle.ipcz_world.proofs.facts.Tests.{and_first, and_second}

-- ---- lists

among-front : (a : Act) (xs ys : List Act) → IsAmong a xs → IsAmong a (xs ++ ys)
among-front a [] ys is = absurd is
among-front a (x ∷ xs) ys is = elim is [ inl e ↦ inl e | inr more ↦ inr (among-front a xs ys more) ]

among-back : (a : Act) (xs ys : List Act) → IsAmong a ys → IsAmong a (xs ++ ys)
among-back a [] ys is = is
among-back a (x ∷ xs) ys is = inr (among-back a xs ys is)

among-parts : (a : Act) (xs ys : List Act) → IsAmong a (xs ++ ys) → IsAmong a xs ⊎ IsAmong a ys
among-parts a [] ys is = inr is
among-parts a (x ∷ xs) ys is = elim is [
  | inl e ↦ inl (inl e)
  | inr more ↦ elim (among-parts a xs ys more) [ inl there ↦ inl (inr there) | inr there ↦ inr there ]
]

distinct-parts : (xs ys : List Act) → AreDistinct xs → AreDistinct ys → ((a : Act) → IsAmong a xs → IsAmong a ys → ⊥) → AreDistinct (xs ++ ys)
distinct-parts [] ys one two apart = two
distinct-parts (x ∷ xs) ys one two apart = (
  λ is. elim (among-parts x xs ys is) [ inl there ↦ one.0 there | inr there ↦ apart x (inl refl) there ],
  distinct-parts xs ys one.1 two (λ a in_xs in_ys. apart a (inr in_xs) in_ys),
)

-- ---- what passes a test

module _ (p : Act → Bool) where
  passes : (a : Act) (xs : List Act) → p a ≡ true → IsAmong a xs → IsAmong a (filter p xs)
  passes a [] can is = absurd is
  passes a (x ∷ xs) can is = go (p x) refl (λ there. passes a xs can there)
    where
      go : (c : Bool) → p x ≡ c → (IsAmong a xs → IsAmong a (filter p xs)) → IsAmong a (cond c (x ∷ filter p xs) (filter p xs))
      go true q rest = elim is [ inl e ↦ inl e | inr there ↦ inr (rest there) ]
      go false q rest = elim is [
        | inl e ↦ absurd (let f : p a ≡ false = ap p e ∙ q in cc)
        | inr there ↦ rest there
      ]

  was : (a : Act) (xs : List Act) → IsAmong a (filter p xs) → IsAmong a xs
  was a [] is = is
  was a (x ∷ xs) is = go (p x) is (λ there. was a xs there)
    where
      go : (c : Bool) → IsAmong a (cond c (x ∷ filter p xs) (filter p xs)) → (IsAmong a (filter p xs) → IsAmong a xs) → IsAmong a (x ∷ xs)
      go true there rest = elim there [ inl e ↦ inl e | inr more ↦ inr (rest more) ]
      go false there rest = inr (rest there)

  distinct-passing : (xs : List Act) → AreDistinct xs → AreDistinct (filter p xs)
  distinct-passing [] once = once
  distinct-passing (x ∷ xs) once = go (p x) (distinct-passing xs once.1)
    where
      go : (c : Bool) → AreDistinct (filter p xs) → AreDistinct (cond c (x ∷ filter p xs) (filter p xs))
      go true rest = (λ there. once.0 (was x xs there), rest)
      go false rest = rest

only_possible : (w : World) (n : ℕ) (xs : List Act) → AreAllPossible w n (filter (can_act w n) xs)
only_possible w n [] = tt
only_possible w n (x ∷ xs) = go (can_act w n x) refl (only_possible w n xs)
  where
    go : (c : Bool) → can_act w n x ≡ c → AreAllPossible w n (filter (can_act w n) xs) →
        AreAllPossible w n (cond c (x ∷ filter (can_act w n) xs) (filter (can_act w n) xs))
    go true q rest = (q, rest)
    go false q rest = rest

-- ---- kinds of acts, one behind the other

abbrev kind : Act → ℕ
kind (Hand sender) = 0
kind (Look sender) = 1
kind (Post to) = 2
kind (Close end) = 3
kind (OfRouter serial act) = 4
kind Idle = 5

abbrev IsOfKind : ℕ → List Act → Type 0
IsOfKind k xs = (a : Act) → IsAmong a xs → kind a ≡ k

-- no act stands there twice, and each is of this kind or a later one
abbrev AreBehind : ℕ → List Act → Type 0
AreBehind k xs = AreDistinct xs × ((a : Act) → IsAmong a xs → k ≤ kind a)

joined : (k : ℕ) (xs ys : List Act) → IsOfKind k xs → AreDistinct xs → AreBehind (suc k) ys → AreBehind k (xs ++ ys)
joined k xs ys of once later = (
  distinct-parts xs ys once later.0 (λ a in_xs in_ys. absurd (omega (arith, of a in_xs, later.1 a in_ys))),
  λ a is. elim (among-parts a xs ys is) [ inl there ↦ omega (arith, of a there) | inr there ↦ omega (arith, later.1 a there) ],
)

-- ---- numbers

module _ (f : ℕ → Act) (apart : (i j : ℕ) → f i ≡ f j → i ≡ j) where
  number-of : (a : Act) (i left : ℕ) → IsAmong a (map f (numbers_from i left)) → (k : ℕ) × (i ≤ k) × (a ≡ f k)
  number-of a i zero is = absurd is
  number-of a i (suc left) is = elim is [
    | inl e ↦ (i, omega arith, e)
    | inr there ↦ let more = number-of a (i + 1) left there in (more.0, omega (arith, more.1), more.2)
  ]

  numbers-apart : (i left : ℕ) → AreDistinct (map f (numbers_from i left))
  numbers-apart i zero = tt
  numbers-apart i (suc left) = (
    λ there. let more = number-of (f i) (i + 1) left there in let same = apart i more.0 more.2 in absurd (omega (arith, more.1, same)),
    numbers-apart (i + 1) left,
  )

  has-number : (i left k : ℕ) → i ≤ k → k < i + left → IsAmong (f k) (map f (numbers_from i left))
  has-number i zero k low high = absurd (omega (arith, low, high))
  has-number i (suc left) k low high = go (nat_eq i k) refl (λ l h. has-number (i + 1) left k l h)
    where
      go : (c : Bool) → nat_eq i k ≡ c → (i + 1 ≤ k → k < (i + 1) + left → IsAmong (f k) (map f (numbers_from (i + 1) left))) →
          IsAmong (f k) (map f (numbers_from i (suc left)))
      go true e rest = let same : k ≡ i = grind (arith, e, nat_tests) in inl (ap f same)
      go false e rest = inr (rest (grind (arith, low, e, nat_tests)) (omega (arith, high)))

-- ---- the acts of a router

abbrev rank : RouterAct → ℕ
rank SendOut = 0
rank SendIn = 1
rank Discard = 2
rank FinishOut = 3
rank FinishIn = 4
rank Leave = 5
rank Mark = 6
rank Wake = 7
rank Claim = 8
rank Lock = 9
rank Begin = 10
rank Retire = 11
rank Unlock = 12
rank Rest = 13

there : (act : RouterAct) → slice_get router_acts (rank act) ≡ Some act
there SendOut = refl
there SendIn = refl
there Discard = refl
there FinishOut = refl
there FinishIn = refl
there Leave = refl
there Mark = refl
there Wake = refl
there Claim = refl
there Lock = refl
there Begin = refl
there Retire = refl
there Unlock = refl
there Rest = refl

-- their ranks rise from one on
abbrev AreRanked : ℕ → List RouterAct → Type 0
AreRanked lowest [] = Unit {0}
AreRanked lowest (act ∷ acts) = (lowest ≤ rank act) × AreRanked (suc (rank act)) acts

module _ (s : ℕ) where
  has-act : (act : RouterAct) (acts : List RouterAct) (i : ℕ) → slice_get acts i ≡ Some act → IsAmong (OfRouter s act) (map (OfRouter s) acts)
  has-act act [] i is = absurd (cc)
  has-act act (x ∷ xs) zero is = inl (let same : act ≡ x = cc in ap (OfRouter s) same)
  has-act act (x ∷ xs) (suc i) is = inr (has-act act xs i is)

  is-ranked : (t : ℕ) (act : RouterAct) (lowest : ℕ) (acts : List RouterAct) → AreRanked lowest acts → IsAmong (OfRouter t act) (map (OfRouter s) acts) →
      (t ≡ s) × (lowest ≤ rank act)
  is-ranked t act lowest [] ranked is = absurd is
  is-ranked t act lowest (x ∷ xs) ranked is = elim is [
    | inl e ↦ let same : act ≡ x = cc in let at : t ≡ s = cc in (at, omega (arith, ranked.0, ap rank same))
    | inr more ↦ let rest = is-ranked t act (suc (rank x)) xs ranked.1 more in (rest.0, omega (arith, ranked.0, rest.1))
  ]

  ranked-apart : (lowest : ℕ) (acts : List RouterAct) → AreRanked lowest acts → AreDistinct (map (OfRouter s) acts)
  ranked-apart lowest [] ranked = tt
  ranked-apart lowest (x ∷ xs) ranked = (
    λ is. let rest = is-ranked s x (suc (rank x)) xs ranked.1 is in absurd (omega (arith, rest.1)),
    ranked-apart (suc (rank x)) xs ranked.1,
  )

  of-router : (a : Act) (acts : List RouterAct) → IsAmong a (map (OfRouter s) acts) → (act : RouterAct) × (a ≡ OfRouter s act)
  of-router a [] is = absurd is
  of-router a (x ∷ xs) is = elim is [ inl e ↦ (x, e) | inr more ↦ of-router a xs more ]

table-ranked : AreRanked 0 router_acts
table-ranked = (
  omega arith,
  (
    omega arith,
    (
      omega arith,
      (
        omega arith,
        (
          omega arith,
          (
            omega arith,
            (
              omega arith,
              (omega arith, (omega arith, (omega arith, (omega arith, (omega arith, (omega arith, (omega arith, tt))))))),
            ),
          ),
        ),
      ),
    ),
  ),
)

-- ---- the acts of routers

-- a router of the entries has this serial
abbrev IsSerial : ℕ → List (ℕ × Router) → Type 0
IsSerial s [] = ⊥
IsSerial s (e ∷ es) = (s ≡ e.0) ⊎ IsSerial s es

above : (x s : ℕ) (es : List (ℕ × Router)) → T (below_all nat_cmp x es) → IsSerial s es → x < s
above x s [] b is = absurd is
above x s (e ∷ es) b is =
    let low : x < e.0 = less x e.0 (left (is_lt (nat_cmp x e.0)) (below_all nat_cmp x es) b) in
    elim is [ inl same ↦ omega (arith, low, same) | inr more ↦ above x s es (right (is_lt (nat_cmp x e.0)) (below_all nat_cmp x es) b) more ]

of-routers : (a : Act) (es : List (ℕ × Router)) → IsAmong a (acts_of_routers es) → (s : ℕ) × (act : RouterAct) × IsSerial s es × (a ≡ OfRouter s act)
of-routers a [] is = absurd is
of-routers a (e ∷ es) is = elim (among-parts a (map (OfRouter e.0) router_acts) (acts_of_routers es) is) [
  | inl here ↦ let of = of-router e.0 a router_acts here in (e.0, of.0, inl refl, of.1)
  | inr more ↦ let of = of-routers a es more in (of.0, of.1, inr of.2, of.3)
]

same_serial : (s t : ℕ) (x y : RouterAct) → OfRouter s x ≡ OfRouter t y → s ≡ t
same_serial s t x y e = cc

routers-apart : (es : List (ℕ × Router)) → T (is_sorted nat_cmp es) → AreDistinct (acts_of_routers es)
routers-apart [] sorted = tt
routers-apart (e ∷ es) sorted =
    distinct-parts (map (OfRouter e.0) router_acts) (acts_of_routers es) (ranked-apart e.0 0 router_acts table-ranked)
    (routers-apart es (right (below_all nat_cmp e.0 es) (is_sorted nat_cmp es) sorted))
    (λ a here more.
    let one = of-router e.0 a router_acts here in
    let other = of-routers a es more in
    let same : e.0 ≡ other.0 = same_serial e.0 other.0 one.0 other.1 (sym one.1 ∙ other.3) in
    absurd (omega (arith, above e.0 other.0 es (left (below_all nat_cmp e.0 es) (is_sorted nat_cmp es) sorted) other.2, same)))

has-serial : (s : ℕ) (r : Router) (es : List (ℕ × Router)) → find nat_cmp s es ≡ Some r → IsSerial s es
has-serial s r [] found = absurd (cc)
has-serial s r (e ∷ es) found = go (eq_by_cmp nat_cmp s e.0) refl found (λ f. has-serial s r es f)
  where
    go : (c : Bool) → eq_by_cmp nat_cmp s e.0 ≡ c → cond c (Some e.1) (find nat_cmp s es) ≡ Some r → (find nat_cmp s es ≡ Some r → IsSerial s es) →
        IsSerial s (e ∷ es)
    go true q f rest = inl (grind (arith, q, nat_tests))
    go false q f rest = inr (rest f)

has-router : (s : ℕ) (act : RouterAct) (es : List (ℕ × Router)) → IsSerial s es → IsAmong (OfRouter s act) (acts_of_routers es)
has-router s act [] is = absurd is
has-router s act (e ∷ es) is = elim is [
  | inl same ↦ among-front (OfRouter s act) (map (OfRouter e.0) router_acts) (acts_of_routers es)
      (subst (λ t. IsAmong (OfRouter s act) (map (OfRouter t) router_acts)) same (has-act s act router_acts (rank act) (there act)))
  | inr more ↦ among-back (OfRouter s act) (map (OfRouter e.0) router_acts) (acts_of_routers es) (has-router s act es more)
]

-- ---- all of a node

same_look : (i j : ℕ) → Look i ≡ Look j → i ≡ j
same_look i j e = cc

same_post : (i j : ℕ) → Post i ≡ Post j → i ≡ j
same_post i j e = cc

hand-kind : (o : Option ℕ) → IsOfKind 0 (acts_of_hand o)
hand-kind None a is = absurd is
hand-kind (Some s) a is = elim is [ inl e ↦ ap kind e | inr none ↦ absurd none ]

hand-apart : (o : Option ℕ) → AreDistinct (acts_of_hand o)
hand-apart None = tt
hand-apart (Some s) = (λ none. none, tt)

pending-kind : (es : List End) → IsOfKind 3 (acts_of_pending es)
pending-kind [] a is = absurd is
pending-kind (e ∷ es) a is = elim is [ inl e ↦ ap kind e | inr none ↦ absurd none ]

pending-apart : (es : List End) → AreDistinct (acts_of_pending es)
pending-apart [] = tt
pending-apart (e ∷ es) = (λ none. none, tt)

idle-behind : AreBehind 5 (Idle ∷ [])
idle-behind = ((λ none. none, tt), λ a is. elim is [ inl e ↦ omega (arith, ap kind e) | inr none ↦ absurd none ])

module _ (w : World) (n : ℕ) where
  order-apart : AreDistinct (acts_in_order w n)
  order-apart =
      let x = node_at w n in
      let ns = numbers_from 0 w.count in
      (joined 0 (acts_of_hand x.hand) _ (hand-kind x.hand) (hand-apart x.hand)
      (joined 1 (map Look ns) _ (λ a is. ap kind (number-of Look same_look a 0 w.count is).2) (numbers-apart Look same_look 0 w.count)
      (joined 2 (map Post ns) _ (λ a is. ap kind (number-of Post same_post a 0 w.count is).2) (numbers-apart Post same_post 0 w.count)
      (joined 3 (acts_of_pending x.pending) _ (pending-kind x.pending) (pending-apart x.pending)
      (joined 4 (acts_of_routers (entries x.routers)) (Idle ∷ []) (λ a is. ap kind (of-routers a (entries x.routers) is).3) (routers-apart (entries x.routers) (entries_sorted x.routers))
      idle-behind))))).0

  -- the acts before those of a kind, and what stands behind them
  abbrev behind_posts : List Act
  behind_posts = acts_of_pending (node_at w n).pending ++ (acts_of_routers (entries (node_at w n).routers) ++ Idle ∷ [])

  abbrev behind_hand : List Act
  behind_hand = map Look (numbers_from 0 w.count) ++ (map Post (numbers_from 0 w.count) ++ behind_posts)

  past-posts : (act : Act) → IsAmong act behind_posts → IsAmong act (acts_in_order w n)
  past-posts act is =
      among-back act (acts_of_hand (node_at w n).hand) behind_hand
      (among-back act (map Look (numbers_from 0 w.count)) (map Post (numbers_from 0 w.count) ++ behind_posts)
      (among-back act (map Post (numbers_from 0 w.count)) behind_posts is))

  has-hand : (o : Option ℕ) (from : ℕ) (c : Bool) → (is_hand_of o from && c) ≡ true → IsAmong (Hand from) (acts_of_hand o)
  unfolding is_hand_of
  has-hand None from c can = absurd (cc)
  has-hand (Some s) from c can = let same : s ≡ from = grind (arith, and_first (nat_eq s from) c can, nat_tests) in inl (ap Hand (sym same))

  has-pending : (es : List End) (end : End) → is_first_pending es end ≡ true → IsAmong (Close end) (acts_of_pending es)
  unfolding is_first_pending
  has-pending [] end can = absurd (cc)
  has-pending (e ∷ es) end can = inl (ap Close (sym (same_end-tells e end can)))

  has-act_of : (o : Option Router) (s : ℕ) (act : RouterAct) → find nat_cmp s (entries (node_at w n).routers) ≡ o → may_act o act ≡ true →
      IsSerial s (entries (node_at w n).routers)
  unfolding may_act
  has-act_of None s act found can = absurd (cc)
  has-act_of (Some r) s act found can = has-serial s r (entries (node_at w n).routers) found

  in_order : (act : Act) → can_take w n act ≡ true → IsAmong act (acts_in_order w n)
  unfolding can_take router_at
  in_order (Hand from) can = among-front (Hand from) (acts_of_hand (node_at w n).hand) behind_hand (has-hand (node_at w n).hand from _ can)
  in_order (Look from) can =
      among-back (Look from) (acts_of_hand (node_at w n).hand) behind_hand
      (among-front (Look from) (map Look (numbers_from 0 w.count)) (map Post (numbers_from 0 w.count) ++ behind_posts)
      (has-number Look same_look 0 w.count from (omega arith) (let t = and_first (nat_lt from w.count) _ can in grind (arith, t, nat_tests))))
  in_order (Post to) can =
      among-back (Post to) (acts_of_hand (node_at w n).hand) behind_hand
      (among-back (Post to) (map Look (numbers_from 0 w.count)) (map Post (numbers_from 0 w.count) ++ behind_posts)
      (among-front (Post to) (map Post (numbers_from 0 w.count)) behind_posts
      (has-number Post same_post 0 w.count to (omega arith) (let t = and_first (nat_lt to w.count) _ can in grind (arith, t, nat_tests)))))
  in_order (Close end) can =
      past-posts (Close end) (among-front (Close end) (acts_of_pending (node_at w n).pending) (acts_of_routers (entries (node_at w n).routers) ++ Idle ∷ []) (has-pending (node_at w n).pending end can))
  in_order (OfRouter s act) can =
      past-posts (OfRouter s act) (among-back (OfRouter s act) (acts_of_pending (node_at w n).pending) (acts_of_routers (entries (node_at w n).routers) ++ Idle ∷ [])
      (among-front (OfRouter s act) (acts_of_routers (entries (node_at w n).routers)) (Idle ∷ [])
      (has-router s act (entries (node_at w n).routers) (has-act_of (router_of w n s) s act (sym (get-entries (node_at w n).routers s)) can))))
  in_order Idle can =
      past-posts Idle (among-back Idle (acts_of_pending (node_at w n).pending) (acts_of_routers (entries (node_at w n).routers) ++ Idle ∷ [])
      (among-back Idle (acts_of_routers (entries (node_at w n).routers)) (Idle ∷ []) (inl refl)))

  pub listed : ArePossible w n (possible_acts w n)
  listed = record {
    each = λ act can. passes (can_act w n) act (acts_in_order w n) can (in_order act (and_second (nat_lt n w.count) (can_take w n act) can));
    only = only_possible w n (acts_in_order w n);
    once = distinct-passing (can_act w n) (acts_in_order w n) order-apart;
  }
