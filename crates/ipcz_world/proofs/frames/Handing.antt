-- A message leaves a node's hand, its router there changes, and another message goes out.
use Rattle.std.specs.Prelude.{◌≡◌, ◌<◌, ℕ, zero, suc, ◌+◌, ◌*◌, Bool, true, false, cond, ◌&&◌, ◌||◌, nat_eq, Some, None, List, [], ◌∷◌}
use Rattle.std.specs.Prelude.{◌++◌, take, slice_get, refl}
use Rattle.std.proofs.Common.{◌⊎◌, inl, inr, arith, ap, ◌∙◌, sym, append_assoc}
use Rattle.std.proofs.lemmas.Option.{none-some, same_Some}
use Rattle.std.proofs.lemmas.Bool.Decides.{nat_tests}
use Rattle.std.specs.FinMap.{insert}
use Rattle.ipcz_world.proofs.Vocabulary.{Side, LinkId, Message, Router, outbox, World, Key, same_key, node_at, word_at, mail_at, way, router_at}
use Rattle.ipcz_world.proofs.Vocabulary.{messages_in, flow, set_router, IsUnderWay, makes, is_made_before, under_way, total_list, is_made_by}
use Rattle.ipcz_base.proofs.Indexed.{place_at-put_place}
use Rattle.ipcz_world.specs.declared.mail.Mail.TheVariants as mails
use Rattle.ipcz_world.proofs.facts.Updates.{push_message}
use Rattle.ipcz_world.proofs.frames.Frames.{frames, same_key_tells}
use Rattle.ipcz_world.proofs.facts.Updates.{free}
use Rattle.ipcz_world.proofs.frames.Totalling.{total_list-append, total_pairs, total_pairs-one}
use Rattle.ipcz_world.proofs.frames.Unmoved.{Changed}

-- the world after this
unfoldable pub handed_on : World → ℕ → Key → Router → ℕ → Message → World
handed_on w from k x to m = free (push_message (set_router w k x) k.node to m) from k.node

-- the same if nothing goes out
unfoldable pub handed : World → ℕ → Key → Router → World
handed w from k x = free (set_router w k x) from k.node

module _ (w : World) (from : ℕ) (k : Key) (x : Router) (to : ℕ) (m : Message) where
  pub router-handed_on : (q : Key) → router_at (handed_on w from k x to m) q ≡ cond (same_key q k) (Some x) (router_at w q)
  unfolding handed_on
  router-handed_on q = grind (arith, frames, nat_tests, same_key_tells)

  pub word-handed_on : (i : ℕ) → word_at (handed_on w from k x to m) i ≡ word_at w i
  unfolding handed_on
  word-handed_on i = grind (arith, frames)

  pub claimed-handed_on : (handed_on w from k x to m).claimed ≡ w.claimed
  unfolding handed_on
  claimed-handed_on = grind (arith, frames)

  pub size-handed_on : (handed_on w from k x to m).size ≡ w.size
  unfolding handed_on
  size-handed_on = grind (arith, frames)

  pub count-handed_on : (handed_on w from k x to m).count ≡ w.count
  unfolding handed_on
  count-handed_on = grind (arith, frames)

  pub node-handed_on : (n : ℕ) → (node_at (handed_on w from k x to m) n).number ≡ (node_at w n).number
  unfolding handed_on
  node-handed_on n = grind (arith, frames, nat_tests)

  pub nodes-handed_on : (n : ℕ) → (node_at (handed_on w from k x to m) n).count ≡ (node_at w n).count
  unfolding handed_on
  nodes-handed_on n = grind (arith, frames, nat_tests)

  pub next_router-handed_on : (n : ℕ) → (node_at (handed_on w from k x to m) n).next_router ≡ (node_at w n).next_router
  unfolding handed_on
  next_router-handed_on n = grind (arith, frames, nat_tests)

  pub next_peripheral-handed_on : (n : ℕ) → (node_at (handed_on w from k x to m) n).next_peripheral ≡ (node_at w n).next_peripheral
  unfolding handed_on
  next_peripheral-handed_on n = grind (arith, frames, nat_tests)

  pub held-handed_on : (n : ℕ) → (node_at (handed_on w from k x to m) n).held ≡ (node_at w n).held
  unfolding handed_on
  held-handed_on n = grind (arith, frames, nat_tests)

  pub pending-handed_on : (n : ℕ) → (node_at (handed_on w from k x to m) n).pending ≡ (node_at w n).pending
  unfolding handed_on
  pending-handed_on n = grind (arith, frames, nat_tests)

  pub strays-handed_on : (n : ℕ) → (node_at (handed_on w from k x to m) n).strays ≡ (node_at w n).strays
  unfolding handed_on
  strays-handed_on n = grind (arith, frames, nat_tests)

  pub opening-handed_on : (n : ℕ) → (node_at (handed_on w from k x to m) n).opening ≡ (node_at w n).opening
  unfolding handed_on
  opening-handed_on n = grind (arith, frames, nat_tests)

  pub routers-handed_on : (n : ℕ) → (node_at (handed_on w from k x to m) n).routers ≡ cond (nat_eq n k.node)
      (insert (node_at w k.node).routers k.serial x) (node_at w n).routers
  unfolding handed_on
  routers-handed_on n = grind (arith, frames, nat_tests)

  pub hand-handed_on : (n : ℕ) → (node_at (handed_on w from k x to m) n).hand ≡ cond (nat_eq n k.node) None (node_at w n).hand
  unfolding handed_on
  hand-handed_on n = grind (arith, frames, nat_tests)

  pub mail-handed_on : (j : ℕ) → mail_at (handed_on w from k x to m) j ≡ cond (nat_eq j (way w from k.node)) mails.Empty (mail_at w j)
  unfolding handed_on
  mail-handed_on j = grind (arith, frames)

  pub outbox-handed_on : (n a : ℕ) → outbox (node_at (handed_on w from k x to m) n) a ≡ cond (nat_eq n k.node && nat_eq a to)
      (outbox (node_at w n) a ++ m ∷ []) (outbox (node_at w n) a)
  unfolding handed_on
  outbox-handed_on n a = grind (arith, frames, nat_tests, place_at-put_place)

pub ruleset handing = (
  router-handed_on,
  word-handed_on,
  claimed-handed_on,
  size-handed_on,
  count-handed_on,
  node-handed_on,
  nodes-handed_on,
  next_router-handed_on,
  next_peripheral-handed_on,
  held-handed_on,
  pending-handed_on,
  strays-handed_on,
  opening-handed_on,
  hand-handed_on,
  mail-handed_on,
)

module _ (w : World) (from : ℕ) (k : Key) (x : Router) where
  pub router-handed : (q : Key) → router_at (handed w from k x) q ≡ cond (same_key q k) (Some x) (router_at w q)
  unfolding handed
  router-handed q = grind (arith, frames, nat_tests, same_key_tells)

  pub word-handed : (i : ℕ) → word_at (handed w from k x) i ≡ word_at w i
  unfolding handed
  word-handed i = grind (arith, frames)

  pub claimed-handed : (handed w from k x).claimed ≡ w.claimed
  unfolding handed
  claimed-handed = grind (arith, frames)

  pub size-handed : (handed w from k x).size ≡ w.size
  unfolding handed
  size-handed = grind (arith, frames)

  pub count-handed : (handed w from k x).count ≡ w.count
  unfolding handed
  count-handed = grind (arith, frames)

  pub node-handed : (n : ℕ) → (node_at (handed w from k x) n).number ≡ (node_at w n).number
  unfolding handed
  node-handed n = grind (arith, frames, nat_tests)

  pub nodes-handed : (n : ℕ) → (node_at (handed w from k x) n).count ≡ (node_at w n).count
  unfolding handed
  nodes-handed n = grind (arith, frames, nat_tests)

  pub next_router-handed : (n : ℕ) → (node_at (handed w from k x) n).next_router ≡ (node_at w n).next_router
  unfolding handed
  next_router-handed n = grind (arith, frames, nat_tests)

  pub next_peripheral-handed : (n : ℕ) → (node_at (handed w from k x) n).next_peripheral ≡ (node_at w n).next_peripheral
  unfolding handed
  next_peripheral-handed n = grind (arith, frames, nat_tests)

  pub held-handed : (n : ℕ) → (node_at (handed w from k x) n).held ≡ (node_at w n).held
  unfolding handed
  held-handed n = grind (arith, frames, nat_tests)

  pub pending-handed : (n : ℕ) → (node_at (handed w from k x) n).pending ≡ (node_at w n).pending
  unfolding handed
  pending-handed n = grind (arith, frames, nat_tests)

  pub strays-handed : (n : ℕ) → (node_at (handed w from k x) n).strays ≡ (node_at w n).strays
  unfolding handed
  strays-handed n = grind (arith, frames, nat_tests)

  pub opening-handed : (n : ℕ) → (node_at (handed w from k x) n).opening ≡ (node_at w n).opening
  unfolding handed
  opening-handed n = grind (arith, frames, nat_tests)

  pub routers-handed : (n : ℕ) → (node_at (handed w from k x) n).routers ≡ cond (nat_eq n k.node)
      (insert (node_at w k.node).routers k.serial x) (node_at w n).routers
  unfolding handed
  routers-handed n = grind (arith, frames, nat_tests)

  pub hand-handed : (n : ℕ) → (node_at (handed w from k x) n).hand ≡ cond (nat_eq n k.node) None (node_at w n).hand
  unfolding handed
  hand-handed n = grind (arith, frames, nat_tests)

  pub mail-handed : (j : ℕ) → mail_at (handed w from k x) j ≡ cond (nat_eq j (way w from k.node)) mails.Empty (mail_at w j)
  unfolding handed
  mail-handed j = grind (arith, frames)

  pub outbox-handed : (n a : ℕ) → outbox (node_at (handed w from k x) n) a ≡ outbox (node_at w n) a
  unfolding handed
  outbox-handed n a = grind (arith, frames, nat_tests)

-- a hand is a change of one router, and of nothing that callers hold
pub changed-handed_on : (w : World) (from : ℕ) (k : Key) (r x : Router) (to : ℕ) (m : Message) → router_at w k ≡ Some r →
    Changed w (handed_on w from k x to m) k r x
changed-handed_on w from k r x to m here = record {
  one = record {
    here = here;
    router = router-handed_on w from k x to m;
    claimed = claimed-handed_on w from k x to m;
    size = size-handed_on w from k x to m;
    count = count-handed_on w from k x to m;
    node = node-handed_on w from k x to m;
    nodes = nodes-handed_on w from k x to m;
    opening = opening-handed_on w from k x to m;
    next_router = next_router-handed_on w from k x to m;
    next_peripheral = next_peripheral-handed_on w from k x to m;
    strays = strays-handed_on w from k x to m;
  };
  held = held-handed_on w from k x to m;
  pending = pending-handed_on w from k x to m;
}

pub changed-handed : (w : World) (from : ℕ) (k : Key) (r x : Router) → router_at w k ≡ Some r →
    Changed w (handed w from k x) k r x
changed-handed w from k r x here = record {
  one = record {
    here = here;
    router = router-handed w from k x;
    claimed = claimed-handed w from k x;
    size = size-handed w from k x;
    count = count-handed w from k x;
    node = node-handed w from k x;
    nodes = nodes-handed w from k x;
    opening = opening-handed w from k x;
    next_router = next_router-handed w from k x;
    next_peripheral = next_peripheral-handed w from k x;
    strays = strays-handed w from k x;
  };
  held = held-handed w from k x;
  pending = pending-handed w from k x;
}

pub ruleset handing_silently = (
  router-handed,
  word-handed,
  claimed-handed,
  size-handed,
  count-handed,
  node-handed,
  nodes-handed,
  next_router-handed,
  next_peripheral-handed,
  held-handed,
  pending-handed,
  strays-handed,
  opening-handed,
  hand-handed,
  mail-handed,
)

-- mailboxes of different nodes are different
pub way_tells : (c a b p q : ℕ) → b < c → q < c → a * c + b ≡ p * c + q → (a ≡ p) × (b ≡ q)
way_tells c a b p q hb hq e = (same, omega (arith, e, ap (λ n. n * c) same))
  where
    less : (s t u v : ℕ) → u < c → s * c + u ≡ t * c + v → t < s → v < c → ⊥
    less s t u v hu h l hv = grind (arith, h, l, hv, hu)

    same : a ≡ p
    same = grind (arith, less a p b q hb e, less p a q b hq (sym e), hb, hq)

-- what is left of the messages from one node to another once the one in hand is taken out
abbrev pub after_hand : World → ℕ → ℕ → ℕ → ℕ → List Message
after_hand w from to a b = cond (nat_eq a from && nat_eq b to) (outbox (node_at w a) b) (flow w a b)

pub flow-hand : (w : World) (from to a b : ℕ) (m : Message) → mail_at w (way w from to) ≡ mails.Hand m →
    flow w a b ≡ cond (nat_eq a from && nat_eq b to) (m ∷ after_hand w from to a b) (after_hand w from to a b)
unfolding flow messages_in
flow-hand w from to a b m e = go (nat_eq a from && nat_eq b to) refl
  where
    go : (t : Bool) → (nat_eq a from && nat_eq b to) ≡ t → messages_in (mail_at w (way w a b)) ++ outbox (node_at w a) b ≡ cond t
        (m ∷ cond t (outbox (node_at w a) b) (messages_in (mail_at w (way w a b)) ++ outbox (node_at w a) b))
        (cond t (outbox (node_at w a) b) (messages_in (mail_at w (way w a b)) ++ outbox (node_at w a) b))
    go true q = let p : a ≡ from = grind (arith, q, nat_tests) in let r : b ≡ to = grind (arith, q, nat_tests) in
        rw (p, r, e) refl
    go false q = refl

pub append_none : {X : Type 0} (xs : List X) → xs ++ [] ≡ xs
append_none [] = refl
append_none (x ∷ xs) = ap (λ ys. x ∷ ys) (append_none xs)

append-sent : {X : Type 0} (t : Bool) (xs ys : List X) (m : X) → xs ++ cond t (ys ++ m ∷ []) ys ≡ (xs ++ ys) ++ cond t (m ∷ []) []
append-sent true xs ys m = sym (append_assoc xs ys (m ∷ []))
append-sent false xs ys m = sym (append_none (xs ++ ys))

-- the messages from one node to another afterwards
pub flow-handed_on : (w : World) (from : ℕ) (k : Key) (x : Router) (to : ℕ) (m : Message) (a b : ℕ) → k.node < w.count → b < w.count →
    flow (handed_on w from k x to m) a b ≡ after_hand w from k.node a b ++ cond (nat_eq a k.node && nat_eq b to) (m ∷ []) []
unfolding flow messages_in
flow-handed_on w from k x to m a b hk hb = ap (λ n. messages_in (mail_at (handed_on w from k x to m) n) ++ outbox
    (node_at (handed_on w from k x to m) a) b) (ap (λ c. a * c + b) (count-handed_on w from k x to m))
    ∙ ap (λ ms. messages_in (mail_at (handed_on w from k x to m) (way w a b)) ++ ms) (outbox-handed_on w from k x to m a b)
    ∙ ap (λ u. messages_in u ++ cond (nat_eq a k.node && nat_eq b to) (outbox (node_at w a) b ++ m ∷ []) (outbox (node_at w a) b))
    (mail-handed_on w from k x to m (way w a b))
    ∙ go (nat_eq a from && nat_eq b k.node) refl (nat_eq a k.node && nat_eq b to)
  where
    tells : nat_eq (way w a b) (way w from k.node) ≡ true → (a ≡ from) × (b ≡ k.node)
    tells e = way_tells w.count a b from k.node hb hk (grind (arith, e, nat_tests))

    go : (s : Bool) → (nat_eq a from && nat_eq b k.node) ≡ s → (t : Bool) →
        messages_in (cond (nat_eq (way w a b) (way w from k.node)) mails.Empty (mail_at w (way w a b))) ++ cond t
        (outbox (node_at w a) b ++ m ∷ []) (outbox (node_at w a) b)
        ≡ cond s (outbox (node_at w a) b) (messages_in (mail_at w (way w a b)) ++ outbox (node_at w a) b) ++ cond t (m ∷ []) []
    go true p t = let e : nat_eq (way w a b) (way w from k.node) ≡ true =
        (let i : a ≡ from = grind (arith, p, nat_tests) in let j : b ≡ k.node = grind (arith, p, nat_tests) in
        rw (i, j) (grind (arith, nat_tests))) in
        rw e (append-sent t [] (outbox (node_at w a) b) m)
    go false p t = let e : nat_eq (way w a b) (way w from k.node) ≡ false = grind (arith, tells, p, nat_tests) in
        rw e (append-sent t (messages_in (mail_at w (way w a b))) (outbox (node_at w a) b) m)

weight-sent : (h : Message → ℕ) (t : Bool) (xs : List Message) (m : Message) →
    total_list h (xs ++ cond t (m ∷ []) []) ≡ total_list h xs + cond t (h m) 0
weight-sent h true xs m = omega (arith, total_list-append h xs (m ∷ []))
weight-sent h false xs m = omega (arith, total_list-append h xs [])

weight-popped : (h : Message → ℕ) (t : Bool) (xs : List Message) (m : Message) →
    total_list h (cond t (m ∷ xs) xs) ≡ cond t (h m) 0 + total_list h xs
weight-popped h true xs m = omega arith
weight-popped h false xs m = omega arith

-- the totals of what is under way: one message less, one more
pub under_way-handed_on : (h : ℕ → ℕ → Message → ℕ) (w : World) (from : ℕ) (k : Key) (x : Router) (to : ℕ) (m last : Message) →
    from < w.count → k.node < w.count → to < w.count →
    mail_at w (way w from k.node) ≡ mails.Hand last → under_way h (handed_on w from k x to m) + h from k.node last ≡ under_way h w + h
    k.node to m
unfolding under_way
under_way-handed_on h w from k x to m last hf hk ht e = omega (arith, counted, popped, pushed, at_hand, at_sent)
  where
    old : ℕ → ℕ → ℕ
    old a b = total_list (h a b) (flow w a b)

    mid : ℕ → ℕ → ℕ
    mid a b = total_list (h a b) (after_hand w from k.node a b)

    new : ℕ → ℕ → ℕ
    new a b = total_list (h a b) (flow (handed_on w from k x to m) a b)

    counted : total_pairs (handed_on w from k x to m).count new ≡ total_pairs w.count new
    counted = ap (λ n. total_pairs n new) (count-handed_on w from k x to m)

    old-mid : (a b : ℕ) → old a b ≡ cond (nat_eq a from && nat_eq b k.node) (h a b last) 0 + mid a b
    old-mid a b = ap (total_list (h a b)) (flow-hand w from k.node a b last e) ∙ weight-popped (h a b) (nat_eq a from && nat_eq b k.node)
        (after_hand w from k.node a b) last

    new-mid : (a b : ℕ) → b < w.count → new a b ≡ mid a b + cond (nat_eq a k.node && nat_eq b to) (h a b m) 0
    new-mid a b hb = ap (total_list (h a b)) (flow-handed_on w from k x to m a b hk hb) ∙ weight-sent (h a b)
        (nat_eq a k.node && nat_eq b to) (after_hand w from k.node a b) m

    popped : total_pairs w.count old + mid from k.node ≡ total_pairs w.count mid + old from k.node
    popped = total_pairs-one w.count from k.node old mid hf hk (λ p q hp hq t. grind (arith, old-mid p q, t))

    pushed : total_pairs w.count new + mid k.node to ≡ total_pairs w.count mid + new k.node to
    pushed = total_pairs-one w.count k.node to new mid hk ht (λ p q hp hq t. grind (arith, new-mid p q hq, t))

    at_hand : old from k.node ≡ h from k.node last + mid from k.node
    at_hand = grind (arith, old-mid from k.node, nat_tests)

    at_sent : new k.node to ≡ mid k.node to + h k.node to m
    at_sent = grind (arith, new-mid k.node to ht, nat_tests)

slice_get-sent : {X : Type 0} (t : Bool) (xs : List X) (m q : X) (i : ℕ) → slice_get (xs ++ cond t (m ∷ []) []) i ≡ Some q →
    (slice_get xs i ≡ Some q) ⊎ (q ≡ m)
slice_get-sent false xs m q i e = inl (rw append_none at e)
slice_get-sent true [] m q zero e = inr (sym (same_Some m q e))
slice_get-sent true [] m q (suc i) e = absurd (none-some q e)
slice_get-sent true (x ∷ xs) m q zero e = inl e
slice_get-sent true (x ∷ xs) m q (suc i) e = slice_get-sent true xs m q i e

is_made_by-append : (link : LinkId) (s : Side) (xs ys : List Message) (i : ℕ) → is_made_by link s (take i xs) ≡ true →
    is_made_by link s (take i (xs ++ ys)) ≡ true
is_made_by-append link s [] ys zero e = e
is_made_by-append link s [] ys (suc i) e = absurd (grind arith)
is_made_by-append link s (x ∷ xs) ys zero e = e
is_made_by-append link s (x ∷ xs) ys (suc i) e = go (is_made_by-append link s xs ys i) (makes link s x) e
  where
    go : (is_made_by link s (take i xs) ≡ true → is_made_by link s (take i (xs ++ ys)) ≡ true) → (b : Bool) →
        (b || is_made_by link s (take i xs)) ≡ true → (b || is_made_by link s (take i (xs ++ ys))) ≡ true
    go more true e = refl
    go more false e = more e

slice_get-popped : {X : Type 0} (t : Bool) (xs : List X) (m : X) (i : ℕ) →
    slice_get (cond t (m ∷ xs) xs) (cond t (suc i) i) ≡ slice_get xs i
slice_get-popped true xs m i = refl
slice_get-popped false xs m i = refl

is_made_by-popped : (link : LinkId) (s : Side) (t : Bool) (xs : List Message) (m : Message) (i : ℕ) → makes link s m ≡ false →
    is_made_by link s (take (cond t (suc i) i) (cond t (m ∷ xs) xs)) ≡ is_made_by link s (take i xs)
is_made_by-popped link s true xs m i e = ap (λ b. b || is_made_by link s (take i xs)) e
is_made_by-popped link s false xs m i e = refl

-- where a message stood before
abbrev pub place_before : ℕ → ℕ → ℕ → ℕ → ℕ → ℕ
place_before from to a b i = cond (nat_eq a from && nat_eq b to) (suc i) i

-- a message under way was so before, or is the new one
pub was_under_way : (w : World) (from : ℕ) (k : Key) (x : Router) (to : ℕ) (m last : Message) (a b i : ℕ) (q : Message) → k.node < w.count →
    mail_at w (way w from k.node) ≡ mails.Hand last →
    IsUnderWay (handed_on w from k x to m) a b i q → IsUnderWay w a b (place_before from k.node a b i) q ⊎ (q ≡ m)
was_under_way w from k x to m last a b i q hk e u = go (slice_get-sent (nat_eq a k.node && nat_eq b to) (after_hand w from k.node a b) m q i
    (ap (λ ms. slice_get ms i) (sym (flow-handed_on w from k x to m a b hk receiver)) ∙ u.place))
  where
    receiver : b < w.count
    receiver = grind (arith, u.receiver, count-handed_on w from k x to m)

    go : (slice_get (after_hand w from k.node a b) i ≡ Some q) ⊎ (q ≡ m) → IsUnderWay w a b (place_before from k.node a b i) q ⊎ (q ≡ m)
    go (inl p) = inl (record {
      sender = grind (arith, u.sender, count-handed_on w from k x to m);
      receiver = receiver;
      place = ap (λ ms. slice_get ms (place_before from k.node a b i)) (flow-hand w from k.node a b last e) ∙ slice_get-popped
          (nat_eq a from && nat_eq b k.node) (after_hand w from k.node a b) last i ∙ p;
    })
    go (inr p) = inr p

-- what a message before it made, it still has before it, but for what the one in hand makes
pub was_made_before : (w : World) (from : ℕ) (k : Key) (x : Router) (to : ℕ) (m last : Message) (a b i : ℕ) (link : LinkId) (s : Side) →
    k.node < w.count → b < w.count → mail_at w (way w from k.node) ≡ mails.Hand last →
    makes link s last ≡ false → is_made_before w a b (place_before from k.node a b i) link s ≡ true →
    is_made_before (handed_on w from k x to m) a b i link s ≡ true
was_made_before w from k x to m last a b i link s hk hb e apart made =
    ap (λ ms. is_made_by link s (take i ms)) (flow-handed_on w from k x to m a b hk hb)
    ∙ is_made_by-append link s (after_hand w from k.node a b) (cond (nat_eq a k.node && nat_eq b to) (m ∷ []) []) i
    (sym (is_made_by-popped link s (nat_eq a from && nat_eq b k.node) (after_hand w from k.node a b) last i apart)
    ∙ ap (λ ms. is_made_by link s (take (place_before from k.node a b i) ms)) (sym (flow-hand w from k.node a b last e)) ∙ made)

-- the same if nothing goes out
pub flow-handed : (w : World) (from : ℕ) (k : Key) (x : Router) (a b : ℕ) → k.node < w.count → b < w.count →
    flow (handed w from k x) a b ≡ after_hand w from k.node a b
unfolding flow messages_in
flow-handed w from k x a b hk hb = ap (λ n. messages_in (mail_at (handed w from k x) n) ++ outbox (node_at (handed w from k x) a) b)
    (ap (λ c. a * c + b) (count-handed w from k x))
    ∙ ap (λ ms. messages_in (mail_at (handed w from k x) (way w a b)) ++ ms) (outbox-handed w from k x a b)
    ∙ ap (λ u. messages_in u ++ outbox (node_at w a) b) (mail-handed w from k x (way w a b))
    ∙ go (nat_eq a from && nat_eq b k.node) refl
  where
    tells : nat_eq (way w a b) (way w from k.node) ≡ true → (a ≡ from) × (b ≡ k.node)
    tells e = way_tells w.count a b from k.node hb hk (grind (arith, e, nat_tests))

    go : (s : Bool) → (nat_eq a from && nat_eq b k.node) ≡ s → messages_in
        (cond (nat_eq (way w a b) (way w from k.node)) mails.Empty (mail_at w (way w a b))) ++ outbox (node_at w a) b
        ≡ cond s (outbox (node_at w a) b) (messages_in (mail_at w (way w a b)) ++ outbox (node_at w a) b)
    go true p = let e : nat_eq (way w a b) (way w from k.node) ≡ true =
        (let i : a ≡ from = grind (arith, p, nat_tests) in let j : b ≡ k.node = grind (arith, p, nat_tests) in
        rw (i, j) (grind (arith, nat_tests))) in rw e refl
    go false p = let e : nat_eq (way w a b) (way w from k.node) ≡ false = grind (arith, tells, p, nat_tests) in rw e refl

pub under_way-handed : (h : ℕ → ℕ → Message → ℕ) (w : World) (from : ℕ) (k : Key) (x : Router) (last : Message) → from < w.count →
    k.node < w.count → mail_at w (way w from k.node) ≡ mails.Hand last →
    under_way h (handed w from k x) + h from k.node last ≡ under_way h w
unfolding under_way
under_way-handed h w from k x last hf hk e = omega (arith, counted, popped, at_hand)
  where
    old : ℕ → ℕ → ℕ
    old a b = total_list (h a b) (flow w a b)

    new : ℕ → ℕ → ℕ
    new a b = total_list (h a b) (flow (handed w from k x) a b)

    counted : total_pairs (handed w from k x).count new ≡ total_pairs w.count new
    counted = ap (λ n. total_pairs n new) (count-handed w from k x)

    old-new : (a b : ℕ) → b < w.count → old a b ≡ cond (nat_eq a from && nat_eq b k.node) (h a b last) 0 + new a b
    old-new a b hb = ap (total_list (h a b)) (flow-hand w from k.node a b last e) ∙ weight-popped (h a b) (nat_eq a from && nat_eq b k.node)
        (after_hand w from k.node a b) last
        ∙ ap (λ ms. cond (nat_eq a from && nat_eq b k.node) (h a b last) 0 + total_list (h a b) ms) (sym (flow-handed w from k x a b hk hb))

    popped : total_pairs w.count old + new from k.node ≡ total_pairs w.count new + old from k.node
    popped = total_pairs-one w.count from k.node old new hf hk (λ p q hp hq t. grind (arith, old-new p q hq, t))

    at_hand : old from k.node ≡ h from k.node last + new from k.node
    at_hand = grind (arith, old-new from k.node hk, nat_tests)

pub was_under_way-handed : (w : World) (from : ℕ) (k : Key) (x : Router) (last : Message) (a b i : ℕ) (q : Message) → k.node < w.count →
    mail_at w (way w from k.node) ≡ mails.Hand last →
    IsUnderWay (handed w from k x) a b i q → IsUnderWay w a b (place_before from k.node a b i) q
was_under_way-handed w from k x last a b i q hk e u = record {
  sender = grind (arith, u.sender, count-handed w from k x);
  receiver = receiver;
  place = ap (λ ms. slice_get ms (place_before from k.node a b i)) (flow-hand w from k.node a b last e) ∙ slice_get-popped
      (nat_eq a from && nat_eq b k.node) (after_hand w from k.node a b) last i
      ∙ ap (λ ms. slice_get ms i) (sym (flow-handed w from k x a b hk receiver)) ∙ u.place;
}
  where
    receiver : b < w.count
    receiver = grind (arith, u.receiver, count-handed w from k x)

pub was_made_before-handed : (w : World) (from : ℕ) (k : Key) (x : Router) (last : Message) (a b i : ℕ) (link : LinkId) (s : Side) →
    k.node < w.count → b < w.count → mail_at w (way w from k.node) ≡ mails.Hand last →
    makes link s last ≡ false → is_made_before w a b (place_before from k.node a b i) link s ≡ true →
    is_made_before (handed w from k x) a b i link s ≡ true
was_made_before-handed w from k x last a b i link s hk hb e apart made =
    ap (λ ms. is_made_by link s (take i ms)) (flow-handed w from k x a b hk hb)
    ∙ sym (is_made_by-popped link s (nat_eq a from && nat_eq b k.node) (after_hand w from k.node a b) last i apart)
    ∙ ap (λ ms. is_made_by link s (take (place_before from k.node a b i) ms)) (sym (flow-hand w from k.node a b last e)) ∙ made
