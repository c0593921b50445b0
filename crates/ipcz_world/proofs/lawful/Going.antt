-- What a node's acts and calls leave of its routers and of what it has to send.
use Rattle.std.specs.Prelude.{◌≡◌, ◌⊎◌, ◌≤◌, ◌<◌, ℕ, zero, suc, ◌+◌, Bool, true, false, cond, nat_eq}
use Rattle.std.specs.Prelude.{Option, Some, None, List, [], ◌∷◌, ◌++◌, slice_get, refl}
use Rattle.std.proofs.Common.{arith, ap, sym, ◌∙◌, subst, inl, inr}
use Rattle.std.proofs.lemmas.Bool.Decides.{nat_tests}
use Rattle.std.proofs.lemmas.Option.{same_Some}
use Rattle.std.specs.Cmp.{nat_cmp_total}
use Rattle.std.specs.FinMap.{get-insert, get-remove}
use Rattle.ipcz_world.proofs.Vocabulary.{Side, Central, Message, place_at, Router, is_terminal, Node, router_in, with_router, outbox, has_primary}
use Rattle.ipcz_world.proofs.Vocabulary.{without_router, add_router, push_out, tell}
use Rattle.ipcz_base.proofs.Indexed.{place_at-put_place}
use Rattle.ipcz_router.specs.declared.sending.Sending.{Sending}
use Rattle.ipcz_world.proofs.lawful.Following.{Follows, follows-itself, follows-after}

-- a router that wasn't there: a terminal that hasn't tried
pub record IsNew (y : Router) : Type 0 where
  pub untried : y.tried ≡ false
  pub terminal : is_terminal y ≡ true
  pub unclosed : y.closed ≡ false

-- the router isn't on the word's link, or the word is held
abbrev pub IsOff : ℕ → Bool → Router → Type 0
IsOff i held x = (s : Side) → has_primary (Central i) s x ≡ true → held ≡ true

-- serials of routers are below the next one
abbrev pub IsCounted : Node → Type 0
IsCounted n = (s : ℕ) (x : Router) → router_in n s ≡ Some x → s < n.next_router

-- messages that wait stay where they are
abbrev pub Keeps : Node → Node → Type 0
Keeps n m = (to j : ℕ) (x : Message) → slice_get (outbox n to) j ≡ Some x → slice_get (outbox m to) j ≡ Some x

-- a node's routers become those of another, and no router is new
pub record Changes (i : ℕ) (held : Bool) (n m : Node) : Type 0 where
  pub routers : (s : ℕ) (y : Router) → router_in m s ≡ Some y →
      (x : Router) × (router_in n s ≡ Some x) × Follows i held n.number n.next_peripheral x y
  pub back : (s : ℕ) (x : Router) → router_in n s ≡ Some x →
      ((y : Router) × (router_in m s ≡ Some y) × Follows i held n.number n.next_peripheral x y) ⊎ IsOff i held x
  pub boxes : Keeps n m
  pub next_router : m.next_router ≡ n.next_router
  pub next_peripheral : n.next_peripheral ≤ m.next_peripheral
  pub number : m.number ≡ n.number

-- some may be new
pub record Goes (i : ℕ) (held : Bool) (n m : Node) : Type 0 where
  pub routers : (s : ℕ) (y : Router) → router_in m s ≡ Some y →
      ((x : Router) × (router_in n s ≡ Some x) × Follows i held n.number n.next_peripheral x y) ⊎ ((n.next_router ≤ s) × IsNew y)
  pub back : (s : ℕ) (x : Router) → router_in n s ≡ Some x →
      ((y : Router) × (router_in m s ≡ Some y) × Follows i held n.number n.next_peripheral x y) ⊎ IsOff i held x
  pub boxes : Keeps n m
  pub next_router : n.next_router ≤ m.next_router
  pub next_peripheral : n.next_peripheral ≤ m.next_peripheral
  pub number : m.number ≡ n.number
  pub counted : IsCounted n → IsCounted m

slice-more : {X : Type 0} (xs ys : List X) (j : ℕ) (x : X) → slice_get xs j ≡ Some x → slice_get (xs ++ ys) j ≡ Some x
slice-more [] ys j x h = cc
slice-more (z ∷ xs) ys zero x h = h
slice-more (z ∷ xs) ys (suc j) x h = slice-more xs ys j x h

module _ (i : ℕ) (held : Bool) where
  pub changes-itself : (n : Node) → Changes i held n n
  changes-itself n = record {
    routers = λ s y at. (y, at, follows-itself i held n.number n.next_peripheral y);
    back = λ s x at. inl (x, at, follows-itself i held n.number n.next_peripheral x);
    boxes = λ to j x h. h;
    next_router = refl;
    next_peripheral = omega arith;
    number = refl;
  }

  -- nothing else of a node counts
  pub changes-else : (n m o : Node) → Changes i held n m → o.routers ≡ m.routers → o.outboxes ≡ m.outboxes → o.next_router ≡ m.next_router →
      m.next_peripheral ≤ o.next_peripheral → o.number ≡ m.number → Changes i held n o
  changes-else n m o c a b d e f = record {
    routers = λ s y at. c.routers s y (ap (λ z. Rattle.std.specs.FinMap.get z s) (sym a) ∙ at);
    back = λ s x at. elim (c.back s x at) [
      | inl t ↦ inl (t.0, ap (λ z. Rattle.std.specs.FinMap.get z s) a ∙ t.1, t.2)
      | inr t ↦ inr t
    ];
    boxes = λ to j x h. ap (λ z. slice_get (place_at [] z to) j) b ∙ c.boxes to j x h;
    next_router = d ∙ c.next_router;
    next_peripheral = omega (arith, c.next_peripheral, e);
    number = f ∙ c.number;
  }

  -- one router more has changed
  pub changes-with : (n m : Node) (t : ℕ) (x y : Router) → Changes i held n m → router_in m t ≡ Some x →
      Follows i held m.number m.next_peripheral x y → Changes i held n (with_router m t y)
  changes-with n m t x y c here f = record {
    routers = λ s z at. routers s z at (nat_eq s t) refl;
    back = λ s z at. back s z at (c.back s z at) (nat_eq s t) refl;
    boxes = c.boxes;
    next_router = c.next_router;
    next_peripheral = c.next_peripheral;
    number = c.number;
  }
    where
      follows : (a : Router) → Follows i held n.number n.next_peripheral a x → Follows i held n.number n.next_peripheral a y
      follows a p = follows-after i held n.number n.next_peripheral m.next_peripheral a x y c.next_peripheral p
          (subst (λ z. Follows i held z m.next_peripheral x y) c.number f)

      routers : (s : ℕ) (z : Router) → router_in (with_router m t y) s ≡ Some z → (b : Bool) → nat_eq s t ≡ b →
          (a : Router) × (router_in n s ≡ Some a) × Follows i held n.number n.next_peripheral a z
      routers s z at true e =
          let same : s ≡ t = grind (arith, e, nat_tests) in
          let is : y ≡ z = same_Some y z (grind (arith, e, get-insert nat_cmp_total m.routers t y s, at, nat_tests)) in
          let p = c.routers s x (ap (router_in m) same ∙ here) in
          (p.0, p.1, subst (λ q. Follows i held n.number n.next_peripheral p.0 q) is (follows p.0 p.2))
      routers s z at false e = c.routers s z (grind (arith, e, get-insert nat_cmp_total m.routers t y s, at, nat_tests))

      back : (s : ℕ) (z : Router) → router_in n s ≡ Some z →
          ((a : Router) × (router_in m s ≡ Some a) × Follows i held n.number n.next_peripheral z a) ⊎ IsOff i held z →
          (b : Bool) → nat_eq s t ≡ b →
          ((a : Router) × (router_in (with_router m t y) s ≡ Some a) × Follows i held n.number n.next_peripheral z a) ⊎ IsOff i held z
      back s z at (inr off) b e = inr off
      back s z at (inl p) true e =
          let same : s ≡ t = grind (arith, e, nat_tests) in
          let is : p.0 ≡ x = same_Some p.0 x (sym p.1 ∙ ap (router_in m) same ∙ here) in
          inl (
            y,
            grind (arith, e, get-insert nat_cmp_total m.routers t y s, nat_tests),
            follows z (subst (λ q. Follows i held n.number n.next_peripheral z q) is p.2),
          )
      back s z at (inl p) false e = inl (p.0, grind (arith, e, get-insert nat_cmp_total m.routers t y s, p.1, nat_tests), p.2)

  -- one router has left, which wasn't on the link
  pub changes-without : (n : Node) (t : ℕ) (x : Router) → router_in n t ≡ Some x → IsOff i held x → Changes i held n (without_router n t)
  changes-without n t x here off = record {
    routers = λ s z at. routers s z at (nat_eq s t) refl;
    back = λ s z at. back s z at (nat_eq s t) refl;
    boxes = λ to j x h. h;
    next_router = refl;
    next_peripheral = omega arith;
    number = refl;
  }
    where
      routers : (s : ℕ) (z : Router) → router_in (without_router n t) s ≡ Some z → (b : Bool) → nat_eq s t ≡ b →
          (a : Router) × (router_in n s ≡ Some a) × Follows i held n.number n.next_peripheral a z
      routers s z at true e = absurd (grind (arith, e, get-remove nat_cmp_total n.routers t s, at, nat_tests))
      routers s z at false e =
          (z, grind (arith, e, get-remove nat_cmp_total n.routers t s, at, nat_tests), follows-itself i held n.number n.next_peripheral z)

      back : (s : ℕ) (z : Router) → router_in n s ≡ Some z → (b : Bool) → nat_eq s t ≡ b →
          ((a : Router) × (router_in (without_router n t) s ≡ Some a) × Follows i held n.number n.next_peripheral z a) ⊎ IsOff i held z
      back s z at true e =
          let same : s ≡ t = grind (arith, e, nat_tests) in
          let is : x ≡ z = same_Some x z (sym here ∙ ap (router_in n) (sym same) ∙ at) in
          inr (subst (IsOff i held) is off)
      back s z at false e = inl (
        z,
        grind (arith, e, get-remove nat_cmp_total n.routers t s, at, nat_tests),
        follows-itself i held n.number n.next_peripheral z,
      )

  -- a message more is to be sent
  pub changes-push : (n m : Node) (to : ℕ) (x : Message) → Changes i held n m → Changes i held n (push_out m to x)
  changes-push n m to x c = record {
    routers = c.routers;
    back = c.back;
    boxes = λ a j z h. boxes a j z (c.boxes a j z h) (nat_eq a to) refl;
    next_router = c.next_router;
    next_peripheral = c.next_peripheral;
    number = c.number;
  }
    where
      boxes : (a j : ℕ) (z : Message) → slice_get (outbox m a) j ≡ Some z → (b : Bool) → nat_eq a to ≡ b →
          slice_get (outbox (push_out m to x) a) j ≡ Some z
      boxes a j z h true e =
          let same : a ≡ to = grind (arith, e, nat_tests) in
          ap (λ b. slice_get b j) (place_at-put_place [] m.outboxes to (outbox m to ++ x ∷ []) a ∙
          ap (λ b. cond b (outbox m to ++ x ∷ []) (outbox m a)) e)
          ∙ slice-more (outbox m to) (x ∷ []) j z (ap (λ b. slice_get (outbox m b) j) (sym same) ∙ h)
      boxes a j z h false e = ap (λ b. slice_get b j) (place_at-put_place [] m.outboxes to (outbox m to ++ x ∷ []) a ∙
          ap (λ b. cond b (outbox m to ++ x ∷ []) (outbox m a)) e) ∙ h

  pub changes-tell : (n m : Node) (o : Option Sending) → Changes i held n m → Changes i held n (tell m o)
  unfolding tell
  changes-tell n m None c = c
  changes-tell n m (Some s) c = changes-push n m s.to s.message c

  -- from a change on
  pub goes-by : (n m : Node) → Changes i held n m → Goes i held n m
  goes-by n m c = record {
    routers = λ s y at. inl (c.routers s y at);
    back = c.back;
    boxes = c.boxes;
    next_router = omega (arith, c.next_router);
    next_peripheral = c.next_peripheral;
    number = c.number;
    counted = λ is s y at. let t = c.routers s y at in omega (arith, is s t.0 t.1, c.next_router);
  }

  -- a new router more
  pub goes-add : (n m : Node) (y : Router) → Goes i held n m → IsCounted n → IsNew y → Goes i held n (add_router m y)
  goes-add n m y c counts new = record {
    routers = λ s z at. routers s z at (nat_eq s m.next_router) refl;
    back = λ s z at. back s z at (c.back s z at) (nat_eq s m.next_router) refl;
    boxes = c.boxes;
    next_router = omega (arith, c.next_router);
    next_peripheral = c.next_peripheral;
    number = c.number;
    counted = λ is s z at. counted s z at (nat_eq s m.next_router) refl;
  }
    where
      routers : (s : ℕ) (z : Router) → router_in (add_router m y) s ≡ Some z → (b : Bool) → nat_eq s m.next_router ≡ b →
          ((a : Router) × (router_in n s ≡ Some a) × Follows i held n.number n.next_peripheral a z) ⊎ ((n.next_router ≤ s) × IsNew z)
      routers s z at true e =
          let same : s ≡ m.next_router = grind (arith, e, nat_tests) in
          let is : y ≡ z = same_Some y z (grind (arith, e, get-insert nat_cmp_total m.routers m.next_router y s, at, nat_tests)) in
          inr (omega (arith, same, c.next_router), subst IsNew is new)
      routers s z at false e = c.routers s z (grind (arith, e, get-insert nat_cmp_total m.routers m.next_router y s, at, nat_tests))

      back : (s : ℕ) (z : Router) → router_in n s ≡ Some z →
          ((a : Router) × (router_in m s ≡ Some a) × Follows i held n.number n.next_peripheral z a) ⊎ IsOff i held z →
          (b : Bool) → nat_eq s m.next_router ≡ b →
          ((a : Router) × (router_in (add_router m y) s ≡ Some a) × Follows i held n.number n.next_peripheral z a) ⊎ IsOff i held z
      back s z at (inr off) b e = inr off
      back s z at (inl p) true e =
          let same : s ≡ m.next_router = grind (arith, e, nat_tests) in
          absurd (omega (arith, same, c.counted counts s p.0 p.1))
      back s z at (inl p) false e = inl (p.0, grind (arith, e, get-insert nat_cmp_total m.routers m.next_router y s, p.1, nat_tests), p.2)

      counted : (s : ℕ) (z : Router) → router_in (add_router m y) s ≡ Some z → (b : Bool) → nat_eq s m.next_router ≡ b →
          s < m.next_router + 1
      counted s z at true e = let same : s ≡ m.next_router = grind (arith, e, nat_tests) in omega (arith, same)
      counted s z at false e = omega (
        arith,
        c.counted counts s z
            (grind (arith, e, get-insert nat_cmp_total m.routers m.next_router y s, at, nat_tests)),
      )
