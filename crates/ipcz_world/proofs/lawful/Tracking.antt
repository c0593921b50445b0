-- A world's routers follow those of the world before: so a router that has tried is still has a waker, and ranks still rise.
use Rattle.ipcz_world.proofs.frames.RolesTell.{links-in}
use Rattle.std.specs.Prelude.{◌≡◌, ◌⊎◌, ◌≤◌, ◌<◌, ℕ, ◌+◌, Bool, true, false, cond, nat_eq, nat_lt, Some}
use Rattle.std.specs.Prelude.{refl}
use Rattle.std.proofs.Common.{arith, ap, sym, ◌∙◌, subst, inl, inr}
use Rattle.std.proofs.lemmas.Bool.Decides.{nat_tests}
use Rattle.ipcz_world.proofs.facts.Tests.{false-true, or_second}
use Rattle.ipcz_world.proofs.Vocabulary.{Side, A, B, LinkId, Central, Peripheral, LinkEnd, has, opposite, Router, is_terminal, Node, router_in, World}
use Rattle.ipcz_world.proofs.Vocabulary.{Key, node_at, word_at, router_at, Books, Records, Inv, has_primary, is_recorded, Word, has_link, outward_has}
use Rattle.ipcz_world.proofs.Vocabulary.{FlagsAgree, IsRanked}
use Rattle.ipcz_word.specs.Word.{is_held}
use Rattle.ipcz_router.specs.Router.{inward_has}
use Rattle.ipcz_world.specs.Owed.{HasFlush, HasWaker}
use Rattle.ipcz_world.specs.Laws.{LinkLaw}
use Rattle.ipcz_world.proofs.lawful.LinkLaws.{link_law}
use Rattle.ipcz_world.proofs.facts.Lengths.{HasEnd, has_link-tells}
use Rattle.ipcz_world.proofs.lawful.Following.{Follows, follows-itself}
use Rattle.ipcz_world.proofs.lawful.Going.{IsNew, IsOff, Goes}

-- each router of a world follows one of the world before, or is new
pub record Tracks (i : ℕ) (held : Bool) (w v : World) : Type 0 where
  pub routers : (k : Key) (y : Router) → router_at v k ≡ Some y →
      ((x : Router) × (router_at w k ≡ Some x) × Follows i held (node_at w k.node).number (node_at w k.node).next_peripheral x y)
      ⊎ (((node_at w k.node).next_router ≤ k.serial) × IsNew y)
  pub back : (k : Key) (x : Router) → router_at w k ≡ Some x →
      ((y : Router) × (router_at v k ≡ Some y) × Follows i held (node_at w k.node).number (node_at w k.node).next_peripheral x y)
      ⊎ IsOff i held x

-- each terminal of a world was one of the same end in the world before, or it is new and open
abbrev pub Came : World → World → Type 0
Came w v = (k : Key) (y : Router) → router_at v k ≡ Some y → is_terminal y ≡ true →
    ((x : Router) × (router_at w k ≡ Some x) × (y.end ≡ x.end) × (is_terminal x ≡ true)) ⊎ (y.closed ≡ false)

pub came-tracked : (i : ℕ) (held : Bool) (w v : World) → Tracks i held w v → Came w v
came-tracked i held w v tracks k y at t = elim (tracks.routers k y at) [
  | inl o ↦ inl (o.0, o.1, o.2.end, o.2.terminal t)
  | inr new ↦ inr new.1.unclosed
]

pub tracks-node : (i : ℕ) (held : Bool) (w v : World) (n : ℕ) (x : Node) → ((j : ℕ) → node_at v j ≡ cond (nat_eq j n) x (node_at w j)) →
    Goes i held (node_at w n) x → Tracks i held w v
unfolding router_at
tracks-node i held w v n x is goes = record {
  routers = λ k y at. routers k y at (nat_eq k.node n) refl;
  back = λ k y at. back k y at (nat_eq k.node n) refl;
}
  where
    routers : (k : Key) (y : Router) → router_in (node_at v k.node) k.serial ≡ Some y → (c : Bool) → nat_eq k.node n ≡ c →
        ((z : Router) × (router_in (node_at w k.node) k.serial ≡ Some z) ×
        Follows i held (node_at w k.node).number (node_at w k.node).next_peripheral z y)
        ⊎ (((node_at w k.node).next_router ≤ k.serial) × IsNew y)
    routers k y at true e =
        let same : k.node ≡ n = grind (arith, e, nat_tests) in
        let g : Goes i held (node_at w k.node) x = subst (λ z. Goes i held (node_at w z) x) (sym same) goes in
        g.routers k.serial y (ap (λ z. router_in z k.serial) (sym (is k.node ∙ ap (λ c. cond c x (node_at w k.node)) e)) ∙ at)
    routers k y at false e =
        inl (
          y,
          ap (λ z. router_in z k.serial) (sym (is k.node ∙ ap (λ c. cond c x (node_at w k.node)) e)) ∙ at,
          follows-itself i held (node_at w k.node).number (node_at w k.node).next_peripheral y,
        )

    back : (k : Key) (y : Router) → router_in (node_at w k.node) k.serial ≡ Some y → (c : Bool) → nat_eq k.node n ≡ c →
        ((z : Router) × (router_in (node_at v k.node) k.serial ≡ Some z) ×
        Follows i held (node_at w k.node).number (node_at w k.node).next_peripheral y z) ⊎ IsOff i held y
    back k y at true e =
        let same : k.node ≡ n = grind (arith, e, nat_tests) in
        let g : Goes i held (node_at w k.node) x = subst (λ z. Goes i held (node_at w z) x) (sym same) goes in
        elim (g.back k.serial y at) [
          | inl t ↦ inl (t.0, ap (λ z. router_in z k.serial) (is k.node ∙ ap (λ c. cond c x (node_at w k.node)) e) ∙ t.1, t.2)
          | inr t ↦ inr t
        ]
    back k y at false e =
        inl (
          y,
          ap (λ z. router_in z k.serial) (is k.node ∙ ap (λ c. cond c x (node_at w k.node)) e) ∙ at,
          follows-itself i held (node_at w k.node).number (node_at w k.node).next_peripheral y,
        )

pub tracks-same : (i : ℕ) (held : Bool) (w v : World) → ((k : Key) → router_at v k ≡ router_at w k) → Tracks i held w v
tracks-same i held w v same = record {
  routers = λ k y at. inl (y, sym (same k) ∙ at, follows-itself i held (node_at w k.node).number (node_at w k.node).next_peripheral y);
  back = λ k y at. inl (y, same k ∙ at, follows-itself i held (node_at w k.node).number (node_at w k.node).next_peripheral y);
}

-- a Flush to a router that has tried stays under way
abbrev pub KeepsFlush : ℕ → World → World → Type 0
KeepsFlush i w v = (k : Key) (r : Router) (s : Side) → router_at v k ≡ Some r → r.tried ≡ true → has_primary (Central i) s r ≡ true →
    HasFlush w i s k.node → HasFlush v i s k.node

-- the sides of a word that is held: one of them holds it
held-other : (x : Word) (s : Side) → is_held x ≡ true → has x.holder s ≡ false → has x.holder (opposite s) ≡ true
held-other x A h e = grind (arith, h, e)
held-other x B h e = grind (arith, h, e)

pub held-is : (x : Word) (s : Side) → has x.holder s ≡ true → is_held x ≡ true
held-is x A h = grind (arith, h)
held-is x B h = grind (arith, h)

-- each router that has tried on this word's link has a waker
abbrev pub HaveWakersOn : ℕ → World → Type 0
HaveWakersOn i w = (k : Key) (r : Router) (s : Side) → router_at w k ≡ Some r → r.tried ≡ true → has_primary (Central i) s r ≡ true →
    HasWaker w i s k.node

-- so it stays
pub wakers-tracked : (i : ℕ) (w v : World) (b : Books) (g : Records) → Inv w b g → FlagsAgree w →
    Tracks i (is_held (word_at w i)) w v → word_at v i ≡ word_at w i → KeepsFlush i w v → HaveWakersOn i w → HaveWakersOn i v
wakers-tracked i w v b g law flags tracks word flush wakers k r s here tried on = elim (tracks.routers k r here) [
  | inl t ↦ let old = t.2.tried s tried on in was t.0 t.1 old.0 old.1 (wakers k t.0 s t.1 old.0 old.1)
  | inr t ↦ false-true (sym t.1.untried ∙ tried)
]
  where
    link : LinkLaw w
    link = link_law w b g law

    was : (x : Router) → router_at w k ≡ Some x → x.tried ≡ true → has_primary (Central i) s x ≡ true → HasWaker w i s k.node →
        HasWaker v i s k.node
    was x at had there waker = go waker
      where
        own : has (word_at w i).holder s ≡ false
        own = sym (link.holds k x i s at there) ∙ flags.tried_free k x at had

        held_now : is_held (word_at w i) ≡ true → HasWaker v i s k.node
        held_now h = inl (ap (λ z. has z.holder (opposite s)) word ∙ held-other (word_at w i) s h own)

        go : HasWaker w i s k.node → HasWaker v i s k.node
        go (inl h) = inl (ap (λ z. has z.holder (opposite s)) word ∙ h)
        go (inr (inl f)) = inr (inl (flush k r s here tried on f))
        go (inr (inr (inl p))) = by (is_held (word_at w i)) refl
          where
            by : (c : Bool) → is_held (word_at w i) ≡ c → HasWaker v i s k.node
            by true e = held_now e
            by false e = elim (tracks.back p.key p.router p.here) [
              | inl t ↦ let able = t.2.able (opposite s) e p.on p.passes in
                  inr (inr (inl (record { key = p.key; router = t.0; here = t.1; on = able.1; passes = able.0 })))
              | inr off ↦ held_now (off (opposite s) p.on)
            ]
        go (inr (inr (inr (waits, inl unstable)))) =
            inr (inr (inr (ap (λ z. has z.waiting s) word ∙ waits, inl (ap (λ z. has z.stable (opposite s)) word ∙ unstable))))
        go (inr (inr (inr (waits, inr p)))) = by (is_held (word_at w i)) refl
          where
            by : (c : Bool) → is_held (word_at w i) ≡ c → HasWaker v i s k.node
            by true e = held_now e
            by false e = elim (tracks.back p.key p.router p.here) [
              | inl t ↦ let owes = t.2.owing (opposite s) e p.on p.passes in
                  inr (inr (inr (
                    ap (λ z. has z.waiting s) word ∙ waits,
                    inr (record { key = p.key; router = t.0; here = t.1; on = owes.1; passes = owes.0 }),
                  )))
              | inr off ↦ held_now (off (opposite s) p.on)
            ]

-- a terminal has no inward link
pub terminal-bare : (r : Router) (l : LinkId) (s : Side) → is_terminal r ≡ true → inward_has r l s ≡ true → ⊥
unfolding has_link
terminal-bare r l s t h = grind (arith, t, h)

-- ranks: new routers are above all others
pub ranked-tracked : (w v : World) (b : Books) (g : Records) (i : ℕ) (held : Bool) → Inv w b g → Tracks i held w v → IsRanked w → IsRanked v
unfolding is_recorded
ranked-tracked w v b g i held law tracks ranked = record {
  rank = rank;
  limit = ranked.limit + 1;
  below = λ k y at. below k y at (tracks.routers k y at);
  rises = λ j k q r n x at here inn out. rises j k q r n x at here inn out (tracks.routers j q at) (tracks.routers k r here);
}
  where
    is_old : Key → Bool
    is_old k = nat_lt k.serial (node_at w k.node).next_router

    rank : Key → ℕ
    rank k = cond (is_old k) (ranked.rank k) ranked.limit

    old_rank : (k : Key) (x : Router) → router_at w k ≡ Some x → rank k ≡ ranked.rank k
    old_rank k x at =
        let e : nat_lt k.serial (node_at w k.node).next_router ≡ true = grind (arith, nat_tests, law.counts.serial k x at) in
        ap (λ c. cond c (ranked.rank k) ranked.limit) e

    new_rank : (k : Key) → (node_at w k.node).next_router ≤ k.serial → rank k ≡ ranked.limit
    new_rank k l =
        let e : nat_lt k.serial (node_at w k.node).next_router ≡ false = grind (arith, nat_tests, l) in
        ap (λ c. cond c (ranked.rank k) ranked.limit) e

    Old : Key → Router → Type 0
    Old k y = (x : Router) × (router_at w k ≡ Some x) × Follows i held (node_at w k.node).number (node_at w k.node).next_peripheral x y

    New : Key → Router → Type 0
    New k y = ((node_at w k.node).next_router ≤ k.serial) × IsNew y

    below : (k : Key) (y : Router) → router_at v k ≡ Some y → Old k y ⊎ New k y → rank k < ranked.limit + 1
    below k y at (inl t) = omega (arith, old_rank k t.0 t.1, ranked.below k t.0 t.1)
    below k y at (inr t) = omega (arith, new_rank k t.0)

    rises : (j k : Key) (q r : Router) (n x : ℕ) → router_at v j ≡ Some q → router_at v k ≡ Some r → inward_has q
        (Peripheral n x) A ≡ true →
        outward_has r (Peripheral n x) B ≡ true → Old j q ⊎ New j q → Old k r ⊎ New k r → rank j < rank k
    rises j k q r n x at here inn out (inr t) other = absurd (terminal-bare q (Peripheral n x) A t.1.terminal inn)
    rises j k q r n x at here inn out (inl t) (inr u) =
        omega (arith, old_rank j t.0 t.1, new_rank k u.0, ranked.below j t.0 t.1)
    rises j k q r n x at here inn out (inl t) (inl u) = elim (t.2.inward n x inn) [
      | inl a ↦ omega (arith, old_rank j t.0 t.1, old_rank k u.0 u.1, ranked.rises j k t.0 u.0 n x t.1 u.1 a (u.2.outward n x out))
      | inr a ↦ absurd (not_yet k u.0 u.1 (u.2.outward n x out) a.0 a.1)
    ]
      where
        not_yet : (k : Key) (y : Router) → router_at w k ≡ Some y → outward_has y (Peripheral n x) B ≡ true → n ≡
            (node_at w j.node).number →
            (node_at w j.node).next_peripheral ≤ x → ⊥
        not_yet k y at has_it number above = go (has_link y.outward.primary (Peripheral n x) B) refl
          where
            own : n ≡ j.node
            own = number ∙ law.counts.node j.node (law.counts.on_node j t.0 t.1)

            recorded : (e : LinkEnd) → e.link ≡ Peripheral n x → is_recorded w g e.link ≡ true → ⊥
            recorded e is h =
                let z : is_recorded w g (Peripheral n x) ≡ true = subst (λ l. is_recorded w g l ≡ true) is h in
                grind (arith, nat_tests, z, own, above)

            go : (c : Bool) → has_link y.outward.primary (Peripheral n x) B ≡ c → ⊥
            go true e =
                let d : HasEnd y.outward.primary (Peripheral n x) B = has_link-tells y.outward.primary (Peripheral n x) B e in
                recorded d.end d.on_link (((links-in law) k y at).primary d.end d.there).recorded
            go false e =
                let f : has_link y.outward.decaying (Peripheral n x) B ≡ true = or_second _ _ has_it e in
                let d : HasEnd y.outward.decaying (Peripheral n x) B = has_link-tells y.outward.decaying (Peripheral n x) B f in
                recorded d.end d.on_link (((links-in law) k y at).decaying d.end d.there).recorded
