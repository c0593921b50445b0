-- Ends in lists and in sets: which there are, how often, and what is so with some more or some fewer.
use Rattle.ipcz_world.proofs.frames.OfRecords.{holds, held_times, holds_times}
use Rattle.std.specs.Prelude.{◌≡◌, ◌≢◌, ◌⊎◌, ◌≤◌, ◌<◌, ◌+◌, ℕ, zero, suc, Bool, true, false, cond, not, ◌&&◌, ◌||◌, nat_eq, refl, List, []}
use Rattle.std.specs.Prelude.{◌∷◌, ◌++◌}
use Rattle.std.proofs.Common.{arith, ap, ◌∙◌, sym, inl, inr}
use Rattle.std.proofs.lemmas.Bool.Decides.{nat_tests}
use Rattle.ipcz_world.proofs.Vocabulary.{Side, A, B, End, opposite_end, same_end, has_end, opposite, Node, World, node_at, times, total_below}
use Rattle.ipcz_world.proofs.Vocabulary.{times_held, holds_end}
use Rattle.ipcz_node.specs.Node.{EndSet, with_ends, without_ends}
use Rattle.ipcz_node.proofs.Held.{contains-with_ends, contains-without_ends}
use Rattle.ipcz_node.specs.Calls.{are_held_once}
use Rattle.ipcz_world.proofs.frames.Changing.{IsNodeChanged}
use Rattle.ipcz_world.proofs.frames.Flowing.{total_below-swap, total_below-has}
use Rattle.ipcz_world.proofs.frames.Booking.{end_tells, flag}
use Rattle.ipcz_world.proofs.facts.LinkTests.{same_end-itself}

pub times-has : (e : End) (es : List End) → has_end e es ≡ true → 1 ≤ times e es
times-has e [] h = cc
times-has e (d ∷ es) h = go (same_end d e) h (λ f. times-has e es f)
  where
    go : (b : Bool) → (b || has_end e es) ≡ true → (has_end e es ≡ true → 1 ≤ times e es) → 1 ≤ cond b 1 0 + times e es
    go true h more = omega arith
    go false h more = omega (arith, more h)

pub has-times : (e : End) (es : List End) → 1 ≤ times e es → has_end e es ≡ true
has-times e [] h = absurd (omega (arith, h))
has-times e (d ∷ es) h = go (same_end d e) h (λ f. has-times e es f)
  where
    go : (b : Bool) → 1 ≤ cond b 1 0 + times e es → (1 ≤ times e es → has_end e es ≡ true) → (b || has_end e es) ≡ true
    go true h more = refl
    go false h more = more (omega (arith, h))

pub times-lacks : (e : End) (es : List End) → has_end e es ≡ false → times e es ≡ 0
times-lacks e es h = go (times e es) refl
  where
    go : (n : ℕ) → times e es ≡ n → times e es ≡ 0
    go zero q = q
    go (suc n) q = let has : has_end e es ≡ true = has-times e es (omega (arith, q)) in absurd (grind (arith, h, has))

pub times-append : (e : End) (xs ys : List End) → times e (xs ++ ys) ≡ times e xs + times e ys
times-append e [] ys = omega arith
times-append e (x ∷ xs) ys = omega (arith, times-append e xs ys)

pub has-append : (e : End) (xs ys : List End) → has_end e (xs ++ ys) ≡ true → (has_end e xs ≡ true) ⊎ (has_end e ys ≡ true)
has-append e [] ys h = inr h
has-append e (x ∷ xs) ys h = go (same_end x e) h (λ f. has-append e xs ys f)
  where
    go : (b : Bool) → (b || has_end e (xs ++ ys)) ≡ true → (has_end e (xs ++ ys) ≡ true → (has_end e xs ≡ true) ⊎ (has_end e ys ≡ true)) →
        ((b || has_end e xs) ≡ true) ⊎ (has_end e ys ≡ true)
    go true h more = inl refl
    go false h more = more h

pub same_end-turned : (d e : End) → same_end d e ≡ same_end e d
same_end-turned d e = elim (end_tells d e) [
  | inl q ↦ q.0 ∙ sym (ap (λ z. same_end e z) q.1 ∙ same_end-itself e)
  | inr q ↦ elim (end_tells e d) [ inl p ↦ absurd (q.1 (sym p.1)) | inr p ↦ q.0 ∙ sym p.0 ]
]

-- an end is in a set once at most
pub held_times-most : (e : End) (held : EndSet) → held_times e held ≤ 1
held_times-most e held = go (holds e held)
  where
    go : (b : Bool) → cond b 1 0 ≤ 1
    go true = omega arith
    go false = omega arith

pub times-holds : (e : End) (held : EndSet) → 1 ≤ held_times e held → holds e held ≡ true
times-holds e held h = go (holds e held) h
  where
    go : (b : Bool) → 1 ≤ cond b 1 0 → b ≡ true
    go true h = refl
    go false h = absurd (omega (arith, h))

-- what is left was there
pub holds-without_ends : (d : End) (es : List End) (held : EndSet) → holds d (without_ends held es) ≡ true → holds d held ≡ true
holds-without_ends d es held h = go (has_end d es) (holds d held) (sym (contains-without_ends held es d) ∙ h)
  where
    go : (a b : Bool) → (not a && b) ≡ true → b ≡ true
    go true b h = cc
    go false b h = h

-- what is there then was there, or is one of these
pub holds-with_ends : (d : End) (es : List End) (held : EndSet) → holds d (with_ends held es) ≡ true →
    (holds d held ≡ true) ⊎ (has_end d es ≡ true)
holds-with_ends d es held h = go (has_end d es) (holds d held) (sym (contains-with_ends held es d) ∙ h)
  where
    go : (a b : Bool) → (a || b) ≡ true → (b ≡ true) ⊎ (a ≡ true)
    go true b h = inr refl
    go false b h = inl h

-- if each of these is held as often as it stands here, they leave
pub times-without_ends : (es : List End) (held : EndSet) (d : End) → times d es ≤ held_times d held →
    held_times d (without_ends held es) + times d es ≡ held_times d held
times-without_ends es held d all = go (has_end d es) (holds d held) (times d es) refl (λ f. times-has d es f) (λ f. times-lacks d es f) all
    (ap flag (contains-without_ends held es d))
  where
    go : (a b : Bool) (n : ℕ) → times d es ≡ n → (a ≡ true → 1 ≤ times d es) → (a ≡ false → times d es ≡ 0) → times d es ≤ flag b →
        held_times d (without_ends held es) ≡ flag (not a && b) →
        held_times d (without_ends held es) + times d es ≡ flag b
    go true true n q has lacks all e = omega (arith, has refl, all, e)
    go true false n q has lacks all e = absurd (omega (arith, has refl, all))
    go false true n q has lacks all e = omega (arith, lacks refl, e)
    go false false n q has lacks all e = omega (arith, lacks refl, e)

-- if none of these is held and none stands twice, they come
pub times-with_ends : (es : List End) (held : EndSet) (d : End) → times d es + held_times d held ≤ 1 →
    held_times d (with_ends held es) ≡ held_times d held + times d es
times-with_ends es held d all = go (has_end d es) (holds d held) (λ f. times-has d es f) (λ f. times-lacks d es f) all
    (ap flag (contains-with_ends held es d))
  where
    go : (a b : Bool) → (a ≡ true → 1 ≤ times d es) → (a ≡ false → times d es ≡ 0) → times d es + flag b ≤ 1 →
        held_times d (with_ends held es) ≡ flag (a || b) → held_times d (with_ends held es) ≡ flag b + times d es
    go true true has lacks all e = absurd (omega (arith, has refl, all))
    go true false has lacks all e = omega (arith, has refl, all, e)
    go false true has lacks all e = omega (arith, lacks refl, e)
    go false false has lacks all e = omega (arith, lacks refl, e)

-- ends that are held once each
pub are_held-times : (n : Node) (es : List End) → are_held_once n es ≡ true → (d : End) → times d es ≤ held_times d n.held
are_held-times n [] h d = omega arith
are_held-times n (e ∷ es) h d = go (holds_end n e) (has_end e es) refl refl h (λ f. are_held-times n es f d)
  where
    go : (a b : Bool) → holds_end n e ≡ a → has_end e es ≡ b → (a && (not b && are_held_once n es)) ≡ true →
        (are_held_once n es ≡ true → times d es ≤ held_times d n.held) → flag (same_end e d) + times d es ≤ held_times d n.held
    go false b p q h more = cc
    go true true p q h more = cc
    go true false p q h more = elim (end_tells e d) [
      | inl s ↦ omega (
        arith,
        ap flag s.0,
        ap (λ z. times z es) s.1,
        times-lacks e es q,
        ap (λ z. held_times z n.held) s.1,
        holds_times e n.held p,
      )
      | inr s ↦ omega (arith, ap flag s.0, more h)
    ]

-- ends of one pair are the same or opposite
pub pair_ends : (d e : End) → d.pair ≡ e.pair → (d ≡ e) ⊎ (d ≡ opposite_end e)
pair_ends d e p = go d.side e.side refl refl
  where
    go : (s t : Side) → d.side ≡ s → e.side ≡ t → (d ≡ e) ⊎ (d ≡ opposite_end e)
    go A A x y = inl (λ i. record { pair = p i; side = (x ∙ sym y) i })
    go A B x y = inr (λ i. record { pair = p i; side = (x ∙ ap opposite (sym y)) i })
    go B A x y = inr (λ i. record { pair = p i; side = (x ∙ ap opposite (sym y)) i })
    go B B x y = inl (λ i. record { pair = p i; side = (x ∙ sym y) i })

pub times_held-at : (w : World) (n : ℕ) (e : End) → n < w.count →
    held_times e (node_at w n).held + times e (node_at w n).pending ≤ times_held w e
times_held-at w n e l = total_below-has w.count n (λ n. held_times e (node_at w n).held + times e (node_at w n).pending) l

pub times_held-changed : (w v : World) (n : ℕ) (x : Node) (e : End) → IsNodeChanged w v n x → n < w.count →
    times_held v e + (held_times e (node_at w n).held + times e (node_at w n).pending) ≡ times_held w e +
    (held_times e x.held + times e x.pending)
times_held-changed w v n x e c l =
    let swap = total_below-swap w.count n (λ j. held_times e (node_at v j).held + times e (node_at v j).pending)
    (λ j. held_times e (node_at w j).held + times e (node_at w j).pending) l
    (λ j less ne. ap (λ (z : Node). held_times e z.held + times e z.pending) (there j ne)) in
    omega (
      arith,
      ap (λ z. total_below z (λ j. held_times e (node_at v j).held + times e (node_at v j).pending)) c.count,
      swap,
      ap (λ (z : Node). held_times e z.held + times e z.pending) (here_of (c.node n)),
    )
  where
    there : (j : ℕ) → j ≢ n → node_at v j ≡ node_at w j
    there j ne = grind (arith, c.node j, ne, nat_tests)

    here_of : node_at v n ≡ cond (nat_eq n n) x (node_at w n) → node_at v n ≡ x
    here_of h = grind (arith, h, nat_tests)
