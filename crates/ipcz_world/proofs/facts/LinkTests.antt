-- What the tests of sides, links and ends tell.
use Rattle.std.specs.Prelude.{◌≡◌, ◌⊎◌, ◌≤◌, ◌<◌, ℕ, Bool, true, false, cond, nat_le, Option, Some, None, is_some, refl, nat_eq}
use Rattle.std.proofs.Common.{arith, inl, inr}
use Rattle.std.proofs.lemmas.Bool.Decides.{nat_tests}
use Rattle.ipcz_world.proofs.Vocabulary.{Side, A, B, End, LinkId, LinkEnd, opposite, same_side, same_end, opposite_end, has_link, word_of}
use Rattle.ipcz_world.proofs.Vocabulary.{known_from, Central, Peripheral, Key, inner_link, is_outward}
use Rattle.ipcz_world.proofs.facts.Lengths.{same_side-itself, same_side-tells, same_link-itself, opposite-twice}
use Rattle.ipcz_world.proofs.facts.Tests.{and_first, and_second}

pub same_side-opposite : (s : Side) → same_side (opposite s) s ≡ false
same_side-opposite A = refl
same_side-opposite B = refl

-- a side is another, or the opposite one
pub side_is : (s t : Side) → (s ≡ t) ⊎ (s ≡ opposite t)
side_is A A = inl refl
side_is A B = inr refl
side_is B A = inr refl
side_is B B = inl refl

pub same_end-itself : (e : End) → same_end e e ≡ true
same_end-itself e = grind (arith, same_side-itself e.side, nat_tests)

pub has_link-is : (o : Option LinkEnd) (e : LinkEnd) (l : LinkId) (s : Side) → o ≡ Some e → e.link ≡ l → e.side ≡ s → has_link o l s ≡ true
unfolding has_link
has_link-is o e l s a b c = grind (arith, a, b, c, same_link-itself l, same_side-itself s)

-- a number that is known from a stage on is known only then
pub record IsKnown (first stage n m : ℕ) : Type 0 where
  pub since : first ≤ stage
  pub is : m ≡ n

pub known_from-tells : (first stage n m : ℕ) → known_from first stage n ≡ Some m → IsKnown first stage n m
unfolding known_from
known_from-tells first stage n m e = go (nat_le first stage) refl e
  where
    go : (b : Bool) → nat_le first stage ≡ b → cond b (Some n) None ≡ Some m → IsKnown first stage n m
    go true q h = record { since = grind (arith, q, nat_tests); is = grind (arith, h) }
    go false q h = absurd (grind (arith, h))

pub known_from-early : (first stage n : ℕ) → stage < first → known_from first stage n ≡ None
unfolding known_from
known_from-early first stage n h = grind (arith, h, nat_tests)

pub opposite_end-twice : (e : End) → opposite_end (opposite_end e) ≡ e
opposite_end-twice e = λ i. record { pair = e.pair; side = opposite-twice e.side i }

pub same_end-tells : (d e : End) → same_end d e ≡ true → d ≡ e
same_end-tells d e h =
    let p : d.pair ≡ e.pair = let q = and_first (nat_eq d.pair e.pair) (same_side d.side e.side) h in grind (arith, q, nat_tests) in
    let s : d.side ≡ e.side = same_side-tells d.side e.side (and_second (nat_eq d.pair e.pair) (same_side d.side e.side) h) in
    λ i. record { pair = p i; side = s i }

-- a link end that isn't outward is of a peripheral link's side A
pub inward_link : (l : LinkId) (t : Side) → is_outward l t ≡ false → (p : Key) × (l ≡ inner_link p) × (t ≡ A)
unfolding is_outward
inward_link (Central i) t o = absurd (grind (arith, o))
inward_link (Peripheral n x) A o = (record { node = n; serial = x }, refl, refl)
inward_link (Peripheral n x) B o = absurd (grind (arith, o))

-- a link of a word is a link
pub central_some : (o : Option LinkEnd) → is_some (word_of o) ≡ true → is_some o ≡ true
unfolding word_of
central_some None h = absurd (cc)
central_some (Some e) h = refl

-- what stands on a central link has its word
pub central_word : (i other : ℕ) (s : Side) → is_some (word_of (Some (record { link = Central i; side = s; other = other }))) ≡ true
unfolding word_of
central_word i other s = refl
