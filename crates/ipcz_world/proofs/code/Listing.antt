-- The acts of a node are listed one after the other.
use Rattle.std.specs.Prelude.{◌≡◌, ◌<◌, ◌≤◌, ◌+◌, ◌-◌, ◌++◌, ◌∷◌, [], ℕ, zero, suc, Bool, false, cond, map, List, drop, length, refl}
use Rattle.std.proofs.Common.{arith, ap, sym, ◌∙◌, append_assoc, append-nil, get_or}
use Rattle.std.proofs.lemmas.Bool.Decides.{nat_tests}
use Rattle.std.proofs.lemmas.List.Elements.{filter-append}
use Rattle.std.specs.List.{filter}
use Rattle.ipcz_router.specs.Router.{Router}
use Rattle.ipcz_router.specs.declared.act.RouterAct.{RouterAct}
use Rattle.ipcz_node.specs.declared.act.Act.{Act}
use Rattle.ipcz_node.specs.declared.act.Act.TheVariants.{Router as OfRouter}
use Rattle.ipcz_node.specs.Serials.{entries_by}
use Rattle.ipcz_world.proofs.Vocabulary.{can_act, numbers_from}
use Rattle.ipcz_world.specs.Listing.{acts_in_order, acts_of_routers, possible_acts, router_acts}
use Rattle.ipcz_world.specs.World.{World}

-- the acts about the numbers from one on
abbrev pub numbers_left : (ℕ → Act) → ℕ → ℕ → List Act
numbers_left f count i = map f (numbers_from i (count - i))

left-some : (f : ℕ → Act) (count i : ℕ) → i < count → numbers_left f count i ≡ f i ∷ numbers_left f count (i + 1)
left-some f count i below = let more : count - i ≡ suc (count - (i + 1)) = omega (arith, below) in ap (λ n. map f (numbers_from i n)) more

left-none : (f : ℕ → Act) (count i : ℕ) → count ≤ i → numbers_left f count i ≡ []
left-none f count i past = let none : count - i ≡ 0 = omega (arith, past) in ap (λ n. map f (numbers_from i n)) none

pub left-all : (f : ℕ → Act) (count : ℕ) → numbers_left f count 0 ≡ map f (numbers_from 0 count)
left-all f count = let all : count - 0 ≡ count = omega arith in ap (λ n. map f (numbers_from 0 n)) all

module _ (p : Act → Bool) where
  -- a part of a list is listed, and then the rest of it
  parted : (out new : List Act) (xs ys : List Act) → new ≡ out ++ filter p xs → new ++ filter p ys ≡ out ++ filter p (xs ++ ys)
  parted out new xs ys is =
      ap (λ l. l ++ filter p ys) is ∙ append_assoc out (filter p xs) (filter p ys) ∙ ap (λ l. out ++ l) (sym (filter-append p xs ys))

  pub number-listed : (f : ℕ → Act) (count i : ℕ) (out new all : List Act) → i < count → new ≡ out ++ filter p (f i ∷ []) →
      out ++ filter p (numbers_left f count i) ≡ all → new ++ filter p (numbers_left f count (i + 1)) ≡ all
  number-listed f count i out new all below is so_far =
      parted out new (f i ∷ []) (numbers_left f count (i + 1)) is ∙ ap (λ l. out ++ filter p l) (sym (left-some f count i below)) ∙ so_far

  pub numbers-listed : (f : ℕ → Act) (count i : ℕ) (out old : List Act) → count ≤ i →
      out ++ filter p (numbers_left f count i) ≡ old ++ filter p (numbers_left f count 0) → out ≡ old ++ filter p (map f (numbers_from 0 count))
  numbers-listed f count i out old past all =
      sym (append-nil out) ∙ ap (λ l. out ++ filter p l) (sym (left-none f count i past)) ∙ all ∙ ap (λ l. old ++ filter p l) (left-all f count)

  -- the same of any list of lists
  pub listed-more : (out new all : List Act) (xs ys left : List Act) → left ≡ xs ++ ys → new ≡ out ++ filter p xs → out ++ filter p left ≡ all →
      new ++ filter p ys ≡ all
  listed-more out new all xs ys left is more so_far = parted out new xs ys more ∙ ap (λ l. out ++ filter p l) (sym is) ∙ so_far

  pub listed-all : (out all left : List Act) → left ≡ [] → out ++ filter p left ≡ all → out ≡ all
  listed-all out all left none so_far = sym (append-nil out) ∙ ap (λ l. out ++ filter p l) (sym none) ∙ so_far

-- no act of a node that isn't there is possible
none-listed : (p : Act → Bool) (xs : List Act) → ((a : Act) → p a ≡ false) → filter p xs ≡ []
none-listed p [] none = refl
none-listed p (x ∷ xs) none = ap (λ c. cond c (x ∷ filter p xs) (filter p xs)) (none x) ∙ none-listed p xs none

pub nothing-listed : (w : World) (n : ℕ) → w.count ≤ n → possible_acts w n ≡ []
nothing-listed w n past = none-listed (can_act w n) (acts_in_order w n) (λ a. grind (arith, past, nat_tests))

module _ (p : Act → Bool) where
  pub six : (o a b c d e f : List Act) (ai bi ci di ei fi : List Act) → a ≡ o ++ filter p ai → b ≡ a ++ filter p bi → c ≡ b ++ filter p ci →
      d ≡ c ++ filter p di → e ≡ d ++ filter p ei → f ≡ e ++ filter p fi → f ≡ o ++ filter p (ai ++ (bi ++ (ci ++ (di ++ (ei ++ fi)))))
  six o a b c d e f ai bi ci di ei fi ha hb hc hd he hf =
      hf ∙ parted p d e ei fi he ∙ parted p c d di (ei ++ fi) hd ∙ parted p b c ci (di ++ (ei ++ fi)) hc
      ∙ parted p a b bi (ci ++ (di ++ (ei ++ fi))) hb ∙ parted p o a ai (bi ++ (ci ++ (di ++ (ei ++ fi)))) ha

-- ---- the serials of entries

-- the acts of the routers of these serials, router by router
abbrev pub acts_of_serials : {X : Type 0} → List (ℕ × X) → List Act
acts_of_serials [] = []
acts_of_serials (e ∷ es) = map (OfRouter e.0) router_acts ++ acts_of_serials es

pub serials-same : {X : Type 0} (g : X → Router) (es : List (ℕ × X)) → acts_of_routers (entries_by g es) ≡ acts_of_serials es
serials-same g [] = refl
serials-same g (e ∷ es) = ap (λ l. map (OfRouter e.0) router_acts ++ l) (serials-same g es)

pub serials-next : {X : Type 0} (es : List (ℕ × X)) (i : ℕ) (e : ℕ × X) → i < length es → e ≡ get_or es i e →
    acts_of_serials (drop i es) ≡ map (OfRouter e.0) router_acts ++ acts_of_serials (drop (i + 1) es)
serials-next [] i e below is = absurd (omega (arith, below))
serials-next (x ∷ es) zero e below is = ap (λ s. map (OfRouter s) router_acts ++ acts_of_serials es) (sym (ap (λ y. y.0) is))
serials-next (x ∷ es) (suc i) e below is =
    let one : suc (i + 1) ≡ suc i + 1 = omega arith in
    serials-next es i e (omega (arith, below)) is ∙ ap (λ j. map (OfRouter e.0) router_acts ++ acts_of_serials (drop j (x ∷ es))) one

pub serials-past : {X : Type 0} (es : List (ℕ × X)) (i : ℕ) → length es ≤ i → acts_of_serials (drop i es) ≡ []
serials-past [] zero past = refl
serials-past [] (suc i) past = refl
serials-past (x ∷ es) zero past = absurd (omega (arith, past))
serials-past (x ∷ es) (suc i) past = serials-past es i (omega (arith, past))

-- the same of the acts of one router
pub acts-next : (s : ℕ) (does : List RouterAct) (i : ℕ) (d : RouterAct) → i < length does →
    map (OfRouter s) (drop i does) ≡ (OfRouter s (get_or does i d) ∷ []) ++ map (OfRouter s) (drop (i + 1) does)
acts-next s [] i d below = absurd (omega (arith, below))
acts-next s (x ∷ does) zero d below = refl
acts-next s (x ∷ does) (suc i) d below =
    let one : suc (i + 1) ≡ suc i + 1 = omega arith in
    acts-next s does i d (omega (arith, below)) ∙ ap (λ j. OfRouter s (get_or does i d) ∷ map (OfRouter s) (drop j (x ∷ does))) one

pub acts-past : (s : ℕ) (does : List RouterAct) (i : ℕ) → length does ≤ i → map (OfRouter s) (drop i does) ≡ []
acts-past s [] zero past = refl
acts-past s [] (suc i) past = refl
acts-past s (x ∷ does) zero past = absurd (omega (arith, past))
acts-past s (x ∷ does) (suc i) past = acts-past s does i (omega (arith, past))
