-- Names are one to one with the ends that they are bound to, and stay bound.
use Rattle.std.proofs.Common.{◌≡◌, ◌∙◌, ◌⊎◌, ◌++◌, ◌+◌, ◌<◌, ◌≤◌, ap, sym, refl, subst, inl, inr, arith, ℕ, zero, suc, Bool, true, false}
use Rattle.std.proofs.Common.{cond, List, [], ◌∷◌, Some, None, length}
use Rattle.std.specs.Prelude.{◌&&◌, ◌||◌, bytes_eq, nat_eq, nat_lt, not}
use Rattle.std.specs.List.{AllByRecursion, list_all, list_any}
use Rattle.std.specs.Fmt.{digits}
use Rattle.std.specs.Ordering.{eq_by_cmp, nat_cmp}
use Rattle.std.specs.Cmp.Lexicographic.{nat_list_cmp_total, slice_cmp}
use Rattle.std.specs.FinMap.{get, get-empty, get-insert}
use Rattle.std.proofs.lemmas.Bool.{and_parts}
use Rattle.std.proofs.lemmas.Bool.Decides.{nat_tests}
use Rattle.std.proofs.lemmas.Map.Text.{is_eq-slice_cmp}
use Rattle.std.proofs.lemmas.Option.{same_Some}
use Rattle.std.proofs.lemmas.Slice.Eq.{bytes_eq-Decides}
use Rattle.ipcz_base.specs.declared.side.Side.TheVariants.{A, B}
use Rattle.ipcz_base.specs.declared.end.End.{End}
use Rattle.ipcz_base.specs.Ends.{end_at, same_end}
use Rattle.ipcz_base.proofs.Orders.{end_ties}
use Rattle.ipcz_node.specs.FirstPairs.{first_pairs, first_pairs_from, pairs_from}
use Rattle.ipcz_world.specs.World.{new_world}
use Rattle.ipcz_world.specs.Routes.{first_routes}
use Rattle.ipcz_world.proofs.facts.LinkTests.{same_end-itself, same_end-tells}
use Rattle.ipcz_script.specs.ScriptNames.{has_angle}
use Rattle.ipcz_script.specs.Labels.{pair_name}
use Rattle.ipcz_script.specs.Lines.{title_of}
use Rattle.ipcz_script.specs.Sessions.{Session, bind, bind_pair, bind_pairs, nameless, new_session}
use Rattle.ipcz_script.proofs.OpenNames.{title-new, title-old}

-- a name is bound to an end
abbrev pub IsBound : Session → List ℕ → End → Type 0
IsBound s name e = get s.names name ≡ Some e

-- each end that a name is bound to prints as this name
abbrev pub AreTold : Session → Type 0
AreTold s = (name : List ℕ) (e : End) → IsBound s name e → title_of s.titles e ≡ name

-- what is bound stays bound
abbrev pub Stays : Session → Session → Type 0
Stays s t = (name : List ℕ) (e : End) → IsBound s name e → IsBound t name e

-- so no two names have one end
pub one-name : (s : Session) (x y : List ℕ) (e : End) → AreTold s → IsBound s x e → IsBound s y e → x ≡ y
one-name s x y e told h k = sym (told x e h) ∙ told y e k

pub one-end : (s : Session) (x : List ℕ) (d e : End) → IsBound s x d → IsBound s x e → d ≡ e
one-end s x d e h k = same_Some d e (sym h ∙ k)

-- ---- one name more

-- names with ends
abbrev pub Entry : Type 0
Entry = List ℕ × End

-- neither the name nor the end is bound
pub record IsFree (s : Session) (x : Entry) : Type 0 where
  pub name : (e : End) → IsBound s x.0 e → ⊥
  pub end : (name : List ℕ) → IsBound s name x.1 → ⊥

key-tells : (q name : List ℕ) → eq_by_cmp (slice_cmp nat_cmp) q name ≡ true → q ≡ name
key-tells q name e = (bytes_eq-Decides q name).0 (sym (is_eq-slice_cmp q name) ∙ e)

-- what is bound then is this name, or was bound before
pub bound-parts : (s : Session) (x : Entry) (q : List ℕ) (e : End) → IsBound (bind s x.0 x.1) q e →
    ((q ≡ x.0) × (e ≡ x.1)) ⊎ IsBound s q e
bound-parts s x q e h = go (eq_by_cmp (slice_cmp nat_cmp) q x.0) refl (sym (get-insert nat_list_cmp_total s.names x.0 x.1 q) ∙ h)
  where
    go : (c : Bool) → eq_by_cmp (slice_cmp nat_cmp) q x.0 ≡ c → cond c (Some x.1) (get s.names q) ≡ Some e →
        ((q ≡ x.0) × (e ≡ x.1)) ⊎ IsBound s q e
    go true same k = inl (key-tells q x.0 same, sym (same_Some x.1 e k))
    go false same k = inr k

key-itself : (name : List ℕ) → eq_by_cmp (slice_cmp nat_cmp) name name ≡ true
key-itself name = is_eq-slice_cmp name name ∙ (bytes_eq-Decides name name).1 refl

pub bound-new : (s : Session) (x : Entry) → IsBound (bind s x.0 x.1) x.0 x.1
bound-new s x = get-insert nat_list_cmp_total s.names x.0 x.1 x.0 ∙ ap (λ c. cond c (Some x.1) (get s.names x.0)) (key-itself x.0)

bound-stays : (s : Session) (x : Entry) → IsFree s x → Stays s (bind s x.0 x.1)
bound-stays s x free q e h = get-insert nat_list_cmp_total s.names x.0 x.1 q ∙ go (eq_by_cmp (slice_cmp nat_cmp) q x.0) refl
  where
    go : (c : Bool) → eq_by_cmp (slice_cmp nat_cmp) q x.0 ≡ c → cond c (Some x.1) (get s.names q) ≡ Some e
    go true same = absurd (free.name e (subst (λ n. IsBound s n e) (key-tells q x.0 same) h))
    go false same = h

-- two ends where the one has a property that the other hasn't
other-end : (s : Session) (x : Entry) (q : List ℕ) (e : End) → IsFree s x → IsBound s q e → same_end e x.1 ≡ false
other-end s x q e free h = go (same_end e x.1) refl
  where
    go : (c : Bool) → same_end e x.1 ≡ c → c ≡ false
    go true same = absurd (free.end q (subst (IsBound s q) (same_end-tells e x.1 same) h))
    go false same = refl

bound-told : (s : Session) (x : Entry) → IsFree s x → AreTold s → AreTold (bind s x.0 x.1)
bound-told s x free told q e h = go (bound-parts s x q e h)
  where
    go : ((q ≡ x.0) × (e ≡ x.1)) ⊎ IsBound s q e → title_of (bind s x.0 x.1).titles e ≡ q
    go (inl same) = ap (title_of (bind s x.0 x.1).titles) same.1 ∙ title-new s.titles x.1 x.0 ∙ sym same.0
    go (inr k) = title-old s.titles x.1 e x.0 (end_ties e x.1 ∙ other-end s x q e free k) ∙ told q e k

-- ---- some names more

abbrev pub bind_all : Session → List Entry → Session
bind_all s [] = s
bind_all s (x ∷ xs) = bind_all (bind s x.0 x.1) xs

-- whether two entries have one name or one end
abbrev pub clash : Entry → Entry → Bool
clash x y = bytes_eq x.0 y.0 || same_end x.1 y.1

-- whether no two of them do
abbrev pub are_apart : List Entry → Bool
are_apart [] = true
are_apart (x ∷ xs) = not (list_any (clash x) xs) && are_apart xs

-- one of the entries is this one
abbrev pub HasEntry : List Entry → List ℕ → End → Type 0
HasEntry [] name e = ⊥
HasEntry (x ∷ xs) name e = ((name ≡ x.0) × (e ≡ x.1)) ⊎ HasEntry xs name e

or-none : (a b : Bool) → a || b ≡ false → (a ≡ false) × (b ≡ false)
or-none true b h = let never : true ≡ false = h in cc
or-none false b h = (refl, h)

not-false : (b : Bool) → not b ≡ true → b ≡ false
not-false true h = sym h
not-false false h = refl

differ : (a b : List ℕ) → bytes_eq a b ≡ false → a ≡ b → ⊥
differ a b h same = let e : true ≡ false = sym ((bytes_eq-Decides a b).1 same) ∙ h in cc

differ-end : (a b : End) → same_end a b ≡ false → a ≡ b → ⊥
differ-end a b h same = let e : true ≡ false = sym (same_end-itself a) ∙ ap (same_end a) same ∙ h in cc

still-free : (s : Session) (x y : Entry) → clash x y ≡ false → IsFree s y → IsFree (bind s x.0 x.1) y
still-free s x y apart free =
    let t = or-none (bytes_eq x.0 y.0) (same_end x.1 y.1) apart in
    record { name = λ e h. name t.0 e (bound-parts s x y.0 e h); end = λ q h. end t.1 q (bound-parts s x q y.1 h) }
  where
    name : bytes_eq x.0 y.0 ≡ false → (e : End) → ((y.0 ≡ x.0) × (e ≡ x.1)) ⊎ IsBound s y.0 e → ⊥
    name different e (inl same) = differ x.0 y.0 different (sym same.0)
    name different e (inr h) = free.name e h

    end : same_end x.1 y.1 ≡ false → (q : List ℕ) → ((q ≡ x.0) × (y.1 ≡ x.1)) ⊎ IsBound s q y.1 → ⊥
    end different q (inl same) = differ-end x.1 y.1 different (sym same.1)
    end different q (inr h) = free.end q h

all-free : (s : Session) (x : Entry) (ys : List Entry) → list_any (clash x) ys ≡ false → AllByRecursion (IsFree s) ys →
    AllByRecursion (IsFree (bind s x.0 x.1)) ys
all-free s x [] apart free = tt
all-free s x (y ∷ ys) apart free =
    let t = or-none (clash x y) (list_any (clash x) ys) apart in
    (still-free s x y t.0 free.0, all-free s x ys t.1 free.1)

-- names bound to free ends
pub record Binds (s t : Session) (xs : List Entry) : Type 0 where
  pub told : AreTold t
  pub stays : Stays s t
  pub new : (name : List ℕ) (e : End) → HasEntry xs name e → IsBound t name e
  pub parts : (name : List ℕ) (e : End) → IsBound t name e → HasEntry xs name e ⊎ IsBound s name e

pub binds-all : (s : Session) (xs : List Entry) → are_apart xs ≡ true → AllByRecursion (IsFree s) xs → AreTold s →
    Binds s (bind_all s xs) xs
binds-all s [] apart free told = record { told = told; stays = λ name e h. h; new = λ name e h. absurd h; parts = λ name e h. inr h }
binds-all s (x ∷ xs) apart free told =
    let t = and_parts (not (list_any (clash x) xs)) (are_apart xs) apart in
    let u : Session = bind s x.0 x.1 in
    let rest : Binds u (bind_all u xs) xs = binds-all u xs t.1 (all-free s x xs (not-false (list_any (clash x) xs) t.0) free.1)
    (bound-told s x free.0 told) in
    record {
      told = rest.told;
      stays = λ name e h. rest.stays name e (bound-stays s x free.0 name e h);
      new = λ name e h. elim h [
        | inl same ↦ rest.stays name e (subst (λ n. IsBound u n e) (sym same.0) (subst (IsBound u x.0) (sym same.1) (bound-new s x)))
        | inr more ↦ rest.new name e more
      ];
      parts = λ name e h. elim (rest.parts name e h) [
        | inl more ↦ inl (inr more)
        | inr k ↦ elim (bound-parts s x name e k) [ inl same ↦ inl (inl same) | inr old ↦ inr old ]
      ];
    }

-- ---- the start

abbrev pub pair_entries : ℕ → List (ℕ × ℕ) → List Entry
pair_entries pair [] = []
pair_entries pair (p ∷ ps) = (pair_name p.0 p.1, end_at pair A) ∷ (pair_name p.1 p.0, end_at pair B) ∷ pair_entries (pair + 1) ps

pairs-all : (s : Session) (pair : ℕ) (ps : List (ℕ × ℕ)) → bind_pairs s pair ps ≡ bind_all s (pair_entries pair ps)
pairs-all s pair [] = refl
pairs-all s pair (p ∷ ps) = pairs-all (bind_pair s pair p.0 p.1) (pair + 1) ps

abbrev pub first_entries : ℕ → List Entry
first_entries nodes = pair_entries 0 (first_pairs nodes)

-- what the names of first pairs are: apart, with a `>`, and of pairs with first links
abbrev are_good : ℕ → List Entry → Bool
are_good count xs = are_apart xs && list_all (λ x. has_angle x.0 && nat_lt x.1.pair count) xs

first-good : (nodes : ℕ) → nodes ≤ 8 → are_good (length (first_pairs nodes)) (first_entries nodes) ≡ true
unfolding digits
first-good zero h = refl
first-good (suc zero) h = refl
first-good (suc (suc zero)) h = refl
first-good (suc (suc (suc zero))) h = refl
first-good (suc (suc (suc (suc zero)))) h = refl
first-good (suc (suc (suc (suc (suc zero))))) h = refl
first-good (suc (suc (suc (suc (suc (suc zero)))))) h = refl
first-good (suc (suc (suc (suc (suc (suc (suc zero))))))) h = refl
first-good (suc (suc (suc (suc (suc (suc (suc (suc zero)))))))) h = refl
first-good (suc (suc (suc (suc (suc (suc (suc (suc (suc n))))))))) h = absurd (omega (arith, h))

has-good : (count : ℕ) (xs : List Entry) (name : List ℕ) (e : End) → list_all (λ x. has_angle x.0 && nat_lt x.1.pair count) xs ≡ true →
    HasEntry xs name e → (has_angle name ≡ true) × (nat_lt e.pair count ≡ true)
has-good count [] name e all has = absurd has
has-good count (x ∷ xs) name e all (inl same) =
    let t = and_parts (has_angle x.0 && nat_lt x.1.pair count) _ all in
    let u = and_parts (has_angle x.0) (nat_lt x.1.pair count) t.0 in
    (ap has_angle same.0 ∙ u.0, ap (λ d. nat_lt d.pair count) same.1 ∙ u.1)
has-good count (x ∷ xs) name e all (inr more) =
    has-good count xs name e (and_parts (has_angle x.0 && nat_lt x.1.pair count) _ all).1 more

-- nothing is bound at first
none-bound : (nodes words : ℕ) (name : List ℕ) (e : End) → IsBound (nameless (new_world nodes words)) name e → ⊥
none-bound nodes words name e h = let never : None ≡ Some e = sym (get-empty (slice_cmp nat_cmp) name) ∙ h in cc

all-none : (s : Session) (xs : List Entry) → ((name : List ℕ) (e : End) → IsBound s name e → ⊥) → AllByRecursion (IsFree s) xs
all-none s [] none = tt
all-none s (x ∷ xs) none = (record { name = λ e. none x.0 e; end = λ q. none q x.1 }, all-none s xs none)

pub start-binds : (nodes words : ℕ) → nodes ≤ 8 → Binds (nameless (new_world nodes words)) (new_session nodes words) (first_entries nodes)
start-binds nodes words within =
    let s = nameless (new_world nodes words) in
    let good = and_parts (are_apart (first_entries nodes)) _ (first-good nodes within) in
    subst (λ t. Binds s t (first_entries nodes)) (sym (pairs-all s 0 (first_pairs nodes)))
    (binds-all s (first_entries nodes) good.0 (all-none s (first_entries nodes) (none-bound nodes words))
    (λ name e h. absurd (none-bound nodes words name e h)))

-- what is bound at the start is bound to the end of a first pair, and has a `>`
pub start-good : (nodes words : ℕ) → nodes ≤ 8 → (name : List ℕ) (e : End) → IsBound (new_session nodes words) name e →
    (has_angle name ≡ true) × ((first_routes nodes).is_link e.pair ≡ true)
start-good nodes words within name e h = elim ((start-binds nodes words within).parts name e h) [
  | inl has ↦ has-good (length (first_pairs nodes)) (first_entries nodes) name e
      (and_parts (are_apart (first_entries nodes)) _ (first-good nodes within)).1 has
  | inr old ↦ absurd (none-bound nodes words name e old)
]

-- ---- the two names of a first pair

-- one of the pairs is this one, as that of a number
record HasPair (pair : ℕ) (ps : List (ℕ × ℕ)) (i j : ℕ) : Type 0 where
  number : ℕ
  at_a : HasEntry (pair_entries pair ps) (pair_name i j) (end_at number A)
  at_b : HasEntry (pair_entries pair ps) (pair_name j i) (end_at number B)

-- these numbers are one of the pairs
abbrev IsAmong : List (ℕ × ℕ) → ℕ → ℕ → Type 0
IsAmong [] i j = ⊥
IsAmong (p ∷ ps) i j = ((i ≡ p.0) × (j ≡ p.1)) ⊎ IsAmong ps i j

among-has : (pair : ℕ) (ps : List (ℕ × ℕ)) (i j : ℕ) → IsAmong ps i j → HasPair pair ps i j
among-has pair [] i j h = absurd h
among-has pair (p ∷ ps) i j (inl same) = record {
  number = pair;
  at_a = inl ((λ k. pair_name (same.0 k) (same.1 k)), refl);
  at_b = inr (inl ((λ k. pair_name (same.1 k) (same.0 k)), refl));
}
among-has pair (p ∷ ps) i j (inr more) =
    let rest = among-has (pair + 1) ps i j more in
    record { number = rest.number; at_a = inr (inr rest.at_a); at_b = inr (inr rest.at_b) }

among-front : (ps qs : List (ℕ × ℕ)) (i j : ℕ) → IsAmong ps i j → IsAmong (ps ++ qs) i j
among-front [] qs i j h = absurd h
among-front (p ∷ ps) qs i j (inl same) = inl same
among-front (p ∷ ps) qs i j (inr more) = inr (among-front ps qs i j more)

among-back : (ps qs : List (ℕ × ℕ)) (i j : ℕ) → IsAmong qs i j → IsAmong (ps ++ qs) i j
among-back [] qs i j h = h
among-back (p ∷ ps) qs i j h = inr (among-back ps qs i j h)

in-row : (i j left k : ℕ) → j ≤ k → k < j + left → IsAmong (pairs_from i j left) i k
in-row i j zero k low high = absurd (omega (arith, low, high))
in-row i j (suc left) k low high = go (nat_eq k j) refl (λ above. in-row i (j + 1) left k above (omega (arith, high)))
  where
    go : (c : Bool) → nat_eq k j ≡ c → (j + 1 ≤ k → IsAmong (pairs_from i (j + 1) left) i k) → IsAmong (pairs_from i j (suc left)) i k
    go true e rest = inl (refl, grind (arith, e, nat_tests))
    go false e rest = inr (rest (grind (arith, e, low, nat_tests)))

in-rows : (i left a b : ℕ) → i ≤ a → a < b → b < i + left → IsAmong (first_pairs_from i left) a b
in-rows i zero a b low mid high = absurd (omega (arith, low, mid, high))
in-rows i (suc left) a b low mid high = go (nat_eq a i) refl (λ above. in-rows (i + 1) left a b above mid (omega (arith, high)))
  where
    go : (c : Bool) → nat_eq a i ≡ c → (i + 1 ≤ a → IsAmong (first_pairs_from (i + 1) left) a b) →
        IsAmong (first_pairs_from i (suc left)) a b
    go true e rest =
        let same : i ≡ a = grind (arith, e, nat_tests) in
        among-front (pairs_from i (i + 1) left) (first_pairs_from (i + 1) left) a b
        (subst (λ x. IsAmong (pairs_from i (i + 1) left) x b) same
        (in-row i (i + 1) left b (omega (arith, low, mid)) (omega (arith, high))))
    go false e rest =
        among-back (pairs_from i (i + 1) left) (first_pairs_from (i + 1) left) a b (rest (grind (arith, e, low, nat_tests)))

-- both names of a first pair are bound to its ends
pub record ArePaired (s : Session) (x y : List ℕ) : Type 0 where
  pub pair : ℕ
  pub at_a : IsBound s x (end_at pair A)
  pub at_b : IsBound s y (end_at pair B)

pub first-paired : (nodes words i j : ℕ) → nodes ≤ 8 → i < j → j < nodes →
    ArePaired (new_session nodes words) (pair_name i j) (pair_name j i)
first-paired nodes words i j within mid high =
    let has = among-has 0 (first_pairs nodes) i j (in-rows 0 nodes i j (omega arith) mid (omega (arith, high))) in
    let start = start-binds nodes words within in
    record {
      pair = has.number;
      at_a = start.new (pair_name i j) (end_at has.number A) has.at_a;
      at_b = start.new (pair_name j i) (end_at has.number B) has.at_b;
    }
