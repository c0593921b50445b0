-- Flows with a message more, or without their first: which messages are under way, and what they weigh.
use Rattle.std.specs.Prelude.{◌≡◌, ◌≢◌, ◌⊎◌, ◌≤◌, ◌<◌, ◌+◌, ℕ, zero, suc, Bool, true, false, ◌&&◌, nat_eq, Some, refl, List, [], ◌∷◌, ◌++◌}
use Rattle.std.specs.Prelude.{length, take, slice_get}
use Rattle.std.proofs.Common.{arith, ap, subst, ◌∙◌, sym, inl, inr}
use Rattle.std.proofs.lemmas.Bool.Decides.{nat_tests}
use Rattle.ipcz_world.proofs.Vocabulary.{Side, LinkId, Message, World, flow, IsUnderWay, makes, is_made_before, under_way, total_below, total_list}
use Rattle.ipcz_world.proofs.Vocabulary.{is_made_by}
use Rattle.ipcz_world.proofs.frames.Totalling.{total_below-same}
use Rattle.ipcz_world.proofs.frames.Sums.{total_list-at}

-- whether two ways are the same
abbrev pub same_way : ℕ → ℕ → ℕ → ℕ → Bool
same_way from to a b = nat_eq from a && nat_eq to b

-- the last message from a to b is new
pub record IsPushed (w v : World) (a b : ℕ) (m : Message) : Type 0 where
  pub count : v.count ≡ w.count
  pub sender : a < w.count
  pub receiver : b < w.count
  pub here : flow v a b ≡ flow w a b ++ m ∷ []
  pub apart : (from to : ℕ) → from < w.count → to < w.count → same_way from to a b ≡ false → flow v from to ≡ flow w from to

-- the first message from a to b is gone
pub record IsTaken (w v : World) (a b : ℕ) (m : Message) : Type 0 where
  pub count : v.count ≡ w.count
  pub sender : a < w.count
  pub receiver : b < w.count
  pub here : flow w a b ≡ m ∷ flow v a b
  pub apart : (from to : ℕ) → from < w.count → to < w.count → same_way from to a b ≡ false → flow v from to ≡ flow w from to

total_below-one : (c n : ℕ) (f e : ℕ → ℕ) (a : ℕ) → n < c → f n ≡ e n + a → ((j : ℕ) → j < c → j ≢ n → f j ≡ e j) →
    total_below c f ≡ total_below c e + a
total_below-one zero n f e a l h same = absurd (omega arith)
total_below-one (suc c) n f e a l h same = go (nat_eq n c) refl (λ l. total_below-one c n f e a l h (λ j less. same j (omega arith)))
  where
    go : (b : Bool) → nat_eq n c ≡ b → (n < c → total_below c f ≡ total_below c e + a) → f c + total_below c f ≡ (e c + total_below c e) + a
    go true q again = let is : n ≡ c = grind (arith, q, nat_tests) in
        omega (
          arith,
          subst (λ x. f x ≡ e x + a) is h,
          total_below-same c f e
              (λ j less. same j (omega arith) (λ z. grind (arith, z, is, less))),
        )
    go false q again = omega (arith, again (grind (arith, q, nat_tests)), same c (omega arith) (λ z. grind (arith, q, z, nat_tests)))

-- the totals of two functions that differ at one number
pub total_below-swap : (c n : ℕ) (f e : ℕ → ℕ) → n < c → ((j : ℕ) → j < c → j ≢ n → f j ≡ e j) →
    total_below c f + e n ≡ total_below c e + f n
total_below-swap zero n f e l same = absurd (omega arith)
total_below-swap (suc c) n f e l same = go (nat_eq n c) refl (λ l. total_below-swap c n f e l (λ j less. same j (omega arith)))
  where
    go : (b : Bool) → nat_eq n c ≡ b → (n < c → total_below c f + e n ≡ total_below c e + f n) →
        (f c + total_below c f) + e n ≡ (e c + total_below c e) + f n
    go true q again = let is : n ≡ c = grind (arith, q, nat_tests) in
        omega (arith, ap e is, ap f is, total_below-same c f e (λ j less. same j (omega arith) (λ z. grind (arith, z, is, less))))
    go false q again = omega (arith, again (grind (arith, q, nat_tests)), same c (omega arith) (λ z. grind (arith, q, z, nat_tests)))

total_list-append : {X : Type 0} (h : X → ℕ) (xs : List X) (x : X) → total_list h (xs ++ x ∷ []) ≡ total_list h xs + h x
total_list-append h [] x = omega arith
total_list-append h (y ∷ xs) x = omega (arith, total_list-append h xs x)

total_below-found : (c : ℕ) (f : ℕ → ℕ) → 1 ≤ total_below c f → (n : ℕ) × (n < c) × (1 ≤ f n)
total_below-found zero f h = absurd (omega arith)
total_below-found (suc c) f h = go (f c) refl (λ l. total_below-found c f l)
  where
    go : (a : ℕ) → f c ≡ a → (1 ≤ total_below c f → (n : ℕ) × (n < c) × (1 ≤ f n)) → (n : ℕ) × (n < suc c) × (1 ≤ f n)
    go zero e again = let x = again (omega (arith, h, e)) in (x.0, omega (arith, x.1), x.2)
    go (suc a) e again = (c, omega arith, omega (arith, e))

pub total_list-found : {X : Type 0} (h : X → ℕ) (xs : List X) → 1 ≤ total_list h xs →
    (i : ℕ) × (x : X) × (slice_get xs i ≡ Some x) × (1 ≤ h x)
total_list-found h [] l = absurd (omega arith)
total_list-found {X} h (x ∷ xs) l = go (h x) refl (λ l. total_list-found h xs l)
  where
    go : (a : ℕ) → h x ≡ a → (1 ≤ total_list h xs → (i : ℕ) × (z : X) × (slice_get xs i ≡ Some z) × (1 ≤ h z)) →
        (i : ℕ) × (z : X) × (slice_get (x ∷ xs) i ≡ Some z) × (1 ≤ h z)
    go zero e again = let f = again (omega (arith, l, e)) in (suc f.0, f.1, f.2, f.3)
    go (suc a) e again = (0, x, refl, omega (arith, e))

pub total_below-has : (c n : ℕ) (f : ℕ → ℕ) → n < c → f n ≤ total_below c f
total_below-has zero n f l = absurd (omega arith)
total_below-has (suc c) n f l = go (nat_eq n c) refl (λ l. total_below-has c n f l)
  where
    go : (b : Bool) → nat_eq n c ≡ b → (n < c → f n ≤ total_below c f) → f n ≤ f c + total_below c f
    go true q again = let is : f n ≡ f c = ap f (grind (arith, q, nat_tests)) in omega (arith, is)
    go false q again = omega (arith, again (grind (arith, q, nat_tests)))

-- one of the messages weighs something
pub found : (h : ℕ → ℕ → Message → ℕ) (w : World) → 1 ≤ under_way h w →
    (from : ℕ) × (to : ℕ) × (i : ℕ) × (m : Message) × IsUnderWay w from to i m × (1 ≤ h from to m)
unfolding under_way
found h w l =
    let a = total_below-found w.count (λ from. total_below w.count (λ to. total_list (h from to) (flow w from to))) l in
    let b = total_below-found w.count (λ to. total_list (h a.0 to) (flow w a.0 to)) a.2 in
    let c = total_list-found (h a.0 b.0) (flow w a.0 b.0) b.2 in
    (a.0, b.0, c.0, c.1, record { sender = a.1; receiver = b.1; place = c.2 }, c.3)

-- each message is weighed
pub weighed : (h : ℕ → ℕ → Message → ℕ) (w : World) (from to i : ℕ) (m : Message) → IsUnderWay w from to i m → h from to m ≤ under_way h w
unfolding under_way
weighed h w from to i m u =
    let a : total_below w.count (λ t. total_list (h from t) (flow w from t)) ≤ _ =
    total_below-has w.count from (λ f. total_below w.count (λ t. total_list (h f t) (flow w f t))) u.sender in
    let b : total_list (h from to) (flow w from to) ≤ _ = total_below-has w.count to (λ t. total_list (h from t) (flow w from t)) u.receiver
    in
    omega (arith, a, b, total_list-at (h from to) (flow w from to) i m u.place)

-- a flow with a change at one way
under_way-one : (h : ℕ → ℕ → Message → ℕ) (w v : World) (a b d : ℕ) → v.count ≡ w.count → a < w.count → b < w.count →
    total_list (h a b) (flow v a b) ≡ total_list (h a b) (flow w a b) + d →
    ((from to : ℕ) → from < w.count → to < w.count → same_way from to a b ≡ false → flow v from to ≡ flow w from to) →
    under_way h v ≡ under_way h w + d
unfolding under_way
under_way-one h w v a b d count la lb more same =
    subst (λ c. total_below c (λ from. total_below c (λ to. total_list (h from to) (flow v from to))) ≡ total_below w.count
    (λ from. total_below w.count (λ to. total_list (h from to) (flow w from to))) + d) (sym count)
    (total_below-one w.count a (λ from. total_below w.count (λ to. total_list (h from to) (flow v from to)))
    (λ from. total_below w.count (λ to. total_list (h from to) (flow w from to))) d la
    (total_below-one w.count b (λ to. total_list (h a to) (flow v a to)) (λ to. total_list (h a to) (flow w a to)) d lb more
    (λ to l ne. ap (total_list (h a to)) (same a to la l (grind (arith, ne, nat_tests)))))
    (λ from l ne. total_below-same w.count (λ to. total_list (h from to) (flow v from to)) (λ to. total_list (h from to) (flow w from to))
    (λ to m. ap (total_list (h from to)) (same from to l m (grind (arith, ne, nat_tests))))))

pub under_way-pushed : (h : ℕ → ℕ → Message → ℕ) (w v : World) (a b : ℕ) (m : Message) → IsPushed w v a b m →
    under_way h v ≡ under_way h w + h a b m
under_way-pushed h w v a b m p = under_way-one h w v a b (h a b m) p.count p.sender p.receiver
    (ap (total_list (h a b)) p.here ∙ total_list-append (h a b) (flow w a b) m) p.apart

pub under_way-taken : (h : ℕ → ℕ → Message → ℕ) (w v : World) (a b : ℕ) (m : Message) → IsTaken w v a b m →
    under_way h v + h a b m ≡ under_way h w
under_way-taken h w v a b m p =
    sym (under_way-one h v w a b (h a b m) (sym p.count) (subst (λ c. a < c) (sym p.count) p.sender)
    (subst (λ c. b < c) (sym p.count) p.receiver) (omega (arith, ap (total_list (h a b)) p.here))
    (λ from to l n e. sym (p.apart from to (subst (λ c. from < c) p.count l) (subst (λ c. to < c) p.count n) e)))

pub slice_get-last : {X : Type 0} (xs : List X) (y x : X) (i : ℕ) → slice_get (xs ++ y ∷ []) i ≡ Some x →
    (slice_get xs i ≡ Some x) ⊎ ((i ≡ length xs) × (x ≡ y))
slice_get-last [] y x zero e = inr (refl, grind (arith, e))
slice_get-last [] y x (suc i) e = cc
slice_get-last (z ∷ xs) y x zero e = inl e
slice_get-last (z ∷ xs) y x (suc i) e = elim (slice_get-last xs y x i e) [ inl h ↦ inl h | inr h ↦ inr (ap suc h.0, h.1) ]

take-before : {X : Type 0} (xs : List X) (y x : X) (i : ℕ) → slice_get xs i ≡ Some x → take i (xs ++ y ∷ []) ≡ take i xs
take-before [] y x i e = cc
take-before (z ∷ xs) y x zero e = refl
take-before (z ∷ xs) y x (suc i) e = ap (λ t. z ∷ t) (take-before xs y x i e)

take-all : {X : Type 0} (xs : List X) (y : X) → take (length xs) (xs ++ y ∷ []) ≡ xs
take-all [] y = refl
take-all (x ∷ xs) y = ap (λ t. x ∷ t) (take-all xs y)

-- a message that was under way before, with what was made before it
pub record CameFrom (w v : World) (from to i : ℕ) (m : Message) : Type 0 where
  pub at : ℕ
  pub was : IsUnderWay w from to at m
  pub made : (link : LinkId) (s : Side) → is_made_before w from to at link s ≡ true → is_made_before v from to i link s ≡ true

-- the last message of a way
pub record IsLast (w : World) (a b : ℕ) (m : Message) (from to i : ℕ) (n : Message) : Type 0 where
  pub sender : from ≡ a
  pub receiver : to ≡ b
  pub at : i ≡ length (flow w a b)
  pub message : n ≡ m

pub way_tells : (from to a b : ℕ) → ((same_way from to a b ≡ true) × (from ≡ a) × (to ≡ b)) ⊎ (same_way from to a b ≡ false)
way_tells from to a b = go (nat_eq from a) (nat_eq to b) refl refl
  where
    go : (p q : Bool) → nat_eq from a ≡ p → nat_eq to b ≡ q → ((same_way from to a b ≡ true) × (from ≡ a) × (to ≡ b)) ⊎
        (same_way from to a b ≡ false)
    go true true e f = inl (grind (arith, e, f), grind (arith, e, nat_tests), grind (arith, f, nat_tests))
    go true false e f = inr (grind (arith, e, f))
    go false q e f = inr (grind (arith, e))

pub came_pushed : (w v : World) (a b : ℕ) (m : Message) → IsPushed w v a b m → (from to i : ℕ) (n : Message) → IsUnderWay v from to i n →
    CameFrom w v from to i n ⊎ IsLast w a b m from to i n
came_pushed w v a b m p from to i n u = elim (way_tells from to a b) [
  | inl e ↦ elim (slice_get-last (flow w a b) m n i (grind (arith, e, p.here, u.place))) [
    | inl h ↦ inl (record {
      at = i;
      was = record {
        sender = grind (arith, u.sender, p.count);
        receiver = grind (arith, u.receiver, p.count);
        place =
            grind (arith, h, e);
      };
      made = λ link s f. grind (arith, f, e, p.here, take-before (flow w a b) m n i h);
    })
    | inr h ↦ inr (record { sender = e.1; receiver = e.2; at = h.0; message = h.1 })
  ]
  | inr e ↦ let same : flow v from to ≡ flow w from to = p.apart from to (grind (arith, u.sender, p.count))
      (grind (arith, u.receiver, p.count)) e in
      inl (record {
        at = i;
        was = record {
          sender = grind (arith, u.sender, p.count);
          receiver = grind (arith, u.receiver, p.count);
          place =
              ap (λ ms. slice_get ms i) (sym same) ∙ u.place;
        };
        made = λ link s f. ap (λ ms. is_made_by link s (take i ms)) same ∙ f;
      })
]

-- what is under way makes its links before the message behind it
pub made_last : (w v : World) (a b : ℕ) (m : Message) → IsPushed w v a b m → (link : LinkId) (s : Side) →
    is_made_by link s (flow w a b) ≡ true → is_made_before v a b (length (flow w a b)) link s ≡ true
made_last w v a b m p link s h = grind (arith, h, p.here, take-all (flow w a b) m)

pub made_within : (link : LinkId) (s : Side) (ms : List Message) (i : ℕ) (m : Message) → slice_get ms i ≡ Some m → makes link s m ≡ true →
    is_made_by link s ms ≡ true
made_within link s [] i m e h = cc
made_within link s (x ∷ ms) zero m e h = let is : makes link s x ≡ makes link s m = ap (makes link s) (grind (arith, e)) in
    grind (arith, is, h)
made_within link s (x ∷ ms) (suc i) m e h = grind (arith, made_within link s ms i m e h)

-- the first message is gone, and made nothing that is asked for
pub came_taken : (w v : World) (a b : ℕ) (m : Message) → IsTaken w v a b m → ((link : LinkId) (s : Side) → makes link s m ≡ false) →
    (from to i : ℕ) (n : Message) → IsUnderWay v from to i n → CameFrom w v from to i n
came_taken w v a b m p plain from to i n u = elim (way_tells from to a b) [
  | inl e ↦ record {
    at = suc i;
    was = record {
      sender = grind (arith, u.sender, p.count);
      receiver = grind (arith, u.receiver, p.count);
      place =
          grind (arith, e, p.here, u.place);
    };
    made = λ link s f. grind (arith, f, e, p.here, plain link s);
  }
  | inr e ↦ let same : flow v from to ≡ flow w from to = p.apart from to (grind (arith, u.sender, p.count))
      (grind (arith, u.receiver, p.count)) e in
      record {
        at = i;
        was = record {
          sender = grind (arith, u.sender, p.count);
          receiver = grind (arith, u.receiver, p.count);
          place =
              ap (λ ms. slice_get ms i) (sym same) ∙ u.place;
        };
        made = λ link s f. ap (λ ms. is_made_by link s (take i ms)) same ∙ f;
      }
]

-- one message of a way is another
pub record IsRewritten (w v : World) (a b : ℕ) (pre post : List Message) (m n : Message) : Type 0 where
  pub count : v.count ≡ w.count
  pub sender : a < w.count
  pub receiver : b < w.count
  pub was : flow w a b ≡ pre ++ m ∷ post
  pub here : flow v a b ≡ pre ++ n ∷ post
  pub apart : (from to : ℕ) → from < w.count → to < w.count → same_way from to a b ≡ false → flow v from to ≡ flow w from to

slice_get-rewritten : (pre post : List Message) (m n x : Message) (j : ℕ) → slice_get (pre ++ n ∷ post) j ≡ Some x →
    (slice_get (pre ++ m ∷ post) j ≡ Some x) ⊎ ((x ≡ n) × (slice_get (pre ++ m ∷ post) j ≡ Some m))
slice_get-rewritten [] post m n x zero e = inr (grind (arith, e), refl)
slice_get-rewritten [] post m n x (suc j) e = inl e
slice_get-rewritten (z ∷ pre) post m n x zero e = inl e
slice_get-rewritten (z ∷ pre) post m n x (suc j) e = slice_get-rewritten pre post m n x j e

made-rewritten : (link : LinkId) (s : Side) (pre post : List Message) (m n : Message) (j : ℕ) →
    (makes link s m ≡ true → makes link s n ≡ true) → is_made_by link s (take j (pre ++ m ∷ post)) ≡ true →
    is_made_by link s (take j (pre ++ n ∷ post)) ≡ true
made-rewritten link s [] post m n zero f e = e
made-rewritten link s [] post m n (suc j) f e = grind (arith, f, e)
made-rewritten link s (z ∷ pre) post m n zero f e = e
made-rewritten link s (z ∷ pre) post m n (suc j) f e = grind (arith, made-rewritten link s pre post m n j f, e)

total-rewritten : (h : Message → ℕ) (pre post : List Message) (m n : Message) →
    total_list h (pre ++ n ∷ post) + h m ≡ total_list h (pre ++ m ∷ post) + h n
total-rewritten h [] post m n = omega arith
total-rewritten h (z ∷ pre) post m n = omega (arith, total-rewritten h pre post m n)

-- a message under way was so before, or is the other one in its place
pub came_rewritten : (w v : World) (a b : ℕ) (pre post : List Message) (m n : Message) → IsRewritten w v a b pre post m n →
    (from to i : ℕ) (x : Message) → IsUnderWay v from to i x →
    (IsUnderWay w from to i x) ⊎ ((x ≡ n) × (from ≡ a) × (to ≡ b) × IsUnderWay w from to i m)
came_rewritten w v a b pre post m n p from to i x u = elim (way_tells from to a b) [
  | inl e ↦ elim (slice_get-rewritten pre post m n x i (grind (arith, e, p.here, u.place))) [
    | inl h ↦ inl (record {
      sender = grind (arith, u.sender, p.count);
      receiver = grind (arith, u.receiver, p.count);
      place =
          grind (arith, h, e, p.was);
    })
    | inr h ↦ inr (
      h.0,
      e.1,
      e.2,
      record {
        sender = grind (arith, u.sender, p.count);
        receiver = grind (arith, u.receiver, p.count);
        place =
            grind (arith, h.1, e, p.was);
      },
    )
  ]
  | inr e ↦ let same : flow v from to ≡ flow w from to = p.apart from to (grind (arith, u.sender, p.count))
      (grind (arith, u.receiver, p.count)) e in
      inl (record {
        sender = grind (arith, u.sender, p.count);
        receiver = grind (arith, u.receiver, p.count);
        place =
            ap (λ ms. slice_get ms i) (sym same) ∙ u.place;
      })
]

pub made_still : (w v : World) (a b : ℕ) (pre post : List Message) (m n : Message) → IsRewritten w v a b pre post m n →
    (from to i : ℕ) (x : Message) → IsUnderWay v from to i x → (link : LinkId) (s : Side) →
    (makes link s m ≡ true → makes link s n ≡ true) →
    is_made_before w from to i link s ≡ true → is_made_before v from to i link s ≡ true
made_still w v a b pre post m n p from to i x u link s f e = elim (way_tells from to a b) [
  | inl k ↦ let before : is_made_by link s (take i (pre ++ m ∷ post)) ≡ true = grind (arith, e, k, p.was) in let after =
      made-rewritten link s pre post m n i f before in grind (arith, after, k, p.here)
  | inr k ↦ let same : flow v from to ≡ flow w from to = p.apart from to (grind (arith, u.sender, p.count))
      (grind (arith, u.receiver, p.count)) k in ap (λ ms. is_made_by link s (take i ms)) same ∙ e
]

pub under_way-rewritten : (h : ℕ → ℕ → Message → ℕ) (w v : World) (a b : ℕ) (pre post : List Message) (m n : Message) →
    IsRewritten w v a b pre post m n → under_way h v + h a b m ≡ under_way h w + h a b n
unfolding under_way
under_way-rewritten h w v a b pre post m n p =
    let f : ℕ → ℕ = λ from. total_below w.count (λ to. total_list (h from to) (flow v from to)) in let e : ℕ →
    ℕ = λ from. total_below w.count (λ to. total_list (h from to) (flow w from to)) in
    let outer : total_below w.count f + e a ≡ total_below w.count e + f a =
    total_below-swap w.count a f e p.sender (λ from l ne. total_below-same w.count (λ to. total_list (h from to) (flow v from to))
    (λ to. total_list (h from to) (flow w from to)) (λ to k. ap (total_list (h from to))
    (p.apart from to l k (grind (arith, ne, nat_tests))))) in
    let inner = total_below-swap w.count b (λ to. total_list (h a to) (flow v a to)) (λ to. total_list (h a to) (flow w a to)) p.receiver
    (λ to l ne. ap (total_list (h a to)) (p.apart a to p.sender l (grind (arith, ne, nat_tests)))) in
    omega (
      arith,
      outer,
      inner,
      total-rewritten (h a b) pre post m n,
      ap (total_list (h a b)) p.was,
      ap (total_list (h a b)) p.here,
      ap (λ c. total_below c (λ from. total_below c (λ to. total_list (h from to) (flow v from to)))) p.count,
    )

total_list-congr : (h e : Message → ℕ) (xs : List Message) → ((i : ℕ) (x : Message) → slice_get xs i ≡ Some x → h x ≡ e x) →
    total_list h xs ≡ total_list e xs
total_list-congr h e [] f = refl
total_list-congr h e (x ∷ xs) f = omega (arith, f 0 x refl, total_list-congr h e xs (λ i z p. f (suc i) z p))

-- what weighs each message alike weighs all alike
pub under_way-congr : (h e : ℕ → ℕ → Message → ℕ) (w : World) → ((from to i : ℕ) (m : Message) → IsUnderWay w from to i m →
    h from to m ≡ e from to m) → under_way h w ≡ under_way e w
unfolding under_way
under_way-congr h e w f = total_below-same w.count (λ from. total_below w.count (λ to. total_list (h from to) (flow w from to)))
    (λ from. total_below w.count (λ to. total_list (e from to) (flow w from to)))
    (λ from l. total_below-same w.count (λ to. total_list (h from to) (flow w from to)) (λ to. total_list (e from to) (flow w from to))
    (λ to k. total_list-congr (h from to) (e from to) (flow w from to)
    (λ i x p. f from to i x (record { sender = l; receiver = k; place = p }))))

total_below-two : (c n k : ℕ) (f : ℕ → ℕ) → n < c → k < c → n ≢ k → f n + f k ≤ total_below c f
total_below-two zero n k f l m ne = absurd (omega arith)
total_below-two (suc c) n k f l m ne = go (nat_eq n c) (nat_eq k c) refl refl (λ p q. total_below-two c n k f p q ne)
  where
    go : (x y : Bool) → nat_eq n c ≡ x → nat_eq k c ≡ y → (n < c → k < c → f n + f k ≤ total_below c f) →
        (f n + f k) ≤ f c + total_below c f
    go true true p q more = absurd (ne (grind (arith, p, q, nat_tests)))
    go true false p q more = let e : f n ≡ f c = ap f (grind (arith, p, nat_tests)) in let h =
        total_below-has c k f (grind (arith, q, m, nat_tests)) in omega (arith, e, h)
    go false true p q more = let e : f k ≡ f c = ap f (grind (arith, q, nat_tests)) in let h =
        total_below-has c n f (grind (arith, p, l, nat_tests)) in omega (arith, e, h)
    go false false p q more = let h = more (grind (arith, p, l, nat_tests)) (grind (arith, q, m, nat_tests)) in omega (arith, h)

-- messages on different ways weigh together
pub weighed-two : (h : ℕ → ℕ → Message → ℕ) (w : World) (a b i : ℕ) (m : Message) (c d j : ℕ) (n : Message) → IsUnderWay w a b i m →
    IsUnderWay w c d j n → same_way c d a b ≡ false → h a b m + h c d n ≤ under_way h w
unfolding under_way
weighed-two h w a b i m c d j n u v ne = go (nat_eq a c) refl
  where
    at : (x y k : ℕ) (z : Message) → IsUnderWay w x y k z → h x y z ≤ total_below w.count (λ to. total_list (h x to) (flow w x to))
    at x y k z e = let t = total_below-has w.count y (λ to. total_list (h x to) (flow w x to)) e.receiver in let s =
        total_list-at (h x y) (flow w x y) k z e.place in omega (arith, t, s)

    go : (e : Bool) → nat_eq a c ≡ e → (h a b m + h c d n) ≤ total_below w.count
        (λ from. total_below w.count (λ to. total_list (h from to) (flow w from to)))
    go false e = let t = total_below-two w.count a c (λ from. total_below w.count (λ to. total_list (h from to) (flow w from to))) u.sender
        v.sender (λ p. grind (arith, e, p, nat_tests)) in omega (arith, t, at a b i m u, at c d j n v)
    go true e =
        let same : c ≡ a = grind (arith, e, nat_tests) in
        let v2 : IsUnderWay w a d j n = subst (λ z. IsUnderWay w z d j n) same v in
        let t = total_below-two w.count b d (λ to. total_list (h a to) (flow w a to)) u.receiver v.receiver
        (λ p. grind (arith, e, ne, p, nat_tests)) in
        let o = total_below-has w.count a (λ from. total_below w.count (λ to. total_list (h from to) (flow w from to))) u.sender in
        let s = total_list-at (h a b) (flow w a b) i m u.place in let r = total_list-at (h a d) (flow w a d) j n v2.place in
        let k : h c d n ≡ h a d n = ap (λ z. h z d n) same in
        omega (arith, t, o, s, r, k)
