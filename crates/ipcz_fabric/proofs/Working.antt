-- A worker's turns so far, and what is left of them.
use Rattle.std.specs.Prelude.{MatchBool}
use Rattle.std.proofs.Common.{◌≡◌, ◌≤◌, ◌<◌, ◌-◌, ◌+◌, ℕ, zero, suc, Bool, true, false, refl, sym, subst, ap, ◌∙◌, arith}
use Rattle.ipcz_fabric.specs.Workers.{Answer, Works, counted}

module _ {S : Type 0} (asks : S → ℕ → Bool → S → Type 0) (takes : S → Answer → S → Type 0) (ends : Answer → Bool) where
  -- whatever a worker does from here on, with so many turns taken, it does from its start on
  abbrev pub GoesOn : ℕ → S → ℕ → S → Type 0
  GoesOn limit first turns s = (answer : ℕ) (t : S) → Works asks takes ends (limit - turns) turns s answer t → Works asks takes ends limit 0 first answer t

  module _ (limit turns : ℕ) (first s : S) where
    -- a turn more is left
    one_more : turns < limit → limit - turns ≡ suc (limit - (turns + 1))
    one_more less = omega (arith, less)

    at_one_more : GoesOn limit first turns s → turns < limit → (answer : ℕ) (t : S) → Works asks takes ends (suc (limit - (turns + 1))) turns s answer t →
        Works asks takes ends limit 0 first answer t
    at_one_more on less answer t works = on answer t (subst (λ n. Works asks takes ends n turns s answer t) (sym (one_more less)) works)

    -- it isn't to take a turn more
    pub goes_on-stop : GoesOn limit first turns s → turns < limit → (may : Bool) (u : S) → asks s turns may u → may ≡ false → Works asks takes ends limit 0 first turns u
    goes_on-stop on less may u asked stop = at_one_more on less turns u (may, u, asked, (rw stop (refl, refl)))

    -- it takes its last turn
    pub goes_on-last : GoesOn limit first turns s → turns < limit → (may : Bool) (u v : S) (a : Answer) (last : Bool) → asks s turns may u → may ≡ true → takes u a v →
        last ≡ ends a → last ≡ true → Works asks takes ends limit 0 first (counted turns a) v
    goes_on-last on less may u v a last asked go turn is ended = let end : ends a ≡ true = sym is ∙ ended in
        at_one_more on less (counted turns a) v (may, u, asked, (rw go (a, v, turn, rw end (refl, refl))))

    -- it takes a turn and goes on
    pub goes_on-turn : GoesOn limit first turns s → turns < limit → (may : Bool) (u v : S) (a : Answer) (last : Bool) → asks s turns may u → may ≡ true → takes u a v →
        last ≡ ends a → last ≡ false → GoesOn limit first (turns + 1) v
    goes_on-turn on less may u v a last asked go turn is more = λ answer t works. let end : ends a ≡ false = sym is ∙ more in
        at_one_more on less answer t (may, u, asked, (rw go (a, v, turn, rw end works)))

  -- no turn was taken yet
  pub goes_on-start : (limit : ℕ) (s : S) → GoesOn limit s 0 s
  goes_on-start limit s answer t works = let none : limit - 0 ≡ limit = omega arith in subst (λ n. Works asks takes ends n 0 s answer t) none works

  -- no turn is left
  pub goes_on-end : (limit turns : ℕ) (first s : S) → GoesOn limit first turns s → limit ≤ turns → turns ≤ limit → Works asks takes ends limit 0 first limit s
  goes_on-end limit turns first s on up most = let none : limit - turns ≡ 0 = omega (arith, up) in
      on limit s (subst (λ n. Works asks takes ends n turns s limit s) (sym none) (omega (arith, up, most), refl))

-- what a worker does, as a view of its state shows it, if something stays of the state
module _ {S R : Type 0} (asks : S → ℕ → Bool → S → Type 0) (takes : S → Answer → S → Type 0) (ends : Answer → Bool) (Is : S → Type 0) (view : S → R)
    (Asked : R → ℕ → Bool → R → Type 0) (Taken : R → Answer → R → Type 0)
    (ask : (s u : S) (turns : ℕ) (may : Bool) → Is s → asks s turns may u → Asked (view s) turns may (view u) × Is u)
    (take : (u v : S) (a : Answer) → Is u → takes u a v → Taken (view u) a (view v) × Is v) where
  abbrev Shown : ℕ → ℕ → R → ℕ → R → Type 0
  Shown = Works Asked Taken ends

  module _ (left turns : ℕ) (others : (v t : S) (answer : ℕ) → Is v → Works asks takes ends left (turns + 1) v answer t → Shown left (turns + 1) (view v) answer (view t)) where
    ended : (v t : S) (a : Answer) (answer : ℕ) → Is v → (last : Bool) → MatchBool last ((answer ≡ counted turns a) × (t ≡ v)) (Works asks takes ends left (turns + 1) v answer t) →
        MatchBool last ((answer ≡ counted turns a) × (view t ≡ view v)) (Shown left (turns + 1) (view v) answer (view t))
    ended v t a answer is true h = (h.0, ap view h.1)
    ended v t a answer is false h = others v t answer is h

    went : (u t : S) (answer : ℕ) → Is u → (may : Bool) →
        MatchBool may ((a : Answer) × (v : S) × takes u a v × MatchBool (ends a) ((answer ≡ counted turns a) × (t ≡ v)) (Works asks takes ends left (turns + 1) v answer t))
        ((answer ≡ turns) × (t ≡ u)) →
        MatchBool may ((a : Answer) × (v : R) × Taken (view u) a v × MatchBool (ends a) ((answer ≡ counted turns a) × (view t ≡ v)) (Shown left (turns + 1) v answer (view t)))
        ((answer ≡ turns) × (view t ≡ view u))
    went u t answer is true h = let taken = take u h.1 h.0 is h.2 in (h.0, view h.1, taken.0, ended h.1 t h.0 answer taken.1 (ends h.0) h.3)
    went u t answer is false h = (h.0, ap view h.1)

  shown_by : (left turns : ℕ) (s t : S) (answer : ℕ) → Is s → Works asks takes ends left turns s answer t → Shown left turns (view s) answer (view t)
  shown_by zero turns s t answer is works = (works.0, ap view works.1)
  shown_by (suc left) turns s t answer is works = let asked = ask s works.1 turns works.0 is works.2 in
      (works.0, view works.1, asked.0, went left turns (shown_by left (turns + 1)) works.1 t answer asked.1 works.0 works.3)

pub shown : {S R : Type 0} {asks : S → ℕ → Bool → S → Type 0} {takes : S → Answer → S → Type 0} (ends : Answer → Bool) (left turns : ℕ) (s : S) (answer : ℕ) (t : S) →
    Works asks takes ends left turns s answer t → (Is : S → Type 0) (view : S → R) (Asked : R → ℕ → Bool → R → Type 0) (Taken : R → Answer → R → Type 0) →
    ((s u : S) (turns : ℕ) (may : Bool) → Is s → asks s turns may u → Asked (view s) turns may (view u) × Is u) →
    ((u v : S) (a : Answer) → Is u → takes u a v → Taken (view u) a (view v) × Is v) → Is s → Works Asked Taken ends left turns (view s) answer (view t)
shown {S} {R} {asks} {takes} ends left turns s answer t works Is view Asked Taken ask take is =
    shown_by asks takes ends Is view Asked Taken ask take left turns s t answer is works
