-- What is said of a log, line by line, is its verdict.
use Rattle.std.specs.Prelude.{◌≡◌, ◌⊎◌, ◌<◌, ◌+◌, ℕ, suc, List, [], ◌∷◌, length, take, Option, Some, None, refl}
use Rattle.std.proofs.Common.{arith, ◌∙◌, sym, subst, inl, inr}
use Rattle.ipcz_script.specs.Sessions.{Session, new_session}
use Rattle.ipcz_events.specs.declared.entry.Entry.{Entry}
use Rattle.ipcz_events.specs.Rules.{IsVerdictOf, MayEntry, MayLog}
use Rattle.ipcz_events.proofs.Deciding.{one_way}

-- what is said of the lines that are left in a session, numbered from a number on: each is allowed there; or it is the first that isn't
abbrev pub IsSaidFrom : Session → List Entry → ℕ → Option ℕ → Type 0
IsSaidFrom s [] number first = first ≡ None
IsSaidFrom s (entry ∷ log) number first =
    ((u : Session) × MayEntry s entry u × IsSaidFrom u log (suc number) first) ⊎ (((u : Session) → MayEntry s entry u → ⊥) × (first ≡ Some number))

same_number : (a b : ℕ) → Some a ≡ Some b → a ≡ b
same_number a b e = cc

said_none : (log : List Entry) (s : Session) (n : ℕ) → IsSaidFrom s log n None → (t : Session) × MayLog s log t
said_none [] s n said = (s, refl)
said_none (e ∷ log) s n said = elim said [
  | inl more ↦ let rest = said_none log more.0 (suc n) more.2 in (rest.0, (more.0, more.1, rest.1))
  | inr stop ↦ absurd (let f : None ≡ Some n = stop.1 in cc)
]

-- so many lines are allowed, and not one more
record Stops (s : Session) (log : List Entry) (n at : ℕ) : Type 0 where
  pub count : ℕ
  pub number : at ≡ n + count
  pub within : count < length log
  pub before : (t : Session) × MayLog s (take count log) t
  pub never : (t : Session) → MayLog s (take (suc count) log) t → ⊥

said_some : (log : List Entry) (s : Session) (n at : ℕ) → IsSaidFrom s log n (Some at) → Stops s log n at
said_some [] s n at said = absurd (let f : Some at ≡ None = said in cc)
said_some (e ∷ log) s n at said = elim said [
  | inl more ↦ (
      let rest = said_some log more.0 (suc n) at more.2 in
      record {
        count = suc rest.count;
        number = omega (arith, rest.number);
        within = omega (arith, rest.within);
        before = (rest.before.0, (more.0, more.1, rest.before.1));
        never = λ t may. rest.never t (subst (λ u. MayLog u (take (suc rest.count) log) t) (one_way s may.0 more.0 e may.1 more.1) may.2);
      })
  | inr stop ↦ record {
    count = 0;
    number = same_number at n stop.1 ∙ omega arith;
    within = omega arith;
    before = (s, refl);
    never = λ t may. stop.0 may.0 may.1;
  }
]

pub verdict_of : (nodes words : ℕ) (log : List Entry) (first : Option ℕ) → IsSaidFrom (new_session nodes words) log 0 first →
    IsVerdictOf nodes words log first
verdict_of nodes words log None said = said_none log (new_session nodes words) 0 said
verdict_of nodes words log (Some at) said =
    let stops = said_some log (new_session nodes words) 0 at said in
    let same : stops.count ≡ at = omega (arith, stops.number) in (
      omega (arith, stops.within, same),
      subst (λ k. (t : Session) × MayLog (new_session nodes words) (take k log) t) same stops.before,
      λ allowed. subst (λ k. (t : Session) → MayLog (new_session nodes words) (take (suc k) log) t → ⊥) same stops.never allowed.0 allowed.1,
    )

-- what is said of the lines that are left, in a session, is said of the log
abbrev pub IsOn : Session → List Entry → Session → List Entry → ℕ → Type 0
IsOn start log s left number = (first : Option ℕ) → IsSaidFrom s left number first → IsSaidFrom start log 0 first

module _ (start s : Session) (log left rest : List Entry) (entry : Entry) (n : ℕ) (on : IsOn start log s left n) where
  -- the next line is allowed
  pub on_next : (u : Session) (m : ℕ) → left ≡ entry ∷ rest → m ≡ n + 1 → MayEntry s entry u → IsOn start log u rest m
  on_next u m is more may first said =
      let next : m ≡ suc n = omega (arith, more) in
      on first (subst (λ l. IsSaidFrom s l n first) (sym is) (inl (u, may, subst (λ k. IsSaidFrom u rest k first) next said)))

  -- it isn't
  pub on_refused : left ≡ entry ∷ rest → ((u : Session) → MayEntry s entry u → ⊥) → IsSaidFrom start log 0 (Some n)
  on_refused is never = on (Some n) (subst (λ l. IsSaidFrom s l n (Some n)) (sym is) (inr (never, refl)))

-- no line is left
pub on_end : (start s : Session) (log left : List Entry) (n : ℕ) → IsOn start log s left n → left ≡ [] → IsSaidFrom start log 0 None
on_end start s log left n on none = on None (subst (λ l. IsSaidFrom s l n None) (sym none) refl)
