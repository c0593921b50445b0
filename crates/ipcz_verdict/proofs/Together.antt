-- Orders of the lines of several logs.
use Rattle.std.specs.Prelude.{◌≡◌, ℕ, Bool, true, false, cond, nat_eq, List, [], ◌∷◌, ◌++◌, refl}
use Rattle.std.proofs.Common.{arith, ap}
use Rattle.std.proofs.lemmas.Bool.Decides.{nat_tests}
use Rattle.ipcz_base.specs.declared.profile.Profile.{Profile}
use Rattle.ipcz_verdict.specs.declared.entry.Entry.{Entry}
use Rattle.ipcz_verdict.specs.declared.line.Line.{Line}
use Rattle.ipcz_verdict.specs.Ledger.{IsAllowed, Ledger, MayLog, first_ledger}
use Rattle.ipcz_verdict.specs.Together.{calls_of, of_log}
use Rattle.ipcz_verdict.proofs.Turns.{no_rest}

-- ---- lines of one log

pub of_log-append : (log : ℕ) (xs ys : List Entry) → of_log log (xs ++ ys) ≡ of_log log xs ++ of_log log ys
of_log-append log [] ys = refl
of_log-append log (e ∷ es) ys = go (nat_eq e.log log) (of_log-append log es ys)
  where
    go : (c : Bool) → of_log log (es ++ ys) ≡ of_log log es ++ of_log log ys → cond c (e ∷ of_log log (es ++ ys)) (of_log log (es ++ ys)) ≡ cond c (e ∷ of_log log es) (of_log log es) ++ of_log log ys
    go true rec = ap (λ xs. e ∷ xs) rec
    go false rec = rec

pub eq_itself : (n : ℕ) → nat_eq n n ≡ true
eq_itself n = grind (arith, nat_tests)

pub of_log-own : (e : Entry) (es : List Entry) → of_log e.log (e ∷ es) ≡ e ∷ of_log e.log es
of_log-own e es = ap (λ c. cond c (e ∷ of_log e.log es) (of_log e.log es)) (eq_itself e.log)

pub of_log-other : (log : ℕ) (e : Entry) (es : List Entry) → nat_eq e.log log ≡ false → of_log log (e ∷ es) ≡ of_log log es
of_log-other log e es h = ap (λ c. cond c (e ∷ of_log log es) (of_log log es)) h

pub calls-append : (xs ys : List Entry) → calls_of (xs ++ ys) ≡ calls_of xs ++ calls_of ys
calls-append [] ys = refl
calls-append (e ∷ es) ys = ap (λ xs. e.line ∷ xs) (calls-append es ys)

-- ---- lists

pub append_nothing : {X : Type 0} (xs : List X) → xs ++ [] ≡ xs
append_nothing [] = refl
append_nothing (x ∷ xs) = ap (λ ys. x ∷ ys) (append_nothing xs)

pub same_rest : {X : Type 0} (xs ys zs : List X) → xs ++ ys ≡ xs ++ zs → ys ≡ zs
same_rest [] ys zs h = h
same_rest (x ∷ xs) ys zs h = same_rest xs ys zs (tails h)
  where
    tails : x ∷ (xs ++ ys) ≡ x ∷ (xs ++ zs) → xs ++ ys ≡ xs ++ zs
    tails k = cc

-- ---- a log's first lines are allowed if it is

pub front_may : (profile : Profile) (l m : Ledger) (xs ys : List Line) → MayLog profile l (xs ++ ys) m → (k : Ledger) × MayLog profile l xs k
front_may profile l m [] ys may = (l, no_rest l)
front_may profile l m (x ∷ xs) ys may = let t = front_may profile may.1 m xs ys may.4 in (t.0, (may.0, may.1, may.2, may.3, t.1))

pub front_allowed : (nodes : ℕ) (profile : Profile) (xs ys : List Line) → IsAllowed nodes profile (xs ++ ys) → IsAllowed nodes profile xs
front_allowed nodes profile xs ys it = front_may profile (first_ledger nodes) it.0 xs ys it.1
