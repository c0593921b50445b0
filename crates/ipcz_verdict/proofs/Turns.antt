-- Turns one after the other, and logs with one line more.
use Rattle.std.specs.Prelude.{ℕ, List, [], ◌∷◌, ◌++◌, map, refl}
use Rattle.std.proofs.Common.{subst}
use Rattle.ipcz_base.specs.declared.profile.Profile.{Profile}
use Rattle.ipcz_node.specs.declared.happened.Happened.{Happened}
use Rattle.ipcz_world.specs.declared.step.Step.TheVariants.{Turn}
use Rattle.ipcz_world.specs.declared.step.Reply.TheVariants.{Turned}
use Rattle.ipcz_promise.specs.Promise.{Account, May, MayRun}
use Rattle.ipcz_verdict.specs.declared.line.Line.{Line}
use Rattle.ipcz_verdict.specs.Ledger.{Ledger, MayLine, MayLog, MayRest, MayTurns}

pub no_turn : (a : Account) → MayTurns a a
no_turn a = ([], [], refl)

runs_on : (ns : List ℕ) (seen : List Happened) (ms : List ℕ) (more : List Happened) (a b c : Account) → MayRun a (map Turn ns) (map Turned seen) b →
    MayRun b (map Turn ms) (map Turned more) c → MayRun a (map Turn (ns ++ ms)) (map Turned (seen ++ more)) c
runs_on [] [] ms more a b c first then = subst (λ x. MayRun x (map Turn ms) (map Turned more) c) first then
runs_on [] (s ∷ seen) ms more a b c first then = absurd first
runs_on (n ∷ ns) [] ms more a b c first then = absurd first
runs_on (n ∷ ns) (s ∷ seen) ms more a b c first then = (first.0, first.1, runs_on ns seen ms more first.0 b c first.2 then)

pub turns_on : (a b c : Account) → MayTurns a b → MayTurns b c → MayTurns a c
turns_on a b c first then = (first.0 ++ then.0, first.1 ++ then.1, runs_on first.0 first.1 then.0 then.1 a b c first.2 then.2)

pub one_turn : (a b : Account) (n : ℕ) (event : Happened) → May a (Turn n) (Turned event) b → MayTurns a b
one_turn a b n event may = (n ∷ [], event ∷ [], (b, may, refl))

pub no_rest : (l : Ledger) → MayRest l l
no_rest l = (no_turn l.account, refl, refl)

-- one line more
pub log_more : (profile : Profile) (k l m n : Ledger) (log : List Line) (line : Line) → MayLog profile k log l → MayLine profile l line m → MayRest m n →
    MayLog profile k (log ++ line ∷ []) n
log_more profile k l m n [] line may next rest = (l, m, may, next, rest)
log_more profile k l m n (x ∷ log) line may next rest = (may.0, may.1, may.2, may.3, log_more profile may.1 l m n log line may.4 next rest)

-- and back
pub record Last (profile : Profile) (k n : Ledger) (log : List Line) (line : Line) : Type 0 where
  pub before : Ledger
  pub behind : Ledger
  pub front : MayLog profile k log before
  pub next : MayLine profile before line behind
  pub rest : MayRest behind n

pub log_last : (profile : Profile) (k n : Ledger) (log : List Line) (line : Line) → MayLog profile k (log ++ line ∷ []) n → Last profile k n log line
log_last profile k n [] line may = record { before = may.0; behind = may.1; front = may.2; next = may.3; rest = may.4 }
log_last profile k n (x ∷ log) line may =
    let t = log_last profile may.1 n log line may.4 in
    record { before = t.before; behind = t.behind; front = (may.0, may.1, may.2, may.3, t.front); next = t.next; rest = t.rest }
