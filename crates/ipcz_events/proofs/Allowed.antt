-- The log of a run whose order of acts is drawn is allowed.
use Rattle.std.proofs.Common.{◌≡◌, ◌∙◌, ℕ, zero, suc, Bool, true, false, List, [], ◌∷◌, ◌++◌, Option, Some, None, MatchBool, refl, sym, ap, subst, inl, inr}
use Rattle.ipcz_node.specs.declared.act.Act.{Act}
use Rattle.ipcz_node.specs.declared.happened.Happened.{Happened}
use Rattle.ipcz_script.specs.declared.command.Command.{Command}
use Rattle.ipcz_script.specs.declared.command.Command.TheVariants as commands
use Rattle.ipcz_script.specs.Sessions.{Session}
use Rattle.ipcz_events.specs.declared.ending.Ending.TheVariants as endings
use Rattle.ipcz_events.specs.declared.entry.Entry.{Entry}
use Rattle.ipcz_events.specs.declared.order.Order.{Order}
use Rattle.ipcz_events.specs.declared.order.Order.TheVariants as orders
use Rattle.ipcz_events.specs.declared.run.Run.{Run}
use Rattle.ipcz_events.specs.declared.who.Who.{Who}
use Rattle.ipcz_events.specs.declared.who.Who.TheVariants as whose
use Rattle.ipcz_events.specs.Rules.{ActHasBits, MayEntry, MayLog, is_call}
use Rattle.ipcz_events.specs.Runs.{Acts, DrawsAct, IsCalled, Obeys, ObeysAll, Picks, RunsAreAllowed, Steps, Takes, acted, first_run, was_idle}

may-then : (xs ys : List Entry) (s t u : Session) → MayLog s xs t → MayLog t ys u → MayLog s (xs ++ ys) u
may-then [] ys s t u one two = subst (λ v. MayLog v ys u) one two
may-then (x ∷ xs) ys s t u one two = (one.0, one.1, may-then xs ys one.0 t u one.2 two)

-- ---- acts

picks-session : (who : Who) (p q : Run) (n : Option ℕ) → Picks who p n q → q.session ≡ p.session
picks-session (whose.Node node) p q None h = absurd h
picks-session (whose.Node node) p q (Some n) h = ap (λ (r : Run). r.session) h.1
picks-session (whose.AnyOf nodes) p q None h = ap (λ (r : Run). r.session) h.1
picks-session (whose.AnyOf nodes) p q (Some n) h = ap (λ (r : Run). r.session) h.1

draws-session : (p q : Run) (n : ℕ) (act : Option Act) → DrawsAct p n act q → q.session ≡ p.session
draws-session p q n None h = ap (λ (r : Run). r.session) h.1
draws-session p q n (Some act) h = ap (λ (r : Run). r.session) h.2

takes-none : (p q : Run) (n : ℕ) (act : Act) → Takes p n act None q → q.session ≡ p.session
takes-none p q n act h = ap (λ (r : Run). r.session) h.1

takes-entry : (p q : Run) (n : ℕ) (act : Act) (event : Happened) → ActHasBits act → Takes p n act (Some event) q → MayEntry p.session (acted (n, event)) q.session
takes-entry p q n act event bits h = (act, event, bits, h.0, refl, ap (λ (r : Run). r.session) h.1)

step-entry : (who : Who) (p q : Run) (seen : ℕ × Happened) → Steps who p (Some seen) q → MayEntry p.session (acted seen) q.session
step-entry who p q seen h =
    let same : h.2.session ≡ p.session = draws-session h.1 h.2 seen.0 (Some h.0) h.4 ∙ picks-session who p h.1 (Some seen.0) h.3 in
    subst (λ s. MayEntry s (acted seen) q.session) same (takes-entry h.2 q seen.0 h.0 seen.1 h.4.0 h.5)

step-none : (who : Who) (p q : Run) → Steps who p None q → q.session ≡ p.session
step-none who p q h = elim h [
  | inl picks ↦ picks-session who p q None picks
  | inr more ↦ elim more.3 [
    | inl none ↦ draws-session more.1 q more.0 None none ∙ picks-session who p more.1 (Some more.0) more.2
    | inr act ↦ takes-none act.1 q more.0 act.0 act.3 ∙ draws-session more.1 act.1 more.0 (Some act.0) act.2 ∙ picks-session who p more.1 (Some more.0) more.2
  ]
]

acts-log : (left : ℕ) (who : Who) (p q : Run) (log : List Entry) → Acts left who p log q → MayLog p.session log q.session
acts-log zero who p q [] h = ap (λ (r : Run). r.session) h
acts-log zero who p q (e ∷ log) h = absurd h
acts-log (suc left) who p q [] h = step-none who p q h
acts-log (suc left) who p q (e ∷ log) h =
    (h.1.session, subst (λ x. MayEntry p.session x h.1.session) (sym h.3) (step-entry who p h.1 h.0 h.2), go (was_idle h.0.1) h.4 (λ more. acts-log left who h.1 q log more))
  where
    go : (b : Bool) → MatchBool b ((log ≡ []) × (q ≡ h.1)) (Acts left who h.1 log q) → (Acts left who h.1 log q → MayLog h.1.session log q.session) → MayLog h.1.session log q.session
    go true end rest = subst (λ l. MayLog h.1.session l q.session) (sym end.0) (ap (λ (r : Run). r.session) end.1)
    go false more rest = rest more

-- ---- commands

called-log : (p q : Run) (c : Command) (log : List Entry) → is_call c ≡ true → IsCalled p c log q → MayLog p.session log q.session
called-log p q c log call h = subst (λ l. MayLog p.session l q.session) (sym h.5) (q.session, (h.0, call, h.2, h.3), refl)

obeys-log : (nodes : ℕ) (p q : Run) (o : Order) (log : List Entry) → Obeys nodes p o log q → MayLog p.session log q.session
obeys-log nodes p q (orders.Command (commands.Turn node count)) log h = acts-log count (whose.Node node) p q log h
obeys-log nodes p q (orders.Command (commands.Settle limit)) log h = acts-log limit (whose.AnyOf nodes) p q log h
obeys-log nodes p q (orders.Command (commands.Open node a b)) log h = called-log p q (commands.Open node a b) log refl h
obeys-log nodes p q (orders.Command (commands.Put at text ends)) log h = called-log p q (commands.Put at text ends) log refl h
obeys-log nodes p q (orders.Command (commands.Get at)) log h = called-log p q (commands.Get at) log refl h
obeys-log nodes p q (orders.Command (commands.Close at)) log h = called-log p q (commands.Close at) log refl h
obeys-log nodes p q (orders.Command commands.Show) log h = called-log p q commands.Show log refl h
obeys-log nodes p q (orders.Act node words) log h =
    subst (λ l. MayLog p.session l q.session) (sym h.5) (q.session, takes-entry p q node h.0 h.1 h.2 h.4, refl)

all-log : (nodes : ℕ) (p q : Run) (os : List Order) (log : List Entry) → ObeysAll nodes p os log q → MayLog p.session log q.session
all-log nodes p q [] log h = subst (λ l. MayLog p.session l q.session) (sym h.0) (ap (λ (r : Run). r.session) h.1)
all-log nodes p q (o ∷ os) log h =
    subst (λ l. MayLog p.session l q.session) (sym h.3)
    (may-then h.0 h.1 p.session h.2.session q.session (obeys-log nodes p h.2 o h.0 h.4) (all-log nodes h.2 q os h.1 h.5))

pub runs_are_allowed : RunsAreAllowed
runs_are_allowed schedule seed endings.Whole log h = (h.0.session, all-log schedule.nodes (first_run schedule seed) h.0 schedule.orders log h.1)
runs_are_allowed schedule seed (endings.Stopped number acts) log h = (h.3.session, all-log schedule.nodes (first_run schedule seed) h.3 h.0 log h.6)
