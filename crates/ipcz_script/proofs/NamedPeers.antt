-- Why two names of which the lines of a transcript tell that they are peers are bound to the two ends of one pair.
use Rattle.std.proofs.Common.{◌≡◌, ◌∙◌, ◌⊎◌, ◌++◌, ◌<◌, ap, sym, refl, subst, inl, inr, arith, ℕ, Bool, true, false, cond, List, [], ◌∷◌}
use Rattle.std.proofs.Common.{map, Some}
use Rattle.std.specs.Prelude.{bytes_eq, nat_eq, nat_lt}
use Rattle.std.specs.List.{AllByRecursion}
use Rattle.std.specs.FinMap.{get, get-insert}
use Rattle.std.specs.Cmp.Lexicographic.{nat_list_cmp_total}
use Rattle.std.proofs.lemmas.Bool.Decides.{nat_tests}
use Rattle.std.proofs.lemmas.Map.Text.{is_eq-slice_cmp}
use Rattle.ipcz_base.specs.declared.side.Side.TheVariants.{A, B}
use Rattle.ipcz_base.specs.declared.end.End.{End}
use Rattle.ipcz_base.specs.Ends.{end_at, opposite_end}
use Rattle.ipcz_world.specs.declared.step.Step.TheVariants as steps
use Rattle.ipcz_world.specs.declared.step.Reply.{Reply}
use Rattle.ipcz_world.specs.Steps.{first_step}
use Rattle.ipcz_script.specs.ScriptLimits.{HasScriptLimits}
use Rattle.ipcz_script.specs.declared.command.Command.{Command}
use Rattle.ipcz_script.specs.declared.command.Command.TheVariants as commands
use Rattle.ipcz_script.specs.declared.said.Said.{Said}
use Rattle.ipcz_script.specs.declared.said.Said.TheVariants as said
use Rattle.ipcz_script.specs.Bindings.{Titles}
use Rattle.ipcz_script.specs.Labels.{pair_name}
use Rattle.ipcz_script.specs.Lines.{turn_text}
use Rattle.ipcz_script.specs.Sessions.{Session, Runs, answer_to, bind, name_pair, new_session, with_world}
use Rattle.ipcz_script.specs.Transcript.{Answered, AreAnswered}
use Rattle.ipcz_script.specs.ScriptNames.{is_taken}
use Rattle.ipcz_script.specs.Sayings.{Done, Saying, Open, sayings_in, sayings_of}
use Rattle.ipcz_script.specs.Sayings as sayings
use Rattle.ipcz_script.specs.ParcelsByName.{AreOfFirstPair, ArePeers, HasSaying}
use Rattle.ipcz_script.proofs.OpenNames.{IsOpened, open-reply}
use Rattle.ipcz_script.proofs.NewNames.{HaveNew, OpensNew}
use Rattle.ipcz_script.proofs.BoundNames.{ArePaired, IsBound, Stays, bound-new, first-paired}
use Rattle.ipcz_script.proofs.NamedRuns.{IsNamed, RunsNamed, script-named}

-- two names that are bound to the two ends of one pair
pub record AreEndsOf (t : Session) (x y : List ℕ) : Type 0 where
  pub end : End
  pub first : IsBound t x end
  pub second : IsBound t y (opposite_end end)

paired-ends : (t : Session) (x y : List ℕ) → ArePaired t x y → AreEndsOf t x y
paired-ends t x y are = record { end = end_at are.pair A; first = are.at_a; second = are.at_b }

swapped-ends : (t : Session) (x y : List ℕ) → ArePaired t y x → AreEndsOf t x y
swapped-ends t x y are = record { end = end_at are.pair B; first = are.at_b; second = are.at_a }

paired-stays : (s t : Session) (x y : List ℕ) → Stays s t → ArePaired s x y → ArePaired t x y
paired-stays s t x y stays are = record {
  pair = are.pair;
  at_a = stays x (end_at are.pair A) are.at_a;
  at_b = stays y (end_at are.pair B) are.at_b;
}

-- ---- an open

-- two names that differ, bound to the ends of a pair
both-bound : (s : Session) (x y : List ℕ) (i : ℕ) → bytes_eq x y ≡ false → ArePaired (bind (bind s x (end_at i A)) y (end_at i B)) x y
both-bound s x y i apart = record {
  pair = i;
  at_a = get-insert nat_list_cmp_total (bind s x (end_at i A)).names y (end_at i B) x
      ∙ ap (λ c. cond c (Some (end_at i B)) (get (bind s x (end_at i A)).names x)) (is_eq-slice_cmp x y ∙ apart)
      ∙ bound-new s (x, end_at i A);
  at_b = bound-new (bind s x (end_at i A)) (y, end_at i B);
}

opened-bound : (s : Session) (x y : List ℕ) (reply : Reply) → IsOpened reply → said.Opened ≡ answer_to reply → bytes_eq x y ≡ false →
    ArePaired (name_pair s x y reply) x y
unfolding name_pair answer_to
opened-bound s x y reply (inl h) same apart = subst (λ r. ArePaired (name_pair s x y r) x y) (sym h.1) (both-bound s x y h.0 apart)
opened-bound s x y reply (inr h) same apart = let refused : said.Opened ≡ said.Refused h.0 = same ∙ ap answer_to h.1 in cc

open-paired : (s t : Session) (node : ℕ) (x y : List ℕ) → Runs s (commands.Open node x y) said.Opened t → bytes_eq x y ≡ false →
    ArePaired t x y
open-paired s t node x y run apart =
    subst (λ u. ArePaired u x y) (sym run.1)
    (opened-bound (with_world s (first_step s.world (steps.Open node)).world) x y (first_step s.world (steps.Open node)).reply
    (open-reply s.world node) run.0 apart)

-- ---- the line of an open

-- a command and its answer of which a line says that two names were opened
record OpensAs (c : Command) (answer : Said) (x y : List ℕ) : Type 0 where
  node : ℕ
  command : c ≡ commands.Open node x y
  said : answer ≡ said.Opened

abbrev Tells : List Saying → List ℕ → List ℕ → Type 0
Tells xs x y = HasSaying xs (Open x y Done)

turns-tell : (node : ℕ) (rs : List Reply) (x y : List ℕ) →
    Tells (map (λ reply. sayings.Turn node (turn_text reply)) rs) x y → ⊥
turns-tell node [] x y h = h
turns-tell node (r ∷ rs) x y (inl e) = let never : sayings.Turn node (turn_text r) ≡ Open x y Done = e in cc
turns-tell node (r ∷ rs) x y (inr h) = turns-tell node rs x y h

-- a saying that is no open
abbrev IsOther : Saying → Type 0
IsOther (Open a b r) = ⊥
IsOther other = Unit {0}

one-tells : (saying : Saying) (x y : List ℕ) → Tells (saying ∷ []) x y → IsOther saying → ⊥
one-tells saying x y (inl e) other = absurd (subst IsOther e other)
one-tells saying x y (inr h) other = h

opens-as : (titles : Titles) (c : Command) (answer : Said) (x y : List ℕ) → Tells (sayings_of titles c answer) x y → OpensAs c answer x y
unfolding sayings_of
opens-as titles (commands.Open node a b) said.Opened x y (inl e) =
    let first : a ≡ x = cc in
    let second : b ≡ y = cc in
    record { node = node; command = λ i. commands.Open node (first i) (second i); said = refl }
opens-as titles (commands.Open node a b) said.Opened x y (inr h) = absurd h
opens-as titles (commands.Open node a b) (said.Refused why) x y (inl e) =
    let never : Open a b (sayings.Refused why) ≡ Open x y Done = e in cc
opens-as titles (commands.Open node a b) (said.Refused why) x y (inr h) = absurd h
opens-as titles (commands.Put at text attached) (said.Put n) x y h = absurd (one-tells _ x y h tt)
opens-as titles (commands.Put at text attached) said.UnknownName x y h = absurd (one-tells _ x y h tt)
opens-as titles (commands.Put at text attached) said.Away x y h = absurd (one-tells _ x y h tt)
opens-as titles (commands.Put at text attached) (said.Refused why) x y h = absurd (one-tells _ x y h tt)
opens-as titles (commands.Get at) (said.Got n p) x y h = absurd (one-tells _ x y h tt)
opens-as titles (commands.Get at) said.UnknownName x y h = absurd (one-tells _ x y h tt)
opens-as titles (commands.Get at) said.Away x y h = absurd (one-tells _ x y h tt)
opens-as titles (commands.Get at) (said.Refused why) x y h = absurd (one-tells _ x y h tt)
opens-as titles (commands.Close at) (said.Closed n) x y h = absurd (one-tells _ x y h tt)
opens-as titles (commands.Close at) said.UnknownName x y h = absurd (one-tells _ x y h tt)
opens-as titles (commands.Close at) said.Away x y h = absurd (one-tells _ x y h tt)
opens-as titles (commands.Close at) (said.Refused why) x y h = absurd (one-tells _ x y h tt)
opens-as titles (commands.Turn node count) (said.Turned rs) x y h = absurd (turns-tell node rs x y h)
opens-as titles (commands.Settle limit) said.Settled x y h = absurd (one-tells _ x y h tt)
opens-as titles (commands.Settle limit) said.Unsettled x y h = absurd (one-tells _ x y h tt)
opens-as titles commands.Show (said.Words ws) x y h = absurd (one-tells _ x y h tt)
opens-as titles c answer x y h = absurd h

-- ---- all lines

tells-parts : (xs ys : List Saying) (x y : List ℕ) → Tells (xs ++ ys) x y → Tells xs x y ⊎ Tells ys x y
tells-parts [] ys x y h = inr h
tells-parts (z ∷ xs) ys x y (inl e) = inl (inl e)
tells-parts (z ∷ xs) ys x y (inr h) = elim (tells-parts xs ys x y h) [ inl a ↦ inl (inr a) | inr b ↦ inr b ]

log-paired : (before : List Command) (s : Session) (cs : List Command) (log : List Answered) (t : Session) → AreAnswered s cs log t →
    HaveNew before cs → AllByRecursion (IsNamed t) log → (x y : List ℕ) → Tells (sayings_in log) x y → ArePaired t x y
log-paired before s [] [] t is new named x y h = absurd h
log-paired before s [] (a ∷ log) t is new named x y h = absurd is
log-paired before s (c ∷ cs) [] t is new named x y h = absurd is
log-paired before s (c ∷ cs) (a ∷ log) t is new named x y h =
    elim (tells-parts (sayings_of a.after.titles a.command a.said) (sayings_in log) x y h) [
      | inl here ↦ opened (opens-as a.after.titles a.command a.said x y here)
      | inr later ↦ log-paired (before ++ c ∷ []) a.after cs log t is.3 new.1 named.1 x y later
    ]
  where
    opened : OpensAs a.command a.said x y → ArePaired t x y
    opened as_open =
        let same : c ≡ commands.Open as_open.node x y = sym is.1 ∙ as_open.command in
        let free : OpensNew (is_taken before) (commands.Open as_open.node x y) = subst (OpensNew (is_taken before)) same new.0 in
        let run : Runs s (commands.Open as_open.node x y) said.Opened a.after =
        subst (λ z. Runs s (commands.Open as_open.node x y) z a.after) as_open.said (subst (λ z. Runs s z a.said a.after) same is.2) in
        paired-stays a.after t x y named.0.stays_after (open-paired s a.after as_open.node x y run free.2)

pub script-peers : (nodes words : ℕ) (cs : List Command) (log : List Answered) (t : Session) → HasScriptLimits nodes words →
    HaveNew [] cs → AreAnswered (new_session nodes words) cs log t → (x y : List ℕ) → ArePeers nodes (sayings_in log) x y → AreEndsOf t x y
script-peers nodes words cs log t limits new is x y peers = go peers
  where
    named : RunsNamed (new_session nodes words) t log
    named = script-named nodes words cs log t limits new is

    of_first : (p : AreOfFirstPair nodes x y) (c : Bool) → nat_lt p.one p.other ≡ c → AreEndsOf t x y
    of_first p true e =
        let mid : p.one < p.other = grind (arith, e, nat_tests) in
        let pair = first-paired nodes words p.one p.other limits.few mid p.other_within in
        subst (λ z. AreEndsOf t z y) (sym p.first) (subst (AreEndsOf t (pair_name p.one p.other)) (sym p.second)
        (paired-ends t (pair_name p.one p.other) (pair_name p.other p.one)
        (paired-stays (new_session nodes words) t (pair_name p.one p.other) (pair_name p.other p.one) named.stays pair)))
    of_first p false e = apart (nat_eq p.one p.other) refl
      where
        apart : (b : Bool) → nat_eq p.one p.other ≡ b → AreEndsOf t x y
        apart true one = absurd (p.apart (grind (arith, one, nat_tests)))
        apart false two =
            let mid : p.other < p.one = grind (arith, e, two, nat_tests) in
            let pair = first-paired nodes words p.other p.one limits.few mid p.one_within in
            subst (λ z. AreEndsOf t z y) (sym p.first) (subst (AreEndsOf t (pair_name p.one p.other)) (sym p.second)
            (swapped-ends t (pair_name p.one p.other) (pair_name p.other p.one)
            (paired-stays (new_session nodes words) t (pair_name p.other p.one) (pair_name p.one p.other) named.stays pair)))

    go : ArePeers nodes (sayings_in log) x y → AreEndsOf t x y
    go (inl h) = paired-ends t x y (log-paired [] (new_session nodes words) cs log t is new named.each x y h)
    go (inr (inl h)) = swapped-ends t x y (log-paired [] (new_session nodes words) cs log t is new named.each y x h)
    go (inr (inr p)) = of_first p (nat_lt p.one p.other) refl
