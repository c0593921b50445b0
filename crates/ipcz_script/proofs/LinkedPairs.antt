-- The pairs that a script has named are the pairs of links, and an open gives a pair that is none yet.
use Rattle.std.proofs.Common.{◌≡◌, ◌∙◌, ◌⊎◌, ◌++◌, ◌+◌, ◌≤◌, ap, sym, refl, subst, inl, inr, arith, ℕ, zero, suc, Bool, true, false, cond}
use Rattle.std.proofs.Common.{List, [], ◌∷◌, Option, Some, None}
use Rattle.std.specs.Prelude.{MatchBool, if◌then◌else◌, nat_eq, nat_lt}
use Rattle.std.specs.FinMap.{get}
use Rattle.std.proofs.lemmas.Bool.Decides.{nat_tests}
use Rattle.ipcz_base.specs.declared.side.Side.TheVariants.{A, B}
use Rattle.ipcz_base.specs.declared.refusal.Refusal.{Refusal}
use Rattle.ipcz_base.specs.declared.refusal.Refusal.TheVariants.{NoWord, Stranger}
use Rattle.ipcz_base.specs.Ends.{end_at}
use Rattle.ipcz_world.specs.declared.step.Step.{Step}
use Rattle.ipcz_world.specs.declared.step.Step.TheVariants as steps
use Rattle.ipcz_world.specs.declared.step.Reply.{Reply}
use Rattle.ipcz_world.specs.declared.step.Reply.TheVariants as replies
use Rattle.ipcz_world.specs.World.{World, has_unclaimed_word, new_world, node_at, set_claimed}
use Rattle.ipcz_world.specs.Books.{Books, no_books, advance}
use Rattle.ipcz_world.specs.Routes.{Routes, first_routes, routes_after}
use Rattle.ipcz_world.specs.Records.{is_linked}
use Rattle.ipcz_world.specs.Laws.{WordLaw}
use Rattle.ipcz_world.specs.Steps.{StepFirst, first_step, open_on, open_with, unless}
use Rattle.ipcz_world.specs.Settling.{AreVisits, next_node}
use Rattle.ipcz_world.specs.Holding.{holder_of}
use Rattle.ipcz_world.specs.Lawful.{IsReached, Lawful}
use Rattle.ipcz_script.specs.ScriptLimits.{HasScriptLimits}
use Rattle.ipcz_world.proofs.Whole.{first_acts_are_possible, links_stay}
use Rattle.ipcz_script.specs.declared.command.Command.{Command}
use Rattle.ipcz_script.specs.declared.command.Command.TheVariants as commands
use Rattle.ipcz_script.specs.declared.said.Said.{Said}
use Rattle.ipcz_script.specs.declared.said.Said.TheVariants as said
use Rattle.ipcz_script.specs.Sessions.{Session, Replied, Runs, SettlesTo, TurnsTo, AreTurns, ends_of, if_held, if_known, is_idle_reply}
use Rattle.ipcz_script.specs.Sessions.{with_world}
use Rattle.ipcz_script.proofs.ScriptRuns.{first-step, lawful, name_pair-world, run-more}

-- ---- what each step keeps each command keeps

module _ (P : World → Type 0) (keep : (w v : World) (x : Step) (r : Reply) → StepFirst w x r v → P w → P v) where
  visits-keep : (n : ℕ) (visits : List Bool) (w v : World) → AreVisits n visits w v → P w → P v
  visits-keep n [] w v is at = subst P (sym is) at
  visits-keep n (true ∷ visits) w v is at =
      visits-keep (next_node w n) visits is.1.0 v is.1.2 (keep w is.1.0 (steps.Turn n) (replies.Turned is.1.1.0) is.1.1.1 at)
  visits-keep n (false ∷ visits) w v is at = visits-keep (next_node w n) visits w v is.1 at

  turns-keep : (count node : ℕ) (w : World) (turns : List Reply) (v : World) → AreTurns count node w turns v → P w → P v
  turns-keep zero node w [] v is at = subst P (sym is) at
  turns-keep zero node w (r ∷ rs) v is at = absurd is
  turns-keep (suc left) node w [] v is at = absurd is
  turns-keep (suc left) node w (r ∷ rs) v is at =
      let there : P is.0 = keep w is.0 (steps.Turn node) r is.1 at in
      elim (is_idle_reply r) as (λ b. MatchBool b ((rs ≡ []) × (v ≡ is.0)) (AreTurns left node is.0 rs v) → P v) [
        | true ↦ λ m. subst P (sym m.1) there
        | false ↦ λ m. turns-keep left node is.0 rs v m there
      ] is.3

  settle-keeps : (limit : ℕ) (w : World) (answer : Said) (v : World) → SettlesTo limit w answer v → P w → P v
  settle-keeps limit w said.Settled v is at = visits-keep 0 is.1.visits w v is.1.turns at
  settle-keeps limit w said.Unsettled v is at =
      elim is [ inl h ↦ visits-keep 0 h.visits w v h.turns at | inr h ↦ visits-keep 0 h.visits w v h.turns at ]
  settle-keeps limit w answer v is at = absurd is

  turn-keeps : (count node : ℕ) (w : World) (answer : Said) (v : World) → TurnsTo count node w answer v → P w → P v
  turn-keeps count node w (said.Turned rs) v is at = turns-keep count node w rs v is at
  turn-keeps count node w answer v is at = absurd is

  known-keeps : {X : Type 0} (s : Session) (o : Option X) (call : X → Replied) → P s.world → ((x : X) → P (call x).session.world) →
      P (if_known s o call).session.world
  unfolding if_known
  known-keeps s None call at each = at
  known-keeps s (Some x) call at each = each x

  held-keeps : (s : Session) (o : Option ℕ) (call : ℕ → Replied) → P s.world → ((n : ℕ) → P (call n).session.world) →
      P (if_held s o call).session.world
  unfolding if_held
  held-keeps s None call at each = at
  held-keeps s (Some n) call at each = each n

  pub runs-keep : (s : Session) (c : Command) (answer : Said) (t : Session) → Runs s c answer t → P s.world → P t.world
  runs-keep s (commands.Open node first second) answer t is at =
      subst (λ x. P x.world) (sym is.1)
      (subst P (sym (name_pair-world (with_world s (first_step s.world (steps.Open node)).world) first second
      (first_step s.world (steps.Open node)).reply))
      (keep s.world _ (steps.Open node) _ (first-step s.world (steps.Open node) refl) at))
  runs-keep s (commands.Put name text attached) answer t is at =
      subst (λ x. P x.world) (sym is.1) (known-keeps s (get s.names name) _ at (λ end.
      known-keeps s (ends_of s.names attached) _ at (λ ends. held-keeps s (holder_of s.world end) _ at (λ n.
      keep s.world _ (steps.Put n end text ends) _ (first-step s.world (steps.Put n end text ends) refl) at))))
  runs-keep s (commands.Get name) answer t is at =
      subst (λ x. P x.world) (sym is.1) (known-keeps s (get s.names name) _ at (λ end. held-keeps s (holder_of s.world end) _ at (λ n.
      keep s.world _ (steps.Get n end) _ (first-step s.world (steps.Get n end) refl) at)))
  runs-keep s (commands.Close name) answer t is at =
      subst (λ x. P x.world) (sym is.1) (known-keeps s (get s.names name) _ at (λ end. held-keeps s (holder_of s.world end) _ at (λ n.
      keep s.world _ (steps.Close n end) _ (first-step s.world (steps.Close n end) refl) at)))
  runs-keep s (commands.Turn node count) answer t is at = turn-keeps count node s.world answer t.world is.0 at
  runs-keep s (commands.Settle limit) answer t is at = settle-keeps limit s.world answer t.world is.0 at
  runs-keep s commands.Show answer t is at = subst (λ x. P x.world) (sym is.1) at

-- ---- pairs with links

-- a world that some list of steps leads to, in which each of these pairs has the link of its number
pub record Linked (nodes words : ℕ) (IsOf : ℕ → Type 0) (w : World) : Type 0 where
  pub books : Books
  pub routes : Routes
  pub reached : IsReached nodes words w books routes
  pub links : (pair : ℕ) → IsOf pair → routes.is_link pair ≡ true

pub fewer-linked : (nodes words : ℕ) (P Q : ℕ → Type 0) (w : World) → ((pair : ℕ) → Q pair → P pair) → Linked nodes words P w →
    Linked nodes words Q w
fewer-linked nodes words P Q w each at = record {
  books = at.books;
  routes = at.routes;
  reached = at.reached;
  links = λ pair q. at.links pair (each pair q);
}

-- the world at the start
pub start-linked : (nodes words : ℕ) (P : ℕ → Type 0) → HasScriptLimits nodes words →
    ((pair : ℕ) → P pair → (first_routes nodes).is_link pair ≡ true) → Linked nodes words P (new_world nodes words)
start-linked nodes words P limits each = record {
  books = no_books;
  routes = first_routes nodes;
  reached = record { limits = limits.world; steps = []; replies = []; run = (refl, refl, refl) };
  links = each;
}

module _ (nodes words : ℕ) where
  reached-more : (w v : World) (b : Books) (g : Routes) (x : Step) (r : Reply) → IsReached nodes words w b g → StepFirst w x r v →
      IsReached nodes words v (advance w b x r) (routes_after w g x r)
  reached-more w v b g x r at step = record {
    limits = at.limits;
    steps = at.steps ++ x ∷ [];
    replies = at.replies ++ r ∷ [];
    run = run-more (new_world nodes words) no_books (first_routes nodes) at.steps at.replies w b g at.run x r v
        (first_acts_are_possible w v b g x r (lawful nodes words w b g at) step);
  }

  -- each step keeps links
  pub step-linked : (P : ℕ → Type 0) (w v : World) (x : Step) (r : Reply) → StepFirst w x r v → Linked nodes words P w →
      Linked nodes words P v
  step-linked P w v x r step at =
      let law = lawful nodes words w at.books at.routes at.reached in
      record {
        books = advance w at.books x r;
        routes = routes_after w at.routes x r;
        reached = reached-more w v at.books at.routes x r at.reached step;
        links = λ pair is. (links_stay w v at.books at.routes x r law (first_acts_are_possible w v at.books at.routes x r law step) pair
            (at.links pair is)).0;
      }

-- ---- an open

-- the word of an open under way at a node, or the next one
abbrev IsNextPair : World → ℕ → ℕ → Type 0
IsNextPair w n i = ((node_at w n).opening ≡ Some i) ⊎ (i ≡ w.claimed)

-- an open gives the two ends of such a pair, or is refused
abbrev pub OpensNext : World → ℕ → Reply → Type 0
OpensNext w n reply =
    ((i : ℕ) × (reply ≡ replies.Opened (end_at i A) (end_at i B)) × IsNextPair w n i) ⊎ ((why : Refusal) × (reply ≡ replies.Refused why))

pub open-next : (w : World) (n : ℕ) → OpensNext w n (first_step w (steps.Open n)).reply
unfolding first_step open_on unless
open-next w n = go (nat_lt n w.count) (node_at w n).opening refl
  where
    opened : (v : World) (i : ℕ) (o : Option Refusal) → IsNextPair w n i →
        OpensNext w n (unless w o (record { reply = replies.Opened (end_at i A) (end_at i B); world = v })).reply
    opened v i None next = inl (i, refl, next)
    opened v i (Some why) next = inr (why, refl)

    room : (c : Bool) → OpensNext w n (if c then open_with w (set_claimed w (w.claimed + 1)) n w.claimed else
        record { reply = replies.Refused NoWord; world = w }).reply
    room true = opened _ w.claimed _ (inr refl)
    room false = inr (NoWord, refl)

    on : (o : Option ℕ) → (node_at w n).opening ≡ o → OpensNext w n (open_on w n o).reply
    on None same = room (has_unclaimed_word w)
    on (Some i) same = opened _ i _ (inl same)

    go : (c : Bool) (o : Option ℕ) → (node_at w n).opening ≡ o →
        OpensNext w n (if c then open_on w n o else record { reply = replies.Refused Stranger; world = w }).reply
    go true o same = on o same
    go false o same = inr (Stranger, refl)

-- a word that is unclaimed, or for an open, is of no link
next-unlinked : (w : World) (g : Routes) (n i : ℕ) → WordLaw w g → IsNextPair w n i → g.is_link i ≡ false
unfolding is_linked
next-unlinked w g n i law (inl opening) = sym (law.is_link i) ∙ ap is_linked (law.opening n i opening)
next-unlinked w g n i law (inr claimed) =
    let past : w.claimed ≤ i = omega (arith, claimed) in sym (law.is_link i) ∙ ap is_linked (law.unclaimed i past)

-- the pair that an open gives is none of those with links, and is one of them from then on
pub open-linked : (nodes words : ℕ) (P : ℕ → Type 0) (w : World) (n i : ℕ) → Linked nodes words P w →
    (first_step w (steps.Open n)).reply ≡ replies.Opened (end_at i A) (end_at i B) → IsNextPair w n i →
    ((pair : ℕ) → P pair → pair ≡ i → ⊥) × Linked nodes words (λ pair. P pair ⊎ (pair ≡ i)) (first_step w (steps.Open n)).world
unfolding routes_after
open-linked nodes words P w n i at is next = (
  λ pair p same. let t : true ≡ false = sym (at.links pair p) ∙ ap (at.routes.is_link) same
      ∙ next-unlinked w at.routes n i law.word_law next in cc,
  record {
    books = advance w at.books x r;
    routes = routes_after w at.routes x r;
    reached = reached-more nodes words w v at.books at.routes x r at.reached step;
    links = links;
  },
)
  where
    x : Step
    x = steps.Open n

    r : Reply
    r = (first_step w x).reply

    v : World
    v = (first_step w x).world

    step : StepFirst w x r v
    step = first-step w x refl

    law : Lawful w at.books at.routes
    law = lawful nodes words w at.books at.routes at.reached

    own : cond (nat_eq i i) true (at.routes.is_link i) ≡ true
    own = let e : nat_eq i i ≡ true = grind (arith, nat_tests) in ap (λ c. cond c true (at.routes.is_link i)) e

    itself : (routes_after w at.routes x r).is_link i ≡ true
    itself = subst (λ y. (routes_after w at.routes x y).is_link i ≡ true) (sym is) own

    links : (pair : ℕ) → P pair ⊎ (pair ≡ i) → (routes_after w at.routes x r).is_link pair ≡ true
    links pair (inl p) =
        (links_stay w v at.books at.routes x r law (first_acts_are_possible w v at.books at.routes x r law step) pair (at.links pair p)).0
    links pair (inr same) = subst (λ y. (routes_after w at.routes x r).is_link y ≡ true) (sym same) itself
