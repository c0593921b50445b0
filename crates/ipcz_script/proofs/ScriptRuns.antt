-- The worlds that a script comes to are worlds that lists of steps lead to, with books of which its answers tell.
use Rattle.std.proofs.Common.{◌≡◌, ◌∙◌, ◌++◌, ◌+◌, ap, sym, refl, subst, inl, inr, arith, append_assoc, append-nil, length, take, ℕ, zero}
use Rattle.std.proofs.Common.{suc, Bool, true, false, List, [], ◌∷◌, Option, Some, None}
use Rattle.std.specs.Prelude.{MatchBool}
use Rattle.std.specs.FinMap.{get}
use Rattle.std.proofs.lemmas.Option.{same_Some}
use Rattle.ipcz_base.specs.declared.end.End.{End}
use Rattle.ipcz_base.specs.declared.parcel.Parcel as parcels
use Rattle.ipcz_base.specs.Ends.{opposite_end}
use Rattle.ipcz_world.specs.declared.step.Step.{Step}
use Rattle.ipcz_world.specs.declared.step.Step.TheVariants as steps
use Rattle.ipcz_world.specs.declared.step.Reply.{Reply}
use Rattle.ipcz_world.specs.declared.step.Reply.TheVariants as replies
use Rattle.ipcz_world.specs.World.{World, new_world, node_at}
use Rattle.ipcz_world.specs.Books.{Books, no_books, advance, is_closed, is_retired, read}
use Rattle.ipcz_world.specs.Plain.{Plain}
use Rattle.ipcz_world.specs.Routes.{Routes, first_routes, routes_after}
use Rattle.ipcz_world.specs.Steps.{StepAny, StepFirst, first_step}
use Rattle.ipcz_world.specs.Settling.{AreVisits, next_node}
use Rattle.ipcz_world.specs.Holding.{holder_of}
use Rattle.ipcz_world.specs.Lawful.{Headline, IsReached, Lawful, RunAny}
use Rattle.ipcz_script.specs.ScriptLimits.{HasScriptLimits}
use Rattle.ipcz_world.proofs.Whole.{world_starts_lawful, each_step_keeps_lawful, first_acts_are_possible, the_headline_holds}
use Rattle.ipcz_world.proofs.Whole.{each_quiet_delivers, ends_stand_once, held_have_terminals, held_are_open, lawful_worlds_stray_nothing}
use Rattle.ipcz_world.proofs.Whole.{one_node_is_direct, replies_plainly, terminals_keep_books}
use Rattle.ipcz_world.proofs.runs.Running.{reached_lawful}
use Rattle.ipcz_node.specs.FirstPairs.{first_pairs}
use Rattle.ipcz_node.specs.Node.{holds_end}
use Rattle.ipcz_script.specs.declared.command.Command.{Command}
use Rattle.ipcz_script.specs.declared.command.Command.TheVariants as commands
use Rattle.ipcz_script.specs.declared.said.Said.{Said}
use Rattle.ipcz_script.specs.declared.said.Said.TheVariants as said
use Rattle.ipcz_script.specs.Sessions.{Session, Replied, Runs, SettlesTo, TurnsTo, AreTurns, bind_pair, bind_pairs, ends_of, answer_to}
use Rattle.ipcz_script.specs.Sessions.{if_held, if_known, is_idle_reply, is_turn, name_pair, nameless, new_session, replied_open}
use Rattle.ipcz_script.specs.Sessions.{with_world}
use Rattle.ipcz_script.specs.Transcript.{Answered, AreAnswered}
use Rattle.ipcz_script.specs.ScriptBooks.{IsCount, got_said, gots_in, parcels_in, put_said, puts_in}
use Rattle.ipcz_script.specs.ScriptLaws.{AfterScripts, GetsFollowPuts, NumbersCountUp, ScriptsAnswerPlainly, ScriptsAreRuns, ScriptsArrive}
use Rattle.ipcz_script.specs.ScriptLaws.{ScriptsDeliver}
use Rattle.ipcz_script.proofs.ScriptSaid.{Adds, none, close-said, got-said, open-said, parcels-follow, put-said, turn-more, unmarked-length}
use Rattle.ipcz_node.proofs.Turns.{first_number-tells}

-- a world that some list of steps leads to, with books whose parcels are these
pub record Kept (nodes words : ℕ) (w : World) (puts gots : End → List parcels.Parcel) : Type 0 where
  pub books : Books
  pub routes : Routes
  pub reached : IsReached nodes words w books routes
  pub put : (e : End) → parcels_in (books.put e) ≡ puts e
  pub got : (e : End) → books.got e ≡ gots e

-- parcels of ends
abbrev Parcels : Type 0
Parcels = End → List parcels.Parcel

-- and more of them
abbrev more : Parcels → Parcels → Parcels
more puts new e = puts e ++ new e

-- the same parcels
kept-as : (nodes words : ℕ) (w : World) (puts gots ps gs : Parcels) → Kept nodes words w puts gots → ((e : End) → puts e ≡ ps e) →
    ((e : End) → gots e ≡ gs e) → Kept nodes words w ps gs
kept-as nodes words w puts gots ps gs at same_puts same_gots = record {
  books = at.books;
  routes = at.routes;
  reached = at.reached;
  put = λ e. at.put e ∙ same_puts e;
  got = λ e. at.got e ∙ same_gots e;
}

no_more : (nodes words : ℕ) (w : World) (puts gots : Parcels) → Kept nodes words w puts gots →
    Kept nodes words w (more puts none) (more gots none)
no_more nodes words w puts gots at =
    kept-as nodes words w puts gots (more puts none) (more gots none) at (λ e. sym (append-nil (puts e))) (λ e. sym (append-nil (gots e)))

-- another world that is the same
kept-in : (nodes words : ℕ) (w v : World) (puts gots : Parcels) → v ≡ w → Kept nodes words w puts gots → Kept nodes words v puts gots
kept-in nodes words w v puts gots same at = subst (λ x. Kept nodes words x puts gots) (sym same) at

-- a run goes on by a step
pub run-more : (w : World) (b : Books) (g : Routes) (xs : List Step) (ys : List Reply) (u : World) (c : Books) (h : Routes) →
    RunAny w b g xs ys u c h → (s : Step) (r : Reply) (v : World) → StepAny u s r v →
    RunAny w b g (xs ++ s ∷ []) (ys ++ r ∷ []) v (advance u c s r) (routes_after u h s r)
run-more w b g [] [] u c h is s r v step =
    (v, subst (λ x. StepAny x s r v) is.0 step, (refl, λ i. advance (is.0 i) (is.1 i) s r, λ i. routes_after (is.0 i) (is.2 i) s r))
run-more w b g [] (y ∷ ys) u c h is s r v step = absurd is
run-more w b g (x ∷ xs) [] u c h is s r v step = absurd is
run-more w b g (x ∷ xs) (y ∷ ys) u c h is s r v step =
    (is.0, is.1, run-more is.0 (advance w b x y) (routes_after w g x y) xs ys u c h is.2 s r v step)

-- a step in which a turn takes the first act leads on, with what it adds
kept-step : (nodes words : ℕ) (w v : World) (puts gots new_puts new_gots : Parcels) (s : Step) (r : Reply) → Kept nodes words w puts gots →
    StepFirst w s r v → ((b : Books) → Adds b (advance w b s r) new_puts new_gots) →
    Kept nodes words v (more puts new_puts) (more gots new_gots)
kept-step nodes words w v puts gots new_puts new_gots s r at step adds =
    let law = reached_lawful world_starts_lawful each_step_keeps_lawful nodes words w at.books at.routes at.reached in
    let new = adds at.books in
    record {
      books = advance w at.books s r;
      routes = routes_after w at.routes s r;
      reached = record {
        limits = at.reached.limits;
        steps = at.reached.steps ++ s ∷ [];
        replies = at.reached.replies ++ r ∷ [];
        run = run-more (new_world nodes words) no_books (first_routes nodes) at.reached.steps at.reached.replies w at.books at.routes
            at.reached.run s r v (first_acts_are_possible w v at.books at.routes s r law step);
      };
      put = λ e. new.put e ∙ ap (λ l. l ++ new_puts e) (at.put e);
      got = λ e. new.got e ∙ ap (λ l. l ++ new_gots e) (at.got e);
    }

-- a turn adds nothing
pub kept-turn : (nodes words : ℕ) (w v : World) (puts gots : Parcels) (n : ℕ) (r : Reply) → Kept nodes words w puts gots →
    StepFirst w (steps.Turn n) r v → Kept nodes words v puts gots
kept-turn nodes words w v puts gots n r at step =
    kept-as nodes words v (more puts none) (more gots none) puts gots
    (kept-step nodes words w v puts gots none none (steps.Turn n) r at step (λ b. turn-more w b n r))
    (λ e. append-nil (puts e)) (λ e. append-nil (gots e))

-- visits lead on
kept-visits : (nodes words n : ℕ) (visits : List Bool) (w v : World) (puts gots : Parcels) → Kept nodes words w puts gots →
    AreVisits n visits w v → Kept nodes words v puts gots
kept-visits nodes words n [] w v puts gots at is = kept-in nodes words w v puts gots is at
kept-visits nodes words n (true ∷ visits) w v puts gots at is =
    kept-visits nodes words (next_node w n) visits is.1.0 v puts gots
    (kept-turn nodes words w is.1.0 puts gots n (replies.Turned is.1.1.0) at is.1.1.1) is.1.2
kept-visits nodes words n (false ∷ visits) w v puts gots at is = kept-visits nodes words (next_node w n) visits w v puts gots at is.1

-- turns of one node lead on
kept-turns : (nodes words count node : ℕ) (w : World) (turns : List Reply) (v : World) (puts gots : Parcels) →
    Kept nodes words w puts gots →
    AreTurns count node w turns v → Kept nodes words v puts gots
kept-turns nodes words zero node w [] v puts gots at is = kept-in nodes words w v puts gots is at
kept-turns nodes words zero node w (r ∷ rs) v puts gots at is = absurd is
kept-turns nodes words (suc left) node w [] v puts gots at is = absurd is
kept-turns nodes words (suc left) node w (r ∷ rs) v puts gots at is =
    let there : Kept nodes words is.0 puts gots = kept-turn nodes words w is.0 puts gots node r at is.1 in
    elim (is_idle_reply r) as (λ b. MatchBool b ((rs ≡ []) × (v ≡ is.0)) (AreTurns left node is.0 rs v) → Kept nodes words v puts gots) [
      | true ↦ λ m. kept-in nodes words is.0 v puts gots m.1 there
      | false ↦ λ m. kept-turns nodes words left node is.0 rs v puts gots there m
    ] is.3

-- a step that is no turn, as with memory at hand, is one in which a turn would take the first act
pub first-step : (w : World) (s : Step) → is_turn s ≡ false → StepFirst w s (first_step w s).reply (first_step w s).world
unfolding first_step
first-step w (steps.Get n at) still = (refl, refl)
first-step w (steps.Turn n) still = absurd (let e : true ≡ false = still in cc)
first-step w other still = inl (refl, refl)

-- names change no world
pub name_pair-world : (s : Session) (first second : List ℕ) (r : Reply) → (name_pair s first second r).world ≡ s.world
unfolding name_pair
name_pair-world s first second (replies.Opened a b) = refl
name_pair-world s first second other = refl

pub bind_pairs-world : (s : Session) (pair : ℕ) (ps : List (ℕ × ℕ)) → (bind_pairs s pair ps).world ≡ s.world
bind_pairs-world s pair [] = refl
bind_pairs-world s pair (p ∷ ps) = bind_pairs-world (bind_pair s pair p.0 p.1) (pair + 1) ps

-- ---- one command

module _ (nodes words : ℕ) (s : Session) (puts gots : Parcels) (at : Kept nodes words s.world puts gots) where
  -- what a command leaves, if its answer is this
  abbrev pub Leaves : Command → Said → World → Type 0
  Leaves c answer v = Kept nodes words v (more puts (put_said s.names c answer)) (more gots (got_said s.names c answer))

  -- a command that gives an answer which says nothing of parcels
  still : (c : Command) (answer : Said) → put_said s.names c answer ≡ none → got_said s.names c answer ≡ none → Leaves c answer s.world
  still c answer no_put no_got =
      subst (λ new. Kept nodes words s.world (more puts new) (more gots (got_said s.names c answer))) (sym no_put)
      (subst (λ new. Kept nodes words s.world (more puts none) (more gots new)) (sym no_got) (no_more nodes words s.world puts gots at))

  -- a call leaves what each of its cases does
  at-known : {X : Type 0} (c : Command) (o : Option X) (call : X → Replied) → Leaves c said.UnknownName s.world →
      ((x : X) → o ≡ Some x → Leaves c (call x).said (call x).session.world) →
      Leaves c (if_known s o call).said (if_known s o call).session.world
  unfolding if_known
  at-known c None call unknown each = unknown
  at-known c (Some x) call unknown each = each x refl

  at-held : (c : Command) (o : Option ℕ) (call : ℕ → Replied) → Leaves c said.Away s.world →
      ((n : ℕ) → o ≡ Some n → Leaves c (call n).said (call n).session.world) →
      Leaves c (if_held s o call).said (if_held s o call).session.world
  unfolding if_held
  at-held c None call away each = away
  at-held c (Some n) call away each = each n refl

  -- a step that is no turn
  at-step : (c : Command) (x : Step) → is_turn x ≡ false →
      ((b : Books) → Adds b (advance s.world b x (first_step s.world x).reply) (put_said s.names c (answer_to (first_step s.world x).reply))
      (got_said s.names c (answer_to (first_step s.world x).reply))) →
      Leaves c (answer_to (first_step s.world x).reply) (first_step s.world x).world
  at-step c x no_turn adds =
      kept-step nodes words s.world (first_step s.world x).world puts gots _ _ x (first_step s.world x).reply at
      (first-step s.world x no_turn) adds

  -- a settle
  at-settle : (limit : ℕ) (answer : Said) (v : World) → SettlesTo limit s.world answer v → Kept nodes words v puts gots
  at-settle limit said.Settled v is = kept-visits nodes words 0 is.1.visits s.world v puts gots at is.1.turns
  at-settle limit said.Unsettled v is =
      elim is [
        | inl h ↦ kept-visits nodes words 0 h.visits s.world v puts gots at h.turns
        | inr h ↦ kept-visits nodes words 0 h.visits
            s.world v puts gots at h.turns
      ]
  at-settle limit other v is = absurd is

  -- a turn command
  at-turns : (count node : ℕ) (answer : Said) (v : World) → TurnsTo count node s.world answer v → Kept nodes words v puts gots
  at-turns count node (said.Turned rs) v is = kept-turns nodes words count node s.world rs v puts gots at is
  at-turns count node other v is = absurd is

  -- an answer and a session that are those of the case
  given : (c : Command) (done : Replied) (answer : Said) (t : Session) → answer ≡ done.said → t ≡ done.session →
      Leaves c done.said done.session.world → Leaves c answer t.world
  given c done answer t same_answer same_session left =
      subst (λ a. Leaves c a t.world) (sym same_answer) (subst (λ x. Leaves c done.said x.world) (sym same_session) left)

  -- a command
  pub kept-command : (c : Command) (answer : Said) (t : Session) → Runs s c answer t → Leaves c answer t.world
  unfolding put_said got_said
  kept-command (commands.Open node first second) answer t is =
      given (commands.Open node first second) (replied_open s first second (first_step s.world (steps.Open node))) answer t is.0 is.1
      (subst (Leaves (commands.Open node first second) (answer_to (first_step s.world (steps.Open node)).reply))
      (sym (name_pair-world (with_world s (first_step s.world (steps.Open node)).world) first second
      (first_step s.world (steps.Open node)).reply))
      (at-step (commands.Open node first second) (steps.Open node) refl
      (λ b. open-said s.world b node s.names first second (first_step s.world (steps.Open node)).reply)))
  kept-command (commands.Put name text attached) answer t is =
      given (commands.Put name text attached) _ answer t is.0 is.1
      (at-known (commands.Put name text attached) (get s.names name) _ (still (commands.Put name text attached) said.UnknownName refl refl)
      (λ end bound. at-known (commands.Put name text attached) (ends_of s.names attached) _
      (still (commands.Put name text attached) said.UnknownName refl refl)
      (λ ends known. at-held (commands.Put name text attached) (holder_of s.world end) _
      (still (commands.Put name text attached) said.Away refl refl)
      (λ n there. at-step (commands.Put name text attached) (steps.Put n end text ends) refl
      (λ b. put-said s.world b n s.names name text attached end ends (first_step s.world (steps.Put n end text ends)).reply bound known)))))
  kept-command (commands.Get name) answer t is =
      given (commands.Get name) _ answer t is.0 is.1
      (at-known (commands.Get name) (get s.names name) _ (still (commands.Get name) said.UnknownName refl refl)
      (λ end bound. at-held (commands.Get name) (holder_of s.world end) _ (still (commands.Get name) said.Away refl refl)
      (λ n there. at-step (commands.Get name) (steps.Get n end) refl
      (λ b. got-said s.world b n s.names name end (first_step s.world (steps.Get n end)).reply bound))))
  kept-command (commands.Close name) answer t is =
      given (commands.Close name) _ answer t is.0 is.1
      (at-known (commands.Close name) (get s.names name) _ (still (commands.Close name) said.UnknownName refl refl)
      (λ end bound. at-held (commands.Close name) (holder_of s.world end) _ (still (commands.Close name) said.Away refl refl)
      (λ n there. at-step (commands.Close name) (steps.Close n end) refl
      (λ b. close-said s.world b n s.names name end (first_step s.world (steps.Close n end)).reply))))
  kept-command (commands.Turn node count) answer t is = no_more nodes words t.world puts gots (at-turns count node answer t.world is.0)
  kept-command (commands.Settle limit) answer t is = no_more nodes words t.world puts gots (at-settle limit answer t.world is.0)
  kept-command commands.Show answer t is = kept-in nodes words s.world t.world _ _ (ap (λ x. x.world) is.1)
      (no_more nodes words s.world puts gots at)

-- ---- all commands

kept-commands : (nodes words : ℕ) (s : Session) (cs : List Command) (log : List Answered) (t : Session) (puts gots : Parcels) →
    Kept nodes words s.world puts gots → AreAnswered s cs log t →
    Kept nodes words t.world (more puts (puts_in log)) (more gots (gots_in log))
kept-commands nodes words s [] [] t puts gots at is = kept-in nodes words s.world t.world _ _ (ap (λ x. x.world) is)
    (no_more nodes words s.world puts gots at)
kept-commands nodes words s [] (a ∷ log) t puts gots at is = absurd is
kept-commands nodes words s (c ∷ cs) [] t puts gots at is = absurd is
kept-commands nodes words s (c ∷ cs) (a ∷ log) t puts gots at is =
    let first = subst (λ x. Kept nodes words a.after.world (more puts (put_said x.names a.command a.said))
    (more gots (got_said x.names a.command a.said)))
    (sym is.0)
    (subst (λ x. Kept nodes words a.after.world (more puts (put_said s.names x a.said)) (more gots (got_said s.names x a.said))) (sym is.1)
    (kept-command nodes words s puts gots at c a.said a.after is.2)) in
    kept-as nodes words t.world _ _ _ _
    (kept-commands nodes words a.after cs log t (more puts (put_said a.before.names a.command a.said))
    (more gots (got_said a.before.names a.command a.said))
    first is.3)
    (λ e. append_assoc (puts e) (put_said a.before.names a.command a.said e) (puts_in log e))
    (λ e. append_assoc (gots e) (got_said a.before.names a.command a.said e) (gots_in log e))

-- the world at the start is reached by no step, and nothing was put
pub kept-start : (nodes words : ℕ) → HasScriptLimits nodes words → Kept nodes words (new_session nodes words).world none none
kept-start nodes words limits =
    kept-in nodes words (new_world nodes words) (new_session nodes words).world none none
    (bind_pairs-world (nameless (new_world nodes words)) 0 (first_pairs nodes))
    (record {
      books = no_books;
      routes = first_routes nodes;
      reached = record { limits = limits.world; steps = []; replies = []; run = (refl, refl, refl) };
      put = λ e. refl;
      got = λ e. refl;
    })

pub kept-script : (nodes words : ℕ) (cs : List Command) (log : List Answered) (t : Session) → HasScriptLimits nodes words →
    AreAnswered (new_session nodes words) cs log t → Kept nodes words t.world (puts_in log) (gots_in log)
kept-script nodes words cs log t limits is =
    kept-commands nodes words (new_session nodes words) cs log t none none (kept-start nodes words limits) is

-- ---- the laws

-- what holds after every list of steps holds after every script
after : (Holds : ℕ → ℕ → World → Books → Routes → Type 0) →
    ((nodes words : ℕ) (w : World) (b : Books) (g : Routes) → IsReached nodes words w b g → Holds nodes words w b g) → AfterScripts Holds
after Holds runs nodes words cs log t limits is =
    let at = kept-script nodes words cs log t limits is in
    (at.books, at.routes, record { puts = at.put; gots = at.got }, runs nodes words t.world at.books at.routes at.reached)

pub lawful : (nodes words : ℕ) (w : World) (b : Books) (g : Routes) → IsReached nodes words w b g → Lawful w b g
lawful = reached_lawful world_starts_lawful each_step_keeps_lawful

pub scripts_are_runs : ScriptsAreRuns
scripts_are_runs = after IsReached (λ nodes words w b g is. is)

pub scripts_deliver : ScriptsDeliver
scripts_deliver = after (λ nodes words. Headline) the_headline_holds

pub scripts_arrive : ScriptsArrive
scripts_arrive = after _ (λ nodes words w b g is. let law = lawful nodes words w b g is in record {
  strays = (lawful_worlds_stray_nothing w b g law).1;
  ends = ends_stand_once w b g law;
  held = λ n e l. held_have_terminals w b g n e law l;
  all_got = λ quiet n e v direct. each_quiet_delivers w v b g n e law quiet direct;
  one_node = λ one pair s. one_node_is_direct words w b g pair s (subst (λ x. IsReached x words w b g) one is);
})

pub scripts_answer_plainly : ScriptsAnswerPlainly
scripts_answer_plainly = after _ (λ nodes words w b g is step reply v. replies_plainly w v b g step reply (lawful nodes words w b g is))

pub gets_follow_puts : GetsFollowPuts
gets_follow_puts nodes words cs log t limits is e =
    let at = kept-script nodes words cs log t limits is in
    let prefix = (the_headline_holds nodes words t.world at.books at.routes at.reached).got_prefix e in
    subst (λ gots. take (length gots) (puts_in log e) ≡ gots) (at.got (opposite_end e))
    (subst (λ puts. take (length (at.books.got (opposite_end e))) puts ≡ at.books.got (opposite_end e)) (at.put e)
    (parcels-follow (at.books.got (opposite_end e)) (at.books.put e) prefix))

-- ---- numbers

module _ (nodes words : ℕ) (s : Session) (earlier : List Answered) (at : Kept nodes words s.world (puts_in earlier) (gots_in earlier)) where
  law : Lawful s.world at.books at.routes
  law = lawful nodes words s.world at.books at.routes at.reached

  -- an end that is held was never closed
  unclosed : (e : End) (n : ℕ) → holder_of s.world e ≡ Some n → is_closed at.books e ≡ false
  unclosed e n there =
      let t = first_number-tells (λ i. holds_end (node_at s.world i) e) 0 s.world.count n there in
      held_are_open s.world at.books at.routes n e law (omega (arith, t.0)) t.1

  -- and its sink hasn't retired
  unretired : (e : End) (n : ℕ) → holder_of s.world e ≡ Some n → is_retired at.books e ≡ false
  unretired e n there = go (is_retired at.books e) refl
    where
      go : (c : Bool) → is_retired at.books e ≡ c → is_retired at.books e ≡ false
      go false h = h
      go true h =
          let closed : is_closed at.books e ≡ true = (ends_stand_once s.world at.books at.routes law).retired_closed e h in
          let unmarked : is_closed at.books e ≡ false = unclosed e n there in
          cc

  -- so its items are the parcels that were said
  put-count : (e : End) (n : ℕ) → holder_of s.world e ≡ Some n → length (at.books.put e) ≡ length (puts_in earlier e)
  put-count e n there = unmarked-length (at.books.put e) (unclosed e n there) (unretired e n there) ∙ ap length (at.put e)

  -- and it has dropped nothing
  got-count : (e : End) (n : ℕ) → holder_of s.world e ≡ Some n → read at.books e ≡ length (gots_in earlier e)
  got-count e n there = omega (
    arith,
    (terminals_keep_books s.world at.books at.routes law).gone_closed e (unclosed e n there),
    ap length (at.got e),
  )

  plain : (x : Step) → is_turn x ≡ false →
      Plain at.books x (first_step s.world x).reply (advance s.world at.books x (first_step s.world x).reply)
  plain x no_turn =
      replies_plainly s.world (first_step s.world x).world at.books at.routes x (first_step s.world x).reply law
      (first_acts_are_possible s.world (first_step s.world x).world at.books at.routes x (first_step s.world x).reply law
      (first-step s.world x no_turn))

  count-known : {X : Type 0} (c : Command) (o : Option X) (call : X → Replied) → IsCount earlier s.names c said.UnknownName →
      ((x : X) → o ≡ Some x → IsCount earlier s.names c (call x).said) → IsCount earlier s.names c (if_known s o call).said
  unfolding if_known
  count-known c None call unknown each = unknown
  count-known c (Some x) call unknown each = each x refl

  count-held : (c : Command) (o : Option ℕ) (call : ℕ → Replied) → IsCount earlier s.names c said.Away →
      ((n : ℕ) → o ≡ Some n → IsCount earlier s.names c (call n).said) → IsCount earlier s.names c (if_held s o call).said
  unfolding if_held
  count-held c None call away each = away
  count-held c (Some n) call away each = each n refl

  -- what a name is bound to is one end
  one-end : (name : List ℕ) (end : End) (count : End → ℕ) (k : ℕ) → get s.names name ≡ Some end → k ≡ count end →
      (e : End) → get s.names name ≡ Some e → k ≡ count e
  one-end name end count k bound is e other = is ∙ ap count (same_Some end e (sym bound ∙ other))

  count-put : (name text : List ℕ) (attached : List (List ℕ)) (end : End) (ends : List End) (n : ℕ) (reply : Reply) (c : Books) →
      get s.names name ≡ Some end → holder_of s.world end ≡ Some n → Plain at.books (steps.Put n end text ends) reply c →
      IsCount earlier s.names (commands.Put name text attached) (answer_to reply)
  unfolding IsCount answer_to
  count-put name text attached end ends n (replies.Put k) c bound there p =
      one-end name end (λ e. length (puts_in earlier e)) k bound (p.0 ∙ put-count end n there)
  count-put name text attached end ends n (replies.Opened d e) c bound there p = tt
  count-put name text attached end ends n (replies.Got k q) c bound there p = tt
  count-put name text attached end ends n (replies.Closed k) c bound there p = tt
  count-put name text attached end ends n (replies.Turned event) c bound there p = tt
  count-put name text attached end ends n (replies.Refused why) c bound there p = tt

  count-got : (name : List ℕ) (end : End) (n : ℕ) (reply : Reply) (c : Books) → get s.names name ≡ Some end →
      holder_of s.world end ≡ Some n →
      Plain at.books (steps.Get n end) reply c → IsCount earlier s.names (commands.Get name) (answer_to reply)
  unfolding IsCount answer_to
  count-got name end n (replies.Got k q) c bound there p =
      one-end name end (λ e. length (gots_in earlier e)) k bound (p.0 ∙ got-count end n there)
  count-got name end n (replies.Opened d e) c bound there p = tt
  count-got name end n (replies.Put k) c bound there p = tt
  count-got name end n (replies.Closed k) c bound there p = tt
  count-got name end n (replies.Turned event) c bound there p = tt
  count-got name end n (replies.Refused why) c bound there p = tt

  count-close : (name : List ℕ) (end : End) (n : ℕ) (reply : Reply) (c : Books) → get s.names name ≡ Some end →
      holder_of s.world end ≡ Some n → Plain at.books (steps.Close n end) reply c →
      IsCount earlier s.names (commands.Close name) (answer_to reply)
  unfolding IsCount answer_to
  count-close name end n (replies.Closed k) c bound there p =
      one-end name end (λ e. length (puts_in earlier e)) k bound (p.0 ∙ put-count end n there)
  count-close name end n (replies.Opened d e) c bound there p = tt
  count-close name end n (replies.Put k) c bound there p = tt
  count-close name end n (replies.Got k q) c bound there p = tt
  count-close name end n (replies.Turned event) c bound there p = tt
  count-close name end n (replies.Refused why) c bound there p = tt

  count-command : (c : Command) (answer : Said) (t : Session) → Runs s c answer t → IsCount earlier s.names c answer
  unfolding IsCount
  count-command (commands.Put name text attached) answer t is =
      subst (IsCount earlier s.names (commands.Put name text attached)) (sym is.0)
      (count-known (commands.Put name text attached) (get s.names name) _ tt
      (λ end bound. count-known (commands.Put name text attached) (ends_of s.names attached) _ tt
      (λ ends known. count-held (commands.Put name text attached) (holder_of s.world end) _ tt
      (λ n there. count-put name text attached end ends n (first_step s.world (steps.Put n end text ends)).reply _ bound there
      (plain (steps.Put n end text ends) refl)))))
  count-command (commands.Get name) answer t is =
      subst (IsCount earlier s.names (commands.Get name)) (sym is.0)
      (count-known (commands.Get name) (get s.names name) _ tt
      (λ end bound. count-held (commands.Get name) (holder_of s.world end) _ tt
      (λ n there. count-got name end n (first_step s.world (steps.Get n end)).reply _ bound there (plain (steps.Get n end) refl))))
  count-command (commands.Close name) answer t is =
      subst (IsCount earlier s.names (commands.Close name)) (sym is.0)
      (count-known (commands.Close name) (get s.names name) _ tt
      (λ end bound. count-held (commands.Close name) (holder_of s.world end) _ tt
      (λ n there. count-close name end n (first_step s.world (steps.Close n end)).reply _ bound there (plain (steps.Close n end) refl))))
  count-command other answer t is = tt

-- a command within a script, and those before it
pub split : (s : Session) (cs : List Command) (earlier : List Answered) (a : Answered) (later : List Answered) (t : Session) →
    AreAnswered s cs (earlier ++ a ∷ later) t → (front : List Command) × AreAnswered s front earlier a.before ×
    Runs a.before a.command a.said a.after
split s [] [] a later t is = absurd is
split s [] (x ∷ earlier) a later t is = absurd is
split s (c ∷ cs) [] a later t is =
    ([], is.0, subst (λ x. Runs x a.command a.said a.after) (sym is.0) (subst (λ x. Runs s x a.said a.after) (sym is.1) is.2))
split s (c ∷ cs) (x ∷ earlier) a later t is =
    let more = split x.after cs earlier a later t is.3 in
    (c ∷ more.0, (is.0, is.1, is.2, more.1), more.2)

pub numbers_count_up : NumbersCountUp
numbers_count_up nodes words cs earlier a later t limits is =
    let parts = split (new_session nodes words) cs earlier a later t is in
    count-command nodes words a.before earlier (kept-script nodes words parts.0 earlier a.before limits parts.1)
    a.command a.said a.after parts.2
