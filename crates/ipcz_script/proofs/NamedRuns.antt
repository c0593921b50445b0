-- What the names of a script that is read are bound to, all through its run.
use Rattle.std.proofs.Common.{◌≡◌, ◌∙◌, ◌⊎◌, ◌++◌, ap, sym, refl, subst, inl, inr, ℕ, Bool, true, false, List, [], ◌∷◌}
use Rattle.std.proofs.Common.{Option, Some, None}
use Rattle.std.specs.Prelude.{◌||◌, ◌&&◌, bytes_eq, nat_eq, not}
use Rattle.std.specs.List.{AllByRecursion, list_any}
use Rattle.std.specs.FinMap.{get}
use Rattle.std.proofs.lemmas.Slice.Eq.{bytes_eq-Decides}
use Rattle.ipcz_base.specs.declared.side.Side.TheVariants.{A, B}
use Rattle.ipcz_base.specs.declared.end.End.{End}
use Rattle.ipcz_base.specs.Ends.{end_at}
use Rattle.ipcz_world.specs.declared.step.Step.TheVariants as steps
use Rattle.ipcz_world.specs.declared.step.Reply.{Reply}
use Rattle.ipcz_world.specs.World.{World, new_world}
use Rattle.ipcz_world.specs.Routes.{first_routes}
use Rattle.ipcz_world.specs.Steps.{first_step}
use Rattle.ipcz_world.specs.Holding.{holder_of}
use Rattle.ipcz_script.specs.ScriptLimits.{HasScriptLimits}
use Rattle.ipcz_node.specs.FirstPairs.{first_pairs}
use Rattle.ipcz_script.specs.declared.command.Command.{Command}
use Rattle.ipcz_script.specs.declared.command.Command.TheVariants as commands
use Rattle.ipcz_script.specs.declared.said.Said.{Said}
use Rattle.ipcz_script.specs.Bindings.{Bindings, Titles}
use Rattle.ipcz_script.specs.Lines.{title_of}
use Rattle.ipcz_script.specs.Sessions.{Session, Replied, Runs, ends_of, if_held, if_known, name_pair, nameless, new_session, with_world}
use Rattle.ipcz_script.specs.Transcript.{Answered, AreAnswered}
use Rattle.ipcz_script.specs.ScriptNames.{has_angle, is_taken, opens}
use Rattle.ipcz_script.proofs.ScriptRuns.{bind_pairs-world, first-step}
use Rattle.ipcz_script.proofs.NewNames.{HaveNew, IsNew, OpensNew}
use Rattle.ipcz_script.proofs.LinkedPairs.{Linked, OpensNext, fewer-linked, open-linked, open-next, runs-keep, start-linked, step-linked}
use Rattle.ipcz_script.proofs.BoundNames.{AreTold, Binds, Entry, HasEntry, IsBound, IsFree, Stays, are_apart, bind_all, binds-all}
use Rattle.ipcz_script.proofs.BoundNames.{start-binds, start-good}

-- a name is bound to an end of this pair
abbrev pub NamesPair : Session → ℕ → Type 0
NamesPair s pair = (name : List ℕ) × (e : End) × IsBound s name e × (e.pair ≡ pair)

-- what holds of the names once these commands have run: each end prints as its name, each name is that of a first pair or of an open, and
-- their pairs have links
pub record AreNames (nodes words : ℕ) (before : List Command) (s : Session) : Type 0 where
  pub told : AreTold s
  pub known : (name : List ℕ) (e : End) → IsBound s name e → (has_angle name ≡ true) ⊎ (is_taken before name ≡ true)
  pub linked : Linked nodes words (NamesPair s) s.world

pub start-names : (nodes words : ℕ) → HasScriptLimits nodes words → AreNames nodes words [] (new_session nodes words)
start-names nodes words limits = record {
  told = (start-binds nodes words limits.few).told;
  known = λ name e h. inl (start-good nodes words limits.few name e h).0;
  linked = subst (Linked nodes words (NamesPair (new_session nodes words)))
      (sym (bind_pairs-world (nameless (new_world nodes words)) 0 (first_pairs nodes)))
      (start-linked nodes words (NamesPair (new_session nodes words)) limits
      (λ pair h. subst (λ x. (first_routes nodes).is_link x ≡ true) h.3
      (start-good nodes words limits.few h.0 h.1 h.2).1));
}

pub start-told : (nodes words : ℕ) → HasScriptLimits nodes words → AreTold (new_session nodes words)
start-told nodes words limits = (start-names nodes words limits).told

-- ---- one command

any-more : {X : Type 0} (p : X → Bool) (xs : List X) (x : X) → (list_any p xs ≡ true) ⊎ (p x ≡ true) → list_any p (xs ++ x ∷ []) ≡ true
any-more p [] x (inl h) = let never : false ≡ true = h in cc
any-more p [] x (inr h) = rw h refl
any-more p (y ∷ xs) x h = go (p y) h (any-more p xs x)
  where
    go : (b : Bool) → (b || list_any p xs ≡ true) ⊎ (p x ≡ true) →
        ((list_any p xs ≡ true) ⊎ (p x ≡ true) → list_any p (xs ++ x ∷ []) ≡ true) → b || list_any p (xs ++ x ∷ []) ≡ true
    go true k rest = refl
    go false k rest = rest k

-- a command that binds no name
same-names : (nodes words : ℕ) (before : List Command) (c : Command) (s t : Session) → t.names ≡ s.names → t.titles ≡ s.titles →
    AreNames nodes words before s → Linked nodes words (NamesPair s) t.world → AreNames nodes words (before ++ c ∷ []) t × Stays s t
same-names nodes words before c s t names titles are linked = (
  record {
    told = λ name e h. ap (λ x. title_of x e) titles ∙ are.told name e (back name e h);
    known = λ name e h. elim (are.known name e (back name e h)) [
      | inl angle ↦ inl angle
      | inr taken ↦ inr (any-more (opens name) before c (inl taken))
    ];
    linked = fewer-linked nodes words (NamesPair s) (NamesPair t) t.world (λ pair h. (h.0, h.1, back h.0 h.1 h.2, h.3)) linked;
  },
  λ name e h. ap (λ x. get x name) names ∙ h,
)
  where
    back : (name : List ℕ) (e : End) → IsBound t name e → IsBound s name e
    back name e h = ap (λ x. get x name) (sym names) ∙ h

same-bytes : (a b : List ℕ) → a ≡ b → bytes_eq a b ≡ true
same-bytes a b e = (bytes_eq-Decides a b).1 e

and-no : (b : Bool) → b && false ≡ false
and-no true = refl
and-no false = refl

-- an open that succeeds binds two free names to two free ends
module _ (nodes words : ℕ) (before : List Command) (s : Session) (node : ℕ) (first second : List ℕ) (are : AreNames nodes words before s)
    (new : OpensNew (is_taken before) (commands.Open node first second)) where
  abbrev w : World
  w = (first_step s.world (steps.Open node)).world

  abbrev c : Command
  c = commands.Open node first second

  -- a new name isn't bound
  unbound : (name : List ℕ) → IsNew (is_taken before) name → (e : End) → IsBound s name e → ⊥
  unbound name is e h = elim (are.known name e h) [
    | inl angle ↦ let never : true ≡ false = sym angle ∙ is.plain in cc
    | inr taken ↦ let never : true ≡ false = sym taken ∙ is.free in cc
  ]

  abbrev entries : ℕ → List Entry
  entries i = (first, end_at i A) ∷ (second, end_at i B) ∷ []

  entries-apart : (i : ℕ) → are_apart (entries i) ≡ true
  entries-apart i = λ k. not ((new.2 k || and-no (nat_eq i i) k) || false) && (not false && true)

  opens-first : (name : List ℕ) → name ≡ first → opens name c ≡ true
  opens-first name same = ap (λ b. b || bytes_eq second name) (same-bytes first name (sym same))

  or-true : (b : Bool) → b || true ≡ true
  or-true true = refl
  or-true false = refl

  opens-second : (name : List ℕ) → name ≡ second → opens name c ≡ true
  opens-second name same = ap (λ b. bytes_eq first name || b) (same-bytes second name (sym same)) ∙ or-true (bytes_eq first name)

  has-opens : (i : ℕ) (name : List ℕ) (e : End) → HasEntry (entries i) name e → (opens name c ≡ true) × (e.pair ≡ i)
  has-opens i name e (inl same) = (opens-first name same.0, ap (λ d. d.pair) same.1)
  has-opens i name e (inr (inl same)) = (opens-second name same.0, ap (λ d. d.pair) same.1)
  has-opens i name e (inr (inr none)) = absurd none

  opened : (i : ℕ) → ((pair : ℕ) → NamesPair s pair → pair ≡ i → ⊥) → Linked nodes words (λ pair. NamesPair s pair ⊎ (pair ≡ i)) w →
      AreNames nodes words (before ++ c ∷ []) (bind_all (with_world s w) (entries i)) × Stays s (bind_all (with_world s w) (entries i))
  opened i apart linked = (
    record {
      told = binds.told;
      known = λ name e h. known name e (binds.parts name e h);
      linked = fewer-linked nodes words (λ pair. NamesPair s pair ⊎ (pair ≡ i)) (NamesPair (bind_all (with_world s w) (entries i))) w
          (λ pair h. pairs pair h.0 h.1 h.3 (binds.parts h.0 h.1 h.2)) linked;
    },
    λ name e h. binds.stays name e h,
  )
    where
      free : (name : List ℕ) (e : End) → e.pair ≡ i → IsNew (is_taken before) name → IsFree (with_world s w) (name, e)
      free name e of_pair is = record { name = unbound name is; end = λ q h. apart i (q, e, h, of_pair) refl }

      binds : Binds (with_world s w) (bind_all (with_world s w) (entries i)) (entries i)
      binds = binds-all (with_world s w) (entries i) (entries-apart i)
          (free first (end_at i A) refl new.0, (free second (end_at i B) refl new.1, tt)) are.told

      known : (name : List ℕ) (e : End) → HasEntry (entries i) name e ⊎ IsBound s name e →
          (has_angle name ≡ true) ⊎ (is_taken (before ++ c ∷ []) name ≡ true)
      known name e (inl has) = inr (any-more (opens name) before c (inr (has-opens i name e has).0))
      known name e (inr old) = elim (are.known name e old) [
        | inl angle ↦ inl angle
        | inr taken ↦ inr (any-more (opens name) before c (inl taken))
      ]

      pairs : (pair : ℕ) (name : List ℕ) (e : End) → e.pair ≡ pair → HasEntry (entries i) name e ⊎ IsBound s name e →
          NamesPair s pair ⊎ (pair ≡ i)
      pairs pair name e of_pair (inl has) = inr (sym of_pair ∙ (has-opens i name e has).1)
      pairs pair name e of_pair (inr old) = inl (name, e, old, of_pair)

  abbrev Named : Session → Type 0
  Named t = AreNames nodes words (before ++ c ∷ []) t × Stays s t

  opened-names : (reply : Reply) → reply ≡ (first_step s.world (steps.Open node)).reply → OpensNext s.world node reply →
      Named (name_pair (with_world s w) first second reply)
  unfolding name_pair
  opened-names reply same (inl h) =
      let linked = open-linked nodes words (NamesPair s) s.world node h.0 are.linked (sym same ∙ h.1) h.2 in
      subst (λ r. Named (name_pair (with_world s w) first second r)) (sym h.1) (opened h.0 linked.0 linked.1)
  opened-names reply same (inr h) =
      subst (λ r. Named (name_pair (with_world s w) first second r)) (sym h.1)
      (same-names nodes words before c s (with_world s w) refl refl are
      (step-linked nodes words (NamesPair s) s.world w (steps.Open node) (first_step s.world (steps.Open node)).reply
      (first-step s.world (steps.Open node) refl) are.linked))

-- a call leaves names as they are
abbrev Labels : Type 0
Labels = Bindings × Titles

abbrev labels_of : Session → Labels
labels_of s = (s.names, s.titles)

known-same : {X : Type 0} (s : Session) (o : Option X) (call : X → Replied) → ((x : X) → labels_of (call x).session ≡ labels_of s) →
    labels_of (if_known s o call).session ≡ labels_of s
unfolding if_known
known-same s None call each = refl
known-same s (Some x) call each = each x

held-same : (s : Session) (o : Option ℕ) (call : ℕ → Replied) → ((n : ℕ) → labels_of (call n).session ≡ labels_of s) →
    labels_of (if_held s o call).session ≡ labels_of s
unfolding if_held
held-same s None call each = refl
held-same s (Some n) call each = each n

pub command-names : (nodes words : ℕ) (before : List Command) (s : Session) (c : Command) (answer : Said) (t : Session) →
    Runs s c answer t → OpensNew (is_taken before) c → AreNames nodes words before s →
    AreNames nodes words (before ++ c ∷ []) t × Stays s t
command-names nodes words before s c answer t is new are = go c is new
  where
    same : (d : Command) → Runs s d answer t → labels_of t ≡ labels_of s → AreNames nodes words (before ++ d ∷ []) t × Stays s t
    same d run labels =
        same-names nodes words before d s t (ap (λ l. l.0) labels) (ap (λ l. l.1) labels) are
        (runs-keep (Linked nodes words (NamesPair s)) (step-linked nodes words (NamesPair s)) s d answer t run are.linked)

    go : (d : Command) → Runs s d answer t → OpensNew (is_taken before) d → AreNames nodes words (before ++ d ∷ []) t × Stays s t
    go (commands.Open node first second) run free =
        subst (λ x. AreNames nodes words (before ++ commands.Open node first second ∷ []) x × Stays s x) (sym run.1)
        (opened-names nodes words before s node first second are free (first_step s.world (steps.Open node)).reply refl
        (open-next s.world node))
    go (commands.Put name text attached) run free =
        same (commands.Put name text attached) run (ap labels_of run.1 ∙ known-same s (get s.names name) _ (λ end.
        known-same s (ends_of s.names attached) _ (λ ends. held-same s (holder_of s.world end) _ (λ n. refl))))
    go (commands.Get name) run free =
        same (commands.Get name) run (ap labels_of run.1 ∙ known-same s (get s.names name) _ (λ end.
        held-same s (holder_of s.world end) _ (λ n. refl)))
    go (commands.Close name) run free =
        same (commands.Close name) run (ap labels_of run.1 ∙ known-same s (get s.names name) _ (λ end.
        held-same s (holder_of s.world end) _ (λ n. refl)))
    go (commands.Turn node count) run free = same (commands.Turn node count) run (ap labels_of run.1)
    go (commands.Settle limit) run free = same (commands.Settle limit) run (ap labels_of run.1)
    go commands.Show run free = same commands.Show run (ap labels_of run.1)

-- ---- all commands

-- an answer in a run to a session
pub record IsNamed (t : Session) (a : Answered) : Type 0 where
  pub told : AreTold a.after
  pub stays : Stays a.before t
  pub goes : Stays a.before a.after
  pub stays_after : Stays a.after t

-- a run from a session to another
pub record RunsNamed (s t : Session) (log : List Answered) : Type 0 where
  pub told : AreTold t
  pub stays : Stays s t
  pub each : AllByRecursion (IsNamed t) log

pub log-named : (nodes words : ℕ) (before : List Command) (s : Session) (cs : List Command) (log : List Answered) (t : Session) →
    AreAnswered s cs log t → HaveNew before cs → AreNames nodes words before s → RunsNamed s t log
log-named nodes words before s [] [] t is new are = record {
  told = subst AreTold (sym is) are.told;
  stays = λ name e h. subst (λ x. IsBound x name e) (sym is) h;
  each = tt;
}
log-named nodes words before s [] (a ∷ log) t is new are = absurd is
log-named nodes words before s (c ∷ cs) [] t is new are = absurd is
log-named nodes words before s (c ∷ cs) (a ∷ log) t is new are =
    let one = command-names nodes words before s c a.said a.after is.2 new.0 are in
    let more = log-named nodes words (before ++ c ∷ []) a.after cs log t is.3 new.1 one.0 in
    record {
      told = more.told;
      stays = λ name e h. more.stays name e (one.1 name e h);
      each = (
        record {
          told = one.0.told;
          stays = λ name e h. more.stays name e (one.1 name e (subst (λ x. IsBound x name e) is.0 h));
          goes = λ name e h. one.1 name e (subst (λ x. IsBound x name e) is.0 h);
          stays_after = more.stays;
        },
        more.each,
      );
    }

pub script-named : (nodes words : ℕ) (cs : List Command) (log : List Answered) (t : Session) → HasScriptLimits nodes words →
    HaveNew [] cs → AreAnswered (new_session nodes words) cs log t → RunsNamed (new_session nodes words) t log
script-named nodes words cs log t limits new is =
    log-named nodes words [] (new_session nodes words) cs log t is new (start-names nodes words limits)
