-- Why the names in what is said are names: each end that travels has one.
use Rattle.std.proofs.Common.{◌≡◌, ◌∙◌, ◌+◌, ◌≤◌, ℕ, zero, suc, Bool, true, false, cond, List, [], ◌∷◌, ◌++◌, map, length, Option, Some}
use Rattle.std.proofs.Common.{None, refl, sym, ap, subst, append_assoc, arith}
use Rattle.std.specs.Prelude.{slice_get, unwrap_or, option_and_then, option_map, ◌&&◌}
use Rattle.std.specs.List.{AllByRecursion, list_all}
use Rattle.std.specs.Fmt.{digits}
use Rattle.std.specs.Ordering.{eq_by_cmp, nat_cmp}
use Rattle.std.specs.Cmp.Lexicographic.{nat_list_cmp_total, slice_cmp}
use Rattle.std.specs.FinMap.{get, get-insert, get-empty}
use Rattle.std.proofs.lemmas.Bool.{and_parts}
use Rattle.std.proofs.lemmas.Option.{same_Some}
use Rattle.ipcz_base.specs.declared.side.Side.TheVariants.{A, B}
use Rattle.ipcz_base.specs.declared.end.End.{End}
use Rattle.ipcz_base.specs.declared.parcel.Parcel as parcels
use Rattle.ipcz_base.specs.Ends.{end_at, opposite_end}
use Rattle.ipcz_base.specs.Orders.{end_cmp}
use Rattle.ipcz_base.proofs.Orders.{end_total}
use Rattle.ipcz_node.specs.FirstPairs.{first_pairs}
use Rattle.ipcz_world.specs.declared.step.Step.TheVariants as steps
use Rattle.ipcz_world.specs.declared.step.Reply.{Reply}
use Rattle.ipcz_world.specs.declared.step.Reply.TheVariants as replies
use Rattle.ipcz_world.specs.World.{new_world}
use Rattle.ipcz_world.specs.Steps.{first_step}
use Rattle.ipcz_script.specs.ScriptLimits.{HasScriptLimits}
use Rattle.ipcz_script.specs.declared.command.Command.{Command}
use Rattle.ipcz_script.specs.declared.command.Command.TheVariants as commands
use Rattle.ipcz_script.specs.declared.said.Said.{Said}
use Rattle.ipcz_script.specs.declared.said.Said.TheVariants as said
use Rattle.ipcz_script.specs.Bindings.{Titles}
use Rattle.ipcz_script.specs.Lines.{title_of, turn_text}
use Rattle.ipcz_script.specs.Sessions.{Session, Replied, Runs, bind, bind_pair, bind_pairs, ends_of, if_held, if_known, name_pair, nameless}
use Rattle.ipcz_script.specs.Sessions.{new_session, replied_get, with_world}
use Rattle.ipcz_script.specs.Labels.{pair_name}
use Rattle.ipcz_script.specs.Transcript.{Answered, AreAnswered, lines_in}
use Rattle.ipcz_script.specs.ScriptNames.{is_name}
use Rattle.ipcz_script.specs.ScriptBooks.{gots_in, is_bound, parcel_of, put_said, puts_in}
use Rattle.ipcz_script.specs.ReadBack.{AreLines, HasNames, HaveNames}
use Rattle.ipcz_script.specs.Sayings as sayings
use Rattle.ipcz_script.specs.Sayings.{IsName, LinesSayAnswers, NamesAreNames, Saying, sayings_in, sayings_of}
use Rattle.ipcz_script.proofs.OpenNames.{title-new}
use Rattle.ipcz_script.proofs.LogLines.{script-lines}
use Rattle.ipcz_script.proofs.CountedLines.{got-is-next}
use Rattle.ipcz_script.proofs.SayingTexts.{log-texts}
use Rattle.ipcz_script.proofs.ScriptRuns.{Kept, kept-script, split}

-- ---- titles

-- an end has a name
abbrev pub IsTitled : Titles → End → Type 0
IsTitled titles e = IsName (title_of titles e)

-- each end that a name is bound to has one
abbrev pub AreTitled : Session → Type 0
AreTitled s = (name : List ℕ) (e : End) → get s.names name ≡ Some e → IsTitled s.titles e

-- an end that has a name keeps one
abbrev pub Stay : Session → Session → Type 0
Stay s t = (e : End) → IsTitled s.titles e → IsTitled t.titles e

-- what is so of the names before is so after
pub record Goes (s t : Session) : Type 0 where
  pub bound : AreTitled s → AreTitled t
  pub stay : Stay s t

goes-then : (s t u : Session) → Goes s t → Goes t u → Goes s u
goes-then s t u h k = record { bound = λ are. k.bound (h.bound are); stay = λ e is. k.stay e (h.stay e is) }

same-goes : (s t : Session) → t.names ≡ s.names → t.titles ≡ s.titles → Goes s t
same-goes s t names titles = record {
  bound = λ are name e h. subst (λ x. IsTitled x e) (sym titles) (are name e (ap (λ x. get x name) (sym names) ∙ h));
  stay = λ e is. subst (λ x. IsTitled x e) (sym titles) is;
}

bind-goes : (s : Session) (name : List ℕ) (end : End) → IsName name → Goes s (bind s name end)
bind-goes s name end is = record {
  bound = λ are q e h. bound are q e (eq_by_cmp (slice_cmp nat_cmp) q name) (sym (get-insert nat_list_cmp_total s.names name end q) ∙ h);
  stay = stay;
}
  where
    stay : (e : End) → IsTitled s.titles e → IsTitled (bind s name end).titles e
    stay e h = subst (λ o. IsName (unwrap_or o [])) (sym (get-insert end_total s.titles end name e)) (go (eq_by_cmp end_cmp e end))
      where
        go : (c : Bool) → IsName (unwrap_or (cond c (Some name) (get s.titles e)) [])
        go true = is
        go false = h

    bound : AreTitled s → (q : List ℕ) (e : End) (c : Bool) → cond c (Some end) (get s.names q) ≡ Some e →
        IsTitled (bind s name end).titles e
    bound are q e true h =
        subst (IsTitled (bind s name end).titles) (same_Some end e h) (subst IsName (sym (title-new s.titles end name)) is)
    bound are q e false h = stay e (are q e h)

-- ---- the start

-- the names of these pairs are names
abbrev ArePairNames : List (ℕ × ℕ) → Bool
ArePairNames ps = list_all (λ p. is_name (pair_name p.0 p.1) && is_name (pair_name p.1 p.0)) ps

pairs-go : (s : Session) (pair : ℕ) (ps : List (ℕ × ℕ)) → ArePairNames ps ≡ true → Goes s (bind_pairs s pair ps)
pairs-go s pair [] h = same-goes s s refl refl
pairs-go s pair (p ∷ ps) h =
    let t = and_parts (is_name (pair_name p.0 p.1) && is_name (pair_name p.1 p.0)) (ArePairNames ps) h in
    let u = and_parts (is_name (pair_name p.0 p.1)) (is_name (pair_name p.1 p.0)) t.0 in
    goes-then s (bind_pair s pair p.0 p.1) (bind_pairs s pair (p ∷ ps))
    (goes-then s (bind s (pair_name p.0 p.1) (end_at pair A)) (bind_pair s pair p.0 p.1)
    (bind-goes s (pair_name p.0 p.1) (end_at pair A) u.0)
    (bind-goes (bind s (pair_name p.0 p.1) (end_at pair A)) (pair_name p.1 p.0) (end_at pair B) u.1))
    (pairs-go (bind_pair s pair p.0 p.1) (pair + 1) ps t.1)

first-names : (nodes : ℕ) → nodes ≤ 8 → ArePairNames (first_pairs nodes) ≡ true
unfolding digits
first-names zero h = refl
first-names (suc zero) h = refl
first-names (suc (suc zero)) h = refl
first-names (suc (suc (suc zero))) h = refl
first-names (suc (suc (suc (suc zero)))) h = refl
first-names (suc (suc (suc (suc (suc zero))))) h = refl
first-names (suc (suc (suc (suc (suc (suc zero)))))) h = refl
first-names (suc (suc (suc (suc (suc (suc (suc zero))))))) h = refl
first-names (suc (suc (suc (suc (suc (suc (suc (suc zero)))))))) h = refl
first-names (suc (suc (suc (suc (suc (suc (suc (suc (suc n))))))))) h = absurd (omega (arith, h))

start-titled : (nodes words : ℕ) → HasScriptLimits nodes words → AreTitled (new_session nodes words)
start-titled nodes words limits =
    (pairs-go (nameless (new_world nodes words)) 0 (first_pairs nodes) (first-names nodes limits.few)).bound
    (λ name e h. let never : None ≡ Some e = sym (get-empty (slice_cmp nat_cmp) name) ∙ h in cc)

-- ---- one command

opened-goes : (s : Session) (first second : List ℕ) (reply : Reply) → IsName first → IsName second → Goes s (name_pair s first second reply)
unfolding name_pair
opened-goes s first second (replies.Opened a b) f g =
    goes-then s (bind s first a) (bind (bind s first a) second b) (bind-goes s first a f) (bind-goes (bind s first a) second b g)
opened-goes s first second (replies.Put n) f g = same-goes s s refl refl
opened-goes s first second (replies.Got n p) f g = same-goes s s refl refl
opened-goes s first second (replies.Closed n) f g = same-goes s s refl refl
opened-goes s first second (replies.Turned event) f g = same-goes s s refl refl
opened-goes s first second (replies.Refused why) f g = same-goes s s refl refl

known-goes : {X : Type 0} (s : Session) (o : Option X) (call : X → Replied) → ((x : X) → Goes s (call x).session) →
    Goes s (if_known s o call).session
unfolding if_known
known-goes s None call each = same-goes s s refl refl
known-goes s (Some x) call each = each x

held-goes : (s : Session) (o : Option ℕ) (call : ℕ → Replied) → ((n : ℕ) → Goes s (call n).session) → Goes s (if_held s o call).session
unfolding if_held
held-goes s None call each = same-goes s s refl refl
held-goes s (Some n) call each = each n

pub runs-goes : (s : Session) (c : Command) (answer : Said) (t : Session) → Runs s c answer t → HasNames c → Goes s t
runs-goes s (commands.Open node first second) answer t is h =
    let w = (first_step s.world (steps.Open node)).world in
    subst (Goes s) (sym is.1) (goes-then s (with_world s w) _ (same-goes s (with_world s w) refl refl)
    (opened-goes (with_world s w) first second (first_step s.world (steps.Open node)).reply h.0 h.1))
runs-goes s (commands.Put at text attached) answer t is h =
    subst (Goes s) (sym is.1) (known-goes s _ _ (λ end. known-goes s _ _ (λ ends. held-goes s _ _
    (λ n. same-goes s (with_world s (first_step s.world (steps.Put n end text ends)).world) refl refl))))
runs-goes s (commands.Get at) answer t is h =
    subst (Goes s) (sym is.1) (known-goes s _ _ (λ end. held-goes s _ _
    (λ n. same-goes s (with_world s (first_step s.world (steps.Get n end)).world) refl refl)))
runs-goes s (commands.Close at) answer t is h =
    subst (Goes s) (sym is.1) (known-goes s _ _ (λ end. held-goes s _ _
    (λ n. same-goes s (with_world s (first_step s.world (steps.Close n end)).world) refl refl)))
runs-goes s (commands.Turn node count) answer t is h = subst (Goes s) (sym is.1) (same-goes s (with_world s t.world) refl refl)
runs-goes s (commands.Settle limit) answer t is h = subst (Goes s) (sym is.1) (same-goes s (with_world s t.world) refl refl)
runs-goes s commands.Show answer t is h = subst (Goes s) (sym is.1) (same-goes s s refl refl)

-- ---- what was put has titled ends

abbrev pub HaveTitles : Titles → List End → Type 0
HaveTitles titles es = AllByRecursion (IsTitled titles) es

abbrev pub AreOfTitled : Session → List parcels.Parcel → Type 0
AreOfTitled s ps = AllByRecursion (λ p. HaveTitles s.titles p.ends) ps

ends-stay : (s t : Session) (es : List End) → Stay s t → HaveTitles s.titles es → HaveTitles t.titles es
ends-stay s t [] stay h = tt
ends-stay s t (e ∷ es) stay h = (stay e h.0, ends-stay s t es stay h.1)

pub parcels-stay : (s t : Session) (ps : List parcels.Parcel) → Stay s t → AreOfTitled s ps → AreOfTitled t ps
parcels-stay s t [] stay h = tt
parcels-stay s t (p ∷ ps) stay h = (ends-stay s t p.ends stay h.0, parcels-stay s t ps stay h.1)

parcels-append : (s : Session) (ps qs : List parcels.Parcel) → AreOfTitled s ps → AreOfTitled s qs → AreOfTitled s (ps ++ qs)
parcels-append s [] qs h k = k
parcels-append s (p ∷ ps) qs h k = (h.0, parcels-append s ps qs h.1 k)

bound-ends : (s : Session) (names : List (List ℕ)) → AreTitled s → HaveTitles s.titles (unwrap_or (ends_of s.names names) [])
bound-ends s [] are = tt
bound-ends s (name ∷ names) are = go (get s.names name) (ends_of s.names names) (λ e h. are name e h) (bound-ends s names are)
  where
    go : (o : Option End) (rest : Option (List End)) → ((e : End) → o ≡ Some e → IsTitled s.titles e) →
        HaveTitles s.titles (unwrap_or rest []) →
        HaveTitles s.titles (unwrap_or (option_and_then (λ y. option_map (λ ys. y ∷ ys) rest) o) [])
    go None rest h k = tt
    go (Some e) None h k = tt
    go (Some e) (Some es) h k = (h e refl, k)

put-titled : (s : Session) (c : Command) (answer : Said) (e : End) → AreTitled s → AreOfTitled s (put_said s.names c answer e)
unfolding put_said
put-titled s (commands.Put at text attached) (said.Put n) e are = go (is_bound s.names at e)
  where
    go : (b : Bool) → AreOfTitled s (cond b (parcel_of s.names text attached ∷ []) [])
    go true = (bound-ends s attached are, tt)
    go false = tt
put-titled s c answer e are = tt

-- what was put in a part of a script, by the names at its end; and these go on as before
pub record Titled (s t : Session) (log : List Answered) : Type 0 where
  pub bound : AreTitled t
  pub stay : Stay s t
  pub puts : (e : End) → AreOfTitled t (puts_in log e)

-- the commands of these answers have names
abbrev pub LogNames : List Answered → Type 0
LogNames log = AllByRecursion (λ a. HasNames a.command) log

pub log-names : (s : Session) (cs : List Command) (log : List Answered) (t : Session) → AreAnswered s cs log t → HaveNames cs → LogNames log
log-names s [] [] t is h = tt
log-names s [] (a ∷ log) t is h = absurd is
log-names s (c ∷ cs) [] t is h = absurd is
log-names s (c ∷ cs) (a ∷ log) t is h = (subst HasNames (sym is.1) h.0, log-names a.after cs log t is.3 h.1)

pub log-titled : (s : Session) (cs : List Command) (log : List Answered) (t : Session) → AreAnswered s cs log t → LogNames log →
    AreTitled s → Titled s t log
log-titled s [] [] t is h are = record {
  bound = subst AreTitled (sym is) are;
  stay = λ e x. subst (λ u. IsTitled u.titles e) (sym is) x;
  puts = λ e. tt;
}
log-titled s [] (a ∷ log) t is h are = absurd is
log-titled s (c ∷ cs) [] t is h are = absurd is
log-titled s (c ∷ cs) (a ∷ log) t is h are =
    let goes = runs-goes s c a.said a.after is.2 (subst HasNames is.1 h.0) in
    let more = log-titled a.after cs log t is.3 h.1 (goes.bound are) in
    record {
      bound = more.bound;
      stay = λ e x. more.stay e (goes.stay e x);
      puts = λ e. parcels-append t (put_said a.before.names a.command a.said e) (puts_in log e)
          (parcels-stay s t (put_said a.before.names a.command a.said e) (λ d x. more.stay d (goes.stay d x))
          (subst (λ x. AreOfTitled s (put_said x.names a.command a.said e)) (sym is.0) (put-titled s a.command a.said e are)))
          (more.puts e);
    }

pub script-titled : (nodes words : ℕ) (cs : List Command) (log : List Answered) (t : Session) → HasScriptLimits nodes words →
    AreAnswered (new_session nodes words) cs log t → LogNames log → Titled (new_session nodes words) t log
script-titled nodes words cs log t limits is h = log-titled (new_session nodes words) cs log t is h (start-titled nodes words limits)

-- ---- what is said

next-titled : (titles : Titles) (ps : List parcels.Parcel) (n : ℕ) (p : parcels.Parcel) →
    AllByRecursion (λ p. HaveTitles titles p.ends) ps → slice_get ps n ≡ Some p → HaveTitles titles p.ends
next-titled titles [] n p h e = cc
next-titled titles (q ∷ ps) zero p h e = subst (λ x. HaveTitles titles x.ends) (same_Some q p e) h.0
next-titled titles (q ∷ ps) (suc n) p h e = next-titled titles ps n p h.1 e

titles-names : (titles : Titles) (es : List End) → HaveTitles titles es → AllByRecursion IsName (map (title_of titles) es)
titles-names titles [] h = tt
titles-names titles (e ∷ es) h = (h.0, titles-names titles es h.1)

-- the parcel of a get that got one has ends with names
got-titled : (nodes words : ℕ) (s : Session) (log : List Answered) (at : Kept nodes words s.world (puts_in log) (gots_in log))
    (name : List ℕ) (k : ℕ) (p : parcels.Parcel) (t : Session) → Runs s (commands.Get name) (said.Got k p) t →
    ((e : End) → AreOfTitled s (puts_in log e)) → HaveTitles s.titles p.ends
unfolding if_known
got-titled nodes words s log at name k p t run puts = go (get s.names name) refl
  where
    go : (o : Option End) → get s.names name ≡ o → HaveTitles s.titles p.ends
    go None bound =
        let never : said.Got k p ≡ said.UnknownName = run.0 ∙ unbound in cc
      where
        unbound : (replied_get s name).said ≡ said.UnknownName
        unbound = rw bound refl
    go (Some e) bound =
        next-titled s.titles (puts_in log (opposite_end e)) (length (gots_in log e)) p (puts (opposite_end e))
        (got-is-next nodes words s log at name e k p t bound run)

turn-names : (node : ℕ) (rs : List Reply) → AllByRecursion NamesAreNames (map (λ reply. sayings.Turn node (turn_text reply)) rs)
turn-names node [] = tt
turn-names node (r ∷ rs) = (tt, turn-names node rs)

-- what is said of an answer, if the parcel of a get has ends with names
said-names : (titles : Titles) (c : Command) (answer : Said) → HasNames c →
    ((name : List ℕ) (k : ℕ) (p : parcels.Parcel) → c ≡ commands.Get name → answer ≡ said.Got k p → HaveTitles titles p.ends) →
    AllByRecursion NamesAreNames (sayings_of titles c answer)
unfolding sayings_of
said-names titles (commands.Open node a b) said.Opened h got = ((h.0, h.1, tt), tt)
said-names titles (commands.Open node a b) (said.Refused why) h got = ((h.0, h.1, tt), tt)
said-names titles (commands.Put at text attached) (said.Put n) h got = ((h, tt), tt)
said-names titles (commands.Put at text attached) said.UnknownName h got = ((h, tt), tt)
said-names titles (commands.Put at text attached) said.Away h got = ((h, tt), tt)
said-names titles (commands.Put at text attached) (said.Refused why) h got = ((h, tt), tt)
said-names titles (commands.Get at) (said.Got n p) h got = ((h, titles-names titles p.ends (got at n p refl refl)), tt)
said-names titles (commands.Get at) said.UnknownName h got = ((h, tt), tt)
said-names titles (commands.Get at) said.Away h got = ((h, tt), tt)
said-names titles (commands.Get at) (said.Refused why) h got = ((h, tt), tt)
said-names titles (commands.Close at) (said.Closed n) h got = ((h, tt), tt)
said-names titles (commands.Close at) said.UnknownName h got = ((h, tt), tt)
said-names titles (commands.Close at) said.Away h got = ((h, tt), tt)
said-names titles (commands.Close at) (said.Refused why) h got = ((h, tt), tt)
said-names titles (commands.Turn node count) (said.Turned rs) h got = turn-names node rs
said-names titles (commands.Settle limit) said.Settled h got = (tt, tt)
said-names titles (commands.Settle limit) said.Unsettled h got = (tt, tt)
said-names titles commands.Show (said.Words ws) h got = (tt, tt)
said-names titles c answer h got = tt

all-append : (xs ys : List Saying) → AllByRecursion NamesAreNames xs → AllByRecursion NamesAreNames ys →
    AllByRecursion NamesAreNames (xs ++ ys)
all-append [] ys h k = k
all-append (x ∷ xs) ys h k = (h.0, all-append xs ys h.1 k)

front-names : (xs ys : List Answered) → LogNames (xs ++ ys) → LogNames xs
front-names [] ys h = tt
front-names (x ∷ xs) ys h = (h.0, front-names xs ys h.1)

back-names : (xs ys : List Answered) → LogNames (xs ++ ys) → LogNames ys
back-names [] ys h = h
back-names (x ∷ xs) ys h = back-names xs ys h.1

-- the names in what is said of the answers behind some others
rest-names : (nodes words : ℕ) (cs : List Command) (earlier rest : List Answered) (t : Session) → HasScriptLimits nodes words →
    AreAnswered (new_session nodes words) cs (earlier ++ rest) t → LogNames (earlier ++ rest) →
    AllByRecursion NamesAreNames (sayings_in rest)
rest-names nodes words cs earlier [] t limits is h = tt
rest-names nodes words cs earlier (a ∷ rest) t limits is h =
    let parts = split (new_session nodes words) cs earlier a rest t is in
    let named : HasNames a.command = (back-names earlier (a ∷ rest) h).0 in
    let goes = runs-goes a.before a.command a.said a.after parts.2 named in
    let before = script-titled nodes words parts.0 earlier a.before limits parts.1 (front-names earlier (a ∷ rest) h) in
    let at = kept-script nodes words parts.0 earlier a.before limits parts.1 in
    let same : (earlier ++ a ∷ []) ++ rest ≡ earlier ++ a ∷ rest = append_assoc earlier (a ∷ []) rest in
    all-append (sayings_of a.after.titles a.command a.said) (sayings_in rest)
    (said-names a.after.titles a.command a.said named (λ name k p command answer.
    ends-stay a.before a.after p.ends goes.stay (got-titled nodes words a.before earlier at name k p a.after
    (subst (λ x. Runs a.before (commands.Get name) x a.after) answer (subst (λ x. Runs a.before x a.said a.after) command parts.2))
    before.puts)))
    (rest-names nodes words cs (earlier ++ a ∷ []) rest t limits
    (subst (λ l. AreAnswered (new_session nodes words) cs l t) (sym same) is) (subst LogNames (sym same) h))

pub lines_say_answers : LinesSayAnswers
lines_say_answers nodes words cs log t limits h is = record {
  lines = subst (AreLines (lines_in log)) (log-texts (new_session nodes words) cs log t is)
      (script-lines nodes words cs log t limits h is);
  names = rest-names nodes words cs [] log t limits is (log-names (new_session nodes words) cs log t is h);
}
