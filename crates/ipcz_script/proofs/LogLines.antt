-- The lines of a whole script: they are those of its answers.
use Rattle.std.proofs.Common.{◌≡◌, ◌∙◌, ◌+◌, ℕ, zero, suc, Bool, true, false, cond, List, [], ◌∷◌, ◌++◌, length, take, refl, sym, ap}
use Rattle.std.proofs.Common.{subst}
use Rattle.std.proofs.Common.{codes, Option, Some, None}
use Rattle.std.specs.Prelude.{unwrap_or, if◌then◌else◌, nat_lt}
use Rattle.std.specs.List.{AllByRecursion}
use Rattle.std.specs.Fmt.{decimal}
use Rattle.std.specs.Ordering.{eq_by_cmp}
use Rattle.std.specs.FinMap.{get, get-insert, get-empty}
use Rattle.ipcz_base.specs.declared.side.Side.TheVariants.{A, B}
use Rattle.ipcz_base.specs.declared.end.End.{End}
use Rattle.ipcz_base.specs.declared.parcel.Parcel as parcels
use Rattle.ipcz_base.specs.declared.refusal.Refusal.{Refusal}
use Rattle.ipcz_base.specs.declared.refusal.Refusal.TheVariants.{NoWord, Stranger}
use Rattle.ipcz_base.specs.Ends.{end_at, opposite_end}
use Rattle.ipcz_base.specs.Orders.{end_cmp}
use Rattle.ipcz_base.proofs.Orders.{end_total}
use Rattle.ipcz_node.specs.FirstPairs.{first_pairs}
use Rattle.ipcz_world.specs.declared.step.Step.TheVariants as steps
use Rattle.ipcz_world.specs.declared.step.Reply.{Reply}
use Rattle.ipcz_world.specs.declared.step.Reply.TheVariants as replies
use Rattle.ipcz_world.specs.World.{World, has_unclaimed_word, new_world, node_at, set_claimed}
use Rattle.ipcz_world.specs.Steps.{first_step, open_on, open_with, unless}
use Rattle.ipcz_script.specs.ScriptLimits.{HasScriptLimits}
use Rattle.ipcz_world.proofs.facts.LinkTests.{opposite_end-twice, same_end-itself}
use Rattle.ipcz_script.specs.declared.command.Command.{Command}
use Rattle.ipcz_script.specs.declared.command.Command.TheVariants as commands
use Rattle.ipcz_script.specs.declared.said.Said.{Said}
use Rattle.ipcz_script.specs.declared.said.Said.TheVariants as said
use Rattle.ipcz_script.specs.Sessions.{Session, Replied, Runs, answer_to, bind, bind_pair, bind_pairs, if_held, if_known, name_pair}
use Rattle.ipcz_script.specs.Sessions.{nameless}
use Rattle.ipcz_script.specs.Labels.{pair_name}
use Rattle.ipcz_script.specs.Sessions.{SettlesTo, TurnsTo, new_session, replied_get}
use Rattle.ipcz_script.specs.Transcript.{Answered, AreAnswered, lines_in}
use Rattle.ipcz_script.specs.ScriptBooks.{got_said, gots_in, is_bound, parcel_of, put_said, puts_in}
use Rattle.ipcz_script.specs.ScriptNames.{is_name}
use Rattle.ipcz_script.specs.ReadBack.{AreLines, HasNames, HaveNames, HaveNoFeeds, IsNamely, lacks, text_of}
use Rattle.ipcz_script.proofs.Feeds.{decimal_namely, feeds-append, namely, namely-append, text-append}
use Rattle.ipcz_script.proofs.PutData.{accepted-plain, held-all, known-all}
use Rattle.ipcz_script.proofs.Rows.{AreTitles, GotNoFeed, rows-feeds, rows-text, rows_of}
use Rattle.ipcz_script.proofs.ScriptRuns.{gets_follow_puts}

-- ---- titles

pair_title : (i j : ℕ) → IsNamely (pair_name i j)
pair_title i j = namely-append (decimal i ++ codes ">") (decimal j) (namely-append (decimal i) (codes ">") (decimal_namely i) refl)
    (decimal_namely j)

bind-titles : (s : Session) (name : List ℕ) (end : End) → IsNamely name → AreTitles s.titles → AreTitles (bind s name end).titles
bind-titles s name end is are e = subst (λ o. IsNamely (unwrap_or o [])) (sym (get-insert end_total s.titles end name e))
    (go (eq_by_cmp end_cmp e end))
  where
    go : (c : Bool) → IsNamely (unwrap_or (cond c (Some name) (get s.titles e)) [])
    go true = is
    go false = are e

pairs-titles : (s : Session) (pair : ℕ) (ps : List (ℕ × ℕ)) → AreTitles s.titles → AreTitles (bind_pairs s pair ps).titles
pairs-titles s pair [] are = are
pairs-titles s pair (p ∷ ps) are = pairs-titles (bind_pair s pair p.0 p.1) (pair + 1) ps
    (bind-titles (bind s (pair_name p.0 p.1) (end_at pair A)) (pair_name p.1 p.0) (end_at pair B) (pair_title p.1 p.0)
    (bind-titles s (pair_name p.0 p.1) (end_at pair A) (pair_title p.0 p.1) are))

start-titles : (nodes words : ℕ) → AreTitles (new_session nodes words).titles
start-titles nodes words = pairs-titles (nameless (new_world nodes words)) 0 (first_pairs nodes)
    (λ e. subst (λ o. IsNamely (unwrap_or o [])) (sym (get-empty end_cmp e)) refl)

named-titles : (s : Session) (first second : List ℕ) (reply : Reply) → is_name first ≡ true → is_name second ≡ true → AreTitles s.titles →
    AreTitles (name_pair s first second reply).titles
unfolding name_pair
named-titles s first second (replies.Opened a b) f g are = bind-titles (bind s first a) second b (namely second g)
    (bind-titles s first a (namely first f) are)
named-titles s first second other f g are = are

known-titles : {X : Type 0} (s : Session) (o : Option X) (call : X → Replied) → ((x : X) → (call x).session.titles ≡ s.titles) →
    (if_known s o call).session.titles ≡ s.titles
unfolding if_known
known-titles s None call each = refl
known-titles s (Some x) call each = each x

held-titles : (s : Session) (o : Option ℕ) (call : ℕ → Replied) → ((n : ℕ) → (call n).session.titles ≡ s.titles) →
    (if_held s o call).session.titles ≡ s.titles
unfolding if_held
held-titles s None call each = refl
held-titles s (Some n) call each = each n

pub runs-titles : (s : Session) (c : Command) (answer : Said) (t : Session) → Runs s c answer t → HasNames c → AreTitles s.titles →
    AreTitles t.titles
runs-titles s (commands.Open node first second) answer t is h are =
    subst (λ x. AreTitles x.titles) (sym is.1) (named-titles _ first second (first_step s.world (steps.Open node)).reply h.0 h.1 are)
runs-titles s (commands.Put at text attached) answer t is h are =
    subst AreTitles (sym (ap (λ x. x.titles) is.1 ∙ known-titles s _ _ (λ end. known-titles s _ _
    (λ ends. held-titles s _ _ (λ n. refl))))) are
runs-titles s (commands.Get at) answer t is h are =
    subst AreTitles (sym (ap (λ x. x.titles) is.1 ∙ known-titles s _ _ (λ end. held-titles s _ _ (λ n. refl)))) are
runs-titles s (commands.Close at) answer t is h are =
    subst AreTitles (sym (ap (λ x. x.titles) is.1 ∙ known-titles s _ _ (λ end. held-titles s _ _ (λ n. refl)))) are
runs-titles s (commands.Turn node count) answer t is h are = subst (λ x. AreTitles x.titles) (sym is.1) are
runs-titles s (commands.Settle limit) answer t is h are = subst (λ x. AreTitles x.titles) (sym is.1) are
runs-titles s commands.Show answer t is h are = subst (λ x. AreTitles x.titles) (sym is.1) are

-- ---- what is got was put

abbrev ArePlain : List parcels.Parcel → Type 0
ArePlain ps = AllByRecursion (λ p. lacks 10 p.bytes ≡ true) ps

plain-append : (ps qs : List parcels.Parcel) → ArePlain ps → ArePlain qs → ArePlain (ps ++ qs)
plain-append [] qs h k = k
plain-append (p ∷ ps) qs h k = (h.0, plain-append ps qs h.1 k)

plain-front : (ps qs : List parcels.Parcel) → ArePlain (ps ++ qs) → ArePlain ps
plain-front [] qs h = tt
plain-front (p ∷ ps) qs h = (h.0, plain-front ps qs h.1)

plain-back : (ps qs : List parcels.Parcel) → ArePlain (ps ++ qs) → ArePlain qs
plain-back [] qs h = h
plain-back (p ∷ ps) qs h = plain-back ps qs h.1

plain-take : (n : ℕ) (ps : List parcels.Parcel) → ArePlain ps → ArePlain (take n ps)
plain-take zero ps h = tt
plain-take (suc n) [] h = tt
plain-take (suc n) (p ∷ ps) h = (h.0, plain-take n ps h.1)

put-plain : (s : Session) (c : Command) (answer : Said) (t : Session) (e : End) → Runs s c answer t → ArePlain (put_said s.names c answer e)
unfolding put_said
put-plain s (commands.Put at text attached) (said.Put n) t e is = go (is_bound s.names at e)
  where
    go : (b : Bool) → ArePlain (cond b (parcel_of s.names text attached ∷ []) [])
    go true = (accepted-plain s at text attached n t is, tt)
    go false = tt
put-plain s c answer t e is = tt

puts-plain : (s : Session) (cs : List Command) (log : List Answered) (t : Session) → AreAnswered s cs log t → (e : End) →
    ArePlain (puts_in log e)
puts-plain s [] [] t is e = tt
puts-plain s [] (a ∷ log) t is e = absurd is
puts-plain s (c ∷ cs) [] t is e = absurd is
puts-plain s (c ∷ cs) (a ∷ log) t is e =
    plain-append (put_said a.before.names a.command a.said e) (puts_in log e)
    (put-plain a.before a.command a.said a.after e (subst (λ x. Runs x a.command a.said a.after) (sym is.0)
    (subst (λ x. Runs s x a.said a.after) (sym is.1) is.2))) (puts-plain a.after cs log t is.3 e)

gots-plain : (nodes words : ℕ) (cs : List Command) (log : List Answered) (t : Session) → HasScriptLimits nodes words →
    AreAnswered (new_session nodes words) cs log t → (e : End) → ArePlain (gots_in log e)
gots-plain nodes words cs log t limits is e =
    subst (λ d. ArePlain (gots_in log d)) (opposite_end-twice e)
    (subst ArePlain (gets_follow_puts nodes words cs log t limits is (opposite_end e))
    (plain-take (length (gots_in log (opposite_end (opposite_end e)))) (puts_in log (opposite_end e))
    (puts-plain (new_session nodes words) cs log t is (opposite_end e))))

-- ---- only gets get

-- an answer that is no parcel
abbrev IsNoParcel : Said → Type 0
IsNoParcel (said.Got n p) = ⊥
IsNoParcel other = Unit {0}

-- what holds of each parcel that is an answer
got-of : (answer : Said) → ((n : ℕ) (p : parcels.Parcel) → answer ≡ said.Got n p → lacks 10 p.bytes ≡ true) → GotNoFeed answer
got-of (said.Got n p) h = h n p refl
got-of other h = tt

-- a step that may be refused
unless-no : (w v : World) (c : Bool) (o : Option Refusal) (reply : Reply) (why : Refusal) → IsNoParcel (answer_to reply) →
    IsNoParcel (answer_to (if c then unless w o (record { reply = reply; world = v }) else record
    { reply = replies.Refused why; world = w }).reply)
unfolding unless answer_to
unless-no w v true None reply why h = h
unless-no w v true (Some x) reply why h = tt
unless-no w v false o reply why h = tt

put-no : (w : World) (n : ℕ) (e : End) (bytes : List ℕ) (ends : List End) → IsNoParcel
    (answer_to (first_step w (steps.Put n e bytes ends)).reply)
unfolding first_step answer_to
put-no w n e bytes ends = unless-no w _ (nat_lt n w.count) _ (replies.Put _) _ tt

close-no : (w : World) (n : ℕ) (e : End) → IsNoParcel (answer_to (first_step w (steps.Close n e)).reply)
unfolding first_step answer_to
close-no w n e = unless-no w _ (nat_lt n w.count) _ (replies.Closed _) _ tt

open-no : (w : World) (n : ℕ) → IsNoParcel (answer_to (first_step w (steps.Open n)).reply)
unfolding first_step answer_to open_on unless
open-no w n = go (nat_lt n w.count) (node_at w n).opening
  where
    opened : (v : World) (i : ℕ) (o : Option Refusal) →
        IsNoParcel (answer_to (unless w o (record { reply = replies.Opened (end_at i A) (end_at i B); world = v })).reply)
    opened v i None = tt
    opened v i (Some why) = tt

    room : (c : Bool) → IsNoParcel (answer_to (if c then open_with w (set_claimed w (w.claimed + 1)) n w.claimed else
        record { reply = replies.Refused NoWord; world = w }).reply)
    room true = opened _ w.claimed _
    room false = tt

    on : (o : Option ℕ) → IsNoParcel (answer_to (open_on w n o).reply)
    on None = room (has_unclaimed_word w)
    on (Some i) = opened _ i _

    go : (c : Bool) (o : Option ℕ) → IsNoParcel (answer_to (if c then open_on w n o else record
        { reply = replies.Refused Stranger; world = w }).reply)
    go true o = on o
    go false o = tt

no_parcel : (answer given : Said) → answer ≡ given → IsNoParcel given → GotNoFeed answer
no_parcel answer given same h = got-of answer (λ n p e. absurd (subst IsNoParcel (sym same ∙ e) h))

-- what a command got has no line feed, if what its name got hasn't
command-got : (s : Session) (c : Command) (answer : Said) (t : Session) → Runs s c answer t →
    ((e : End) → ArePlain (got_said s.names c answer e)) → GotNoFeed answer
unfolding got_said if_known
command-got s (commands.Get name) answer t is plain = go (get s.names name) refl
  where
    go : (o : Option End) → get s.names name ≡ o → GotNoFeed answer
    go None bound = no_parcel answer said.UnknownName (is.0 ∙ unbound) tt
      where
        unbound : (replied_get s name).said ≡ said.UnknownName
        unbound = rw bound refl
    go (Some e) bound = got-of answer (λ n p got. (subst ArePlain (bound_parcel p)
        (subst (λ a. ArePlain (got_said s.names (commands.Get name) a e)) got (plain e))).0)
      where
        bound_parcel : (p : parcels.Parcel) → cond (is_bound s.names name e) (p ∷ []) [] ≡ p ∷ []
        bound_parcel p = rw bound (ap (λ c. cond c (p ∷ []) []) (same_end-itself e))
command-got s (commands.Open node first second) answer t is plain = no_parcel answer _ is.0 (open-no s.world node)
command-got s (commands.Put name text attached) answer t is plain =
    no_parcel answer _ is.0 (known-all IsNoParcel s (get {K = List ℕ} {X = End} {R = Rattle.std.specs.Cmp.Lexicographic.slice_cmp
    Rattle.std.proofs.Common.nat_cmp} s.names name) (λ x'. record {
      said = (if_known s
          (Rattle.ipcz_script.specs.Sessions.ends_of s.names attached) (λ x''. record {
            said = (if_held s (Rattle.ipcz_world.specs.Holding.holder_of s.world x')
                (λ x3. record {
                  said = answer_to (first_step s.world (steps.Put x3 x' text x'')).reply;
                  session =
                      (Rattle.ipcz_script.specs.Sessions.replied_step s (first_step s.world (steps.Put x3 x' text x''))).session;
                })).said;
            session = (Rattle.ipcz_script.specs.Sessions.replied_at s x'
                (λ node. steps.Put node x' text x'')).session;
          })).said;
      session =
          (if_known s (Rattle.ipcz_script.specs.Sessions.ends_of s.names attached)
          (λ ends. Rattle.ipcz_script.specs.Sessions.replied_at s x'
          (λ node. steps.Put node x' text ends))).session;
    }) tt
    (λ end. known-all IsNoParcel s (Rattle.ipcz_script.specs.Sessions.ends_of s.names
    attached) (λ x'. record {
      said =
          (if_held s (Rattle.ipcz_world.specs.Holding.holder_of s.world end)
          (λ x''. record {
            said = answer_to
                (first_step s.world (steps.Put x'' end text x')).reply;
            session =
                (Rattle.ipcz_script.specs.Sessions.replied_step s
                (first_step s.world (steps.Put x'' end text x'))).session;
          })).said;
      session =
          (Rattle.ipcz_script.specs.Sessions.replied_at s end
          (λ node. steps.Put node end text x')).session;
    }) tt
    (λ ends. held-all IsNoParcel s
    (Rattle.ipcz_world.specs.Holding.holder_of
    s.world end)
    (λ x'. record {
      said = answer_to
          (first_step s.world
          (steps.Put x' end text
          ends)).reply;
      session
          = (Rattle.ipcz_script.specs.Sessions.replied_step s (first_step s.world (steps.Put x' end text ends))).session;
    }) tt
    (λ n. put-no s.world n end text ends))))
command-got s (commands.Close name) answer t is plain =
    no_parcel answer _ is.0 (known-all IsNoParcel s _ _ tt (λ end. held-all IsNoParcel s _ _ tt (λ n. close-no s.world n end)))
command-got s (commands.Turn node count) answer t is plain = got-of answer (λ n p e. absurd
    (subst (λ a. TurnsTo count node s.world a t.world) e is.0))
command-got s (commands.Settle limit) answer t is plain = got-of answer (λ n p e. absurd
    (subst (λ a. SettlesTo limit s.world a t.world) e is.0))
command-got s commands.Show answer t is plain = no_parcel answer _ is.0 tt

-- ---- the whole text

-- the lines of these commands
abbrev pub rows_in : List Answered → List (List ℕ)
rows_in [] = []
rows_in (a ∷ log) = rows_of a.after.titles a.command a.said ++ rows_in log

pub lines-text : (log : List Answered) → lines_in log ≡ text_of (rows_in log)
lines-text [] = refl
lines-text (a ∷ log) =
    ap (λ l. l ++ lines_in log) (rows-text a.after.titles a.command a.said)
    ∙ ap (λ l. text_of (rows_of a.after.titles a.command a.said) ++ l) (lines-text log)
    ∙ sym (text-append (rows_of a.after.titles a.command a.said) (rows_in log))

log-feeds : (s : Session) (cs : List Command) (log : List Answered) (t : Session) → AreAnswered s cs log t → HaveNames cs →
    AreTitles s.titles → ((e : End) → ArePlain (gots_in log e)) → HaveNoFeeds (rows_in log)
log-feeds s [] [] t is h are plain = tt
log-feeds s [] (a ∷ log) t is h are plain = absurd is
log-feeds s (c ∷ cs) [] t is h are plain = absurd is
log-feeds s (c ∷ cs) (a ∷ log) t is h are plain =
    let there : AreTitles a.after.titles = runs-titles s c a.said a.after is.2 h.0 are in
    let got : GotNoFeed a.said = command-got s c a.said a.after is.2 (λ e. subst (λ x. ArePlain (got_said s.names x a.said e)) is.1
    (subst (λ x. ArePlain (got_said x.names a.command a.said e)) is.0
    (plain-front (got_said a.before.names a.command a.said e) (gots_in log e) (plain e)))) in
    feeds-append (rows_of a.after.titles a.command a.said) (rows_in log)
    (rows-feeds a.after.titles a.command a.said there (subst HasNames (sym is.1) h.0) got)
    (log-feeds a.after cs log t is.3 h.1 there (λ e. plain-back (got_said a.before.names a.command a.said e) (gots_in log e) (plain e)))

-- the lines of a script's answers are the lines of its transcript
pub script-lines : (nodes words : ℕ) (cs : List Command) (log : List Answered) (t : Session) → HasScriptLimits nodes words → HaveNames cs →
    AreAnswered (new_session nodes words) cs log t → AreLines (lines_in log) (rows_in log)
script-lines nodes words cs log t limits h is = record {
  whole = sym (lines-text log);
  each = log-feeds (new_session nodes words) cs log t is h (start-titles nodes words) (gots-plain nodes words cs log t limits is);
}
