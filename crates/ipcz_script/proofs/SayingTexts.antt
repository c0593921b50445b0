-- Why the lines of an answer are the texts of what is to be said of it.
use Rattle.std.proofs.Common.{◌≡◌, ◌∙◌, ℕ, List, [], ◌∷◌, ◌++◌, map, refl, sym, ap, subst, append_assoc, append-nil, codes}
use Rattle.std.specs.Fmt.{decimal}
use Rattle.std.specs.FinMap.{get}
use Rattle.std.proofs.lemmas.List.{map-append}
use Rattle.ipcz_base.specs.declared.end.End.{End}
use Rattle.ipcz_world.specs.declared.step.Reply.{Reply}
use Rattle.ipcz_world.specs.Holding.{holder_of, shown_words}
use Rattle.ipcz_script.specs.declared.command.Command.{Command}
use Rattle.ipcz_script.specs.declared.command.Command.TheVariants as commands
use Rattle.ipcz_script.specs.declared.said.Said.{Said}
use Rattle.ipcz_script.specs.declared.said.Said.TheVariants as said
use Rattle.ipcz_script.specs.Bindings.{Titles}
use Rattle.ipcz_script.specs.Lines.{more_titles, title_of, titles_text, turn_text, words_text}
use Rattle.ipcz_script.specs.Sessions.{Session, Runs, SettlesTo, TurnsTo, ends_of}
use Rattle.ipcz_script.specs.Transcript.{Answered, AreAnswered}
use Rattle.ipcz_script.specs.ReadBack.{joined, spaced}
use Rattle.ipcz_script.specs.Sayings as sayings
use Rattle.ipcz_script.specs.Sayings.{saying_text, sayings_in, sayings_of}
use Rattle.ipcz_script.proofs.Rows.{rows_of, turn_rows}
use Rattle.ipcz_script.proofs.LogLines.{rows_in}
use Rattle.ipcz_script.proofs.CountedLines.{numbered, parceled}
use Rattle.ipcz_script.proofs.PutData.{held-all, known-all}
use Rattle.ipcz_script.proofs.CallAnswers.{close-answers, get-answers, open-answers, put-answers}

-- ---- texts

more-joined : (titles : Titles) (e : End) (es : List End) →
    title_of titles e ++ more_titles titles es ≡ joined 44 (map (title_of titles) (e ∷ es))
more-joined titles e [] = append-nil (title_of titles e)
more-joined titles e (d ∷ es) = ap (λ l. title_of titles e ++ 44 ∷ l) (more-joined titles d es)

-- the names of ends, with a comma between each two
titles-joined : (titles : Titles) (es : List End) → titles_text titles es ≡ joined 44 (map (title_of titles) es)
titles-joined titles [] = refl
titles-joined titles (e ∷ es) = more-joined titles e es

words-joined : (word : List ℕ) (ws : List ℕ) → word ++ words_text ws ≡ spaced (word ∷ map decimal ws)
words-joined word [] = append-nil word
words-joined word (w ∷ ws) = ap (λ l. word ++ 32 ∷ l) (words-joined (decimal w) ws)

pub opened : (verb a b answer : List ℕ) →
    verb ++ codes " " ++ a ++ codes " " ++ b ++ codes " " ++ answer ≡ spaced (verb ∷ a ∷ b ∷ answer ∷ [])
opened verb a b answer =
    append_assoc (verb ++ codes " " ++ a ++ codes " " ++ b) (codes " ") answer
    ∙ append_assoc (verb ++ codes " " ++ a ++ codes " ") b (32 ∷ answer) ∙ numbered verb a (b ++ 32 ∷ answer)

turned : (node deed : List ℕ) → codes "n" ++ node ++ codes ": " ++ deed ≡ spaced ((110 ∷ (node ++ 58 ∷ [])) ∷ deed ∷ [])
turned node deed = ap (λ l. 110 ∷ l) (append_assoc node (codes ": ") deed ∙ sym (append_assoc node (58 ∷ []) (32 ∷ deed)))

-- ---- one command

-- the lines of an answer are the texts of what is to be said
abbrev AreTexts : Titles → Command → Said → Type 0
AreTexts titles c answer = rows_of titles c answer ≡ map saying_text (sayings_of titles c answer)

one : {a b : List ℕ} → a ≡ b → a ∷ [] ≡ b ∷ []
one e = ap (λ l. l ∷ []) e

got-text : (titles : Titles) (at : List ℕ) (n : ℕ) (p : Rattle.ipcz_base.specs.declared.parcel.Parcel.Parcel) →
    AreTexts titles (commands.Get at) (said.Got n p)
unfolding sayings_of
got-text titles at n p =
    one (numbered (codes "get") at _ ∙ ap (λ l. spaced (codes "get" ∷ at ∷ l ∷ []))
    (parceled (decimal n) (titles_text titles p.ends) p.bytes ∙ ap (λ l. spaced (decimal n ∷ (91 ∷ (l ++ 93 ∷ [])) ∷
    (34 ∷ (p.bytes ++ 34 ∷ [])) ∷ [])) (titles-joined titles p.ends)))

turns-text : (titles : Titles) (node : ℕ) (rs : List Reply) →
    turn_rows node rs ≡ map saying_text (map (λ reply. sayings.Turn node (turn_text reply)) rs)
turns-text titles node [] = refl
turns-text titles node (r ∷ rs) =
    let line = turned (decimal node) (turn_text r) in
    let more = turns-text titles node rs in
    λ i. line i ∷ more i

turns-say : (s t : Session) (titles : Titles) (node count : ℕ) (answer : Said) → TurnsTo count node s.world answer t.world →
    AreTexts titles (commands.Turn node count) answer
unfolding sayings_of
turns-say s t titles node count (said.Turned rs) is = turns-text titles node rs
turns-say s t titles node count answer is = absurd is

settle-says : (s t : Session) (titles : Titles) (limit : ℕ) (answer : Said) → SettlesTo limit s.world answer t.world →
    AreTexts titles (commands.Settle limit) answer
unfolding sayings_of
settle-says s t titles limit said.Settled is = refl
settle-says s t titles limit said.Unsettled is = refl
settle-says s t titles limit answer is = absurd is

pub command-texts : (s : Session) (c : Command) (answer : Said) (t : Session) (titles : Titles) → Runs s c answer t →
    AreTexts titles c answer
unfolding sayings_of
command-texts s (commands.Open node a b) answer t titles is =
    subst (AreTexts titles (commands.Open node a b)) (sym is.0)
    (open-answers (AreTexts titles (commands.Open node a b)) (λ why. one (opened (codes "open") a b _))
    (one (opened (codes "open") a b _)) s.world node)
command-texts s (commands.Put at text attached) answer t titles is =
    subst (AreTexts titles (commands.Put at text attached)) (sym is.0)
    (known-all (AreTexts titles (commands.Put at text attached)) s (get s.names at) _ (one (numbered (codes "put") at _))
    (λ end. known-all (AreTexts titles (commands.Put at text attached)) s (ends_of s.names attached) _ (one (numbered (codes "put") at _))
    (λ ends. held-all (AreTexts titles (commands.Put at text attached)) s (holder_of s.world end) _ (one (numbered (codes "put") at _))
    (λ n. put-answers (AreTexts titles (commands.Put at text attached)) (λ why. one (numbered (codes "put") at _))
    (λ k. one (numbered (codes "put") at _)) s.world n end text ends))))
command-texts s (commands.Get at) answer t titles is =
    subst (AreTexts titles (commands.Get at)) (sym is.0)
    (known-all (AreTexts titles (commands.Get at)) s (get s.names at) _ (one (numbered (codes "get") at _))
    (λ end. held-all (AreTexts titles (commands.Get at)) s (holder_of s.world end) _ (one (numbered (codes "get") at _))
    (λ n. get-answers (AreTexts titles (commands.Get at)) (λ why. one (numbered (codes "get") at _))
    (λ k p. got-text titles at k p) s.world n end)))
command-texts s (commands.Close at) answer t titles is =
    subst (AreTexts titles (commands.Close at)) (sym is.0)
    (known-all (AreTexts titles (commands.Close at)) s (get s.names at) _ (one (numbered (codes "close") at _))
    (λ end. held-all (AreTexts titles (commands.Close at)) s (holder_of s.world end) _ (one (numbered (codes "close") at _))
    (λ n. close-answers (AreTexts titles (commands.Close at)) (λ why. one (numbered (codes "close") at _))
    (λ k. one (numbered (codes "close") at _)) s.world n end)))
command-texts s (commands.Turn node count) answer t titles is = turns-say s t titles node count answer is.0
command-texts s (commands.Settle limit) answer t titles is = settle-says s t titles limit answer is.0
command-texts s commands.Show answer t titles is =
    subst (AreTexts titles commands.Show) (sym is.0) (one (words-joined (codes "words") (shown_words s.world)))

-- ---- all commands

pub log-texts : (s : Session) (cs : List Command) (log : List Answered) (t : Session) → AreAnswered s cs log t →
    rows_in log ≡ map saying_text (sayings_in log)
log-texts s [] [] t is = refl
log-texts s [] (a ∷ log) t is = absurd is
log-texts s (c ∷ cs) [] t is = absurd is
log-texts s (c ∷ cs) (a ∷ log) t is =
    let one_command : AreTexts a.after.titles a.command a.said =
    subst (λ x. AreTexts a.after.titles x a.said) (sym is.1) (command-texts s c a.said a.after a.after.titles is.2) in
    ap (λ l. l ++ rows_in log) one_command
    ∙ ap (λ l. map saying_text (sayings_of a.after.titles a.command a.said) ++ l) (log-texts a.after cs log t is.3)
    ∙ sym (map-append saying_text (sayings_of a.after.titles a.command a.said) (sayings_in log))
