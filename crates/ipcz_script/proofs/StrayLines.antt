-- No line of a transcript ends with ` stray`.
use Rattle.std.proofs.Common.{◌≡◌, ◌∙◌, ◌⊎◌, ℕ, zero, suc, Bool, true, false, List, [], ◌∷◌, ◌++◌, refl, sym, ap, subst, arith, inl, inr}
use Rattle.std.proofs.Common.{codes}
use Rattle.std.proofs.Common.{append_assoc, append-nil}
use Rattle.std.proofs.lemmas.Bool.Decides.{nat_tests}
use Rattle.std.specs.Prelude.{◌==◌, ◌&&◌, MatchBool}
use Rattle.std.specs.List.{AllByRecursion}
use Rattle.std.specs.Fmt.{decimal}
use Rattle.ipcz_base.specs.declared.side.Side.{Side}
use Rattle.ipcz_base.specs.declared.side.Side.TheVariants as sides
use Rattle.ipcz_base.specs.declared.end.End.{End}
use Rattle.ipcz_base.specs.declared.parcel.Parcel as parcels
use Rattle.ipcz_base.specs.declared.link_id.LinkId.{LinkId}
use Rattle.ipcz_base.specs.declared.link_id.LinkId.TheVariants.{Central, Peripheral}
use Rattle.ipcz_base.specs.declared.refusal.Refusal.{Refusal}
use Rattle.ipcz_base.specs.declared.refusal.Refusal.TheVariants as refusals
use Rattle.ipcz_base.specs.Refusals.{name_of}
use Rattle.ipcz_base.specs.Texts.{end_text, link_text, side_text}
use Rattle.ipcz_node.specs.declared.happened.Handed.{Handed}
use Rattle.ipcz_node.specs.declared.happened.Handed.TheVariants as kinds
use Rattle.ipcz_node.specs.declared.happened.Happened.{Happened}
use Rattle.ipcz_node.specs.declared.happened.Happened.TheVariants as events
use Rattle.ipcz_world.specs.declared.step.Step.TheVariants as steps
use Rattle.ipcz_world.specs.declared.step.Reply.{Reply}
use Rattle.ipcz_world.specs.declared.step.Reply.TheVariants as replies
use Rattle.ipcz_world.specs.World.{World}
use Rattle.ipcz_world.specs.WorldLaws.{OnlyFlushesStray}
use Rattle.ipcz_script.specs.ScriptLimits.{HasScriptLimits}
use Rattle.ipcz_world.proofs.Whole.{first_acts_are_possible, only_flushes_stray}
use Rattle.ipcz_script.specs.declared.script.Script.{Script}
use Rattle.ipcz_script.specs.declared.outcome.Outcome.TheVariants as outcomes
use Rattle.ipcz_script.specs.declared.command.Command.{Command}
use Rattle.ipcz_script.specs.declared.command.Command.TheVariants as commands
use Rattle.ipcz_script.specs.declared.said.Said.{Said}
use Rattle.ipcz_script.specs.declared.said.Said.TheVariants as said
use Rattle.ipcz_script.specs.Bindings.{Titles}
use Rattle.ipcz_script.specs.EventTexts.{event_text, hand_text, kind_text, link_event, more_ends, moved_text, sent_text, word_text}
use Rattle.ipcz_script.specs.Lines.{head_of, tail_of, turn_text, words_text}
use Rattle.ipcz_script.specs.Sessions.{AreTurns, Session, Runs, is_idle_reply, new_session}
use Rattle.ipcz_script.specs.Transcript.{Answered, AreAnswered}
use Rattle.ipcz_script.specs.ReadBack.{EndsWith, HasLine}
use Rattle.ipcz_script.specs.ByteLaws.{NoLineStrays}
use Rattle.ipcz_script.proofs.Feeds.{IsDigit, decimal_digits, decimal_some}
use Rattle.ipcz_script.proofs.Rows.{rows_of, turn_rows}
use Rattle.ipcz_script.proofs.LogLines.{rows_in}
use Rattle.ipcz_script.proofs.UnsettledLines.{AreRows, has-parts, transcript-rows}
use Rattle.ipcz_script.proofs.ScriptRuns.{Kept, kept-command, kept-start, kept-turn, lawful}

-- ---- how texts end

-- whether the last three bytes are those of ` stray`
stray_end : List ℕ → Bool
stray_end [] = false
stray_end (x ∷ []) = false
stray_end (x ∷ y ∷ []) = false
stray_end (x ∷ y ∷ z ∷ []) = x == 114 && (y == 97 && z == 121)
stray_end (x ∷ y ∷ z ∷ u ∷ rest) = stray_end (y ∷ z ∷ u ∷ rest)

-- whatever stands before it, the text doesn't end so
record Ends (text : List ℕ) : Type 0 where
  apart : (front : List ℕ) → stray_end (front ++ text) ≡ false

-- three bytes at the end tell
tell : (front : List ℕ) (x y z : ℕ) (rest : List ℕ) → stray_end (front ++ x ∷ y ∷ z ∷ rest) ≡ stray_end (x ∷ y ∷ z ∷ rest)
unfolding stray_end
tell [] x y z rest = refl
tell (a ∷ []) x y z rest = refl
tell (a ∷ b ∷ []) x y z rest = refl
tell (a ∷ b ∷ c ∷ []) x y z rest = refl
tell (a ∷ b ∷ c ∷ d ∷ front) x y z rest = tell (b ∷ c ∷ d ∷ front) x y z rest

-- a text of three bytes and more that doesn't end so
three : (x y z : ℕ) (rest : List ℕ) → stray_end (x ∷ y ∷ z ∷ rest) ≡ false → Ends (x ∷ y ∷ z ∷ rest)
three x y z rest h = record { apart = λ front. tell front x y z rest ∙ h }

-- a last byte of another kind
one-byte : (y : ℕ) → (y == 121) ≡ false → (front : List ℕ) → stray_end (front ++ y ∷ []) ≡ false
unfolding stray_end
one-byte y h [] = refl
one-byte y h (a ∷ []) = refl
one-byte y h (a ∷ b ∷ []) = go (a == 114) (b == 97)
  where
    go : (c d : Bool) → c && (d && (y == 121)) ≡ false
    go true true = h
    go true false = refl
    go false d = refl
one-byte y h (a ∷ b ∷ c ∷ []) = one-byte y h (b ∷ c ∷ [])
one-byte y h (a ∷ b ∷ c ∷ d ∷ front) = one-byte y h (b ∷ c ∷ d ∷ front)

one : (y : ℕ) → (y == 121) ≡ false → Ends (y ∷ [])
one y h = record { apart = one-byte y h }

-- what stands before is no matter
behind : (a b : List ℕ) → Ends b → Ends (a ++ b)
behind a b h = record { apart = λ front. ap stray_end (sym (append_assoc front a b)) ∙ h.apart (front ++ a) }

-- digits don't end so
digits-end : (b : ℕ) (bs : List ℕ) → AllByRecursion IsDigit (b ∷ bs) → Ends (b ∷ bs)
digits-end b [] h = one b (no_y b h.0)
  where
    no_y : (d : ℕ) → IsDigit d → (d == 121) ≡ false
    no_y d is = go (d == 121) refl
      where
        go : (c : Bool) → (d == 121) ≡ c → (d == 121) ≡ false
        go false e = e
        go true e = let same : d ≡ 121 = grind (arith, e, nat_tests) in absurd (omega (arith, same, is.1))
digits-end b (c ∷ bs) h = behind (b ∷ []) (c ∷ bs) (digits-end c bs h.1)

some_digit : (bs : List ℕ) → AllByRecursion IsDigit bs → (bs ≡ [] → ⊥) → Ends bs
some_digit [] h some = absurd (some refl)
some_digit (b ∷ bs) h some = digits-end b bs h

number : (n : ℕ) → Ends (decimal n)
number n = some_digit (decimal n) (decimal_digits n) (decimal_some n)

link-ends : (link : LinkId) → Ends (link_text link)
link-ends (Central word) = behind (codes "C") (decimal word) (number word)
link-ends (Peripheral node serial) =
    behind (codes "P") (decimal node ++ (codes "." ++ decimal serial)) (behind (decimal node) (codes "." ++ decimal serial)
    (behind (codes ".") (decimal serial) (number serial)))

side-ends : (s : Side) → Ends (side_text s)
side-ends sides.A = one 65 refl
side-ends sides.B = one 66 refl

end-ends : (e : End) → Ends (end_text e)
end-ends e = behind (decimal e.pair) (side_text e.side) (side-ends e.side)

-- a text with nothing behind it, or more ends
nothing-more : (a : List ℕ) → Ends a → Ends (a ++ [])
nothing-more a h = subst Ends (sym (append-nil a)) h

ends-more : (a : List ℕ) (es : List End) → Ends a → Ends (a ++ more_ends es)
ends-more a [] h = nothing-more a h
ends-more a (e ∷ es) h = behind a (more_ends (e ∷ es)) (ends-more (codes "," ++ end_text e) es
    (behind (codes ",") (end_text e) (end-ends e)))

ends-moved : (a : List ℕ) (es : List End) → Ends a → Ends (a ++ moved_text es)
ends-moved a [] h = nothing-more a h
ends-moved a (e ∷ es) h =
    behind a (moved_text (e ∷ es)) (ends-more (codes " moves " ++ end_text e) es (behind (codes " moves ") (end_text e) (end-ends e)))

refusal-ends : (why : Refusal) → Ends (name_of why)
unfolding stray_end
refusal-ends refusals.OutOfMemory = three _ _ _ _ refl
refusal-ends other = three _ _ _ _ refl

-- ---- what a turn did

dropped : Ends (codes " dropped")
unfolding stray_end
dropped = three _ _ _ _ refl

hand-ends : (kind : Handed) (link : LinkId) (unfit : Bool) → (unfit ≡ true → kind ≡ kinds.Flush) → Ends (hand_text kind link unfit)
hand-ends kind link false flush = nothing-more (codes "hand " ++ kind_text kind ++ codes " " ++ link_text link)
    (behind (codes "hand " ++ kind_text kind ++ codes " ") (link_text link) (link-ends link))
hand-ends kind link true flush =
    subst (λ k. Ends (hand_text k link true)) (sym (flush refl))
    (behind (codes "hand Flush " ++ link_text link) (codes " dropped") dropped)

link_event-ends : (serial : ℕ) (verb : List ℕ) (link : LinkId) → Ends (link_event serial verb link)
link_event-ends serial verb link = behind (codes "r" ++ decimal serial ++ codes " " ++ verb ++ codes " ") (link_text link) (link-ends link)

word_text-ends : (serial : ℕ) (verb : List ℕ) (link : LinkId) (after : ℕ) → Ends (word_text serial verb link after)
word_text-ends serial verb link after =
    behind (codes "r" ++ decimal serial ++ codes " " ++ verb ++ codes " " ++ link_text link ++ codes " ") (decimal after) (number after)

sent-ends : (serial : ℕ) (way : List ℕ) (n : ℕ) (link : LinkId) (moved : List End) → Ends (sent_text serial way n link moved)
sent-ends serial way n link moved =
    ends-moved (codes "r" ++ decimal serial ++ codes " send " ++ way ++ codes " " ++ decimal n ++ codes " " ++ link_text link) moved
    (behind (codes "r" ++ decimal serial ++ codes " send " ++ way ++ codes " " ++ decimal n ++ codes " ") (link_text link) (link-ends link))

event-ends : (event : Happened) → OnlyFlushesStray (replies.Turned event) → Ends (event_text event)
unfolding stray_end
event-ends (events.Hand kind link unfit) only = hand-ends kind link unfit (λ e. only kind link
    (ap (λ u. replies.Turned (events.Hand kind link u)) e))
event-ends (events.Look sender) only = behind (codes "look ") (decimal sender) (number sender)
event-ends (events.Post to) only = behind (codes "post ") (decimal to) (number to)
event-ends (events.Close end) only = behind (codes "close ") (end_text end) (end-ends end)
event-ends (events.SendOut serial n link moved) only = sent-ends serial (codes "out") n link moved
event-ends (events.SendIn serial n link moved) only = sent-ends serial (codes "in") n link moved
event-ends (events.Discard serial n) only = behind (codes "r" ++ decimal serial ++ codes " discard ") (decimal n) (number n)
event-ends (events.DiscardLeave serial n) only =
    behind (codes "r" ++ decimal serial ++ codes " discard " ++ decimal n) (codes " leave") (three _ _ _ _ refl)
event-ends (events.FinishOut serial link) only = link_event-ends serial (codes "finish out") link
event-ends (events.FinishIn serial link) only = link_event-ends serial (codes "finish in") link
event-ends (events.Leave serial) only = behind (codes "r" ++ decimal serial) (codes " leave") (three _ _ _ _ refl)
event-ends (events.Mark serial link word) only = word_text-ends serial (codes "mark") link word
event-ends (events.Wake serial link word) only = word_text-ends serial (codes "wake") link word
event-ends (events.Claim serial w) only = behind (codes "r" ++ decimal serial ++ codes " claim ") (decimal w) (number w)
event-ends (events.ClaimNoWord serial) only = behind (codes "r" ++ decimal serial) (codes " claim NoWord") (three _ _ _ _ refl)
event-ends (events.Lock serial link word) only = word_text-ends serial (codes "lock") link word
event-ends (events.Wait serial link word) only = word_text-ends serial (codes "wait") link word
event-ends (events.Refused serial link word) only = word_text-ends serial (codes "refused") link word
event-ends (events.Begin serial link) only = link_event-ends serial (codes "begin") link
event-ends (events.Retire serial n link) only =
    behind (codes "r" ++ decimal serial ++ codes " retire " ++ decimal n ++ codes " ") (link_text link) (link-ends link)
event-ends (events.Unlock serial link word) only = word_text-ends serial (codes "unlock") link word
event-ends (events.Rest serial) only = behind (codes "r" ++ decimal serial) (codes " rest") (three _ _ _ _ refl)
event-ends events.Idle only = three _ _ _ _ refl

-- ---- lines

-- the start of a line of a turn, with nothing behind it
silent : (node : ℕ) → stray_end (codes "n" ++ decimal node ++ codes ": " ++ []) ≡ false
unfolding stray_end
silent node = (nothing-more (codes "n" ++ decimal node ++ codes ": ") (behind (codes "n" ++ decimal node) (codes ": ")
    (behind (codes ":") (codes " ") (one 32 refl)))).apart []

-- a text with the start of its line
started : (node : ℕ) (r : Reply) → OnlyFlushesStray r → stray_end (codes "n" ++ decimal node ++ codes ": " ++ turn_text r) ≡ false
unfolding stray_end
started node (replies.Turned event) only = (event-ends event only).apart (codes "n" ++ decimal node ++ codes ": ")
started node (replies.Refused why) only = (refusal-ends why).apart (codes "n" ++ decimal node ++ codes ": ")
started node other only = silent node

turn-apart : (node : ℕ) (rs : List Reply) → AllByRecursion OnlyFlushesStray rs → (line : List ℕ) → HasLine (turn_rows node rs) line →
    stray_end line ≡ false
turn-apart node [] only line h = absurd h
turn-apart node (r ∷ rs) only line (inl h) = ap stray_end (sym h) ∙ started node r only.0
turn-apart node (r ∷ rs) only line (inr h) = turn-apart node rs only.1 line h

-- the turns of a node see nothing stray but Flushes
turns-flush : (nodes words count node : ℕ) (w : World) (rs : List Reply) (v : World) (puts gots : End → List parcels.Parcel) →
    Kept nodes words w puts gots → AreTurns count node w rs v → AllByRecursion OnlyFlushesStray rs
turns-flush nodes words zero node w [] v puts gots at is = tt
turns-flush nodes words zero node w (r ∷ rs) v puts gots at is = absurd is
turns-flush nodes words (suc left) node w [] v puts gots at is = absurd is
turns-flush nodes words (suc left) node w (r ∷ rs) v puts gots at is =
    let there : Kept nodes words is.0 puts gots = kept-turn nodes words w is.0 puts gots node r at is.1 in
    let law = lawful nodes words w at.books at.routes at.reached in (
      only_flushes_stray w is.0 at.books at.routes (steps.Turn node) r law
          (first_acts_are_possible w is.0 at.books at.routes (steps.Turn node) r law is.1),
      elim (is_idle_reply r) as (λ b. MatchBool b ((rs ≡ []) × (v ≡ is.0)) (AreTurns left node is.0 rs v) → AllByRecursion
          OnlyFlushesStray rs) [
            | true ↦ λ m. subst (AllByRecursion OnlyFlushesStray) (sym m.0) tt
            | false ↦ λ m. turns-flush nodes words left node is.0 rs v puts gots there m
          ] is.3,
    )

-- a text that is empty or doesn't end so
abbrev Apart : List ℕ → Type 0
Apart text = Ends text ⊎ (text ≡ [])

words-end : (a : List ℕ) (ws : List ℕ) → Ends a → Ends (a ++ words_text ws)
words-end a [] h = nothing-more a h
words-end a (w ∷ ws) h = behind a (words_text (w ∷ ws)) (words-end (codes " " ++ decimal w) ws (behind (codes " ") (decimal w) (number w)))

tail-apart : (titles : Titles) (answer : Said) → Apart (tail_of titles answer)
unfolding stray_end
tail-apart titles said.Opened = inl (behind (codes "o") (codes "k") (one 107 refl))
tail-apart titles (said.Put n) = inl (number n)
tail-apart titles (said.Got n p) = inl (behind _ (codes "\"") (one 34 refl))
tail-apart titles (said.Closed n) = inl (number n)
tail-apart titles (said.Turned turns) = inr refl
tail-apart titles (said.Words ws) = inl (words-end (codes "words") ws (three _ _ _ _ refl))
tail-apart titles (said.Refused why) = inl (refusal-ends why)
tail-apart titles other = inl (three _ _ _ _ refl)

-- a line of a head and a tail
line-apart : (head tail line : List ℕ) → Apart head → Apart tail → HasLine ((head ++ tail) ∷ []) line → stray_end line ≡ false
unfolding stray_end
line-apart head tail line h (inl k) (inl e) = ap stray_end (sym e) ∙ k.apart head
line-apart head tail line (inl h) (inr k) (inl e) =
    ap stray_end (sym e ∙ ap (λ l. head ++ l) k ∙ append-nil head) ∙ h.apart []
line-apart head tail line (inr h) (inr k) (inl e) = ap stray_end (sym e ∙ ap (λ l. head ++ l) k ∙ append-nil head ∙ h)
line-apart head tail line h k (inr e) = absurd e

-- a head that ends with a space
spaced : (a : List ℕ) → Apart (a ++ codes " ")
unfolding stray_end
spaced a = inl (behind a (codes " ") (one 32 refl))

-- the lines of a command
command-apart : (nodes words : ℕ) (s : Session) (puts gots : End → List parcels.Parcel) → Kept nodes words s.world puts gots →
    (c : Command) (answer : Said) (t : Session) (titles : Titles) → Runs s c answer t → (line : List ℕ) →
    HasLine (rows_of titles c answer) line → stray_end line ≡ false
command-apart nodes words s puts gots at (commands.Turn node count) (said.Turned rs) t titles is line h =
    turn-apart node rs (turns-flush nodes words count node s.world rs t.world puts gots at is.0) line h
command-apart nodes words s puts gots at (commands.Turn node count) said.Opened t titles is line h = absurd h
command-apart nodes words s puts gots at (commands.Turn node count) (said.Put n) t titles is line h = absurd h
command-apart nodes words s puts gots at (commands.Turn node count) (said.Got n p) t titles is line h = absurd h
command-apart nodes words s puts gots at (commands.Turn node count) (said.Closed n) t titles is line h = absurd h
command-apart nodes words s puts gots at (commands.Turn node count) said.Settled t titles is line h = absurd h
command-apart nodes words s puts gots at (commands.Turn node count) said.Unsettled t titles is line h = absurd h
command-apart nodes words s puts gots at (commands.Turn node count) (said.Words ws) t titles is line h = absurd h
command-apart nodes words s puts gots at (commands.Turn node count) said.UnknownName t titles is line h = absurd h
command-apart nodes words s puts gots at (commands.Turn node count) said.Away t titles is line h = absurd h
command-apart nodes words s puts gots at (commands.Turn node count) (said.Refused why) t titles is line h = absurd h
command-apart nodes words s puts gots at (commands.Open node x y) answer t titles is line h =
    line-apart (head_of (commands.Open node x y)) (tail_of titles answer) line (spaced (codes "open " ++ x ++ codes " " ++ y))
    (tail-apart titles answer) h
command-apart nodes words s puts gots at (commands.Put name text attached) answer t titles is line h =
    line-apart (head_of (commands.Put name text attached)) (tail_of titles answer) line (spaced (codes "put " ++ name))
    (tail-apart titles answer) h
command-apart nodes words s puts gots at (commands.Get name) answer t titles is line h =
    line-apart (head_of (commands.Get name)) (tail_of titles answer) line (spaced (codes "get " ++ name)) (tail-apart titles answer) h
command-apart nodes words s puts gots at (commands.Close name) answer t titles is line h =
    line-apart (head_of (commands.Close name)) (tail_of titles answer) line (spaced (codes "close " ++ name)) (tail-apart titles answer) h
command-apart nodes words s puts gots at (commands.Settle limit) answer t titles is line h =
    line-apart [] (tail_of titles answer) line (inr refl) (tail-apart titles answer) h
command-apart nodes words s puts gots at commands.Show answer t titles is line h =
    line-apart [] (tail_of titles answer) line (inr refl) (tail-apart titles answer) h

log-apart : (nodes words : ℕ) (s : Session) (cs : List Command) (log : List Answered) (t : Session)
    (puts gots : End → List parcels.Parcel) →
    Kept nodes words s.world puts gots → AreAnswered s cs log t → (line : List ℕ) → HasLine (rows_in log) line → stray_end line ≡ false
log-apart nodes words s [] [] t puts gots at is line h = absurd h
log-apart nodes words s [] (a ∷ log) t puts gots at is line h = absurd is
log-apart nodes words s (c ∷ cs) [] t puts gots at is line h = absurd is
log-apart nodes words s (c ∷ cs) (a ∷ log) t puts gots at is line h =
    elim (has-parts (rows_of a.after.titles a.command a.said) (rows_in log) line h) [
      | inl x ↦ command-apart nodes words s puts gots at c a.said a.after a.after.titles is.2 line
          (subst (λ k. HasLine (rows_of a.after.titles k a.said) line) is.1 x)
      | inr y ↦ log-apart nodes words a.after cs log t _ _ (kept-command nodes words s puts gots at c a.said a.after is.2) is.3 line y
    ]

-- a text that ends with ` stray`
strays : (line : List ℕ) → EndsWith line (codes " stray") → stray_end line ≡ true
unfolding stray_end
strays line h = ap stray_end (sym h.whole) ∙ tell h.front 32 115 116 (114 ∷ 97 ∷ 121 ∷ [])

transcript-apart : (script : Script) (unsettled : Bool) (lines : List (List ℕ)) → HasScriptLimits script.nodes script.words →
    AreRows script unsettled lines → (line : List ℕ) → HasLine lines line → EndsWith line (codes " stray") → ⊥
transcript-apart script unsettled lines limits rows line h ends =
    let still = log-apart script.nodes script.words (new_session script.nodes script.words) script.commands rows.log rows.after _ _
    (kept-start script.nodes script.words limits) rows.answered line (subst (λ x. HasLine x line) rows.rows h) in
    let both : true ≡ false = sym (strays line ends) ∙ still in cc

pub no_line_strays : NoLineStrays
no_line_strays script outcomes.Done text lines limits plain is are =
    transcript-apart script false lines limits (transcript-rows script text false lines limits plain is are)
no_line_strays script outcomes.Unsettled text lines limits plain is are =
    transcript-apart script true lines limits (transcript-rows script text true lines limits plain is are)
no_line_strays script (outcomes.Refused why) text lines limits plain is are = absurd is
