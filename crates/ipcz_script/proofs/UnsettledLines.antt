-- A run ends as unsettled exactly if a line of its transcript says so.
use Rattle.std.proofs.Common.{◌≡◌, ◌∙◌, ◌⊎◌, ◌↔◌, ℕ, Bool, true, false, List, [], ◌∷◌, ◌++◌, refl, sym, ap, subst, arith, inl, inr, codes}
use Rattle.std.specs.Prelude.{◌||◌}
use Rattle.ipcz_world.specs.declared.step.Reply.{Reply}
use Rattle.ipcz_world.specs.declared.step.Reply.TheVariants as replies
use Rattle.ipcz_world.specs.declared.step.Step.TheVariants as steps
use Rattle.ipcz_world.specs.Steps.{first_step}
use Rattle.ipcz_script.specs.ScriptLimits.{HasScriptLimits}
use Rattle.ipcz_script.specs.declared.script.Script.{Script}
use Rattle.ipcz_script.specs.declared.outcome.Outcome.TheVariants as outcomes
use Rattle.ipcz_script.specs.declared.command.Command.{Command}
use Rattle.ipcz_script.specs.declared.command.Command.TheVariants as commands
use Rattle.ipcz_script.specs.declared.said.Said.{Said}
use Rattle.ipcz_script.specs.declared.said.Said.TheVariants as said
use Rattle.ipcz_script.specs.Bindings.{Titles}
use Rattle.ipcz_script.specs.Lines.{head_of, tail_of}
use Rattle.ipcz_script.specs.Sessions.{Session, Runs, SettlesTo, TurnsTo, answer_to, new_session}
use Rattle.ipcz_script.specs.Transcript.{Answered, AreAnswered, IsTranscript, is_some_unsettled, is_unsettled}
use Rattle.ipcz_script.specs.ReadBack.{AreLines, HasLine, HaveNames}
use Rattle.ipcz_script.specs.ByteLaws.{OutputsHaveLines, UnsettledIsWritten}
use Rattle.ipcz_script.proofs.Feeds.{same_lines}
use Rattle.ipcz_script.proofs.Rows.{rows_of, turn_rows}
use Rattle.ipcz_script.proofs.LogLines.{rows_in, script-lines}
use Rattle.ipcz_script.proofs.PutData.{held-all, known-all}

-- the line that says that a settle came to its limit
abbrev U : List ℕ
U = codes "unsettled"

first : List ℕ → ℕ
first [] = 0
first (b ∷ bs) = b

-- a text that begins with another letter
other_line : (x : List ℕ) (b : ℕ) → first x ≡ b → (b ≡ 117 → ⊥) → HasLine (x ∷ []) U → ⊥
unfolding first
other_line x b begins differs (inl h) = differs (sym begins ∙ ap first h)
other_line x b begins differs (inr h) = h

-- an answer that isn't unsettled has no such line, and the other way round
neither : (lines : List (List ℕ)) (answer : Said) → (HasLine lines U → ⊥) → is_unsettled answer ≡ false →
    HasLine lines U ↔ (is_unsettled answer ≡ true)
neither lines answer none still = (λ h. absurd (none h), λ u. let both : true ≡ false = sym u ∙ still in absurd (cc))

answer-still : (r : Reply) → is_unsettled (answer_to r) ≡ false
unfolding answer_to is_unsettled
answer-still (replies.Opened a b) = refl
answer-still other = refl

turn-other : (node : ℕ) (rs : List Reply) → HasLine (turn_rows node rs) U → ⊥
unfolding first
turn-other node [] h = h
turn-other node (r ∷ rs) (inl h) = omega (arith, ap first h)
turn-other node (r ∷ rs) (inr h) = turn-other node rs h

-- an answer that is this one
given : (s : Session) (c : Command) (titles : Titles) (answer known : Said) → answer ≡ known →
    HasLine (rows_of titles c known) U ↔ (is_unsettled known ≡ true) → HasLine (rows_of titles c answer) U ↔ (is_unsettled answer ≡ true)
given s c titles answer known same h = subst (λ a. HasLine (rows_of titles c a) U ↔ (is_unsettled a ≡ true)) (sym same) h

settle-line : (s t : Session) (limit : ℕ) (titles : Titles) (answer : Said) → SettlesTo limit s.world answer t.world →
    HasLine (rows_of titles (commands.Settle limit) answer) U ↔ (is_unsettled answer ≡ true)
unfolding is_unsettled first
settle-line s t limit titles said.Settled is = neither (codes "settled" ∷ []) said.Settled
    (other_line (codes "settled") 115 refl (λ e. omega (arith, e))) refl
settle-line s t limit titles said.Unsettled is = (λ h. refl, λ u. inl refl)
settle-line s t limit titles other is = absurd is

turns-line : (s t : Session) (count node : ℕ) (titles : Titles) (answer : Said) → TurnsTo count node s.world answer t.world →
    HasLine (rows_of titles (commands.Turn node count) answer) U ↔ (is_unsettled answer ≡ true)
unfolding is_unsettled
turns-line s t count node titles (said.Turned rs) is = neither (turn_rows node rs) (said.Turned rs) (turn-other node rs) refl
turns-line s t count node titles any is = absurd is

-- a command writes the line exactly if its answer says so
command-line : (s : Session) (c : Command) (answer : Said) (t : Session) (titles : Titles) → Runs s c answer t →
    HasLine (rows_of titles c answer) U ↔ (is_unsettled answer ≡ true)
unfolding is_unsettled first
command-line s (commands.Open node x y) answer t titles is =
    neither ((head_of (commands.Open node x y) ++ tail_of titles answer) ∷ []) answer
    (other_line (head_of (commands.Open node x y) ++ tail_of titles answer) 111 refl (λ e. omega (arith, e)))
    (subst (λ a. is_unsettled a ≡ false) (sym is.0) (answer-still (first_step s.world (steps.Open node)).reply))
command-line s (commands.Put at text attached) answer t titles is =
    neither ((head_of (commands.Put at text attached) ++ tail_of titles answer) ∷ []) answer
    (other_line (head_of (commands.Put at text attached) ++ tail_of titles answer) 112 refl (λ e. omega (arith, e)))
    (subst (λ a. is_unsettled a ≡ false) (sym is.0) (known-all (λ a. is_unsettled a ≡ false) s _ _ refl (λ end.
    known-all (λ a. is_unsettled a ≡ false) s _ _ refl (λ ends. held-all (λ a. is_unsettled a ≡ false) s _ _ refl (λ n.
    answer-still (first_step s.world (steps.Put n end text ends)).reply)))))
command-line s (commands.Get at) answer t titles is =
    neither ((head_of (commands.Get at) ++ tail_of titles answer) ∷ []) answer (other_line
    (head_of (commands.Get at) ++ tail_of titles answer) 103 refl (λ e. omega (arith, e)))
    (subst (λ a. is_unsettled a ≡ false) (sym is.0) (known-all (λ a. is_unsettled a ≡ false) s _ _ refl (λ end.
    held-all (λ a. is_unsettled a ≡ false) s _ _ refl (λ n. answer-still (first_step s.world (steps.Get n end)).reply))))
command-line s (commands.Close at) answer t titles is =
    neither ((head_of (commands.Close at) ++ tail_of titles answer) ∷ []) answer (other_line
    (head_of (commands.Close at) ++ tail_of titles answer) 99 refl (λ e. omega (arith, e)))
    (subst (λ a. is_unsettled a ≡ false) (sym is.0) (known-all (λ a. is_unsettled a ≡ false) s _ _ refl (λ end.
    held-all (λ a. is_unsettled a ≡ false) s _ _ refl (λ n. answer-still (first_step s.world (steps.Close n end)).reply))))
command-line s (commands.Turn node count) answer t titles is = turns-line s t count node titles answer is.0
command-line s (commands.Settle limit) answer t titles is = settle-line s t limit titles answer is.0
command-line s commands.Show answer t titles is = given s commands.Show titles answer _ is.0
    (neither ((head_of commands.Show ++ tail_of titles (said.Words (Rattle.ipcz_world.specs.Holding.shown_words s.world))) ∷ [])
    (said.Words (Rattle.ipcz_world.specs.Holding.shown_words s.world)) (other_line
    (head_of commands.Show ++ tail_of titles (said.Words (Rattle.ipcz_world.specs.Holding.shown_words s.world))) 119 refl
    (λ e. omega (arith, e))) refl)

-- ---- the whole text

pub has-front : (xs ys : List (List ℕ)) (line : List ℕ) → HasLine xs line → HasLine (xs ++ ys) line
has-front [] ys line h = absurd h
has-front (x ∷ xs) ys line (inl h) = inl h
has-front (x ∷ xs) ys line (inr h) = inr (has-front xs ys line h)

pub has-back : (xs ys : List (List ℕ)) (line : List ℕ) → HasLine ys line → HasLine (xs ++ ys) line
has-back [] ys line h = h
has-back (x ∷ xs) ys line h = inr (has-back xs ys line h)

pub has-parts : (xs ys : List (List ℕ)) (line : List ℕ) → HasLine (xs ++ ys) line → HasLine xs line ⊎ HasLine ys line
has-parts [] ys line h = inr h
has-parts (x ∷ xs) ys line (inl h) = inl (inl h)
has-parts (x ∷ xs) ys line (inr h) = elim (has-parts xs ys line h) [ inl a ↦ inl (inr a) | inr b ↦ inr b ]

or-front : (a b : Bool) → a ≡ true → a || b ≡ true
or-front true b h = refl
or-front false b h = cc

or-back : (a b : Bool) → b ≡ true → a || b ≡ true
or-back true b h = refl
or-back false b h = h

or-split : (a b : Bool) → a || b ≡ true → (a ≡ true) ⊎ (b ≡ true)
or-split true b h = inl refl
or-split false b h = inr h

log-line : (s : Session) (cs : List Command) (log : List Answered) (t : Session) → AreAnswered s cs log t →
    HasLine (rows_in log) U ↔ (is_some_unsettled log ≡ true)
log-line s [] [] t is = (λ h. absurd h, λ h. cc)
log-line s [] (a ∷ log) t is = absurd is
log-line s (c ∷ cs) [] t is = absurd is
log-line s (c ∷ cs) (a ∷ log) t is =
    let one : HasLine (rows_of a.after.titles a.command a.said) U ↔ (is_unsettled a.said ≡ true) =
    subst (λ x. HasLine (rows_of a.after.titles x a.said) U ↔ (is_unsettled a.said ≡ true)) (sym is.1)
    (command-line s c a.said a.after a.after.titles is.2) in
    let more = log-line a.after cs log t is.3 in (
      λ h. elim (has-parts (rows_of a.after.titles a.command a.said) (rows_in log) U h) [
        | inl x ↦ or-front (is_unsettled a.said) (is_some_unsettled log) (one.0 x)
        | inr y ↦ or-back (is_unsettled a.said) (is_some_unsettled log) (more.0 y)
      ],
      λ u. elim (or-split (is_unsettled a.said) (is_some_unsettled log) u) [
        | inl x ↦ has-front (rows_of a.after.titles a.command a.said) (rows_in log) U (one.1 x)
        | inr y ↦ has-back (rows_of a.after.titles a.command a.said) (rows_in log) U (more.1 y)
      ],
    )

-- the lines of a transcript are those of some answers
pub record AreRows (script : Script) (unsettled : Bool) (lines : List (List ℕ)) : Type 0 where
  pub after : Session
  pub log : List Answered
  pub answered : AreAnswered (new_session script.nodes script.words) script.commands log after
  pub flag : unsettled ≡ is_some_unsettled log
  pub rows : lines ≡ rows_in log

pub transcript-rows : (script : Script) (text : List ℕ) (unsettled : Bool) (lines : List (List ℕ)) →
    HasScriptLimits script.nodes script.words → HaveNames script.commands → IsTranscript script text unsettled → AreLines text lines →
    AreRows script unsettled lines
transcript-rows script text unsettled lines limits plain is are = record {
  after = is.0;
  log = is.1.0;
  answered = is.1.1;
  flag = is.1.3;
  rows = same_lines text lines (rows_in is.1.0) are (subst (λ x. AreLines x (rows_in is.1.0)) (sym is.1.2)
      (script-lines script.nodes script.words script.commands is.1.0 is.0 limits plain is.1.1));
}

transcript-line : (script : Script) (text : List ℕ) (unsettled : Bool) (lines : List (List ℕ)) → HasScriptLimits script.nodes script.words →
    HaveNames script.commands → IsTranscript script text unsettled → AreLines text lines → HasLine lines U ↔ (unsettled ≡ true)
transcript-line script text unsettled lines limits plain is are =
    let rows = transcript-rows script text unsettled lines limits plain is are in
    let log = log-line (new_session script.nodes script.words) script.commands rows.log rows.after rows.answered in (
      λ h. rows.flag ∙ log.0 (subst (λ x. HasLine x U) rows.rows h),
      λ u. subst (λ x. HasLine x U) (sym rows.rows)
          (log.1 (sym rows.flag ∙ u)),
    )

pub unsettled_is_written : UnsettledIsWritten
unsettled_is_written script outcomes.Done text lines limits plain is are =
    let one = transcript-line script text false lines limits plain is are in
    (λ e. cc, λ h. let never : false ≡ true = one.0 h in cc)
unsettled_is_written script outcomes.Unsettled text lines limits plain is are =
    let one = transcript-line script text true lines limits plain is are in
    (λ e. one.1 refl, λ h. refl)
unsettled_is_written script (outcomes.Refused why) text lines limits plain is are = absurd is

pub outputs_have_lines : OutputsHaveLines
outputs_have_lines script outcomes.Done text limits plain is = (
  rows_in is.1.0,
  subst (λ x. AreLines x (rows_in is.1.0)) (sym is.1.2)
      (script-lines script.nodes script.words script.commands is.1.0 is.0 limits plain is.1.1),
)
outputs_have_lines script outcomes.Unsettled text limits plain is = (
  rows_in is.1.0,
  subst (λ x. AreLines x (rows_in is.1.0)) (sym is.1.2)
      (script-lines script.nodes script.words script.commands is.1.0 is.0 limits plain is.1.1),
)
outputs_have_lines script (outcomes.Refused why) text limits plain is = absurd is
