-- Why the lines of puts, gets and closes have the numbers and the data that they must have.
use Rattle.std.proofs.Common.{◌≡◌, ◌∙◌, ℕ, List, [], ◌∷◌, ◌++◌, Option, Some, None, refl, sym, ap, subst, append_assoc, codes, length}
use Rattle.std.specs.Prelude.{slice_get}
use Rattle.std.specs.Fmt.{decimal}
use Rattle.std.specs.FinMap.{get}
use Rattle.ipcz_base.specs.declared.end.End.{End}
use Rattle.ipcz_base.specs.declared.parcel.Parcel as parcels
use Rattle.ipcz_base.specs.Ends.{opposite_end}
use Rattle.ipcz_world.specs.declared.step.Step.TheVariants as steps
use Rattle.ipcz_world.specs.declared.step.Reply.{Reply}
use Rattle.ipcz_world.specs.declared.step.Reply.TheVariants as replies
use Rattle.ipcz_world.specs.Books.{Books}
use Rattle.ipcz_world.specs.Plain.{Plain}
use Rattle.ipcz_world.specs.Holding.{holder_of}
use Rattle.ipcz_world.specs.Steps.{first_step}
use Rattle.ipcz_script.specs.declared.command.Command.{Command}
use Rattle.ipcz_script.specs.declared.command.Command.TheVariants as commands
use Rattle.ipcz_script.specs.declared.said.Said.{Said}
use Rattle.ipcz_script.specs.declared.said.Said.TheVariants as said
use Rattle.ipcz_script.specs.Bindings.{Titles}
use Rattle.ipcz_script.specs.Lines.{titles_text}
use Rattle.ipcz_script.specs.Sessions.{Session, Runs, answer_to, if_held, if_known, new_session}
use Rattle.ipcz_script.specs.Transcript.{Answered, lines_in}
use Rattle.ipcz_script.specs.ScriptBooks.{IsCount, gots_in, puts_in}
use Rattle.ipcz_script.specs.ReadBack.{HaveNoFeeds, spaced}
use Rattle.ipcz_script.specs.CountedLines.{AreCounted, LinesAreCounted}
use Rattle.ipcz_script.proofs.Feeds.{same_lines}
use Rattle.ipcz_script.proofs.Rows.{rows_of}
use Rattle.ipcz_script.proofs.LogLines.{lines-text, rows_in, script-lines}
use Rattle.ipcz_script.proofs.ScriptRuns.{Kept, kept-script, numbers_count_up, split}
use Rattle.ipcz_script.proofs.SettledGets.{got-next, plain}

-- ---- the text of a line, word by word

-- a word, a name and a number
pub numbered : (verb name number : List ℕ) → verb ++ codes " " ++ name ++ codes " " ++ number ≡ spaced (verb ∷ name ∷ number ∷ [])
numbered verb name number =
    append_assoc (verb ++ codes " " ++ name) (codes " ") number ∙ append_assoc (verb ++ codes " ") name (32 ∷ number)
    ∙ append_assoc verb (codes " ") (name ++ 32 ∷ number)

quoted : (portals bytes : List ℕ) → portals ++ codes "] \"" ++ bytes ++ codes "\"" ≡ (portals ++ 93 ∷ []) ++ 32 ∷ 34 ∷ (bytes ++ 34 ∷ [])
quoted [] bytes = refl
quoted (x ∷ portals) bytes = ap (λ l. x ∷ l) (quoted portals bytes)

-- what a line says of a parcel
pub parceled : (number portals bytes : List ℕ) → number ++ codes " [" ++ portals ++ codes "] \"" ++ bytes ++ codes "\"" ≡
    spaced (number ∷ (91 ∷ (portals ++ 93 ∷ [])) ∷ (34 ∷ (bytes ++ 34 ∷ [])) ∷ [])
parceled [] portals bytes = ap (λ l. 32 ∷ 91 ∷ l) (quoted portals bytes)
parceled (x ∷ number) portals bytes = ap (λ l. x ∷ l) (parceled number portals bytes)

-- ---- the parcel that a get got

module _ (nodes words : ℕ) (s : Session) (log : List Answered) (at : Kept nodes words s.world (puts_in log) (gots_in log)) where
  abbrev pub Next : End → parcels.Parcel → Type 0
  Next e p = slice_get (puts_in log (opposite_end e)) (length (gots_in log e)) ≡ Some p

  next-of : (e : End) (n : ℕ) (there : holder_of s.world e ≡ Some n) (reply : Reply) (c : Books) → Plain at.books (steps.Get n e) reply c →
      (k : ℕ) (p : parcels.Parcel) → said.Got k p ≡ answer_to reply → Next e p
  unfolding answer_to
  next-of e n there (replies.Got m q) c plainly k p same =
      let one : q ≡ p = cc in subst (λ x. slice_get (puts_in log (opposite_end e)) (length (gots_in log e)) ≡ Some x) one
      (got-next nodes words s log at e n there q plainly.1)
  next-of e n there (replies.Opened a b) c plainly k p same = absurd plainly
  next-of e n there (replies.Put m) c plainly k p same = absurd plainly
  next-of e n there (replies.Closed m) c plainly k p same = absurd plainly
  next-of e n there (replies.Turned event) c plainly k p same = absurd plainly
  next-of e n there (replies.Refused why) c plainly k p same = cc

  pub got-is-next : (name : List ℕ) (e : End) (k : ℕ) (p : parcels.Parcel) (t : Session) → get s.names name ≡ Some e →
      Runs s (commands.Get name) (said.Got k p) t → Next e p
  unfolding if_known if_held
  got-is-next name e k p t bound run =
      held (holder_of s.world e) refl (run.0 ∙ ap (λ o. (if_known s o (λ end. if_held s (holder_of s.world end) (λ n.
      record {
        said = answer_to (first_step s.world (steps.Get n end)).reply;
        session = record s { world = (first_step s.world (steps.Get n end)).world };
      }))).said) bound)
    where
      held : (o : Option ℕ) → holder_of s.world e ≡ o → said.Got k p ≡ (if_held s o (λ n.
          record {
            said = answer_to (first_step s.world (steps.Get n e)).reply;
            session = record s { world = (first_step s.world (steps.Get n e)).world };
          })).said → Next e p
      held None there same = cc
      held (Some n) there same = next-of e n there (first_step s.world (steps.Get n e)).reply _ (plain nodes words s log at e n there) k p
          same

-- ---- all lines

pub rows-append : (xs ys : List Answered) → rows_in (xs ++ ys) ≡ rows_in xs ++ rows_in ys
rows-append [] ys = refl
rows-append (a ∷ xs) ys =
    ap (λ l. rows_of a.after.titles a.command a.said ++ l) (rows-append xs ys)
    ∙ sym (append_assoc (rows_of a.after.titles a.command a.said) (rows_in xs) (rows_in ys))

feeds-front : (xs ys : List (List ℕ)) → HaveNoFeeds (xs ++ ys) → HaveNoFeeds xs
feeds-front [] ys h = tt
feeds-front (x ∷ xs) ys h = (h.0, feeds-front xs ys h.1)

-- the lines of an answer whose number is known, and its parcel
counted : (earlier : List Answered) (s : Session) (c : Command) (answer : Said) (t : Session) (titles : Titles) → Runs s c answer t →
    ((name : List ℕ) (k : ℕ) (p : parcels.Parcel) (e : End) → c ≡ commands.Get name → answer ≡ said.Got k p → get s.names name ≡ Some e →
    slice_get (puts_in earlier (opposite_end e)) (length (gots_in earlier e)) ≡ Some p) →
    IsCount earlier s.names c answer → AreCounted earlier s.names c answer (rows_of titles c answer)
unfolding IsCount AreCounted
counted earlier s (commands.Put at text attached) (said.Put n) t titles is next count =
    λ e bound. ap (λ l. l ∷ []) (numbered (codes "put") at (decimal n) ∙ ap (λ k. spaced (codes "put" ∷ at ∷ decimal k ∷ []))
    (count e bound))
counted earlier s (commands.Close at) (said.Closed n) t titles is next count =
    λ e bound. ap (λ l. l ∷ []) (numbered (codes "close") at (decimal n) ∙ ap (λ k. spaced (codes "close" ∷ at ∷ decimal k ∷ []))
    (count e bound))
counted earlier s (commands.Get at) (said.Got n p) t titles is next count =
    λ e bound. (
      _,
      p,
      refl,
      next at n p e refl refl bound,
      record {
        portals = titles_text titles p.ends;
        words = numbered (codes "get") at _ ∙ ap (λ l. spaced (codes "get" ∷ at ∷ l ∷ []))
            (parceled (decimal n) (titles_text titles p.ends) p.bytes)
            ∙ ap (λ k. spaced (codes "get" ∷ at ∷ decimal k ∷ (91 ∷ (titles_text titles p.ends ++ 93 ∷ [])) ∷ (34 ∷ (p.bytes ++ 34 ∷ []))
            ∷ [])) (count e bound);
      },
    )
counted earlier s c answer t titles is next count = tt

pub lines_are_counted : LinesAreCounted
lines_are_counted nodes words cs earlier a later t lines limits plainly is are =
    let parts = split (new_session nodes words) cs earlier a later t is in
    let at = kept-script nodes words parts.0 earlier a.before limits parts.1 in
    let all = script-lines nodes words cs (earlier ++ a ∷ later) t limits plainly is in
    let same : lines ≡ rows_in (earlier ++ a ∷ later) = same_lines (lines_in (earlier ++ a ∷ later)) lines
    (rows_in (earlier ++ a ∷ later)) are all in (
      rows_in earlier,
      rows_of a.after.titles a.command a.said,
      rows_in later,
      same ∙ rows-append earlier (a ∷ later),
      record {
        whole = sym (lines-text earlier);
        each = feeds-front (rows_in earlier) (rows_in (a ∷ later)) (subst HaveNoFeeds (rows-append earlier (a ∷ later)) all.each);
      },
      counted earlier a.before a.command a.said a.after a.after.titles parts.2
          (λ name k p e same_command same_answer bound. got-is-next nodes words a.before earlier at name e k p a.after bound
          (subst (λ x. Runs a.before (commands.Get name) x a.after) same_answer (subst (λ x. Runs a.before x a.said a.after) same_command
          parts.2)))
          (numbers_count_up nodes words cs earlier a later t limits is),
    )
