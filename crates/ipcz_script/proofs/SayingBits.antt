-- Why the numbers in what is said have 64 bits: those of parcels are below the last number, and those of words are small.
use Rattle.std.proofs.Common.{◌≡◌, ◌+◌, ◌≤◌, ℕ, zero, suc, Bool, true, false, cond, List, [], ◌∷◌, ◌++◌, map, length, take}
use Rattle.std.proofs.Common.{Option, Some, None, refl, sym, ap, subst, append_assoc, arith}
use Rattle.std.specs.List.{AllByRecursion}
use Rattle.std.specs.FinMap.{get}
use Rattle.ipcz_base.specs.declared.end.End.{End}
use Rattle.ipcz_base.specs.declared.item.Item.{Item}
use Rattle.ipcz_base.specs.declared.item.Item.TheVariants.{Parcel, Mark, Gone}
use Rattle.ipcz_base.specs.declared.parcel.Parcel as parcels
use Rattle.ipcz_base.specs.Ends.{opposite_end}
use Rattle.ipcz_word.specs.Layout.{bits_of}
use Rattle.ipcz_world.specs.declared.step.Reply.{Reply}
use Rattle.ipcz_world.specs.World.{World, word_at, numbers_from}
use Rattle.ipcz_world.specs.Books.{is_closed, is_retired}
use Rattle.ipcz_world.specs.Holding.{shown_words}
use Rattle.ipcz_script.specs.ScriptLimits.{HasScriptLimits}
use Rattle.ipcz_world.proofs.facts.LinkTests.{opposite_end-twice}
use Rattle.ipcz_world.proofs.code.WordSources.{NameNodes, named-reached, named-small}
use Rattle.ipcz_script.specs.declared.command.Command.{Command}
use Rattle.ipcz_script.specs.declared.command.Command.TheVariants as commands
use Rattle.ipcz_script.specs.declared.said.Said.{Said}
use Rattle.ipcz_script.specs.declared.said.Said.TheVariants as said
use Rattle.ipcz_script.specs.Bindings.{Titles}
use Rattle.ipcz_script.specs.Lines.{turn_text}
use Rattle.ipcz_script.specs.Sessions.{Session, Replied, Runs, if_known, new_session}
use Rattle.ipcz_script.specs.Transcript.{Answered, AreAnswered}
use Rattle.ipcz_script.specs.ScriptBooks.{IsCount, gots_in, parcels_in, puts_in}
use Rattle.ipcz_script.specs.Sayings as sayings
use Rattle.ipcz_script.specs.Sayings.{HasBits, NodeHasBits, NumbersHaveBits, SaidNumbersHaveBits, Saying, sayings_in, sayings_of}
use Rattle.ipcz_script.proofs.ScriptRuns.{Kept, kept-script, lawful, numbers_count_up, gets_follow_puts, split}

-- ---- how much was put and got

parcels-fewer : (items : List Item) → length (parcels_in items) ≤ length items
parcels-fewer [] = omega (arith)
parcels-fewer (Parcel q ∷ items) = omega (arith, parcels-fewer items)
parcels-fewer (Mark ∷ items) = omega (arith, parcels-fewer items)
parcels-fewer (Gone ∷ items) = omega (arith, parcels-fewer items)

one-more : (b : Bool) → cond b 1 0 ≤ 1
one-more true = omega (arith)
one-more false = omega (arith)

-- what was put at an end has a number of 64 bits
puts-have-bits : (nodes words : ℕ) (w : World) (puts gots : End → List parcels.Parcel) (e : End) → Kept nodes words w puts gots →
    HasBits (length (puts e))
puts-have-bits nodes words w puts gots e at =
    let law = lawful nodes words w at.books at.routes at.reached in
    let same : length (parcels_in (at.books.put e)) ≡ length (puts e) = ap length (at.put e) in
    omega (
      arith,
      same,
      parcels-fewer (at.books.put e),
      law.inv.books_kept.numbers e,
      one-more (is_closed at.books e),
      one-more (is_retired at.books e),
    )

prefix-shorter : (xs ys : List parcels.Parcel) → take (length xs) ys ≡ xs → length xs ≤ length ys
prefix-shorter [] ys h = omega (arith)
prefix-shorter (x ∷ xs) [] h = cc
prefix-shorter (x ∷ xs) (y ∷ ys) h = omega (arith, prefix-shorter xs ys (ap rest h))
  where
    rest : List parcels.Parcel → List parcels.Parcel
    rest [] = []
    rest (z ∷ zs) = zs

-- ---- words

numbers-small : (w : World) (from many : ℕ) → NameNodes w → AllByRecursion HasBits (map (λ i. bits_of (word_at w i)) (numbers_from from many))
numbers-small w from zero named = tt
numbers-small w from (suc many) named =
    (omega (arith, named-small (word_at w from) (named from)), numbers-small w (from + 1) many named)

-- ---- what is said

-- a name that a call knows is that of an end
known-end : (s : Session) (o : Option End) (call : End → Replied) (answer : Said) → answer ≡ (if_known s o call).said →
    (answer ≡ said.UnknownName → ⊥) → (e : End) × (o ≡ Some e)
unfolding if_known
known-end s None call answer same known = absurd (known same)
known-end s (Some e) call answer same known = (e, refl)

turns-have : (node : ℕ) (turns : List Reply) → HasBits node →
    AllByRecursion NumbersHaveBits (map (λ reply. sayings.Turn node (turn_text reply)) turns)
turns-have node [] h = tt
turns-have node (r ∷ rs) h = (h, turns-have node rs h)

module _ (nodes words : ℕ) (s : Session) (earlier : List Answered) (at : Kept nodes words s.world (puts_in earlier) (gots_in earlier))
    (fewer : (e : End) → length (gots_in earlier e) ≤ length (puts_in earlier (opposite_end e))) (t : Session) where
  -- the numbers in what is said of an answer
  said-bits : (titles : Titles) (c : Command) (answer : Said) → NodeHasBits c → Runs s c answer t → IsCount earlier s.names c answer →
      AllByRecursion NumbersHaveBits (sayings_of titles c answer)
  unfolding sayings_of IsCount
  said-bits titles (commands.Open node a b) said.Opened h run count = (tt, tt)
  said-bits titles (commands.Open node a b) (said.Refused why) h run count = (tt, tt)
  said-bits titles (commands.Put name text attached) (said.Put n) h run count =
      let known = known-end s (get s.names name) _ (said.Put n) run.0 (λ never. cc) in
      (subst HasBits (sym (count known.0 known.1)) (puts-have-bits nodes words s.world (puts_in earlier) (gots_in earlier) known.0 at), tt)
  said-bits titles (commands.Put name text attached) said.UnknownName h run count = (tt, tt)
  said-bits titles (commands.Put name text attached) said.Away h run count = (tt, tt)
  said-bits titles (commands.Put name text attached) (said.Refused why) h run count = (tt, tt)
  said-bits titles (commands.Get name) (said.Got n p) h run count =
      let known = known-end s (get s.names name) _ (said.Got n p) run.0 (λ never. cc) in (
        omega (
          arith,
          count known.0 known.1,
          fewer known.0,
          puts-have-bits nodes words s.world (puts_in earlier) (gots_in earlier) (opposite_end known.0) at,
        ),
        tt,
      )
  said-bits titles (commands.Get name) said.UnknownName h run count = (tt, tt)
  said-bits titles (commands.Get name) said.Away h run count = (tt, tt)
  said-bits titles (commands.Get name) (said.Refused why) h run count = (tt, tt)
  said-bits titles (commands.Close name) (said.Closed n) h run count =
      let known = known-end s (get s.names name) _ (said.Closed n) run.0 (λ never. cc) in
      (subst HasBits (sym (count known.0 known.1)) (puts-have-bits nodes words s.world (puts_in earlier) (gots_in earlier) known.0 at), tt)
  said-bits titles (commands.Close name) said.UnknownName h run count = (tt, tt)
  said-bits titles (commands.Close name) said.Away h run count = (tt, tt)
  said-bits titles (commands.Close name) (said.Refused why) h run count = (tt, tt)
  said-bits titles (commands.Turn node many) (said.Turned rs) h run count = turns-have node rs h
  said-bits titles (commands.Settle limit) said.Settled h run count = (tt, tt)
  said-bits titles (commands.Settle limit) said.Unsettled h run count = (tt, tt)
  said-bits titles commands.Show (said.Words ws) h run count = (
    subst (AllByRecursion HasBits) (sym (shown run.0)) (numbers-small s.world 0 s.world.claimed
        (named-reached nodes words s.world at.books at.routes at.reached)),
    tt,
  )
    where
      shown : said.Words ws ≡ said.Words (shown_words s.world) → ws ≡ shown_words s.world
      shown same = ap words_of same
        where
          words_of : Said → List ℕ
          words_of (said.Words xs) = xs
          words_of other = []
  said-bits titles c answer h run count = tt

bits-append : (xs ys : List Saying) → AllByRecursion NumbersHaveBits xs → AllByRecursion NumbersHaveBits ys →
    AllByRecursion NumbersHaveBits (xs ++ ys)
bits-append [] ys h k = k
bits-append (x ∷ xs) ys h k = (h.0, bits-append xs ys h.1 k)

-- the numbers in what is said of the answers behind some others
rest-bits : (nodes words : ℕ) (cs : List Command) (earlier rest : List Answered) (t : Session) → HasScriptLimits nodes words →
    AreAnswered (new_session nodes words) cs (earlier ++ rest) t → AllByRecursion (λ a. NodeHasBits a.command) rest →
    AllByRecursion NumbersHaveBits (sayings_in rest)
rest-bits nodes words cs earlier [] t limits is h = tt
rest-bits nodes words cs earlier (a ∷ rest) t limits is h =
    let parts = split (new_session nodes words) cs earlier a rest t is in
    let at = kept-script nodes words parts.0 earlier a.before limits parts.1 in
    let fewer = λ (e : End). subst (λ d. length (gots_in earlier d) ≤ length (puts_in earlier (opposite_end e))) (opposite_end-twice e)
    (prefix-shorter _ _ (gets_follow_puts nodes words parts.0 earlier a.before limits parts.1 (opposite_end e))) in
    let same : (earlier ++ a ∷ []) ++ rest ≡ earlier ++ a ∷ rest = append_assoc earlier (a ∷ []) rest in
    bits-append (sayings_of a.after.titles a.command a.said) (sayings_in rest)
    (said-bits nodes words a.before earlier at fewer a.after a.after.titles a.command a.said h.0 parts.2
    (numbers_count_up nodes words cs earlier a rest t limits is))
    (rest-bits nodes words cs (earlier ++ a ∷ []) rest t limits
    (subst (λ l. AreAnswered (new_session nodes words) cs l t) (sym same) is) h.1)

-- the commands of the answers are those that were run
commands-have : (s : Session) (cs : List Command) (log : List Answered) (t : Session) → AreAnswered s cs log t → AllByRecursion NodeHasBits cs →
    AllByRecursion (λ a. NodeHasBits a.command) log
commands-have s [] [] t is h = tt
commands-have s [] (a ∷ rest) t is h = absurd is
commands-have s (c ∷ cs) [] t is h = absurd is
commands-have s (c ∷ cs) (a ∷ rest) t is h = (subst NodeHasBits (sym is.1) h.0, commands-have a.after cs rest t is.3 h.1)

pub said_numbers_have_bits : SaidNumbersHaveBits
said_numbers_have_bits nodes words cs log t limits h is =
    rest-bits nodes words cs [] log t limits is (commands-have (new_session nodes words) cs log t is h)
