-- Why the lines of a transcript say that a name got a front of what its peer put: names are one to one with ends, so that what is known of
-- ends holds of names.
use Rattle.std.proofs.Common.{◌≡◌, ◌∙◌, ◌++◌, ◌+◌, ap, sym, refl, subst, inl, inr, arith, ℕ, zero, suc, Bool, true, false, cond}
use Rattle.std.proofs.Common.{List, [], ◌∷◌, map, length, take, Ok, append_assoc, append-nil}
use Rattle.std.specs.Prelude.{bytes_eq, unwrap_or}
use Rattle.std.specs.List.{AllByRecursion, range_with_len}
use Rattle.std.specs.Option.{option_map_or}
use Rattle.std.proofs.lemmas.Slice.Eq.{bytes_eq-Decides}
use Rattle.ipcz_base.specs.declared.end.End.{End}
use Rattle.ipcz_base.specs.declared.parcel.Parcel as parcels
use Rattle.ipcz_base.specs.declared.refusal.Refusal.{Refusal}
use Rattle.ipcz_base.specs.Ends.{opposite_end, same_end}
use Rattle.ipcz_world.specs.declared.step.Reply.{Reply}
use Rattle.ipcz_script.specs.ScriptLimits.{HasScriptLimits}
use Rattle.ipcz_world.proofs.facts.LinkTests.{same_end-itself, same_end-tells}
use Rattle.ipcz_script.specs.declared.command.Command.{Command}
use Rattle.ipcz_script.specs.declared.command.Command.TheVariants as commands
use Rattle.ipcz_script.specs.declared.script.Script.{Script}
use Rattle.ipcz_script.specs.declared.outcome.Outcome.TheVariants as outcomes
use Rattle.ipcz_script.specs.declared.said.Said.{Said}
use Rattle.ipcz_script.specs.declared.said.Said.TheVariants as said
use Rattle.ipcz_script.specs.Bindings.{Titles}
use Rattle.ipcz_script.specs.Lines.{title_of, turn_text}
use Rattle.ipcz_script.specs.Sessions.{Session, Runs, ends_of, new_session}
use Rattle.ipcz_script.specs.Transcript.{Answered, AreAnswered, lines_in}
use Rattle.ipcz_script.specs.ScriptBooks.{IsCount, got_said, gots_in, is_bound, parcel_of, put_said, puts_in}
use Rattle.ipcz_script.specs.Reading.{IsScript}
use Rattle.ipcz_script.specs.ReadBack.{AreLines}
use Rattle.ipcz_script.specs.Sayings as sayings
use Rattle.ipcz_script.specs.Sayings.{Answer, Number, UnknownName, Away, Refused, Saying, NumbersHaveBits, Says, saying_text, sayings_in}
use Rattle.ipcz_script.specs.Sayings.{sayings_of}
use Rattle.ipcz_script.specs.ParcelsByName.{AreInOrder, ArePeers, Content, GetsFollowPutsByName, Numbered, accepted, given, given_by}
use Rattle.ipcz_script.specs.ParcelsByName.{got_by, got_line, put_by, put_line, put_lines}
use Rattle.ipcz_script.proofs.Feeds.{same_lines}
use Rattle.ipcz_script.proofs.ReadNames.{scripts_have_names}
use Rattle.ipcz_script.proofs.NewNames.{scripts_have_new}
use Rattle.ipcz_script.proofs.ScriptRuns.{Kept, gets_follow_puts, kept-script, numbers_count_up, split}
use Rattle.ipcz_script.proofs.CountedLines.{got-is-next}
use Rattle.ipcz_script.proofs.SayingNames.{lines_say_answers}
use Rattle.ipcz_script.proofs.BoundNames.{AreTold, IsBound, Stays, one-end, one-name}
use Rattle.ipcz_script.proofs.BoundCalls.{AreOfNamed, HaveNames, PutIsBound, get-bound, next-named, parcels-append}
use Rattle.ipcz_script.proofs.BoundCalls.{parcels-stay, portals, put-answered, put-bound, put-named}
use Rattle.ipcz_script.proofs.NamedRuns.{IsNamed, script-named, start-told}
use Rattle.ipcz_script.proofs.NamedPeers.{script-peers}
use Rattle.ipcz_script.proofs.SameCalls.{blank, same-gots, same-opens, same-puts, same_calls, script-bits}

-- ---- parcels under numbers

abbrev pub content : List (List ℕ) → List ℕ → Content
content names text = record { portals = names; data_ = text }

abbrev pub under : ℕ → List (List ℕ) → List ℕ → Numbered
under n names text = record { number = n; content = content names text }

-- these parcels as a script has them, numbered from a number on
abbrev pub numbered_from : ℕ → Titles → List parcels.Parcel → List Numbered
numbered_from k titles [] = []
numbered_from k titles (p ∷ ps) =
    under k (map (title_of titles) p.ends) p.bytes ∷ numbered_from (k + 1) titles ps

numbered-append : (k : ℕ) (titles : Titles) (ps qs : List parcels.Parcel) →
    numbered_from k titles (ps ++ qs) ≡ numbered_from k titles ps ++ numbered_from (k + length ps) titles qs
numbered-append k titles [] qs = let none : k + 0 ≡ k = omega arith in ap (λ n. numbered_from n titles qs) (sym none)
numbered-append k titles (p ∷ ps) qs =
    let more : k + 1 + length ps ≡ k + length (p ∷ ps) = omega arith in
    let one : Numbered = under k (map (title_of titles) p.ends) p.bytes in
    ap (λ l. one ∷ l) (numbered-append (k + 1) titles ps qs
    ∙ ap (λ n. numbered_from (k + 1) titles ps ++ numbered_from n titles qs) more)

numbered-take : (n k : ℕ) (titles : Titles) (ps : List parcels.Parcel) →
    take n (numbered_from k titles ps) ≡ numbered_from k titles (take n ps)
numbered-take zero k titles ps = refl
numbered-take (suc n) k titles [] = refl
numbered-take (suc n) k titles (p ∷ ps) =
    let one : Numbered = under k (map (title_of titles) p.ends) p.bytes in
    ap (λ l. one ∷ l) (numbered-take n (k + 1) titles ps)

numbered-length : (k : ℕ) (titles : Titles) (ps : List parcels.Parcel) → length (numbered_from k titles ps) ≡ length ps
numbered-length k titles [] = refl
numbered-length k titles (p ∷ ps) = ap suc (numbered-length (k + 1) titles ps)

numbered-counts : (k : ℕ) (titles : Titles) (ps : List parcels.Parcel) →
    map (λ p. p.number) (numbered_from k titles ps) ≡ range_with_len k (length ps)
numbered-counts k titles [] = refl
numbered-counts k titles (p ∷ ps) = ap (λ l. k ∷ l) (numbered-counts (k + 1) titles ps)

-- what follows parcels and was got in order, says so of them as a script has them
numbered-order : (titles : Titles) (puts gots : List parcels.Parcel) → take (length gots) puts ≡ gots →
    AreInOrder (numbered_from 0 titles puts) (numbered_from 0 titles gots)
numbered-order titles puts gots front = record {
  counted = numbered-counts 0 titles puts ∙ ap (range_with_len 0) (sym (numbered-length 0 titles puts));
  front = ap (λ n. take n (numbered_from 0 titles puts)) (numbered-length 0 titles gots)
      ∙ numbered-take (length gots) 0 titles puts ∙ ap (numbered_from 0 titles) front;
}

-- ---- one end

same-bytes : (a b : List ℕ) → a ≡ b → bytes_eq a b ≡ true
same-bytes a b e = (bytes_eq-Decides a b).1 e

bytes-same : (a b : List ℕ) → bytes_eq a b ≡ true → a ≡ b
bytes-same a b e = (bytes_eq-Decides a b).0 e

-- a call at a name that is bound is at the end of another name exactly if it is at this name
module _ (s t : Session) (x at : List ℕ) (e end : End) (told : AreTold t) (stays : Stays s t) (there : IsBound t x e)
    (bound : IsBound s at end) where
  pub is-at : bytes_eq at x ≡ true → is_bound s.names at e ≡ true
  is-at h =
      let same : end ≡ e = one-end t x end e (subst (λ n. IsBound t n end) (bytes-same at x h) (stays at end bound)) there in
      ap (λ o. option_map_or (same_end e) o false) bound ∙ ap (same_end e) same ∙ same_end-itself e

  pub at-is : is_bound s.names at e ≡ true → bytes_eq at x ≡ true
  at-is h =
      let same : e ≡ end = same_end-tells e end (sym (ap (λ o. option_map_or (same_end e) o false) bound) ∙ h) in
      same-bytes at x (one-name t at x e told (subst (IsBound t at) (sym same) (stays at end bound)) there)

  pub end-is : bytes_eq at x ≡ true → IsBound s at e
  end-is h =
      let same : end ≡ e = one-end t x end e (subst (λ n. IsBound t n end) (bytes-same at x h) (stays at end bound)) there in
      subst (IsBound s at) same bound

true-false : (b c : Bool) → b ≡ true → b ≡ false → ⊥
true-false b c h k = let never : true ≡ false = sym h ∙ k in cc

-- ---- what one line says of puts

turns-put : (name : List ℕ) (node : ℕ) (rs : List Reply) → put_lines name (map (λ reply. sayings.Turn node (turn_text reply)) rs) ≡ []
unfolding put_line
turns-put name node [] = refl
turns-put name node (r ∷ rs) = turns-put name node rs

module _ (earlier : List Answered) (t s u : Session) (x : List ℕ) (e : End) (titles : Titles) (told : AreTold t) (stays : Stays s t)
    (there : IsBound t x e) (more_given : List Content) (more_lines : List Answer) where
  -- a command's part of the puts
  abbrev pub PutsOf : Command → Said → Type 0
  PutsOf c answer = accepted (given x c ++ more_given) (put_lines x (sayings_of titles c answer) ++ more_lines) ≡
      numbered_from (length (puts_in earlier e)) t.titles (put_said s.names c answer e) ++ accepted more_given more_lines

  unnumbered : (at text : List ℕ) (attached : List (List ℕ)) (b : Bool) (why : Refusal) →
      accepted (cond b (content attached text ∷ []) [] ++ more_given) ((cond b (Refused why ∷ []) [] ++ []) ++ more_lines)
      ≡ accepted more_given more_lines
  unnumbered at text attached true why = refl
  unnumbered at text attached false why = refl

  unknown : (at text : List ℕ) (attached : List (List ℕ)) (b : Bool) →
      accepted (cond b (content attached text ∷ []) [] ++ more_given) ((cond b (UnknownName ∷ []) [] ++ []) ++ more_lines)
      ≡ accepted more_given more_lines
  unknown at text attached true = refl
  unknown at text attached false = refl

  away : (at text : List ℕ) (attached : List (List ℕ)) (b : Bool) →
      accepted (cond b (content attached text ∷ []) [] ++ more_given) ((cond b (Away ∷ []) [] ++ []) ++ more_lines)
      ≡ accepted more_given more_lines
  away at text attached true = refl
  away at text attached false = refl

  numbered : (at text : List ℕ) (attached : List (List ℕ)) (n : ℕ) → Runs s (commands.Put at text attached) (said.Put n) u →
      IsCount earlier s.names (commands.Put at text attached) (said.Put n) → PutsOf (commands.Put at text attached) (said.Put n)
  unfolding given put_line sayings_of put_said IsCount
  numbered at text attached n run count = go (bytes_eq at x) refl (is_bound s.names at e) refl
    where
      bound : PutIsBound s at attached
      bound = put-bound s at text attached n u run

      shown : map (title_of t.titles) (unwrap_or (ends_of s.names attached) []) ≡ attached
      shown = ap (λ o. map (title_of t.titles) (unwrap_or o [])) bound.known
          ∙ (portals s t attached bound.ends told stays bound.known).told

      go : (b : Bool) → bytes_eq at x ≡ b → (c : Bool) → is_bound s.names at e ≡ c →
          accepted (cond b (content attached text ∷ []) [] ++ more_given)
          ((cond b (Number n ∷ []) [] ++ []) ++ more_lines) ≡
          numbered_from (length (puts_in earlier e)) t.titles (cond c (parcel_of s.names text attached ∷ []) [])
          ++ accepted more_given more_lines
      go true h true k =
          let number : n ≡ length (puts_in earlier e) = count e (end-is s t x at e bound.end told stays there bound.bound h) in
          λ i. under (number i) (sym shown i) text ∷ accepted more_given more_lines
      go true h false k = absurd (true-false (is_bound s.names at e) false (is-at s t x at e bound.end told stays there bound.bound h) k)
      go false h true k = absurd (true-false (bytes_eq at x) false (at-is s t x at e bound.end told stays there bound.bound k) h)
      go false h false k = refl

  pub puts-of : (c : Command) (answer : Said) → Runs s c answer u → IsCount earlier s.names c answer → PutsOf c answer
  unfolding given put_line sayings_of put_said
  puts-of (commands.Put at text attached) (said.Put n) run count = numbered at text attached n run count
  puts-of (commands.Put at text attached) said.UnknownName run count = unknown at text attached (bytes_eq at x)
  puts-of (commands.Put at text attached) said.Away run count = away at text attached (bytes_eq at x)
  puts-of (commands.Put at text attached) (said.Refused why) run count = unnumbered at text attached (bytes_eq at x) why
  puts-of (commands.Put at text attached) answer run count = absurd (put-answered s at text attached answer u run)
  puts-of (commands.Open node a b) said.Opened run count = refl
  puts-of (commands.Open node a b) (said.Refused why) run count = refl
  puts-of (commands.Get at) (said.Got n p) run count = refl
  puts-of (commands.Get at) said.UnknownName run count = refl
  puts-of (commands.Get at) said.Away run count = refl
  puts-of (commands.Get at) (said.Refused why) run count = refl
  puts-of (commands.Close at) (said.Closed n) run count = refl
  puts-of (commands.Close at) said.UnknownName run count = refl
  puts-of (commands.Close at) said.Away run count = refl
  puts-of (commands.Close at) (said.Refused why) run count = refl
  puts-of (commands.Turn node count) (said.Turned rs) run counted =
      ap (λ l. accepted more_given (l ++ more_lines)) (turns-put x node rs)
  puts-of (commands.Settle limit) said.Settled run count = refl
  puts-of (commands.Settle limit) said.Unsettled run count = refl
  puts-of commands.Show (said.Words ws) run count = refl
  puts-of c answer run count = refl

-- ---- what one line says of gets

turns-got : (name : List ℕ) (node : ℕ) (rs : List Reply) → got_by name (map (λ reply. sayings.Turn node (turn_text reply)) rs) ≡ []
unfolding got_line
turns-got name node [] = refl
turns-got name node (r ∷ rs) = turns-got name node rs

-- ends that have names print alike from then on
same-titles : (s t u : Session) (es : List End) → AreTold t → AreTold u → Stays s t → Stays s u → HaveNames s es →
    map (title_of u.titles) es ≡ map (title_of t.titles) es
same-titles s t u [] told told_next stays goes h = refl
same-titles s t u (e ∷ es) told told_next stays goes h =
    let one = told_next h.0.0 e (goes h.0.0 e h.0.1) ∙ sym (told h.0.0 e (stays h.0.0 e h.0.1)) in
    let more = same-titles s t u es told told_next stays goes h.1 in
    λ i. one i ∷ more i

module _ (earlier : List Answered) (t s u : Session) (y : List ℕ) (d : End) (told : AreTold t) (told_next : AreTold u) (stays : Stays s t)
    (goes : Stays s u) (there : IsBound t y d) where
  -- a command's part of the gets
  abbrev pub GotsOf : Command → Said → Type 0
  GotsOf c answer = got_by y (sayings_of u.titles c answer) ≡
      numbered_from (length (gots_in earlier d)) t.titles (got_said s.names c answer d)

  parceled : (at : List ℕ) (n : ℕ) (p : parcels.Parcel) → Runs s (commands.Get at) (said.Got n p) u →
      IsCount earlier s.names (commands.Get at) (said.Got n p) → HaveNames s p.ends → GotsOf (commands.Get at) (said.Got n p)
  unfolding got_line sayings_of got_said IsCount
  parceled at n p run count named = go (bytes_eq at y) refl (is_bound s.names at d) refl
    where
      bound : (e : End) × IsBound s at e
      bound = get-bound s at n p u run

      go : (b : Bool) → bytes_eq at y ≡ b → (c : Bool) → is_bound s.names at d ≡ c →
          cond b (under n (map (title_of u.titles) p.ends) p.bytes ∷ []) [] ++ [] ≡
          numbered_from (length (gots_in earlier d)) t.titles (cond c (p ∷ []) [])
      go true h true k =
          let number : n ≡ length (gots_in earlier d) = count d (end-is s t y at d bound.0 told stays there bound.1 h) in
          let shown = same-titles s t u p.ends told told_next stays goes named in
          λ i. under (number i) (shown i) p.bytes ∷ []
      go true h false k = absurd (true-false (is_bound s.names at d) false (is-at s t y at d bound.0 told stays there bound.1 h) k)
      go false h true k = absurd (true-false (bytes_eq at y) false (at-is s t y at d bound.0 told stays there bound.1 k) h)
      go false h false k = refl

  pub gots-of : (c : Command) (answer : Said) → Runs s c answer u → IsCount earlier s.names c answer →
      ((at : List ℕ) (n : ℕ) (p : parcels.Parcel) → c ≡ commands.Get at → answer ≡ said.Got n p → HaveNames s p.ends) → GotsOf c answer
  unfolding got_line sayings_of got_said
  gots-of (commands.Get at) (said.Got n p) run count named = parceled at n p run count (named at n p refl refl)
  gots-of (commands.Get at) said.UnknownName run count named = refl
  gots-of (commands.Get at) said.Away run count named = refl
  gots-of (commands.Get at) (said.Refused why) run count named = refl
  gots-of (commands.Open node a b) said.Opened run count named = refl
  gots-of (commands.Open node a b) (said.Refused why) run count named = refl
  gots-of (commands.Put at text attached) (said.Put n) run count named = refl
  gots-of (commands.Put at text attached) said.UnknownName run count named = refl
  gots-of (commands.Put at text attached) said.Away run count named = refl
  gots-of (commands.Put at text attached) (said.Refused why) run count named = refl
  gots-of (commands.Close at) (said.Closed n) run count named = refl
  gots-of (commands.Close at) said.UnknownName run count named = refl
  gots-of (commands.Close at) said.Away run count named = refl
  gots-of (commands.Close at) (said.Refused why) run count named = refl
  gots-of (commands.Turn node count) (said.Turned rs) run counted named = turns-got y node rs
  gots-of (commands.Settle limit) said.Settled run count named = refl
  gots-of (commands.Settle limit) said.Unsettled run count named = refl
  gots-of commands.Show (said.Words ws) run count named = refl
  gots-of c answer run count named = refl

-- ---- all lines

put_lines-append : (name : List ℕ) (xs ys : List Saying) → put_lines name (xs ++ ys) ≡ put_lines name xs ++ put_lines name ys
put_lines-append name [] ys = refl
put_lines-append name (x ∷ xs) ys =
    ap (λ l. put_line name x ++ l) (put_lines-append name xs ys)
    ∙ sym (append_assoc (put_line name x) (put_lines name xs) (put_lines name ys))

got_by-append : (name : List ℕ) (xs ys : List Saying) → got_by name (xs ++ ys) ≡ got_by name xs ++ got_by name ys
got_by-append name [] ys = refl
got_by-append name (x ∷ xs) ys =
    ap (λ l. got_line name x ++ l) (got_by-append name xs ys) ∙ sym (append_assoc (got_line name x) (got_by name xs) (got_by name ys))

puts_in-push : (earlier : List Answered) (a : Answered) (e : End) →
    puts_in (earlier ++ a ∷ []) e ≡ puts_in earlier e ++ put_said a.before.names a.command a.said e
puts_in-push [] a e = append-nil (put_said a.before.names a.command a.said e)
puts_in-push (b ∷ earlier) a e =
    ap (λ l. put_said b.before.names b.command b.said e ++ l) (puts_in-push earlier a e)
    ∙ sym (append_assoc (put_said b.before.names b.command b.said e) (puts_in earlier e) (put_said a.before.names a.command a.said e))

gots_in-push : (earlier : List Answered) (a : Answered) (e : End) →
    gots_in (earlier ++ a ∷ []) e ≡ gots_in earlier e ++ got_said a.before.names a.command a.said e
gots_in-push [] a e = append-nil (got_said a.before.names a.command a.said e)
gots_in-push (b ∷ earlier) a e =
    ap (λ l. got_said b.before.names b.command b.said e ++ l) (gots_in-push earlier a e)
    ∙ sym (append_assoc (got_said b.before.names b.command b.said e) (gots_in earlier e) (got_said a.before.names a.command a.said e))

length-append : (ps qs : List parcels.Parcel) → length (ps ++ qs) ≡ length ps + length qs
length-append [] qs = omega arith
length-append (p ∷ ps) qs = let more = length-append ps qs in omega (arith, more)

-- parcels behind others go on with their numbers
numbered-on : (titles : Titles) (before all : List parcels.Parcel) (ps qs : List parcels.Parcel) → all ≡ before ++ ps →
    numbered_from (length before) titles ps ++ numbered_from (length all) titles qs ≡ numbered_from (length before) titles (ps ++ qs)
numbered-on titles before all ps qs same =
    ap (λ n. numbered_from (length before) titles ps ++ numbered_from n titles qs) (ap length same ∙ length-append before ps)
    ∙ sym (numbered-append (length before) titles ps qs)

-- the commands of these answers
abbrev pub commands_in : List Answered → List Command
commands_in log = map (λ a. a.command) log

commands-same : (s : Session) (cs : List Command) (log : List Answered) (t : Session) → AreAnswered s cs log t → cs ≡ commands_in log
commands-same s [] [] t is = refl
commands-same s [] (a ∷ log) t is = absurd is
commands-same s (c ∷ cs) [] t is = absurd is
commands-same s (c ∷ cs) (a ∷ log) t is =
    let more = commands-same a.after cs log t is.3 in
    λ i. sym is.1 i ∷ more i

module _ (nodes words : ℕ) (cs : List Command) (t : Session) (limits : HasScriptLimits nodes words) (told : AreTold t) where
  pushed : (earlier : List Answered) (a : Answered) (rest : List Answered) →
      AreAnswered (new_session nodes words) cs (earlier ++ a ∷ rest) t →
      AreAnswered (new_session nodes words) cs ((earlier ++ a ∷ []) ++ rest) t
  pushed earlier a rest is = subst (λ l. AreAnswered (new_session nodes words) cs l t) (sym (append_assoc earlier (a ∷ []) rest)) is

  rest-puts : (x : List ℕ) (e : End) → IsBound t x e → (earlier rest : List Answered) →
      AreAnswered (new_session nodes words) cs (earlier ++ rest) t → AllByRecursion (IsNamed t) rest →
      put_by x (commands_in rest) (sayings_in rest) ≡ numbered_from (length (puts_in earlier e)) t.titles (puts_in rest e)
  rest-puts x e there earlier [] is named = refl
  rest-puts x e there earlier (a ∷ rest) is named =
      let parts = split (new_session nodes words) cs earlier a rest t is in
      let count = numbers_count_up nodes words cs earlier a rest t limits is in
      ap (accepted (given x a.command ++ given_by x (commands_in rest)))
      (put_lines-append x (sayings_of a.after.titles a.command a.said) (sayings_in rest))
      ∙ puts-of earlier t a.before a.after x e a.after.titles told named.0.stays there (given_by x (commands_in rest))
      (put_lines x (sayings_in rest)) a.command a.said parts.2 count
      ∙ ap (λ l. numbered_from (length (puts_in earlier e)) t.titles (put_said a.before.names a.command a.said e) ++ l)
      (rest-puts x e there (earlier ++ a ∷ []) rest (pushed earlier a rest is) named.1)
      ∙ numbered-on t.titles (puts_in earlier e) (puts_in (earlier ++ a ∷ []) e) (put_said a.before.names a.command a.said e)
      (puts_in rest e) (puts_in-push earlier a e)

  rest-gots : (y : List ℕ) (d : End) → IsBound t y d → (earlier rest : List Answered) (s : Session) (ds : List Command) →
      AreAnswered (new_session nodes words) cs (earlier ++ rest) t → AreAnswered s ds rest t → AllByRecursion (IsNamed t) rest →
      AreTold s → ((e : End) → AreOfNamed s (puts_in earlier e)) →
      got_by y (sayings_in rest) ≡ numbered_from (length (gots_in earlier d)) t.titles (gots_in rest d)
  rest-gots y d there earlier [] s ds is own named told_now puts = refl
  rest-gots y d there earlier (a ∷ rest) s [] is own named told_now puts = absurd own
  rest-gots y d there earlier (a ∷ rest) s (c ∷ ds) is own named told_now puts =
      let parts = split (new_session nodes words) cs earlier a rest t is in
      let at = kept-script nodes words parts.0 earlier a.before limits parts.1 in
      let count = numbers_count_up nodes words cs earlier a rest t limits is in
      let puts_now : (e : End) → AreOfNamed a.before (puts_in earlier e) = λ e. subst (λ x. AreOfNamed x (puts_in earlier e)) (sym own.0)
      (puts e) in
      let told_here : AreTold a.before = subst AreTold (sym own.0) told_now in
      got_by-append y (sayings_of a.after.titles a.command a.said) (sayings_in rest)
      ∙ ap (λ l. l ++ got_by y (sayings_in rest)) (gots-of earlier t a.before a.after y d told named.0.told named.0.stays named.0.goes there
      a.command a.said parts.2 count
      (λ name k p same_command same_answer. got-ends earlier a at puts_now name k p
      (subst (λ x. Runs a.before (commands.Get name) x a.after) same_answer
      (subst (λ x. Runs a.before x a.said a.after) same_command parts.2))))
      ∙ ap (λ l. numbered_from (length (gots_in earlier d)) t.titles (got_said a.before.names a.command a.said d) ++ l)
      (rest-gots y d there (earlier ++ a ∷ []) rest a.after ds (pushed earlier a rest is) own.3 named.1 named.0.told
      (λ e. subst (AreOfNamed a.after) (sym (puts_in-push earlier a e))
      (parcels-append a.after (puts_in earlier e) (put_said a.before.names a.command a.said e)
      (parcels-stay a.before a.after (puts_in earlier e) named.0.goes (puts_now e))
      (parcels-stay a.before a.after (put_said a.before.names a.command a.said e) named.0.goes
      (put-named a.before a.command a.said a.after e told_here parts.2)))))
      ∙ numbered-on t.titles (gots_in earlier d) (gots_in (earlier ++ a ∷ []) d) (got_said a.before.names a.command a.said d)
      (gots_in rest d) (gots_in-push earlier a d)
    where
      got-ends : (earlier : List Answered) (a : Answered)
          (at : Kept nodes words a.before.world (puts_in earlier) (gots_in earlier)) →
          ((e : End) → AreOfNamed a.before (puts_in earlier e)) → (name : List ℕ) (k : ℕ) (p : parcels.Parcel) →
          Runs a.before (commands.Get name) (said.Got k p) a.after → HaveNames a.before p.ends
      got-ends earlier a at puts name k p run =
          let bound = get-bound a.before name k p a.after run in
          next-named a.before (puts_in earlier (opposite_end bound.0)) (length (gots_in earlier bound.0)) p (puts (opposite_end bound.0))
          (got-is-next nodes words a.before earlier at name bound.0 k p a.after bound.1 run)

-- ---- the whole

abbrev Concludes : Script → List ℕ → Type 0
Concludes script text =
    (xs : List Saying) (x y : List ℕ) → Says text xs → AllByRecursion NumbersHaveBits xs → ArePeers script.nodes xs x y →
    AreInOrder (put_by x script.commands xs) (got_by y xs)

of-log : (input : List ℕ) (script : Script) (log : List Answered) (t : Session) → IsScript input (Ok script) →
    AreAnswered (new_session script.nodes script.words) script.commands log t → (text : List ℕ) → text ≡ lines_in log →
    Concludes script text
of-log input script log t read is text whole xs x y says bits peers =
    let good = scripts_have_names input script read in
    let new = scripts_have_new input script read in
    let own = lines_say_answers script.nodes script.words script.commands log t good.0 good.2 is in
    let texts : map saying_text xs ≡ map saying_text (sayings_in log) =
    same_lines text (map saying_text xs) (map saying_text (sayings_in log))
    says.lines (subst (λ l. AreLines l (map saying_text (sayings_in log))) (sym whole) own.lines) in
    let same : map blank xs ≡ map blank (sayings_in log) = same_calls xs (sayings_in log) says.names own.names bits
    (script-bits script.nodes script.words script.commands log t good.0 is) texts in
    let named = script-named script.nodes script.words script.commands log t good.0 new is in
    let ends = script-peers script.nodes script.words script.commands log t good.0 new is x y
    (elim peers [
      | inl h ↦ inl (same-opens xs (sayings_in log) same x y h)
      | inr more ↦ elim more [ inl h ↦ inr (inl (same-opens xs (sayings_in log) same y x h)) | inr pair ↦ inr (inr pair) ]
    ]) in
    let puts : put_by x script.commands xs ≡ numbered_from 0 t.titles (puts_in log ends.end) =
    ap (accepted (given_by x script.commands)) (same-puts xs (sayings_in log) same x)
    ∙ ap (λ cs. put_by x cs (sayings_in log)) (commands-same (new_session script.nodes script.words) script.commands log t is)
    ∙ rest-puts script.nodes script.words script.commands t good.0 named.told x ends.end ends.first [] log is named.each in
    let gots : got_by y xs ≡ numbered_from 0 t.titles (gots_in log (opposite_end ends.end)) =
    same-gots xs (sayings_in log) same y
    ∙ rest-gots script.nodes script.words script.commands t good.0 named.told y (opposite_end ends.end) ends.second [] log
    (new_session script.nodes script.words) script.commands is is named.each (start-told script.nodes script.words good.0) (λ e. tt) in
    subst (λ l. AreInOrder l (got_by y xs)) (sym puts) (subst (AreInOrder (numbered_from 0 t.titles (puts_in log ends.end))) (sym gots)
    (numbered-order t.titles (puts_in log ends.end) (gots_in log (opposite_end ends.end))
    (gets_follow_puts script.nodes script.words script.commands log t good.0 is ends.end)))

pub gets_follow_puts_by_name : GetsFollowPutsByName
gets_follow_puts_by_name input script outcomes.Done text xs x y read is =
    of-log input script is.1.0 is.0 read is.1.1 text is.1.2 xs x y
gets_follow_puts_by_name input script outcomes.Unsettled text xs x y read is =
    of-log input script is.1.0 is.0 read is.1.1 text is.1.2 xs x y
gets_follow_puts_by_name input script (outcomes.Refused why) text xs x y read is = absurd is
