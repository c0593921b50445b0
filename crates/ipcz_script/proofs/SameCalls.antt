-- What a reader finds in the lines of a transcript: the very opens, puts and gets that were answered.
use Rattle.std.proofs.Common.{◌≡◌, ◌∙◌, ◌++◌, ◌+◌, ◌<◌, ◌≤◌, ap, sym, refl, subst, arith, inl, inr, ℕ, zero, suc, Bool, true, false, cond}
use Rattle.std.proofs.Common.{List, [], ◌∷◌, map, length, Some, append_assoc}
use Rattle.std.specs.Prelude.{slice_get}
use Rattle.std.specs.List.{AllByRecursion}
use Rattle.ipcz_base.specs.declared.end.End.{End}
use Rattle.ipcz_base.specs.declared.parcel.Parcel as parcels
use Rattle.ipcz_base.specs.declared.item.Item.{Item}
use Rattle.ipcz_base.specs.declared.item.Item.TheVariants.{Mark, Gone}
use Rattle.ipcz_base.specs.declared.item.Item.TheVariants as items
use Rattle.ipcz_base.specs.Ends.{opposite_end}
use Rattle.ipcz_base.specs.Limits.{last_number}
use Rattle.ipcz_world.specs.declared.step.Reply.{Reply}
use Rattle.ipcz_world.specs.World.{World}
use Rattle.ipcz_world.specs.Books.{is_closed, is_retired}
use Rattle.ipcz_script.specs.ScriptLimits.{HasScriptLimits}
use Rattle.ipcz_script.specs.declared.command.Command.{Command}
use Rattle.ipcz_script.specs.declared.command.Command.TheVariants as commands
use Rattle.ipcz_script.specs.declared.said.Said.{Said}
use Rattle.ipcz_script.specs.declared.said.Said.TheVariants as said
use Rattle.ipcz_script.specs.Bindings.{Titles}
use Rattle.ipcz_script.specs.Lines.{turn_text}
use Rattle.ipcz_script.specs.Sessions.{Session, Runs, new_session}
use Rattle.ipcz_script.specs.Transcript.{Answered, AreAnswered}
use Rattle.ipcz_script.specs.ScriptBooks.{IsCount, gots_in, parcels_in, puts_in}
use Rattle.ipcz_script.specs.Sayings.{Done, Saying, Open, Put, Get, Close, Settled, Unsettled, Words, Turn, AnswerHasBits, HasBits}
use Rattle.ipcz_script.specs.Sayings.{NamesAreNames, NumbersHaveBits, saying_text, sayings_in, sayings_of}
use Rattle.ipcz_script.specs.ParcelsByName.{HasSaying, got_by, got_line, put_line, put_lines}
use Rattle.ipcz_script.proofs.OneSaying.{begins-with, first, same_saying}
use Rattle.ipcz_script.proofs.ScriptRuns.{Kept, kept-script, lawful, numbers_count_up, split}
use Rattle.ipcz_script.proofs.CountedLines.{got-is-next}
use Rattle.ipcz_script.proofs.BoundCalls.{get-bound, put-bound}

-- ---- opens, puts and gets alone

-- an open, a put or a get, and one saying in place of each other
unfoldable pub blank : Saying → Saying
blank (Open a b r) = Open a b r
blank (Put a r) = Put a r
blank (Get a r) = Get a r
blank other = Settled

-- the numbers of these have 64 bits
abbrev pub CallHasBits : Saying → Type 0
CallHasBits (Open a b r) = AnswerHasBits r
CallHasBits (Put a r) = AnswerHasBits r
CallHasBits (Get a r) = AnswerHasBits r
CallHasBits other = Unit {0}

same_call : (x y : Saying) → NamesAreNames x → NamesAreNames y → NumbersHaveBits x → CallHasBits y → saying_text x ≡ saying_text y →
    blank x ≡ blank y
unfolding blank
same_call (Open a b r) (Open c d q) h k hb kb e = ap blank (same_saying (Open a b r) (Open c d q) h k hb kb e)
same_call (Put a r) (Put b q) h k hb kb e = ap blank (same_saying (Put a r) (Put b q) h k hb kb e)
same_call (Get a r) (Get b q) h k hb kb e = ap blank (same_saying (Get a r) (Get b q) h k hb kb e)
same_call (Close a r) (Close b q) h k hb kb e = refl
same_call Settled Settled h k hb kb e = refl
same_call Unsettled Unsettled h k hb kb e = refl
same_call (Words ms) (Words ns) h k hb kb e = refl
same_call (Turn m x) (Turn n y) h k hb kb e = refl
same_call x y h k hb kb e = absurd (omega (arith, sym (begins-with x) ∙ ap first e ∙ begins-with y))

pub same_calls : (xs ys : List Saying) → AllByRecursion NamesAreNames xs → AllByRecursion NamesAreNames ys →
    AllByRecursion NumbersHaveBits xs → AllByRecursion CallHasBits ys → map saying_text xs ≡ map saying_text ys →
    map blank xs ≡ map blank ys
same_calls [] [] h k hb kb e = refl
same_calls [] (y ∷ ys) h k hb kb e = let never : [] ≡ saying_text y ∷ map saying_text ys = e in cc
same_calls (x ∷ xs) [] h k hb kb e = let never : saying_text x ∷ map saying_text xs ≡ [] = e in cc
same_calls (x ∷ xs) (y ∷ ys) h k hb kb e =
    let head : saying_text x ≡ saying_text y = cc in
    let rest : map saying_text xs ≡ map saying_text ys = cc in
    let one = same_call x y h.0 k.0 hb.0 kb.0 head in
    let more = same_calls xs ys h.1 k.1 hb.1 kb.1 rest in
    λ i. one i ∷ more i

-- ---- only these matter

got-blank : (name : List ℕ) (x : Saying) → got_line name x ≡ got_line name (blank x)
unfolding got_line blank
got-blank name (Open a b r) = refl
got-blank name (Put a r) = refl
got-blank name (Get a r) = refl
got-blank name other = refl

gots-blank : (name : List ℕ) (xs : List Saying) → got_by name xs ≡ got_by name (map blank xs)
gots-blank name [] = refl
gots-blank name (x ∷ xs) =
    let one = got-blank name x in
    let more = gots-blank name xs in
    λ i. one i ++ more i

put-blank : (name : List ℕ) (x : Saying) → put_line name x ≡ put_line name (blank x)
unfolding put_line blank
put-blank name (Open a b r) = refl
put-blank name (Put a r) = refl
put-blank name (Get a r) = refl
put-blank name other = refl

puts-blank : (name : List ℕ) (xs : List Saying) → put_lines name xs ≡ put_lines name (map blank xs)
puts-blank name [] = refl
puts-blank name (x ∷ xs) =
    let one = put-blank name x in
    let more = puts-blank name xs in
    λ i. one i ++ more i

has-blank : (a b : List ℕ) (xs : List Saying) → HasSaying xs (Open a b Done) → HasSaying (map blank xs) (Open a b Done)
unfolding blank
has-blank a b [] h = h
has-blank a b (x ∷ xs) (inl e) = inl (ap blank e)
has-blank a b (x ∷ xs) (inr h) = inr (has-blank a b xs h)

blank-open : (a b : List ℕ) (x : Saying) → blank x ≡ Open a b Done → x ≡ Open a b Done
unfolding blank
blank-open a b (Open c d r) e = e
blank-open a b (Put c r) e = let never : Put c r ≡ Open a b Done = e in cc
blank-open a b (Get c r) e = let never : Get c r ≡ Open a b Done = e in cc
blank-open a b other e = let never : Settled ≡ Open a b Done = e in cc

blank-has : (a b : List ℕ) (xs : List Saying) → HasSaying (map blank xs) (Open a b Done) → HasSaying xs (Open a b Done)
blank-has a b [] h = h
blank-has a b (x ∷ xs) (inl e) = inl (blank-open a b x e)
blank-has a b (x ∷ xs) (inr h) = inr (blank-has a b xs h)

module _ (xs ys : List Saying) (same : map blank xs ≡ map blank ys) where
  pub same-gots : (name : List ℕ) → got_by name xs ≡ got_by name ys
  same-gots name = gots-blank name xs ∙ ap (got_by name) same ∙ sym (gots-blank name ys)

  pub same-puts : (name : List ℕ) → put_lines name xs ≡ put_lines name ys
  same-puts name = puts-blank name xs ∙ ap (put_lines name) same ∙ sym (puts-blank name ys)

  pub same-opens : (a b : List ℕ) → HasSaying xs (Open a b Done) → HasSaying ys (Open a b Done)
  same-opens a b h = blank-has a b ys (subst (λ zs. HasSaying zs (Open a b Done)) same (has-blank a b xs h))

-- ---- numbers of 64 bits

parcels-fewer : (xs : List Item) → length (parcels_in xs) ≤ length xs
parcels-fewer [] = omega arith
parcels-fewer (items.Parcel p ∷ xs) = omega (arith, parcels-fewer xs)
parcels-fewer (Mark ∷ xs) = omega (arith, parcels-fewer xs)
parcels-fewer (Gone ∷ xs) = omega (arith, parcels-fewer xs)

-- an end's parcels are fewer than 2 ^ 64
kept-bits : (nodes words : ℕ) (w : World) (puts gots : End → List parcels.Parcel) → Kept nodes words w puts gots → (e : End) →
    HasBits (length (puts e))
kept-bits nodes words w puts gots at e =
    subst (λ ps. HasBits (length ps)) (at.put e) (go (is_closed at.books e) (is_retired at.books e)
    ((lawful nodes words w at.books at.routes at.reached).inv.books_kept.numbers e))
  where
    go : (c l : Bool) → length (at.books.put e) ≤ last_number + cond c 1 0 + cond l 1 0 → HasBits (length (parcels_in (at.books.put e)))
    go true true h = omega (arith, h, parcels-fewer (at.books.put e))
    go true false h = omega (arith, h, parcels-fewer (at.books.put e))
    go false true h = omega (arith, h, parcels-fewer (at.books.put e))
    go false false h = omega (arith, h, parcels-fewer (at.books.put e))

get-within : (ps : List parcels.Parcel) (n : ℕ) (p : parcels.Parcel) → slice_get ps n ≡ Some p → n < length ps
get-within [] n p h = cc
get-within (q ∷ ps) zero p h = omega arith
get-within (q ∷ ps) (suc n) p h = omega (arith, get-within ps n p h)

turns-bits : (node : ℕ) (rs : List Reply) → AllByRecursion CallHasBits (map (λ reply. Turn node (turn_text reply)) rs)
turns-bits node [] = tt
turns-bits node (r ∷ rs) = (tt, turns-bits node rs)

-- what is said of an answer, if the numbers of puts and gets have 64 bits
said-bits : (titles : Titles) (c : Command) (answer : Said) →
    ((at text : List ℕ) (attached : List (List ℕ)) (k : ℕ) → c ≡ commands.Put at text attached → answer ≡ said.Put k → HasBits k) →
    ((at : List ℕ) (k : ℕ) (p : parcels.Parcel) → c ≡ commands.Get at → answer ≡ said.Got k p → HasBits k) →
    AllByRecursion CallHasBits (sayings_of titles c answer)
unfolding sayings_of
said-bits titles (commands.Open node a b) said.Opened put got = (tt, tt)
said-bits titles (commands.Open node a b) (said.Refused why) put got = (tt, tt)
said-bits titles (commands.Put at text attached) (said.Put n) put got = (put at text attached n refl refl, tt)
said-bits titles (commands.Put at text attached) said.UnknownName put got = (tt, tt)
said-bits titles (commands.Put at text attached) said.Away put got = (tt, tt)
said-bits titles (commands.Put at text attached) (said.Refused why) put got = (tt, tt)
said-bits titles (commands.Get at) (said.Got n p) put got = (got at n p refl refl, tt)
said-bits titles (commands.Get at) said.UnknownName put got = (tt, tt)
said-bits titles (commands.Get at) said.Away put got = (tt, tt)
said-bits titles (commands.Get at) (said.Refused why) put got = (tt, tt)
said-bits titles (commands.Close at) (said.Closed n) put got = (tt, tt)
said-bits titles (commands.Close at) said.UnknownName put got = (tt, tt)
said-bits titles (commands.Close at) said.Away put got = (tt, tt)
said-bits titles (commands.Close at) (said.Refused why) put got = (tt, tt)
said-bits titles (commands.Turn node count) (said.Turned rs) put got = turns-bits node rs
said-bits titles (commands.Settle limit) said.Settled put got = (tt, tt)
said-bits titles (commands.Settle limit) said.Unsettled put got = (tt, tt)
said-bits titles commands.Show (said.Words ws) put got = (tt, tt)
said-bits titles c answer put got = tt

bits-append : (xs ys : List Saying) → AllByRecursion CallHasBits xs → AllByRecursion CallHasBits ys → AllByRecursion CallHasBits (xs ++ ys)
bits-append [] ys h k = k
bits-append (x ∷ xs) ys h k = (h.0, bits-append xs ys h.1 k)

-- a put's number
put-bits : (nodes words : ℕ) (s : Session) (earlier : List Answered) (at : Kept nodes words s.world (puts_in earlier) (gots_in earlier))
    (c : Command) (answer : Said) (t : Session) → Runs s c answer t → IsCount earlier s.names c answer → (name text : List ℕ)
    (attached : List (List ℕ)) (k : ℕ) → c ≡ commands.Put name text attached → answer ≡ said.Put k → HasBits k
unfolding IsCount
put-bits nodes words s earlier at c answer t run count name text attached k same_command same_answer =
    let there = put-bound s name text attached k t (subst (λ x. Runs s (commands.Put name text attached) x t) same_answer
    (subst (λ x. Runs s x answer t) same_command run)) in
    let counted : IsCount earlier s.names (commands.Put name text attached) (said.Put k) =
    subst (IsCount earlier s.names (commands.Put name text attached)) same_answer
    (subst (λ x. IsCount earlier s.names x answer) same_command count) in
    subst HasBits (sym (counted there.end there.bound)) (kept-bits nodes words s.world (puts_in earlier) (gots_in earlier) at there.end)

-- a get's number
get-bits : (nodes words : ℕ) (s : Session) (earlier : List Answered) (at : Kept nodes words s.world (puts_in earlier) (gots_in earlier))
    (c : Command) (answer : Said) (t : Session) → Runs s c answer t → IsCount earlier s.names c answer → (name : List ℕ) (k : ℕ)
    (p : parcels.Parcel) → c ≡ commands.Get name → answer ≡ said.Got k p → HasBits k
unfolding IsCount
get-bits nodes words s earlier at c answer t run count name k p same_command same_answer =
    let get_run : Runs s (commands.Get name) (said.Got k p) t = subst (λ x. Runs s (commands.Get name) x t) same_answer
    (subst (λ x. Runs s x answer t) same_command run) in
    let there = get-bound s name k p t get_run in
    let counted : IsCount earlier s.names (commands.Get name) (said.Got k p) =
    subst (IsCount earlier s.names (commands.Get name)) same_answer
    (subst (λ x. IsCount earlier s.names x answer) same_command count) in
    let number : k ≡ length (gots_in earlier there.0) = counted there.0 there.1 in
    let within : length (gots_in earlier there.0) < length (puts_in earlier (opposite_end there.0)) =
    get-within (puts_in earlier (opposite_end there.0)) (length (gots_in earlier there.0)) p
    (got-is-next nodes words s earlier at name there.0 k p t there.1 get_run) in
    let most = kept-bits nodes words s.world (puts_in earlier) (gots_in earlier) at (opposite_end there.0) in
    omega (arith, number, within, most)

rest-bits : (nodes words : ℕ) (cs : List Command) (earlier rest : List Answered) (t : Session) → HasScriptLimits nodes words →
    AreAnswered (new_session nodes words) cs (earlier ++ rest) t → AllByRecursion CallHasBits (sayings_in rest)
rest-bits nodes words cs earlier [] t limits is = tt
rest-bits nodes words cs earlier (a ∷ rest) t limits is =
    let parts = split (new_session nodes words) cs earlier a rest t is in
    let at = kept-script nodes words parts.0 earlier a.before limits parts.1 in
    let count = numbers_count_up nodes words cs earlier a rest t limits is in
    let same : (earlier ++ a ∷ []) ++ rest ≡ earlier ++ a ∷ rest = append_assoc earlier (a ∷ []) rest in
    bits-append (sayings_of a.after.titles a.command a.said) (sayings_in rest)
    (said-bits a.after.titles a.command a.said
    (put-bits nodes words a.before earlier at a.command a.said a.after parts.2 count)
    (get-bits nodes words a.before earlier at a.command a.said a.after parts.2 count))
    (rest-bits nodes words cs (earlier ++ a ∷ []) rest t limits
    (subst (λ l. AreAnswered (new_session nodes words) cs l t) (sym same) is))

-- the numbers of a transcript's opens, puts and gets have 64 bits
pub script-bits : (nodes words : ℕ) (cs : List Command) (log : List Answered) (t : Session) → HasScriptLimits nodes words →
    AreAnswered (new_session nodes words) cs log t → AllByRecursion CallHasBits (sayings_in log)
script-bits nodes words cs log t limits is = rest-bits nodes words cs [] log t limits is
