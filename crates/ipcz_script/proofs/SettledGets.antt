-- Why gets give all that was put, once a settle has settled.
use Rattle.std.proofs.Common.{◌≡◌, ◌∙◌, ◌++◌, ◌+◌, ◌<◌, ◌≤◌, ap, sym, refl, subst, arith, length, take, ℕ, Bool, true, false, List, [], ◌∷◌}
use Rattle.std.proofs.Common.{map, cond}
use Rattle.std.proofs.Common.{Option, Some, None}
use Rattle.std.specs.Prelude.{slice_get, nat_lt, IsSome}
use Rattle.std.specs.FinMap.{get}
use Rattle.std.proofs.lemmas.Bool.Decides.{nat_tests}
use Rattle.ipcz_base.specs.declared.end.End.{End}
use Rattle.ipcz_base.specs.declared.parcel.Parcel as parcels
use Rattle.ipcz_base.specs.declared.item.Item.{Item}
use Rattle.ipcz_base.specs.declared.item.Item.TheVariants.{Parcel, Mark, Gone}
use Rattle.ipcz_base.specs.declared.refusal.Refusal.{Refusal}
use Rattle.ipcz_base.specs.declared.refusal.Refusal.TheVariants as refusals
use Rattle.ipcz_base.specs.Ends.{opposite_end}
use Rattle.ipcz_node.specs.Node.{Found, holds_end, terminal_of}
use Rattle.ipcz_node.specs.Calls.{get_refusal, refusal_at}
use Rattle.ipcz_node.proofs.Turns.{first_number-tells}
use Rattle.ipcz_world.specs.declared.step.Step.TheVariants as steps
use Rattle.ipcz_world.specs.declared.step.Reply.{Reply}
use Rattle.ipcz_world.specs.declared.step.Reply.TheVariants as replies
use Rattle.ipcz_world.specs.World.{World, node_at}
use Rattle.ipcz_world.specs.Holding.{holder_of}
use Rattle.ipcz_world.specs.Books.{Books, advance, is_closed, has_gone, has_mark, next_item}
use Rattle.ipcz_world.specs.Plain.{Plain}
use Rattle.ipcz_world.specs.Routes.{is_opened}
use Rattle.ipcz_world.specs.Owed.{IsWet}
use Rattle.ipcz_world.specs.Settling.{IsQuiet}
use Rattle.ipcz_world.specs.Steps.{first_step, unless, get_reply, got_reply}
use Rattle.ipcz_world.proofs.Vocabulary.{current_item}
use Rattle.ipcz_router.specs.Calls.{item_refusal}
use Rattle.ipcz_world.specs.Lawful.{Lawful}
use Rattle.ipcz_world.proofs.Whole.{each_get_stays_quiet, each_quiet_delivers, each_quiet_is_direct, ends_stand_once, held_are_open}
use Rattle.ipcz_world.proofs.Whole.{held_have_terminals, lawful_worlds_give_the_headline, replies_plainly, terminals_keep_books}
use Rattle.ipcz_world.proofs.facts.LinkTests.{opposite_end-twice}
use Rattle.ipcz_world.proofs.frames.OfRecords.{holds_times}
use Rattle.ipcz_world.proofs.frames.Holding.{times_held-at}
use Rattle.ipcz_script.specs.declared.command.Command.{Command}
use Rattle.ipcz_script.specs.declared.command.Command.TheVariants as commands
use Rattle.ipcz_script.specs.declared.said.Said.TheVariants as said
use Rattle.ipcz_script.specs.Sessions.{Session, Runs, answer_to, if_held, if_known, new_session, replied_get}
use Rattle.ipcz_script.specs.Transcript.{Answered, AreAnswered}
use Rattle.ipcz_script.specs.ScriptBooks.{gots_in, parcels_in, puts_in}
use Rattle.ipcz_script.specs.SettledLaws.{AreGets, GetsGiveNext, GivesNext, HasGotAll, HasSettled, SettledGetsGiveAll}
use Rattle.ipcz_script.proofs.ScriptRuns.{Kept, kept-script, lawful}

-- ---- a quiet world stays one

settled-quiet : (s t : Session) (limit : ℕ) → Runs s (commands.Settle limit) said.Settled t → IsQuiet t.world
settled-quiet s t limit is = is.0.1.answers.1

get-quiet : (s : Session) (name : List ℕ) → IsQuiet s.world → IsQuiet (replied_get s name).session.world
unfolding if_known if_held first_step
get-quiet s name quiet = known (get s.names name)
  where
    held : (e : End) (o : Option ℕ) →
        IsQuiet (if_held s o (λ node. record {
          said = answer_to (first_step s.world (steps.Get node e)).reply;
          session = record s { world = (first_step s.world (steps.Get node e)).world };
        })).session.world
    held e None = quiet
    held e (Some n) = each_get_stays_quiet s.world (first_step s.world (steps.Get n e)).world n e (first_step s.world (steps.Get n e)).reply
        quiet (refl, refl)

    known : (o : Option End) →
        IsQuiet (if_known s o (λ e. if_held s (holder_of s.world e) (λ node. record {
          said = answer_to (first_step s.world (steps.Get node e)).reply;
          session = record s { world = (first_step s.world (steps.Get node e)).world };
        }))).session.world
    known None = quiet
    known (Some e) = held e (holder_of s.world e)

gets-quiet : (s : Session) (cs : List Command) (gets : List Answered) (t : Session) → AreAnswered s cs gets t → AreGets gets →
    IsQuiet s.world → IsQuiet t.world
gets-quiet s [] [] t is are quiet = subst (λ x. IsQuiet x.world) (sym is) quiet
gets-quiet s [] (a ∷ gets) t is are quiet = absurd is
gets-quiet s (c ∷ cs) [] t is are quiet = absurd is
gets-quiet s (c ∷ cs) (a ∷ gets) t is are quiet =
    let run : Runs s (commands.Get are.0.0) a.said a.after = subst (λ x. Runs s x a.said a.after) (sym is.1 ∙ are.0.1) is.2 in
    gets-quiet a.after cs gets t is.3 are.1 (subst (λ x. IsQuiet x.world) (sym run.1) (get-quiet s are.0.0 quiet))

-- behind a settle and gets
after-quiet : (s : Session) (cs : List Command) (earlier : List Answered) (settle : Answered) (gets : List Answered) (t : Session) →
    AreAnswered s cs (earlier ++ settle ∷ gets) t → HasSettled settle → AreGets gets → IsQuiet t.world
after-quiet s [] [] settle gets t is h are = absurd is
after-quiet s [] (x ∷ earlier) settle gets t is h are = absurd is
after-quiet s (c ∷ cs) [] settle gets t is h are =
    let run : Runs s (commands.Settle h.limit) said.Settled settle.after =
    subst (λ x. Runs s (commands.Settle h.limit) x settle.after) h.said
    (subst (λ x. Runs s x settle.said settle.after) (sym is.1 ∙ h.command) is.2) in
    gets-quiet settle.after cs gets t is.3 are (settled-quiet s settle.after h.limit run)
after-quiet s (c ∷ cs) (x ∷ earlier) settle gets t is h are = after-quiet x.after cs earlier settle gets t is.3 h are

-- ---- parcels and items

parcels-all : (ps : List parcels.Parcel) → parcels_in (map Parcel ps) ≡ ps
parcels-all [] = refl
parcels-all (p ∷ ps) = ap (λ l. p ∷ l) (parcels-all ps)

-- the next item behind parcels that are a prefix is the next parcel
parcels-next : (ps : List parcels.Parcel) (items : List Item) (p : parcels.Parcel) → take (length ps) items ≡ map Parcel ps →
    slice_get items (length ps) ≡ Some (Parcel p) → slice_get (parcels_in items) (length ps) ≡ Some p
parcels-next [] [] p front next = cc
parcels-next [] (Parcel q ∷ items) p front next = cc
parcels-next [] (Mark ∷ items) p front next = cc
parcels-next [] (Gone ∷ items) p front next = cc
parcels-next (q ∷ ps) [] p front next = cc
parcels-next (q ∷ ps) (Mark ∷ items) p front next = cc
parcels-next (q ∷ ps) (Gone ∷ items) p front next = cc
parcels-next (q ∷ ps) (Parcel r ∷ items) p front next =
    let more : take (length ps) items ≡ map Parcel ps = cc in
    parcels-next ps items p more next

-- a mark behind parcels that are a prefix, if nothing but Gone comes after it
record EndsMarked (ps : List parcels.Parcel) (items : List Item) : Type 0 where
  all : ps ≡ parcels_in items
  marked : has_mark items ≡ true

-- there is room for it
one-gone : (items : List Item) → cond (has_gone items) 1 0 ≤ length items
one-gone [] = omega arith
one-gone (Parcel q ∷ items) = omega (arith, one-gone items)
one-gone (Mark ∷ items) = omega (arith, one-gone items)
one-gone (Gone ∷ items) = omega arith

parcels-marked : (ps : List parcels.Parcel) (items : List Item) → take (length ps) items ≡ map Parcel ps →
    slice_get items (length ps) ≡ Some Mark → length ps + 1 + cond (has_gone items) 1 0 ≡ length items → EndsMarked ps items
parcels-marked [] [] front next last = cc
parcels-marked [] (Parcel q ∷ items) front next last = cc
parcels-marked [] (Gone ∷ items) front next last = cc
parcels-marked [] (Mark ∷ []) front next last = record { all = refl; marked = refl }
parcels-marked [] (Mark ∷ (Gone ∷ [])) front next last = record { all = refl; marked = refl }
parcels-marked [] (Mark ∷ (Gone ∷ (x ∷ items))) front next last = absurd (omega (arith, last))
parcels-marked [] (Mark ∷ (Mark ∷ items)) front next last = absurd (omega (arith, last, one-gone items))
parcels-marked [] (Mark ∷ (Parcel q ∷ items)) front next last = absurd (omega (arith, last, one-gone items))
parcels-marked (q ∷ ps) [] front next last = cc
parcels-marked (q ∷ ps) (Mark ∷ items) front next last = cc
parcels-marked (q ∷ ps) (Gone ∷ items) front next last = cc
parcels-marked (q ∷ ps) (Parcel r ∷ items) front next last =
    let same : r ≡ q = cc in
    let front_more : take (length ps) items ≡ map Parcel ps = cc in
    let more = parcels-marked ps items front_more next (omega (arith, last)) in
    record { all = λ i. sym same i ∷ more.all i; marked = more.marked }

-- ---- a get

module _ (nodes words : ℕ) (s : Session) (log : List Answered) (at : Kept nodes words s.world (puts_in log) (gots_in log)) where
  abbrev w : World
  w = s.world

  law : Lawful w at.books at.routes
  law = lawful nodes words w at.books at.routes at.reached

  module _ (e : End) (n : ℕ) (there : holder_of s.world e ≡ Some n) where
    inside : n < w.count
    inside = omega (arith, (first_number-tells (λ i. holds_end (node_at w i) e) 0 w.count n there).0)

    held : holds_end (node_at w n) e ≡ true
    held = (first_number-tells (λ i. holds_end (node_at w i) e) 0 w.count n there).1

    unclosed : is_closed at.books e ≡ false
    unclosed = held_are_open w at.books at.routes n e law inside held

    kept_all : at.books.gone e ≡ 0
    kept_all = (terminals_keep_books w at.books at.routes law).gone_closed e unclosed

    opened : is_opened at.routes e.pair ≡ true
    opened = go (is_opened at.routes e.pair) refl
      where
        go : (c : Bool) → is_opened at.routes e.pair ≡ c → is_opened at.routes e.pair ≡ true
        go true h = h
        go false h = absurd (omega (
          arith,
          holds_times e (node_at w n).held held,
          times_held-at w n e inside,
          (ends_stand_once w at.books at.routes law).once e ∙ ap (λ c. cond c 1 0) h,
        ))

    front : take (length (at.books.got e)) (at.books.put (opposite_end e)) ≡ map Parcel (at.books.got e)
    front = subst (λ d. take (length (at.books.got d)) (at.books.put (opposite_end e)) ≡ map Parcel (at.books.got d)) (opposite_end-twice e)
        ((lawful_worlds_give_the_headline w at.books at.routes law).got_prefix (opposite_end e))

    read_all : length (at.books.got e) + at.books.gone e ≡ length (at.books.got e)
    read_all = omega (arith, kept_all)

    pub plain : Plain at.books (steps.Get n e) (first_step w (steps.Get n e)).reply
        (advance w at.books (steps.Get n e) (first_step w (steps.Get n e)).reply)
    unfolding first_step
    plain = replies_plainly w (first_step w (steps.Get n e)).world at.books at.routes (steps.Get n e) (first_step w (steps.Get n e)).reply
        law (refl, refl)

    -- the terminal of an end that is held is there, so that a get isn't refused as a stranger's
    known : (first_step w (steps.Get n e)).reply ≡ replies.Refused refusals.Stranger → ⊥
    unfolding first_step unless get_refusal refusal_at get_reply got_reply item_refusal
    known h = go (terminal_of (node_at w n) e) refl (held_have_terminals w at.books at.routes n e law inside held)
      where
        within : nat_lt n w.count ≡ true
        within = grind (arith, inside, nat_tests)

        -- what a get is answered at a terminal whose next item is this
        answered : (f : Found) (o : Option Item) → current_item f.router.in_queue ≡ o → (unless w (item_refusal o)
            (record { reply = got_reply f.router.in_queue.current o; world = w })).reply ≡ replies.Refused refusals.Stranger → ⊥
        answered f None i is = cc
        answered f (Some (Parcel p)) i is = cc
        answered f (Some Mark) i is = cc
        answered f (Some Gone) i is = cc

        same : (f : Found) → terminal_of (node_at w n) e ≡ Some f → (first_step w (steps.Get n e)).reply ≡
            (unless w (item_refusal (current_item f.router.in_queue))
            (record { reply = got_reply f.router.in_queue.current (current_item f.router.in_queue); world = w })).reply
        same f is = rw (within, held, is) (go _ (item_refusal (current_item f.router.in_queue)))
          where
            go : (v : World) (o : Option Refusal) →
                (unless w o (record { reply = got_reply f.router.in_queue.current (current_item f.router.in_queue); world = v })).reply ≡
                (unless w o (record { reply = got_reply f.router.in_queue.current (current_item f.router.in_queue); world = w })).reply
            go v None = refl
            go v (Some x) = refl

        go : (o : Option Found) → terminal_of (node_at w n) e ≡ o → IsSome (terminal_of (node_at w n) e) → ⊥
        go None is some = cc
        go (Some f) is some = answered f (current_item f.router.in_queue) refl (sym (same f is) ∙ h)

    pub got-next : (p : parcels.Parcel) → next_item at.books e ≡ Some (Parcel p) →
        slice_get (puts_in log (opposite_end e)) (length (gots_in log e)) ≡ Some p
    got-next p next =
        subst (λ ps. slice_get ps (length (gots_in log e)) ≡ Some p) (at.put (opposite_end e))
        (subst (λ ps. slice_get (parcels_in (at.books.put (opposite_end e))) (length ps) ≡ Some p) (at.got e)
        (parcels-next (at.books.got e) (at.books.put (opposite_end e)) p front
        (subst (λ k. slice_get (at.books.put (opposite_end e)) k ≡ Some (Parcel p)) read_all next)))

    got-all : at.books.got e ≡ parcels_in (at.books.put (opposite_end e)) → HasGotAll log e
    got-all all = sym (at.got e) ∙ all ∙ at.put (opposite_end e)

    closed : next_item at.books e ≡ Some Mark → EndsMarked (at.books.got e) (at.books.put (opposite_end e))
    closed next =
        let mark : slice_get (at.books.put (opposite_end e)) (length (at.books.got e)) ≡ Some Mark =
        subst (λ k. slice_get (at.books.put (opposite_end e)) k ≡ Some Mark) read_all next in
        parcels-marked (at.books.got e) (at.books.put (opposite_end e)) front mark
        ((ends_stand_once w at.books at.routes law).mark_last (opposite_end e) (length (at.books.got e)) mark)

    empty : IsQuiet w → IsWet w → (first_step w (steps.Get n e)).reply ≡ replies.Refused refusals.Empty → HasGotAll log e
    unfolding first_step
    empty quiet wet h = got-all (sym (parcels-all (at.books.got e)) ∙ ap parcels_in
        (each_quiet_delivers w (first_step w (steps.Get n e)).world
        at.books at.routes n e law quiet
        (each_quiet_is_direct w at.books at.routes e.pair e.side law quiet wet opened unclosed).route (sym h, refl)))

    gives : IsQuiet w → IsWet w → (reply : Reply) (c : Books) → (first_step w (steps.Get n e)).reply ≡ reply → Plain at.books
        (steps.Get n e) reply c →
        GivesNext w at.books log e (answer_to reply)
    unfolding GivesNext answer_to
    gives quiet wet (replies.Got k p) c is plainly = got-next p plainly.1
    gives quiet wet (replies.Refused refusals.Empty) c is plainly = empty quiet wet is
    gives quiet wet (replies.Refused refusals.PeerClosed) c is plainly =
        let t = closed plainly.0 in (got-all t.all, t.marked)
    gives quiet wet (replies.Refused refusals.Stranger) c is plainly = absurd (known is)
    gives quiet wet (replies.Refused refusals.OutOfMemory) c is plainly = absurd plainly.0
    gives quiet wet (replies.Refused refusals.NoWord) c is plainly = absurd plainly.0
    gives quiet wet (replies.Refused refusals.SelfAttach) c is plainly = absurd plainly.0
    gives quiet wet (replies.Refused refusals.PeerAttach) c is plainly = absurd plainly.0
    gives quiet wet (replies.Refused refusals.NumbersEnd) c is plainly = absurd plainly.0
    gives quiet wet (replies.Refused refusals.BadData) c is plainly = absurd plainly.0
    gives quiet wet (replies.Refused refusals.TooMany) c is plainly = absurd plainly.0
    gives quiet wet (replies.Refused refusals.Raced) c is plainly = absurd plainly.0
    gives quiet wet (replies.Refused refusals.Occupied) c is plainly = absurd plainly.0
    gives quiet wet (replies.Refused refusals.Passed) c is plainly = absurd plainly.0
    gives quiet wet (replies.Refused refusals.Forged) c is plainly = absurd plainly.0
    gives quiet wet (replies.Opened a b) c is plainly = absurd plainly
    gives quiet wet (replies.Put k) c is plainly = absurd plainly
    gives quiet wet (replies.Closed k) c is plainly = absurd plainly
    gives quiet wet (replies.Turned event) c is plainly = absurd plainly

  gives-held : IsQuiet w → IsWet w → (e : End) (o : Option ℕ) → holder_of s.world e ≡ o →
      GivesNext w at.books log e (if_held s o (λ n. record {
        said = answer_to (first_step w (steps.Get n e)).reply;
        session = record s { world = (first_step w (steps.Get n e)).world };
      })).said
  unfolding if_held GivesNext
  gives-held quiet wet e None is = is
  gives-held quiet wet e (Some n) is = gives e n is quiet wet (first_step w (steps.Get n e)).reply _ refl (plain e n is)

  gives-next : IsQuiet w → IsWet w → GetsGiveNext s at.books log
  unfolding if_known
  gives-next quiet wet name e answer t bound run =
      subst (GivesNext w at.books log e) (sym run.0)
      (subst (λ o. GivesNext w at.books log e (if_known s o (λ end. if_held s (holder_of s.world end) (λ n.
      record {
        said = answer_to (first_step w (steps.Get n end)).reply;
        session = record s { world = (first_step w (steps.Get n end)).world };
      }))).said) (sym bound) (gives-held quiet wet e (holder_of s.world e) refl))

pub settled_gets_give_all : SettledGetsGiveAll
settled_gets_give_all nodes words cs earlier settle gets s limits is settled are wet =
    let at = kept-script nodes words cs (earlier ++ settle ∷ gets) s limits is in
    let quiet = after-quiet (new_session nodes words) cs earlier settle gets s is settled are in (
      at.books,
      at.routes,
      record { puts = at.put; gots = at.got },
      at.reached,
      gives-next nodes words s (earlier ++ settle ∷ gets) at quiet wet,
    )
