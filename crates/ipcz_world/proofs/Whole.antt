-- The laws of worlds and their runs.
use Rattle.ipcz_world.proofs.Vocabulary.{World, node_at, Books, is_closed, End, opposite_end, claim_for_open, new_world, no_books, Routes}
use Rattle.ipcz_world.proofs.Vocabulary.{StepKeepsLawful, holds_end, Lawful, Printed, Wide}
use Rattle.ipcz_world.specs.Steps.{AnyAct}
use Rattle.ipcz_world.proofs.facts.RecordsAfter.{opening_records}
use Rattle.std.proofs.Common.{◌∙◌, arith, ap, subst, sym}
use Rattle.ipcz_world.specs.declared.step.Step.TheVariants as steps
use Rattle.std.specs.Prelude.{◌≡◌, refl, Bool, true, false, nat_eq, is_some, ℕ, ◌<◌}
use Rattle.std.proofs.lemmas.Bool.Decides.{nat_tests}
use Rattle.ipcz_world.specs.Routes.{first_routes}
use Rattle.ipcz_world.specs.WorldLaws.{LawfulGivesHeadline, LawfulStraysNothing, LawfulOwes, TerminalsKeepBooks, EndsStandOnce}
use Rattle.ipcz_world.specs.WorldLaws.{ListsHaveLengths, NodesAreSound, QuietDelivers, OneNodeIsDirect, StartsLawful}
use Rattle.ipcz_world.specs.WorldLaws.{FirstIsPossible, ClaimKeepsLawful, RepliesPlainly, BeginsLocked, LinksStay, HeadlineHolds}
use Rattle.ipcz_world.specs.WorldLaws.{NothingIsForgotten, QuietIsDirect, ClosedPairsAreGone, QuietHasNoProxy}
use Rattle.ipcz_world.proofs.lawful.QuietDirect.{no_proxies, pair_direct, none_closed}
use Rattle.ipcz_world.specs.WorldLaws.{ItemsStandOnce, NothingStrays, GetsStayQuiet, HeldHaveTerminals, HandsFit}
use Rattle.ipcz_world.specs.WorldLaws.{HandsStandInMail, OpeningWordsAreEmpty, PendingHaveTerminals, RunsArePlain, RepliesStrayNothing}
use Rattle.ipcz_world.specs.Records.{is_linked}
use Rattle.ipcz_world.proofs.acts.Puts.{terminal_there}
use Rattle.ipcz_world.proofs.frames.Calling.{held_unclosed}
use Rattle.ipcz_world.proofs.lawful.QuietGets.{gets_stay_quiet}
use Rattle.ipcz_world.proofs.frames.Holding.{times_held-at, times-has}
use Rattle.ipcz_world.proofs.frames.OfRecords.{holds_times}
use Rattle.ipcz_world.proofs.acts.CallReplies.{reply-open, reply-put, reply-get, reply-close}
use Rattle.ipcz_world.proofs.runs.TurnReplies.{reply-turn, begins_locked}
use Rattle.ipcz_world.proofs.runs.Starting.{starts}
use Rattle.ipcz_world.proofs.acts.CallTurns.{claim-kept}
use Rattle.ipcz_world.proofs.runs.Running.{StartsKept, starts_lawful, lawful_by, step_keeps_lawful, links_stay_by, headline_by}
use Rattle.ipcz_world.proofs.runs.Running.{headline_holds, nothing_strays, reached_lawful, run_keeps}
use Rattle.ipcz_world.proofs.runs.Keeping.{steps_keep}
use Rattle.ipcz_world.proofs.lawful.OneNode.{IsAlone, HasNone, alone-kept, alone-new, direct}
use Rattle.ipcz_world.proofs.lawful.Quiet.{quiet_delivers}
use Rattle.ipcz_world.proofs.runs.BoundedSteps.{bounded-claim_for_open}
use Rattle.ipcz_world.proofs.runs.FlaggedSteps.{flagged-claim_for_open}
use Rattle.ipcz_world.proofs.runs.FlagsAgree.{agreed-claim_for_open}
use Rattle.ipcz_world.proofs.lawful.StepWakers.{claim_for_open_owing}
use Rattle.ipcz_world.proofs.lawful.Remembering.{remembered}
use Rattle.ipcz_world.proofs.lawful.GoneReading.{unread-step, claim_for_open_router}
use Rattle.ipcz_world.proofs.lawful.OwedLaws as owed
use Rattle.ipcz_world.proofs.lawful.LengthLaws.{length_law}
use Rattle.ipcz_world.proofs.frames.StrayLaws.{stray_law}
use Rattle.ipcz_world.specs.Laws.{EndLaw}
use Rattle.ipcz_world.proofs.lawful.FittingHands.{hands_fit}
use Rattle.ipcz_world.proofs.lawful.EndLaws.{end_law}
use Rattle.ipcz_world.proofs.lawful.Soundness.{node_is_sound}
use Rattle.ipcz_world.proofs.runs.Choosing.{first_is_possible}
use Rattle.ipcz_world.proofs.runs.PlainRuns.{plain_run}
use Rattle.ipcz_world.proofs.runs.HandReplies.{replies_stray_nothing}
use Rattle.ipcz_world.proofs.lawful.EachOnce.{items_stand_once}
use Rattle.std.proofs.lemmas.Bool.{and_parts}

starts_kept : StartsKept
starts_kept nodes words limits = let t = starts nodes words limits in record { records = t.0; inv = t.2; routes = t.1 }

-- the world at the start is lawful
pub world_starts_lawful : StartsLawful
world_starts_lawful = starts_lawful starts_kept

-- each step keeps a world lawful, whichever possible act a turn takes
pub each_step_keeps_lawful : StepKeepsLawful
each_step_keeps_lawful = step_keeps_lawful steps_keep unread-step

-- a step in which a turn takes the first act is one in which it takes a possible act
pub first_acts_are_possible : FirstIsPossible
first_acts_are_possible = first_is_possible

-- the first half of an open keeps a world lawful
pub claim_keeps_lawful : ClaimKeepsLawful
claim_keeps_lawful w b g n law l room none = let t = claim-kept w b law.records n law.inv room none in
    lawful_by (claim_for_open w n) b (opening_records law.records n w.claimed) g t.0 (t.1 ∙ law.routes)
    (flagged-claim_for_open w n law.flagged) (agreed-claim_for_open w n law.agreed)
    (claim_for_open_owing w b law.records law.inv law.agreed (record { wakers = law.wakers; ranked = law.ranked }) n)
    (λ k r here. law.unread k r (claim_for_open_router w n k r here))
    (bounded-claim_for_open w b law.records law.inv law.bounded n l)

-- the word of a link stays that for good, and of the same pair
pub links_stay : LinksStay
links_stay = links_stay_by steps_keep unread-step

-- the sentence holds after every list of steps from the start
pub the_headline_holds : HeadlineHolds
the_headline_holds = headline_holds world_starts_lawful each_step_keeps_lawful

-- if it holds, each item that the peer hasn't read stands in one place, and no other item in any
pub each_item_stands_once : ItemsStandOnce
each_item_stands_once = items_stand_once

-- after every list of steps from the start no message but a Flush finds its router gone
pub nothing_ever_strays : NothingStrays
nothing_ever_strays = nothing_strays world_starts_lawful each_step_keeps_lawful

-- each reply is one that the machine over the books alone allows
pub replies_plainly : RepliesPlainly
replies_plainly w v b g (steps.Open n) reply law s = reply-open AnyAct w b law.records n reply v law.inv s
replies_plainly w v b g (steps.Put n at bytes ends) reply law s = reply-put Printed w b law.records n at bytes ends reply v law.inv s
replies_plainly w v b g (steps.PutWide n at bytes ends) reply law s = reply-put Wide w b law.records n at bytes ends reply v law.inv s
replies_plainly w v b g (steps.Get n at) reply law s = reply-get AnyAct w b law.records n at reply v law.inv s
replies_plainly w v b g (steps.Close n at) reply law s = reply-close AnyAct w b law.records n at reply v law.inv s
replies_plainly w v b g (steps.Turn n) reply law s = reply-turn w b law.records law.inv v n reply s

-- each run from the start is one of the machine over the books alone
pub runs_are_plain : RunsArePlain
runs_are_plain nodes words w b g is =
    plain_run each_step_keeps_lawful replies_plainly (new_world nodes words) w no_books b (first_routes nodes) g is.steps is.replies
    (world_starts_lawful nodes words is.limits) is.run

-- each bypass begins only under the lock of its own side
pub each_begins_locked : BeginsLocked
each_begins_locked = begins_locked

-- if nothing waits, a get on a direct pair is Empty only if all that the peer has put was got
pub each_quiet_delivers : QuietDelivers
each_quiet_delivers = quiet_delivers

-- a get leaves a quiet world quiet
pub each_get_stays_quiet : GetsStayQuiet
each_get_stays_quiet = gets_stay_quiet

-- on one node each open pair is direct of which an end isn't closed
pub one_node_is_direct : OneNodeIsDirect
one_node_is_direct words w b g pair s is tells open_ =
    let law = reached_lawful world_starts_lawful each_step_keeps_lawful 1 words w b g is in
    let alone = run_keeps IsAlone HasNone alone-kept each_step_keeps_lawful (new_world 1 words) no_books (first_routes 1) is.steps
    is.replies w b g (world_starts_lawful 1 words is.limits) (alone-new words) is.run in
    let t = and_parts (g.is_link pair) (nat_eq (g.pair pair) pair) tells in
    let own : g.pair pair ≡ pair = grind (arith, nat_tests, t.1) in
    direct w b law.records law.inv alone pair (ap (λ z. z.is_link pair) law.routes ∙ t.0) (ap (λ z. z.pair pair) law.routes ∙ own) s open_

-- the sentence holds of every lawful world
pub lawful_worlds_give_the_headline : LawfulGivesHeadline
lawful_worlds_give_the_headline = headline_by

-- in a lawful world lengths agree and nothing strays
pub lawful_worlds_stray_nothing : LawfulStraysNothing
lawful_worlds_stray_nothing w b g law = (length_law w b law.records law.inv, stray_law w b law.records law.inv)

-- what is owed
pub lawful_worlds_owe : LawfulOwes
lawful_worlds_owe w b g law = record {
  flagged = law.flagged;
  agreed = law.agreed;
  tried = remembered w b law.records law.inv law.flagged law.agreed law.wakers;
  length_to = owed.length_to w b law.records law.inv;
  length_from = owed.length_from w b law.records law.inv;
}

-- after every list of steps from the start
pub nothing_is_forgotten : NothingIsForgotten
nothing_is_forgotten nodes words w b g is = lawful_worlds_owe w b g
    (reached_lawful world_starts_lawful each_step_keeps_lawful nodes words w b g is)

-- if nothing waits and words are left, each open pair is direct of which an end isn't closed
pub each_quiet_is_direct : QuietIsDirect
each_quiet_is_direct w b g pair s law quiet wet tells open_ =
    let t = and_parts (g.is_link pair) (nat_eq (g.pair pair) pair) tells in
    let own : g.pair pair ≡ pair = grind (arith, nat_tests, t.1) in
    pair_direct w b law.records law.inv quiet law.ranked law.flagged law.wakers law.unread wet pair s
    (ap (λ z. z.is_link pair) law.routes ∙ t.0) (ap (λ z. z.pair pair) law.routes ∙ own) open_

-- and of a pair with both ends closed no router is left
pub closed_pairs_are_gone : ClosedPairsAreGone
closed_pairs_are_gone w b g law quiet wet k r here closed = go (is_closed b (opposite_end r.end)) refl
  where
    go : (c : Bool) → is_closed b (opposite_end r.end) ≡ c → is_closed b (opposite_end r.end) ≡ false
    go false e = e
    go true e = absurd (none_closed w b law.records law.inv quiet law.ranked law.flagged law.wakers law.unread wet k r here closed e)

-- and no proxy is left
pub quiet_has_no_proxy : QuietHasNoProxy
quiet_has_no_proxy w b g law quiet wet = no_proxies w b law.records law.inv quiet law.ranked law.flagged law.wakers law.unread wet

-- a terminal's numbers are those of its end's books
pub terminals_keep_books : TerminalsKeepBooks
terminals_keep_books w b g law = record {
  next = law.conserved.reach;
  current = law.conserved.current;
  sink = law.conserved.sink;
  open_drops_nothing = λ k r here is open_. law.conserved.gone_closed r.end (sym (law.conserved.sink k r here is) ∙ open_);
  moving_next = law.conserved.move_out;
  moving_current = law.conserved.move_in;
  moving_open = law.conserved.move_open;
  gone_closed = law.conserved.gone_closed;
}

-- a lawful world's lists are as long as its numbers say
pub lists_have_lengths : ListsHaveLengths
lists_have_lengths w b g law = record {
  nodes = law.bounded.nodes;
  words = law.bounded.words;
  mail = law.bounded.mailboxes;
  claimed = law.inv.counts.claimed;
  few = law.bounded.few;
}

-- each node of a lawful world is sound
pub nodes_are_sound : NodesAreSound
nodes_are_sound w b g n law l = node_is_sound w b law.records law.inv n l

-- each end of an open pair is in one place
pub ends_stand_once : EndsStandOnce
ends_stand_once w b g law = subst (EndLaw w b) law.routes (end_law w b law.records law.inv)

-- an end that callers hold isn't closed
pub held_are_open : (w : World) (b : Books) (g : Routes) (n : ℕ) (e : End) → Lawful w b g → n < w.count → holds_end (node_at w n) e ≡ true →
    is_closed b e ≡ false
held_are_open w b g n e law l held =
    held_unclosed w b law.records e law.held_once (omega (arith, holds_times e (node_at w n).held held, times_held-at w n e l))

-- and has its terminal there
pub held_have_terminals : HeldHaveTerminals
held_have_terminals w b g n e law l held =
    ap is_some (terminal_there w b law.records n e law.inv (law.inv.end_places.held n e held) (held_are_open w b g n e law l held)).1

-- each message in hand fits, but a Flush may find its router gone
pub messages_in_hand_fit : HandsFit
messages_in_hand_fit = hands_fit each_step_keeps_lawful

-- so no reply says that another message didn't fit
pub only_flushes_stray : RepliesStrayNothing
only_flushes_stray = replies_stray_nothing messages_in_hand_fit replies_plainly

-- a message in hand stands in its mailbox, and back
pub hands_stand_in_mail : HandsStandInMail
hands_stand_in_mail w b g n from law l k = (law.inv.counts.hand n from l, law.inv.counts.in_hand n from l k)

-- the word of an open under way is empty
pub opening_words_are_empty : OpeningWordsAreEmpty
unfolding is_linked
opening_words_are_empty w b g n i law e = law.word_law.unused i (ap is_linked (law.word_law.opening n i e))

-- a pending close finds its terminal
pub pending_have_terminals : PendingHaveTerminals
pending_have_terminals w b g n e law l has =
    let inv = law.inv in
    let unclosed : is_closed b e ≡ false = held_unclosed w b law.records e law.held_once
    (omega (arith, times_held-at w n e l, times-has e (node_at w n).pending has)) in
    ap is_some (terminal_there w b law.records n e inv (inv.end_places.pending n e has) unclosed).1
