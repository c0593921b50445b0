-- The laws of worlds and their runs, as functions promise them.
use Rattle.std.specs.Prelude.{◌≡◌, ◌↔◌, ◌<◌, ℕ, true, false, Some, None, IsSome, map}
use Rattle.ipcz_base.specs.declared.side.Side.{Side}
use Rattle.ipcz_base.specs.declared.end.End.{End}
use Rattle.ipcz_base.specs.declared.item.Item.TheVariants.{Parcel}
use Rattle.ipcz_base.specs.declared.link_id.LinkId.{LinkId}
use Rattle.ipcz_base.specs.declared.link_id.LinkId.TheVariants.{Central}
use Rattle.ipcz_base.specs.declared.refusal.Refusal.TheVariants.{Empty}
use Rattle.ipcz_base.specs.declared.message.Message.{Message}
use Rattle.ipcz_base.specs.Ends.{opposite_end, end_at, has_end}
use Rattle.ipcz_node.specs.Hands.{is_unfit}
use Rattle.ipcz_node.specs.Node.{holds_end, terminal_of}
use Rattle.ipcz_word.specs.SideSets.{has}
use Rattle.ipcz_word.specs.Word.{empty_word}
use Rattle.ipcz_router.specs.Router.{Router}
use Rattle.ipcz_node.specs.declared.happened.Handed.{Handed}
use Rattle.ipcz_node.specs.declared.happened.Handed.TheVariants.{Flush}
use Rattle.ipcz_node.specs.declared.happened.Happened.TheVariants as events
use Rattle.ipcz_world.specs.declared.step.Step.{Step}
use Rattle.ipcz_world.specs.declared.step.Step.TheVariants.{Get, Turn}
use Rattle.ipcz_world.specs.declared.step.Reply.{Reply}
use Rattle.ipcz_world.specs.declared.step.Reply.TheVariants.{Turned, Refused}
use Rattle.ipcz_world.specs.World.{World, node_at, word_at, new_world}
use Rattle.ipcz_world.specs.Turns.{router_of, message_in_hand}
use Rattle.ipcz_world.specs.WordAnswers.{source_for}
use Rattle.ipcz_world.specs.Steps.{StepAny, StepFirst, claim_for_open}
use Rattle.ipcz_world.specs.Settling.{IsQuiet}
use Rattle.ipcz_world.specs.Books.{Books, no_books, is_closed, advance}
use Rattle.ipcz_world.specs.Plain.{Plain, PlainRun}
use Rattle.ipcz_world.specs.Routes.{Routes, first_routes, routes_after, is_opened}
use Rattle.ipcz_world.specs.Laws.{KeepsLinks, LengthLaw, StrayLaw, TerminalLaw, EndLaw, is_flush}
use Rattle.ipcz_world.specs.Owed.{Owed, IsDirectPair, IsDirect, IsWet, HasNoProxies, HasNoClosedPairs}
use Rattle.ipcz_world.specs.Soundness.{HasLengths, IsSound}
use Rattle.ipcz_world.specs.Lawful.{Headline, EachOnce, Lawful, IsWithinLimits, IsReached}

-- law: the world at the start is lawful with empty books and the routes of the first pairs
abbrev pub StartsLawful : Type 0
StartsLawful = (nodes words : ℕ) → IsWithinLimits nodes words → Lawful (new_world nodes words) no_books (first_routes nodes)

-- law: each step keeps a world lawful with the books and the routes after it, whichever possible act a turn takes
abbrev pub StepKeepsLawful : Type 0
StepKeepsLawful =
    (w v : World) (b : Books) (g : Routes) (step : Step) (reply : Reply) → Lawful w b g → StepAny w step reply v →
    Lawful v (advance w b step reply) (routes_after w g step reply)

-- law: a step in which a turn takes the first act, or what stands in for it, is one in which it takes a possible act
abbrev pub FirstIsPossible : Type 0
FirstIsPossible =
    (w v : World) (b : Books) (g : Routes) (step : Step) (reply : Reply) → Lawful w b g → StepFirst w step reply v → StepAny w step reply v

-- law: the first half of an open keeps a world lawful
abbrev pub ClaimKeepsLawful : Type 0
ClaimKeepsLawful =
    (w : World) (b : Books) (g : Routes) (n : ℕ) → Lawful w b g → n < w.count → w.claimed < w.size → (node_at w n).opening ≡ None →
    Lawful (claim_for_open w n) b g

-- law: each reply is one that the machine over the books alone allows
abbrev pub RepliesPlainly : Type 0
RepliesPlainly =
    (w v : World) (b : Books) (g : Routes) (step : Step) (reply : Reply) → Lawful w b g → StepAny w step reply v →
    Plain b step reply (advance w b step reply)

-- law: to its callers the nodes together are the machine over the books alone: whatever steps are taken from the start, and whichever
-- possible act each turn takes, that machine allows the replies that the steps got, and ends with the same books
abbrev pub RunsArePlain : Type 0
RunsArePlain =
    (nodes words : ℕ) (w : World) (b : Books) (g : Routes) → (is : IsReached nodes words w b g) → PlainRun no_books is.steps is.replies b

-- a reply that says of a message in hand that it didn't fit says it of a Flush, which is dropped and kept nowhere
abbrev pub OnlyFlushesStray : Reply → Type 0
OnlyFlushesStray reply = (kind : Handed) (link : LinkId) → reply ≡ Turned (events.Hand kind link true) → kind ≡ Flush

-- law: each reply to a step from a lawful world is one of these
abbrev pub RepliesStrayNothing : Type 0
RepliesStrayNothing =
    (w v : World) (b : Books) (g : Routes) (step : Step) (reply : Reply) → Lawful w b g → StepAny w step reply v → OnlyFlushesStray reply

-- a bypass begins only under the lock of its own side
abbrev pub BeginsUnderLock : World → Step → Reply → Type 0
BeginsUnderLock w step reply =
    (n serial i : ℕ) (r : Router) → step ≡ Turn n → reply ≡ Turned (events.Begin serial (Central i)) → router_of w n serial ≡ Some r →
    has (word_at w i).holder r.end.side ≡ true

-- law: each bypass does
abbrev pub BeginsLocked : Type 0
BeginsLocked =
    (w v : World) (b : Books) (g : Routes) (step : Step) (reply : Reply) → Lawful w b g → StepAny w step reply v →
    BeginsUnderLock w step reply

-- law: the word of a link stays that for good, and of the same pair
abbrev pub LinksStay : Type 0
LinksStay =
    (w v : World) (b : Books) (g : Routes) (step : Step) (reply : Reply) → Lawful w b g → StepAny w step reply v →
    KeepsLinks g (routes_after w g step reply)

-- law: the sentence holds after every list of steps from the start
abbrev pub HeadlineHolds : Type 0
HeadlineHolds = (nodes words : ℕ) (w : World) (b : Books) (g : Routes) → IsReached nodes words w b g → Headline w b g

-- law: if the sentence holds, each item that the peer hasn't read stands in one place, and no other item in any
abbrev pub ItemsStandOnce : Type 0
ItemsStandOnce = (w : World) (b : Books) (g : Routes) → Headline w b g → EachOnce w b g

-- law: if nothing waits, a get on a direct pair is Empty only if all that the peer has put was got
abbrev pub QuietDelivers : Type 0
QuietDelivers =
    (w v : World) (b : Books) (g : Routes) (n : ℕ) (e : End) → Lawful w b g → IsQuiet w → IsDirectPair w e.pair →
    StepAny w (Get n e) (Refused Empty) v →
    map Parcel (b.got e) ≡ b.put (opposite_end e)

-- law: a get leaves a quiet world quiet, so that gets go on until all that the peer has put was got
abbrev pub GetsStayQuiet : Type 0
GetsStayQuiet = (w v : World) (n : ℕ) (e : End) (reply : Reply) → IsQuiet w → StepAny w (Get n e) reply v → IsQuiet v

-- law: after every list of steps of a world of one node each open pair is direct of which an end isn't closed
abbrev pub OneNodeIsDirect : Type 0
OneNodeIsDirect =
    (words : ℕ) (w : World) (b : Books) (g : Routes) (pair : ℕ) (s : Side) → IsReached 1 words w b g → is_opened g pair ≡ true →
    is_closed b (end_at pair s) ≡ false → IsDirectPair w pair

-- law: after every list of steps from the start no message but a Flush finds its router gone
abbrev pub NothingStrays : Type 0
NothingStrays = (nodes words : ℕ) (w : World) (b : Books) (g : Routes) → IsReached nodes words w b g → LengthLaw w × StrayLaw w

-- law: the sentence holds of every lawful world
abbrev pub LawfulGivesHeadline : Type 0
LawfulGivesHeadline = (w : World) (b : Books) (g : Routes) → Lawful w b g → Headline w b g

-- law: in a lawful world the lengths of links agree, and no message but a Flush finds its router gone
abbrev pub LawfulStraysNothing : Type 0
LawfulStraysNothing = (w : World) (b : Books) (g : Routes) → Lawful w b g → LengthLaw w × StrayLaw w

-- law: in a lawful world a router that could act is flagged, flags agree, who has tried for a lock is remembered, and an unknown length is
-- under way
abbrev pub LawfulOwes : Type 0
LawfulOwes = (w : World) (b : Books) (g : Routes) → Lawful w b g → Owed w

-- law: the same after every list of steps from the start
abbrev pub NothingIsForgotten : Type 0
NothingIsForgotten = (nodes words : ℕ) (w : World) (b : Books) (g : Routes) → IsReached nodes words w b g → Owed w

-- law: in a lawful world where nothing waits and no router has found the words used up, each open pair of which an end isn't closed is direct
-- and all is delivered
abbrev pub QuietIsDirect : Type 0
QuietIsDirect =
    (w : World) (b : Books) (g : Routes) (pair : ℕ) (s : Side) → Lawful w b g → IsQuiet w → IsWet w → is_opened g pair ≡ true →
    is_closed b (end_at pair s) ≡ false → IsDirect w b pair

-- law: and of a pair with both ends closed no router is left
abbrev pub ClosedPairsAreGone : Type 0
ClosedPairsAreGone = (w : World) (b : Books) (g : Routes) → Lawful w b g → IsQuiet w → IsWet w → HasNoClosedPairs w b

-- law: and no proxy is left
abbrev pub QuietHasNoProxy : Type 0
QuietHasNoProxy = (w : World) (b : Books) (g : Routes) → Lawful w b g → IsQuiet w → IsWet w → HasNoProxies w

-- law: in a lawful world a terminal's numbers are those of its end's books
abbrev pub TerminalsKeepBooks : Type 0
TerminalsKeepBooks = (w : World) (b : Books) (g : Routes) → Lawful w b g → TerminalLaw w b

-- law: in a lawful world each message in a node's hand fits there, but a Flush may find its router gone
abbrev pub HandsFit : Type 0
HandsFit =
    (w : World) (b : Books) (g : Routes) (n from : ℕ) (m : Message) → Lawful w b g → n < w.count → (node_at w n).hand ≡ Some from →
    message_in_hand w n from ≡ Some m → is_unfit (node_at w n) from m (source_for w m) ≡ true → is_flush m ≡ true

-- law: in a lawful world each end of an open pair is in one place, and other ends are nowhere
abbrev pub EndsStandOnce : Type 0
EndsStandOnce = (w : World) (b : Books) (g : Routes) → Lawful w b g → EndLaw w b g

-- law: in a lawful world an end that callers of a node hold has its terminal there
abbrev pub HeldHaveTerminals : Type 0
HeldHaveTerminals =
    (w : World) (b : Books) (g : Routes) (n : ℕ) (e : End) → Lawful w b g → n < w.count → holds_end (node_at w n) e ≡ true →
    IsSome (terminal_of (node_at w n) e)

-- law: a lawful world's lists are as long as its numbers say
abbrev pub ListsHaveLengths : Type 0
ListsHaveLengths = (w : World) (b : Books) (g : Routes) → Lawful w b g → HasLengths w

-- law: each node of a lawful world is sound
abbrev pub NodesAreSound : Type 0
NodesAreSound = (w : World) (b : Books) (g : Routes) (n : ℕ) → Lawful w b g → n < w.count → IsSound w.count w.size n (node_at w n)

-- law: in a lawful world a message in a node's hand stands in its mailbox, and a mailbox whose message is in hand is that of its receiver's
-- hand
abbrev pub HandsStandInMail : Type 0
HandsStandInMail =
    (w : World) (b : Books) (g : Routes) (n from : ℕ) → Lawful w b g → n < w.count → from < w.count →
    ((node_at w n).hand ≡ Some from) ↔ IsSome (message_in_hand w n from)

-- law: in a lawful world the word of an open under way is empty
abbrev pub OpeningWordsAreEmpty : Type 0
OpeningWordsAreEmpty = (w : World) (b : Books) (g : Routes) (n i : ℕ) → Lawful w b g → (node_at w n).opening ≡ Some i →
    word_at w i ≡ empty_word

-- law: in a lawful world an end whose close is pending at a node has its terminal there
abbrev pub PendingHaveTerminals : Type 0
PendingHaveTerminals =
    (w : World) (b : Books) (g : Routes) (n : ℕ) (e : End) → Lawful w b g → n < w.count → has_end e (node_at w n).pending ≡ true →
    IsSome (terminal_of (node_at w n) e)
