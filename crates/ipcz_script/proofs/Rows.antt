-- The lines that a command and its answer make, each without its line feed, and why no line has one within.
use Rattle.std.proofs.Common.{◌≡◌, ◌∙◌, ℕ, Bool, true, false, List, [], ◌∷◌, ◌++◌, refl, ap, append_assoc, codes, arith}
use Rattle.std.specs.Prelude.{if◌then◌else◌}
use Rattle.std.specs.Fmt.{decimal}
use Rattle.ipcz_base.specs.declared.side.Side.{Side}
use Rattle.ipcz_base.specs.declared.side.Side.TheVariants as sides
use Rattle.ipcz_base.specs.declared.end.End.{End}
use Rattle.ipcz_base.specs.declared.link_id.LinkId.{LinkId}
use Rattle.ipcz_base.specs.declared.link_id.LinkId.TheVariants.{Central, Peripheral}
use Rattle.ipcz_base.specs.Texts.{end_text, link_text, side_text}
use Rattle.ipcz_node.specs.declared.happened.Handed.{Handed}
use Rattle.ipcz_node.specs.declared.happened.Handed.TheVariants as kinds
use Rattle.ipcz_node.specs.declared.happened.Happened.{Happened}
use Rattle.ipcz_node.specs.declared.happened.Happened.TheVariants as events
use Rattle.ipcz_world.specs.declared.step.Reply.{Reply}
use Rattle.ipcz_world.specs.declared.step.Reply.TheVariants as replies
use Rattle.ipcz_script.specs.declared.command.Command.{Command}
use Rattle.ipcz_script.specs.declared.command.Command.TheVariants as commands
use Rattle.ipcz_script.specs.declared.said.Said.{Said}
use Rattle.ipcz_script.specs.declared.said.Said.TheVariants as said
use Rattle.ipcz_script.specs.Bindings.{Titles}
use Rattle.ipcz_script.specs.EventTexts.{event_text, hand_text, kind_text, link_event, more_ends, moved_text, sent_text, unfit_text}
use Rattle.ipcz_script.specs.EventTexts.{word_text}
use Rattle.ipcz_script.specs.Lines.{head_of, lines_of, lines_of_turns, more_titles, tail_of, title_of, titles_text, turn_lines}
use Rattle.ipcz_script.specs.Lines.{turn_text, words_text}
use Rattle.ipcz_script.specs.ScriptNames.{is_name}
use Rattle.ipcz_script.specs.ReadBack.{HasNames, HaveNoFeeds, IsNamely, lacks, text_of}
use Rattle.ipcz_script.proofs.Feeds.{decimal_lacks, lacks-append, namely, namely_lacks, refusal_lacks}

-- the lines of a node's turns
abbrev pub turn_rows : ℕ → List Reply → List (List ℕ)
turn_rows node [] = []
turn_rows node (r ∷ rs) = (codes "n" ++ decimal node ++ codes ": " ++ turn_text r) ∷ turn_rows node rs

-- the lines of an answer to a turn command
abbrev pub rows_of_turns : ℕ → Said → List (List ℕ)
rows_of_turns node (said.Turned turns) = turn_rows node turns
rows_of_turns node other = []

-- the lines of a command and its answer
abbrev pub rows_of : Titles → Command → Said → List (List ℕ)
rows_of titles (commands.Turn node count) answer = rows_of_turns node answer
rows_of titles command answer = (head_of command ++ tail_of titles answer) ∷ []

turn_rows-text : (node : ℕ) (rs : List Reply) → turn_lines node rs ≡ text_of (turn_rows node rs)
turn_rows-text node [] = refl
turn_rows-text node (r ∷ rs) =
    append_assoc (codes "n" ++ decimal node ++ codes ": " ++ turn_text r) (10 ∷ []) (turn_lines node rs)
    ∙ ap (λ l. (codes "n" ++ decimal node ++ codes ": " ++ turn_text r) ++ 10 ∷ l) (turn_rows-text node rs)

turned-text : (node : ℕ) (answer : Said) → lines_of_turns node answer ≡ text_of (rows_of_turns node answer)
turned-text node (said.Turned turns) = turn_rows-text node turns
turned-text node other = refl

-- the text of a command is its lines
pub rows-text : (titles : Titles) (c : Command) (answer : Said) → lines_of titles c answer ≡ text_of (rows_of titles c answer)
rows-text titles (commands.Turn node count) answer = turned-text node answer
rows-text titles other answer = refl

-- ---- line feeds

abbrev L : List ℕ → Type 0
L text = lacks 10 text ≡ true

both : (a b : List ℕ) → L a → L b → L (a ++ b)
both a b = lacks-append 10 a b

number : (n : ℕ) → L (decimal n)
number n = decimal_lacks 10 n (λ d. absurd (omega (arith, d.0)))

name : (text : List ℕ) → IsNamely text → L text
name text h = namely_lacks 10 text refl h

-- a name of a script
script_name : (text : List ℕ) → is_name text ≡ true → L text
script_name text h = name text (namely text h)

-- a known word behind a text
word : (a b : List ℕ) → L b → L a → L (a ++ b)
word a b h k = both a b k h

pub link-lacks : (link : LinkId) → L (link_text link)
link-lacks (Central word) = number word
link-lacks (Peripheral node serial) = both (decimal node) (codes "." ++ decimal serial) (number node) (number serial)

side-lacks : (s : Side) → L (side_text s)
side-lacks sides.A = refl
side-lacks sides.B = refl

end-lacks : (e : End) → L (end_text e)
end-lacks e = both (decimal e.pair) (side_text e.side) (number e.pair) (side-lacks e.side)

more_ends-lack : (es : List End) → L (more_ends es)
more_ends-lack [] = refl
more_ends-lack (e ∷ es) = both (end_text e) (more_ends es) (end-lacks e) (more_ends-lack es)

moved-lacks : (es : List End) → L (moved_text es)
moved-lacks [] = refl
moved-lacks (e ∷ es) = both (end_text e) (more_ends es) (end-lacks e) (more_ends-lack es)

kind-lacks : (kind : Handed) → L (kind_text kind)
kind-lacks (kinds.Item n) = number n
kind-lacks other = refl

unfit-lacks : (kind : Handed) (unfit : Bool) → L (if unfit then unfit_text kind else [])
unfit-lacks kind false = refl
unfit-lacks (kinds.Item n) true = refl
unfit-lacks kinds.BypassPeer true = refl
unfit-lacks kinds.AcceptBypass true = refl
unfit-lacks kinds.StopProxying true = refl
unfit-lacks kinds.ProxyWillStop true = refl
unfit-lacks kinds.Flush true = refl

hand-lacks : (kind : Handed) (link : LinkId) (unfit : Bool) → L (hand_text kind link unfit)
hand-lacks kind link unfit =
    both (kind_text kind ++ codes " " ++ link_text link) (if unfit then unfit_text kind else [])
    (both (kind_text kind ++ codes " ") (link_text link) (word (kind_text kind) (codes " ") refl (kind-lacks kind))
    (link-lacks link)) (unfit-lacks kind unfit)

serial-lacks : (serial : ℕ) → L (decimal serial ++ codes " ")
serial-lacks serial = word (decimal serial) (codes " ") refl (number serial)

link_event-lacks : (serial : ℕ) (verb : List ℕ) (link : LinkId) → L verb → L (link_event serial verb link)
link_event-lacks serial verb link h = both (decimal serial ++ codes " " ++ verb ++ codes " ") (link_text link)
    (word (decimal serial ++ codes " " ++ verb) (codes " ") refl (word (decimal serial ++ codes " ") verb h (serial-lacks serial)))
    (link-lacks link)

word_text-lacks : (serial : ℕ) (verb : List ℕ) (link : LinkId) (after : ℕ) → L verb → L (word_text serial verb link after)
word_text-lacks serial verb link after h =
    both (decimal serial ++ codes " " ++ verb ++ codes " " ++ link_text link ++ codes " ") (decimal after)
    (word (decimal serial ++ codes " " ++ verb ++ codes " " ++ link_text link) (codes " ") refl
    (both (decimal serial ++ codes " " ++ verb ++ codes " ") (link_text link)
    (word (decimal serial ++ codes " " ++ verb) (codes " ") refl (word (decimal serial ++ codes " ") verb h
    (serial-lacks serial)))
    (link-lacks link))) (number after)

sent-lacks : (serial : ℕ) (way : List ℕ) (n : ℕ) (link : LinkId) (moved : List End) → L way → L (sent_text serial way n link moved)
sent-lacks serial way n link moved h =
    both (decimal serial ++ codes " send " ++ way ++ codes " " ++ decimal n ++ codes " " ++ link_text link) (moved_text moved)
    (both (decimal serial ++ codes " send " ++ way ++ codes " " ++ decimal n ++ codes " ") (link_text link)
    (word (decimal serial ++ codes " send " ++ way ++ codes " " ++ decimal n) (codes " ") refl
    (both (decimal serial ++ codes " send " ++ way ++ codes " ") (decimal n)
    (word (decimal serial ++ codes " send " ++ way) (codes " ") refl
    (word (decimal serial ++ codes " send ") way h (word (decimal serial) (codes " send ") refl (number serial)))) (number n)))
    (link-lacks link)) (moved-lacks moved)

-- no event has a line feed
event-lacks : (event : Happened) → L (event_text event)
event-lacks (events.Hand kind link unfit) = hand-lacks kind link unfit
event-lacks (events.Look sender) = number sender
event-lacks (events.Post to) = number to
event-lacks (events.Close end) = end-lacks end
event-lacks (events.SendOut serial n link moved) = sent-lacks serial (codes "out") n link moved refl
event-lacks (events.SendIn serial n link moved) = sent-lacks serial (codes "in") n link moved refl
event-lacks (events.Discard serial n) = both (decimal serial ++ codes " discard ") (decimal n)
    (word (decimal serial) (codes " discard ") refl (number serial)) (number n)
event-lacks (events.DiscardLeave serial n) = word (decimal serial ++ codes " discard " ++ decimal n) (codes " leave") refl
    (both (decimal serial ++ codes " discard ") (decimal n) (word (decimal serial) (codes " discard ") refl (number serial)) (number n))
event-lacks (events.FinishOut serial link) = link_event-lacks serial (codes "finish out") link refl
event-lacks (events.FinishIn serial link) = link_event-lacks serial (codes "finish in") link refl
event-lacks (events.Leave serial) = word (decimal serial) (codes " leave") refl (number serial)
event-lacks (events.Mark serial link word) = word_text-lacks serial (codes "mark") link word refl
event-lacks (events.Wake serial link word) = word_text-lacks serial (codes "wake") link word refl
event-lacks (events.Claim serial w) = both (decimal serial ++ codes " claim ") (decimal w)
    (word (decimal serial) (codes " claim ") refl (number serial)) (number w)
event-lacks (events.ClaimNoWord serial) = word (decimal serial) (codes " claim NoWord") refl (number serial)
event-lacks (events.Lock serial link word) = word_text-lacks serial (codes "lock") link word refl
event-lacks (events.Wait serial link word) = word_text-lacks serial (codes "wait") link word refl
event-lacks (events.Refused serial link word) = word_text-lacks serial (codes "refused") link word refl
event-lacks (events.Begin serial link) = link_event-lacks serial (codes "begin") link refl
event-lacks (events.Retire serial n link) = both (decimal serial ++ codes " retire " ++ decimal n ++ codes " ") (link_text link)
    (word (decimal serial ++ codes " retire " ++ decimal n) (codes " ") refl
    (both (decimal serial ++ codes " retire ") (decimal n) (word (decimal serial) (codes " retire ") refl (number serial)) (number n)))
    (link-lacks link)
event-lacks (events.Unlock serial link word) = word_text-lacks serial (codes "unlock") link word refl
event-lacks (events.Rest serial) = word (decimal serial) (codes " rest") refl (number serial)
event-lacks events.Idle = refl

turn-lacks : (r : Reply) → L (turn_text r)
turn-lacks (replies.Turned event) = event-lacks event
turn-lacks (replies.Refused why) = refusal_lacks why
turn-lacks other = refl

turn_rows-feeds : (node : ℕ) (rs : List Reply) → HaveNoFeeds (turn_rows node rs)
turn_rows-feeds node [] = tt
turn_rows-feeds node (r ∷ rs) = (
  both (decimal node ++ codes ": ") (turn_text r) (word (decimal node) (codes ": ") refl (number node))
      (turn-lacks r),
  turn_rows-feeds node rs,
)

-- each title is made of the bytes of names
abbrev pub AreTitles : Titles → Type 0
AreTitles titles = (e : End) → IsNamely (title_of titles e)

more_titles-lack : (titles : Titles) → AreTitles titles → (es : List End) → L (more_titles titles es)
more_titles-lack titles are [] = refl
more_titles-lack titles are (e ∷ es) = both (title_of titles e) (more_titles titles es) (name (title_of titles e) (are e))
    (more_titles-lack titles are es)

titles-lack : (titles : Titles) → AreTitles titles → (es : List End) → L (titles_text titles es)
titles-lack titles are [] = refl
titles-lack titles are (e ∷ es) = both (title_of titles e) (more_titles titles es) (name (title_of titles e) (are e))
    (more_titles-lack titles are es)

-- what was got has no line feed
abbrev pub GotNoFeed : Said → Type 0
GotNoFeed (said.Got n p) = lacks 10 p.bytes ≡ true
GotNoFeed other = Unit {0}

words-lack : (ws : List ℕ) → L (words_text ws)
words-lack [] = refl
words-lack (w ∷ ws) = both (decimal w) (words_text ws) (number w) (words-lack ws)

tail-lacks : (titles : Titles) (answer : Said) → AreTitles titles → GotNoFeed answer → L (tail_of titles answer)
tail-lacks titles (said.Put n) are h = number n
tail-lacks titles (said.Got n p) are h =
    word (decimal n ++ codes " [" ++ titles_text titles p.ends ++ codes "] \"" ++ p.bytes) (codes "\"") refl
    (both (decimal n ++ codes " [" ++ titles_text titles p.ends ++ codes "] \"") p.bytes
    (word (decimal n ++ codes " [" ++ titles_text titles p.ends) (codes "] \"") refl
    (both (decimal n ++ codes " [") (titles_text titles p.ends)
    (word (decimal n) (codes " [") refl (number n)) (titles-lack titles are p.ends))) h)
tail-lacks titles (said.Closed n) are h = number n
tail-lacks titles (said.Words ws) are h = words-lack ws
tail-lacks titles (said.Refused why) are h = refusal_lacks why
tail-lacks titles other are h = refl

turned-feeds : (node : ℕ) (answer : Said) → HaveNoFeeds (rows_of_turns node answer)
turned-feeds node (said.Turned turns) = turn_rows-feeds node turns
turned-feeds node other = tt

-- no line of a command has a line feed within
pub rows-feeds : (titles : Titles) (c : Command) (answer : Said) → AreTitles titles → HasNames c → GotNoFeed answer →
    HaveNoFeeds (rows_of titles c answer)
rows-feeds titles (commands.Turn node count) answer are h got = turned-feeds node answer
rows-feeds titles (commands.Open node first second) answer are h got =
    let tail = tail-lacks titles answer are got in (
      both (head_of (commands.Open node first second)) (tail_of titles answer)
          (word (◌++◌ {A = ℕ} first (codes " ") ++ second) (codes " ") refl (both (◌++◌ {A = ℕ} first (codes " ")) second
          (word first (codes " ") refl (script_name first h.0)) (script_name second h.1))) tail,
      tt,
    )
rows-feeds titles (commands.Put at text attached) answer are h got = (
  both (head_of (commands.Put at text attached)) (tail_of titles answer) (word at (codes " ") refl (script_name at h))
      (tail-lacks titles answer are got),
  tt,
)
rows-feeds titles (commands.Get at) answer are h got =
    (both (head_of (commands.Get at)) (tail_of titles answer) (word at (codes " ") refl (script_name at h)) (tail-lacks titles answer are got), tt)
rows-feeds titles (commands.Close at) answer are h got = (
  both (head_of (commands.Close at)) (tail_of titles answer) (word at (codes " ") refl (script_name at h)) (tail-lacks titles answer are got),
  tt,
)
rows-feeds titles (commands.Settle limit) answer are h got = (tail-lacks titles answer are got, tt)
rows-feeds titles commands.Show answer are h got = (tail-lacks titles answer are got, tt)
