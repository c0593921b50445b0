-- How what a turn did prints.
use Rattle.std.specs.Prelude.{ℕ, Bool, if◌then◌else◌, List, [], ◌∷◌, ◌++◌, codes}
use Rattle.std.specs.Fmt.{decimal}
use Rattle.ipcz_base.specs.declared.end.End.{End}
use Rattle.ipcz_base.specs.declared.link_id.LinkId.{LinkId}
use Rattle.ipcz_base.specs.Texts.{end_text, link_text}
use Rattle.ipcz_node.specs.declared.happened.Handed.{Handed}
use Rattle.ipcz_node.specs.declared.happened.Handed.TheVariants as kinds
use Rattle.ipcz_node.specs.declared.happened.Happened.{Happened}
use Rattle.ipcz_node.specs.declared.happened.Happened.TheVariants as events

-- the kind of a message, an item with its number
abbrev pub kind_text : Handed → List ℕ
kind_text (kinds.Item n) = codes "item " ++ decimal n
kind_text kinds.BypassPeer = codes "BypassPeer"
kind_text kinds.AcceptBypass = codes "AcceptBypass"
kind_text kinds.StopProxying = codes "StopProxying"
kind_text kinds.ProxyWillStop = codes "ProxyWillStop"
kind_text kinds.Flush = codes "Flush"

-- what became of a message that didn't fit: a Flush is dropped, each other is a stray
abbrev pub unfit_text : Handed → List ℕ
unfit_text kinds.Flush = codes " dropped"
unfit_text other = codes " stray"

-- ends behind the first, each behind a comma
abbrev pub more_ends : List End → List ℕ
more_ends [] = []
more_ends (e ∷ es) = codes "," ++ end_text e ++ more_ends es

-- the ends that moved with an item, if there are some
abbrev pub moved_text : List End → List ℕ
moved_text [] = []
moved_text (e ∷ es) = codes " moves " ++ end_text e ++ more_ends es

-- what a router did with a link
abbrev pub link_event : ℕ → List ℕ → LinkId → List ℕ
link_event serial verb link = codes "r" ++ decimal serial ++ codes " " ++ verb ++ codes " " ++ link_text link

-- what a router did to the word of a link, with the word after it
abbrev pub word_text : ℕ → List ℕ → LinkId → ℕ → List ℕ
word_text serial verb link word = codes "r" ++ decimal serial ++ codes " " ++ verb ++ codes " " ++ link_text link ++ codes " " ++
    decimal word

-- an item that was sent
abbrev pub sent_text : ℕ → List ℕ → ℕ → LinkId → List End → List ℕ
sent_text serial way n link moved = codes "r" ++ decimal serial ++ codes " send " ++ way ++ codes " " ++ decimal n ++ codes " " ++
    link_text link ++ moved_text moved

-- a message that was handled
abbrev pub hand_text : Handed → LinkId → Bool → List ℕ
hand_text kind link unfit = codes "hand " ++ kind_text kind ++ codes " " ++ link_text link ++ (if unfit then unfit_text kind else [])

-- what a turn did
abbrev pub event_text : Happened → List ℕ
event_text (events.Hand kind link unfit) = hand_text kind link unfit
event_text (events.Look sender) = codes "look " ++ decimal sender
event_text (events.Post to) = codes "post " ++ decimal to
event_text (events.Close end) = codes "close " ++ end_text end
event_text (events.SendOut serial n link moved) = sent_text serial (codes "out") n link moved
event_text (events.SendIn serial n link moved) = sent_text serial (codes "in") n link moved
event_text (events.Discard serial n) = codes "r" ++ decimal serial ++ codes " discard " ++ decimal n
event_text (events.DiscardLeave serial n) = codes "r" ++ decimal serial ++ codes " discard " ++ decimal n ++ codes " leave"
event_text (events.FinishOut serial link) = link_event serial (codes "finish out") link
event_text (events.FinishIn serial link) = link_event serial (codes "finish in") link
event_text (events.Leave serial) = codes "r" ++ decimal serial ++ codes " leave"
event_text (events.Mark serial link word) = word_text serial (codes "mark") link word
event_text (events.Wake serial link word) = word_text serial (codes "wake") link word
event_text (events.Claim serial word) = codes "r" ++ decimal serial ++ codes " claim " ++ decimal word
event_text (events.ClaimNoWord serial) = codes "r" ++ decimal serial ++ codes " claim NoWord"
event_text (events.Lock serial link word) = word_text serial (codes "lock") link word
event_text (events.Wait serial link word) = word_text serial (codes "wait") link word
event_text (events.Refused serial link word) = word_text serial (codes "refused") link word
event_text (events.Begin serial link) = link_event serial (codes "begin") link
event_text (events.Retire serial n link) = codes "r" ++ decimal serial ++ codes " retire " ++ decimal n ++ codes " " ++ link_text link
event_text (events.Unlock serial link word) = word_text serial (codes "unlock") link word
event_text (events.Rest serial) = codes "r" ++ decimal serial ++ codes " rest"
event_text events.Idle = codes "idle"
