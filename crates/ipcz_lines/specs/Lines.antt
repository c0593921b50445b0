-- The forms of a transcript's lines: the text of each line, and what each part of it must be.
use Rattle.std.specs.Prelude.{ℕ, zero, suc, ◌+◌, ◌≡◌, ◌≢◌, ◌≤◌, ◌<◌, List, [], ◌∷◌, ◌++◌, codes, length, flat_map, Option, Some, None}
use Rattle.std.specs.Prelude.{if◌then◌else◌}
use Rattle.std.specs.List.{All}
use Rattle.std.specs.Fmt.{decimal}
use Rattle.ipcz_lines.specs.declared.line.RouterEvent.{RouterEvent}
use Rattle.ipcz_lines.specs.declared.line.RouterEvent.TheVariants as acts
use Rattle.ipcz_lines.specs.declared.line.Event.{Event}
use Rattle.ipcz_lines.specs.declared.line.Event.TheVariants as events
use Rattle.ipcz_lines.specs.declared.line.Line.{Line}
use Rattle.ipcz_lines.specs.declared.line.Line.TheVariants as lines
use Rattle.ipcz_lines.specs.declared.line.ReadLine.{ReadLine}
use Rattle.ipcz_lines.specs.declared.line.Unread.{Unread}
use Rattle.ipcz_lines.specs.declared.line.Unread.TheVariants as unread
use Rattle.ipcz_lines.specs.declared.line.TheConstants.{LONGEST}
use Rattle.ipcz_lines.specs.declared.line.parts.Refusal.{Refusal}
use Rattle.ipcz_lines.specs.LineParts.{answer_text, end_text, fate_text, fault_text, kind_text, link_text, refusal_text, step_text}
use Rattle.ipcz_lines.specs.LineParts.{way_text, AreParted, IsAnswer, IsEnd, IsEndText, IsFault, IsKind, IsLink, IsName, IsNodeNumber}
use Rattle.ipcz_lines.specs.LineParts.{IsNumber, IsWordNumber, IsWordText}

-- two words with a space between
abbrev pub spaced : List ℕ → List ℕ → List ℕ
spaced first rest = first ++ 32 ∷ rest

-- a text, and behind a space what there is more
abbrev pub and_more : List ℕ → List ℕ → List ℕ
and_more text [] = text
and_more text (b ∷ bs) = spaced text (b ∷ bs)

-- the ends that went with an item, if there are some
abbrev pub moves_text : List ℕ → List ℕ
moves_text [] = []
moves_text (b ∷ bs) = spaced (codes "moves") (b ∷ bs)

abbrev pub central_text : ℕ → List ℕ
central_text word = codes "C" ++ decimal word

-- what a router did
abbrev pub act_text : RouterEvent → List ℕ
act_text (acts.Send way n link moves) = spaced (codes "send")
    (spaced (way_text way) (spaced (decimal n) (and_more (link_text link) (moves_text moves.now))))
act_text (acts.Discard n leaves) = spaced (codes "discard") (if leaves then spaced (decimal n) (codes "leave") else decimal n)
act_text (acts.Finish way link) = spaced (codes "finish") (spaced (way_text way) (link_text link))
act_text acts.Leave = codes "leave"
act_text acts.Rest = codes "rest"
act_text (acts.Word step word after) = spaced (step_text step) (spaced (central_text word) (decimal after))
act_text (acts.Claim (Some word)) = spaced (codes "claim") (decimal word)
act_text (acts.Claim None) = codes "claim NoWord"
act_text (acts.Begin word) = spaced (codes "begin") (central_text word)
act_text (acts.Retire n link) = spaced (codes "retire") (spaced (decimal n) (link_text link))

-- no ends, or some
abbrev pub AreMoves : List ℕ → Type 0
AreMoves [] = Unit {0}
AreMoves (b ∷ bs) = AreParted IsEndText 44 (b ∷ bs)

abbrev pub IsAct : RouterEvent → Type 0
IsAct (acts.Send way n link moves) = IsNumber n × IsLink link × AreMoves moves.now
IsAct (acts.Discard n leaves) = IsNumber n
IsAct (acts.Finish way link) = IsLink link
IsAct acts.Leave = Unit {0}
IsAct acts.Rest = Unit {0}
IsAct (acts.Word step word after) = IsWordNumber word × IsWordNumber after
IsAct (acts.Claim (Some word)) = IsWordNumber word
IsAct (acts.Claim None) = Unit {0}
IsAct (acts.Begin word) = IsWordNumber word
IsAct (acts.Retire n link) = IsNumber n × IsLink link

-- what a router did with a word
abbrev pub IsWordAct : RouterEvent → Type 0
IsWordAct (acts.Word step word after) = IsWordNumber word × IsWordNumber after
IsWordAct other = ⊥

-- what a turn was; behind an unfit message stands what became of it
abbrev pub event_text : Event → List ℕ
event_text (events.Hand kind link unfit) = spaced (codes "hand")
    (spaced (kind_text kind) (if unfit then spaced (link_text link) (fate_text kind) else link_text link))
event_text (events.Look sender) = spaced (codes "look") (decimal sender)
event_text (events.Post destination) = spaced (codes "post") (decimal destination)
event_text (events.Close end) = spaced (codes "close") (end_text end)
event_text (events.Router serial act) = spaced (codes "r" ++ decimal serial) (act_text act)
event_text events.Idle = codes "idle"
event_text (events.Refused why) = refusal_text why

abbrev pub IsEvent : Event → Type 0
IsEvent (events.Hand kind link unfit) = IsKind kind × IsLink link
IsEvent (events.Look sender) = IsNodeNumber sender
IsEvent (events.Post destination) = IsNodeNumber destination
IsEvent (events.Close end) = IsEnd end
IsEvent (events.Router serial act) = IsNumber serial × IsAct act
IsEvent events.Idle = Unit {0}
IsEvent (events.Refused why) = Unit {0}

-- what a router did, with its number
abbrev pub IsRouterEvent : Event → Type 0
IsRouterEvent (events.Router serial act) = IsNumber serial × IsAct act
IsRouterEvent other = ⊥

-- what an open was answered
abbrev pub opened_text : Option Refusal → List ℕ
opened_text None = codes "ok"
opened_text (Some why) = refusal_text why

-- a parcel that was got: its number, the names of its portals, and its data as they are
abbrev pub parcel_text : ℕ → List ℕ → List ℕ → List ℕ
parcel_text n names data_ = spaced (decimal n) (codes "[" ++ (names ++ (codes "] \"" ++ (data_ ++ codes "\""))))

-- the text of a line
abbrev pub line_text : Line → List ℕ
line_text (lines.Open first second refusal) = spaced (codes "open") (spaced first.now (spaced second.now (opened_text refusal)))
line_text (lines.Put name answer) = spaced (codes "put") (spaced name.now (answer_text answer))
line_text (lines.Close name answer) = spaced (codes "close") (spaced name.now (answer_text answer))
line_text (lines.Missed name why) = spaced (codes "get") (spaced name.now (refusal_text why))
line_text (lines.Got name n names bytes) = spaced (codes "get") (spaced name.now (parcel_text n names.now bytes.now))
line_text (lines.Turn node event) = spaced (codes "n" ++ (decimal node ++ codes ":")) (event_text event)
line_text lines.Settled = codes "settled"
line_text lines.Unsettled = codes "unsettled"
line_text (lines.Words values) = and_more (codes "words") values.now
line_text (lines.Refused fault) = spaced (codes "refused") (fault_text fault)

-- no names, or some
abbrev pub AreNames : List ℕ → Type 0
AreNames [] = Unit {0}
AreNames (b ∷ bs) = AreParted IsName 44 (b ∷ bs)

-- no values of words, or some
abbrev pub AreWords : List ℕ → Type 0
AreWords [] = Unit {0}
AreWords (b ∷ bs) = AreParted IsWordText 32 (b ∷ bs)

-- bytes that print, from the space to the tilde
abbrev pub IsPrintable : ℕ → Type 0
IsPrintable b = (32 ≤ b) × (b ≤ 126)

abbrev pub FitsLine : Line → Type 0
FitsLine (lines.Open first second refusal) = IsName first.now × IsName second.now
FitsLine (lines.Put name answer) = IsName name.now × IsAnswer answer
FitsLine (lines.Close name answer) = IsName name.now × IsAnswer answer
FitsLine (lines.Missed name why) = IsName name.now
FitsLine (lines.Got name n names bytes) = IsName name.now × IsNumber n × AreNames names.now
FitsLine (lines.Turn node event) = IsNodeNumber node × IsEvent event
FitsLine lines.Settled = Unit {0}
FitsLine lines.Unsettled = Unit {0}
FitsLine (lines.Words values) = AreWords values.now
FitsLine (lines.Refused fault) = IsFault fault

-- a turn of a node
abbrev pub IsTurn : Line → Type 0
IsTurn (lines.Turn node event) = IsNodeNumber node × IsEvent event
IsTurn other = ⊥

-- a text is that of a line: each part of it fits, and each byte prints
pub record IsLine (text : List ℕ) (line : Line) : Type 0 where
  pub fits : FitsLine line
  pub spelled : line_text line ≡ text
  pub prints : All IsPrintable text

-- a text that was read, with its line feed
abbrev pub with_line_feed : ReadLine → List ℕ
with_line_feed x = x.text.now ++ 10 ∷ []

abbrev pub IsReadLine : ReadLine → Type 0
IsReadLine x = IsLine x.text.now x.line

-- a transcript is its lines, each with its line feed
pub record IsRead (input : List ℕ) (read : List ReadLine) : Type 0 where
  pub whole : flat_map with_line_feed read ≡ input
  pub each : All IsReadLine read

-- no line with its line feed stands at the front of these bytes
abbrev pub BeginsWithNoLine : List ℕ → Type 0
BeginsWithNoLine rest = (x : ReadLine) (behind : List ℕ) → IsReadLine x → with_line_feed x ++ behind ≢ rest

-- a bad line comes behind those before it, which were read
pub record IsBadLine (input : List ℕ) (number : ℕ) : Type 0 where
  pub before : List ReadLine
  pub each : All IsReadLine before
  pub rest : List ℕ
  pub some : 0 < length rest
  pub bad : BeginsWithNoLine rest
  pub whole : flat_map with_line_feed before ++ rest ≡ input
  pub counted : length before + 1 ≡ number

-- which line is refused: none of too many bytes, and else one that there is
abbrev pub IsRefused : List ℕ → Unread → Type 0
IsRefused input unread.OutOfMemory = Unit {0}
IsRefused input (unread.Refused zero) = LONGEST < length input
IsRefused input (unread.Refused (suc n)) = IsBadLine input (suc n)
