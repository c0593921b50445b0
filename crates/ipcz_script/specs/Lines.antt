-- The lines of the transcript.
use Rattle.std.specs.Prelude.{ℕ, List, [], ◌∷◌, ◌++◌, codes, unwrap_or}
use Rattle.std.specs.Fmt.{decimal}
use Rattle.std.specs.FinMap.{get}
use Rattle.ipcz_base.specs.Refusals.{name_of}
use Rattle.ipcz_base.specs.declared.end.End.{End}
use Rattle.ipcz_base.specs.declared.parcel.Parcel.{Parcel}
use Rattle.ipcz_world.specs.declared.step.Reply.{Reply}
use Rattle.ipcz_world.specs.declared.step.Reply.TheVariants as replies
use Rattle.ipcz_script.specs.declared.command.Command.{Command}
use Rattle.ipcz_script.specs.declared.command.Command.TheVariants as commands
use Rattle.ipcz_script.specs.declared.said.Said.{Said}
use Rattle.ipcz_script.specs.declared.said.Said.TheVariants as said
use Rattle.ipcz_script.specs.declared.script_fault.ScriptFault.{ScriptFault}
use Rattle.ipcz_script.specs.declared.script_fault.ScriptFault.TheVariants.{NotJson, BadShape, TooLong, OutOfMemory}
use Rattle.ipcz_script.specs.Bindings.{Titles}
use Rattle.ipcz_script.specs.EventTexts.{event_text}

-- every line ends with one line feed
abbrev pub line : List ℕ → List ℕ
line text = text ++ 10 ∷ []

-- the name of an end; every end that travels has one
abbrev pub title_of : Titles → End → List ℕ
title_of titles end = unwrap_or (get titles end) []

-- names behind the first, each behind a comma
abbrev pub more_titles : Titles → List End → List ℕ
more_titles titles [] = []
more_titles titles (e ∷ es) = codes "," ++ title_of titles e ++ more_titles titles es

-- the names of these ends, parted by commas
abbrev pub titles_text : Titles → List End → List ℕ
titles_text titles [] = []
titles_text titles (e ∷ es) = title_of titles e ++ more_titles titles es

-- a parcel that was got: its number, the names of its ends, and its bytes as they are
abbrev pub parcel_text : Titles → ℕ → Parcel → List ℕ
parcel_text titles number parcel = decimal number ++ codes " [" ++ titles_text titles parcel.ends ++ codes "] \"" ++ parcel.bytes ++
    codes "\""

-- the claimed words, each behind a space
abbrev pub words_text : List ℕ → List ℕ
words_text [] = []
words_text (w ∷ ws) = codes " " ++ decimal w ++ words_text ws

-- what a line says of its command; a settle and a show are named by their answers
abbrev pub head_of : Command → List ℕ
head_of (commands.Open node first second) = codes "open " ++ first ++ codes " " ++ second ++ codes " "
head_of (commands.Put at text attached) = codes "put " ++ at ++ codes " "
head_of (commands.Get at) = codes "get " ++ at ++ codes " "
head_of (commands.Close at) = codes "close " ++ at ++ codes " "
head_of (commands.Turn node count) = []
head_of (commands.Settle limit) = []
head_of commands.Show = []

-- what a line says of the answer
abbrev pub tail_of : Titles → Said → List ℕ
tail_of titles said.Opened = codes "ok"
tail_of titles (said.Put number) = decimal number
tail_of titles (said.Got number parcel) = parcel_text titles number parcel
tail_of titles (said.Closed number) = decimal number
tail_of titles (said.Turned turns) = []
tail_of titles said.Settled = codes "settled"
tail_of titles said.Unsettled = codes "unsettled"
tail_of titles (said.Words words) = codes "words" ++ words_text words
tail_of titles said.UnknownName = codes "UnknownName"
tail_of titles said.Away = codes "Away"
tail_of titles (said.Refused why) = name_of why

-- what a turn is replied: what it did, or why it was refused
abbrev pub turn_text : Reply → List ℕ
turn_text (replies.Turned event) = event_text event
turn_text (replies.Refused why) = name_of why
turn_text other = []

-- the lines of a node's turns
abbrev pub turn_lines : ℕ → List Reply → List ℕ
turn_lines node [] = []
turn_lines node (r ∷ rs) = line (codes "n" ++ decimal node ++ codes ": " ++ turn_text r) ++ turn_lines node rs

-- the lines of a turn command
abbrev pub lines_of_turns : ℕ → Said → List ℕ
lines_of_turns node (said.Turned turns) = turn_lines node turns
lines_of_turns node other = []

-- the lines of a command and its answer: one, but for a turn command
abbrev pub lines_of : Titles → Command → Said → List ℕ
lines_of titles (commands.Turn node count) answer = lines_of_turns node answer
lines_of titles command answer = line (head_of command ++ tail_of titles answer)

-- the only line for bytes that are no script; a want of memory writes none
abbrev pub refused_line : ScriptFault → List ℕ
refused_line NotJson = line (codes "refused NotJson")
refused_line (BadShape n) = line (codes "refused BadShape " ++ decimal n)
refused_line TooLong = line (codes "refused TooLong")
refused_line OutOfMemory = []
