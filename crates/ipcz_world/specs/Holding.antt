-- Which node's callers hold an end, how many routers a node has, and what a link word shows.
use Rattle.std.specs.Prelude.{ℕ, nat_lt, if◌then◌else◌, Option, Some, None, List, map}
use Rattle.std.specs.FinMap.{len}
use Rattle.ipcz_base.specs.declared.end.End.{End}
use Rattle.ipcz_word.specs.Layout.{bits_of}
use Rattle.ipcz_node.specs.Node.{holds_end}
use Rattle.ipcz_node.specs.Acts.{first_number}
use Rattle.ipcz_world.specs.World.{World, node_at, word_at, numbers_from}

-- the first node whose callers hold the end, if some do
abbrev pub holder_of : World → End → Option ℕ
holder_of w end = first_number (λ n. holds_end (node_at w n) end) 0 w.count

-- how many routers a node has, if it is one of the world's
abbrev pub routers_at : World → ℕ → Option ℕ
routers_at w n = if nat_lt n w.count then Some (len (node_at w n).routers) else None

-- the number of a claimed word
abbrev pub shown_word : World → ℕ → Option ℕ
shown_word w i = if nat_lt i w.claimed then Some (bits_of (word_at w i)) else None

-- the numbers of the claimed words, in order
abbrev pub shown_words : World → List ℕ
shown_words w = map (λ i. bits_of (word_at w i)) (numbers_from 0 w.claimed)
