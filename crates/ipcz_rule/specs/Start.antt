-- The table at the start: its words, and the view from which the nodes' seats are dealt.
use Rattle.std.specs.Prelude.{◌+◌, ◌-◌, ◌*◌, ℕ, List, [], ◌∷◌, ◌++◌, map, length, replicate, None}
use Rattle.ipcz_node.specs.FirstPairs.{first_pairs, new_node}
use Rattle.ipcz_world.specs.World.{numbers_from}
use Rattle.ipcz_rule.specs.declared.view.View.{View}
use Rattle.ipcz_rule.specs.declared.view.Part.{Part}
use Rattle.ipcz_rule.specs.Rule.{Slot}

-- the words at the start: those of the first pairs' links are open, the other link words are empty; then the claim count, the inboxes
-- and the mailboxes
abbrev pub opening_words : ℕ → ℕ → List ℕ
opening_words count size =
    replicate (length (first_pairs count)) 3 ++ (replicate (size - length (first_pairs count)) 0
    ++ length (first_pairs count) ∷ replicate (count + count * count) 0)

-- so many slots without a message
abbrev pub no_messages : ℕ → List Slot
no_messages n = replicate n None

-- what a seat says of a node at the start
abbrev pub opening_part : ℕ → ℕ → Part
opening_part count n = record { node = n; state = new_node n count; message = None; probed = []; batches = []; put = []; got = []; gone = []; history = [] }

-- the parts of so many nodes from one on
abbrev pub opening_parts : ℕ → ℕ → ℕ → List Part
opening_parts count n left = map (opening_part count) (numbers_from n left)

-- the view of the first seat: it says all of all nodes
abbrev pub opening_view : ℕ → View
opening_view count = record { parts = opening_parts count 0 count; seen = []; announced = None; caller = None }

-- the first part of a list, alone
abbrev pub head_parts : List Part → List Part
head_parts [] = []
head_parts (p ∷ ps) = p ∷ []

-- the parts behind the first
abbrev pub tail_parts : List Part → List Part
tail_parts [] = []
tail_parts (p ∷ ps) = ps

-- the view that a new seat gets when a part is dealt
abbrev pub dealt : View → View
dealt v = record { parts = head_parts v.parts; seen = v.seen; announced = None; caller = None }

-- and the view that stays
abbrev pub after_deal : View → View
after_deal v = record { parts = tail_parts v.parts; seen = v.seen; announced = None; caller = v.caller }
