-- What the code of the world keeps, as the definitions of worlds name it: the link words with their claim count, apart from the nodes.
use Rattle.std.specs.Prelude.{◌≡◌, ◌≤◌, ℕ, ◌+◌, ◌-◌, ◌++◌, Bool, true, false, nat_lt, if◌then◌else◌, Option, Some, None, List, length, map, replicate}
use Rattle.std.specs.List.{All}
use Rattle.ipcz_base.specs.declared.side.Side.{Side}
use Rattle.ipcz_base.specs.Indexed.{place_at, put_place}
use Rattle.ipcz_word.specs.Layout.{IsWord, idle_bits, bits_of, word_of_bits}
use Rattle.ipcz_word.specs.Word.{Word, empty_word}
use Rattle.ipcz_router.specs.declared.act.RouterAct.{RouterAct}
use Rattle.ipcz_router.specs.declared.act.RouterAct.TheVariants.{Claim}
use Rattle.ipcz_router.specs.declared.act.Answer.{Answer}
use Rattle.ipcz_router.specs.declared.act.Answer.TheVariants as answers
use Rattle.ipcz_world.specs.World.{word_limit, World}
use Rattle.ipcz_world.specs.WordAnswers.{word_answer, word_after}

-- the link words, and how many of them were claimed
pub record WordTable : Type 0 where
  pub words : List Word
  pub claimed : ℕ

-- the number of a link word whose bits 6 and 7 are none
pub record IsLinkNumber (n : ℕ) : Type 0 where
  pub word : IsWord n
  pub idle : idle_bits n ≡ 0

-- numbers and a claim count that make a table: each number is a link word, and there are enough of them, but not too many
pub record IsTable (bits : List ℕ) (count : ℕ) : Type 0 where
  pub words : All IsLinkNumber bits
  pub claimed : count ≤ length bits
  pub few : length bits ≤ word_limit

-- the words from the claim count on are empty
abbrev pub AreUnclaimedEmpty : List Word → ℕ → Type 0
AreUnclaimedEmpty words claimed = (i : ℕ) → claimed ≤ i → place_at empty_word words i ≡ empty_word

-- the table of so many words in which those of these numbers are claimed, and the others are empty
abbrev pub laid_table : List ℕ → ℕ → WordTable
laid_table bits size = record { words = map word_of_bits bits ++ replicate (size - length bits) empty_word; claimed = length bits }

-- the numbers of the claimed words are link words, and they are laid out in memory that has room for all the words
pub record IsLaidOut (bits : List ℕ) (capacity size : ℕ) : Type 0 where
  pub words : All IsLinkNumber bits
  pub claimed : length bits ≤ size
  pub few : size ≤ word_limit
  pub room : size ≤ capacity

-- the number of a claimed word
abbrev pub claimed_word : WordTable → ℕ → Option ℕ
claimed_word t i = if nat_lt i t.claimed then Some (bits_of (place_at empty_word t.words i)) else None

-- the node that a claimed word names as the source
abbrev pub source_at : WordTable → ℕ → Option ℕ
source_at t i = if nat_lt i t.claimed then (place_at empty_word t.words i).source else None

-- whether a word is left to claim
abbrev pub has_unclaimed : WordTable → Bool
has_unclaimed t = nat_lt t.claimed (length t.words)

-- the table with a word more claimed
abbrev pub claim_one : WordTable → WordTable
claim_one t = record t { claimed = t.claimed + 1 }

-- the table with another word of this number
abbrev pub put_word : WordTable → ℕ → Word → WordTable
put_word t i x = record t { words = put_place empty_word t.words i x }

-- the table with so many empty words more
abbrev pub with_more : WordTable → ℕ → WordTable
with_more t count = record t { words = t.words ++ replicate count empty_word }

-- whether an act claims a word
unfoldable pub is_claim : RouterAct → Bool
is_claim Claim = true
is_claim other = false

-- what an act on the word of a link is answered, the source being given with which a lock is taken, and the link being given by its word
-- and the side; without such a word nothing
unfoldable pub side_answer : WordTable → Option ℕ → RouterAct → Option (ℕ × Side) → Answer
side_answer t source act None = answers.Plain
side_answer t source act (Some l) = word_answer (place_at empty_word t.words l.0) l.1 source act

-- the table after an act on the word of a link
unfoldable pub side_after : WordTable → Option ℕ → RouterAct → Option (ℕ × Side) → WordTable
side_after t source act None = t
side_after t source act (Some l) = put_word t l.0 (word_after (place_at empty_word t.words l.0) l.1 source act)

-- what an act of a router is answered by the table
abbrev pub table_answer : WordTable → Option ℕ → RouterAct → Option (ℕ × Side) → Answer
table_answer t source act link =
    if is_claim act then (if has_unclaimed t then answers.Claimed t.claimed else answers.NoWord) else side_answer t source act link

-- the table after an act of a router
abbrev pub table_after : WordTable → Option ℕ → RouterAct → Option (ℕ × Side) → WordTable
table_after t source act link = if is_claim act then (if has_unclaimed t then claim_one t else t) else side_after t source act link

-- the link words of a world
abbrev pub table_of : World → WordTable
table_of w = record { words = w.words; claimed = w.claimed }
