-- A world as its parts spell it.
use Rattle.std.specs.Prelude.{ℕ, List, length}
use Rattle.ipcz_word.specs.Word.{Word}
use Rattle.ipcz_node.specs.Node.{Node}
use Rattle.ipcz_world.specs.declared.mail.Mail.{Mail}
use Rattle.ipcz_world.specs.World.{World}

-- the world of these nodes, mailboxes and link words, of which so many are claimed
abbrev pub world_of_parts : List Node → List Mail → List Word → ℕ → World
world_of_parts nodes mail words claimed = record {
  nodes = nodes;
  words = words;
  claimed = claimed;
  size = length words;
  count = length nodes;
  mail = mail;
}
