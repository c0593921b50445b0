-- The table whose link words come back, at the start.
use Rattle.std.specs.Prelude.{◌≡◌, ◌≤◌, ◌+◌, ◌*◌, ℕ, true, false, List, [], ◌∷◌, ◌++◌, length, replicate}
use Rattle.atomic_table.specs.Table.{opening}
use Rattle.ipcz_node.specs.FirstPairs.{first_pairs}
use Rattle.ipcz_world.specs.World.{new_world}
use Rattle.ipcz_world.specs.Books.{no_books}
use Rattle.ipcz_world.specs.Routes.{first_routes}
use Rattle.ipcz_world.specs.Lawful.{IsWithinLimits}
use Rattle.ipcz_rule.specs.Rule.{SingleRuled}
use Rattle.ipcz_rule.specs.Start.{opening_words, opening_view}
use Rattle.ipcz_rule.specs.BatchLaws.{no_batches}
use Rattle.ipcz_rule.specs.Lasting.{LastingRules, own_of}

-- its words, with so many slots beyond those of the first pairs: the first pairs' are open, the others empty; then the claim count, the touch
-- words and the mailboxes; then the let-go words: nobody has let go of the first pairs' links, and the other slots are to be had
abbrev pub lasting_words : ℕ → ℕ → List ℕ
lasting_words count spare =
    replicate (length (first_pairs count)) 3 ++ (replicate spare 0 ++
    ((length (first_pairs count) ∷ replicate (count + count * count) 0) ++ (replicate (length (first_pairs count)) 0 ++ replicate spare 3)))

-- where slots aren't used again there is one for each number, and nobody has let go of any
abbrev pub whole_words : ℕ → ℕ → List ℕ
whole_words count size = opening_words count size ++ replicate size 0

-- a table shows the world at the start
pub record ShowsStart (count limit : ℕ) (p : SingleRuled count limit) : Type 0 where
  pub world : p.1.world ≡ new_world count limit
  pub books : p.1.books ≡ no_books
  pub routes : p.1.routes ≡ first_routes count

-- they keep the rule, and show that world
abbrev pub LastingStarts : Type 0
LastingStarts = (count limit spare : ℕ) → IsWithinLimits count limit → length (first_pairs count) + spare ≤ limit →
    (l : LastingRules count limit (length (first_pairs count) + spare) true
    (opening (lasting_words count spare) (no_batches (count * count)) (own_of (opening_view count) [] [] []))) × ShowsStart count limit (l.1.single, l.1.rules)

abbrev pub WholeStarts : Type 0
WholeStarts = (count size : ℕ) → IsWithinLimits count size →
    (l : LastingRules count size size false (opening (whole_words count size) (no_batches (count * count)) (own_of (opening_view count) [] [] []))) ×
    ShowsStart count size (l.1.single, l.1.rules)

abbrev pub StartLasts : Type 0
StartLasts = LastingStarts × WholeStarts
