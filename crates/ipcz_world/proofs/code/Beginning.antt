-- The parts of a world at the start, as the loops that make them see them.
use Rattle.std.specs.Prelude.{◌≡◌, ◌<◌, ◌≤◌, ◌-◌, ◌+◌, ℕ, zero, suc, List, [], ◌∷◌, ◌++◌, map, replicate, refl}
use Rattle.std.proofs.Common.{arith, ap, sym, ◌∙◌, append_assoc, append-nil}
use Rattle.std.proofs.lemmas.List.{map-append, length-replicate}
use Rattle.ipcz_world.proofs.Vocabulary.{Node, empty_word, open_word, numbers_from}
use Rattle.ipcz_node.specs.FirstPairs.{new_node}
use Rattle.ipcz_node.specs.RoomyNodes.{RoomyNode}
use Rattle.ipcz_word.specs.Layout.{word_of_bits}
use Rattle.ipcz_world.specs.Coding.{laid_table}
use Rattle.ipcz_world.specs.World.{new_nodes}
use Rattle.ipcz_world.proofs.code.StatesOfNodes.{nodes_of}
use Rattle.ipcz_world.proofs.code.Tables.{open_number}

-- the nodes from a number on
abbrev pub nodes_left : ℕ → ℕ → List Node
nodes_left count i = new_nodes count (numbers_from i (count - i))

left-some : (count i : ℕ) → i < count → nodes_left count i ≡ new_node i count ∷ nodes_left count (i + 1)
left-some count i below =
    let more : count - i ≡ suc (count - (i + 1)) = omega (arith, below) in
    ap (λ n. new_nodes count (numbers_from i n)) more

left-none : (count i : ℕ) → count ≤ i → nodes_left count i ≡ []
left-none count i past = let none : count - i ≡ 0 = omega (arith, past) in ap (λ n. new_nodes count (numbers_from i n)) none

-- one node more is made
pub made-more : (count i : ℕ) (ks new : List RoomyNode) (k : RoomyNode) → i < count → k.node ≡ new_node i count → new ≡ ks ++ k ∷ [] →
    nodes_of ks ++ nodes_left count i ≡ nodes_left count 0 → nodes_of new ++ nodes_left count (i + 1) ≡ nodes_left count 0
made-more count i ks new k below is more all =
    ap (λ l. nodes_of l ++ nodes_left count (i + 1)) more
    ∙ ap (λ l. l ++ nodes_left count (i + 1)) (map-append (λ (k : RoomyNode). k.node) ks (k ∷ []))
    ∙ append_assoc (nodes_of ks) (k.node ∷ []) (nodes_left count (i + 1))
    ∙ ap (λ x. nodes_of ks ++ x ∷ nodes_left count (i + 1)) is
    ∙ ap (λ l. nodes_of ks ++ l) (sym (left-some count i below))
    ∙ all

-- all nodes are made
pub made-all : (count i : ℕ) (ks : List RoomyNode) → count ≤ i → nodes_of ks ++ nodes_left count i ≡ nodes_left count 0 →
    nodes_of ks ≡ new_nodes count (numbers_from 0 count)
made-all count i ks past all =
    let whole : count - 0 ≡ count = omega arith in
    sym (append-nil (nodes_of ks))
    ∙ ap (λ l. nodes_of ks ++ l) (sym (left-none count i past))
    ∙ all
    ∙ ap (λ n. new_nodes count (numbers_from 0 n)) whole

map-replicate : {X Y : Type 0} (f : X → Y) (n : ℕ) (x : X) → map f (replicate n x) ≡ replicate n (f x)
map-replicate f zero x = refl
map-replicate f (suc n) x = ap (λ l. f x ∷ l) (map-replicate f n x)

-- the numbers of the first pairs' words make the words at the start
pub first_words : (pairs words : ℕ) (bits : List ℕ) → bits ≡ replicate pairs 3 →
    (laid_table bits words).words ≡ replicate pairs open_word ++ replicate (words - pairs) empty_word
first_words pairs words bits is =
    ap (λ ns. (laid_table ns words).words) is
    ∙ ap (λ k. map word_of_bits (replicate pairs 3) ++ replicate (words - k) empty_word) (length-replicate {A = ℕ} pairs 3)
    ∙ ap (λ xs. xs ++ replicate (words - pairs) empty_word) (map-replicate word_of_bits pairs 3 ∙ ap (replicate pairs) open_number)
