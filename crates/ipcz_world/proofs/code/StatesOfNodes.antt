-- Nodes with their room, read and written, as the nodes that they are, and worlds with the room of their nodes.
use Rattle.std.specs.Prelude.{◌≡◌, ◌<◌, ℕ, List, length, map}
use Rattle.std.proofs.Common.{arith, ap, sym, subst, get_or, set, ◌∙◌}
use Rattle.std.proofs.lemmas.List.{get_or-map, map-set, length-map}
use Rattle.ipcz_world.proofs.Vocabulary.{place_at, put_place, Node}
use Rattle.ipcz_node.specs.RoomyNodes.{RoomyNode}
use Rattle.ipcz_world.specs.RoomyWorlds.{RoomyWorld}
use Rattle.ipcz_world.proofs.code.Slots.{get-place, set-place}

-- the nodes without their room
abbrev pub nodes_of : List RoomyNode → List Node
nodes_of ks = map (λ k. k.node) ks

-- there are as many
pub as_many : (ks : List RoomyNode) (xs : List Node) (n : ℕ) → nodes_of ks ≡ xs → n < length xs → n < length ks
as_many ks xs n e l = let h : n < length (nodes_of ks) = subst (λ ys. n < length ys) (sym e) l in
    omega (arith, h, length-map ks (λ (k : RoomyNode). k.node))

-- a part of a node that is read
pub part_read : {X : Type 0} (f : RoomyNode → X) (d : X) (ks : List RoomyNode) (n : ℕ) (k : RoomyNode) → n < length ks → k ≡ get_or ks n k →
    f k ≡ place_at d (map f ks) n
part_read f d ks n k l e =
    ap f e ∙ sym (get_or-map f ks n k d l) ∙ get-place d d (map f ks) n (omega (arith, l, length-map ks f))

-- a part of a node that is written
pub part_written : {X : Type 0} (f : RoomyNode → X) (d : X) (ks : List RoomyNode) (n : ℕ) (k : RoomyNode) → n < length ks →
    map f (set ks n k) ≡ put_place d (map f ks) n (f k)
part_written f d ks n k l = map-set f ks n k ∙ set-place d (map f ks) n (f k) (omega (arith, l, length-map ks f))

-- what is the same with the room of its nodes is the same world
pub world_is : {s t : RoomyWorld} → s ≡ t → s.world ≡ t.world
world_is same = ap (λ (s : RoomyWorld). s.world) same
