-- Small facts that moving an end rests on: of descriptors, of lists of ends, and of what messages weigh.
use Rattle.ipcz_world.proofs.Vocabulary.{Weight, Side, A, B, End, Descriptor, Item, Message, same_side, is_central, same_end, opposite_end, item_at}
use Rattle.ipcz_world.proofs.Vocabulary.{Router, World, Key, router_at, set_router, Node, Records, inner_link, terminal_descriptor, IsUnderWay}
use Rattle.ipcz_world.proofs.Vocabulary.{total_list, moving_link, Moving, key_at}
use Rattle.ipcz_world.specs.Places.{in_node as in_node'}
use Rattle.std.specs.Prelude.{◌≡◌, ◌≢◌, ◌⊎◌, ◌≤◌, ◌<◌, ◌+◌, ℕ, zero, suc, Bool, true, false, cond, nat_eq, Some, None, refl, List, [], ◌∷◌}
use Rattle.std.specs.Prelude.{◌++◌, length, slice_get}
use Rattle.std.specs.Ordering.{nat_cmp}
use Rattle.std.specs.Cmp.{nat_cmp_total}
use Rattle.std.specs.FinMap.{remove, nat_cmp-IsAntisymmetric}
use Rattle.std.proofs.Common.{arith, ap, inl, inr}
use Rattle.std.proofs.lemmas.Bool.Decides.{nat_tests}
use Rattle.ipcz_world.proofs.frames.OfRecords.{in_message, in_node, in_places}
use Rattle.ipcz_world.proofs.frames.Flowing.{same_way}
use Rattle.ipcz_world.proofs.frames.Weighing.{in_router-is, in_places-set_router, in_places-has, still_under_way}
use Rattle.ipcz_base.proofs.Totals.{total-remove}

pub last_of : (ds : List Descriptor) (d c : Descriptor) (j : ℕ) → slice_get (ds ++ d ∷ []) j ≡ Some c → (slice_get ds j ≡ Some c) ⊎ (c ≡ d)
last_of [] d c zero e = inr (grind (arith, e))
last_of [] d c (suc j) e = cc
last_of (x ∷ ds) d c zero e = inl e
last_of (x ∷ ds) d c (suc j) e = last_of ds d c j e

pub total-append : (f : Descriptor → ℕ) (ds : List Descriptor) (d : Descriptor) → total_list f (ds ++ d ∷ []) ≡ total_list f ds + f d
total-append f [] d = omega arith
total-append f (x ∷ ds) d = omega (arith, total-append f ds d)

pub central-inner : (k : Key) → is_central (inner_link k) ≡ false
unfolding is_central
central-inner k = refl

pub key_at-none : (n : ℕ) → key_at n None ≡ None
key_at-none n = refl

pub moving_link-moving : (d : Descriptor) → moving_link (Moving d) ≡ Some d.link
unfolding terminal_descriptor
moving_link-moving d = refl

pub same_end-turned : (d e : End) → same_end e d ≡ same_end d e
same_end-turned d e = grind (arith, nat_tests, side-turned d.side e.side)
  where
    side-turned : (s t : Side) → same_side t s ≡ same_side s t
    side-turned A A = refl
    side-turned A B = refl
    side-turned B A = refl
    side-turned B B = refl

pub in_middle : (pre post : List Message) (m : Message) → slice_get (pre ++ m ∷ post) (length pre) ≡ Some m
in_middle [] post m = refl
in_middle (x ∷ pre) post m = in_middle pre post m

pub one_or_none : (c : Bool) (n : ℕ) → n ≡ cond c 0 1 → n ≤ 1
one_or_none true n e = omega (arith, e)
one_or_none false n e = omega (arith, e)

pub two_ways : (m a b : ℕ) → a ≢ b → same_way m m a b ≡ false
two_ways m a b ne = go (nat_eq m a) (nat_eq m b) refl refl
  where
    go : (c d : Bool) → nat_eq m a ≡ c → nat_eq m b ≡ d → same_way m m a b ≡ false
    go true true e f = absurd (ne (grind (arith, e, f, nat_tests)))
    go true false e f = grind (arith, e, f)
    go false d e f = grind (arith, e)

pub in_node-same : (f : Weight) (g h : Records) (n : Node) → n.strays ≡ [] → in_node f h n ≡ in_node f g n
unfolding in_node'
in_node-same f g h n e = omega (arith, ap (total_list (in_message f h)) e, ap (total_list (in_message f g)) e)

-- an item in a queue and a message under way weigh together
pub in_two_out : (w : World) (g : Records) (f : Weight) (x : Key) (z : Router) (from to i : ℕ) (m : Message) (n : ℕ) (item : Item) →
    x.node < w.count → router_at w x ≡ Some z → IsUnderWay w from to i m → item_at z.out_queue n ≡ Some item →
    f z.end n item + in_message f g m ≤ in_places f g w
in_two_out w g f x z from to i m n item lt here u at = let y : Router =
    record z { out_queue = record z.out_queue { items = remove z.out_queue.items n } } in
    omega (
      arith,
      in_places-has f g (set_router w x y) from to i m (still_under_way w x y from to i m u),
      in_places-set_router f g w x z y lt here,
      in_router-is f z,
      in_router-is f y,
      total-remove nat_cmp nat_cmp_total nat_cmp-IsAntisymmetric (f z.end) z.out_queue.items n item at,
    )

pub in_two_in : (w : World) (g : Records) (f : Weight) (x : Key) (z : Router) (from to i : ℕ) (m : Message) (n : ℕ) (item : Item) →
    x.node < w.count → router_at w x ≡ Some z → IsUnderWay w from to i m → item_at z.in_queue n ≡ Some item →
    f (opposite_end z.end) n item + in_message f g m ≤ in_places f g w
in_two_in w g f x z from to i m n item lt here u at = let y : Router =
    record z { in_queue = record z.in_queue { items = remove z.in_queue.items n } } in
    omega (
      arith,
      in_places-has f g (set_router w x y) from to i m (still_under_way w x y from to i m u),
      in_places-set_router f g w x z y lt here,
      in_router-is f z,
      in_router-is f y,
      total-remove nat_cmp nat_cmp_total nat_cmp-IsAntisymmetric (f (opposite_end z.end)) z.in_queue.items n item at,
    )
