-- The move of one end as an update of its node: the terminal's router, the count of links, and the last message that waits for the other
-- node.
use Rattle.std.specs.Prelude.{◌≡◌, ◌≢◌, ◌+◌, ℕ, Bool, true, false, cond, nat_eq, refl, List, [], ◌∷◌, ◌++◌}
use Rattle.std.proofs.Common.{arith, ap, ◌∙◌, sym}
use Rattle.std.proofs.lemmas.Bool.Decides.{nat_tests}
use Rattle.ipcz_world.proofs.Vocabulary.{Side, LinkId, Descriptor, Item, Message, has_end, put_place, Router, Node, outbox, with_router, ends_in}
use Rattle.ipcz_world.proofs.Vocabulary.{World, Key, node_at, mail_at, way, messages_in, set_node, set_router, Books, Records, inner_link, Weight}
use Rattle.ipcz_world.proofs.Vocabulary.{total_below, descriptor_of}
use Rattle.ipcz_base.specs.declared.message.Message.TheVariants as messages
use Rattle.ipcz_base.proofs.Indexed.{place_at-put_place}
use Rattle.ipcz_world.proofs.frames.Frames.{frames, router-set_router, node-set_node, word-set_node, mail-set_node, claimed-set_node}
use Rattle.ipcz_world.proofs.frames.Frames.{size-set_node, count-set_node}
use Rattle.ipcz_world.proofs.frames.OfRecords.{in_node}
use Rattle.ipcz_world.proofs.frames.Touching.{HasSameHands, HasSameEnds, hands-same}
use Rattle.ipcz_world.proofs.frames.Changing.{IsNodeChanged, same_routers, flow_is, append-assoc}
use Rattle.ipcz_world.proofs.frames.Flowing.{IsRewritten, same_way}
use Rattle.ipcz_world.proofs.frames.Weighing.{in_nodes-changed, in_node-changed, in_router-is}
use Rattle.ipcz_world.proofs.frames.Calling.{router_here}
use Rattle.ipcz_world.proofs.frames.Opened.{OpenInv}
use Rattle.ipcz_world.proofs.acts.ExtendingAround.{next_key, extended, extended_records, IsGrown, IsExtend}
use Rattle.ipcz_world.proofs.acts.Extending.{inv-extended}

-- the node after the move
abbrev pub extended_node : World → Key → Router → ℕ → List Message → Node
extended_node w q r a box = record (with_router (node_at w q.node) q.serial (extended w q r a))
    { next_peripheral = (node_at w q.node).next_peripheral + 1; outboxes = put_place [] (node_at w q.node).outboxes a box }

-- the world after it
abbrev pub extend_act : World → Key → Router → ℕ → List Message → World
extend_act w q r a box = set_node w q.node (extended_node w q r a box)

module _ (w : World) (b : Books) (g : Records) (q : Key) (r : Router) (a : ℕ) (law : OpenInv w b g) (is : IsExtend w q r a) (l : LinkId)
    (s : Side) (n : ℕ) (item : Item) (moves : List Descriptor) (front : List Message)
    (box : outbox (node_at w q.node) a ≡ front ++ messages.Item l s n item moves ∷ []) where
  abbrev m0 : Message
  m0 = messages.Item l s n item moves

  abbrev m1 : Message
  m1 = messages.Item l s n item (moves ++ descriptor_of r (inner_link (next_key w q.node)) ∷ [])

  abbrev x : Node
  x = extended_node w q r a (front ++ m1 ∷ [])

  abbrev v : World
  v = extend_act w q r a (front ++ m1 ∷ [])

  changed : IsNodeChanged w v q.node x
  changed = record {
    node = λ j. node-set_node w q.node x j;
    word = λ i. word-set_node w q.node x i;
    claimed = claimed-set_node w q.node x;
    size = size-set_node w q.node x;
    count = count-set_node w q.node x;
  }

  grown : IsGrown w v q (extended w q r a)
  grown = record {
    router = λ k. same_routers (set_router w q (extended w q r a)) v k (grind (arith, frames, changed.node k.node, nat_tests)) ∙
        router-set_router w q (extended w q r a) k;
    word = changed.word;
    claimed = changed.claimed;
    size = changed.size;
    count = changed.count;
    node = λ j. grind (arith, changed.node j, nat_tests);
    nodes = λ j. grind (arith, changed.node j, nat_tests);
    opening = λ j. grind (arith, changed.node j, nat_tests);
    next_router = λ j. grind (arith, changed.node j, nat_tests);
    next_peripheral = λ j. counted (nat_eq j q.node) j refl;
    strays = λ j. grind (arith, changed.node j, nat_tests);
  }
    where
      counted : (c : Bool) (j : ℕ) → nat_eq j q.node ≡ c → (node_at v j).next_peripheral ≡ cond (nat_eq j q.node)
          ((node_at w j).next_peripheral + 1) ((node_at w j).next_peripheral)
      counted true j c = let e : j ≡ q.node = grind (arith, c, nat_tests) in grind (arith, changed.node j, c, e)
      counted false j c = grind (arith, changed.node j, c)

  rewritten : IsRewritten w v q.node a (messages_in (mail_at w (way w q.node a)) ++ front) [] m0 m1
  rewritten = record {
    count = changed.count;
    sender = law.counts.on_node q r is.here;
    receiver = is.receiver;
    was = flow_is w q.node a ∙ ap (λ o. messages_in (mail_at w (way w q.node a)) ++ o) box ∙ append-assoc
        (messages_in (mail_at w (way w q.node a))) front (m0 ∷ []);
    here = flow_is v q.node a ∙ grind (arith, changed.count, mail-set_node w q.node x (way w q.node a), boxed q.node a, nat_tests) ∙
        append-assoc (messages_in (mail_at w (way w q.node a))) front (m1 ∷ []);
    apart = λ from to lf lt e. flow_is v from to ∙ grind (arith, changed.count, mail-set_node w q.node x (way w from to), boxed from to, e)
        ∙ sym (flow_is w from to);
  }
    where
      boxed : (from to : ℕ) → outbox (node_at v from) to ≡ cond (same_way from to q.node a) (front ++ m1 ∷ []) (outbox (node_at w from) to)
      boxed from to = grind (arith, changed.node from, place_at-put_place [] (node_at w q.node).outboxes a (front ++ m1 ∷ []) to, nat_tests)

  ends : HasSameEnds w v
  ends = record {
    count = changed.count;
    held = λ j. grind (arith, changed.node j, nat_tests);
    pending =
        λ j. grind (arith, changed.node j, nat_tests);
  }

  hands : HasSameHands w v
  hands = record { hand = λ j. grind (arith, changed.node j, nat_tests); mail = λ i. mail-set_node w q.node x i }

  nodes : (f : Weight) → total_below v.count (λ j. in_node f (extended_records w g q r a) (node_at v j)) ≡ total_below w.count
      (λ j. in_node f (extended_records w g q r a) (node_at w j))
  nodes f = omega (
    arith,
    in_nodes-changed f (extended_records w g q r a) w v q.node x changed (law.counts.on_node q r is.here),
    in_node-changed f (extended_records w g q r a) (node_at w q.node) x q.serial r (extended w q r a) (router_here w q r is.here) refl refl,
    in_router-is f r,
    in_router-is f (extended w q r a),
  )

  -- the move of one end keeps all but that the item has a descriptor for each end
  pub inv-extend : q.node ≢ a → has_end r.end (ends_in item) ≡ true → OpenInv v b (extended_records w g q r a)
  inv-extend away named = inv-extended w v b g q r a law is grown l s n item moves (messages_in (mail_at w (way w q.node a)) ++ front) []
      rewritten away named ends nodes (hands-same w v g law.counts changed.count hands)
