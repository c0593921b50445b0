-- The making of one terminal as an update of its node and of the mailbox in whose message its descriptor came.
use Rattle.ipcz_world.proofs.Vocabulary.{Weight, in_router, Side, LinkId, Descriptor, Item, Message, opposite_end, total, total_below, total_list}
use Rattle.ipcz_world.proofs.Vocabulary.{Router, from_descriptor, Node, outbox, World, Key, node_at, mail_at, way, router_at, messages_in, set_node}
use Rattle.ipcz_world.proofs.Vocabulary.{set_mail, set_router, hand_message, Books, Records, add_router}
use Rattle.ipcz_world.specs.Places.{in_node as in_node'}
use Rattle.std.specs.Prelude.{◌≡◌, ◌≢◌, ◌<◌, ◌+◌, ◌*◌, ℕ, Bool, true, false, cond, nat_eq, Option, Some, None, is_some, refl, List, [], ◌∷◌}
use Rattle.std.specs.Prelude.{◌++◌}
use Rattle.std.specs.Ordering.{nat_cmp}
use Rattle.std.specs.Cmp.{nat_cmp_total}
use Rattle.std.specs.FinMap.{get, insert, nat_cmp-IsAntisymmetric}
use Rattle.std.proofs.Common.{arith, ap, subst, ◌∙◌, sym}
use Rattle.std.proofs.lemmas.Bool.Decides.{nat_tests}
use Rattle.ipcz_base.specs.declared.message.Message.TheVariants as messages
use Rattle.ipcz_base.proofs.Totals.{total-insert_new, total-empty}
use Rattle.ipcz_world.specs.declared.mail.Mail.TheVariants as mails
use Rattle.ipcz_world.proofs.frames.Frames.{frames, router-set_router, node-set_node, word-set_node, mail-set_node, claimed-set_node}
use Rattle.ipcz_world.proofs.frames.Frames.{size-set_node, count-set_node, node-set_mail, word-set_mail, mail-set_mail, claimed-set_mail}
use Rattle.ipcz_world.proofs.frames.Frames.{size-set_mail, count-set_mail}
use Rattle.ipcz_world.proofs.frames.OfRecords.{in_message, in_node}
use Rattle.ipcz_world.proofs.frames.Touching.{HasSameEnds, Hands}
use Rattle.ipcz_world.proofs.frames.Changing.{IsNodeChanged, same_routers, flow_is, in_mail-hand, way_apart}
use Rattle.ipcz_world.proofs.frames.Flowing.{IsRewritten}
use Rattle.ipcz_world.proofs.frames.Weighing.{in_nodes-changed, in_router-is}
use Rattle.ipcz_world.proofs.frames.Opened.{OpenInv}
use Rattle.ipcz_world.proofs.acts.MaterializingAround.{made_key_records, IsMade, IsMaterial}
use Rattle.ipcz_world.proofs.acts.Materializing.{inv-made}

-- the world after the making of one terminal, with what is left of the message in hand
abbrev pub make_act : World → ℕ → ℕ → Descriptor → Message → World
make_act w a n d m = set_mail (set_node w n (add_router (node_at w n) (from_descriptor d a))) (way w a n) (mails.Hand m)

in_node-added : (f : Weight) (g : Records) (n x : Node) (s : ℕ) (y : Router) → get n.routers s ≡ None → x.routers ≡ insert n.routers s y →
    x.strays ≡ n.strays → in_node f g x ≡ in_node f g n + in_router f y
unfolding in_node'
in_node-added f g n x s y none routers strays =
    omega (
      arith,
      total-insert_new nat_cmp nat_cmp_total nat_cmp-IsAntisymmetric (λ serial r. in_router f r) n.routers s y none,
      ap (total (λ serial r. in_router f r)) routers,
      ap (total_list (in_message f g)) strays,
    )

in_router-made : (f : Weight) (d : Descriptor) (a : ℕ) → in_router f (from_descriptor d a) ≡ 0
in_router-made f d a = omega (
  arith,
  in_router-is f (from_descriptor d a),
  total-empty nat_cmp (f d.end),
  total-empty nat_cmp (f (opposite_end d.end)),
)

missing : (w : World) (k : Key) → router_at w k ≡ None → get (node_at w k.node).routers k.serial ≡ None
unfolding router_at
missing w k h = h

hand_message-hand : (m : Message) → is_some (hand_message (mails.Hand m)) ≡ true
unfolding hand_message
hand_message-hand m = refl

module _ (w : World) (b : Books) (g : Records) (a : ℕ) (q p : Key) (d : Descriptor) (law : OpenInv w b g) (is : IsMaterial w g a q p d)
    (l : LinkId) (s : Side) (n : ℕ) (item : Item) (moves : List Descriptor)
    (in_hand : mail_at w (way w a q.node) ≡ mails.Hand (messages.Item l s n item (d ∷ moves))) where
  abbrev m0 : Message
  m0 = messages.Item l s n item (d ∷ moves)

  abbrev m1 : Message
  m1 = messages.Item l s n item moves

  abbrev x : Node
  x = add_router (node_at w q.node) (from_descriptor d a)

  abbrev v : World
  v = make_act w a q.node d m1

  changed : IsNodeChanged w v q.node x
  changed = record {
    node = λ j. node-set_mail (set_node w q.node x) (way w a q.node) (mails.Hand m1) j ∙ node-set_node w q.node x j;
    word = λ i. word-set_mail (set_node w q.node x) (way w a q.node) (mails.Hand m1) i ∙ word-set_node w q.node x i;
    claimed = claimed-set_mail (set_node w q.node x) (way w a q.node) (mails.Hand m1) ∙ claimed-set_node w q.node x;
    size = size-set_mail (set_node w q.node x) (way w a q.node) (mails.Hand m1) ∙ size-set_node w q.node x;
    count = count-set_mail (set_node w q.node x) (way w a q.node) (mails.Hand m1) ∙ count-set_node w q.node x;
  }

  mail : (i : ℕ) → mail_at v i ≡ cond (nat_eq i (way w a q.node)) (mails.Hand m1) (mail_at w i)
  mail i = mail-set_mail (set_node w q.node x) (way w a q.node) (mails.Hand m1) i ∙ ap
      (λ z. cond (nat_eq i (way w a q.node)) (mails.Hand m1) z) (mail-set_node w q.node x i)

  made : IsMade w v q (from_descriptor d a)
  made = record {
    router = λ k. same_routers (set_router w q (from_descriptor d a)) v k (routers k (nat_eq k.node q.node) refl) ∙ router-set_router w q
        (from_descriptor d a) k;
    word = changed.word;
    claimed = changed.claimed;
    size = changed.size;
    count = changed.count;
    node = λ j. grind (arith, changed.node j, nat_tests);
    nodes = λ j. grind (arith, changed.node j, nat_tests);
    opening = λ j. grind (arith, changed.node j, nat_tests);
    next_router = λ j. counted (nat_eq j q.node) j refl;
    next_peripheral = λ j. grind (arith, changed.node j, nat_tests);
    strays = λ j. grind (arith, changed.node j, nat_tests);
  }
    where
      routers : (k : Key) (c : Bool) → nat_eq k.node q.node ≡ c →
          (node_at v k.node).routers ≡ (node_at (set_router w q (from_descriptor d a)) k.node).routers
      routers k true c = let e : k.node ≡ q.node = grind (arith, c, nat_tests) in grind (arith, frames, changed.node k.node, c, is.serial)
      routers k false c = grind (arith, frames, changed.node k.node, c)

      counted : (c : Bool) (j : ℕ) → nat_eq j q.node ≡ c → (node_at v j).next_router ≡ cond (nat_eq j q.node)
          ((node_at w j).next_router + 1) ((node_at w j).next_router)
      counted true j c = let e : j ≡ q.node = grind (arith, c, nat_tests) in grind (arith, changed.node j, c, e)
      counted false j c = grind (arith, changed.node j, c)

  box : (from to : ℕ) → outbox (node_at v from) to ≡ outbox (node_at w from) to
  box from to = grind (arith, changed.node from, nat_tests)

  rewritten : IsRewritten w v a q.node [] (outbox (node_at w a) q.node) m0 m1
  rewritten = record {
    count = changed.count;
    sender = is.under_way.sender;
    receiver = is.under_way.receiver;
    was = flow_is w a q.node ∙ ap (λ z. messages_in z ++ outbox (node_at w a) q.node) in_hand ∙ ap (λ f. f ++ outbox (node_at w a) q.node)
        (in_mail-hand m0);
    here = flow_is v a q.node ∙ ap (λ f. messages_in (mail_at v (way v a q.node)) ++ f) (box a q.node) ∙ ap
        (λ z. messages_in z ++ outbox (node_at w a) q.node) new_mail ∙ ap (λ f. f ++ outbox (node_at w a) q.node) (in_mail-hand m1);
    apart = λ from to lf lt e. flow_is v from to ∙ grind (
      arith,
      changed.count,
      mail (way w from to),
      box from to,
      way_apart w.count from to a q.node lt is.under_way.receiver e,
    ) ∙ sym (flow_is w from to);
  }
    where
      new_mail : mail_at v (way v a q.node) ≡ mails.Hand m1
      new_mail = grind (arith, changed.count, mail (way w a q.node), nat_tests)

  ends : HasSameEnds w v
  ends = record {
    count = changed.count;
    held = λ j. grind (arith, changed.node j, nat_tests);
    pending =
        λ j. grind (arith, changed.node j, nat_tests);
  }

  hand_same : (j : ℕ) → (node_at v j).hand ≡ (node_at w j).hand
  hand_same j = grind (arith, changed.node j, nat_tests)

  message_same : (i : ℕ) → is_some (hand_message (mail_at v i)) ≡ is_some (hand_message (mail_at w i))
  message_same i = go (nat_eq i (way w a q.node)) refl
    where
      go : (c : Bool) → nat_eq i (way w a q.node) ≡ c → is_some (hand_message (mail_at v i)) ≡ is_some (hand_message (mail_at w i))
      go true c = let e : i ≡ way w a q.node = grind (arith, c, nat_tests) in
          ap (λ z. is_some (hand_message z)) (grind (arith, mail i, c)) ∙ hand_message-hand m1 ∙ sym
          (ap (λ i. is_some (hand_message (mail_at w i))) e ∙ ap (λ z. is_some (hand_message z)) in_hand ∙ hand_message-hand m0)
      go false c = ap (λ z. is_some (hand_message z)) (grind (arith, mail i, c))

  hands : Hands v
  hands = record {
    hand = λ j f h e. message_same (way v f j) ∙ ap (λ c. is_some (hand_message (mail_at w (f * c + j)))) changed.count ∙ law.counts.hand j
        f (subst (λ c. j < c) changed.count h) (sym (hand_same j) ∙ e);
    hand_from = λ j f h e. subst (λ c. f < c) (sym changed.count)
        (law.counts.hand_from j f (subst (λ c. j < c) changed.count h) (sym (hand_same j) ∙ e));
    in_hand = λ j f h k e. hand_same j ∙ law.counts.in_hand j f (subst (λ c. j < c) changed.count h) (subst (λ c. f < c) changed.count k)
        (sym (message_same (way v f j) ∙ ap (λ c. is_some (hand_message (mail_at w (f * c + j)))) changed.count) ∙ e);
  }

  absent : router_at w q ≡ None
  absent = go (router_at w q) refl
    where
      go : (o : Option Router) → router_at w q ≡ o → router_at w q ≡ None
      go None e = e
      go (Some z) e = let low = law.counts.serial q z e in absurd (omega (arith, low, is.serial))

  nodes : (f : Weight) → total_below v.count (λ j. in_node f (made_key_records g p q d.end) (node_at v j)) ≡ total_below w.count
      (λ j. in_node f (made_key_records g p q d.end) (node_at w j))
  nodes f = omega (
    arith,
    in_nodes-changed f (made_key_records g p q d.end) w v q.node x changed is.under_way.receiver,
    in_node-added f (made_key_records g p q d.end) (node_at w q.node) x q.serial (from_descriptor d a) (missing w q absent)
        (ap (λ z. insert (node_at w q.node).routers z (from_descriptor d a)) (sym is.serial)) refl,
    in_router-made f d a,
  )

  -- the making of one terminal keeps all but that the item has a descriptor for each end
  pub inv-make : a ≢ q.node → OpenInv v b (made_key_records g p q d.end)
  inv-make away = inv-made w v b g a q p d law is made l s n item moves [] (outbox (node_at w a) q.node) rewritten away ends nodes hands
