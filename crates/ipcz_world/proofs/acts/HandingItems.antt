-- A node that handles an item makes the terminals of its descriptors and gives the item to the router that it is for: all that holds is
-- kept.
use Rattle.ipcz_world.proofs.frames.Opened.{links-open}
use Rattle.ipcz_world.proofs.Vocabulary.{Side, End, LinkId, Central, Peripheral, Descriptor, Item, Message, same_end, has_end, is_central, put_place}
use Rattle.ipcz_world.proofs.Vocabulary.{Router, from_descriptor, Hand, Node, bare_node, with_router, World, Key, node_at, mail_at, way, router_at}
use Rattle.ipcz_world.proofs.Vocabulary.{set_node, set_mail, after_act, hand_message, Books, Records, inner_link, terminal_node, IsUnderWay}
use Rattle.ipcz_world.proofs.Vocabulary.{is_outward, Inv, source_for, accept, on_found, add_router, make_terminals, handle, deliver, is_hand_of, Mail}
use Rattle.ipcz_world.proofs.Vocabulary.{after_hand}
use Rattle.std.specs.Prelude.{◌≡◌, ◌≢◌, ◌<◌, ◌+◌, ◌*◌, ℕ, suc, Bool, true, false, cond, ◌||◌, nat_eq, if◌then◌else◌, Some, None, refl, List}
use Rattle.std.specs.Prelude.{[], ◌∷◌, map, slice_get}
use Rattle.std.specs.FinMap.{get}
use Rattle.std.proofs.Common.{arith, ap, subst, ◌∙◌, sym, inl, inr}
use Rattle.ipcz_base.specs.declared.message.Message.TheVariants as messages
use Rattle.ipcz_node.specs.Hands.{free_hand}
use Rattle.ipcz_world.specs.declared.mail.Mail.TheVariants as mails
use Rattle.ipcz_world.proofs.frames.Frames.{node-set_node, word-set_node, mail-set_node, claimed-set_node, size-set_node, count-set_node}
use Rattle.ipcz_world.proofs.frames.Frames.{node-set_mail, word-set_mail, mail-set_mail, claimed-set_mail, size-set_mail, count-set_mail}
use Rattle.ipcz_world.proofs.facts.RecordsAfter.{made_at, made_records}
use Rattle.ipcz_world.proofs.frames.Changing.{IsNodeChanged, taken_by}
use Rattle.ipcz_world.proofs.frames.Flowing.{IsTaken, way_tells}
use Rattle.ipcz_world.proofs.frames.Opened.{OpenInv, HasEnds, opened, closed}
use Rattle.ipcz_world.proofs.acts.Sending.{moves-item}
use Rattle.ipcz_world.proofs.acts.Taking.{take_act, IsTake, inv-taken, closed-taken}
use Rattle.ipcz_world.proofs.acts.MaterializingAround.{made_key_records, IsMaterial}
use Rattle.ipcz_world.proofs.acts.MaterializingNodes.{inv-make}
use Rattle.ipcz_world.proofs.acts.MakingEnds.{handed_world, inv-makes}
use Rattle.ipcz_world.proofs.acts.MadeNodes.{made_hand, made_boxes, made_router, made_with}
use Rattle.ipcz_world.proofs.acts.ItemAsked.{IsAsked, asked, under, its_ends, found, outward, item-fits}
use Rattle.ipcz_world.proofs.facts.Lengths.{has_attached}
use Rattle.ipcz_world.proofs.facts.Tests.{nat_eq-itself}
use Rattle.ipcz_world.proofs.acts.Updating.{put-twice}
use Rattle.ipcz_world.proofs.frames.Having.{has_at}

-- the node after the hand: its new terminals, and the router with the item
abbrev pub taken_node : World → ℕ → ℕ → ℕ → Router → List Descriptor → Node
taken_node w from n serial y moves = record (with_router (make_terminals (node_at w n) from moves) serial y) { hand = None }

-- the world after it
abbrev pub item_act : World → ℕ → ℕ → ℕ → Router → List Descriptor → World
item_act w from n serial y moves = set_mail (set_node w n (taken_node w from n serial y moves)) (way w from n) mails.Empty

-- a node and a mailbox that are written twice are written once
both_twice : (w : World) (n i j : ℕ) (x y : Node) (a c : Mail) → j ≡ i →
    set_mail (set_node (set_mail (set_node w n x) i a) n y) j c ≡ set_mail (set_node w n y) i c
unfolding set_mail set_node
both_twice w n i j x y a c e =
    ap (λ t. record w {
      nodes = put_place (bare_node 0 0) (put_place (bare_node 0 0) w.nodes n x) n y;
      mail =
          put_place mails.Empty (put_place mails.Empty w.mail i a) t c;
    }) e ∙
    ap (λ ns. record w { nodes = ns; mail = put_place mails.Empty (put_place mails.Empty w.mail i a) i c })
    (put-twice (bare_node 0 0) w.nodes n x y) ∙ ap (λ ms. record w { nodes = put_place (bare_node 0 0) w.nodes n y; mail = ms })
    (put-twice mails.Empty w.mail i a c)

made_is : (g : Records) (n serial : ℕ) (e : End) (p : Key) → made_at g n serial e (inner_link p) ≡ made_key_records g p
    (record { node = n; serial = serial }) e
unfolding made_at
made_is g n serial e p = refl

peripheral_is : (m : LinkId) → is_central m ≡ false → (p : Key) × (m ≡ inner_link p)
unfolding is_central
peripheral_is (Central i) e = cc
peripheral_is (Peripheral i j) e = (record { node = i; serial = j }, refl)

-- the ends of the descriptors have their terminals at the node
at_keeps : (g : Records) (n serial : ℕ) (x e : End) (link : LinkId) → terminal_node (g.terminal e) ≡ Some n →
    terminal_node ((made_at g n serial x link).terminal e) ≡ Some n
unfolding made_at terminal_node
at_keeps g n serial x e (Central i) h = h
at_keeps g n serial x e (Peripheral m y) h = go (same_end e x) refl
  where
    go : (c : Bool) → same_end e x ≡ c → terminal_node ((made_at g n serial x (Peripheral m y)).terminal e) ≡ Some n
    go true c = grind (arith, c)
    go false c = grind (arith, c, h)

at_gets : (g : Records) (n serial : ℕ) (x e : End) (link : LinkId) → is_central link ≡ false → same_end e x ≡ true →
    terminal_node ((made_at g n serial x link).terminal e) ≡ Some n
unfolding made_at terminal_node is_central
at_gets g n serial x e (Central i) h c = cc
at_gets g n serial x e (Peripheral m y) h c = grind (arith, c)

made_keeps : (g : Records) (n serial : ℕ) (e : End) (ds : List Descriptor) → terminal_node (g.terminal e) ≡ Some n →
    terminal_node ((made_records g n serial ds).terminal e) ≡ Some n
made_keeps g n serial e [] h = h
made_keeps g n serial e (d ∷ ds) h = made_keeps (made_at g n serial d.end d.link) n (serial + 1) e ds (at_keeps g n serial d.end e d.link h)

turned : (d e : End) → same_end d e ≡ true → same_end e d ≡ true
turned d e h = grind (arith, h)

made_gets : (g : Records) (n serial : ℕ) (e : End) (ds : List Descriptor) →
    ((j : ℕ) (d : Descriptor) → slice_get ds j ≡ Some d → is_central d.link ≡ false) → has_end e (map (λ d. d.end) ds) ≡ true →
    terminal_node ((made_records g n serial ds).terminal e) ≡ Some n
made_gets g n serial e [] inner h = cc
made_gets g n serial e (d ∷ ds) inner h = go (same_end d.end e) refl h
    (λ f. made_gets (made_at g n serial d.end d.link) n (serial + 1) e ds (λ j. inner (suc j)) f)
  where
    go : (c : Bool) → same_end d.end e ≡ c → (c || has_end e (map (λ d. d.end) ds)) ≡ true →
        (has_end e (map (λ d. d.end) ds) ≡ true → terminal_node ((made_records g n serial (d ∷ ds)).terminal e) ≡ Some n) →
        terminal_node ((made_records g n serial (d ∷ ds)).terminal e) ≡ Some n
    go true c f more = made_keeps (made_at g n serial d.end d.link) n (serial + 1) e ds
        (at_gets g n serial d.end e d.link (inner 0 d refl) (turned d.end e c))
    go false c f more = more f

-- what is under way after the first message of a way was taken was under way before
was_under_way : (w v : World) (a c : ℕ) (m : Message) → IsTaken w v a c m → (from to i : ℕ) (x : Message) → IsUnderWay v from to i x →
    (j : ℕ) × IsUnderWay w from to j x
was_under_way w v a c m p from to i x u = elim (way_tells from to a c) [
  | inl e ↦ (
    suc i,
    record {
      sender = grind (arith, u.sender, p.count);
      receiver = grind (arith, u.receiver, p.count);
      place =
          grind (arith, e, p.here, u.place);
    },
  )
  | inr e ↦ let same = p.apart from to (grind (arith, u.sender, p.count)) (grind (arith, u.receiver, p.count)) e in (
    i,
    record {
      sender = grind (arith, u.sender, p.count);
      receiver = grind (arith, u.receiver, p.count);
      place =
          ap (λ ms. slice_get ms i) (sym same) ∙ u.place;
    },
  )
]

freed : (x : Node) (from : ℕ) → x.hand ≡ Some from → free_hand x from ≡ record x { hand = None }
unfolding is_hand_of
freed x from h = ap (λ o. record x { hand = if is_hand_of o from then None else o }) h ∙ ap
    (λ c. record x { hand = if c then None else Some from }) (nat_eq-itself from)

module _ (w : World) (b : Books) (g : Records) (from n : ℕ) (l : LinkId) (s : Side) (number : ℕ) (item : Item) (moves : List Descriptor)
    (law : Inv w b g) (below : n < w.count) (hand : (node_at w n).hand ≡ Some from)
    (mail : mail_at w (way w from n) ≡ mails.Hand (messages.Item l s number item moves)) where
  abbrev a : IsAsked w g n l s
  a = asked w b g from n l s number item moves law below hand mail

  abbrev k : Key
  k = record { node = n; serial = a.serial }

  abbrev y : Router
  y = accept a.router (is_outward l s) number item

  abbrev m : Message
  m = messages.Item l s number item moves

  abbrev v : World
  v = item_act w from n a.serial y moves

  low : a.serial < (node_at w n).next_router
  low = law.counts.serial k a.router a.here

  delivered : deliver (node_at w n) from m (source_for w m) ≡ taken_node w from n a.serial y moves
  unfolding deliver handle on_found
  delivered =
      rw (
        item-fits w b g from n l s number item moves law below hand mail,
        found w b g from n l s number item moves law below hand mail,
        outward w b g from n l s number item moves law below hand mail,
      ) refl ∙
      ap (λ x. free_hand x from) (made_with (node_at w n) from moves a.serial y low) ∙ freed
      (with_router (make_terminals (node_at w n) from moves) a.serial y) from (made_hand (node_at w n) from moves ∙ hand)

  -- the node's hand is this update
  pub acted-item : after_act w n (Hand from) ≡ v
  unfolding after_act after_hand hand_message
  acted-item = rw mail (ap (λ x. set_mail (set_node w n x) (way w from n) mails.Empty) delivered)

  abbrev x : Node
  x = taken_node w from n a.serial y moves

  changed : IsNodeChanged w v n x
  changed = record {
    node = λ j. node-set_mail (set_node w n x) (way w from n) mails.Empty j ∙ node-set_node w n x j;
    word = λ i. word-set_mail (set_node w n x) (way w from n) mails.Empty i ∙ word-set_node w n x i;
    claimed = claimed-set_mail (set_node w n x) (way w from n) mails.Empty ∙ claimed-set_node w n x;
    size = size-set_mail (set_node w n x) (way w from n) mails.Empty ∙ size-set_node w n x;
    count = count-set_mail (set_node w n x) (way w from n) mails.Empty ∙ count-set_node w n x;
  }

  mail_after : (i : ℕ) → mail_at v i ≡ cond (nat_eq i (way w from n)) mails.Empty (mail_at w i)
  mail_after i = mail-set_mail (set_node w n x) (way w from n) mails.Empty i ∙ ap (λ z. cond (nat_eq i (way w from n)) mails.Empty z)
      (mail-set_node w n x i)

  taken : IsTaken w v from n m
  taken = taken_by w v from n x m changed mail_after mail (made_boxes (node_at w n) from moves) (law.counts.hand_from n from below hand)
      below

  ends_after : HasEnds v
  ends_after f t i link u number item moves h ne = let o = was_under_way w v from n m taken f t i (messages.Item link u number item moves) h
      in law.moves.ends f t o.0 link u number item moves o.1 ne

-- if descriptors come along: terminals are made first, then the item is taken
module _ (w : World) (b : Books) (g : Records) (from n : ℕ) (l : LinkId) (s : Side) (number : ℕ) (item : Item) (d : Descriptor)
    (ds : List Descriptor) (law : Inv w b g) (below : n < w.count) (hand : (node_at w n).hand ≡ Some from)
    (mail : mail_at w (way w from n) ≡ mails.Hand (messages.Item l s number item (d ∷ ds))) where
  abbrev m0 : Message
  m0 = messages.Item l s number item (d ∷ ds)

  abbrev z : Node
  z = make_terminals (node_at w n) from (d ∷ ds)

  abbrev u : World
  u = handed_world w from n l s number item z []

  abbrev h : Records
  h = made_records g n (node_at w n).next_router (d ∷ ds)

  way_in_hand : IsUnderWay w from n 0 m0
  way_in_hand = under w b g from n l s number item (d ∷ ds) law below hand mail

  no_moves : d ∷ ds ≡ [] → ⊥
  no_moves e = cc

  away : from ≢ n
  away e = no_moves (law.moves.within n 0 l s number item (d ∷ ds) (subst (λ f. IsUnderWay w f n 0 m0) e way_in_hand))

  sender : from < w.count
  sender = law.counts.hand_from n from below hand

  link : (p : Key) × (d.link ≡ inner_link p)
  link = peripheral_is d.link (law.moves.peripheral from n 0 0 m0 d way_in_hand
      (ap (λ ms. slice_get ms 0) (moves-item l s number item (d ∷ ds))))

  first : OpenInv (handed_world w from n l s number item (add_router (node_at w n) (from_descriptor d from)) ds) b
      (made_at g n (node_at w n).next_router d.end d.link)
  first =
      let q : Key = record { node = n; serial = (node_at w n).next_router } in
      let is : IsMaterial w g from q link.0 d = record {
        index = 0;
        place = 0;
        message = m0;
        under_way = way_in_hand;
        descriptor =
            ap (λ ms. slice_get ms 0) (moves-item l s number item (d ∷ ds));
        link = link.1;
        serial = refl;
      } in
      subst (λ f. OpenInv (handed_world w from n l s number item (add_router (node_at w n) (from_descriptor d from)) ds) b f)
      (sym (ap (made_at g n (node_at w n).next_router d.end) link.1 ∙ made_is g n (node_at w n).next_router d.end link.0))
      (inv-make w b g from q link.0 d (opened w b g law) is l s number item ds mail away)

  made : OpenInv u b h
  made = inv-makes w b from n l s number item away sender below (add_router (node_at w n) (from_descriptor d from))
      (made_at g n (node_at w n).next_router d.end d.link) ds first

  node_there : node_at u n ≡ z
  node_there = node-set_mail (set_node w n z) (way w from n) (mails.Hand (messages.Item l s number item [])) n ∙ node-set_node w n z n ∙ ap
      (λ c. cond c z (node_at w n)) (nat_eq-itself n)

  count_there : u.count ≡ w.count
  count_there = count-set_mail (set_node w n z) (way w from n) (mails.Hand (messages.Item l s number item [])) ∙ count-set_node w n z

  way_there : way u from n ≡ way w from n
  way_there = ap (λ c. from * c + n) count_there

  mail_there : mail_at u (way u from n) ≡ mails.Hand (messages.Item l s number item [])
  mail_there = ap (mail_at u) way_there ∙ mail-set_mail (set_node w n z) (way w from n) (mails.Hand (messages.Item l s number item []))
      (way w from n) ∙
      ap (λ c. cond c (mails.Hand (messages.Item l s number item [])) (mail_at (set_node w n z) (way w from n)))
      (nat_eq-itself (way w from n))

  abbrev asks : IsAsked w g n l s
  asks = asked w b g from n l s number item (d ∷ ds) law below hand mail

  abbrev key : Key
  key = record { node = n; serial = asks.serial }

  router_there : router_at u key ≡ Some asks.router
  unfolding router_at
  router_there = ap (λ x. get x.routers asks.serial) node_there ∙ made_router (node_at w n) from (d ∷ ds) asks.serial
      (law.counts.serial key asks.router asks.here) ∙ asks.here

  peripheral : (j : ℕ) (c : Descriptor) → slice_get (d ∷ ds) j ≡ Some c → is_central c.link ≡ false
  peripheral j c e = law.moves.peripheral from n 0 j m0 c way_in_hand (ap (λ ms. slice_get ms j) (moves-item l s number item (d ∷ ds)) ∙ e)

  take : IsTake u h from key asks.router l s number item
  take = record {
    here = router_there;
    in_hand = mail_there;
    hand = ap (λ x. x.hand) node_there ∙ made_hand (node_at w n) from (d ∷ ds) ∙ hand;
    router = (has_at u h key asks.router l s (links-open made) router_there (has_attached l s asks.router asks.on)).router;
    attached = asks.on;
    ends = λ e has. made_gets g n (node_at w n).next_router e (d ∷ ds) peripheral
        (subst (λ es. has_end e es ≡ true) (sym (its_ends w b g from n l s number item (d ∷ ds) law below hand mail away)) has);
  }

  same_world : take_act u from key (accept asks.router (is_outward l s) number item) ≡ item_act w from n asks.serial
      (accept asks.router (is_outward l s) number item) (d ∷ ds)
  same_world = ap (λ x. set_mail (set_node u n (record (with_router x asks.serial (accept asks.router (is_outward l s) number item))
      { hand = None })) (way u from n) mails.Empty) node_there ∙
      both_twice w n (way w from n) (way u from n) z (taken_node w from n asks.serial (accept asks.router (is_outward l s) number item)
      (d ∷ ds)) (mails.Hand (messages.Item l s number item [])) mails.Empty way_there

  inv-with_moves : Inv (item_act w from n asks.serial (accept asks.router (is_outward l s) number item) (d ∷ ds)) b h
  inv-with_moves = closed (item_act w from n asks.serial (accept asks.router (is_outward l s) number item) (d ∷ ds)) b h
      (subst (λ t. OpenInv t b h) same_world (inv-taken u b h from key asks.router l s number item made take))
      (ends_after w b g from n l s number item (d ∷ ds) law below hand mail)

-- the hand of an item, whatever moves along
pub inv-item : (w : World) (b : Books) (g : Records) (from n : ℕ) (l : LinkId) (s : Side) (number : ℕ) (item : Item)
    (moves : List Descriptor) → Inv w b g → n < w.count → (node_at w n).hand ≡ Some from →
    mail_at w (way w from n) ≡ mails.Hand (messages.Item l s number item moves) →
    Inv (after_act w n (Hand from)) b (made_records g n (node_at w n).next_router moves)
inv-item w b g from n l s number item [] law below hand mail =
    let a = asked w b g from n l s number item [] law below hand mail in
    subst (λ v. Inv v b g) (sym (acted-item w b g from n l s number item [] law below hand mail))
    (closed-taken w b g from (record { node = n; serial = a.serial }) a.router l s number item law a.here mail hand a.known a.on)
inv-item w b g from n l s number item (d ∷ ds) law below hand mail =
    subst (λ v. Inv v b (made_records g n (node_at w n).next_router (d ∷ ds)))
    (sym (acted-item w b g from n l s number item (d ∷ ds) law below hand mail))
    (inv-with_moves w b g from n l s number item d ds law below hand mail)

-- in the form of a step
pub step-item : (w : World) (b : Books) (g : Records) (from n : ℕ) → Inv w b g → n < w.count → (node_at w n).hand ≡ Some from →
    (l : LinkId) (s : Side) (number : ℕ) (item : Item) (moves : List Descriptor) →
    mail_at w (way w from n) ≡ mails.Hand (messages.Item l s number item moves) →
    (h : Records) × Inv (after_act w n (Hand from)) b h
step-item w b g from n law below hand l s number item moves mail =
    (made_records g n (node_at w n).next_router moves, inv-item w b g from n l s number item moves law below hand mail)
