-- A hand makes the terminals of a message's descriptors, one after the other: each step keeps all but that the item has a descriptor for
-- each end.
use Rattle.std.specs.Prelude.{◌≡◌, ◌≢◌, ◌<◌, ◌+◌, ◌*◌, ℕ, false, cond, nat_eq, refl, List, [], ◌∷◌, ◌++◌, slice_get}
use Rattle.std.proofs.Common.{arith, ap, subst, ◌∙◌, sym}
use Rattle.std.proofs.lemmas.Bool.Decides.{nat_tests}
use Rattle.ipcz_world.proofs.Vocabulary.{Side, End, LinkId, Central, Peripheral, Descriptor, Item, is_central, put_place, from_descriptor, Node}
use Rattle.ipcz_world.proofs.Vocabulary.{bare_node, outbox, World, Key, node_at, mail_at, way, messages_in, set_node, set_mail, Books, Records}
use Rattle.ipcz_world.proofs.Vocabulary.{inner_link, IsUnderWay, add_router, make_terminals}
use Rattle.ipcz_base.specs.declared.message.Message.TheVariants as messages
use Rattle.ipcz_world.specs.declared.mail.Mail.TheVariants as mails
use Rattle.ipcz_world.proofs.frames.Frames.{node-set_node, node-set_mail, mail-set_mail, count-set_node, count-set_mail}
use Rattle.ipcz_world.proofs.facts.RecordsAfter.{made_at, made_records}
use Rattle.ipcz_world.proofs.frames.Changing.{flow_is, in_mail-hand}
use Rattle.ipcz_world.proofs.frames.Opened.{OpenInv}
use Rattle.ipcz_world.proofs.acts.Sending.{moves-item}
use Rattle.ipcz_world.proofs.acts.MaterializingAround.{made_key_records, IsMaterial}
use Rattle.ipcz_world.proofs.acts.MaterializingNodes.{inv-make}
use Rattle.ipcz_world.proofs.acts.Updating.{put-twice}

-- the world where a node is as it is after some terminals were made, and what is left of the message is in hand
abbrev pub handed_world : World → ℕ → ℕ → LinkId → Side → ℕ → Item → Node → List Descriptor → World
handed_world w a n l s number item x ds = set_mail (set_node w n x) (way w a n) (mails.Hand (messages.Item l s number item ds))

step_world : (w : World) (a n : ℕ) (l : LinkId) (s : Side) (number : ℕ) (item : Item) (x y : Node) (ds es : List Descriptor) →
    set_mail (set_node (handed_world w a n l s number item x ds) n y) (way (handed_world w a n l s number item x ds) a n)
    (mails.Hand (messages.Item l s number item es)) ≡ handed_world w a n l s number item y es
unfolding set_mail set_node
step_world w a n l s number item x y ds es =
    ap (λ ns. record w {
      nodes = ns;
      mail = put_place mails.Empty
          (put_place mails.Empty w.mail (way w a n) (mails.Hand (messages.Item l s number item ds))) (way w a n)
          (mails.Hand (messages.Item l s number item es));
    }) (put-twice (bare_node 0 0) w.nodes n x y) ∙
    ap (λ ms. record w { nodes = put_place (bare_node 0 0) w.nodes n y; mail = ms })
    (put-twice mails.Empty w.mail (way w a n) (mails.Hand (messages.Item l s number item ds))
    (mails.Hand (messages.Item l s number item es)))

module _ (w : World) (b : Books) (a n : ℕ) (l : LinkId) (s : Side) (number : ℕ) (item : Item) (away : a ≢ n) (sender : a < w.count)
    (receiver : n < w.count) where
  node_there : (x : Node) (ds : List Descriptor) → node_at (handed_world w a n l s number item x ds) n ≡ x
  node_there x ds = node-set_mail (set_node w n x) (way w a n) (mails.Hand (messages.Item l s number item ds)) n ∙ node-set_node w n x n ∙
      here
    where
      here : cond (nat_eq n n) x (node_at w n) ≡ x
      here = grind (arith, nat_tests)

  count_there : (x : Node) (ds : List Descriptor) → (handed_world w a n l s number item x ds).count ≡ w.count
  count_there x ds = count-set_mail (set_node w n x) (way w a n) (mails.Hand (messages.Item l s number item ds)) ∙ count-set_node w n x

  mail_there : (x : Node) (ds : List Descriptor) → mail_at (handed_world w a n l s number item x ds)
      (way (handed_world w a n l s number item x ds) a n) ≡ mails.Hand (messages.Item l s number item ds)
  mail_there x ds = ap (λ c. mail_at (handed_world w a n l s number item x ds) (a * c + n)) (count_there x ds) ∙ mail-set_mail
      (set_node w n x) (way w a n) (mails.Hand (messages.Item l s number item ds)) (way w a n) ∙ here
    where
      here : cond (nat_eq (way w a n) (way w a n)) (mails.Hand (messages.Item l s number item ds)) (mail_at (set_node w n x) (way w a n)) ≡
          mails.Hand (messages.Item l s number item ds)
      here = grind (arith, nat_tests)

  -- one terminal is made
  inv-one : (x : Node) (g : Records) (d : Descriptor) (ds : List Descriptor) (p : Key) → d.link ≡ inner_link p →
      OpenInv (handed_world w a n l s number item x (d ∷ ds)) b g →
      OpenInv (handed_world w a n l s number item (add_router x (from_descriptor d a)) ds) b
      (made_key_records g p (record { node = n; serial = x.next_router }) d.end)
  inv-one x g d ds p link law =
      let u : World = handed_world w a n l s number item x (d ∷ ds) in let q : Key = record { node = n; serial = x.next_router } in
      let under : IsUnderWay u a n 0 (messages.Item l s number item (d ∷ ds)) = record {
        sender = subst (λ c. a < c) (sym (count_there x (d ∷ ds))) sender;
        receiver = subst (λ c. n < c) (sym (count_there x (d ∷ ds))) receiver;
        place = ap (λ f. slice_get f 0) (flow_is u a n ∙ ap (λ m. messages_in m ++ outbox (node_at u a) n) (mail_there x (d ∷ ds)) ∙ ap
            (λ f. f ++ outbox (node_at u a) n) (in_mail-hand (messages.Item l s number item (d ∷ ds))));
      } in
      let is : IsMaterial u g a q p d = record {
        index = 0;
        place = 0;
        message = messages.Item l s number item (d ∷ ds);
        under_way = under;
        descriptor = ap (λ ms. slice_get ms 0) (moves-item l s number item (d ∷ ds));
        link = link;
        serial = ap (λ z. z.next_router) (sym (node_there x (d ∷ ds)));
      } in
      subst (λ v. OpenInv v b (made_key_records g p q d.end))
      (ap (λ z. set_mail (set_node u n (add_router z (from_descriptor d a))) (way u a n) (mails.Hand (messages.Item l s number item ds)))
      (node_there x (d ∷ ds)) ∙ step_world w a n l s number item x (add_router x (from_descriptor d a)) (d ∷ ds) ds)
      (inv-make u b g a q p d law is l s number item ds (mail_there x (d ∷ ds)) away)

  made_is : (g : Records) (k : ℕ) (e : End) (p : Key) → made_at g n k e (inner_link p) ≡ made_key_records g p
      (record { node = n; serial = k }) e
  unfolding made_at
  made_is g k e p = refl

  -- each descriptor's link is a peripheral one
  peripheral_is : (m : LinkId) → is_central m ≡ false → (p : Key) × (m ≡ inner_link p)
  unfolding is_central
  peripheral_is (Central i) e = absurd (grind (arith, e))
  peripheral_is (Peripheral i j) e = (record { node = i; serial = j }, refl)

  first_link : (x : Node) (g : Records) (d : Descriptor) (ds : List Descriptor) →
      OpenInv (handed_world w a n l s number item x (d ∷ ds)) b g → (p : Key) × (d.link ≡ inner_link p)
  first_link x g d ds law =
      let u : World = handed_world w a n l s number item x (d ∷ ds) in
      peripheral_is d.link (law.moves.peripheral a n 0 0 (messages.Item l s number item (d ∷ ds)) d (record {
        sender = subst (λ c. a < c) (sym (count_there x (d ∷ ds))) sender;
        receiver = subst (λ c. n < c) (sym (count_there x (d ∷ ds))) receiver;
        place = ap (λ f. slice_get f 0) (flow_is u a n ∙ ap (λ m. messages_in m ++ outbox (node_at u a) n) (mail_there x (d ∷ ds)) ∙ ap
            (λ f. f ++ outbox (node_at u a) n) (in_mail-hand (messages.Item l s number item (d ∷ ds))));
      }) (ap (λ ms. slice_get ms 0) (moves-item l s number item (d ∷ ds))))

  -- all of them are made, in order: what a hand does with the moves of its item, of whatever number
  pub inv-makes : (x : Node) (g : Records) (ds : List Descriptor) → OpenInv (handed_world w a n l s number item x ds) b g →
      OpenInv (handed_world w a n l s number item (make_terminals x a ds) []) b (made_records g n x.next_router ds)
  inv-makes x g [] law = law
  inv-makes x g (d ∷ ds) law =
      let p = first_link x g d ds law in
      let step = inv-one x g d ds p.0 p.1 law in
      inv-makes (add_router x (from_descriptor d a)) (made_at g n x.next_router d.end d.link) ds
      (subst (λ h. OpenInv (handed_world w a n l s number item (add_router x (from_descriptor d a)) ds) b h)
      (sym (ap (made_at g n x.next_router d.end) p.1 ∙ made_is g x.next_router d.end p.0)) step)
