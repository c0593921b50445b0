-- A message goes from the mailbox into the hand, or from an outbox into the mailbox: no flow changes, and the invariant is kept.
use Rattle.std.specs.Prelude.{◌≡◌, ◌⊎◌, ◌<◌, ℕ, ◌+◌, ◌*◌, Bool, true, false, cond, nat_eq, Option, Some, None, is_some, List, [], ◌∷◌, ◌++◌}
use Rattle.std.specs.Prelude.{length, refl}
use Rattle.std.proofs.Common.{arith, sym, ◌∙◌, ap, subst, inl, inr}
use Rattle.std.proofs.lemmas.Bool.Decides.{nat_tests}
use Rattle.std.proofs.lemmas.Option.{same_Some, none-some}
use Rattle.ipcz_world.proofs.Vocabulary.{Message, Node, outbox, commit, World, node_at, mail_at, way, flow, messages_in, set_node, set_mail}
use Rattle.ipcz_world.proofs.Vocabulary.{after_act, hand_message, can_take, Books, Records, Inv, Look, Post, with_outbox, post_of, rest_of, first_of}
use Rattle.ipcz_world.proofs.Vocabulary.{Mail, after_look, after_post, full_message, is_full, is_clear}
use Rattle.ipcz_base.proofs.Indexed.{place_at-put_place}
use Rattle.ipcz_world.specs.declared.mail.Mail.TheVariants as mails
use Rattle.ipcz_world.proofs.frames.Frames.{frames, node-set_mail, mail-set_mail, node-set_node, mail-set_node, count-set_node}
use Rattle.ipcz_world.proofs.frames.Frames.{count-set_mail}
use Rattle.ipcz_world.proofs.frames.Flowing.{way_tells, same_way}
use Rattle.ipcz_world.proofs.frames.Changing.{flow_is, way_apart}
use Rattle.ipcz_world.proofs.frames.MessagesPassing.{SameButPost, Passes, HasHands, post_is, hands-same, passes-flows}
use Rattle.ipcz_world.proofs.frames.MessagesAlone.{inv-passes}

-- the message is in the hand
abbrev pub look_act : World → ℕ → ℕ → Message → World
look_act w n from m = set_mail (set_node w n (record (node_at w n) { hand = Some from })) (way w from n) (mails.Hand m)

-- the first message of the outbox is in the mailbox
abbrev pub post_act : World → ℕ → ℕ → Message → List Message → World
post_act w n to m rest = set_mail (set_node w n (with_outbox (node_at w n) to rest)) (way w n to) (mails.Full m)

-- a node and a mailbox change
abbrev set_post : World → ℕ → Node → ℕ → Mail → World
set_post w n x i y = set_mail (set_node w n x) i y

post-node : (w : World) (n i : ℕ) (x : Node) (y : Mail) (j : ℕ) → node_at (set_post w n x i y) j ≡ cond (nat_eq j n) x (node_at w j)
post-node w n i x y j = node-set_mail (set_node w n x) i y j ∙ node-set_node w n x j

post-mail : (w : World) (n i : ℕ) (x : Node) (y : Mail) (j : ℕ) → mail_at (set_post w n x i y) j ≡ cond (nat_eq j i) y (mail_at w j)
post-mail w n i x y j = mail-set_mail (set_node w n x) i y j ∙ ap (cond (nat_eq j i) y) (mail-set_node w n x j)

post-count : (w : World) (n i : ℕ) (x : Node) (y : Mail) → (set_post w n x i y).count ≡ w.count
post-count w n i x y = count-set_mail (set_node w n x) i y ∙ count-set_node w n x

-- such a change, if no flow is another
post-passes : (w : World) (g : Records) (n i : ℕ) (x : Node) (y : Mail) → SameButPost (node_at w n) x →
    ((from to : ℕ) → from < w.count → to < w.count → flow (set_post w n x i y) from to ≡ flow w from to) → Passes w (set_post w n x i y) g
post-passes w g n i x y same flows = passes-flows w (set_post w n x i y) g nodes (λ j. grind (arith, frames)) (grind (arith, frames))
    (grind (arith, frames)) (post-count w n i x y) flows
  where
    nodes : (j : ℕ) → SameButPost (node_at w j) (node_at (set_post w n x i y) j)
    nodes j = subst (SameButPost (node_at w j)) (sym (node-set_mail (set_node w n x) i y j)) (post_is w n j x same)

-- the flow of a way whose mailbox and outbox are known
flow-by : (w : World) (from to : ℕ) (y : Mail) (ms : List Message) → mail_at w (way w from to) ≡ y → outbox (node_at w from) to ≡ ms →
    flow w from to ≡ messages_in y ++ ms
flow-by w from to y ms a b = flow_is w from to ∙ ap (λ z. messages_in z ++ outbox (node_at w from) to) a ∙ ap (λ z. messages_in y ++ z) b

full-hand : (m : Message) → messages_in (mails.Hand m) ≡ messages_in (mails.Full m)
unfolding messages_in
full-hand m = refl

clear-full : (m : Message) (rest : List Message) → messages_in (mails.Full m) ++ rest ≡ messages_in mails.Empty ++ (m ∷ rest)
unfolding messages_in
clear-full m rest = refl

pub inv-look : (w : World) (b : Books) (g : Records) (n from : ℕ) (m : Message) → Inv w b g → n < w.count → from < w.count →
    (node_at w n).hand ≡ None → mail_at w (way w from n) ≡ mails.Full m → Inv (look_act w n from m) b g
unfolding hand_message
inv-look w b g n from m law ln lf free full = inv-passes w v g (post-passes w g n i x (mails.Hand m) same flows) b hands law
  where
    i : ℕ
    i = way w from n

    x : Node
    x = record (node_at w n) { hand = Some from }

    v : World
    v = set_post w n x i (mails.Hand m)

    same : SameButPost (node_at w n) x
    same = record {
      node = refl;
      nodes = refl;
      routers = refl;
      pending = refl;
      strays = refl;
      held = refl;
      opening = refl;
      next_router =
          refl;
      next_peripheral = refl;
    }

    mail : (a c : ℕ) → mail_at v (way v a c) ≡ cond (nat_eq (way w a c) i) (mails.Hand m) (mail_at w (way w a c))
    mail a c = ap (λ z. mail_at v (a * z + c)) (post-count w n i x (mails.Hand m)) ∙ post-mail w n i x (mails.Hand m) (way w a c)

    node : (a : ℕ) → node_at v a ≡ cond (nat_eq a n) x (node_at w a)
    node a = post-node w n i x (mails.Hand m) a

    box : (a c : ℕ) → outbox (node_at v a) c ≡ outbox (node_at w a) c
    box a c = go (nat_eq a n) refl
      where
        go : (t : Bool) → nat_eq a n ≡ t → outbox (node_at v a) c ≡ outbox (node_at w a) c
        go true e = let z : a ≡ n = grind (arith, e, nat_tests) in let u : node_at v a ≡ x = node a ∙ ap (λ t. cond t x (node_at w a)) e in
            ap (λ k. outbox k c) u ∙ ap (λ k. outbox (node_at w k) c) (sym z)
        go false e = ap (λ k. outbox k c) (node a ∙ ap (λ t. cond t x (node_at w a)) e)

    apart : (a c : ℕ) → c < w.count → same_way a c from n ≡ false → mail_at v (way v a c) ≡ mail_at w (way w a c)
    apart a c l e = mail a c ∙ ap (λ t. cond t (mails.Hand m) (mail_at w (way w a c))) (way_apart w.count a c from n l ln e)

    here : mail_at v (way v from n) ≡ mails.Hand m
    here = let e : nat_eq i i ≡ true = grind (arith, nat_tests) in mail from n ∙ ap (λ t. cond t (mails.Hand m) (mail_at w i)) e

    flows : (a c : ℕ) → a < w.count → c < w.count → flow v a c ≡ flow w a c
    flows a c la lc = go (way_tells a c from n)
      where
        go : ((same_way a c from n ≡ true) × (a ≡ from) × (c ≡ n)) ⊎ (same_way a c from n ≡ false) → flow v a c ≡ flow w a c
        go (inl e) = ap (λ z. flow v z c) e.1 ∙ ap (flow v from) e.2 ∙ flow-by v from n (mails.Hand m) (outbox (node_at w from) n) here
            (box from n) ∙ ap (λ z. z ++ outbox (node_at w from) n) (full-hand m)
            ∙ sym (ap (λ z. flow w z c) e.1 ∙ ap (flow w from) e.2 ∙ flow-by w from n (mails.Full m) (outbox (node_at w from) n) full refl)
        go (inr e) = flow-by v a c (mail_at w (way w a c)) (outbox (node_at w a) c) (apart a c lc e) (box a c) ∙ sym (flow_is w a c)

    below : (a : ℕ) → a < v.count → a < w.count
    below a l = subst (λ c. a < c) (post-count w n i x (mails.Hand m)) l

    hand_at : (a : ℕ) → (node_at v a).hand ≡ cond (nat_eq a n) (Some from) (node_at w a).hand
    hand_at a = go (nat_eq a n) (node a)
      where
        go : (t : Bool) → node_at v a ≡ cond t x (node_at w a) → (node_at v a).hand ≡ cond t (Some from) (node_at w a).hand
        go true e = ap (λ k. k.hand) e
        go false e = ap (λ k. k.hand) e

    hands : HasHands v
    hands = record {
      hand = λ a p l e. hand a p (below a l) e (nat_eq a n) refl;
      hand_from = λ a p l e. subst (λ c. p < c) (sym (post-count w n i x (mails.Hand m))) (hand_from a p (below a l) e (nat_eq a n) refl);
      in_hand = λ a p l k e. in_hand a p (below a l) (below p k) e (way_tells p a from n);
    }
      where
        hand : (a p : ℕ) → a < w.count → (node_at v a).hand ≡ Some p → (t : Bool) → nat_eq a n ≡ t →
            is_some (hand_message (mail_at v (way v p a))) ≡ true
        hand a p l e true q =
            let z : a ≡ n = grind (arith, q, nat_tests) in let u : from ≡ p = same_Some from p (grind (arith, hand_at a, q, e)) in
            ap (λ j. is_some (hand_message (mail_at v (way v j a)))) (sym u) ∙ ap (λ j. is_some (hand_message (mail_at v (way v from j)))) z
            ∙ ap (λ j. is_some (hand_message j)) here
        hand a p l e false q = ap (λ j. is_some (hand_message j)) (apart p a l (grind (arith, q))) ∙ law.counts.hand a p l
            (grind (arith, hand_at a, q, e))

        hand_from : (a p : ℕ) → a < w.count → (node_at v a).hand ≡ Some p → (t : Bool) → nat_eq a n ≡ t → p < w.count
        hand_from a p l e true q = subst (λ j. j < w.count) (same_Some from p (grind (arith, hand_at a, q, e))) lf
        hand_from a p l e false q = law.counts.hand_from a p l (grind (arith, hand_at a, q, e))

        in_hand : (a p : ℕ) → a < w.count → p < w.count → is_some (hand_message (mail_at v (way v p a))) ≡ true →
            ((same_way p a from n ≡ true) × (p ≡ from) × (a ≡ n)) ⊎ (same_way p a from n ≡ false) → (node_at v a).hand ≡ Some p
        in_hand a p l k e (inl q) = let d : nat_eq a n ≡ true = grind (arith, q.2, nat_tests) in
            hand_at a ∙ ap (λ t. cond t (Some from) (node_at w a).hand) d ∙ ap Some (sym q.1)
        in_hand a p l k e (inr q) = go (law.counts.in_hand a p l k (sym (ap (λ j. is_some (hand_message j)) (apart p a l q)) ∙ e))
            (nat_eq a n) refl
          where
            go : (node_at w a).hand ≡ Some p → (t : Bool) → nat_eq a n ≡ t → (node_at v a).hand ≡ Some p
            go h true f = let z : a ≡ n = grind (arith, f, nat_tests) in
                absurd (none-some p (sym free ∙ ap (λ j. (node_at w j).hand) (sym z) ∙ h))
            go h false f = hand_at a ∙ ap (λ t. cond t (Some from) (node_at w a).hand) f ∙ h

pub inv-post : (w : World) (b : Books) (g : Records) (n to : ℕ) (m : Message) (rest : List Message) → Inv w b g → n < w.count →
    to < w.count → outbox (node_at w n) to ≡ m ∷ rest → mail_at w (way w n to) ≡ mails.Empty → Inv (post_act w n to m rest) b g
unfolding hand_message
inv-post w b g n to m rest law ln lt waits clear = inv-passes w v g (post-passes w g n i x (mails.Full m) same flows) b
    (hands-same w v g law.counts hand_at mails_same (post-count w n i x (mails.Full m))) law
  where
    i : ℕ
    i = way w n to

    x : Node
    x = with_outbox (node_at w n) to rest

    v : World
    v = set_post w n x i (mails.Full m)

    same : SameButPost (node_at w n) x
    same = record {
      node = refl;
      nodes = refl;
      routers = refl;
      pending = refl;
      strays = refl;
      held = refl;
      opening = refl;
      next_router =
          refl;
      next_peripheral = refl;
    }

    mail : (a c : ℕ) → mail_at v (way v a c) ≡ cond (nat_eq (way w a c) i) (mails.Full m) (mail_at w (way w a c))
    mail a c = ap (λ z. mail_at v (a * z + c)) (post-count w n i x (mails.Full m)) ∙ post-mail w n i x (mails.Full m) (way w a c)

    node : (a : ℕ) → node_at v a ≡ cond (nat_eq a n) x (node_at w a)
    node a = post-node w n i x (mails.Full m) a

    box_of : (c : ℕ) → outbox x c ≡ cond (nat_eq c to) rest (outbox (node_at w n) c)
    box_of c = place_at-put_place [] (node_at w n).outboxes to rest c

    box : (a c : ℕ) → same_way a c n to ≡ false → outbox (node_at v a) c ≡ outbox (node_at w a) c
    box a c apart = go (nat_eq a n) refl
      where
        go : (t : Bool) → nat_eq a n ≡ t → outbox (node_at v a) c ≡ outbox (node_at w a) c
        go true e =
            let z : a ≡ n = grind (arith, e, nat_tests) in let u : node_at v a ≡ x = node a ∙ ap (λ t. cond t x (node_at w a)) e in
            let ne : nat_eq c to ≡ false = grind (arith, apart, e) in
            ap (λ k. outbox k c) u ∙ box_of c ∙ ap (λ t. cond t rest (outbox (node_at w n) c)) ne ∙ ap (λ k. outbox (node_at w k) c) (sym z)
        go false e = ap (λ k. outbox k c) (node a ∙ ap (λ t. cond t x (node_at w a)) e)

    box_here : outbox (node_at v n) to ≡ rest
    box_here =
        let d : nat_eq n n ≡ true = grind (arith, nat_tests) in let u : node_at v n ≡ x = node n ∙ ap (λ t. cond t x (node_at w n)) d in
        let e : nat_eq to to ≡ true = grind (arith, nat_tests) in
        ap (λ k. outbox k to) u ∙ box_of to ∙ ap (λ t. cond t rest (outbox (node_at w n) to)) e

    apart : (a c : ℕ) → c < w.count → same_way a c n to ≡ false → mail_at v (way v a c) ≡ mail_at w (way w a c)
    apart a c l e = mail a c ∙ ap (λ t. cond t (mails.Full m) (mail_at w (way w a c))) (way_apart w.count a c n to l lt e)

    here : mail_at v (way v n to) ≡ mails.Full m
    here = let e : nat_eq i i ≡ true = grind (arith, nat_tests) in mail n to ∙ ap (λ t. cond t (mails.Full m) (mail_at w i)) e

    flows : (a c : ℕ) → a < w.count → c < w.count → flow v a c ≡ flow w a c
    flows a c la lc = go (way_tells a c n to)
      where
        go : ((same_way a c n to ≡ true) × (a ≡ n) × (c ≡ to)) ⊎ (same_way a c n to ≡ false) → flow v a c ≡ flow w a c
        go (inl e) = ap (λ z. flow v z c) e.1 ∙ ap (flow v n) e.2 ∙ flow-by v n to (mails.Full m) rest here box_here ∙ clear-full m rest
            ∙ sym (ap (λ z. flow w z c) e.1 ∙ ap (flow w n) e.2 ∙ flow-by w n to mails.Empty (m ∷ rest) clear waits)
        go (inr e) = flow-by v a c (mail_at w (way w a c)) (outbox (node_at w a) c) (apart a c lc e) (box a c e) ∙ sym (flow_is w a c)

    hand_at : (a : ℕ) → (node_at v a).hand ≡ (node_at w a).hand
    hand_at a = go (nat_eq a n) refl
      where
        go : (t : Bool) → nat_eq a n ≡ t → (node_at v a).hand ≡ (node_at w a).hand
        go true e = let z : a ≡ n = grind (arith, e, nat_tests) in
            ap (λ k. k.hand) (node a ∙ ap (λ t. cond t x (node_at w a)) e) ∙ ap (λ k. (node_at w k).hand) (sym z)
        go false e = ap (λ k. k.hand) (node a ∙ ap (λ t. cond t x (node_at w a)) e)

    mails_same : (j : ℕ) → hand_message (mail_at v j) ≡ hand_message (mail_at w j)
    mails_same j = go (nat_eq j i) refl
      where
        go : (t : Bool) → nat_eq j i ≡ t → hand_message (mail_at v j) ≡ hand_message (mail_at w j)
        go true e =
            let z : j ≡ i = grind (arith, e, nat_tests) in
            ap hand_message (post-mail w n i x (mails.Full m) j ∙ ap (λ t. cond t (mails.Full m) (mail_at w j)) e) ∙ sym
            (ap (λ k. hand_message (mail_at w k)) z ∙ ap hand_message clear)
        go false e = ap hand_message (post-mail w n i x (mails.Full m) j ∙ ap (λ t. cond t (mails.Full m) (mail_at w j)) e)

-- a node's look in the world is the update
pub acted-look : (w : World) (n from : ℕ) (m : Message) → mail_at w (way w from n) ≡ mails.Full m →
    after_act w n (Look from) ≡ look_act w n from m
unfolding after_act after_look full_message commit
acted-look w n from m full = rw full refl

pub acted-post : (w : World) (n to : ℕ) (m : Message) (rest : List Message) → outbox (node_at w n) to ≡ m ∷ rest →
    after_act w n (Post to) ≡ post_act w n to m rest
unfolding after_act after_post post_of first_of commit rest_of
acted-post w n to m rest waits = ap (λ ms. after_post w n to (first_of ms)) waits ∙ ap
    (λ ms. set_mail (set_node w n (with_outbox (node_at w n) to (rest_of ms))) (way w n to) (mails.Full m)) waits

-- a look that can be taken
pub step-look : (w : World) (b : Books) (g : Records) (n from : ℕ) → Inv w b g → n < w.count → from < w.count →
    can_take w n (Look from) ≡ true → Inv (after_act w n (Look from)) b g
unfolding can_take is_full
step-look w b g n from law ln lf can = at (node_at w n).hand (mail_at w (way w from n)) refl refl
  where
    at : (h : Option ℕ) (y : Mail) → (node_at w n).hand ≡ h → mail_at w (way w from n) ≡ y → Inv (after_act w n (Look from)) b g
    at (Some p) y e f = absurd (grind (arith, can, e))
    at None mails.Empty e f = absurd (grind (arith, can, e, f))
    at None (mails.Hand m) e f = absurd (grind (arith, can, e, f))
    at None (mails.Full m) e f = subst (λ v. Inv v b g) (sym (acted-look w n from m f)) (inv-look w b g n from m law ln lf e f)

-- a post that can be taken
pub step-post : (w : World) (b : Books) (g : Records) (n to : ℕ) → Inv w b g → n < w.count → to < w.count → can_take w n (Post to) ≡ true →
    Inv (after_act w n (Post to)) b g
unfolding can_take is_clear
step-post w b g n to law ln lt can = at (outbox (node_at w n) to) (mail_at w (way w n to)) refl refl
  where
    at : (ms : List Message) (y : Mail) → outbox (node_at w n) to ≡ ms → mail_at w (way w n to) ≡ y → Inv (after_act w n (Post to)) b g
    at [] y e f = absurd (grind (arith, can, ap (λ ms. nat_eq (length ms) 0) e))
    at (m ∷ rest) (mails.Full k) e f = absurd (grind (arith, can, f))
    at (m ∷ rest) (mails.Hand k) e f = absurd (grind (arith, can, f))
    at (m ∷ rest) mails.Empty e f = subst (λ v. Inv v b g) (sym (acted-post w n to m rest e)) (inv-post w b g n to m rest law ln lt e f)
