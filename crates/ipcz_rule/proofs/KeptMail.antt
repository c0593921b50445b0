-- A mailbox that a node waits for stays as it is while the node does, through an act of another, or a hand and the post behind it: one to it that is
-- full while it takes nothing into its hand, and one from it that is empty while nothing leaves its outbox.
use Rattle.std.specs.Prelude.{◌≡◌, ◌≢◌, ◌≤◌, ◌<◌, ℕ, Bool, true, false, cond, nat_eq, nat_lt, Option, Some, None, is_none, is_some, List, [], ◌∷◌, length, refl}
use Rattle.std.proofs.Common.{arith, ap, ◌∙◌, sym, subst, inl, inr}
use Rattle.std.proofs.lemmas.Bool.Decides.{nat_tests}
use Rattle.ipcz_base.proofs.Indexed.{place_at-put_place}
use Rattle.ipcz_base.specs.declared.message.Message.{Message}
use Rattle.ipcz_router.specs.Router.{Router}
use Rattle.ipcz_router.specs.declared.act.RouterAct.{RouterAct}
use Rattle.ipcz_router.specs.declared.act.Answer.TheVariants as answers
use Rattle.ipcz_node.specs.Node.{Node, outbox}
use Rattle.ipcz_node.specs.declared.act.Act.{Act}
use Rattle.ipcz_node.specs.declared.act.Act.TheVariants.{Close, Hand, Look, Post, Idle, Router as OfRouter}
use Rattle.ipcz_world.proofs.Vocabulary.{commit, World, node_at, mail_at, way, set_node}
use Rattle.ipcz_world.proofs.Vocabulary.{set_mail, after_act, can_take, hand_message, deliver, post_of, first_of, rest_of}
use Rattle.ipcz_world.proofs.Vocabulary.{source_for, touch, full_message, is_clear, after_hand, after_look, after_post, after_router_act}
use Rattle.ipcz_world.specs.declared.mail.Mail.{Mail}
use Rattle.ipcz_world.specs.declared.mail.Mail.TheVariants as mails
use Rattle.ipcz_world.specs.Books.{Books}
use Rattle.ipcz_world.specs.Routes.{Routes}
use Rattle.ipcz_world.specs.Ranks.{AreTurns, IsTaken}
use Rattle.ipcz_world.proofs.facts.Tests.{and_first, and_second, nat_eq-itself, nat_eq-is}
use Rattle.ipcz_world.proofs.frames.Frames.{node-set_node, node-set_mail, mail-set_node, mail-set_mail}
use Rattle.ipcz_world.proofs.frames.Handing.{way_tells}
use Rattle.ipcz_world.proofs.lawful.RouterWakers.{mail-touch}
use Rattle.ipcz_rule.specs.Races.{IsOneAtMost}

-- a node and a mailbox are others
changed-mail : (w : World) (n : ℕ) (x : Node) (k : ℕ) (m : Mail) (j : ℕ) →
    mail_at (set_mail (set_node w n x) k m) j ≡ cond (nat_eq j k) m (mail_at w j)
changed-mail w n x k m j = mail-set_mail (set_node w n x) k m j ∙ ap (cond (nat_eq j k) m) (mail-set_node w n x j)

changed-node : (w : World) (n : ℕ) (x : Node) (k : ℕ) (m : Mail) → node_at (set_mail (set_node w n x) k m) n ≡ x
changed-node w n x k m = node-set_mail (set_node w n x) k m n ∙ (node-set_node w n x n ∙ ap (λ t. cond t x (node_at w n)) (nat_eq-itself n))

changed-way : (w : World) (n : ℕ) (x : Node) (k : ℕ) (m : Mail) (a b : ℕ) → way (set_mail (set_node w n x) k m) a b ≡ way w a b
unfolding set_mail set_node
changed-way w n x k m a b = refl

-- an act of a router, and one that is about no mailbox, leave them
routed-mail : (w : World) (n s : ℕ) (act : RouterAct) (o : Option Router) (j : ℕ) → mail_at (after_router_act w n s act o) j ≡ mail_at w j
unfolding after_router_act
routed-mail w n s act None j = refl
routed-mail w n s act (Some r) j = mail-set_node (touch w r act) n _ j ∙ mail-touch w r act j

-- who has no message in hand from a mailbox that is empty can't take it from there
none_in_hand : (m : Mail) → m ≡ mails.Empty → is_some (hand_message m) ≡ false
unfolding hand_message
none_in_hand m e = ap (λ z. is_some (hand_message z)) e

not_both : (b : Bool) → b ≡ true → b ≡ false → ⊥
not_both true h k = cc
not_both false h k = cc

shorter : (m : Message) (ms : List Message) → first_of ms ≡ Some m → length (rest_of ms) < length ms
unfolding first_of rest_of
shorter m [] h = cc
shorter m (x ∷ xs) h = omega arith

no-hand : (o : Option ℕ) → is_none o ≡ true → o ≡ None
no-hand None h = refl
no-hand (Some i) h = cc

below : (a b : ℕ) → nat_lt a b ≡ true → a < b
below a b h = grind (arith, h, nat_tests)

module _ (w : World) (j : ℕ) where
  -- a full mailbox isn't the one that a hand takes its message from, and none that is posted to
  handed-full : (n s : ℕ) (x : Message) (o : Option Message) → hand_message (mail_at w (way w s n)) ≡ o → mail_at w j ≡ mails.Full x →
      mail_at (after_hand w n s o) j ≡ mails.Full x
  unfolding after_hand hand_message
  handed-full n s x None e full = full
  handed-full n s x (Some m) e full =
      changed-mail w n (deliver (node_at w n) s m (source_for w m)) (way w s n) mails.Empty j ∙ go (nat_eq j (way w s n)) refl
    where
      go : (t : Bool) → nat_eq j (way w s n) ≡ t → cond t mails.Empty (mail_at w j) ≡ mails.Full x
      go false q = full
      go true q =
          let odd : None ≡ Some m = ap hand_message (sym full ∙ ap (mail_at w) (nat_eq-is j (way w s n) q)) ∙ e in cc

  posted-full : (n s : ℕ) (x : Message) (o : Option Message) → is_clear (mail_at w (way w n s)) ≡ true → mail_at w j ≡ mails.Full x →
      mail_at (after_post w n s o) j ≡ mails.Full x
  unfolding after_post is_clear
  posted-full n s x None clear full = full
  posted-full n s x (Some m) clear full = changed-mail w n (commit (node_at w n) (Post s) answers.Plain) (way w n s) (mails.Full m) j ∙ go (nat_eq j (way w n s)) refl
    where
      go : (t : Bool) → nat_eq j (way w n s) ≡ t → cond t (mails.Full m) (mail_at w j) ≡ mails.Full x
      go false q = full
      go true q =
          let odd : false ≡ true = ap is_clear (sym full ∙ ap (mail_at w) (nat_eq-is j (way w n s) q)) ∙ clear in cc

  pub hand-keeps-full : (n s : ℕ) (x : Message) → mail_at w j ≡ mails.Full x → mail_at (after_act w n (Hand s)) j ≡ mails.Full x
  unfolding after_act
  hand-keeps-full n s x full = handed-full n s x (hand_message (mail_at w (way w s n))) refl full

  pub post-keeps-full : (n s : ℕ) (x : Message) → IsTaken w n (Post s) → mail_at w j ≡ mails.Full x → mail_at (after_act w n (Post s)) j ≡ mails.Full x
  unfolding after_act can_take
  post-keeps-full n s x is full = posted-full n s x (post_of (node_at w n) (Post s)) (and_second _ _ (and_second _ _ is.may)) full

  -- a hand leaves an empty mailbox empty, and so does a post to another
  handed-empty : (n s : ℕ) (o : Option Message) → mail_at w j ≡ mails.Empty → mail_at (after_hand w n s o) j ≡ mails.Empty
  unfolding after_hand
  handed-empty n s None clear = clear
  handed-empty n s (Some m) clear =
      changed-mail w n (deliver (node_at w n) s m (source_for w m)) (way w s n) mails.Empty j ∙ go (nat_eq j (way w s n))
    where
      go : (t : Bool) → cond t mails.Empty (mail_at w j) ≡ mails.Empty
      go false = clear
      go true = refl

  pub hand-keeps-empty : (n s : ℕ) → mail_at w j ≡ mails.Empty → mail_at (after_act w n (Hand s)) j ≡ mails.Empty
  unfolding after_act
  hand-keeps-empty n s clear = handed-empty n s (hand_message (mail_at w (way w s n))) clear

  posted-else : (n s : ℕ) (o : Option Message) → j ≢ way w n s → mail_at w j ≡ mails.Empty → mail_at (after_post w n s o) j ≡ mails.Empty
  unfolding after_post
  posted-else n s None apart clear = clear
  posted-else n s (Some m) apart clear = changed-mail w n (commit (node_at w n) (Post s) answers.Plain) (way w n s) (mails.Full m) j ∙ go (nat_eq j (way w n s)) refl
    where
      go : (t : Bool) → nat_eq j (way w n s) ≡ t → cond t (mails.Full m) (mail_at w j) ≡ mails.Empty
      go false q = clear
      go true q = absurd (apart (nat_eq-is j (way w n s) q))

  pub post-elsewhere : (n s : ℕ) → j ≢ way w n s → mail_at w j ≡ mails.Empty → mail_at (after_act w n (Post s)) j ≡ mails.Empty
  unfolding after_act
  post-elsewhere n s apart clear = posted-else n s (post_of (node_at w n) (Post s)) apart clear

  -- a hand that a node may take is from no empty mailbox
  pub handed-apart : (n s : ℕ) → IsTaken w n (Hand s) → mail_at w j ≡ mails.Empty → j ≢ way w s n
  unfolding can_take
  handed-apart n s is clear e = not_both (is_some (hand_message (mail_at w (way w s n)))) (and_second _ _ is.may)
      (none_in_hand (mail_at w (way w s n)) (ap (mail_at w) (sym e) ∙ clear))

-- mailboxes are at the same places behind a hand
handed-way : (w : World) (n s : ℕ) (o : Option Message) (a b : ℕ) → way (after_hand w n s o) a b ≡ way w a b
unfolding after_hand
handed-way w n s None a b = refl
handed-way w n s (Some m) a b = changed-way w n (deliver (node_at w n) s m (source_for w m)) (way w s n) mails.Empty a b

hand-way : (w : World) (n s a b : ℕ) → way (after_act w n (Hand s)) a b ≡ way w a b
unfolding after_act
hand-way w n s a b = handed-way w n s (hand_message (mail_at w (way w s n))) a b

module _ (w : World) (from to j : ℕ) (first : from < w.count) (second : to < w.count) (here : j ≡ way w from to) where
  -- a full mailbox is emptied by its receiver alone, whose hand then has the message
  looked-full : (n s : ℕ) (x : Message) (o : Option Message) → n < w.count → (node_at w n).hand ≡ None → mail_at w j ≡ mails.Full x →
      (node_at (after_look w n s o) to).hand ≡ (node_at w to).hand → mail_at (after_look w n s o) j ≡ mails.Full x
  unfolding after_look commit
  looked-full n s x None l idle full same = full
  looked-full n s x (Some m) l idle full same =
      changed-mail w n (record (node_at w n) { hand = Some s }) (way w s n) (mails.Hand m) j ∙ go (nat_eq j (way w s n)) refl
    where
      go : (t : Bool) → nat_eq j (way w s n) ≡ t → cond t (mails.Hand m) (mail_at w j) ≡ mails.Full x
      go false q = full
      go true q =
          let mine : to ≡ n = (way_tells w.count from to s n second l (sym here ∙ nat_eq-is j (way w s n) q)).1 in
          let kept : (node_at (set_mail (set_node w n (record (node_at w n) { hand = Some s })) (way w s n) (mails.Hand m)) n).hand ≡ (node_at w n).hand =
          subst (λ i. (node_at (set_mail (set_node w n (record (node_at w n) { hand = Some s })) (way w s n) (mails.Hand m)) i).hand ≡ (node_at w i).hand) mine same in
          let odd : Some s ≡ None =
          ap (λ (y : Node). y.hand) (sym (changed-node w n (record (node_at w n) { hand = Some s }) (way w s n) (mails.Hand m))) ∙ (kept ∙ idle) in cc

  pub full-stays : (x : Message) (n : ℕ) (act : Act) → IsTaken w n act → mail_at w j ≡ mails.Full x →
      (node_at (after_act w n act) to).hand ≡ (node_at w to).hand → mail_at (after_act w n act) j ≡ mails.Full x
  unfolding after_act can_take
  full-stays x n (Hand s) is full same = handed-full w j n s x (hand_message (mail_at w (way w s n))) refl full
  full-stays x n (Look s) is full same =
      looked-full n s x (full_message (mail_at w (way w s n))) is.node (no-hand (node_at w n).hand (and_first _ _ (and_second _ _ is.may))) full same
  full-stays x n (Post s) is full same =
      posted-full w j n s x (post_of (node_at w n) (Post s)) (and_second _ _ (and_second _ _ is.may)) full
  full-stays x n (Close e) is full same = mail-set_node w n _ j ∙ full
  full-stays x n (OfRouter s act) is full same = routed-mail w n s act _ j ∙ full
  full-stays x n Idle is full same = full

  -- an empty mailbox is filled by its sender alone, whose outbox then has a message fewer
  looked-empty : (n s : ℕ) (o : Option Message) → full_message (mail_at w (way w s n)) ≡ o → mail_at w j ≡ mails.Empty →
      mail_at (after_look w n s o) j ≡ mails.Empty
  unfolding after_look full_message
  looked-empty n s None e clear = clear
  looked-empty n s (Some m) e clear = changed-mail w n (commit (node_at w n) (Look s) answers.Plain) (way w s n) (mails.Hand m) j ∙ go (nat_eq j (way w s n)) refl
    where
      go : (t : Bool) → nat_eq j (way w s n) ≡ t → cond t (mails.Hand m) (mail_at w j) ≡ mails.Empty
      go false q = clear
      go true q =
          let odd : None ≡ Some m = ap full_message (sym clear ∙ ap (mail_at w) (nat_eq-is j (way w s n) q)) ∙ e in cc

  posted-empty : (n s : ℕ) (o : Option Message) → first_of (outbox (node_at w n) s) ≡ o → n < w.count → s < w.count → mail_at w j ≡ mails.Empty →
      length (outbox (node_at w from) to) ≤ length (outbox (node_at (after_post w n s o) from) to) → mail_at (after_post w n s o) j ≡ mails.Empty
  unfolding after_post commit
  posted-empty n s None e l k clear many = clear
  posted-empty n s (Some m) e l k clear many = changed-mail w n y (way w n s) (mails.Full m) j ∙ go (nat_eq j (way w n s)) refl
    where
      y : Node
      y = commit (node_at w n) (Post s) answers.Plain

      after : World
      after = set_mail (set_node w n y) (way w n s) (mails.Full m)

      go : (t : Bool) → nat_eq j (way w n s) ≡ t → cond t (mails.Full m) (mail_at w j) ≡ mails.Empty
      go false q = clear
      go true q =
          let mine = way_tells w.count from to n s second k (sym here ∙ nat_eq-is j (way w n s) q) in
          let own : length (outbox (node_at w n) s) ≤ length (outbox (node_at after n) s) =
          subst (λ b. length (outbox (node_at w n) b) ≤ length (outbox (node_at after n) b)) mine.1
          (subst (λ a. length (outbox (node_at w a) to) ≤ length (outbox (node_at after a) to)) mine.0 many) in
          let box : outbox y s ≡ rest_of (outbox (node_at w n) s) =
          place_at-put_place [] (node_at w n).outboxes s (rest_of (outbox (node_at w n) s)) s ∙
          ap (λ t. cond t (rest_of (outbox (node_at w n) s)) (outbox (node_at w n) s)) (nat_eq-itself s) in
          let left : length (outbox (node_at after n) s) ≡ length (rest_of (outbox (node_at w n) s)) =
          ap (λ (z : Node). length (outbox z s)) (changed-node w n y (way w n s) (mails.Full m)) ∙ ap length box in
          let less = shorter m (outbox (node_at w n) s) e in absurd (omega (arith, own, left, less))

  pub empty-stays : (n : ℕ) (act : Act) → IsTaken w n act → mail_at w j ≡ mails.Empty →
      length (outbox (node_at w from) to) ≤ length (outbox (node_at (after_act w n act) from) to) → mail_at (after_act w n act) j ≡ mails.Empty
  unfolding after_act can_take post_of
  empty-stays n (Hand s) is clear many = handed-empty w j n s _ clear
  empty-stays n (Look s) is clear many = looked-empty n s (full_message (mail_at w (way w s n))) refl clear
  empty-stays n (Post s) is clear many =
      posted-empty n s (first_of (outbox (node_at w n) s)) refl is.node (below s w.count (and_first _ _ is.may)) clear many
  empty-stays n (Close e) is clear many = mail-set_node w n _ j ∙ clear
  empty-stays n (OfRouter s act) is clear many = routed-mail w n s act _ j ∙ clear
  empty-stays n Idle is clear many = clear

  -- so both stay where a step is one act at most, or a hand and the post behind it
  module _ (v : World) (b d : Books) (g h : Routes) where
    pub full-kept : (turns : List (ℕ × Act)) (x : Message) → IsOneAtMost turns → AreTurns w b g turns v d h → mail_at w j ≡ mails.Full x →
        (node_at v to).hand ≡ (node_at w to).hand → mail_at v j ≡ mails.Full x
    full-kept turns x (inl none) run full same = ap (λ z. mail_at z j) (subst (λ ts. AreTurns w b g ts v d h) none run).0 ∙ full
    full-kept turns x (inr (inl (turn, one))) run full same =
        let r = subst (λ ts. AreTurns w b g ts v d h) one run in
        ap (λ z. mail_at z j) r.1.0 ∙ full-stays x turn.0 turn.1 r.0 full (ap (λ z. (node_at z to).hand) (sym r.1.0) ∙ same)
    full-kept turns x (inr (inr (s, n, two))) run full same =
        let r = subst (λ ts. AreTurns w b g ts v d h) two run in
        ap (λ z. mail_at z j) r.1.1.0 ∙ post-keeps-full (after_act w n (Hand s)) j s n x r.1.0 (hand-keeps-full w j n s x full)

    pub empty-kept : (turns : List (ℕ × Act)) → IsOneAtMost turns → AreTurns w b g turns v d h → mail_at w j ≡ mails.Empty →
        length (outbox (node_at w from) to) ≤ length (outbox (node_at v from) to) → mail_at v j ≡ mails.Empty
    empty-kept turns (inl none) run clear many = ap (λ z. mail_at z j) (subst (λ ts. AreTurns w b g ts v d h) none run).0 ∙ clear
    empty-kept turns (inr (inl (turn, one))) run clear many =
        let r = subst (λ ts. AreTurns w b g ts v d h) one run in
        ap (λ z. mail_at z j) r.1.0 ∙ empty-stays turn.0 turn.1 r.0 clear
        (subst (λ z. length (outbox (node_at w from) to) ≤ length (outbox (node_at z from) to)) r.1.0 many)
    empty-kept turns (inr (inr (s, n, two))) run clear many =
        let r = subst (λ ts. AreTurns w b g ts v d h) two run in
        ap (λ z. mail_at z j) r.1.1.0 ∙ post-elsewhere (after_act w n (Hand s)) j s n
        (λ e. handed-apart w j n s r.0 clear (e ∙ hand-way w n s s n)) (hand-keeps-empty w j n s clear)
