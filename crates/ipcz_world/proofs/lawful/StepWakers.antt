-- Each step leaves a waker to who has tried for a lock, and keeps the ranks of routers.
use Rattle.ipcz_world.proofs.frames.RolesTell.{links-in}
use Rattle.std.specs.Prelude.{◌≡◌, ◌<◌, ℕ, ◌+◌, Bool, true, false, ◌&&◌, cond, nat_eq, nat_lt, if◌then◌else◌, length}
use Rattle.std.specs.Prelude.{Option, Some, None, is_some, List, [], ◌∷◌, refl}
use Rattle.std.proofs.Common.{arith, ap, sym, ◌∙◌, subst, inl, inr}
use Rattle.std.proofs.lemmas.Bool.Decides.{nat_tests}
use Rattle.std.proofs.lemmas.Bool.{and_parts}
use Rattle.std.proofs.lemmas.Option.{same_Some}
use Rattle.std.specs.Cmp.{nat_cmp_total}
use Rattle.std.specs.FinMap.{get-insert}
use Rattle.ipcz_world.proofs.facts.Tests.{false-true, nat_eq-is, not_both}
use Rattle.ipcz_world.proofs.Vocabulary.{Side, End, LinkId, Central, Message, Refusal, Router, open_word, Found, World, Key, node_at, word_at}
use Rattle.ipcz_world.proofs.Vocabulary.{mail_at, router_at, Books, Records, Inv, has_primary, IsUnderWay, proxy_side, Act, Hand, Close, Node, outbox}
use Rattle.ipcz_world.proofs.Vocabulary.{commit, router_in, after_act, can_take, hand_message, set_node, set_word, set_claimed, set_mail, way}
use Rattle.ipcz_world.proofs.Vocabulary.{is_linked, is_begun, router_has, unless, Reply, with_router, Answer, Plain, Look, Post, Idle, link_router}
use Rattle.ipcz_world.proofs.Vocabulary.{on_found, with_outbox, put_node, put_refusal, get_node, get_refusal, close_node, close_refusal, open_node}
use Rattle.ipcz_world.proofs.Vocabulary.{serials_refusal, deliver, handle, fits, is_hand_of, source_for, Mail, Printed, Wide, Step, after_hand}
use Rattle.ipcz_world.proofs.Vocabulary.{may_act, turn_lacks_serials, is_full, is_clear, Effect, GivesOrNoMemory, refuse, at_node, open_with, open_on}
use Rattle.ipcz_world.proofs.Vocabulary.{open_step, close_step, claim_for_open, StepAny, FlagsAgree, IsRanked, has_unclaimed_word, flushed}
use Rattle.ipcz_base.specs.declared.parcel.Parcel as parcels
use Rattle.ipcz_base.specs.declared.message.Message.TheVariants as messages
use Rattle.ipcz_base.specs.declared.refusal.Refusal.TheVariants as refusals
use Rattle.ipcz_word.specs.Word.{is_held}
use Rattle.ipcz_router.specs.Router.{rouse}
use Rattle.ipcz_node.specs.declared.act.Act.TheVariants.{Router as OfRouter}
use Rattle.ipcz_world.specs.declared.mail.Mail.TheVariants as mails
use Rattle.ipcz_world.specs.declared.step.Step.TheVariants as steps
use Rattle.ipcz_world.specs.Owed.{HaveWakers}
use Rattle.ipcz_world.proofs.acts.Mailing.{acted-look, acted-post}
use Rattle.ipcz_world.proofs.facts.Finding.{found_tells, found_there}
use Rattle.ipcz_world.proofs.facts.Lengths.{same_side-itself}
use Rattle.ipcz_world.proofs.frames.Frames.{node-set_node, node-set_word, node-set_claimed, node-set_mail, mail-set_node, word-set_node}
use Rattle.ipcz_world.proofs.frames.Frames.{word-set_mail}
use Rattle.ipcz_world.proofs.frames.Frames.{word-set_word, word-set_claimed, count-set_node, count-set_word, count-set_claimed}
use Rattle.ipcz_world.proofs.frames.Frames.{mail-set_claimed, mail-set_word}
use Rattle.ipcz_world.proofs.acts.Handling.{IsInHand, under_way-hand}
use Rattle.ipcz_world.proofs.lawful.LinkLaws.{on_tells}
use Rattle.ipcz_world.proofs.acts.Routing.{next_not_linked}
use Rattle.ipcz_world.proofs.runs.NodeSteps.{hand-is}
use Rattle.ipcz_world.proofs.frames.Telling.{IsAccept, accept_told}
use Rattle.ipcz_world.proofs.lawful.Going.{IsCounted, Goes, Changes, goes-by, changes-itself, changes-else}
use Rattle.ipcz_world.proofs.lawful.Acting.{NeedsHeld, deliver-goes, put-changes, get-changes, close-changes, pending-changes, open-goes}
use Rattle.ipcz_world.proofs.lawful.Moving.{Stays, Never, Handed, stays-node, stays-look, stays-post, stays-hand}
use Rattle.ipcz_world.proofs.lawful.Tracking.{Tracks, tracks-node, tracks-same, KeepsFlush, HaveWakersOn, wakers-tracked, ranked-tracked}
use Rattle.ipcz_world.proofs.lawful.Tracking.{held-is, Came, came-tracked}
use Rattle.ipcz_world.proofs.lawful.RouterWakers.{wakers-router, ranked-router, came-router}
use Rattle.ipcz_world.proofs.frames.Having.{has_at}

-- who has tried has a waker, and ranks rise
pub record IsOwing (w : World) : Type 0 where
  pub wakers : HaveWakers w
  pub ranked : IsRanked w

-- a Flush rouses the router that it finds
flush-rouses : (n : Node) (sender : ℕ) (l : LinkId) (s : Side) (source : Option ℕ) (f : Found) → link_router n l s ≡ Some f →
    router_in (deliver n sender (messages.Flush l s) source) f.serial ≡ Some (flushed f.router)
unfolding deliver handle fits on_found
flush-rouses n sender l s source f found = ap (λ o. router_in (on_found n o (λ s r. with_router n s (rouse r))) f.serial) found
    ∙ grind (arith, get-insert nat_cmp_total n.routers f.serial (flushed f.router) f.serial, nat_tests)

-- a mailbox whose message is in hand
hand_tells : (x : Mail) → is_some (hand_message x) ≡ true → (m : Message) × (x ≡ mails.Hand m)
unfolding hand_message
hand_tells mails.Empty h = cc
hand_tells (mails.Full m) h = cc
hand_tells (mails.Hand m) h = (m, refl)

-- the nat_eq-is that a test of two begins with is below
below : (a b : ℕ) (c : Bool) → (nat_lt a b && c) ≡ true → a < b
below a b c h = grind (arith, h, nat_tests)

module _ (w : World) (b : Books) (g : Records) (law : Inv w b g) (flags : FlagsAgree w) (is : IsOwing w) where
  -- what a step leaves: what is owed, and where terminals come from: those of the same ends, or they are new and open
  pub record Owes (v : World) : Type 0 where
    pub wakers : HaveWakers v
    pub ranked : IsRanked v
    pub came : Came w v

  -- nothing changes
  same : Owes w
  same = record { wakers = is.wakers; ranked = is.ranked; came = λ k y here t. inl (y, here, refl, t) }

  counted : (n : ℕ) → IsCounted (node_at w n)
  unfolding router_at
  counted n s x at = law.counts.serial (record { node = n; serial = s }) x at

  keeps-by : (i : ℕ) (v : World) → Stays Never w v → KeepsFlush i w v
  keeps-by i v stays q z side at tried on f = elim (stays f.from q.node f.place (messages.Flush (Central i) side) f.under_way) [
    | inl u ↦ record { from = f.from; place = u.0; under_way = u.1 }
    | inr u ↦ absurd u
  ]

  -- one node changes
  by_node : (v : World) (n : ℕ) (x : Node) → ((j : ℕ) → node_at v j ≡ cond (nat_eq j n) x (node_at w j)) →
      ((i : ℕ) → word_at v i ≡ word_at w i) → ((i : ℕ) → Goes i (is_held (word_at w i)) (node_at w n) x) →
      ((i : ℕ) → KeepsFlush i w v) → Owes v
  by_node v n x nodes words goes keeps = record {
    wakers = λ i. wakers-tracked i w v b g law flags (tracks-node i (is_held (word_at w i)) w v n x nodes (goes i)) (words i) (keeps i)
        (is.wakers i);
    ranked = ranked-tracked w v b g 0 (is_held (word_at w 0)) law (tracks-node 0 (is_held (word_at w 0)) w v n x nodes (goes 0)) is.ranked;
    came = came-tracked 0 (is_held (word_at w 0)) w v (tracks-node 0 (is_held (word_at w 0)) w v n x nodes (goes 0));
  }

  -- at a call
  by_call : (n : ℕ) (x : Node) → ((i : ℕ) → Changes i (is_held (word_at w i)) (node_at w n) x) → Owes (set_node w n x)
  by_call n x changes = by_node (set_node w n x) n x (node-set_node w n x) (word-set_node w n x)
      (λ i. goes-by i (is_held (word_at w i)) (node_at w n) x (changes i))
      (λ i. keeps-by i (set_node w n x) (stays-node w (set_node w n x) n x (count-set_node w n x) (node-set_node w n x)
      (mail-set_node w n x)
      (changes 0).boxes))

  put_owing : (n : ℕ) (e : End) (p : parcels.Parcel) → Owes (set_node w n (put_node (node_at w n) e p))
  put_owing n e p = by_call n _ (λ i. put-changes i (is_held (word_at w i)) (node_at w n) e p)

  get_owing : (n : ℕ) (e : End) → Owes (set_node w n (get_node (node_at w n) e))
  get_owing n e = by_call n _ (λ i. get-changes i (is_held (word_at w i)) (node_at w n) e)

  close_owing : (n : ℕ) (e : End) → Owes (set_node w n (close_node (node_at w n) e))
  close_owing n e = by_call n _ (λ i. close-changes i (is_held (word_at w i)) (node_at w n) e)

  pending_owing : (n : ℕ) (e : End) (a : Answer) → Owes (set_node w n (commit (node_at w n) (Close e) a))
  pending_owing n e a = by_call n _ (λ i. pending-changes i (is_held (word_at w i)) (node_at w n) e a)

  -- a pair is opened on a word that is no link's
  open_owing : (counted_world : World) (n i : ℕ) → ((j : ℕ) → node_at counted_world j ≡ node_at w j) →
      ((j : ℕ) → word_at counted_world j ≡ word_at w j) → ((j : ℕ) → mail_at counted_world j ≡ mail_at w j) →
      counted_world.count ≡ w.count → is_linked (g.owner i) ≡ false →
      Owes (set_word (set_node counted_world n (open_node (node_at w n) i)) i open_word)
  open_owing u n i nodes_are words_are mails_are count_is unlinked = record { wakers = wakers; ranked = ranked; came = came-tracked 0 (is_held (word_at w 0)) w v (tracks 0) }
    where
      x : Node
      x = open_node (node_at w n) i

      v : World
      v = set_word (set_node u n x) i open_word

      nodes : (j : ℕ) → node_at v j ≡ cond (nat_eq j n) x (node_at w j)
      nodes j = node-set_word (set_node u n x) i open_word j ∙ node-set_node u n x j ∙ ap (cond (nat_eq j n) x) (nodes_are j)

      goes : (j : ℕ) → Goes j (is_held (word_at w j)) (node_at w n) x
      goes j = open-goes j (is_held (word_at w j)) (node_at w n) i (counted n)

      tracks : (j : ℕ) → Tracks j (is_held (word_at w j)) w v
      tracks j = tracks-node j (is_held (word_at w j)) w v n x nodes (goes j)

      stays : Stays Never w v
      stays = stays-node w v n x (count-set_word (set_node u n x) i open_word ∙ count-set_node u n x ∙ count_is) nodes
          (λ k. mail-set_word (set_node u n x) i open_word k ∙ mail-set_node u n x k ∙ mails_are k) (goes 0).boxes

      word : (j : ℕ) → nat_eq j i ≡ false → word_at v j ≡ word_at w j
      word j e = word-set_word (set_node u n x) i open_word j ∙ ap (λ c. cond c open_word (word_at (set_node u n x) j)) e
          ∙ word-set_node u n x j ∙ words_are j

      ranked : IsRanked v
      ranked = ranked-tracked w v b g 0 (is_held (word_at w 0)) law (tracks 0) is.ranked

      wakers : HaveWakers v
      wakers j = go (nat_eq j i) refl
        where
          go : (c : Bool) → nat_eq j i ≡ c → HaveWakersOn j v
          go false e = wakers-tracked j w v b g law flags (tracks j) (word j e) (keeps-by j v stays) (is.wakers j)
          go true e = λ k y s at tried on. elim ((tracks j).routers k y at) [
            | inl t ↦ let old = t.2.tried s tried on in
                let link = (on_tells w b g k t.0 j s law t.1 old.1).linked in
                absurd (not_both (is_linked (g.owner i)) (subst (λ a. is_linked (g.owner a) ≡ true) (nat_eq-is j i e) link) unlinked)
            | inr t ↦ false-true (sym t.1.untried ∙ tried)
          ]

  claim_owing : (n : ℕ) → Owes (claim_for_open w n)
  claim_owing n = by_node (claim_for_open w n) n x (λ j. node-set_claimed u (w.claimed + 1) j ∙ node-set_node w n x j)
      (λ i. word-set_claimed u (w.claimed + 1) i ∙ word-set_node w n x i)
      (λ i. goes-by i (is_held (word_at w i)) (node_at w n) x (same i)) (λ i. keeps-by i (claim_for_open w n) stays)
    where
      x : Node
      x = record (node_at w n) { opening = Some w.claimed }

      u : World
      u = set_node w n x

      same : (i : ℕ) → Changes i (is_held (word_at w i)) (node_at w n) x
      same i = changes-else i (is_held (word_at w i)) (node_at w n) (node_at w n) x (changes-itself i (is_held (word_at w i)) (node_at w n))
          refl refl refl (omega arith) refl

      stays : Stays Never w (claim_for_open w n)
      stays = stays-node w (claim_for_open w n) n x (count-set_claimed u (w.claimed + 1) ∙ count-set_node w n x)
          (λ j. node-set_claimed u (w.claimed + 1) j ∙ node-set_node w n x j)
          (λ k. mail-set_claimed u (w.claimed + 1) k ∙ mail-set_node w n x k) (same 0).boxes

  -- a message is handed over
  module _ (n from : ℕ) (m : Message) (in_hand : IsInHand w n from m) where
    abbrev x : Node
    x = deliver (node_at w n) from m (source_for w m)

    abbrev v : World
    v = set_mail (set_node w n x) (way w from n) mails.Empty

    needs : (i : ℕ) (z : Message) → z ≡ m → NeedsHeld i (is_held (word_at w i)) z
    needs i (messages.AcceptBypass old side fresh length) e = λ same.
        let told : IsAccept g from n old side fresh length = accept_told w g from n 0 old side fresh length law.controls
        (subst (λ z. IsUnderWay w from n 0 z) (sym e) (under_way-hand w n from m in_hand)) in
        let begun : is_begun (g.bypass old) ≡ true = grind (arith, told.stage, nat_tests) in
        subst (λ j. is_held (word_at w j) ≡ true) same (held-is (word_at w old) (proxy_side g old)
        ((law.words.each old).begun_holder (proxy_side g old) begun ∙ same_side-itself (proxy_side g old)))
    needs i other e = record {}

    goes : (i : ℕ) → Goes i (is_held (word_at w i)) (node_at w n) x
    goes i = deliver-goes i (is_held (word_at w i)) (node_at w n) from m (source_for w m) (counted n) (needs i m refl)

    nodes : (j : ℕ) → node_at v j ≡ cond (nat_eq j n) x (node_at w j)
    nodes j = node-set_mail (set_node w n x) (way w from n) mails.Empty j ∙ node-set_node w n x j

    stays : Stays (Handed from n m) w v
    stays = stays-hand w n from m x in_hand.node in_hand.mail (goes 0).boxes

    -- who gets a Flush has tried no more
    roused : (i : ℕ) (k : Key) (z y : Router) (s : Side) → k.node ≡ n → m ≡ messages.Flush (Central i) s → router_at w k ≡ Some y →
        has_primary (Central i) s y ≡ true → router_at v k ≡ Some z → z.tried ≡ true → ⊥
    unfolding router_at
    roused i k z y s node flush here on at tried = untried (same_Some (rouse f.0.router) z (sym now ∙ at))
      where
        has_it : router_has y (Central i) s ≡ true
        has_it = grind (arith, on)

        f : (f : Found) × (link_router (node_at w k.node) (Central i) s ≡ Some f)
        f = found_there (node_at w k.node) (λ r. router_has r (Central i) s) k.serial y here has_it

        t : (router_in (node_at w k.node) f.0.serial ≡ Some f.0.router) × (router_has f.0.router (Central i) s ≡ true)
        t = found_tells (node_at w k.node) (λ r. router_has r (Central i) s) f.0 f.1

        key : k ≡ record { node = k.node; serial = f.0.serial }
        key = same_Some k _ (sym ((has_at w g k y (Central i) s (links-in law) here has_it).router) ∙
            (has_at w g (record { node = k.node; serial = f.0.serial }) f.0.router (Central i) s (links-in law) t.0 t.1).router)

        serial : k.serial ≡ f.0.serial
        serial = ap (λ a. a.serial) key

        node_is : node_at v k.node ≡ deliver (node_at w k.node) from (messages.Flush (Central i) s) (source_for w m)
        node_is = nodes k.node ∙ go (nat_eq k.node n) refl ∙ ap (λ a. deliver (node_at w a) from m (source_for w m)) (sym node)
            ∙ ap (λ a. deliver (node_at w k.node) from a (source_for w m)) flush
          where
            go : (c : Bool) → nat_eq k.node n ≡ c → cond c x (node_at w k.node) ≡ x
            go true e = refl
            go false e = absurd (apart k.node n e node)
              where
                apart : (j i : ℕ) → nat_eq j i ≡ false → j ≡ i → ⊥
                apart j i f q = grind (arith, f, q, nat_tests)

        now : router_in (node_at v k.node) k.serial ≡ Some (flushed f.0.router)
        now = ap (λ a. router_in a k.serial) node_is
            ∙ ap (router_in (deliver (node_at w k.node) from (messages.Flush (Central i) s) (source_for w m))) serial
            ∙ flush-rouses (node_at w k.node) from (Central i) s (source_for w m) f.0 f.1

        untried : flushed f.0.router ≡ z → ⊥
        untried e = false-true (ap (λ a. a.tried) e ∙ tried)

    hand_owing : Owes v
    hand_owing = by_node v n x nodes (λ i. word-set_mail (set_node w n x) (way w from n) mails.Empty i ∙ word-set_node w n x i) goes keeps
      where
        keeps : (i : ℕ) → KeepsFlush i w v
        keeps i k z s at tried on f = elim (stays f.from k.node f.place (messages.Flush (Central i) s) f.under_way) [
          | inl u ↦ record { from = f.from; place = u.0; under_way = u.1 }
          | inr u ↦ elim ((tracks-node i (is_held (word_at w i)) w v n x nodes (goes i)).routers k z at) [
            | inl t ↦ let old = t.2.tried s tried on in absurd (roused i k z t.0 s u.1 (sym u.2) t.1 old.1 at tried)
            | inr t ↦ false-true (sym t.1.untried ∙ tried)
          ]
        ]

  look_owing : (n from : ℕ) (m : Message) → n < w.count → mail_at w (way w from n) ≡ mails.Full m → Owes (after_act w n (Look from))
  look_owing n from m ln full = subst Owes (sym (acted-look w n from m full)) (by_node v n x
      (λ j. node-set_mail (set_node w n x) (way w from n) (mails.Hand m) j ∙ node-set_node w n x j)
      (λ i. word-set_mail (set_node w n x) (way w from n) (mails.Hand m) i ∙ word-set_node w n x i)
      (λ i. goes-by i (is_held (word_at w i)) (node_at w n) x (changes-else i (is_held (word_at w i)) (node_at w n) (node_at w n) x
      (changes-itself i (is_held (word_at w i)) (node_at w n)) refl refl refl (omega arith) refl))
      (λ i. keeps-by i v (stays-look w n from m ln full)))
    where
      x : Node
      x = record (node_at w n) { hand = Some from }

      v : World
      v = set_mail (set_node w n x) (way w from n) (mails.Hand m)

  post_owing : (n to : ℕ) (m : Message) (rest : List Message) → to < w.count → outbox (node_at w n) to ≡ m ∷ rest →
      mail_at w (way w n to) ≡ mails.Empty → Owes (after_act w n (Post to))
  unfolding router_at
  post_owing n to m rest lt waits clear = subst Owes (sym (acted-post w n to m rest waits)) (record {
    wakers = λ i. wakers-tracked i w v b g law flags (tracks-same i (is_held (word_at w i)) w v same_routers)
        (word-set_mail (set_node w n x) (way w n to) (mails.Full m) i ∙ word-set_node w n x i)
        (keeps-by i v (stays-post w n to m rest lt waits clear)) (is.wakers i);
    ranked = ranked-tracked w v b g 0 true law (tracks-same 0 true w v same_routers) is.ranked;
    came = came-tracked 0 true w v (tracks-same 0 true w v same_routers);
  })
    where
      x : Node
      x = with_outbox (node_at w n) to rest

      v : World
      v = set_mail (set_node w n x) (way w n to) (mails.Full m)

      same_routers : (k : Key) → router_in (node_at v k.node) k.serial ≡ router_in (node_at w k.node) k.serial
      same_routers k = ap (λ a. router_in a k.serial) (node-set_mail (set_node w n x) (way w n to) (mails.Full m) k.node
          ∙ node-set_node w n x k.node)
          ∙ go (nat_eq k.node n) refl
        where
          go : (c : Bool) → nat_eq k.node n ≡ c →
              router_in (cond c x (node_at w k.node)) k.serial ≡ router_in (node_at w k.node) k.serial
          go true e = ap (λ a. router_in (node_at w a) k.serial) (sym (nat_eq-is k.node n e))
          go false e = refl

  -- any act that a turn may take
  pub act_owing : (n : ℕ) (act : Act) → n < w.count → can_take w n act ≡ true → Owes (after_act w n act)
  unfolding can_take may_act after_act after_hand hand_message is_full is_clear commit
  act_owing n (Hand from) l can =
      let t = and_parts (is_hand_of (node_at w n).hand from) (is_some (hand_message (mail_at w (way w from n)))) can in
      let m = hand_tells (mail_at w (way w from n)) t.1 in
      let hand : (node_at w n).hand ≡ Some from = hand-is (node_at w n).hand from t.0 in
      let is : IsInHand w n from m.0 = record { node = l; sender = law.counts.hand_from n from l hand; mail = m.1; hand = hand } in
      subst (λ y. Owes (after_hand w n from (hand_message y))) (sym m.1) (hand_owing n from m.0 is)
  act_owing n (Look from) l can = at (node_at w n).hand (mail_at w (way w from n)) refl refl
    where
      at : (h : Option ℕ) (y : Mail) → (node_at w n).hand ≡ h → mail_at w (way w from n) ≡ y → Owes (after_act w n (Look from))
      at (Some p) y e f = absurd (grind (arith, can, e))
      at None mails.Empty e f = absurd (grind (arith, can, e, f))
      at None (mails.Hand m) e f = absurd (grind (arith, can, e, f))
      at None (mails.Full m) e f = look_owing n from m l f
  act_owing n (Post to) l can = at (outbox (node_at w n) to) (mail_at w (way w n to)) refl refl
    where
      lt : to < w.count
      lt = below to w.count _ can

      at : (ms : List Message) (y : Mail) → outbox (node_at w n) to ≡ ms → mail_at w (way w n to) ≡ y → Owes (after_act w n (Post to))
      at [] y e f = absurd (grind (arith, can, ap (λ ms. nat_eq (length ms) 0) e))
      at (m ∷ rest) (mails.Full k) e f = absurd (grind (arith, can, f))
      at (m ∷ rest) (mails.Hand k) e f = absurd (grind (arith, can, f))
      at (m ∷ rest) mails.Empty e f = post_owing n to m rest lt e f
  act_owing n (Close e) l can = pending_owing n e Plain
  act_owing n (OfRouter s act) l can = go (router_at w (record { node = n; serial = s })) refl can
    where
      go : (o : Option Router) → router_at w (record { node = n; serial = s }) ≡ o → may_act o act ≡ true →
          Owes (after_act w n (OfRouter s act))
      go None e h = cc
      go (Some r) e h = record {
        wakers = wakers-router w b g law flags is.wakers n s act r e h;
        ranked = ranked-router w b g law flags n s act r e h is.ranked;
        came = came-router w b g law flags n s act r e h;
      }
  act_owing n Idle l can = same

  -- a refusal leaves the world
  unless_owing : (o : Option Refusal) (done : Effect) → (o ≡ None → Owes done.world) → Owes (unless w o done).world
  unfolding unless
  unless_owing None done after = after refl
  unless_owing (Some why) done after = same

  node_owing : (n : ℕ) (done : Effect) → (n < w.count → Owes done.world) → Owes (at_node w n done).world
  node_owing n done after = go (nat_lt n w.count) refl
    where
      go : (c : Bool) → nat_lt n w.count ≡ c → Owes (if c then done else refuse w refusals.Stranger).world
      go true e = after (grind (arith, e, nat_tests))
      go false e = same

  opened_owing : (n : ℕ) (o : Option ℕ) → (node_at w n).opening ≡ o → Owes (open_on w n o).world
  unfolding open_on is_linked
  opened_owing n (Some i) e = unless_owing (serials_refusal (node_at w n)) _ (λ h. open_owing w n i (λ j. refl) (λ j. refl) (λ j. refl) refl
      (ap is_linked (law.spares.opening n i e)))
  opened_owing n None e = go (has_unclaimed_word w)
    where
      go : (c : Bool) → Owes (if c then open_with w (set_claimed w (w.claimed + 1)) n w.claimed else refuse w refusals.NoWord).world
      go true = unless_owing (serials_refusal (node_at w n)) _ (λ h. open_owing (set_claimed w (w.claimed + 1)) n w.claimed
          (node-set_claimed w (w.claimed + 1)) (word-set_claimed w (w.claimed + 1)) (mail-set_claimed w (w.claimed + 1))
          (count-set_claimed w (w.claimed + 1)) (next_not_linked w b g law))
      go false = same

  given_owing : (v : World) (done : Effect) (reply : Reply) → Owes done.world → GivesOrNoMemory w done reply v → Owes v
  given_owing v done reply after (inl h) = subst Owes (sym h.1) after
  given_owing v done reply after (inr (fine, (e, f))) = subst Owes (sym f) same

  -- any step
  step_owes : (v : World) (step : Step) (reply : Reply) → StepAny w step reply v → Owes v
  step_owes v (steps.Open n) reply h = given_owing v (open_step w n) reply
      (node_owing n _ (λ l. opened_owing n (node_at w n).opening refl)) h
  step_owes v (steps.Put n at bytes ends) reply (inr (l, (e, f))) = subst Owes (sym f) same
  step_owes v (steps.Put n at bytes ends) reply (inl h) =
      subst Owes (sym h.1) (node_owing n _ (λ l. unless_owing (put_refusal Printed (node_at w n) at bytes ends) _
      (λ e. put_owing n at (record { bytes = bytes; ends = ends }))))
  step_owes v (steps.PutWide n at bytes ends) reply (inr (l, (e, f))) = subst Owes (sym f) same
  step_owes v (steps.PutWide n at bytes ends) reply (inl h) =
      subst Owes (sym h.1) (node_owing n _ (λ l. unless_owing (put_refusal Wide (node_at w n) at bytes ends) _
      (λ e. put_owing n at (record { bytes = bytes; ends = ends }))))
  step_owes v (steps.Get n at) reply h = subst Owes (sym h.1)
      (node_owing n _ (λ l. unless_owing (get_refusal (node_at w n) at) _ (λ e. get_owing n at)))
  step_owes v (steps.Close n at) reply h = given_owing v (close_step w n at) reply
      (node_owing n _ (λ l. unless_owing (close_refusal (node_at w n) at) _ (λ e. close_owing n at))) h
  step_owes v (steps.Turn n) reply (act, may, inr (grows, own, fine, (e, f))) = subst Owes (sym f) same
  step_owes v (steps.Turn n) reply (act, may, inl (e, f)) =
      subst Owes (sym f) (node_owing n _ (λ l. unless_owing (if turn_lacks_serials w n act then Some refusals.NumbersEnd else None) _
      (λ e. act_owing n act l (may l))))

  pub step_owing : (v : World) (step : Step) (reply : Reply) → StepAny w step reply v → IsOwing v
  step_owing v step reply s = let o = step_owes v step reply s in record { wakers = o.wakers; ranked = o.ranked }

  pub step_came : (v : World) (step : Step) (reply : Reply) → StepAny w step reply v → Came w v
  step_came v step reply s = (step_owes v step reply s).came

  -- the first half of an open
  pub claim_for_open_owing : (n : ℕ) → IsOwing (claim_for_open w n)
  claim_for_open_owing n = let o = claim_owing n in record { wakers = o.wakers; ranked = o.ranked }
