-- Each act of a router leaves a waker to who has tried, and keeps ranks.
use Rattle.ipcz_world.proofs.frames.RolesTell.{links-in}
use Rattle.std.specs.Prelude.{◌≡◌, ◌<◌, ℕ, suc, ◌+◌, Bool, true, false, cond, nat_eq, if◌then◌else◌}
use Rattle.std.specs.Prelude.{Option, Some, None, List, [], ◌∷◌, ◌++◌, slice_get, refl}
use Rattle.std.proofs.Common.{arith, ap, sym, ◌∙◌, subst, inl, inr}
use Rattle.std.proofs.lemmas.Bool.Decides.{nat_tests}
use Rattle.std.proofs.lemmas.Option.{same_Some, none-some}
use Rattle.ipcz_world.proofs.facts.Tests.{nat_eq-is, nat_eq-itself}
use Rattle.ipcz_world.proofs.Vocabulary.{Side, Central, LinkEnd, Message, opposite, Router, is_possible, primary_word, word_of, World, Key, node_at}
use Rattle.ipcz_world.proofs.Vocabulary.{word_at, mail_at, router_at, Books, Records, Inv, IsUnderWay, Word, RouterAct, Node, outbox, commit}
use Rattle.ipcz_world.proofs.Vocabulary.{router_in, answer_of, after_act, set_node, set_word, set_claimed, way, messages_in, set_router, side_node}
use Rattle.ipcz_world.proofs.Vocabulary.{IsRecorded, Plan, Locks, Waits, Refuses, plan_of, is_rest, may_take, push_out, after_router_act, source_of}
use Rattle.ipcz_world.proofs.Vocabulary.{touch, touch_word, FlagsAgree, IsRanked, leaves_by, has_unclaimed_word}
use Rattle.ipcz_base.specs.declared.message.Message.TheVariants as messages
use Rattle.ipcz_base.proofs.Indexed.{place_at-put_place}
use Rattle.ipcz_word.specs.Word.{is_held, mark, lock, wait, unlock}
use Rattle.ipcz_router.specs.ActEffects.{mark_side, wake_other, take_lock, fail_lock, drop_lock}
use Rattle.ipcz_router.specs.declared.act.RouterAct.TheVariants as acts
use Rattle.ipcz_node.specs.declared.act.Act.TheVariants.{Router as OfRouter}
use Rattle.ipcz_world.proofs.facts.Updates.{push_message}
use Rattle.ipcz_world.specs.WordAnswers.{claim_next}
use Rattle.ipcz_world.proofs.facts.Updates.{wake_act}
use Rattle.ipcz_world.specs.Owed.{HasFlush, HaveWakers}
use Rattle.ipcz_world.proofs.acts.Marking.{acted-mark}
use Rattle.ipcz_world.proofs.acts.ActedWords.{acted-lock, acted-unlock}
use Rattle.ipcz_world.proofs.acts.Updating.{acted-wake}
use Rattle.ipcz_world.proofs.facts.NodeCount.{count-touch}
use Rattle.ipcz_world.proofs.frames.Changing.{flow_is}
use Rattle.ipcz_world.proofs.frames.Frames.{node-set_node, node-set_word, node-set_claimed, mail-set_node, mail-set_word, mail-set_claimed}
use Rattle.ipcz_world.proofs.frames.Frames.{word-set_node, word-set_word, word-set_claimed, router-set_word, router-set_router}
use Rattle.ipcz_world.proofs.frames.Frames.{count-set_node, count-set_word}
use Rattle.ipcz_world.proofs.lawful.LinkLaws.{link_law}
use Rattle.ipcz_world.proofs.lawful.Departures.{leaving_held}
use Rattle.ipcz_world.proofs.lawful.Following.{able-tells}
use Rattle.ipcz_world.proofs.lawful.Going.{IsOff, Changes, goes-by}
use Rattle.ipcz_world.proofs.lawful.Acting.{is_wordy, is_begin, act-changes}
use Rattle.ipcz_world.proofs.lawful.Moving.{Stays, Never, stays-node}
use Rattle.ipcz_world.proofs.lawful.Tracking.{Came, came-tracked, tracks-node, KeepsFlush, HaveWakersOn, wakers-tracked, ranked-tracked, held-is}
use Rattle.ipcz_world.proofs.lawful.WordWakers.{IsOnWord, wakers-mark, wakers-locked, wakers-waits, wakers-refused, wakers-unlock}
use Rattle.ipcz_world.proofs.lawful.WordWakers.{wakers-wake}
use Rattle.ipcz_world.specs.WordAnswers.{tells_waiting, woken}
use Rattle.ipcz_world.proofs.facts.Updates.{tells_wake}

node-touch_word : (w : World) (s : Side) (source : Option ℕ) (a : RouterAct) (o : Option ℕ) (j : ℕ) → node_at
    (touch_word w s source a o) j ≡ node_at w j
unfolding touch_word
node-touch_word w s source a None j = refl
node-touch_word w s source a (Some i) j = node-set_word w i _ j

node-claim_next : (w : World) (j : ℕ) → node_at (claim_next w) j ≡ node_at w j
node-claim_next w j = go (has_unclaimed_word w)
  where
    go : (c : Bool) → node_at (if c then set_claimed w (w.claimed + 1) else w) j ≡ node_at w j
    go true = node-set_claimed w (w.claimed + 1) j
    go false = refl

node-touch : (w : World) (r : Router) (a : RouterAct) (j : ℕ) → node_at (touch w r a) j ≡ node_at w j
unfolding touch
node-touch w r acts.Mark j = node-touch_word w r.end.side (source_of r) acts.Mark (primary_word r) j
node-touch w r acts.Wake j = node-touch_word w r.end.side (source_of r) acts.Wake (primary_word r) j
node-touch w r acts.Claim j = node-claim_next w j
node-touch w r acts.Lock j = node-touch_word w r.end.side (source_of r) acts.Lock (primary_word r) j
node-touch w r acts.Unlock j = node-touch_word w r.end.side (source_of r) acts.Unlock (primary_word r) j
node-touch w r other j = refl

mail-touch_word : (w : World) (s : Side) (source : Option ℕ) (a : RouterAct) (o : Option ℕ) (j : ℕ) → mail_at
    (touch_word w s source a o) j ≡ mail_at w j
unfolding touch_word
mail-touch_word w s source a None j = refl
mail-touch_word w s source a (Some i) j = mail-set_word w i _ j

mail-claim_next : (w : World) (j : ℕ) → mail_at (claim_next w) j ≡ mail_at w j
mail-claim_next w j = go (has_unclaimed_word w)
  where
    go : (c : Bool) → mail_at (if c then set_claimed w (w.claimed + 1) else w) j ≡ mail_at w j
    go true = mail-set_claimed w (w.claimed + 1) j
    go false = refl

pub mail-touch : (w : World) (r : Router) (a : RouterAct) (j : ℕ) → mail_at (touch w r a) j ≡ mail_at w j
unfolding touch
mail-touch w r acts.Mark j = mail-touch_word w r.end.side (source_of r) acts.Mark (primary_word r) j
mail-touch w r acts.Wake j = mail-touch_word w r.end.side (source_of r) acts.Wake (primary_word r) j
mail-touch w r acts.Claim j = mail-claim_next w j
mail-touch w r acts.Lock j = mail-touch_word w r.end.side (source_of r) acts.Lock (primary_word r) j
mail-touch w r acts.Unlock j = mail-touch_word w r.end.side (source_of r) acts.Unlock (primary_word r) j
mail-touch w r other j = refl

-- the words of other links are as they were
word-touch_word : (w : World) (s : Side) (source : Option ℕ) (a : RouterAct) (o : Option ℕ) (i : ℕ) → (o ≡ Some i → ⊥) →
    word_at (touch_word w s source a o) i ≡ word_at w i
unfolding touch_word
word-touch_word w s source a None i apart = refl
word-touch_word w s source a (Some j) i apart = word-set_word w j _ i ∙ off (nat_eq i j) _ _ (go (nat_eq i j) refl)
  where
    off : (c : Bool) (x y : Word) → c ≡ false → cond c x y ≡ y
    off true x y e = cc
    off false x y e = refl

    go : (c : Bool) → nat_eq i j ≡ c → nat_eq i j ≡ false
    go true e = absurd (apart (ap Some (sym (nat_eq-is i j e))))
    go false e = e

word-claim_next : (w : World) (j : ℕ) → word_at (claim_next w) j ≡ word_at w j
word-claim_next w j = go (has_unclaimed_word w)
  where
    go : (c : Bool) → word_at (if c then set_claimed w (w.claimed + 1) else w) j ≡ word_at w j
    go true = word-set_claimed w (w.claimed + 1) j
    go false = refl

word-touch : (w : World) (r : Router) (a : RouterAct) (i : ℕ) → (is_wordy a ≡ true → primary_word r ≡ Some i → ⊥) →
    word_at (touch w r a) i ≡ word_at w i
unfolding touch is_wordy
word-touch w r acts.Mark i apart = word-touch_word w r.end.side (source_of r) acts.Mark (primary_word r) i (apart refl)
word-touch w r acts.Wake i apart = word-touch_word w r.end.side (source_of r) acts.Wake (primary_word r) i (apart refl)
word-touch w r acts.Claim i apart = word-claim_next w i
word-touch w r acts.Lock i apart = word-touch_word w r.end.side (source_of r) acts.Lock (primary_word r) i (apart refl)
word-touch w r acts.Unlock i apart = word-touch_word w r.end.side (source_of r) acts.Unlock (primary_word r) i (apart refl)
word-touch w r other i apart = refl

-- a message that was pushed is under way
last-there : (xs ys : List Message) (m : Message) → (j : ℕ) × (slice_get (xs ++ (ys ++ m ∷ [])) j ≡ Some m)
last-there [] [] m = (0, refl)
last-there [] (y ∷ ys) m = let t = last-there [] ys m in (suc t.0, t.1)
last-there (x ∷ xs) ys m = let t = last-there xs ys m in (suc t.0, t.1)

pushed-there : (w : World) (n to : ℕ) (m : Message) → n < w.count → to < w.count → (j : ℕ) × IsUnderWay (push_message w n to m) n to j m
pushed-there w n to m ln lt = (
  t.0,
  record {
    sender = subst (λ z. n < z) (sym (count-set_node w n x)) ln;
    receiver = subst (λ z. to < z) (sym (count-set_node w n x)) lt;
    place = subst (λ ms. slice_get ms t.0 ≡ Some m) (sym (flow_is v n to ∙ ap (λ z. messages_in (mail_at v (way v n to)) ++ z) box)) t.1;
  },
)
  where
    x : Node
    x = push_out (node_at w n) to m

    v : World
    v = set_node w n x

    box : outbox (node_at v n) to ≡ outbox (node_at w n) to ++ m ∷ []
    box = ap (λ z. outbox z to) (node-set_node w n x n ∙ ap (λ c. cond c x (node_at w n)) (nat_eq-itself n))
        ∙ place_at-put_place [] (node_at w n).outboxes to (outbox (node_at w n) to ++ m ∷ []) to
        ∙ ap (λ c. cond c (outbox (node_at w n) to ++ m ∷ []) (outbox (node_at w n) to)) (nat_eq-itself to)

    t : (j : ℕ) × (slice_get (messages_in (mail_at v (way v n to)) ++ (outbox (node_at w n) to ++ m ∷ [])) j ≡ Some m)
    t = last-there (messages_in (mail_at v (way v n to))) (outbox (node_at w n) to) m

-- a push leaves the routers
push-router : (u : World) (n to : ℕ) (m : Message) (q : Key) → router_at (push_message u n to m) q ≡ router_at u q
unfolding router_at
push-router u n to m q = ap (λ z. router_in z q.serial) (node-set_node u n (push_out (node_at u n) to m) q.node) ∙ go (nat_eq q.node n) refl
  where
    go : (c : Bool) → nat_eq q.node n ≡ c →
        router_in (cond c (push_out (node_at u n) to m) (node_at u q.node)) q.serial ≡ router_in (node_at u q.node) q.serial
    go true e = let same : q.node ≡ n = nat_eq-is q.node n e in ap (λ z. router_in (node_at u z) q.serial) (sym same)
    go false e = refl

-- a router that may begin holds the lock
begin_holds : (r : Router) (a : RouterAct) → may_take r a ≡ true → is_begin a ≡ true → r.holds ≡ true
unfolding is_begin is_possible is_rest
begin_holds r acts.Begin may h = grind (arith, may)
begin_holds r other may h = cc

module _ (w : World) (b : Books) (g : Records) (law : Inv w b g) (flags : FlagsAgree w) (n s : ℕ) (act : RouterAct) (r : Router)
    (here : router_at w (record { node = n; serial = s }) ≡ Some r) (may : may_take r act ≡ true) where
  abbrev k : Key
  k = record { node = n; serial = s }

  abbrev x : Node
  x = commit (node_at w n) (OfRouter s act) (answer_of w r act)

  abbrev v : World
  v = after_act w n (OfRouter s act)

  acted : v ≡ set_node (touch w r act) n x
  unfolding after_act after_router_act
  acted = rw here refl

  inside : router_in (node_at w n) s ≡ Some r
  unfolding router_at
  inside = here

  nodes : (j : ℕ) → node_at v j ≡ cond (nat_eq j n) x (node_at w j)
  nodes j = ap (λ z. node_at z j) acted ∙ node-set_node (touch w r act) n x j ∙ ap (cond (nat_eq j n) x) (node-touch w r act j)

  count : v.count ≡ w.count
  count = ap (λ (z : World). z.count) acted ∙ count-set_node (touch w r act) n x ∙ count-touch w r act

  mail : (j : ℕ) → mail_at v j ≡ mail_at w j
  mail j = ap (λ z. mail_at z j) acted ∙ mail-set_node (touch w r act) n x j ∙ mail-touch w r act j

  word : (i : ℕ) → (is_wordy act ≡ true → primary_word r ≡ Some i → ⊥) → word_at v i ≡ word_at w i
  word i apart = ap (λ z. word_at z i) acted ∙ word-set_node (touch w r act) n x i ∙ word-touch w r act i apart

  begins : (i : ℕ) → is_begin act ≡ true → IsOff i (is_held (word_at w i)) r
  begins i e side on = held-is (word_at w i) side (sym ((link_law w b g law).holds k r i side here on) ∙ holds act refl e)
    where
      holds : (a : RouterAct) → act ≡ a → is_begin a ≡ true → r.holds ≡ true
      holds a q h = begin_holds r a (subst (λ z. may_take r z ≡ true) q may) h

  leaves : (i : ℕ) → leaves_by r act ≡ true → IsOff i (is_held (word_at w i)) r
  leaves i e side on = elim (leaving_held w b g law k r act here may e i side on) [
    | inl h ↦ held-is (word_at w i) side h
    | inr h ↦ held-is (word_at w i) (opposite side) h
  ]

  changes : (i : ℕ) → (is_wordy act ≡ true → primary_word r ≡ Some i → ⊥) →
      Changes i (is_held (word_at w i)) (node_at w n) x
  changes i apart = act-changes i (is_held (word_at w i)) w (node_at w n) s act r inside may apart (begins i) (leaves i)

  -- the word of another link
  elsewhere : (o : Option ℕ) → primary_word r ≡ o → (i : ℕ) × (primary_word r ≡ Some i → ⊥)
  elsewhere None e = (0, λ h. none-some 0 (sym e ∙ h))
  elsewhere (Some j) e = (suc j, λ h. apart j (same_Some j (suc j) (sym e ∙ h)))
    where
      apart : (j : ℕ) → j ≡ suc j → ⊥
      apart j e = omega (arith, e)

  stays : Stays Never w v
  stays = let t = elsewhere (primary_word r) refl in stays-node w v n x count nodes mail (changes t.0 (λ h. t.1)).boxes

  pub ranked-router : IsRanked w → IsRanked v
  ranked-router ranked = let t = elsewhere (primary_word r) refl in
      ranked-tracked w v b g t.0 (is_held (word_at w t.0)) law (tracks-node t.0 (is_held (word_at w t.0)) w v n x nodes
      (goes-by t.0 (is_held (word_at w t.0)) (node_at w n) x (changes t.0 (λ h. t.1)))) ranked

  pub came-router : Came w v
  came-router = let t = elsewhere (primary_word r) refl in
      came-tracked t.0 (is_held (word_at w t.0)) w v (tracks-node t.0 (is_held (word_at w t.0)) w v n x nodes
      (goes-by t.0 (is_held (word_at w t.0)) (node_at w n) x (changes t.0 (λ h. t.1))))

  keeps : (i : ℕ) → KeepsFlush i w v
  keeps i q z side at tried on f = elim (stays f.from q.node f.place (messages.Flush (Central i) side) f.under_way) [
    | inl u ↦ record { from = f.from; place = u.0; under_way = u.1 }
    | inr u ↦ absurd u
  ]

  aside : HaveWakers w → (i : ℕ) → (is_wordy act ≡ true → primary_word r ≡ Some i → ⊥) → HaveWakersOn i v
  aside wakers i apart = wakers-tracked i w v b g law flags (tracks-node i (is_held (word_at w i)) w v n x nodes
      (goes-by i (is_held (word_at w i)) (node_at w n) x (changes i apart))) (word i apart) (keeps i) (wakers i)

  -- the word of its link
  on_word : (i : ℕ) (y : Router) (z : Word) → primary_word r ≡ Some i → y.outward ≡ r.outward → v ≡ set_word (set_router w k y) i z →
      IsOnWord w v k r y i z
  on_word i y z link outward is = record {
    here = here;
    routers = λ q. ap (λ u. router_at u q) is ∙ router-set_word (set_router w k y) i z q ∙ router-set_router w k y q;
    word = ap (λ u. word_at u i) is ∙ word-set_word (set_router w k y) i z i ∙ ap (λ c. cond c z (word_at (set_router w k y) i))
        (nat_eq-itself i);
    stays = stays;
    link = link;
    outward = outward;
  }

  on_wake : (i : ℕ) (e : LinkEnd) → primary_word r ≡ Some i → v ≡ wake_act w k r i e →
      IsOnWord w v k r (wake_other r) i (woken (word_at w i) r.end.side)
  on_wake i e link is = record {
    here = here;
    routers = λ q. ap (λ u. router_at u q) is ∙ push-router u n e.other m q ∙ router-set_word (set_router w k (wake_other r)) i z q
        ∙ router-set_router w k (wake_other r) q;
    word = ap (λ a. word_at a i) is ∙ word-set_node u n (push_out (node_at u n) e.other m) i ∙ word-set_word
        (set_router w k (wake_other r)) i z i
        ∙ ap (λ c. cond c z (word_at (set_router w k (wake_other r)) i)) (nat_eq-itself i);
    stays = stays;
    link = link;
    outward = refl;
  }
    where
      z : Word
      z = woken (word_at w i) r.end.side

      u : World
      u = set_word (set_router w k (wake_other r)) i z

      m : Message
      m = tells_wake e

-- the acts on a word, at the link of that word
module _ (w : World) (b : Books) (g : Records) (law : Inv w b g) (flags : FlagsAgree w) (wakers : HaveWakers w) (n s : ℕ) (r : Router)
    (here : router_at w (record { node = n; serial = s }) ≡ Some r) (i : ℕ) (link : primary_word r ≡ Some i) where
  abbrev at : Key
  at = record { node = n; serial = s }

  possible : (a : RouterAct) → is_rest a ≡ false → may_take r a ≡ true → is_possible r a ≡ true
  unfolding is_rest
  possible a e may = grind (arith, e, may)

  mark_wakers : may_take r acts.Mark ≡ true → HaveWakersOn i (after_act w n (OfRouter s acts.Mark))
  unfolding is_possible is_rest
  mark_wakers may = wakers-mark w _ b g law flags at r (mark_side r (tells_waiting (word_at w i) r.end.side)) i
      (mark (word_at w i) r.end.side) (on_word w b g law flags n s acts.Mark r here may i _ _ link refl
      (acted-mark w n s i r here link)) wakers
      refl refl (bare (possible acts.Mark refl may))
    where
      bare : is_possible r acts.Mark ≡ true → r.marked ≡ false
      bare h = grind (arith, h)

  unlock_wakers : may_take r acts.Unlock ≡ true → HaveWakersOn i (after_act w n (OfRouter s acts.Unlock))
  unfolding is_rest
  unlock_wakers may = wakers-unlock w _ b g law flags at r (drop_lock r) i (unlock (word_at w i) r.end.side)
      (on_word w b g law flags n s acts.Unlock r here may i _ _ link refl (acted-unlock w n s i r here link)) wakers refl
      (possible acts.Unlock refl may)

  lock_wakers : may_take r acts.Lock ≡ true → HaveWakersOn i (after_act w n (OfRouter s acts.Lock))
  unfolding is_rest
  lock_wakers may = go (plan_of (word_at w i) r.end.side) refl
    where
      able : is_possible r acts.Lock ≡ true
      able = possible acts.Lock refl may

      go : (plan : Plan) → plan_of (word_at w i) r.end.side ≡ plan → HaveWakersOn i (after_act w n (OfRouter s acts.Lock))
      go Locks e = wakers-locked w _ b g law flags at r (take_lock r) i (lock (word_at w i) r.end.side (source_of r))
          (on_word w b g law flags n s acts.Lock r here may i _ _ link refl (acted-lock w n s i r Locks here link e)) wakers refl
          (source_of r) refl
          (able-tells r able).untried
      go Waits e = wakers-waits w _ b g law flags at r (fail_lock r) i (wait (word_at w i) r.end.side)
          (on_word w b g law flags n s acts.Lock r here may i _ _ link refl (acted-lock w n s i r Waits here link e)) wakers e refl refl
      go Refuses e = wakers-refused w _ b g law flags at r (fail_lock r) i (word_at w i)
          (on_word w b g law flags n s acts.Lock r here may i _ _ link refl (acted-lock w n s i r Refuses here link e)) wakers e refl refl
          (able-tells r able).marked (able-tells r able).free

  wake_wakers : may_take r acts.Wake ≡ true → HaveWakersOn i (after_act w n (OfRouter s acts.Wake))
  unfolding side_node word_of
  wake_wakers may = wakers-wake w v b g law flags at r (wake_other r) i (woken (word_at w i) r.end.side) is wakers refl refl sends
    where
      v : World
      v = after_act w n (OfRouter s acts.Wake)

      e : (e : LinkEnd) × (r.outward.primary ≡ Some e)
      e = primary r.outward.primary refl link
        where
          primary : (o : Option LinkEnd) → r.outward.primary ≡ o → word_of o ≡ Some i → (e : LinkEnd) × (r.outward.primary ≡ Some e)
          primary None q h = cc
          primary (Some z) q h = (z, q)

      acted-is : v ≡ wake_act w at r i e.0
      acted-is = acted-wake w n s i r e.0 here link e.1

      is : IsOnWord w v at r (wake_other r) i (woken (word_at w i) r.end.side)
      is = on_wake w b g law flags n s acts.Wake r here may i e.0 link acted-is

      sends : (e : LinkEnd) → r.outward.primary ≡ Some e → e.link ≡ Central i → e.side ≡ r.end.side → HasFlush v i
          (opposite r.end.side) e.other
      sends e q l d = record { from = n; place = t.0; under_way = under }
        where
          u : World
          u = set_word (set_router w at (wake_other r)) i (woken (word_at w i) r.end.side)

          rec : IsRecorded w g at r e
          rec = ((links-in law) at r here).primary e q

          count_is : u.count ≡ w.count
          count_is = count-set_word (set_router w at (wake_other r)) i _ ∙ count-set_node w n _

          t : (j : ℕ) × IsUnderWay (push_message u n e.other (tells_wake e)) n e.other j
              (tells_wake e)
          t = pushed-there u n e.other (tells_wake e)
              (subst (λ z. n < z) (sym count_is) (law.counts.on_node at r here))
              (subst (λ z. e.other < z) (sym count_is) (subst (λ z. z < w.count) (sym rec.other)
              (law.counts.side_on_node e.link (opposite e.side) rec.recorded)))

          under : IsUnderWay v n e.other t.0 (messages.Flush (Central i) (opposite r.end.side))
          under = subst (λ z. IsUnderWay v n e.other t.0 (messages.Flush z (opposite r.end.side))) l
              (subst (λ z. IsUnderWay v n e.other t.0 (messages.Flush e.link (opposite z))) d
              (subst (λ z. IsUnderWay z n e.other t.0 (tells_wake e)) (sym (acted-wake w n s i r e here link q)) t.1))

-- an act of a router
pub wakers-router : (w : World) (b : Books) (g : Records) → Inv w b g → FlagsAgree w → HaveWakers w → (n s : ℕ) (act : RouterAct)
    (r : Router) →
    router_at w (record { node = n; serial = s }) ≡ Some r → may_take r act ≡ true → HaveWakers (after_act w n (OfRouter s act))
unfolding is_wordy
wakers-router w b g law flags wakers n s act r here may i = go (primary_word r) refl
  where
    aside_of : (is_wordy act ≡ true → primary_word r ≡ Some i → ⊥) → HaveWakersOn i (after_act w n (OfRouter s act))
    aside_of apart = aside w b g law flags n s act r here may wakers i apart

    other : (a : RouterAct) → act ≡ a → is_wordy a ≡ false → HaveWakersOn i (after_act w n (OfRouter s act))
    other a e f = aside_of (λ h. absurd (no (is_wordy act) h (ap is_wordy e ∙ f)))
      where
        no : (c : Bool) → c ≡ true → c ≡ false → ⊥
        no true p q = cc
        no false p q = cc

    own : primary_word r ≡ Some i → (a : RouterAct) → act ≡ a → HaveWakersOn i (after_act w n (OfRouter s act))
    own link acts.Mark e = subst (λ a. HaveWakersOn i (after_act w n (OfRouter s a))) (sym e)
        (mark_wakers w b g law flags wakers n s r here i link (subst (λ a. may_take r a ≡ true) e may))
    own link acts.Wake e = subst (λ a. HaveWakersOn i (after_act w n (OfRouter s a))) (sym e)
        (wake_wakers w b g law flags wakers n s r here i link (subst (λ a. may_take r a ≡ true) e may))
    own link acts.Lock e = subst (λ a. HaveWakersOn i (after_act w n (OfRouter s a))) (sym e)
        (lock_wakers w b g law flags wakers n s r here i link (subst (λ a. may_take r a ≡ true) e may))
    own link acts.Unlock e = subst (λ a. HaveWakersOn i (after_act w n (OfRouter s a))) (sym e)
        (unlock_wakers w b g law flags wakers n s r here i link (subst (λ a. may_take r a ≡ true) e may))
    own link any e = other any e refl

    go : (o : Option ℕ) → primary_word r ≡ o → HaveWakersOn i (after_act w n (OfRouter s act))
    go None e = aside_of (λ h q. none-some i (sym e ∙ q))
    go (Some j) e = at (nat_eq j i) refl
      where
        at : (c : Bool) → nat_eq j i ≡ c → HaveWakersOn i (after_act w n (OfRouter s act))
        at true f = own (e ∙ ap Some (nat_eq-is j i f)) act refl
        at false f = aside_of (λ h q. apart j i f (same_Some j i (sym e ∙ q)))
          where
            apart : (j i : ℕ) → nat_eq j i ≡ false → j ≡ i → ⊥
            apart j i f q = grind (arith, f, q, nat_tests)
