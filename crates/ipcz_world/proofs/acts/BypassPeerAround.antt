-- The router inward has the message that begins its bypass and takes the fresh link: who stands around it, before and after.
use Rattle.ipcz_world.proofs.frames.Sealing.{stands_of}
use Rattle.ipcz_word.specs.SideSets.{has, has-none}
use Rattle.ipcz_world.proofs.Vocabulary.{Side, A, B, LinkId, Central, Peripheral, LinkEnd, Message, opposite, same_side, is_central, has_link}
use Rattle.ipcz_world.proofs.Vocabulary.{same_link, word_of, Router, router_has, World, Key, same_key, mail_at, way, router_at, Books, Records, Fresh}
use Rattle.ipcz_world.proofs.Vocabulary.{is_begun, is_linked, is_recorded, inner_link, side_node, side_router, side_end, bypass_of, proxy_side}
use Rattle.ipcz_world.proofs.Vocabulary.{across_side, Standing, is_attached, view, has_primary, IsRecorded, inner_of, bypass_peer, is_left, key_at}
use Rattle.ipcz_world.proofs.Vocabulary.{Awaited, link_in}
use Rattle.ipcz_world.specs.Routes.{source as source'}
use Rattle.std.specs.Prelude.{◌≡◌, ◌≢◌, ◌⊎◌, ◌<◌, ◌≤◌, ℕ, Bool, true, false, cond, ◌||◌, nat_eq, if◌then◌else◌, is_some, Option, Some, None}
use Rattle.std.specs.Prelude.{refl}
use Rattle.std.proofs.Common.{arith, ap, ◌∙◌, sym, inl, inr}
use Rattle.std.proofs.lemmas.Bool.Decides.{nat_tests}
use Rattle.std.proofs.lemmas.Option.{none-some, same_Some}
use Rattle.ipcz_base.specs.declared.message.Message.TheVariants as messages
use Rattle.ipcz_world.specs.declared.mail.Mail.TheVariants as mails
use Rattle.ipcz_world.proofs.frames.Frames.{same_key-itself}
use Rattle.ipcz_world.proofs.frames.OfRecords.{source}
use Rattle.ipcz_world.proofs.frames.RecordRules.{side_node-central, bypass_of-inner, is_recorded-central}
use Rattle.ipcz_world.proofs.facts.Updates.{CanHand}
use Rattle.ipcz_world.proofs.facts.RecordsAfter.{taken_records}
use Rattle.ipcz_world.proofs.frames.Unmoved.{IsLike, Changed, WasLike, was_like}
use Rattle.ipcz_world.proofs.frames.Handing.{handed_on, changed-handed_on}
use Rattle.ipcz_world.proofs.frames.Viewing.{IsSameView, view-kept-at}
use Rattle.ipcz_world.proofs.facts.Lengths.{side_is, same_side-itself, same_side-opposite, has_link-tells, has_link-some, HasEnd, passed}
use Rattle.ipcz_world.proofs.facts.Lengths.{is_attached-central, view-standing, view-awaited}
use Rattle.ipcz_world.proofs.acts.BypassAsked.{IsPeered, peered}
use Rattle.ipcz_world.proofs.frames.Sealing.{Sealed, Closed, opened, counts_of, links_of, positions_of, stages_of, controls_of, bypasses_of}
use Rattle.ipcz_world.proofs.frames.Frames.{OneOrBefore, one_or_before}
use Rattle.ipcz_world.proofs.frames.Having.{has_at}

-- weighs a BypassPeer that names a central link
unfoldable pub central_peer : Message → ℕ
central_peer (messages.BypassPeer l s old t new) = cond (is_central l) 1 0
central_peer other = 0

pub inner_word : (e : LinkEnd) (p : Key) → e.link ≡ inner_link p → is_some (word_of (Some e)) ≡ true → ⊥
unfolding word_of
inner_word e p l m = grind (arith, l, m)

-- what the hand of the message needs: the router that has the link is asked
pub record CanPeer (w : World) (from : ℕ) (k : Key) (r : Router) (o : ℕ) (link : LinkId) (side : Side) (target fresh : ℕ) : Type 0 where
  pub hand : CanHand w from k r (messages.BypassPeer link side o target fresh)
  pub has : router_has r link side ≡ true

module _ {w : World} {b : Books} {g : Records} {from : ℕ} {k : Key} {r : Router} {o : ℕ} {link : LinkId} {side : Side}
    {target fresh : ℕ} (law : Sealed w b g) (can : Closed (CanPeer w from k r o link side target fresh)) where
  pub here : router_at w k ≡ Some r
  here = (opened can).hand.here

  pub in_hand : mail_at w (way w from k.node) ≡ mails.Hand (messages.BypassPeer link side o target fresh)
  in_hand = (opened can).hand.in_hand

  pub on_node : k.node < w.count
  on_node = (counts_of law).on_node k r here

  pub from_node : from < w.count
  from_node = (counts_of law).hand_from k.node from on_node (opened can).hand.hand

  pub is : IsPeered g from k o link side target fresh
  is = peered w g from k o link side target fresh (controls_of law) from_node on_node in_hand

  pub itself : (n : ℕ) → nat_eq n n ≡ true
  itself n = grind (arith, nat_tests)

  pub begun : is_begun (g.bypass o) ≡ true
  begun = grind (arith, is.stage, nat_tests)

  pub known : side_router g (inner_of g o) B ≡ Some k
  known = rw (is.on_link, is.at_side) at ((has_at w g k r link side (links_of law) here (opened can).has).router)

  pub z_inner : has_primary (inner_of g o) B r ≡ true
  z_inner = sym (passed w k r (has_primary (inner_of g o) B) here) ∙ (stages_of law o).inner_primary k is.stage known

  pub z_end : HasEnd r.outward.primary (inner_of g o) B
  z_end = has_link-tells r.outward.primary (inner_of g o) B z_inner

  abbrev e : LinkEnd
  e = z_end.end

  pub on : r.outward.primary ≡ Some e
  on = z_end.there

  pub by_o : (g.peripheral (g.bypass o).inner).by ≡ Some o
  by_o = (bypasses_of law o).inner_by begun

  r_end : r.end ≡ (g.peripheral (g.bypass o).inner).end
  unfolding side_end
  r_end = (((links_of law) k r here).primary e on).end ∙ ap (λ l. side_end g l e.side) z_end.on_link

  pub r_side : r.end.side ≡ proxy_side g o
  r_side = ap (λ d. d.side) r_end

  pub r_pair : r.end.pair ≡ (g.central o).pair
  r_pair = ap (λ d. d.pair) r_end ∙ (bypasses_of law o).pair begun

  pub central_not_inner : (i : ℕ) (p : Key) → Central i ≡ inner_link p → ⊥
  central_not_inner i p q = grind (arith, q)

  -- nothing of it decays outward yet
  pub still : r.outward.decaying ≡ None
  still = go r.outward.decaying refl
    where
      fresh_no : (t : Option LinkEnd) (i : ℕ) → t ≡ Some e → link_in t ≡ Some (Central i) → ⊥
      fresh_no t i m n = central_not_inner i (g.bypass o).inner (same_Some _ _ (sym n ∙ ap link_in m) ∙ z_end.on_link)

      at : (d : LinkEnd) (l : LinkId) → r.outward.decaying ≡ Some d → d.link ≡ l → ⊥
      at d (Central i) m n = sides (side_is d.side (proxy_side g i))
        where
          sides : ((same_side d.side (proxy_side g i) ≡ true) × (d.side ≡ proxy_side g i)) ⊎
              ((same_side d.side (proxy_side g i) ≡ false) × (d.side ≡ opposite (proxy_side g i))) → ⊥
          sides (inl t) = none-some e (sym (((positions_of law).each k r here).own_alone d i m n t.1) ∙ on)
          sides (inr t) = fresh_no r.outward.primary (g.bypass i).fresh on (((positions_of law).each k r here).across_fresh d i m n t.1)
      at d (Peripheral n s) m q = by_at (g.peripheral (record { node = n; serial = s })).by refl
        where
          by_at : (t : Option ℕ) → (g.peripheral (record { node = n; serial = s })).by ≡ t → ⊥
          by_at None t = absurd (grind (
            arith,
            ((positions_of law).each k r here).decaying d m,
            ap (bypass_of g) q,
            bypass_of-inner g (record { node = n; serial = s }),
            t,
          ))
          by_at (Some j) t = fresh_no r.outward.primary (g.bypass j).fresh on
              (((positions_of law).each k r here).inner_fresh d (record { node = n; serial = s }) j m q t)

      go : (t : Option LinkEnd) → r.outward.decaying ≡ t → r.outward.decaying ≡ None
      go None m = m
      go (Some d) m = absurd (at d d.link m refl)

  -- the fresh word is no link's yet
  pub fresh_owner : g.owner fresh ≡ Fresh o
  fresh_owner = ap g.owner is.on_word ∙ (bypasses_of law o).fresh is.stage

  pub not_linked : is_linked (g.owner fresh) ≡ false
  unfolding is_linked
  not_linked = ap is_linked fresh_owner

  pub fresh_live : is_begun (g.bypass fresh) ≡ false
  fresh_live = go (is_begun (g.bypass fresh)) refl
    where
      go : (t : Bool) → is_begun (g.bypass fresh) ≡ t → is_begun (g.bypass fresh) ≡ false
      go false m = m
      go true m = absurd (grind (arith, (bypasses_of law fresh).old m, not_linked))

  -- what the hand makes of the router, the world and the records
  abbrev x : Router
  x = bypass_peer r target fresh

  abbrev sent : Message
  sent = messages.AcceptBypass o (opposite r.end.side) fresh r.out_queue.current

  abbrev came : Message
  came = messages.BypassPeer link side o target fresh

  abbrev v : World
  v = handed_on w from k x target sent

  abbrev h : Records
  h = taken_records g k r o fresh target

  pub like : IsLike r x
  like = record { end = refl; out_queue = refl; in_queue = refl; terminal = refl; closed = refl; mark_seen = refl; mark_dropped = refl; gone_sent = refl; spare = refl }

  pub changed : Changed w v k r x
  changed = changed-handed_on w from k r x target sent here

  pub at_o : (j : ℕ) → ((nat_eq j o ≡ true) × (j ≡ o)) ⊎ ((nat_eq j o ≡ false) × (j ≢ o))
  at_o j = grind (arith, nat_tests)

  pub at_fresh : (i : ℕ) → ((nat_eq i fresh ≡ true) × (i ≡ fresh)) ⊎ ((nat_eq i fresh ≡ false) × (i ≢ fresh))
  at_fresh i = grind (arith, nat_tests)

  pub stage_at : (j : ℕ) → (h.bypass j).stage ≡ cond (nat_eq j o) 2 (g.bypass j).stage
  stage_at j = grind (arith, at_o j)

  pub is_begun_same : (j : ℕ) → is_begun (h.bypass j) ≡ is_begun (g.bypass j)
  is_begun_same j = grind (arith, at_o j, begun)

  pub proxy_same : (j : ℕ) → (h.bypass j).proxy ≡ (g.bypass j).proxy
  proxy_same j = grind (arith, at_o j)

  pub inner_same : (j : ℕ) → (h.bypass j).inner ≡ (g.bypass j).inner
  inner_same j = grind (arith, at_o j)

  pub fresh_same : (j : ℕ) → (h.bypass j).fresh ≡ (g.bypass j).fresh
  fresh_same j = grind (arith, at_o j)

  pub accepted_same : (j : ℕ) → (h.bypass j).accepted_at ≡ (g.bypass j).accepted_at
  accepted_same j = grind (arith, at_o j)

  pub proxy_side_same : (j : ℕ) → proxy_side h j ≡ proxy_side g j
  proxy_side_same j = ap (λ p. (g.peripheral p).end.side) (inner_same j)

  pub across_side_same : (j : ℕ) → across_side h j ≡ across_side g j
  across_side_same j = ap opposite (proxy_side_same j)

  pub central_same : (i : ℕ) → nat_eq i fresh ≡ false → h.central i ≡ g.central i
  central_same i m = rw m refl

  pub owner_same : (i : ℕ) → nat_eq i fresh ≡ false → h.owner i ≡ g.owner i
  owner_same i m = rw m refl

  pub same_bypass : (j : ℕ) → nat_eq j o ≡ false → h.bypass j ≡ g.bypass j
  same_bypass j m = rw m refl

  pub two : (j : ℕ) → nat_eq j o ≡ false → (h.bypass j).stage ≡ (g.bypass j).stage
  two j m = ap (λ c. c.stage) (same_bypass j m)

  pub begun_apart : (j : ℕ) → is_begun (g.bypass j) ≡ true → nat_eq j fresh ≡ false
  begun_apart j m = grind (arith, at_fresh j, fresh_live, m)

  pub fresh_apart : (j : ℕ) → 2 ≤ (g.bypass j).stage → nat_eq (g.bypass j).fresh fresh ≡ false
  fresh_apart j m = go (at_fresh (g.bypass j).fresh)
    where
      go : ((nat_eq (g.bypass j).fresh fresh ≡ true) × ((g.bypass j).fresh ≡ fresh)) ⊎
          ((nat_eq (g.bypass j).fresh fresh ≡ false) × ((g.bypass j).fresh ≢ fresh)) → nat_eq (g.bypass j).fresh fresh ≡ false
      go (inl t) = absurd (grind (arith, sym ((bypasses_of law j).fresh_linked m) ∙ ap g.owner t.1 ∙ fresh_owner))
      go (inr t) = t.0

  -- links that have a record aren't the fresh one
  abbrev Apart : LinkId → Type 0
  Apart l = same_link l (Central fresh) ≡ false

  pub apart : (l : LinkId) → is_recorded w g l ≡ true → Apart l
  unfolding is_recorded
  apart (Central i) m = grind (arith, at_fresh i, not_linked, m)
  apart (Peripheral n s) m = refl

  pub router_same : (l : LinkId) (s : Side) → Apart l → side_router h l s ≡ side_router g l s
  unfolding side_router
  router_same (Central i) s m = rw m refl
  router_same (Peripheral n p) A m = refl
  router_same (Peripheral n p) B m = refl

  pub node_same : (l : LinkId) (s : Side) → Apart l → side_node h l s ≡ side_node g l s
  unfolding side_node
  node_same (Central i) s m = ap (λ c. c.node s) (central_same i m)
  node_same (Peripheral n p) A m = refl
  node_same (Peripheral n p) B m = refl

  pub end_same : (l : LinkId) (s : Side) → Apart l → side_end h l s ≡ side_end g l s
  unfolding side_end
  end_same (Central i) s m = rw m refl
  end_same (Peripheral n p) s m = refl

  pub source_same : (l : LinkId) (s : Side) → Apart l → source h l s ≡ source g l s
  unfolding source'
  source_same (Central i) s m = rw m refl
  source_same (Peripheral n p) A m = refl
  source_same (Peripheral n p) B m = refl

  -- the sides that were left are the same
  pub left_recorded : (l : LinkId) (s : Side) → is_left g l s ≡ true → same_link l (Central fresh) ≡ false
  left_recorded l s m = apart l ((stands_of law).left_recorded l s m)

  pub fresh_left : (s : Side) → is_left g (Central fresh) s ≡ false
  fresh_left s = go (is_left g (Central fresh) s) refl
    where
      go : (c : Bool) → is_left g (Central fresh) s ≡ c → c ≡ false
      go false m = refl
      go true m = absurd (grind (arith, sym ((stands_of law).left_recorded (Central fresh) s m) ∙ is_recorded-central w g fresh, not_linked))

  fresh_left' : (s : Side) → is_left h (Central fresh) s ≡ false
  unfolding is_left
  fresh_left' s = rw (itself fresh) (has-none s)

  pub left_same : (l : LinkId) (s : Side) → is_left h l s ≡ is_left g l s
  unfolding is_left
  left_same (Central i) s = go (at_fresh i)
    where
      go : ((nat_eq i fresh ≡ true) × (i ≡ fresh)) ⊎ ((nat_eq i fresh ≡ false) × (i ≢ fresh)) →
          has (h.central i).left s ≡ has (g.central i).left s
      go (inl t) = ap (λ n. has (h.central n).left s) t.1 ∙ fresh_left' s ∙ sym (fresh_left s) ∙ ap (λ n. has (g.central n).left s) (sym t.1)
      go (inr t) = ap (λ c. has c.left s) (central_same i t.0)
  left_same (Peripheral n p) s = refl

  pub bypass_same : (l : LinkId) → bypass_of h l ≡ bypass_of g l
  unfolding bypass_of
  bypass_same (Central i) = ap (λ t. if t then Some i else None) (is_begun_same i)
  bypass_same (Peripheral n p) = refl

  pub recorded_more : (l : LinkId) → is_recorded w g l ≡ true → is_recorded v h l ≡ true
  unfolding is_recorded is_linked
  recorded_more (Central i) m = grind (arith, at_fresh i, m)
  recorded_more (Peripheral n p) m = grind (arith, changed.count, changed.next_peripheral n, m)

  pub recorded_back : (l : LinkId) → is_recorded v h l ≡ true → (is_recorded w g l ≡ true) ⊎ (l ≡ Central fresh)
  unfolding is_recorded
  recorded_back (Central i) m = go (at_fresh i)
    where
      go : ((nat_eq i fresh ≡ true) × (i ≡ fresh)) ⊎ ((nat_eq i fresh ≡ false) × (i ≢ fresh)) →
          (is_linked (g.owner i) ≡ true) ⊎ (Central i ≡ Central fresh)
      go (inl t) = inr (ap Central t.1)
      go (inr t) = inl (ap is_linked (sym (owner_same i t.0)) ∙ m)
  recorded_back (Peripheral n p) m = inl (grind (arith, changed.count, changed.next_peripheral n, m))

  pub linked_back : (i : ℕ) → is_linked (h.owner i) ≡ true → nat_eq i fresh ≡ false → is_linked (g.owner i) ≡ true
  linked_back i m t = ap is_linked (sym (owner_same i t)) ∙ m

  -- the fresh link as it is recorded now
  pub new_router : (s : Side) → side_router h (Central fresh) s ≡ cond (same_side s r.end.side) (Some k) None
  unfolding side_router
  new_router s = rw (itself fresh) (go (same_side s r.end.side))
    where
      go : (t : Bool) → key_at (cond t k.node target) (cond t (Some k.serial) None) ≡ cond t (Some k) None
      go true = refl
      go false = refl

  pub new_node : (s : Side) → side_node h (Central fresh) s ≡ cond (same_side s r.end.side) k.node target
  new_node s = side_node-central h fresh s ∙ rw (itself fresh) refl

  pub new_end : (s : Side) → side_end h (Central fresh) s ≡ record { pair = r.end.pair; side = s }
  unfolding side_end
  new_end s = rw (itself fresh) refl

  attached : (l : LinkId) (s : Side) → Apart l → is_attached l s x ≡ is_attached l s r
  unfolding is_attached has_link
  attached (Central i) s m = grind (arith, on, still, m, nat_tests)
  attached (Peripheral n p) A m = refl
  attached (Peripheral n p) B m = grind (arith, on, still, m)

  pub view_same : (l : LinkId) (s : Side) → Apart l → IsSameView l s (view v h l s) (view w g l s)
  view_same l s m = view-kept-at w v g h k r x changed (λ t. refl) like l s (end_same l s m) (router_same l s m) (λ t. attached l s m)

  pub x_known : side_router h (Central fresh) r.end.side ≡ Some k
  x_known = new_router r.end.side ∙ ap (λ c. cond c (Some k) None) (same_side-itself r.end.side)

  pub far : same_side (opposite r.end.side) r.end.side ≡ false
  far = grind (arith, side_is (opposite r.end.side) r.end.side, same_side-opposite r.end.side)

  pub beyond_none : side_router h (Central fresh) (opposite r.end.side) ≡ None
  beyond_none = new_router (opposite r.end.side) ∙ ap (λ c. cond c (Some k) None) far

  pub x_on_fresh : has_primary (Central fresh) r.end.side x ≡ true
  x_on_fresh = has_link-some (record { link = Central fresh; side = r.end.side; other = target }) (Central fresh) r.end.side refl refl

  pub router_j : (q : Key) → router_at v q ≡ cond (same_key q k) (Some x) (router_at w q)
  router_j = changed.router

  pub at_k : router_at v k ≡ Some x
  at_k = router_j k ∙ ap (λ t. cond t (Some x) (router_at w k)) (same_key-itself k)

  view_x : view v h (Central fresh) r.end.side ≡ Standing x
  view_x = view-standing v h (Central fresh) r.end.side k x x_known at_k
      (is_attached-central fresh r.end.side x ∙ ap (λ t. t || has_link x.outward.decaying (Central fresh) r.end.side) x_on_fresh)

  pub view_beyond : view v h (Central fresh) (opposite r.end.side) ≡ Awaited
  view_beyond = view-awaited v h fresh (opposite r.end.side) beyond_none

  pub split : (q : Key) (t : Router) → router_at v q ≡ Some t → OneOrBefore w k x q t
  split q t e = one_or_before w v k x router_j q t e

  pub was_router : (q : Key) (t : Router) → router_at v q ≡ Some t → WasLike w q t
  was_router = was_like changed like refl

  pub new_recorded : (d : LinkEnd) → d ≡ record { link = Central fresh; side = r.end.side; other = target } → IsRecorded v h k x d
  unfolding is_linked
  new_recorded d m = rw m (record {
    recorded = is_recorded-central v h fresh ∙ rw (itself fresh) refl;
    other = sym (new_node (opposite r.end.side) ∙ ap (λ c. cond c k.node target) far);
    router = x_known;
    end = sym (new_end r.end.side);
  })
