-- The router inward takes the fresh link: the bypass's record and those of its links, and the counters.
use Rattle.std.specs.Prelude.{◌≡◌, ◌≢◌, ◌⊎◌, ◌<◌, ℕ, Bool, true, false, cond, nat_eq, is_some, Some, None, refl}
use Rattle.std.proofs.Common.{arith, ap, ◌∙◌, sym, subst, inl, inr}
use Rattle.std.proofs.lemmas.Option.{none-some, same_Some}
use Rattle.ipcz_world.proofs.Vocabulary.{Side, A, B, LinkId, Central, Message, opposite, same_side, Router, World, Key, Books, Records, is_unclaimed}
use Rattle.ipcz_world.proofs.Vocabulary.{Fresh, Linked, is_begun, is_linked, is_recorded, inner_link, side_node, side_router, proxy_side, across_side}
use Rattle.ipcz_world.proofs.Vocabulary.{Counts, BypassRecords, IsBypassRecorded, inner_of, bypass_peer, fresh_of}
use Rattle.ipcz_world.proofs.frames.BypassesKept.{KeepsBypass, bypass-kept}
use Rattle.ipcz_base.specs.declared.message.Message.TheVariants as messages
use Rattle.ipcz_world.proofs.frames.RecordRules.{is_recorded-central}
use Rattle.ipcz_world.proofs.facts.RecordsAfter.{taken_records}
use Rattle.ipcz_world.proofs.frames.Handing.{handed_on, hand-handed_on, mail-handed_on}
use Rattle.ipcz_world.proofs.facts.Lengths.{side_is, same_side-itself, same_side-opposite}
use Rattle.ipcz_world.proofs.frames.Counting.{IsReceived, counts-received}
use Rattle.ipcz_world.proofs.frames.Sealing.{Sealed, Closed, opened, counts_of, bypasses_of}
use Rattle.ipcz_world.proofs.acts.BypassPeerAround.{CanPeer, on_node, is, itself, begun, known, r_side, r_pair, fresh_owner, changed, at_o}
use Rattle.ipcz_world.proofs.acts.BypassPeerAround.{at_fresh, stage_at, is_begun_same, proxy_same, inner_same, fresh_same, proxy_side_same}
use Rattle.ipcz_world.proofs.acts.BypassPeerAround.{across_side_same, central_same, owner_same, two, begun_apart, fresh_apart, apart}
use Rattle.ipcz_world.proofs.acts.BypassPeerAround.{router_same, node_same, recorded_more, recorded_back, linked_back, new_router}
use Rattle.ipcz_world.proofs.acts.BypassPeerAround.{new_node, x_known, beyond_none}

module _ {w : World} {b : Books} {g : Records} {from : ℕ} {k : Key} {r : Router} {o : ℕ} {link : LinkId} {side : Side}
    {target fresh : ℕ} (law : Sealed w b g) (can : Closed (CanPeer w from k r o link side target fresh)) where
  -- what the hand makes of the router, the world and the records
  abbrev x : Router
  x = bypass_peer r target fresh

  abbrev sent : Message
  sent = messages.AcceptBypass o (opposite r.end.side) fresh r.out_queue.current

  abbrev v : World
  v = handed_on w from k x target sent

  abbrev h : Records
  h = taken_records g k r o fresh target

  abbrev New : ℕ → Type 0
  New i = ((nat_eq i fresh ≡ true) × (i ≡ fresh)) ⊎ ((nat_eq i fresh ≡ false) × (i ≢ fresh))

  abbrev At : ℕ → Type 0
  At j = ((nat_eq j o ≡ true) × (j ≡ o)) ⊎ ((nat_eq j o ≡ false) × (j ≢ o))

  proxy_here : proxy_side h o ≡ r.end.side
  proxy_here = proxy_side_same law can o ∙ sym (r_side law can)

  across_here : across_side h o ≡ opposite r.end.side
  across_here = ap opposite proxy_here

  -- the fresh link, and the sides of it that are known and awaited
  fresh_here : (h.bypass o).fresh ≡ fresh
  fresh_here = fresh_same law can o ∙ sym (is law can).on_word

  far : same_side (opposite r.end.side) r.end.side ≡ false
  far = grind (arith, side_is (opposite r.end.side) r.end.side, same_side-opposite r.end.side)

  inner_here : side_router h (inner_of h o) B ≡ Some k
  inner_here = ap (λ p. side_router h (inner_link p) B) (inner_same law can o) ∙ router_same law can (inner_of g o) B refl ∙ known law can

  -- of the bypass whose fresh link is taken
  bypass-taken : IsBypassRecorded v h o
  bypass-taken = let n : is_begun (g.bypass o) ≡ true = begun law can in let old = begun_apart law can o n in record {
    stage = grind (arith, stage_at law can o, (bypasses_of law o).stage);
    old = λ b. ap is_linked (owner_same law can o old) ∙ (bypasses_of law o).old n;
    inner = λ b. ap (λ p. is_recorded v h (inner_link p)) (inner_same law can o) ∙
        recorded_more law can (inner_of g o) ((bypasses_of law o).inner n);
    inner_by = λ b. ap (λ p. (g.peripheral p).by) (inner_same law can o) ∙ (bypasses_of law o).inner_by n;
    pair = λ b. ap (λ p. (g.peripheral p).end.pair) (inner_same law can o) ∙ (bypasses_of law o).pair n ∙
        ap (λ c. c.pair) (sym (central_same law can o old));
    proxy_old = λ b. router_same law can (Central o) (proxy_side h o) old ∙ ap (side_router g (Central o)) (proxy_side_same law can o) ∙
        (bypasses_of law o).proxy_old n ∙ ap Some (sym (proxy_same law can o));
    proxy_inner = λ b. ap (λ p. side_router h (inner_link p) A) (inner_same law can o) ∙ router_same law can (inner_of g o) A refl ∙
        (bypasses_of law o).proxy_inner n ∙ ap Some (sym (proxy_same law can o));
    across = λ b. ap is_some (router_same law can (Central o) (across_side h o) old ∙
        ap (side_router g (Central o)) (across_side_same law can o)) ∙ (bypasses_of law o).across n;
    fresh = λ e. absurd (grind (arith, e, stage_at law can o, itself law can o));
    fresh_linked = λ l. ap h.owner fresh_here ∙ rw (itself law can fresh) refl;
    fresh_born = λ l. ap (λ i. (h.central i).born) fresh_here ∙ rw (itself law can fresh) refl;
    fresh_pair = λ l. ap (λ i. (h.central i).pair) fresh_here ∙ rw (itself law can fresh) (r_pair law can) ∙
        sym (ap (λ c. c.pair) (central_same law can o old));
    inner_known = λ l. ap is_some inner_here;
    fresh_inner = λ l. ap (λ i. side_router h (Central i) (proxy_side h o)) fresh_here ∙ ap (side_router h (Central fresh)) proxy_here ∙
        new_router law can r.end.side ∙ ap (λ c. cond c (Some k) None) (same_side-itself r.end.side) ∙ sym inner_here;
    fresh_inner_node = λ l. ap (λ i. side_node h (Central i) (proxy_side h o)) fresh_here ∙
        ap (side_node h (Central fresh)) proxy_here ∙ new_node law can r.end.side ∙
        ap (λ c. cond c k.node target) (same_side-itself r.end.side) ∙ (is law can).receiver ∙
        sym (ap (λ p. side_node h (inner_link p) B) (inner_same law can o) ∙ node_same law can (inner_of g o) B refl);
    fresh_across_node = λ l. ap (λ i. side_node h (Central i) (across_side h o)) fresh_here ∙
        ap (side_node h (Central fresh)) across_here ∙ new_node law can (opposite r.end.side) ∙ ap (λ c. cond c k.node target) far ∙
        (is law can).beyond ∙
        sym (ap (side_node h (Central o)) (across_side_same law can o) ∙ node_same law can (Central o) (across_side g o) old);
    fresh_awaited = λ e. ap (λ i. side_router h (Central i) (across_side h o)) fresh_here ∙
        ap (side_router h (Central fresh)) across_here ∙ new_router law can (opposite r.end.side) ∙ ap (λ c. cond c (Some k) None) far;
    fresh_across = λ l. absurd (grind (arith, l, stage_at law can o, itself law can o));
    born_fresh = λ i l e. born_fresh_at i l e (at_fresh law can i);
    born_stage = λ i l e. grind (arith, stage_at law can o, itself law can o);
  }
    where
      born_fresh_at : (i : ℕ) → is_linked (h.owner i) ≡ true → (h.central i).born ≡ Some o → New i → (h.bypass o).fresh ≡ i
      born_fresh_at i l e (inl t) = fresh_here ∙ sym t.1
      born_fresh_at i l e (inr t) = fresh_same law can o ∙ (bypasses_of law o).born_fresh i (linked_back law can i l t.0)
          (ap (λ c. c.born) (sym (central_same law can i t.0)) ∙ e)

  -- the records tell the same of each other
  keeps_other : (j : ℕ) → nat_eq j o ≡ false → j ≢ o → KeepsBypass w v g h j
  keeps_other j other apart = let stage = two law can j other in record {
    same = record {
      proxy = proxy_same law can j;
      inner = inner_same law can j;
      fresh = fresh_same law can j;
      most = λ m. omega (arith, stage, m);
      begun = λ n. sym (is_begun_same law can j) ∙ n;
      first = λ e. sym stage ∙ e;
      second = λ e. sym stage ∙ e;
      third = λ l. omega (arith, stage, l);
      back = λ l. omega (arith, stage, l);
    };
    old = λ n. record {
      linked = λ e. ap is_linked (owner_same law can j (begun_apart law can j n)) ∙ e;
      recorded = recorded_more law can (inner_of g j);
      by = refl;
      inner_pair = refl;
      pair = ap (λ c. c.pair) (central_same law can j (begun_apart law can j n));
      side = proxy_side_same law can j;
      router = λ s. router_same law can (Central j) s (begun_apart law can j n);
      node = λ s. node_same law can (Central j) s (begun_apart law can j n);
      inner_router = router_same law can (inner_of g j) A refl;
    };
    fresh = λ n one. owner_same law can (g.bypass j).fresh (not_at (at_fresh law can (g.bypass j).fresh) one) ∙ one;
    late = λ l. record {
      linked = λ e. owner_same law can (g.bypass j).fresh (fresh_apart law can j l) ∙ e;
      born = ap (λ c. c.born) (central_same law can (g.bypass j).fresh (fresh_apart law can j l));
      pair = ap (λ c. c.pair) (central_same law can (g.bypass j).fresh (fresh_apart law can j l));
      router = λ s. router_same law can (fresh_of g j) s (fresh_apart law can j l);
      node = λ s. node_same law can (fresh_of g j) s (fresh_apart law can j l);
      inner_router = router_same law can (inner_of g j) B refl;
      inner_node = node_same law can (inner_of g j) B refl;
    };
    born = λ i l e. born_at i l e (at_fresh law can i);
  }
    where
      not_at : New (g.bypass j).fresh → g.owner (g.bypass j).fresh ≡ Fresh j → nat_eq (g.bypass j).fresh fresh ≡ false
      not_at (inl m) one = absurd (apart (grind (arith, sym one ∙ ap g.owner m.1 ∙ fresh_owner law can)))
      not_at (inr m) one = m.0

      born_at : (i : ℕ) → is_linked (h.owner i) ≡ true → (h.central i).born ≡ Some j → New i →
          (is_linked (g.owner i) ≡ true) × ((g.central i).born ≡ Some j)
      born_at i l e (inl t) = absurd (apart (sym (same_Some o j (rw t.0 at e))))
      born_at i l e (inr t) = (linked_back law can i l t.0, ap (λ c. c.born) (sym (central_same law can i t.0)) ∙ e)

  pub bypasses-peer : BypassRecords v h
  bypasses-peer j = go (at_o law can j)
    where
      go : At j → IsBypassRecorded v h j
      go (inl t) = subst (IsBypassRecorded v h) (sym t.1) bypass-taken
      go (inr t) = bypass-kept {w = w} (keeps_other j t.0 t.1) (bypasses_of law j)

  pub target_below : target < w.count
  target_below = rw (is law can).beyond ((counts_of law).side_on_node (Central o) (across_side g o)
      (is_recorded-central w g o ∙ (bypasses_of law o).old (begun law can)))

  received : IsReceived w v from k.node
  received = record { hand = hand-handed_on w from k x target sent; mail = mail-handed_on w from k x target sent }

  pub counts-peer : Counts v h
  unfolding is_unclaimed
  counts-peer = counts-received w v g h from k r x (changed law can) received (counts_of law) (opened can).hand.hand
      (λ i. unclaimed_at i (at_fresh law can i)) (λ l s q rec m. routers_at l s q m (recorded_back law can l rec))
      (λ l s rec. sides_at l s (recorded_back law can l rec))
    where
      unclaimed_at : (i : ℕ) → New i → is_unclaimed (h.owner i) ≡ is_unclaimed (g.owner i)
      unclaimed_at i (inl t) = ap is_unclaimed (new_owner i t.0) ∙ sym
          (ap (λ j. is_unclaimed (g.owner j)) t.1 ∙ ap is_unclaimed (fresh_owner law can))
        where
          new_owner : (i : ℕ) → nat_eq i fresh ≡ true → h.owner i ≡ Linked
          new_owner i t = rw t refl
      unclaimed_at i (inr t) = ap is_unclaimed (owner_same law can i t.0)

      routers_at : (l : LinkId) (s : Side) (q : Key) → side_router h l s ≡ Some q → (is_recorded w g l ≡ true) ⊎ (l ≡ Central fresh) →
          ((is_recorded w g l ≡ true) × (side_router g l s ≡ Some q)) ⊎ (q ≡ k)
      routers_at l s q m (inl rec) = inl (rec, sym (router_same law can l s (apart law can l rec)) ∙ m)
      routers_at l s q m (inr t) = inr (new_at s q (ap (λ c. side_router h c s) (sym t) ∙ m) (side_is s r.end.side))
        where
          new_at : (s : Side) (q : Key) → side_router h (Central fresh) s ≡ Some q →
              ((same_side s r.end.side ≡ true) × (s ≡ r.end.side)) ⊎ ((same_side s r.end.side ≡ false) × (s ≡ opposite r.end.side)) → q ≡ k
          new_at s q m (inl a) = same_Some q k (sym m ∙ ap (side_router h (Central fresh)) a.1 ∙ x_known law can)
          new_at s q m (inr a) = absurd (none-some q (sym (ap (side_router h (Central fresh)) a.1 ∙ beyond_none law can) ∙ m))

      sides_at : (l : LinkId) (s : Side) → (is_recorded w g l ≡ true) ⊎ (l ≡ Central fresh) → side_node h l s < w.count
      sides_at l s (inl rec) = rw (node_same law can l s (apart law can l rec)) ((counts_of law).side_on_node l s rec)
      sides_at l s (inr t) = rw (t, new_node law can s) (one_of (same_side s r.end.side))
        where
          one_of : (t : Bool) → cond t k.node target < w.count
          one_of true = on_node law can
          one_of false = target_below
