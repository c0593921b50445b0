-- A proxy begins: what it was and is, and what the records say of the links around it before and after.
use Rattle.ipcz_world.proofs.facts.Lengths.{same_side-itself}
use Rattle.ipcz_world.proofs.Vocabulary.{End, opposite_end, side_end, Side, B, LinkId, Central, Peripheral, LinkEnd, Message, Edge}
use Rattle.ipcz_world.proofs.Vocabulary.{Router, is_terminal, inward_edge, World, Key, same_key, router_at, Books, Records, is_begun, is_recorded}
use Rattle.ipcz_world.proofs.Vocabulary.{inner_link, bypass_of, proxy_side, Inv, is_left}
use Rattle.ipcz_world.proofs.Vocabulary.{is_retired, is_proxy}
use Rattle.ipcz_base.specs.Ends as ends
use Rattle.ipcz_world.proofs.frames.LeftSides.{not_left, held_unretired}
use Rattle.std.specs.Prelude.{◌≡◌, ◌≢◌, ◌⊎◌, ℕ, Bool, true, false, cond, nat_eq, Option, Some, None, is_some, refl}
use Rattle.std.proofs.Common.{arith, sym, ◌∙◌, ap, inl, inr}
use Rattle.std.proofs.lemmas.Bool.Decides.{nat_tests}
use Rattle.ipcz_router.specs.ActEffects.{begin_bypass}
use Rattle.ipcz_world.proofs.frames.Frames.{same_key_tells, same_key-itself}
use Rattle.ipcz_world.proofs.frames.RecordRules.{bypass_of-inner}
use Rattle.ipcz_world.proofs.facts.RecordsAfter.{begin_records}
use Rattle.ipcz_world.proofs.frames.BegunLengths.{begun-bypass_of}
use Rattle.ipcz_world.proofs.acts.Beginning.{Begins}
use Rattle.ipcz_world.proofs.acts.BegunRecords.{linked-begun, begun-here, by-inner, end_at}
use Rattle.ipcz_world.proofs.acts.BegunWorld.{Sends}

-- the router after a begin
pub record IsBegunFrom (r y : Router) (into out : LinkEnd) : Type 0 where
  pub end : y.end ≡ r.end
  pub out_queue : y.out_queue ≡ r.out_queue
  pub in_queue : y.in_queue ≡ r.in_queue
  pub proxy : is_proxy y ≡ true
  pub terminal : is_terminal y ≡ false
  pub spare : y.spare ≡ None
  pub marked : y.marked ≡ false
  pub holds : y.holds ≡ false
  pub mark_seen : y.mark_seen ≡ r.mark_seen
  pub mark_dropped : y.mark_dropped ≡ r.mark_dropped
  pub gone_sent : y.gone_sent ≡ r.gone_sent
  pub primary : y.outward.primary ≡ None
  pub decaying : y.outward.decaying ≡ Some out
  pub length_to : y.outward.length_to ≡ None
  pub length_from : y.outward.length_from ≡ None
  pub inward_primary : (inward_edge y).primary ≡ None
  pub inward_decaying : (inward_edge y).decaying ≡ Some into
  pub inward_to : (inward_edge y).length_to ≡ None
  pub inward_from : (inward_edge y).length_from ≡ None

pub begun-from : {w : World} {g : Records} {k : Key} {r : Router} {p : Key} {into out : LinkEnd} {o fresh : ℕ} →
    Begins w g k r p into out o fresh → IsBegunFrom r (begin_bypass r) into out
begun-from {r = r} {into = into} {out = out} is = go r.inward refl
  where
    go : (e : Option Edge) → r.inward ≡ e → IsBegunFrom r (begin_bypass r) into out
    go None e = absurd (grind (arith, is.proxy, e))
    go (Some x) e = record {
      end = refl;
      out_queue = refl;
      in_queue = refl;
      proxy = grind (arith, e);
      terminal = grind (arith, e);
      spare = refl;
      marked = refl;
      holds = refl;
      mark_seen = refl;
      mark_dropped = refl;
      gone_sent = refl;
      primary = refl;
      decaying = is.outer;
      length_to = refl;
      length_from = refl;
      inward_primary = grind (arith, e);
      inward_decaying = grind (arith, e, is.inner);
      inward_to = grind (arith, e);
      inward_from = grind (arith, e);
    }

module _ {w v : World} {b : Books} {g : Records} {k : Key} {r y : Router} {p : Key} {into out : LinkEnd} {o fresh to : ℕ} {m : Message}
    (law : Inv w b g) (is : Begins w g k r p into out o fresh) (c : Sends w v k y to m) (new : IsBegunFrom r y into out) where
  -- the records after the begin
  abbrev pub after : Records
  after = begin_records g k o fresh p

  -- a router stood there before, or is the one that has begun
  pub before : (q : Key) (z : Router) → router_at v q ≡ Some z → ((router_at w q ≡ Some z) × (q ≢ k)) ⊎ ((q ≡ k) × (z ≡ y))
  before q z at = go (same_key_tells q k)
    where
      go : ((same_key q k ≡ true) × (q ≡ k)) ⊎ ((same_key q k ≡ false) × (q ≢ k)) →
          ((router_at w q ≡ Some z) × (q ≢ k)) ⊎ ((q ≡ k) × (z ≡ y))
      go (inl e) = inr (e.1, grind (arith, e, c.routers q, at))
      go (inr e) = inl (grind (arith, e, c.routers q, at), e.1)

  -- no end of its pair has retired, since it holds the lock
  pub unretired : (s : Side) → is_retired b (ends.end_at r.end.pair s) ≡ false
  unretired s = ap (λ n. is_retired b (ends.end_at n s)) (sym is.pair) ∙ held_unretired w b g o r.end.side law.words law.retired_ends
      (is.holder r.end.side ∙ same_side-itself r.end.side) (not_left w g (Central o) r.end.side k r law.stands is.known is.here) is.linked
      is.live s

  pub unretired_end : (e : End) → e.pair ≡ r.end.pair → is_retired b e ≡ false
  unretired_end e p = ap (λ n. is_retired b (ends.end_at n e.side)) p ∙ unretired e.side

  -- none of its links has a side that was left
  pub none_left : (l : LinkId) (s : Side) → (side_end g l s).pair ≡ r.end.pair → is_left g l s ≡ false
  none_left l s p = go (is_left g l s) refl
    where
      go : (c : Bool) → is_left g l s ≡ c → c ≡ false
      go false e = refl
      go true e = sym (law.retired_ends.left_of l s e) ∙ rw (unretired_end (side_end g l s) p, unretired_end (opposite_end (side_end g l s)) p) refl

  pub inner_unleft : is_left g (inner_link p) B ≡ false
  unfolding side_end
  inner_unleft = none_left (inner_link p) B (ap (λ e. e.pair) is.inner_end)

  pub central_unleft : (i : ℕ) (s : Side) → (g.central i).pair ≡ r.end.pair → is_left g (Central i) s ≡ false
  unfolding side_end
  central_unleft i s p = none_left (Central i) s p

  -- so it hasn't sent Gone
  pub unsent : {X : Type 0} → r.gone_sent ≡ true → X
  unsent h = let t = law.gones.sent k r is.here h in absurd (grind (arith, t.0, unretired_end (opposite_end r.end) refl))

  pub rec-begun : (l : LinkId) → is_recorded v after l ≡ is_recorded w g l
  unfolding is_recorded
  rec-begun (Central i) = linked-begun g k o fresh p i is.owner
  rec-begun (Peripheral n x) = grind (arith, c.count, (c.nodes n).next_peripheral)

  -- no link that stays is the old or the inner one
  pub not-old : (j : ℕ) → is_some (bypass_of g (Central j)) ≡ true → nat_eq j o ≡ false
  not-old j a = go (nat_eq j o) refl
    where
      go : (t : Bool) → nat_eq j o ≡ t → nat_eq j o ≡ false
      go true e = absurd (let f : j ≡ o = grind (arith, e, nat_tests) in grind (arith, begun-bypass_of g j a, f, is.live))
      go false e = e

  pub not-begun : (j : ℕ) → is_begun (g.bypass j) ≡ true → nat_eq j o ≡ false
  not-begun j a = go (nat_eq j o) refl
    where
      go : (t : Bool) → nat_eq j o ≡ t → nat_eq j o ≡ false
      go true e = absurd (let f : j ≡ o = grind (arith, e, nat_tests) in grind (arith, a, f, is.live))
      go false e = e

  pub not-inner : (q : Key) → is_some (g.peripheral q).by ≡ true → same_key q p ≡ false
  not-inner q a = go (same_key_tells q p)
    where
      go : ((same_key q p ≡ true) × (q ≡ p)) ⊎ ((same_key q p ≡ false) × (q ≢ p)) → same_key q p ≡ false
      go (inl e) = absurd (grind (arith, e, a, is.inner_free))
      go (inr e) = e.0

  pub word_same : (i j : ℕ) → Central i ≡ Central j → i ≡ j
  word_same i j e = cc

  pub key_same : (i j : Key) → inner_link i ≡ inner_link j → i ≡ j
  key_same i j e = let n : i.node ≡ j.node = cc in let s : i.serial ≡ j.serial = cc in λ t. record { node = n t; serial = s t }

  -- the bypass of a link: the same, but for the two
  pub by-central : (j : ℕ) → nat_eq j o ≡ false → bypass_of after (Central j) ≡ bypass_of g (Central j)
  unfolding bypass_of
  by-central j e = grind (arith, e)

  pub by-other : (q : Key) → same_key q p ≡ false → bypass_of after (inner_link q) ≡ bypass_of g (inner_link q)
  by-other q e = bypass_of-inner after q ∙ by-inner g k o fresh p q ∙ ap (λ t. cond t (Some o) (g.peripheral q).by) e ∙ sym
      (bypass_of-inner g q)

  -- whatever is under bypass still is, by the same
  pub still-by : (l : LinkId) → is_some (bypass_of g l) ≡ true → bypass_of after l ≡ bypass_of g l
  unfolding bypass_of
  still-by (Central j) a = by-central j (not-old j a)
  still-by (Peripheral n x) a = by-other (record { node = n; serial = x }) (not-inner (record { node = n; serial = x }) a)

  pub begun-same : (q : Key) → (q ≡ k → ⊥) → after.begun q ≡ g.begun q
  begun-same q a = go (same_key_tells q k)
    where
      go : ((same_key q k ≡ true) × (q ≡ k)) ⊎ ((same_key q k ≡ false) × (q ≢ k)) → after.begun q ≡ g.begun q
      go (inl e) = absurd (a e.1)
      go (inr e) = grind (arith, e.0)

  pub begun-new : after.begun k ≡ Some o
  begun-new = grind (arith, same_key-itself k)

  pub side-here : proxy_side after o ≡ r.end.side
  side-here = grind (arith, begun-here g k o fresh p, end_at g k o fresh p p, is.inner_end)
