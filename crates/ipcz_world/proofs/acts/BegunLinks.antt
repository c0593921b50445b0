-- A proxy begins: its links decay, as their records and the bypass say; the counters go on.
use Rattle.ipcz_world.proofs.Vocabulary.{HasShape, LinkEnd, Message, Router, World, Key, same_key, mail_at, way, Books, Records}
use Rattle.ipcz_world.proofs.Vocabulary.{is_unclaimed, Counts, Shape, Inv, A, B, Side, LinkId, Central, Peripheral, opposite, same_side}
use Rattle.ipcz_world.proofs.Vocabulary.{is_begun, inner_link, bypass_of, proxy_side, side_router, inward_edge, known_from, inner_of}
use Rattle.ipcz_world.proofs.frames.EachKept.{each-one}
use Rattle.ipcz_world.proofs.facts.Tests.{not_both}
use Rattle.ipcz_world.proofs.acts.BegunAround.{unsent, IsBegunFrom, rec-begun, before, not-begun, begun-same, begun-new, side-here}
use Rattle.std.specs.Prelude.{◌≡◌, ◌≢◌, ◌⊎◌, ℕ, ◌+◌, ◌*◌, true, false, Some, ◌≤◌, Bool, nat_eq, None, refl}
use Rattle.std.proofs.Common.{arith, sym, ◌∙◌, ap, inl, inr}
use Rattle.std.proofs.lemmas.Bool.Decides.{nat_tests}
use Rattle.ipcz_world.proofs.frames.Frames.{same_key_tells}
use Rattle.ipcz_world.proofs.facts.RecordsAfter.{begin_records}
use Rattle.ipcz_world.proofs.acts.Beginning.{Begins}
use Rattle.ipcz_world.proofs.acts.BegunRecords.{router-begun, node-begun, end-begun, begun-here, begun-else, by_word, side-begun, by-inner}
use Rattle.ipcz_world.proofs.acts.BegunRecords.{end_at}
use Rattle.ipcz_world.proofs.acts.BegunWorld.{Sends}
use Rattle.std.proofs.lemmas.Option.{same_Some}
use Rattle.ipcz_world.proofs.facts.Lengths.{same_side-tells}
use Rattle.ipcz_world.proofs.frames.Roles.{Begun, end_of, until, HasRole, BegunRecords, Roles, trim-decays, until-same}
use Rattle.ipcz_world.proofs.facts.LinkTests.{known_from-early}
use Rattle.ipcz_world.proofs.frames.RolesKept.{Knows, Keeps, role-kept}

module _ {w v : World} {b : Books} {g : Records} {k : Key} {r y : Router} {p : Key} {into out : LinkEnd} {o fresh to : ℕ} {m : Message}
    (law : Inv w b g) (is : Begins w g k r p into out o fresh) (c : Sends w v k y to m) (new : IsBegunFrom r y into out) where
  -- the records after the begin
  abbrev pub after : Records
  after = begin_records g k o fresh p

  pub counts-begun : Counts v after
  unfolding is_unclaimed
  counts-begun = record {
    node = λ n e. grind (arith, (c.nodes n).node, c.count, law.counts.node n, e);
    nodes = λ n e. grind (arith, (c.nodes n).nodes, c.count, law.counts.nodes n, e);
    claimed = grind (arith, c.claimed, c.size, law.counts.claimed);
    unclaimed = λ i. grind (arith, c.claimed, law.counts.unclaimed i, is.owner, nat_tests);
    on_node = λ q z at. elim (before law is c new q z at) [
      | inl e ↦ grind (arith, c.count, law.counts.on_node q z e.0)
      | inr e ↦ grind
          (arith, c.count, e.0, law.counts.on_node k r is.here)
    ];
    serial = λ q z at. elim (before law is c new q z at) [
      | inl e ↦ grind (arith, (c.nodes q.node).next_router, law.counts.serial q z e.0)
      | inr e ↦ grind
          (arith, (c.nodes q.node).next_router, e.0, law.counts.serial k r is.here)
    ];
    side_serial = λ l s q a e. grind (
      arith,
      (c.nodes q.node).next_router,
      law.counts.side_serial l s q,
      rec-begun law is c new l,
      router-begun g k o fresh p l s,
      a,
      e,
    );
    side_on_node = λ l s a. grind (arith, c.count, law.counts.side_on_node l s, rec-begun law is c new l, node-begun g k o fresh p l s, a);
    hand = λ n from a e. grind (arith, c.count, mail n from, (c.nodes n).hand, law.counts.hand n from, a, e);
    hand_from = λ n from a e. grind (arith, c.count, (c.nodes n).hand, law.counts.hand_from n from, a, e);
    in_hand = λ n from a d e. grind (arith, c.count, mail n from, (c.nodes n).hand, law.counts.in_hand n from, a, d, e);
  }
    where
      mail : (n from : ℕ) → mail_at v (way v from n) ≡ mail_at w (way w from n)
      mail n from = c.mail (way v from n) ∙ ap (λ i. mail_at w (from * i + n)) c.count

  shape-new : HasShape y
  shape-new = record {
    role = grind (arith, new.terminal, new.inward_primary, new.primary);
    marked_central = λ m. absurd (not_both y.marked m new.marked);
    marked_still = λ m. absurd (not_both y.marked m new.marked);
    holds_marked = λ m. absurd (not_both y.holds m new.holds);
    holds_fit = λ m. absurd (not_both y.holds m new.holds);
    holds_spare = λ m p. absurd (not_both y.holds m new.holds);
    dropped_sink = λ m. absurd (grind (arith, (law.shape k r is.here).dropped_sink (sym new.mark_dropped ∙ m), is.proxy));
    sent_proxy = λ m. unsent law is c new (sym new.gone_sent ∙ m);
    spare_proxy = λ i e. absurd (grind (arith, new.spare, e));
    spare_central = λ i e. absurd (grind (arith, new.spare, e));
  }

  pub shape-begun : Shape v
  shape-begun = each-one w v k y HasShape c.routers law.shape shape-new

  -- a link that the new bypass takes away is primary at all sides but the proxy's
  taken : (q : Key) (l : LinkId) (s : Side) → (q ≡ k → ⊥) → side_router g l s ≡ Some q → bypass_of after l ≡ Some o → 1 ≤ until after o l s
  unfolding bypass_of
  taken q (Central i) s apart at e = go (same_side s (proxy_side after o)) refl
    where
      go : (t : Bool) → same_side s (proxy_side after o) ≡ t → 1 ≤ until after o (Central i) s
      go false f = rw f (omega arith)
      go true f = absurd (apart (same_Some q k (sym at ∙ (λ t. side_router g (Central (word t)) (side t)) ∙ is.known)))
        where
          word : i ≡ o
          word = grind (arith, e)

          side : s ≡ r.end.side
          side = same_side-tells s _ f ∙ side-here law is c new
  taken q (Peripheral n x) B apart at e = omega arith
  taken q (Peripheral n x) A apart at e = go (same_key_tells (record { node = n; serial = x }) p)
    where
      i : Key
      i = record { node = n; serial = x }

      go : ((same_key i p ≡ true) × (i ≡ p)) ⊎ ((same_key i p ≡ false) × (i ≢ p)) → 1 ≤ until after o (inner_link i) A
      go (inl f) = absurd (apart (same_Some q k (sym at ∙ ap (λ t. side_router g (inner_link t) A) f.1 ∙ is.inner_known)))
      go (inr f) = absurd (grind (arith, by-inner g k o fresh p i, f.0, e, law.stands.by_begun i o, is.live))

  was-by : (l : LinkId) (j : ℕ) → nat_eq j o ≡ false → bypass_of after l ≡ Some j → bypass_of g l ≡ Some j
  unfolding bypass_of
  was-by (Central i) j n e = grind (arith, n, e, nat_tests)
  was-by (Peripheral i x) j n e = grind (arith, n, e, by-inner g k o fresh p (record { node = i; serial = x }), nat_tests)

  late : (j n : ℕ) → 1 ≤ n → n ≤ (g.bypass j).stage → nat_eq j o ≡ false
  late j n one l = not-begun law is c new j (grind (arith, one, l, nat_tests))

  knows : Knows w v g after
  knows = record {
    recorded = λ l e. rec-begun law is c new l ∙ e;
    router = λ l s q a e. router-begun g k o fresh p l s ∙ e;
    node = λ l s a. node-begun g k o fresh p l s;
    end = λ l s a. end-begun g k o fresh p l s;
    fresh = λ j b. rw (not-begun law is c new j b) refl;
    inner = λ j b. rw (not-begun law is c new j b) refl;
    stage = by_word o {P = λ j. (g.bypass j).stage ≤ (after.bypass j).stage} (grind (arith, is.live, nat_tests)) (λ j n. rw n (omega arith));
  }

  keeps : (q : Key) → (q ≡ k → ⊥) → Keeps w g after q
  keeps q apart = record {
    stays = λ d l s on. by_word o {P = λ j. bypass_of after l ≡ Some j → (after.bypass j).stage ≤ until after j l s}
        (λ f. rw (begun-here g k o fresh p) (taken q l s apart on.router f))
        (λ j n f. rw (until-same g after j l s (side-begun g k o fresh p j n), n) (on.stays j (was-by l j n f)));
    begun = λ j e. begun-same law is c new q apart ∙ e;
    across = λ j f. rw (late j 3 (omega arith) f.0) (refl, refl);
    inward = λ j f. rw (late j 2 (omega arith) f.0) (refl, refl);
    proxy = λ j e. rw (not-begun law is c new j (law.begun.begun_stage q j e)) (refl, refl);
  }

  -- the proxy has its old and its inner link
  role-new : HasRole v after k y
  role-new = record {
    role = Begun o true true;
    proxy = new.proxy;
    outward = trim-decays y.outward None (end_of after (Central o) (proxy_side after o)) _ _ new.primary (new.decaying ∙ ap Some old)
        (new.length_to ∙ sym (early _)) (new.length_from ∙ sym (early _));
    inward = trim-decays (inward_edge y) None (end_of after (inner_of after o) A) _ _ new.inward_primary (new.inward_decaying ∙ ap Some inner)
        (new.inward_to ∙ sym (early _)) (new.inward_from ∙ sym (early _));
    fits = (begun-new law is c new, new.end ∙ sym (ap (λ b. (after.peripheral b.inner).end) here ∙ end_at g k o fresh p p ∙ is.inner_end));
  }
    where
      here : after.bypass o ≡ record { stage = 1; proxy = k; inner = p; fresh = fresh; taken_at = 0; accepted_at = 0 }
      here = begun-here g k o fresh p

      early : (n : ℕ) → known_from 4 (after.bypass o).stage n ≡ None
      early n = ap (λ b. known_from 4 b.stage n) here ∙ known_from-early 4 1 n (omega arith)

      old : out ≡ end_of after (Central o) (proxy_side after o)
      old = rw (side-here law is c new, node-begun g k o fresh p (Central o) (opposite r.end.side))
          (λ t. record { link = is.outer_at t; side = is.outer_side t; other = is.outer_other t })

      inner : into ≡ end_of after (inner_of after o) A
      inner = rw (here, node-begun g k o fresh p (inner_link p) B) (λ t. record { link = is.inner_at t; side = is.inner_side t; other = is.inner_other t })

  pub roles-begun : Roles v after
  roles-begun q z at = elim (before law is c new q z at) [
    | inl a ↦ role-kept knows law.bypasses law.begun.begun_stage (keeps q a.1) z (law.roles q z a.0)
    | inr a ↦ rw (a.0, a.1) role-new
  ]

  pub begun-begun : BegunRecords after
  begun-begun = record {
    begun_proxy = λ q j f. proxies q j f (same_key_tells q k);
    begun_stage = λ q j f. stages q j f (same_key_tells q k);
    proxy_begun = by_word o {P = λ j. is_begun (after.bypass j) ≡ true → after.begun (after.bypass j).proxy ≡ Some j}
        (λ f. ap (λ t. after.begun t.proxy) (begun-here g k o fresh p) ∙ begun-new law is c new)
        (λ j n f. let a : is_begun (g.bypass j) ≡ true = grind (arith, begun-else g k o fresh p j n, f) in
        ap (λ t. after.begun t.proxy) (begun-else g k o fresh p j n) ∙ begun-same law is c new (g.bypass j).proxy (is.unbegun j a) ∙
        law.begun.proxy_begun j a);
  }
    where
      old-begun : (q : Key) (j : ℕ) → g.begun q ≡ Some j → after.bypass j ≡ g.bypass j
      old-begun q j i = begun-else g k o fresh p j (not-begun law is c new j (law.begun.begun_stage q j i))

      proxies : (q : Key) (j : ℕ) → after.begun q ≡ Some j → ((same_key q k ≡ true) × (q ≡ k)) ⊎ ((same_key q k ≡ false) × (q ≢ k)) →
          (after.bypass j).proxy ≡ q
      proxies q j f (inl a) = let n : j ≡ o = same_Some j o (sym f ∙ ap after.begun a.1 ∙ begun-new law is c new) in
          ap (λ t. (after.bypass t).proxy) n ∙ ap (λ t. t.proxy) (begun-here g k o fresh p) ∙ sym a.1
      proxies q j f (inr a) = let i : g.begun q ≡ Some j = sym (begun-same law is c new q a.1) ∙ f in
          ap (λ t. t.proxy) (old-begun q j i) ∙ law.begun.begun_proxy q j i

      stages : (q : Key) (j : ℕ) → after.begun q ≡ Some j → ((same_key q k ≡ true) × (q ≡ k)) ⊎ ((same_key q k ≡ false) × (q ≢ k)) →
          is_begun (after.bypass j) ≡ true
      stages q j f (inl a) = let n : j ≡ o = same_Some j o (sym f ∙ ap after.begun a.1 ∙ begun-new law is c new) in
          ap (λ t. is_begun (after.bypass t)) n ∙ ap is_begun (begun-here g k o fresh p)
      stages q j f (inr a) = let i : g.begun q ≡ Some j = sym (begun-same law is c new q a.1) ∙ f in
          ap is_begun (old-begun q j i) ∙ law.begun.begun_stage q j i
