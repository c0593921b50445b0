-- The law of words, from the invariant.
use Rattle.ipcz_world.proofs.frames.RolesTell.{links-in}
use Rattle.ipcz_world.proofs.Vocabulary.{Records, Owner, Spare, Opening, Fresh, Linked, is_linked, is_begun, is_recorded, side_router, side_end}
use Rattle.ipcz_world.proofs.Vocabulary.{across_side, Side, A, B, LinkId, Central, Peripheral, Message, has, same_link, World, Key, word_at, flow}
use Rattle.ipcz_world.proofs.Vocabulary.{Books, IsUnderWay, under_way, has_primary, of_bypass, control_weight, Inv, is_left, Lost, routes_of}
use Rattle.ipcz_world.proofs.Vocabulary.{Unclaimed}
use Rattle.ipcz_world.proofs.frames.Touching.{either}
use Rattle.ipcz_world.proofs.facts.Tests.{and_second}
use Rattle.std.specs.Prelude.{◌≡◌, ◌⊎◌, ◌&&◌, ℕ, Bool, true, false, cond, nat_eq, Option, Some, None, refl}
use Rattle.std.proofs.Common.{arith, ap, subst, ◌∙◌, sym, inl, inr}
use Rattle.std.proofs.lemmas.Bool.Decides.{nat_tests}
use Rattle.std.proofs.lemmas.Option.{same_Some}
use Rattle.ipcz_base.specs.declared.message.Message.TheVariants as messages
use Rattle.ipcz_world.proofs.frames.RecordRules.{record_rules, unclaimed-is}
use Rattle.ipcz_world.specs.Laws.{fresh_count, IsOnLink, names_link, WordLaw}
use Rattle.ipcz_world.proofs.frames.Telling.{IsPeer, peer_told, accept_told, stop_told, will_stop_told}
use Rattle.std.proofs.lemmas.Bool.{or_cases}
use Rattle.ipcz_world.proofs.frames.Totalling.{total_below-same}
use Rattle.ipcz_world.proofs.frames.Sums.{total_list-agree}
use Rattle.ipcz_world.proofs.frames.Passing.{Passes, passes-tells}
use Rattle.ipcz_world.proofs.frames.Having.{has_at}

pub is_link : (o : Owner) → is_linked o ≡ true → o ≡ Linked
unfolding is_linked
is_link Unclaimed e = cc
is_link (Spare k) e = cc
is_link (Opening n) e = cc
is_link (Fresh o) e = cc
is_link Lost e = cc
is_link Linked e = refl

pub under_way-agree : (w : World) (f h : ℕ → ℕ → Message → ℕ) → ((from to i : ℕ) (m : Message) → IsUnderWay w from to i m →
    f from to m ≡ h from to m) → under_way f w ≡ under_way h w
unfolding under_way
under_way-agree w f h e = total_below-same w.count _ _ (λ from l. total_below-same w.count _ _
    (λ to n. total_list-agree (f from to) (h from to) (flow w from to)
    (λ i m p. e from to i m (record { sender = l; receiver = n; place = p }))))

module _ (w : World) (b : Books) (g : Records) (law : Inv w b g) where
  -- one BypassPeer names a fresh word
  fresh_once : (old i : ℕ) → g.owner i ≡ Fresh old → under_way (λ from to m. fresh_count i m) w ≡ 1
  unfolding fresh_count of_bypass control_weight
  fresh_once old i own = under_way-agree w (λ from to m. fresh_count i m) (λ from to m. of_bypass g old (fresh_count i) m) same ∙
      law.controls.control old (λ from to m. fresh_count i m) ∙ one
    where
      stage : (g.bypass old).stage ≡ 1
      stage = law.spares.fresh old i own

      is_fresh : (g.bypass old).fresh ≡ i
      is_fresh = law.spares.fresh_back old i own

      one : control_weight g (λ from to m. fresh_count i m) old ≡ 1
      one = grind (arith, stage, is_fresh, nat_tests)

      named : (o : ℕ) → (g.bypass o).stage ≡ 1 → (g.bypass o).fresh ≡ i → o ≡ old
      named o st f = let back : g.owner i ≡ Fresh o = rw f at ((law.bypasses o).fresh st) in grind (arith, back, own)

      same : (from to j : ℕ) (m : Message) → IsUnderWay w from to j m → fresh_count i m ≡ of_bypass g old (fresh_count i) m
      same from to j (messages.Item link s n item moves) u = refl
      same from to j (messages.BypassPeer link s o target fresh) u =
          let at : IsPeer g from to o link s target fresh = peer_told w g from to j o link s target fresh law.controls u in
          go (nat_eq fresh i) (nat_eq o old) refl refl at
        where
          go : (p q : Bool) → nat_eq fresh i ≡ p → nat_eq o old ≡ q → IsPeer g from to o link s target fresh →
              ◌≡◌ {A = ℕ} (cond (nat_eq fresh i) 1 0) (cond (nat_eq o old) (cond (nat_eq fresh i) 1 0) 0)
          go p true e f at = grind (arith, f)
          go false false e f at = grind (arith, e, f)
          go true false e f at = let is : o ≡ old = named o at.stage (sym at.onto ∙ grind (arith, e, nat_tests)) in
              absurd (grind (arith, f, is, nat_tests))
      same from to j (messages.Flush link s) u = refl
      same from to j other u = grind arith

  linked_of : (i : ℕ) → is_recorded w g (Central i) ≡ true → g.owner i ≡ Linked
  linked_of i h = is_link (g.owner i) (grind (arith, record_rules, h))

  not_peripheral : (i n s : ℕ) (link : LinkId) → link ≡ Peripheral n s → same_link link (Central i) ≡ false
  not_peripheral i n s link e = rw e refl

  same_central : (i : ℕ) (link : LinkId) → same_link link (Central i) ≡ true → link ≡ Central i
  same_central i (Central j) h = ap Central (grind (arith, h, nat_tests))
  same_central i (Peripheral n s) h = cc

  named : (from to j : ℕ) (m : Message) (i : ℕ) → IsUnderWay w from to j m → names_link i m ≡ true → g.owner i ≡ Linked
  unfolding names_link
  named from to j (messages.Item link s n item moves) i u h = linked_of i
      (subst (λ l. is_recorded w g l ≡ true) (same_central i link h) (law.items.recorded from to j link s n item moves u))
  named from to j (messages.BypassPeer link s o target fresh) i u h =
      let at = peer_told w g from to j o link s target fresh law.controls u in
      let away = not_peripheral i _ _ link at.on_link in
      let is : o ≡ i = grind (arith, h, away, nat_tests) in
      is_link (g.owner i) (subst (λ x. is_linked (g.owner x) ≡ true) is ((law.bypasses o).old (grind (arith, at.stage, nat_tests))))
  named from to j (messages.AcceptBypass o s fresh length) i u h =
      let at = accept_told w g from to j o s fresh length law.controls u in
      go (or_cases _ _ h) (grind (arith, at.stage, nat_tests)) ((law.bypasses o).fresh_linked (omega (arith, at.stage))) at.onto
    where
      go : (nat_eq o i ≡ true) ⊎ (nat_eq fresh i ≡ true) → is_begun (g.bypass o) ≡ true → g.owner (g.bypass o).fresh ≡ Linked →
          fresh ≡ (g.bypass o).fresh → g.owner i ≡ Linked
      go (inl e) begun new onto = let is : o ≡ i = grind (arith, e, nat_tests) in
          is_link (g.owner i) (subst (λ x. is_linked (g.owner x) ≡ true) is ((law.bypasses o).old begun))
      go (inr e) begun new onto = let is : fresh ≡ i = grind (arith, e, nat_tests) in ap g.owner (sym is ∙ onto) ∙ new
  named from to j (messages.StopProxying s o in_length out_length) i u h =
      let at = stop_told w g from to j o s in_length out_length law.controls u in
      let is : o ≡ i = grind (arith, h, nat_tests) in
      is_link (g.owner i) (subst (λ x. is_linked (g.owner x) ≡ true) is ((law.bypasses o).old (grind (arith, at.stage, nat_tests))))
  named from to j (messages.ProxyWillStop link s in_length) i u h =
      let at = will_stop_told w g from to j link s in_length law.controls u in
      absurd (grind (arith, h, not_peripheral i _ _ link at.2.on_link))
  named from to j (messages.Flush link s) i u h = linked_of i (subst (λ l. is_recorded w g l ≡ true) (same_central i link h)
      (law.controls.flush_recorded from to j link s u))

  -- a link's word isn't 0, or a router has it
  used : (i : ℕ) → g.owner i ≡ Linked → (has (word_at w i).stable A ≡ true) ⊎ IsOnLink w i
  unfolding is_linked side_router
  used i own = go (is_begun (g.bypass i)) refl
    where
      linked : is_linked (g.owner i) ≡ true
      linked = rw own refl

      -- a side that was left is one of a word whose lock is held
      held : (s : Side) → is_left g (Central i) s ≡ true → has (word_at w i).stable A ≡ true
      held s h = elim (either (is_left g (Central i) A && has (word_at w i).holder A) (is_left g (Central i) B && has (word_at w i).holder B)
          ((law.words.each i).left_held s h)) [
            | inl a ↦ (law.words.each i).held_stable A A (and_second (is_left g (Central i) A) (has (word_at w i).holder A) a)
            | inr a ↦ (law.words.each i).held_stable B A (and_second (is_left g (Central i) B) (has (word_at w i).holder B) a)
          ]

      stands : (s : Side) (k : Key) → is_begun (g.bypass i) ≡ false → is_left g (Central i) s ≡ false →
          side_router g (Central i) s ≡ Some k → IsOnLink w i
      stands s k n l e =
          let p : Passes w (Some k) (has_primary (Central i) s) = passes-tells w (Some k) _ (law.stands.central i s k linked n l e) in
          record { key = p.key; router = p.router; side = s; here = p.here; on = grind (arith, p.passed) }

      -- not both sides are awaited
      awaited : is_begun (g.bypass i) ≡ false → (o : Option ℕ) → (g.central i).born ≡ o → (g.central i).router A ≡ None →
          (g.central i).router B ≡ None → ⊥
      awaited n None e a c = absurd (grind (arith, e, law.stands.awaited i A linked a))
      awaited n (Some o) e a c = apart (across_side g o) (law.stands.awaited_side i A o linked a e)
          (law.stands.awaited_side i B o linked c e)
        where
          apart : (t : Side) → A ≡ t → B ≡ t → ⊥
          apart t x y = cc

      some : (n : is_begun (g.bypass i) ≡ false) (a : is_left g (Central i) A ≡ false) (c : is_left g (Central i) B ≡ false)
          (p q : Option ℕ) → (g.central i).router A ≡ p → (g.central i).router B ≡ q → IsOnLink w i
      some n a c (Some x) q e f = stands A (record { node = (g.central i).node A; serial = x }) n a (rw e refl)
      some n a c None (Some x) e f = stands B (record { node = (g.central i).node B; serial = x }) n c (rw f refl)
      some n a c None None e f = absurd (awaited n (g.central i).born refl e f)

      go : (c : Bool) → is_begun (g.bypass i) ≡ c → (has (word_at w i).stable A ≡ true) ⊎ IsOnLink w i
      go true e = inl ((law.words.each i).begun_stable A e)
      go false e = on (is_left g (Central i) A) (is_left g (Central i) B) refl refl
        where
          on : (a c : Bool) → is_left g (Central i) A ≡ a → is_left g (Central i) B ≡ c →
              (has (word_at w i).stable A ≡ true) ⊎ IsOnLink w i
          on true c p q = inl (held A p)
          on false true p q = inl (held B q)
          on false false p q = inr (some e p q ((g.central i).router A) ((g.central i).router B) refl refl)

  pub word_law : WordLaw w (routes_of g)
  unfolding is_linked side_end
  word_law = record {
    owner = g.owner;
    is_link = λ i. refl;
    is_lost = λ i. refl;
    unclaimed = λ i l. unclaimed-is (g.owner i) (grind (arith, law.counts.unclaimed i, l, nat_tests));
    claimed = λ i l. grind (arith, law.counts.unclaimed i, l, nat_tests);
    unused = λ i. (law.words.each i).unused;
    spare = law.spares.spare;
    spare_back = law.spares.spare_back;
    opening = law.spares.opening;
    opening_back = law.spares.opening_back;
    fresh = λ from to j link s old target i u. let at = peer_told w g from to j old link s target i law.controls u in
        ap g.owner at.onto ∙ (law.bypasses old).fresh at.stage;
    fresh_back = fresh_once;
    linked = λ k r i s here has. linked_of i (has_at w g k r (Central i) s (links-in law) here has).recorded;
    linked_back = used;
    named = named;
    moving = law.moves.peripheral;
    of_pair = λ k r i s here has. ap (λ e. e.pair) (has_at w g k r (Central i) s (links-in law) here has).end;
    one_each = λ j k q r i s at here on_q on_r. same_Some j k (sym (has_at w g j q (Central i) s (links-in law) at on_q).router ∙
        (has_at w g k r (Central i) s (links-in law) here on_r).router);
  }
