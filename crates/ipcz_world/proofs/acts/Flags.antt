-- A router changes in flags alone, and a word with it: the invariant is kept.
use Rattle.ipcz_world.proofs.frames.RolesTell.{links-in}
use Rattle.ipcz_world.proofs.Vocabulary.{HasShape, End, Side, A, B, LinkId, Central, Peripheral, LinkEnd, opposite, has, word_of, Word, Router}
use Rattle.ipcz_world.proofs.Vocabulary.{primary_word, World, Key, same_key, word_at, router_at, Books, Records, is_recorded, is_linked, is_begun}
use Rattle.ipcz_world.proofs.Vocabulary.{side_router, side_end, across_side, is_attached, passes, key_passes, has_primary, Shape, Words, IsRecorded}
use Rattle.ipcz_world.proofs.Vocabulary.{Inv, source_of, is_proxy, decays, is_on_central, is_done, is_left, rest}
use Rattle.ipcz_world.proofs.frames.EachKept.{each-one}
use Rattle.ipcz_world.proofs.frames.GivingUp.{stays_bare}
use Rattle.ipcz_world.proofs.frames.Sourcing.{central_word}
use Rattle.ipcz_world.proofs.facts.Tests.{nat_eq-itself}
use Rattle.ipcz_edge.specs.Edge.{Edge}
use Rattle.std.specs.Prelude.{◌≡◌, ◌≢◌, ◌⊎◌, ◌≤◌, ℕ, Bool, true, false, cond, nat_eq, Option, Some, None, is_some, is_none, refl}
use Rattle.std.proofs.Common.{arith, sym, ◌∙◌, ap, inl, inr}
use Rattle.std.proofs.lemmas.Bool.Decides.{nat_tests}
use Rattle.std.proofs.lemmas.Option.{same_Some, none-some}
use Rattle.ipcz_world.proofs.facts.Lengths.{HasEnd, has_link-tells}
use Rattle.ipcz_world.proofs.frames.LeftSides.{not_left}
use Rattle.std.specs.Prelude.{◌||◌, ◌&&◌}
use Rattle.ipcz_router.specs.ActEffects.{run_dry}
use Rattle.ipcz_world.proofs.frames.Frames.{same_key_tells, same_key-itself}
use Rattle.ipcz_world.proofs.frames.RecordRules.{is_recorded-central}
use Rattle.ipcz_world.proofs.frames.StandingRules.{standing_rules}
use Rattle.ipcz_world.specs.HeldEnds.{dry_act}
use Rattle.ipcz_world.proofs.facts.Updates.{rest_act}
use Rattle.ipcz_world.proofs.frames.OneRouter.{SameWords, SameButRouter, set-router, words-set_router}
use Rattle.ipcz_world.proofs.facts.LinkTests.{side_is}
use Rattle.ipcz_world.proofs.frames.Views.{IsPart}
use Rattle.ipcz_world.proofs.frames.GivingUp.{Gives, HasSameFlags, counts-gives, passes-still}
use Rattle.ipcz_world.proofs.frames.GivenUp.{Settled, stays, keeps_all, spares-gives}
use Rattle.ipcz_world.proofs.frames.GivenUp.{stages-flags, inv-flags, inv-gives}

-- a router with the same links and queues
pub record IsFlagged (r y : Router) : Type 0 where
  pub end : y.end ≡ r.end
  pub outward : y.outward ≡ r.outward
  pub inward : y.inward ≡ r.inward
  pub out_queue : y.out_queue ≡ r.out_queue
  pub in_queue : y.in_queue ≡ r.in_queue
  pub closed : y.closed ≡ r.closed
  pub mark_seen : y.mark_seen ≡ r.mark_seen
  pub mark_dropped : y.mark_dropped ≡ r.mark_dropped
  pub gone_sent : y.gone_sent ≡ r.gone_sent

pub flagged-part : (r y : Router) → IsFlagged r y → IsPart r y
flagged-part r y same = record {
  end = same.end;
  out_queue = same.out_queue;
  in_queue = same.in_queue;
  proxy = ap is_some same.inward;
  terminal = ap is_none same.inward;
  closed = same.closed;
  mark_seen = same.mark_seen;
  mark_dropped = same.mark_dropped;
  gone_sent = same.gone_sent;
  primary = ap (λ e. e.primary) same.outward;
  inward_primary = grind (arith, same.inward);
  decaying = λ e h. grind (arith, same.outward, h);
  length_to = λ e h. grind (arith, same.outward);
  length_from = λ e h. grind (arith, same.outward);
  inward_decaying = λ e h. grind (arith, same.inward, h);
  inward_to = λ e h. grind (arith, same.inward);
  inward_from = λ e h. grind (arith, same.inward);
}

same-attached : (l : LinkId) (s : Side) (r y : Router) → IsFlagged r y → is_attached l s y ≡ is_attached l s r
unfolding is_attached
same-attached (Central i) s r y same = grind (arith, same.outward)
same-attached (Peripheral n x) A r y same = grind (arith, same.inward)
same-attached (Peripheral n x) B r y same = grind (arith, same.outward)

-- nothing is given up
pub flagged-settled : (w v : World) (b : Books) (g : Records) (k : Key) (r y : Router) → Inv w b g → router_at w k ≡ Some r →
    IsFlagged r y → Settled w v g k r (Some y)
flagged-settled w v b g k r y law here same = record {
  own_old = λ o e a c h. grind (arith, standing_rules, same.outward, h);
  own_inner = λ o e a c h. grind (arith, standing_rules, same.inward, h);
  inner = λ o e a c h. grind (arith, standing_rules, same.outward, h);
  known = λ l s up. absurd (never l s up.had up.hasnt);
  nothing = λ from to i l s n item moves u up. never l s up.had up.hasnt;
  across_gone = λ o q at a up. absurd (never _ _ up.had up.hasnt);
  inner_gone = λ o q at a up. absurd (never _ _ up.had up.hasnt);
  out_finished = λ o z e a f h. law.proxy_numbers.out_finished o r (ap (router_at w) e ∙ here) a (grind (arith, same.outward, f, h));
  in_finished = λ o z e a f h. law.proxy_numbers.in_finished o r (ap (router_at w) e ∙ here) a (grind (arith, same.inward, f, h));
}
  where
    never : (l : LinkId) (s : Side) → is_attached l s r ≡ true → passes (Some y) (is_attached l s) ≡ false → ⊥
    never l s had hasnt = grind (arith, standing_rules, same-attached l s r y same, had, hasnt)

-- if no word and no flag of a word changes, that is all
pub inv-flagged : (w v : World) (b : Books) (g : Records) (k : Key) (r y : Router) → Inv w b g → router_at w k ≡ Some r →
    SameButRouter w v k (Some y) → SameWords w v → IsFlagged r y → HasSameFlags r y → Inv v b g
inv-flagged w v b g k r y law here one words same flags =
    inv-gives w v b g k r (Some y) (stays w v k r y one here (flagged-part r y same)) (stays_bare r y) (keeps_all w v r y words flags)
    (flagged-settled w v b g k r y law here same) law

pub inv-rest : (w : World) (b : Books) (g : Records) (k : Key) (r : Router) → Inv w b g → router_at w k ≡ Some r → Inv (rest_act w k r) b g
inv-rest w b g k r law here = inv-flagged w (rest_act w k r) b g k r (rest r) law here (set-router w k (rest r))
    (words-set_router w k (rest r)) flagged flags
  where
    flagged : IsFlagged r (rest r)
    flagged = record { end = refl; outward = refl; inward = refl; out_queue = refl; in_queue = refl; closed = refl; mark_seen = refl; mark_dropped = refl; gone_sent = refl }

    flags : HasSameFlags r (rest r)
    flags = record { spare = refl; marked = refl; holds = refl }

pub inv-dry : (w : World) (b : Books) (g : Records) (k : Key) (r : Router) → Inv w b g → router_at w k ≡ Some r → Inv (dry_act w k r) b g
inv-dry w b g k r law here = inv-flagged w (dry_act w k r) b g k r (run_dry r) law here (set-router w k (run_dry r))
    (words-set_router w k (run_dry r)) flagged flags
  where
    flagged : IsFlagged r (run_dry r)
    flagged = record { end = refl; outward = refl; inward = refl; out_queue = refl; in_queue = refl; closed = refl; mark_seen = refl; mark_dropped = refl; gone_sent = refl }

    flags : HasSameFlags r (run_dry r)
    flags = record { spare = refl; marked = refl; holds = refl }

-- the router is the one that stands at its side of a word's link
pub record OnWord (w : World) (g : Records) (k : Key) (r : Router) (i : ℕ) : Type 0 where
  pub end : LinkEnd
  pub primary : r.outward.primary ≡ Some end
  pub link : end.link ≡ Central i
  pub side : end.side ≡ r.end.side
  pub linked : is_linked (g.owner i) ≡ true
  pub known : side_router g (Central i) r.end.side ≡ Some k

pub on-word : (w : World) (b : Books) (g : Records) (k : Key) (r : Router) (i : ℕ) → Inv w b g → router_at w k ≡ Some r →
    primary_word r ≡ Some i → OnWord w g k r i
unfolding word_of side_end
on-word w b g k r i law here on = go r.outward.primary refl
  where
    at : (e : LinkEnd) → r.outward.primary ≡ Some e → (l : LinkId) → e.link ≡ l → OnWord w g k r i
    at e p (Peripheral n x) q = absurd (grind (arith, on, p, q))
    at e p (Central j) q =
        let m : j ≡ i = same_Some j i (grind (arith, on, p, q)) in
        let l : e.link ≡ Central i = q ∙ ap Central m in
        let is : IsRecorded w g k r e = ((links-in law) k r here).primary e p in
        let s : e.side ≡ r.end.side = sym (ap (λ z. z.side) (is.end ∙ ap (λ t. side_end g t e.side) l)) in
        record {
          end = e;
          primary = p;
          link = l;
          side = s;
          linked = sym (is_recorded-central w g i) ∙ ap (is_recorded w g) (sym l) ∙ is.recorded;
          known = ap (side_router g (Central i)) (sym s) ∙ ap (λ t. side_router g t e.side) (sym l) ∙ is.router;
        }

    go : (o : Option LinkEnd) → r.outward.primary ≡ o → OnWord w g k r i
    go None p = absurd (grind (arith, on, p))
    go (Some e) p = at e p e.link refl

-- its primary link is that of no other word, nor at the other side
pub record SameAs (i j : ℕ) (s t : Side) : Type 0 where
  pub word : j ≡ i
  pub side : t ≡ s

pub only-word : {w : World} {g : Records} {k : Key} {r : Router} {i : ℕ} → OnWord w g k r i → router_at w k ≡ Some r → (j : ℕ) (s : Side) →
    key_passes w (Some k) (has_primary (Central j) s) ≡ true → SameAs i j r.end.side s
only-word {r = r} {i = i} is here j s h =
    let t : HasEnd r.outward.primary (Central j) s = has_link-tells r.outward.primary (Central j) s
    (grind (arith, standing_rules, here, h)) in
    let same : is.end ≡ t.end = same_Some _ _ (sym is.primary ∙ t.there) in
    record { word = grind (arith, same, is.link, t.on_link); side = sym t.at_side ∙ sym (ap (λ e. e.side) same) ∙ is.side }

-- a word and its router's flags change together
pub record Touches (x x' : Word) (y : Router) : Type 0 where
  pub stable : has x'.stable y.end.side ≡ y.marked
  pub stable_other : has x'.stable (opposite y.end.side) ≡ has x.stable (opposite y.end.side)
  pub holder : has x'.holder y.end.side ≡ y.holds
  pub holder_other : has x'.holder (opposite y.end.side) ≡ has x.holder (opposite y.end.side)
  pub held_stable : (s t : Side) → has x'.holder s ≡ true → has x'.stable t ≡ true
  pub one_holder : (s t : Side) → has x'.holder s ≡ true → has x'.holder t ≡ true → s ≡ t
  pub source : y.holds ≡ true → x'.source ≡ source_of y
  pub source_other : has x.holder (opposite y.end.side) ≡ true → x'.source ≡ x.source

pub words-touched : (w v : World) (b : Books) (g : Records) (k : Key) (r y : Router) (i : ℕ) (x : Word) → Inv w b g →
    router_at w k ≡ Some r → OnWord w g k r i → is_begun (g.bypass i) ≡ false → SameButRouter w v k (Some y) → IsFlagged r y →
    ((j : ℕ) → word_at v j ≡ cond (nat_eq j i) x (word_at w j)) → Touches (word_at w i) x y → Words v g
words-touched w v b g k r y i x law here on live one same words touch = record {
  each = λ j. record {
    unused = λ h. grind (arith, words j, (law.words.each j).unused, on.linked, nat_tests, h);
    begun_stable = λ s h. grind (arith, words j, (law.words.each j).begun_stable s, live, nat_tests, h);
    begun_holder = λ s h. grind (arith, words j, (law.words.each j).begun_holder s, live, nat_tests, h);
    stable = λ s l h n. agree (λ z. has z.stable) (λ z. z.marked) (λ i. (law.words.each i).stable) touch.stable touch.stable_other j s l h n
        (side_router g (Central j) s) refl;
    holder = λ s l h n. agree (λ z. has z.holder) (λ z. z.holds) (λ i. (law.words.each i).holder) touch.holder touch.holder_other j s l h n
        (side_router g (Central j) s) refl;
    left_held = λ s h. left j s h (nat_eq j i) refl;
    held_stable = λ s t h. grind (arith, words j, (law.words.each j).held_stable s t, touch.held_stable s t, nat_tests, h);
    one_holder = λ s t a c. grind (arith, words j, (law.words.each j).one_holder s t, touch.one_holder s t, nat_tests, a, c);
    begun_source = λ h l. ap (λ (z : Word). z.source) (words j) ∙ ap (λ (z : Word). z.source)
        (ap (λ c. cond c x (word_at w j)) (apart j h)) ∙
        (law.words.each j).begun_source h l;
  };
  source = λ q z e j at h p l. sourced q z e j at h p l (same_key_tells q k) (nat_eq j i) refl;
}
  where
    -- the router of a live link's side is this one only there
    only : (j : ℕ) (s : Side) → is_linked (g.owner j) ≡ true → is_begun (g.bypass j) ≡ false → side_router g (Central j) s ≡ Some k →
        SameAs i j y.end.side s
    only j s l h e = let a : SameAs i j r.end.side s = only-word on here j s
        (law.stands.central j s k l h (not_left w g (Central j) s k r law.stands e here) e) in
        record { word = a.word; side = a.side ∙ sym (ap (λ z. z.side) same.end) }

    known : side_router g (Central i) y.end.side ≡ Some k
    known = ap (λ z. side_router g (Central i) z.side) same.end ∙ on.known

    -- at the router itself, and elsewhere
    Case : ℕ → Side → Key → Type 0
    Case j s q = ((q ≡ k) × SameAs i j y.end.side s) ⊎ ((same_key q k ≡ false) ×
        ((nat_eq j i ≡ false) ⊎ ((j ≡ i) × (s ≡ opposite y.end.side))))

    case : (j : ℕ) (s : Side) → is_linked (g.owner j) ≡ true → is_begun (g.bypass j) ≡ false → (q : Key) →
        side_router g (Central j) s ≡ Some q → Case j s q
    case j s l h q e = keys (same_key_tells q k)
      where
        other : same_key q k ≡ false → q ≢ k → (s ≡ y.end.side) ⊎ (s ≡ opposite y.end.side) → (c : Bool) → nat_eq j i ≡ c →
            (nat_eq j i ≡ false) ⊎ ((j ≡ i) × (s ≡ opposite y.end.side))
        other a n t false m = inl m
        other a n (inr t) true m = inr (grind (arith, m, nat_tests), t)
        other a n (inl t) true m = absurd (n (let z : j ≡ i = grind (arith, m, nat_tests) in
            same_Some q k (sym e ∙ ap (λ x. side_router g (Central x) s) z ∙ ap (side_router g (Central i)) t ∙ known)))

        keys : ((same_key q k ≡ true) × (q ≡ k)) ⊎ ((same_key q k ≡ false) × (q ≢ k)) → Case j s q
        keys (inl a) = inl (a.1, only j s l h (e ∙ ap Some a.1))
        keys (inr a) = inr (a.0, other a.0 a.1 (side_is s y.end.side) (nat_eq j i) refl)

    -- a side that was left holds the lock still
    left : (j : ℕ) (s : Side) → is_left g (Central j) s ≡ true → (c : Bool) → nat_eq j i ≡ c →
        ((is_left g (Central j) A && has (word_at v j).holder A) || (is_left g (Central j) B && has (word_at v j).holder B)) ≡ true
    left j s h false e = rw (words j ∙ ap (λ c. cond c x (word_at w j)) e) ((law.words.each j).left_held s h)
    left j s h true e = let z : j ≡ i = grind (arith, e, nat_tests) in
        rw (z, words i ∙ ap (λ c. cond c x (word_at w i)) (nat_eq-itself i)) (across r.end.side refl)
      where
        stays : is_left g (Central i) r.end.side ≡ false
        stays = not_left w g (Central i) r.end.side k r law.stands on.known here

        other : has x.holder (opposite r.end.side) ≡ has (word_at w i).holder (opposite r.end.side)
        other = ap (λ (d : End). has x.holder (opposite d.side)) (sym same.end) ∙ touch.holder_other ∙
            ap (λ (d : End). has (word_at w i).holder (opposite d.side)) same.end

        at_i : is_left g (Central i) s ≡ true
        at_i = let z : j ≡ i = grind (arith, e, nat_tests) in ap (λ n. is_left g (Central n) s) (sym z) ∙ h

        across : (t : Side) → r.end.side ≡ t →
            ((is_left g (Central i) A && has x.holder A) || (is_left g (Central i) B && has x.holder B)) ≡ true
        across A f = let a : is_left g (Central i) A ≡ false = ap (is_left g (Central i)) (sym f) ∙ stays in
            let o : has x.holder B ≡ has (word_at w i).holder B = ap (λ t. has x.holder (opposite t)) (sym f) ∙ other ∙
            ap (λ t. has (word_at w i).holder (opposite t)) f in
            rw (a, o) (rw (a) at ((law.words.each i).left_held s at_i))
        across B f = let a : is_left g (Central i) B ≡ false = ap (is_left g (Central i)) (sym f) ∙ stays in
            let o : has x.holder A ≡ has (word_at w i).holder A = ap (λ t. has x.holder (opposite t)) (sym f) ∙ other ∙
            ap (λ t. has (word_at w i).holder (opposite t)) f in
            rw (a, o) (rw (a) at ((law.words.each i).left_held s at_i))

    -- a bit of the words tells a flag of the routers
    agree : (bit : Word → Side → Bool) (flag : Router → Bool) → ((j : ℕ) (s : Side) → is_linked (g.owner j) ≡ true →
        is_begun (g.bypass j) ≡ false → is_left g (Central j) s ≡ false → bit (word_at w j) s ≡
        key_passes w (side_router g (Central j) s) flag) →
        bit x y.end.side ≡ flag y → bit x (opposite y.end.side) ≡ bit (word_at w i) (opposite y.end.side) → (j : ℕ) (s : Side) →
        is_linked (g.owner j) ≡ true → is_begun (g.bypass j) ≡ false → is_left g (Central j) s ≡ false → (q : Option Key) →
        side_router g (Central j) s ≡ q → bit (word_at v j) s ≡ key_passes v q flag
    agree bit flag old mine other j s l h u None e = none (nat_eq j i) refl (side_is s y.end.side)
      where
        none : (c : Bool) → nat_eq j i ≡ c → (s ≡ y.end.side) ⊎ (s ≡ opposite y.end.side) → bit (word_at v j) s ≡ key_passes v None flag
        none false m t = grind (arith, standing_rules, words j, old j s l h u, e, m)
        none true m (inl t) = let z : j ≡ i = grind (arith, m, nat_tests) in
            absurd (none-some k (sym e ∙ ap (λ n. side_router g (Central n) s) z ∙ ap (side_router g (Central i)) t ∙ known))
        none true m (inr t) = let z : j ≡ i = grind (arith, m, nat_tests) in
            grind (arith, standing_rules, words j, old j s l h u, e, m, z, t, other)
    agree bit flag old mine other j s l h u (Some q) e = some (case j s l h q e)
      where
        some : Case j s q → bit (word_at v j) s ≡ key_passes v (Some q) flag
        some (inl a) = grind (arith, standing_rules, words j, a.0, a.1.word, a.1.side, one.routers q, same_key-itself k, mine, nat_tests)
        some (inr (a, inl m)) = grind (arith, standing_rules, words j, old j s l h u, e, m, a, one.routers q)
        some (inr (a, inr m)) = grind (arith, standing_rules, words j, old j s l h u, e, m.0, m.1, a, one.routers q, other, nat_tests)

    apart : (o : ℕ) → is_begun (g.bypass o) ≡ true → nat_eq o i ≡ false
    apart o h = grind (arith, live, nat_tests, h)

    y_on : (z : Router) (e : LinkEnd) (j : ℕ) → z ≡ y → z.outward.primary ≡ Some e → e.link ≡ Central j → j ≡ i
    y_on z e j f p l = let there : r.outward.primary ≡ Some e = ap (λ (u : Edge). u.primary) (sym same.outward) ∙
        ap (λ (u : Router). u.outward.primary) (sym f) ∙ p in
        let ends : on.end ≡ e = same_Some _ _ (sym on.primary ∙ there) in
        central_word j i (sym l ∙ ap (λ (u : LinkEnd). u.link) (sym ends) ∙ on.link)

    was : (q : Key) (z : Router) → router_at v q ≡ Some z → same_key q k ≡ false → router_at w q ≡ Some z
    was q z at a = grind (arith, at, one.routers q, a)

    -- another router that holds the lock of the word is across
    other_holds : (q : Key) (z : Router) (e : LinkEnd) (j : ℕ) → router_at w q ≡ Some z → z.holds ≡ true → z.outward.primary ≡ Some e →
        e.link ≡ Central j → j ≡ i → q ≢ k → has (word_at w i).holder (opposite y.end.side) ≡ true
    other_holds q z e j there h p l n ne = go (side_is e.side y.end.side)
      where
        rec : IsRecorded w g q z e
        rec = ((links-in law) q z there).primary e p

        at_i : side_router g (Central i) e.side ≡ Some q
        at_i = ap (λ u. side_router g u e.side) (sym (l ∙ ap Central n)) ∙ rec.router

        passed : key_passes w (side_router g (Central i) e.side) (λ u. u.holds) ≡ true
        passed = grind (arith, standing_rules, at_i, there, h)

        held : has (word_at w i).holder e.side ≡ true
        held = (law.words.each i).holder e.side on.linked live (not_left w g (Central i) e.side q z law.stands at_i there) ∙ passed

        go : (e.side ≡ y.end.side) ⊎ (e.side ≡ opposite y.end.side) → has (word_at w i).holder (opposite y.end.side) ≡ true
        go (inl t) = absurd (ne (same_Some q k (sym at_i ∙ ap (side_router g (Central i)) t ∙ known)))
        go (inr t) = ap (has (word_at w i).holder) (sym t) ∙ held

    sourced : (q : Key) (z : Router) (e : LinkEnd) (j : ℕ) → router_at v q ≡ Some z → z.holds ≡ true → z.outward.primary ≡ Some e →
        e.link ≡ Central j → ((same_key q k ≡ true) × (q ≡ k)) ⊎ ((same_key q k ≡ false) × (q ≢ k)) → (c : Bool) → nat_eq j i ≡ c →
        (word_at v j).source ≡ source_of z
    sourced q z e j at h p l (inl a) c m = let f : z ≡ y = grind (arith, at, one.routers q, a.0) in
        let n : j ≡ i = y_on z e j f p l in
        ap (λ u. (word_at v u).source) n ∙ ap (λ (u : Word). u.source) (words i ∙ ap (λ c. cond c x (word_at w i)) (nat_eq-itself i)) ∙
        touch.source (ap (λ (u : Router). u.holds) (sym f) ∙ h) ∙ ap source_of (sym f)
    sourced q z e j at h p l (inr a) false m = ap (λ (u : Word). u.source) (words j ∙ ap (λ c. cond c x (word_at w j)) m) ∙
        law.words.source q z e j (was q z at a.0) h p l
    sourced q z e j at h p l (inr a) true m = let n : j ≡ i = grind (arith, m, nat_tests) in
        let there : router_at w q ≡ Some z = was q z at a.0 in
        ap (λ (u : Word). u.source) (words j ∙ ap (λ c. cond c x (word_at w j)) m) ∙
        touch.source_other (other_holds q z e j there h p l n a.1) ∙ ap (λ u. (word_at w u).source) (sym n) ∙
        law.words.source q z e j there h p l

-- the flags of a router with a word are as its shape wants
pub record FlagsFit (r y : Router) : Type 0 where
  pub spare : y.spare ≡ r.spare
  pub central : y.marked ≡ true → is_on_central r ≡ true
  pub still : y.marked ≡ true → decays r ≡ false
  pub marked : y.holds ≡ true → y.marked ≡ true
  pub fit : y.holds ≡ true → (is_proxy r || is_done r) ≡ true
  pub word : y.holds ≡ true → is_proxy r ≡ true → is_some r.spare ≡ true

shape-flagged : (r y : Router) → IsFlagged r y → FlagsFit r y → HasShape r → HasShape y
shape-flagged r y same fit law = record {
  role = rw (same.outward, same.inward) law.role;
  marked_central = λ m. rw (same.outward) (fit.central m);
  marked_still = λ m. rw (same.outward, same.inward) (fit.still m);
  holds_marked = fit.marked;
  holds_fit = λ m. rw (same.inward, same.closed, same.mark_dropped, same.out_queue) (fit.fit m);
  holds_spare = λ m p. ap is_some fit.spare ∙ fit.word m (sym (ap is_some same.inward) ∙ p);
  dropped_sink = λ m. rw (same.inward, same.closed) (law.dropped_sink (sym same.mark_dropped ∙ m));
  sent_proxy = λ m. rw (same.inward) (law.sent_proxy (sym same.gone_sent ∙ m));
  spare_proxy = λ i e. ap is_some same.inward ∙ law.spare_proxy i (sym fit.spare ∙ e);
  spare_central = λ i e. rw (same.outward) (law.spare_central i (sym fit.spare ∙ e));
}

pub shape-touched : (w v : World) (k : Key) (r y : Router) → Shape w → router_at w k ≡ Some r → SameButRouter w v k (Some y) →
    IsFlagged r y → FlagsFit r y → Shape v
shape-touched w v k r y law here one same fit = each-one w v k y HasShape one.routers law (shape-flagged r y same fit (law k r here))

-- an act on a word of a live link, and on its router's flags
pub inv-touched : (w v : World) (b : Books) (g : Records) (k : Key) (r y : Router) (i : ℕ) (x : Word) → Inv w b g → router_at w k ≡ Some r →
    primary_word r ≡ Some i → is_begun (g.bypass i) ≡ false → SameButRouter w v k (Some y) → v.claimed ≡ w.claimed → IsFlagged r y →
    ((j : ℕ) → word_at v j ≡ cond (nat_eq j i) x (word_at w j)) → FlagsFit r y → Touches (word_at w i) x y → Inv v b g
inv-touched w v b g k r y i x law here at live one claimed same words is touch = inv-flags w v b g k r (Some y) gives (stays_bare r y) settled law (record {
  counts = counts-gives w v g k r (Some y) gives claimed law.counts;
  shape = shape-touched w v k r y law.shape here one same is;
  words = words-touched w v b g k r y i x law here on live one same words touch;
  spares = spares-gives w v g k r (Some y) gives (λ z e. ap (λ t. t.spare) (sym (same_Some y z e)) ∙ is.spare)
      (λ e. absurd (none-some y (sym e))) law.spares;
  stages = stages-flags w v g k r (Some y) gives (stays_bare r y) settled law.stages
      (λ o a c. passes-still gives _ _ ((law.stages o).across_marked a c) (λ e t. absurd (other o a c e)))
      (λ o a c. passes-still gives _ _ ((law.stages o).across_free a c) (λ e t. absurd (other o a c e)));
})
  where
    on : OnWord w g k r i
    on = on-word w b g k r i law here at

    gives : Gives w v k r (Some y)
    gives = stays w v k r y one here (flagged-part r y same)

    settled : Settled w v g k r (Some y)
    settled = flagged-settled w v b g k r y law here same

    -- the router across of a bypass is on another word
    other : (o : ℕ) → is_begun (g.bypass o) ≡ true → (g.bypass o).stage ≤ 2 → side_router g (Central o) (across_side g o) ≡ Some k → ⊥
    other o a c e =
        let s : SameAs i o r.end.side (across_side g o) = only-word on here o (across_side g o)
        (sym (ap (λ q. key_passes w q (has_primary (Central o) (across_side g o))) e) ∙ (law.stages o).across_old a c) in
        grind (arith, s.word, a, live)
