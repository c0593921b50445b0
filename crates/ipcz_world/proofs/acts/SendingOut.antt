-- A router sends the current item of its out queue over the link that it chooses.
use Rattle.ipcz_world.proofs.Vocabulary.{Side, A, B, LinkId, Central, Peripheral, LinkEnd, Item, opposite, has_link, Edge, item_at, Router, World}
use Rattle.ipcz_world.proofs.Vocabulary.{Key, router_at, Records, is_recorded, is_begun, is_linked, inner_link, side_router, side_length, bypass_of}
use Rattle.ipcz_world.proofs.Vocabulary.{known_from, proxy_side, across_side, view, view_by, is_attached, is_gone, key_passes, has_primary}
use Rattle.ipcz_world.proofs.Vocabulary.{has_decaying, has_inward_decaying, Positions, Stands, is_outward, BypassRecords, Stages, inner_of}
use Rattle.ipcz_world.proofs.Vocabulary.{ProxyNumbers, FreshNumbers, is_left, edge_decays, way_out, length_by, bypass_length, awaited_view}
use Rattle.ipcz_world.proofs.Vocabulary.{has_inward_primary, link_in}
use Rattle.std.specs.Prelude.{◌≡◌, ◌⊎◌, ◌≤◌, ◌<◌, ℕ, Bool, true, false, nat_le, if◌then◌else◌, Option, Some, None, is_some, refl}
use Rattle.std.proofs.Common.{arith, ap, subst, ◌∙◌, sym, inl, inr}
use Rattle.std.proofs.lemmas.Bool.Decides.{nat_tests}
use Rattle.ipcz_edge.specs.Edge.{choose, is_short_of}
use Rattle.ipcz_world.proofs.frames.RecordRules.{is_recorded-central, side_router-proxy, bypass_of-inner}
use Rattle.ipcz_world.proofs.frames.StandingRules.{standing_rules}
use Rattle.ipcz_world.proofs.frames.Known.{has_link-tells}
use Rattle.ipcz_world.proofs.facts.LinkTests.{side_is, same_side-opposite}
use Rattle.ipcz_world.proofs.frames.Draining.{is_gone-standing}
use Rattle.ipcz_world.proofs.facts.Lengths.{same_link-itself, same_side-itself, opposite-twice, view-standing}
use Rattle.std.proofs.lemmas.Bool.{or_right}
use Rattle.ipcz_world.proofs.frames.BegunLengths.{bypass_of-central_is}

-- the link that is chosen: the primary one, or the decaying one below its length
pub choose-tells : (e : Edge) (n : ℕ) (x : LinkEnd) → choose e n ≡ Some x →
    (e.primary ≡ Some x) ⊎ ((e.decaying ≡ Some x) × (is_short_of n e.length_to ≡ true))
unfolding choose
choose-tells e n x h = go (edge_decays e) (is_short_of n e.length_to) refl refl
  where
    go : (a b : Bool) → edge_decays e ≡ a → is_short_of n e.length_to ≡ b →
        (e.primary ≡ Some x) ⊎ ((e.decaying ≡ Some x) × (is_short_of n e.length_to ≡ true))
    go true true p q = inr (grind (arith, h, p, q), q)
    go true false p q = inl (grind (arith, h, p, q))
    go false b p q = inl (grind (arith, h, p, q))

pub has_link-end : (o : Option LinkEnd) (e : LinkEnd) → o ≡ Some e → has_link o e.link e.side ≡ true
unfolding has_link
has_link-end o e h = grind (arith, h, same_link-itself e.link, same_side-itself e.side)

-- a length that is known, by the link and the side
pub length-known : (g : Records) (link : LinkId) (s : Side) (len : ℕ) → side_length g link s ≡ Some len →
    (o : ℕ) × (bypass_of g link ≡ Some o) × (bypass_length g o link s ≡ Some len)
unfolding length_by
length-known g link s len h = go (bypass_of g link) refl h
  where
    go : (o : Option ℕ) → bypass_of g link ≡ o → length_by g link s o ≡ Some len →
        (o : ℕ) × (bypass_of g link ≡ Some o) × (bypass_length g o link s ≡ Some len)
    go None e q = cc
    go (Some o) e q = (o, e, q)

known_from-tells : (first stage n len : ℕ) → known_from first stage n ≡ Some len → (first ≤ stage) × (n ≡ len)
unfolding known_from
known_from-tells first stage n len h = go (nat_le first stage) refl (grind (arith, h))
  where
    go : (b : Bool) → nat_le first stage ≡ b → (if b then Some n else None) ≡ Some len → (first ≤ stage) × (n ≡ len)
    go true e q = (grind (arith, e, nat_tests), grind (arith, q))
    go false e q = cc

pub length-old_proxy : (g : Records) (i len : ℕ) → side_length g (Central i) (proxy_side g i) ≡ Some len →
    (3 ≤ (g.bypass i).stage) × (len ≡ (g.bypass i).taken_at)
unfolding bypass_length
length-old_proxy g i len h = let k = length-known g (Central i) (proxy_side g i) len h in let is = bypass_of-central_is g i k.0 k.1 in
    let f = known_from-tells 3 (g.bypass i).stage (g.bypass i).taken_at len (grind (arith, k.2, is.0, same_side-itself (proxy_side g i))) in
    (f.0, sym f.1)

pub length-old_across : (g : Records) (i len : ℕ) → side_length g (Central i) (across_side g i) ≡ Some len →
    (3 ≤ (g.bypass i).stage) × (len ≡ (g.bypass i).accepted_at)
unfolding bypass_length
length-old_across g i len h = let k = length-known g (Central i) (across_side g i) len h in let is = bypass_of-central_is g i k.0 k.1 in
    let f = known_from-tells 3 (g.bypass i).stage (g.bypass i).accepted_at len
    (grind (arith, k.2, is.0, same_side-opposite (proxy_side g i))) in (f.0, sym f.1)

pub length-inner_out : (g : Records) (p : Key) (len : ℕ) → side_length g (inner_link p) B ≡ Some len →
    (o : ℕ) × ((g.peripheral p).by ≡ Some o) × (2 ≤ (g.bypass o).stage) × (len ≡ (g.bypass o).taken_at)
unfolding bypass_length bypass_of
length-inner_out g p len h = let k = length-known g (inner_link p) B len h in let f =
    known_from-tells 2 (g.bypass k.0).stage (g.bypass k.0).taken_at len k.2 in (k.0, k.1, f.0, sym f.1)

pub length-inner_in : (g : Records) (p : Key) (len : ℕ) → side_length g (inner_link p) A ≡ Some len →
    (o : ℕ) × ((g.peripheral p).by ≡ Some o) × (3 ≤ (g.bypass o).stage) × (len ≡ (g.bypass o).accepted_at)
unfolding bypass_length bypass_of
length-inner_in g p len h = let k = length-known g (inner_link p) A len h in let f =
    known_from-tells 3 (g.bypass k.0).stage (g.bypass k.0).accepted_at len k.2 in (k.0, k.1, f.0, sym f.1)

-- a central link's awaited side isn't gone
awaited_view-none : (w : World) (g : Records) (i : ℕ) (t : Side) → side_router g (Central i) t ≡ None →
    is_gone (view w g (Central i) t) ≡ false
unfolding view_by awaited_view is_gone
awaited_view-none w g i t h = grind (arith, h)

-- a router that has the link in some position isn't gone from it
pub not_gone : (w : World) (g : Records) (link : LinkId) (s : Side) (q : Key) (test : Router → Bool) → side_router g link s ≡ Some q →
    key_passes w (Some q) test ≡ true →
    ((x : Router) → test x ≡ true → is_attached link s x ≡ true) → is_gone (view w g link s) ≡ false
not_gone w g link s q test e pass att = go (router_at w q) refl
  where
    go : (o : Option Router) → router_at w q ≡ o → is_gone (view w g link s) ≡ false
    go None h = absurd (grind (arith, standing_rules, h, pass))
    go (Some x) h = ap is_gone (view-standing w g link s q x e h (att x (grind (arith, standing_rules, h, pass)))) ∙ is_gone-standing x

pub attached-primary : (i : ℕ) (s : Side) (x : Router) → has_primary (Central i) s x ≡ true → is_attached (Central i) s x ≡ true
unfolding is_attached
attached-primary i s x h = grind (arith, h)

pub attached-decaying : (i : ℕ) (s : Side) (x : Router) → has_decaying (Central i) s x ≡ true → is_attached (Central i) s x ≡ true
unfolding is_attached
attached-decaying i s x h = or_right (has_primary (Central i) s x) (has_decaying (Central i) s x) h

pub attached-inward_primary : (p : Key) (x : Router) → has_inward_primary (inner_link p) A x ≡ true → is_attached (inner_link p) A x ≡ true
unfolding is_attached
attached-inward_primary p x h = grind (arith, h)

pub attached-inward_decaying : (p : Key) (x : Router) → has_inward_decaying (inner_link p) A x ≡ true →
    is_attached (inner_link p) A x ≡ true
unfolding is_attached
attached-inward_decaying p x h = or_right (has_inward_primary (inner_link p) A x) (has_inward_decaying (inner_link p) A x) h

pub attached-inner_primary : (p : Key) (x : Router) → has_primary (inner_link p) B x ≡ true → is_attached (inner_link p) B x ≡ true
unfolding is_attached
attached-inner_primary p x h = grind (arith, h)

pub attached-inner_decaying : (p : Key) (x : Router) → has_decaying (inner_link p) B x ≡ true → is_attached (inner_link p) B x ≡ true
unfolding is_attached
attached-inner_decaying p x h = or_right (has_primary (inner_link p) B x) (has_decaying (inner_link p) B x) h

-- a decaying link is sent over only by the proxy that is bypassed, over the old link
pub record IsOwn (g : Records) (k : Key) (e : LinkEnd) : Type 0 where
  pub old : ℕ
  pub link_is : e.link ≡ Central old
  pub side_is : e.side ≡ proxy_side g old
  pub proxy : (g.bypass old).proxy ≡ k
  pub begun : is_begun (g.bypass old) ≡ true

past_length : (n len : ℕ) (o : Option ℕ) → o ≡ Some len → is_short_of n o ≡ true → len ≤ n → ⊥
unfolding is_short_of
past_length n len o e short le = grind (arith, e, short, le, nat_tests)

pub some_link : (o : Option LinkEnd) (l : LinkId) → link_in o ≡ Some l → (p : LinkEnd) × (o ≡ Some p)
some_link None l h = cc
some_link (Some p) l h = (p, refl)

pub decaying_own : (w : World) (g : Records) (k : Key) (r : Router) (e : LinkEnd) → Positions w g → FreshNumbers w g →
    router_at w k ≡ Some r → r.outward.decaying ≡ Some e → is_outward e.link e.side ≡ true →
    is_short_of r.out_queue.current r.outward.length_to ≡ true → IsOwn g k e
unfolding is_outward
decaying_own w g k r e law fresh here off out short = go e.link refl (bypass_of g e.link) refl ((law.each k r here).decaying e off)
  where
    past : (len : ℕ) (l : LinkId) → link_in r.outward.primary ≡ Some l → r.outward.length_to ≡ Some len → ⊥
    past len l h to = let p = some_link r.outward.primary l h in past_length r.out_queue.current len r.outward.length_to to short
        ((fresh k r here).own p.0 e len p.1 off to)

    go : (l : LinkId) → e.link ≡ l → (o : Option ℕ) → bypass_of g e.link ≡ o → is_some (bypass_of g e.link) ≡ true → IsOwn g k e
    go l el None b some = absurd (grind (arith, b, some))
    go (Central i) el (Some o) b some = elim (side_is e.side (proxy_side g i)) [
      | inl s ↦ record {
        old = i;
        link_is = el;
        side_is = s;
        proxy = (law.each k r here).own_proxy e i off el s;
        begun =
            (bypass_of-central_is g i o (ap (bypass_of g) (sym el) ∙ b)).1;
      }
      | inr s ↦ absurd (past (g.bypass i).accepted_at (Central (g.bypass i).fresh) ((law.each k r here).across_fresh e i off el s)
          ((law.each k r here).across_to e i off el s))
    ]
    go (Peripheral n x) el (Some o) b some =
        let by : (g.peripheral (record { node = n; serial = x })).by ≡ Some o =
        sym (bypass_of-inner g (record { node = n; serial = x })) ∙ ap (bypass_of g) (sym el) ∙ b in
        absurd (past (g.bypass o).taken_at (Central (g.bypass o).fresh)
        ((law.each k r here).inner_fresh e (record { node = n; serial = x }) o off el by)
        ((law.each k r here).inner_to e (record { node = n; serial = x }) o off el by))

-- what is sent lies below the link's length
pub below_out : (w : World) (g : Records) (k : Key) (r : Router) (e : LinkEnd) (item : Item) (len : ℕ) → Positions w g → FreshNumbers w g →
    ProxyNumbers w g → router_at w k ≡ Some r → is_outward e.link e.side ≡ true → way_out r ≡ Some e →
    item_at r.out_queue r.out_queue.current ≡ Some item → side_length g e.link e.side ≡ Some len → r.out_queue.current < len
unfolding is_outward
below_out w g k r e item len law fresh proxy here out chosen at h = elim (choose-tells r.outward r.out_queue.current e chosen) [
  | inl on ↦ primary on e.link refl e.side refl out h
  | inr off ↦ own off.0 (decaying_own w g k r e law fresh here off.0 out off.1)
]
  where
    own : r.outward.decaying ≡ Some e → IsOwn g k e → r.out_queue.current < len
    own off is =
        let f = length-old_proxy g is.old len (subst (λ t. side_length g (Central is.old) t ≡ Some len) is.side_is
        (subst (λ l. side_length g l e.side ≡ Some len) is.link_is h)) in
        let low : r.out_queue.current < (g.bypass is.old).taken_at =
        proxy.out_items is.old r r.out_queue.current item (ap (router_at w) is.proxy ∙ here) (omega (arith, f.0)) at in
        omega (arith, low, f.1)

    primary : r.outward.primary ≡ Some e → (l : LinkId) → e.link ≡ l → (t : Side) → e.side ≡ t → is_outward l t ≡ true →
        side_length g l t ≡ Some len → r.out_queue.current < len
    primary on (Central i) el t et o q =
        let b = length-known g (Central i) t len q in let begun = (bypass_of-central_is g i b.0 b.1).1 in
        let f = length-old_across g i len (subst (λ z. side_length g (Central i) z ≡ Some len)
        (sym et ∙ (law.each k r here).primary_across e i on el begun) q) in
        absurd (omega (arith, f.0, (law.each k r here).primary_old e i on el begun))
    primary on (Peripheral n x) el A et o q = absurd (grind (arith, o))
    primary on (Peripheral n x) el B et o q =
        let f = length-inner_out g (record { node = n; serial = x }) len q in
        absurd (omega (arith, f.2, (law.each k r here).primary_inner e (record { node = n; serial = x }) f.0 on el f.1))

stage_case : (n m : ℕ) → (n ≤ m) ⊎ (m < n)
stage_case n m = go (nat_le n m) refl
  where
    go : (b : Bool) → nat_le n m ≡ b → (n ≤ m) ⊎ (m < n)
    go true e = inl (grind (arith, e, nat_tests))
    go false e = inr (grind (arith, e, nat_tests))

-- the receiver isn't gone
pub there_out : (w : World) (g : Records) (k : Key) (r : Router) (e : LinkEnd) (item : Item) → Positions w g → FreshNumbers w g →
    ProxyNumbers w g → Stands w g → BypassRecords w g → Stages w g → router_at w k ≡ Some r → is_outward e.link e.side ≡ true →
    way_out r ≡ Some e →
    item_at r.out_queue r.out_queue.current ≡ Some item → is_recorded w g e.link ≡ true →
    (r.outward.primary ≡ Some e → is_left g e.link (opposite e.side) ≡ false) → is_gone (view w g e.link (opposite e.side)) ≡ false
unfolding is_outward
there_out w g k r e item law fresh proxy stands bypasses stages here out chosen at rec unleft =
    elim (choose-tells r.outward r.out_queue.current e chosen) [
      | inl on ↦ primary on e.link refl e.side refl out rec
      | inr off ↦ own off.0 (decaying_own w g k r e law fresh here off.0 out off.1)
    ]
  where
    -- the router across, by stage
    across : (o : ℕ) → is_begun (g.bypass o) ≡ true → (g.bypass o).proxy ≡ k → (q : Option Key) →
        side_router g (Central o) (across_side g o) ≡ q → is_gone (view w g (Central o) (across_side g o)) ≡ false
    across o begun is None s = absurd (grind (arith, (bypasses o).across begun, s))
    across o begun is (Some q) s = elim (stage_case (g.bypass o).stage 2) [
      | inl low ↦ not_gone w g (Central o) (across_side g o) q (has_primary (Central o) (across_side g o)) s
          (ap (λ z. key_passes w z (has_primary (Central o) (across_side g o))) (sym s) ∙ (stages o).across_old begun low)
          (attached-primary o (across_side g o))
      | inr high ↦ test (is_gone (view w g (Central o) (across_side g o))) refl high
    ]
      where
        test : (b : Bool) → is_gone (view w g (Central o) (across_side g o)) ≡ b → 2 < (g.bypass o).stage →
            is_gone (view w g (Central o) (across_side g o)) ≡ false
        test false f high = f
        test true f high =
            let past : (g.bypass o).taken_at ≤ r.out_queue.current =
            proxy.across_gone o r (ap (router_at w) is ∙ here) (omega (arith, high)) f in
            let low : r.out_queue.current < (g.bypass o).taken_at =
            proxy.out_items o r r.out_queue.current item (ap (router_at w) is ∙ here) (omega (arith, high)) at in
            absurd (omega (arith, past, low))

    own : r.outward.decaying ≡ Some e → IsOwn g k e → is_gone (view w g e.link (opposite e.side)) ≡ false
    own off is = subst (λ l. is_gone (view w g l (opposite e.side)) ≡ false) (sym is.link_is)
        (subst (λ t. is_gone (view w g (Central is.old) (opposite t)) ≡ false) (sym is.side_is)
        (across is.old is.begun is.proxy (side_router g (Central is.old) (across_side g is.old)) refl))

    -- a central link that isn't being bypassed
    free : (i : ℕ) (t : Side) → is_linked (g.owner i) ≡ true → is_begun (g.bypass i) ≡ false → is_left g (Central i) t ≡ false → (q : Option Key) →
        side_router g (Central i) t ≡ q → is_gone (view w g (Central i) t) ≡ false
    free i t linked live nl None s = awaited_view-none w g i t s
    free i t linked live nl (Some q) s = not_gone w g (Central i) t q (has_primary (Central i) t) s (stands.central i t q linked live nl s)
        (attached-primary i t)

    proxy_unleft : (p : Key) → e.link ≡ inner_link p → r.outward.primary ≡ Some e → is_left g (inner_link p) A ≡ false
    proxy_unleft p el on = ap (λ x. is_left g x A) (sym el) ∙ ap (λ s. is_left g e.link (opposite s)) (sym (side_b p el e.side refl out)) ∙ unleft on
      where
        side_b : (p : Key) → e.link ≡ inner_link p → (t : Side) → e.side ≡ t → is_outward e.link e.side ≡ true → e.side ≡ B
        side_b p el A et o = absurd (grind (arith, o, el, et))
        side_b p el B et o = et

    -- the proxy of a peripheral link
    proxied : (p : Key) → is_recorded w g (inner_link p) ≡ true → r.outward.primary ≡ Some e → e.link ≡ inner_link p → (o : Option ℕ) →
        (g.peripheral p).by ≡ o → is_gone (view w g (inner_link p) A) ≡ false
    proxied p h on el None by =
        let q : Key = record { node = p.node; serial = (g.peripheral p).proxy } in let is : side_router g (inner_link p) A ≡ Some q =
        side_router-proxy g p in
        not_gone w g (inner_link p) A q (has_inward_primary (inner_link p) A) is
        (ap (λ z. key_passes w z (has_inward_primary (inner_link p) A)) (sym is) ∙ stands.proxy p h by (proxy_unleft p el on)) (attached-inward_primary p)
    proxied p h on el (Some o) by =
        let is : (g.bypass o).inner ≡ p = stands.by_inner p o by in let begun = stands.by_begun p o by in let stage =
        (law.each k r here).primary_inner e p o on el by in
        not_gone w g (inner_link p) A (g.bypass o).proxy (has_inward_decaying (inner_link p) A)
        (ap (λ z. side_router g (inner_link z) A) (sym is) ∙ (bypasses o).proxy_inner begun)
        (ap (λ z. key_passes w (Some (g.bypass o).proxy) (has_inward_decaying (inner_link z) A)) (sym is) ∙ (stages o).proxy_inner begun
        (omega (arith, stage))) (attached-inward_decaying p)

    primary : r.outward.primary ≡ Some e → (l : LinkId) → e.link ≡ l → (t : Side) → e.side ≡ t → is_outward l t ≡ true →
        is_recorded w g l ≡ true → is_gone (view w g l (opposite t)) ≡ false
    primary on (Central i) el t et o h = by_begun (is_begun (g.bypass i)) refl
      where
        by_begun : (b : Bool) → is_begun (g.bypass i) ≡ b → is_gone (view w g (Central i) (opposite t)) ≡ false
        by_begun false b = free i (opposite t) (sym (is_recorded-central w g i) ∙ h) b
            (ap (λ x. is_left g x (opposite t)) (sym el) ∙ ap (λ s. is_left g e.link (opposite s)) (sym et) ∙ unleft on) (side_router g (Central i) (opposite t)) refl
        by_begun true b =
            let side : opposite t ≡ proxy_side g i = ap opposite (sym et ∙ (law.each k r here).primary_across e i on el b) ∙
            opposite-twice (proxy_side g i)
            in
            subst (λ z. is_gone (view w g (Central i) z) ≡ false) (sym side)
            (not_gone w g (Central i) (proxy_side g i) (g.bypass i).proxy (has_decaying (Central i) (proxy_side g i))
            ((bypasses i).proxy_old b) ((stages i).proxy_old b (omega (arith, (law.each k r here).primary_old e i on el b)))
            (attached-decaying i (proxy_side g i)))
    primary on (Peripheral n x) el A et o h = absurd (grind (arith, o))
    primary on (Peripheral n x) el B et o h = proxied (record { node = n; serial = x }) h on el
        (g.peripheral (record { node = n; serial = x })).by refl

-- what the router inward sends over a fresh link whose router across is awaited is past its own length
pub low_out : (w : World) (g : Records) (k : Key) (r : Router) (c o : ℕ) (t : Side) → Positions w g → FreshNumbers w g → Stands w g →
    BypassRecords w g → Stages w g → router_at w k ≡ Some r → is_linked (g.owner c) ≡ true →
    side_router g (Central c) (opposite t) ≡ Some k → (g.central c).router t ≡ None → (g.central c).born ≡ Some o →
    (g.bypass o).taken_at ≤ r.out_queue.current
low_out w g k r c o t law fresh stands bypasses stages here linked at none born =
    let stage = stands.awaited_stage c t o linked none born in let side = stands.awaited_side c t o linked none born in let is =
    (bypasses o).born_fresh c linked born in
    let own : side_router g (inner_of g o) B ≡ Some k = sym ((bypasses o).fresh_inner (omega (arith, stage))) ∙ ap
    (λ z. side_router g (Central z) (proxy_side g o)) is ∙
    ap (side_router g (Central c)) (sym (opposite-twice (proxy_side g o)) ∙ ap opposite (sym side)) ∙ at in
    let has : key_passes w (Some k) (has_decaying (inner_of g o) B) ≡ true =
    ap (λ z. key_passes w z (has_decaying (inner_of g o) B)) (sym own) ∙ (stages o).inner_decaying (omega (arith, stage))
    (omega (arith, stage)) in
    let end = has_link-tells r.outward.decaying (inner_of g o) B (grind (arith, standing_rules, has, here)) in
    let by = (bypasses o).inner_by (grind (arith, stage, nat_tests)) in
    let p = some_link r.outward.primary (Central (g.bypass o).fresh)
    ((law.each k r here).inner_fresh end.end (g.bypass o).inner o end.is end.link_is by) in
    (fresh k r here).own p.0 end.end (g.bypass o).taken_at p.1 end.is
    ((law.each k r here).inner_to end.end (g.bypass o).inner o end.is end.link_is by)
