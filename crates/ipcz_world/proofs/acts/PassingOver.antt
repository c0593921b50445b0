-- A claim may pass over the next number, which is nobody's then, and there may be more numbers: the invariant is kept.
use Rattle.ipcz_world.proofs.frames.OfRecords.{holds, held_times, source}
use Rattle.ipcz_world.proofs.Vocabulary.{in_router, times, Side, A, B, End, LinkId, Central, Peripheral, place_at, mail_at, way, total, World, Key}
use Rattle.ipcz_world.proofs.Vocabulary.{node_at, word_at, router_at, flow, set_claimed, Books, empty_word, Records, Owner, Spare, Opening, Fresh}
use Rattle.ipcz_world.proofs.Vocabulary.{is_linked, is_unclaimed, is_nowhere, times_held, Inv, Unclaimed, Lost, is_lost_owner, routes_of}
use Rattle.ipcz_world.specs.Routes.{source as source', lose_word}
use Rattle.ipcz_world.specs.Records.{Linked}
use Rattle.ipcz_world.proofs.facts.RecordsAfter.{set_owner}
use Rattle.ipcz_world.specs.HeldEnds.{grown}
use Rattle.std.specs.Prelude.{◌≡◌, ◌≢◌, ◌⊎◌, ◌≤◌, ◌<◌, ℕ, zero, suc, ◌+◌, Bool, true, false, cond, nat_eq, nat_le, Some, List, [], ◌∷◌, ◌++◌, replicate, refl}
use Rattle.std.proofs.Common.{arith, ap, ◌∙◌, sym, inl, inr}
use Rattle.std.proofs.lemmas.Bool.Decides.{nat_tests}
use Rattle.ipcz_world.proofs.frames.Frames.{frames}
use Rattle.ipcz_world.proofs.frames.Changing.{flow_is, same_routers}
use Rattle.ipcz_world.proofs.frames.FirstLink.{inv-grown}
use Rattle.ipcz_world.proofs.frames.RecordRules.{unclaimed-is}
use Rattle.ipcz_world.proofs.facts.Tests.{not_both}
use Rattle.ipcz_world.proofs.facts.Lost.{not_lost}
use Rattle.ipcz_world.proofs.acts.OpenedNodes.{times_by, places_by, same_number}

-- two worlds whose nodes, words, mailboxes and messages are the same
pub record HasSameParts (w v : World) : Type 0 where
  pub nodes : (n : ℕ) → node_at v n ≡ node_at w n
  pub words : (i : ℕ) → word_at v i ≡ word_at w i
  pub mail : (k : ℕ) → mail_at v k ≡ mail_at w k
  pub count : v.count ≡ w.count

pub same-flows : (w v : World) → HasSameParts w v → (from to : ℕ) → flow v from to ≡ flow w from to
same-flows w v same from to = flow_is v from to ∙ grind (arith, same.nodes from, same.mail (way v from to), same.count) ∙ sym (flow_is w from to)

-- an owner who is nobody
pub record IsNobody (o : Owner) : Type 0 where
  pub unlinked : is_linked o ≡ false
  pub not_spare : (k : Key) → o ≢ Spare k
  pub not_fresh : (old : ℕ) → o ≢ Fresh old
  pub not_opening : (n : ℕ) → o ≢ Opening n

pub lost_nobody : IsNobody Lost
unfolding is_linked
lost_nobody = record { unlinked = refl; not_spare = λ k e. cc; not_fresh = λ old e. cc; not_opening = λ n e. cc }

pub unclaimed_nobody : IsNobody Unclaimed
unfolding is_linked
unclaimed_nobody = record { unlinked = refl; not_spare = λ k e. cc; not_fresh = λ old e. cc; not_opening = λ n e. cc }

module _ (w v : World) (b : Books) (g : Records) (i : ℕ) (o : Owner) (law : Inv w b g) (mine : g.owner i ≡ Unclaimed) (nobody : IsNobody o)
    (same : HasSameParts w v) where
  abbrev owner' : ℕ → Owner
  owner' = λ j. cond (nat_eq j i) o (g.owner j)

  routers : (q : Key) → router_at v q ≡ router_at w q
  routers q = same_routers w v q (ap (λ n. n.routers) (same.nodes q.node))

  flows : (from to : ℕ) → flow v from to ≡ flow w from to
  flows from to = same-flows w v same from to

  now : owner' i ≡ o
  now = grind (arith, nat_tests)

  sources : (l : LinkId) (s : Side) → source (set_owner g i o) l s ≡ source g l s
  unfolding source'
  sources (Central j) s = refl
  sources (Peripheral m y) A = refl
  sources (Peripheral m y) B = refl

  times_kept : (e : End) → times_held v e ≡ times_held w e
  times_kept e = times_by w v e same.count (λ m l. ap (λ n. held_times e n.held + times e n.pending) (same.nodes m))

  opening : (m j : ℕ) → (node_at v m).opening ≡ Some j → (c : Bool) → nat_eq j i ≡ c → owner' j ≡ Opening m
  opening m j e true c = grind (arith, same.nodes m, e, c, law.spares.opening m j, mine, nat_tests)
  opening m j e false c = grind (arith, same.nodes m, e, c, law.spares.opening m j, nat_tests)

  opening_back : (m j : ℕ) → owner' j ≡ Opening m → (j ≡ i) ⊎ (j ≢ i) → (node_at v m).opening ≡ Some j
  opening_back m j e (inl s) = absurd (nobody.not_opening m (sym now ∙ (ap owner' (sym s) ∙ e)))
  opening_back m j e (inr ne) = grind (arith, same.nodes m, e, ne, law.spares.opening_back m j, nat_tests)

  -- an unclaimed number gets nobody as its owner
  pub inv-nobody : v.claimed ≤ v.size → ((j : ℕ) → is_unclaimed (owner' j) ≡ nat_le v.claimed j) → Inv v b (set_owner g i o)
  unfolding is_unclaimed is_linked source'
  inv-nobody room unclaimed = inv-grown w v b g owner' g.central g.terminal i (λ s. record { node = 0; serial = 0 }) law
      (record {
        was = λ q x e. inl (sym (routers q) ∙ e);
        old = λ q l. routers q;
        count = same.count;
        node = λ m. grind (arith, same.nodes m);
        nodes = λ m. grind (arith, same.nodes m);
        next_peripheral = λ m. grind (arith, same.nodes m);
        next_router = λ m. grind (arith, same.nodes m);
        strays = λ m. grind (arith, same.nodes m);
        pending = λ m. grind (arith, same.nodes m);
        hands = record { hand = λ m. grind (arith, same.nodes m); mail = same.mail };
        flows = flows;
        claimed = room;
        unclaimed = unclaimed;
        owner = λ j ne. grind (arith, ne, nat_tests);
        central = λ j ne. refl;
        word = λ j ne. same.words j;
        free = ap is_linked mine;
        no_spare = λ k e. grind (arith, mine, e);
        no_fresh = λ old e. grind (arith, mine, e);
        not_spare = λ k e. nobody.not_spare k (sym now ∙ e);
        not_fresh = λ old e. nobody.not_fresh old (sym now ∙ e);
        opening = λ m j e. opening m j e (nat_eq j i) refl;
        opening_back = λ m j e. opening_back m j e (same_number j i);
        unlinked = λ e. same.words i ∙ (law.words.each i).unused (ap is_linked mine);
        still = λ e. refl;
        linked = λ e. absurd (not_both (is_linked (owner' i)) e (ap is_linked now ∙ nobody.unlinked));
        terminal = λ e. inl refl;
        terminal_pair = law.terminals.both;
        held = λ m e k. inl (ap (holds e) (ap (λ n. n.held) (sym (same.nodes m))) ∙ k);
        times = λ e. ap (λ t. t + cond (is_nowhere (g.terminal e)) 0 1) (times_kept e);
        places = λ f. places_by f w v b g (set_owner g i o) law same.count flows (λ l s r. sources l s)
            (λ m. grind (arith, same.nodes m)) (λ m. ap (λ n. total (λ serial r. in_router f r) n.routers) (same.nodes m));
      })

not_linked : (o : Owner) → is_unclaimed o ≡ true → is_linked o ≡ false
unfolding is_unclaimed is_linked
not_linked Linked h = cc
not_linked other h = refl

-- the next number is passed over
pub same-claimed : (w : World) (c : ℕ) → HasSameParts w (set_claimed w c)
same-claimed w c = record {
  nodes = λ n. grind (arith, frames);
  words = λ i. grind (arith, frames);
  mail = λ k. grind (arith, frames);
  count = grind (arith, frames);
}

pub inv-passed : (w : World) (b : Books) (g : Records) → Inv w b g → w.claimed < w.size →
    Inv (set_claimed w (w.claimed + 1)) b (set_owner g w.claimed Lost)
unfolding is_unclaimed
inv-passed w b g law room = inv-nobody w (set_claimed w (w.claimed + 1)) b g w.claimed Lost law mine lost_nobody (same-claimed w (w.claimed + 1))
    (grind (arith, frames, room)) (λ j. grind (arith, frames, law.counts.unclaimed j, nat_tests))
  where
    mine : g.owner w.claimed ≡ Unclaimed
    mine = unclaimed-is (g.owner w.claimed) (law.counts.unclaimed w.claimed ∙ grind (arith, nat_tests))

-- the routes say that it is lost
pub routes_passed : (w : World) (b : Books) (g : Records) → Inv w b g → routes_of (set_owner g w.claimed Lost) ≡ lose_word (routes_of g) w.claimed
unfolding is_linked is_lost_owner
routes_passed w b g law = λ t. record {
  is_link = λ j. link j (nat_eq j w.claimed) refl t;
  pair = λ j. (g.central j).pair;
  end = λ k. (g.peripheral k).end;
  lost = λ j. lost j (nat_eq j w.claimed) refl t;
}
  where
    lost : (j : ℕ) (c : Bool) → nat_eq j w.claimed ≡ c → is_lost_owner (cond (nat_eq j w.claimed) Lost (g.owner j)) ≡
        cond (nat_eq j w.claimed) true (is_lost_owner (g.owner j))
    lost j true e = rw e refl
    lost j false e = rw e refl

    free : is_linked (g.owner w.claimed) ≡ false
    free = not_linked (g.owner w.claimed) (law.counts.unclaimed w.claimed ∙ grind (arith, nat_tests))

    link : (j : ℕ) (c : Bool) → nat_eq j w.claimed ≡ c → is_linked (cond (nat_eq j w.claimed) Lost (g.owner j)) ≡ is_linked (g.owner j)
    link j true e = rw e (sym (ap (λ i. is_linked (g.owner i)) (let s : j ≡ w.claimed = grind (arith, e, nat_tests) in s) ∙ free))
    link j false e = rw e refl

-- there are more numbers, and none is claimed
none_there : {X : Type 0} (d : X) (n i : ℕ) → place_at d (replicate n d) i ≡ d
unfolding place_at
none_there d zero i = refl
none_there d (suc n) zero = refl
none_there d (suc n) (suc i) = none_there d n i

padded : {X : Type 0} (d : X) (xs : List X) (n i : ℕ) → place_at d (xs ++ replicate n d) i ≡ place_at d xs i
unfolding place_at
padded d [] n i = none_there d n i
padded d (x ∷ xs) n zero = refl
padded d (x ∷ xs) n (suc i) = padded d xs n i

pub same-grown : (w : World) (count : ℕ) → HasSameParts w (grown w count)
unfolding node_at word_at mail_at
same-grown w count = record { nodes = λ n. refl; words = λ i. padded empty_word w.words count i; mail = λ k. refl; count = refl }

pub inv-more : (w : World) (b : Books) (g : Records) (count : ℕ) → Inv w b g → Inv (grown w count) b (set_owner g w.claimed Unclaimed)
unfolding is_unclaimed
inv-more w b g count law = inv-nobody w (grown w count) b g w.claimed Unclaimed law mine unclaimed_nobody (same-grown w count)
    (let l = law.counts.claimed in omega (arith, l)) (λ j. grind (arith, law.counts.unclaimed j, nat_tests))
  where
    mine : g.owner w.claimed ≡ Unclaimed
    mine = unclaimed-is (g.owner w.claimed) (law.counts.unclaimed w.claimed ∙ grind (arith, nat_tests))

pub routes_more : (w : World) (b : Books) (g : Records) → Inv w b g → routes_of (set_owner g w.claimed Unclaimed) ≡ routes_of g
unfolding is_linked is_lost_owner
routes_more w b g law = λ t. record {
  is_link = λ j. link j (nat_eq j w.claimed) refl t;
  pair = λ j. (g.central j).pair;
  end = λ k. (g.peripheral k).end;
  lost = λ j. lost j (nat_eq j w.claimed) refl t;
}
  where
    unlost : is_lost_owner (g.owner w.claimed) ≡ false
    unlost = not_lost (g.owner w.claimed) (law.counts.unclaimed w.claimed ∙ grind (arith, nat_tests))

    lost : (j : ℕ) (c : Bool) → nat_eq j w.claimed ≡ c → is_lost_owner (cond (nat_eq j w.claimed) Unclaimed (g.owner j)) ≡ is_lost_owner (g.owner j)
    lost j true e = rw e (sym (ap (λ i. is_lost_owner (g.owner i)) (let s : j ≡ w.claimed = grind (arith, e, nat_tests) in s) ∙ unlost))
    lost j false e = rw e refl

    free : is_linked (g.owner w.claimed) ≡ false
    free = not_linked (g.owner w.claimed) (law.counts.unclaimed w.claimed ∙ grind (arith, nat_tests))

    link : (j : ℕ) (c : Bool) → nat_eq j w.claimed ≡ c → is_linked (cond (nat_eq j w.claimed) Unclaimed (g.owner j)) ≡ is_linked (g.owner j)
    link j true e = rw e (sym (ap (λ i. is_linked (g.owner i)) (let s : j ≡ w.claimed = grind (arith, e, nat_tests) in s) ∙ free))
    link j false e = rw e refl
