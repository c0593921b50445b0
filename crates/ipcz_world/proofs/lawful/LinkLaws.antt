-- The laws of links and of bypasses, from the invariant.
use Rattle.ipcz_world.proofs.frames.RolesTell.{links-in, positions-in}
use Rattle.std.specs.Prelude.{◌&&◌}
use Rattle.ipcz_world.proofs.frames.Touching.{either}
use Rattle.std.proofs.lemmas.Bool.{and_parts}
use Rattle.ipcz_world.proofs.Vocabulary.{Side, A, B, Central, LinkEnd, has, opposite, same_side, Router, inward_edge, World, Key, word_at, router_at}
use Rattle.ipcz_world.proofs.Vocabulary.{Books, Records, is_linked, is_begun, side_router, proxy_side, across_side, bypass_of, has_primary}
use Rattle.ipcz_world.proofs.Vocabulary.{IsRecorded, is_outward, Inv, is_left, has_inward_primary}
use Rattle.ipcz_world.proofs.frames.LeftSides.{not_left}
use Rattle.std.proofs.lemmas.Bool.Decides.{nat_tests}
use Rattle.ipcz_world.proofs.frames.Telling.{peer_told, accept_told}
use Rattle.std.proofs.Common.{true≢false}
use Rattle.ipcz_world.proofs.frames.OfRecords.{none_stable}
use Rattle.std.specs.Prelude.{◌≡◌, ◌≤◌, ℕ, Bool, true, false, not, Some, is_some, refl}
use Rattle.std.proofs.Common.{arith, ap, subst, ◌∙◌, sym, inl, inr}
use Rattle.std.proofs.lemmas.Option.{same_Some}
use Rattle.ipcz_word.specs.Word.{is_free}
use Rattle.ipcz_world.proofs.frames.RecordRules.{bypass_of-central, record_rules}
use Rattle.ipcz_world.specs.Laws.{There, LinkLaw, IsBypassed, BypassLaw}
use Rattle.ipcz_world.proofs.facts.LinkTests.{same_side-opposite}
use Rattle.ipcz_world.proofs.facts.Lengths.{same_side-itself, HasEnd, has_link-tells}
use Rattle.ipcz_world.proofs.frames.Telling.{old_begun}
use Rattle.ipcz_world.proofs.frames.Passing.{Passes, passes-tells, passes-at}

-- a router whose outward primary link is the word's
pub record IsOn (w : World) (g : Records) (k : Key) (r : Router) (i : ℕ) (s : Side) : Type 0 where
  pub end : LinkEnd
  pub is : r.outward.primary ≡ Some end
  pub link : end.link ≡ Central i
  pub side : end.side ≡ s
  pub linked : is_linked (g.owner i) ≡ true
  pub router : side_router g (Central i) s ≡ Some k

pub on_tells : (w : World) (b : Books) (g : Records) (k : Key) (r : Router) (i : ℕ) (s : Side) → Inv w b g → router_at w k ≡ Some r →
    has_primary (Central i) s r ≡ true → IsOn w g k r i s
on_tells w b g k r i s law here on =
    let e : HasEnd r.outward.primary (Central i) s = has_link-tells r.outward.primary (Central i) s on in
    let rec : IsRecorded w g k r e.end = ((links-in law) k r here).primary e.end e.there in
    record {
      end = e.end;
      is = e.there;
      link = e.on_link;
      side = e.at_side;
      linked = grind (arith, record_rules, rec.recorded, e.on_link);
      router = rw (e.on_link, e.at_side) at rec.router;
    }

-- whose side is marked and unheld if its link is being bypassed
across_there : (w : World) (b : Books) (g : Records) (k : Key) (r : Router) (i : ℕ) (s : Side) → Inv w b g → router_at w k ≡ Some r →
    IsOn w g k r i s → is_begun (g.bypass i) ≡ true → (s ≡ across_side g i) × (r.marked ≡ true) × (r.holds ≡ false)
across_there w b g k r i s law here on begun =
    let side : s ≡ across_side g i = sym on.side ∙ ((positions-in law).each k r here).primary_across on.end i on.is on.link begun in
    let early : (g.bypass i).stage ≤ 2 = ((positions-in law).each k r here).primary_old on.end i on.is on.link begun in
    let known : side_router g (Central i) (across_side g i) ≡ Some k = rw side at on.router in
    let marked : r.marked ≡ true = sym (passes-at w _ k r (λ x. x.marked) known here) ∙ (law.stages i).across_marked begun early in
    let unheld : not r.holds ≡ true = sym (passes-at w _ k r (λ x. not x.holds) known here) ∙ (law.stages i).across_free begun early in
    (side, marked, grind (arith, unheld))

pub stable_is : (w : World) (b : Books) (g : Records) (k : Key) (r : Router) (i : ℕ) (s : Side) → Inv w b g → router_at w k ≡ Some r →
    IsOn w g k r i s → r.marked ≡ has (word_at w i).stable s
stable_is w b g k r i s law here on = go (is_begun (g.bypass i)) refl
  where
    go : (c : Bool) → is_begun (g.bypass i) ≡ c → r.marked ≡ has (word_at w i).stable s
    go true e = let across = across_there w b g k r i s law here on e in across.1 ∙ sym ((law.words.each i).begun_stable s e)
    go false e = sym ((law.words.each i).stable s on.linked e (not_left w g (Central i) s k r law.stands on.router here) ∙
        passes-at w _ k r (λ x. x.marked) on.router here)

pub holder_is : (w : World) (b : Books) (g : Records) (k : Key) (r : Router) (i : ℕ) (s : Side) → Inv w b g → router_at w k ≡ Some r →
    IsOn w g k r i s → r.holds ≡ has (word_at w i).holder s
holder_is w b g k r i s law here on = go (is_begun (g.bypass i)) refl
  where
    go : (c : Bool) → is_begun (g.bypass i) ≡ c → r.holds ≡ has (word_at w i).holder s
    go true e = let across = across_there w b g k r i s law here on e in
        across.2 ∙ sym ((law.words.each i).begun_holder s e ∙ ap (λ t. same_side t (proxy_side g i)) across.0 ∙ same_side-opposite
        (proxy_side g i))
    go false e = sym ((law.words.each i).holder s on.linked e (not_left w g (Central i) s k r law.stands on.router here) ∙
        passes-at w _ k r (λ x. x.holds) on.router here)

-- what a free word says
record IsFree (w : World) (i : ℕ) : Type 0 where
  pub stable : (s : Side) → has (word_at w i).stable s ≡ true
  pub unheld : (s : Side) → has (word_at w i).holder s ≡ false

free_tells : (w : World) (i : ℕ) → is_free (word_at w i) ≡ true → IsFree w i
free_tells w i h = record { stable = stable; unheld = unheld }
  where
    stable : (s : Side) → has (word_at w i).stable s ≡ true
    stable A = grind (arith, h)
    stable B = grind (arith, h)

    unheld : (s : Side) → has (word_at w i).holder s ≡ false
    unheld A = grind (arith, h)
    unheld B = grind (arith, h)

free_there : (w : World) (b : Books) (g : Records) (i : ℕ) (s : Side) → Inv w b g → is_free (word_at w i) ≡ true → There w i s
free_there w b g i s law h = go (is_linked (g.owner i)) (is_begun (g.bypass i)) refl refl
  where
    free : IsFree w i
    free = free_tells w i h

    -- who has left holds the lock
    still : is_left g (Central i) s ≡ false
    still = left (is_left g (Central i) s) refl
      where
        none : (t : Side) {X : Type 0} → (is_left g (Central i) t && has (word_at w i).holder t) ≡ true → X
        none t h = let p = and_parts (is_left g (Central i) t) (has (word_at w i).holder t) h in
            absurd (true≢false (sym p.1 ∙ free.unheld t))

        left : (c : Bool) → is_left g (Central i) s ≡ c → c ≡ false
        left false e = refl
        left true e = elim (either (is_left g (Central i) A && has (word_at w i).holder A) (is_left g (Central i) B && has (word_at w i).holder B)
            ((law.words.each i).left_held s e)) [ inl h ↦ none A h | inr h ↦ none B h ]

    at : is_linked (g.owner i) ≡ true → is_begun (g.bypass i) ≡ false → There w i s
    at l n =
        let p : Passes w (side_router g (Central i) s) (λ r. r.marked) =
        passes-tells w _ _ (sym ((law.words.each i).stable s l n still) ∙ free.stable s) in
        record {
          key = p.key;
          router = p.router;
          here = p.here;
          on = sym (passes-at w (Some p.key) p.key p.router (has_primary (Central i) s) refl p.here) ∙ law.stands.central i s p.key l n
              still p.known;
          still = (law.shape p.key p.router p.here).marked_still p.passed;
        }

    go : (c d : Bool) → is_linked (g.owner i) ≡ c → is_begun (g.bypass i) ≡ d → There w i s
    go false d l n = absurd (true≢false (sym (free.stable A) ∙ ap (λ x. has x.stable A) ((law.words.each i).unused l) ∙ none_stable A))
    go true true l n = absurd (grind (
      arith,
      (law.words.each i).begun_holder (proxy_side g i) n,
      same_side-itself (proxy_side g i),
      free.unheld (proxy_side g i),
    ))
    go true false l n = at l n

pub link_law : (w : World) (b : Books) (g : Records) → Inv w b g → LinkLaw w
link_law w b g law = record {
  one_holder = λ i. (law.words.each i).one_holder;
  held_stable = λ i. (law.words.each i).held_stable;
  marked = λ k r i s here on. stable_is w b g k r i s law here (on_tells w b g k r i s law here on);
  holds = λ k r i s here on. holder_is w b g k r i s law here (on_tells w b g k r i s law here on);
  free = λ i s h. free_there w b g i s law h;
  one_each = λ j k q r i s at here on_q on_r. same_Some j k (sym (on_tells w b g j q i s law at on_q).router ∙
      (on_tells w b g k r i s law here on_r).router);
}

-- a word whose bypass has begun is held by the proxy's side, which has left it
pub begun_bypassed : (w : World) (b : Books) (g : Records) (i : ℕ) → Inv w b g → is_begun (g.bypass i) ≡ true → IsBypassed w i
unfolding is_outward
begun_bypassed w b g i law begun = record {
  side = proxy_side g i;
  held = (law.words.each i).begun_holder (proxy_side g i) begun ∙ same_side-itself (proxy_side g i);
  left = λ k r here. go k r here (has_primary (Central i) (proxy_side g i) r) refl;
  left_inward = λ k r here. inward k r here (has_inward_primary (Central i) (proxy_side g i) r) refl;
}
  where
    not_inward : (e : LinkEnd) → is_outward e.link e.side ≡ false → e.link ≡ Central i → ⊥
    not_inward e h on = let outward : is_outward (Central i) e.side ≡ false = subst (λ l. is_outward l e.side ≡ false) on h in cc

    inward : (k : Key) (r : Router) → router_at w k ≡ Some r → (c : Bool) → has_inward_primary (Central i) (proxy_side g i) r ≡ c →
        c ≡ false
    inward k r here true e =
        let t : HasEnd (inward_edge r).primary (Central i) (proxy_side g i) = has_link-tells _ _ _ e in
        absurd (not_inward t.end (((links-in law) k r here).inward_primary_inward t.end t.there) t.on_link)
    inward k r here false e = refl

    apart : (s : Side) → s ≡ opposite s → ⊥
    apart A e = cc
    apart B e = cc

    go : (k : Key) (r : Router) → router_at w k ≡ Some r → (c : Bool) → has_primary (Central i) (proxy_side g i) r ≡ c → c ≡ false
    go k r here true e = absurd (apart (proxy_side g i) (across_there w b g k r i (proxy_side g i) law here
        (on_tells w b g k r i (proxy_side g i) law here e) begun).0)
    go k r here false e = refl

pub bypass_law : (w : World) (b : Books) (g : Records) → Inv w b g → BypassLaw w
unfolding is_outward
bypass_law w b g law = record {
  outward = λ k r e i here off on. begun_bypassed w b g i law (begun i (rw on at (((positions-in law).each k r here).decaying e off)));
  inward = λ k r e i here off on. absurd (grind (arith, ((links-in law) k r here).inward_decaying_inward e off, on));
  message = λ from to i m o u names. begun_bypassed w b g o law (old_begun w g from to i m o law.controls u names);
  source = law.words.source;
  begun_source = λ from to i link s old target fresh u. let at = peer_told w g from to i old link s target fresh law.controls u in
      (law.words.each old).begun_source (grind (arith, at.stage, nat_tests)) (omega (arith, at.stage)) ∙ ap Some (sym at.receiver);
  taken_source = λ from to i old s fresh length u. let at = accept_told w g from to i old s fresh length law.controls u in
      (law.words.each old).begun_source (grind (arith, at.stage, nat_tests)) (omega (arith, at.stage)) ∙ ap Some (sym at.sender);
}
  where
    begun : (i : ℕ) → is_some (bypass_of g (Central i)) ≡ true → is_begun (g.bypass i) ≡ true
    begun i h = go (is_begun (g.bypass i)) refl
      where
        go : (c : Bool) → is_begun (g.bypass i) ≡ c → is_begun (g.bypass i) ≡ true
        go true e = e
        go false e = absurd (grind (arith, h, e, bypass_of-central g i))
