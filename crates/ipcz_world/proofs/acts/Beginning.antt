-- A bypass begins: what it rests on, and what the records say after it.
use Rattle.ipcz_world.proofs.frames.RolesTell.{links-in, positions-in}
use Rattle.ipcz_world.proofs.Vocabulary.{Side, A, B, Central, LinkEnd, opposite, same_side, has, word_of, Router, inward_edge, is_possible, World}
use Rattle.ipcz_world.proofs.Vocabulary.{Key, word_at, router_at, Books, Records, Spare, is_linked, is_begun, is_recorded, inner_link, bypass_of}
use Rattle.ipcz_world.proofs.Vocabulary.{side_router, side_node, side_end, has_primary, IsRecorded, is_outward, Inv, is_left, is_proxy}
use Rattle.ipcz_world.proofs.frames.LeftSides.{not_left, held_stays}
use Rattle.std.specs.Prelude.{option_map}
use Rattle.std.specs.Prelude.{◌≡◌, ◌⊎◌, ℕ, true, false, Option, Some, None, is_some, refl}
use Rattle.std.proofs.Common.{arith, sym, ◌∙◌, ap, inl, inr}
use Rattle.std.proofs.lemmas.Option.{same_Some}
use Rattle.ipcz_router.specs.declared.act.RouterAct.TheVariants as acts
use Rattle.ipcz_world.proofs.frames.RecordRules.{bypass_of-inner}
use Rattle.ipcz_world.proofs.frames.StandingRules.{standing_rules}
use Rattle.ipcz_world.proofs.facts.LinkTests.{same_side-opposite, side_is}
use Rattle.ipcz_world.proofs.facts.Lengths.{same_side-itself}
use Rattle.ipcz_world.proofs.acts.Flags.{OnWord, on-word}
use Rattle.ipcz_world.proofs.acts.WordActs.{IsAcross, begun-across, Says, word-says, not_true}

-- a begin with its links, its word and its fresh word named
pub record CanBegin (w : World) (k : Key) (r : Router) (p : Key) (into out : LinkEnd) (o fresh : ℕ) : Type 0 where
  pub here : router_at w k ≡ Some r
  pub possible : is_possible r acts.Begin ≡ true
  pub inner : (inward_edge r).primary ≡ Some into
  pub inner_at : into.link ≡ inner_link p
  pub outer : r.outward.primary ≡ Some out
  pub outer_at : out.link ≡ Central o
  pub spare : r.spare ≡ Some fresh

-- the router across a link whose lock is held
pub record HasAcross (w : World) (g : Records) (o : ℕ) (s : Side) : Type 0 where
  pub key : Key
  pub router : Router
  pub known : side_router g (Central o) s ≡ Some key
  pub at : router_at w key ≡ Some router
  pub primary : has_primary (Central o) s router ≡ true
  pub marked : router.marked ≡ true
  pub free : router.holds ≡ false

-- what a begin rests on
pub record Begins (w : World) (g : Records) (k : Key) (r : Router) (p : Key) (into out : LinkEnd) (o fresh : ℕ) : Type 0 where
  pub here : router_at w k ≡ Some r
  pub inner : (inward_edge r).primary ≡ Some into
  pub inner_at : into.link ≡ inner_link p
  pub inner_side : into.side ≡ A
  pub inner_other : into.other ≡ side_node g (inner_link p) B
  pub outer : r.outward.primary ≡ Some out
  pub outer_at : out.link ≡ Central o
  pub outer_side : out.side ≡ r.end.side
  pub outer_other : out.other ≡ side_node g (Central o) (opposite r.end.side)
  pub spare : r.spare ≡ Some fresh
  pub holds : r.holds ≡ true
  pub proxy : is_proxy r ≡ true
  pub still : r.outward.decaying ≡ None
  pub inward_still : (inward_edge r).decaying ≡ None
  pub inner_known : side_router g (inner_link p) A ≡ Some k
  pub inner_recorded : is_recorded w g (inner_link p) ≡ true
  pub inner_free : (g.peripheral p).by ≡ None
  pub inner_end : (g.peripheral p).end ≡ r.end
  pub linked : is_linked (g.owner o) ≡ true
  pub known : side_router g (Central o) r.end.side ≡ Some k
  pub pair : (g.central o).pair ≡ r.end.pair
  pub live : is_begun (g.bypass o) ≡ false
  pub owner : g.owner fresh ≡ Spare k
  pub across : HasAcross w g o (opposite r.end.side)
  pub stable : (s : Side) → has (word_at w o).stable s ≡ true
  pub holder : (s : Side) → has (word_at w o).holder s ≡ same_side s r.end.side
  pub source : (word_at w o).source ≡ Some (side_node g (inner_link p) B)
  pub unbegun : (j : ℕ) → is_begun (g.bypass j) ≡ true → (g.bypass j).proxy ≡ k → ⊥

is_nothing : (o : Option LinkEnd) → is_some o ≡ false → o ≡ None
is_nothing None e = refl
is_nothing (Some x) e = absurd (grind (arith, e))

-- both sides of a held link stand, marked, and only one holds it
across-of : (w : World) (b : Books) (g : Records) (o : ℕ) (t s : Side) → Inv w b g → is_linked (g.owner o) ≡ true →
    is_begun (g.bypass o) ≡ false → has (word_at w o).holder t ≡ true → is_left g (Central o) s ≡ false → (s ≡ t → ⊥) → HasAcross w g o s
across-of w b g o t s law linked live held still apart = go (side_router g (Central o) s) refl
  where
    stable : has (word_at w o).stable s ≡ true
    stable = (law.words.each o).held_stable t s held

    free : has (word_at w o).holder s ≡ false
    free = not_true _ (λ h. apart ((law.words.each o).one_holder s t h held))

    at : (q : Key) → side_router g (Central o) s ≡ Some q → (x : Option Router) → router_at w q ≡ x → HasAcross w g o s
    at q e None f = absurd (grind (arith, standing_rules, (law.words.each o).stable s linked live still, stable, e, f))
    at q e (Some z) f = record {
      key = q;
      router = z;
      known = e;
      at = f;
      primary = grind (arith, standing_rules, law.stands.central o s q linked live still e, f);
      marked = grind (arith, standing_rules, (law.words.each o).stable s linked live still, stable, e, f);
      free = grind (arith, standing_rules, (law.words.each o).holder s linked live still, free, e, f);
    }

    go : (q : Option Key) → side_router g (Central o) s ≡ q → HasAcross w g o s
    go None e = absurd (grind (arith, standing_rules, (law.words.each o).stable s linked live still, stable, e))
    go (Some q) e = at q e (router_at w q) refl

pub begins-of : (w : World) (b : Books) (g : Records) (k : Key) (r : Router) (p : Key) (inner outer : LinkEnd) (o fresh : ℕ) → Inv w b g →
    CanBegin w k r p inner outer o fresh → Begins w g k r p inner outer o fresh
unfolding is_possible word_of is_outward side_end
begins-of w b g k r p inner outer o fresh law can = record {
  here = can.here;
  inner = can.inner;
  inner_at = can.inner_at;
  inner_side = side;
  inner_other = inner_is.other ∙ ap (λ l. side_node g l (opposite inner.side)) can.inner_at ∙ ap
      (λ s. side_node g (inner_link p) (opposite s)) side;
  outer = can.outer;
  outer_at = can.outer_at;
  outer_side = same ∙ on.side;
  outer_other = outer_is.other ∙ ap (λ l. side_node g l (opposite outer.side)) can.outer_at ∙ ap (λ s. side_node g (Central o) (opposite s))
      (same ∙ on.side);
  spare = can.spare;
  holds = holds;
  proxy = grind (arith, can.possible);
  still = is_nothing _ (grind (arith, can.possible));
  inward_still = is_nothing _ (grind (arith, can.possible));
  inner_known = ap (side_router g (inner_link p)) (sym side) ∙ ap (λ l. side_router g l inner.side) (sym can.inner_at) ∙ inner_is.router;
  inner_recorded = ap (is_recorded w g) (sym can.inner_at) ∙ inner_is.recorded;
  inner_free = sym (bypass_of-inner g p) ∙ ap (bypass_of g) (sym can.inner_at) ∙ ((positions-in law).each k r can.here).inward_primary inner can.inner;
  inner_end = sym (inner_is.end ∙ ap (λ l. side_end g l inner.side) can.inner_at);
  linked = on.linked;
  known = on.known;
  pair = ap (λ z. z.pair) (sym (outer_is.end ∙ ap (λ l. side_end g l outer.side) can.outer_at));
  live = live;
  owner = law.spares.spare k r fresh can.here can.spare;
  across = across-of w b g o r.end.side (opposite r.end.side) law on.linked live held
      (held_stays w g o r.end.side (opposite r.end.side) law.words held (not_left w g (Central o) r.end.side k r law.stands on.known can.here))
      (λ e. grind (arith, same_side-opposite r.end.side, same_side-itself r.end.side, e));
  stable = λ s. (law.words.each o).held_stable r.end.side s held;
  holder = holder;
  source = law.words.source k r outer o can.here holds can.outer can.outer_at ∙ ap (option_map (λ (e : LinkEnd). e.other)) can.inner
      ∙ ap Some
      (inner_is.other ∙ ap (λ l. side_node g l (opposite inner.side)) can.inner_at ∙ ap
      (λ s. side_node g (inner_link p) (opposite s)) side);
  unbegun = λ j a e. grind (arith, (law.stages j).proxy_begun r a (ap (router_at w) e ∙ can.here), can.inner);
}
  where
    inner_is : IsRecorded w g k r inner
    inner_is = ((links-in law) k r can.here).inward_primary inner can.inner

    outer_is : IsRecorded w g k r outer
    outer_is = ((links-in law) k r can.here).primary outer can.outer

    holds : r.holds ≡ true
    holds = grind (arith, can.possible)

    on : OnWord w g k r o
    on = on-word w b g k r o law can.here (grind (arith, can.outer, can.outer_at))

    same : outer.side ≡ on.end.side
    same = ap (λ e. e.side) (same_Some outer on.end (sym can.outer ∙ on.primary))

    side_of : (s : Side) → inner.side ≡ s → inner.side ≡ A
    side_of A e = e
    side_of B e = absurd (grind (arith, ((links-in law) k r can.here).inward_primary_inward inner can.inner, can.inner_at, e))

    side : inner.side ≡ A
    side = side_of inner.side refl

    live : is_begun (g.bypass o) ≡ false
    live = not_true _ (λ h. let a : IsAcross r = begun-across w b g k r o law can.here on h in grind (arith, a.free, holds))

    held : has (word_at w o).holder r.end.side ≡ true
    held = let s : Says (word_at w o) r = word-says w b g k r o law can.here on live in s.holder ∙ holds

    holder : (s : Side) → has (word_at w o).holder s ≡ same_side s r.end.side
    holder s = go (side_is s r.end.side)
      where
        go : (s ≡ r.end.side) ⊎ (s ≡ opposite r.end.side) → has (word_at w o).holder s ≡ same_side s r.end.side
        go (inl e) = grind (arith, held, e, same_side-itself r.end.side)
        go (inr e) = let f : has (word_at w o).holder s ≡ false =
            not_true _ (λ h. grind (
              arith,
              (law.words.each o).one_holder s r.end.side h held,
              e,
              same_side-opposite r.end.side,
              same_side-itself r.end.side,
            )) in grind (arith, f, e, same_side-opposite r.end.side)
