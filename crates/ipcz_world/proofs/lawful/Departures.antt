-- Whoever leaves by retiring or with Gone stands on no link whose word is unheld: a sink that retires holds the word of its link, and if the
-- peer's sink has retired it holds that word for good.
use Rattle.ipcz_world.proofs.frames.RolesTell.{links-in, positions-in}
use Rattle.std.specs.Prelude.{◌≡◌, ◌⊎◌, ◌≤◌, ℕ, Bool, true, false, ◌&&◌, ◌||◌, not, Option, Some, None, is_some, refl}
use Rattle.std.proofs.Common.{arith, ap, sym, ◌∙◌, inl, inr}
use Rattle.std.proofs.lemmas.Bool.Decides.{nat_tests}
use Rattle.ipcz_world.proofs.Vocabulary.{Side, A, B, End, LinkId, Central, Peripheral, LinkEnd, has_link, word_of, opposite, opposite_end, has}
use Rattle.ipcz_world.proofs.Vocabulary.{Router, RouterAct, is_possible, World, Key, word_at, router_at, Books, Records, Inv, has_primary, is_begun}
use Rattle.ipcz_world.proofs.Vocabulary.{side_end, IsRecorded, Gone, end_at, decays, is_on_central, has_gone_next, is_rest, may_take, is_done}
use Rattle.ipcz_world.proofs.Vocabulary.{leaves_by, is_retired, is_left}
use Rattle.ipcz_router.specs.declared.act.RouterAct.TheVariants as acts
use Rattle.ipcz_world.proofs.acts.Reading.{in_numbers}
use Rattle.ipcz_world.proofs.facts.Drained.{gone_found, gone_next-tells}
use Rattle.ipcz_world.proofs.facts.Lengths.{HasEnd, has_link-tells, has_link-some}
use Rattle.ipcz_world.proofs.facts.Tests.{and_second, not_both}
use Rattle.ipcz_world.proofs.lawful.LinkLaws.{IsOn, on_tells, holder_is}
use Rattle.ipcz_world.proofs.frames.LeftSides.{not_left}

-- a router with Gone next is of a pair whose other sink has retired
pub gone_next : (w : World) (b : Books) (g : Records) (k : Key) (r : Router) → Inv w b g → router_at w k ≡ Some r → has_gone_next r ≡ true →
    is_retired b (opposite_end r.end) ≡ true
gone_next w b g k r law here h = gone_found (b.put (opposite_end r.end)) r.in_queue.current
    (in_numbers w b g k r r.in_queue.current Gone law.conserved (law.counts.on_node k r here) here (gone_next-tells r h))

module _ (w : World) (b : Books) (g : Records) (law : Inv w b g) (k : Key) (r : Router) (here : router_at w k ≡ Some r) (i : ℕ) (s : Side)
    (on : has_primary (Central i) s r ≡ true) (peer : is_retired b (opposite_end r.end) ≡ true) where
  at : IsOn w g k r i s
  at = on_tells w b g k r i s law here on

  rec : IsRecorded w g k r at.end
  rec = ((links-in law) k r here).primary at.end at.is

  own : r.end ≡ end_at (g.central i).pair s
  unfolding side_end
  own = rec.end ∙ ap (λ l. side_end g l at.end.side) at.link ∙ ap (λ t. end_at (g.central i).pair t) at.side

  unbegun : is_begun (g.bypass i) ≡ false
  unbegun = go (is_begun (g.bypass i)) refl
    where
      go : (c : Bool) → is_begun (g.bypass i) ≡ c → is_begun (g.bypass i) ≡ false
      go false e = e
      go true e =
          let early : (g.bypass i).stage ≤ 2 = ((positions-in law).each k r here).primary_old at.end i at.is at.link e in
          let late : 1 ≤ (g.bypass i).stage = grind (arith, e, nat_tests) in
          absurd (not_both (is_retired b (opposite_end r.end)) peer
          (ap (is_retired b) (ap opposite_end own) ∙ law.retired_ends.no_bypass i (opposite s) late (omega (arith, early))))

  pub peer_left : is_left g (Central i) (opposite s) ≡ true
  peer_left = ap (λ (e : End). is_left g (Central i) (opposite e.side)) (sym own)
      ∙ law.retired_ends.left (opposite_end r.end) i peer at.linked unbegun (ap (λ (e : End). e.pair) (sym own))

  pub retired_held : has (word_at w i).holder (opposite s) ≡ true
  retired_held = sides s refl
    where
      stays : is_left g (Central i) s ≡ false
      stays = not_left w g (Central i) s k r law.stands at.router here

      held : ((is_left g (Central i) A && has (word_at w i).holder A) || (is_left g (Central i) B && has (word_at w i).holder B)) ≡ true
      held = (law.words.each i).left_held (opposite s) peer_left

      second : (a c d : Bool) → a ≡ false → ((a && c) || d) ≡ true → d ≡ true
      second true c d e h = cc
      second false c d e h = h

      first : (a c d : Bool) → a ≡ false → (d || (a && c)) ≡ true → d ≡ true
      first true c d e h = cc
      first false c true e h = refl
      first false c false e h = cc

      sides : (t : Side) → s ≡ t → has (word_at w i).holder (opposite s) ≡ true
      sides A e = ap (λ t. has (word_at w i).holder (opposite t)) e ∙ and_second (is_left g (Central i) B) (has (word_at w i).holder B)
          (second (is_left g (Central i) A) (has (word_at w i).holder A) (is_left g (Central i) B && has (word_at w i).holder B)
          (ap (is_left g (Central i)) (sym e) ∙ stays) held)
      sides B e = ap (λ t. has (word_at w i).holder (opposite t)) e ∙ and_second (is_left g (Central i) A) (has (word_at w i).holder A)
          (first (is_left g (Central i) B) (has (word_at w i).holder B) (is_left g (Central i) A && has (word_at w i).holder A)
          (ap (is_left g (Central i)) (sym e) ∙ stays) held)

-- who may leave by an act has no primary link, or holds the lock, or its peer's sink has retired
leave_cases : (r : Router) → is_possible r acts.Leave ≡ true → (r.outward.primary ≡ None) ⊎ (r.gone_sent ≡ true)
unfolding is_possible
leave_cases r h = go r.gone_sent r.outward.primary refl refl
  where
    go : (c : Bool) (o : Option LinkEnd) → r.gone_sent ≡ c → r.outward.primary ≡ o → (r.outward.primary ≡ None) ⊎ (r.gone_sent ≡ true)
    go true o e f = inr e
    go false None e f = inl f
    go false (Some x) e f = absurd (grind (arith, h, e, f))

retire_holds : (r : Router) → is_possible r acts.Retire ≡ true → r.holds ≡ true
unfolding is_possible
retire_holds r h = go (is_done r) r.holds (is_on_central r && not (decays r)) h
  where
    go : (c d z : Bool) → (c && (d && z)) ≡ true → d ≡ true
    go c true z q = refl
    go true false z q = cc
    go false false z q = cc

retire_central : (r : Router) → is_possible r acts.Retire ≡ true → is_on_central r ≡ true
unfolding is_possible
retire_central r h = go (is_done r) r.holds (is_on_central r) (not (decays r)) h
  where
    go : (c d z x : Bool) → (c && (d && (z && x))) ≡ true → z ≡ true
    go c d true x q = refl
    go true true false x q = cc
    go true false false x q = cc
    go false d false x q = cc

-- the peer of a sink that can retire hasn't retired: the lock is held by one side alone
pub peer_unretired : (w : World) (b : Books) (g : Records) (k : Key) (r : Router) → Inv w b g → router_at w k ≡ Some r →
    is_possible r acts.Retire ≡ true → is_retired b (opposite_end r.end) ≡ false
unfolding word_of
peer_unretired w b g k r law here can = go (is_retired b (opposite_end r.end)) refl
  where
    link : (o : Option LinkEnd) → r.outward.primary ≡ o → is_some (word_of o) ≡ true → (i : ℕ) × (s : Side) × (has_primary (Central i) s r ≡ true)
    link None e h = cc
    link (Some x) e h = by x.link refl h
      where
        by : (l : LinkId) → x.link ≡ l → is_some (word_of (Some x)) ≡ true → (i : ℕ) × (s : Side) × (has_primary (Central i) s r ≡ true)
        by (Central i) q h = (i, x.side, ap (λ o. has_link o (Central i) x.side) e ∙ has_link-some x (Central i) x.side q refl)
        by (Peripheral n c) q h = absurd (grind (arith, q, h))

    go : (c : Bool) → is_retired b (opposite_end r.end) ≡ c → is_retired b (opposite_end r.end) ≡ false
    go false e = e
    go true e =
        let t = link r.outward.primary refl (retire_central r can) in
        let own : has (word_at w t.0).holder t.1 ≡ true =
        sym (holder_is w b g k r t.0 t.1 law here (on_tells w b g k r t.0 t.1 law here t.2)) ∙ retire_holds r can in
        let far : has (word_at w t.0).holder (opposite t.1) ≡ true = retired_held w b g law k r here t.0 t.1 t.2 e in
        absurd (apart t.1 ((law.words.each t.0).one_holder t.1 (opposite t.1) own far))
      where
        apart : (s : Side) → s ≡ opposite s → ⊥
        apart A h = cc
        apart B h = cc

may_possible : (r : Router) (act : RouterAct) → is_rest act ≡ false → may_take r act ≡ true → is_possible r act ≡ true
unfolding is_rest
may_possible r act n h = grind (arith, n, h)

pub leaving_held : (w : World) (b : Books) (g : Records) → Inv w b g → (k : Key) (r : Router) (act : RouterAct) → router_at w k ≡ Some r →
    may_take r act ≡ true → leaves_by r act ≡ true → (i : ℕ) (s : Side) → has_primary (Central i) s r ≡ true →
    (has (word_at w i).holder s ≡ true) ⊎ (has (word_at w i).holder (opposite s) ≡ true)
unfolding leaves_by is_rest
leaving_held w b g law k r act here may leaves i s on = go act may leaves
  where
    go : (a : RouterAct) → may_take r a ≡ true → leaves_by r a ≡ true →
        (has (word_at w i).holder s ≡ true) ⊎ (has (word_at w i).holder (opposite s) ≡ true)
    go acts.Retire m l = inl (sym (holder_is w b g k r i s law here (on_tells w b g k r i s law here on)) ∙ retire_holds r (may_possible r acts.Retire refl m))
    go acts.Discard m l = inr (retired_held w b g law k r here i s on (gone_next w b g k r law here l))
    go acts.Leave m l = elim (leave_cases r (may_possible r acts.Leave refl m)) [
      | inl bare ↦ absurd (let e : HasEnd r.outward.primary (Central i) s = has_link-tells r.outward.primary (Central i) s on in grind (arith, bare, e.there))
      | inr sent ↦ inr (retired_held w b g law k r here i s on (law.gones.sent k r here sent).0)
    ]
    go other m l = cc
