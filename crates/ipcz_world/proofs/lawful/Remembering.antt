-- A router that has tried is remembered: if the other router could try for the lock, it is flagged.
use Rattle.std.specs.Prelude.{◌≡◌, ℕ, true, Option, Some, None, is_some, refl}
use Rattle.std.proofs.Common.{arith, ap, ◌∙◌, inl, inr}
use Rattle.ipcz_world.proofs.Vocabulary.{Side, LinkId, Central, Peripheral, LinkEnd, Router, World, Key, router_at, Books, Records, Inv, has_primary}
use Rattle.ipcz_world.proofs.Vocabulary.{has_link, word_of, is_on_central, AreFlagged, FlagsAgree}
use Rattle.ipcz_router.specs.declared.act.RouterAct.TheVariants.{Lock}
use Rattle.ipcz_world.specs.Owed.{HaveWakers, HasWaker, HasWakerBy}
use Rattle.ipcz_world.proofs.facts.Lengths.{has_link-some}

-- a router on a central link has a word and a side
pub on_word : (r : Router) → is_on_central r ≡ true → (i : ℕ) × (s : Side) × (has_primary (Central i) s r ≡ true)
unfolding word_of
on_word r h = go r.outward.primary refl h
  where
    go : (o : Option LinkEnd) → r.outward.primary ≡ o → is_some (word_of o) ≡ true → (i : ℕ) × (s : Side) ×
        (has_primary (Central i) s r ≡ true)
    go None e f = cc
    go (Some z) e f = at z.link refl
      where
        at : (l : LinkId) → z.link ≡ l → (i : ℕ) × (s : Side) × (has_primary (Central i) s r ≡ true)
        at (Central i) q = (i, z.side, ap (λ o. has_link o (Central i) z.side) e ∙ has_link-some z (Central i) z.side q refl)
        at (Peripheral n x) q = absurd (grind (arith, f, q))

pub remembered : (w : World) (b : Books) (g : Records) → Inv w b g → AreFlagged w → FlagsAgree w → HaveWakers w →
    (k : Key) (r : Router) → router_at w k ≡ Some r → r.tried ≡ true →
    (i : ℕ) × (s : Side) × (has_primary (Central i) s r ≡ true) × HasWakerBy (λ q. q.flagged) w i s k.node
remembered w b g law flagged agreed wakers k r here tried =
    let t = on_word r ((law.shape k r here).marked_central (agreed.tried_marked k r here tried)) in
    (t.0, t.1, t.2, go t.0 t.1 (wakers t.0 k r t.1 here tried t.2))
  where
    go : (i : ℕ) (s : Side) → HasWaker w i s k.node → HasWakerBy (λ q. q.flagged) w i s k.node
    go i s (inl held) = inl held
    go i s (inr (inl flush)) = inr (inl flush)
    go i s (inr (inr (inl p))) = inr (inr (inl (record {
      key = p.key;
      router = p.router;
      here = p.here;
      on = p.on;
      passes = flagged p.key p.router Lock p.here p.passes;
    })))
    go i s (inr (inr (inr waits))) = inr (inr (inr waits))
