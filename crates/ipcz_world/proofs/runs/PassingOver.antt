-- A world in which a claim has passed over numbers, or that has more of them, is lawful: its nodes, words and mailboxes are the same.
use Rattle.std.specs.Prelude.{◌≡◌, ◌<◌, ℕ, zero, suc, ◌+◌, Bool, replicate, slice_get}
use Rattle.std.proofs.Common.{arith, ap, subst, ◌∙◌, sym, inl, inr}
use Rattle.std.proofs.lemmas.List.{length-append, length-replicate}
use Rattle.ipcz_world.proofs.Vocabulary.{Side, Message, Router, Word, World, Key, has, node_at, mail_at, router_at, set_claimed, Books, opposite}
use Rattle.ipcz_world.proofs.Vocabulary.{IsUnderWay, empty_word, Unclaimed, Lost, Routes, AreFlagged, FlagsAgree, IsRanked, Lawful}
use Rattle.ipcz_world.proofs.facts.RecordsAfter.{set_owner}
use Rattle.ipcz_world.specs.Routes.{lose_word}
use Rattle.ipcz_world.specs.Owed.{PrimaryPasses, WaitsForOther, HasWakerBy, HaveWakers, GoneUnread}
use Rattle.ipcz_world.specs.Settling.{IsBounded}
use Rattle.ipcz_world.specs.HeldEnds.{passed_over, lose_words, PassingKeepsLawful, grown, GrowingKeepsLawful}
use Rattle.ipcz_world.proofs.frames.Changing.{same_routers}
use Rattle.ipcz_world.proofs.lawful.StepWakers.{IsOwing}
use Rattle.ipcz_world.proofs.acts.PassingOver.{HasSameParts, same-claimed, same-grown, inv-passed, routes_passed, inv-more, routes_more, same-flows}
use Rattle.ipcz_world.proofs.runs.Running.{lawful_by}

module _ (w v : World) (same : HasSameParts w v) where
  routers : (q : Key) → router_at v q ≡ router_at w q
  routers q = same_routers w v q (ap (λ n. n.routers) (same.nodes q.node))

  under-same : (from to i : ℕ) (m : Message) → IsUnderWay w from to i m → IsUnderWay v from to i m
  under-same from to i m u = record {
    sender = subst (λ c. from < c) (sym same.count) u.sender;
    receiver = subst (λ c. to < c) (sym same.count) u.receiver;
    place = ap (λ ms. slice_get ms i) (same-flows w v same from to) ∙ u.place;
  }

  primary-same : (i : ℕ) (s : Side) (test : Router → Bool) → PrimaryPasses w i s test → PrimaryPasses v i s test
  primary-same i s test p = record { key = p.key; router = p.router; here = routers p.key ∙ p.here; on = p.on; passes = p.passes }

  waits-same : (i : ℕ) (s : Side) → WaitsForOther w i s → WaitsForOther v i s
  waits-same i s (a, inl b) = (ap (λ (x : Word). has x.waiting s) (same.words i) ∙ a, inl (ap (λ (x : Word). has x.stable (opposite s)) (same.words i) ∙ b))
  waits-same i s (a, inr b) = (ap (λ (x : Word). has x.waiting s) (same.words i) ∙ a, inr (primary-same i (opposite s) (λ r. r.wake_owed) b))

  waker-same : (test : Router → Bool) (i : ℕ) (s : Side) (node : ℕ) → HasWakerBy test w i s node → HasWakerBy test v i s node
  waker-same test i s node (inl h) = inl (ap (λ (x : Word). has x.holder (opposite s)) (same.words i) ∙ h)
  waker-same test i s node (inr (inl f)) = inr (inl (record { from = f.from; place = f.place; under_way = under-same _ _ _ _ f.under_way }))
  waker-same test i s node (inr (inr (inl p))) = inr (inr (inl (primary-same i (opposite s) test p)))
  waker-same test i s node (inr (inr (inr h))) = inr (inr (inr (waits-same i s h)))

  wakers-same : HaveWakers w → HaveWakers v
  wakers-same law i k r s here tried on = waker-same _ i s k.node (law i k r s (sym (routers k) ∙ here) tried on)

  ranked-same : IsRanked w → IsRanked v
  ranked-same law = record {
    rank = law.rank;
    limit = law.limit;
    below = λ k r here. law.below k r (sym (routers k) ∙ here);
    rises = λ j k q r n x at_j at_k. law.rises j k q r n x (sym (routers j) ∙ at_j) (sym (routers k) ∙ at_k);
  }

  owing-same : HaveWakers w → IsRanked w → IsOwing v
  owing-same wakers ranked = record { wakers = wakers-same wakers; ranked = ranked-same ranked }

  flagged-same : AreFlagged w → AreFlagged v
  flagged-same law k r act here = law k r act (sym (routers k) ∙ here)

  agreed-same : FlagsAgree w → FlagsAgree v
  agreed-same law = record {
    dry = λ k r here. law.dry k r (sym (routers k) ∙ here);
    wake = λ k r here. law.wake k r (sym (routers k) ∙ here);
    tried_marked = λ k r here. law.tried_marked k r (sym (routers k) ∙ here);
    tried_free = λ k r here. law.tried_free k r (sym (routers k) ∙ here);
  }

  unread-same : (b : Books) → GoneUnread w b → GoneUnread v b
  unread-same b law k r here = law k r (sym (routers k) ∙ here)

bounded-claimed : (w : World) (c : ℕ) → IsBounded w → IsBounded (set_claimed w c)
unfolding set_claimed node_at mail_at
bounded-claimed w c b = record { nodes = b.nodes; words = b.words; mailboxes = b.mailboxes; few = b.few; box = b.box; mail = b.mail }

bounded-grown : (w : World) (count : ℕ) → IsBounded w → IsBounded (grown w count)
unfolding node_at mail_at
bounded-grown w count b = record {
  nodes = b.nodes;
  words = length-append w.words (replicate count empty_word) ∙ (let e = b.words in let n = length-replicate count empty_word in omega (arith, e, n));
  mailboxes = b.mailboxes;
  few = b.few;
  box = b.box;
  mail = b.mail;
}

-- the next number is passed over
pass_one : (w : World) (b : Books) (g : Routes) → Lawful w b g → w.claimed < w.size →
    Lawful (set_claimed w (w.claimed + 1)) b (lose_word g w.claimed)
pass_one w b g law room =
    let v : World = set_claimed w (w.claimed + 1) in
    let same : HasSameParts w v = same-claimed w (w.claimed + 1) in
    lawful_by v b (set_owner law.records w.claimed Lost) (lose_word g w.claimed)
    (inv-passed w b law.records law.inv room)
    (routes_passed w b law.records law.inv ∙ ap (λ z. lose_word z w.claimed) law.routes)
    (flagged-same w v same law.flagged) (agreed-same w v same law.agreed)
    (owing-same w v same law.wakers law.ranked)
    (unread-same w v same b law.unread)
    (bounded-claimed w (w.claimed + 1) law.bounded)

none_passed : (w : World) → w ≡ passed_over w 0
unfolding set_claimed
none_passed w = ap (λ c. record { nodes = w.nodes; words = w.words; claimed = c; size = w.size; count = w.count; mail = w.mail })
    (let e : w.claimed ≡ w.claimed + 0 = grind arith in e)

one_more : (w : World) (k : ℕ) → set_claimed (set_claimed w (w.claimed + 1)) (w.claimed + 1 + k) ≡ passed_over w (suc k)
unfolding set_claimed
one_more w k = ap (λ c. record { nodes = w.nodes; words = w.words; claimed = c; size = w.size; count = w.count; mail = w.mail })
    (let e : w.claimed + 1 + k ≡ w.claimed + suc k = grind arith in e)

-- so many are
pub passing_keeps_lawful : PassingKeepsLawful
unfolding set_claimed
passing_keeps_lawful w b g zero law room = subst (λ v. Lawful v b g) (none_passed w) law
passing_keeps_lawful w b g (suc k) law room =
    let u : World = set_claimed w (w.claimed + 1) in
    let one : Lawful u b (lose_word g w.claimed) = pass_one w b g law (omega (arith, room)) in
    let rest : Lawful (set_claimed u (w.claimed + 1 + k)) b (lose_words (lose_word g w.claimed) (w.claimed + 1) k) =
    passing_keeps_lawful u b (lose_word g w.claimed) k one (omega (arith, room)) in
    subst (λ v. Lawful v b (lose_words (lose_word g w.claimed) (w.claimed + 1) k)) (one_more w k) rest

-- and there are more numbers
pub growing_keeps_lawful : GrowingKeepsLawful
growing_keeps_lawful w b g count law =
    let v : World = grown w count in
    let same : HasSameParts w v = same-grown w count in
    lawful_by v b (set_owner law.records w.claimed Unclaimed) g
    (inv-more w b law.records count law.inv)
    (routes_more w b law.records law.inv ∙ law.routes)
    (flagged-same w v same law.flagged) (agreed-same w v same law.agreed)
    (owing-same w v same law.wakers law.ranked)
    (unread-same w v same b law.unread)
    (bounded-grown w count law.bounded)
