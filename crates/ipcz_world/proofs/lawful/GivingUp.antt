-- What an act lets go is what its router gives up by it; and who claims a word holds both its ends.
use Rattle.std.specs.Prelude.{◌≡◌, ◌≢◌, ◌⊎◌, ℕ, ◌+◌, Bool, true, false, cond, ◌&&◌, ◌||◌, nat_eq, if◌then◌else◌, Option, Some, None, is_none, is_some, refl}
use Rattle.std.proofs.Common.{arith, sym, ◌∙◌, ap, subst, inl, inr}
use Rattle.std.proofs.lemmas.Bool.{or_cases, or_left, or_right}
use Rattle.std.proofs.lemmas.Bool.Decides.{nat_tests}
use Rattle.std.specs.Cmp.{nat_cmp_total}
use Rattle.std.specs.FinMap.{get-insert}
use Rattle.ipcz_world.proofs.Vocabulary.{Side, LinkId, Central, Peripheral, LinkEnd, has_link, word_of, opposite, Router, RouterAct, is_possible}
use Rattle.ipcz_world.proofs.Vocabulary.{output_of, Node, router_in, with_router, commit, World, Key, node_at, word_at, router_at, Books, Owner}
use Rattle.ipcz_world.proofs.Vocabulary.{Spare, Linked, set_node, answer_of, after_act, can_take, decays, is_rest, may_take, apply, leaves_by}
use Rattle.ipcz_world.proofs.Vocabulary.{on_router, send, commit_router, keep_or_drop, has_unclaimed_word, is_begun_router, touch, router_of, may_act}
use Rattle.ipcz_world.proofs.Vocabulary.{after_router_act, claim_for_open, Routes, Lawful}
use Rattle.ipcz_router.specs.LettingGo.{word_end, first_of, edge_end, let_go_end, let_go_spare}
use Rattle.ipcz_router.specs.declared.act.RouterAct.TheVariants as acts
use Rattle.ipcz_router.specs.declared.act.Answer.TheVariants as answers
use Rattle.ipcz_node.specs.declared.act.Act.TheVariants.{Router as OfRouter}
use Rattle.ipcz_word.specs.Word.{is_free}
use Rattle.ipcz_world.specs.HeldEnds.{is_spare, router_holds, IsEndHeld, ByRouter, ByOpen, lets_go, LetGoAreGivenUp, ClaimedAreHeld}
use Rattle.ipcz_world.proofs.facts.Lengths.{HasEnd, has_link-tells, has_link-some}
use Rattle.ipcz_world.proofs.facts.Tests.{and_first, and_second, nat_eq-itself}
use Rattle.ipcz_world.proofs.frames.Frames.{node-set_node, node-set_claimed}
use Rattle.ipcz_world.proofs.lawful.Departures.{gone_next}
use Rattle.ipcz_world.proofs.lawful.LettingGo.{spare_is}
use Rattle.ipcz_world.proofs.lawful.StayingHeld.{outer, node_held}
use Rattle.ipcz_world.proofs.runs.NodeKeeps.{NodeHolds, InRouter, outer_holds}

-- the end of a word that a link end is
word_is : (l : LinkId) (t : Side) (o i : ℕ) (s : Side) → l ≡ Central i → t ≡ s → word_end (Some (record { link = l; side = t; other = o })) ≡ Some (i, s)
unfolding word_end word_of
word_is (Central j) t o i s e f = let same : j ≡ i = cc in ap (λ k. Some (k, t)) same ∙ ap (λ u. Some (i, u)) f
word_is (Peripheral n x) t o i s e f = absurd (cc)

has_word : (o : Option LinkEnd) (i : ℕ) (s : Side) → has_link o (Central i) s ≡ true → word_end o ≡ Some (i, s)
has_word o i s h =
    let e : HasEnd o (Central i) s = has_link-tells o (Central i) s h in
    ap word_end e.there ∙ word_is e.end.link e.end.side e.end.other i s e.on_link e.at_side

first_is : (a c : Option (ℕ × Side)) (p : ℕ × Side) → a ≡ Some p → first_of a c ≡ Some p
unfolding first_of
first_is a c p e = ap (λ x. first_of x c) e

-- who decays not has no decaying link outward
still_none : (o c : Option LinkEnd) (i : ℕ) (s : Side) → (is_some o || is_some c) ≡ false → has_link o (Central i) s ≡ true → ⊥
unfolding has_link
still_none None c i s e h = cc
still_none (Some x) c i s e h = cc

-- who may leave has no link, or has sent Gone inward
leave_cases : (r : Router) → is_possible r acts.Leave ≡ true → (r.outward.decaying ≡ None) ⊎ (r.gone_sent ≡ true)
unfolding is_possible
leave_cases r h = go r.gone_sent r.outward.decaying refl refl
  where
    go : (c : Bool) (o : Option LinkEnd) → r.gone_sent ≡ c → r.outward.decaying ≡ o → (r.outward.decaying ≡ None) ⊎ (r.gone_sent ≡ true)
    go true o e f = inr e
    go false None e f = inl f
    go false (Some x) e f = absurd (grind (arith, h, e, f))

not_begun : (p : Bool) (o : Option LinkEnd) → is_some o ≡ true → (p && is_none o) ≡ false
not_begun true None h = absurd (cc)
not_begun false None h = refl
not_begun true (Some e) h = refl
not_begun false (Some e) h = refl

apart : (o : Owner) (k : Key) → o ≡ Linked → o ≡ Spare k → ⊥
apart o k e f = cc

module _ (w : World) (b : Books) (g : Routes) (law : Lawful w b g) (k : Key) (r : Router) (here : router_at w k ≡ Some r) where
  -- who leaves decays not
  leaver_still : (act : RouterAct) → is_possible r act ≡ true → leaves_by r act ≡ true → (r.outward.decaying ≡ None) ⊎ (decays r ≡ false)
  unfolding leaves_by is_possible
  leaver_still acts.Leave may leaves = elim (leave_cases r may) [
    | inl none ↦ inl none
    | inr sent ↦ inr (law.inv.gones.still k r (opposite r.end.side) here
        (not_begun _ _ ((law.inv.shape k r here).sent_proxy sent)) (law.inv.gones.sent k r here sent).0)
  ]
  leaver_still acts.Retire may leaves = inr (retire_still may)
    where
      retire_still : is_possible r acts.Retire ≡ true → decays r ≡ false
      retire_still h = grind (arith, h)
  leaver_still acts.Discard may leaves = inr (law.inv.gones.still k r (opposite r.end.side) here sink (gone_next w b law.records k r law.inv here leaves))
    where
      sink : is_begun_router r ≡ false
      sink = grind (arith, may)
  leaver_still other may leaves = cc

  -- an end that who leaves holds outward is that of its one link
  leaver_link : (act : RouterAct) → is_possible r act ≡ true → leaves_by r act ≡ true → (i : ℕ) (s : Side) →
      (has_link r.outward.primary (Central i) s ≡ true) ⊎ (has_link r.outward.decaying (Central i) s ≡ true) → edge_end r.outward ≡ Some (i, s)
  unfolding has_link
  leaver_link act may leaves i s (inl h) = first_is _ _ (i, s) (has_word r.outward.primary i s h)
  leaver_link act may leaves i s (inr h) = absurd (none (leaver_still act may leaves))
    where
      none : (r.outward.decaying ≡ None) ⊎ (decays r ≡ false) → ⊥
      none (inl e) = let f = ap (λ o. has_link o (Central i) s) (sym e) ∙ h in cc
      none (inr e) = still r.outward.decaying refl
        where
          still : (o : Option LinkEnd) → r.outward.decaying ≡ o → ⊥
          still None f = let q = ap (λ o. has_link o (Central i) s) (sym f) ∙ h in cc
          still (Some x) f = grind (arith, e, f)

  leaver_gives : (act : RouterAct) → is_possible r act ≡ true → leaves_by r act ≡ true → (i : ℕ) (s : Side) → router_holds i s r ≡ true →
      (edge_end r.outward ≡ Some (i, s)) ⊎ (r.spare ≡ Some i)
  leaver_gives act may leaves i s h = elim (or_cases _ _ (outer w b g law i s k r here h)) [
    | inl q ↦ inl (leaver_link act may leaves i s (or_cases _ _ q))
    | inr q ↦ inr (spare_is w b g law i r.spare q)
  ]

  -- who has a spare stands on the link of another word
  spare_link : (j : ℕ) → r.spare ≡ Some j → (o : Option LinkEnd) → r.outward.primary ≡ o → is_some (word_of o) ≡ true →
      (i : ℕ) × (s : Side) × (edge_end r.outward ≡ Some (i, s)) × (j ≢ i)
  unfolding word_of
  spare_link j e None at h = absurd (cc)
  spare_link j e (Some x) at h = by x.link refl h
    where
      other : (i : ℕ) → x.link ≡ Central i → j ≢ i
      other i l same = apart (law.word_law.owner i) k (law.word_law.linked k r i x.side here (or_left _ _ (or_left _ _
          (ap (λ o. has_link o (Central i) x.side) at ∙ has_link-some x (Central i) x.side l refl)))) (law.word_law.spare k r i here (e ∙ ap Some same))

      by : (l : LinkId) → x.link ≡ l → is_some (word_of (Some x)) ≡ true → (i : ℕ) × (s : Side) × (edge_end r.outward ≡ Some (i, s)) × (j ≢ i)
      by (Central i) l q = (
        i,
        x.side,
        first_is _ _ (i, x.side) (has_word r.outward.primary i x.side
            (ap (λ o. has_link o (Central i) x.side) at ∙ has_link-some x (Central i) x.side l refl)),
        other i l,
      )
      by (Peripheral n c) l q = absurd (grind (arith, l, q))

may_possible : (r : Router) (act : RouterAct) → is_rest act ≡ false → may_take r act ≡ true → is_possible r act ≡ true
may_possible r act n h = grind (arith, n, h)

ends_given : (w : World) (b : Books) (g : Routes) (n serial : ℕ) (r : Router) (act : RouterAct) (i : ℕ) (s : Side) → Lawful w b g →
    router_of w n serial ≡ Some r → can_take w n (OfRouter serial act) ≡ true → lets_go i s r act ≡ true →
    (let_go_end r act ≡ Some (i, s)) ⊎ (let_go_spare r act ≡ Some i)
unfolding can_take may_act lets_go let_go_end leaves_by is_rest
ends_given w b g n serial r act i s law here can lets = gives act (subst (λ o. may_act o act ≡ true) here can) lets
  where
    k : Key
    k = record { node = n; serial = serial }

    leaves : (a : RouterAct) → is_rest a ≡ false → may_take r a ≡ true → (leaves_by r a && router_holds i s r) ≡ true →
        (edge_end r.outward ≡ Some (i, s)) ⊎ (r.spare ≡ Some i)
    leaves a rests may q = leaver_gives w b g law k r here a (may_possible r a rests may) (and_first (leaves_by r a) (router_holds i s r) q) i s
        (and_second (leaves_by r a) (router_holds i s r) q)

    gives : (a : RouterAct) → may_act (Some r) a ≡ true → lets_go i s r a ≡ true →
        (let_go_end r a ≡ Some (i, s)) ⊎ (let_go_spare r a ≡ Some i)
    gives acts.FinishOut may q = inl (has_word r.outward.decaying i s q)
    gives acts.Leave may q = leaves acts.Leave refl may q
    gives acts.Retire may q = leaves acts.Retire refl may q
    gives acts.Discard may q = elim (leaves acts.Discard refl may q) [
      | inl e ↦ inl (ap (λ (c : Bool). if c then edge_end r.outward else None) (and_first (leaves_by r acts.Discard) (router_holds i s r) q) ∙ e)
      | inr e ↦ inr (ap (λ (c : Bool). if c then r.spare else None) (and_first (leaves_by r acts.Discard) (router_holds i s r) q) ∙ e)
    ]
    gives other may q = cc

-- who gives up a spare leaves, and has it
leaves_then : (r : Router) (act : RouterAct) (j : ℕ) → let_go_spare r act ≡ Some j → (leaves_by r act ≡ true) × (r.spare ≡ Some j)
leaves_then r act j e = by (leaves_by r act) refl e
  where
    by : (c : Bool) → leaves_by r act ≡ c → (if c then r.spare else None) ≡ Some j → (leaves_by r act ≡ true) × (r.spare ≡ Some j)
    by true f h = (f, h)
    by false f h = cc

end_left : (r : Router) (act : RouterAct) → leaves_by r act ≡ true → let_go_end r act ≡ edge_end r.outward
unfolding let_go_end leaves_by
end_left r acts.FinishOut e = cc
end_left r act e = ap (λ (c : Bool). if c then edge_end r.outward else None) e

spares_given : (w : World) (b : Books) (g : Routes) (n serial : ℕ) (r : Router) (act : RouterAct) (j : ℕ) → Lawful w b g →
    router_of w n serial ≡ Some r → let_go_spare r act ≡ Some j → (i : ℕ) × (s : Side) × (let_go_end r act ≡ Some (i, s)) × (j ≢ i)
spares_given w b g n serial r act j law here e =
    let left = leaves_then r act j e in
    let k : Key = record { node = n; serial = serial } in
    let link = spare_link w b g law k r here j left.1 r.outward.primary refl ((law.inv.shape k r here).spare_central j left.1) in
    (link.0, link.1, end_left r act left.0 ∙ link.2, link.3)

pub let_go_are_given_up : LetGoAreGivenUp
let_go_are_given_up = record { ends = ends_given; spares = spares_given }

-- who claims a word
module _ (w : World) (n serial : ℕ) (s : Side) (room : has_unclaimed_word w ≡ true) (r : Router) (here : router_in (node_at w n) serial ≡ Some r) where
  abbrev claimer : Router
  claimer = record r { spare = Some w.claimed }

  abbrev node : Node
  node = commit (node_at w n) (OfRouter serial acts.Claim) (answer_of w r acts.Claim)

  node_is : node ≡ with_router (node_at w n) serial claimer
  unfolding commit on_router commit_router keep_or_drop leaves_by apply output_of send answer_of
  node_is = ap (λ o. on_router (node_at w n) o (commit_router (node_at w n) serial acts.Claim (answer_of w r acts.Claim))) here
      ∙ ap (λ (c : Bool). commit_router (node_at w n) serial acts.Claim (if c then answers.Claimed w.claimed else answers.NoWord) r) room

  there : router_in node serial ≡ Some claimer
  there = ap (λ x. router_in x serial) node_is ∙ grind (arith, get-insert nat_cmp_total (node_at w n).routers serial claimer serial, nat_tests)

  spare_here : nat_eq w.claimed w.claimed ≡ true → is_spare w.claimed (Some w.claimed) ≡ true
  unfolding is_spare
  spare_here e = e

  claimed_router : IsEndHeld (after_router_act w n serial acts.Claim (Some r)) w.claimed s
  unfolding after_router_act
  claimed_router = node_held _ n w.claimed s (subst (λ x. NodeHolds w.claimed s x) (sym (node-set_node (touch w r acts.Claim) n node n
      ∙ ap (λ c. cond c node (node_at (touch w r acts.Claim) n)) (nat_eq-itself n))) (InRouter serial claimer there (holds (nat_eq-itself w.claimed))))
    where
      holds : nat_eq w.claimed w.claimed ≡ true → outer_holds w.claimed s claimer ≡ true
      holds e = or_right _ _ (spare_here e)

claimed_by_router : (w : World) (n serial : ℕ) (s : Side) → can_take w n (OfRouter serial acts.Claim) ≡ true → has_unclaimed_word w ≡ true →
    IsEndHeld (after_act w n (OfRouter serial acts.Claim)) w.claimed s
unfolding can_take may_act after_act router_at
claimed_by_router w n serial s can room = by (router_of w n serial) refl can
  where
    by : (o : Option Router) → router_of w n serial ≡ o → may_act o acts.Claim ≡ true → IsEndHeld (after_router_act w n serial acts.Claim o) w.claimed s
    by None e h = cc
    by (Some r) e h = claimed_router w n serial s room r e

claimed_for_open : (w : World) (n : ℕ) (s : Side) → IsEndHeld (claim_for_open w n) w.claimed s
claimed_for_open w n s = ByOpen n (ap (λ (x : Node). x.opening) (node-set_claimed (set_node w n y) (w.claimed + 1) n ∙ (node-set_node w n y n
    ∙ ap (λ c. cond c y (node_at w n)) (nat_eq-itself n))))
  where
    y : Node
    y = record (node_at w n) { opening = Some w.claimed }

-- who stands at a free word
free_held : (w : World) (b : Books) (g : Routes) (i : ℕ) (s : Side) → Lawful w b g → is_free (word_at w i) ≡ true → IsEndHeld w i s
free_held w b g i s law free = let t = law.link_law.free i s free in ByRouter t.key t.router t.here (or_left _ _ (or_left _ _ (or_left _ _ t.on)))

pub claimed_are_held : ClaimedAreHeld
claimed_are_held = record { router = claimed_by_router; open_under_way = claimed_for_open; free = free_held }
