-- An end of a word is held in one place at most.
use Rattle.std.specs.Prelude.{◌≡◌, ◌≢◌, ◌⊎◌, ◌≤◌, ℕ, zero, suc, ◌+◌, Bool, true, false, cond, nat_eq, Some, List, [], ◌∷◌, slice_get, refl}
use Rattle.std.proofs.Common.{arith, sym, ◌∙◌, ap, subst, inl, inr}
use Rattle.std.proofs.lemmas.Bool.{or_cases, or_right}
use Rattle.std.proofs.lemmas.Bool.Decides.{nat_tests}
use Rattle.std.proofs.lemmas.Option.{same_Some}
use Rattle.ipcz_base.specs.Totals.{total_list, total_below}
use Rattle.ipcz_base.specs.declared.message.Message.TheVariants as messages
use Rattle.ipcz_world.proofs.Vocabulary.{Side, Central, Message, Router, router_has, World, Key, node_at, router_at, flow, Books, Records, IsUnderWay}
use Rattle.ipcz_world.proofs.Vocabulary.{Owner, Spare, Opening, Fresh, Linked, under_way, control_weight, of_bypass, same_side, Routes, Lawful}
use Rattle.ipcz_world.specs.Laws.{fresh_count, names_link}
use Rattle.ipcz_world.specs.HeldEnds.{is_spare, router_holds, message_holds, IsEndHeld, ByRouter, ByOpen, ByOutbox, ByMailbox, IsOfRouter, IsOfOpen, HeldInOnePlace}
use Rattle.ipcz_world.proofs.facts.Tests.{and_first, and_second, nat_eq-is, nat_eq-itself}
use Rattle.ipcz_world.proofs.frames.Sums.{total_list-at}
use Rattle.ipcz_world.proofs.frames.Flowing.{total_below-has, weighed-two, same_way}
use Rattle.ipcz_world.proofs.frames.Telling.{IsAccept, accept_told}
use Rattle.ipcz_world.proofs.lawful.LettingGo.{held_as, sole_router, sole_open, sole_told, waits_under_way, mailed, spare_is}

module _ (w : World) (b : Books) (g : Routes) (law : Lawful w b g) where
  of_router : (k : Key) (r : Router) (i : ℕ) (s : Side) → router_at w k ≡ Some r → router_holds i s r ≡ true → (h : IsEndHeld w i s) →
      IsOfRouter w i s k h
  of_router k r i s here holds (ByRouter q z at also) = sole_router w b g law k r here i s (held_as w b g law k r here i s holds) q z at also
  of_router k r i s here holds (ByOpen n e) = sole_open w b g law k r here i s (held_as w b g law k r here i s holds) n e
  of_router k r i s here holds (ByOutbox from to place m at also) =
      sole_told w b g law k r here i s (held_as w b g law k r here i s holds) from to _ m (waits_under_way w b g law from to place m at) also
  of_router k r i s here holds (ByMailbox q place m at also) = mailed w b g law q place m at
      (λ from to j u. sole_told w b g law k r here i s (held_as w b g law k r here i s holds) from to j m u also)

  -- owners of a word exclude each other
  opening_linked : (o : Owner) (n : ℕ) → o ≡ Opening n → o ≡ Linked → ⊥
  opening_linked o n e f = cc

  opening_spare : (o : Owner) (n : ℕ) (k : Key) → o ≡ Opening n → o ≡ Spare k → ⊥
  opening_spare o n k e f = cc

  opening_fresh : (o : Owner) (n old : ℕ) → o ≡ Opening n → o ≡ Fresh old → ⊥
  opening_fresh o n old e f = cc

  opening_same : (o : Owner) (m n : ℕ) → o ≡ Opening m → o ≡ Opening n → m ≡ n
  opening_same o m n e f = cc

  fresh_linked : (o : Owner) (old : ℕ) → o ≡ Fresh old → o ≡ Linked → ⊥
  fresh_linked o old e f = cc

  fresh_same : (o : Owner) (p q : ℕ) → o ≡ Fresh p → o ≡ Fresh q → p ≡ q
  fresh_same o p q e f = cc

  -- whose the word is of which a message brings an end
  told_owner : (from to place : ℕ) (m : Message) (i : ℕ) (s : Side) → IsUnderWay w from to place m → message_holds i s m ≡ true →
      (law.word_law.owner i ≡ Linked) ⊎ ((old : ℕ) × (law.word_law.owner i ≡ Fresh old))
  unfolding message_holds names_link
  told_owner from to place (messages.Item link side n item moves) i s u h = cc
  told_owner from to place (messages.BypassPeer link side old target fresh) i s u h =
      inr (
        old,
        law.word_law.fresh from to place link side old target i
            (subst (λ f. IsUnderWay w from to place (messages.BypassPeer link side old target f)) (nat_eq-is fresh i h) u),
      )
  told_owner from to place (messages.AcceptBypass old side fresh len) i s u h =
      inl (law.word_law.named from to place (messages.AcceptBypass old side fresh len) i u
      (or_right (nat_eq old i) (nat_eq fresh i) (and_first _ _ h)))
  told_owner from to place (messages.StopProxying side old in_length out_length) i s u h = cc
  told_owner from to place (messages.ProxyWillStop link side in_length) i s u h = cc
  told_owner from to place (messages.Flush link side) i s u h = cc

  of_open : (n i : ℕ) (s : Side) → (node_at w n).opening ≡ Some i → (h : IsEndHeld w i s) → IsOfOpen w i s n h
  of_open n i s e (ByRouter q z at also) = go (or_cases _ _ also)
    where
      mine : law.word_law.owner i ≡ Opening n
      mine = law.word_law.opening n i e

      go : (router_has z (Central i) s ≡ true) ⊎ (is_spare i z.spare ≡ true) → ⊥
      go (inl t) = opening_linked _ n mine (law.word_law.linked q z i s at t)
      go (inr t) = opening_spare _ n q mine (law.word_law.spare q z i at (spare_is w b g law i z.spare t))
  of_open n i s e (ByOpen m f) = opening_same _ m n (law.word_law.opening m i f) (law.word_law.opening n i e)
  of_open n i s e (ByOutbox from to place m at also) = go (told_owner from to _ m i s (waits_under_way w b g law from to place m at) also)
    where
      go : (law.word_law.owner i ≡ Linked) ⊎ ((old : ℕ) × (law.word_law.owner i ≡ Fresh old)) → ⊥
      go (inl t) = opening_linked _ n (law.word_law.opening n i e) t
      go (inr t) = opening_fresh _ n t.0 (law.word_law.opening n i e) t.1
  of_open n i s e (ByMailbox q place m at also) = mailed w b g law q place m at (λ from to j u. go (told_owner from to j m i s u also))
    where
      go : (law.word_law.owner i ≡ Linked) ⊎ ((old : ℕ) × (law.word_law.owner i ≡ Fresh old)) → ⊥
      go (inl t) = opening_linked _ n (law.word_law.opening n i e) t
      go (inr t) = opening_fresh _ n t.0 (law.word_law.opening n i e) t.1

-- two places of a list weigh together
two_at : {X : Type 0} (h : X → ℕ) (xs : List X) (i j : ℕ) (x y : X) → slice_get xs i ≡ Some x → slice_get xs j ≡ Some y → i ≢ j →
    h x + h y ≤ total_list h xs
two_at h [] i j x y e f ne = cc
two_at h (a ∷ more) zero zero x y e f ne = absurd (ne refl)
two_at h (a ∷ more) zero (suc j) x y e f ne = let s = ap h (same_Some a x e) in let t = total_list-at h more j y f in omega (arith, s, t)
two_at h (a ∷ more) (suc i) zero x y e f ne = let s = ap h (same_Some a y f) in let t = total_list-at h more i x e in omega (arith, s, t)
two_at h (a ∷ more) (suc i) (suc j) x y e f ne = let t = two_at h more i j x y e f (λ q. ne (ap suc q)) in omega (arith, t)

-- if all messages together weigh one, two that weigh one each are the same
one_message : (h : Message → ℕ) (w : World) (a b i : ℕ) (m : Message) (c d j : ℕ) (n : Message) → IsUnderWay w a b i m → IsUnderWay w c d j n →
    under_way (λ from to x. h x) w ≡ 1 → h m ≡ 1 → h n ≡ 1 → (c ≡ a) × ((d ≡ b) × (j ≡ i))
unfolding under_way
one_message h w a b i m c d j n u v one p q = go (same_way c d a b) refl
  where
    whole : ℕ
    whole = under_way (λ from to x. h x) w

    go : (t : Bool) → same_way c d a b ≡ t → (c ≡ a) × ((d ≡ b) × (j ≡ i))
    go false e = let l = weighed-two (λ from to x. h x) w a b i m c d j n u v e in absurd (omega (arith, l, one, p, q))
    go true e =
        let same_c : c ≡ a = nat_eq-is c a (and_first _ _ e) in
        let same_d : d ≡ b = nat_eq-is d b (and_second _ _ e) in
        let v2 : IsUnderWay w a b j n = subst (λ z. IsUnderWay w a z j n) same_d (subst (λ z. IsUnderWay w z d j n) same_c v) in
        (same_c, (same_d, by v2 (nat_eq j i) refl))
      where
        by : IsUnderWay w a b j n → (t : Bool) → nat_eq j i ≡ t → j ≡ i
        by v2 true f = nat_eq-is j i f
        by v2 false f =
            let l = two_at h (flow w a b) i j m n u.place v2.place (λ z. grind (arith, f, z, nat_tests)) in
            let r = total_below-has w.count b (λ t. total_list h (flow w a t)) u.receiver in
            let k = total_below-has w.count a (λ f. total_below w.count (λ t. total_list h (flow w f t))) u.sender in
            absurd (omega (arith, l, r, k, one, p, q))

module _ (w : World) (b : Books) (g : Routes) (law : Lawful w b g) (i : ℕ) (s : Side) where
  -- two messages that bring an end
  of_message : (from to place from' to' place' : ℕ) (m m' : Message) → IsUnderWay w from to place m → IsUnderWay w from' to' place' m' →
      message_holds i s m ≡ true → message_holds i s m' ≡ true → (from' ≡ from) × ((to' ≡ to) × (place' ≡ place))
  unfolding message_holds fresh_count of_bypass control_weight names_link
  of_message f t p f' t' p' (messages.Item link side n item moves) m' u v h k = cc
  of_message f t p f' t' p' (messages.StopProxying side old in_length out_length) m' u v h k = cc
  of_message f t p f' t' p' (messages.ProxyWillStop link side in_length) m' u v h k = cc
  of_message f t p f' t' p' (messages.Flush link side) m' u v h k = cc
  of_message f t p f' t' p' m (messages.Item link side n item moves) u v h k = cc
  of_message f t p f' t' p' m (messages.StopProxying side old in_length out_length) u v h k = cc
  of_message f t p f' t' p' m (messages.ProxyWillStop link side in_length) u v h k = cc
  of_message f t p f' t' p' m (messages.Flush link side) u v h k = cc
  of_message f t p f' t' p' (messages.BypassPeer link side old target fresh) (messages.BypassPeer link' side' old' target' fresh') u v h k =
      one_message (fresh_count i) w f t p _ f' t' p' _ u v (law.word_law.fresh_back old i (law.word_law.fresh f t p link side old target i
      (subst (λ z. IsUnderWay w f t p (messages.BypassPeer link side old target z)) (nat_eq-is fresh i h) u)))
      (ap (λ c. cond c 1 0) h) (ap (λ c. cond c 1 0) k)
  of_message f t p f' t' p' (messages.BypassPeer link side old target fresh) (messages.AcceptBypass old' side' fresh' len') u v h k =
      absurd (fresh_linked w b g law _ old (law.word_law.fresh f t p link side old target i
      (subst (λ z. IsUnderWay w f t p (messages.BypassPeer link side old target z)) (nat_eq-is fresh i h) u))
      (law.word_law.named f' t' p' (messages.AcceptBypass old' side' fresh' len') i v
      (or_right (nat_eq old' i) (nat_eq fresh' i) (and_first (nat_eq fresh' i) (same_side side' s) k))))
  of_message f t p f' t' p' (messages.AcceptBypass old side fresh len) (messages.BypassPeer link' side' old' target' fresh') u v h k =
      absurd (fresh_linked w b g law _ old' (law.word_law.fresh f' t' p' link' side' old' target' i
      (subst (λ z. IsUnderWay w f' t' p' (messages.BypassPeer link' side' old' target' z)) (nat_eq-is fresh' i k) v))
      (law.word_law.named f t p (messages.AcceptBypass old side fresh len) i u
      (or_right (nat_eq old i) (nat_eq fresh i) (and_first (nat_eq fresh i) (same_side side s) h))))
  of_message f t p f' t' p' (messages.AcceptBypass old side fresh len) (messages.AcceptBypass old' side' fresh' len') u v h k =
      one_message (λ x. of_bypass rec old (λ y. 1) x) w f t p _ f' t' p' _ u v (law.inv.controls.control old (λ from to x. 1) ∙ weight)
      (ap (λ c. cond c 1 0) (nat_eq-itself old)) (ap (λ c. cond c 1 0) (ap (λ z. nat_eq z old) same ∙ nat_eq-itself old))
    where
      rec : Records
      rec = law.records

      at : IsAccept rec f t old side fresh len
      at = accept_told w rec f t p old side fresh len law.inv.controls u

      at' : IsAccept rec f' t' old' side' fresh' len'
      at' = accept_told w rec f' t' p' old' side' fresh' len' law.inv.controls v

      two : (n : ℕ) → n ≡ 2 → 2 ≤ n
      two n e = omega (arith, e)

      born : (rec.central (rec.bypass old).fresh).born ≡ Some old
      born = (law.inv.bypasses old).fresh_born (two _ at.stage)

      born' : (rec.central (rec.bypass old').fresh).born ≡ Some old'
      born' = (law.inv.bypasses old').fresh_born (two _ at'.stage)

      onto : (rec.bypass old).fresh ≡ (rec.bypass old').fresh
      onto = sym at.onto ∙ (nat_eq-is fresh i (and_first (nat_eq fresh i) (same_side side s) h) ∙ (sym
          (nat_eq-is fresh' i (and_first (nat_eq fresh' i) (same_side side' s) k)) ∙ at'.onto))

      same : old' ≡ old
      same = same_Some old' old (sym born' ∙ (ap (λ z. (rec.central z).born) (sym onto) ∙ born))

      weight : control_weight rec (λ from to x. 1) old ≡ 1
      weight = ap (λ n. cond (nat_eq n 1) 1 (cond (nat_eq n 2) 1 (cond (nat_eq n 3) 1 (cond (nat_eq n 4) 1 0)))) at.stage

pub held_in_one_place : HeldInOnePlace
held_in_one_place = record {
  router = λ w b g k r i s law here holds h. of_router w b g law k r i s here holds h;
  open_under_way = λ w b g n i s law e h. of_open w b g law n i s e h;
  message = λ w b g f t p f' t' p' m m' i s law u v h k. of_message w b g law i s f t p f' t' p' m m' u v h k;
}
