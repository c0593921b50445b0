-- What happens between steps of a world that lasts lets no end of a word go, and gives none.
use Rattle.std.specs.Prelude.{◌≡◌, ◌⊎◌, ℕ, true, false, cond, Some, [], slice_get, refl}
use Rattle.std.proofs.Common.{sym, ◌∙◌, ap, subst, inl, inr}
use Rattle.std.proofs.lemmas.Option.{same_Some}
use Rattle.ipcz_world.proofs.Vocabulary.{Side, Router, World, Key, node_at, mail_at, router_at, messages_in, same_key, set_claimed, set_router, place_at}
use Rattle.ipcz_router.specs.ActEffects.{run_dry, rewet}
use Rattle.ipcz_world.specs.HeldEnds.{passed_over, grown, router_holds, IsEndHeld, ByRouter, ByOpen, ByOutbox, ByMailbox}
use Rattle.ipcz_world.specs.Lasting.{HasSameEnds, DeedsKeepEnds}
use Rattle.ipcz_world.proofs.frames.Frames.{one_or_before, OneOrBefore, same_key_tells}
use Rattle.ipcz_world.proofs.frames.OneRouter.{SameButRouter, set-router}

passes_ends : (w : World) (count i : ℕ) (s : Side) → HasSameEnds w (passed_over w count) i s
unfolding set_claimed router_at node_at mail_at
passes_ends w count i s = record { were = back; are = forth }
  where
    back : IsEndHeld (passed_over w count) i s → IsEndHeld w i s
    back (ByRouter k r here h) = ByRouter k r here h
    back (ByOpen n e) = ByOpen n e
    back (ByOutbox from to place m at h) = ByOutbox from to place m at h
    back (ByMailbox k place m at h) = ByMailbox k place m at h

    forth : IsEndHeld w i s → IsEndHeld (passed_over w count) i s
    forth (ByRouter k r here h) = ByRouter k r here h
    forth (ByOpen n e) = ByOpen n e
    forth (ByOutbox from to place m at h) = ByOutbox from to place m at h
    forth (ByMailbox k place m at h) = ByMailbox k place m at h

grows_ends : (w : World) (count i : ℕ) (s : Side) → HasSameEnds w (grown w count) i s
unfolding router_at node_at mail_at
grows_ends w count i s = record { were = back; are = forth }
  where
    back : IsEndHeld (grown w count) i s → IsEndHeld w i s
    back (ByRouter k r here h) = ByRouter k r here h
    back (ByOpen n e) = ByOpen n e
    back (ByOutbox from to place m at h) = ByOutbox from to place m at h
    back (ByMailbox k place m at h) = ByMailbox k place m at h

    forth : IsEndHeld w i s → IsEndHeld (grown w count) i s
    forth (ByRouter k r here h) = ByRouter k r here h
    forth (ByOpen n e) = ByOpen n e
    forth (ByOutbox from to place m at h) = ByOutbox from to place m at h
    forth (ByMailbox k place m at h) = ByMailbox k place m at h

-- a router with the same links and the same spare
told_ends : (w : World) (k : Key) (r y : Router) (i : ℕ) (s : Side) → router_at w k ≡ Some r → router_holds i s y ≡ router_holds i s r →
    HasSameEnds w (set_router w k y) i s
told_ends w k r y i s here same = record { were = back; are = forth }
  where
    v : World
    v = set_router w k y

    one : SameButRouter w v k (Some y)
    one = set-router w k y

    back : IsEndHeld v i s → IsEndHeld w i s
    back (ByRouter q z at h) = go (one_or_before w v k y one.routers q z at)
      where
        go : OneOrBefore w k y q z → IsEndHeld w i s
        go (inl t) = ByRouter k r here (sym same ∙ subst (λ x. router_holds i s x ≡ true) (sym t.1) h)
        go (inr t) = ByRouter q z t.1 h
    back (ByOpen n e) = ByOpen n (sym (one.nodes n).opening ∙ e)
    back (ByOutbox from to place m at h) = ByOutbox from to place m
        (ap (λ b. slice_get (place_at [] b to) place) (sym (one.nodes from).outboxes) ∙ at) h
    back (ByMailbox q place m at h) = ByMailbox q place m (ap (λ x. slice_get (messages_in x) place) (sym (one.mail q)) ∙ at) h

    forth : IsEndHeld w i s → IsEndHeld v i s
    forth (ByRouter q z at h) = go (same_key_tells q k)
      where
        go : ((same_key q k ≡ true) × (q ≡ k)) ⊎ ((same_key q k ≡ false) × (q ≡ k → ⊥)) → IsEndHeld v i s
        go (inl t) = ByRouter q y (one.routers q ∙ ap (λ c. cond c (Some y) (router_at w q)) t.0)
            (same ∙ subst (λ x. router_holds i s x ≡ true) (same_Some z r (sym at ∙ ap (router_at w) t.1 ∙ here)) h)
        go (inr t) = ByRouter q z (one.routers q ∙ ap (λ c. cond c (Some y) (router_at w q)) t.0 ∙ at) h
    forth (ByOpen n e) = ByOpen n ((one.nodes n).opening ∙ e)
    forth (ByOutbox from to place m at h) = ByOutbox from to place m
        (ap (λ b. slice_get (place_at [] b to) place) (one.nodes from).outboxes ∙ at) h
    forth (ByMailbox q place m at h) = ByMailbox q place m (ap (λ x. slice_get (messages_in x) place) (one.mail q) ∙ at) h

pub deeds_keep_ends : DeedsKeepEnds
deeds_keep_ends = record {
  passes = passes_ends;
  grows = grows_ends;
  dries = λ w k r i s here. told_ends w k r (run_dry r) i s here refl;
  wets = λ w k r i s here. told_ends w k r (rewet r) i s here refl;
}
