-- The end of a word that a node holds: whatever it does, it still holds it, or it lets it go.
use Rattle.std.specs.Prelude.{◌≡◌, ◌≢◌, ◌⊎◌, ◌<◌, ℕ, zero, suc, ◌+◌, Bool, true, false, cond, ◌&&◌, ◌||◌, nat_eq, Option, Some, None, is_none, is_some, List, [], ◌∷◌, ◌++◌, length, slice_get, option_map, refl}
use Rattle.std.proofs.Common.{arith, sym, ◌∙◌, ap, subst, inl, inr}
use Rattle.std.proofs.lemmas.Bool.{or_cases, or_left, or_right}
use Rattle.std.proofs.lemmas.Bool.Decides.{nat_tests}
use Rattle.std.proofs.lemmas.Option.{same_Some}
use Rattle.std.specs.Cmp.{nat_cmp_total}
use Rattle.std.specs.FinMap.{get, get-insert, get-remove}
use Rattle.ipcz_world.proofs.Vocabulary.{Side, A, B, End, LinkId, Central, LinkEnd, Descriptor, Item, Message, place_at, word_of, has_link, Router}
use Rattle.ipcz_world.proofs.Vocabulary.{inward_edge, from_descriptor, bypass_peer, opposite, same_side, outbox, output_of, is_possible, RouterAct}
use Rattle.ipcz_world.proofs.Vocabulary.{Node, Found, router_in, with_router, terminal_of, edge_has, outward_has, accept, accept_message}
use Rattle.ipcz_world.proofs.Vocabulary.{accept_bypass, stop_proxying, proxy_will_stop, stop_message, will_stop_message, apply, leaves_by}
use Rattle.ipcz_world.proofs.Vocabulary.{message_output, Answer, Applied, without_router, push_out, add_router, add_end, new_end, link_router}
use Rattle.ipcz_world.proofs.Vocabulary.{on_found, put_node, get_node, close_end, close_node, open_node, put_at_router, get_at_router}
use Rattle.ipcz_world.proofs.Vocabulary.{close_at_router, Transfer, move_found, move_ends, moved_ends, send_item, send, handle, fits, tell, take_in}
use Rattle.ipcz_world.proofs.Vocabulary.{make_terminals, flushed, commit_router, keep_or_drop, may_take, is_rest, has_role}
use Rattle.ipcz_base.specs.declared.parcel.Parcel as parcels
use Rattle.ipcz_base.specs.declared.message.Message.TheVariants as messages
use Rattle.ipcz_base.proofs.Indexed.{place_at-put_place}
use Rattle.ipcz_router.specs.declared.sending.Sending.{Sending}
use Rattle.ipcz_router.specs.Bypass.{fits_bypass_peer, fits_accept_bypass}
use Rattle.ipcz_router.specs.ActEffects.{begin_message, peer_message}
use Rattle.ipcz_router.specs.declared.act.RouterAct.TheVariants as acts
use Rattle.ipcz_router.specs.declared.act.Answer.TheVariants as answers
use Rattle.ipcz_router.specs.declared.act.Applied.TheVariants as outputs
use Rattle.ipcz_node.specs.Hands.{passes_at}
use Rattle.ipcz_world.specs.HeldEnds.{is_spare, router_holds, message_holds, lets_go}
use Rattle.ipcz_world.proofs.facts.Finding.{found_tells}
use Rattle.ipcz_world.proofs.facts.Tests.{and_first, and_second, not_both, nat_eq-is, nat_eq-itself}
use Rattle.ipcz_world.proofs.facts.Lengths.{has_link-some, same_side-itself, same_side-tells}
use Rattle.ipcz_world.proofs.facts.LinkTests.{side_is}

-- a router holds the end of a word, outward or as its spare
abbrev pub outer_holds : ℕ → Side → Router → Bool
outer_holds i s r = edge_has r.outward (Central i) s || is_spare i r.spare

-- a node does
pub data NodeHolds (i : ℕ) (s : Side) (x : Node) : Type 0 where
  InRouter : (serial : ℕ) → (r : Router) → router_in x serial ≡ Some r → outer_holds i s r ≡ true → NodeHolds i s x
  InOpening : x.opening ≡ Some i → NodeHolds i s x
  InOutbox : (to place : ℕ) → (m : Message) → slice_get (outbox x to) place ≡ Some m → message_holds i s m ≡ true → NodeHolds i s x

-- the serials of the routers are below the next
abbrev pub AreCounted : Node → Type 0
AreCounted x = (t : ℕ) (r : Router) → router_in x t ≡ Some r → t < x.next_router

front : {X : Type 0} (xs ys : List X) (i : ℕ) (x : X) → slice_get xs i ≡ Some x → slice_get (xs ++ ys) i ≡ Some x
front [] ys i x h = cc
front (y ∷ xs) ys zero x h = h
front (y ∷ xs) ys (suc i) x h = front xs ys i x h

last : {X : Type 0} (xs : List X) (x : X) → slice_get (xs ++ x ∷ []) (length xs) ≡ Some x
last [] x = refl
last (y ∷ xs) x = last xs x

module _ (i : ℕ) (s : Side) where
  abbrev Holds : Node → Type 0
  Holds x = NodeHolds i s x

  keep-with : (x : Node) (t : ℕ) (y : Router) → Holds x → ((r : Router) → router_in x t ≡ Some r → outer_holds i s r ≡ true →
      outer_holds i s y ≡ true) → Holds (with_router x t y)
  keep-with x t y (InRouter serial r at h) keeps = go (nat_eq serial t) refl
    where
      go : (c : Bool) → nat_eq serial t ≡ c → Holds (with_router x t y)
      go true e = let same : serial ≡ t = grind (arith, e, nat_tests) in
          InRouter t y (grind (arith, get-insert nat_cmp_total x.routers t y t, nat_tests)) (keeps r (ap (router_in x) (sym same) ∙ at) h)
      go false e = InRouter serial r (grind (arith, e, get-insert nat_cmp_total x.routers t y serial, at, nat_tests)) h
  keep-with x t y (InOpening e) keeps = InOpening e
  keep-with x t y (InOutbox to place m at h) keeps = InOutbox to place m at h

  -- a node with the same routers, word for an open and messages
  pub keep-same : (x y : Node) → y.routers ≡ x.routers → y.opening ≡ x.opening → y.outboxes ≡ x.outboxes → Holds x → Holds y
  keep-same x y routers opening boxes (InRouter serial r at h) = InRouter serial r (ap (λ m. get m serial) routers ∙ at) h
  keep-same x y routers opening boxes (InOpening e) = InOpening (opening ∙ e)
  keep-same x y routers opening boxes (InOutbox to place m at h) =
      InOutbox to place m (ap (λ b. slice_get (place_at [] b to) place) boxes ∙ at) h

  keep-push : (x : Node) (to : ℕ) (m : Message) → Holds x → Holds (push_out x to m)
  keep-push x to m (InRouter serial r at h) = InRouter serial r at h
  keep-push x to m (InOpening e) = InOpening e
  keep-push x to m (InOutbox j place z at h) = InOutbox j place z
      (ap (λ ms. slice_get ms place) (place_at-put_place [] x.outboxes to (outbox x to ++ m ∷ []) j) ∙ go (nat_eq j to) refl) h
    where
      go : (c : Bool) → nat_eq j to ≡ c → slice_get (cond c (outbox x to ++ m ∷ []) (place_at [] x.outboxes j)) place ≡ Some z
      go true e = front (outbox x to) (m ∷ []) place z (let same : j ≡ to = grind (arith, e, nat_tests) in
          ap (λ k. slice_get (outbox x k) place) (sym same) ∙ at)
      go false e = at

  new-push : (x : Node) (to : ℕ) (m : Message) → message_holds i s m ≡ true → Holds (push_out x to m)
  new-push x to m h = InOutbox to (length (outbox x to)) m
      (ap (λ ms. slice_get ms (length (outbox x to))) (place_at-put_place [] x.outboxes to (outbox x to ++ m ∷ []) to ∙
      ap (λ c. cond c (outbox x to ++ m ∷ []) (place_at [] x.outboxes to)) (nat_eq-itself to)) ∙ last (outbox x to) m) h

  keep-tell : (x : Node) (o : Option Sending) → Holds x → Holds (tell x o)
  unfolding tell
  keep-tell x None h = h
  keep-tell x (Some z) h = keep-push x z.to z.message h

  keep-add : (x : Node) (y : Router) → AreCounted x → Holds x → Holds (add_router x y)
  keep-add x y counted h = keep-same (with_router x x.next_router y) (add_router x y) refl refl refl
      (keep-with x x.next_router y h (λ r at. let l = counted x.next_router r at in absurd (omega (arith, l))))

  counted-add : (x : Node) (y : Router) → AreCounted x → AreCounted (add_router x y)
  counted-add x y counted t r at = go (nat_eq t x.next_router) refl
    where
      go : (c : Bool) → nat_eq t x.next_router ≡ c → t < x.next_router + 1
      go true e = grind (arith, e, nat_tests)
      go false e = let l = counted t r (grind (arith, e, get-insert nat_cmp_total x.routers x.next_router y t, at, nat_tests)) in omega (arith, l)

  counted-with : (x : Node) (t : ℕ) (y z : Router) → router_in x t ≡ Some z → AreCounted x → AreCounted (with_router x t y)
  counted-with x t y z there counted u r at = go (nat_eq u t) refl
    where
      go : (c : Bool) → nat_eq u t ≡ c → u < x.next_router
      go true e = let l = counted t z there in grind (arith, l, e, nat_tests)
      go false e = counted u r (grind (arith, e, get-insert nat_cmp_total x.routers t y u, at, nat_tests))

  -- terminals move
  keep-move : (m : Transfer) (to : ℕ) (o : Option Found) → ((f : Found) → o ≡ Some f → router_in m.node f.serial ≡ Some f.router) →
      Holds m.node → Holds (move_found m to o).node
  unfolding move_found
  keep-move m to None found h = h
  keep-move m to (Some f) found h = keep-same (with_router m.node f.serial _) _ refl refl refl (keep-with m.node f.serial _ h
      (λ r at e. subst (λ z. outer_holds i s z ≡ true) (same_Some r f.router (sym at ∙ found f refl)) e))

  keep-moves : (m : Transfer) (to : ℕ) (es : List End) → Holds m.node → Holds (move_ends m to es).node
  keep-moves m to [] h = h
  keep-moves m to (e ∷ es) h = keep-moves (move_found m to (terminal_of m.node e)) to es (keep-move m to (terminal_of m.node e)
      (λ f found. (found_tells m.node _ f found).0) h)

  keep-send : (x : Node) (o : Applied) → Holds x → Holds (send x o)
  unfolding send send_item
  keep-send x outputs.Nothing h = h
  keep-send x (outputs.Sent link n item) h =
      keep-push _ link.other _ (keep-moves (record { node = x; moves = [] }) link.other (moved_ends x link item) h)
  keep-send x (outputs.Message to m) h = keep-push x to m h
  keep-send x (outputs.Discarded n item) h = keep-same x _ refl refl refl h

  -- calls
  keep-found : (x : Node) (o : Option Found) (change : ℕ → Router → Node) → Holds x →
      ((f : Found) → o ≡ Some f → Holds (change f.serial f.router)) → Holds (on_found x o change)
  unfolding on_found
  keep-found x None change h more = h
  keep-found x (Some f) change h more = more f refl

  -- a router that was found becomes one that holds as much
  keep-one : (x : Node) (f : Found) (y : Router) → router_in x f.serial ≡ Some f.router →
      (outer_holds i s f.router ≡ true → outer_holds i s y ≡ true) → Holds x → Holds (with_router x f.serial y)
  keep-one x f y found keeps h = keep-with x f.serial y h
      (λ r at e. keeps (subst (λ z. outer_holds i s z ≡ true) (same_Some r f.router (sym at ∙ found)) e))

  pub keep-put : (x : Node) (e : End) (p : parcels.Parcel) → Holds x → Holds (put_node x e p)
  keep-put x e p h = keep-found x (terminal_of x e) (put_at_router x p) h
      (λ f found. keep-same (with_router x f.serial _) _ refl refl refl (keep-one x f _ (found_tells x _ f found).0 (λ q. q) h))

  pub keep-get : (x : Node) (e : End) → Holds x → Holds (get_node x e)
  keep-get x e h = keep-found x (terminal_of x e) (get_at_router x) h
      (λ f found. keep-same (with_router x f.serial _) _ refl refl refl (keep-one x f _ (found_tells x _ f found).0 (λ q. q) h))

  pub keep-close : (x : Node) (e : End) → Holds x → Holds (close_end x e)
  keep-close x e h = keep-found x (terminal_of x e) (close_at_router x) h (λ f found. keep-one x f _ (found_tells x _ f found).0 (λ q. q) h)

  pub keep-close_node : (x : Node) (e : End) → Holds x → Holds (close_node x e)
  keep-close_node x e h = keep-close _ e (keep-same x _ refl refl refl h)

  -- the acts of a router: it still holds the end, its act brings it to another by a message, or it lets it go
  parts : (a b c : Bool) → ((a || b) || c) ≡ true → (a ≡ true) ⊎ ((b ≡ true) ⊎ (c ≡ true))
  parts true b c h = inl refl
  parts false true c h = inr (inl refl)
  parts false false true h = inr (inr refl)
  parts false false false h = cc

  abbrev HeldAfter : Router → RouterAct → Answer → Type 0
  HeldAfter r act a = (outer_holds i s (apply r act a) ≡ true) ⊎ ((lets_go i s r act ≡ true) ⊎ ((act ≡ acts.Begin) × (r.spare ≡ Some i)))

  spare_some : (o : Option ℕ) → is_spare i o ≡ true → o ≡ Some i
  unfolding is_spare
  spare_some None h = cc
  spare_some (Some j) h = ap Some (nat_eq-is j i h)

  no_spare : (o : Option ℕ) → is_none o ≡ true → is_spare i o ≡ true → ⊥
  unfolding is_spare
  no_spare None e h = cc
  no_spare (Some j) e h = cc

  not_decaying : (o : Option LinkEnd) → is_some o ≡ false → has_link o (Central i) s ≡ true → ⊥
  unfolding has_link
  not_decaying None e h = cc
  not_decaying (Some x) e h = cc

  both : (a b : Bool) → a ≡ true → b ≡ true → (a && b) ≡ true
  both true b e f = f
  both false b e f = cc

  outer_router : (r : Router) → outer_holds i s r ≡ true → router_holds i s r ≡ true
  outer_router r h = go (or_cases _ _ h)
    where
      go : (outward_has r (Central i) s ≡ true) ⊎ (is_spare i r.spare ≡ true) → router_holds i s r ≡ true
      go (inl t) = or_left _ _ (or_left _ _ t)
      go (inr t) = or_right _ _ t

  lets_if_leaves : (r : Router) (act : RouterAct) → leaves_by r act ≡ true → outer_holds i s r ≡ true → lets_go i s r act ≡ true
  unfolding lets_go leaves_by
  lets_if_leaves r acts.FinishOut e h = cc
  lets_if_leaves r other e h = both (leaves_by r other) (router_holds i s r) e (outer_router r h)

  claim_none : (r : Router) → may_take r acts.Claim ≡ true → is_none r.spare ≡ true
  unfolding is_possible is_rest
  claim_none r may = grind (arith, may)

  begin_still : (r : Router) → may_take r acts.Begin ≡ true → is_some r.outward.decaying ≡ false
  unfolding is_possible is_rest
  begin_still r may = go (is_some r.outward.decaying) refl
    where
      go : (c : Bool) → is_some r.outward.decaying ≡ c → is_some r.outward.decaying ≡ false
      go false e = e
      go true e = absurd (grind (arith, may, e))

  claimed-after : (r : Router) (a : Answer) → is_none r.spare ≡ true → outer_holds i s r ≡ true → outer_holds i s (apply r acts.Claim a) ≡ true
  unfolding apply
  claimed-after r (answers.Claimed j) none h = go (or_cases _ _ h)
    where
      go : (outward_has r (Central i) s ≡ true) ⊎ (is_spare i r.spare ≡ true) → outer_holds i s (apply r acts.Claim (answers.Claimed j)) ≡ true
      go (inl t) = or_left _ _ t
      go (inr t) = absurd (no_spare r.spare none t)
  claimed-after r answers.NoWord none h = h
  claimed-after r other none h = h

  marked-after : (r : Router) (a : Answer) → outer_holds i s r ≡ true → outer_holds i s (apply r acts.Mark a) ≡ true
  unfolding apply
  marked-after r (answers.Marked word was_waiting) h = h
  marked-after r other h = h

  locked-after : (r : Router) (a : Answer) → outer_holds i s r ≡ true → outer_holds i s (apply r acts.Lock a) ≡ true
  unfolding apply
  locked-after r (answers.Locked word) h = h
  locked-after r (answers.Waiting word) h = h
  locked-after r (answers.Refused word) h = h
  locked-after r other h = h

  held-after : (r : Router) (act : RouterAct) (a : Answer) → may_take r act ≡ true → outer_holds i s r ≡ true → HeldAfter r act a
  unfolding apply lets_go has_link is_spare
  held-after r acts.FinishOut a may h = go (parts (has_link r.outward.primary (Central i) s) (has_link r.outward.decaying (Central i) s) (is_spare i r.spare) h)
    where
      go : (has_link r.outward.primary (Central i) s ≡ true) ⊎ ((has_link r.outward.decaying (Central i) s ≡ true) ⊎ (is_spare i r.spare ≡ true)) →
          HeldAfter r acts.FinishOut a
      go (inl t) = inl (or_left _ _ (or_left _ _ t))
      go (inr (inl t)) = inr (inl t)
      go (inr (inr t)) = inl (or_right _ _ t)
  held-after r acts.Begin a may h = go (parts (has_link r.outward.primary (Central i) s) (has_link r.outward.decaying (Central i) s) (is_spare i r.spare) h)
    where
      go : (has_link r.outward.primary (Central i) s ≡ true) ⊎ ((has_link r.outward.decaying (Central i) s ≡ true) ⊎ (is_spare i r.spare ≡ true)) →
          HeldAfter r acts.Begin a
      go (inl t) = inl (or_left _ _ (or_right false _ t))
      go (inr (inl t)) = absurd (not_decaying r.outward.decaying (begin_still r may) t)
      go (inr (inr t)) = inr (inr (refl, spare_some r.spare t))
  held-after r acts.Mark a may h = inl (marked-after r a h)
  held-after r acts.Claim a may h = inl (claimed-after r a (claim_none r may) h)
  held-after r acts.Lock a may h = inl (locked-after r a h)
  held-after r other a may h = inl h

  -- a begin sends its spare
  sent-begin : (x : Node) (inner outer : LinkEnd) (old : ℕ) → word_of (Some outer) ≡ Some old →
      Holds (send x (message_output (begin_message (Some inner) (Some outer) (Some i))))
  unfolding send message_output begin_message message_holds
  sent-begin x inner outer old e = subst (λ o. Holds (send x (message_output (option_map (λ old. peer_message inner outer old i) o)))) (sym e)
      (new-push x inner.other _ (nat_eq-itself i))

  begin-brings : (x : Node) (r : Router) → may_take r acts.Begin ≡ true → has_role r ≡ true → r.spare ≡ Some i →
      Holds (send x (output_of r acts.Begin))
  unfolding output_of is_possible is_rest word_of
  begin-brings x r may role spare = outer r.outward.primary refl
    where
      none_word : word_of None ≡ None
      none_word = refl

      inner : (outer : LinkEnd) (old : ℕ) → r.outward.primary ≡ Some outer → word_of (Some outer) ≡ Some old → (o : Option LinkEnd) →
          (inward_edge r).primary ≡ o → Holds (send x (message_output (begin_message (inward_edge r).primary r.outward.primary r.spare)))
      inner outer old e w None f = absurd (grind (arith, may, role, e, f))
      inner outer old e w (Some y) f = rw (f, e, spare) (sent-begin x y outer old w)

      outer : (o : Option LinkEnd) → r.outward.primary ≡ o → Holds (send x (message_output (begin_message (inward_edge r).primary r.outward.primary r.spare)))
      outer None e = absurd (grind (arith, may, e, none_word))
      outer (Some y) e = by (word_of (Some y)) refl
        where
          by : (o : Option ℕ) → word_of (Some y) ≡ o → Holds (send x (message_output (begin_message (inward_edge r).primary r.outward.primary r.spare)))
          by None f = absurd (grind (arith, may, e, f))
          by (Some old) f = inner y old e f (inward_edge r).primary refl

  -- an act of a router of the node
  pub keep-router : (x : Node) (t : ℕ) (act : RouterAct) (a : Answer) (r : Router) → router_in x t ≡ Some r → may_take r act ≡ true →
      has_role r ≡ true → Holds x → Holds (commit_router x t act a r) ⊎ (lets_go i s r act ≡ true)
  unfolding commit_router keep_or_drop
  keep-router x t act a r there may role h = go (leaves_by r act) refl h
    where
      y : Node
      y = with_router x t (apply r act a)

      stays : leaves_by r act ≡ false → HeldAfter r act a → Holds (send y (output_of r act)) ⊎ (lets_go i s r act ≡ true)
      stays e (inl q) = inl (keep-send y (output_of r act) (InRouter t (apply r act a) (grind (arith, get-insert nat_cmp_total x.routers t (apply r act a) t, nat_tests)) q))
      stays e (inr (inl q)) = inr q
      stays e (inr (inr q)) = inl (subst (λ z. Holds (send y (output_of r z))) (sym q.0)
          (begin-brings y r (subst (λ z. may_take r z ≡ true) q.0 may) role q.1))

      dropped : leaves_by r act ≡ true → Holds x → Holds (send (without_router x t) (output_of r act)) ⊎ (lets_go i s r act ≡ true)
      dropped e (InRouter serial z at q) = by (nat_eq serial t) refl
        where
          by : (c : Bool) → nat_eq serial t ≡ c → Holds (send (without_router x t) (output_of r act)) ⊎ (lets_go i s r act ≡ true)
          by true f = let same : serial ≡ t = grind (arith, f, nat_tests) in
              inr (lets_if_leaves r act e (subst (λ w. outer_holds i s w ≡ true) (same_Some z r (sym at ∙ ap (router_in x) same ∙ there)) q))
          by false f = inl (keep-send _ (output_of r act)
              (InRouter serial z (grind (arith, f, get-remove nat_cmp_total x.routers t serial, at, nat_tests)) q))
      dropped e (InOpening q) = inl (keep-send _ (output_of r act) (InOpening q))
      dropped e (InOutbox to place m at q) = inl (keep-send _ (output_of r act) (InOutbox to place m at q))

      kept : leaves_by r act ≡ false → Holds x → Holds (send y (output_of r act)) ⊎ (lets_go i s r act ≡ true)
      kept e (InRouter serial z at q) = by (nat_eq serial t) refl
        where
          by : (c : Bool) → nat_eq serial t ≡ c → Holds (send y (output_of r act)) ⊎ (lets_go i s r act ≡ true)
          by true f = let same : serial ≡ t = grind (arith, f, nat_tests) in
              stays e (held-after r act a may (subst (λ w. outer_holds i s w ≡ true) (same_Some z r (sym at ∙ ap (router_in x) same ∙ there)) q))
          by false f = inl (keep-send y (output_of r act)
              (InRouter serial z (grind (arith, f, get-insert nat_cmp_total x.routers t (apply r act a) serial, at, nat_tests)) q))
      kept e (InOpening q) = inl (keep-send y (output_of r act) (InOpening q))
      kept e (InOutbox to place m at q) = inl (keep-send y (output_of r act) (InOutbox to place m at q))

      go : (c : Bool) → leaves_by r act ≡ c → Holds x → Holds (send (keep_or_drop x t (apply r act a) c) (output_of r act)) ⊎ (lets_go i s r act ≡ true)
      go true e q = dropped e q
      go false e q = kept e q

  -- messages
  keep-make : (x : Node) (sender : ℕ) (ds : List Descriptor) → AreCounted x → Holds x → Holds (make_terminals x sender ds)
  keep-make x sender [] counted h = h
  keep-make x sender (d ∷ ds) counted h = keep-make (add_router x (from_descriptor d sender)) sender ds
      (counted-add x (from_descriptor d sender) counted) (keep-add x (from_descriptor d sender) counted h)

  keep-accept : (r : Router) (from_outward : Bool) (n : ℕ) (item : Item) → outer_holds i s r ≡ true →
      outer_holds i s (accept r from_outward n item) ≡ true
  unfolding accept
  keep-accept r true n item h = h
  keep-accept r false n item h = h

  passes_found : (o : Option Found) (test : Router → Bool) (f : Found) → o ≡ Some f → passes_at o test ≡ true → test f.router ≡ true
  unfolding passes_at
  passes_found None test f e h = cc
  passes_found (Some x) test f e h = subst (λ (z : Found). test z.router ≡ true) (same_Some x f e) h

  still-peer : (r : Router) (link : LinkId) (side : Side) → fits_bypass_peer r link side ≡ true → is_some r.outward.decaying ≡ false
  still-peer r link side h = go (is_some r.outward.decaying) refl
    where
      go : (c : Bool) → is_some r.outward.decaying ≡ c → is_some r.outward.decaying ≡ false
      go false e = e
      go true e = absurd (grind (arith, h, e))

  still-accept : (r : Router) (old : ℕ) (side : Side) → fits_accept_bypass r old side ≡ true → is_some r.outward.decaying ≡ false
  still-accept r old side h = go (is_some r.outward.decaying) refl
    where
      go : (c : Bool) → is_some r.outward.decaying ≡ c → is_some r.outward.decaying ≡ false
      go false e = e
      go true e = absurd (grind (arith, h, e))

  -- an edge whose primary link decays, under a new one
  keep-onto : (r : Router) (c : Bool) → is_some r.outward.decaying ≡ false → outer_holds i s r ≡ true →
      ((c || has_link r.outward.primary (Central i) s) || is_spare i r.spare) ≡ true
  keep-onto r c still h = go (parts (has_link r.outward.primary (Central i) s) (has_link r.outward.decaying (Central i) s) (is_spare i r.spare) h)
    where
      go : (has_link r.outward.primary (Central i) s ≡ true) ⊎ ((has_link r.outward.decaying (Central i) s ≡ true) ⊎ (is_spare i r.spare ≡ true)) →
          ((c || has_link r.outward.primary (Central i) s) || is_spare i r.spare) ≡ true
      go (inl t) = or_left _ _ (or_right c _ t)
      go (inr (inl t)) = absurd (not_decaying r.outward.decaying still t)
      go (inr (inr t)) = or_right _ _ t

  pub keep-handle : (x : Node) (sender : ℕ) (m : Message) (source : Option ℕ) → AreCounted x → fits x sender m source ≡ true → Holds x →
      Holds (handle x sender m)
  unfolding handle fits
  keep-handle x sender (messages.Item link side number item moves) source counted fit h =
      keep-found x (link_router x link side) (take_in x sender link side number item moves) h (λ f found.
      let there = (found_tells x _ f found).0 in
      keep-make (with_router x f.serial (accept f.router (outward_has f.router link side) number item)) sender moves
      (counted-with x f.serial _ f.router there counted)
      (keep-one x f (accept f.router (outward_has f.router link side) number item) there
      (keep-accept f.router (outward_has f.router link side) number item) h))
  keep-handle x sender (messages.BypassPeer link side old target fresh) source counted fit h =
      keep-found x (link_router x link side) (λ s r. tell (with_router x s (bypass_peer r target fresh))
      (Some (accept_message r old target fresh))) h (λ f found.
      let tests = passes_found (link_router x link side) _ f found fit in
      keep-tell (with_router x f.serial (bypass_peer f.router target fresh)) _ (keep-one x f (bypass_peer f.router target fresh)
      (found_tells x _ f found).0
      (keep-onto f.router (has_link (bypass_peer f.router target fresh).outward.primary (Central i) s) (still-peer f.router link side (and_first _ _ tests))) h))
  keep-handle x sender (messages.AcceptBypass old side fresh len) source counted fit h =
      keep-found x (link_router x (Central old) side) (λ s r. tell (with_router x s (accept_bypass r sender side fresh len))
      (stop_message r r.outward.primary old side len)) h (λ f found.
      let tests = passes_found (link_router x (Central old) side) _ f found (and_first _ _ fit) in
      keep-tell (with_router x f.serial (accept_bypass f.router sender side fresh len)) _ (keep-one x f (accept_bypass f.router sender side fresh len)
      (found_tells x _ f found).0
      (keep-onto f.router (has_link (accept_bypass f.router sender side fresh len).outward.primary (Central i) s)
      (still-accept f.router old side (and_first _ _ tests))) h))
  keep-handle x sender (messages.StopProxying side old in_length out_length) source counted fit h =
      keep-found x (link_router x (Central old) side) (λ s r. tell (with_router x s (stop_proxying r in_length out_length))
      (will_stop_message (inward_edge r).decaying in_length)) h (λ f found.
      keep-tell (with_router x f.serial (stop_proxying f.router in_length out_length)) _
      (keep-one x f (stop_proxying f.router in_length out_length) (found_tells x _ f found).0 (λ q. q) h))
  keep-handle x sender (messages.ProxyWillStop link side in_length) source counted fit h =
      keep-found x (link_router x link side) (λ s r. with_router x s (proxy_will_stop r in_length)) h
      (λ f found. keep-one x f (proxy_will_stop f.router in_length) (found_tells x _ f found).0 (λ q. q) h)
  keep-handle x sender (messages.Flush link side) source counted fit h =
      keep-found x (link_router x link side) (λ s r. with_router x s (flushed r)) h
      (λ f found. keep-one x f (flushed f.router) (found_tells x _ f found).0 (λ q. q) h)

  -- what a message brings is held by the router that takes it, or by what that one sends
  brought-found : (x : Node) (o : Option Found) (test : Router → Bool) (change : ℕ → Router → Node) → passes_at o test ≡ true →
      ((f : Found) → Holds (change f.serial f.router)) → Holds (on_found x o change)
  unfolding passes_at on_found
  brought-found x None test change fit all = cc
  brought-found x (Some f) test change fit all = all f

  there-now : (x : Node) (t : ℕ) (y : Router) → outer_holds i s y ≡ true → Holds (with_router x t y)
  there-now x t y h = InRouter t y (grind (arith, get-insert nat_cmp_total x.routers t y t, nat_tests)) h

  pub bring-handle : (x : Node) (sender : ℕ) (m : Message) (source : Option ℕ) → fits x sender m source ≡ true → message_holds i s m ≡ true →
      Holds (handle x sender m)
  unfolding handle fits message_holds tell
  bring-handle x sender (messages.Item link side number item moves) source fit h = cc
  bring-handle x sender (messages.BypassPeer link side old target fresh) source fit h =
      brought-found x (link_router x link side) _ (λ s r. tell (with_router x s (bypass_peer r target fresh))
      (Some (accept_message r old target fresh))) fit (λ f. go f (side_is s f.router.end.side))
    where
      same : fresh ≡ i
      same = nat_eq-is fresh i h

      go : (f : Found) → (s ≡ f.router.end.side) ⊎ (s ≡ opposite f.router.end.side) →
          Holds (tell (with_router x f.serial (bypass_peer f.router target fresh)) (Some (accept_message f.router old target fresh)))
      go f (inl e) = keep-push _ target _ (there-now x f.serial (bypass_peer f.router target fresh)
          (or_left _ _ (or_left _ _ (has_link-some _ (Central i) s (ap Central same) (sym e)))))
      go f (inr e) = new-push _ target _ (both (nat_eq fresh i) (same_side (opposite f.router.end.side) s) h
          (subst (λ t. same_side (opposite f.router.end.side) t ≡ true) (sym e) (same_side-itself (opposite f.router.end.side))))
  bring-handle x sender (messages.AcceptBypass old side fresh len) source fit h =
      brought-found x (link_router x (Central old) side) _ (λ s r. tell (with_router x s (accept_bypass r sender side fresh len))
      (stop_message r r.outward.primary old side len)) (and_first _ _ fit) (λ f.
      keep-tell (with_router x f.serial (accept_bypass f.router sender side fresh len)) _ (there-now x f.serial (accept_bypass f.router sender side fresh len)
      (or_left _ _ (or_left _ _ (has_link-some _ (Central i) s (ap Central (nat_eq-is fresh i (and_first (nat_eq fresh i) (same_side side s) h)))
      (same_side-tells side s (and_second (nat_eq fresh i) (same_side side s) h)))))))
  bring-handle x sender (messages.StopProxying side old in_length out_length) source fit h = cc
  bring-handle x sender (messages.ProxyWillStop link side in_length) source fit h = cc
  bring-handle x sender (messages.Flush link side) source fit h = cc

  -- an open: its word becomes that of both terminals
  pub keep-open : (x : Node) (j : ℕ) → AreCounted x → ((k : ℕ) → x.opening ≡ Some k → k ≡ j) → Holds x → Holds (open_node x j)
  keep-open x j counted same h = go h
    where
      y : Node
      y = add_end x j A x.number

      counted_y : AreCounted y
      counted_y = counted-add x (new_end j A x.number) counted

      keep : Holds x → Holds (add_end y j B x.number)
      keep q = keep-same (add_router y (new_end j B x.number)) _ refl refl refl (keep-add y (new_end j B x.number) counted_y
          (keep-same (add_router x (new_end j A x.number)) y refl refl refl (keep-add x (new_end j A x.number) counted q)))

      done : (q : Holds (add_end y j B x.number)) → (x.opening ≡ None) ⊎ (j ≢ i) → Holds (open_node x j)
      done (InRouter serial r at e) n = InRouter serial r at e
      done (InOpening e) (inl n) = absurd (none_some (sym n ∙ e))
        where
          none_some : None ≡ Some i → ⊥
          none_some f = cc
      done (InOpening e) (inr n) = absurd (n (sym (same i e)))
      done (InOutbox to place m at e) n = InOutbox to place m at e

      new : (t : Side) → s ≡ t → j ≡ i → Holds (open_node x j)
      new A e f = InRouter x.next_router (new_end j A x.number) (grind (
        arith,
        get-insert nat_cmp_total y.routers y.next_router (new_end j B x.number) x.next_router,
        get-insert nat_cmp_total x.routers x.next_router (new_end j A x.number) x.next_router,
        nat_tests,
      )) (or_left _ _ (or_left _ _ (has_link-some _ (Central i) s (ap Central f) (sym e))))
      new B e f = InRouter y.next_router (new_end j B x.number) (grind (
        arith,
        get-insert nat_cmp_total y.routers y.next_router (new_end j B x.number) y.next_router,
        nat_tests,
      )) (or_left _ _ (or_left _ _ (has_link-some _ (Central i) s (ap Central f) (sym e))))

      go : Holds x → Holds (open_node x j)
      go q = by (nat_eq j i) refl
        where
          by : (c : Bool) → nat_eq j i ≡ c → Holds (open_node x j)
          by true e = new s refl (nat_eq-is j i e)
          by false e = done (keep q) (inr (λ f. not_both (nat_eq j i) (ap (λ k. nat_eq k i) f ∙ nat_eq-itself i) e))
