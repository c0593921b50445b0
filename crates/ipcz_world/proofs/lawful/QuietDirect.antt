-- In a quiet world whose words aren't used up no proxy is left, and each open pair is direct.
use Rattle.std.specs.Prelude.{◌≡◌, ◌⊎◌, ◌<◌, ℕ, zero, suc, ◌+◌, Bool, true, false, cond, not, ◌&&◌, ◌||◌, nat_eq, Option, Some, None}
use Rattle.std.specs.Prelude.{is_some, List, [], ◌∷◌, length, slice_get, refl}
use Rattle.std.specs.Ordering.{nat_cmp, is_eq}
use Rattle.std.specs.Cmp.{nat_cmp_total, tied_itself}
use Rattle.std.specs.FinMap.{entries, find, get-entries, len-entries}
use Rattle.std.proofs.Common.{arith, ap, subst, ◌∙◌, sym, inl, inr}
use Rattle.std.proofs.lemmas.Option.{none-some, same_Some}
use Rattle.ipcz_world.proofs.facts.Tests.{not_both}
use Rattle.ipcz_world.proofs.Vocabulary.{Side, A, B, End, Central, Peripheral, LinkEnd, Item, opposite, opposite_end, same_end, Router, is_terminal}
use Rattle.ipcz_world.proofs.Vocabulary.{is_possible, World, Key, node_at, router_at, word_at, has, Books, Records, is_linked, under_way, total}
use Rattle.ipcz_world.proofs.Vocabulary.{total_list, has_primary, word_of, Inv, Weight, is_recorded, in_router, at_end, Terminal, At, side_end}
use Rattle.ipcz_world.proofs.Vocabulary.{is_nowhere, end_at, is_proxy, decays, is_on_central, move_weight, AreFlagged, IsRanked, Parcel, Mark, Gone}
use Rattle.ipcz_world.proofs.Vocabulary.{is_mark, is_done, has_mark, is_retired, Nowhere, Moving, Retired, IsQuiet}
use Rattle.ipcz_base.specs.declared.message.Message.TheVariants as messages
use Rattle.ipcz_world.proofs.lawful.Following.{on-central}
use Rattle.ipcz_word.specs.Word.{is_free}
use Rattle.ipcz_router.specs.declared.act.RouterAct.TheVariants as acts
use Rattle.ipcz_world.specs.Flows.{of_end, moves_of}
use Rattle.ipcz_world.specs.Owed.{GoneUnread, HaveWakers, HasWaker, IsWet, IsTerminalOn, IsDirectPair, IsDirect}
use Rattle.ipcz_world.specs.Laws.{LinkLaw}
use Rattle.ipcz_world.specs.Places.{unread_weight}
use Rattle.ipcz_seq.specs.Queue.{Queue, item_at, is_drained}
use Rattle.ipcz_router.specs.ActTable.{is_ready, is_leaving}
use Rattle.ipcz_world.specs.Books.{is_closed}
use Rattle.ipcz_world.proofs.facts.Updates.{remove_router}
use Rattle.ipcz_world.proofs.facts.Lengths.{side_is, has_link-tells}
use Rattle.ipcz_world.proofs.facts.LinkTests.{opposite_end-twice, same_end-tells, same_end-itself}
use Rattle.ipcz_world.proofs.facts.Tests.{some_is, and_second}
use Rattle.std.proofs.lemmas.Option.{slice_get_within}
use Rattle.ipcz_world.proofs.frames.Flowing.{found}
use Rattle.ipcz_world.proofs.frames.Frames.{same_key_tells}
use Rattle.ipcz_world.proofs.frames.OneRouter.{SameButRouter, remove-router}
use Rattle.ipcz_world.proofs.lawful.LinkLaws.{link_law}
use Rattle.ipcz_world.proofs.lawful.Quiet.{nothing-moves, total-zero, total_below-zero, in_node-is, router-is}
use Rattle.ipcz_world.proofs.lawful.Quiet.{key_of, out-delivered}
use Rattle.ipcz_world.proofs.lawful.QuietRoutes.{HasOuter, HasAcross, outer_router}
use Rattle.ipcz_world.proofs.acts.Moved.{passes_tells}
use Rattle.ipcz_world.proofs.frames.OfRecords.{in_places, in_node, in_message}
use Rattle.ipcz_world.proofs.frames.Weighing.{in_places-is, in_router-is}
use Rattle.ipcz_world.proofs.frames.Weights.{places-remove_router}
use Rattle.ipcz_world.proofs.lawful.QuietDelivery.{primed, inward_proxy, idle, none_begun, still, calm, marked, free, sink_read, stayer_gone}

-- a mark is found in a list that has one
pub mark_at : (xs : List Item) → has_mark xs ≡ true → (n : ℕ) × (slice_get xs n ≡ Some Mark)
mark_at [] h = cc
mark_at (x ∷ xs) h = go (is_mark x) refl h (λ q. mark_at xs q)
  where
    is : (x : Item) → is_mark x ≡ true → x ≡ Mark
    is (Parcel p) e = cc
    is Mark e = refl
    is Gone e = cc

    go : (c : Bool) → is_mark x ≡ c → (c || has_mark xs) ≡ true → (has_mark xs ≡ true → (n : ℕ) × (slice_get xs n ≡ Some Mark)) →
        (n : ℕ) × (slice_get (x ∷ xs) n ≡ Some Mark)
    go true e q more = (0, ap Some (is x e))
    go false e q more = let t = more q in (suc t.0, t.1)

-- a queue without items is drained
empty_drained : (q : Queue Item) → ((m : ℕ) → item_at q m ≡ None) → is_drained q ≡ true
empty_drained q none = ap (λ n. nat_eq n 0) (len-entries q.items ∙ zero_by (entries q.items) (λ m. sym (get-entries q.items m) ∙ none m))
  where
    zero_by : (es : List (ℕ × Item)) → ((m : ℕ) → find nat_cmp m es ≡ None) → length es ≡ 0
    zero_by [] h = refl
    zero_by (e ∷ es) h = absurd (none-some e.1 (sym (h e.0) ∙
        ap (λ b. cond b (Some e.1) (find nat_cmp e.0 es)) (ap is_eq (tied_itself nat_cmp_total e.0))))

module _ (w : World) (b : Books) (g : Records) (law : Inv w b g) (quiet : IsQuiet w) (ranked : IsRanked w) (flagged : AreFlagged w)
    (wakers : HaveWakers w) (unread : GoneUnread w b) where
  links : LinkLaw w
  links = link_law w b g law

  -- who could go on under the lock of its link: a proxy that hasn't found the words used up, or a sink that is done
  abbrev IsEager : Router → Type 0
  IsEager r = ((is_proxy r ≡ true) × (r.dry ≡ false)) ⊎ (is_done r ≡ true)

  -- no such router is left on a central link: it could claim, lock, begin or retire, or has a waker
  not_central : (k : Key) (r : Router) → router_at w k ≡ Some r → IsEager r → HasAcross w b g law quiet ranked flagged k r → ⊥
  unfolding is_possible
  not_central k r here eager h = go r.tried refl eager
    where
      may : is_possible r acts.Claim ≡ false → is_possible r acts.Lock ≡ false → r.marked ≡ true → is_on_central r ≡ true →
          decays r ≡ false → is_proxy r ≡ true →
          r.dry ≡ false → r.holds ≡ false → (o : Option ℕ) → r.spare ≡ o → r.tried ≡ false → ⊥
      may a c m z d p y f None e t = grind (arith, a, m, z, d, y, f, e, t, p)
      may a c m z d p y f (Some j) e t = no (is_leaving r && not r.holds) m z d p y f e t c
        where
          no : (x : Bool) → r.marked ≡ true → is_on_central r ≡ true → decays r ≡ false → is_proxy r ≡ true → r.dry ≡ false →
              r.holds ≡ false → r.spare ≡ Some j → r.tried ≡ false → ((is_ready r && (is_some r.spare && not r.holds)) || x) ≡ false → ⊥
          no x m z d p y f e t c = grind (arith, m, z, d, p, y, f, e, t, c)

      lets : is_possible r acts.Lock ≡ false → r.marked ≡ true → is_on_central r ≡ true → decays r ≡ false → is_done r ≡ true →
          r.holds ≡ false → r.tried ≡ false → ⊥
      lets c m z d s f t = no (is_ready r && (is_some r.spare && not r.holds)) (is_done r) (is_on_central r) r.marked (decays r) r.tried
          r.holds c s z m d t f
        where
          no : (x s z m d t f : Bool) → (x || ((s && (z && (m && (not d && not t)))) && not f)) ≡ false → s ≡ true → z ≡ true → m ≡ true →
              d ≡ false → t ≡ false → f ≡ false → ⊥
          no x s z m d t f h a c e i j l = grind (arith, h, a, c, e, i, j, l)

      wakes : (z : Router) → is_possible z acts.Wake ≡ false → z.wake_owed ≡ true → is_on_central z ≡ true → ⊥
      wakes z h a c = grind (arith, h, a, c)

      waker : HasWaker w h.word h.side k.node → ⊥
      waker (inl held) = not_both h.router.holds (links.holds h.key h.router h.word (opposite h.side) h.here h.on ∙ held)
          (free w b g law quiet ranked flagged h.key h.router h.here)
      waker (inr (inl f)) = nothing-moves w quiet f.from k.node f.place (messages.Flush (Central h.word) h.side) f.under_way
      waker (inr (inr (inl p))) = not_both (is_possible p.router acts.Lock) p.passes
          (idle w b g law quiet ranked flagged p.key p.router acts.Lock p.here)
      waker (inr (inr (inr (waits, inl unstable)))) = not_both h.router.marked
          (marked w b g law quiet ranked flagged h.word (opposite h.side) h.key h.router h.here h.on)
          (links.marked h.key h.router h.word (opposite h.side) h.here h.on ∙ unstable)
      waker (inr (inr (inr (waits, inr p)))) = wakes p.router (idle w b g law quiet ranked flagged p.key p.router acts.Wake p.here) p.passes
          (ap is_some (on-central h.word (opposite h.side) p.router p.on))

      own_mark : r.marked ≡ true
      own_mark = marked w b g law quiet ranked flagged h.word h.side k r here h.own

      own_link : is_on_central r ≡ true
      own_link = ap is_some (on-central h.word h.side r h.own)

      go : (t : Bool) → r.tried ≡ t → IsEager r → ⊥
      go true e m = waker (wakers h.word k r h.side here e h.own)
      go false e (inl m) = may (idle w b g law quiet ranked flagged k r acts.Claim here) (idle w b g law quiet ranked flagged k r acts.Lock here)
          own_mark own_link (calm w b g law quiet ranked flagged k r here) m.0 m.1 (free w b g law quiet ranked flagged k r here) r.spare refl e
      go false e (inr m) = lets (idle w b g law quiet ranked flagged k r acts.Lock here) own_mark own_link
          (calm w b g law quiet ranked flagged k r here) m (free w b g law quiet ranked flagged k r here) e

  -- no sink stands on a central link that has dropped the mark: all that it has put was sent
  pub central_undone : (k : Key) (r : Router) → router_at w k ≡ Some r → is_terminal r ≡ true → r.closed ≡ true → r.mark_dropped ≡ true →
      is_on_central r ≡ true → ⊥
  unfolding word_of
  central_undone k r here terminal closed dropped on = elim (outer_router w b g law quiet ranked flagged k r p.0 here p.1) [
    | inl h ↦ not_peripheral r h.node h.serial h.own on
    | inr h ↦ elim h [
      | inl a ↦ not_central k r here (inr done) a
      | inr gone ↦ stayer_gone w b g law quiet ranked flagged unread k r here (none_begun w b g law quiet ranked flagged k r here) gone
    ]
  ]
    where
      p : (p : LinkEnd) × (r.outward.primary ≡ Some p)
      p = some_is r.outward.primary (primed r ((law.shape k r here).role) (none_begun w b g law quiet ranked flagged k r here))

      done : is_done r ≡ true
      done = all (is_terminal r) r.closed r.mark_dropped (is_drained r.out_queue) terminal closed dropped
          (empty_drained r.out_queue (λ m. out-delivered w b g k r law flagged quiet here terminal m))
        where
          all : (a c d e : Bool) → a ≡ true → c ≡ true → d ≡ true → e ≡ true → ((a && c) && (d && e)) ≡ true
          all a c d e x y z v = rw (x, y, z, v) refl

      not_peripheral : (z : Router) (n s : ℕ) → has_primary (Peripheral n s) B z ≡ true → is_on_central z ≡ true → ⊥
      not_peripheral z n s a c =
          let t = has_link-tells z.outward.primary (Peripheral n s) B a in
          let no : is_on_central z ≡ false = ap (λ o. is_some (word_of o)) t.there ∙ of_link t.end t.on_link in
          let odd : false ≡ true = sym no ∙ c in cc
        where
          of_link : (e : LinkEnd) → e.link ≡ Peripheral n s → is_some (word_of (Some e)) ≡ false
          of_link e q = rw q refl

  -- so each proxy on a central link has
  pub central_dry : (k : Key) (r : Router) → router_at w k ≡ Some r → is_proxy r ≡ true → is_on_central r ≡ true → r.dry ≡ true
  unfolding word_of
  central_dry k r here proxy on = go r.dry refl
    where
      p : (p : LinkEnd) × (r.outward.primary ≡ Some p)
      p = some_is r.outward.primary (primed r ((law.shape k r here).role) (none_begun w b g law quiet ranked flagged k r here))

      go : (t : Bool) → r.dry ≡ t → r.dry ≡ true
      go true e = e
      go false e = elim (outer_router w b g law quiet ranked flagged k r p.0 here p.1) [
        | inl h ↦ absurd (not_peripheral r h.node h.serial h.own on)
        | inr h ↦ elim h [
          | inl a ↦ absurd (not_central k r here (inl (proxy, e)) a)
          | inr gone ↦ absurd (stayer_gone w b g law quiet ranked flagged unread k r here (none_begun w b g law quiet ranked flagged k r here) gone)
        ]
      ]
        where
          not_peripheral : (z : Router) (n s : ℕ) → has_primary (Peripheral n s) B z ≡ true → is_on_central z ≡ true → ⊥
          not_peripheral z n s a c =
              let t = has_link-tells z.outward.primary (Peripheral n s) B a in
              let no : is_on_central z ≡ false = ap (λ o. is_some (word_of o)) t.there ∙ of_link t.end t.on_link in
              let odd : false ≡ true = sym no ∙ c in cc
            where
              of_link : (e : LinkEnd) → e.link ≡ Peripheral n s → is_some (word_of (Some e)) ≡ false
              of_link e q = rw q refl

module _ (w : World) (b : Books) (g : Records) (law : Inv w b g) (quiet : IsQuiet w) (ranked : IsRanked w) (flagged : AreFlagged w)
    (wakers : HaveWakers w) (unread : GoneUnread w b) (wet : IsWet w) where
  -- if no router has found the words used up, none is left anywhere
  no_proxy_below : (n : ℕ) (k : Key) (r : Router) → router_at w k ≡ Some r → is_proxy r ≡ true → ranked.rank k < n → ⊥
  no_proxy_below zero k r here proxy l = omega (arith, l)
  no_proxy_below (suc n) k r here proxy l =
      go (outer_router w b g law quiet ranked flagged k r p.0 here p.1) (λ q z at is low. no_proxy_below n q z at is low)
    where
      p : (p : LinkEnd) × (r.outward.primary ≡ Some p)
      p = some_is r.outward.primary (primed r ((law.shape k r here).role) (none_begun w b g law quiet ranked flagged k r here))

      go : HasOuter w b g law quiet ranked flagged k r ⊎
          (HasAcross w b g law quiet ranked flagged k r ⊎ (is_retired b (opposite_end r.end) ≡ true)) → ((q : Key) (z : Router) → router_at w q ≡ Some z → is_proxy z ≡ true → ranked.rank q < n → ⊥) → ⊥
      go (inl h) more = more h.key h.router h.here (inward_proxy h.router (Peripheral h.node h.serial) h.on) (omega (arith, l, h.lower))
      go (inr (inl h)) more = not_central w b g law quiet ranked flagged wakers unread k r here (inl (proxy, wet k r here)) h
      go (inr (inr gone)) more = stayer_gone w b g law quiet ranked flagged unread k r here (none_begun w b g law quiet ranked flagged k r here) gone

  pub no_proxies : (k : Key) (r : Router) → router_at w k ≡ Some r → is_terminal r ≡ true
  no_proxies k r here = go (is_terminal r) refl
    where
      go : (c : Bool) → is_terminal r ≡ c → is_terminal r ≡ true
      go true e = e
      go false e = absurd (no_proxy_below (ranked.rank k + 1) k r here (proxy_is r e) (omega arith))
        where
          proxy_is : (r : Router) → is_terminal r ≡ false → is_proxy r ≡ true
          proxy_is r e = grind (arith, e)

  -- a pair's terminal that stands, and the one across from it
  terminal_on : (pair : ℕ) (s : Side) (k : Key) → g.terminal (end_at pair s) ≡ At k →
      (i : ℕ) × IsTerminalOn w pair i s × IsTerminalOn w pair i (opposite s)
  terminal_on pair s k at = go (outer_router w b g law quiet ranked flagged k t.0 p.0 t.1 p.1)
    where
      t : (r : Router) × (router_at w k ≡ Some r) × ((is_terminal r && same_end r.end (end_at pair s)) ≡ true)
      t = passes_tells w k (λ r. is_terminal r && same_end r.end (end_at pair s)) (law.terminals.stands (end_at pair s) k at)

      end : t.0.end ≡ end_at pair s
      end = same_end-tells t.0.end (end_at pair s) (and_second (is_terminal t.0) (same_end t.0.end (end_at pair s)) t.2)

      p : (p : LinkEnd) × (t.0.outward.primary ≡ Some p)
      p = some_is t.0.outward.primary (primed t.0 ((law.shape k t.0 t.1).role) (none_begun w b g law quiet ranked flagged k t.0 t.1))

      go : HasOuter w b g law quiet ranked flagged k t.0 ⊎
          (HasAcross w b g law quiet ranked flagged k t.0 ⊎ (is_retired b (opposite_end t.0.end) ≡ true)) →
          (i : ℕ) × IsTerminalOn w pair i s × IsTerminalOn w pair i (opposite s)
      go (inl h) = absurd (not_both (is_proxy h.router) (inward_proxy h.router (Peripheral h.node h.serial) h.on)
          (terminal_not h.router (no_proxies h.key h.router h.here)))
        where
          terminal_not : (z : Router) → is_terminal z ≡ true → is_proxy z ≡ false
          terminal_not z e = grind (arith, e)
      go (inr (inr gone)) = absurd (stayer_gone w b g law quiet ranked flagged unread k t.0 t.1 (none_begun w b g law quiet ranked flagged k t.0 t.1) gone)
      go (inr (inl h)) = (
        h.word,
        record {
          key = k;
          router = t.0;
          here = t.1;
          end = end;
          terminal = no_proxies k t.0 t.1;
          on = subst (λ z. has_primary (Central h.word) z t.0 ≡ true) side h.own;
          still = still w b g law quiet ranked flagged k t.0 t.1 (none_begun w b g law quiet ranked flagged k t.0 t.1);
        },
        record {
          key = h.key;
          router = h.router;
          here = h.here;
          end = h.end ∙ ap opposite_end end;
          terminal = no_proxies h.key h.router h.here;
          on = subst (λ z. has_primary (Central h.word) (opposite z) h.router ≡ true) side h.on;
          still = still w b g law quiet ranked flagged h.key h.router h.here
              (none_begun w b g law quiet ranked flagged h.key h.router h.here);
        },
      )
        where
          side : h.side ≡ s
          side = ap (λ (e : End). e.side) (sym h.own_end ∙ end)

  -- so its route is direct
  pub direct_from : (pair : ℕ) (s : Side) (k : Key) → g.terminal (end_at pair s) ≡ At k → IsDirectPair w pair
  direct_from pair s k at = record {
    word = (terminal_on pair s k at).0;
    stands = stands;
    only = λ q r here p.
        let x = stands r.end.side in
        let ends : r.end ≡ x.router.end = ap (λ z. end_at z r.end.side) p ∙ sym x.end in
        same_Some q x.key (ap key_of (sym ((law.terminals.each q r here).terminal (no_proxies q r here)) ∙ ap g.terminal ends ∙
        (law.terminals.each x.key x.router x.here).terminal x.terminal));
  }
    where
      stands : (z : Side) → IsTerminalOn w pair (terminal_on pair s k at).0 z
      stands z = elim (side_is z s) [
        | inl e ↦ subst (IsTerminalOn w pair (terminal_on pair s k at).0) (sym e.1) (terminal_on pair s k at).1
        | inr e ↦ subst (IsTerminalOn w pair (terminal_on pair s k at).0) (sym e.1) (terminal_on pair s k at).2
      ]

  free_word : (pair : ℕ) (route : IsDirectPair w pair) → is_free (word_at w route.word) ≡ true
  free_word pair route = go (stable A) (stable B) (unheld A) (unheld B)
    where
      stable : (s : Side) → has (word_at w route.word).stable s ≡ true
      stable s = let x = route.stands s in
          sym ((links w b g law quiet ranked flagged wakers unread).marked x.key x.router route.word s x.here x.on)
          ∙ marked w b g law quiet ranked flagged route.word s x.key x.router x.here x.on

      unheld : (s : Side) → has (word_at w route.word).holder s ≡ false
      unheld s = let x = route.stands s in
          sym ((links w b g law quiet ranked flagged wakers unread).holds x.key x.router route.word s x.here x.on) ∙ free w b g law quiet ranked flagged x.key x.router x.here

      go : has (word_at w route.word).stable A ≡ true → has (word_at w route.word).stable B ≡ true →
          has (word_at w route.word).holder A ≡ false → has (word_at w route.word).holder B ≡ false → is_free (word_at w route.word) ≡ true
      go a c d e = grind (arith, a, c, d, e)

  -- what an end's peer hasn't read stands at the peer's terminal
  all_there : (k : Key) (r : Router) (h : ℕ → Item → ℕ) → router_at w k ≡ Some r → total h r.in_queue.items ≡ unread_weight h b
      (opposite_end r.end)
  all_there k r h here = omega (
    arith,
    places-remove_router f g w k r (law.counts.on_node k r here) here,
    bare,
    in_router-is f r,
    outs k r here,
    ap (λ c. total (λ n x. cond c (h n x) 0) r.in_queue.items) (same_end-itself d),
  ) ∙ law.conserved.exact d h
    where
      d : End
      d = opposite_end r.end

      f : Weight
      f = at_end d h

      v : World
      v = remove_router w k

      same : SameButRouter w v k None
      same = remove-router w k r here

      -- what a terminal was given it has sent
      outs : (q : Key) (y : Router) → router_at w q ≡ Some y → total (f y.end) y.out_queue.items ≡ 0
      outs q y at = total-zero (f y.end) y.out_queue.items
          (λ m z i. absurd (none-some z (sym (out-delivered w b g q y law flagged quiet at (no_proxies q y at) m) ∙ i)))

      nothing_under_way : under_way (λ from to m. in_message f g m) v ≡ 0
      nothing_under_way = none (under_way (λ from to m. in_message f g m) v) refl
        where
          none : (a : ℕ) → under_way (λ from to m. in_message f g m) v ≡ a → under_way (λ from to m. in_message f g m) v ≡ 0
          none zero e = e
          none (suc a) e = let t = found (λ from to m. in_message f g m) v (omega (arith, e)) in
              absurd (nothing-moves w quiet t.0 t.1 t.2 t.3 (record {
                sender = subst (λ c. t.0 < c) same.count t.4.sender;
                receiver = subst (λ c. t.1 < c) same.count t.4.receiver;
                place = ap (λ ms. slice_get ms t.2) (sym (same.flows t.0 t.1)) ∙ t.4.place;
              }))

      others : (q : Key) (y : Router) → router_at v q ≡ Some y → in_router f y ≡ 0
      others q y at = elim (same_key_tells q k) [
        | inl e ↦ absurd (none-some y (sym (same.routers q ∙ ap (λ c. cond c None (router_at w q)) e.0) ∙ at))
        | inr e ↦ other e.1 (sym (same.routers q ∙ ap (λ c. cond c None (router_at w q)) e.0) ∙ at)
      ]
        where
          other : (q ≡ k → ⊥) → router_at w q ≡ Some y → in_router f y ≡ 0
          other apart is = in_router-is f y ∙ omega (arith, outs q y is, inn (same_end (opposite_end y.end) d) refl)
            where
              inn : (c : Bool) → same_end (opposite_end y.end) d ≡ c → total (f (opposite_end y.end)) y.in_queue.items ≡ 0
              inn false e = total-zero (f (opposite_end y.end)) y.in_queue.items (λ m z i. ap (λ c. cond c (h m z) 0) e)
              inn true e =
                  let ends : y.end ≡ r.end = sym (opposite_end-twice y.end) ∙ ap opposite_end (same_end-tells (opposite_end y.end) d e) ∙
                  opposite_end-twice r.end in
                  absurd (apart (same_Some q k (ap key_of (sym ((law.terminals.each q y is).terminal (no_proxies q y is)) ∙
                  ap g.terminal ends ∙
                  (law.terminals.each k r here).terminal (no_proxies k r here)))))

      node_bare : (j : ℕ) → in_node f g (node_at v j) ≡ 0
      node_bare j = in_node-is f g (node_at v j) ∙ omega (
        arith,
        total-zero (λ s y. in_router f y) (node_at v j).routers
            (λ s y at. others (record { node = j; serial = s }) y (router-is v j s ∙ at)),
        ap (total_list (in_message f g)) ((same.nodes j).strays ∙ law.no_strays j),
      )

      bare : in_places f g v ≡ 0
      bare = in_places-is f g v ∙ omega (
        arith,
        nothing_under_way,
        total_below-zero v.count (λ j. in_node f g (node_at v j)) (λ j l. node_bare j),
      )

  pub is_direct : (pair : ℕ) → IsDirectPair w pair → IsDirect w b pair
  is_direct pair route = record {
    route = route;
    free = free_word pair route;
    delivered = λ s h. let x = route.stands s in
        all_there x.key x.router h x.here ∙ ap (λ e. unread_weight h b (opposite_end e)) x.end;
  }

  -- each open pair is direct of which an end isn't closed
  pub pair_direct : (pair : ℕ) (s : Side) → is_linked (g.owner pair) ≡ true → (g.central pair).pair ≡ pair →
      is_closed b (end_at pair s) ≡ false → IsDirect w b pair
  unfolding side_end is_recorded is_nowhere move_weight
  pair_direct pair s linked own open_ = go (g.terminal (end_at pair s)) refl
    where
      opened : is_nowhere (g.terminal (end_at pair s)) ≡ false
      opened = ap (λ z. is_nowhere (g.terminal (end_at z s))) (sym own) ∙ law.terminals.link_opened (Central pair) s linked

      gone : g.terminal (end_at pair s) ≡ Retired → (c : Bool) → is_retired b (end_at pair s) ≡ c → ⊥
      gone e true f = not_both (is_closed b (end_at pair s)) (law.books_kept.retired_closed (end_at pair s) f) open_
      gone e false f = not_both (is_closed b (end_at pair s))
          (ap (is_closed b) (sym (opposite_end-twice (end_at pair s)))
          ∙ law.retired_ends.peer_closed (opposite_end (end_at pair s)) (law.retired_ends.gone_read (end_at pair s) e f).0) open_

      go : (t : Terminal) → g.terminal (end_at pair s) ≡ t → IsDirect w b pair
      go (At k) e = is_direct pair (direct_from pair s k e)
      go Nowhere e = absurd (not_both (is_nowhere (g.terminal (end_at pair s))) (ap is_nowhere e) opened)
      go Retired e = absurd (gone e (is_retired b (end_at pair s)) refl)
      go (Moving d) e =
          let weight = law.moves.one (end_at pair s) (λ x. 1) ∙ ap (move_weight (λ x. 1)) e in
          let t = found (λ from to m. total_list (of_end (end_at pair s) (λ x. 1)) (moves_of m)) w (omega (arith, weight)) in
          absurd (nothing-moves w quiet t.0 t.1 t.2 t.3 t.4)

  -- no router is left of a pair with both ends closed: a sink that has read all would lock and retire
  pub none_closed : (k : Key) (r : Router) → router_at w k ≡ Some r → is_closed b r.end ≡ true → is_closed b (opposite_end r.end) ≡ true → ⊥
  none_closed k r here closed other = go (outer_router w b g law quiet ranked flagged k r p.0 here p.1)
    where
      terminal : is_terminal r ≡ true
      terminal = no_proxies k r here

      p : (p : LinkEnd) × (r.outward.primary ≡ Some p)
      p = some_is r.outward.primary (primed r ((law.shape k r here).role) (none_begun w b g law quiet ranked flagged k r here))

      sink : r.closed ≡ true
      sink = law.conserved.sink k r here terminal ∙ closed

      mark : (n : ℕ) × (slice_get (b.put (opposite_end r.end)) n ≡ Some Mark)
      mark = mark_at (b.put (opposite_end r.end)) other

      dropped : r.mark_dropped ≡ true
      dropped = law.gones.dropped_back k r mark.0 here terminal mark.1
          (omega (
            arith,
            slice_get_within (b.put (opposite_end r.end)) mark.0 Mark mark.1,
            law.conserved.current k r here terminal,
            sink_read w b g law quiet ranked flagged k r here terminal closed,
          )) sink

      drained : is_drained r.out_queue ≡ true
      drained = empty_drained r.out_queue (λ m. out-delivered w b g k r law flagged quiet here terminal m)

      done : is_done r ≡ true
      done = all (is_terminal r) r.closed r.mark_dropped (is_drained r.out_queue) terminal sink dropped drained
        where
          all : (a c d e : Bool) → a ≡ true → c ≡ true → d ≡ true → e ≡ true → ((a && c) && (d && e)) ≡ true
          all a c d e x y z v = rw (x, y, z, v) refl

      go : HasOuter w b g law quiet ranked flagged k r ⊎
          (HasAcross w b g law quiet ranked flagged k r ⊎ (is_retired b (opposite_end r.end) ≡ true)) → ⊥
      go (inl h) = not_both (is_proxy h.router) (inward_proxy h.router (Peripheral h.node h.serial) h.on)
          (terminal_not h.router (no_proxies h.key h.router h.here))
        where
          terminal_not : (z : Router) → is_terminal z ≡ true → is_proxy z ≡ false
          terminal_not z e = grind (arith, e)
      go (inr (inl h)) = not_central w b g law quiet ranked flagged wakers unread k r here (inr done) h
      go (inr (inr gone)) = stayer_gone w b g law quiet ranked flagged unread k r here (none_begun w b g law quiet ranked flagged k r here) gone
