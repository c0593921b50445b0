-- The rank of a quiet world: what stays with its terminals, what its proxies keep, and their shares of what is put. A quiet world can do no
-- more than pass items.
use Rattle.std.specs.Prelude.{◌≡◌, ◌≤◌, ◌<◌, ℕ, zero, suc, ◌+◌, ◌*◌, ◌-◌, Bool, true, false, not, cond, ◌&&◌, ◌||◌, nat_eq, Option, Some, None}
use Rattle.std.specs.Prelude.{is_some, is_none, T, List, [], ◌∷◌, ◌++◌, length, slice_get, refl}
use Rattle.std.proofs.Common.{arith, ap, subst, ◌∙◌, sym, inl, inr}
use Rattle.std.proofs.lemmas.Bool.Decides.{nat_tests}
use Rattle.std.proofs.lemmas.Option.{none-some, same_Some, slice_get_within}
use Rattle.std.specs.Ordering.{nat_cmp, eq_by_cmp, is_eq}
use Rattle.std.specs.Cmp.{nat_cmp_total, tied_itself}
use Rattle.std.specs.FinMap.{FinMap, get, find, entries, entries_sorted, get-entries, is_sorted}
use Rattle.std.specs.FinMap.Entries.{below_all}
use Rattle.ipcz_base.specs.Totals.{total_of}
use Rattle.ipcz_world.proofs.Vocabulary.{A, B, End, Side, Message, opposite, opposite_end, same_end, same_side, total, total_list, place_at, Router}
use Rattle.ipcz_world.proofs.Vocabulary.{Node, Edge, is_terminal, is_possible, inward_edge, bare_node, World, Key, node_at, mail_at, router_at, Books}
use Rattle.ipcz_world.proofs.Vocabulary.{Item, is_closed, is_mark, is_gone_item, Parcel, Mark, Gone, edge_decays, reach, is_proxy, is_on_central}
use Rattle.ipcz_world.proofs.Vocabulary.{decays, next_number, flagged_router, is_quiet, are_empty, Mail, add_put, has_mark, Routes, is_clear, IsQuiet}
use Rattle.ipcz_world.proofs.Vocabulary.{Lawful, is_begun_router, Rates, worth, router_worth, node_worth, rank}
use Rattle.ipcz_router.specs.declared.act.RouterAct.TheVariants as acts
use Rattle.ipcz_world.specs.declared.mail.Mail.TheVariants as mails
use Rattle.ipcz_world.specs.Ranks.{worth_left, is_unbegun, bypass_worth, sink_worth, box_worth, mail_worth}
use Rattle.ipcz_world.specs.PutBounds.{router_stays, node_stays, stays, pending_closes, PlainPut, plain_parcel, after_put, ArePuts, puts_into, proxy_share}
use Rattle.ipcz_world.specs.PutBounds.{proxy_shares}
use Rattle.ipcz_world.proofs.facts.Finding.{find_above, found_there}
use Rattle.ipcz_world.proofs.facts.LinkTests.{opposite_end-twice, same_end-tells}
use Rattle.ipcz_world.proofs.facts.Reaching.{is_reach, reach_one, left, right}
use Rattle.ipcz_world.proofs.facts.Tests.{and_first, and_second, nat_eq-is, none_is}
use Rattle.ipcz_world.proofs.lawful.Quiet.{choose-some, out-delivered, total-zero}
use Rattle.ipcz_world.proofs.lawful.QuietRoutes.{inward_lacks, outward_lacks}
use Rattle.ipcz_world.proofs.lawful.QuietDelivery.{primed, free, idle, out_stuck, in_stuck, lacked_given, none_begun, calm, closed_read, stayer_gone}
use Rattle.ipcz_world.proofs.frames.Booking.{length-more, has_mark-more}
use Rattle.ipcz_world.proofs.frames.Flowing.{slice_get-last}
use Rattle.ipcz_world.proofs.facts.Drained.{gone_found}
use Rattle.ipcz_world.proofs.lawful.RouterWorths.{worth-most}
use Rattle.ipcz_world.proofs.lawful.QuietDirect.{central_dry, central_undone}
use Rattle.ipcz_world.proofs.lawful.CalmRouters.{is_calm, lesser, router_keeps}
use Rattle.ipcz_world.proofs.lawful.CalmNodes.{message_stir, router_stir, node_stir, node_keeps}
use Rattle.ipcz_world.proofs.lawful.CalmWorlds.{mail_stir, stir, keeps, IsDull}

-- totals of what is no more than three others together
three-of : (h k l m : Router → ℕ) (es : List (ℕ × Router)) → T (is_sorted nat_cmp es) →
    ((s : ℕ) (r : Router) → find nat_cmp s es ≡ Some r → h r ≤ k r + (l r + m r)) →
    total_of (λ s r. h r) es ≤ total_of (λ s r. k r) es + (total_of (λ s r. l r) es + total_of (λ s r. m r) es)
three-of h k l m [] sorted less = omega arith
three-of h k l m (e ∷ es) sorted less = omega (
  arith,
  less e.0 e.1 here,
  three-of h k l m es (right (below_all nat_cmp e.0 es) (is_sorted nat_cmp es) sorted) (λ s r p. less s r (later s r p)),
)
  where
    here : cond (eq_by_cmp nat_cmp e.0 e.0) (Some e.1) (find nat_cmp e.0 es) ≡ Some e.1
    here = ap (λ b. cond b (Some e.1) (find nat_cmp e.0 es)) (ap is_eq (tied_itself nat_cmp_total e.0))

    later : (s : ℕ) (r : Router) → find nat_cmp s es ≡ Some r → cond (eq_by_cmp nat_cmp s e.0) (Some e.1) (find nat_cmp s es) ≡ Some r
    later s r p =
        let above : e.0 < s = find_above e.0 s r es (left (below_all nat_cmp e.0 es) (is_sorted nat_cmp es) sorted) p in
        let apart : eq_by_cmp nat_cmp s e.0 ≡ false = grind (arith, above, nat_tests) in
        ap (λ b. cond b (Some e.1) (find nat_cmp s es)) apart ∙ p

total-three : (h k l m : Router → ℕ) (rs : FinMap nat_cmp Router) → ((s : ℕ) (r : Router) → get rs s ≡ Some r → h r ≤ k r + (l r + m r)) →
    total (λ s r. h r) rs ≤ total (λ s r. k r) rs + (total (λ s r. l r) rs + total (λ s r. m r) rs)
unfolding total
total-three h k l m rs less = three-of h k l m (entries rs) (entries_sorted rs) (λ s r p. less s r (get-entries rs s ∙ p))

list-three : {X : Type 0} (h k l m : X → ℕ) (xs : List X) → ((i : ℕ) (x : X) → slice_get xs i ≡ Some x → h x ≤ k x + (l x + m x)) →
    total_list h xs ≤ total_list k xs + (total_list l xs + total_list m xs)
list-three h k l m [] less = omega arith
list-three h k l m (x ∷ xs) less = omega (arith, less 0 x refl, list-three h k l m xs (λ i y e. less (suc i) y e))

pub list-none : {X : Type 0} (h : X → ℕ) (xs : List X) → ((i : ℕ) (x : X) → slice_get xs i ≡ Some x → h x ≡ 0) → total_list h xs ≡ 0
list-none h [] none = refl
list-none h (x ∷ xs) none = omega (arith, none 0 x refl, list-none h xs (λ i y e. none (suc i) y e))

pub placed : {X : Type 0} (d : X) (xs : List X) (i : ℕ) (x : X) → slice_get xs i ≡ Some x → place_at d xs i ≡ x
unfolding place_at
placed d [] i x h = cc
placed d (y ∷ ys) zero x h = same_Some y x h
placed d (y ∷ ys) (suc i) x h = placed d ys i x h

-- how many of the puts are at an end
abbrev pub puts_at : End → List PlainPut → ℕ
puts_at e [] = 0
puts_at e (p ∷ ps) = worth 1 (same_end e p.at) + puts_at e ps

-- a put is at one end of its pair at most
one-end : (e d : End) → worth 1 (same_end e d) + worth 1 (same_end (opposite_end e) d) ≤ worth 1 (nat_eq d.pair e.pair)
one-end e d = go (nat_eq e.pair d.pair) refl e.side d.side
  where
    go : (t : Bool) → nat_eq e.pair d.pair ≡ t → (s u : Side) →
        worth 1 (nat_eq e.pair d.pair && same_side s u) + worth 1 (nat_eq e.pair d.pair && same_side (opposite s) u) ≤ worth 1 (nat_eq d.pair e.pair)
    go false q s u = rw q (omega arith)
    go true q A A = let k : nat_eq d.pair e.pair ≡ true = grind (arith, q, nat_tests) in rw (q, k) (omega arith)
    go true q A B = let k : nat_eq d.pair e.pair ≡ true = grind (arith, q, nat_tests) in rw (q, k) (omega arith)
    go true q B A = let k : nat_eq d.pair e.pair ≡ true = grind (arith, q, nat_tests) in rw (q, k) (omega arith)
    go true q B B = let k : nat_eq d.pair e.pair ≡ true = grind (arith, q, nat_tests) in rw (q, k) (omega arith)

puts-apart : (e : End) (ps : List PlainPut) → puts_at e ps + puts_at (opposite_end e) ps ≤ puts_into e.pair ps
puts-apart e [] = omega arith
puts-apart e (p ∷ ps) = omega (arith, one-end e p.at, puts-apart e ps)

-- what an end has put after them
pub puts-counted : (w u : World) (b d : Books) (e : End) (ps : List PlainPut) → ArePuts w b ps u d → length (d.put e) ≡ length (b.put e) + puts_at e ps
puts-counted w u b d e [] run = ap (λ (x : Books). length (x.put e)) run.1 ∙ omega arith
puts-counted w u b d e (p ∷ ps) run = omega (
  arith,
  puts-counted (after_put w p) u (add_put b p.at (Parcel (plain_parcel p))) d e ps run.1,
  more (same_end e p.at) refl,
)
  where
    more : (t : Bool) → same_end e p.at ≡ t →
        length (cond (same_end e p.at) (b.put p.at ++ Parcel (plain_parcel p) ∷ []) (b.put e)) ≡ length (b.put e) + worth 1 (same_end e p.at)
    more false q = rw q (omega arith)
    more true q =
        let same : length (b.put e) ≡ length (b.put p.at) = ap (λ x. length (b.put x)) (same_end-tells e p.at q) in
        rw q (omega (arith, same, length-more (b.put p.at) (Parcel (plain_parcel p))))

-- what is said of a quiet node
record IsQuietNode (n : Node) : Type 0 where
  boxes : are_empty n.outboxes ≡ true
  ends : length n.pending ≡ 0
  flags : flagged_router n ≡ None

quiet-node : (n : Node) → is_quiet n ≡ true → IsQuietNode n
unfolding is_quiet
quiet-node n h = record {
  boxes = and_first (are_empty n.outboxes) (nat_eq (length n.pending) 0 && (is_none n.hand && is_none (flagged_router n))) h;
  ends = nat_eq-is (length n.pending) 0 (and_first (nat_eq (length n.pending) 0) (is_none n.hand && is_none (flagged_router n)) rest);
  flags = none_is (flagged_router n) (and_second (is_none n.hand) (is_none (flagged_router n))
      (and_second (nat_eq (length n.pending) 0) (is_none n.hand && is_none (flagged_router n)) rest));
}
  where
    rest : (nat_eq (length n.pending) 0 && (is_none n.hand && is_none (flagged_router n))) ≡ true
    rest = and_second (are_empty n.outboxes) (nat_eq (length n.pending) 0 && (is_none n.hand && is_none (flagged_router n))) h

-- a router that has nothing to do
record IsStill (r : Router) : Type 0 where
  flagged : r.flagged ≡ false
  outward : edge_decays r.outward ≡ false
  inward : edge_decays (inward_edge r) ≡ false
  marked : (is_on_central r && not r.marked) ≡ false
  wake : r.wake_owed ≡ false

neither : (a b : Bool) → (a || b) ≡ false → (a ≡ false) × (b ≡ false)
neither true b h = cc
neither false b h = (refl, h)

module _ (w : World) (b : Books) (g : Routes) (law : Lawful w b g) (quiet : IsQuiet w) where
  quiet-still : (k : Key) (r : Router) → router_at w k ≡ Some r → IsStill r
  unfolding is_possible router_at
  quiet-still k r here = record {
    flagged = unflagged r.flagged refl;
    outward = calm_edges.0;
    inward = calm_edges.1;
    marked = no_mark (is_on_central r && not r.marked) refl;
    wake = no_wake r.wake_owed refl;
  }
    where
      off : decays r ≡ false
      off = calm w b law.records law.inv quiet law.ranked law.flagged k r here

      calm_edges : (edge_decays r.outward ≡ false) × (edge_decays (inward_edge r) ≡ false)
      calm_edges = neither (edge_decays r.outward) (edge_decays (inward_edge r)) off

      unflagged : (t : Bool) → r.flagged ≡ t → r.flagged ≡ false
      unflagged false e = e
      unflagged true e =
          let f = found_there (node_at w k.node) (λ x. x.flagged) k.serial r here e in
          let q = quiet-node (node_at w k.node) (quiet.nodes k.node (law.inv.counts.on_node k r here)) in
          absurd (none-some f.0 (sym q.flags ∙ f.1))

      no_mark : (t : Bool) → (is_on_central r && not r.marked) ≡ t → (is_on_central r && not r.marked) ≡ false
      no_mark false e = e
      no_mark true e = absurd (grind (arith, idle w b law.records law.inv quiet law.ranked law.flagged k r acts.Mark here, off, e))

      no_wake : (t : Bool) → r.wake_owed ≡ t → r.wake_owed ≡ false
      no_wake false e = e
      no_wake true e =
          let on : is_on_central r ≡ true = (law.inv.shape k r here).marked_central (law.agreed.wake k r here e) in
          absurd (grind (arith, idle w b law.records law.inv quiet law.ranked law.flagged k r acts.Wake here, on, e))

  -- a terminal has sent all
  sent-all : (k : Key) (r : Router) → router_at w k ≡ Some r → is_terminal r ≡ true → next_number r ≡ r.out_queue.current
  sent-all k r here t = reach_one r.out_queue (reach r.out_queue) r.out_queue.current (is_reach r.out_queue) (record {
    from = omega arith;
    absent = out-delivered w b law.records k r law.inv law.flagged quiet here t r.out_queue.current;
    filled = λ m x y. absurd (omega (arith, x, y));
  })

  -- what a proxy has still to pass wasn't put
  passed-all : (k : Key) (r : Router) → router_at w k ≡ Some r → is_proxy r ≡ true →
      (length (b.put r.end) ≤ r.out_queue.current) × (length (b.put (opposite_end r.end)) ≤ r.in_queue.current)
  passed-all k r here proxy = (
    elim (outward_lacks w b law.records law.inv quiet law.ranked law.flagged (law.ranked.rank k + 1) k r r.out_queue.current here first (omega arith)
        (record {
          current = omega arith;
          none = out_stuck w b law.records law.inv quiet law.ranked law.flagged k r here
              (choose-some r.outward r.out_queue.current first);
        })) [
          | inl lacked ↦ subst (λ e. length (b.put e) ≤ r.out_queue.current) (opposite_end-twice r.end)
              (lacked_given w b law.records law.inv quiet law.ranked law.flagged (opposite_end r.end) r.out_queue.current lacked)
          | inr gone ↦ absurd (stayer_gone w b law.records law.inv quiet law.ranked law.flagged law.unread k r here whole gone)
        ],
    lacked_given w b law.records law.inv quiet law.ranked law.flagged r.end r.in_queue.current
        (inward_lacks w b law.records law.inv quiet law.ranked law.flagged law.ranked.limit k r r.in_queue.current here whole (omega arith)
        (record {
          current = omega arith;
          none = in_stuck w b law.records law.inv quiet law.ranked law.flagged k r here
              (choose-some (inward_edge r) r.in_queue.current inner);
        })),
  )
    where
      whole : is_begun_router r ≡ false
      whole = none_begun w b law.records law.inv quiet law.ranked law.flagged k r here

      first : is_some r.outward.primary ≡ true
      first = primed r ((law.inv.shape k r here).role) whole

      inner : is_some (inward_edge r).primary ≡ true
      inner = by r proxy whole
        where
          by : (r : Router) → is_proxy r ≡ true → is_begun_router r ≡ false → is_some (inward_edge r).primary ≡ true
          by r p e = grind (arith, p, e)

  module _ (u : World) (d : Books) (ps : List PlainPut) (run : ArePuts w b ps u d) (c : Rates) (six : (pair : ℕ) → c.price pair ≡ 6)
      (marks : End → ℕ) (caps : (e : End) → c.cap e ≤ length (d.put e) + marks e) where
    cap-most : (e : End) → c.cap e ≤ length (b.put e) + puts_at e ps + marks e
    cap-most e = omega (arith, caps e, puts-counted w u b d e ps run)

    at-rest : (k : Key) (r : Router) → router_at w k ≡ Some r →
        router_worth c r ≤ router_stays c r + (router_keeps c marks r + proxy_share ps r)
    unfolding router_worth router_stays router_keeps proxy_share
    at-rest k r here = go r.inward refl
      where
        s : IsStill r
        s = quiet-still k r here

        go : (o : Option Edge) → r.inward ≡ o → router_worth c r ≤ router_stays c r + (router_keeps c marks r + proxy_share ps r)
        go None e =
            let t : is_terminal r ≡ true = ap is_none e in
            let next = sent-all k r here t in
            rw (e, next) (omega (arith, ap (λ x. worth 1 x) s.flagged, ap (λ x. worth 1 x) s.outward, ap (λ x. worth 7 x) s.marked, ap (λ x. worth 6 x) s.wake))
        go (Some x) e =
            let p : is_proxy r ≡ true = ap is_some e in
            let all = passed-all k r here p in
            let kept : ℕ = lesser (marks r.end) (c.cap r.end - r.out_queue.current) +
            lesser (marks (opposite_end r.end)) (c.cap (opposite_end r.end) - r.in_queue.current) in
            let left : worth_left c r.end r.out_queue.current r.in_queue.current ≤ 6 * (puts_into r.end.pair ps + kept) =
            rw (six r.end.pair) (omega (arith, cap-most r.end, cap-most (opposite_end r.end), all.0, all.1, puts-apart r.end ps)) in
            omega (
              arith,
              left,
              ap (λ t. cond t (6 * puts_into r.end.pair ps) 0) p,
              ap (λ t. cond t (6 * kept + (1 + cond (is_unbegun r) (bypass_worth r) 0)) (sink_worth r)) p,
              ap (λ o. cond (is_none o) (sink_worth r) 0) e,
              ap (λ z. worth 1 z) s.flagged,
              ap (λ z. worth 1 z) s.outward,
              ap (λ z. worth 1 z) s.inward,
              worth-most 1 (is_proxy r),
              ap (λ z. worth 7 z) s.marked,
              ap (λ z. worth 6 z) s.wake,
            )

    boxes-none : (boxes : List (List Message)) → are_empty boxes ≡ true → total_list (box_worth c) boxes ≡ 0
    boxes-none [] h = refl
    boxes-none ([] ∷ bs) h = omega (arith, boxes-none bs h)
    boxes-none ((m ∷ ms) ∷ bs) h = absurd (grind (arith, h, nat_tests))

    node-rest : (i : ℕ) (n : Node) → slice_get w.nodes i ≡ Some n →
        node_worth c n ≤ node_stays c n + (node_keeps c marks n + total (λ serial r. proxy_share ps r) n.routers)
    unfolding node_worth node_keeps router_at node_at
    node-rest i n at =
        let is : node_at w i ≡ n = placed (bare_node 0 0) w.nodes i n at in
        let l : i < w.count = omega (arith, slice_get_within w.nodes i n at, law.bounded.nodes) in
        let still : IsQuietNode n = quiet-node n (subst (λ x. is_quiet x ≡ true) is (quiet.nodes i l)) in
        omega (
          arith,
          still.ends,
          boxes-none n.outboxes still.boxes,
          total-three (router_worth c) (router_stays c) (router_keeps c marks) (proxy_share ps) n.routers
              (λ s r e. at-rest (record { node = i; serial = s }) r (ap (λ (x : Node). get x.routers s) is ∙ e)),
        )

    mail-none : (k : ℕ) (x : Mail) → slice_get w.mail k ≡ Some x → mail_worth c x ≡ 0
    unfolding mail_worth mail_at is_clear
    mail-none k x at = go x (ap is_clear (sym (placed mails.Empty w.mail k x at)) ∙ quiet.mail k)
      where
        go : (y : Mail) → is_clear y ≡ true → mail_worth c y ≡ 0
        go mails.Empty h = refl
        go (mails.Full m) h = cc
        go (mails.Hand m) h = cc

    -- what a quiet world's rank is, at rates that leave room for what will be put
    pub quiet-rank : rank c w ≤ stays c w + (keeps c marks w + proxy_shares ps w)
    unfolding rank stays keeps proxy_shares
    quiet-rank = omega (
      arith,
      list-three (node_worth c) (node_stays c) (node_keeps c marks) (λ n. total (λ serial r. proxy_share ps r) n.routers) w.nodes node-rest,
      list-none (mail_worth c) w.mail mail-none,
    )

  -- no close is pending
  pub quiet-pending : pending_closes w ≡ 0
  unfolding pending_closes node_at
  quiet-pending = list-none (λ n. length n.pending) w.nodes (λ i n at.
      let is : node_at w i ≡ n = placed (bare_node 0 0) w.nodes i n at in
      let l : i < w.count = omega (arith, slice_get_within w.nodes i n at, law.bounded.nodes) in
      (quiet-node n (subst (λ x. is_quiet x ≡ true) is (quiet.nodes i l))).ends)

  -- each router does no more than pass items
  quiet-calm : (k : Key) (r : Router) → router_at w k ≡ Some r → is_calm r ≡ true
  unfolding is_calm is_possible
  quiet-calm k r here = go r.inward refl
    where
      s : IsStill r
      s = quiet-still k r here

      off : decays r ≡ false
      off = calm w b law.records law.inv quiet law.ranked law.flagged k r here

      go : (o : Option Edge) → r.inward ≡ o → is_calm r ≡ true
      go None e = alone (is_on_central r) r.closed r.mark_dropped refl refl refl
        where
          terminal : is_terminal r ≡ true
          terminal = ap is_none e

          alone : (z c d : Bool) → is_on_central r ≡ z → r.closed ≡ c → r.mark_dropped ≡ d → is_calm r ≡ true
          alone true true true p q h = absurd (central_undone w b law.records law.inv quiet law.ranked law.flagged law.wakers law.unread k r here terminal q h p)
          alone true true false p q h = grind (arith, e, off, s.marked, s.wake, p, q, h)
          alone true false d p q h = grind (arith, e, off, s.marked, s.wake, p, q)
          alone false c d p q h = grind (arith, e, off, s.marked, s.wake, p)
      go (Some x) e =
          by (is_on_central r) refl (free w b law.records law.inv quiet law.ranked law.flagged k r here)
          (primed r ((law.inv.shape k r here).role) (none_begun w b law.records law.inv quiet law.ranked law.flagged k r here))
          (unsent r.gone_sent refl)
        where
          leaves : is_possible r acts.Leave ≡ false → is_proxy r ≡ true → r.gone_sent ≡ true → ⊥
          leaves h p s = grind (arith, h, p, s)

          unsent : (t : Bool) → r.gone_sent ≡ t → r.gone_sent ≡ false
          unsent false q = q
          unsent true q = absurd (leaves (idle w b law.records law.inv quiet law.ranked law.flagged k r acts.Leave here) (ap is_some e) q)

          by : (t : Bool) → is_on_central r ≡ t → r.holds ≡ false → is_some r.outward.primary ≡ true → r.gone_sent ≡ false → is_calm r ≡ true
          by false q f p u = grind (arith, e, off, s.marked, s.wake, q, f, p, u)
          by true q f p u =
              let dry = central_dry w b law.records law.inv quiet law.ranked law.flagged law.wakers law.unread k r here (ap is_some e) q in
              grind (arith, e, off, s.marked, s.wake, q, f, p, dry, u)

  still-boxes : (boxes : List (List Message)) → are_empty boxes ≡ true → total_list (total_list message_stir) boxes ≡ 0
  still-boxes [] h = refl
  still-boxes ([] ∷ bs) h = omega (arith, still-boxes bs h)
  still-boxes ((m ∷ ms) ∷ bs) h = absurd (grind (arith, h, nat_tests))

  still-node : (i : ℕ) (n : Node) → slice_get w.nodes i ≡ Some n → node_stir n ≡ 0
  unfolding node_stir router_at node_at
  still-node i n at =
      let is : node_at w i ≡ n = placed (bare_node 0 0) w.nodes i n at in
      let l : i < w.count = omega (arith, slice_get_within w.nodes i n at, law.bounded.nodes) in
      let quiet : IsQuietNode n = quiet-node n (subst (λ x. is_quiet x ≡ true) is (quiet.nodes i l)) in
      omega (
        arith,
        quiet.ends,
        still-boxes n.outboxes quiet.boxes,
        total-zero (λ s r. router_stir r) n.routers (λ s r e.
            ap (λ t. worth 1 (not t)) (quiet-calm (record { node = i; serial = s }) r (ap (λ (x : Node). get x.routers s) is ∙ e))),
      )

  still-mail : (k : ℕ) (x : Mail) → slice_get w.mail k ≡ Some x → mail_stir x ≡ 0
  unfolding mail_stir mail_at is_clear
  still-mail k x at = go x (ap is_clear (sym (placed mails.Empty w.mail k x at)) ∙ quiet.mail k)
    where
      go : (y : Mail) → is_clear y ≡ true → mail_stir y ≡ 0
      go mails.Empty h = refl
      go (mails.Full m) h = cc
      go (mails.Hand m) h = cc

  -- so nothing else is astir
  pub quiet-stir : stir w ≡ 0
  unfolding stir
  quiet-stir = omega (arith, list-none node_stir w.nodes still-node, list-none mail_stir w.mail still-mail)

  -- and what isn't read is no Gone, nor a mark for a closed end
  pub quiet-dull : IsDull b
  quiet-dull e n x unread put = (gone (is_gone_item x) refl, λ closed. absurd (read_on closed))
    where
      read_on : is_closed b (opposite_end e) ≡ true → ⊥
      read_on closed = omega (
        arith,
        unread,
        closed_read w b law.records law.inv quiet law.ranked law.flagged (opposite_end e) closed,
        ap (λ d. length (b.put d)) (opposite_end-twice e),
        slice_get_within (b.put e) n x put,
      )

      is : (y : Item) → is_gone_item y ≡ true → y ≡ Gone
      is (Parcel p) h = cc
      is Mark h = cc
      is Gone h = refl

      gone : (t : Bool) → is_gone_item x ≡ t → is_gone_item x ≡ false
      gone false h = h
      gone true h = absurd (read_on (law.inv.retired_ends.peer_closed e (gone_found (b.put e) n (put ∙ ap Some (is x h)))))

-- parcels keep it so
pub puts-dull : (w u : World) (b d : Books) (ps : List PlainPut) → IsDull b → ArePuts w b ps u d → IsDull d
puts-dull w u b d [] dull run = subst IsDull (sym run.1) dull
puts-dull w u b d (p ∷ ps) dull run = puts-dull (after_put w p) u (add_put b p.at (Parcel (plain_parcel p))) d ps now run.1
  where
    now : IsDull (add_put b p.at (Parcel (plain_parcel p)))
    now e n x unread put = go (same_end e p.at) refl put
      where
        older : is_closed (add_put b p.at (Parcel (plain_parcel p))) (opposite_end e) ≡ true → is_closed b (opposite_end e) ≡ true
        older h = by (same_end (opposite_end e) p.at) refl h
          where
            or-false : (a : Bool) → (a || false) ≡ a
            or-false true = refl
            or-false false = refl

            by : (t : Bool) → same_end (opposite_end e) p.at ≡ t →
                has_mark (cond t (b.put p.at ++ Parcel (plain_parcel p) ∷ []) (b.put (opposite_end e))) ≡ true → is_closed b (opposite_end e) ≡ true
            by false q h = h
            by true q h = ap (is_closed b) (same_end-tells (opposite_end e) p.at q) ∙
                sym (has_mark-more (b.put p.at) (Parcel (plain_parcel p)) ∙ or-false (has_mark (b.put p.at))) ∙ h

        go : (t : Bool) → same_end e p.at ≡ t → slice_get (cond t (b.put p.at ++ Parcel (plain_parcel p) ∷ []) (b.put e)) n ≡ Some x →
            (is_gone_item x ≡ false) × (is_closed (add_put b p.at (Parcel (plain_parcel p))) (opposite_end e) ≡ true → is_mark x ≡ false)
        go false q h = let d = dull e n x unread h in (d.0, λ k. d.1 (older k))
        go true q h = let is : e ≡ p.at = same_end-tells e p.at q in
            elim (slice_get-last (b.put p.at) (Parcel (plain_parcel p)) x n h) [
              | inl k ↦ let d = dull e n x unread (ap (λ z. slice_get (b.put z) n) is ∙ k) in (d.0, λ c. d.1 (older c))
              | inr k ↦ (ap is_gone_item k.1, λ c. ap is_mark k.1)
            ]
