-- Routers that do nothing but pass items: they take no act of a bypass, and keep what the rank holds for it.
use Rattle.std.specs.Prelude.{◌≡◌, ◌≤◌, ℕ, ◌+◌, ◌*◌, ◌-◌, Bool, true, false, not, cond, if◌then◌else◌, ◌&&◌, ◌||◌, Option, Some, None, is_some, is_none, refl}
use Rattle.std.proofs.Common.{arith, ap, inl, inr}
use Rattle.ipcz_base.specs.declared.item.Item.{Item}
use Rattle.ipcz_base.specs.Ends.{opposite_end}
use Rattle.ipcz_world.proofs.Vocabulary.{End, is_proxy, is_on_central, decays, pop_out, send_on, drop_item, has_gone_next, item_passes, rest, is_mark}
use Rattle.ipcz_world.proofs.Vocabulary.{is_done, may_take, is_rest, accept, Rates, router_worth}
use Rattle.ipcz_edge.specs.Edge.{Edge, can_finish}
use Rattle.ipcz_router.specs.Router.{Router, is_terminal, has_no_link, rouse}
use Rattle.ipcz_base.specs.declared.link_end.LinkEnd.{LinkEnd}
use Rattle.ipcz_seq.specs.Queue.{current_item, is_drained}
use Rattle.ipcz_world.proofs.facts.Tests.{and_first, and_second, not_both}
use Rattle.ipcz_world.proofs.lawful.Following.{IsAble, able-tells}
use Rattle.ipcz_router.specs.ActTable.{is_possible, is_ready}
use Rattle.ipcz_router.specs.Calls.{put_item}
use Rattle.ipcz_router.specs.declared.act.RouterAct.{RouterAct}
use Rattle.ipcz_router.specs.declared.act.RouterAct.TheVariants as acts
use Rattle.ipcz_world.specs.Ranks.{worth_left, is_unbegun, bypass_worth, sink_worth}
use Rattle.ipcz_world.specs.PutBounds.{router_stays}
use Rattle.ipcz_world.proofs.lawful.RouterStays.{stays-left, proxy-stays}
use Rattle.ipcz_world.proofs.lawful.RouterWorths.{worth-most}

-- whether a router can do no more than pass items: none of its links decays, its side is marked and it owes no wake; a terminal on a central
-- link is no sink that has dropped the mark; and a proxy has its outward link, hasn't sent Gone, holds no lock, and if it could try for one
-- it has found the words used up
unfoldable pub is_calm : Router → Bool
is_calm r =
    not (decays r) && ((not (is_on_central r) || r.marked) && (not r.wake_owed &&
    (if is_terminal r then not (is_on_central r && (r.closed && r.mark_dropped))
    else (is_some r.outward.primary && (not r.gone_sent && (not r.holds && (not (is_on_central r) || r.dry)))))))

-- a calm router isn't done on a central link
calm-undone : (r : Router) → is_calm r ≡ true → is_on_central r ≡ true → is_done r ≡ true → ⊥
unfolding is_calm
calm-undone r calm on done = go (decays r) (is_on_central r) r.marked r.wake_owed (is_terminal r) r.closed r.mark_dropped (is_drained r.out_queue)
    (is_some r.outward.primary && (not r.gone_sent && (not r.holds && (not (is_on_central r) || r.dry)))) calm on done
  where
    go : (d z m k t c x e y : Bool) → (not d && ((not z || m) && (not k && (if t then not (z && (c && x)) else y)))) ≡ true → z ≡ true →
        ((t && c) && (x && e)) ≡ true → ⊥
    go d z m k true true true e y a on done = grind (arith, a, on)
    go d z m k true true false e y a on done = cc
    go d z m k true false x e y a on done = cc
    go d z m k false c x e y a on done = cc

-- a calm router could lock, begin, retire or unlock nothing
calm-ready : (r : Router) → is_calm r ≡ true → is_on_central r ≡ true → is_proxy r ≡ true → (r.dry ≡ true) × (r.holds ≡ false)
unfolding is_calm
calm-ready r calm on proxy = (grind (arith, calm, on, proxy), grind (arith, calm, on, proxy))

calm-sent : (r : Router) → is_calm r ≡ true → is_proxy r ≡ true → (r.gone_sent ≡ false) × (is_some r.outward.primary ≡ true)
unfolding is_calm
calm-sent r calm proxy = (grind (arith, calm, proxy), grind (arith, calm, proxy))

or_first : (b : Bool) → (b || false) ≡ true → b ≡ true
or_first true h = refl
or_first false h = cc

-- whether an act passes an item, or rests
unfoldable pub is_passing : RouterAct → Bool
is_passing acts.SendOut = true
is_passing acts.SendIn = true
is_passing acts.Discard = true
is_passing acts.Rest = true
is_passing other = false

-- it takes no other act
pub calm-passes : (r : Router) (act : RouterAct) → is_calm r ≡ true → may_take r act ≡ true → is_passing act ≡ true
unfolding is_calm is_passing is_possible is_rest can_finish
calm-passes r acts.FinishOut calm may = absurd (grind (arith, calm, may))
calm-passes r acts.FinishIn calm may = absurd (grind (arith, calm, may))
calm-passes r acts.Leave calm may = absurd (leaves (and_first (is_proxy r) (has_no_link r || r.gone_sent) (or_first _ may)))
  where
    leaves : is_proxy r ≡ true → ⊥
    leaves p = let s = calm-sent r calm p in no (r.outward.primary) (has_no_link r || r.gone_sent) refl s.1 s.0 (and_second (is_proxy r) (has_no_link r || r.gone_sent) (or_first _ may))
      where
        no : (o : Option LinkEnd) (x : Bool) → r.outward.primary ≡ o → is_some o ≡ true → r.gone_sent ≡ false → (has_no_link r || r.gone_sent) ≡ true → ⊥
        no None x e h k q = cc
        no (Some z) x e h k q = grind (arith, e, k, q)
calm-passes r acts.Mark calm may = absurd (grind (arith, calm, may))
calm-passes r acts.Wake calm may = absurd (grind (arith, calm, may))
calm-passes r acts.Claim calm may =
    let ready : is_ready r ≡ true = and_first (is_ready r) (is_none r.spare) (or_first _ may) in
    let p : is_proxy r ≡ true = and_first _ _ ready in
    let on : is_on_central r ≡ true = and_first _ _ (and_second _ _ ready) in
    absurd (wet (is_proxy r) (is_on_central r) r.marked (decays r) r.dry r.tried ready (calm-ready r calm on p).0)
  where
    wet : (p z m d y t : Bool) → (p && (z && (m && (not d && (not y && not t))))) ≡ true → y ≡ true → ⊥
    wet p z m d y t h k = grind (arith, h, k)
calm-passes r acts.Lock calm may =
    let is : IsAble r = able-tells r (or_first _ may) in
    absurd (elim is.kind [
      | inl k ↦ not_both r.dry (calm-ready r calm is.central k.proxy).0 k.wet
      | inr k ↦ calm-undone r calm is.central k
    ])
calm-passes r acts.Begin calm may = absurd (begins (is_proxy r) r.holds (is_on_central r) (decays r) refl refl refl (or_first _ may))
  where
    begins : (p h z d : Bool) → is_proxy r ≡ p → r.holds ≡ h → is_on_central r ≡ z → (p && (h && (z && not d))) ≡ true → ⊥
    begins true true true d a c e q = not_both r.holds c (calm-ready r calm e a).1
    begins true true false d a c e q = cc
    begins true false z d a c e q = cc
    begins false h z d a c e q = cc
calm-passes r acts.Retire calm may = absurd (retires (is_done r) r.holds (is_on_central r) (decays r) refl refl refl (or_first _ may))
  where
    retires : (s h z d : Bool) → is_done r ≡ s → r.holds ≡ h → is_on_central r ≡ z → (s && (h && (z && not d))) ≡ true → ⊥
    retires true true true d a c e q = calm-undone r calm e a
    retires true true false d a c e q = cc
    retires true false z d a c e q = cc
    retires false h z d a c e q = cc
calm-passes r acts.Unlock calm may =
    absurd (unlocks (is_proxy r) (is_done r) r.holds (is_on_central r) (decays r) refl refl refl refl (or_first _ may))
  where
    unlocks : (p s h z d : Bool) → is_proxy r ≡ p → is_done r ≡ s → r.holds ≡ h → is_on_central r ≡ z →
        ((p && (h && (z && not d))) || (s && (h && (z && not d)))) ≡ true → ⊥
    unlocks true s true true d a e c f q = not_both r.holds c (calm-ready r calm f a).1
    unlocks false true true true d a e c f q = calm-undone r calm f e
    unlocks false false true true d a e c f q = cc
    unlocks p s h false d a e c f q = grind (arith, q)
    unlocks p s false true d a e c f q = grind (arith, q)
calm-passes r other calm may = refl

-- nor does an item that comes or goes change this
pub calm-accept : (r : Router) (b : Bool) (n : ℕ) (item : Item) → is_calm (accept r b n item) ≡ is_calm r
unfolding is_calm accept
calm-accept r true n item = refl
calm-accept r false n item = refl

pub calm-pop_out : (r : Router) → is_calm (pop_out r) ≡ is_calm r
unfolding is_calm
calm-pop_out r = refl

-- but for a mark or Gone
pub calm-send_on : (r : Router) → has_gone_next r ≡ false → is_calm (send_on r) ≡ is_calm r
unfolding is_calm
calm-send_on r h = rw (h, or-false r.gone_sent) refl
  where
    or-false : (a : Bool) → (a || false) ≡ a
    or-false true = refl
    or-false false = refl

pub calm-drop : (r : Router) → item_passes is_mark (current_item r.in_queue) ≡ false → is_calm (drop_item r) ≡ is_calm r
unfolding is_calm
calm-drop r h = rw (h, or-false r.mark_dropped) refl
  where
    or-false : (a : Bool) → (a || false) ≡ a
    or-false true = refl
    or-false false = refl

pub calm-rest : (r : Router) → is_calm (rest r) ≡ is_calm r
unfolding is_calm
calm-rest r = refl

pub calm-put : (r : Router) (item : Item) → is_calm (put_item r item) ≡ is_calm r
unfolding is_calm
calm-put r item = refl

-- the lesser of two numbers
abbrev pub lesser : ℕ → ℕ → ℕ
lesser a b = a - (a - b)

-- what the rank holds for a proxy that passes items: its bypass, its leaving, and the marks of its two ends, of which each end has so many
-- to come; and for a terminal, its lock
unfoldable pub router_keeps : Rates → (End → ℕ) → Router → ℕ
router_keeps c marks r =
    cond (is_proxy r)
    (6 * (lesser (marks r.end) (c.cap r.end - r.out_queue.current) +
    lesser (marks (opposite_end r.end)) (c.cap (opposite_end r.end) - r.in_queue.current)) +
    (1 + cond (is_unbegun r) (bypass_worth r) 0)) (sink_worth r)

-- a router may try again
untried-more : (r : Router) (numbers : ℕ) →
    cond (is_proxy r) (numbers + (1 + cond (is_unbegun r) (bypass_worth r) 0)) (sink_worth r) ≤
    cond (is_proxy r) (numbers + (1 + cond (is_unbegun r) (bypass_worth (rouse r)) 0)) (sink_worth (rouse r))
untried-more r numbers = go (is_proxy r) (is_unbegun r)
  where
    go : (p u : Bool) →
        cond p (numbers + (1 + cond u (bypass_worth r) 0)) (sink_worth r) ≤
        cond p (numbers + (1 + cond u (bypass_worth (rouse r)) 0)) (sink_worth (rouse r))
    go true true = omega (arith, worth-most 1 (not r.tried))
    go true false = omega arith
    go false u = omega (arith, worth-most 1 (not (r.tried && r.closed)))

module _ (c : Rates) (marks : End → ℕ) where
  -- of a terminal it is its lock
  pub keeps-terminal : (r : Router) → is_terminal r ≡ true → router_keeps c marks r ≡ sink_worth r
  unfolding router_keeps
  keeps-terminal r t = go r.inward refl
    where
      go : (o : Option Edge) → r.inward ≡ o → router_keeps c marks r ≡ sink_worth r
      go None e = rw e refl
      go (Some x) e = absurd (grind (arith, e, t))

  -- with what stays it is no more than the router's worth
  pub keeps-most : (r : Router) → c.price r.end.pair ≡ 6 → router_stays c r + router_keeps c marks r ≤ router_worth c r
  unfolding router_keeps router_worth
  keeps-most r six = go r.inward refl
    where
      go : (o : Option Edge) → r.inward ≡ o → router_stays c r + router_keeps c marks r ≤ router_worth c r
      go None e = omega (arith, stays-left c r, keeps-terminal r (ap is_none e), within)
        where
          within : worth_left c r.end r.out_queue.current r.in_queue.current + sink_worth r ≤ router_worth c r
          within = rw e (omega arith)
      go (Some x) e = omega (arith, proxy-stays c r (rw e refl), within)
        where
          within : router_keeps c marks r ≤ router_worth c r
          within = rw (e, six) (omega arith)

  -- an item that comes takes nothing of it
  pub keeps-accept : (r : Router) (b : Bool) (n : ℕ) (item : Item) → router_keeps c marks r ≤ router_keeps c marks (accept r b n item)
  unfolding router_keeps accept
  keeps-accept r true n item = untried-more r _
  keeps-accept r false n item = untried-more r _

  pub keeps-rest : (r : Router) → router_keeps c marks (rest r) ≡ router_keeps c marks r
  unfolding router_keeps
  keeps-rest r = refl

  -- nor one that leaves, if its number is below what was put
  pub keeps-pop_out : (r : Router) → r.out_queue.current + 1 + marks r.end ≤ c.cap r.end →
      router_keeps c marks r ≤ router_keeps c marks (pop_out r)
  unfolding router_keeps
  keeps-pop_out r h = go (is_proxy r)
    where
      rest_of : ℕ
      rest_of = 1 + cond (is_unbegun r) (bypass_worth r) 0

      other : ℕ
      other = lesser (marks (opposite_end r.end)) (c.cap (opposite_end r.end) - r.in_queue.current)

      go : (p : Bool) →
          cond p (6 * (lesser (marks r.end) (c.cap r.end - r.out_queue.current) + other) + rest_of) (sink_worth r) ≤
          cond p (6 * (lesser (marks r.end) (c.cap r.end - (r.out_queue.current + 1)) + other) + rest_of) (sink_worth r)
      go true = omega (arith, h)
      go false = omega arith

  keeps-in : (r : Router) → r.in_queue.current + 1 + marks (opposite_end r.end) ≤ c.cap (opposite_end r.end) → (p : Bool) →
      cond p (6 * (lesser (marks r.end) (c.cap r.end - r.out_queue.current) +
      lesser (marks (opposite_end r.end)) (c.cap (opposite_end r.end) - r.in_queue.current)) +
      (1 + cond (is_unbegun r) (bypass_worth r) 0)) (sink_worth r) ≤
      cond p (6 * (lesser (marks r.end) (c.cap r.end - r.out_queue.current) +
      lesser (marks (opposite_end r.end)) (c.cap (opposite_end r.end) - (r.in_queue.current + 1))) +
      (1 + cond (is_unbegun r) (bypass_worth r) 0)) (sink_worth r)
  keeps-in r h true = omega (arith, h)
  keeps-in r h false = omega arith

  pub keeps-send_on : (r : Router) → r.in_queue.current + 1 + marks (opposite_end r.end) ≤ c.cap (opposite_end r.end) →
      router_keeps c marks r ≤ router_keeps c marks (send_on r)
  unfolding router_keeps
  keeps-send_on r h = keeps-in r h (is_proxy r)

  pub keeps-drop : (r : Router) → r.in_queue.current + 1 + marks (opposite_end r.end) ≤ c.cap (opposite_end r.end) →
      router_keeps c marks r ≤ router_keeps c marks (drop_item r)
  unfolding router_keeps
  keeps-drop r h = keeps-in r h (is_proxy r)
