-- What each act of a router makes of its worth.
use Rattle.std.specs.Prelude.{◌≡◌, ◌⊎◌, ◌≤◌, ◌<◌, ℕ, ◌+◌, ◌*◌, ◌-◌, Bool, true, false, not, ◌&&◌, Option, Some, None}
use Rattle.std.specs.Prelude.{is_some, is_none, refl}
use Rattle.std.proofs.Common.{arith, ap, ◌∙◌, inl, inr}
use Rattle.ipcz_world.proofs.facts.Tests.{not_both, and_first}
use Rattle.ipcz_base.specs.declared.side.Side.{Side}
use Rattle.ipcz_base.specs.declared.link_end.LinkEnd.{LinkEnd}
use Rattle.ipcz_base.specs.declared.descriptor.Descriptor.{Descriptor}
use Rattle.ipcz_base.specs.declared.item.Item.{Item}
use Rattle.ipcz_base.specs.Ends.{opposite_end}
use Rattle.ipcz_base.specs.Links.{word_of}
use Rattle.ipcz_world.proofs.Vocabulary.{edge_decays, is_proxy, is_on_central, pop_out, send_on, drop_item, rest, accept_bypass, stop_proxying}
use Rattle.ipcz_world.proofs.Vocabulary.{proxy_will_stop, accept, Rates, worth, router_worth}
use Rattle.ipcz_edge.specs.Edge.{Edge}
use Rattle.ipcz_router.specs.Router.{Router, is_terminal, inward_edge, rouse, from_descriptor}
use Rattle.ipcz_router.specs.Acts.{pop_in}
use Rattle.ipcz_router.specs.Bypass.{bypass_peer}
use Rattle.ipcz_router.specs.Calls.{extend}
use Rattle.ipcz_router.specs.Closing.{close_router}
use Rattle.ipcz_router.specs.ActEffects.{finish_out, finish_in, mark_side, wake_other, claim_word, run_dry, take_lock, fail_lock}
use Rattle.ipcz_router.specs.ActEffects.{begin_bypass, drop_lock}
use Rattle.ipcz_world.specs.Ranks.{worth_left, is_unbegun}

pub worth-most : (n : ℕ) (b : Bool) → worth n b ≤ n
worth-most n true = omega arith
worth-most n false = omega arith

-- a number that passes is worth a pair's price
pub passed-out : (p a x y : ℕ) → x < a → p * ((a - (x + 1)) + y) + p ≤ p * ((a - x) + y)
passed-out p a x y h = let e : (a - x) + y ≡ ((a - (x + 1)) + y) + 1 = omega (arith, h) in rw e (omega arith)

pub passed-in : (p a x y : ℕ) → x < a → p * (y + (a - (x + 1))) + p ≤ p * (y + (a - x))
passed-in p a x y h = let e : y + (a - x) ≡ (y + (a - (x + 1))) + 1 = omega (arith, h) in rw e (omega arith)

-- nothing is left to do
pub lower-rest : (c : Rates) (r : Router) → r.flagged ≡ true → router_worth c (rest r) + 1 ≤ router_worth c r
unfolding router_worth
lower-rest c r h = rw h (omega arith)

-- a decaying link is given up
pub lower-finish_out : (c : Rates) (r : Router) → edge_decays r.outward ≡ true → router_worth c (finish_out r) + 1 ≤ router_worth c r
unfolding router_worth
lower-finish_out c r h = rw h (omega arith)

-- the current item leaves
pub lower-pop_out : (c : Rates) (r : Router) → r.out_queue.current < c.cap r.end →
    router_worth c (pop_out r) + c.price r.end.pair ≤ router_worth c r
unfolding router_worth
lower-pop_out c r h = omega (
  arith,
  passed-out (c.price r.end.pair) (c.cap r.end) r.out_queue.current (c.cap (opposite_end r.end) - r.in_queue.current) h,
)

pub lower-pop_in : (c : Rates) (r : Router) → r.in_queue.current < c.cap (opposite_end r.end) →
    router_worth c (pop_in r) + c.price r.end.pair ≤ router_worth c r
unfolding router_worth
lower-pop_in c r h = omega (
  arith,
  passed-in (c.price r.end.pair) (c.cap (opposite_end r.end)) r.in_queue.current (c.cap r.end - r.out_queue.current) h,
)

pub lower-send_on : (c : Rates) (r : Router) → r.in_queue.current < c.cap (opposite_end r.end) →
    router_worth c (send_on r) + c.price r.end.pair ≤ router_worth c r
unfolding router_worth
lower-send_on c r h = omega (arith, lower-pop_in c r h)

pub lower-drop : (c : Rates) (r : Router) → r.in_queue.current < c.cap (opposite_end r.end) →
    router_worth c (drop_item r) + c.price r.end.pair ≤ router_worth c r
unfolding router_worth
lower-drop c r h = omega (arith, lower-pop_in c r h)

-- the side is marked, and a wake may be owed
pub lower-mark : (c : Rates) (r : Router) (was : Bool) → is_on_central r ≡ true → r.marked ≡ false →
    router_worth c (mark_side r was) + 1 ≤ router_worth c r
unfolding router_worth
lower-mark c r was on h = rw (on, h) (omega (arith, worth-most 6 was))

-- the other side is woken
pub lower-wake : (c : Rates) (r : Router) → r.wake_owed ≡ true → router_worth c (wake_other r) + 6 ≤ router_worth c r
unfolding router_worth
lower-wake c r h = rw h (omega arith)

-- a word is claimed, or none was left
pub lower-claim : (c : Rates) (r : Router) (i : ℕ) → is_unbegun r ≡ true → r.spare ≡ None → r.dry ≡ false →
    router_worth c (claim_word r i) + 1 ≤ router_worth c r
unfolding router_worth
lower-claim c r i u s d = rw (u, s, d) (omega arith)

pub lower-dry : (c : Rates) (r : Router) → is_unbegun r ≡ true → r.spare ≡ None → r.dry ≡ false →
    router_worth c (run_dry r) + 1 ≤ router_worth c r
unfolding router_worth
lower-dry c r u s d = rw (u, s, d) (omega arith)

-- a terminal is no proxy
pub terminal-proxy : (r : Router) → is_terminal r ≡ not (is_proxy r)
terminal-proxy r = go r.inward
  where
    go : (o : Option Edge) → is_none o ≡ not (is_some o)
    go None = refl
    go (Some x) = refl

pub unbegun-terminal : (r : Router) → is_unbegun r ≡ true → is_terminal r ≡ false
unbegun-terminal r u = terminal-proxy r ∙ ap not (and_first (is_proxy r) (is_some r.outward.primary) u)

-- who may try for a lock: a proxy that hasn't begun, or a sink
abbrev pub IsLocker : Router → Type 0
IsLocker r = (is_unbegun r ≡ true) ⊎ ((is_terminal r ≡ true) × (r.closed ≡ true))

-- the lock is got, or not
pub lower-lock : (c : Rates) (r : Router) → IsLocker r → r.holds ≡ false → router_worth c (take_lock r) + 1 ≤ router_worth c r
unfolding router_worth
lower-lock c r (inl u) h = let t = unbegun-terminal r u in rw (u, t, h) (omega arith)
lower-lock c r (inr s) h = go (is_unbegun r) refl s.0
  where
    go : (a : Bool) → is_unbegun r ≡ a → is_terminal r ≡ true → router_worth c (take_lock r) + 1 ≤ router_worth c r
    go true e t = absurd (not_both (is_terminal r) t (unbegun-terminal r e))
    go false e t = rw (e, t, h) (omega arith)

pub lower-try : (c : Rates) (r : Router) → IsLocker r → r.tried ≡ false → router_worth c (fail_lock r) + 1 ≤ router_worth c r
unfolding router_worth
lower-try c r (inl u) h = let t = unbegun-terminal r u in rw (u, t, h) (omega arith)
lower-try c r (inr s) h = go (is_unbegun r) refl s.0 s.1
  where
    go : (a : Bool) → is_unbegun r ≡ a → is_terminal r ≡ true → r.closed ≡ true → router_worth c (fail_lock r) + 1 ≤ router_worth c r
    go true e t k = absurd (not_both (is_terminal r) t (unbegun-terminal r e))
    go false e t k = rw (e, t, h, k) (omega arith)

-- a router is roused
pub more-rouse : (c : Rates) (r : Router) → router_worth c (rouse r) ≤ router_worth c r + 2
unfolding router_worth
more-rouse c r = go (is_unbegun r) (is_terminal r) refl refl
  where
    go : (u t : Bool) → is_unbegun r ≡ u → is_terminal r ≡ t → router_worth c (rouse r) ≤ router_worth c r + 2
    go true true e f = absurd (not_both (is_terminal r) f (unbegun-terminal r e))
    go true false e f = rw (e, f) (omega arith)
    go false true e f = rw (e, f) (omega arith)
    go false false e f = rw (e, f) (omega arith)

-- an item comes; a terminal is closed
pub more-accept : (c : Rates) (r : Router) (b : Bool) (n : ℕ) (item : Item) → router_worth c (accept r b n item) ≤ router_worth c r + 2
unfolding router_worth accept
more-accept c r true n item = omega (arith, more-rouse c r)
more-accept c r false n item = omega (arith, more-rouse c r)

pub more-close : (c : Rates) (r : Router) → router_worth c (close_router r) ≤ router_worth c r + 2
unfolding router_worth
more-close c r = omega (arith, more-rouse c r)

-- the router takes a fresh link
pub more-bypass_peer : (c : Rates) (r : Router) (target fresh : ℕ) → is_some r.outward.primary ≡ true →
    router_worth c (bypass_peer r target fresh) ≤ router_worth c r + 11
unfolding router_worth word_of
more-bypass_peer c r target fresh there = go (is_proxy r) refl
  where
    go : (p : Bool) → is_proxy r ≡ p → router_worth c (bypass_peer r target fresh) ≤ router_worth c r + 11
    go true e = rw (e, there) (omega arith)
    go false e = rw (e, there) (omega arith)

pub more-accept_bypass : (c : Rates) (r : Router) (sender : ℕ) (side : Side) (fresh length : ℕ) → is_some r.outward.primary ≡ true →
    router_worth c (accept_bypass r sender side fresh length) ≤ router_worth c r + 11
unfolding router_worth word_of
more-accept_bypass c r sender side fresh length there = go (is_proxy r) refl
  where
    go : (p : Bool) → is_proxy r ≡ p → router_worth c (accept_bypass r sender side fresh length) ≤ router_worth c r + 11
    go true e = rw (e, there) (omega arith)
    go false e = rw (e, there) (omega arith)

-- the inward edge changes, and has links as before
pub same-inward : (c : Rates) (r : Router) (o : Edge) (e f : Edge) → r.inward ≡ Some e → o.primary ≡ r.outward.primary →
    o.decaying ≡ r.outward.decaying →
    f.decaying ≡ e.decaying → router_worth c (record r { outward = o; inward = Some f }) ≡ router_worth c r
unfolding router_worth
same-inward c r o e f h p d i = rw (h, p, d, i) refl

pub more-will_stop : (c : Rates) (r : Router) (n : ℕ) → router_worth c (proxy_will_stop r n) ≤ router_worth c r + 2
unfolding router_worth
more-will_stop c r n = omega (arith, more-rouse c r)

-- the terminal becomes a proxy
pub more-extend : (c : Rates) (r : Router) (link : LinkEnd) → router_worth c (extend r link) ≤ router_worth c r + 46
unfolding router_worth
more-extend c r link = go (is_some r.outward.primary) refl
  where
    go : (p : Bool) → is_some r.outward.primary ≡ p → router_worth c (extend r link) ≤ router_worth c r + 46
    go true e = rw e (omega (arith, worth-most 1 (is_none r.spare && not r.dry), worth-most 1 (not r.holds)))
    go false e = rw e (omega arith)

-- a terminal that a descriptor makes
pub worth-moved : (c : Rates) (d : Descriptor) (sender : ℕ) →
    router_worth c (from_descriptor d sender) ≤ 9 + worth_left c d.end d.next_out d.next_in
unfolding router_worth
worth-moved c d sender = omega (arith, worth-most 7 (is_on_central (from_descriptor d sender) && not (from_descriptor d sender).marked))

-- the inward edge gives up its decaying link
pub lower-finish_in : (c : Rates) (r : Router) → edge_decays (inward_edge r) ≡ true → router_worth c (finish_in r) + 1 ≤ router_worth c r
unfolding router_worth
lower-finish_in c r h = go r.inward refl
  where
    go : (o : Option Edge) → r.inward ≡ o → router_worth c (finish_in r) + 1 ≤ router_worth c r
    go None e = absurd (grind (arith, e, h))
    go (Some x) e = let d : edge_decays x ≡ true = grind (arith, e, h) in rw (e, d) (omega arith)

-- the proxy learns its lengths
pub more-stop_proxying : (c : Rates) (r : Router) (m n : ℕ) → router_worth c (stop_proxying r m n) ≤ router_worth c r + 2
unfolding router_worth
more-stop_proxying c r m n = go r.inward refl
  where
    go : (o : Option Edge) → r.inward ≡ o → router_worth c (stop_proxying r m n) ≤ router_worth c r + 2
    go None e = rw e (omega (arith, worth-most 1 r.flagged))
    go (Some x) e = go_by (is_some r.outward.primary) refl
      where
        go_by : (p : Bool) → is_some r.outward.primary ≡ p → router_worth c (stop_proxying r m n) ≤ router_worth c r + 2
        go_by true f = rw (e, f) (omega (arith, worth-most 1 (not r.tried)))
        go_by false f = rw (e, f) (omega arith)

-- a bypass begins
pub lower-begin : (c : Rates) (r : Router) → is_unbegun r ≡ true → router_worth c (begin_bypass r) + 39 ≤ router_worth c r
unfolding router_worth word_of
lower-begin c r u = go r.inward refl
  where
    go : (o : Option Edge) → r.inward ≡ o → router_worth c (begin_bypass r) + 39 ≤ router_worth c r
    go None e = absurd (grind (arith, e, u))
    go (Some x) e = let p : is_some r.outward.primary ≡ true = grind (arith, e, u) in
        rw (e, p) (omega (arith, worth-most 1 (is_some x.primary)))

-- a proxy is worth something
pub proxy-some : (c : Rates) (r : Router) → is_proxy r ≡ true → 1 ≤ router_worth c r
unfolding router_worth
proxy-some c r h = rw h (omega arith)

-- a router on a central link has a primary link
pub central-some : (r : Router) → is_on_central r ≡ true → is_some r.outward.primary ≡ true
unfolding word_of
central-some r h = go r.outward.primary h
  where
    go : (o : Option LinkEnd) → is_some (word_of o) ≡ true → is_some o ≡ true
    go None e = cc
    go (Some x) e = refl

-- the lock is given back; a rest is worth nothing more
pub more-unlock : (c : Rates) (r : Router) → router_worth c (drop_lock r) ≤ router_worth c r + 2
unfolding router_worth
more-unlock c r = go (is_unbegun r) (is_terminal r) refl refl
  where
    go : (u t : Bool) → is_unbegun r ≡ u → is_terminal r ≡ t → router_worth c (drop_lock r) ≤ router_worth c r + 2
    go true true e f = absurd (not_both (is_terminal r) f (unbegun-terminal r e))
    go true false e f = rw (e, f) (omega arith)
    go false true e f = rw (e, f) (omega arith)
    go false false e f = rw (e, f) (omega arith)

pub most-rest : (c : Rates) (r : Router) → router_worth c (rest r) ≤ router_worth c r
unfolding router_worth
most-rest c r = omega arith
