-- How the sides of links are seen if one router gives links up.
use Rattle.std.specs.Prelude.{◌≡◌, ◌≢◌, ◌⊎◌, ℕ, Bool, true, false, cond, Option, Some, None, refl}
use Rattle.std.proofs.Common.{arith, ap, inl, inr}
use Rattle.ipcz_world.proofs.Vocabulary.{Side, A, B, LinkId, Central, Peripheral, LinkEnd, Item, has_link, Queue, Edge, Router, is_terminal}
use Rattle.ipcz_world.proofs.Vocabulary.{inward_edge, World, Key, same_key, router_at, Records, side_router, Standing, view, view_by, router_view}
use Rattle.ipcz_world.proofs.Vocabulary.{is_attached, passes, sending_queue, fed_queue, next_sent, taking_queue, is_gone, is_awaited, standing_router}
use Rattle.ipcz_world.proofs.Vocabulary.{edge_has, is_proxy, may_have_sent}
use Rattle.ipcz_world.proofs.frames.Frames.{same_key_tells}
use Rattle.ipcz_world.specs.Standing.{View, Gone}
use Rattle.ipcz_world.proofs.frames.OneRouter.{SameButRouter}
use Rattle.ipcz_world.proofs.frames.Draining.{is_awaited-standing, is_gone-standing, may_have_sent-standing, standing-standing}
use Rattle.ipcz_world.proofs.frames.Draining.{next_sent-standing, taking_queue-standing}

pub next_sent-gone : (l : LinkId) (s : Side) → next_sent l s Gone ≡ None
unfolding next_sent
next_sent-gone l s = refl

pub taking_queue-gone : (l : LinkId) (s : Side) → taking_queue l s Gone ≡ None
unfolding taking_queue
taking_queue-gone l s = refl

pub may_have_sent-gone : may_have_sent Gone ≡ true
unfolding may_have_sent
may_have_sent-gone = refl

pub is_gone-gone : is_gone Gone ≡ true
unfolding is_gone
is_gone-gone = refl

pub is_awaited-gone : is_awaited Gone ≡ false
unfolding is_awaited
is_awaited-gone = refl

pub standing-gone : standing_router Gone ≡ None
unfolding standing_router
standing-gone = refl

-- what each function of a view says of a router that stands, and of one that has given the link up
pub ruleset view_rules = (
  next_sent-standing,
  next_sent-gone,
  taking_queue-standing,
  taking_queue-gone,
  may_have_sent-standing,
  may_have_sent-gone,
  is_gone-standing,
  is_gone-gone,
  is_awaited-standing,
  is_awaited-gone,
  standing-standing,
  standing-gone,
)

-- a router that is another, but for decaying links that it has given up, for its spare word, and for flags
pub record IsPart (r y : Router) : Type 0 where
  pub end : y.end ≡ r.end
  pub out_queue : y.out_queue ≡ r.out_queue
  pub in_queue : y.in_queue ≡ r.in_queue
  pub proxy : is_proxy y ≡ is_proxy r
  pub terminal : is_terminal y ≡ is_terminal r
  pub closed : y.closed ≡ r.closed
  pub mark_seen : y.mark_seen ≡ r.mark_seen
  pub mark_dropped : y.mark_dropped ≡ r.mark_dropped
  pub gone_sent : y.gone_sent ≡ r.gone_sent
  pub primary : y.outward.primary ≡ r.outward.primary
  pub inward_primary : (inward_edge y).primary ≡ (inward_edge r).primary
  pub decaying : (e : LinkEnd) → y.outward.decaying ≡ Some e → r.outward.decaying ≡ Some e
  pub length_to : (e : LinkEnd) → y.outward.decaying ≡ Some e → y.outward.length_to ≡ r.outward.length_to
  pub length_from : (e : LinkEnd) → y.outward.decaying ≡ Some e → y.outward.length_from ≡ r.outward.length_from
  pub inward_decaying : (e : LinkEnd) → (inward_edge y).decaying ≡ Some e → (inward_edge r).decaying ≡ Some e
  pub inward_to : (e : LinkEnd) → (inward_edge y).decaying ≡ Some e → (inward_edge y).length_to ≡ (inward_edge r).length_to
  pub inward_from : (e : LinkEnd) → (inward_edge y).decaying ≡ Some e → (inward_edge y).length_from ≡ (inward_edge r).length_from

pub part-itself : (r : Router) → IsPart r r
part-itself r = record {
  end = refl;
  out_queue = refl;
  in_queue = refl;
  proxy = refl;
  terminal = refl;
  closed = refl;
  mark_seen = refl;
  mark_dropped = refl;
  gone_sent = refl;
  primary = refl;
  inward_primary = refl;
  decaying = λ e h. h;
  length_to = λ e h. refl;
  length_from = λ e h. refl;
  inward_decaying = λ e h. h;
  inward_to = λ e h. refl;
  inward_from = λ e h. refl;
}

edge_part : (l : LinkId) (s : Side) (e f : Edge) → f.primary ≡ e.primary → ((d : LinkEnd) → f.decaying ≡ Some d → e.decaying ≡ Some d) →
    edge_has f l s ≡ true → edge_has e l s ≡ true
unfolding has_link
edge_part l s e f p d h = go f.decaying refl
  where
    go : (o : Option LinkEnd) → f.decaying ≡ o → edge_has e l s ≡ true
    go None q = grind (arith, p, h, q)
    go (Some x) q = grind (arith, p, h, q, d x q)

attached_part : (l : LinkId) (s : Side) (r y : Router) → IsPart r y → is_attached l s y ≡ true → is_attached l s r ≡ true
unfolding is_attached
attached_part (Central i) s r y p h = edge_part (Central i) s r.outward y.outward p.primary p.decaying h
attached_part (Peripheral n x) A r y p h = edge_part (Peripheral n x) A (inward_edge r) (inward_edge y) p.inward_primary p.inward_decaying h
attached_part (Peripheral n x) B r y p h = edge_part (Peripheral n x) B r.outward y.outward p.primary p.decaying h

pub sending_part : (l : LinkId) (s : Side) (r y : Router) → IsPart r y → sending_queue l s y ≡ sending_queue l s r
unfolding sending_queue
sending_part (Central i) s r y p = p.out_queue
sending_part (Peripheral n x) A r y p = p.in_queue
sending_part (Peripheral n x) B r y p = p.out_queue

pub fed_part : (l : LinkId) (s : Side) (r y : Router) → IsPart r y → fed_queue l s y ≡ fed_queue l s r
unfolding fed_queue
fed_part (Central i) s r y p = p.in_queue
fed_part (Peripheral n x) A r y p = p.out_queue
fed_part (Peripheral n x) B r y p = p.in_queue

-- a side is seen as a router and then as a part of it
pub record StaysSeen (r : Router) (x : Option Router) (a b : View) : Type 0 where
  pub left : Router
  pub kept : x ≡ Some left
  pub part : IsPart r left
  pub before : a ≡ Standing r
  pub after : b ≡ Standing left

-- a side is seen as a router, which then has given the link up
pub record GivesUp (l : LinkId) (s : Side) (r : Router) (x : Option Router) (a b : View) : Type 0 where
  pub before : a ≡ Standing r
  pub after : b ≡ Gone
  pub had : is_attached l s r ≡ true
  pub hasnt : passes x (is_attached l s) ≡ false

abbrev pub Seen : LinkId → Side → Router → Option Router → View → View → Type 0
Seen l s r x a b = (b ≡ a) ⊎ StaysSeen r x a b ⊎ GivesUp l s r x a b

seen_at : (l : LinkId) (s : Side) (r : Router) (x : Option Router) → ((y : Router) → x ≡ Some y → IsPart r y) →
    Seen l s r x (router_view l s (Some r)) (router_view l s x)
unfolding router_view passes
seen_at l s r None part = go (is_attached l s r) refl
  where
    go : (b : Bool) → is_attached l s r ≡ b → Seen l s r None (cond b (Standing r) Gone) Gone
    go true e = inr (inr (record { before = refl; after = refl; had = e; hasnt = refl }))
    go false e = inl refl
seen_at l s r (Some y) part = go (is_attached l s r) (is_attached l s y) refl refl
  where
    go : (b c : Bool) → is_attached l s r ≡ b → is_attached l s y ≡ c →
        Seen l s r (Some y) (cond b (Standing r) Gone) (cond c (Standing y) Gone)
    go true true e f = inr (inl (record { left = y; kept = refl; part = part y refl; before = refl; after = refl }))
    go true false e f = inr (inr (record { before = refl; after = refl; had = e; hasnt = f }))
    go false true e f = absurd (grind (arith, attached_part l s r y (part y refl) f, e))
    go false false e f = inl refl

pub seen : (w v : World) (g : Records) (k : Key) (r : Router) (x : Option Router) (l : LinkId) (s : Side) → SameButRouter w v k x →
    router_at w k ≡ Some r → ((y : Router) → x ≡ Some y → IsPart r y) →
    Seen l s r x (view w g l s) (view v g l s)
unfolding view_by
seen w v g k r x l s one here part = go (side_router g l s)
  where
    at : (q : Key) → ((same_key q k ≡ true) × (q ≡ k)) ⊎ ((same_key q k ≡ false) × (q ≢ k)) →
        Seen l s r x (router_view l s (router_at w q)) (router_view l s (router_at v q))
    at q (inl e) =
        let a : router_at w q ≡ Some r = grind (arith, e, here) in let b : router_at v q ≡ x = grind (arith, e, one.routers q) in
        rw (a, b) (seen_at l s r x part)
    at q (inr e) = inl (let b : router_at v q ≡ router_at w q = grind (arith, e, one.routers q) in ap (router_view l s) b)

    go : (o : Option Key) → Seen l s r x (view_by w g l s o) (view_by v g l s o)
    go None = inl refl
    go (Some q) = at q (same_key_tells q k)

pub next_sent-seen : (l : LinkId) (s : Side) (r : Router) (x : Option Router) (a b : View) (u : ℕ) → Seen l s r x a b →
    next_sent l s b ≡ Some u → next_sent l s a ≡ Some u
next_sent-seen l s r x a b u (inl e) h = grind (arith, e, h)
next_sent-seen l s r x a b u (inr (inl e)) h = grind (arith, view_rules, e.before, e.after, sending_part l s r e.left e.part, h)
next_sent-seen l s r x a b u (inr (inr e)) h = grind (arith, view_rules, e.after, h)

pub taking-seen : (l : LinkId) (s : Side) (r : Router) (x : Option Router) (a b : View) (q : Queue Item) → Seen l s r x a b →
    taking_queue l s b ≡ Some q → taking_queue l s a ≡ Some q
taking-seen l s r x a b q (inl e) h = grind (arith, e, h)
taking-seen l s r x a b q (inr (inl e)) h = grind (arith, view_rules, e.before, e.after, fed_part l s r e.left e.part, h)
taking-seen l s r x a b q (inr (inr e)) h = grind (arith, view_rules, e.after, h)

pub may_have_sent-seen : (l : LinkId) (s : Side) (r : Router) (x : Option Router) (a b : View) → Seen l s r x a b →
    may_have_sent b ≡ may_have_sent a
may_have_sent-seen l s r x a b (inl e) = grind (arith, e)
may_have_sent-seen l s r x a b (inr (inl e)) = grind (arith, view_rules, e.before, e.after)
may_have_sent-seen l s r x a b (inr (inr e)) = grind (arith, view_rules, e.before, e.after)

pub awaited-seen : (l : LinkId) (s : Side) (r : Router) (x : Option Router) (a b : View) → Seen l s r x a b → is_awaited b ≡ is_awaited a
awaited-seen l s r x a b (inl e) = grind (arith, e)
awaited-seen l s r x a b (inr (inl e)) = grind (arith, view_rules, e.before, e.after)
awaited-seen l s r x a b (inr (inr e)) = grind (arith, view_rules, e.before, e.after)

-- a side that is gone was gone, or it has been given up
pub gone-seen : (l : LinkId) (s : Side) (r : Router) (x : Option Router) (a b : View) → Seen l s r x a b → is_gone b ≡ true →
    (is_gone a ≡ true) ⊎ GivesUp l s r x a b
gone-seen l s r x a b (inl e) h = inl (grind (arith, e, h))
gone-seen l s r x a b (inr (inl e)) h = absurd (grind (arith, view_rules, e.after, h))
gone-seen l s r x a b (inr (inr e)) h = inr e

-- who stands there stood there, with the same queues
pub record Stood (a : View) (q : Router) : Type 0 where
  pub router : Router
  pub stood : standing_router a ≡ Some router
  pub out_queue : q.out_queue ≡ router.out_queue

pub standing-seen : (l : LinkId) (s : Side) (r : Router) (x : Option Router) (a b : View) (q : Router) → Seen l s r x a b →
    standing_router b ≡ Some q → Stood a q
standing-seen l s r x a b q (inl e) h = record { router = q; stood = grind (arith, e, h); out_queue = refl }
standing-seen l s r x a b q (inr (inl e)) h = record {
  router = r;
  stood = grind (arith, view_rules, e.before);
  out_queue =
      grind (arith, view_rules, e.after, e.part.out_queue, h);
}
standing-seen l s r x a b q (inr (inr e)) h = absurd (grind (arith, view_rules, e.after, h))
