-- Who stands at a link's side is the router that its record names, has the link there, and is of its end.
use Rattle.ipcz_world.specs.Routes.{source as source'}
use Rattle.std.specs.Prelude.{◌≡◌, ◌⊎◌, ◌<◌, ℕ, Bool, true, false, Option, Some, None, is_some, refl, List}
use Rattle.std.proofs.Common.{arith, ap, subst, ◌∙◌, inl, inr}
use Rattle.std.specs.FinMap.{get-empty}
use Rattle.std.specs.Ordering.{nat_cmp}
use Rattle.ipcz_world.proofs.Vocabulary.{Side, A, B, LinkId, Central, Peripheral, LinkEnd, Descriptor, Item, has_link, opposite_end, Edge, Queue}
use Rattle.ipcz_world.proofs.Vocabulary.{item_at, Router, inward_edge, World, Key, router_at, Books, Records, side_router, side_node, side_end}
use Rattle.ipcz_world.proofs.Vocabulary.{terminal_descriptor, bypass_of, proxy_side, Standing, view, view_by, router_view, is_attached, taking_queue}
use Rattle.ipcz_world.proofs.Vocabulary.{fed_queue, Counts, Links, IsRecorded, Positions, Conserved, edge_has, key_at, Awaited, awaited_view, link_in}
use Rattle.ipcz_world.proofs.Vocabulary.{IsItemUnderWay}
use Rattle.ipcz_seq.specs.Queue.{queue_from}
use Rattle.ipcz_world.proofs.frames.RecordRules.{bypass_of-inner, record_rules}
use Rattle.ipcz_world.specs.Standing.{View, Waiting, Gone}
use Rattle.ipcz_world.proofs.frames.Weighing.{not_in_out, not_in_in}
use Rattle.ipcz_world.proofs.facts.LinkTests.{side_is}
use Rattle.ipcz_world.proofs.facts.Lengths.{same_link-tells, same_side-tells}

-- a link end that is this link at this side
pub record IsEnd (o : Option LinkEnd) (link : LinkId) (s : Side) : Type 0 where
  pub end : LinkEnd
  pub is : o ≡ Some end
  pub link_is : end.link ≡ link
  pub side_is : end.side ≡ s

pub has_link-tells : (o : Option LinkEnd) (link : LinkId) (s : Side) → has_link o link s ≡ true → IsEnd o link s
unfolding has_link
has_link-tells None link s h = absurd (grind (arith, h))
has_link-tells (Some e) link s h = record {
  end = e;
  is = refl;
  link_is = same_link-tells e.link link (grind (arith, h));
  side_is =
      same_side-tells e.side s (grind (arith, h));
}

pub edge_has-tells : (e : Edge) (link : LinkId) (s : Side) → edge_has e link s ≡ true → IsEnd e.primary link s ⊎ IsEnd e.decaying link s
edge_has-tells e link s h = go (has_link e.primary link s) refl
  where
    go : (b : Bool) → has_link e.primary link s ≡ b → IsEnd e.primary link s ⊎ IsEnd e.decaying link s
    go true p = inl (has_link-tells e.primary link s p)
    go false p = inr (has_link-tells e.decaying link s (grind (arith, p, h)))

-- a link end of a router is as the record says
pub attached_recorded : (w : World) (g : Records) (k : Key) (r : Router) (link : LinkId) (s : Side) → Links w g → router_at w k ≡ Some r →
    is_attached link s r ≡ true → (e : LinkEnd) × (e.link ≡ link) × (e.side ≡ s) × IsRecorded w g k r e
unfolding is_attached
attached_recorded w g k r (Central i) s law here h = elim (edge_has-tells r.outward (Central i) s h) [
  | inl e ↦ (e.end, e.link_is, e.side_is, (law k r here).primary e.end e.is)
  | inr e ↦ (e.end, e.link_is, e.side_is, (law k r here).decaying e.end e.is)
]
attached_recorded w g k r (Peripheral n x) A law here h = elim (edge_has-tells (inward_edge r) (Peripheral n x) A h) [
  | inl e ↦ (e.end, e.link_is, e.side_is, (law k r here).inward_primary e.end e.is)
  | inr e ↦ (e.end, e.link_is, e.side_is, (law k r here).inward_decaying e.end e.is)
]
attached_recorded w g k r (Peripheral n x) B law here h = elim (edge_has-tells r.outward (Peripheral n x) B h) [
  | inl e ↦ (e.end, e.link_is, e.side_is, (law k r here).primary e.end e.is)
  | inr e ↦ (e.end, e.link_is, e.side_is, (law k r here).decaying e.end e.is)
]

-- a router that stands at a link's side
pub record IsStanding (w : World) (g : Records) (link : LinkId) (s : Side) (r : Router) : Type 0 where
  pub key : Key
  pub router : side_router g link s ≡ Some key
  pub here : router_at w key ≡ Some r
  pub attached : is_attached link s r ≡ true
  pub end : r.end ≡ side_end g link s

pub standing_known : (w : World) (g : Records) (link : LinkId) (s : Side) (r : Router) → Links w g → view w g link s ≡ Standing r →
    IsStanding w g link s r
unfolding view_by router_view awaited_view
standing_known w g link s r law h = go (side_router g link s) refl
  where
    none : (l : LinkId) (d : Option Descriptor) → awaited_view l d ≡ Standing r → ⊥
    none (Central i) d e = grind (arith, e)
    none (Peripheral n x) None e = grind (arith, e)
    none (Peripheral n x) (Some d) e = grind (arith, e)

    known : (k : Key) → side_router g link s ≡ Some k → (o : Option Router) → router_at w k ≡ o → router_view link s o ≡ Standing r →
        (c : Bool) → ((x : Router) → o ≡ Some x → is_attached link s x ≡ c) → IsStanding w g link s r
    known k e None q is c att = absurd (grind (arith, is))
    known k e (Some x) q is false att = absurd (grind (arith, is, att x refl))
    known k e (Some x) q is true att =
        let same : x ≡ r = grind (arith, is, att x refl) in let here : router_at w k ≡ Some r = q ∙ ap Some same in
        let on : is_attached link s r ≡ true = subst (λ z. is_attached link s z ≡ true) same (att x refl) in
        let f = attached_recorded w g k r link s law here on in
        record { key = k; router = e; here = here; attached = on; end = f.3.end ∙ grind (arith, f.1, f.2) }

    test : (k : Key) → side_router g link s ≡ Some k → (o : Option Router) → router_at w k ≡ o → router_view link s o ≡ Standing r →
        IsStanding w g link s r
    test k e None q is = absurd (grind (arith, is))
    test k e (Some x) q is = known k e (Some x) q is (is_attached link s x) (λ z f. ap (is_attached link s) (grind (arith, f)))

    go : (o : Option Key) → side_router g link s ≡ o → IsStanding w g link s r
    go None e = absurd (none link (terminal_descriptor (g.terminal (side_end g link s))) (grind (arith, e, h)))
    go (Some k) e = test k e (router_at w k) refl (grind (arith, e, h))

-- an item under way isn't in the queue of a router of the link's end that it goes to
pub not_fed : (w : World) (b : Books) (g : Records) (k : Key) (r : Router) (from to i : ℕ) (link : LinkId) (s : Side) (n : ℕ)
    (item x : Item) (moves : List Descriptor) → Conserved w b g → k.node < w.count → router_at w k ≡ Some r →
    IsItemUnderWay w from to i link s n item moves → r.end ≡ side_end g link s → item_at (fed_queue link s r) n ≡ Some x → ⊥
unfolding fed_queue side_end source'
not_fed w b g k r from to i (Central c) s n item x moves law lt here u end is =
    not_in_in w b g k r from to i (Central c) s n item x moves law lt here u (ap opposite_end end) is
not_fed w b g k r from to i (Peripheral m y) A n item x moves law lt here u end is =
    not_in_out w b g k r from to i (Peripheral m y) A n item x moves law lt here u end is
not_fed w b g k r from to i (Peripheral m y) B n item x moves law lt here u end is =
    not_in_in w b g k r from to i (Peripheral m y) B n item x moves law lt here u (ap opposite_end end) is

-- nor in the queue that it goes to
pub not_there_yet : (w : World) (b : Books) (g : Records) (from to i : ℕ) (link : LinkId) (s : Side) (n : ℕ) (item : Item)
    (moves : List Descriptor) (q : Queue Item) → Conserved w b g → Counts w g → Links w g →
    IsItemUnderWay w from to i link s n item moves → taking_queue link s (view w g link s) ≡ Some q → item_at q n ≡ None
unfolding taking_queue
not_there_yet w b g from to i link s n item moves q law counts links u is = go (view w g link s) refl
  where
    full : (r : Router) → IsStanding w g link s r → (o : Option Item) → item_at (fed_queue link s r) n ≡ o → o ≡ None
    full r st None e = refl
    full r st (Some x) e = absurd (not_fed w b g st.key r from to i link s n item x moves law (counts.on_node st.key r st.here) st.here u
        st.end e)

    blank : (f : ℕ) → item_at {T = Item} (queue_from f) n ≡ None
    blank f = get-empty nat_cmp n

    go : (z : View) → view w g link s ≡ z → item_at q n ≡ None
    go Awaited e = absurd (grind (arith, is, e))
    go Gone e = absurd (grind (arith, is, e))
    go (Waiting d) e = let same : queue_from d.next_in ≡ q = grind (arith, is, e) in subst (λ z. item_at z n ≡ None) same (blank d.next_in)
    go (Standing r) e = let same : fed_queue link s r ≡ q = grind (arith, is, e) in let st = standing_known w g link s r links e in
        subst (λ z. item_at z n ≡ None) same (full r st (item_at (fed_queue link s r) n) refl)

-- the node of a link's side is the node of its router
pub node_of_router : (g : Records) (link : LinkId) (s : Side) (k : Key) → side_router g link s ≡ Some k → side_node g link s ≡ k.node
unfolding side_router side_node
node_of_router g (Central i) s k e = go ((g.central i).router s) e
  where
    go : (o : Option ℕ) → key_at ((g.central i).node s) o ≡ Some k → (g.central i).node s ≡ k.node
    go None h = cc
    go (Some x) h = grind (arith, h)
node_of_router g (Peripheral n x) A k e = grind (arith, e)
node_of_router g (Peripheral n x) B k e = go (g.peripheral (record { node = n; serial = x })).router e
  where
    go : (o : Option ℕ) → key_at (g.peripheral (record { node = n; serial = x })).node o ≡ Some k →
        (g.peripheral (record { node = n; serial = x })).node ≡ k.node
    go None h = cc
    go (Some z) h = grind (arith, h)

-- a router with both outward links has a central primary one, the fresh link of a bypass
pub fresh_central : (w : World) (g : Records) (k : Key) (r : Router) (p d : LinkEnd) → Positions w g → router_at w k ≡ Some r →
    r.outward.primary ≡ Some p → r.outward.decaying ≡ Some d → (c : ℕ) × (p.link ≡ Central c)
fresh_central w g k r p d law here on off = go d.link refl (bypass_of g d.link) refl ((law.each k r here).decaying d off)
  where
    told : (c : ℕ) → link_in r.outward.primary ≡ Some (Central c) → (c : ℕ) × (p.link ≡ Central c)
    told c h = (c, grind (arith, h, on))

    go : (l : LinkId) → d.link ≡ l → (o : Option ℕ) → bypass_of g d.link ≡ o → is_some (bypass_of g d.link) ≡ true →
        (c : ℕ) × (p.link ≡ Central c)
    go l e None b some = absurd (grind (arith, b, some))
    go (Central i) e (Some o) b some = elim (side_is d.side (proxy_side g i)) [
      | inl s ↦ absurd (grind (arith, (law.each k r here).own_alone d i off e s, on))
      | inr s ↦ told (g.bypass i).fresh ((law.each k r here).across_fresh d i off e s)
    ]
    go (Peripheral n x) e (Some o) b some = told (g.bypass o).fresh
        ((law.each k r here).inner_fresh d (record { node = n; serial = x }) o off e
        (grind (arith, record_rules, b, e, bypass_of-inner g (record { node = n; serial = x }))))
