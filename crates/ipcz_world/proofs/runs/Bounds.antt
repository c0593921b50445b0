-- Nothing comes to lie beyond the world's nodes: each step keeps a world bounded.
use Rattle.ipcz_world.proofs.frames.RolesTell.{links-in}
use Rattle.ipcz_world.proofs.Vocabulary.{Side, LinkId, Central, LinkEnd, Descriptor, Item, Message, place_at, word_of, opposite, current_item, Router}
use Rattle.ipcz_world.proofs.Vocabulary.{inward_edge, router_has, from_descriptor, bypass_peer, output_of, RouterAct, Node, Found, outbox}
use Rattle.ipcz_world.proofs.Vocabulary.{with_router, World, Key, node_at, router_at, Records, Books, IsRecorded, Inv, leaves_by, next_number}
use Rattle.ipcz_world.proofs.Vocabulary.{edge_decays, outward_has, way_out, way_in, accept, accept_message, stop_message, will_stop_message, apply}
use Rattle.ipcz_world.proofs.Vocabulary.{item_output, message_output, discard_output, Answer, Applied, with_outbox, on_found, link_router, add_router}
use Rattle.ipcz_world.proofs.Vocabulary.{is_named, moved_ends, send_item, send, make_terminals, tell, fits, handle, deliver, keep_or_drop}
use Rattle.ipcz_world.proofs.Vocabulary.{commit_router}
use Rattle.ipcz_router.specs.ActEffects.{retire_output}
use Rattle.std.specs.Prelude.{◌≡◌, ◌≤◌, ◌<◌, ℕ, Bool, true, false, cond, not, ◌&&◌, nat_eq, nat_lt, if◌then◌else◌, Option, Some, None}
use Rattle.std.specs.Prelude.{option_map, refl, List, [], ◌∷◌}
use Rattle.std.proofs.Common.{arith, ap, subst, ◌∙◌, sym}
use Rattle.std.proofs.lemmas.Bool.Decides.{nat_tests}
use Rattle.std.proofs.lemmas.Option.{same_Some}
use Rattle.ipcz_base.specs.declared.message.Message.TheVariants as messages
use Rattle.ipcz_base.proofs.Indexed.{place_at-put_place}
use Rattle.ipcz_edge.specs.declared.edge.Edge.{Edge}
use Rattle.ipcz_edge.specs.Edge.{is_short_of, choose}
use Rattle.ipcz_router.specs.declared.sending.Sending.{Sending}
use Rattle.ipcz_router.specs.Bypass.{fits_bypass_peer}
use Rattle.ipcz_router.specs.ActEffects.{peer_message, begin_message, flush_message}
use Rattle.ipcz_router.specs.declared.act.RouterAct.TheVariants as acts
use Rattle.ipcz_router.specs.declared.act.Applied.TheVariants as outputs
use Rattle.ipcz_node.specs.Node.{add_stray}
use Rattle.ipcz_node.specs.Sends.{transfer_of}
use Rattle.ipcz_node.specs.Hands.{passes_at}
use Rattle.ipcz_world.proofs.facts.Finding.{found_tells}
use Rattle.ipcz_world.proofs.acts.Puts.{router_found}
use Rattle.ipcz_world.proofs.acts.SendingMoves.{boxes_kept}

-- a node has nothing to send to a number that is no node's
abbrev pub IsBoxed : ℕ → Node → Type 0
IsBoxed c x = (to : ℕ) → c ≤ to → outbox x to ≡ []

same_boxes : (c : ℕ) (x y : Node) → y.outboxes ≡ x.outboxes → IsBoxed c x → IsBoxed c y
same_boxes c x y e h to l = ap (λ b. place_at [] b to) e ∙ h to l

pub boxed-with : (c : ℕ) (x : Node) (to : ℕ) (ms : List Message) → to < c → IsBoxed c x → IsBoxed c (with_outbox x to ms)
boxed-with c x to ms l h j m = let f : nat_eq j to ≡ false = grind (arith, l, m, nat_tests) in
    place_at-put_place [] x.outboxes to ms j ∙ ap (λ b. cond b ms (place_at [] x.outboxes j)) f ∙ h j m

-- each link of a router leads to a node of the world
record AreBelow (c : ℕ) (r : Router) : Type 0 where
  pub primary : (e : LinkEnd) → r.outward.primary ≡ Some e → e.other < c
  pub decaying : (e : LinkEnd) → r.outward.decaying ≡ Some e → e.other < c
  pub inner_primary : (e : LinkEnd) → (inward_edge r).primary ≡ Some e → e.other < c
  pub inner_decaying : (e : LinkEnd) → (inward_edge r).decaying ≡ Some e → e.other < c

-- what an act gives goes to a node of the world
abbrev Goes : ℕ → Applied → Type 0
Goes c outputs.Nothing = Unit {0}
Goes c (outputs.Sent link n item) = link.other < c
Goes c (outputs.Message to m) = to < c
Goes c (outputs.Discarded n item) = Unit {0}

choose_below : (c : ℕ) (edge : Edge) (n : ℕ) → ((e : LinkEnd) → edge.primary ≡ Some e → e.other < c) →
    ((e : LinkEnd) → edge.decaying ≡ Some e → e.other < c) → (e : LinkEnd) → choose edge n ≡ Some e → e.other < c
unfolding choose
choose_below c edge n p d e = go (edge_decays edge && is_short_of n edge.length_to)
  where
    go : (b : Bool) → (if b then edge.decaying else edge.primary) ≡ Some e → e.other < c
    go true h = d e h
    go false h = p e h

item_goes : (c : ℕ) (o : Option LinkEnd) (n : ℕ) (i : Option Item) → ((e : LinkEnd) → o ≡ Some e → e.other < c) → Goes c (item_output o n i)
unfolding item_output
item_goes c None n i h = tt
item_goes c (Some e) n None h = tt
item_goes c (Some e) n (Some x) h = h e refl

discard_goes : (c n : ℕ) (i : Option Item) → Goes c (discard_output n i)
unfolding discard_output
discard_goes c n None = tt
discard_goes c n (Some x) = tt

flush_goes : (c : ℕ) (o : Option LinkEnd) → ((e : LinkEnd) → o ≡ Some e → e.other < c) → Goes c (message_output (flush_message o))
unfolding message_output flush_message
flush_goes c None h = tt
flush_goes c (Some e) h = h e refl

begin_goes : (c : ℕ) (o outer : Option LinkEnd) (fresh : Option ℕ) → ((e : LinkEnd) → o ≡ Some e → e.other < c) →
    Goes c (message_output (begin_message o outer fresh))
unfolding message_output begin_message
begin_goes c None outer fresh h = tt
begin_goes c (Some e) None fresh h = tt
begin_goes c (Some e) (Some d) None h = tt
begin_goes c (Some e) (Some d) (Some i) h = go (word_of (Some d))
  where
    go : (o : Option ℕ) → Goes c (message_output (option_map (λ old. peer_message e d old i) o))
    go None = tt
    go (Some j) = h e refl

retire_goes : (c : ℕ) (o : Option LinkEnd) (n : ℕ) → ((e : LinkEnd) → o ≡ Some e → e.other < c) → Goes c (retire_output o n)
unfolding retire_output
retire_goes c None n b = tt
retire_goes c (Some e) n b = b e refl

output_goes : (c : ℕ) (r : Router) (act : RouterAct) → AreBelow c r → Goes c (output_of r act)
unfolding output_of
output_goes c r acts.SendOut b = item_goes c (way_out r) r.out_queue.current (current_item r.out_queue)
    (choose_below c r.outward r.out_queue.current b.primary b.decaying)
output_goes c r acts.SendIn b = item_goes c (way_in r) r.in_queue.current (current_item r.in_queue)
    (choose_below c (inward_edge r) r.in_queue.current b.inner_primary b.inner_decaying)
output_goes c r acts.Discard b = discard_goes c r.in_queue.current (current_item r.in_queue)
output_goes c r acts.Wake b = flush_goes c r.outward.primary b.primary
output_goes c r acts.Begin b = begin_goes c (inward_edge r).primary r.outward.primary r.spare b.inner_primary
output_goes c r acts.Retire b = retire_goes c r.outward.primary (next_number r) b.primary
output_goes c r other b = tt

boxed-send : (c : ℕ) (x : Node) (o : Applied) → IsBoxed c x → Goes c o → IsBoxed c (send x o)
unfolding send send_item
boxed-send c x outputs.Nothing h g = h
boxed-send c x (outputs.Sent link n item) h g = let m = transfer_of x link item in
    boxed-with c m.node link.other _ g (same_boxes c x m.node (boxes_kept (record { node = x; moves = [] }) link.other
    (moved_ends x link item)) h)
boxed-send c x (outputs.Message to m) h g = boxed-with c x to _ g h
boxed-send c x (outputs.Discarded n item) h g = h

boxes-keep : (x : Node) (s : ℕ) (r : Router) (leaves : Bool) → (keep_or_drop x s r leaves).outboxes ≡ x.outboxes
unfolding keep_or_drop
boxes-keep x s r true = refl
boxes-keep x s r false = refl

module _ (w : World) (b : Books) (g : Records) (law : Inv w b g) where
  link_below : (k : Key) (r : Router) (e : LinkEnd) → IsRecorded w g k r e → e.other < w.count
  link_below k r e is = subst (λ n. n < w.count) (sym is.other) (law.counts.side_on_node e.link (opposite e.side) is.recorded)

  are_below : (k : Key) (r : Router) → router_at w k ≡ Some r → AreBelow w.count r
  are_below k r here = record {
    primary = λ e h. link_below k r e (((links-in law) k r here).primary e h);
    decaying = λ e h. link_below k r e (((links-in law) k r here).decaying e h);
    inner_primary = λ e h. link_below k r e (((links-in law) k r here).inward_primary e h);
    inner_decaying = λ e h. link_below k r e (((links-in law) k r here).inward_decaying e h);
  }

  -- an act of a router that stands there
  pub boxed-router : (n s : ℕ) (act : RouterAct) (a : Answer) (r : Router) → router_at w (record { node = n; serial = s }) ≡ Some r →
      IsBoxed w.count (node_at w n) → IsBoxed w.count (commit_router (node_at w n) s act a r)
  unfolding commit_router
  boxed-router n s act a r here h =
      let x = keep_or_drop (node_at w n) s (apply r act a) (leaves_by r act) in
      boxed-send w.count x (output_of r act) (same_boxes w.count (node_at w n) x (boxes-keep (node_at w n) s (apply r act a) (leaves_by r act)) h)
      (output_goes w.count r act (are_below (record { node = n; serial = s }) r here))

  pub boxed-tell : (c : ℕ) (x : Node) (o : Option Sending) → IsBoxed c x → ((s : Sending) → o ≡ Some s → s.to < c) → IsBoxed c (tell x o)
  unfolding tell
  boxed-tell c x None h l = h
  boxed-tell c x (Some s) h l = boxed-with c x s.to _ (l s refl) h

  pub boxed-found : (c : ℕ) (x : Node) (o : Option Found) (change : ℕ → Router → Node) → IsBoxed c x →
      ((f : Found) → o ≡ Some f → IsBoxed c (change f.serial f.router)) → IsBoxed c (on_found x o change)
  unfolding on_found
  boxed-found c x None change h more = h
  boxed-found c x (Some f) change h more = more f refl

  boxes-make : (x : Node) (from : ℕ) (ds : List Descriptor) → (make_terminals x from ds).outboxes ≡ x.outboxes
  boxes-make x from [] = refl
  boxes-make x from (d ∷ ds) = boxes-make (add_router x (from_descriptor d from)) from ds

  module _ (n from : ℕ) (l : n < w.count) (boxed : IsBoxed w.count (node_at w n)) where
    found_below : (link : LinkId) (s : Side) (f : Found) → link_router (node_at w n) link s ≡ Some f → AreBelow w.count f.router
    found_below link s f e = are_below (record { node = n; serial = f.serial }) f.router
        (router_found w n f.serial f.router (found_tells (node_at w n) (λ r. router_has r link s) f e).0)

    stop_goes : (r : Router) (o : Option LinkEnd) (old : ℕ) (side : Side) (len : ℕ) → ((e : LinkEnd) → o ≡ Some e → e.other < w.count) →
        (s : Sending) → stop_message r o old side len ≡ Some s → s.to < w.count
    unfolding stop_message
    stop_goes r None old side len h s e = cc
    stop_goes r (Some d) old side len h s e = let t : d.other ≡ s.to = sent _ s e in subst (λ n. n < w.count) t (h d refl)
      where
        sent : (x y : Sending) → Some x ≡ Some y → x.to ≡ y.to
        sent x y e = ap (λ z. z.to) (same_Some x y e)

    will_stop_goes : (o : Option LinkEnd) (len : ℕ) → ((e : LinkEnd) → o ≡ Some e → e.other < w.count) → (s : Sending) →
        will_stop_message o len ≡ Some s → s.to < w.count
    unfolding will_stop_message
    will_stop_goes None len h s e = cc
    will_stop_goes (Some d) len h s e = let t : d.other ≡ s.to = sent _ s e in subst (λ n. n < w.count) t (h d refl)
      where
        sent : (x y : Sending) → Some x ≡ Some y → x.to ≡ y.to
        sent x y e = ap (λ z. z.to) (same_Some x y e)

    second : (a b : Bool) → (a && b) ≡ true → b ≡ true
    second true b e = e
    second false b e = cc

    first : (a b : Bool) → (a && b) ≡ true → a ≡ true
    first true b e = refl
    first false b e = cc

    passes_target : (o : Option Found) (p q : Router → Bool) (t : Bool) (f : Found) → o ≡ Some f →
        passes_at o (λ r. p r && (t && q r)) ≡ true → t ≡ true
    unfolding passes_at
    passes_target None p q t f e h = cc
    passes_target (Some x) p q t f e h = first t (q x.router) (second (p x.router) (t && q x.router) h)

    boxed-handle : (m : Message) (o : Option ℕ) → fits (node_at w n) from m o ≡ true → IsBoxed w.count (handle (node_at w n) from m)
    unfolding handle fits passes_at
    boxed-handle (messages.Item link side number item moves) o fit =
        boxed-found w.count (node_at w n) (link_router (node_at w n) link side) _ boxed (λ f e.
        let x = with_router (node_at w n) f.serial (accept f.router (outward_has f.router link side) number item) in
        same_boxes w.count (node_at w n) (make_terminals x from moves) (boxes-make x from moves) boxed)
    boxed-handle (messages.BypassPeer link side old target fresh) o fit =
        boxed-found w.count (node_at w n) (link_router (node_at w n) link side) _ boxed
        (λ f e. boxed-tell w.count (with_router (node_at w n) f.serial (bypass_peer f.router target fresh))
        (Some (accept_message f.router old target fresh)) boxed (λ s h.
        let t : nat_lt target (node_at w n).count ≡ true = passes_target (link_router (node_at w n) link side)
        (λ r. fits_bypass_peer r link side) (λ r. not (is_named (node_at w n) (Central fresh) r.end.side))
        (nat_lt target (node_at w n).count) f e fit in
        let u : target < w.count = subst (λ c. target < c) (law.counts.nodes n l) (grind (arith, t, nat_tests)) in
        subst (λ n. n < w.count) (ap (λ (z : Sending). z.to) (same_Some (accept_message f.router old target fresh) s h)) u))
    boxed-handle (messages.AcceptBypass old side fresh len) o fit =
        boxed-found w.count (node_at w n) (link_router (node_at w n) (Central old) side) _ boxed
        (λ f e. boxed-tell w.count _ _ boxed (stop_goes f.router f.router.outward.primary old side len
        (found_below (Central old) side f e).primary))
    boxed-handle (messages.StopProxying side old in_length out_length) o fit =
        boxed-found w.count (node_at w n) (link_router (node_at w n) (Central old) side) _ boxed
        (λ f e. boxed-tell w.count _ _ boxed (will_stop_goes (inward_edge f.router).decaying in_length
        (found_below (Central old) side f e).inner_decaying))
    boxed-handle (messages.ProxyWillStop link side in_length) o fit =
        boxed-found w.count (node_at w n) (link_router (node_at w n) link side) _ boxed (λ f e. boxed)
    boxed-handle (messages.Flush link side) o fit = boxed-found w.count (node_at w n) (link_router (node_at w n) link side) _ boxed
        (λ f e. boxed)

    -- a message in hand
    pub boxed-deliver : (m : Message) (o : Option ℕ) → IsBoxed w.count (deliver (node_at w n) from m o)
    unfolding deliver
    boxed-deliver m o = go (fits (node_at w n) from m o) refl
      where
        go : (c : Bool) → fits (node_at w n) from m o ≡ c → IsBoxed w.count
            (if c then handle (node_at w n) from m else add_stray (node_at w n) m)
        go true e = boxed-handle m o e
        go false e = boxed
