-- The proxy learns its lengths, and tells the router inward.
use Rattle.ipcz_world.proofs.frames.Sealing.{begun_of}
use Rattle.ipcz_world.proofs.frames.LiveLinks.{live-kept}
use Rattle.ipcz_world.proofs.frames.Sealing.{live_of}
use Rattle.ipcz_world.proofs.Vocabulary.{Weight, in_router, Side, A, B, End, LinkId, Central, LinkEnd, Descriptor, Item, Message, opposite, has_link}
use Rattle.ipcz_world.proofs.Vocabulary.{Router, router_has, inward_edge, Edge, World, Key, mail_at, way, router_at, Books, Records}
use Rattle.ipcz_world.proofs.Vocabulary.{is_begun, inner_link, side_node, side_router, bypass_of, proxy_side, known_from, has_decaying}
use Rattle.ipcz_world.proofs.Vocabulary.{has_inward_decaying, IsUnderWay, makes, is_made_before, under_way, moves_of, of_end, total_list, Controls}
use Rattle.ipcz_world.proofs.Vocabulary.{of_bypass, control_weight, inner_of, Inv, no_edge, stop_proxying, is_proxy, is_begun_router, side_end}
use Rattle.ipcz_world.specs.Places.{in_message as in_message'}
use Rattle.std.specs.Prelude.{◌≡◌, ◌≢◌, ◌⊎◌, ◌<◌, ◌≤◌, ℕ, ◌+◌, true, false, nat_eq, is_some, is_none, option_map, unwrap_or, Option, Some}
use Rattle.std.specs.Prelude.{None, List, refl}
use Rattle.std.proofs.Common.{arith, ap, ◌∙◌, sym, inl, inr}
use Rattle.std.proofs.lemmas.Bool.Decides.{nat_tests}
use Rattle.std.proofs.lemmas.Option.{none-some, same_Some}
use Rattle.ipcz_base.specs.declared.message.Message.TheVariants as messages
use Rattle.ipcz_edge.specs.Edge.{set_length_to, set_length_from}
use Rattle.ipcz_world.specs.declared.mail.Mail.TheVariants as mails
use Rattle.ipcz_world.proofs.frames.RecordRules.{bypass_of-inner, is_recorded-central}
use Rattle.ipcz_world.proofs.facts.Tests.{none_is, and_first, and_second}
use Rattle.ipcz_world.proofs.facts.RecordsAfter.{told_records}
use Rattle.ipcz_world.proofs.frames.OfRecords.{in_places}
use Rattle.ipcz_world.proofs.facts.Updates.{CanHand, stop_act}
use Rattle.ipcz_world.proofs.frames.Handing.{handed_on, place_before, was_under_way, was_made_before, under_way-handed_on, word-handed_on}
use Rattle.ipcz_world.proofs.frames.Handing.{hand-handed_on, mail-handed_on, changed-handed_on}
use Rattle.ipcz_world.proofs.frames.Placing.{places-handed_on}
use Rattle.ipcz_world.proofs.frames.Unmoved.{IsLike, Changed, Carried, Agree, side_node-agree, proxy_side-agree, bypass_of-agree, about-agree, expected-agree}
use Rattle.ipcz_world.proofs.frames.Unmoved.{places-agree, ordered-kept, spares-kept, moves-kept, terminals-kept, end_places-kept}
use Rattle.ipcz_world.proofs.frames.Unmoved.{books_kept-kept, conserved-kept, held_once-kept, no_strays-kept}
use Rattle.ipcz_world.proofs.frames.Counting.{IsReceived, counts-received}
use Rattle.ipcz_world.proofs.facts.Lengths.{HasEnd, has_link-tells, passed, known_from-yes, known_from-no}
use Rattle.ipcz_world.proofs.acts.BypassAsked.{IsStopped, stopped}
use Rattle.ipcz_world.proofs.frames.Roles.{Begun, HasRole, Roles, end_of, trim-decays, end-is}
use Rattle.ipcz_world.proofs.frames.RolesKept.{Knows, end-kept}
use Rattle.ipcz_world.proofs.frames.StageFurther as further
use Rattle.ipcz_world.proofs.frames.StageFurtherNumbers as numbers
use Rattle.ipcz_world.proofs.frames.StageFurther.{IsLinkedLike}
use Rattle.ipcz_world.proofs.frames.Sealing.{Sealed, Closed, opened, counts_of, links_of, positions_of, bypasses_of, stages_of, controls_of}
use Rattle.ipcz_world.proofs.frames.Sealing.{ordered_of, spares_of, moves_of as moves_law, terminals_of, end_places_of, books_kept_of}
use Rattle.ipcz_world.proofs.frames.Sealing.{conserved_of, held_once_of, no_strays_of}
use Rattle.ipcz_world.proofs.frames.Having.{has_at}

-- what the hand of the message needs: the router that has the old link is asked; its inward decaying link is e
pub record CanStop (w : World) (from : ℕ) (k : Key) (r : Router) (e : LinkEnd) (o : ℕ) (side : Side) (in_length out_length : ℕ) : Type 0
  where
    pub hand : CanHand w from k r (messages.StopProxying side o in_length out_length)
    pub has : router_has r (Central o) side ≡ true
    pub on : (inward_edge r).decaying ≡ Some e

abbrev learned : ℕ → ℕ → Edge → Edge
learned in_length out_length edge = set_length_from (set_length_to edge in_length) out_length

abbrev edge_in : Option Edge → Edge
edge_in t = unwrap_or t no_edge

none_mapped : (t : Option Edge) (f : Edge → Edge) → is_none (option_map f t) ≡ is_none t
none_mapped None f = refl
none_mapped (Some c) f = refl

module _ (w : World) (b : Books) (g : Records) (from : ℕ) (k : Key) (r : Router) (e : LinkEnd) (o : ℕ) (side : Side)
    (in_length out_length : ℕ) (law : Sealed w b g) (can : Closed (CanStop w from k r e o side in_length out_length)) where
  pub here : router_at w k ≡ Some r
  here = (opened can).hand.here

  pub in_hand : mail_at w (way w from k.node) ≡ mails.Hand (messages.StopProxying side o in_length out_length)
  in_hand = (opened can).hand.in_hand

  pub on : (inward_edge r).decaying ≡ Some e
  on = (opened can).on

  on_node : k.node < w.count
  on_node = (counts_of law).on_node k r here

  from_node : from < w.count
  from_node = (counts_of law).hand_from k.node from on_node (opened can).hand.hand

  pub is : IsStopped g from k o side in_length out_length
  is = stopped w g from k o side in_length out_length (controls_of law) from_node on_node in_hand

  begun : is_begun (g.bypass o) ≡ true
  begun = grind (arith, is.stage, nat_tests)

  -- the router is the proxy
  known : side_router g (Central o) (proxy_side g o) ≡ Some k
  known = rw is.at_side at ((has_at w g k r (Central o) side (links_of law) here (opened can).has).router)

  proxy_is : (g.bypass o).proxy ≡ k
  proxy_is = same_Some _ _ (sym ((bypasses_of law o).proxy_old begun) ∙ known)

  pub y_old : has_link r.outward.decaying (Central o) (proxy_side g o) ≡ true
  y_old = sym (passed w k r (has_decaying (Central o) (proxy_side g o)) here) ∙ rw proxy_is at
      ((stages_of law o).proxy_old begun (omega (arith, is.stage)))

  y_inner : has_link (inward_edge r).decaying (inner_of g o) A ≡ true
  y_inner = sym (passed w k r (has_inward_decaying (inner_of g o) A) here) ∙ rw proxy_is at
      ((stages_of law o).proxy_inner begun (omega (arith, is.stage)))

  pub y_end : HasEnd r.outward.decaying (Central o) (proxy_side g o)
  y_end = has_link-tells r.outward.decaying (Central o) (proxy_side g o) y_old

  pub inner_end : HasEnd (inward_edge r).decaying (inner_of g o) A
  inner_end = has_link-tells (inward_edge r).decaying (inner_of g o) A y_inner

  e_is : e ≡ inner_end.end
  e_is = same_Some _ _ (sym on ∙ inner_end.there)

  on_inner : e.link ≡ inner_of g o
  on_inner = ap (λ d. d.link) e_is ∙ inner_end.on_link

  at_a : e.side ≡ A
  at_a = ap (λ d. d.side) e_is ∙ inner_end.at_side

  alone : r.outward.primary ≡ None
  alone = ((positions_of law).each k r here).own_alone y_end.end o y_end.there y_end.on_link y_end.at_side

  pub y_begun : g.begun k ≡ Some o
  y_begun = ap g.begun (sym proxy_is) ∙ (begun_of law).proxy_begun o begun

  abbrev x : Router
  x = stop_proxying r in_length out_length

  abbrev sent : Message
  sent = messages.ProxyWillStop e.link (opposite e.side) in_length

  abbrev v : World
  v = handed_on w from k x e.other sent

  abbrev came : Message
  came = messages.StopProxying side o in_length out_length

  like : IsLike r x
  like = record {
    end = refl;
    out_queue = refl;
    in_queue = refl;
    terminal = none_mapped r.inward (learned in_length out_length);
    closed =
        refl;
    mark_seen = refl;
    mark_dropped = refl;
    gone_sent = refl;
    spare = refl;
  }

  edge_kept : (t : Option Edge) → (edge_in (option_map (learned in_length out_length) t)).primary ≡ (edge_in t).primary
  edge_kept None = refl
  edge_kept (Some c) = refl

  edge_kept-decaying : (t : Option Edge) → (edge_in (option_map (learned in_length out_length) t)).decaying ≡ (edge_in t).decaying
  edge_kept-decaying None = refl
  edge_kept-decaying (Some c) = refl

  edge_learned : (t : Option Edge) (d : LinkEnd) → (edge_in t).decaying ≡ Some d →
      ((edge_in (option_map (learned in_length out_length) t)).length_to ≡ Some in_length) ×
      ((edge_in (option_map (learned in_length out_length) t)).length_from ≡ Some out_length)
  edge_learned None d m = absurd (none-some d m)
  edge_learned (Some c) d m = (refl, refl)

  linked : IsLinkedLike r x
  linked = record {
    primary = refl;
    decaying = refl;
    inward_primary = edge_kept r.inward;
    inward_decaying = edge_kept-decaying r.inward;
    marked = refl;
    holds = refl;
  }

  changed : Changed w v k r x
  changed = changed-handed_on w from k r x e.other sent here

  was : (a c i : ℕ) (m : Message) → (m ≡ sent → ⊥) → IsUnderWay v a c i m → IsUnderWay w a c (place_before from k.node a c i) m
  was a c i m new u = go (was_under_way w from k x e.other sent came a c i m on_node in_hand u)
    where
      go : IsUnderWay w a c (place_before from k.node a c i) m ⊎ (m ≡ sent) → IsUnderWay w a c (place_before from k.node a c i) m
      go (inl t) = t
      go (inr t) = absurd (new t)

  was_item : (a c i : ℕ) (l : LinkId) (s : Side) (n : ℕ) (item : Item) (moves : List Descriptor) →
      IsUnderWay v a c i (messages.Item l s n item moves) → IsUnderWay w a c (place_before from k.node a c i)
      (messages.Item l s n item moves)
  was_item a c i l s n item moves u = was a c i (messages.Item l s n item moves) (λ m. grind (arith, m)) u

  abbrev carried : Carried w v
  carried = record { place = place_before from k.node; was = was_item }

  made : (a c i : ℕ) (l : LinkId) (s : Side) → c < w.count → is_made_before w a c (place_before from k.node a c i) l s ≡ true →
      is_made_before v a c i l s ≡ true
  unfolding makes
  made a c i l s m = was_made_before w from k x e.other sent came a c i l s on_node m in_hand refl

  late : 3 ≤ 3
  late = omega arith

  early : 3 ≤ 4
  early = omega arith

  abbrev h : Records
  h = further.h law changed like linked carried is.stage late early

  agree : Agree g h
  agree = further.agree law changed like linked carried is.stage late early

  itself : (n : ℕ) → nat_eq n n ≡ true
  itself n = grind (arith, nat_tests)

  stage_after : (h.bypass o).stage ≡ 4
  stage_after = rw (itself o) refl

  at_o : (j : ℕ) → ((nat_eq j o ≡ true) × (j ≡ o)) ⊎ ((nat_eq j o ≡ false) × (j ≢ o))
  at_o j = grind (arith, nat_tests)

  abbrev At : ℕ → Type 0
  At j = ((nat_eq j o ≡ true) × (j ≡ o)) ⊎ ((nat_eq j o ≡ false) × (j ≢ o))

  known4 : (n : ℕ) → known_from 4 (h.bypass o).stage n ≡ Some n
  known4 n = rw stage_after (known_from-yes 4 4 n (omega arith))

  known5 : (j n : ℕ) → known_from 5 (h.bypass j).stage n ≡ known_from 5 (g.bypass j).stage n
  known5 j n = grind (arith, at_o j, is.stage, known_from-no 5 4 n, known_from-no 5 3 n)

  abbrev knows : Knows w v g h
  knows = further.knows law changed like linked carried is.stage late early

  -- the proxy has both its links, and knows their lengths
  own : HasRole v h k x
  unfolding side_end
  own = record {
    role = Begun o true true;
    proxy = further.proxy_like r x like ∙ and_first (is_proxy r) _ has_begun;
    outward = trim-decays x.outward None (end_of h (Central o) (proxy_side h o)) _ _ alone (y_end.there ∙ ap Some old)
        (ap Some (is.taken ∙ sym taken) ∙ sym (known4 _)) (ap Some (is.accepted ∙ sym accepted) ∙ sym (known4 _));
    inward = trim-decays (inward_edge x) None (end_of h (inner_of h o) A) _ _ (linked.inward_primary ∙ none_is _ (and_second (is_proxy r) _ has_begun)) (linked.inward_decaying ∙ inner_end.there ∙ ap Some inner)
        ((edge_learned r.inward e on).0 ∙ ap Some (is.accepted ∙ sym accepted) ∙ sym (known4 _))
        ((edge_learned r.inward e on).1 ∙ ap Some (is.taken ∙ sym taken) ∙ sym (known4 _));
    fits = (y_begun, rw (itself o) ((stages_of law o).proxy_end r begun here_proxy));
  }
    where
      here_proxy : router_at w (g.bypass o).proxy ≡ Some r
      here_proxy = ap (router_at w) proxy_is ∙ here

      has_begun : is_begun_router r ≡ true
      has_begun = (stages_of law o).proxy_begun r begun here_proxy

      taken : (h.bypass o).taken_at ≡ (g.bypass o).taken_at
      taken = rw (itself o) refl

      accepted : (h.bypass o).accepted_at ≡ (g.bypass o).accepted_at
      accepted = rw (itself o) refl

      old : y_end.end ≡ end_of h (Central o) (proxy_side h o)
      old = end-is ((links_of law k r here).decaying y_end.end y_end.there) ∙ (λ t. end_of g (y_end.on_link t) (y_end.at_side t)) ∙
          sym (end-kept knows (Central o) (proxy_side g o) (is_recorded-central w g o ∙ (bypasses_of law o).old begun)) ∙
          ap (end_of h (Central o)) (sym (proxy_side-agree g h agree o))

      inner : inner_end.end ≡ end_of h (inner_of h o) A
      inner = end-is ((links_of law k r here).inward_decaying inner_end.end inner_end.there) ∙
          (λ t. end_of g (inner_end.on_link t) (inner_end.at_side t)) ∙ sym (end-kept knows (inner_of g o) A ((bypasses_of law o).inner begun)) ∙
          ap (λ i. end_of h (inner_link i) A) (sym (agree.inner o))

  roles : Roles v h
  roles = further.roles-further law changed like linked carried is.stage late early (λ q j n apart f. known5 j n)
      (λ q j n apart b. elim (at_o j) [
        | inl a ↦ absurd (apart (sym ((begun_of law).begun_proxy q o (b ∙ ap Some a.1)) ∙ proxy_is))
        | inr a ↦ rw a.0 refl
      ]) own

  y_is : (t : Router) → router_at w (g.bypass o).proxy ≡ Some t → r ≡ t
  y_is t m = same_Some r t (sym here ∙ ap (router_at w) (sym proxy_is) ∙ m)

  proxy_owes : numbers.ProxyOwes law changed like linked carried is.stage late early
  proxy_owes = record {
    out_finished = λ t m n. absurd (none-some y_end.end (sym (ap (λ u. u.outward.decaying) (y_is t m) ∙ n) ∙ y_end.there));
    in_finished = λ t m n. absurd (none-some e (sym (ap (λ u. (inward_edge u).decaying) (y_is t m) ∙ n) ∙ on));
    inner_there = λ m. absurd (omega (arith, m));
  }

  e_other : e.other ≡ side_node g (inner_of g o) B
  e_other = (((links_of law) k r here).inward_decaying e on).other ∙ ap (λ l. side_node g l (opposite e.side)) on_inner ∙ ap
      (λ s. side_node g (inner_of g o) (opposite s)) at_a

  to_node : e.other < w.count
  to_node = rw e_other ((counts_of law).side_on_node (inner_of g o) B ((bypasses_of law o).inner begun))

  by_o : bypass_of g (inner_of g o) ≡ Some o
  by_o = bypass_of-inner g (g.bypass o).inner ∙ (bypasses_of law o).inner_by begun

  expected_before : (t : ℕ → ℕ → Message → ℕ) → control_weight g t o ≡ t from k.node came
  unfolding control_weight
  expected_before t = rw is.stage (λ i. t (sym is.sender i) (sym is.receiver i)
      (messages.StopProxying (sym is.at_side i) o (sym is.accepted i) (sym is.taken i)))

  expected_after : (t : ℕ → ℕ → Message → ℕ) → control_weight h t o ≡ t k.node e.other sent
  unfolding control_weight
  expected_after t = rw stage_after (λ i. t (proxy i) (inward i) (messages.ProxyWillStop (link i) (b_side i) (accepted i)))
    where
      proxy : (h.bypass o).proxy.node ≡ k.node
      proxy = ap (λ q. q.node) (agree.proxy o ∙ proxy_is)

      inward : side_node h (inner_of h o) B ≡ e.other
      inward = ap (λ p. side_node h (inner_link p) B) (agree.inner o) ∙ side_node-agree g h agree (inner_of g o) B ∙ sym e_other

      link : inner_of h o ≡ e.link
      link = ap inner_link (agree.inner o) ∙ sym on_inner

      b_side : B ≡ opposite e.side
      b_side = ap opposite (sym at_a)

      accepted : (h.bypass o).accepted_at ≡ in_length
      accepted = further.accepted_same law changed like linked carried is.stage late early o ∙ sym is.accepted

  about_came : (t : Message → ℕ) → of_bypass g o t came ≡ t came
  unfolding of_bypass
  about_came t = rw (itself o) refl

  about_sent : (t : Message → ℕ) → of_bypass g o t sent ≡ t sent
  unfolding of_bypass
  about_sent t = rw (on_inner, by_o, itself o) refl

  about_none : (j : ℕ) (f f' : Message → ℕ) → nat_eq o j ≡ false → of_bypass g j f sent ≡ of_bypass g j f' came
  unfolding of_bypass
  about_none j f f' m = rw (on_inner, by_o, m) refl

  controls-stop : Controls v h
  controls-stop = record {
    control = λ j t. control_at j t (at_o j);
    will_stop = λ a c i l s n u. ap is_some (bypass_of-agree g h agree l) ∙ will_stop_at a c i l s n
        (was_under_way w from k x e.other sent came a c i (messages.ProxyWillStop l s n) on_node in_hand u);
    behind = λ a c i l s old target new u none. let u' : IsUnderWay w a c (place_before from k.node a c i)
        (messages.BypassPeer l s old target new) = was a c i (messages.BypassPeer l s old target new) (λ m. grind (arith, m)) u in
        made a c i l s u'.receiver ((controls_of law).behind a c (place_before from k.node a c i) l s old target new u'
        (sym (further.router_same law changed like linked carried is.stage late early l s) ∙ none));
    flush_central = λ a c i l s u. (controls_of law).flush_central a c (place_before from k.node a c i) l s
        (was a c i (messages.Flush l s) (λ m. grind (arith, m)) u);
    flush_recorded = λ a c i l s u. further.recorded_same law changed like linked carried is.stage late early l ∙
        (controls_of law).flush_recorded a c (place_before from k.node a c i) l s (was a c i (messages.Flush l s) (λ m. grind (arith, m)) u);
    flush_to = λ a c i l s u. (controls_of law).flush_to a c (place_before from k.node a c i) l s
        (was a c i (messages.Flush l s) (λ m. grind (arith, m)) u) ∙ sym (side_node-agree g h agree l s);
    flush_from = λ a c i l s u. (controls_of law).flush_from a c (place_before from k.node a c i) l s
        (was a c i (messages.Flush l s) (λ m. grind (arith, m)) u) ∙ sym (side_node-agree g h agree l (opposite s));
  }
    where
      link_of : Message → LinkId
      link_of (messages.Item l s n item moves) = l
      link_of (messages.BypassPeer l s old target new) = l
      link_of (messages.AcceptBypass old s new n) = Central old
      link_of (messages.StopProxying s old i u) = Central old
      link_of (messages.ProxyWillStop l s i) = l
      link_of (messages.Flush l s) = l

      will_stop_at : (a c i : ℕ) (l : LinkId) (s : Side) (n : ℕ) →
          IsUnderWay w a c (place_before from k.node a c i) (messages.ProxyWillStop l s n) ⊎ (messages.ProxyWillStop l s n ≡ sent) →
          is_some (bypass_of g l) ≡ true
      will_stop_at a c i l s n (inl u) = (controls_of law).will_stop a c (place_before from k.node a c i) l s n u
      will_stop_at a c i l s n (inr m) = ap (λ z. is_some (bypass_of g z)) (ap link_of m ∙ on_inner) ∙ ap is_some by_o

      control_at : (j : ℕ) (t : ℕ → ℕ → Message → ℕ) → At j → under_way (λ a c. of_bypass h j (t a c)) v ≡ control_weight h t j
      control_at j t m = omega (arith, same, moved, (controls_of law).control j t, weighs m)
        where
          same : under_way (λ a c. of_bypass h j (t a c)) v ≡ under_way (λ a c. of_bypass g j (t a c)) v
          same = ap (λ f. under_way f v) (λ i a c m. about-agree g h agree j (t a c) m i)

          moved : under_way (λ a c. of_bypass g j (t a c)) v + of_bypass g j (t from k.node) came ≡ under_way (λ a c. of_bypass g j (t a c))
              w + of_bypass g j (t k.node e.other) sent
          moved = under_way-handed_on (λ a c. of_bypass g j (t a c)) w from k x e.other sent came from_node on_node to_node in_hand

          weighs : At j → control_weight g t j + of_bypass g j (t k.node e.other) sent ≡ control_weight h t j + of_bypass g j
              (t from k.node) came
          weighs (inl m) = rw m.1 (omega (
            arith,
            expected_before t,
            expected_after t,
            about_came (t from k.node),
            about_sent (t k.node e.other),
          ))
          weighs (inr m) = omega (
            arith,
            expected-agree g h agree t j (rw m.0 refl),
            about_none j (t k.node e.other) (t from k.node) (grind (arith, m.0, nat_tests)),
          )

  descriptors : (t : End) (f : Descriptor → ℕ) → under_way (λ a c m. total_list (of_end t f) (moves_of m)) v ≡ under_way
      (λ a c m. total_list (of_end t f) (moves_of m)) w
  unfolding moves_of
  descriptors t f = omega (
    arith,
    under_way-handed_on (λ a c m. total_list (of_end t f) (moves_of m)) w from k x e.other sent came from_node
        on_node to_node in_hand,
  )

  places : (f : Weight) → in_places f h v ≡ in_places f g w
  unfolding in_message' in_router
  places f = places-agree g h agree f v ∙ omega (
    arith,
    places-handed_on f g w from k r x e.other sent came from_node on_node to_node here
        in_hand,
  )

  received : IsReceived w v from k.node
  received = record { hand = hand-handed_on w from k x e.other sent; mail = mail-handed_on w from k x e.other sent }

  -- the proxy is told: all that always holds holds still
  pub inv-stop : Inv (stop_act w from k r e in_length out_length) b (told_records g o)
  unfolding handed_on
  inv-stop = record {
    counts = counts-received w v g h from k r x changed received (counts_of law) (opened can).hand.hand (λ i. refl)
        (λ l s q rec m. inl (
          sym (further.recorded_same law changed like linked carried is.stage late early l) ∙ rec,
          sym (further.router_same law changed like linked carried is.stage late early l s) ∙ m,
        ))
        (λ l s rec. rw (side_node-agree g h agree l s) ((counts_of law).side_on_node l s
        (sym (further.recorded_same law changed like linked carried is.stage late early l) ∙ rec)));
    ordered = ordered-kept w v g h k r x changed agree like (ordered_of law);
    shape = further.shape-further law changed like linked carried is.stage late early;
    roles = roles;
    begun = further.begun-further law changed like linked carried is.stage late early;
    stands = further.stands-further law changed like linked carried is.stage late early;
    words = further.words-further law changed like linked carried is.stage late early
        (word-handed_on w from k x e.other sent);
    spares = spares-kept w v g h k r x changed agree like (λ i. refl) (λ j st. grind (arith, st, at_o j, is.stage)) (spares_of law);
    bypasses = further.bypasses-further law changed like linked carried is.stage late early;
    live = live-kept g h (λ i l. l) (λ i. refl) (λ j st. grind (arith, st, at_o j, is.stage)) agree.is_begun (live_of law);
    stages = further.stages-further law changed like linked carried is.stage late early;
    controls = controls-stop;
    moves = moves-kept w v g h k r x changed agree carried descriptors (moves_law law);
    terminals = terminals-kept w v g h k r x changed agree like (terminals_of law);
    end_places = end_places-kept w v g h k r x changed agree like carried (end_places_of law);
    books_kept = books_kept-kept w v g h k r x changed agree b like (books_kept_of law);
    retired_ends = further.retired-further law changed like linked carried is.stage late early;
    gones = further.gones-further law changed like linked carried is.stage late early;
    items = numbers.items-further law changed like linked carried is.stage late early
        (record { made = λ a c i l s n item moves u. made a c i l s (carried.was a c i l s n item moves u).receiver });
    order = numbers.order-further law changed like linked carried is.stage late early;
    proxy_numbers = numbers.proxy_numbers-further law changed like linked carried is.stage late early proxy_owes;
    fresh_numbers = numbers.fresh_numbers-further law changed like linked carried is.stage late early
        (λ p d len prim dec l. absurd (none-some p (sym alone ∙ prim)));
    conserved = conserved-kept w v g h k r x changed agree b like carried places (conserved_of law);
    held_once = held_once-kept w v g h k r x changed agree b carried places (held_once_of law);
    no_strays = no_strays-kept w v g h k r x changed agree (no_strays_of law);
  }
