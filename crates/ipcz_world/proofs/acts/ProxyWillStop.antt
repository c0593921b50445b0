-- The router inward learns its length: the last message of a bypass.
use Rattle.ipcz_world.proofs.frames.LiveLinks.{live-kept}
use Rattle.ipcz_world.proofs.frames.Sealing.{live_of}
use Rattle.ipcz_world.proofs.Vocabulary.{Weight, in_router, Side, B, End, LinkId, Descriptor, Message, opposite, has_link, Router}
use Rattle.ipcz_world.proofs.Vocabulary.{router_has, inward_edge, World, Key, mail_at, way, router_at, Books, Records, is_begun, inner_link}
use Rattle.ipcz_world.proofs.Vocabulary.{side_router, bypass_of, proxy_side, known_from, Standing, is_gone, view, has_decaying}
use Rattle.ipcz_world.proofs.Vocabulary.{IsUnderWay, makes, is_made_before, under_way, moves_of, of_end, total_list, Controls, of_bypass}
use Rattle.ipcz_world.proofs.Vocabulary.{control_weight, inner_of, Inv, proxy_will_stop, is_proxy, fresh_of, A}
use Rattle.ipcz_world.specs.Places.{in_message as in_message'}
use Rattle.std.specs.Prelude.{◌≡◌, ◌≢◌, ◌⊎◌, ◌<◌, ◌≤◌, ℕ, ◌+◌, true, false, nat_eq, is_some, Option, Some, refl}
use Rattle.std.proofs.Common.{arith, ap, ◌∙◌, sym, inl, inr}
use Rattle.std.proofs.lemmas.Bool.Decides.{nat_tests}
use Rattle.std.proofs.lemmas.Option.{same_Some, none-some}
use Rattle.ipcz_base.specs.declared.message.Message.TheVariants as messages
use Rattle.ipcz_world.specs.declared.mail.Mail.TheVariants as mails
use Rattle.ipcz_world.proofs.facts.RecordsAfter.{ended_records}
use Rattle.ipcz_world.proofs.frames.OfRecords.{in_places}
use Rattle.ipcz_world.proofs.facts.Updates.{CanHand, will_stop_act}
use Rattle.ipcz_world.proofs.frames.Handing.{handed, place_before, was_under_way-handed, was_made_before-handed, under_way-handed}
use Rattle.ipcz_world.proofs.frames.Handing.{word-handed, hand-handed, mail-handed, changed-handed}
use Rattle.ipcz_world.proofs.frames.Placing.{places-handed}
use Rattle.ipcz_world.proofs.frames.Unmoved.{IsLike, Changed, Carried, Agree, side_node-agree, proxy_side-agree, bypass_of-agree, about-agree, expected-agree}
use Rattle.ipcz_world.proofs.frames.Unmoved.{places-agree, ordered-kept, spares-kept, moves-kept, terminals-kept, end_places-kept}
use Rattle.ipcz_world.proofs.frames.Unmoved.{books_kept-kept, conserved-kept, held_once-kept, no_strays-kept}
use Rattle.ipcz_world.proofs.frames.Counting.{IsReceived, counts-received}
use Rattle.ipcz_world.proofs.facts.Lengths.{HasEnd, has_link-tells, passed, is_attached-inner, view-standing}
use Rattle.ipcz_world.proofs.facts.Lengths.{known_from-yes}
use Rattle.ipcz_world.proofs.acts.BypassAsked.{IsEnded, ended}
use Rattle.ipcz_world.proofs.frames.Roles.{On, Across, Inward, Role, Unbegun, Begun, has_inner, outward_of, inward_of, standing_edge, Fits, HasRole, Roles}
use Rattle.ipcz_world.proofs.frames.Roles.{end_of, trim, trim-decays, trim-tells, inner-one}
use Rattle.ipcz_world.proofs.frames.RolesKept.{Knows, end-kept, on-kept, inward-kept}
use Rattle.ipcz_world.proofs.frames.StageFurther as further
use Rattle.ipcz_world.proofs.frames.StageFurtherNumbers as numbers
use Rattle.ipcz_world.proofs.frames.StageFurther.{IsLinkedLike}
use Rattle.ipcz_world.proofs.frames.Sealing.{Sealed, Closed, opened, counts_of, links_of, bypasses_of, stages_of, roles_of}
use Rattle.ipcz_world.proofs.frames.Sealing.{controls_of, proxy_numbers_of, fresh_numbers_of, ordered_of, spares_of, moves_of as moves_law}
use Rattle.ipcz_world.proofs.frames.Sealing.{terminals_of, end_places_of, books_kept_of, conserved_of, held_once_of, no_strays_of}
use Rattle.ipcz_world.proofs.frames.Having.{has_at}

-- what the hand of the message needs: the router that has the link is asked
pub record CanEnd (w : World) (g : Records) (from : ℕ) (k : Key) (r : Router) (o : ℕ) (link : LinkId) (side : Side) (length : ℕ) : Type 0
  where
    pub hand : CanHand w from k r (messages.ProxyWillStop link side length)
    pub has : router_has r link side ≡ true
    pub by : bypass_of g link ≡ Some o

module _ (w : World) (b : Books) (g : Records) (from : ℕ) (k : Key) (r : Router) (o : ℕ) (link : LinkId) (side : Side) (length : ℕ)
    (law : Sealed w b g) (can : Closed (CanEnd w g from k r o link side length)) where
  pub here : router_at w k ≡ Some r
  here = (opened can).hand.here

  pub in_hand : mail_at w (way w from k.node) ≡ mails.Hand (messages.ProxyWillStop link side length)
  in_hand = (opened can).hand.in_hand

  on_node : k.node < w.count
  on_node = (counts_of law).on_node k r here

  from_node : from < w.count
  from_node = (counts_of law).hand_from k.node from on_node (opened can).hand.hand

  pub is : IsEnded g from k o link side length
  is = ended w g from k o link side length (controls_of law) from_node on_node (opened can).by in_hand

  pub begun : is_begun (g.bypass o) ≡ true
  begun = grind (arith, is.stage, nat_tests)

  -- the router is the one inward
  known : side_router g (inner_of g o) B ≡ Some k
  known = rw (is.on_link, is.at_side) at ((has_at w g k r link side (links_of law) here (opened can).has).router)

  pub z_inner : has_link r.outward.decaying (inner_of g o) B ≡ true
  z_inner = sym (passed w k r (has_decaying (inner_of g o) B) here) ∙ rw known at
      ((stages_of law o).inner_decaying (omega (arith, is.stage)) (omega (arith, is.stage)))

  pub z_end : HasEnd r.outward.decaying (inner_of g o) B
  z_end = has_link-tells r.outward.decaying (inner_of g o) B z_inner

  abbrev x : Router
  x = proxy_will_stop r length

  abbrev v : World
  v = handed w from k x

  like : IsLike r x
  like = record { end = refl; out_queue = refl; in_queue = refl; terminal = refl; closed = refl; mark_seen = refl; mark_dropped = refl; gone_sent = refl; spare = refl }

  linked : IsLinkedLike r x
  linked = record { primary = refl; decaying = refl; inward_primary = refl; inward_decaying = refl; marked = refl; holds = refl }

  changed : Changed w v k r x
  changed = changed-handed w from k r x here

  abbrev came : Message
  came = messages.ProxyWillStop link side length

  was : (a c i : ℕ) (m : Message) → IsUnderWay v a c i m → IsUnderWay w a c (place_before from k.node a c i) m
  was a c i m u = was_under_way-handed w from k x came a c i m on_node in_hand u

  abbrev carried : Carried w v
  carried = record { place = place_before from k.node; was = λ a c i l s n item moves u. was a c i (messages.Item l s n item moves) u }

  made : (a c i : ℕ) (l : LinkId) (s : Side) (m : Message) → IsUnderWay v a c i m →
      is_made_before w a c (place_before from k.node a c i) l s ≡ true → is_made_before v a c i l s ≡ true
  unfolding makes
  made a c i l s m u = was_made_before-handed w from k x came a c i l s on_node ((was a c i m u).receiver) in_hand refl

  late : 3 ≤ 4
  late = omega arith

  early : 4 ≤ 4
  early = omega arith

  abbrev h : Records
  h = further.h law changed like linked carried is.stage late early

  agree : Agree g h
  agree = further.agree law changed like linked carried is.stage late early

  itself : (n : ℕ) → nat_eq n n ≡ true
  itself n = grind (arith, nat_tests)

  stage_after : (h.bypass o).stage ≡ 5
  stage_after = rw (itself o) refl

  at_o : (j : ℕ) → ((nat_eq j o ≡ true) × (j ≡ o)) ⊎ ((nat_eq j o ≡ false) × (j ≢ o))
  at_o j = grind (arith, nat_tests)

  known4 : (j n : ℕ) → known_from 4 (h.bypass j).stage n ≡ known_from 4 (g.bypass j).stage n
  known4 j n = grind (arith, at_o j, is.stage, known_from-yes 4 5 n, known_from-yes 4 4 n)

  abbrev knows : Knows w v g h
  knows = further.knows law changed like linked carried is.stage late early

  -- the router inward knows both lengths
  own : (a : Role) → is_proxy r ≡ has_inner a → trim r.outward ≡ outward_of g a → trim (inward_edge r) ≡ inward_of g a → Fits w g k r.end a →
      HasRole v h k x
  own (Unbegun (On l s) i) p c d f = absurd (none-some z_end.end (sym (ap (λ t. t.decaying) c) ∙ z_end.there))
  own (Unbegun (Across j) i) p c d f = absurd (grind (arith, z_end.there, z_end.on_link, ap (λ t. t.decaying) c))
  own (Begun j true z) p c d f = absurd (grind (arith, z_end.there, z_end.on_link, ap (λ t. t.decaying) c))
  own (Begun j false z) p c d f = absurd (none-some z_end.end (sym (ap (λ t. t.decaying) c) ∙ z_end.there))
  own (Unbegun (Inward j) i) p c d f = it i p (rw it-is at c) d (rw it-is at f)
    where
      it-is : j ≡ o
      it-is = inner-one (bypasses_of law) j o (grind (arith, f.1.0, nat_tests)) begun
          (ap (λ d. d.link) (same_Some _ z_end.end (sym (ap (λ t. t.decaying) c) ∙ z_end.there)) ∙ z_end.on_link)

      it : (i : Option Key) → is_proxy r ≡ is_some i → trim r.outward ≡ standing_edge g (Inward o) →
          trim (inward_edge r) ≡ inward_of g (Unbegun (Inward o) i) → Fits w g k r.end (Unbegun (Inward o) i) → HasRole v h k x
      it i p c d f = let t = trim-tells r.outward _ _ _ _ c in
          let fresh : end_of h (fresh_of h o) (proxy_side h o) ≡ end_of g (fresh_of g o) (proxy_side g o) =
          rw (agree.fresh o, proxy_side-agree g h agree o) (end-kept knows (fresh_of g o) (proxy_side g o) f.0.recorded) in
          let inner : end_of h (inner_of h o) B ≡ end_of g (inner_of g o) B =
          rw (agree.inner o) (end-kept knows (inner_of g o) B ((bypasses_of law o).inner begun)) in record {
            role = Unbegun (Inward o) i;
            proxy = p;
            outward = trim-decays x.outward _ _ _ _ (t.primary ∙ ap Some (sym fresh)) (t.decaying ∙ ap Some (sym inner)) (rw (itself o) t.length_to)
                (rw (itself o) (ap Some is.accepted ∙ sym (known_from-yes 5 5 _ (omega arith))));
            inward = d ∙ sym (inward-kept knows r.end i f.2);
            fits = (
              rw (agree.fresh o, proxy_side-agree g h agree o) (on-kept knows f.0 (further.stays-further law changed like linked carried is.stage late early _ _ f.0.stays)),
              (rw (itself o) (omega arith), rw (agree.inner o) (knows.router (inner_of g o) B k ((bypasses_of law o).inner begun) f.1.1)),
              λ q e. on-kept knows (f.2 q e) (further.stays-further law changed like linked carried is.stage late early (inner_link q) A (f.2 q e).stays),
            );
          }

  roles : Roles v h
  roles = further.roles-further law changed like linked carried is.stage late early (λ q j n apart f. elim (at_o j) [
    | inl a ↦ absurd (apart (same_Some q k (sym f.1 ∙ ap (λ i. side_router g (inner_of g i) B) a.1 ∙ known)))
    | inr a ↦ rw a.0 refl
  ]) (λ q j n apart b. known4 j n)
      (let c = roles_of law k r here in own c.role c.proxy c.outward c.inward c.fits)

  view_z : view w g (inner_of g o) B ≡ Standing r
  view_z = view-standing w g (inner_of g o) B k r known here (grind (arith, is_attached-inner (g.bypass o).inner r, z_inner))

  proxy_owes : numbers.ProxyOwes law changed like linked carried is.stage late early
  unfolding is_gone
  proxy_owes = record {
    out_finished = λ t e n. (proxy_numbers_of law).out_finished o t e (omega (arith, is.stage)) n;
    in_finished = λ t e n. (proxy_numbers_of law).in_finished o t e (omega (arith, is.stage)) n;
    inner_there = λ m. ap is_gone view_z;
  }

  expected_before : (t : ℕ → ℕ → Message → ℕ) → control_weight g t o ≡ t from k.node came
  unfolding control_weight
  expected_before t = rw is.stage (λ i. t (sym is.sender i) (sym is.receiver i)
      (messages.ProxyWillStop (sym is.on_link i) (sym is.at_side i) (sym is.accepted i)))

  expected_after : (t : ℕ → ℕ → Message → ℕ) → control_weight h t o ≡ 0
  unfolding control_weight
  expected_after t = rw stage_after refl

  about_came : (t : ℕ → ℕ → Message → ℕ) → of_bypass g o (t from k.node) came ≡ t from k.node came
  unfolding of_bypass
  about_came t = rw ((opened can).by, itself o) refl

  about_none : (j : ℕ) (f : Message → ℕ) → nat_eq o j ≡ false → of_bypass g j f came ≡ 0
  unfolding of_bypass
  about_none j f m = rw ((opened can).by, m) refl

  controls-end : Controls v h
  controls-end = record {
    control = λ j t. control_at j t (at_o j);
    will_stop = λ a c i l s n u. ap is_some (bypass_of-agree g h agree l) ∙ (controls_of law).will_stop a c (place_before from k.node a c i) l s
        n (was a c i (messages.ProxyWillStop l s n) u);
    behind = λ a c i l s old target new u none. made a c i l s (messages.BypassPeer l s old target new) u
        ((controls_of law).behind a c (place_before from k.node a c i) l s old target new (was a c i (messages.BypassPeer l s old target new) u)
        (sym (further.router_same law changed like linked carried is.stage late early l s) ∙ none));
    flush_central = λ a c i l s u. (controls_of law).flush_central a c (place_before from k.node a c i) l s (was a c i (messages.Flush l s) u);
    flush_recorded = λ a c i l s u. further.recorded_same law changed like linked carried is.stage late early l ∙
        (controls_of law).flush_recorded a c (place_before from k.node a c i) l s (was a c i (messages.Flush l s) u);
    flush_to = λ a c i l s u. (controls_of law).flush_to a c (place_before from k.node a c i) l s (was a c i (messages.Flush l s) u) ∙ sym
        (side_node-agree g h agree l s);
    flush_from = λ a c i l s u. (controls_of law).flush_from a c (place_before from k.node a c i) l s (was a c i (messages.Flush l s) u) ∙ sym
        (side_node-agree g h agree l (opposite s));
  }
    where
      control_at : (j : ℕ) (t : ℕ → ℕ → Message → ℕ) → ((nat_eq j o ≡ true) × (j ≡ o)) ⊎ ((nat_eq j o ≡ false) × (j ≢ o)) →
          under_way (λ a c. of_bypass h j (t a c)) v ≡ control_weight h t j
      control_at j t m = omega (arith, same, moved, (controls_of law).control j t, weighs m)
        where
          same : under_way (λ a c. of_bypass h j (t a c)) v ≡ under_way (λ a c. of_bypass g j (t a c)) v
          same = ap (λ f. under_way f v) (λ i a c m. about-agree g h agree j (t a c) m i)

          moved : under_way (λ a c. of_bypass g j (t a c)) v + of_bypass g j (t from k.node) came ≡ under_way (λ a c. of_bypass g j (t a c))
              w
          moved = under_way-handed (λ a c. of_bypass g j (t a c)) w from k x came from_node on_node in_hand

          weighs : ((nat_eq j o ≡ true) × (j ≡ o)) ⊎ ((nat_eq j o ≡ false) × (j ≢ o)) →
              control_weight g t j ≡ control_weight h t j + of_bypass g j (t from k.node) came
          weighs (inl m) = rw m.1 (omega (arith, expected_before t, expected_after t, about_came t))
          weighs (inr m) = omega (
            arith,
            expected-agree g h agree t j (rw m.0 refl),
            about_none j (t from k.node) (grind (arith, m.0, nat_tests)),
          )

  descriptors : (t : End) (f : Descriptor → ℕ) → under_way (λ a c m. total_list (of_end t f) (moves_of m)) v ≡ under_way
      (λ a c m. total_list (of_end t f) (moves_of m)) w
  unfolding moves_of
  descriptors t f = omega (
    arith,
    under_way-handed (λ a c m. total_list (of_end t f) (moves_of m)) w from k x came from_node on_node
        in_hand,
  )

  places : (f : Weight) → in_places f h v ≡ in_places f g w
  unfolding in_message' in_router
  places f = places-agree g h agree f v ∙ omega (arith, places-handed f g w from k r x came from_node on_node here in_hand)

  received : IsReceived w v from k.node
  received = record { hand = hand-handed w from k x; mail = mail-handed w from k x }

  -- the router inward is told: all that always holds holds still
  pub inv-will_stop : Inv (will_stop_act w from k r length) b (ended_records g (Some o))
  unfolding handed ended_records
  inv-will_stop = record {
    counts = counts-received w v g h from k r x changed received (counts_of law) (opened can).hand.hand (λ i. refl)
        (λ l s q rec m. inl (
          sym (further.recorded_same law changed like linked carried is.stage late early l) ∙ rec,
          sym (further.router_same law changed like linked carried is.stage late early l s) ∙ m,
        ))
        (λ l s rec. rw (side_node-agree g h agree l s) ((counts_of law).side_on_node l s
        (sym (further.recorded_same law changed like linked carried is.stage late early l) ∙ rec)));
    ordered = ordered-kept w v g h k r x changed agree like (ordered_of law);
    shape = further.shape-further law changed like linked carried is.stage late early;
    roles = roles;
    begun = further.begun-further law changed like linked carried is.stage late early;
    stands = further.stands-further law changed like linked carried is.stage late early;
    words = further.words-further law changed like linked carried is.stage late early (word-handed w from k x);
    spares = spares-kept w v g h k r x changed agree like (λ i. refl) (λ j st. grind (arith, st, at_o j, is.stage)) (spares_of law);
    bypasses = further.bypasses-further law changed like linked carried is.stage late early;
    live = live-kept g h (λ i l. l) (λ i. refl) (λ j st. grind (arith, st, at_o j, is.stage)) agree.is_begun (live_of law);
    stages = further.stages-further law changed like linked carried is.stage late early;
    controls = controls-end;
    moves = moves-kept w v g h k r x changed agree carried descriptors (moves_law law);
    terminals = terminals-kept w v g h k r x changed agree like (terminals_of law);
    end_places = end_places-kept w v g h k r x changed agree like carried (end_places_of law);
    books_kept = books_kept-kept w v g h k r x changed agree b like (books_kept_of law);
    retired_ends = further.retired-further law changed like linked carried is.stage late early;
    gones = further.gones-further law changed like linked carried is.stage late early;
    items = numbers.items-further law changed like linked carried is.stage late early
        (record { made = λ a c i l s n item moves u. made a c i l s (messages.Item l s n item moves) u });
    order = numbers.order-further law changed like linked carried is.stage late early;
    proxy_numbers = numbers.proxy_numbers-further law changed like linked carried is.stage late early proxy_owes;
    fresh_numbers = numbers.fresh_numbers-further law changed like linked carried is.stage late early
        (λ p d len prim dec l. (fresh_numbers_of law k r here).own p d len prim dec l);
    conserved = conserved-kept w v g h k r x changed agree b like carried places (conserved_of law);
    held_once = held_once-kept w v g h k r x changed agree b carried places (held_once_of law);
    no_strays = no_strays-kept w v g h k r x changed agree (no_strays_of law);
  }
