-- An item in the hand of a node finds the router that it is for, and fits there, so it is never kept as a stray.
use Rattle.ipcz_world.proofs.frames.RolesTell.{links-in}
use Rattle.ipcz_world.proofs.Vocabulary.{Side, A, B, End, LinkId, Central, Peripheral, LinkEnd, Descriptor, Item, same_end, has_end, opposite_end}
use Rattle.ipcz_world.proofs.Vocabulary.{same_link, Router, router_has, Node, Found, outbox, ends_in, World, Key, node_at, mail_at, way, router_at}
use Rattle.ipcz_world.proofs.Vocabulary.{messages_in, Books, read, is_closed, Records, side_router, side_end, at_end, names_end, moves_of, Links}
use Rattle.ipcz_world.proofs.Vocabulary.{is_outward, Standing, view, taking_queue, fed_queue, is_attached, is_awaited, is_gone, Inv, is_retired}
use Rattle.ipcz_world.proofs.Vocabulary.{source_for, no_number, outward_has, link_router, is_named, fits, Awaited, IsItemUnderWay}
use Rattle.ipcz_world.proofs.frames.GonesKept.{open_unretired}
use Rattle.std.specs.Prelude.{◌≡◌, ◌≢◌, ◌≤◌, ◌<◌, ◌+◌, ℕ, suc, Bool, true, false, cond, not, ◌&&◌, ◌||◌, nat_eq, nat_le, nat_lt, is_some}
use Rattle.std.specs.Prelude.{if◌then◌else◌, Option, Some, None, refl, List, [], ◌∷◌, ◌++◌, map, length, drop, slice_get}
use Rattle.std.proofs.Common.{arith, ap, subst, ◌∙◌, sym, inl, inr}
use Rattle.std.proofs.lemmas.Bool.Decides.{nat_tests}
use Rattle.std.specs.FinMap.{get}
use Rattle.ipcz_base.specs.declared.message.Message.TheVariants as messages
use Rattle.ipcz_base.specs.Limits.{last_number}
use Rattle.ipcz_seq.specs.Queue.{has_place}
use Rattle.ipcz_router.specs.Calls.{has_place_for}
use Rattle.ipcz_node.specs.Hands.{fits_item, fits_from, fit_moves, is_new_move, has_moved}
use Rattle.ipcz_world.specs.declared.mail.Mail.TheVariants as mails
use Rattle.ipcz_world.proofs.frames.OfRecords.{source}
use Rattle.ipcz_world.specs.Standing.{View, Waiting, Gone}
use Rattle.ipcz_world.proofs.frames.Changing.{flow_is, in_mail-hand}
use Rattle.ipcz_world.proofs.frames.Opened.{opened}
use Rattle.ipcz_world.proofs.frames.Weighing.{in_places-has, in_message-item, of_number}
use Rattle.ipcz_world.proofs.frames.Known.{IsStanding, standing_known, node_of_router, not_there_yet, edge_has-tells}
use Rattle.ipcz_world.proofs.facts.Finding.{found_tells, found_there}
use Rattle.ipcz_world.proofs.frames.Booking.{from_number-range, length-drop}
use Rattle.ipcz_world.proofs.frames.FillingNumbers.{fed-out, fed-in}
use Rattle.ipcz_world.proofs.frames.Draining.{taking_queue-standing}
use Rattle.ipcz_world.proofs.acts.Sending.{moves-item}
use Rattle.ipcz_world.proofs.acts.Moved.{AreOnce, ends_once, later_once, first_only}
use Rattle.std.proofs.lemmas.Bool.{and_from, or_right}
use Rattle.ipcz_world.proofs.facts.Lengths.{has_attached, view-standing, same_link-tells}
use Rattle.ipcz_world.proofs.facts.LinkTests.{same_end-itself}
use Rattle.ipcz_world.proofs.frames.Having.{has_at}

-- the router that an item in hand is for
pub record IsAsked (w : World) (g : Records) (n : ℕ) (l : LinkId) (s : Side) : Type 0 where
  pub serial : ℕ
  pub router : Router
  pub here : router_at w (record { node = n; serial = serial }) ≡ Some router
  pub known : side_router g l s ≡ Some (record { node = n; serial = serial })
  pub on : is_attached l s router ≡ true

-- the router that has a link at a side is the one that is found for it
pub link_found : (w : World) (g : Records) (k : Key) (r : Router) (l : LinkId) (s : Side) → Links w g → router_at w k ≡ Some r →
    router_has r l s ≡ true → link_router (node_at w k.node) l s ≡ Some (record { serial = k.serial; router = r })
unfolding router_at
link_found w g k r l s law here has = found.1 ∙ ap Some (λ i. record { serial = serials i; router = routers i })
  where
    found : (f : Found) × (link_router (node_at w k.node) l s ≡ Some f)
    found = found_there (node_at w k.node) (λ y. router_has y l s) k.serial r here has

    told : (get (node_at w k.node).routers found.0.serial ≡ Some found.0.router) × (router_has found.0.router l s ≡ true)
    told = found_tells (node_at w k.node) (λ y. router_has y l s) found.0 found.1

    both : Some (record { node = k.node; serial = found.0.serial }) ≡ Some k
    both = sym (has_at w g (record { node = k.node; serial = found.0.serial }) found.0.router l s law told.0 told.1).router ∙
        (has_at w g k r l s law here has).router

    serials : found.0.serial ≡ k.serial
    serials = grind (arith, both)

    one : Some found.0.router ≡ Some r
    one = sym told.0 ∙ ap (get (node_at w k.node).routers) serials ∙ here

    routers : found.0.router ≡ r
    routers = grind (arith, one)

-- if the records know of no router, none is found
pub link_missing : (w : World) (g : Records) (n : ℕ) (l : LinkId) (s : Side) → Links w g → side_router g l s ≡ None →
    is_named (node_at w n) l s ≡ false
unfolding router_at
link_missing w g n l s law none = go (link_router (node_at w n) l s) refl
  where
    go : (o : Option Found) → link_router (node_at w n) l s ≡ o → is_some o ≡ false
    go None e = refl
    go (Some f) e =
        let t = found_tells (node_at w n) (λ y. router_has y l s) f e in
        let h = (has_at w g (record { node = n; serial = f.serial }) f.router l s law t.0 t.1).router in absurd (grind (arith, h, none))

low_number : (m len : ℕ) (c d : Bool) → m < len → len ≤ last_number + cond c 1 0 + cond d 1 0 → nat_lt m no_number ≡ true
low_number m len true true l e = grind (arith, l, e, nat_tests)
low_number m len true false l e = grind (arith, l, e, nat_tests)
low_number m len false true l e = grind (arith, l, e, nat_tests)
low_number m len false false l e = grind (arith, l, e, nat_tests)

low_next : (m len : ℕ) (c d : Bool) → m ≡ len → c ≡ false → d ≡ false → len ≤ last_number + cond c 1 0 + cond d 1 0 → m ≤ last_number
low_next m len true d e f g h = absurd (grind (arith, f))
low_next m len false true e f g h = absurd (grind (arith, g))
low_next m len false false e f g h = omega (arith, e, h)

le_true : (m n : ℕ) → m ≤ n → nat_le m n ≡ true
le_true m n h = grind (arith, h, nat_tests)

-- whom an item comes to from outward
outward_is : (w : World) (g : Records) (k : Key) (r : Router) (l : LinkId) (s : Side) → Links w g → router_at w k ≡ Some r →
    is_attached l s r ≡ true → outward_has r l s ≡ is_outward l s
unfolding is_attached is_outward
outward_is w g k r (Central i) s law here on = on
outward_is w g k r (Peripheral n x) B law here on = on
outward_is w g k r (Peripheral n x) A law here on = go (outward_has r (Peripheral n x) A) refl
  where
    wrong : (d : LinkEnd) → is_outward d.link d.side ≡ true → d.link ≡ Peripheral n x → d.side ≡ A → ⊥
    wrong d o e f = grind (arith, o, e, f)

    go : (c : Bool) → outward_has r (Peripheral n x) A ≡ c → outward_has r (Peripheral n x) A ≡ false
    go false e = e
    go true e = elim (edge_has-tells r.outward (Peripheral n x) A e) [
      | inl d ↦ absurd (wrong d.end ((law k r here).primary_outward d.end d.is) d.link_is d.side_is)
      | inr d ↦ absurd (wrong d.end ((law k r here).decaying_outward d.end d.is) d.link_is d.side_is)
    ]

-- whose link is among descriptors, its end is among their ends
moved_end : (g : Records) (link : LinkId) (e : End) (ds : List Descriptor) →
    ((j : ℕ) (d : Descriptor) → slice_get ds j ≡ Some d → side_end g d.link B ≡ d.end) → side_end g link B ≡ e → has_moved link ds ≡ true →
    has_end e (map (λ d. d.end) ds) ≡ true
moved_end g link e [] of at h = cc
moved_end g link e (d ∷ ds) of at h = go (same_link d.link link) refl h (λ f. moved_end g link e ds (λ j. of (suc j)) at f)
  where
    go : (c : Bool) → same_link d.link link ≡ c → (c || has_moved link ds) ≡ true →
        (has_moved link ds ≡ true → has_end e (map (λ d. d.end) ds) ≡ true) → (same_end d.end e || has_end e (map (λ d. d.end) ds)) ≡ true
    go true c f more =
        let same : d.end ≡ e = sym (of 0 d refl) ∙ ap (λ m. side_end g m B) (same_link-tells d.link link c) ∙ at in
        ap (λ x. x || has_end e (map (λ d. d.end) ds)) (ap (λ x. same_end x e) same ∙ same_end-itself e)
    go false c f more = or_right (same_end d.end e) (has_end e (map (λ d. d.end) ds)) (more f)

-- descriptors that are one per end, each new here, fit
fit_all : (g : Records) (n : Node) (es : List End) (ds : List Descriptor) → map (λ d. d.end) ds ≡ es → AreOnce es →
    ((j : ℕ) (d : Descriptor) → slice_get ds j ≡ Some d → is_new_move n d ≡ true) →
    ((j : ℕ) (d : Descriptor) → slice_get ds j ≡ Some d → side_end g d.link B ≡ d.end) →
    fit_moves n es ds ≡ true
fit_all g n [] [] h once new of = refl
fit_all g n [] (d ∷ ds) h once new of = cc
fit_all g n (e ∷ es) [] h once new of = cc
fit_all g n (e ∷ es) (d ∷ ds) h once new of =
    let first : d.end ≡ e = grind (arith, h) in let rest : map (λ d. d.end) ds ≡ es = grind (arith, h) in
    and_from (same_end d.end e) (is_new_move n d && (not (has_moved d.link ds) && fit_moves n es ds))
    (ap (λ x. same_end x e) first ∙ same_end-itself e)
    (and_from (is_new_move n d) (not (has_moved d.link ds) && fit_moves n es ds) (new 0 d refl)
    (and_from (not (has_moved d.link ds)) (fit_moves n es ds) (ap not (apart first rest (has_moved d.link ds) refl))
    (fit_all g n es ds rest (later_once e es once) (λ j. new (suc j)) (λ j. of (suc j)))))
  where
    apart : d.end ≡ e → map (λ d. d.end) ds ≡ es → (c : Bool) → has_moved d.link ds ≡ c → has_moved d.link ds ≡ false
    apart first rest false c = c
    apart first rest true c = absurd (first_only e es once (subst (λ xs. has_end e xs ≡ true) rest
        (moved_end g d.link e ds (λ j. of (suc j)) (of 0 d refl ∙ first) c)))

module _ (w : World) (b : Books) (g : Records) (from n : ℕ) (l : LinkId) (s : Side) (number : ℕ) (item : Item) (moves : List Descriptor)
    (law : Inv w b g) (below : n < w.count) (hand : (node_at w n).hand ≡ Some from)
    (mail : mail_at w (way w from n) ≡ mails.Hand (messages.Item l s number item moves)) where
  pub under : IsItemUnderWay w from n 0 l s number item moves
  under = record {
    sender = law.counts.hand_from n from below hand;
    receiver = below;
    place = ap (λ f. slice_get f 0) (flow_is w from n ∙ ap (λ m. messages_in m ++ outbox (node_at w from) n) mail ∙ ap
        (λ f. f ++ outbox (node_at w from) n) (in_mail-hand (messages.Item l s number item moves)));
  }

  pub asked : IsAsked w g n l s
  unfolding is_awaited is_gone
  asked = go (view w g l s) refl
    where
      go : (z : View) → view w g l s ≡ z → IsAsked w g n l s
      go Awaited e = let m = law.items.behind from n 0 l s number item moves under (ap is_awaited e) in cc
      go (Waiting d) e = let m = law.items.behind from n 0 l s number item moves under (ap is_awaited e) in cc
      go Gone e = let m = law.items.receiver_there from n 0 l s number item moves under in absurd (grind (arith, e, m))
      go (Standing r) e = let st : IsStanding w g l s r = standing_known w g l s r (links-in law) e in
          let at : st.key.node ≡ n = sym (law.items.receiver from n 0 l s number item moves under ∙ node_of_router g l s st.key st.router)
          in record {
            serial = st.key.serial;
            router = r;
            here = subst (λ m. router_at w (record { node = m; serial = st.key.serial }) ≡ Some r) at st.here;
            known = subst (λ m. side_router g l s ≡ Some (record { node = m; serial = st.key.serial })) at st.router;
            on = st.attached;
          }

  abbrev k : Key
  k = record { node = n; serial = asked.serial }

  abbrev r : Router
  r = asked.router

  taking : taking_queue l s (view w g l s) ≡ Some (fed_queue l s r)
  taking = ap (taking_queue l s) (view-standing w g l s k r asked.known asked.here asked.on) ∙ taking_queue-standing l s r

  placed : has_place (fed_queue l s r) number ≡ true
  placed =
      let low = law.items.not_passed from n 0 l s number item moves (fed_queue l s r) under taking in
      let free = not_there_yet w b g from n 0 l s number item moves (fed_queue l s r) law.conserved law.counts (links-in law) under taking in
      grind (arith, low, free, nat_tests)

  -- the number is of an item that was put
  numbered : nat_lt number no_number ≡ true
  numbered = low_number number (length (b.put e)) (is_closed b e) (is_retired b e)
      (omega (arith, range.1, length-drop (read b (opposite_end e)) (b.put e) (law.conserved.read_put e))) (law.books_kept.numbers e)
    where
      e : End
      e = source g l s

      weight : at_end (source g l s) (of_number number) (source g l s) number item ≡ 1
      weight = grind (arith, same_end-itself (source g l s), nat_tests)

      range : (read b (opposite_end (source g l s)) ≤ number) × (number < read b (opposite_end (source g l s)) + length
          (drop (read b (opposite_end (source g l s))) (b.put (source g l s))))
      range = from_number-range number (read b (opposite_end (source g l s)))
          (drop (read b (opposite_end (source g l s))) (b.put (source g l s))) (omega (
            arith,
            weight,
            in_message-item (at_end (source g l s) (of_number number)) g l s number item moves,
            in_places-has (at_end (source g l s) (of_number number)) g w from n 0 (messages.Item l s number item moves) under,
            law.conserved.exact (source g l s) (of_number number),
          ))

  pub has_its_place : has_place_for r (is_outward l s) number ≡ true
  has_its_place = go (is_outward l s) refl
    where
      go : (c : Bool) → is_outward l s ≡ c → has_place_for r c number ≡ true
      go true c = and_from (nat_lt number no_number) (has_place r.in_queue number) numbered
          (ap (λ q. has_place q number) (sym (fed-in l s r c)) ∙ placed)
      go false c = and_from (nat_lt number no_number) (has_place r.out_queue number) numbered
          (ap (λ q. has_place q number) (sym (fed-out l s r c)) ∙ placed)

  -- each of its descriptors can be made a terminal here
  descriptor : (j : ℕ) (d : Descriptor) → slice_get moves j ≡ Some d → slice_get (moves_of (messages.Item l s number item moves)) j ≡ Some d
  descriptor j d h = ap (λ ms. slice_get ms j) (moves-item l s number item moves) ∙ h

  new_move : (j : ℕ) (d : Descriptor) → slice_get moves j ≡ Some d → is_new_move (node_at w n) d ≡ true
  new_move j d h =
      let unnamed = link_missing w g n d.link B (links-in law) (law.moves.awaited from n 0 j (messages.Item l s number item moves) d under
      (descriptor j d h)) in
      let unclosed = law.conserved.move_open from n 0 j (messages.Item l s number item moves) d under (descriptor j d h) in
      let low : d.next_out ≤ last_number = low_next d.next_out (length (b.put d.end)) (is_closed b d.end) (is_retired b d.end)
      (law.conserved.move_out from n 0 j (messages.Item l s number item moves) d under (descriptor j d h)) unclosed
      (open_unretired (record { retired_closed = law.books_kept.retired_closed }) law.retired_ends d.end unclosed).0
      (law.books_kept.numbers d.end) in
      and_from (not (is_named (node_at w n) d.link B)) (nat_le d.next_out last_number) (ap not unnamed) (le_true d.next_out last_number low)

  pub its_ends : from ≢ n → map (λ d. d.end) moves ≡ ends_in item
  its_ends away = law.moves.ends from n 0 l s number item moves under away

  pub once : AreOnce (ends_in item)
  once = ends_once w b g item (opened w b g law) (λ e. omega (
    arith,
    in_places-has (names_end e) g w from n 0 (messages.Item l s number item moves) under,
    in_message-item (names_end e) g l s number item moves,
  ))

  pub has_its_moves : fits_from (node_at w n) from item moves ≡ true
  has_its_moves = go (nat_eq from (node_at w n).number) refl
    where
      node : (node_at w n).number ≡ n
      node = law.counts.node n below

      go : (c : Bool) → nat_eq from (node_at w n).number ≡ c → (if c then nat_eq (length moves) 0 else fit_moves (node_at w n)
          (ends_in item) moves) ≡ true
      go true c =
          let within : from ≡ n = grind (arith, c, node, nat_tests) in
          ap (λ ds. nat_eq (length ds) 0) (law.moves.within n 0 l s number item moves
          (subst (λ f. IsItemUnderWay w f n 0 l s number item moves) within under))
      go false c =
          let away : from ≢ n = λ e. grind (arith, c, node, e, nat_tests) in
          fit_all g (node_at w n) (ends_in item) moves (its_ends away) once new_move
          (λ j d h. law.moves.end from n 0 j (messages.Item l s number item moves) d under (descriptor j d h))

  pub found : link_router (node_at w n) l s ≡ Some (record { serial = asked.serial; router = asked.router })
  found = link_found w g k r l s (links-in law) asked.here (has_attached l s r asked.on)

  pub outward : outward_has r l s ≡ is_outward l s
  outward = outward_is w g k r l s (links-in law) asked.here asked.on

  -- the item fits
  pub item-fits : fits (node_at w n) from (messages.Item l s number item moves) (source_for w (messages.Item l s number item moves)) ≡ true
  unfolding fits fits_item
  item-fits = ap (fits_item (node_at w n) from l s number item moves) found ∙ and_from (has_place_for r (outward_has r l s) number)
      (fits_from (node_at w n) from item moves) (ap (λ c. has_place_for r c number) outward ∙ has_its_place) has_its_moves
