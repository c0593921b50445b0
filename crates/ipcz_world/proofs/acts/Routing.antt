-- What the records tell of the routes after each act: as the run writes them.
use Rattle.ipcz_world.specs.Routes.{lose_spare}
use Rattle.ipcz_world.proofs.facts.RecordsAfter.{leave_records}
use Rattle.ipcz_world.proofs.frames.LeftRecords.{off_of, off-same, is_off, owner_by}
use Rattle.ipcz_world.proofs.facts.Tests.{nat_eq-itself}
use Rattle.std.specs.Prelude.{◌≡◌, ℕ, ◌+◌, Bool, true, false, cond, not, nat_eq, if◌then◌else◌, Option, Some, None, List, [], ◌∷◌, refl}
use Rattle.std.proofs.Common.{arith, ap, subst, ◌∙◌, sym}
use Rattle.std.proofs.lemmas.Bool.Decides.{nat_tests}
use Rattle.ipcz_world.proofs.Vocabulary.{Side, End, LinkId, Central, Peripheral, LinkEnd, Descriptor, Item, same_end, has_end, ends_in, current_item}
use Rattle.ipcz_world.proofs.Vocabulary.{Router, is_terminal, Node, Found, terminal_of, World, Key, same_key, node_at, router_at, Books, Records}
use Rattle.ipcz_world.proofs.Vocabulary.{Owner, Spare, Fresh, Linked, is_linked, Inv, way_out, way_in, pop_out, send_on, is_terminal_of, Transfer}
use Rattle.ipcz_world.proofs.Vocabulary.{move_found, moved_ends, Routes, CentralRecord, routes_of, is_lost_owner}
use Rattle.ipcz_router.specs.Router.{is_open_terminal}
use Rattle.ipcz_node.specs.Sends.{move_router}
use Rattle.ipcz_world.specs.Routes.{add_link, add_peripheral, add_peripherals}
use Rattle.ipcz_world.specs.Records.{PeripheralRecord}
use Rattle.ipcz_world.proofs.facts.RecordsAfter.{set_owner}
use Rattle.ipcz_world.proofs.facts.RecordsAfter.{set_central, set_peripheral, set_bypass}
use Rattle.ipcz_world.proofs.facts.RecordsAfter.{claim_records, begin_records, taken_records, accepted_records, told_records}
use Rattle.ipcz_world.proofs.facts.RecordsAfter.{ended_records, move_records, found_records, moves_records, made_at, made_records}
use Rattle.ipcz_world.proofs.frames.Frames.{same_key-apart}
use Rattle.ipcz_world.proofs.facts.Finding.{found_there, terminal_tells}
use Rattle.ipcz_world.proofs.frames.Opened.{opened}
use Rattle.ipcz_world.proofs.acts.SendingItems.{is_send_out, is_send_in}
use Rattle.ipcz_world.proofs.acts.SendingMoves.{before_moves}
use Rattle.ipcz_world.proofs.acts.Moved.{HasTerminals, AreOnce, later_once, first_only, terminals-insert, move_found-some, ends_here}
use Rattle.ipcz_world.proofs.acts.MovingEnds.{later_end, first_end}
use Rattle.ipcz_world.proofs.acts.SendingActs.{sent_records, by_way}
use Rattle.ipcz_world.proofs.acts.CallTurns.{not_linked}
use Rattle.ipcz_world.proofs.facts.Lost.{not_lost}
use Rattle.std.proofs.lemmas.Bool.{and_from}
use Rattle.ipcz_world.proofs.facts.LinkTests.{same_end-itself}

-- routes are the same if they tell the same
same_routes : (g h : Routes) → ((i : ℕ) → g.is_link i ≡ h.is_link i) → ((i : ℕ) → g.pair i ≡ h.pair i) → ((k : Key) → g.end k ≡ h.end k) →
    ((i : ℕ) → g.lost i ≡ h.lost i) → g ≡ h
same_routes g h p q r t = λ i. record { is_link = λ j. p j i; pair = λ j. q j i; end = λ k. r k i; lost = λ j. t j i }

-- a word that is no link's gets another owner, and is no link's still
pub routes-owner : (g : Records) (i : ℕ) (o : Owner) → is_linked (g.owner i) ≡ false → is_linked o ≡ false →
    is_lost_owner (g.owner i) ≡ false → is_lost_owner o ≡ false → routes_of (set_owner g i o) ≡ routes_of g
routes-owner g i o p q u v = same_routes (routes_of (set_owner g i o)) (routes_of g) (λ j. at j (nat_eq j i) refl) (λ j. refl) (λ k. refl)
    (λ j. lost j (nat_eq j i) refl)
  where
    lost : (j : ℕ) (c : Bool) → nat_eq j i ≡ c → is_lost_owner (cond c o (g.owner j)) ≡ is_lost_owner (g.owner j)
    lost j true e = let s : j ≡ i = grind (arith, e, nat_tests) in v ∙ sym (ap (λ x. is_lost_owner (g.owner x)) s ∙ u)
    lost j false e = refl

    at : (j : ℕ) (c : Bool) → nat_eq j i ≡ c → is_linked (cond c o (g.owner j)) ≡ is_linked (g.owner j)
    at j true e = let s : j ≡ i = grind (arith, e, nat_tests) in q ∙ sym (ap (λ x. is_linked (g.owner x)) s ∙ p)
    at j false e = refl

-- a central link's record keeps its pair
pub routes-central : (g : Records) (i : ℕ) (c : CentralRecord) → c.pair ≡ (g.central i).pair → routes_of (set_central g i c) ≡ routes_of g
routes-central g i c p = same_routes (routes_of (set_central g i c)) (routes_of g) (λ j. refl) (λ j. at j (nat_eq j i) refl) (λ k. refl)
    (λ j. refl)
  where
    at : (j : ℕ) (t : Bool) → nat_eq j i ≡ t → (cond t c (g.central j)).pair ≡ (g.central j).pair
    at j true e = let s : j ≡ i = grind (arith, e, nat_tests) in p ∙ sym (ap (λ x. (g.central x).pair) s)
    at j false e = refl

-- a peripheral link's record keeps its end
pub routes-peripheral : (g : Records) (k : Key) (x : PeripheralRecord) → x.end ≡ (g.peripheral k).end →
    routes_of (set_peripheral g k x) ≡ routes_of g
routes-peripheral g k x p = same_routes (routes_of (set_peripheral g k x)) (routes_of g) (λ j. refl) (λ j. refl)
    (λ j. at j (same_key j k) refl) (λ j. refl)
  where
    at : (j : Key) (t : Bool) → same_key j k ≡ t → (cond t x (g.peripheral j)).end ≡ (g.peripheral j).end
    at j true e = p ∙ sym (ap (λ y. (g.peripheral y).end) (same_key-apart j k e))
    at j false e = refl

-- a peripheral link gets a record
pub routes-new : (g : Records) (k : Key) (x : PeripheralRecord) → routes_of (set_peripheral g k x) ≡ add_peripheral (routes_of g) k x.end
routes-new g k x = same_routes (routes_of (set_peripheral g k x)) (add_peripheral (routes_of g) k x.end) (λ j. refl) (λ j. refl)
    (λ j. at (same_key j k) j) (λ j. refl)
  where
    at : (t : Bool) (j : Key) → (cond t x (g.peripheral j)).end ≡ cond t x.end (g.peripheral j).end
    at true j = refl
    at false j = refl

-- a word becomes the word of a link
pub routes-link : (g : Records) (i : ℕ) (c : CentralRecord) → is_lost_owner (g.owner i) ≡ false → routes_of (set_central (set_owner g i Linked) i c) ≡ add_link (routes_of g) i
    c.pair
unfolding is_linked is_lost_owner
routes-link g i c free = same_routes (routes_of (set_central (set_owner g i Linked) i c)) (add_link (routes_of g) i c.pair)
    (λ j. owner (nat_eq j i) j) (λ j. pair (nat_eq j i) j) (λ k. refl) (λ j. lost j (nat_eq j i) refl)
  where
    lost : (j : ℕ) (t : Bool) → nat_eq j i ≡ t → is_lost_owner (cond t Linked (g.owner j)) ≡ is_lost_owner (g.owner j)
    lost j true e = let s : j ≡ i = grind (arith, e, nat_tests) in sym (ap (λ x. is_lost_owner (g.owner x)) s ∙ free)
    lost j false e = refl

    owner : (t : Bool) (j : ℕ) → is_linked (cond t Linked (g.owner j)) ≡ cond t true (is_linked (g.owner j))
    owner true j = refl
    owner false j = refl

    pair : (t : Bool) (j : ℕ) → (cond t c (g.central j)).pair ≡ cond t c.pair (g.central j).pair
    pair true j = refl
    pair false j = refl

pub next_not_linked : (w : World) (b : Books) (g : Records) → Inv w b g → is_linked (g.owner w.claimed) ≡ false
next_not_linked w b g law = not_linked (g.owner w.claimed) (law.counts.unclaimed w.claimed ∙ grind (arith, nat_tests))

pub next_not_lost : (w : World) (b : Books) (g : Records) → Inv w b g → is_lost_owner (g.owner w.claimed) ≡ false
next_not_lost w b g law = not_lost (g.owner w.claimed) (law.counts.unclaimed w.claimed ∙ grind (arith, nat_tests))

pub routes-claim : (w : World) (b : Books) (g : Records) (k : Key) → Inv w b g → routes_of (claim_records g k w.claimed) ≡ routes_of g
unfolding is_linked is_lost_owner
routes-claim w b g k law = routes-owner g w.claimed (Spare k) (next_not_linked w b g law) refl (next_not_lost w b g law) refl

pub routes-begin : (g : Records) (k : Key) (o fresh : ℕ) (inner : Key) → g.owner fresh ≡ Spare k →
    routes_of (begin_records g k o fresh inner) ≡ routes_of g
unfolding is_linked is_lost_owner
routes-begin g k o fresh inner e = routes-peripheral (set_bypass (set_owner g fresh (Fresh o)) o
    (record { stage = 1; proxy = k; inner = inner; fresh = fresh; taken_at = 0; accepted_at = 0 })) inner
    (record (g.peripheral inner) { by = Some o }) refl ∙ routes-owner g fresh (Fresh o) (ap is_linked e) refl
    (ap is_lost_owner e) refl

pub routes-accept : (g : Records) (k : Key) (r : Router) (o : ℕ) (side : Side) (fresh : ℕ) →
    routes_of (accepted_records g k r o side fresh) ≡ routes_of g
routes-accept g k r o side fresh = routes-central (set_bypass g o (record (g.bypass o) { stage = 3; accepted_at = r.out_queue.current }))
    fresh _ refl

pub routes-told : (g : Records) (o : ℕ) → routes_of (told_records g o) ≡ routes_of g
routes-told g o = refl

pub routes-ended : (g : Records) (o : Option ℕ) → routes_of (ended_records g o) ≡ routes_of g
unfolding ended_records
routes-ended g None = refl
routes-ended g (Some o) = refl

pub routes-taken : (g : Records) (k : Key) (r : Router) (o fresh target : ℕ) → r.end.pair ≡ (g.central o).pair →
    is_lost_owner (g.owner fresh) ≡ false →
    routes_of (taken_records g k r o fresh target) ≡ add_link (routes_of g) fresh (g.central o).pair
routes-taken g k r o fresh target e free = routes-link (set_bypass g o (record (g.bypass o) { stage = 2; taken_at = r.out_queue.current })) fresh
    _ free ∙ ap (add_link (routes_of g) fresh) e

-- descriptors become terminals
routes-made_at : (g : Records) (n serial : ℕ) (e : End) (l : LinkId) → routes_of (made_at g n serial e l) ≡ routes_of g
unfolding made_at
routes-made_at g n serial e (Central i) = refl
routes-made_at g n serial e (Peripheral m x) = routes-peripheral g (record { node = m; serial = x }) _ refl

pub routes-made : (g : Records) (n serial : ℕ) (ds : List Descriptor) → routes_of (made_records g n serial ds) ≡ routes_of g
routes-made g n serial [] = refl
routes-made g n serial (d ∷ ds) = routes-made (made_at g n serial d.end d.link) n (serial + 1) ds ∙ routes-made_at g n serial d.end d.link

found_records-some : (g : Records) (n : Node) (to : ℕ) (f : Found) → found_records g n to (Some f) ≡ move_records g n to f.serial f.router
unfolding found_records
found_records-some g n to f = refl

-- terminals move, in order
pub routes-moves : (m : Transfer) (g : Records) (to : ℕ) (es : List End) → HasTerminals m.node es → AreOnce es →
    routes_of (moves_records g m to es) ≡ add_peripherals (routes_of g) m.node.number m.node.next_peripheral es
routes-moves m g to [] has once = refl
routes-moves m g to (e ∷ es) has once =
    let t = has e (first_end e es) in
    let f = found_there m.node (is_terminal_of e) t.0 t.1 t.2.here
    (and_from (is_open_terminal t.1) (same_end t.1.end e) (and_from (is_terminal t.1) (not t.1.closed) t.2.terminal (ap not t.3))
    (ap (λ d. same_end d e) t.2.end ∙ same_end-itself e)) in
    go f.0 f.1 (λ x y h o. routes-moves x y to es h o)
  where
    go : (f : Found) → terminal_of m.node e ≡ Some f →
        ((x : Transfer) (y : Records) → HasTerminals x.node es → AreOnce es →
        routes_of (moves_records y x to es) ≡ add_peripherals (routes_of y) x.node.number x.node.next_peripheral es) →
        routes_of (moves_records (found_records g m.node to (terminal_of m.node e)) (move_found m to (terminal_of m.node e)) to es) ≡
        add_peripherals (add_peripheral (routes_of g) (record { node = m.node.number; serial = m.node.next_peripheral }) e) m.node.number
        (m.node.next_peripheral + 1) es
    go f found more =
        let t = terminal_tells m.node e f found in
        let x = move_router m to f.serial f.router in
        let y = move_records g m.node to f.serial f.router in
        let p : Key = record { node = m.node.number; serial = m.node.next_peripheral } in
        let still : HasTerminals x.node es = terminals-insert m.node f.serial f.router _ es x.node refl t.here
        (λ d h. has d (later_end d e es h)) (λ d h q l c. absurd
        (first_only e es once (subst (λ z. has_end z es ≡ true) (sym q ∙ t.end) h))) in
        ap (λ o. routes_of (moves_records (found_records g m.node to o) (move_found m to o) to es)) found
        ∙ ap (λ z. routes_of (moves_records z (move_found m to (Some f)) to es)) (found_records-some g m.node to f)
        ∙ ap (λ z. routes_of (moves_records y z to es)) (move_found-some m to f)
        ∙ more x y still (later_once e es once)
        ∙ ap (λ z. add_peripherals z m.node.number (m.node.next_peripheral + 1) es) (routes-new g p _)
        ∙ ap (λ z. add_peripherals (add_peripheral (routes_of g) p z) m.node.number (m.node.next_peripheral + 1) es) t.end

-- an item is sent, with the terminals that move along
pub routes-sent_out : (w : World) (b : Books) (g : Records) (k : Key) (r : Router) (e : LinkEnd) (item : Item) → Inv w b g →
    router_at w k ≡ Some r → way_out r ≡ Some e → current_item r.out_queue ≡ Some item →
    routes_of (sent_records w g k (pop_out r) e item) ≡ add_peripherals (routes_of g) k.node (node_at w k.node).next_peripheral
    (moved_ends (node_at w k.node) e item)
routes-sent_out w b g k r e item law here chosen at =
    let node = law.counts.node k.node (law.counts.on_node k r here) in
    by_way (nat_eq e.other (node_at w k.node).number) e.other (node_at w k.node).number refl
    (λ c. routes_of (moves_records g (before_moves w k (pop_out r)) e.other (if c then [] else ends_in item)) ≡ add_peripherals
    (routes_of g) k.node (node_at w k.node).next_peripheral (if c then [] else ends_in item))
    (λ q. refl)
    (λ ne. let t = ends_here w b g k r (pop_out r) _ _ _ _ item (opened w b g law)
    (is_send_out w b g k r e item (opened w b g law) here chosen at) in
    routes-moves (before_moves w k (pop_out r)) g e.other (ends_in item) t.0 t.1 ∙ ap
    (λ z. add_peripherals (routes_of g) z (node_at w k.node).next_peripheral (ends_in item)) node)

pub routes-sent_in : (w : World) (b : Books) (g : Records) (k : Key) (r : Router) (e : LinkEnd) (item : Item) → Inv w b g →
    router_at w k ≡ Some r → way_in r ≡ Some e → current_item r.in_queue ≡ Some item →
    routes_of (sent_records w g k (send_on r) e item) ≡ add_peripherals (routes_of g) k.node (node_at w k.node).next_peripheral
    (moved_ends (node_at w k.node) e item)
routes-sent_in w b g k r e item law here chosen at =
    let node = law.counts.node k.node (law.counts.on_node k r here) in
    by_way (nat_eq e.other (node_at w k.node).number) e.other (node_at w k.node).number refl
    (λ c. routes_of (moves_records g (before_moves w k (send_on r)) e.other (if c then [] else ends_in item)) ≡ add_peripherals (routes_of g)
    k.node (node_at w k.node).next_peripheral (if c then [] else ends_in item))
    (λ q. refl)
    (λ ne. let t = ends_here w b g k r (send_on r) _ _ _ _ item (opened w b g law)
    (is_send_in w b g k r e item (opened w b g law) here chosen at) in
    routes-moves (before_moves w k (send_on r)) g e.other (ends_in item) t.0 t.1 ∙ ap
    (λ z. add_peripherals (routes_of g) z (node_at w k.node).next_peripheral (ends_in item)) node)

-- a router leaves
pub routes-left : (w : World) (b : Books) (g : Records) (k : Key) (r : Router) → Inv w b g → router_at w k ≡ Some r →
    routes_of (leave_records g r) ≡ lose_spare (routes_of g) r.spare
unfolding lose_spare is_lost_owner
routes-left w b g k r law here = terminal (is_terminal r) refl ∙
    same_routes (routes_of (off_of g r)) (lose_spare (routes_of g) r.spare) link pair end (λ i. lost i)
  where
    spared : (i : ℕ) → r.spare ≡ Some i → g.owner i ≡ Spare k
    spared i s = law.spares.spare k r i here s

    terminal : (c : Bool) → is_terminal r ≡ c → routes_of (leave_records g r) ≡ routes_of (off_of g r)
    terminal true e = rw e refl
    terminal false e = rw e refl

    at_link : (o : Option ℕ) (i : ℕ) → (lose_spare (routes_of g) o).is_link i ≡ is_linked (g.owner i)
    at_link None i = refl
    at_link (Some j) i = refl

    at_pair : (o : Option ℕ) (i : ℕ) → (lose_spare (routes_of g) o).pair i ≡ (g.central i).pair
    at_pair None i = refl
    at_pair (Some j) i = refl

    at_end : (o : Option ℕ) (p : Key) → (lose_spare (routes_of g) o).end p ≡ (g.peripheral p).end
    at_end None p = refl
    at_end (Some j) p = refl

    link : (i : ℕ) → is_linked ((off_of g r).owner i) ≡ (lose_spare (routes_of g) r.spare).is_link i
    link i = (is_off g r k spared).linked i ∙ sym (at_link r.spare i)

    pair : (i : ℕ) → ((off_of g r).central i).pair ≡ (lose_spare (routes_of g) r.spare).pair i
    pair i = ap (λ (c : CentralRecord). c.pair) ((off-same g r).central i) ∙ sym (at_pair r.spare i)

    end : (p : Key) → ((off_of g r).peripheral p).end ≡ (lose_spare (routes_of g) r.spare).end p
    end p = ap (λ (c : PeripheralRecord). c.end) ((off-same g r).peripheral p) ∙ sym (at_end r.spare p)

    stays : (o : Option ℕ) (i : ℕ) → (o ≡ Some i → ⊥) → is_lost_owner (g.owner i) ≡ (lose_spare (routes_of g) o).lost i
    stays None i n = refl
    stays (Some j) i n = go (nat_eq i j) refl
      where
        go : (c : Bool) → nat_eq i j ≡ c → is_lost_owner (g.owner i) ≡ cond (nat_eq i j) true (is_lost_owner (g.owner i))
        go true e = let s : j ≡ i = grind (arith, e, nat_tests) in absurd (n (ap Some s))
        go false e = rw e refl

    goes : (o : Option ℕ) (i : ℕ) → o ≡ Some i → true ≡ (lose_spare (routes_of g) o).lost i
    goes None i n = cc
    goes (Some j) i n = let s : i ≡ j = cc in rw (s, nat_eq-itself j) refl

    lost : (i : ℕ) → is_lost_owner ((off_of g r).owner i) ≡ (lose_spare (routes_of g) r.spare).lost i
    lost i = owner_by g r i (λ o. is_lost_owner o ≡ (lose_spare (routes_of g) r.spare).lost i) (λ n. stays r.spare i n) (λ s. goes r.spare i s)

-- a terminal has no spare
pub routes-left_terminal : (w : World) (b : Books) (g : Records) (k : Key) (r : Router) → Inv w b g → router_at w k ≡ Some r →
    is_terminal r ≡ true → routes_of (leave_records g r) ≡ routes_of g
unfolding lose_spare
routes-left_terminal w b g k r law here t = routes-left w b g k r law here ∙ ap (lose_spare (routes_of g)) (none r.spare refl)
  where
    none : (o : Option ℕ) → r.spare ≡ o → r.spare ≡ None
    none None e = e
    none (Some i) e = absurd (grind (arith, (law.shape k r here).spare_proxy i e, t))
