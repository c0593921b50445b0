-- Each end of an item that is sent to another node has its terminal there, so a send that moves terminals keeps all that holds.
use Rattle.ipcz_world.proofs.Vocabulary.{Side, End, LinkId, Descriptor, Item, same_end, has_end, Router, is_terminal, Node, Found, with_router}
use Rattle.ipcz_world.proofs.Vocabulary.{terminal_of, ends_in, World, Key, node_at, router_at, Books, is_closed, Records, Terminal, At, terminal_node}
use Rattle.ipcz_world.proofs.Vocabulary.{is_nowhere, times, names_end, key_passes, passes, Inv, Retired, is_terminal_of, Transfer, move_ends}
use Rattle.ipcz_world.proofs.Vocabulary.{move_found, Nowhere}
use Rattle.std.specs.Prelude.{◌+◌, not, ◌≡◌, ◌≢◌, ◌≤◌, ℕ, Bool, true, false, cond, ◌&&◌, nat_eq, Option, Some, None, refl, List, [], ◌∷◌}
use Rattle.std.specs.Prelude.{◌++◌, map}
use Rattle.std.specs.Cmp.{nat_cmp_total}
use Rattle.std.specs.FinMap.{get, insert, get-insert}
use Rattle.std.proofs.Common.{arith, ap, subst, ◌∙◌, sym}
use Rattle.std.proofs.lemmas.Bool.Decides.{nat_tests}
use Rattle.ipcz_router.specs.Router.{is_open_terminal}
use Rattle.ipcz_node.specs.Sends.{move_router}
use Rattle.ipcz_world.specs.Records.{Moving as IsMoving}
use Rattle.ipcz_world.proofs.facts.RecordsAfter.{moves_records}
use Rattle.ipcz_world.proofs.frames.OfRecords.{in_places}
use Rattle.ipcz_world.proofs.frames.Opened.{OpenInv, opened}
use Rattle.ipcz_world.proofs.facts.Finding.{IsTerminalOf, found_there, terminal_tells}
use Rattle.ipcz_world.proofs.frames.Booking.{in_router-within}
use Rattle.ipcz_world.proofs.acts.Sending.{IsSend}
use Rattle.ipcz_world.proofs.acts.MovingEnds.{posted_world, first_end, later_end}
use Rattle.ipcz_world.proofs.acts.SendingMoves.{before_moves, AreMoved, inv-send_moves}
use Rattle.ipcz_world.proofs.frames.Holding.{times-has}
use Rattle.std.proofs.lemmas.Bool.{and_from}
use Rattle.ipcz_world.proofs.facts.Tests.{and_first, and_second}
use Rattle.ipcz_world.proofs.frames.Calling.{cond_most}
use Rattle.ipcz_world.proofs.facts.LinkTests.{same_end-itself, same_end-tells}

-- each of these ends has its open terminal in the node
abbrev pub HasTerminals : Node → List End → Type 0
HasTerminals n es = (e : End) → has_end e es ≡ true → (s : ℕ) × (r : Router) × IsTerminalOf n e s r × (r.closed ≡ false)

-- no end stands twice
abbrev pub AreOnce : List End → Type 0
AreOnce es = (e : End) → times e es ≤ 1

pub later_once : (e : End) (es : List End) → AreOnce (e ∷ es) → AreOnce es
later_once e es once d = omega (arith, once d)

-- an end that stands first doesn't stand later
pub first_only : (e : End) (es : List End) → AreOnce (e ∷ es) → has_end e es ≡ true → ⊥
first_only e es once h = omega (arith, once e, times-has e es h, ap {B = ℕ} (λ c. cond c 1 0) (same_end-itself e))

moves_more : (ds : List Descriptor) (d : Descriptor) (es : List End) →
    map (λ d. d.end) (ds ++ d ∷ []) ++ es ≡ map (λ d. d.end) ds ++ d.end ∷ es
moves_more [] d es = refl
moves_more (x ∷ ds) d es = ap (λ t. x.end ∷ t) (moves_more ds d es)

moves_none : (ds : List Descriptor) → map (λ d. d.end) ds ≡ map (λ d. d.end) ds ++ []
moves_none [] = refl
moves_none (x ∷ ds) = ap (λ t. x.end ∷ t) (moves_none ds)

pub move_found-some : (m : Transfer) (to : ℕ) (f : Found) → move_found m to (Some f) ≡ move_router m to f.serial f.router
unfolding move_found
move_found-some m to f = refl

-- another router under a serial leaves the terminals of other serials
pub terminals-insert : (n : Node) (s : ℕ) (r y : Router) (es : List End) (x : Node) → x.routers ≡ insert n.routers s y →
    get n.routers s ≡ Some r → HasTerminals n es → ((e : End) → has_end e es ≡ true → r.end ≡ e → is_terminal r ≡ true → r.closed ≡ false →
    (is_terminal y ≡ true) × (y.end ≡ e) × (y.closed ≡ false)) → HasTerminals x es
terminals-insert n s r y es x routers here has other e h = go (nat_eq t.0 s) refl
  where
    t : (s : ℕ) × (r : Router) × IsTerminalOf n e s r × (r.closed ≡ false)
    t = has e h

    at : (c : Bool) → nat_eq t.0 s ≡ c → get x.routers t.0 ≡ cond c (Some y) (get n.routers t.0)
    at c q = ap (λ m. get m t.0) routers ∙ grind (arith, get-insert nat_cmp_total n.routers s y t.0, q, nat_tests)

    go : (c : Bool) → nat_eq t.0 s ≡ c → (s : ℕ) × (r : Router) × IsTerminalOf x e s r × (r.closed ≡ false)
    go true q =
        let k : t.0 ≡ s = grind (arith, q, nat_tests) in
        let same : r ≡ t.1 = grind (arith, ap (get n.routers) k, here, t.2.here) in
        let z = other e h (ap (λ a. a.end) same ∙ t.2.end) (ap (λ a. is_terminal a) same ∙ t.2.terminal) (ap (λ a. a.closed) same ∙ t.3) in
        (t.0, y, record { here = at true q; terminal = z.0; end = z.1 }, z.2)
    go false q = (t.0, t.1, record { here = at false q ∙ t.2.here; terminal = t.2.terminal; end = t.2.end }, t.3)

-- all of them move, in order
pub moved_all : (m : Transfer) (to : ℕ) (es : List End) → HasTerminals m.node es → AreOnce es →
    map (λ d. d.end) (move_ends m to es).moves ≡ map (λ d. d.end) m.moves ++ es
moved_all m to [] has once = moves_none m.moves
moved_all m to (e ∷ es) has once =
    let t = has e (first_end e es) in
    let f = found_there m.node (is_terminal_of e) t.0 t.1 t.2.here
    (and_from (is_open_terminal t.1) (same_end t.1.end e) (and_from (is_terminal t.1) (not t.1.closed) t.2.terminal (ap not t.3))
    (ap (λ d. same_end d e) t.2.end ∙ same_end-itself e)) in
    go f.0 f.1 (λ x h o. moved_all x to es h o)
  where
    go : (f : Found) → terminal_of m.node e ≡ Some f → ((x : Transfer) → HasTerminals x.node es → AreOnce es →
        map (λ d. d.end) (move_ends x to es).moves ≡ map (λ d. d.end) x.moves ++ es) →
        map (λ d. d.end) (move_ends (move_found m to (terminal_of m.node e)) to es).moves ≡ map (λ d. d.end) m.moves ++ e ∷ es
    go f found more =
        let t = terminal_tells m.node e f found in let x = move_router m to f.serial f.router in
        let still : HasTerminals x.node es = terminals-insert m.node f.serial f.router _ es x.node refl t.here
        (λ d h. has d (later_end d e es h)) (λ d h q l c. absurd
        (first_only e es once (subst (λ z. has_end z es ≡ true) (sym q ∙ t.end) h))) in
        ap (λ o. map (λ d. d.end) (move_ends (move_found m to o) to es).moves) found ∙ ap (λ z. map (λ d. d.end) (move_ends z to es).moves)
        (move_found-some m to f) ∙ more x still (later_once e es once) ∙
        moves_more m.moves _ es ∙ ap (λ z. map (λ d. d.end) m.moves ++ z ∷ es) t.end

-- an end whose terminal is at a node
pub terminal_at : (t : Terminal) (n : ℕ) → terminal_node t ≡ Some n → (q : Key) × (t ≡ At q) × (q.node ≡ n)
unfolding terminal_node
terminal_at Nowhere n h = cc
terminal_at Retired n h = cc
terminal_at (At k) n h = (k, refl, grind (arith, h))
terminal_at (IsMoving d) n h = cc

pub passes_tells : (w : World) (k : Key) (test : Router → Bool) → key_passes w (Some k) test ≡ true →
    (r : Router) × (router_at w k ≡ Some r) × (test r ≡ true)
unfolding key_passes passes
passes_tells w k test h = go (router_at w k) refl h
  where
    go : (o : Option Router) → router_at w k ≡ o → passes o test ≡ true → (r : Router) × (router_at w k ≡ Some r) × (test r ≡ true)
    go None e h = cc
    go (Some r) e h = (r, e, h)

router_in_node : (w : World) (q : Key) (n : ℕ) (r : Router) → router_at w q ≡ Some r → q.node ≡ n →
    get (node_at w n).routers q.serial ≡ Some r
unfolding router_at
router_in_node w q n r h e = subst (λ m. get (node_at w m).routers q.serial ≡ Some r) e h

-- the ends whose terminals are at a node have them there
pub has_terminals : (w : World) (b : Books) (g : Records) (n : ℕ) (es : List End) → OpenInv w b g →
    ((e : End) → has_end e es ≡ true → terminal_node (g.terminal e) ≡ Some n) → ((e : End) → has_end e es ≡ true → is_closed b e ≡ false) →
    HasTerminals (node_at w n) es
has_terminals w b g n es law at unclosed e h =
    let q = terminal_at (g.terminal e) n (at e h) in let r = passes_tells w q.0 (λ r. is_terminal r && same_end r.end e)
    (law.terminals.stands e q.0 q.1) in
    let lone = and_first (is_terminal r.0) (same_end r.0.end e) r.2 in let end =
    same_end-tells r.0.end e (and_second (is_terminal r.0) (same_end r.0.end e) r.2) in (
      q.0.serial,
      r.0,
      record { here = router_in_node w q.0 n r.0 r.1 q.2; terminal = lone; end = end },
      law.conserved.sink q.0 r.0 r.1 lone ∙ ap (is_closed b) end ∙ unclosed e h,
    )

-- an item that weighs no more than all names no end twice
pub ends_once : (w : World) (b : Books) (g : Records) (item : Item) → OpenInv w b g →
    ((e : End) → times e (ends_in item) ≤ in_places (names_end e) g w) → AreOnce (ends_in item)
ends_once w b g item law low e = omega (arith, low e, law.held_once.once e, cond_most (is_nowhere (g.terminal e)))

flag_off : (c : Bool) (n : ℕ) → 1 ≤ n → n + cond c 1 0 ≤ 1 → c ≡ false
flag_off true n l h = absurd (omega (arith, l, h))
flag_off false n l h = refl

-- nor is one of them closed
pub ends_unclosed : (w : World) (b : Books) (g : Records) (item : Item) → OpenInv w b g →
    ((e : End) → times e (ends_in item) ≤ in_places (names_end e) g w) → (e : End) → has_end e (ends_in item) ≡ true → is_closed b e ≡ false
ends_unclosed w b g item law low e h = flag_off (is_closed b e) (times e (ends_in item)) (times-has e (ends_in item) h)
    (omega (arith, low e, law.held_once.once e, cond_most (is_nowhere (g.terminal e))))

-- each end of an item that is sent has its terminal here, and none stands twice
pub ends_here : (w : World) (b : Books) (g : Records) (k : Key) (r y : Router) (link : LinkId) (s : Side) (to n : ℕ) (item : Item) →
    OpenInv w b g → IsSend w g k r y link s to n item →
    HasTerminals (with_router (node_at w k.node) k.serial y) (ends_in item) × AreOnce (ends_in item)
ends_here w b g k r y link s to n item law is = (has, once)
  where
    weighs : (e : End) → times e (ends_in item) ≤ in_places (names_end e) g w
    weighs e = omega (arith, is.weight (names_end e), in_router-within (names_end e) g w k r (law.counts.on_node k r is.here) is.here)

    has : HasTerminals (with_router (node_at w k.node) k.serial y) (ends_in item)
    has = terminals-insert (node_at w k.node) k.serial r y (ends_in item) (with_router (node_at w k.node) k.serial y) refl
        (router_in_node w k k.node r is.here refl) (has_terminals w b g k.node (ends_in item) law is.ends
        (ends_unclosed w b g item law weighs))
        (λ e h end lone c. (ap (λ o. is_terminal (record r { inward = o })) is.alike.inward ∙ lone, is.alike.end ∙ end, is.closed ∙ c))

    once : AreOnce (ends_in item)
    once = ends_once w b g item law weighs

-- so each of them moves
pub are_moved : (w : World) (b : Books) (g : Records) (k : Key) (r y : Router) (link : LinkId) (s : Side) (to n : ℕ) (item : Item) →
    OpenInv w b g → IsSend w g k r y link s to n item → AreMoved w k y to item
are_moved w b g k r y link s to n item law is = let t = ends_here w b g k r y link s to n item law is in
    moved_all (before_moves w k y) to (ends_in item) t.0 t.1

-- a send to another node keeps all that holds
pub inv-moved : (w : World) (b : Books) (g : Records) (k : Key) (r y : Router) (link : LinkId) (s : Side) (to n : ℕ) (item : Item) →
    Inv w b g → IsSend w g k r y link s to n item → k.node ≢ to →
    Inv (posted_world w k.node to link s n item (move_ends (before_moves w k y) to (ends_in item))) b
    (moves_records g (before_moves w k y) to (ends_in item))
inv-moved w b g k r y link s to n item law is away = inv-send_moves w b g k r y link s to n item law is away
    (are_moved w b g k r y link s to n item (opened w b g law) is)
