-- In a quiet world each item that a pair without proxies has put and not read stands in the in queue of its receiving terminal.
use Rattle.ipcz_world.proofs.Vocabulary.{Weight, in_router, at_end, End, Item, Message, Refusal, opposite_end, same_end, place_at, total, total_below}
use Rattle.ipcz_world.proofs.Vocabulary.{total_list, Edge, item_at, current_item, Router, is_terminal, is_possible, RouterAct, Node, Found}
use Rattle.ipcz_world.proofs.Vocabulary.{terminal_of, Reply, World, Key, node_at, mail_at, way, router_at, messages_in, flow, set_node, unless, Books}
use Rattle.ipcz_world.proofs.Vocabulary.{read, is_closed, Records, Terminal, At, IsUnderWay, under_way, Inv, Retired, Gone, Parcel, Mark, edge_decays}
use Rattle.ipcz_world.proofs.Vocabulary.{reach, holds_end, get_node, get_refusal, is_quiet, are_empty, Mail, is_clear, Nowhere, Moving, routes_of}
use Rattle.ipcz_world.proofs.Vocabulary.{IsQuiet, AreFlagged}
use Rattle.ipcz_world.specs.Places.{in_node as in_node', just}
use Rattle.std.specs.Prelude.{◌≡◌, ◌≤◌, ◌<◌, ℕ, zero, suc, ◌+◌, Bool, true, false, cond, ◌&&◌, nat_eq, nat_lt, T, if◌then◌else◌, Option}
use Rattle.std.specs.Prelude.{Some, None, is_some, List, [], ◌∷◌, ◌++◌, length, take, map, slice_get, refl}
use Rattle.std.proofs.Common.{arith, sym, ◌∙◌, ap, subst}
use Rattle.std.proofs.lemmas.Bool.Decides.{nat_tests}
use Rattle.std.proofs.lemmas.Option.{same_Some, none-some}
use Rattle.std.specs.Ordering.{nat_cmp, eq_by_cmp, is_eq}
use Rattle.std.specs.Cmp.{nat_cmp_total, tied_itself}
use Rattle.std.specs.FinMap.{FinMap, get, entries, entries_sorted, find, get-entries, is_sorted}
use Rattle.std.specs.FinMap.Entries.{below_all}
use Rattle.ipcz_base.specs.declared.refusal.Refusal.TheVariants as refusals
use Rattle.ipcz_base.specs.Totals.{total_of}
use Rattle.ipcz_edge.specs.Edge.{is_short_of, choose}
use Rattle.ipcz_seq.specs.Queue.{IsReach}
use Rattle.ipcz_router.specs.Calls.{item_refusal}
use Rattle.ipcz_router.specs.declared.act.RouterAct.TheVariants as acts
use Rattle.ipcz_node.specs.Node.{find_router}
use Rattle.ipcz_node.specs.Calls.{refusal_at}
use Rattle.ipcz_node.proofs.Mailing.{empty_box}
use Rattle.ipcz_world.specs.declared.mail.Mail.TheVariants as mails
use Rattle.ipcz_world.specs.declared.step.Reply.TheVariants as replies
use Rattle.ipcz_world.specs.Steps.{get_reply, got_reply}
use Rattle.ipcz_world.proofs.frames.OfRecords.{in_node, in_message, holds_times}
use Rattle.ipcz_base.specs.Items.{same_item}
use Rattle.ipcz_world.specs.WorldLaws.{QuietDelivers}
use Rattle.ipcz_world.specs.Owed.{IsDirectPair}
use Rattle.ipcz_world.proofs.frames.Flowing.{found}
use Rattle.ipcz_world.proofs.frames.Changing.{flow_is}
use Rattle.ipcz_world.proofs.frames.Weighing.{in_places-is, in_router-is}
use Rattle.ipcz_world.proofs.frames.Booking.{out_numbers}
use Rattle.ipcz_world.proofs.facts.Reaching.{is_reach, reach_one, left, right}
use Rattle.ipcz_world.proofs.facts.Finding.{found_there, terminal_tells, find_above}
use Rattle.ipcz_world.proofs.frames.Holding.{times_held-at}
use Rattle.ipcz_world.proofs.frames.Calling.{held_unclosed}
use Rattle.ipcz_world.proofs.lawful.EachOnce.{once, in_queue-put}
use Rattle.ipcz_world.proofs.facts.LinkTests.{opposite_end-twice, same_end-tells}

-- every router of a pair is a terminal
abbrev pub HasNoProxy : World → ℕ → Type 0
HasNoProxy w pair = (k : Key) (r : Router) → router_at w k ≡ Some r → r.end.pair ≡ pair → is_terminal r ≡ true

-- so it is if the pair is direct
no_proxy : (w : World) (pair : ℕ) → IsDirectPair w pair → HasNoProxy w pair
no_proxy w pair is k r here p =
    let at = is.stands r.end.side in
    ap is_terminal (same_Some r at.router (sym here ∙ ap (router_at w) (is.only k r here p) ∙ at.here)) ∙ at.terminal

total_of-zero : {X : Type 0} (f : ℕ → X → ℕ) (es : List (ℕ × X)) → T (is_sorted nat_cmp es) →
    ((k : ℕ) (x : X) → find nat_cmp k es ≡ Some x → f k x ≡ 0) → total_of f es ≡ 0
total_of-zero f [] s h = refl
total_of-zero {X} f (e ∷ es) s h = omega (
  arith,
  h e.0 e.1 here,
  total_of-zero f es
      (right (below_all nat_cmp e.0 es) (is_sorted nat_cmp es) s) (λ k x p. h k x (later k x p)),
)
  where
    here : cond (eq_by_cmp nat_cmp e.0 e.0) (Some e.1) (find nat_cmp e.0 es) ≡ Some e.1
    here = ap (λ b. cond b (Some e.1) (find nat_cmp e.0 es)) (ap is_eq (tied_itself nat_cmp_total e.0))

    later : (k : ℕ) (x : X) → find nat_cmp k es ≡ Some x → cond (eq_by_cmp nat_cmp k e.0) (Some e.1) (find nat_cmp k es) ≡ Some x
    later k x p =
        let above : e.0 < k = find_above e.0 k x es (left (below_all nat_cmp e.0 es) (is_sorted nat_cmp es) s) p in
        let apart : eq_by_cmp nat_cmp k e.0 ≡ false = grind (arith, above, nat_tests) in
        ap (λ b. cond b (Some e.1) (find nat_cmp k es)) apart ∙ p

pub total-zero : {X : Type 0} (f : ℕ → X → ℕ) (m : FinMap nat_cmp X) → ((k : ℕ) (x : X) → get m k ≡ Some x → f k x ≡ 0) → total f m ≡ 0
unfolding total
total-zero f m h = total_of-zero f (entries m) (entries_sorted m) (λ k x p. h k x (get-entries m k ∙ p))

pub total_below-zero : (c : ℕ) (f : ℕ → ℕ) → ((j : ℕ) → j < c → f j ≡ 0) → total_below c f ≡ 0
total_below-zero zero f h = refl
total_below-zero (suc c) f h = omega (arith, h c (omega arith), total_below-zero c f (λ j l. h j (omega arith)))

-- nothing is under way in a quiet world
quiet-mail : (y : Mail) → is_clear y ≡ true → messages_in y ≡ []
unfolding is_clear messages_in
quiet-mail mails.Empty h = refl
quiet-mail (mails.Full m) h = cc
quiet-mail (mails.Hand m) h = cc

-- a node's part of quiet
record IsStill (n : Node) : Type 0 where
  boxes : are_empty n.outboxes ≡ true
  flags : find_router n (λ r. r.flagged) ≡ None

is-still : (n : Node) → is_quiet n ≡ true → IsStill n
unfolding is_quiet
is-still n h = record { boxes = grind (arith, h); flags = go (find_router n (λ r. r.flagged)) refl }
  where
    go : (o : Option Found) → find_router n (λ r. r.flagged) ≡ o → find_router n (λ r. r.flagged) ≡ None
    go None e = e
    go (Some f) e = absurd (grind (arith, h, e))

pub quiet-flow : (w : World) → IsQuiet w → (from to : ℕ) → from < w.count → flow w from to ≡ []
quiet-flow w quiet from to l = flow_is w from to ∙ ap (λ ms. ms ++ place_at [] (node_at w from).outboxes to)
    (quiet-mail (mail_at w (way w from to)) (quiet.mail (way w from to)))
    ∙ empty_box (node_at w from).outboxes to (is-still (node_at w from) (quiet.nodes from l)).boxes

pub nothing-moves : (w : World) → IsQuiet w → (from to i : ℕ) (m : Message) → IsUnderWay w from to i m → ⊥
nothing-moves w quiet from to i m u = grind (arith, ap (λ ms. slice_get ms i) (quiet-flow w quiet from to u.sender), u.place)

-- no router can act in a quiet world
pub nothing-possible : (w : World) → AreFlagged w → IsQuiet w → (k : Key) (r : Router) (act : RouterAct) → k.node < w.count →
    router_at w k ≡ Some r → is_possible r act ≡ false
unfolding router_at
nothing-possible w flagged quiet k r act l here = go (is_possible r act) refl
  where
    go : (c : Bool) → is_possible r act ≡ c → is_possible r act ≡ false
    go false e = e
    go true e = let t = found_there (node_at w k.node) (λ q. q.flagged) k.serial r here (flagged k r act here e) in
        absurd (none-some t.0 (sym (is-still (node_at w k.node) (quiet.nodes k.node l)).flags ∙ t.1))

-- a link is chosen if there is a primary one
pub choose-some : (e : Edge) (n : ℕ) → is_some e.primary ≡ true → is_some (choose e n) ≡ true
unfolding choose
choose-some e n h = go (edge_decays e) (is_short_of n e.length_to) refl refl
  where
    go : (c d : Bool) → edge_decays e ≡ c → is_short_of n e.length_to ≡ d →
        is_some (if edge_decays e && is_short_of n e.length_to then e.decaying else e.primary) ≡ true
    go true true p q = grind (arith, p, q)
    go true false p q = grind (arith, p, q, h)
    go false d p q = grind (arith, p, h)

-- a terminal's out queue is empty
pub out-delivered : (w : World) (b : Books) (g : Records) (k : Key) (r : Router) → Inv w b g → AreFlagged w → IsQuiet w →
    router_at w k ≡ Some r → is_terminal r ≡ true → (n : ℕ) → item_at r.out_queue n ≡ None
unfolding is_possible
out-delivered w b g k r law flagged quiet here t n = go (item_at r.out_queue n) refl
  where
    on_node : k.node < w.count
    on_node = law.counts.on_node k r here

    primary : is_some r.outward.primary ≡ true
    primary = grind (arith, (law.shape k r here).role, t)

    none : (o : Option Item) → current_item r.out_queue ≡ o → current_item r.out_queue ≡ None
    none None e = e
    none (Some item) e = absurd (grind (
      arith,
      nothing-possible w flagged quiet k r acts.SendOut on_node here,
      choose-some r.outward r.out_queue.current primary,
      e,
    ))

    bare : IsReach r.out_queue r.out_queue.current
    bare = record { from = omega arith; absent = none (current_item r.out_queue) refl; filled = λ m a c. absurd (omega (arith, a, c)) }

    reached : reach r.out_queue ≡ r.out_queue.current
    reached = reach_one r.out_queue (reach r.out_queue) r.out_queue.current (is_reach r.out_queue) bare

    go : (o : Option Item) → item_at r.out_queue n ≡ o → item_at r.out_queue n ≡ None
    go None e = e
    go (Some item) e = absurd (omega (
      arith,
      (law.ordered k r here).out n item e,
      (out_numbers w b g k r n item law.conserved on_node here e).1,
      law.conserved.reach k r here t,
      reached,
    ))

pub in_node-is : (f : Weight) (g : Records) (n : Node) → in_node f g n ≡ total (λ s r. in_router f r) n.routers + total_list
    (in_message f g)
    n.strays
unfolding in_node'
in_node-is f g n = refl

pub router-is : (w : World) (n s : ℕ) → router_at w (record { node = n; serial = s }) ≡ get (node_at w n).routers s
unfolding router_at
router-is w n s = refl

abbrev pub key_of : Terminal → Option Key
key_of Nowhere = None
key_of (At k) = Some k
key_of (Moving d) = None
key_of Retired = None

-- what wasn't read stands at the terminal
pub stands-at : (w : World) (b : Books) (g : Records) (k : Key) (r : Router) (n : ℕ) (x : Item) → Inv w b g → AreFlagged w → IsQuiet w →
    HasNoProxy w r.end.pair → router_at w k ≡ Some r → read b r.end ≤ n → slice_get (b.put (opposite_end r.end)) n ≡ Some x →
    item_at r.in_queue n ≡ Some x
stands-at w b g k r n x law flagged quiet plain here unread put = go (item_at r.in_queue n) refl
  where
    f : Weight
    f = at_end (opposite_end r.end) (just n x)

    nothing_under_way : under_way (λ from to m. in_message f g m) w ≡ 0
    nothing_under_way = none (under_way (λ from to m. in_message f g m) w) refl
      where
        none : (a : ℕ) → under_way (λ from to m. in_message f g m) w ≡ a → under_way (λ from to m. in_message f g m) w ≡ 0
        none zero e = e
        none (suc a) e = let t = found (λ from to m. in_message f g m) w (omega (arith, e)) in
            absurd (nothing-moves w quiet t.0 t.1 t.2 t.3 t.4)

    -- no router has it, if this one hasn't
    router_bare : item_at r.in_queue n ≡ None → (q : Key) (y : Router) → router_at w q ≡ Some y → in_router f y ≡ 0
    router_bare lacks q y at = in_router-is f y ∙ omega (
      arith,
      out (same_end y.end (opposite_end r.end)) refl,
      inn (same_end (opposite_end y.end) (opposite_end r.end)) refl,
    )
      where
        out : (c : Bool) → same_end y.end (opposite_end r.end) ≡ c → total (f y.end) y.out_queue.items ≡ 0
        out false e = total-zero (f y.end) y.out_queue.items (λ m z h. ap (λ c. cond c (just n x m z) 0) e)
        out true e = total-zero (f y.end) y.out_queue.items (λ m z h. absurd
            (none-some z (sym (out-delivered w b g q y law flagged quiet at
            (plain q y at (ap (λ d. d.pair) (same_end-tells y.end (opposite_end r.end) e))) m) ∙ h)))

        inn : (c : Bool) → same_end (opposite_end y.end) (opposite_end r.end) ≡ c → total (f (opposite_end y.end)) y.in_queue.items ≡ 0
        inn false e = total-zero (f (opposite_end y.end)) y.in_queue.items (λ m z h. ap (λ c. cond c (just n x m z) 0) e)
        inn true e = total-zero (f (opposite_end y.end)) y.in_queue.items (λ m z h. weigh m z h (nat_eq m n) refl)
          where
            ends : y.end ≡ r.end
            ends = sym (opposite_end-twice y.end) ∙ ap opposite_end (same_end-tells (opposite_end y.end) (opposite_end r.end) e) ∙
                opposite_end-twice
                r.end

            pair : y.end.pair ≡ r.end.pair
            pair = ap (λ d. d.pair) ends

            keys : q ≡ k
            keys = same_Some q k (ap key_of (sym ((law.terminals.each q y at).terminal (plain q y at pair)) ∙ ap g.terminal ends ∙
                (law.terminals.each k r here).terminal (plain k r here refl)))

            same : y ≡ r
            same = same_Some y r (sym at ∙ ap (router_at w) keys ∙ here)

            weigh : (m : ℕ) (z : Item) → item_at y.in_queue m ≡ Some z → (c : Bool) → nat_eq m n ≡ c → f (opposite_end y.end) m z ≡ 0
            weigh m z h false d = ap (λ c. cond (same_end (opposite_end y.end) (opposite_end r.end)) (cond (c && same_item z x) 1 0) 0) d ∙
                none (same_end (opposite_end y.end) (opposite_end r.end))
              where
                none : (c : Bool) → cond c zero zero ≡ zero
                none true = refl
                none false = refl
            weigh m z h true d = absurd (none-some z (sym lacks ∙ ap (λ t. item_at t.in_queue n) (sym same) ∙ ap (item_at y.in_queue)
                (sym number) ∙ h))
              where
                number : m ≡ n
                number = grind (arith, d, nat_tests)

    node_bare : item_at r.in_queue n ≡ None → (j : ℕ) → in_node f g (node_at w j) ≡ 0
    node_bare lacks j = in_node-is f g (node_at w j) ∙ omega (
      arith,
      total-zero (λ s y. in_router f y) (node_at w j).routers (λ s y at. router_bare lacks (record { node = j; serial = s }) y
          (router-is w j s ∙ at)),
      ap (total_list (in_message f g)) (law.no_strays j),
    )

    go : (o : Option Item) → item_at r.in_queue n ≡ o → item_at r.in_queue n ≡ Some x
    go (Some z) e = e ∙ sym (in_queue-put w b g k r n z law here e).1 ∙ put
    go None e = absurd (omega (
      arith,
      once w b (routes_of g) law.conserved.exact (opposite_end r.end) n x
          (subst (λ d. read b d ≤ n) (sym (opposite_end-twice r.end)) unread)
          put,
      in_places-is f g w,
      nothing_under_way,
      total_below-zero w.count (λ j. in_node f g (node_at w j)) (λ j l. node_bare e j),
    ))

take-whole : {X : Type 0} (n : ℕ) (xs : List X) → length xs ≤ n → take n xs ≡ xs
take-whole zero [] l = refl
take-whole (suc n) [] l = refl
take-whole zero (x ∷ xs) l = absurd (omega (arith, l))
take-whole (suc n) (x ∷ xs) l = ap (λ t. x ∷ t) (take-whole n xs (omega (arith, l)))

pub slice_get-none : {X : Type 0} (xs : List X) (n : ℕ) → slice_get xs n ≡ None → length xs ≤ n
slice_get-none [] n h = omega arith
slice_get-none (x ∷ xs) zero h = cc
slice_get-none (x ∷ xs) (suc n) h = omega (arith, slice_get-none xs n h)

empty-tells : (o : Option Item) → item_refusal o ≡ Some refusals.Empty → o ≡ None
unfolding item_refusal
empty-tells None h = refl
empty-tells (Some (Parcel p)) h = cc
empty-tells (Some Mark) h = cc
empty-tells (Some Gone) h = cc

-- what a get finds that is refused as empty: the terminal of the end, which callers hold, and nothing at its current number
record IsEmpty (n : Node) (e : End) : Type 0 where
  at : Found
  is : terminal_of n e ≡ Some at
  none : current_item at.router.in_queue ≡ None
  held : holds_end n e ≡ true

empty-get : (n : Node) (e : End) → get_refusal n e ≡ Some refusals.Empty → IsEmpty n e
unfolding get_refusal refusal_at
empty-get n e h = go (holds_end n e) (terminal_of n e) refl refl
  where
    go : (c : Bool) (o : Option Found) → holds_end n e ≡ c → terminal_of n e ≡ o → IsEmpty n e
    go false o p q = absurd (grind (arith, p, h))
    go true None p q = absurd (grind (arith, p, q, h))
    go true (Some f) p q = record { at = f; is = q; none = empty-tells (current_item f.router.in_queue) (grind (arith, p, q, h)); held = p }

-- a get that is refused as empty finds all got
pub all-got : (w : World) (b : Books) (g : Records) (n : ℕ) (e : End) → Inv w b g → AreFlagged w → IsQuiet w → HasNoProxy w e.pair →
    n < w.count → get_refusal (node_at w n) e ≡ Some refusals.Empty → b.put (opposite_end e) ≡ map Parcel (b.got e)
all-got w b g n e law flagged quiet plain l refused = sym (take-whole (length (b.got e)) (b.put (opposite_end e))
    (omega (arith, all, law.conserved.gone_closed e unclosed)))
    ∙ ap (λ d. take (length (b.got d)) (b.put (opposite_end e))) (sym (opposite_end-twice e)) ∙ law.conserved.prefix (opposite_end e) ∙ ap
    (λ d. map Parcel (b.got d)) (opposite_end-twice e)
  where
    got : IsEmpty (node_at w n) e
    got = empty-get (node_at w n) e refused

    k : Key
    k = record { node = n; serial = got.at.serial }

    r : Router
    r = got.at.router

    here : router_at w k ≡ Some r
    here = router-is w n got.at.serial ∙ (terminal_tells (node_at w n) e got.at got.is).here

    end : r.end ≡ e
    end = (terminal_tells (node_at w n) e got.at got.is).end

    current : r.in_queue.current ≡ read b e
    current = law.conserved.current k r here (terminal_tells (node_at w n) e got.at got.is).terminal ∙ ap (read b) end

    unclosed : is_closed b e ≡ false
    unclosed = held_unclosed w b g e law.held_once (omega (arith, holds_times e (node_at w n).held got.held, times_held-at w n e l))

    all : length (b.put (opposite_end e)) ≤ read b e
    all = slice_get-none (b.put (opposite_end e)) (read b e) (go (slice_get (b.put (opposite_end e)) (read b e)) refl)
      where
        go : (o : Option Item) → slice_get (b.put (opposite_end e)) (read b e) ≡ o → slice_get (b.put (opposite_end e)) (read b e) ≡ None
        go None h = h
        go (Some x) h = absurd (none-some x (sym got.none ∙ ap (item_at r.in_queue) current
            ∙ stands-at w b g k r (read b e) x law flagged quiet (λ q y at p. plain q y at (p ∙ ap (λ d. d.pair) end)) here
            (omega (arith, ap (read b) end)) (ap (λ d. slice_get (b.put (opposite_end d)) (read b e)) end ∙ h)))

-- a get is refused as empty only by its refusal
got-empty : (number : ℕ) (o : Option Item) → got_reply number o ≡ replies.Refused refusals.Empty → o ≡ None
unfolding got_reply
got-empty number None h = refl
got-empty number (Some (Parcel p)) h = cc
got-empty number (Some Mark) h = cc
got-empty number (Some Gone) h = cc

-- a get that isn't refused has an item to give
refused-is : (w : World) (n : ℕ) (e : End) (v : World) → (unless w (get_refusal (node_at w n) e)
    (record { reply = get_reply (terminal_of (node_at w n) e); world = v })).reply ≡ replies.Refused refusals.Empty →
    get_refusal (node_at w n) e ≡ Some refusals.Empty
unfolding unless get_reply get_refusal refusal_at item_refusal
refused-is w n e v h = go (get_refusal (node_at w n) e) refl h
  where
    refusal_of : Reply → Option Refusal
    refusal_of (replies.Refused y) = Some y
    refusal_of other = None

    finds : (o : Option Found) → terminal_of (node_at w n) e ≡ o → get_refusal (node_at w n) e ≡ None →
        get_reply o ≡ replies.Refused refusals.Empty → ⊥
    finds None q none f = cc
    finds (Some x) q none f = lacks (holds_end (node_at w n) e) refl
      where
        bare : current_item x.router.in_queue ≡ None
        bare = got-empty x.router.in_queue.current (current_item x.router.in_queue) f

        lacks : (c : Bool) → holds_end (node_at w n) e ≡ c → ⊥
        lacks false z = absurd (grind (arith, z, none))
        lacks true z = absurd (grind (arith, z, q, bare, none))

    go : (o : Option Refusal) → get_refusal (node_at w n) e ≡ o →
        (unless w o (record { reply = get_reply (terminal_of (node_at w n) e); world = v })).reply ≡ replies.Refused refusals.Empty →
        get_refusal (node_at w n) e ≡ Some refusals.Empty
    go None q f = absurd (finds (terminal_of (node_at w n) e) refl q f)
    go (Some why) q f = q ∙ ap refusal_of f

-- if nothing waits, a get on a direct pair is Empty only if all that the peer has put was got
pub quiet_delivers : QuietDelivers
quiet_delivers w v b g n e law quiet direct step = go (nat_lt n w.count) refl
  where
    go : (c : Bool) → nat_lt n w.count ≡ c → map Parcel (b.got e) ≡ b.put (opposite_end e)
    go false h = absurd (grind (arith, step.0, h))
    go true h = sym (all-got w b law.records n e law.inv law.flagged quiet (no_proxy w e.pair direct) (grind (arith, h, nat_tests))
        (refused-is w n e (set_node w n (get_node (node_at w n) e)) (grind (arith, step.0, h))))
