-- On one node no terminal moves, so no peripheral link is ever made and no bypass begins: each open pair is direct.
use Rattle.ipcz_world.proofs.frames.RolesTell.{links-in, positions-in}
use Rattle.std.specs.Prelude.{◌≡◌, ◌⊎◌, ◌<◌, ◌≤◌, is_some, ℕ, zero, suc, ◌+◌, Bool, true, false, cond, ◌&&◌, nat_eq, if◌then◌else◌, Option, Some, None}
use Rattle.std.specs.Prelude.{List, [], ◌∷◌, ◌++◌, refl}
use Rattle.std.proofs.Common.{arith, sym, ◌∙◌, ap, subst, inl, inr}
use Rattle.std.proofs.lemmas.Bool.Decides.{nat_tests}
use Rattle.std.proofs.lemmas.Option.{same_Some}
use Rattle.ipcz_world.proofs.Vocabulary.{Side, A, B, End, LinkId, Central, Peripheral, LinkEnd, Descriptor, Item, Message, place_at, ends_in}
use Rattle.ipcz_world.proofs.Vocabulary.{opposite, Edge, Router, is_terminal, inward_edge, from_descriptor, bypass_peer, output_of, RouterAct, Close}
use Rattle.ipcz_world.proofs.Vocabulary.{Node, Found, router_in, with_router, bare_node, terminal_of, commit, World, Key, node_at, router_at}
use Rattle.ipcz_world.proofs.Vocabulary.{answer_of, Books, Records, is_linked, is_recorded, bypass_of, is_begun, side_end, IsRecorded, is_outward}
use Rattle.ipcz_world.proofs.Vocabulary.{Inv, same_end, same_side, has_link, Terminal, At, is_nowhere, total_list, is_retired, move_weight, Nowhere}
use Rattle.ipcz_world.proofs.Vocabulary.{Moving, Retired, has_role, end_at, edge_decays, accept_message, accept_bypass, stop_proxying}
use Rattle.ipcz_world.proofs.Vocabulary.{proxy_will_stop, stop_message, will_stop_message, way_out, way_in, apply, leaves_by, item_output}
use Rattle.ipcz_world.proofs.Vocabulary.{message_output, discard_output, Answer, Applied, add_router, add_end, link_router, on_found, on_router}
use Rattle.ipcz_world.proofs.Vocabulary.{put_node, put_at_router, get_node, get_at_router, close_end, close_at_router, move_ends, send_item, send}
use Rattle.ipcz_world.proofs.Vocabulary.{deliver, handle, fits, tell, take_in, make_terminals, commit_router, keep_or_drop, new_world, numbers_from}
use Rattle.ipcz_world.proofs.Vocabulary.{flushed}
use Rattle.ipcz_world.proofs.facts.Lengths.{has_link-some, side_is}
use Rattle.ipcz_world.proofs.facts.LinkTests.{same_end-tells}
use Rattle.ipcz_world.proofs.facts.Tests.{not_both, and_second}
use Rattle.ipcz_world.proofs.frames.Flowing.{found}
use Rattle.ipcz_world.specs.Books.{is_closed}
use Rattle.ipcz_world.specs.Flows.{IsUnderWay, of_end, moves_of}
use Rattle.ipcz_base.specs.declared.parcel.Parcel as parcels
use Rattle.ipcz_base.specs.declared.message.Message.TheVariants as messages
use Rattle.ipcz_edge.specs.Edge.{choose, is_short_of}
use Rattle.ipcz_router.specs.declared.sending.Sending.{Sending}
use Rattle.ipcz_router.specs.ActEffects.{retire_output}
use Rattle.ipcz_router.specs.declared.act.RouterAct.TheVariants as acts
use Rattle.ipcz_router.specs.declared.act.Applied.TheVariants as sends
use Rattle.ipcz_node.specs.declared.act.Act.TheVariants.{Router as OfRouter}
use Rattle.ipcz_node.specs.FirstPairs.{add_pairs, first_pairs, new_node}
use Rattle.ipcz_node.specs.Sends.{post_item}
use Rattle.ipcz_world.specs.World.{new_nodes}
use Rattle.ipcz_world.specs.Owed.{IsTerminalOn, IsDirectPair}
use Rattle.ipcz_world.proofs.frames.Frames.{node-set_node, node-set_word, node-set_claimed, node-set_mail, count-set_node, count-set_word}
use Rattle.ipcz_world.proofs.frames.Frames.{count-set_claimed, count-set_mail}
use Rattle.ipcz_world.proofs.acts.Moved.{passes_tells}
use Rattle.ipcz_world.proofs.runs.NodeSteps.{IsKept}
use Rattle.ipcz_world.proofs.lawful.Quiet.{key_of}
use Rattle.ipcz_world.proofs.facts.Tests.{some_is}

-- the world has one node, and no serial of a peripheral link was taken
pub record IsAlone (w : World) : Type 0 where
  pub one : w.count ≡ 1
  pub none : (n : ℕ) → (node_at w n).next_peripheral ≡ 0

-- the node has taken no such serial
abbrev pub HasNone : Node → Type 0
HasNone n = n.next_peripheral ≡ 0

keep-number : (n : Node) (s : ℕ) (y : Router) (leaves : Bool) → (keep_or_drop n s y leaves).number ≡ n.number
unfolding keep_or_drop
keep-number n s y true = refl
keep-number n s y false = refl

keep-serial : (n : Node) (s : ℕ) (y : Router) (leaves : Bool) → (keep_or_drop n s y leaves).next_peripheral ≡ n.next_peripheral
unfolding keep_or_drop
keep-serial n s y true = refl
keep-serial n s y false = refl

-- the link over which an item is sent
abbrev link_sent : Applied → Option LinkEnd
link_sent (sends.Sent link number item) = Some link
link_sent other = None

item-link : (o : Option LinkEnd) (n : ℕ) (x : Option Item) (link : LinkEnd) → link_sent (item_output o n x) ≡ Some link → o ≡ Some link
unfolding item_output
item-link None n x link h = cc
item-link (Some e) n None link h = cc
item-link (Some e) n (Some x) link h = h

message-link : (o : Option Sending) (link : LinkEnd) → link_sent (message_output o) ≡ Some link → ⊥
unfolding message_output
message-link None link h = cc
message-link (Some s) link h = cc

discard-link : (n : ℕ) (o : Option Item) (link : LinkEnd) → link_sent (discard_output n o) ≡ Some link → ⊥
unfolding discard_output
discard-link n None link h = cc
discard-link n (Some x) link h = cc

retire-link : (o : Option LinkEnd) (n : ℕ) (link : LinkEnd) → link_sent (retire_output o n) ≡ Some link → o ≡ Some link
unfolding retire_output
retire-link None n link h = cc
retire-link (Some e) n link h = h

-- an item is sent outward or inward, or Gone over the primary link
sent-over : (r : Router) (act : RouterAct) (link : LinkEnd) → link_sent (output_of r act) ≡ Some link →
    (way_out r ≡ Some link) ⊎ ((way_in r ≡ Some link) ⊎ (r.outward.primary ≡ Some link))
unfolding output_of
sent-over r acts.SendOut link h = inl (item-link (way_out r) _ _ link h)
sent-over r acts.SendIn link h = inr (inl (item-link (way_in r) _ _ link h))
sent-over r acts.Retire link h = inr (inr (retire-link r.outward.primary _ link h))
sent-over r acts.Discard link h = absurd (discard-link _ _ link h)
sent-over r acts.Wake link h = absurd (message-link _ link h)
sent-over r acts.Begin link h = absurd (message-link _ link h)
sent-over r other link h = cc

-- what is chosen is a link of the edge
choose-in : (e : Edge) (n : ℕ) (link : LinkEnd) → choose e n ≡ Some link → (e.decaying ≡ Some link) ⊎ (e.primary ≡ Some link)
unfolding choose
choose-in e n link h = go (edge_decays e && is_short_of n e.length_to) h
  where
    go : (c : Bool) → (if c then e.decaying else e.primary) ≡ Some link → (e.decaying ≡ Some link) ⊎ (e.primary ≡ Some link)
    go true p = inl p
    go false p = inr p

-- an item that stays on its node takes no terminal along
send-serial : (n : Node) (a : Applied) → ((link : LinkEnd) → link_sent a ≡ Some link → nat_eq link.other n.number ≡ true) →
    (send n a).next_peripheral ≡ n.next_peripheral
unfolding send send_item
send-serial n (sends.Sent link number item) stays =
    ap (λ c. (post_item (move_ends (record { node = n; moves = [] }) link.other (if c then [] else ends_in item)) link number
    item).next_peripheral) (stays link refl)
send-serial n any stays = refl

-- calls
close-serial : (n : Node) (e : End) → HasNone n → HasNone (close_end n e)
unfolding on_found
close-serial n e law = go (terminal_of n e)
  where
    go : (o : Option Found) → HasNone (on_found n o (close_at_router n))
    go None = law
    go (Some f) = law

put-serial : (n : Node) (e : End) (p : parcels.Parcel) → HasNone n → HasNone (put_node n e p)
unfolding on_found
put-serial n e p law = go (terminal_of n e)
  where
    go : (o : Option Found) → HasNone (on_found n o (put_at_router n p))
    go None = law
    go (Some f) = law

get-serial : (n : Node) (e : End) → HasNone n → HasNone (get_node n e)
unfolding on_found
get-serial n e law = go (terminal_of n e)
  where
    go : (o : Option Found) → HasNone (on_found n o (get_at_router n))
    go None = law
    go (Some f) = law

pending-serial : (n : Node) (e : End) (a : Answer) → HasNone n → HasNone (commit n (Close e) a)
unfolding commit
pending-serial n e a law = close-serial _ e law

-- hands
make-serial : (n : Node) (sender : ℕ) (ds : List Descriptor) → HasNone n → HasNone (make_terminals n sender ds)
make-serial n sender [] law = law
make-serial n sender (d ∷ ds) law = make-serial (add_router n (from_descriptor d sender)) sender ds law

tell-serial : (n : Node) (o : Option Sending) → HasNone n → HasNone (tell n o)
unfolding tell
tell-serial n None law = law
tell-serial n (Some s) law = law

handle-serial : (n : Node) (sender : ℕ) (m : Message) → HasNone n → HasNone (handle n sender m)
unfolding handle on_found
handle-serial n sender (messages.Item link side number item moves) law = go (link_router n link side)
  where
    go : (o : Option Found) → HasNone (on_found n o (take_in n sender link side number item moves))
    go None = law
    go (Some f) = make-serial _ sender moves law
handle-serial n sender (messages.BypassPeer link side old target fresh) law = go (link_router n link side)
  where
    go : (o : Option Found) → HasNone (on_found n o (λ s r. tell (with_router n s (bypass_peer r target fresh))
        (Some (accept_message r old target fresh))))
    go None = law
    go (Some f) = tell-serial _ (Some (accept_message f.router old target fresh)) law
handle-serial n sender (messages.AcceptBypass old side fresh length) law = go (link_router n (Central old) side)
  where
    go : (o : Option Found) → HasNone (on_found n o (λ s r. tell (with_router n s (accept_bypass r sender side fresh length))
        (stop_message r r.outward.primary old side length)))
    go None = law
    go (Some f) = tell-serial _ (stop_message f.router f.router.outward.primary old side length) law
handle-serial n sender (messages.StopProxying side old in_length out_length) law = go (link_router n (Central old) side)
  where
    go : (o : Option Found) → HasNone (on_found n o (λ s r. tell (with_router n s (stop_proxying r in_length out_length))
        (will_stop_message (inward_edge r).decaying in_length)))
    go None = law
    go (Some f) = tell-serial _ (will_stop_message (inward_edge f.router).decaying in_length) law
handle-serial n sender (messages.ProxyWillStop link side in_length) law = go (link_router n link side)
  where
    go : (o : Option Found) → HasNone (on_found n o (λ s r. with_router n s (proxy_will_stop r in_length)))
    go None = law
    go (Some f) = law
handle-serial n sender (messages.Flush link side) law = go (link_router n link side)
  where
    go : (o : Option Found) → HasNone (on_found n o (λ s r. with_router n s (flushed r)))
    go None = law
    go (Some f) = law

deliver-serial : (n : Node) (sender : ℕ) (m : Message) (o : Option ℕ) → HasNone n → HasNone (deliver n sender m o)
unfolding deliver
deliver-serial n sender m o law = go (fits n sender m o)
  where
    go : (b : Bool) → HasNone (if b then handle n sender m else record n { strays = n.strays ++ m ∷ [] })
    go true = handle-serial n sender m law
    go false = law

-- an act of a router
router-serial : (w : World) (b : Books) (g : Records) (n s : ℕ) (act : RouterAct) (a : Answer) → Inv w b g → n < w.count → IsAlone w →
    HasNone (commit (node_at w n) (OfRouter s act) a)
unfolding commit on_router commit_router router_at
router-serial w b g n s act a law ln is = go (router_in (node_at w n) s) refl
  where
    -- every link leads to this node
    stays : (r : Router) → router_at w (record { node = n; serial = s }) ≡ Some r → (link : LinkEnd) →
        (way_out r ≡ Some link) ⊎ ((way_in r ≡ Some link) ⊎ (r.outward.primary ≡ Some link)) → link.other < w.count
    stays r here link h = elim h [
      | inl e ↦ elim (choose-in r.outward r.out_queue.current link e) [
        | inl d ↦ at (((links-in law) (record { node = n; serial = s }) r here).decaying link d)
        | inr d ↦ at (((links-in law) (record { node = n; serial = s }) r here).primary link d)
      ]
      | inr f ↦ elim f [
        | inl e ↦ elim (choose-in (inward_edge r) r.in_queue.current link e) [
          | inl d ↦ at (((links-in law) (record { node = n; serial = s }) r here).inward_decaying link d)
          | inr d ↦ at (((links-in law) (record { node = n; serial = s }) r here).inward_primary link d)
        ]
        | inr d ↦ at (((links-in law) (record { node = n; serial = s }) r here).primary link d)
      ]
    ]
      where
        at : IsRecorded w g (record { node = n; serial = s }) r link → link.other < w.count
        at z = subst (λ m. m < w.count) (sym z.other) (law.counts.side_on_node link.link (opposite link.side) z.recorded)

    go : (o : Option Router) → router_in (node_at w n) s ≡ o → HasNone (on_router (node_at w n) o (commit_router (node_at w n) s act a))
    go None e = is.none n
    go (Some r) e =
        send-serial (keep_or_drop (node_at w n) s (apply r act a) (leaves_by r act)) (output_of r act)
        (λ link h. let l : link.other < w.count = stays r e link (sent-over r act link h) in
        grind (arith, nat_tests, l, ln, is.one, keep-number (node_at w n) s (apply r act a) (leaves_by r act), law.counts.node n ln))
        ∙ keep-serial (node_at w n) s (apply r act a) (leaves_by r act) ∙ is.none n

pub alone-kept : IsKept IsAlone HasNone
alone-kept = record {
  node_of = λ w n is. is.none n;
  set_node = λ w n x is law. record {
    one = count-set_node w n x ∙ is.one;
    none =
        λ j. subst HasNone (sym (node-set_node w n x j)) (here w n x is law j (nat_eq j n));
  };
  set_word = λ w i x is. record {
    one = count-set_word w i x ∙ is.one;
    none =
        λ j. subst HasNone (sym (node-set_word w i x j)) (is.none j);
  };
  set_claimed = λ w i is. record {
    one = count-set_claimed w i ∙ is.one;
    none =
        λ j. subst HasNone (sym (node-set_claimed w i j)) (is.none j);
  };
  set_mail = λ w k x is. record {
    one = count-set_mail w k x ∙ is.one;
    none =
        λ j. subst HasNone (sym (node-set_mail w k x j)) (is.none j);
  };
  look = λ n from law. law;
  post = λ n to ms law. law;
  claim = λ n i law. law;
  put = put-serial;
  get = λ n e law h. get-serial n e law;
  close = λ n e law. close-serial _ e law;
  open_pair = λ n i law. law;
  pending = pending-serial;
  router = λ w b g n s act r law ln is here may. router-serial w b g n s act (answer_of w r act) law ln is;
  deliver = λ n from m o law h. deliver-serial n from m o law;
}
  where
    here : (w : World) (n : ℕ) (x : Node) → IsAlone w → HasNone x → (j : ℕ) (c : Bool) → HasNone (cond c x (node_at w j))
    here w n x is law j true = law
    here w n x is law j false = is.none j

-- the world at the start
pairs-serial : (n : Node) (pair : ℕ) (ps : List (ℕ × ℕ)) → HasNone n → HasNone (add_pairs n pair ps)
pairs-serial n pair [] law = law
pairs-serial n pair (p ∷ ps) law = pairs-serial (if nat_eq p.0 n.number then add_end n pair A p.1 else if nat_eq p.1 n.number then add_end n
    pair B p.0 else n) (pair + 1) ps (go (nat_eq p.0 n.number) (nat_eq p.1 n.number))
  where
    go : (a b : Bool) → HasNone (if a then add_end n pair A p.1 else if b then add_end n pair B p.0 else n)
    go true b = law
    go false true = law
    go false false = law

new-serial : (i nodes : ℕ) → HasNone (new_node i nodes)
unfolding new_node
new-serial i nodes = pairs-serial (bare_node i nodes) 0 (first_pairs nodes) refl

places-serial : (nodes n : ℕ) (is : List ℕ) → HasNone (place_at (bare_node 0 0) (new_nodes nodes is) n)
unfolding place_at
places-serial nodes n [] = refl
places-serial nodes zero (i ∷ is) = new-serial i nodes
places-serial nodes (suc n) (i ∷ is) = places-serial nodes n is

pub alone-new : (words : ℕ) → IsAlone (new_world 1 words)
unfolding node_at new_world
alone-new words = record { one = refl; none = λ n. places-serial 1 n (numbers_from 0 1) }

module _ (w : World) (b : Books) (g : Records) (law : Inv w b g) (alone : IsAlone w) where
  not_recorded : (n x : ℕ) → is_recorded w g (Peripheral n x) ≡ true → ⊥
  unfolding is_recorded
  not_recorded n x h = grind (arith, nat_tests, h, alone.none n)

  not_begun : (o : ℕ) → is_begun (g.bypass o) ≡ false
  not_begun o = go (is_begun (g.bypass o)) refl
    where
      go : (c : Bool) → is_begun (g.bypass o) ≡ c → is_begun (g.bypass o) ≡ false
      go false e = e
      go true e = absurd (not_recorded (g.bypass o).inner.node (g.bypass o).inner.serial ((law.bypasses o).inner e))

  never : (o : ℕ) → is_begun (g.bypass o) ≡ true → ⊥
  never o e = grind (arith, e, not_begun o)

  -- each router is a terminal
  terminal : (k : Key) (r : Router) → router_at w k ≡ Some r → is_terminal r ≡ true
  unfolding is_outward
  terminal k r here = go (is_terminal r) refl
    where
      primary : (o : Option LinkEnd) → (inward_edge r).primary ≡ o → is_terminal r ≡ false → ⊥
      primary None q e = let t = some_is (g.begun k) (((positions-in law).each k r here).begun (grind (arith, e, q))) in
          never t.0 (law.begun.begun_stage k t.0 t.1)
      primary (Some x) q e = at x.link refl
        where
          at : (l : LinkId) → x.link ≡ l → ⊥
          at (Central i) z = grind (arith, ((links-in law) k r here).inward_primary_inward x q, z)
          at (Peripheral n y) z = not_recorded n y (ap (is_recorded w g) (sym z) ∙ (((links-in law) k r here).inward_primary x q).recorded)

      go : (c : Bool) → is_terminal r ≡ c → is_terminal r ≡ true
      go true e = e
      go false e = absurd (primary (inward_edge r).primary refl e)

  -- and has no decaying link
  still : (k : Key) (r : Router) → router_at w k ≡ Some r → (o : Option LinkEnd) → r.outward.decaying ≡ o → r.outward.decaying ≡ None
  unfolding bypass_of
  still k r here None q = q
  still k r here (Some d) q = absurd (at d.link refl)
    where
      at : (l : LinkId) → d.link ≡ l → ⊥
      at (Central i) z = grind (arith, ((positions-in law).each k r here).decaying d q, z, not_begun i)
      at (Peripheral n y) z = not_recorded n y (ap (is_recorded w g) (sym z) ∙ (((links-in law) k r here).decaying d q).recorded)

  module _ (pair : ℕ) (linked : is_linked (g.owner pair) ≡ true) (own : (g.central pair).pair ≡ pair) (t : Side)
      (open_ : is_closed b (end_at pair t) ≡ false) where
    -- both ends are closed if a sink has retired
    retired_none : (s : Side) → is_retired b (end_at pair s) ≡ true → ⊥
    retired_none s h = go (side_is t s)
      where
        go : ((same_side t s ≡ true) × (t ≡ s)) ⊎ ((same_side t s ≡ false) × (t ≡ opposite s)) → ⊥
        go (inl e) = not_both (is_closed b (end_at pair t)) (ap (λ z. is_closed b (end_at pair z)) e.1
            ∙ law.books_kept.retired_closed (end_at pair s) h) open_
        go (inr e) = not_both (is_closed b (end_at pair t)) (ap (λ z. is_closed b (end_at pair z)) e.1
            ∙ law.retired_ends.peer_closed (end_at pair s) h) open_

    -- so the terminal of each side stands
    stands : (s : Side) → (k : Key) × (g.terminal (end_at pair s) ≡ At k)
    unfolding side_end is_recorded is_nowhere move_weight moves_of
    stands s = go (g.terminal (end_at pair s)) refl
      where
        opened : is_nowhere (g.terminal (end_at pair s)) ≡ false
        opened = ap (λ z. is_nowhere (g.terminal (end_at z s))) (sym own) ∙ law.terminals.link_opened (Central pair) s linked

        gone : g.terminal (end_at pair s) ≡ Retired → (c : Bool) → is_retired b (end_at pair s) ≡ c → ⊥
        gone e true f = retired_none s f
        gone e false f = retired_none (opposite s) (law.retired_ends.gone_read (end_at pair s) e f).0

        -- an item stays on the one node, so it takes no terminal along
        still_there : (from to i : ℕ) (m : Message) → IsUnderWay w from to i m → 1 ≤ total_list (of_end (end_at pair s) (λ x. 1)) (moves_of m) → ⊥
        still_there from to i (messages.Item link side n item moves) up some =
            let same : from ≡ to = omega (arith, up.sender, up.receiver, alone.one) in
            bare moves (law.moves.within to i link side n item moves (subst (λ z. IsUnderWay w z to i (messages.Item link side n item moves)) same up)) some
          where
            bare : (ds : List Descriptor) → ds ≡ [] → 1 ≤ total_list (of_end (end_at pair s) (λ x. 1)) ds → ⊥
            bare [] e l = omega (arith, l)
            bare (d ∷ ds) e l = cc
        still_there from to i (messages.BypassPeer link side old target fresh) up some = omega (arith, some)
        still_there from to i (messages.AcceptBypass old side fresh len) up some = omega (arith, some)
        still_there from to i (messages.StopProxying side old in_length out_length) up some = omega (arith, some)
        still_there from to i (messages.ProxyWillStop link side in_length) up some = omega (arith, some)
        still_there from to i (messages.Flush link side) up some = omega (arith, some)

        go : (z : Terminal) → g.terminal (end_at pair s) ≡ z → (k : Key) × (g.terminal (end_at pair s) ≡ At k)
        go (At k) e = (k, e)
        go Nowhere e = absurd (not_both (is_nowhere (g.terminal (end_at pair s))) (ap is_nowhere e) opened)
        go Retired e = absurd (gone e (is_retired b (end_at pair s)) refl)
        go (Moving d) e =
            let weight = law.moves.one (end_at pair s) (λ x. 1) ∙ ap (move_weight (λ x. 1)) e in
            let u = found (λ from to m. total_list (of_end (end_at pair s) (λ x. 1)) (moves_of m)) w (omega (arith, weight)) in
            absurd (still_there u.0 u.1 u.2 u.3 u.4 u.5)

    on_link : (s : Side) → IsTerminalOn w pair pair s
    unfolding side_end is_outward is_recorded
    on_link s = go p.0.link refl
      where
        k : Key
        k = (stands s).0

        q : (r : Router) × (router_at w k ≡ Some r) × ((is_terminal r && same_end r.end (end_at pair s)) ≡ true)
        q = passes_tells w k (λ r. is_terminal r && same_end r.end (end_at pair s)) (law.terminals.stands (end_at pair s) k (stands s).1)

        is_end : q.0.end ≡ end_at pair s
        is_end = same_end-tells q.0.end (end_at pair s) (and_second (is_terminal q.0) (same_end q.0.end (end_at pair s)) q.2)

        p : (p : LinkEnd) × (q.0.outward.primary ≡ Some p)
        p = some_is q.0.outward.primary (primed q.0 ((law.shape k q.0 q.1).role) (terminal k q.0 q.1))
          where
            primed : (r : Router) → has_role r ≡ true → is_terminal r ≡ true → is_some r.outward.primary ≡ true
            primed r h e = grind (arith, h, e)

        at : IsRecorded w g k q.0 p.0
        at = ((links-in law) k q.0 q.1).primary p.0 p.1

        go : (l : LinkId) → p.0.link ≡ l → IsTerminalOn w pair pair s
        go (Peripheral n x) e = absurd (not_recorded n x (ap (is_recorded w g) (sym e) ∙ at.recorded))
        go (Central i) e =
            let ends : end_at pair s ≡ end_at (g.central i).pair p.0.side = sym is_end ∙ at.end ∙ ap (λ l. side_end g l p.0.side) e in
            let linked_too : is_linked (g.owner i) ≡ true = ap (is_recorded w g) (sym e) ∙ at.recorded in
            let same : i ≡ pair = law.live.one_live i pair linked_too linked (ap (λ (z : End). z.pair) (sym ends) ∙ sym own) (not_begun i) (not_begun pair) in
            let side : p.0.side ≡ s = ap (λ (z : End). z.side) (sym ends) in
            record {
              key = k;
              router = q.0;
              here = q.1;
              end = is_end;
              terminal = terminal k q.0 q.1;
              on = ap (λ o. has_link o (Central pair) s) p.1 ∙ has_link-some p.0 (Central pair) s (e ∙ ap Central same) side;
              still = still k q.0 q.1 q.0.outward.decaying refl;
            }

    pub direct : IsDirectPair w pair
    direct = record {
      word = pair;
      stands = on_link;
      only = λ k r here p.
          let at = on_link r.end.side in
          let ends : r.end ≡ at.router.end = ap (λ z. end_at z r.end.side) p ∙ sym at.end in
          same_Some k at.key (ap key_of (sym ((law.terminals.each k r here).terminal (terminal k r here)) ∙ ap g.terminal ends ∙
          (law.terminals.each at.key at.router at.here).terminal at.terminal));
    }
