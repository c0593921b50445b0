-- A router with a possible act is flagged: at a node this stays so, whatever the node does.
use Rattle.std.specs.List.{AllByRecursion}
use Rattle.ipcz_world.proofs.Vocabulary.{Side, A, B, End, LinkId, Central, Peripheral, LinkEnd, Descriptor, Item, Message, is_central, word_of, Edge}
use Rattle.ipcz_world.proofs.Vocabulary.{current_item, Router, is_terminal, inward_edge, from_descriptor, bypass_peer, is_possible, output_of}
use Rattle.ipcz_world.proofs.Vocabulary.{RouterAct, Close, Node, Found, router_in, with_router, bare_node, terminal_of, commit, moves_of, leaves_by}
use Rattle.ipcz_world.proofs.Vocabulary.{Parcel, outward_has, accept, accept_message, accept_bypass, stop_proxying, proxy_will_stop, stop_message}
use Rattle.ipcz_world.proofs.Vocabulary.{will_stop_message, is_rest, may_take, apply, rest, Answer, Applied, without_router, add_router, add_end}
use Rattle.ipcz_world.proofs.Vocabulary.{new_end, link_router, on_found, on_router, put_node, get_node, get_refusal, close_end, close_node, open_node}
use Rattle.ipcz_world.proofs.Vocabulary.{put_at_router, get_at_router, Transfer, move_found, move_ends, moved_ends, send_item, send, deliver, handle}
use Rattle.ipcz_world.proofs.Vocabulary.{fits, tell, take_in, make_terminals, commit_router, keep_or_drop, flushed}
use Rattle.std.specs.Prelude.{◌≡◌, ℕ, suc, ◌+◌, Bool, true, false, cond, nat_eq, if◌then◌else◌, Option, Some, None, is_some, List, []}
use Rattle.std.specs.Prelude.{◌∷◌, ◌++◌, slice_get, refl}
use Rattle.std.proofs.Common.{arith, sym, ◌∙◌, ap, subst}
use Rattle.std.proofs.lemmas.Bool.Decides.{nat_tests}
use Rattle.std.proofs.lemmas.Option.{same_Some}
use Rattle.std.specs.Ordering.{nat_cmp}
use Rattle.std.specs.Cmp.{nat_cmp_total}
use Rattle.std.specs.FinMap.{get-insert, get-remove, get-empty}
use Rattle.ipcz_base.specs.declared.parcel.Parcel as parcels
use Rattle.ipcz_base.specs.declared.message.Message.TheVariants as messages
use Rattle.ipcz_edge.specs.Edge.{choose, can_finish}
use Rattle.ipcz_router.specs.Router.{new_terminal, moved_link}
use Rattle.ipcz_router.specs.Closing.{close_router}
use Rattle.ipcz_router.specs.Calls.{take_item, put_item, item_refusal}
use Rattle.ipcz_router.specs.declared.sending.Sending.{Sending}
use Rattle.ipcz_router.specs.ActTable.{table, first_possible, next_act}
use Rattle.ipcz_router.specs.declared.act.RouterAct.TheVariants as acts
use Rattle.ipcz_router.specs.declared.act.Answer.TheVariants as answers
use Rattle.ipcz_router.specs.declared.act.Applied.TheVariants as sends
use Rattle.ipcz_node.specs.declared.act.Act.TheVariants.{Router as OfRouter}
use Rattle.ipcz_node.specs.FirstPairs.{add_pairs, first_pairs, new_node}
use Rattle.ipcz_node.specs.Calls.{refusal_at}
use Rattle.ipcz_world.proofs.facts.Finding.{found_tells}
use Rattle.ipcz_world.proofs.facts.Reaching.{reach-pop}

-- a router that could act is flagged
abbrev pub IsAwake : Router → Type 0
IsAwake r = (act : RouterAct) → is_possible r act ≡ true → r.flagged ≡ true

-- each router of the node that could act is flagged
abbrev pub AreAwake : Node → Type 0
AreAwake n = (s : ℕ) (r : Router) → router_in n s ≡ Some r → IsAwake r

-- no descriptor of these is of a central link
abbrev pub ArePeripheral : List Descriptor → Type 0
ArePeripheral ds = (j : ℕ) (d : Descriptor) → slice_get ds j ≡ Some d → is_central d.link ≡ false

pub awake-flagged : (r : Router) → r.flagged ≡ true → IsAwake r
awake-flagged r h act e = h

awake-idle : (r : Router) → ((act : RouterAct) → is_possible r act ≡ false) → IsAwake r
awake-idle r h act e = absurd (grind (arith, h act, e))

awake-with : (n : Node) (s : ℕ) (y : Router) → AreAwake n → IsAwake y → AreAwake (with_router n s y)
awake-with n s y law is t r at = go (nat_eq t s) refl
  where
    go : (c : Bool) → nat_eq t s ≡ c → IsAwake r
    go true e = subst IsAwake (same_Some y r (grind (arith, e, get-insert nat_cmp_total n.routers s y t, at, nat_tests))) is
    go false e = law t r (grind (arith, e, get-insert nat_cmp_total n.routers s y t, at, nat_tests))

awake-without : (n : Node) (s : ℕ) → AreAwake n → AreAwake (without_router n s)
awake-without n s law t r at = go (nat_eq t s) refl
  where
    go : (c : Bool) → nat_eq t s ≡ c → IsAwake r
    go true e = absurd (grind (arith, e, get-remove nat_cmp_total n.routers s t, at, nat_tests))
    go false e = law t r (grind (arith, e, get-remove nat_cmp_total n.routers s t, at, nat_tests))

awake-add : (n : Node) (y : Router) → AreAwake n → IsAwake y → AreAwake (add_router n y)
awake-add n y law is = awake-with n n.next_router y law is

-- an act but rest leaves the flag, or sets it, whatever the answer
flagged-mark : (r : Router) (a : Answer) → r.flagged ≡ true → (apply r acts.Mark a).flagged ≡ true
unfolding apply
flagged-mark r answers.Plain h = h
flagged-mark r other h = h

flagged-claim : (r : Router) (a : Answer) → r.flagged ≡ true → (apply r acts.Claim a).flagged ≡ true
unfolding apply
flagged-claim r answers.Plain h = h
flagged-claim r other h = h

flagged-lock : (r : Router) (a : Answer) → r.flagged ≡ true → (apply r acts.Lock a).flagged ≡ true
unfolding apply
flagged-lock r answers.Plain h = h
flagged-lock r other h = h

apply-flagged : (r : Router) (act : RouterAct) (a : Answer) → is_rest act ≡ false → r.flagged ≡ true → (apply r act a).flagged ≡ true
unfolding apply is_rest
apply-flagged r acts.Mark a n h = flagged-mark r a h
apply-flagged r acts.Claim a n h = flagged-claim r a h
apply-flagged r acts.Lock a n h = flagged-lock r a h
apply-flagged r acts.Unlock a n h = refl
apply-flagged r acts.Rest a n h = cc
apply-flagged r other a n h = h

rest-impossible : (r : Router) (act : RouterAct) → is_rest act ≡ true → is_possible r act ≡ false
unfolding is_possible is_rest
rest-impossible r acts.Rest h = refl
rest-impossible r other h = cc

-- if rest is next, no act of the list is possible
none-listed : (r : Router) (list : List RouterAct) → is_rest (first_possible r list) ≡ true →
    AllByRecursion (λ a. is_possible r a ≡ false) list
none-listed r [] h = tt
none-listed r (x ∷ xs) h = go (is_possible r x) refl (none-listed r xs)
  where
    go : (b : Bool) → is_possible r x ≡ b →
        (is_rest (first_possible r xs) ≡ true → AllByRecursion (λ a. is_possible r a ≡ false) xs) →
        (is_possible r x ≡ false) × AllByRecursion (λ a. is_possible r a ≡ false) xs
    go true e more = absurd (grind (arith, e, rest-impossible r x (sym (ap (λ b. is_rest (cond b x (first_possible r xs))) e) ∙ h)))
    go false e more = (e, more (sym (ap (λ b. is_rest (cond b x (first_possible r xs))) e) ∙ h))

-- each act stands in the table, apart from an unlock and a rest
listed-idle : (r : Router) → AllByRecursion (λ a. is_possible r a ≡ false) table → (act : RouterAct) → (act ≡ acts.Unlock → ⊥) →
    (act ≡ acts.Rest → ⊥) → is_possible r act ≡ false
listed-idle r none acts.Unlock unlock rest = absurd (unlock refl)
listed-idle r none acts.Rest unlock rest = absurd (rest refl)
listed-idle r none other unlock rest = grind (arith, none)

-- and none at all
rest-idle : (r : Router) → is_rest (next_act r) ≡ true → (act : RouterAct) → is_possible r act ≡ false
unfolding next_act is_possible
rest-idle r h acts.Unlock = grind (
  arith,
  listed-idle r (none-listed r table h) acts.Begin (λ e. cc) (λ e. cc),
  listed-idle r (none-listed r table h) acts.Retire (λ e. cc) (λ e. cc),
)
rest-idle r h acts.Rest = refl
rest-idle r h other = listed-idle r (none-listed r table h) other (λ e. cc) (λ e. cc)

-- the flag itself makes nothing possible
rest-possible : (r : Router) (act : RouterAct) → is_possible (rest r) act ≡ is_possible r act
unfolding is_possible
rest-possible r acts.SendOut = refl
rest-possible r other = refl

resting : (r : Router) (act : RouterAct) (a : Answer) → is_rest act ≡ true → apply r act a ≡ rest r
unfolding apply is_rest
resting r acts.Rest a h = refl
resting r other a h = cc

-- a router after an act that it may take
pub awake-apply : (r : Router) (act : RouterAct) (a : Answer) → IsAwake r → may_take r act ≡ true → IsAwake (apply r act a)
awake-apply r act a law may = go (is_rest act) (is_possible r act) refl refl
  where
    go : (c p : Bool) → is_rest act ≡ c → is_possible r act ≡ p → IsAwake (apply r act a)
    go false false e h = absurd (grind (arith, may, e, h))
    go false true e h = awake-flagged (apply r act a) (apply-flagged r act a e (law act h))
    go true p e h = subst IsAwake (sym (resting r act a e)) (awake-idle (rest r) (λ x. rest-possible r x ∙ rest-idle r next x))
      where
        next : is_rest (next_act r) ≡ true
        next = grind (arith, may, e, rest-impossible r act e)

awake-keep : (n : Node) (s : ℕ) (y : Router) (leaves : Bool) → AreAwake n → IsAwake y → AreAwake (keep_or_drop n s y leaves)
unfolding keep_or_drop
awake-keep n s y true law is = awake-without n s law
awake-keep n s y false law is = awake-with n s y law is

-- terminals that move become proxies, and are flagged
awake-move : (m : Transfer) (to : ℕ) (o : Option Found) → AreAwake m.node → AreAwake (move_found m to o).node
unfolding move_found
awake-move m to None law = law
awake-move m to (Some f) law = awake-with m.node f.serial _ law (awake-flagged _ refl)

awake-moves : (m : Transfer) (to : ℕ) (es : List End) → AreAwake m.node → AreAwake (move_ends m to es).node
awake-moves m to [] law = law
awake-moves m to (e ∷ es) law = awake-moves (move_found m to (terminal_of m.node e)) to es (awake-move m to (terminal_of m.node e) law)

awake-send : (n : Node) (a : Applied) → AreAwake n → AreAwake (send n a)
unfolding send send_item
awake-send n (sends.Sent link number item) law = awake-moves (record { node = n; moves = [] }) link.other (moved_ends n link item) law
awake-send n any law = law

-- an act of a router
pub awake-router : (n : Node) (s : ℕ) (act : RouterAct) (r : Router) (a : Answer) → AreAwake n → router_in n s ≡ Some r →
    may_take r act ≡ true → AreAwake (commit n (OfRouter s act) a)
unfolding commit on_router commit_router
awake-router n s act r a law here may = go (router_in n s) refl
  where
    go : (o : Option Router) → router_in n s ≡ o → AreAwake (on_router n o (commit_router n s act a))
    go None e = law
    go (Some q) e = awake-send _ (output_of q act) (awake-keep n s (apply q act a) (leaves_by q act) law
        (awake-apply q act a (law s q e) (ap (λ z. may_take z act) (same_Some q r (sym e ∙ here)) ∙ may)))

-- a close
awake-close_end : (n : Node) (e : End) → AreAwake n → AreAwake (close_end n e)
unfolding on_found
awake-close_end n e law = go (terminal_of n e)
  where
    go : (o : Option Found) → AreAwake (on_found n o (λ s r. with_router n s (close_router r)))
    go None = law
    go (Some f) = awake-with n f.serial (close_router f.router) law (awake-flagged _ refl)

pub awake-pending : (n : Node) (e : End) (a : Answer) → AreAwake n → AreAwake (commit n (Close e) a)
unfolding commit
awake-pending n e a law = awake-close_end _ e law

pub awake-close_node : (n : Node) (e : End) → AreAwake n → AreAwake (close_node n e)
awake-close_node n e law = awake-close_end _ e law

-- a put
pub awake-put : (n : Node) (e : End) (p : parcels.Parcel) → AreAwake n → AreAwake (put_node n e p)
unfolding on_found
awake-put n e p law = go (terminal_of n e)
  where
    go : (o : Option Found) → AreAwake (on_found n o (put_at_router n p))
    go None = law
    go (Some f) = awake-with n f.serial (put_item f.router (Parcel p)) law (awake-flagged _ refl)

-- a get leaves nothing new to do
take-tells : (r : Router) (act : RouterAct) (item : Item) → is_terminal r ≡ true → current_item r.in_queue ≡ Some item →
    is_possible (take_item r) act ≡ true → is_possible r act ≡ true
unfolding is_possible choose can_finish
take-tells r acts.SendIn item t at h = absurd (grind (arith, none, h))
  where
    none : r.inward ≡ None
    none = go r.inward refl
      where
        go : (o : Option Edge) → r.inward ≡ o → r.inward ≡ None
        go None e = e
        go (Some x) e = absurd (grind (arith, t, e))
take-tells r acts.Discard item t at h = grind (arith, at, h)
take-tells r acts.FinishOut item t at h = grind (arith, reach-pop r.in_queue item at, h)
take-tells r acts.FinishIn item t at h = absurd (grind (arith, none, h))
  where
    none : r.inward ≡ None
    none = go r.inward refl
      where
        go : (o : Option Edge) → r.inward ≡ o → r.inward ≡ None
        go None e = e
        go (Some x) e = absurd (grind (arith, t, e))
take-tells r other item t at h = h

-- a get that isn't refused finds an item
get-finds : (n : Node) (e : End) (f : Found) → terminal_of n e ≡ Some f → get_refusal n e ≡ None →
    is_some (current_item f.router.in_queue) ≡ true
unfolding get_refusal refusal_at item_refusal
get-finds n e f found allowed = go (current_item f.router.in_queue) refl
  where
    go : (o : Option Item) → current_item f.router.in_queue ≡ o → is_some (current_item f.router.in_queue) ≡ true
    go None h = absurd (grind (arith, found, allowed, h))
    go (Some item) h = ap is_some h

pub awake-get : (n : Node) (e : End) → AreAwake n → get_refusal n e ≡ None → AreAwake (get_node n e)
unfolding on_found
awake-get n e law allowed = go (terminal_of n e) refl
  where
    at : (f : Found) → terminal_of n e ≡ Some f → (o : Option Item) → current_item f.router.in_queue ≡ o → IsAwake (take_item f.router)
    at f h None c = absurd (grind (arith, get-finds n e f h allowed, c))
    at f h (Some item) c = λ act p. let t = found_tells n _ f h in
        law f.serial f.router t.0 act (take-tells f.router act item (grind (arith, t.1)) c p)

    go : (o : Option Found) → terminal_of n e ≡ o → AreAwake (on_found n o (get_at_router n))
    go None h = law
    go (Some f) h = awake-with n f.serial (take_item f.router) law (at f h (current_item f.router.in_queue) refl)

-- a new terminal has nothing to do: on a central link it is marked
new-idle : (end : End) (link : LinkEnd) (next_out next_in : ℕ) (is_marked : Bool) →
    (is_some (word_of (Some link)) ≡ true → is_marked ≡ true) → (act : RouterAct) →
    is_possible (new_terminal end link next_out next_in is_marked) act ≡ false
unfolding is_possible can_finish
new-idle end link a c m h acts.SendOut = grind (arith, get-empty {X = Item} nat_cmp a)
new-idle end link a c m h acts.SendIn = grind (arith, get-empty {X = Item} nat_cmp c)
new-idle end link a c m h acts.Mark = grind (arith, h)
new-idle end link a c m h other = refl

awake-first : (pair : ℕ) (side : Side) (other : ℕ) → IsAwake (new_end pair side other)
unfolding is_central
awake-first pair side other = awake-idle _ (new-idle (record { pair = pair; side = side })
    (record { link = Central pair; side = side; other = other }) 0 0 true (λ h. refl))

peripheral-no_word : (e : LinkEnd) → is_central e.link ≡ false → word_of (Some e) ≡ None
unfolding is_central word_of
peripheral-no_word e h = go e.link refl
  where
    go : (l : LinkId) → e.link ≡ l → word_of (Some e) ≡ None
    go (Central i) q = absurd (grind (arith, q, h))
    go (Peripheral n x) q = grind (arith, q)

awake-moved : (d : Descriptor) (sender : ℕ) → is_central d.link ≡ false → IsAwake (from_descriptor d sender)
awake-moved d sender h = awake-idle _ (new-idle d.end (moved_link d sender) d.next_out d.next_in false
    (λ e. absurd (grind (arith, peripheral-no_word (moved_link d sender) h, e))))

-- an open
awake-end : (n : Node) (pair : ℕ) (side : Side) (other : ℕ) → AreAwake n → AreAwake (add_end n pair side other)
awake-end n pair side other law = awake-add n (new_end pair side other) law (awake-first pair side other)

pub awake-open : (n : Node) (word : ℕ) → AreAwake n → AreAwake (open_node n word)
awake-open n word law = awake-end (add_end n word A n.number) word B n.number (awake-end n word A n.number law)

-- a new node
awake-pairs : (n : Node) (pair : ℕ) (ps : List (ℕ × ℕ)) → AreAwake n → AreAwake (add_pairs n pair ps)
awake-pairs n pair [] law = law
awake-pairs n pair (p ∷ ps) law = awake-pairs (if nat_eq p.0 n.number then add_end n pair A p.1 else if nat_eq p.1 n.number then add_end n
    pair B p.0 else n) (pair + 1) ps (go (nat_eq p.0 n.number) (nat_eq p.1 n.number))
  where
    go : (a b : Bool) → AreAwake (if a then add_end n pair A p.1 else if b then add_end n pair B p.0 else n)
    go true b = awake-end n pair A p.1 law
    go false true = awake-end n pair B p.0 law
    go false false = law

pub awake-bare : (i nodes : ℕ) → AreAwake (bare_node i nodes)
awake-bare i nodes s r at = absurd (grind (arith, get-empty {X = Router} nat_cmp s, at))

pub awake-new : (i nodes : ℕ) → AreAwake (new_node i nodes)
unfolding new_node
awake-new i nodes = awake-pairs (bare_node i nodes) 0 (first_pairs nodes) (awake-bare i nodes)

-- terminals are made from descriptors
awake-make : (n : Node) (sender : ℕ) (ds : List Descriptor) → AreAwake n → ArePeripheral ds → AreAwake (make_terminals n sender ds)
awake-make n sender [] law is = law
awake-make n sender (d ∷ ds) law is = awake-make (add_router n (from_descriptor d sender)) sender ds
    (awake-add n (from_descriptor d sender) law (awake-moved d sender (is 0 d refl))) (λ j x h. is (suc j) x h)

accept-flagged : (r : Router) (from_outward : Bool) (n : ℕ) (item : Item) → (accept r from_outward n item).flagged ≡ true
unfolding accept
accept-flagged r true n item = refl
accept-flagged r false n item = refl

awake-tell : (n : Node) (o : Option Sending) → AreAwake n → AreAwake (tell n o)
unfolding tell
awake-tell n None law = law
awake-tell n (Some s) law = law

-- a message that fits
awake-handle : (n : Node) (sender : ℕ) (m : Message) → AreAwake n → ArePeripheral (moves_of m) → AreAwake (handle n sender m)
unfolding handle on_found moves_of
awake-handle n sender (messages.Item link side number item moves) law is = go (link_router n link side)
  where
    go : (o : Option Found) → AreAwake (on_found n o (take_in n sender link side number item moves))
    go None = law
    go (Some f) = awake-make _ sender moves (awake-with n f.serial _ law
        (awake-flagged _ (accept-flagged f.router (outward_has f.router link side) number item))) is
awake-handle n sender (messages.BypassPeer link side old target fresh) law is = go (link_router n link side)
  where
    go : (o : Option Found) → AreAwake (on_found n o (λ s r. tell (with_router n s (bypass_peer r target fresh))
        (Some (accept_message r old target fresh))))
    go None = law
    go (Some f) = awake-tell _ _ (awake-with n f.serial _ law (awake-flagged _ refl))
awake-handle n sender (messages.AcceptBypass old side fresh length) law is = go (link_router n (Central old) side)
  where
    go : (o : Option Found) → AreAwake (on_found n o (λ s r. tell (with_router n s (accept_bypass r sender side fresh length))
        (stop_message r r.outward.primary old side length)))
    go None = law
    go (Some f) = awake-tell _ _ (awake-with n f.serial _ law (awake-flagged _ refl))
awake-handle n sender (messages.StopProxying side old in_length out_length) law is = go (link_router n (Central old) side)
  where
    go : (o : Option Found) → AreAwake (on_found n o (λ s r. tell (with_router n s (stop_proxying r in_length out_length))
        (will_stop_message (inward_edge r).decaying in_length)))
    go None = law
    go (Some f) = awake-tell _ _ (awake-with n f.serial _ law (awake-flagged _ refl))
awake-handle n sender (messages.ProxyWillStop link side in_length) law is = go (link_router n link side)
  where
    go : (o : Option Found) → AreAwake (on_found n o (λ s r. with_router n s (proxy_will_stop r in_length)))
    go None = law
    go (Some f) = awake-with n f.serial _ law (awake-flagged _ refl)
awake-handle n sender (messages.Flush link side) law is = go (link_router n link side)
  where
    go : (o : Option Found) → AreAwake (on_found n o (λ s r. with_router n s (flushed r)))
    go None = law
    go (Some f) = awake-with n f.serial _ law (awake-flagged _ refl)

-- a message, whether it fits or not
pub awake-deliver : (n : Node) (sender : ℕ) (m : Message) (o : Option ℕ) → AreAwake n → ArePeripheral (moves_of m) → AreAwake
    (deliver n sender m o)
unfolding deliver
awake-deliver n sender m o law is = go (fits n sender m o)
  where
    go : (b : Bool) → AreAwake (if b then handle n sender m else record n { strays = n.strays ++ m ∷ [] })
    go true = awake-handle n sender m law is
    go false = law
