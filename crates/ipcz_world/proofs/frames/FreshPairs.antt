-- A word that gets its owner, and the terminals of a pair that is new on it: the relation, and small facts of fresh terminals.
use Rattle.ipcz_world.proofs.Vocabulary.{Side, A, B, End, LinkId, Central, Descriptor, Item, Message, opposite, opposite_end, has_link, word_of}
use Rattle.ipcz_world.proofs.Vocabulary.{is_central, item_at, empty_word, open_word, Router, World, Key, node_at, word_at, router_at, flow, Records}
use Rattle.ipcz_world.proofs.Vocabulary.{Owner, Spare, Opening, Fresh, Terminal, At, is_linked, is_unclaimed, is_begun, inner_link, bypass_of}
use Rattle.ipcz_world.proofs.Vocabulary.{side_node, side_end, terminal_node, is_nowhere, proxy_side, across_side, is_attached, fed_queue}
use Rattle.ipcz_world.proofs.Vocabulary.{sending_queue, Weight, is_outward, inner_of, of_bypass, control_weight, times_held, none, Retired, reach}
use Rattle.ipcz_world.proofs.Vocabulary.{is_on_central, new_end, CentralRecord, Nowhere, Moving, move_weight}
use Rattle.ipcz_world.proofs.frames.OfRecords.{holds, in_places}
use Rattle.std.specs.Prelude.{◌≡◌, ◌≢◌, ◌⊎◌, ◌≤◌, ◌<◌, ◌+◌, ℕ, Bool, true, false, cond, nat_le, Some, None, refl}
use Rattle.std.specs.Ordering.{nat_cmp}
use Rattle.std.specs.FinMap.{get-empty}
use Rattle.std.proofs.Common.{arith}
use Rattle.std.proofs.lemmas.Bool.Decides.{nat_tests}
use Rattle.ipcz_base.specs.declared.message.Message.TheVariants as messages
use Rattle.ipcz_seq.specs.Queue.{queue_from}
use Rattle.ipcz_world.proofs.frames.Touching.{HasSameHands}
use Rattle.ipcz_world.proofs.facts.Reaching.{is_reach, reach_one}
use Rattle.ipcz_world.proofs.facts.Lengths.{same_side-itself}
use Rattle.std.proofs.lemmas.Bool.{or_left}

-- the terminal of a pair's side, whose sides are at these keys
abbrev pub fresh_at : ℕ → (Side → Key) → Side → Router
fresh_at i at s = new_end i s (at (opposite s)).node

abbrev pub end_of : ℕ → Side → End
end_of i s = record { pair = i; side = s }

-- the two terminals stand on the word, and the records tell of them
pub record IsPair (v : World) (c : CentralRecord) (t : End → Terminal) (i : ℕ) (at : Side → Key) : Type 0 where
  pub here : (s : Side) → router_at v (at s) ≡ Some (fresh_at i at s)
  pub on_node : (s : Side) → (at s).node < v.count
  pub serial : (s : Side) → (at s).serial < (node_at v (at s).node).next_router
  pub pair : c.pair ≡ i
  pub node : (s : Side) → c.node s ≡ (at s).node
  pub router : (s : Side) → c.router s ≡ Some (at s).serial
  pub born : c.born ≡ None
  pub left : c.left ≡ none
  pub terminal : (s : Side) → t (end_of i s) ≡ At (at s)
  pub word : word_at v i ≡ open_word

-- a router that stood before, or a new one
pub record IsNew (i : ℕ) (at : Side → Key) (q : Key) (x : Router) : Type 0 where
  pub side : Side
  pub key : q ≡ at side
  pub is : x ≡ fresh_at i at side

-- a word that is no link's gets an owner; if it becomes a link's, a pair's terminals are new
pub record IsGrown (w v : World) (g : Records) (owner' : ℕ → Owner) (central' : ℕ → CentralRecord) (terminal' : End → Terminal) (i : ℕ)
    (at : Side → Key) : Type 0 where
  pub was : (q : Key) (x : Router) → router_at v q ≡ Some x → (router_at w q ≡ Some x) ⊎ (IsNew i at q x × (is_linked (owner' i) ≡ true))
  pub old : (q : Key) → q.serial < (node_at w q.node).next_router → router_at v q ≡ router_at w q
  pub count : v.count ≡ w.count
  pub node : (n : ℕ) → (node_at v n).number ≡ (node_at w n).number
  pub nodes : (n : ℕ) → (node_at v n).count ≡ (node_at w n).count
  pub next_peripheral : (n : ℕ) → (node_at v n).next_peripheral ≡ (node_at w n).next_peripheral
  pub next_router : (n : ℕ) → (node_at w n).next_router ≤ (node_at v n).next_router
  pub strays : (n : ℕ) → (node_at v n).strays ≡ (node_at w n).strays
  pub pending : (n : ℕ) → (node_at v n).pending ≡ (node_at w n).pending
  pub hands : HasSameHands w v
  pub flows : (from to : ℕ) → flow v from to ≡ flow w from to
  pub claimed : v.claimed ≤ v.size
  pub unclaimed : (j : ℕ) → is_unclaimed (owner' j) ≡ nat_le v.claimed j
  pub owner : (j : ℕ) → j ≢ i → owner' j ≡ g.owner j
  pub central : (j : ℕ) → j ≢ i → central' j ≡ g.central j
  pub word : (j : ℕ) → j ≢ i → word_at v j ≡ word_at w j
  pub free : is_linked (g.owner i) ≡ false
  pub no_spare : (k : Key) → g.owner i ≢ Spare k
  pub no_fresh : (o : ℕ) → g.owner i ≢ Fresh o
  pub not_spare : (k : Key) → owner' i ≢ Spare k
  pub not_fresh : (o : ℕ) → owner' i ≢ Fresh o
  pub opening : (n j : ℕ) → (node_at v n).opening ≡ Some j → owner' j ≡ Opening n
  pub opening_back : (n j : ℕ) → owner' j ≡ Opening n → (node_at v n).opening ≡ Some j
  pub unlinked : is_linked (owner' i) ≡ false → word_at v i ≡ empty_word
  pub still : is_linked (owner' i) ≡ false → central' i ≡ g.central i
  pub linked : is_linked (owner' i) ≡ true → IsPair v (central' i) terminal' i at
  pub terminal : (e : End) → (terminal' e ≡ g.terminal e) ⊎ ((e.pair ≡ i) × (terminal' e ≡ At (at e.side)) × (is_linked (owner' i) ≡ true))
  pub terminal_pair : (e : End) → is_nowhere (terminal' (opposite_end e)) ≡ is_nowhere (terminal' e)
  pub held : (m : ℕ) (e : End) → holds e (node_at v m).held ≡ true →
      (holds e (node_at w m).held ≡ true) ⊎ (terminal_node (terminal' e) ≡ Some m)
  pub times : (e : End) → times_held v e + cond (is_nowhere (g.terminal e)) 0 1 ≡ times_held w e + cond (is_nowhere (terminal' e)) 0 1
  pub places : (f : Weight) → in_places f (record g { owner = owner'; central = central'; terminal = terminal' }) v ≡ in_places f g w

pub empty_item : (n m : ℕ) (x : Item) → item_at (queue_from n) m ≡ Some x → ⊥
empty_item n m x h = grind (arith, get-empty {X = Item} nat_cmp m, h)

empty_at : {X : Type 0} (b : Bool) → (b ≡ true → X) → b ≡ true → X
empty_at b f h = f h

pub is_nowhere-at : (k : Key) → is_nowhere (At k) ≡ false
unfolding is_nowhere
is_nowhere-at k = refl

pub has_fresh : (i : ℕ) (at : Side → Key) (s : Side) → has_link (fresh_at i at s).outward.primary (Central i) s ≡ true
unfolding has_link
has_fresh i at s = grind (arith, same_side-itself s, nat_tests)

pub fresh_central : (i : ℕ) (at : Side → Key) (s : Side) → is_on_central (fresh_at i at s) ≡ true
unfolding word_of
fresh_central i at s = refl

pub central_outward : (i : ℕ) (s : Side) → is_outward (Central i) s ≡ true
unfolding is_outward
central_outward i s = refl

pub fresh_marked : (i : ℕ) (at : Side → Key) (s : Side) → (fresh_at i at s).marked ≡ true
unfolding is_central
fresh_marked i at s = refl

pub central_one : (i j : ℕ) → Central i ≡ Central j → i ≡ j
central_one i j h = grind (arith, h)

pub about_same : (g h : Records) (o : ℕ) (f : Message → ℕ) (m : Message) → ((l : LinkId) → bypass_of h l ≡ bypass_of g l) →
    of_bypass h o f m ≡ of_bypass g o f m
unfolding of_bypass
about_same g h o f (messages.ProxyWillStop l s a) e = grind (arith, e l)
about_same g h o f other e = refl

pub expected_alike : (g h : Records) (f : ℕ → ℕ → Message → ℕ) (o : ℕ) → h.bypass o ≡ g.bypass o →
    side_node h (inner_of g o) B ≡ side_node g (inner_of g o) B → proxy_side h o ≡ proxy_side g o →
    ((z : Side) → side_node h (Central o) z ≡ side_node g (Central o) z) → control_weight h f o ≡ control_weight g f o
unfolding control_weight
expected_alike g h f o same node side old = grind (arith, same, node, side, old (across_side g o))

pub expected_none : (g : Records) (f : ℕ → ℕ → Message → ℕ) (o : ℕ) → is_begun (g.bypass o) ≡ false → control_weight g f o ≡ 0
unfolding control_weight
expected_none g f o e = grind (arith, e, nat_tests)

pub move_none : (f : Descriptor → ℕ) (t : Terminal) → is_nowhere t ≡ true → move_weight f t ≡ 0
unfolding move_weight is_nowhere
move_none f Nowhere n = refl
move_none f (At k) n = cc
move_none f Retired n = cc
move_none f (Moving d) n = cc

pub known_somewhere : (t : Terminal) (m : ℕ) → terminal_node t ≡ Some m → is_nowhere t ≡ false
unfolding terminal_node is_nowhere
known_somewhere Nowhere m e = cc
known_somewhere (At k) m e = refl
known_somewhere Retired m e = refl
known_somewhere (Moving d) m e = refl

pub inner_end : (g : Records) (p : Key) → side_end g (inner_link p) A ≡ (g.peripheral p).end
unfolding side_end
inner_end g p = refl

pub attached_fresh : (i : ℕ) (at : Side → Key) (s : Side) → is_attached (Central i) s (fresh_at i at s) ≡ true
unfolding is_attached
attached_fresh i at s = or_left (has_link (fresh_at i at s).outward.primary (Central i) s) (has_link None (Central i) s) (has_fresh i at s)

pub central_queues : (i : ℕ) (s : Side) (r : Router) → (sending_queue (Central i) s r ≡ r.out_queue) ×
    (fed_queue (Central i) s r ≡ r.in_queue)
unfolding sending_queue fed_queue
central_queues i s r = (refl, refl)

-- an empty queue reaches its first number
pub reach_empty : (n : ℕ) → reach (queue_from {T = Item} n) ≡ n
reach_empty n = reach_one (queue_from n) (reach (queue_from n)) n (is_reach (queue_from n)) (record {
  from = omega arith;
  absent = get-empty {X = Item} nat_cmp n;
  filled = λ m a c. absurd (omega (arith, a, c));
})

pub terminal_node-at : (q : Key) → terminal_node (At q) ≡ Some q.node
unfolding terminal_node
terminal_node-at q = refl
