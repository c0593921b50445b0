-- A world with two nodes and the mailbox from one to the other changed: what is read of it, and which acts its nodes have.
use Rattle.std.specs.Prelude.{◌≡◌, ◌≤◌, ◌<◌, ℕ, zero, suc, ◌+◌, ◌*◌, Bool, true, false, cond, not, ◌&&◌, nat_eq}
use Rattle.std.specs.Prelude.{Option, Some, None, if◌then◌else◌, is_none, List, [], ◌∷◌, length, refl}
use Rattle.std.proofs.Common.{arith, ap, sym, ◌∙◌}
use Rattle.std.proofs.lemmas.Bool.{and_parts}
use Rattle.std.proofs.lemmas.Bool.Decides.{nat_tests}
use Rattle.ipcz_world.proofs.Vocabulary.{Node, World, bare_node, Empty, mail_at, node_at, set_mail, set_node, way, place_at, put_place, LinkEnd}
use Rattle.ipcz_world.proofs.Vocabulary.{Router, item_passes, SendsNext, node_limit, IsLone, flagged_router, are_empty, close_turn, first_number}
use Rattle.ipcz_world.proofs.Vocabulary.{has_mail_for, is_quiet, router_turn, Mail, HasLengths, is_clear, is_full, is_idle, next_at, seen_at}
use Rattle.std.specs.FinMap.{len}
use Rattle.ipcz_base.specs.Items.{ends_in}
use Rattle.ipcz_seq.specs.Queue.{current_item}
use Rattle.ipcz_router.specs.Lone.{is_settled, last_link, next_link}
use Rattle.ipcz_router.proofs.LoneRouters.{last_told, next_told, SendsFirst, SendsLast}
use Rattle.ipcz_node.specs.Lone.{SendsOnly}
use Rattle.ipcz_world.specs.FastPath.{IsLoneSender}
use Rattle.ipcz_node.specs.Acts.{first_destination, first_sender, next, node_turn}
use Rattle.ipcz_node.specs.declared.act.Act.TheVariants as acts
use Rattle.ipcz_world.proofs.OwnTurns.{idle_own}
use Rattle.ipcz_world.proofs.acts.Updating.{put-twice}
use Rattle.ipcz_world.proofs.code.SeenMail.{no_destination, no_sender_to, only_found, sees_empty, sees_full}
use Rattle.ipcz_world.proofs.code.Slots.{put-same}
use Rattle.ipcz_world.proofs.frames.Frames.{mail-set_mail, node-set_mail, node-set_node}

-- writes at two places go in either order
pub put-apart : {X : Type 0} (d : X) (xs : List X) (i j : ℕ) (y z : X) → (i ≡ j → ⊥) →
    put_place d (put_place d xs i y) j z ≡ put_place d (put_place d xs j z) i y
unfolding put_place
put-apart d [] zero zero y z ne = absurd (ne refl)
put-apart d [] zero (suc j) y z ne = refl
put-apart d [] (suc i) zero y z ne = refl
put-apart d [] (suc i) (suc j) y z ne = ap (λ ys. d ∷ ys) (put-apart d [] i j y z (λ e. ne (ap suc e)))
put-apart d (x ∷ xs) zero zero y z ne = absurd (ne refl)
put-apart d (x ∷ xs) zero (suc j) y z ne = refl
put-apart d (x ∷ xs) (suc i) zero y z ne = refl
put-apart d (x ∷ xs) (suc i) (suc j) y z ne = ap (λ ys. x ∷ ys) (put-apart d xs i j y z (λ e. ne (ap suc e)))

-- a router that sends its last item sends it next, and so does its node
pub last-next : (r : Router) (link : LinkEnd) → last_link r ≡ Some link → next_link r ≡ Some link
last-next r link e =
    go (nat_eq (len r.out_queue.items) 1) (is_settled r && item_passes (λ item. nat_eq (length (ends_in item)) 0) (current_item r.out_queue)) e
  where
    go : (a b : Bool) → (if a && b then r.outward.primary else None) ≡ Some link → (if b then r.outward.primary else None) ≡ Some link
    go true b e = e
    go false b e = cc

abbrev pub as_next : {x : Node} {serial : ℕ} {link : LinkEnd} → SendsOnly x serial link → SendsNext x serial link
as_next is = record {
  outboxes = is.outboxes;
  each = is.each;
  pending = is.pending;
  hand = is.hand;
  sender = record {
    router = is.sender.router;
    here = is.sender.here;
    flagged = is.sender.flagged;
    others = λ s r at up. let it = is.sender.others s r at up in omega (arith, it);
    sends = last-next is.sender.router _ is.sender.sends;
  };
}

abbrev pub as_sender : {w : World} {n serial : ℕ} {link : LinkEnd} → IsLone w n serial link → IsLoneSender w n serial link
as_sender lone = record {
  mail = lone.mail;
  here = lone.here;
  there = lone.there;
  others = lone.others;
  box = lone.box;
  sends = as_next lone.sends;
}

-- what the sender's router sends
abbrev pub sends-first : {w : World} {n serial : ℕ} {link : LinkEnd} (lone : IsLone w n serial link) → SendsFirst lone.sends.sender.router link
sends-first lone = next_told lone.sends.sender.router _ (as_sender lone).sends.sender.sends

abbrev pub sends-last : {w : World} {n serial : ℕ} {link : LinkEnd} (lone : IsLone w n serial link) → SendsLast lone.sends.sender.router link
sends-last lone = record {
  item = (sends-first lone).item;
  current = (sends-first lone).current;
  alone = (sends-first lone).alone;
  way = (sends-first lone).way;
  still = (last_told lone.sends.sender.router _ lone.sends.sender.sends).still;
}

-- the world with these two nodes and this mailbox
abbrev pub pair : World → ℕ → ℕ → Node → Node → Mail → World
pair w n m x y b = set_mail (set_node (set_node w n x) m y) (way w n m) b

-- what a quiet node is
pub record Quiet (x : Node) : Type 0 where
  pub boxes : are_empty x.outboxes ≡ true
  pub hand : x.hand ≡ None
  pub pending : x.pending ≡ []
  pub own : close_turn x.pending (router_turn (flagged_router x)) ≡ acts.Idle
  pub rests : flagged_router x ≡ None

none_in : {X : Type 0} (xs : List X) → nat_eq (length xs) 0 ≡ true → xs ≡ []
none_in [] h = refl
none_in (x ∷ xs) h = absurd (grind (arith, h, nat_tests))

none_is : {X : Type 0} (o : Option X) → is_none o ≡ true → o ≡ None
none_is None h = refl
none_is (Some x) h = cc

pub quiet_is : (x : Node) → is_quiet x ≡ true → Quiet x
unfolding is_quiet
quiet_is x h =
    let a = and_parts (are_empty x.outboxes) (nat_eq (length x.pending) 0 && (is_none x.hand && is_none (flagged_router x))) h in
    let b = and_parts (nat_eq (length x.pending) 0) (is_none x.hand && is_none (flagged_router x)) a.1 in
    let c = and_parts (is_none x.hand) (is_none (flagged_router x)) b.1 in
    record {
      boxes = a.0;
      hand = none_is x.hand c.0;
      pending = none_in x.pending b.0;
      own = idle_own x h;
      rests = none_is (flagged_router x) c.1;
    }

-- the act of a node with an empty hand that sees no full mailbox and has no mail: an act of its own
pub own_act : (v : World) (k : ℕ) → v.count ≤ node_limit → (node_at v k).count ≡ v.count →
    ((i : ℕ) → i < v.count → is_full (mail_at v (way v i k)) ≡ false) → (node_at v k).hand ≡ None →
    are_empty (node_at v k).outboxes ≡ true →
    next_at v k ≡ close_turn (node_at v k).pending (router_turn (flagged_router (node_at v k)))
unfolding next_at next node_turn
own_act v k few counted full hand boxes =
    let sender : first_sender (node_at v k) (seen_at v k) ≡ None =
    ap (first_number (λ i. place_at false (seen_at v k).full i) 0) counted ∙ no_sender_to v k few full in
    let destination : first_destination (node_at v k) (seen_at v k) ≡ None =
    ap (first_number (λ i. has_mail_for (node_at v k) i && place_at false (seen_at v k).empty i) 0) counted
    ∙ no_destination v k (ap not boxes) in
    rw (hand, sender, destination) refl

-- a quiet node that sees no full mailbox is idle
pub quiet_idle : (v : World) (k : ℕ) → v.count ≤ node_limit → (node_at v k).count ≡ v.count →
    ((i : ℕ) → i < v.count → is_full (mail_at v (way v i k)) ≡ false) → Quiet (node_at v k) → is_idle (next_at v k) ≡ true
unfolding is_idle
quiet_idle v k few counted full q = ap is_idle (own_act v k few counted full q.hand q.boxes ∙ q.own)

-- a message in hand comes first
pub hand_act : (v : World) (k from : ℕ) → (node_at v k).hand ≡ Some from → next_at v k ≡ acts.Hand from
unfolding next_at next node_turn
hand_act v k from hand = rw hand refl

-- then a full mailbox, if there is only one
pub look_act : (v : World) (k from : ℕ) → v.count ≤ node_limit → (node_at v k).count ≡ v.count → from < v.count →
    is_full (mail_at v (way v from k)) ≡ true →
    ((i : ℕ) → i < v.count → (i ≡ from → ⊥) → is_full (mail_at v (way v i k)) ≡ false) → (node_at v k).hand ≡ None →
    next_at v k ≡ acts.Look from
unfolding next_at next node_turn
look_act v k from few counted l full others hand =
    let sender : first_sender (node_at v k) (seen_at v k) ≡ Some from =
    ap (first_number (λ i. place_at false (seen_at v k).full i) 0) counted
    ∙ only_found (λ i. place_at false (seen_at v k).full i) 0 v.count from (omega arith) (omega (arith, l)) (sees_full v k from l few ∙ full)
    (λ i less. sees_full v k i (omega (arith, less, l)) few ∙ others i (omega (arith, less, l)) (λ e. omega (arith, e, less))) in
    rw (hand, sender) refl

-- then a post, if there is mail for only one node
pub post_act : (v : World) (k to : ℕ) → v.count ≤ node_limit → (node_at v k).count ≡ v.count → to < v.count →
    ((i : ℕ) → i < v.count → is_full (mail_at v (way v i k)) ≡ false) → (node_at v k).hand ≡ None →
    has_mail_for (node_at v k) to ≡ true → is_clear (mail_at v (way v k to)) ≡ true →
    ((i : ℕ) → (i ≡ to → ⊥) → has_mail_for (node_at v k) i ≡ false) → next_at v k ≡ acts.Post to
unfolding next_at next node_turn
post_act v k to few counted l full hand mail clear others =
    let test : ℕ → Bool = λ i. has_mail_for (node_at v k) i && place_at false (seen_at v k).empty i in
    let sender : first_sender (node_at v k) (seen_at v k) ≡ None =
    ap (first_number (λ i. place_at false (seen_at v k).full i) 0) counted ∙ no_sender_to v k few full in
    let destination : first_destination (node_at v k) (seen_at v k) ≡ Some to =
    ap (first_number test 0) counted
    ∙ only_found test 0 v.count to (omega arith) (omega (arith, l)) (rw (mail, sees_empty v k to l few) clear)
    (λ i less. ap (λ b. b && place_at false (seen_at v k).empty i) (others i (λ e. omega (arith, e, less)))) in
    rw (hand, sender, destination) refl

number-low : (c a b s t : ℕ) → s < c → a < b → (a * c + s) < b * c + t
number-low c a b s t l less = grind (arith, l, less)

pub way-apart : (c i k n m : ℕ) → k < c → m < c → (k ≡ m → ⊥) → nat_eq (i * c + k) (n * c + m) ≡ false
way-apart c i k n m lk lm ne = grind (arith, nat_tests, ne, number-low c i n k m lk, number-low c n i m k lm)

pub way-from : (c i n m : ℕ) → m < c → (i ≡ n → ⊥) → nat_eq (i * c + m) (n * c + m) ≡ false
way-from c i n m lm ne = grind (arith, nat_tests, ne, number-low c i n m m lm, number-low c n i m m lm)

-- the mailbox between two nodes is there
pub way-within : (w : World) (n m : ℕ) → n < w.count → m < w.count → HasLengths w → way w n m < length w.mail
way-within w n m ln lm has = let l = number-low w.count n w.count m 0 lm ln in omega (arith, l, has.mail)

module _ (w : World) (n m : ℕ) (apart : n ≡ m → ⊥) (ln : n < w.count) (lm : m < w.count) (has : HasLengths w) where
  module _ (x y : Node) (b : Mail) where
    abbrev v : World
    v = pair w n m x y b

    pub counts : v.count ≡ w.count
    unfolding set_node set_mail
    counts = refl

    pub node-sender : node_at v n ≡ x
    node-sender =
        let other : nat_eq n m ≡ false = grind (arith, apart, nat_tests) in
        let same : nat_eq n n ≡ true = grind (arith, nat_tests) in
        node-set_mail (set_node (set_node w n x) m y) (way w n m) b n ∙ node-set_node (set_node w n x) m y n
        ∙ ap (λ c. cond c y (node_at (set_node w n x) n)) other ∙ node-set_node w n x n ∙ ap (λ c. cond c x (node_at w n)) same

    pub node-taker : node_at v m ≡ y
    node-taker =
        let same : nat_eq m m ≡ true = grind (arith, nat_tests) in
        node-set_mail (set_node (set_node w n x) m y) (way w n m) b m ∙ node-set_node (set_node w n x) m y m
        ∙ ap (λ c. cond c y (node_at (set_node w n x) m)) same

    pub node-other : (k : ℕ) → (k ≡ n → ⊥) → (k ≡ m → ⊥) → node_at v k ≡ node_at w k
    node-other k kn km =
        let first : nat_eq k n ≡ false = grind (arith, kn, nat_tests) in
        let second : nat_eq k m ≡ false = grind (arith, km, nat_tests) in
        node-set_mail (set_node (set_node w n x) m y) (way w n m) b k ∙ node-set_node (set_node w n x) m y k
        ∙ ap (λ c. cond c y (node_at (set_node w n x) k)) second ∙ node-set_node w n x k ∙ ap (λ c. cond c x (node_at w k)) first

    pub box-here : mail_at v (way v n m) ≡ b
    unfolding set_node set_mail mail_at
    box-here =
        let same : nat_eq (way w n m) (way w n m) ≡ true = grind (arith, nat_tests) in
        mail-set_mail (set_node (set_node w n x) m y) (way w n m) b (way w n m) ∙ ap (λ c. cond c b (mail_at w (way w n m))) same

    box-other : (k : ℕ) → nat_eq k (way w n m) ≡ false → mail_at v k ≡ mail_at w k
    unfolding set_node mail_at
    box-other k ne = mail-set_mail (set_node (set_node w n x) m y) (way w n m) b k ∙ ap (λ c. cond c b (mail_at w k)) ne

    module _ (none : (k : ℕ) → is_full (mail_at w k) ≡ false) where
      -- no other mailbox is full than that one
      pub none-elsewhere : (k i : ℕ) → k < w.count → (k ≡ m → ⊥) → is_full (mail_at v (way v i k)) ≡ false
      unfolding set_node set_mail
      none-elsewhere k i l ne = ap is_full (box-other (way w i k) (way-apart w.count i k n m l lm ne)) ∙ none (way w i k)

      pub none-from : (i : ℕ) → (i ≡ n → ⊥) → is_full (mail_at v (way v i m)) ≡ false
      unfolding set_node set_mail
      none-from i ne = ap is_full (box-other (way w i m) (way-from w.count i n m lm ne)) ∙ none (way w i m)

      pub none-to : is_full b ≡ false → (i : ℕ) → is_full (mail_at v (way v i m)) ≡ false
      none-to clear i = go (nat_eq i n) refl
        where
          go : (c : Bool) → nat_eq i n ≡ c → is_full (mail_at v (way v i m)) ≡ false
          go true e = let same : i ≡ n = grind (arith, e, nat_tests) in
              ap (λ k. is_full (mail_at v (way v k m))) same ∙ ap is_full box-here ∙ clear
          go false e = none-from i (λ same. grind (arith, e, same, nat_tests))

  -- one of the three is changed again
  pub write-sender : (x z y : Node) (b : Mail) → set_node (pair w n m x y b) n z ≡ pair w n m z y b
  unfolding set_node set_mail
  write-sender x z y b = λ j. record (pair w n m z y b) {
    nodes = (put-apart (bare_node 0 0) (put_place (bare_node 0 0) w.nodes n x) m n y z (λ e. apart (sym e))
        ∙ ap (λ ns. put_place (bare_node 0 0) ns m y) (put-twice (bare_node 0 0) w.nodes n x z)) j;
  }

  pub write-taker : (x y z : Node) (b : Mail) → set_node (pair w n m x y b) m z ≡ pair w n m x z b
  unfolding set_node set_mail
  write-taker x y z b = λ j. record (pair w n m x z b) {
    nodes = put-twice (bare_node 0 0) (put_place (bare_node 0 0) w.nodes n x) m y z j;
  }

  pub write-box : (x y : Node) (b c : Mail) → set_mail (pair w n m x y b) (way (pair w n m x y b) n m) c ≡ pair w n m x y c
  unfolding set_node set_mail
  write-box x y b c = λ j. record (pair w n m x y c) { mail = put-twice Empty w.mail (way w n m) b c j }

  -- if the taker is as it was and the mailbox too, only the sender is another; and if the sender is as it was, it is the world itself
  pub pair-box : (x y : Node) (b : Mail) → mail_at w (way w n m) ≡ b → pair w n m x y b ≡ set_node (set_node w n x) m y
  unfolding set_node set_mail mail_at
  pair-box x y b is = λ j. record (set_node (set_node w n x) m y) {
    mail = (ap (put_place Empty w.mail (way w n m)) (sym is) ∙ put-same Empty w.mail (way w n m) (way-within w n m ln lm has)) j;
  }

  both-same : set_node (set_node w n (node_at w n)) m (node_at w m) ≡ w
  unfolding set_node node_at
  both-same = λ j. record w {
    nodes = (ap (λ ns. put_place (bare_node 0 0) ns m (place_at (bare_node 0 0) w.nodes m))
        (put-same (bare_node 0 0) w.nodes n (omega (arith, ln, has.nodes)))
        ∙ put-same (bare_node 0 0) w.nodes m (omega (arith, lm, has.nodes))) j;
  }

  pub pair-start : (b : Mail) → mail_at w (way w n m) ≡ b → pair w n m (node_at w n) (node_at w m) b ≡ w
  pair-start b is = pair-box (node_at w n) (node_at w m) b is ∙ both-same
