-- Where code comes with a lone parcel: to the router across, or to the hand of that router's node. Code has the world in another form.
use Rattle.std.specs.Prelude.{◌≡◌, ◌<◌, ℕ, true, false, cond, nat_eq, None, is_some, refl}
use Rattle.std.proofs.Common.{arith, ap, sym, subst, subst₂, ◌∙◌, inl, inr}
use Rattle.std.proofs.lemmas.Bool.Decides.{nat_tests}
use Rattle.ipcz_base.specs.declared.side.Side.{Side}
use Rattle.ipcz_base.proofs.Indexed.{place_at-put_place}
use Rattle.ipcz_router.specs.declared.act.RouterAct.TheVariants as router_acts
use Rattle.ipcz_node.specs.declared.act.Act.TheVariants as acts
use Rattle.ipcz_node.specs.Lone.{TakesItem}
use Rattle.ipcz_node.proofs.LoneNodes.{stands}
use Rattle.ipcz_world.proofs.Vocabulary.{Item, LinkEnd, Message, Node, Router, World, bare_node, commit, node_at, opposite, place_at, put_place}
use Rattle.ipcz_world.proofs.Vocabulary.{router_in, set_mail, set_node, with_router, Plain, pop_out, rest, IsLone, with_hand, next_node, IsRegular, Walk}
use Rattle.ipcz_world.proofs.Vocabulary.{is_idle, next_at}
use Rattle.ipcz_world.specs.FastPath.{HasCome, IsCarried, lone_message}
use Rattle.ipcz_world.specs.Visiting.{AreIdle, IsPlace}
use Rattle.ipcz_world.proofs.acts.Updating.{node-here}
use Rattle.ipcz_world.proofs.code.FastPath as over
use Rattle.ipcz_world.proofs.code.FastPathWithin as within
use Rattle.ipcz_world.proofs.code.LoneFinds.{in_hand}
use Rattle.ipcz_world.proofs.code.LoneWorlds.{as_sender, quiet_is, sends-last}
use Rattle.ipcz_world.proofs.code.Passing.{HasSent}
use Rattle.ipcz_world.proofs.code.Visiting.{OnWay, on_way-start, walked}
use Rattle.ipcz_world.proofs.code.Writes.{kept-there}

-- the node that was written, as it is found behind the write
written-is : (w : World) (n : ℕ) (x : Node) {old : Node} → old ≡ place_at (bare_node 0 0) (put_place (bare_node 0 0) w.nodes n x) n → old ≡ x
written-is w n x is =
    let itself : nat_eq n n ≡ true = grind (arith, nat_tests) in
    is ∙ place_at-put_place (bare_node 0 0) w.nodes n x n ∙ ap (λ c. cond c x (place_at (bare_node 0 0) w.nodes n)) itself

-- another node, as it is found behind that write
other-is : (w : World) (n m : ℕ) (x : Node) {old : Node} → (n ≡ m → ⊥) →
    old ≡ place_at (bare_node 0 0) (put_place (bare_node 0 0) w.nodes n x) m → old ≡ node_at w m
unfolding node_at
other-is w n m x apart is =
    let other : nat_eq m n ≡ false = grind (arith, apart, nat_tests) in
    is ∙ place_at-put_place (bare_node 0 0) w.nodes n x m ∙ ap (λ c. cond c x (place_at (bare_node 0 0) w.nodes m)) other

-- the parcel has come to the router across, and no node has an act
pub record Arrived (w u : World) (next : ℕ) : Type 0 where
  pub walk : Walk w u 6 next
  pub place : IsPlace u next
  pub idle : AreIdle u 0 u.count
  pub carried : IsCarried w u 6

-- so it has once six acts have led there
arrived : {w u : World} {n serial next : ℕ} {link : LinkEnd} → IsLone w n serial link → OnWay w 6 u next →
    ((k : ℕ) → k < u.count → is_idle (next_at u k) ≡ true) → HasCome w u n serial link → Arrived w u next
arrived {w} {u} {n} {serial} {next} {link} lone on idle came = record {
  walk = walked w u 6 next on;
  place = on.place;
  idle = λ k _ l. idle k l;
  carried = record { node = n; serial = serial; link = link; lone = lone; came = inl (refl, came) };
}

-- or it was left in the hand of that router's node
pub left-carried : {w u : World} {acts n serial : ℕ} {link : LinkEnd} → IsLone w n serial link → (v : World) (m : Message) →
    u ≡ with_hand v n link.other m → IsCarried w u acts
left-carried {n = n} {serial} {link} lone v m held =
    let hand = ap (λ (w : World). (node_at w link.other).hand) held ∙ in_hand v n link.other m in
    record { node = n; serial = serial; link = link; lone = lone; came = inr hand }

module _ {v w : World} (view : v ≡ w) {n serial : ℕ} {link : LinkEnd} (regular : IsRegular w) (lone : IsLone w n serial link) where
  abbrev r0 : Router
  r0 = lone.sends.sender.router

  -- what is taken is what was sent
  takes-sent : {change : Router → Router} {x old there y : Node} {side : Side} {number : ℕ} {item : Item} →
      HasSent change (as_sender lone).sends x number item → old ≡ there → side ≡ opposite link.side → TakesItem old link.link side number item y →
      TakesItem there link.link (opposite link.side) r0.out_queue.current (sends-last lone).item y
  takes-sent {y = y} sent there side_is takes =
      subst (λ (A : Type 0). A) (λ j. TakesItem (there j) link.link (side_is j) (sent.number_is j) (sent.item_is j) y) takes

  -- the sender's router has sent its item to another node, and rests
  module _ (apart : n ≡ link.other → ⊥) (x : Node) {old : Node}
      (found : old ≡ place_at (bare_node 0 0) (put_place (bare_node 0 0) v.nodes n x) link.other) where
    there : old ≡ node_at w link.other
    there = other-is v n link.other x apart found ∙ ap (λ (u : World). node_at u link.other) view

    -- if the taker is as it was, its hand is free
    pub free-over : {y : Node} → y ≡ old → (node_at (set_node (set_node v n x) link.other y) link.other).hand ≡ None
    free-over {y} kept = ap (λ (z : Node). z.hand) (node-here (set_node v n x) link.other y ∙ kept ∙ there)
        ∙ (quiet_is (node_at w link.other) (lone.others link.other lone.there (λ e. apart (sym e)))).hand

    module _ {number : ℕ} {item : Item} (sent : HasSent (λ r. rest (pop_out r)) (as_sender lone).sends x number item) where
      -- the parcel arrives once the taker has taken it
      pub arrived-over : {y : Node} {side : Side} {next : ℕ} → side ≡ opposite link.side → TakesItem old link.link side number item y →
          next ≡ next_node v link.other → Arrived w (set_node (set_node v n x) link.other y) next
      unfolding set_node
      arrived-over {y} side_is taken is =
          let takes = takes-sent sent there side_is taken in
          let rested = with_router (node_at w n) serial (rest (pop_out r0)) in
          let end : set_node (set_node v n x) link.other y ≡ set_node (set_node w n rested) link.other y =
          λ j. set_node (set_node (view j) n (sent.behind j)) link.other y in
          subst₂ (Arrived w) (sym end) (sym (is ∙ ap (λ (u : World). next_node u link.other) view)) (arrived lone
          (over.carried w n serial link regular lone apart sent.low y takes (on_way-start w))
          (over.idle-behind w n serial link regular lone apart sent.low y takes)
          (over.came w n serial link regular lone apart sent.low y takes rested))

      -- else four acts lead to its message in the taker's hand
      pub left-over : {y : Node} {left : Item} {u : World} {next : ℕ} → y ≡ old → left ≡ item →
          u ≡ with_hand (set_node (set_node v n x) link.other y) n link.other (lone_message link number left) → next ≡ next_node u n → Walk w u 4 next
      unfolding set_node set_mail
      left-over {y} kept same held is =
          let world = held ∙ (λ j. with_hand (set_node (set_node (view j) n x) link.other y) n link.other
          (lone_message link (sent.number_is j) ((same ∙ sent.item_is) j)))
          ∙ over.left w n serial link regular lone apart sent.low x y sent.behind (kept ∙ there) in
          subst₂ (λ u k. Walk w u 4 k) (sym world) (sym (is ∙ ap (λ (u : World). next_node u n) world))
          (walked w _ 4 _ (over.sent w n serial link regular lone apart sent.low (on_way-start w)))

  -- or to another router of its own node, and doesn't rest yet
  module _ (same : n ≡ link.other) {x : Node} {number : ℕ} {item : Item} (sent : HasSent pop_out (as_sender lone).sends x number item) {old : Node}
      (found : old ≡ place_at (bare_node 0 0) (put_place (bare_node 0 0) v.nodes n x) n) where
    behind : old ≡ with_router (node_at w n) serial (pop_out r0)
    behind = written-is v n x found ∙ sent.behind

    module _ {y : Node} {side : Side} (side_is : side ≡ opposite link.side) (taken : TakesItem old link.link side number item y) {last : Node}
        (seen : last ≡ place_at (bare_node 0 0) (put_place (bare_node 0 0) (set_node v n x).nodes n y) n) where
      -- the sender's router is still there once the taker's has taken the parcel
      pub sender-kept : is_some (router_in last serial) ≡ true
      sender-kept =
          let stood = ap (λ z. router_in z serial) behind ∙ stands (node_at w n) serial (pop_out r0) in
          ap (λ z. is_some (router_in z serial)) (written-is (set_node v n x) n y seen ∙ taken.changed)
          ∙ kept-there old.routers taken.serial serial taken.after (pop_out r0) stood

      -- and the parcel arrives once the sender's router rests
      pub arrived-within : {z : Node} {next : ℕ} → z ≡ commit last (acts.Router serial router_acts.Rest) Plain → next ≡ next_node v n →
          Arrived w (set_node (set_node (set_node v n x) n y) n z) next
      unfolding set_node
      arrived-within {z} rested is =
          let takes = takes-sent sent behind side_is taken in
          let ends = rested ∙ ap (λ k. commit k (acts.Router serial router_acts.Rest) Plain) (written-is (set_node v n x) n y seen) in
          subst₂ (Arrived w) (sym (ap (λ (u : World). set_node (set_node (set_node u n x) n y) n z) view))
          (sym (is ∙ ap (λ (u : World). next_node u n) view)) (arrived lone
          (within.carried w n serial link regular lone same sent.low y takes x z ends (on_way-start w))
          (within.idle-behind w n serial link regular lone same sent.low y takes x z ends)
          (within.came w n serial link regular lone same sent.low y takes x z ends))

    -- if the node is as it was, its hand is free
    pub free-within : {y : Node} → y ≡ old → (node_at (set_node (set_node v n x) n y) link.other).hand ≡ None
    free-within {y} kept = ap (λ k. (node_at (set_node (set_node v n x) n y) k).hand) (sym same)
        ∙ ap (λ (z : Node). z.hand) (node-here (set_node v n x) n y ∙ kept ∙ behind) ∙ lone.sends.hand

    -- and three acts lead to the message in it
    pub left-within : {y : Node} {left : Item} {u : World} {next : ℕ} → y ≡ old → left ≡ item →
        u ≡ with_hand (set_node (set_node v n x) n y) n link.other (lone_message link number left) → next ≡ next_node u n → Walk w u 3 next
    unfolding set_node set_mail
    left-within {y} kept same_item held is =
        let world = held ∙ (λ j. with_hand (set_node (set_node (view j) n x) n y) n (sym same j)
        (lone_message link (sent.number_is j) ((same_item ∙ sent.item_is) j)))
        ∙ within.left w n serial link regular lone same sent.low x y (kept ∙ behind) in
        subst₂ (λ u k. Walk w u 3 k) (sym world) (sym (is ∙ ap (λ (u : World). next_node u n) world))
        (walked w _ 3 _ (within.sent w n serial link regular lone same sent.low (on_way-start w)))
