-- What a node's send of an item does to the world keeps all that holds, whether or not terminals move along.
use Rattle.ipcz_world.proofs.Vocabulary.{LinkEnd, Item, opposite, current_item, Router, output_of, is_possible, router_in, ends_in, commit, World}
use Rattle.ipcz_world.proofs.Vocabulary.{Key, node_at, router_at, after_act, can_take, Books, Records, Inv, leaves_by, way_out, way_in, pop_out}
use Rattle.ipcz_world.proofs.Vocabulary.{send_on, apply, item_output, is_rest, on_router, move_ends, moved_ends, send, send_item, commit_router}
use Rattle.ipcz_world.proofs.Vocabulary.{keep_or_drop, after_router_act, may_act, touch}
use Rattle.std.specs.Prelude.{◌≡◌, ◌≢◌, ℕ, Bool, true, false, ◌&&◌, nat_eq, if◌then◌else◌, Option, Some, None, is_some, refl, []}
use Rattle.std.proofs.Common.{arith, ◌∙◌, sym, inl}
use Rattle.std.proofs.lemmas.Bool.Decides.{nat_tests}
use Rattle.ipcz_router.specs.declared.act.RouterAct.TheVariants as acts
use Rattle.ipcz_node.specs.declared.act.Act.TheVariants.{Router as OfRouter}
use Rattle.ipcz_world.proofs.facts.RecordsAfter.{moves_records}
use Rattle.ipcz_world.proofs.frames.Opened.{opened}
use Rattle.ipcz_world.proofs.acts.SendingItems.{is_send_in, inv-send_in, is_send_out, inv-send_out}
use Rattle.ipcz_world.proofs.acts.MovingEnds.{posted_world}
use Rattle.ipcz_world.proofs.acts.SendingMoves.{before_moves}
use Rattle.ipcz_world.proofs.acts.Moved.{inv-moved}
use Rattle.ipcz_world.proofs.facts.Tests.{some_is, and_first, and_second}

-- the world after an item was sent, with the terminals that move along
abbrev pub sent_act : World → Key → Router → LinkEnd → ℕ → Item → World
sent_act w k y e number item = posted_world w k.node e.other e.link (opposite e.side) number item
    (move_ends (before_moves w k y) e.other (moved_ends (node_at w k.node) e item))

-- the records after it
abbrev pub sent_records : World → Records → Key → Router → LinkEnd → Item → Records
sent_records w g k y e item = moves_records g (before_moves w k y) e.other (moved_ends (node_at w k.node) e item)

pub acted-sent_out : (w : World) (k : Key) (r : Router) (e : LinkEnd) (item : Item) → router_at w k ≡ Some r → way_out r ≡ Some e →
    current_item r.out_queue ≡ Some item → after_act w k.node (OfRouter k.serial acts.SendOut) ≡ sent_act w k (pop_out r) e
    r.out_queue.current item
unfolding after_act after_router_act touch commit on_router commit_router keep_or_drop leaves_by apply output_of item_output send send_item router_at
acted-sent_out w k r e item here chosen at = let inside : router_in (node_at w k.node) k.serial ≡ Some r = here in
    rw (here, inside, chosen, at) refl

pub acted-sent_in : (w : World) (k : Key) (r : Router) (e : LinkEnd) (item : Item) → router_at w k ≡ Some r → way_in r ≡ Some e →
    current_item r.in_queue ≡ Some item → after_act w k.node (OfRouter k.serial acts.SendIn) ≡ sent_act w k (send_on r) e r.in_queue.current
    item
unfolding after_act after_router_act touch commit on_router commit_router keep_or_drop leaves_by apply output_of item_output send send_item router_at
acted-sent_in w k r e item here chosen at = let inside : router_in (node_at w k.node) k.serial ≡ Some r = here in
    rw (here, inside, chosen, at) refl

-- the item stays within its node, or goes to another
pub by_way : (c : Bool) (n m : ℕ) → nat_eq n m ≡ c → (P : Bool → Type 0) → (m ≡ n → P true) → (m ≢ n → P false) → P c
by_way true n m e P f h = f (grind (arith, e, nat_tests))
by_way false n m e P f h = h (λ q. grind (arith, e, q, nat_tests))

pub inv-sent_out : (w : World) (b : Books) (g : Records) (k : Key) (r : Router) (e : LinkEnd) (item : Item) → Inv w b g →
    router_at w k ≡ Some r → way_out r ≡ Some e → current_item r.out_queue ≡ Some item →
    Inv (sent_act w k (pop_out r) e r.out_queue.current item) b (sent_records w g k (pop_out r) e item)
inv-sent_out w b g k r e item law here chosen at =
    let node = law.counts.node k.node (law.counts.on_node k r here) in
    by_way (nat_eq e.other (node_at w k.node).number) e.other (node_at w k.node).number refl
    (λ c. Inv (posted_world w k.node e.other e.link (opposite e.side) r.out_queue.current item
    (move_ends (before_moves w k (pop_out r)) e.other (if c then [] else ends_in item))) b
    (moves_records g (before_moves w k (pop_out r)) e.other (if c then [] else ends_in item)))
    (λ q. inv-send_out w b g k r e item law here chosen at (inl (sym node ∙ q)))
    (λ ne. inv-moved w b g k r (pop_out r) e.link (opposite e.side) e.other r.out_queue.current item law
    (is_send_out w b g k r e item (opened w b g law) here chosen at) (λ q. ne (node ∙ q)))

pub inv-sent_in : (w : World) (b : Books) (g : Records) (k : Key) (r : Router) (e : LinkEnd) (item : Item) → Inv w b g →
    router_at w k ≡ Some r → way_in r ≡ Some e → current_item r.in_queue ≡ Some item →
    Inv (sent_act w k (send_on r) e r.in_queue.current item) b (sent_records w g k (send_on r) e item)
inv-sent_in w b g k r e item law here chosen at =
    let node = law.counts.node k.node (law.counts.on_node k r here) in
    by_way (nat_eq e.other (node_at w k.node).number) e.other (node_at w k.node).number refl
    (λ c. Inv (posted_world w k.node e.other e.link (opposite e.side) r.in_queue.current item
    (move_ends (before_moves w k (send_on r)) e.other (if c then [] else ends_in item))) b
    (moves_records g (before_moves w k (send_on r)) e.other (if c then [] else ends_in item)))
    (λ q. inv-send_in w b g k r e item law here chosen at (inl (sym node ∙ q)))
    (λ ne. inv-moved w b g k r (send_on r) e.link (opposite e.side) e.other r.in_queue.current item law
    (is_send_in w b g k r e item (opened w b g law) here chosen at) (λ q. ne (node ∙ q)))

-- a send that may be taken sends an item
pub out_chosen : (w : World) (k : Key) → can_take w k.node (OfRouter k.serial acts.SendOut) ≡ true →
    (r : Router) × (e : LinkEnd) × (item : Item) × (router_at w k ≡ Some r) × (way_out r ≡ Some e) × (current_item r.out_queue ≡ Some item)
unfolding can_take may_act is_rest is_possible
out_chosen w k can = go (router_at w k) refl can
  where
    go : (o : Option Router) → router_at w k ≡ o → may_act o acts.SendOut ≡ true →
        (r : Router) × (e : LinkEnd) × (item : Item) × (router_at w k ≡ Some r) × (way_out r ≡ Some e) ×
        (current_item r.out_queue ≡ Some item)
    go None q h = cc
    go (Some r) q h =
        let p : (is_some (current_item r.out_queue) && is_some (way_out r)) ≡ true = grind (arith, h) in
        let item = some_is (current_item r.out_queue) (and_first (is_some (current_item r.out_queue)) (is_some (way_out r)) p) in
        let e = some_is (way_out r) (and_second (is_some (current_item r.out_queue)) (is_some (way_out r)) p) in
        (r, e.0, item.0, q, e.1, item.1)

pub in_chosen : (w : World) (k : Key) → can_take w k.node (OfRouter k.serial acts.SendIn) ≡ true →
    (r : Router) × (e : LinkEnd) × (item : Item) × (router_at w k ≡ Some r) × (way_in r ≡ Some e) × (current_item r.in_queue ≡ Some item)
unfolding can_take may_act is_rest is_possible
in_chosen w k can = go (router_at w k) refl can
  where
    go : (o : Option Router) → router_at w k ≡ o → may_act o acts.SendIn ≡ true →
        (r : Router) × (e : LinkEnd) × (item : Item) × (router_at w k ≡ Some r) × (way_in r ≡ Some e) ×
        (current_item r.in_queue ≡ Some item)
    go None q h = cc
    go (Some r) q h =
        let p : (is_some (current_item r.in_queue) && is_some (way_in r)) ≡ true = grind (arith, h) in
        let item = some_is (current_item r.in_queue) (and_first (is_some (current_item r.in_queue)) (is_some (way_in r)) p) in
        let e = some_is (way_in r) (and_second (is_some (current_item r.in_queue)) (is_some (way_in r)) p) in
        (r, e.0, item.0, q, e.1, item.1)
