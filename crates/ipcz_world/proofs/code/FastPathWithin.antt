-- A lone parcel within one node takes its way in six acts, too: a send out, a post, a look, a hand, and then the two routers rest, that of
-- the lower serial first.
use Rattle.std.specs.Prelude.{◌≡◌, ◌≢◌, ◌⊎◌, ◌≤◌, ◌<◌, ℕ, ◌+◌, Bool, true, false, nat_eq, nat_lt, Some, None, refl}
use Rattle.std.proofs.Common.{arith, ap, sym, subst, ◌∙◌, inl, inr, true≢false}
use Rattle.std.proofs.lemmas.Bool.Decides.{nat_tests}
use Rattle.std.specs.FinMap.{get, insert}
use Rattle.ipcz_world.proofs.Vocabulary.{Node, Router, World, Message, Empty, commit, opposite, router_in, with_router, node_at, set_mail, set_node}
use Rattle.ipcz_world.proofs.Vocabulary.{way, LinkEnd, no_number, Plain, pop_out, rest, flagged_router, act_lacks_serials, are_empty, close_turn}
use Rattle.ipcz_world.proofs.Vocabulary.{router_turn, node_limit, Mail, IsLone, with_hand, next_node, IsRegular, is_full, is_idle, next_at}
use Rattle.ipcz_world.proofs.Vocabulary.{turn_lacks_serials, SendsNext, IsPassing}
use Rattle.ipcz_router.specs.declared.act.RouterAct.TheVariants as router_acts
use Rattle.ipcz_router.specs.Calls.{accept_from_outward}
use Rattle.ipcz_router.specs.ActTable.{next_act}
use Rattle.ipcz_router.proofs.LoneRouters.{still_rests}
use Rattle.ipcz_node.specs.declared.act.Act.TheVariants as acts
use Rattle.ipcz_node.specs.Lone.{TakesItem}
use Rattle.ipcz_node.proofs.Carrying.{rests_without}
use Rattle.ipcz_node.proofs.LoneNodes.{lowest_flagged, none_flagged, rests, stands, takes_freely, takes_it, written}
use Rattle.ipcz_node.proofs.LoneNodes.{written_elsewhere}
use Rattle.ipcz_node.proofs.Written.{insert_twice}
use Rattle.ipcz_world.specs.declared.mail.Mail.TheVariants.{Hand}
use Rattle.ipcz_world.specs.FastPath.{HasCome}
use Rattle.ipcz_world.proofs.acts.Updating.{node-here, set-twice}
use Rattle.ipcz_world.proofs.code.LoneWorlds.{sends-last, own_act}
use Rattle.ipcz_world.proofs.code.Visiting.{OnWay}
use Rattle.ipcz_world.proofs.acts.MadeNodes.{inserts_commute}
use Rattle.ipcz_world.proofs.code.GoingOn.{go-on, next-busy, router-acts}
use Rattle.ipcz_world.proofs.code.LoneWorlds.{as_sender}
use Rattle.ipcz_world.proofs.code.Passing.{passing-alone, sent_message}
use Rattle.ipcz_world.proofs.code.PassingWithin.{handed-on, idle-others, node-is, none-to, single, single-box, so-far, write-node}

module _ (w : World) (n serial : ℕ) (link : LinkEnd) (is : IsRegular w) (lone : IsLone w n serial link) (same : n ≡ link.other)
    (low : (node_at w n).next_peripheral ≤ no_number) where
  abbrev x0 : Node
  x0 = node_at w n

  abbrev r0 : Router
  r0 = lone.sends.sender.router

  abbrev r1 : Router
  r1 = pop_out r0

  abbrev sends : SendsNext x0 serial link
  sends = (as_sender lone).sends

  abbrev msg : Message
  msg = sent_message x0 serial link sends

  abbrev x2 : Node
  x2 = with_router x0 serial r1

  abbrev xh : Node
  xh = record x2 { hand = Some n }

  abbrev at : Node → Mail → World
  at x b = single w n x b

  few : w.count ≤ node_limit
  few = is.lengths.few

  counts-x : x0.count ≡ w.count
  counts-x = (is.sound n lone.here).count_is

  passing : IsPassing w n n
  passing = subst (IsPassing w n) (sym same) (passing-alone w n serial link is (as_sender lone))

  module _ (x : Node) (b : Mail) where
    -- the node acts of its own if its hand, its outboxes and its mailbox are empty
    own : is_full b ≡ false → x.count ≡ w.count → x.hand ≡ None → x.outboxes ≡ x0.outboxes →
        next_at (at x b) n ≡ close_turn x.pending (router_turn (flagged_router x))
    unfolding set_node set_mail
    own clear counted hand boxes =
        own_act (at x b) n few (ap (λ (z : Node). z.count) (node-is w n passing x b) ∙ counted) (λ i li. none-to w n passing x b clear i)
        (ap (λ (z : Node). z.hand) (node-is w n passing x b) ∙ hand) (ap (λ (z : Node). are_empty z.outboxes) (node-is w n passing x b) ∙ ap are_empty boxes ∙ lone.sends.outboxes)
        ∙ ap (λ (z : Node). close_turn z.pending (router_turn (flagged_router z))) (node-is w n passing x b)

  -- so far, whatever becomes of the parcel
  pub sent : OnWay w 0 w 0 → OnWay w 3 (at xh (Hand msg)) (next_node w n)
  sent = so-far w n passing w serial link sends (sym same) low 0 0

  -- that is where code leaves it which finds no room for it
  pub left : (x y : Node) → y ≡ x2 → with_hand (set_node (set_node w n x) n y) n n msg ≡ at xh (Hand msg)
  unfolding set_node set_mail
  left x y ey =
      (λ j. with_hand (set_node (set_node w n x) n (ey j)) n n msg)
      ∙ ap (λ (z : Node). set_mail (set_node (set_node (set_node w n x) n x2) n (record z { hand = Some n })) (way w n n) (Hand msg))
      (node-here (set_node w n x) n x2)
      ∙ ap (λ v. set_mail v (way w n n) (Hand msg)) (set-twice (set_node w n x) n x2 xh)
      ∙ ap (λ v. set_mail v (way w n n) (Hand msg)) (set-twice w n x xh)

  -- the router across takes it
  module _ (y : Node) (takes : TakesItem x2 link.link (opposite link.side) r0.out_queue.current (sends-last lone).item y) where
    abbrev t : ℕ
    t = takes.serial

    abbrev q1 : Router
    q1 = accept_from_outward takes.router r0.out_queue.current (sends-last lone).item

    abbrev x4 : Node
    x4 = with_router x2 t q1

    -- it is another router
    other : t ≢ serial
    other e =
        let both : Some takes.router ≡ Some r1 = sym takes.here ∙ ap (router_in x2) e ∙ stands x0 serial r1 in
        let it : takes.router ≡ r1 = cc in
        true≢false (sym lone.sends.sender.flagged ∙ sym (ap (λ (r : Router). r.flagged) it) ∙ takes.takes.unflagged)

    -- the message is handed
    on-4 : OnWay w 3 (at xh (Hand msg)) (next_node w n) → OnWay w 4 (at x4 Empty) (next_node w n)
    on-4 = handed-on w n passing w serial link sends (sym same) low x4
        (λ source. takes_it x2 y link.link (opposite link.side) r0.out_queue.current n (sends-last lone).item source takes
        (sends-last lone).alone lone.sends.hand)
        (λ source. takes_freely x2 y link.link (opposite link.side) r0.out_queue.current n (sends-last lone).item source takes
        (sends-last lone).alone) 3 (next_node w n)

    -- which routers are flagged then
    two-flagged : (q : ℕ) (x : Router) → get x4.routers q ≡ Some x → x.flagged ≡ true → (q ≡ serial) ⊎ (q ≡ t)
    two-flagged q x e up = elim (written x2.routers t q q1 x e) [
      | inl a ↦ inr a.0
      | inr a ↦ elim (written x0.routers serial q r1 x a.1) [
        | inl c ↦ inl c.0
        | inr c ↦ inl (lone.sends.sender.others q x c.1 up)
      ]
    ]

    sender-there : router_in x4 serial ≡ Some r1
    sender-there = written_elsewhere x2.routers t serial q1 (λ e. other (sym e)) ∙ stands x0 serial r1

    taker-there : router_in x4 t ≡ Some q1
    taker-there = stands x2 t q1

    -- one of the two rests, while none of a lower serial is flagged
    rest-of : (acts-so-far k : ℕ) (x z : Node) (r : Router) → OnWay w acts-so-far (at x Empty) (next_node w n) → x.count ≡ w.count →
        x.hand ≡ None → x.outboxes ≡ x0.outboxes → x.pending ≡ x0.pending → x.next_peripheral ≤ no_number → router_in x k ≡ Some r →
        r.flagged ≡ true → next_act r ≡ router_acts.Rest →
        ((q : ℕ) (v : Router) → get x.routers q ≡ Some v → v.flagged ≡ true → k ≤ q) → with_router x k (rest r) ≡ z →
        OnWay w (acts-so-far + 1) (at z Empty) (next_node w n)
    unfolding set_node set_mail turn_lacks_serials router_turn close_turn is_idle is_full
    rest-of acts-so-far k x z r on counted hand boxes pending links there up next least is-z =
        let u = at x Empty in
        let here = node-is w n passing x Empty in
        let first : next_at u n ≡ acts.Router k router_acts.Rest =
        own x Empty refl counted hand boxes ∙ ap (λ es. close_turn es (router_turn (flagged_router x))) (pending ∙ lone.sends.pending)
        ∙ ap router_turn (lowest_flagged x.routers k r there up least) ∙ ap (acts.Router k) next in
        go-on w u (at z Empty) acts-so-far (next_node w n) n (acts.Router k router_acts.Rest) on
        (next-busy u n n lone.here lone.here (ap is_idle first) (λ k l ne _. idle-others w n passing x Empty k l ne))
        lone.here first
        (ap (λ z. act_lacks_serials z (acts.Router k router_acts.Rest)) here ∙ rests_without x k links)
        (router-acts u n k r router_acts.Rest (ap (λ (z : Node). get z.routers k) here ∙ there) refl
        ∙ ap (λ z. set_node u n (commit z (acts.Router k router_acts.Rest) Plain)) here
        ∙ ap (set_node u n) (sym (rests x k r there) ∙ is-z)
        ∙ write-node w n passing x z Empty)

    abbrev x6 : Node
    x6 = with_router (with_router x2 t (rest q1)) serial (rest r1)

    -- both rest
    on-6 : OnWay w 4 (at x4 Empty) (next_node w n) → OnWay w 6 (at x6 Empty) (next_node w n)
    on-6 on = go (nat_lt serial t) refl
      where
        go : (c : Bool) → nat_lt serial t ≡ c → OnWay w 6 (at x6 Empty) (next_node w n)
        go true e =
            let x5 = with_router x4 serial (rest r1) in
            let five = rest-of 4 serial x4 x5 r1 on counts-x lone.sends.hand refl refl low sender-there lone.sends.sender.flagged
            (still_rests r1 (sends-last lone).still)
            (λ q v f up. elim (two-flagged q v f up) [ inl a ↦ omega (arith, a) | inr a ↦ grind (arith, a, e, nat_tests) ]) refl in
            rest-of 5 t x5 x6 q1 five counts-x lone.sends.hand refl refl low
            (written_elsewhere x4.routers serial t (rest r1) other ∙ taker-there) refl (still_rests q1 takes.takes.still)
            (λ q v f up. elim (written x4.routers serial q (rest r1) v f) [
              | inl a ↦ absurd (true≢false (sym up ∙ sym (ap (λ (r : Router). r.flagged) a.1)))
              | inr a ↦ elim (two-flagged q v a.1 up) [ inl c ↦ absurd (a.0 c) | inr c ↦ omega (arith, c) ]
            ])
            (λ j. record x2 {
              routers = (inserts_commute x4.routers serial t (rest r1) (rest q1) (λ same. other (sym same))
                  ∙ ap (λ rs. insert rs serial (rest r1)) (insert_twice x2.routers t q1 (rest q1))) j;
            })
        go false e =
            let x5 = with_router x2 t (rest q1) in
            let five = rest-of 4 t x4 x5 q1 on counts-x lone.sends.hand refl refl low taker-there refl
            (still_rests q1 takes.takes.still)
            (λ q v f up. elim (two-flagged q v f up) [ inl a ↦ grind (arith, a, e, nat_tests) | inr a ↦ omega (arith, a) ])
            (λ j. record x2 { routers = insert_twice x2.routers t q1 (rest q1) j }) in
            rest-of 5 serial x5 x6 r1 five counts-x lone.sends.hand refl refl low
            (written_elsewhere x2.routers t serial (rest q1) (λ same. other (sym same)) ∙ stands x0 serial r1) lone.sends.sender.flagged
            (still_rests r1 (sends-last lone).still)
            (λ q v f up. elim (written x2.routers t q (rest q1) v f) [
              | inl a ↦ absurd (true≢false (sym up ∙ sym (ap (λ (r : Router). r.flagged) a.1)))
              | inr a ↦ elim (written x0.routers serial q r1 v a.1) [
                | inl c ↦ omega (arith, c.0)
                | inr c ↦ let it = lone.sends.sender.others q v c.1 up in omega (arith, it)
              ]
            ])
            refl

    -- then no router is flagged
    rests-x6 : flagged_router x6 ≡ None
    rests-x6 = none_flagged (insert x2.routers t (rest q1)) serial (rest r1)
        (λ q v f up. elim (written x2.routers t q (rest q1) v f) [
          | inl a ↦ absurd (true≢false (sym up ∙ sym (ap (λ (r : Router). r.flagged) a.1)))
          | inr a ↦ elim (written x0.routers serial q r1 v a.1) [
            | inl c ↦ c.0
            | inr c ↦ lone.sends.sender.others q v c.1 up
          ]
        ]) refl

    idle-node : is_idle (next_at (at x6 Empty) n) ≡ true
    unfolding is_idle is_full router_turn close_turn
    idle-node = ap is_idle (own x6 Empty refl counts-x lone.sends.hand refl
        ∙ ap (λ es. close_turn es (router_turn (flagged_router x6))) lone.sends.pending ∙ ap router_turn rests-x6)

    idle-last : (k : ℕ) → k < w.count → is_idle (next_at (at x6 Empty) k) ≡ true
    idle-last k l = go (nat_eq k n) refl
      where
        go : (c : Bool) → nat_eq k n ≡ c → is_idle (next_at (at x6 Empty) k) ≡ true
        go true e = let it : k ≡ n = grind (arith, e, nat_tests) in ap (λ k. is_idle (next_at (at x6 Empty) k)) it ∙ idle-node
        go false e = idle-others w n passing x6 Empty k l (λ it. grind (arith, e, it, nat_tests))

    module _ (x z : Node) (is-z : z ≡ commit y (acts.Router serial router_acts.Rest) Plain) where
      z-is : z ≡ x6
      z-is =
          let y-is : y ≡ with_router x2 t (rest q1) = takes.changed ∙ ap (with_router x2 t) takes.takes.after in
          is-z ∙ ap (λ v. commit v (acts.Router serial router_acts.Rest) Plain) y-is
          ∙ sym (rests (with_router x2 t (rest q1)) serial r1
          (written_elsewhere x2.routers t serial (rest q1) (λ same. other (sym same)) ∙ stands x0 serial r1))

      ends : set_node (set_node (set_node w n x) n y) n z ≡ at x6 Empty
      ends = set_twice ∙ ap (set_node w n) z-is ∙ sym (single-box w n passing x6)
        where
          set_twice : set_node (set_node (set_node w n x) n y) n z ≡ set_node w n z
          set_twice = set-twice (set_node w n x) n y z ∙ set-twice w n x z

      -- the router across has the item
      pub came : HasCome w (set_node (set_node (set_node w n x) n y) n z) n serial link
      came = record {
        sender = r0;
        sends = lone.sends.sender.here;
        item = (sends-last lone).item;
        sent = (sends-last lone).current;
        taker = t;
        before = takes.router;
        after = takes.after;
        here = ap (λ k. router_in (node_at w k) t) (sym same) ∙ sym (written_elsewhere x0.routers serial t r1 other) ∙ takes.here;
        takes = takes.takes;
        there = ap (λ k. router_in (node_at (set_node (set_node (set_node w n x) n y) n z) k) t) (sym same)
            ∙ ap (λ q. router_in q t) (node-here (set_node (set_node w n x) n y) n z ∙ z-is)
            ∙ written_elsewhere (insert x2.routers t (rest q1)) serial t (rest r1) other ∙ stands x2 t (rest q1)
            ∙ ap Some (sym takes.takes.after);
      }

      -- all six acts, as code does them
      pub carried : OnWay w 0 w 0 → OnWay w 6 (set_node (set_node (set_node w n x) n y) n z) (next_node w n)
      carried on = subst (λ v. OnWay w 6 v (next_node w n)) (sym ends) (on-6 (on-4 (sent on)))

      -- and then no node has an act
      pub idle-behind : (k : ℕ) → k < w.count → is_idle (next_at (set_node (set_node (set_node w n x) n y) n z) k) ≡ true
      idle-behind k l = subst (λ v. is_idle (next_at v k) ≡ true) (sym ends) (idle-last k l)
