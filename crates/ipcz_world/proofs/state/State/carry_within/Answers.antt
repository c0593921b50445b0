use Rattle.std.proofs.Common.{◌∙◌, ap, sym, subst, refl, arith}
use Rattle.ipcz_world.proofs.code.StatesOfNodes.{world_is}
use Rattle.ipcz_world.proofs.Vocabulary.{World, ends_in, mail_at, node_at, set_mail, set_node, IsLone}
use Rattle.ipcz_world.proofs.code.Arriving.{arrived-within, free-within, left-carried, left-within, sender-kept}
use Rattle.ipcz_world.proofs.code.LoneWorlds.{as_sender, sends-last}
use Rattle.ipcz_world.proofs.code.Passing.{found-item, has-sent}
use Rattle.ipcz_world.proofs.code.Writes.{lengths-kept, nodes-kept}
use Rattle.ipcz_world.proofs.state.State.carry_within.Goals as goal

pub send_next-number-requires : goal.send_next-number-requires
unfolding node_at
send_next-number-requires c =
    found-item (as_sender c.requires.lone).sends (c.node_mut.ensures.value ∙ ap (λ (v : World). node_at v c.args.n) (world_is c.self.view_is))

pub node_mut-requires-2 : goal.node_mut-requires-2
node_mut-requires-2 c =
    let lone = c.requires.lone in
    nodes-kept (world_is c.self.view_is) c.args.n c.args.n c.send_next-number.new.self.node c.requires.regular.lengths lone.here lone.here

pub take_last-requires : goal.take_last-requires
unfolding node_at
take_last-requires c =
    let s = c.send_next-number.ensures in
    let there = c.node_mut.ensures.value ∙ ap (λ (v : World). node_at v c.args.n) (world_is c.self.view_is) in
    let sent = has-sent (as_sender c.requires.lone).sends there s.node s.number s.item s.serials in
    ap ends_in sent.item_is ∙ (sends-last c.requires.lone).alone

pub node_mut-requires-then-take_last : goal.node_mut-requires-then-take_last
unfolding set_node
node_mut-requires-then-take_last c =
    let n = c.args.n in
    let x = c.send_next-number.new.self.node in
    let here = c.requires.lone.here in
    nodes-kept (ap (λ v. set_node v n x) (world_is c.self.view_is)) n n c.take_last.new.self.node
    (lengths-kept refl n x c.requires.regular.lengths here) here here

pub rest-requires : goal.rest-requires
unfolding node_at set_node
rest-requires c =
    let s = c.send_next-number.ensures in
    let there = c.node_mut.ensures.value ∙ ap (λ (v : World). node_at v c.args.n) (world_is c.self.view_is) in
    let sent = has-sent (as_sender c.requires.lone).sends there s.node s.number s.item s.serials in
    sender-kept (world_is c.self.view_is) c.requires.regular c.requires.lone c.requires.same sent c.node_mut-2.ensures.value c.opposite-across.ensures
    (c.take_last.ensures.taken c.if-take_last.true) c.node_mut-then-take_last.ensures.value

pub returns-then-take_last : goal.returns-then-take_last
unfolding node_at set_node
returns-then-take_last c =
    let s = c.send_next-number.ensures in
    let there = c.node_mut.ensures.value ∙ ap (λ (v : World). node_at v c.args.n) (world_is c.self.view_is) in
    let sent = has-sent (as_sender c.requires.lone).sends there s.node s.number s.item s.serials in
    let taken = c.take_last.ensures.taken c.if-take_last.true in
    let done = arrived-within (world_is c.self.view_is) c.requires.regular c.requires.lone c.requires.same sent c.node_mut-2.ensures.value
    c.opposite-across.ensures taken c.node_mut-then-take_last.ensures.value c.rest.ensures.node c.next_node.ensures in
    record {
      walk = done.walk;
      place = done.place;
      within = omega arith;
      idle = λ _. done.idle;
      begun = omega arith;
      carried = done.carried;
    }

pub leave_in_hand-requires-clause-lengths : goal.leave_in_hand-requires-clause-lengths
unfolding set_node
leave_in_hand-requires-clause-lengths c =
    let lone = c.requires.lone in
    let x = c.send_next-number.new.self.node in
    lengths-kept (ap (λ v. set_node v c.args.n x) (world_is c.self.view_is)) c.args.n c.take_last.new.self.node
    (lengths-kept refl c.args.n x c.requires.regular.lengths lone.here) lone.here

pub leave_in_hand-requires-clause-hand : goal.leave_in_hand-requires-clause-hand
unfolding node_at set_node
leave_in_hand-requires-clause-hand c =
    let s = c.send_next-number.ensures in
    let there = c.node_mut.ensures.value ∙ ap (λ (v : World). node_at v c.args.n) (world_is c.self.view_is) in
    let sent = has-sent (as_sender c.requires.lone).sends there s.node s.number s.item s.serials in
    free-within (world_is c.self.view_is) c.requires.regular c.requires.lone c.requires.same sent c.node_mut-2.ensures.value
    (c.take_last.ensures.left c.if-take_last.false).1

pub leave_in_hand-requires-clause-clear : goal.leave_in_hand-requires-clause-clear
unfolding mail_at
leave_in_hand-requires-clause-clear c =
    (subst (λ w. IsLone w c.args.n c.args.serial c.args.link) (sym (world_is c.self.view_is)) c.requires.lone).box

pub next_node-requires-2 : goal.next_node-requires-2
unfolding set_node set_mail
next_node-requires-2 c =
    let seen = ap (λ (w : World). w.count) (world_is c.self.view_is) in
    let same = ap (λ (w : World). w.count) c.leave_in_hand.ensures in
    record { node = omega (arith, c.requires.lone.here, seen, same) }

pub returns-clause-walk : goal.returns-clause-walk
unfolding node_at set_node
returns-clause-walk c =
    let s = c.send_next-number.ensures in
    let there = c.node_mut.ensures.value ∙ ap (λ (v : World). node_at v c.args.n) (world_is c.self.view_is) in
    let sent = has-sent (as_sender c.requires.lone).sends there s.node s.number s.item s.serials in
    let kept = c.take_last.ensures.left c.if-take_last.false in
    left-within (world_is c.self.view_is) c.requires.regular c.requires.lone c.requires.same sent c.node_mut-2.ensures.value kept.1 kept.0
    c.leave_in_hand.ensures c.next_node-2.ensures

pub returns-clause-carried : goal.returns-clause-carried
returns-clause-carried c =
    left-carried c.requires.lone _ _ c.leave_in_hand.ensures
